-- What an item of a client's own blocks touches.
use Rattle.std.proofs.Common.{◌≡◌, ℕ, ◌+◌, ◌<◌, ◌≤◌, Bool, true, false, cond, Option, Some, None, ap, arith}
use Rattle.std.specs.Prelude.{nat_le, nat_lt}
use Rattle.std.proofs.lemmas.Bool.{and_parts, leb-true, ltb-true}
use Rattle.blk_plain.specs.declared.op.Op.TheVariants as op
use Rattle.blk_plain.specs.declared.op.Span.{Span}
use Rattle.blk_plain.specs.Plain.{is_in}
use Rattle.eng_world.specs.declared.item.Item.TheVariants.{Run, Fail}
use Rattle.raid_script.specs.Asked.{WritesAll, Other}
use Rattle.raid_script.specs.Steps.{seen_patches}
use Rattle.raid_script.specs.Drawn.{IsOwn, OwnItemsTouchTheirShare}

-- a block of a span stands between its ends
inside : (span : Span) (b : ℕ) → is_in span b ≡ true → (span.first ≤ b) × (b < span.first + span.count)
inside span b h =
    let both = and_parts (nat_le span.first b) (nat_lt b (span.first + span.count)) h in
    (leb-true span.first b both.0, ltb-true b (span.first + span.count) both.1)

pub own_items : OwnItemsTouchTheirShare
own_items wide blocks client (Run (op.Write span pattern) graph) (own, byte, plain) = record {
  op = op.Write span pattern;
  is = ap (λ (g : Option ℕ). Run (op.Write span pattern) g) plain;
  own = λ b h. let at = inside span b h in own.own b at.0 at.1;
  within = λ b h. let at = inside span b h in omega (arith, at.1, own.ends, own.within);
}
own_items wide blocks client (Run (op.Writes patches) graph) own = absurd (never (nat_le patches.used 8) own)
  where
    never : (few : Bool) → IsOwn wide blocks client (cond few (WritesAll (seen_patches patches) graph) Other) → ⊥
    never true own = own
    never false own = own
own_items wide blocks client (Run (op.Read span) graph) (own, plain) = record {
  op = op.Read span;
  is = ap (λ (g : Option ℕ). Run (op.Read span) g) plain;
  own = λ b h. let at = inside span b h in own.own b at.0 at.1;
  within = λ b h. let at = inside span b h in omega (arith, at.1, own.ends, own.within);
}
own_items wide blocks client (Run (op.Sync stripe) None) own = absurd own
own_items wide blocks client (Run (op.Sync stripe) (Some graph)) own = absurd own
own_items wide blocks client (Run (op.Rebuild stripe) graph) own = absurd own
own_items wide blocks client (Fail column) own = absurd own
