use Rattle.std.proofs.Common.{◌≡◌, ◌+◌, [], ◌∷◌, ap, arith}
use Rattle.std.specs.Prelude.{nat_le, nat_lt}
use Rattle.std.proofs.lemmas.Bool.{and_parts, leb-true, ltb-true}
use Rattle.std.proofs.lemmas.List.Elements.{All-cons, All-nil}
use Rattle.std.proofs.lemmas.List.Kept.{AllPairs-cons}
use Rattle.blk_plain.specs.declared.op.Span.{Span}
use Rattle.blk_plain.specs.declared.op.Patch.{Patch}
use Rattle.blk_plain.specs.Plain.{AreApart}
use Rattle.reach_tests.proofs.joined.refused.blocks.Goals as goal

-- block 0 isn't block 2
far : (p q : Patch) → p.span ≡ record { first = 0; count = 1 } → q.span ≡ record { first = 2; count = 1 } → AreApart p q
far p q first second n in_first in_second =
    let one = and_parts (nat_le p.span.first n) (nat_lt n (p.span.first + p.span.count)) in_first in
    let two = and_parts (nat_le q.span.first n) (nat_lt n (q.span.first + q.span.count)) in_second in
    let up = ltb-true n (p.span.first + p.span.count) one.1 in
    let low = leb-true q.span.first n two.0 in
    let a = ap (λ (s : Span). s.first) first in
    let b = ap (λ (s : Span). s.count) first in
    let c = ap (λ (s : Span). s.first) second in
    let u : ⊥ = omega (arith, up, low, a, b, c) in u

pub returns-clause-sound : goal.returns-clause-sound
returns-clause-sound c =
    let p = c.block-list.result in
    let q = c.block.result in
    record {
      some = omega arith;
      few = omega arith;
      apart = AllPairs-cons AreApart p (q ∷ []) (All-cons (AreApart p) q [] (far p q c.block-list.ensures c.block.ensures) (All-nil (AreApart p)))
          (AllPairs-cons AreApart q [] (All-nil (AreApart q)) (λ i j d l m. absurd (let u : ⊥ = omega (arith, m) in u)));
    }
