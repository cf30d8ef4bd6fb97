use Rattle.std.proofs.Common.{◌≤◌, ◌∙◌, ℕ, All, ap, sym, subst}
use Rattle.std.specs.Prelude.{IfSome, Option, nat_eq, option_map}
use Rattle.blk_plain.specs.declared.op.Op.TheVariants as op
use Rattle.blk_plain.specs.declared.op.Patches.{Patches}
use Rattle.blk_plain.specs.declared.op.Span.{Span}
use Rattle.blk_plain.specs.Plain.{AreSound, spans_of}
use Rattle.raid_script.specs.Steps.{seen_op}
use Rattle.top_bound.proofs.Patched.{asked-few, has-blocks}
use Rattle.top_join.specs.Joining.{spans_by}
use Rattle.top_join.proofs.Searching.{by-number, if-then}
use Rattle.top_join.proofs.written.patches_if.Goals as goal

pub returns-in-Some-clause-spans : goal.returns-in-Some-clause-spans
returns-in-Some-clause-spans c =
    let patches = c.args.patches.now in
    let few = asked-few c.requires.0 c.requires.1 patches c.args.named c.requires.2 in
    ap (λ (o : Option Patches). option_map spans_of o) c.then_some.ensures
    ∙ (by-number c.args.graph c.in-Some.named patches few.0 ∙ ap (λ (o : Option ℕ). spans_by c.args.graph (seen_op (op.Writes patches) o)) (sym c.in-Some.is))

pub returns-in-Some-clause-sound : goal.returns-in-Some-clause-sound
returns-in-Some-clause-sound c =
    let patches = c.args.patches.now in
    let few = asked-few c.requires.0 c.requires.1 patches c.args.named c.requires.2 in
    subst (λ (o : Option Patches). IfSome o AreSound) (sym c.then_some.ensures)
    (if-then (nat_eq c.in-Some.named c.args.graph) patches AreSound (has-blocks patches few.0 few.1).0)

pub returns-in-Some-clause-some : goal.returns-in-Some-clause-some
returns-in-Some-clause-some c =
    let patches = c.args.patches.now in
    let few = asked-few c.requires.0 c.requires.1 patches c.args.named c.requires.2 in
    subst (λ (o : Option Patches). IfSome o (λ p. All (λ (s : Span). 1 ≤ s.count) (spans_of p))) (sym c.then_some.ensures)
    (if-then (nat_eq c.in-Some.named c.args.graph) patches (λ p. All (λ (s : Span). 1 ≤ s.count) (spans_of p)) (has-blocks patches few.0 few.1).1)
