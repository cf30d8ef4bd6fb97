use Rattle.std.proofs.Common.{◌≡◌, ◌∙◌, ℕ, ◌<◌, ◌/◌, take, drop, sym, subst, arith}
use Rattle.std.proofs.lemmas.Bool.{false≢true}
use Rattle.std.proofs.lemmas.Slice.Eq.{bytes_eq-Decides}
use Rattle.raid_script.proofs.Halves.{Repeats, whole_repeats, first_repeats, half_repeats, is_shortest, is_short, is_listed, filled, is_least}
use Rattle.raid_script.proofs.repetition.shortest_string.Goals as goal
use Rattle.raid_script.proofs.repetition.shortest_string.Goals.{then-is_uniform, else-is_uniform, then-loop-length-test+else-is_doubled, else-loop-length-test}

pub loop-length-init : goal.loop-length-init
loop-length-init c =
    elim c.if-is_uniform.branch [
      | then-is_uniform w ↦ subst (λ (n : ℕ). Repeats c.args.sector.now n) (sym w.length-is) (first_repeats c.args.sector.now (c.is_uniform.ensures.0 w.if-is_uniform.true))
      | else-is_uniform w ↦ subst (λ (n : ℕ). Repeats c.args.sector.now n) (sym w.length-is) (whole_repeats c.args.sector.now)
    ]

pub loop-length-preserved : goal.loop-length-preserved
loop-length-preserved c =
    half_repeats c.args.sector.now c.loop-length.length c.loop-length.invariant c.loop-length-test.true (sym c.is_doubled.ensures ∙ c.if-is_doubled.true)

-- the loop ends at a front of one byte, or one whose halves differ
differs : (c : goal.After-result-1) → 1 < c.loop-length.length → take (c.loop-length.length / 2) c.args.sector.now ≡ take (c.loop-length.length / 2) (drop (c.loop-length.length / 2) c.args.sector.now) → ⊥
differs c more same =
    elim c.loop-length-test.branch [
      | then-loop-length-test+else-is_doubled w ↦ false≢true (sym w.if-is_doubled.false ∙ (w.is_doubled.ensures ∙ (bytes_eq-Decides _ _).1 same))
      | else-loop-length-test w ↦ absurd (omega arith)
    ]

pub returns-clause-value : goal.returns-clause-value
returns-clause-value c = is_shortest c.args.sector.now c.loop-length.length c.told-sector c.loop-length.invariant (differs c)

pub returns-clause-listed : goal.returns-clause-listed
returns-clause-listed c = is_listed c.args.sector.now c.loop-length.length c.told-sector c.loop-length.invariant

pub returns-clause-repeats : goal.returns-clause-repeats
returns-clause-repeats c = filled c.args.sector.now c.loop-length.length c.told-sector c.loop-length.invariant

pub returns-clause-least : goal.returns-clause-least
returns-clause-least c = is_least c.args.sector.now c.loop-length.length c.told-sector c.loop-length.invariant (differs c)

pub returns-clause-short : goal.returns-clause-short
returns-clause-short c = is_short c.args.sector.now c.loop-length.length c.told-sector c.loop-length.invariant
