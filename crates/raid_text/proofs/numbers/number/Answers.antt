use Rattle.std.proofs.Common.{◌≡◌, ◌∙◌, ◌<◌, arith, length, inl, inr, sym, take}
use Rattle.std.proofs.lemmas.Bool.{eqb-true}
use Rattle.std.proofs.lemmas.List.{take_all}
use Rattle.raid_text.proofs.Digits.{next_digit, not_digit, not_empty, wrong_length, in_range, too_big}
use Rattle.raid_text.proofs.numbers.number.Goals as goal

pub returns-then-is_empty : goal.returns-then-is_empty
returns-then-is_empty c = wrong_length c.args.word.now (elim c.then-is_empty.either [
  | inl e ↦ inl (eqb-true _ _ (sym c.is_empty.ensures ∙ e))
  | inr h ↦ inr h.1
])

pub returns-then-not-is_ascii_digit : goal.returns-then-not-is_ascii_digit
returns-then-not-is_ascii_digit c = not_digit c.args.word.now c.loop-b.b-index c.loop-b-test.true c.if-not-is_ascii_digit.ensures.value

pub loop-b-preserved : goal.loop-b-preserved
loop-b-preserved c =
    let i = c.loop-b.invariant in
    let n = next_digit c.args.word.now c.loop-b.b-index c.loop-b.value c.loop-b-test.true i.digits i.value i.small c.if-not-is_ascii_digit.ensures.value in
    record { digits = n.0; value = rw c.from.ensures n.1; small = rw c.from.ensures n.2 }

pub returns-then-value : goal.returns-then-value
returns-then-value c =
    let w = c.args.word.now in
    let i = c.loop-b.invariant in
    let all : take c.loop-b.b-index w ≡ w = take_all c.loop-b.b-index w (omega arith) in
    let some : 0 < length w = not_empty w c.is_empty.result c.is_empty.ensures c.if-is_empty.false in
    in_range w c.loop-b.value some (omega arith) (rw all at i.digits) (rw all at i.value) c.if-value.true

pub returns-else-value : goal.returns-else-value
returns-else-value c =
    let w = c.args.word.now in
    let all : take c.loop-b.b-index w ≡ w = take_all c.loop-b.b-index w (omega arith) in
    too_big w c.loop-b.value (rw all at c.loop-b.invariant.value) c.if-value.false
