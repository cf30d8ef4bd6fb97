use Rattle.std.proofs.Common.{◌≡◌, [], ◌∷◌, List, Bor, Option, Some, None, IfSome, IfNone, option_map, slice_get, refl}
use Rattle.raid_text.specs.Text.{Text}
use Rattle.raid_text.proofs.WordCuts.{first_left, none_left, one_less}
use Rattle.raid_text.proofs.readers.Line.word.Goals as goal

-- what `next` answers is the word at place 0
next_is_first : (r : Option (Bor Text)) (before after : List Text) → IfSome r (λ w. before ≡ w.now ∷ after) → IfNone r ((before ≡ []) × (after ≡ [])) → option_map (λ w. w.now) r ≡ slice_get before 0
next_is_first (Some w) before after some none = rw some refl
next_is_first None before after some none = rw none.0 refl

pub returns-in_err-next : goal.returns-in_err-next
returns-in_err-next c = rw c.from_residual.ensures (none_left _ _ _ c.in_err-next.ensures.none.0 c.loop.invariant)

pub loop-preserved : goal.loop-preserved
loop-preserved c = one_less _ _ _ _ _ _ c.in_ok-next.ensures.some c.loop-test.true c.loop.invariant

pub returns : goal.returns
returns c = first_left _ _ _ _ _ (next_is_first _ _ _ c.next-2.ensures.some c.next-2.ensures.none) c.loop-test.false c.loop.invariant
