-- Calls that end what was done to an array, where maps may be cleared among them, stage behind stage.
use Rattle.std.proofs.Common.{◌≡◌, ◌⊎◌, ◌∙◌, ℕ, Bool, true, false, List, [], ◌∷◌, ◌++◌, Option, Some, None, refl, sym, ap, subst, inl, inr, append_assoc}
use Rattle.std.specs.Prelude.{is_some, option_and_then, slice_get}
use Rattle.blk_disk.specs.declared.disk.Call.{Call}
use Rattle.blk_disk.specs.declared.disk.Disk.{Ghosts}
use Rattle.blk_disk.specs.Disk.{call_of}
use Rattle.blk_disk.specs.Devices.{calls_of}
use Rattle.eng_cols.specs.declared.column.Column.{Column}
use Rattle.eng_cols.specs.declared.column.Column.TheVariants as column
use Rattle.eng_cols.specs.Deaths.{Dies}
use Rattle.eng_cols.specs.declared.spot.Loss.{Loss}
use Rattle.eng_cols.specs.Cols.{device_set, HasDeviceOn, has_device}
use Rattle.raid_map.specs.Marking.{MarkCalls, MarksOn}
use Rattle.top_close.specs.Calls.{MoreOn}
use Rattle.top_close.proofs.CallLaws.{more-then, more_as}
use Rattle.top_close.specs.Stage.{IsGivenUp}
use Rattle.top_close.proofs.StageLaws.{live_before, given_before}
use Rattle.top_acts.specs.Cleared.{AreEndingInTurn, EndsInTurn}
use Rattle.top_acts.specs.Closed.{CallInTurn}
use Rattle.top_acts.specs.Stages.{AreInTurn, EndInTurn}
use Rattle.top_acts.proofs.InTurn.{AreApart}
use Rattle.top_acts.proofs.Words.{FailsEnding, EndingCalls}
use Rattle.top_close.proofs.Words.{IsUncalled}

-- ## Lists of calls

-- labels and settles are such
turn_ending : (clears a is : Bool) (xs : List Call) → AreInTurn a xs is → AreEndingInTurn clears a xs is
turn_ending clears a is [] h = h
turn_ending clears a is (x ∷ xs) h = elim h [
  | inl w ↦ inl (w.0, turn_ending clears false is xs w.1)
  | inr s ↦ inr (inr (s.0, s.1, turn_ending clears true is xs s.2))
]

fails_ending : (clears is : Bool) (call : Call) → ((call ≡ call_of 1 0 512 false) ⊎ ((is ≡ false) × (call ≡ call_of 2 0 0 false))) → FailsEnding clears is call
fails_ending clears is call (inl w) = inl w
fails_ending clears is call (inr s) = inr (inr s)

end_ending : (clears stays a is : Bool) (xs : List Call) → EndInTurn stays a xs is → EndsInTurn clears stays a xs is
end_ending clears true a is xs h = turn_ending clears a is xs h
end_ending clears false a is xs h = (h.0, h.1, h.2, h.3, turn_ending clears a h.2 h.0 h.4, fails_ending clears h.2 h.1 h.5)

-- and where no map is written they are such alone
ending_turn : (a is : Bool) (xs : List Call) → AreEndingInTurn false a xs is → AreInTurn a xs is
ending_turn a is [] h = h
ending_turn a is (x ∷ xs) h = elim h [
  | inl w ↦ inl (w.0, ending_turn false is xs w.1)
  | inr more ↦ elim more [
    | inl m ↦ let z : false ≡ true = m.0 in absurd (let u : ⊥ = cc in u)
    | inr s ↦ inr (s.0, s.1, ending_turn true is xs s.2)
  ]
]

ending_fails : (is : Bool) (call : Call) → FailsEnding false is call → (call ≡ call_of 1 0 512 false) ⊎ ((is ≡ false) × (call ≡ call_of 2 0 0 false))
ending_fails is call (inl w) = inl w
ending_fails is call (inr (inl m)) = let z : false ≡ true = m.0 in absurd (let u : ⊥ = cc in u)
ending_fails is call (inr (inr s)) = inr s

ending_end : (stays a is : Bool) (xs : List Call) → EndsInTurn false stays a xs is → EndInTurn stays a xs is
ending_end true a is xs h = ending_turn a is xs h
ending_end false a is xs h = (h.0, h.1, h.2, h.3, ending_turn a h.2 h.0 h.4, ending_fails h.2 h.1 h.5)

ending-then : (clears a b e : Bool) (xs ys : List Call) → AreEndingInTurn clears a xs b → AreEndingInTurn clears b ys e → AreEndingInTurn clears a (xs ++ ys) e
ending-then clears a b e [] ys one two = subst (λ s. AreEndingInTurn clears s ys e) (sym one) two
ending-then clears a b e (x ∷ xs) ys one two = elim one [
  | inl w ↦ inl (w.0, ending-then clears false b e xs ys w.1 two)
  | inr more ↦ elim more [
    | inl m ↦ inr (inl (m.0, m.1, ending-then clears false b e xs ys m.2 two))
    | inr s ↦ inr (inr (s.0, s.1, ending-then clears true b e xs ys s.2 two))
  ]
]

ends-then : (clears stays a b e : Bool) (xs ys : List Call) → AreEndingInTurn clears a xs b → EndsInTurn clears stays b ys e → EndsInTurn clears stays a (xs ++ ys) e
ends-then clears true a b e xs ys one two = ending-then clears a b e xs ys one two
ends-then clears false a b e xs ys one two =
    (xs ++ two.0, two.1, two.2, ap (λ (l : List Call). xs ++ l) two.3 ∙ sym (append_assoc xs two.0 (two.1 ∷ [])), ending-then clears a b two.2 xs two.0 one two.4, two.5)

-- a device that is marked is settled behind that
mark_ending : (good a : Bool) (calls : List Call) → MarkCalls good calls → EndsInTurn true good a calls true
mark_ending true a calls h = subst (λ l. AreEndingInTurn true a l true) (sym h) (inr (inl (refl, refl, inr (inr (refl, refl, refl)))))
mark_ending false a calls (inl h) = ([], call_of 1 1 512 false, a, h, refl, inr (inl (refl, refl)))
mark_ending false a calls (inr h) = (call_of 1 1 512 true ∷ [], call_of 2 0 0 false, false, h, inr (inl (refl, refl, refl)), inr (inr (refl, refl)))

-- ## Calls that are told

marks_ending : (good a : Bool) (x y : Option (List Call)) → MarksOn x y good → MoreOn (λ more. EndsInTurn true good a more true) x y
marks_ending good a x None h = tt
marks_ending good a None (Some bs) h = h
marks_ending good a (Some xs) (Some bs) h = (h.0, h.2, mark_ending good a h.0 h.1)

told-then : (clears stays a b e : Bool) (x y z : Option (List Call)) → MoreOn (λ more. AreEndingInTurn clears a more b) x y → MoreOn (λ more. EndsInTurn clears stays b more e) y z → MoreOn (λ more. EndsInTurn clears stays a more e) x z
told-then clears stays a b e x y z one two =
    more-then (λ more. AreEndingInTurn clears a more b) (λ more. EndsInTurn clears stays b more e) (λ more. EndsInTurn clears stays a more e) x y z (ends-then clears stays a b e) one two

-- ## All devices in use

module _ {D : Type 0} (g : Ghosts D) where
  pub calls_ending : (clears : Bool) (lost : Option Loss) (a is : Bool) (columns after : List Column) (old new : List (Option D)) → CallInTurn g lost a is columns after old new → EndingCalls g clears lost a is columns after old new
  calls_ending clears lost a is columns after old new h c d live = elim (h c d live) [
    | inl told ↦ inl (more_as (λ more. EndInTurn (has_device (slice_get after c)) a more is) (λ more. EndsInTurn clears (has_device (slice_get after c)) a more is) (calls_of g old d) (calls_of g new d) (end_ending clears (has_device (slice_get after c)) a is) told)
    | inr given ↦ inr (given.0, (given.1.0, more_as (λ more. AreInTurn a more given.1.0) (λ more. AreEndingInTurn clears a more given.1.0) (calls_of g old d) (calls_of g new d) (turn_ending clears a given.1.0) given.1.1))
  ]

  pub ending_calls : (lost : Option Loss) (a is : Bool) (columns after : List Column) (old new : List (Option D)) → EndingCalls g false lost a is columns after old new → CallInTurn g lost a is columns after old new
  ending_calls lost a is columns after old new h c d live = elim (h c d live) [
    | inl told ↦ inl (more_as (λ more. EndsInTurn false (has_device (slice_get after c)) a more is) (λ more. EndInTurn (has_device (slice_get after c)) a more is) (calls_of g old d) (calls_of g new d) (ending_end (has_device (slice_get after c)) a is) told)
    | inr given ↦ inr (given.0, (given.1.0, more_as (λ more. AreEndingInTurn false a more given.1.0) (λ more. AreInTurn a more given.1.0) (calls_of g old d) (calls_of g new d) (ending_turn a given.1.0) given.1.1))
  ]

  pub marked_ending : (a : Bool) (columns after : List Column) (old new : List (Option D)) → ((c d : ℕ) → HasDeviceOn columns c d → MarksOn (calls_of g old d) (calls_of g new d) (has_device (slice_get after c))) → EndingCalls g true None a true columns after old new
  marked_ending a columns after old new h c d live = inl (marks_ending (has_device (slice_get after c)) a (calls_of g old d) (calls_of g new d) (h c d live))

  -- two stages, of which the array wasn't lost in the first
  module _ (clears : Bool) (lost : Option Loss) (cause more : ℕ → Type 0) (a b e : Bool) (columns mid after : List Column) (old dev new : List (Option D)) (apart : AreApart columns) (died : Dies cause columns mid) (dies : Dies more mid after) (was : EndingCalls g clears None a b columns mid old dev) (others : IsUncalled mid dev new)
      (is : EndingCalls g clears lost b e mid after dev new) where
    -- a device that failed isn't called any more
    failed : (c d : ℕ) → HasDeviceOn columns c d → slice_get mid c ≡ Some column.Dead → MoreOn (λ calls. EndsInTurn clears (has_device (slice_get mid c)) a calls b) (calls_of g old d) (calls_of g dev d)
        → MoreOn (λ calls. EndsInTurn clears (has_device (slice_get after c)) a calls e) (calls_of g old d) (calls_of g new d)
    failed c d live dead told =
        let gone : slice_get after c ≡ Some column.Dead = elim (dies.each c) [ inl same ↦ same ∙ dead | inr h ↦ h.0 ] in
        let free : (k : ℕ) → HasDeviceOn mid k d → ⊥ = λ k other.
        let same : c ≡ k = apart c k d live (live_before cause columns mid k d died other) in
        let z : Some d ≡ None = sym other ∙ ap device_set (ap (slice_get mid) (sym same) ∙ dead) in absurd (let u : ⊥ = cc in u) in
        subst (λ s. MoreOn (λ calls. EndsInTurn clears s a calls e) (calls_of g old d) (calls_of g new d)) (sym (ap has_device gone))
        (subst (λ o. MoreOn (λ calls. EndsInTurn clears false a calls e) (calls_of g old d) o) (ap (λ o. option_and_then g.calls o) (sym (others d free)))
        (subst (λ s. MoreOn (λ calls. EndsInTurn clears s a calls b) (calls_of g old d) (calls_of g dev d)) (ap has_device dead) told))

    -- what came behind calls that all went well
    behind : (c d : ℕ) → HasDeviceOn columns c d → slice_get mid c ≡ slice_get columns c → MoreOn (λ calls. AreEndingInTurn clears a calls b) (calls_of g old d) (calls_of g dev d)
        → MoreOn (λ calls. EndsInTurn clears (has_device (slice_get after c)) a calls e) (calls_of g old d) (calls_of g new d) ⊎ (IsGivenUp lost columns c × ((settled : Bool) × MoreOn (λ calls. AreEndingInTurn clears a calls settled) (calls_of g old d) (calls_of g new d)))
    behind c d live same told = elim (is c d (ap device_set same ∙ live)) [
      | inl went ↦ inl (told-then clears (has_device (slice_get after c)) a b e (calls_of g old d) (calls_of g dev d) (calls_of g new d) told went)
      | inr given ↦ inr (given_before cause lost columns mid c died given.0, (given.1.0, told-then clears true a b given.1.0 (calls_of g old d) (calls_of g dev d) (calls_of g new d) told given.1.1))
    ]

    pub endings-then : EndingCalls g clears lost a e columns after old new
    endings-then c d live = elim (was c d live) [
      | inr given ↦ absurd given.0
      | inl told ↦ elim (died.each c) [
        | inr dead ↦ inl (failed c d live dead.0 told)
        | inl same ↦ behind c d live same (subst (λ s. MoreOn (λ calls. EndsInTurn clears s a calls b) (calls_of g old d) (calls_of g dev d)) (ap has_device same ∙ ap is_some live) told)
      ]
    ]
