-- Label writes and settles in turn, stage behind stage.
use Rattle.std.proofs.Common.{◌≡◌, ◌⊎◌, ◌∙◌, ℕ, Bool, true, false, List, [], ◌∷◌, ◌++◌, Option, Some, None, refl, sym, ap, subst, inl, inr, append_assoc}
use Rattle.std.specs.Prelude.{All, is_some, option_and_then, slice_get}
use Rattle.std.proofs.lemmas.List.Elements.{All-head, All-tail}
use Rattle.blk_disk.specs.declared.disk.Call.{Call}
use Rattle.blk_disk.specs.declared.disk.Disk.{Ghosts}
use Rattle.blk_disk.specs.Disk.{Tells, call_of}
use Rattle.blk_disk.specs.Devices.{calls_of}
use Rattle.eng_cols.specs.declared.column.Column.{Column}
use Rattle.eng_cols.specs.declared.column.Column.TheVariants as column
use Rattle.eng_cols.specs.Deaths.{Dies}
use Rattle.eng_cols.specs.declared.spot.Loss.{Loss}
use Rattle.eng_cols.specs.Cols.{device_set, HasDeviceOn, has_device}
use Rattle.top_close.proofs.CallLaws.{more-none, more-one, more-then, more_as}
use Rattle.top_rounds.specs.Calls.{EndsBy, IsLabelled, WritesTo, WritesWell}
use Rattle.top_close.specs.Stage.{IsGivenUp}
use Rattle.top_close.proofs.StageLaws.{live_before, given_before}
use Rattle.top_acts.specs.Closed.{CallInTurn}
use Rattle.top_acts.specs.Stages.{AreInTurn, EndInTurn, FailInTurn, InTurnOn}
use Rattle.top_rounds.proofs.Words.{AreWritten}
use Rattle.top_close.proofs.Words.{IsUncalled}

-- ## Lists of calls

turn-then : (a b e : Bool) (xs ys : List Call) → AreInTurn a xs b → AreInTurn b ys e → AreInTurn a (xs ++ ys) e
turn-then a b e [] ys one two = subst (λ s. AreInTurn s ys e) (sym one) two
turn-then a b e (x ∷ xs) ys one two = elim one [
  | inl h ↦ inl (h.0, turn-then false b e xs ys h.1 two)
  | inr h ↦ inr (h.0, h.1, turn-then true b e xs ys h.2 two)
]

fail-then : (a b : Bool) (xs ys : List Call) → AreInTurn a xs b → FailInTurn b ys → FailInTurn a (xs ++ ys)
fail-then a b xs ys one two =
    (xs ++ two.0, two.1, two.2, ap (λ (l : List Call). xs ++ l) two.3 ∙ sym (append_assoc xs two.0 (two.1 ∷ [])), turn-then a b two.2 xs two.0 one two.4, two.5)

end-then : (stays a b e : Bool) (xs ys : List Call) → AreInTurn a xs b → EndInTurn stays b ys e → EndInTurn stays a (xs ++ ys) e
end-then true a b e xs ys one two = turn-then a b e xs ys one two
end-then false a b e xs ys one two = fail-then a b xs ys one two

writes-turn : (a : Bool) (xs : List Call) → All IsLabelled xs → AreInTurn a (xs ++ call_of 1 0 512 true ∷ []) false
writes-turn a [] all = inl (refl, refl)
writes-turn a (x ∷ xs) all = inl (All-head IsLabelled x xs all, writes-turn false xs (All-tail IsLabelled x xs all))

writes-are : (a : Bool) (xs : List Call) → All IsLabelled xs → (is : Bool) × AreInTurn a xs is
writes-are a [] all = (a, refl)
writes-are a (x ∷ xs) all =
    let rest = writes-are false xs (All-tail IsLabelled x xs all) in
    (rest.0, inl (All-head IsLabelled x xs all, rest.1))

writes-end : (stays a : Bool) (xs : List Call) → All IsLabelled xs → EndInTurn stays a (xs ++ call_of 1 0 512 stays ∷ []) false
writes-end true a xs all = writes-turn a xs all
writes-end false a xs all = let w = writes-are a xs all in (xs, call_of 1 0 512 false, w.0, refl, w.1, inl refl)

settle-end : (stays : Bool) → EndInTurn stays false (call_of 2 0 0 stays ∷ []) true
settle-end true = inr (refl, refl, refl)
settle-end false = ([], call_of 2 0 0 false, false, refl, refl, inr (refl, refl))

-- ## Calls that are told

on-none : (a : Bool) (o : Option (List Call)) → InTurnOn true a o o a
on-none a o = more-none (λ more. EndInTurn true a more a) o refl

on-then : (stays a b e : Bool) (x y z : Option (List Call)) → InTurnOn true a x y b → InTurnOn stays b y z e → InTurnOn stays a x z e
on-then stays a b e x y z one two = more-then (λ more. EndInTurn true a more b) (λ more. EndInTurn stays b more e) (λ more. EndInTurn stays a more e) x y z (end-then stays a b e) one two

on-writes : (stays a : Bool) (x y : Option (List Call)) → WritesTo stays x y → InTurnOn stays a x y false
on-writes stays a x y h = more_as (EndsBy stays) (λ more. EndInTurn stays a more false) x y (λ calls by. subst (λ l. EndInTurn stays a l false) (sym by.1) (writes-end stays a by.0 by.2)) h

-- writes that all went well, or none
on-well : (a : Bool) (x y : Option (List Call)) → WritesWell x y → (is : Bool) × InTurnOn true a x y is
on-well a x None h = (a, tt)
on-well a None (Some bs) h = absurd h
on-well a (Some xs) (Some bs) h = let w = writes-are a h.0 h.2 in (w.0, (h.0, h.1, w.1))

on-settle : (stays : Bool) (x y : Option (List Call)) → Tells x y (call_of 2 0 0 stays) → InTurnOn stays false x y true
on-settle stays x y h = more-one (λ more. EndInTurn stays false more true) (call_of 2 0 0 stays) x y (settle-end stays) h

-- a device that fails ends whatever was to come
on-failed : (a b e : Bool) (x y : Option (List Call)) → InTurnOn false a x y b → InTurnOn false a x y e
on-failed a b e x y h = h

-- ## All devices in use

-- no column shares its device
abbrev pub AreApart : List Column → Type 0
AreApart columns = (c k d : ℕ) → HasDeviceOn columns c d → HasDeviceOn columns k d → c ≡ k

module _ {D : Type 0} (g : Ghosts D) where
  pub in_turn-none : (a : Bool) (columns : List Column) (ds : List (Option D)) → CallInTurn g None a a columns columns ds ds
  in_turn-none a columns ds c d live = inl (subst (λ b. InTurnOn b a (calls_of g ds d) (calls_of g ds d) a) (sym (ap is_some live)) (on-none a (calls_of g ds d)))

  pub in_turn-writes : (lost : Option Loss) (a : Bool) (columns after : List Column) (old new : List (Option D)) → ((c d : ℕ) → HasDeviceOn columns c d → AreWritten lost columns after c (calls_of g old d) (calls_of g new d)) → CallInTurn g lost a false columns after old new
  in_turn-writes lost a columns after old new h c d live = elim (h c d live) [
    | inl told ↦ inl (on-writes (has_device (slice_get after c)) a (calls_of g old d) (calls_of g new d) told)
    | inr given ↦ inr (given.0, on-well a (calls_of g old d) (calls_of g new d) given.1)
  ]

  pub in_turn-settles : (columns after : List Column) (old new : List (Option D)) → ((c d : ℕ) → HasDeviceOn columns c d → Tells (calls_of g old d) (calls_of g new d) (call_of 2 0 0 (has_device (slice_get after c)))) → CallInTurn g None false true columns after old new
  in_turn-settles columns after old new h c d live = inl (on-settle (has_device (slice_get after c)) (calls_of g old d) (calls_of g new d) (h c d live))

  -- two stages, of which the array wasn't lost in the first
  module _ (lost : Option Loss) (cause more : ℕ → Type 0) (a b e : Bool) (columns mid after : List Column) (old dev new : List (Option D)) (apart : AreApart columns) (died : Dies cause columns mid) (dies : Dies more mid after) (was : CallInTurn g None a b columns mid old dev) (others : IsUncalled mid dev new)
      (is : CallInTurn g lost b e mid after dev new) where
    -- a device that failed isn't called any more
    failed : (c d : ℕ) → HasDeviceOn columns c d → slice_get mid c ≡ Some column.Dead → InTurnOn (has_device (slice_get mid c)) a (calls_of g old d) (calls_of g dev d) b → InTurnOn (has_device (slice_get after c)) a (calls_of g old d) (calls_of g new d) e
    failed c d live dead told =
        let gone : slice_get after c ≡ Some column.Dead = elim (dies.each c) [ inl same ↦ same ∙ dead | inr h ↦ h.0 ] in
        let free : (k : ℕ) → HasDeviceOn mid k d → ⊥ = λ k other.
        let same : c ≡ k = apart c k d live (live_before cause columns mid k d died other) in
        let z : Some d ≡ None = sym other ∙ ap device_set (ap (slice_get mid) (sym same) ∙ dead) in absurd (let u : ⊥ = cc in u) in
        subst (λ s. InTurnOn s a (calls_of g old d) (calls_of g new d) e) (sym (ap has_device gone))
        (subst (λ o. InTurnOn false a (calls_of g old d) o e) (ap (λ o. option_and_then g.calls o) (sym (others d free)))
        (on-failed a b e (calls_of g old d) (calls_of g dev d) (subst (λ s. InTurnOn s a (calls_of g old d) (calls_of g dev d) b) (ap has_device dead) told)))

    -- what came behind calls that all went well
    behind : (c d : ℕ) → HasDeviceOn columns c d → slice_get mid c ≡ slice_get columns c → InTurnOn true a (calls_of g old d) (calls_of g dev d) b
        → InTurnOn (has_device (slice_get after c)) a (calls_of g old d) (calls_of g new d) e ⊎ (IsGivenUp lost columns c × ((settled : Bool) × InTurnOn true a (calls_of g old d) (calls_of g new d) settled))
    behind c d live same told = elim (is c d (ap device_set same ∙ live)) [
      | inl went ↦ inl (on-then (has_device (slice_get after c)) a b e (calls_of g old d) (calls_of g dev d) (calls_of g new d) told went)
      | inr given ↦ inr (given_before cause lost columns mid c died given.0, (given.1.0, on-then true a b given.1.0 (calls_of g old d) (calls_of g dev d) (calls_of g new d) told given.1.1))
    ]

    pub in_turn-then : CallInTurn g lost a e columns after old new
    in_turn-then c d live = elim (was c d live) [
      | inr given ↦ absurd given.0
      | inl told ↦ elim (died.each c) [
        | inr dead ↦ inl (failed c d live dead.0 told)
        | inl same ↦ behind c d live same (subst (λ s. InTurnOn s a (calls_of g old d) (calls_of g dev d) b) (ap has_device same ∙ ap is_some live) told)
      ]
    ]
