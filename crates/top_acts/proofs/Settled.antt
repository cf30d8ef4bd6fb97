-- What becomes of columns as their devices are settled.
use Rattle.std.proofs.Common.{◌≡◌, ◌⊎◌, ◌∙◌, ℕ, suc, false, List, [], ◌∷◌, length, Option, Some, refl, sym, ap, subst, inl, inr, arith}
use Rattle.std.specs.Prelude.{slice_get, All}
use Rattle.std.proofs.lemmas.List.Elements.{All-weaker}
use Rattle.blk_disk.specs.declared.disk.Call.{Call}
use Rattle.blk_disk.specs.declared.disk.Disk.{Ghosts}
use Rattle.blk_disk.specs.Devices.{calls_of}
use Rattle.eng_cols.specs.declared.column.Column.{Column}
use Rattle.eng_cols.specs.declared.column.Column.TheVariants as column
use Rattle.eng_cols.specs.declared.spot.Loss.{Loss}
use Rattle.eng_cols.specs.Deaths.{Dies}
use Rattle.top_close.specs.Settled.{AreSettled}
use Rattle.top_rounds.specs.Calls.{WritesWithin}
use Rattle.top_rounds.proofs.CallLaws.{within-other}
use Rattle.top_close.specs.Stage.{IsStage}
use Rattle.top_close.proofs.StageLaws.{stage-settled, stage_as}
use Rattle.top_acts.specs.Stages.{IsClosing}
use Rattle.top_close.specs.Calls.{IsSettle}
use Rattle.top_rounds.proofs.Words.{is_label_write, IsFirstInUse}
use Rattle.top_close.proofs.Words.{IsUncalled}

-- a column that died of a cause
pub record Death (cause : ℕ → Type 0) (after : List Column) : Type 0 where
  pub col : ℕ
  pub dead : slice_get after col ≡ Some column.Dead
  pub why : cause col

same_item : (x y : Column) → Some y ≡ Some x → y ≡ x
same_item x y h = cc

-- none died, or there is one that did
pub death_of : (cause : ℕ → Type 0) (columns after : List Column) → Dies cause columns after → (after ≡ columns) ⊎ Death cause after
death_of cause [] [] dies = inl refl
death_of cause [] (y ∷ ys) dies = absurd (omega (arith, dies.count))
death_of cause (x ∷ xs) [] dies = absurd (omega (arith, dies.count))
death_of cause (x ∷ xs) (y ∷ ys) dies = elim (dies.each 0) [
  | inr dead ↦ inr (record { col = 0; dead = dead.0; why = dead.1 })
  | inl same ↦ elim (death_of (λ c. cause (suc c)) xs ys (record { count = omega (arith, dies.count); each = λ c. dies.each (suc c) })) [
    | inl rest ↦ let e : y ≡ x = same_item x y same in inl (ap (λ (z : Column). z ∷ ys) e ∙ ap (λ (l : List Column). x ∷ l) rest)
    | inr death ↦ inr (record { col = suc death.col; dead = death.dead; why = death.why })
  ]
]

-- a settle writes no label
settle-other : (call : Call) → IsSettle call → is_label_write call ≡ false
settle-other call h = subst (λ (c : Call). is_label_write c ≡ false) (sym h.1) refl

module _ {D : Type 0} (g : Ghosts D) where
  -- devices were settled, and none is listed
  abbrev pub settled : (lost : Option Loss) (columns after : List Column) (old new : List (Option D)) → AreSettled g (length columns) columns after old new → IsStage g (IsFirstInUse columns) (λ d. All IsClosing) lost columns after old new
  settled lost columns after old new s = stage_as g (λ _ _. ⊥) (IsFirstInUse columns) (λ d. All IsSettle) (λ d. All IsClosing) lost columns after old new
      (λ d m h. absurd h) (λ d calls. All-weaker IsSettle IsClosing (λ c w. inr w) calls) (stage-settled g lost columns after old new s)

  pub unsettled : (columns after : List Column) (old new : List (Option D)) → AreSettled g (length columns) columns after old new → IsUncalled columns old new
  unsettled columns after old new s d none = s.others d (λ c below live. none c live)

  -- no label was written
  pub settled-times : (n : ℕ) (columns after : List Column) (old new : List (Option D)) → AreSettled g (length columns) columns after old new → (d : ℕ) → WritesWithin n n (calls_of g old d) (calls_of g new d)
  settled-times n columns after old new s d = within-other IsSettle settle-other n (calls_of g old d) (calls_of g new d) (s.told d)
