-- The rule of the table behind a `Turn`: what holds between any two steps.
use Rattle.std.specs.Prelude.{◌≡◌, ℕ, ◌+◌, ◌*◌, ◌<◌, ◌≤◌, ◌⊎◌, List, [], ◌∷◌, map, sum_by, length, slice_index, Some}
use mathlib.Core.Option.{Option, none, some}
use lib.ListN.{get_elem?}
use Rattle.atomic_table.specs.Table.{State}
use Rattle.eng_turn.specs.declared.view.Resting.{Resting}
use Rattle.eng_turn.specs.declared.view.Change.TheVariants.{Settled, Joining}
use Rattle.eng_turn.specs.declared.view.Stage.TheVariants.{Outside, Inside}
use Rattle.eng_turn.specs.declared.view.PassView.{PassView}
use Rattle.eng_turn.specs.View.{Content, view_ticket, counted, inside, part}

module _ {V T : Type 0} where
  -- where nobody has the value it is at home, and where one pass has it the slot is out with that pass
  abbrev pub Placed : V → ℕ → List (Option (Content V T)) → Type 0
  Placed value entered homes = ((entered ≡ 0) × ((h : Resting V T) × (homes ≡ some (Some h) ∷ []) × (h.value ≡ value))) ⊎ ((entered ≡ 1) × (homes ≡ none ∷ []))

  module _ (empty : T) (fits : V → V → List T → Type 0) (after : V → V → Type 0) (opening : V) where
    -- what a pass knows is so, where this is the value that was left last
    pub record Knows (value : V) (v : PassView V T) : Type 0 where
      pub opened : 0 < v.share → v.opening ≡ Some opening
      pub marked : (m : V) → v.mark ≡ Some m → after m value
      pub spent : v.share ≡ 0 → (v.ticket ≡ empty) × (v.change ≡ Settled) × (v.stage ≡ Outside)
      pub joins : v.change ≡ Joining → 2 ≤ v.share
      pub entered : (e : V) → v.stage ≡ Inside e → e ≡ value

    -- `value` is the value that was left last. It fits among the tickets of all passes, whether it is at home or out
    pub record Kept (s : State (Content V T) (PassView V T)) : Type 0 where
      pub value : V
      pub wide : length s.words ≡ 1
      pub word : slice_index s.words 0 ≡ 2 * sum_by counted s.views + sum_by inside s.views
      pub shares : sum_by part s.views ≡ 65536
      pub each : (i : ℕ) (v : PassView V T) → get_elem? s.views i ≡ some v → Knows value v
      pub fitting : fits opening value (map view_ticket s.views)
      pub place : Placed value (sum_by inside s.views) s.homes

    -- nobody has the value: it is at home, fits among the tickets of all passes, and comes after the mark of each
    pub record IsFree (s : State (Content V T) (PassView V T)) : Type 0 where
      pub resting : Resting V T
      pub home : s.homes ≡ some (Some resting) ∷ []
      pub fitting : fits opening resting.value (map view_ticket s.views)
      pub marks : (i : ℕ) (v : PassView V T) (m : V) → get_elem? s.views i ≡ some v → v.mark ≡ Some m → after m resting.value

    -- one pass has the value, which as it entered fitted among the tickets that all passes have still
    pub record IsHeld (s : State (Content V T) (PassView V T)) : Type 0 where
      pub seat : ℕ
      pub view : PassView V T
      pub entered : V
      pub at : get_elem? s.views seat ≡ some view
      pub stage : view.stage ≡ Inside entered
      pub others : (i : ℕ) (v : PassView V T) → get_elem? s.views i ≡ some v → (i ≡ seat) ⊎ (v.stage ≡ Outside)
      pub fitting : fits opening entered (map view_ticket s.views)
