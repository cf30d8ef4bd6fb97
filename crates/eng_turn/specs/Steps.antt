-- What each step on a turn's word tells the pass that makes it.
use Rattle.std.specs.Prelude.{◌≡◌, ℕ, ◌-◌, ◌%◌, ◌<◌, List, [], ◌∷◌, ◌++◌, Some, None}
use Rattle.atomic_table.specs.Table.{Step, rest}
use Rattle.eng_turn.specs.declared.view.Resting.{Resting}
use Rattle.eng_turn.specs.declared.view.Change.TheVariants.{Settled, Splitting}
use Rattle.eng_turn.specs.declared.view.Stage.TheVariants.{Inside}
use Rattle.eng_turn.specs.declared.view.PassView.{PassView}
use Rattle.eng_turn.specs.View.{Content, Mine, with_share, with_stage, left_with, ticket_or}

module _ {V T : Type 0} where
  -- the value fits among tickets of all passes, of which one is this
  abbrev pub FitsAmong : (V → V → List T → Type 0) → V → V → T → Type 0
  FitsAmong fits o v t = (xs : List T) × (ys : List T) × fits o v (xs ++ t ∷ ys)

  -- Take: where the word is even the slot goes out with the pass, and the value in it fits and comes after the pass's mark. Where it is odd nothing changes
  abbrev pub Took : (V → V → List T → Type 0) → (V → V → Type 0) → Step (Content V T) → Mine V T → ℕ → Mine V T → Type 0
  Took fits after st m found m' =
      (found < 4294967296)
      × (found % 2 ≡ 1 → m' ≡ m)
      × (found % 2 ≡ 0 → (h : Resting V T) × (m' ≡ (with_stage m.0 (Inside h.value), (0, Some h) ∷ m.1))
      × ((o : V) → m.0.opening ≡ Some o → FitsAmong fits o h.value m.0.ticket)
      × ((k : V) → m.0.mark ≡ Some k → after k h.value))

  abbrev pub given_by : PassView V T → Content V T → PassView V T
  given_by v (Some h) = left_with v h.value (ticket_or h.ticket v.ticket)
  given_by v None = v

  abbrev pub given_view : PassView V T → List (ℕ × Content V T) → PassView V T
  given_view v [] = v
  given_view v (x ∷ xs) = given_by v x.1

  -- Give: the slot goes home. The value in it becomes the pass's mark, and the ticket beside it the pass's ticket
  abbrev pub Gave : Step (Content V T) → Mine V T → ℕ → Mine V T → Type 0
  Gave st m found m' = m' ≡ (given_view m.0 m.1, rest m.1)

  -- Count up: a split is under way, and the pass has one share less
  abbrev pub CountedUp : Step (Content V T) → Mine V T → ℕ → Mine V T → Type 0
  CountedUp st m found m' = m' ≡ (with_share m.0 (m.0.share - 1) Splitting, m.1)

  -- Count down: no join is under way any more
  abbrev pub CountedDown : Step (Content V T) → Mine V T → ℕ → Mine V T → Type 0
  CountedDown st m found m' = m' ≡ (with_share m.0 m.0.share Settled, m.1)
