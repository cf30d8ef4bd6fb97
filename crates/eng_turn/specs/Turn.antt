-- What clauses say of a `Turn` and of its passes.
use Rattle.std.specs.Prelude.{◌≡◌, ℕ, ◌<◌, List, [], ◌∷◌, ◌++◌, Option, Some, None}
use Rattle.eng_turn.specs.declared.view.Change.TheVariants.{Settled}
use Rattle.eng_turn.specs.declared.view.Stage.TheVariants.{Outside, Inside}
use Rattle.eng_turn.specs.declared.turn.Pass.{Pass}
use Rattle.eng_turn.specs.declared.turn.Turn.{Turn}
pub use Rattle.eng_turn.specs.Steps.{FitsAmong}

module _ {R V T : Type 0} where
  -- the ticket that the pass left last, or the empty one
  abbrev pub ticket_of : Pass R V T → T
  ticket_of p = p.seat.me.0.ticket

  -- the value that the pass left last, or else the mark of the pass that it was split from, or else the opening
  abbrev pub mark_of : Pass R V T → Option V
  mark_of p = p.seat.me.0.mark

  -- the pass's share of the turn
  abbrev pub share_of : Pass R V T → ℕ
  share_of p = p.seat.me.0.share

  -- the pass doesn't have the value
  abbrev pub IsOutside : Pass R V T → Type 0
  IsOutside p = (p.seat.me.0.stage ≡ Outside) × (p.seat.me.0.change ≡ Settled) × (0 < p.seat.me.0.share) × (p.seat.me.1 ≡ [])

  -- the pass has the value, which was v as it entered
  abbrev pub IsInside : Pass R V T → V → Type 0
  IsInside p v = (p.seat.me.0.stage ≡ Inside v) × (p.seat.me.0.change ≡ Settled) × (0 < p.seat.me.0.share) × (p.seat.me.1 ≡ (0, None) ∷ [])

  -- the value with which the turn was opened
  abbrev pub opening_of : Turn R V T → V
  opening_of t = t.table.shared.key.value

  -- the pass came from this turn's `open`, or by `split` from such a pass
  abbrev pub IsOf : Pass R V T → Turn R V T → Type 0
  IsOf p t = (p.seat.table_id ≡ t.table.shared.table_id) × (p.seat.me.0.opening ≡ Some (opening_of t))

module _ {V T : Type 0} where
  -- whatever the other tickets are among which the old value fits with the old ticket, the new value fits among them with the new one
  abbrev pub KeepsFit : (V → V → List T → Type 0) → V → V → T → V → T → Type 0
  KeepsFit fits o v t w u = (xs ys : List T) → fits o v (xs ++ t ∷ ys) → fits o w (xs ++ u ∷ ys)
