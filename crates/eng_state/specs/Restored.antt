-- What the end of a rebuild does to the columns.
use Rattle.std.specs.Prelude.{◌≡◌, ◌⊎◌, ℕ, length, slice_index}
use Rattle.lay_core.specs.Layout.{Shape}
use Rattle.eng_cols.specs.Cols.{IsKept}
use Rattle.eng_cols.specs.Changes.{IsEnded}
use Rattle.eng_state.specs.declared.array.Array.{Array}
use Rattle.eng_clients.specs.Desk.{desk_at}
use Rattle.eng_log.specs.Log.{counted}
use Rattle.eng_clients.specs.Rebuilt.{HasRebuilt}

module _ {L D : Type 0} where
  -- the unit of client c was rebuilt: its stripe is done and counted, and nothing else changes
  pub record StripeDone (y : Shape) (old : Array L D) (c unit : ℕ) (new : Array L D) : Type 0 where
    pub rebuilt : HasRebuilt y old.cols.states (desk_at old.clients c) unit
    pub ended : IsEnded y (slice_index (desk_at old.clients c).map.stripes 0) unit old.cols.states new.cols.states
    pub columns : length new.cols.states ≡ length old.cols.states
    pub stripes : new.cols.stripes ≡ old.cols.stripes
    pub kept : IsKept new.cols
    pub rest : new ≡ record old { cols = new.cols; log = counted old.log }

  -- where a unit was rebuilt its stripe is done, and else nothing changes
  abbrev pub StripeEnds : Shape → Array L D → ℕ → Array L D → Type 0
  StripeEnds y old c new =
      ((unit : ℕ) × StripeDone y old c unit new)
      ⊎ (((unit : ℕ) → HasRebuilt y old.cols.states (desk_at old.clients c) unit → ⊥) × (new ≡ old))
