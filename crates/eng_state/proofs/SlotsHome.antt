-- What is at the slots as a job comes home.
use Rattle.std.proofs.Common.{◌≡◌, inl, inr, ℕ, List, Option, Some, false, sym, ◌∙◌, ap}
use Rattle.std.specs.Prelude.{slice_set}
use Rattle.lay_core.specs.Layout.{Shape}
use Rattle.lay_core.specs.declared.layout.Layout.{Ghosts as LayoutGhosts}
use Rattle.eng_cols.specs.declared.spot.Spot.{Spot}
use Rattle.eng_state.specs.declared.array.Array.{Array}
use Rattle.eng_state.specs.Bad.{FailedIfAlive, struck_lost}
use Rattle.eng_state.specs.Homes.{slots_home}
use Rattle.eng_parts.specs.Shelf.{Seen, Shelved, come_home}
use Rattle.eng_state.specs.Restored.{StripeEnds}

module _ {D : Type 0} (old new : Shelved D) (x : D) (at : Spot) where
  -- a device that came home, from where the node's unit stood
  pub came-slots : (spot : Option Spot) → new.slots ≡ (come_home old at.device x).slots → spot ≡ Some at → new.slots ≡ slots_home (Some x) spot old
  came-slots spot is stood = is ∙ sym (ap (λ (p : Option Spot). slots_home (Some x) p old) stood)

  -- and to devices of which others have failed
  pub mid-slots : (mid : Shelved D) (place : Spot) → new ≡ come_home mid place.device x → place ≡ at → mid.slots ≡ old.slots → new.slots ≡ (come_home old at.device x).slots
  mid-slots mid place is same slots =
      ap (λ (s : Shelved D). s.slots) is
      ∙ (ap (λ (p : Spot). (come_home mid p.device x).slots) same
      ∙ ap (λ (l : List (Option (Seen D))). slice_set l at.device (Some (record { out = false; device = x }))) slots)

module _ {L D : Type 0} (old new : Array L D) where
  -- a column that fails leaves them
  pub alive-slots : (lay : LayoutGhosts L) (column : ℕ) → FailedIfAlive lay old column new → new.devices.slots ≡ old.devices.slots
  alive-slots lay column (inl dead) = ap (λ (s : Array L D). s.devices.slots) dead.1
  alive-slots lay column (inr failed) = ap (λ (s : Array L D). s.devices.slots) failed.1.is

  pub struck-slots : (at : Spot) → new ≡ struck_lost old at → new.devices.slots ≡ old.devices.slots
  struck-slots at is = ap (λ (s : Array L D). s.devices.slots) is

  -- so does a stripe that is done
  pub stripe-slots : (y : Shape) (c : ℕ) → StripeEnds y old c new → new.devices.slots ≡ old.devices.slots
  stripe-slots y c (inl done) = ap (λ (s : Array L D). s.devices.slots) done.1.rest
  stripe-slots y c (inr none) = ap (λ (s : Array L D). s.devices.slots) none.1
