-- A core that comes of an opening hands back what was handed in.
use Rattle.std.proofs.Common.{◌≡◌, ◌<◌, ◌≤◌, inl, inr, ℕ, zero, suc, List, [], ◌∷◌, length, map, Option, Some, None, refl, sym, ◌∙◌, ap, subst, arith}
use Rattle.std.specs.Prelude.{slice_get, slice_index_or}
use Rattle.std.specs.Option.{option_map_or}
use Rattle.std.proofs.lemmas.Bool.{cases_lt}
use Rattle.std.proofs.lemmas.List.{length-map}
use Rattle.std.proofs.lemmas.Option.{slice_get_past}
use Rattle.blk_disk.specs.Devices.{device_at, sector_of, RisesOn, StaysIf, Changes}
use Rattle.blk_disk.specs.Disk.{Rose}
use Rattle.blk_disk.specs.declared.disk.Disk.{Ghosts as DiskGhosts}
use Rattle.lay_core.specs.declared.layout.Layout.{Ghosts as LayoutGhosts}
use Rattle.eng_world.specs.declared.item.Traced.{Traced}
use Rattle.item_list.specs.ItemList.{ItemList}
use Rattle.eng_log.specs.Given.{items_in, items_at}
use Rattle.eng_clients.specs.Desk.{Desk}
use Rattle.eng_parts.specs.Brought.{brought}
use Rattle.eng_parts.specs.Shelf.{Seen, Shelved, seen_at}
use Rattle.eng_parts.specs.declared.setup.Closed.{Closed}
use Rattle.eng_parts.specs.declared.setup.Setup.{Setup}
use Rattle.eng_state.specs.declared.array.Array.{Array}
use Rattle.eng_events.specs.Closed.{IsClosed}
use Rattle.eng_events.specs.Opened.{IsOpened}
use Rattle.eng_array.specs.HandedBack.{HandsBack}
use Rattle.eng_array.specs.Tickets.{Goes, Same, device_of, devices_of, DevicesGoOn, faults_in, faults_at}
use Rattle.eng_array.proofs.Chains.{goes-same, goes-devices, goes-items}
use Rattle.eng_array.proofs.DevicesOn.{slot-device}

module _ {D : Type 0} where
  -- ## Places in a list of devices

  got-device : (ds : List (Option D)) (d : ℕ) (x : Option D) → slice_get ds d ≡ Some x → device_at ds d ≡ x
  unfolding device_at
  got-device [] d x is = let z : None ≡ Some x = is in cc
  got-device (y ∷ ds) zero x is = let z : Some y ≡ Some x = is in cc
  got-device (y ∷ ds) (suc d) x is = got-device ds d x is

  no-device : (ds : List (Option D)) (d : ℕ) → length ds ≤ d → device_at ds d ≡ None
  unfolding device_at
  no-device [] d past = refl
  no-device (y ∷ ds) zero past = absurd (omega (arith, past))
  no-device (y ∷ ds) (suc d) past = no-device ds d (omega (arith, past))

  brought-device : (x : Option D) → device_of (brought x) ≡ x
  brought-device None = refl
  brought-device (Some x) = refl

  -- the devices that are brought in
  brought-at : (ds : List (Option D)) (d : ℕ) → device_of (slice_index_or (map brought ds) d None) ≡ device_at ds d
  unfolding device_at
  brought-at [] d = refl
  brought-at (x ∷ ds) zero = brought-device x
  brought-at (x ∷ ds) (suc d) = brought-at ds d

module _ {D : Type 0} (disk : DiskGhosts D) where
  -- where any sector may have changed, and those alone may of which it is said
  narrowed : (may : ℕ → Type 0) (x z : Option D) → StaysIf disk (λ n. Unit {0}) x z
      → (disk.tells → (n : ℕ) → (may n → ⊥) → option_map_or (λ y. disk.sector y n) z [] ≡ option_map_or (λ y. disk.sector y n) x []) → StaysIf disk may x z
  narrowed may None None h same = tt
  narrowed may None (Some z) h same = absurd h
  narrowed may (Some x) None h same = absurd h
  narrowed may (Some x) (Some z) h same = record { size = h.size; later = h.later; told = h.told; same = same }

  -- so of a list of devices
  pub narrow-frame : (may : ℕ → ℕ → Type 0) (old new : List (Option D)) → DevicesGoOn disk old new
      → (disk.tells → (d n : ℕ) → (may d n → ⊥) → sector_of disk new d n ≡ sector_of disk old d n) → Changes disk may old new
  narrow-frame may old new h same = record {
    count = h.count;
    each = λ d. narrowed (may d) (device_at old d) (device_at new d) (h.each d) (λ tells n not. same tells d n not);
  }

  -- a count that rose is that of a device
  rises-at : (old new : List (Option D)) (d : ℕ) (a b : Option (Seen D)) → device_at old d ≡ device_of a → device_at new d ≡ device_of b → StaysIf disk (λ n. Unit {0}) (device_of a) (device_of b) → Rose (faults_in disk a) (faults_in disk b) → RisesOn disk old new d
  rises-at old new d None None was is h rose = absurd (omega (arith, rose))
  rises-at old new d None (Some t) was is h rose = absurd h
  rises-at old new d (Some s) None was is h rose = absurd h
  rises-at old new d (Some s) (Some t) was is h rose = record { before = s.device; after = t.device; was = was; is = is; rose = rose }

module _ {L D : Type 0} (lay : LayoutGhosts L) (disk : DiskGhosts D) (setup : Setup L D) (first last : Array L D) (events : List Traced) (closed : Closed L D) (o : IsOpened lay disk setup first) (g : Goes lay disk first events last) (c : IsClosed lay last closed) where
  same : Same lay disk first last
  same = goes-same lay disk first last events g

  -- a device as it was brought in, and as it is handed back
  setup-at : (d : ℕ) → device_at setup.devices.items d ≡ device_of (seen_at first.devices d)
  setup-at d = sym (brought-at setup.devices.items d) ∙ ap (λ (s : Shelved D). device_of (seen_at s d)) (sym o.devices)

  closed-at : (d : ℕ) → device_at closed.devices.items d ≡ device_of (seen_at last.devices d)
  closed-at d = by (seen_at last.devices d) refl
    where
      by : (s : Option (Seen D)) → seen_at last.devices d ≡ s → device_at closed.devices.items d ≡ device_of (seen_at last.devices d)
      by None e = elim (cases_lt d (length closed.devices.items)) [
        | inl lt ↦ got-device closed.devices.items d None (c.absent d e lt) ∙ sym (ap device_of e)
        | inr past ↦ no-device closed.devices.items d past ∙ sym (ap device_of e)
      ]
      by (Some s) e = got-device closed.devices.items d (Some s.device) (c.devices d s e) ∙ sym (ap device_of e)

  stays-at : (d : ℕ) → StaysIf disk (λ n. Unit {0}) (device_of (seen_at first.devices d)) (device_of (seen_at last.devices d))
  stays-at d =
      subst (λ (v : Option D). StaysIf disk (λ n. Unit {0}) v (device_of (seen_at last.devices d))) (slot-device first.devices.slots d)
      (subst (λ (v : Option D). StaysIf disk (λ n. Unit {0}) (device_at (devices_of first) d) v) (slot-device last.devices.slots d) ((goes-devices lay disk first last events g).each d))

  as-many : length closed.devices.items ≡ length setup.devices.items
  as-many = c.count ∙ (same.slots ∙ (ap (λ (s : Shelved D). length s.slots) o.devices ∙ length-map setup.devices.items brought))

  -- the items of a client that was handed in, and of one past them
  items-back : (k : ℕ) → items_at closed.clients.items k ≡ items_at setup.clients.items k
  items-back k = elim (cases_lt k last.spare) [
    | inl below ↦ c.clients.items_each k below ∙ (goes-items lay disk first last events g k (few k below) ∙ ap (λ (d : Desk). d.items) (o.clients k (let f = few k below in omega (arith, f))))
    | inr past ↦ items-past closed.clients.items k (let n = c.clients.items_count in omega (arith, n, past)) ∙ sym (items-past setup.clients.items k (let n : last.spare ≡ length setup.clients.items = same.spare ∙ o.spare in omega (arith, n, past)))
  ]
    where
      few : (k : ℕ) → k < last.spare → k < 16
      few k below = let n : last.spare ≡ length setup.clients.items = same.spare ∙ o.spare in let f = o.laid.few in omega (arith, n, f, below)

      items-past : (given : List ItemList) (k : ℕ) → length given ≤ k → items_at given k ≡ []
      items-past given k past = ap items_in (slice_get_past given k past)

  pub handed-back : HandsBack disk setup closed
  handed-back = record {
    layout = c.layout ∙ (same.layout ∙ o.layout);
    clients = c.clients.items_count ∙ (same.spare ∙ o.spare);
    items = items-back;
    replies = c.clients.replies_count ∙ (same.spare ∙ o.spare);
    devices = record {
      count = as-many;
      each = λ d. subst (λ (v : Option D). StaysIf disk (λ n. Unit {0}) v (device_at closed.devices.items d)) (sym (setup-at d))
          (subst (λ (v : Option D). StaysIf disk (λ n. Unit {0}) (device_of (seen_at first.devices d)) v) (sym (closed-at d)) (stays-at d));
    };
  }

  pub handed-rises : (d : ℕ) → Rose (faults_at lay disk first d) (faults_at lay disk last d) → RisesOn disk setup.devices.items closed.devices.items d
  handed-rises d rose = rises-at disk setup.devices.items closed.devices.items d (seen_at first.devices d) (seen_at last.devices d) (setup-at d) (closed-at d) (stays-at d) rose
