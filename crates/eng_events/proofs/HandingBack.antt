-- What a core hands back as it is closed.
use Rattle.std.proofs.Common.{◌≡◌, ℕ, ◌<◌, List, length, map, get_or, sym, ap, ◌∙◌, arith, inl, inr, refl, Bool, true, false, Option, Some, None}
use Rattle.std.specs.Prelude.{slice_get, option_map}
use Rattle.std.proofs.lemmas.Bool.{cases_lt}
use Rattle.std.proofs.lemmas.List.{get_or_past, length-map}
use Rattle.std.proofs.lemmas.Option.{slice_get-map, slice_get-get_or}
use Rattle.blk_disk.specs.declared.disk.Disk.{Ghosts as DiskGhosts}
use Rattle.lay_core.specs.declared.layout.Layout.{Ghosts as LayoutGhosts}
use Rattle.eng_state.specs.declared.array.Array.{Array}
use Rattle.eng_parts.specs.Shelf.{Seen, seen_at}
use Rattle.eng_parts.specs.Brought.{at_home}
use Rattle.eng_events.specs.Opened.{NoneOut}
use Rattle.eng_state.specs.Sound.{IsSound}

-- ## Devices

-- what is at home is handed back
home-is : {D : Type 0} (s : Seen D) → (s.out ≡ true → ⊥) → at_home (Some s) ≡ Some s.device
home-is {D} s never = by s.out refl
  where
    by : (b : Bool) → s.out ≡ b → at_home (Some s) ≡ Some s.device
    by false e = ap (λ (b : Bool). at_home (Some (record { out = b; device = s.device }))) e
    by true e = absurd (never e)

back-at : {D : Type 0} (slots : List (Option (Seen D))) (d : ℕ) → d < length slots → slice_get (map at_home slots) d ≡ Some (at_home (get_or slots d None))
back-at slots d lt = slice_get-map at_home slots d ∙ ap (option_map at_home) (slice_get-get_or slots d None lt)

module _ {L D : Type 0} (lay : LayoutGhosts L) (disk : DiskGhosts D) (core : Array L D) (sound : IsSound lay disk core) (none : NoneOut core.clients) (given : List (Option D)) (is : given ≡ map at_home core.devices.slots) where
  pub back-count : length given ≡ length core.devices.slots
  back-count = ap length is ∙ length-map core.devices.slots at_home

  pub back-absent : (d : ℕ) → seen_at core.devices d ≡ None → d < length given → slice_get given d ≡ Some None
  back-absent d gone lt =
      let count = back-count in
      ap (λ (l : List (Option D)). slice_get l d) is ∙ (back-at core.devices.slots d (omega (arith, count, lt)) ∙ ap (λ (o : Option (Seen D)). Some (at_home o)) gone)

  pub back-devices : (d : ℕ) (s : Seen D) → seen_at core.devices d ≡ Some s → slice_get given d ≡ Some (Some s.device)
  back-devices d s here = elim (cases_lt d (length core.devices.slots)) [
    | inl lt ↦ ap (λ (l : List (Option D)). slice_get l d) is ∙ (back-at core.devices.slots d lt ∙ (ap (λ (o : Option (Seen D)). Some (at_home o)) here ∙ ap (λ (o : Option D). Some o) (home-is s home)))
    | inr ge ↦ let z : None ≡ Some s = sym (get_or_past core.devices.slots d None ge) ∙ here in absurd (let u : ⊥ = cc in u)
  ]
    where
      home : s.out ≡ true → ⊥
      home out = let h = sound.devices.held d s.device (here ∙ ap (λ (b : Bool). Some (record { out = b; device = s.device })) out) in none h.0 h.1 h.2.out

-- ## Clients

-- ## Columns
