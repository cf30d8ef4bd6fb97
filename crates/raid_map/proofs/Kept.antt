-- Until a map is cleared, what a stop may leave of a device's sector 1 is what it might have left at the start, or a map with all regions.
use Rattle.std.proofs.Common.{◌≡◌, ◌⊎◌, inl, inr, ℕ, List, [], ◌∷◌, Bool, true, sym, ◌∙◌, ap, subst}
use Rattle.std.specs.Prelude.{Contains}
use Rattle.lay_core.specs.Layout.{Shape, IsLayout}
use Rattle.eng_world.specs.declared.item.Traced.{Traced}
use Rattle.eng_world.specs.Planning.{Graphs, Promises}
use Rattle.eng_world.proofs.Caused.{head-has}
use Rattle.raid_map.specs.Stops.{Logged, Stored, SameSector, MayHold}
use Rattle.raid_map.specs.Mapped.{Event, Mark, Settle, Happens, Clear, Mapped, Writes, Settles, Logs, IsUsed, MappedRun, IsStart}
use Rattle.raid_map.proofs.Holding.{cons-cases, in-none, sector-refl, may-same, Unclear, unclear-tail, traced, within-tail}
use Rattle.raid_map.proofs.Safe.{marks-same, Good, here-of, logs-before, NoMaps, no-maps, maps, safe-since}

module _ (y : Shape) (layout : IsLayout y) (graphs : Graphs) (promises : Promises graphs) (serial : ℕ) (regions : ℕ → Bool) (start : Mapped) (s : IsStart y start) where
  abbrev Run : List Event → Mapped → Type 0
  Run events now = MappedRun y graphs serial regions start events now

  abbrev All : (ℕ → ℕ) → Type 0
  All bytes = Good y layout graphs promises serial regions start s bytes

  -- the device holds its sector 1 of the start, or a map with all regions
  abbrev KeptNow : ℕ → Stored → Type 0
  KeptNow d x = SameSector (x.now 1) ((start.stored d).now 1) ⊎ All (x.now 1)

  -- and so is what a stop may leave of it
  abbrev KeptLeft : ℕ → Stored → Type 0
  KeptLeft d x = (bytes : ℕ → ℕ) → MayHold x 1 bytes → MayHold (start.stored d) 1 bytes ⊎ All bytes

  pub record Keeps (now : Mapped) : Type 0 where
    pub here : (d : ℕ) → KeptNow d (now.stored d)
    pub left : (d : ℕ) → KeptLeft d (now.stored d)

  mark-keeps : (d : ℕ) (marks : ℕ → Bool) (old new : Mapped) → Writes serial y.stripes d marks old.stored new.stored → ((r : ℕ) → regions r ≡ true → marks r ≡ true) → Keeps old → Keeps new
  mark-keeps d marks old new w all h = record {
    here = here-of y layout graphs promises serial regions start s KeptNow d old.stored new.stored w.others
        (inr (marks-same serial y.stripes regions ((new.stored d).now 1) w.entry.bytes w.now written)) (λ k ne. h.here k);
    left = here-of y layout graphs promises serial regions start s KeptLeft d old.stored new.stored w.others left (λ k ne. h.left k);
  }
    where
      written : All w.entry.bytes
      written = record { marks = marks; all = all; map = w.map }

      left : KeptLeft d (new.stored d)
      left bytes (inl q) = h.left d bytes (inl (λ k kw. q k kw ∙ w.settled 1 k))
      left bytes (inr q) = elim (cons-cases w.entry (old.stored d).logged q.entry (subst (λ l. Contains l q.entry) w.logged q.has)) [
        | inl e ↦ inr (marks-same serial y.stripes regions bytes w.entry.bytes (λ k kw. q.same k kw ∙ ap (λ (l : Logged). l.bytes k) (sym e)) written)
        | inr has ↦ h.left d bytes (inr (record { entry = q.entry; has = has; sector = q.sector; same = q.same }))
      ]

  settle-keeps : (d : ℕ) (old new : Mapped) → Settles d old.stored new.stored → Keeps old → Keeps new
  settle-keeps d old new w h = record {
    here = here-of y layout graphs promises serial regions start s KeptNow d old.stored new.stored w.others (here (h.here d)) (λ k ne. h.here k);
    left = here-of y layout graphs promises serial regions start s KeptLeft d old.stored new.stored w.others (left (h.here d)) (λ k ne. h.left k);
  }
    where
      here : KeptNow d (old.stored d) → KeptNow d (new.stored d)
      here (inl same) = inl (λ k kw. w.now 1 k ∙ same k kw)
      here (inr good) = inr (marks-same serial y.stripes regions ((new.stored d).now 1) ((old.stored d).now 1) (λ k kw. w.now 1 k) good)

      left : KeptNow d (old.stored d) → KeptLeft d (new.stored d)
      left (inl same) bytes (inl q) = inl (may-same (start.stored d) 1 bytes ((start.stored d).now 1) (λ k kw. q k kw ∙ w.settled 1 k ∙ same k kw) (s.may_hold d 1))
      left (inr good) bytes (inl q) = inr (marks-same serial y.stripes regions bytes ((old.stored d).now 1) (λ k kw. q k kw ∙ w.settled 1 k) good)
      left was bytes (inr q) = in-none q.entry (subst (λ l. Contains l q.entry) w.logged q.has)

  happens-keeps : (old new : Mapped) (logs : (d : ℕ) → Logs d old.world new.world (old.stored d) (new.stored d)) → NoMaps y layout graphs promises serial regions start s old new logs → Keeps old → Keeps new
  happens-keeps old new logs low h = record {
    here = λ d. here d (h.here d);
    left = λ d bytes may. h.left d bytes (logs-before y layout graphs promises serial regions start s d old.world new.world (old.stored d) (new.stored d) (logs d) (low d) bytes may);
  }
    where
      here : (d : ℕ) → KeptNow d (old.stored d) → KeptNow d (new.stored d)
      here d (inl same) = inl (λ k kw. (logs d).map k ∙ same k kw)
      here d (inr good) = inr (marks-same serial y.stripes regions ((new.stored d).now 1) ((old.stored d).now 1) (λ k kw. (logs d).map k) good)

  module _ (all : List Traced) where
    pub keeps : (events : List Event) (now : Mapped) → ((z : Traced) → Contains (traced events) z → Contains all z) → Unclear events → Run events now → Keeps now
    keeps [] now within clear h = subst Keeps (sym h) (record { here = λ d. inl (sector-refl ((start.stored d).now 1)); left = λ d bytes may. inl may })
    keeps (Mark d marks ∷ events) now within clear h = mark-keeps d marks h.0 now h.2.1 h.2.2 (keeps events h.0 within (unclear-tail (Mark d marks) events clear) h.1)
    keeps (Settle d ∷ events) now within clear h = settle-keeps d h.0 now h.2.1 (keeps events h.0 within (unclear-tail (Settle d) events clear) h.1)
    keeps (Happens e ∷ events) now within clear h =
        let w = within-tail y layout graphs promises serial regions start s all (Happens e) events within in
        happens-keeps h.0 now h.2.1 (no-maps y layout graphs promises serial regions start s all events e h.0 now w h.1 h.2.0 h.2.1) (keeps events h.0 w (unclear-tail (Happens e) events clear) h.1)
    keeps (Clear d ∷ events) now within clear h = absurd (clear d (head-has (Clear d) events))

  -- once an event of the world has come, each device that was in use has a map with all regions, whatever a stop leaves of it
  pub used-marked : (events : List Event) (now : Mapped) → Unclear events → Run events now → (e : Traced) → Contains events (Happens e) → (d : ℕ) → IsUsed start.world d → (bytes : ℕ → ℕ) → MayHold (now.stored d) 1 bytes → All bytes
  used-marked events now clear run e has d used bytes may = elim (safe-since y layout graphs promises serial regions start s events now run e has d used) [
    | inr safe ↦ (maps y layout graphs promises serial regions start s (traced events) events now (λ z h. h) clear run).left d bytes safe may
    | inl had ↦ elim ((keeps (traced events) events now (λ z h. h) clear run).left d bytes may) [ inl was ↦ had bytes was | inr good ↦ good ]
  ]
