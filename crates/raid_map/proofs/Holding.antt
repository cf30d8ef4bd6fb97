-- What a run with a map keeps, until a map is cleared: what a stop may leave of a sector outside the regions it might have left at the start; and a device that is safe holds a map with all regions, whatever a stop leaves of it.
use Rattle.std.proofs.Common.{Option, Some, None, ◌≡◌, ◌≢◌, ◌≤◌, ◌+◌, ◌/◌, ◌%◌, ◌⊎◌, inl, inr, ℕ, zero, suc, List, [], ◌∷◌, Bool, refl, sym, ◌∙◌, ap, subst, arith}
use Rattle.std.specs.Prelude.{Contains}
use Rattle.std.proofs.lemmas.Bool.{cases_eq}
use Rattle.std.proofs.lemmas.List.Elements.{Contains-append_cases}
use Rattle.lay_core.specs.Layout.{Shape, IsLayout}
use Rattle.eng_cols.specs.Contents.{InSync}
use Rattle.eng_world.specs.declared.item.Traced.{Traced}
use Rattle.graph_mean.specs.Graph.{kind_at}
use Rattle.graph_mean.specs.Steps.{stripe_of}
use Rattle.eng_cols.specs.declared.spot.Loss.{Loss}
use Rattle.eng_world.specs.World.{Plan, World, RunsAs}
use Rattle.eng_world.proofs.Clients.{nothing-runs}
use Rattle.raid_map.specs.Regions.{region_of}
use Rattle.raid_map.proofs.Asked.{asked-covers, step-plans}
use Rattle.raid_map.proofs.Chosen.{run-chosen}
use Rattle.eng_world.specs.Planning.{Graphs, Promises}
use Rattle.eng_world.specs.Step.{Step, EventsLead}
use Rattle.eng_world.specs.Rows.{HasHad}
use Rattle.eng_world.specs.Invariant.{Invariant}
use Rattle.eng_world.proofs.Moves.{Moves, moves}
use Rattle.eng_world.proofs.Placed.{EachPlaced, only-rows}
use Rattle.eng_world.proofs.Reaching.{reaches}
use Rattle.eng_world.proofs.Promised.{not-lost}
use Rattle.eng_world.proofs.Caused.{tail-has, head-has}
use Rattle.raid_map.specs.Regions.{number_at, IsMap}
use Rattle.raid_map.specs.Stops.{Logged, Stored, SameSector, MayHold}
use Rattle.raid_map.specs.Mapped.{Event, IsUnderWay, Mark, Settle, Happens, Clear, Mapped, Writes, Settles, Logs, Covers, MappedRun, IsStart}
use Rattle.raid_map.proofs.Sited.{IsMarked, stays, lies, each-sited, under-way}
use Rattle.raid_map.proofs.Words.{bit_of}

-- ## Lists

pub cons-cases : {X : Type 0} (x : X) (xs : List X) (z : X) → Contains (x ∷ xs) z → (x ≡ z) ⊎ Contains xs z
cons-cases x xs z (zero, below, is) = inl is
cons-cases x xs z (suc k, below, is) = inr (k, omega (arith, below), is)

pub in-none : {X : Type 0} {A : Type 0} (z : X) → Contains [] z → A
in-none z h = let l = h.1 in absurd (omega (arith, l))

-- ## Sectors

pub sector-refl : (a : ℕ → ℕ) → SameSector a a
sector-refl a k h = refl

pub sector-sym : (a b : ℕ → ℕ) → SameSector a b → SameSector b a
sector-sym a b h k kw = sym (h k kw)

pub sector-then : (a b c : ℕ → ℕ) → SameSector a b → SameSector b c → SameSector a c
sector-then a b c h i k kw = h k kw ∙ i k kw

-- what may be left is left, whatever stands behind its 512 bytes
pub may-same : (x : Stored) (n : ℕ) (a b : ℕ → ℕ) → SameSector a b → MayHold x n b → MayHold x n a
may-same x n a b same (inl h) = inl (sector-then a b (x.settled n) same h)
may-same x n a b same (inr h) = inr (record { entry = h.entry; has = h.has; sector = h.sector; same = sector-then a b h.entry.bytes same h.same })

-- and a map is a map
pub map-same : (serial stripes : ℕ) (marks : ℕ → Bool) (a b : ℕ → ℕ) → SameSector a b → IsMap serial stripes marks b → IsMap serial stripes marks a
map-same serial stripes marks a b same m = record {
  magic = λ k kw. same k (omega (arith, kw)) ∙ m.magic k kw;
  serial_is = number 8 (omega arith) ∙ m.serial_is;
  region_is = number 12 (omega arith) ∙ m.region_is;
  bits = λ r rw. ap (λ z. bit_of z (r % 8)) (same (16 + r / 8) (omega (arith, rw))) ∙ m.bits r rw;
}
  where
    number : (at : ℕ) → at ≤ 12 → number_at a at ≡ number_at b at
    number at h =
        let p = same at (omega (arith, h)) in
        let q = same (at + 1) (omega (arith, h)) in
        let r = same (at + 2) (omega (arith, h)) in
        let s = same (at + 3) (omega (arith, h)) in
        omega (arith, p, q, r, s)

-- ## The world's own run

abbrev pub traced : List Event → List Traced
traced [] = []
traced (Mark d marks ∷ events) = traced events
traced (Settle d ∷ events) = traced events
traced (Happens e ∷ events) = e ∷ traced events
traced (Clear d ∷ events) = traced events

-- each of them is an event of the whole
pub traced-has : (events : List Event) (e : Traced) → Contains (traced events) e → Contains events (Happens e)
traced-has [] e has = in-none e has
traced-has (Mark d marks ∷ events) e has = tail-has (Mark d marks) events (Happens e) (traced-has events e has)
traced-has (Settle d ∷ events) e has = tail-has (Settle d) events (Happens e) (traced-has events e has)
traced-has (Happens x ∷ events) e has = elim (cons-cases x (traced events) e has) [
  | inl is ↦ subst (λ z. Contains (Happens x ∷ events) (Happens z)) is (head-has (Happens x) events)
  | inr more ↦ tail-has (Happens x) events (Happens e) (traced-has events e more)
]
traced-has (Clear d ∷ events) e has = tail-has (Clear d) events (Happens e) (traced-has events e has)

-- none of them clears a map
abbrev pub Unclear : List Event → Type 0
Unclear events = (d : ℕ) → Contains events (Clear d) → ⊥

pub unclear-tail : (x : Event) (events : List Event) → Unclear (x ∷ events) → Unclear events
unclear-tail x events h d has = h d (tail-has x events (Clear d) has)

module _ (y : Shape) (layout : IsLayout y) (graphs : Graphs) (promises : Promises graphs) (serial : ℕ) (regions : ℕ → Bool) (start : Mapped) (s : IsStart y start) where
  abbrev sync : Type 0
  sync = InSync y start.world.contents start.world.columns

  abbrev Run : List Event → Mapped → Type 0
  Run events now = MappedRun y graphs serial regions start events now

  pub worlds : (events : List Event) (now : Mapped) → Run events now → EventsLead y graphs start.world (traced events) now.world
  worlds [] now h = ap (λ (m : Mapped). m.world) h
  worlds (Mark d marks ∷ events) now h = subst (λ w. EventsLead y graphs start.world (traced events) w) (sym h.2.0) (worlds events h.0 h.1)
  worlds (Settle d ∷ events) now h = subst (λ w. EventsLead y graphs start.world (traced events) w) (sym h.2.0) (worlds events h.0 h.1)
  worlds (Happens e ∷ events) now h = (h.0.world, worlds events h.0 h.1, h.2.0)
  worlds (Clear d ∷ events) now h = subst (λ w. EventsLead y graphs start.world (traced events) w) (sym h.2.0) (worlds events h.0 h.1)

  world-known : (events : List Event) (now : Mapped) → Run events now → now.world.lost ≡ None → Invariant y sync start.world.blocks now.world
  world-known events now h none = not-lost y sync start.world.blocks now.world (reaches y layout graphs promises start.world (traced events) now.world s.opening (worlds events now h)) none

  -- what runs writes into the regions alone
  pub covered : (events : List Event) (now : Mapped) → Run events now → Covers y regions now.world
  covered [] now h = λ c n unit buf r runs. nothing-runs (sym (s.opening.unbegun c).1 ∙ subst (λ (m : Mapped). RunsAs m.world c r) h runs)
  covered (Mark d marks ∷ events) now h = subst (Covers y regions) (sym h.2.0) (covered events h.0 h.1)
  covered (Settle d ∷ events) now h = subst (Covers y regions) (sym h.2.0) (covered events h.0 h.1)
  covered (Happens e ∷ events) now h = go now.world.lost refl (covered events h.0 h.1)
    where
      go : (o : Option Loss) → now.world.lost ≡ o → Covers y regions h.0.world → Covers y regions now.world
      go None kept was = asked-covers y graphs sync start.world.blocks regions now.world (world-known (Happens e ∷ events) now h kept)
          (run-chosen y layout graphs promises start.world s.opening (e ∷ traced events) now.world (worlds (Happens e ∷ events) now h) kept) h.2.2
      go (Some loss) is was = λ c n unit buf r runs kind.
          let q = step-plans y graphs e h.0.world now.world loss is h.2.0 c r runs in
          ap (λ (p : Plan). regions (region_of y.stripes (p.stripe (stripe_of p.graph buf)))) q.2 ∙ was c n unit buf q.0 q.1 (sym (ap (λ (p : Plan). kind_at p.graph n) q.2) ∙ kind)
  covered (Clear d ∷ events) now h = subst (Covers y regions) (sym h.2.0) (covered events h.0 h.1)

  -- ## One event of the world

  module _ (all : List Traced) where
    abbrev pub Had : ℕ → ℕ → Type 0
    Had c d = HasHad start.world all c d

    abbrev pub Marked : ℕ → ℕ → Type 0
    Marked d n = IsMarked y Had regions d n

    abbrev pub Within : List Event → Type 0
    Within events = (e : Traced) → Contains (traced events) e → Contains all e

    placed : (events : List Event) (now : Mapped) → Within events → Run events now → EachPlaced y Had now.world
    placed events now within h c m r at runs out is =
        let p = (only-rows y layout graphs promises start.world (traced events) now.world s.opening (worlds events now h)).placed c m r at runs out is in
        record { device = had p.device; row = p.row; range = p.range }
      where
        had : {c d : ℕ} → HasHad start.world (traced events) c d → Had c d
        had (inl h) = inl h
        had (inr h) = inr (h.0, within _ h.1)

    -- what is under way lies in the regions
    pub under-marked : (events : List Event) (now : Mapped) → Within events → Run events now → (d n : ℕ) → IsUnderWay y now.world d n → Marked d n
    under-marked events now within h d n u = under-way y Had regions now.world (placed events now within h) (each-sited y layout graphs promises start.world (traced events) now.world s.opening (worlds events now h)) (covered events now h) d n u

    event-moves : (events : List Event) (old : Mapped) (e : Traced) (new : World) → Run events old → Step y graphs e old.world new → Moves y graphs (Invariant y sync start.world.blocks) e old.world new
    event-moves events old e new h step = moves y graphs (Invariant y sync start.world.blocks) e old.world new (λ none. not-lost y sync start.world.blocks old.world (reaches y layout graphs promises start.world (traced events) old.world s.opening (worlds events old h)) none) step

    -- a sector outside the regions holds what it held
    event-stays : (events : List Event) (old : Mapped) (e : Traced) (new : World) → Within events → Run events old → Step y graphs e old.world new → (d n : ℕ) → (Marked d n → ⊥) → (k : ℕ) → new.contents d n k ≡ old.world.contents d n k
    event-stays events old e new within h step d n outside k =
        stays y layout sync start.world.blocks graphs Had regions e old.world new (event-moves events old e new h step) d n (placed events old within h) (each-sited y layout graphs promises start.world (traced events) old.world s.opening (worlds events old h)) (covered events old h) outside k

    -- and one that is logged lies in them
    pub event-lies : (events : List Event) (old : Mapped) (e : Traced) (new : World) → Within events → Run events old → Step y graphs e old.world new → (d : ℕ) (was is : Stored) (l : Logs d old.world new was is) (entry : Logged) → Contains l.more entry → Marked d entry.sector
    event-lies events old e new within h step d was is l entry has =
        let q = l.only entry has in
        lies y layout sync start.world.blocks graphs Had regions e old.world new (event-moves events old e new h step) d entry.sector (placed events old within h) (each-sited y layout graphs promises start.world (traced events) old.world s.opening (worlds events old h)) (covered events old h) q.call q.is_write

    -- ## Sectors outside the regions

    -- the sector is outside the regions, or no event of the world has come
    abbrev pub Spared : List Event → ℕ → ℕ → Type 0
    Spared events d n = (e : Traced) → Contains events (Happens e) → Marked d n → ⊥

    pub record Holds (events : List Event) (now : Mapped) : Type 0 where
      pub agrees : (d n k : ℕ) → n ≢ 1 → (now.stored d).now n k ≡ now.world.contents d n k
      pub same : (d n k : ℕ) → n ≢ 1 → Spared events d n → (now.stored d).now n k ≡ (start.stored d).now n k
      pub left : (d n : ℕ) (bytes : ℕ → ℕ) → n ≢ 1 → Spared events d n → MayHold (now.stored d) n bytes → MayHold (start.stored d) n bytes

    spared-tail : (x : Event) (events : List Event) (d n : ℕ) → Spared (x ∷ events) d n → Spared events d n
    spared-tail x events d n h e has = h e (tail-has x events (Happens e) has)

    -- the device of an event, and the others
    here-or : (P : ℕ → Stored → Type 0) (d : ℕ) (old new : ℕ → Stored) → ((k : ℕ) → k ≢ d → new k ≡ old k) → P d (new d) → ((k : ℕ) → P k (old k)) → (k : ℕ) → P k (new k)
    here-or P d old new others here was k = elim (cases_eq k d) [
      | inl e ↦ subst (λ j. P j (new j)) (sym e) here
      | inr ne ↦ subst (P k) (sym (others k ne)) (was k)
    ]

    writes-holds : (x : Event) (events : List Event) (d : ℕ) (marks : ℕ → Bool) (old new : Mapped) → new.world ≡ old.world → Writes serial y.stripes d marks old.stored new.stored → Holds events old → Holds (x ∷ events) new
    writes-holds x events d marks old new world w h = record {
      agrees = λ k n b ne. here-or (λ j z. z.now n b ≡ new.world.contents j n b) d old.stored new.stored w.others
          (w.rest n b ne ∙ h.agrees d n b ne ∙ ap (λ (v : World). v.contents d n b) (sym world))
          (λ j. h.agrees j n b ne ∙ ap (λ (v : World). v.contents j n b) (sym world)) k;
      same = λ k n b ne sp. here-or (λ j z. Spared (x ∷ events) j n → z.now n b ≡ (start.stored j).now n b) d old.stored new.stored w.others
          (λ sp. w.rest n b ne ∙ h.same d n b ne (spared-tail x events d n sp))
          (λ j sp. h.same j n b ne (spared-tail x events j n sp)) k sp;
      left = λ k n bytes ne sp may. here-or (λ j z. Spared (x ∷ events) j n → MayHold z n bytes → MayHold (start.stored j) n bytes) d old.stored new.stored w.others
          (λ sp may. h.left d n bytes ne (spared-tail x events d n sp) (before n bytes ne may))
          (λ j sp may. h.left j n bytes ne (spared-tail x events j n sp) may) k sp may;
    }
      where
        before : (n : ℕ) (bytes : ℕ → ℕ) → n ≢ 1 → MayHold (new.stored d) n bytes → MayHold (old.stored d) n bytes
        before n bytes ne (inl q) = inl (λ k kw. q k kw ∙ w.settled n k)
        before n bytes ne (inr q) = elim (cons-cases w.entry (old.stored d).logged q.entry (subst (λ l. Contains l q.entry) w.logged q.has)) [
          | inl e ↦ absurd (ne (sym q.sector ∙ ap (λ (l : Logged). l.sector) (sym e) ∙ w.sector))
          | inr has ↦ inr (record { entry = q.entry; has = has; sector = q.sector; same = q.same })
        ]

    settle-holds : (events : List Event) (d : ℕ) (old new : Mapped) → new.world ≡ old.world → Settles d old.stored new.stored → Holds events old → Holds (Settle d ∷ events) new
    settle-holds events d old new world w h = record {
      agrees = λ k n b ne. here-or (λ j z. z.now n b ≡ new.world.contents j n b) d old.stored new.stored w.others
          (w.now n b ∙ h.agrees d n b ne ∙ ap (λ (v : World). v.contents d n b) (sym world))
          (λ j. h.agrees j n b ne ∙ ap (λ (v : World). v.contents j n b) (sym world)) k;
      same = λ k n b ne sp. here-or (λ j z. Spared (Settle d ∷ events) j n → z.now n b ≡ (start.stored j).now n b) d old.stored new.stored w.others
          (λ sp. w.now n b ∙ h.same d n b ne (spared-tail (Settle d) events d n sp))
          (λ j sp. h.same j n b ne (spared-tail (Settle d) events j n sp)) k sp;
      left = λ k n bytes ne sp may. here-or (λ j z. Spared (Settle d ∷ events) j n → MayHold z n bytes → MayHold (start.stored j) n bytes) d old.stored new.stored w.others
          (λ sp may. settled n bytes ne (spared-tail (Settle d) events d n sp) may)
          (λ j sp may. h.left j n bytes ne (spared-tail (Settle d) events j n sp) may) k sp may;
    }
      where
        settled : (n : ℕ) (bytes : ℕ → ℕ) → n ≢ 1 → Spared events d n → MayHold (new.stored d) n bytes → MayHold (start.stored d) n bytes
        settled n bytes ne sp (inl q) = may-same (start.stored d) n bytes ((start.stored d).now n) (λ k kw. q k kw ∙ w.settled n k ∙ h.same d n k ne sp) (s.may_hold d n)
        settled n bytes ne sp (inr q) = in-none q.entry (subst (λ l. Contains l q.entry) w.logged q.has)

    happens-holds : (events : List Event) (e : Traced) (old new : Mapped) → Within events → Run events old → Step y graphs e old.world new.world → ((d : ℕ) → Logs d old.world new.world (old.stored d) (new.stored d)) → Holds events old → Holds (Happens e ∷ events) new
    happens-holds events e old new within run step logs h = record {
      agrees = λ d n k ne. (logs d).now n k ne;
      same = λ d n k ne sp. (logs d).now n k ne ∙ event-stays events old e new.world within run step d n (sp e (head-has (Happens e) events)) k ∙ sym (h.agrees d n k ne) ∙ h.same d n k ne (spared-tail (Happens e) events d n sp);
      left = λ d n bytes ne sp may. h.left d n bytes ne (spared-tail (Happens e) events d n sp) (before d n bytes (sp e (head-has (Happens e) events)) may);
    }
      where
        before : (d n : ℕ) (bytes : ℕ → ℕ) → (Marked d n → ⊥) → MayHold (new.stored d) n bytes → MayHold (old.stored d) n bytes
        before d n bytes outside (inl q) = inl (λ k kw. q k kw ∙ (logs d).settled n k)
        before d n bytes outside (inr q) = elim (Contains-append_cases (logs d).more (old.stored d).logged q.entry (subst (λ l. Contains l q.entry) (logs d).logged q.has)) [
          | inl has ↦ absurd (outside (subst (Marked d) q.sector (event-lies events old e new.world within run step d (old.stored d) (new.stored d) (logs d) q.entry has)))
          | inr has ↦ inr (record { entry = q.entry; has = has; sector = q.sector; same = q.same })
        ]

    pub within-tail : (x : Event) (events : List Event) → Within (x ∷ events) → Within events
    within-tail (Mark d marks) events h = h
    within-tail (Settle d) events h = h
    within-tail (Happens e) events h = λ z has. h z (tail-has e (traced events) z has)
    within-tail (Clear d) events h = h

    pub holds : (events : List Event) (now : Mapped) → Within events → Run events now → Holds events now
    holds [] now within h = subst (Holds []) (sym h) (record { agrees = λ d n k ne. s.now d n k ne; same = λ d n k ne sp. refl; left = λ d n bytes ne sp may. may })
    holds (Mark d marks ∷ events) now within h = writes-holds (Mark d marks) events d marks h.0 now h.2.0 h.2.1 (holds events h.0 within h.1)
    holds (Settle d ∷ events) now within h = settle-holds events d h.0 now h.2.0 h.2.1 (holds events h.0 within h.1)
    holds (Happens e ∷ events) now within h = happens-holds events e h.0 now (within-tail (Happens e) events within) h.1 h.2.0 h.2.1 (holds events h.0 (within-tail (Happens e) events within) h.1)
    holds (Clear d ∷ events) now within h = writes-holds (Clear d) events d _ h.0 now h.2.0 h.2.1 (holds events h.0 within h.1)
