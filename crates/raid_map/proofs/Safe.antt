-- A device that is safe has a map with all regions, whatever a stop leaves of it; and once an event of the world has come, each device that was in use at the start is safe.
use Rattle.std.proofs.Common.{◌≡◌, ◌≢◌, ◌⊎◌, inl, inr, ℕ, List, [], ◌∷◌, ◌++◌, Bool, true, refl, sym, ◌∙◌, ap, subst, arith}
use Rattle.std.specs.Prelude.{Contains}
use Rattle.std.proofs.lemmas.Bool.{cases_eq}
use Rattle.std.proofs.lemmas.List.Elements.{Contains-append_cases}
use Rattle.lay_core.specs.Layout.{Shape, IsLayout}
use Rattle.eng_world.specs.declared.item.Traced.{Traced}
use Rattle.eng_world.specs.World.{World}
use Rattle.eng_world.specs.Planning.{Graphs, Promises}
use Rattle.eng_world.specs.Step.{Step}
use Rattle.eng_world.proofs.Caused.{tail-has, head-has}
use Rattle.raid_map.specs.Stops.{Logged, Stored, SameSector, MayHold}
use Rattle.raid_map.specs.Mapped.{Event, Mark, Settle, Happens, Clear, Mapped, Writes, Settles, Logs, IsSafe, MarksAll, HasMarks, IsUsed, MappedRun, IsStart}
use Rattle.raid_map.proofs.Holding.{cons-cases, in-none, map-same, Unclear, unclear-tail, traced, event-lies, within-tail}

pub marks-same : (serial stripes : ℕ) (regions : ℕ → Bool) (a b : ℕ → ℕ) → SameSector a b → MarksAll serial stripes regions b → MarksAll serial stripes regions a
marks-same serial stripes regions a b same h = record { marks = h.marks; all = h.all; map = map-same serial stripes h.marks a b same h.map }

-- it was marked
abbrev pub WasMarked : List Event → ℕ → Type 0
WasMarked events d = (marks : ℕ → Bool) × Contains events (Mark d marks)

split-cons : {X : Type 0} (x z : X) (xs ys : List X) → x ∷ xs ≡ z ∷ ys → (x ≡ z) × (xs ≡ ys)
split-cons x z xs ys h = (let a : x ≡ z = cc in a, let b : xs ≡ ys = cc in b)

middle-has : {X : Type 0} (later : List X) (x : X) (before xs : List X) → xs ≡ later ++ x ∷ before → Contains xs x
middle-has [] x before xs h = subst (λ l. Contains l x) (sym h) (head-has x before)
middle-has (z ∷ later) x before xs h = subst (λ l. Contains l x) (sym h) (tail-has z (later ++ x ∷ before) x (middle-has later x before (later ++ x ∷ before) refl))

-- a device that is safe was so before the last event, or is settled by it and was marked before
safe-cases : (x : Event) (events : List Event) (d : ℕ) → IsSafe (x ∷ events) d → IsSafe events d ⊎ ((x ≡ Settle d) × WasMarked events d)
safe-cases x events d h = go h.later h.split h.settled
  where
    go : (later : List Event) → x ∷ events ≡ later ++ Mark d h.marks ∷ h.before → Contains later (Settle d) → IsSafe events d ⊎ ((x ≡ Settle d) × WasMarked events d)
    go [] split has = in-none (Settle d) has
    go (z ∷ later) split has =
        let p = split-cons x z events (later ++ Mark d h.marks ∷ h.before) split in
        elim (cons-cases z later (Settle d) has) [
          | inl e ↦ inr (p.0 ∙ e, (h.marks, middle-has later (Mark d h.marks) h.before events p.1))
          | inr has ↦ inl (record { later = later; marks = h.marks; before = h.before; split = p.1; settled = has })
        ]

pub safe-on : (x : Event) (events : List Event) (d : ℕ) → IsSafe events d → IsSafe (x ∷ events) d
safe-on x events d h = record { later = x ∷ h.later; marks = h.marks; before = h.before; split = ap (λ l. x ∷ l) h.split; settled = tail-has x h.later (Settle d) h.settled }

module _ (y : Shape) (layout : IsLayout y) (graphs : Graphs) (promises : Promises graphs) (serial : ℕ) (regions : ℕ → Bool) (start : Mapped) (s : IsStart y start) where
  abbrev Run : List Event → Mapped → Type 0
  Run events now = MappedRun y graphs serial regions start events now

  abbrev pub Good : (ℕ → ℕ) → Type 0
  Good bytes = MarksAll serial y.stripes regions bytes

  -- what the device holds is a map if it was marked, and all that a stop may leave is if it is safe
  pub record Maps (events : List Event) (now : Mapped) : Type 0 where
    pub here : (d : ℕ) → WasMarked events d → Good ((now.stored d).now 1)
    pub left : (d : ℕ) (bytes : ℕ → ℕ) → IsSafe events d → MayHold (now.stored d) 1 bytes → Good bytes

  pub here-of : (P : ℕ → Stored → Type 0) (d : ℕ) (old new : ℕ → Stored) → ((k : ℕ) → k ≢ d → new k ≡ old k) → P d (new d) → ((k : ℕ) → k ≢ d → P k (old k)) → (k : ℕ) → P k (new k)
  here-of P d old new others here was k = elim (cases_eq k d) [
    | inl e ↦ subst (λ j. P j (new j)) (sym e) here
    | inr ne ↦ subst (P k) (sym (others k ne)) (was k ne)
  ]

  marked-before : (x : Event) (events : List Event) (d : ℕ) → WasMarked (x ∷ events) d → ((marks : ℕ → Bool) → x ≡ Mark d marks → ⊥) → WasMarked events d
  marked-before x events d h not = elim (cons-cases x events (Mark d h.0) h.1) [ inl e ↦ absurd (not h.0 e) | inr has ↦ (h.0, has) ]

  safe-before : (x : Event) (events : List Event) (d : ℕ) → IsSafe (x ∷ events) d → (x ≡ Settle d → ⊥) → IsSafe events d
  safe-before x events d h not = elim (safe-cases x events d h) [ inl q ↦ q | inr q ↦ absurd (not q.0) ]

  mark-maps : (events : List Event) (d : ℕ) (marks : ℕ → Bool) (old new : Mapped) → Writes serial y.stripes d marks old.stored new.stored → ((r : ℕ) → regions r ≡ true → marks r ≡ true) → Maps events old → Maps (Mark d marks ∷ events) new
  mark-maps events d marks old new w all h = record {
    here = λ k was. here-of (λ j z. WasMarked (Mark d marks ∷ events) j → Good (z.now 1)) d old.stored new.stored w.others
        (λ was. marks-same serial y.stripes regions ((new.stored d).now 1) w.entry.bytes w.now written)
        (λ j ne was. h.here j (marked-before (Mark d marks) events j was (λ m e. ne (device-is j m e)))) k was;
    left = λ k bytes safe may. here-of (λ j z. IsSafe (Mark d marks ∷ events) j → MayHold z 1 bytes → Good bytes) d old.stored new.stored w.others
        (λ safe may. before bytes (safe-before (Mark d marks) events d safe no-settle) may)
        (λ j ne safe may. h.left j bytes (safe-before (Mark d marks) events j safe no-settle) may) k safe may;
  }
    where
      written : Good w.entry.bytes
      written = record { marks = marks; all = all; map = w.map }

      no-settle : {j : ℕ} → Mark d marks ≡ Settle j → ⊥
      no-settle e = let u : ⊥ = cc in u

      device-is : (j : ℕ) (m : ℕ → Bool) → Mark d marks ≡ Mark j m → j ≡ d
      device-is j m e = let q : d ≡ j = cc in sym q

      before : (bytes : ℕ → ℕ) → IsSafe events d → MayHold (new.stored d) 1 bytes → Good bytes
      before bytes safe (inl q) = h.left d bytes safe (inl (λ k kw. q k kw ∙ w.settled 1 k))
      before bytes safe (inr q) = elim (cons-cases w.entry (old.stored d).logged q.entry (subst (λ l. Contains l q.entry) w.logged q.has)) [
        | inl e ↦ marks-same serial y.stripes regions bytes w.entry.bytes (λ k kw. q.same k kw ∙ ap (λ (l : Logged). l.bytes k) (sym e)) written
        | inr has ↦ h.left d bytes safe (inr (record { entry = q.entry; has = has; sector = q.sector; same = q.same }))
      ]

  settle-maps : (events : List Event) (d : ℕ) (old new : Mapped) → Settles d old.stored new.stored → Maps events old → Maps (Settle d ∷ events) new
  settle-maps events d old new w h = record {
    here = λ k was. here-of (λ j z. WasMarked (Settle d ∷ events) j → Good (z.now 1)) d old.stored new.stored w.others
        (λ was. marks-same serial y.stripes regions ((new.stored d).now 1) ((old.stored d).now 1) (λ k kw. w.now 1 k) (h.here d (marked-before (Settle d) events d was no-mark)))
        (λ j ne was. h.here j (marked-before (Settle d) events j was no-mark)) k was;
    left = λ k bytes safe may. here-of (λ j z. IsSafe (Settle d ∷ events) j → MayHold z 1 bytes → Good bytes) d old.stored new.stored w.others
        (λ safe may. now bytes (marked safe) may)
        (λ j ne safe may. h.left j bytes (safe-before (Settle d) events j safe (λ e. ne (device-is j e))) may) k safe may;
  }
    where
      no-mark : {j : ℕ} (m : ℕ → Bool) → Settle d ≡ Mark j m → ⊥
      no-mark m e = let u : ⊥ = cc in u

      device-is : (j : ℕ) → Settle d ≡ Settle j → j ≡ d
      device-is j e = let q : d ≡ j = cc in sym q

      marked : IsSafe (Settle d ∷ events) d → WasMarked events d
      marked safe = elim (safe-cases (Settle d) events d safe) [ inl q ↦ (q.marks, middle-has q.later (Mark d q.marks) q.before events q.split) | inr q ↦ q.1 ]

      now : (bytes : ℕ → ℕ) → WasMarked events d → MayHold (new.stored d) 1 bytes → Good bytes
      now bytes was (inl q) = marks-same serial y.stripes regions bytes ((old.stored d).now 1) (λ k kw. q k kw ∙ w.settled 1 k) (h.here d was)
      now bytes was (inr q) = in-none q.entry (subst (λ l. Contains l q.entry) w.logged q.has)

  -- an event that writes no sector 1 adds nothing to what a stop may leave of it
  pub logs-before : (d : ℕ) (old new : World) (was is : Stored) (l : Logs d old new was is) → ((entry : Logged) → Contains l.more entry → entry.sector ≡ 1 → ⊥) → (bytes : ℕ → ℕ) → MayHold is 1 bytes → MayHold was 1 bytes
  logs-before d old new was is l low bytes (inl q) = inl (λ k kw. q k kw ∙ l.settled 1 k)
  logs-before d old new was is l low bytes (inr q) = elim (Contains-append_cases l.more was.logged q.entry (subst (λ z. Contains z q.entry) l.logged q.has)) [
    | inl has ↦ absurd (low q.entry has q.sector)
    | inr has ↦ inr (record { entry = q.entry; has = has; sector = q.sector; same = q.same })
  ]

  -- it writes none
  abbrev pub NoMaps : (old new : Mapped) → ((d : ℕ) → Logs d old.world new.world (old.stored d) (new.stored d)) → Type 0
  NoMaps old new logs = (d : ℕ) (entry : Logged) → Contains (logs d).more entry → entry.sector ≡ 1 → ⊥

  happens-maps : (events : List Event) (e : Traced) (old new : Mapped) (logs : (d : ℕ) → Logs d old.world new.world (old.stored d) (new.stored d)) → NoMaps old new logs → Maps events old → Maps (Happens e ∷ events) new
  happens-maps events e old new logs low h = record {
    here = λ d was. marks-same serial y.stripes regions ((new.stored d).now 1) ((old.stored d).now 1) (λ k kw. (logs d).map k) (h.here d (marked-before (Happens e) events d was (λ m e. let u : ⊥ = cc in u)));
    left = λ d bytes safe may. h.left d bytes (safe-before (Happens e) events d safe (λ e. let u : ⊥ = cc in u)) (logs-before d old.world new.world (old.stored d) (new.stored d) (logs d) (low d) bytes may);
  }

  module _ (all : List Traced) where
    pub no-maps : (events : List Event) (e : Traced) (old new : Mapped) → ((z : Traced) → Contains (traced events) z → Contains all z) → Run events old → Step y graphs e old.world new.world
        → (logs : (d : ℕ) → Logs d old.world new.world (old.stored d) (new.stored d)) → NoMaps old new logs
    no-maps events e old new within run step logs d entry has is =
        let q = (event-lies y layout graphs promises serial regions start s all events old e new.world within run step d (old.stored d) (new.stored d) (logs d) entry has).sector in
        omega (arith, q, is)

    pub maps : (events : List Event) (now : Mapped) → ((z : Traced) → Contains (traced events) z → Contains all z) → Unclear events → Run events now → Maps events now
    maps [] now within clear h = record { here = λ d was. in-none (Mark d was.0) was.1; left = λ d bytes safe may. nothing d safe.marks safe.before safe.later safe.split }
      where
        nothing : {A : Type 0} (d : ℕ) (marks : ℕ → Bool) (before later : List Event) → [] ≡ later ++ Mark d marks ∷ before → A
        nothing d marks before [] e = absurd (let u : ⊥ = cc in u)
        nothing d marks before (z ∷ later) e = absurd (let u : ⊥ = cc in u)
    maps (Mark d marks ∷ events) now within clear h = mark-maps events d marks h.0 now h.2.1 h.2.2 (maps events h.0 within (unclear-tail (Mark d marks) events clear) h.1)
    maps (Settle d ∷ events) now within clear h = settle-maps events d h.0 now h.2.1 (maps events h.0 within (unclear-tail (Settle d) events clear) h.1)
    maps (Happens e ∷ events) now within clear h =
        let w = within-tail y layout graphs promises serial regions start s all (Happens e) events within in
        happens-maps events e h.0 now h.2.1 (no-maps events e h.0 now w h.1 h.2.0 h.2.1) (maps events h.0 w (unclear-tail (Happens e) events clear) h.1)
    maps (Clear d ∷ events) now within clear h = absurd (clear d (head-has (Clear d) events))

  -- ## Who is safe

  -- an event of the world has come, or none has
  pub data HasCome (events : List Event) : Type 0 where
    some : (e : Traced) → Contains events (Happens e) → HasCome events
    none : ((e : Traced) → Contains events (Happens e) → ⊥) → HasCome events

  pub has-come : (events : List Event) → HasCome events
  has-come [] = none (λ e has. in-none (Happens e) has)
  has-come (x ∷ events) = go x (has-come events)
    where
      quiet : (x : Event) → ((e : Traced) → x ≡ Happens e → ⊥) → HasCome events → HasCome (x ∷ events)
      quiet x not (some e has) = some e (tail-has x events (Happens e) has)
      quiet x not (none h) = none (λ e has. elim (cons-cases x events (Happens e) has) [ inl is ↦ not e is | inr has ↦ h e has ])

      go : (x : Event) → HasCome events → HasCome (x ∷ events)
      go (Mark d marks) h = quiet (Mark d marks) (λ e is. let u : ⊥ = cc in u) h
      go (Settle d) h = quiet (Settle d) (λ e is. let u : ⊥ = cc in u) h
      go (Happens e) h = some e (head-has (Happens e) events)
      go (Clear d) h = quiet (Clear d) (λ e is. let u : ⊥ = cc in u) h

  -- until one has come the world is what it was
  pub still-there : (events : List Event) (now : Mapped) → ((e : Traced) → Contains events (Happens e) → ⊥) → Run events now → now.world ≡ start.world
  still-there [] now never h = ap (λ (m : Mapped). m.world) h
  still-there (Mark d marks ∷ events) now never h = h.2.0 ∙ still-there events h.0 (λ e has. never e (tail-has (Mark d marks) events (Happens e) has)) h.1
  still-there (Settle d ∷ events) now never h = h.2.0 ∙ still-there events h.0 (λ e has. never e (tail-has (Settle d) events (Happens e) has)) h.1
  still-there (Happens e ∷ events) now never h = absurd (never e (head-has (Happens e) events))
  still-there (Clear d ∷ events) now never h = h.2.0 ∙ still-there events h.0 (λ e has. never e (tail-has (Clear d) events (Happens e) has)) h.1

  -- the device had its marks at the start, or is safe
  abbrev pub HasOrSafe : List Event → ℕ → Type 0
  HasOrSafe events d = HasMarks serial y.stripes regions (start.stored d) ⊎ IsSafe events d

  or-safe-on : (x : Event) (events : List Event) (d : ℕ) → HasOrSafe events d → HasOrSafe (x ∷ events) d
  or-safe-on x events d (inl had) = inl had
  or-safe-on x events d (inr safe) = inr (safe-on x events d safe)

  -- an event of the world that is one of these, of which the last is none, is one of those before
  earlier-has : (x : Event) (events : List Event) (e : Traced) → ((z : Traced) → x ≡ Happens z → ⊥) → Contains (x ∷ events) (Happens e) → Contains events (Happens e)
  earlier-has x events e not has = elim (cons-cases x events (Happens e) has) [ inl is ↦ absurd (not e is) | inr q ↦ q ]

  pub safe-since : (events : List Event) (now : Mapped) → Run events now → (e : Traced) → Contains events (Happens e) → (d : ℕ) → IsUsed start.world d → HasOrSafe events d
  safe-since [] now h e has d used = in-none (Happens e) has
  safe-since (Mark j marks ∷ events) now h e has d used = or-safe-on (Mark j marks) events d (safe-since events h.0 h.1 e (earlier-has (Mark j marks) events e (λ z is. let u : ⊥ = cc in u) has) d used)
  safe-since (Settle j ∷ events) now h e has d used = or-safe-on (Settle j) events d (safe-since events h.0 h.1 e (earlier-has (Settle j) events e (λ z is. let u : ⊥ = cc in u) has) d used)
  safe-since (Clear j ∷ events) now h e has d used = or-safe-on (Clear j) events d (safe-since events h.0 h.1 e (earlier-has (Clear j) events e (λ z is. let u : ⊥ = cc in u) has) d used)
  safe-since (Happens x ∷ events) now h e has d used = or-safe-on (Happens x) events d (go (λ e has. safe-since events h.0 h.1 e has d used) (has-come events))
    where
      go : ((e : Traced) → Contains events (Happens e) → HasOrSafe events d) → HasCome events → HasOrSafe events d
      go before (some e has) = before e has
      go before (none never) = h.2.3 d used (subst (λ w. IsUsed w d) (sym (still-there events h.0 never h.1)) used)
