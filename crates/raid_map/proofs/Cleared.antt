-- Once a map is cleared nothing is under way, and each device in use has been settled since the last event of the world: a stop leaves of it what it holds, but for its sector 1.
use Rattle.std.proofs.Common.{◌≡◌, ◌≢◌, ◌⊎◌, inl, inr, ℕ, List, [], ◌∷◌, ◌++◌, Bool, None, refl, sym, ◌∙◌, ap, subst}
use Rattle.std.specs.Prelude.{Contains}
use Rattle.std.proofs.lemmas.Bool.{cases_eq}
use Rattle.lay_core.specs.Layout.{Shape}
use Rattle.eng_world.specs.declared.item.Traced.{Traced}
use Rattle.eng_world.specs.World.{World}
use Rattle.eng_world.specs.Planning.{Graphs}
use Rattle.eng_world.proofs.Caused.{tail-has, head-has}
use Rattle.raid_map.specs.Stops.{Logged, Stored, SameSector, MayHold}
use Rattle.raid_map.specs.Mapped.{Event, Mark, Settle, Happens, Clear, Mapped, Writes, Settles, IsSettled, IsUsed, NoneRuns, MappedRun}
use Rattle.raid_map.proofs.Holding.{cons-cases, in-none, Unclear}

-- a map was cleared, or none was
pub data HasCleared (events : List Event) : Type 0 where
  cleared : (d : ℕ) → Contains events (Clear d) → HasCleared events
  unclear : Unclear events → HasCleared events

pub has-cleared : (events : List Event) → HasCleared events
has-cleared [] = unclear (λ d has. in-none (Clear d) has)
has-cleared (x ∷ events) = go x (has-cleared events)
  where
    quiet : (x : Event) → ((d : ℕ) → x ≡ Clear d → ⊥) → HasCleared events → HasCleared (x ∷ events)
    quiet x not (cleared d has) = cleared d (tail-has x events (Clear d) has)
    quiet x not (unclear h) = unclear (λ d has. elim (cons-cases x events (Clear d) has) [ inl is ↦ not d is | inr has ↦ h d has ])

    go : (x : Event) → HasCleared events → HasCleared (x ∷ events)
    go (Mark d marks) h = quiet (Mark d marks) (λ e is. let u : ⊥ = cc in u) h
    go (Settle d) h = quiet (Settle d) (λ e is. let u : ⊥ = cc in u) h
    go (Happens e) h = quiet (Happens e) (λ d is. let u : ⊥ = cc in u) h
    go (Clear d) h = cleared d (head-has (Clear d) events)

split-cons : {X : Type 0} (x z : X) (xs ys : List X) → x ∷ xs ≡ z ∷ ys → (x ≡ z) × (xs ≡ ys)
split-cons x z xs ys h = (let a : x ≡ z = cc in a, let b : xs ≡ ys = cc in b)

-- a device that is settled was so before the last event, which isn't one of the world, or is settled by it
settled-cases : (x : Event) (events : List Event) (d : ℕ) → IsSettled (x ∷ events) d → (x ≡ Settle d) ⊎ (((e : Traced) → x ≡ Happens e → ⊥) × IsSettled events d)
settled-cases x events d h = go h.later h.split h.last
  where
    go : (later : List Event) → x ∷ events ≡ later ++ Settle d ∷ h.before → ((e : Traced) → Contains later (Happens e) → ⊥) → (x ≡ Settle d) ⊎ (((e : Traced) → x ≡ Happens e → ⊥) × IsSettled events d)
    go [] split last = inl (split-cons x (Settle d) events h.before split).0
    go (z ∷ later) split last =
        let p = split-cons x z events (later ++ Settle d ∷ h.before) split in
        inr (
          (λ e is. last e (subst (Contains (z ∷ later)) (sym p.0 ∙ is) (head-has z later))),
          record { later = later; before = h.before; split = p.1; last = λ e has. last e (tail-has z later (Happens e) has) },
        )

settled-on : (x : Event) (events : List Event) (d : ℕ) → ((e : Traced) → x ≡ Happens e → ⊥) → IsSettled events d → IsSettled (x ∷ events) d
settled-on x events d not h = record { later = x ∷ h.later; before = h.before; split = ap (λ l. x ∷ l) h.split; last = λ e has. elim (cons-cases x h.later (Happens e) has) [ inl is ↦ not e is | inr q ↦ h.last e q ] }

module _ (y : Shape) (graphs : Graphs) (serial : ℕ) (regions : ℕ → Bool) (start : Mapped) where
  abbrev Run : List Event → Mapped → Type 0
  Run events now = MappedRun y graphs serial regions start events now

  -- a stop leaves what the device holds
  abbrev Rests : Stored → Type 0
  Rests x = (n : ℕ) (bytes : ℕ → ℕ) → n ≢ 1 → MayHold x n bytes → SameSector bytes (x.now n)

  writes-rest : (x : Event) (events : List Event) (d : ℕ) (marks : ℕ → Bool) (old new : Mapped) → ((k : ℕ) → x ≡ Settle k → ⊥) → Writes serial y.stripes d marks old.stored new.stored
      → ((k : ℕ) → IsSettled events k → Rests (old.stored k)) → (k : ℕ) → IsSettled (x ∷ events) k → Rests (new.stored k)
  writes-rest x events d marks old new not w h k safe = elim (cases_eq k d) [
    | inr ne ↦ subst Rests (sym (w.others k ne)) (h k was)
    | inl e ↦ subst (λ j. Rests (new.stored j)) (sym e) (here (subst (λ j. Rests (old.stored j)) e (h k was)))
  ]
    where
      was : IsSettled events k
      was = elim (settled-cases x events k safe) [ inl is ↦ absurd (not k is) | inr q ↦ q.1 ]

      here : Rests (old.stored d) → Rests (new.stored d)
      here r n bytes ne (inl q) b bw = r n bytes ne (inl (λ k kw. q k kw ∙ w.settled n k)) b bw ∙ sym (w.rest n b ne)
      here r n bytes ne (inr q) b bw = elim (cons-cases w.entry (old.stored d).logged q.entry (subst (λ l. Contains l q.entry) w.logged q.has)) [
        | inl e ↦ absurd (ne (sym q.sector ∙ ap (λ (l : Logged). l.sector) (sym e) ∙ w.sector))
        | inr has ↦ r n bytes ne (inr (record { entry = q.entry; has = has; sector = q.sector; same = q.same })) b bw ∙ sym (w.rest n b ne)
      ]

  settle-rest : (events : List Event) (d : ℕ) (old new : Mapped) → Settles d old.stored new.stored → ((k : ℕ) → IsSettled events k → Rests (old.stored k)) → (k : ℕ) → IsSettled (Settle d ∷ events) k → Rests (new.stored k)
  settle-rest events d old new w h k safe = elim (cases_eq k d) [
    | inr ne ↦ subst Rests (sym (w.others k ne)) (h k (was ne))
    | inl e ↦ subst (λ j. Rests (new.stored j)) (sym e) here
  ]
    where
      was : k ≢ d → IsSettled events k
      was ne = elim (settled-cases (Settle d) events k safe) [ inl is ↦ absurd (ne (let q : d ≡ k = cc in sym q)) | inr q ↦ q.1 ]

      here : Rests (new.stored d)
      here n bytes ne (inl q) b bw = q b bw ∙ w.settled n b ∙ sym (w.now n b)
      here n bytes ne (inr q) b bw = in-none q.entry (subst (λ l. Contains l q.entry) w.logged q.has)

  pub rests : (events : List Event) (now : Mapped) → Run events now → (k : ℕ) → IsSettled events k → Rests (now.stored k)
  rests [] now h k safe = nothing safe.later safe.split
    where
      nothing : {A : Type 0} (later : List Event) → [] ≡ later ++ Settle k ∷ safe.before → A
      nothing [] e = absurd (let u : ⊥ = cc in u)
      nothing (z ∷ later) e = absurd (let u : ⊥ = cc in u)
  rests (Mark d marks ∷ events) now h k safe = writes-rest (Mark d marks) events d marks h.0 now (λ k is. let u : ⊥ = cc in u) h.2.1 (rests events h.0 h.1) k safe
  rests (Settle d ∷ events) now h k safe = settle-rest events d h.0 now h.2.1 (rests events h.0 h.1) k safe
  rests (Clear d ∷ events) now h k safe = writes-rest (Clear d) events d _ h.0 now (λ k is. let u : ⊥ = cc in u) h.2.1 (rests events h.0 h.1) k safe
  rests (Happens e ∷ events) now h k safe = elim (settled-cases (Happens e) events k safe) [ inl is ↦ absurd (let u : ⊥ = cc in u) | inr q ↦ absurd (q.0 e refl) ]

  -- what holds since a map was cleared
  pub record IsQuiet (events : List Event) (now : Mapped) : Type 0 where
    pub lost : now.world.lost ≡ None
    pub none : NoneRuns now.world
    pub settled : (k : ℕ) → IsUsed now.world k → IsSettled events k

  quiet-on : (x : Event) (events : List Event) (old new : Mapped) → new.world ≡ old.world → ((e : Traced) → x ≡ Happens e → ⊥) → IsQuiet events old → IsQuiet (x ∷ events) new
  quiet-on x events old new same not q = record {
    lost = ap (λ (w : World). w.lost) same ∙ q.lost;
    none = subst NoneRuns (sym same) q.none;
    settled = λ k used. settled-on x events k not (q.settled k (subst (λ w. IsUsed w k) same used));
  }

  pub is-quiet : (events : List Event) (now : Mapped) → Run events now → (d : ℕ) → Contains events (Clear d) → IsQuiet events now
  is-quiet [] now h d has = in-none (Clear d) has
  is-quiet (Mark j marks ∷ events) now h d has = quiet-on (Mark j marks) events h.0 now h.2.0 (λ e is. let u : ⊥ = cc in u) (is-quiet events h.0 h.1 d (elim (cons-cases (Mark j marks) events (Clear d) has) [ inl is ↦ absurd (let u : ⊥ = cc in u) | inr q ↦ q ]))
  is-quiet (Settle j ∷ events) now h d has = quiet-on (Settle j) events h.0 now h.2.0 (λ e is. let u : ⊥ = cc in u) (is-quiet events h.0 h.1 d (elim (cons-cases (Settle j) events (Clear d) has) [ inl is ↦ absurd (let u : ⊥ = cc in u) | inr q ↦ q ]))
  is-quiet (Happens e ∷ events) now h d has = absurd (h.2.4 d (elim (cons-cases (Happens e) events (Clear d) has) [ inl is ↦ absurd (let u : ⊥ = cc in u) | inr q ↦ q ]))
  is-quiet (Clear j ∷ events) now h d has = quiet-on (Clear j) events h.0 now h.2.0 (λ e is. let u : ⊥ = cc in u) (record { lost = h.2.2; none = h.2.3; settled = h.2.4 })
