-- Which event is the first, among a client's and round the ring of clients.
use Rattle.std.proofs.Common.{◌≡◌, ◌↔◌, ℕ, ◌<◌, ◌≤◌, ◌+◌, ◌-◌, ◌%◌, Bool, true, false, is_some, length, subst, sym, ap, ◌∙◌, arith, inl, inr, refl, Option, Some, None}
use Rattle.std.specs.Prelude.{MatchOption}
use Rattle.std.proofs.lemmas.Bool.{cases_lt}
use Rattle.std.proofs.lemmas.List.{get_or_past}
use Rattle.std.proofs.lemmas.Option.{slice_get_past}
use Rattle.blk_disk.specs.declared.disk.Disk.{Ghosts as DiskGhosts}
use Rattle.lay_core.specs.declared.layout.Layout.{Ghosts as LayoutGhosts}
use Rattle.eng_cols.specs.declared.spot.Spot.{Spot}
use Rattle.eng_world.specs.declared.item.Event.{Event}
use Rattle.eng_world.specs.declared.item.Event.TheVariants as may
use Rattle.eng_clients.specs.declared.stage.Stage.TheVariants.{Nothing, Waits, Runs}
use Rattle.eng_state.specs.declared.array.Array.{Array}
use Rattle.eng_clients.specs.Desk.{Desk, desk_at, item_at, no_desk}
use Rattle.eng_world.specs.World.{World}
use Rattle.eng_state.specs.Shows.{Shows}
use Rattle.eng_state.specs.Sound.{IsSound}
use Rattle.eng_state.specs.Can.{CanFire, CanSkip}
use Rattle.eng_state.specs.Beginning.{CanBegin}
use Rattle.eng_state.specs.Serves.{Stands, CanTake, CanBack}
use Rattle.eng_state.specs.Doing.{CanDo}
use Rattle.eng_clients.specs.Busy.{IsQuiet}
use Rattle.eng_choice.specs.declared.chosen.Chosen.{Chosen}
use Rattle.eng_choice.specs.Picked.{client_of, rank, ring_at, half_from, half_to, CanNoNode, IsFirstNode, CanNothing, CanNothingAmong, IsFirstOf, IsFirstAmong, IsPicked, place_in, IsStuck}
use Rattle.eng_one.specs.Control.{Control, IsReadyIn, NoneReady, IsLeastReady}

-- what a test that says no says no to
pub refuted : (b : Bool) (P : Type 0) → (b ≡ true) ↔ P → b ≡ false → P → ⊥
refuted b P iff no_ h = let z : true ≡ false = sym (iff.1 h) ∙ no_ in let u : ⊥ = cc in u

-- ## The ring

-- a client stands somewhere in the ring
pub turn-of : (next c : ℕ) → c < 17 → (i : ℕ) × (i < 17) × (ring_at next i ≡ c)
turn-of next c below = ((c + 17 - next % 17) % 17, omega arith, omega (arith, below))

module _ {L D : Type 0} (lay : LayoutGhosts L) (disk : DiskGhosts D) (core : Array L D) where
  -- ## Whose event can be done

  -- a client that isn't there has no item, and does nothing
  past-nothing : IsSound lay disk core → (c : ℕ) → 17 ≤ c → desk_at core.clients c ≡ no_desk
  past-nothing sound c over = let all = sound.well.all in get_or_past core.clients c no_desk (omega (arith, all, over))

  no-event : (e : Event) → desk_at core.clients (client_of e) ≡ no_desk → CanDo lay core e → ⊥
  no-event (may.Begin c) is can = let z : None ≡ Some can.item = sym (ap item_at is) ∙ can.next in let u : ⊥ = cc in u
  no-event (may.Take c) is can = let z : Nothing ≡ Waits = sym (ap (λ (d : Desk). d.stage) is) ∙ can.waits in let u : ⊥ = cc in u
  no-event (may.Fire c n) is can = let z : Nothing ≡ Runs = sym (ap (λ (d : Desk). d.stage) is) ∙ can.runs in let u : ⊥ = cc in u
  no-event (may.Skip c n) is can = let z : Nothing ≡ Runs = sym (ap (λ (d : Desk). d.stage) is) ∙ can.runs in let u : ⊥ = cc in u
  no-event (may.Back c) is can = let z : Nothing ≡ Runs = sym (ap (λ (d : Desk). d.stage) is) ∙ can.runs in let u : ⊥ = cc in u

  pub can-below : IsSound lay disk core → (e : Event) → CanDo lay core e → client_of e < 17
  can-below sound e can = elim (cases_lt (client_of e) 17) [
    | inl below ↦ below
    | inr over ↦ absurd (no-event e (past-nothing sound (client_of e) over) can)
  ]

  -- where each client in the ring can nothing, no event can be done
  pub ring-stuck : IsSound lay disk core → ((i : ℕ) → i < 17 → CanNothing lay core (ring_at core.next i)) → IsStuck lay core
  ring-stuck sound none e can =
      let t = turn-of core.next (client_of e) (can-below sound e can) in
      none t.0 t.1 e (sym t.2) can

  -- ## The first of a client's events

  pub nothing-of : (c : ℕ) → (CanBegin core c → ⊥) → (CanTake lay core c → ⊥) → (CanBack lay core c → ⊥) → CanNoNode lay core c → CanNothing lay core c
  nothing-of c begin take back nodes (may.Begin k) is can = begin (subst (CanBegin core) is can)
  nothing-of c begin take back nodes (may.Take k) is can = take (subst (CanTake lay core) is can)
  nothing-of c begin take back nodes (may.Fire k n) is can = (nodes n).1 (subst (λ (j : ℕ). CanFire lay core j n) is can)
  nothing-of c begin take back nodes (may.Skip k n) is can = (nodes n).0 (subst (λ (j : ℕ). CanSkip lay core j n) is can)
  nothing-of c begin take back nodes (may.Back k) is can = back (subst (CanBack lay core) is can)

  -- what a client is doing tells which of its events can't be done
  pub nothing-begins : (c : ℕ) → (desk_at core.clients c).stage ≡ Nothing → (CanBegin core c → ⊥) → CanNothing lay core c
  nothing-begins c is begin =
      nothing-of c begin (λ take. let z : Nothing ≡ Waits = sym is ∙ take.waits in let u : ⊥ = cc in u) (λ back. let z : Nothing ≡ Runs = sym is ∙ back.runs in let u : ⊥ = cc in u)
      (λ n. ((λ skip. let z : Nothing ≡ Runs = sym is ∙ skip.runs in let u : ⊥ = cc in u), (λ fire. let z : Nothing ≡ Runs = sym is ∙ fire.runs in let u : ⊥ = cc in u)))

  pub waits-begins-not : (c : ℕ) → (desk_at core.clients c).stage ≡ Waits → CanBegin core c → ⊥
  waits-begins-not c is begin = let z : Waits ≡ Nothing = sym is ∙ begin.nothing in let u : ⊥ = cc in u

  pub nothing-taken : (c : ℕ) → (desk_at core.clients c).stage ≡ Waits → (CanTake lay core c → ⊥) → CanNothing lay core c
  nothing-taken c is take =
      nothing-of c (waits-begins-not c is) take (λ back. let z : Waits ≡ Runs = sym is ∙ back.runs in let u : ⊥ = cc in u)
      (λ n. ((λ skip. let z : Waits ≡ Runs = sym is ∙ skip.runs in let u : ⊥ = cc in u), (λ fire. let z : Waits ≡ Runs = sym is ∙ fire.runs in let u : ⊥ = cc in u)))

  pub runs-begins-not : (c : ℕ) → (desk_at core.clients c).stage ≡ Runs → CanBegin core c → ⊥
  runs-begins-not c is begin = let z : Runs ≡ Nothing = sym is ∙ begin.nothing in let u : ⊥ = cc in u

  pub runs-takes-not : (c : ℕ) → (desk_at core.clients c).stage ≡ Runs → CanTake lay core c → ⊥
  runs-takes-not c is take = let z : Runs ≡ Waits = sym is ∙ take.waits in let u : ⊥ = cc in u

  pub first-begin : (c : ℕ) → CanBegin core c → IsFirstOf lay core c (may.Begin c)
  first-begin c can = record { its = refl; can = can; first = λ other is h. omega arith }

  pub first-take : (c : ℕ) → (CanBegin core c → ⊥) → CanTake lay core c → IsFirstOf lay core c (may.Take c)
  first-take c begin can = record { its = refl; can = can; first = first }
    where
      first : (other : Event) → client_of other ≡ c → CanDo lay core other → 1 ≤ rank other
      first (may.Begin k) is h = absurd (begin (subst (CanBegin core) is h))
      first (may.Take k) is h = omega arith
      first (may.Fire k n) is h = omega arith
      first (may.Skip k n) is h = omega arith
      first (may.Back k) is h = omega arith

  pub first-back : (c : ℕ) → (CanBegin core c → ⊥) → (CanTake lay core c → ⊥) → CanBack lay core c → IsFirstOf lay core c (may.Back c)
  first-back c begin take can = record { its = refl; can = can; first = first }
    where
      first : (other : Event) → client_of other ≡ c → CanDo lay core other → 2 ≤ rank other
      first (may.Begin k) is h = absurd (begin (subst (CanBegin core) is h))
      first (may.Take k) is h = absurd (take (subst (CanTake lay core) is h))
      first (may.Fire k n) is h = omega arith
      first (may.Skip k n) is h = omega arith
      first (may.Back k) is h = omega arith

  module _ (c : ℕ) (begin : CanBegin core c → ⊥) (take : CanTake lay core c → ⊥) (back : CanBack lay core c → ⊥) (node : ℕ) (before : (k : ℕ) → k < node → (CanSkip lay core c k → ⊥) × (CanFire lay core c k → ⊥)) where
    not-before : (n : ℕ) → ((CanSkip lay core c n → ⊥) × (CanFire lay core c n → ⊥) → ⊥) → 3 + node ≤ 3 + n
    not-before n some = elim (cases_lt n node) [ inl lt ↦ absurd (some (before n lt)) | inr over ↦ omega (arith, over) ]

    pub least : (other : Event) → client_of other ≡ c → CanDo lay core other → 3 + node ≤ rank other
    least (may.Begin k) is h = absurd (begin (subst (CanBegin core) is h))
    least (may.Take k) is h = absurd (take (subst (CanTake lay core) is h))
    least (may.Fire k n) is h = not-before n (λ none. none.1 (subst (λ (j : ℕ). CanFire lay core j n) is h))
    least (may.Skip k n) is h = not-before n (λ none. none.0 (subst (λ (j : ℕ). CanSkip lay core j n) is h))
    least (may.Back k) is h = absurd (back (subst (CanBack lay core) is h))

  pub first-node : (c : ℕ) (e : Event) → (CanBegin core c → ⊥) → (CanTake lay core c → ⊥) → (CanBack lay core c → ⊥) → IsFirstNode lay core c e → IsFirstOf lay core c e
  first-node c e begin take back f = elim f.event [
    | inl is ↦ subst (IsFirstOf lay core c) (sym is) (record { its = refl; can = subst (CanDo lay core) is f.can; first = least c begin take back f.node f.before })
    | inr is ↦ subst (IsFirstOf lay core c) (sym is) (record { its = refl; can = subst (CanDo lay core) is f.can; first = least c begin take back f.node f.before })
  ]

  -- the client's first, by its nodes
  pub first-of : (c : ℕ) → (CanBegin core c → ⊥) → (CanTake lay core c → ⊥) → (CanBack lay core c → ⊥) → (o : Option Chosen) → MatchOption o (CanNoNode lay core c) (λ x. IsFirstNode lay core c x.event) → MatchOption o (CanNothing lay core c) (λ x. IsFirstOf lay core c x.event)
  first-of c begin take back None h = nothing-of c begin take back h
  first-of c begin take back (Some x) h = first-node c x.event begin take back h

  -- ## The first among some clients

  pub quiet-nothing : (c : ℕ) → IsQuiet (desk_at core.clients c) → CanNothing lay core c
  quiet-nothing c q =
      nothing-begins c q.nothing
      (λ begin. let z : None ≡ Some begin.item = sym (slice_get_past (desk_at core.clients c).items (length (desk_at core.clients c).replies) (omega (arith, q.replied))) ∙ begin.next in let u : ⊥ = cc in u)

  pub among-more : (from at c : ℕ) → CanNothingAmong lay core from at → ((k : ℕ) → at ≤ k → k < c → IsQuiet (desk_at core.clients k)) → CanNothingAmong lay core from c
  among-more from at c before quiet k least most = elim (cases_lt k at) [ inl low ↦ before k least low | inr high ↦ quiet-nothing k (quiet k high most) ]

  pub among-one : (from c : ℕ) → CanNothingAmong lay core from c → (o : Option Chosen) → is_some o ≡ false → MatchOption o (CanNothing lay core c) (λ x. IsFirstOf lay core c x.event) → CanNothingAmong lay core from (c + 1)
  among-one from c before None none h k least most = elim (cases_lt k c) [ inl low ↦ before k least low | inr high ↦ subst (CanNothing lay core) (let e : c ≡ k = omega (arith, high, most) in e) h ]
  among-one from c before (Some x) none h k least most = let z : true ≡ false = none in absurd (let u : ⊥ = cc in u)

  pub among-here : (from to c : ℕ) → from ≤ c → c < to → CanNothingAmong lay core from c → (o : Option Chosen) → is_some o ≡ true → MatchOption o (CanNothing lay core c) (λ x. IsFirstOf lay core c x.event) → MatchOption o (CanNothingAmong lay core from to) (λ x. IsFirstAmong lay core from to x.event)
  among-here from to c least most before None some h = let z : false ≡ true = some in absurd (let u : ⊥ = cc in u)
  among-here from to c least most before (Some x) some h = record { client = c; least = least; most = most; event = h; before = before }

  -- ## The first in the ring

  -- a client from where the ring begins on
  pub picked-on : (next : ℕ) → next ≡ core.next % 17 → (o : Option Chosen) → is_some o ≡ true → MatchOption o (CanNothingAmong lay core next 17) (λ x. IsFirstAmong lay core next 17 x.event) → MatchOption o (IsStuck lay core) (λ x. IsPicked lay core x.event)
  picked-on next is None some h = let z : false ≡ true = some in absurd (let u : ⊥ = cc in u)
  picked-on next is (Some x) some h = record {
    turn = h.client - next;
    within = omega (arith, h.most);
    event = subst (λ (c : ℕ). IsFirstOf lay core c x.event) (let at : h.client ≡ ring_at core.next (h.client - next) = omega (arith, is, h.least, h.most) in at) h.event;
    before = λ i lt. subst (CanNothing lay core) (let at : next + i ≡ ring_at core.next i = omega (arith, is, h.most, lt) in at) (h.before (next + i) (omega arith) (omega (arith, h.least, lt)));
  }

  pub nothing-in : (from to : ℕ) (o : Option Chosen) → is_some o ≡ false → MatchOption o (CanNothingAmong lay core from to) (λ x. IsFirstAmong lay core from to x.event) → CanNothingAmong lay core from to
  nothing-in from to None none h = h
  nothing-in from to (Some x) none h = let z : true ≡ false = none in absurd (let u : ⊥ = cc in u)

  -- or one before it
  pub picked-back : IsSound lay disk core → (next : ℕ) → next ≡ core.next % 17 → CanNothingAmong lay core next 17 → (o : Option Chosen) → MatchOption o (CanNothingAmong lay core 0 next) (λ x. IsFirstAmong lay core 0 next x.event) → MatchOption o (IsStuck lay core) (λ x. IsPicked lay core x.event)
  picked-back sound next is behind None h = ring-stuck sound (λ i lt. elim (cases_lt (next + i) 17) [
    | inl low ↦ subst (CanNothing lay core) (let at : next + i ≡ ring_at core.next i = omega (arith, is, low) in at) (behind (next + i) (omega arith) low)
    | inr high ↦ subst (CanNothing lay core) (let at : next + i - 17 ≡ ring_at core.next i = omega (arith, is, high, lt) in at) (h (next + i - 17) (omega arith) (omega (arith, high, lt, is)))
  ])
  picked-back sound next is behind (Some x) h = record {
    turn = h.client + 17 - next;
    within = omega (arith, h.most, is);
    event = subst (λ (c : ℕ). IsFirstOf lay core c x.event) (let at : h.client ≡ ring_at core.next (h.client + 17 - next) = omega (arith, is, h.most) in at) h.event;
    before = λ i lt. elim (cases_lt (next + i) 17) [
      | inl low ↦ subst (CanNothing lay core) (let at : next + i ≡ ring_at core.next i = omega (arith, is, low) in at) (behind (next + i) (omega arith) low)
      | inr high ↦ subst (CanNothing lay core) (let at : next + i - 17 ≡ ring_at core.next i = omega (arith, is, high, lt, h.most) in at) (h.before (next + i - 17) (omega arith) (omega (arith, high, lt)))
    ];
  }

  -- ## One half of the ring after the other

  abbrev pub InHalf : ℕ → Option Chosen → ℕ → Type 0
  InHalf next o half = MatchOption o (CanNothingAmong lay core (half_from next half) (half_to next half)) (λ x. IsFirstAmong lay core (half_from next half) (half_to next half) x.event)

  pub in-half : (from to next half : ℕ) → from ≡ half_from next half → to ≡ half_to next half → (o : Option Chosen) → MatchOption o (CanNothingAmong lay core from to) (λ x. IsFirstAmong lay core from to x.event) → InHalf next o half
  in-half from to next half f t o h =
      subst (λ (k : ℕ). MatchOption o (CanNothingAmong lay core (half_from next half) k) (λ x. IsFirstAmong lay core (half_from next half) k x.event)) t
      (subst (λ (k : ℕ). MatchOption o (CanNothingAmong lay core k to) (λ x. IsFirstAmong lay core k to x.event)) f h)

  -- where none of the other half can anything, the first of this one is the first of all
  pub picked-half : IsSound lay disk core → (next half : ℕ) → next ≡ core.next % 17 → half < 2 → (1 ≤ half → CanNothingAmong lay core next 17) → (o : Option Chosen) → is_some o ≡ true → InHalf next o half → MatchOption o (IsStuck lay core) (λ x. IsPicked lay core x.event)
  picked-half sound next half is two behind o some h = elim (cases_lt half 1) [
    | inl low ↦ picked-on next is o some (subst (InHalf next o) (let e : half ≡ 0 = omega (arith, low) in e) h)
    | inr high ↦ picked-back sound next is (behind high) o (subst (InHalf next o) (let e : half ≡ 1 = omega (arith, high, two) in e) h)
  ]

  -- what is known behind a half in which none can anything
  pub behind-half : (next half : ℕ) → (1 ≤ half → CanNothingAmong lay core next 17) → CanNothingAmong lay core (half_from next half) (half_to next half) → CanNothingAmong lay core next 17
  behind-half next half behind h = elim (cases_lt half 1) [
    | inl low ↦ subst (InHalf next None) (let e : half ≡ 0 = omega (arith, low) in e) h
    | inr high ↦ behind high
  ]

  pub before-half : (next half : ℕ) → half < 2 → 1 ≤ half → CanNothingAmong lay core (half_from next half) (half_to next half) → CanNothingAmong lay core 0 next
  before-half next half two one h = subst (InHalf next None) (let e : half ≡ 1 = omega (arith, one, two) in e) h

  -- ## The ring moves on

  -- the same core, whose ring begins elsewhere
  abbrev pub moved : ℕ → Array L D
  moved next = record core { next = next }

  pub can-moved : (next : ℕ) (e : Event) → CanDo lay core e → CanDo lay (moved next) e
  can-moved next (may.Begin c) h = record { not_lost = h.not_lost; nothing = h.nothing; item = h.item; next = h.next }
  can-moved next (may.Take c) h = record { not_lost = h.not_lost; waits = h.waits; is_free = h.is_free; fits = h.fits }
  can-moved next (may.Fire c n) h = record { not_lost = h.not_lost; runs = h.runs; ready = h.ready; placed = h.placed; device_home = h.device_home; buffers_home = h.buffers_home; few = h.few }
  can-moved next (may.Skip c n) h = record { not_lost = h.not_lost; runs = h.runs; ready = h.ready; after = h.after; unit = h.unit; buf = h.buf; write = h.write; nowhere = h.nowhere }
  can-moved next (may.Back c) h = record { not_lost = h.not_lost; runs = h.runs; undone = h.undone }

  pub place-moved : (next : ℕ) (e : Event) (at : Option Spot) → at ≡ place_in lay core e → at ≡ place_in lay (moved next) e
  place-moved next (may.Begin c) at h = h
  place-moved next (may.Take c) at h = h
  place-moved next (may.Fire c n) at h = h
  place-moved next (may.Skip c n) at h = h
  place-moved next (may.Back c) at h = h

  pub sound-moved : (next : ℕ) → IsSound lay disk core → IsSound lay disk (moved next)
  sound-moved next s = record {
    layout = s.layout;
    seated = s.seated;
    unit = s.unit;
    well = s.well;
    devices = s.devices;
    seats = s.seats;
    locked = s.locked;
    jobs = s.jobs;
  }

  pub stands-moved : (next : ℕ) → Stands lay core → Stands lay (moved next)
  stands-moved next s = record { kept = s.kept; serves = s.serves }

  pub shows-moved : (next : ℕ) (w : World) → Shows disk core w → Shows disk (moved next) w
  shows-moved next w s = record {
    contents = s.contents;
    failed = s.failed;
    calls = s.calls;
    columns = s.columns;
    clients = s.clients;
    free = s.free;
    out = s.out;
    rebuilt = s.rebuilt;
    history = s.history;
    lost = s.lost;
    handed = s.handed;
  }

-- ## Nodes that are ready

-- before the least node that is ready from this one on there is none to skip or to fire, where there was none before this one
pub before-ready : {CanS CanF : ℕ → Type 0} (r : Control) (from node : ℕ) → ((n : ℕ) → CanS n → IsReadyIn r n) → ((n : ℕ) → CanF n → IsReadyIn r n) → IsLeastReady r from node → ((k : ℕ) → k < from → (CanS k → ⊥) × (CanF k → ⊥)) → (k : ℕ) → k < node → (CanS k → ⊥) × (CanF k → ⊥)
before-ready r from node s f least before k lt = elim (cases_lt k from) [
  | inl low ↦ before k low
  | inr high ↦ (λ h. least.least k high lt (s k h), λ h. least.least k high lt (f k h))
]

-- there is none at all, where none is ready from this one on
pub none-ready : {CanS CanF : ℕ → Type 0} (r : Control) (from : ℕ) → ((n : ℕ) → CanS n → IsReadyIn r n) → ((n : ℕ) → CanF n → IsReadyIn r n) → NoneReady r from → ((k : ℕ) → k < from → (CanS k → ⊥) × (CanF k → ⊥)) → (k : ℕ) → (CanS k → ⊥) × (CanF k → ⊥)
none-ready r from s f none before k = elim (cases_lt k from) [
  | inl low ↦ before k low
  | inr high ↦ (λ h. none k high (s k h), λ h. none k high (f k h))
]
