-- A core one of whose clients has changed, of which nothing is out before and after.
use Rattle.std.proofs.Common.{◌≡◌, ◌≢◌, ℕ, ◌<◌, List, length, subst, sym, ap, ◌∙◌, arith, inl, inr, true, false, Some, None}
use Rattle.std.specs.Prelude.{IsSome, slice_set, sum_by, Contains}
use Rattle.std.proofs.lemmas.Bool.{cases_eq}
use Rattle.std.proofs.lemmas.List.{length-set}
use Rattle.std.proofs.lemmas.List.Sums.{sum_by-set}
use Rattle.buf_pool.specs.Pool as pool
use Rattle.stripe_lock.specs.Table.{Table, mode_of, owners_of, HoldsNothing}
use Rattle.lay_core.specs.Layout.{Shape}
use Rattle.graph_mean.specs.Graph.{Held, kind_at}
use Rattle.graph_mean.specs.Steps.{IsCall}
use Rattle.eng_world.specs.Nodes.{MakesOrUses}
use Rattle.eng_clients.specs.declared.stage.Stage.TheVariants.{Runs}
use Rattle.eng_parts.specs.Shelf.{Shelved}
use Rattle.eng_clients.specs.Seats.{seat_of}
use Rattle.eng_clients.specs.Desk.{Desk, desk_at, spot_at, no_desk}
use Rattle.eng_state.specs.Sound.{IsOutOf, HasAway, DevicesOut, SeatsOut, RunsWell, IsWell, AreWell, Locked, jobs_of, mode_for}
use Rattle.eng_state.proofs.Shown.{desk-set, desk-else}
use Rattle.eng_state.proofs.Putting.{out-below}
use Rattle.eng_state.proofs.Running.{runs_below}

-- a running operation is well in another pool where it has its lease
pub well-lease : (y : Shape) (graphs : List Held) (p q : pool.PoolView) (d : Desk) → pool.IsLease q d.lease → RunsWell y graphs p d → RunsWell y graphs q d
well-lease y graphs p q d lease w = record {
  op = w.op;
  item = w.item;
  task = w.task;
  stripes = w.stripes;
  lends = w.lends;
  few = w.few;
  few_bufs = w.few_bufs;
  marks = w.marks;
  accepted = w.accepted;
  reached = w.reached;
  lease = lease;
  bufs = w.bufs;
}

-- what a node that is out makes or uses is leased
pub named-in : (y : Shape) (graphs : List Held) (p : pool.PoolView) (desks : List Desk) → AreWell y graphs p desks → (k n b : ℕ) → IsOutOf (desk_at desks k) n → MakesOrUses (desk_at desks k).run.graph n b → b < length (desk_at desks k).lease
named-in y graphs p desks well k n b o t =
    let w = (well.each k (runs_below y graphs p desks k well o.runs)).runs o.runs in
    let marks = w.marks in
    let bufs = w.bufs in
    let mark = out-below (desk_at desks k).run.marks n o.mark in
    let node : n < length (desk_at desks k).run.graph.nodes = omega (arith, marks, mark) in
    elim t [
      | inl made ↦ let h = w.accepted.2.makes_named n b node made in omega (arith, bufs, h)
      | inr used ↦ let h = w.accepted.2.uses_named n b node used in omega (arith, bufs, h)
    ]

module _ (desks : List Desk) (c : ℕ) (e : Desk) (below : c < length desks) where
  abbrev pub after : List Desk
  after = slice_set desks c e

  pub here : desk_at after c ≡ e
  here = desk-set desks c e below

  pub else : (k : ℕ) → k ≢ c → desk_at after k ≡ desk_at desks k
  else k ne = desk-else desks c k e ne

  -- what is so of the changed client and was of each other is so of each
  pub each-after : (P : ℕ → Desk → Type 0) → P c e → ((k : ℕ) → k ≢ c → P k (desk_at desks k)) → (k : ℕ) → P k (desk_at after k)
  each-after P mine others k = elim (cases_eq k c) [
    | inl same ↦ subst (λ (j : ℕ). P j (desk_at after j)) (sym same) (subst (λ (d : Desk). P c d) (sym here) mine)
    | inr ne ↦ subst (λ (d : Desk). P k d) (sym (else k ne)) (others k ne)
  ]

  -- what was so of each client is so of each, if it is of the changed one
  module _ (quiet : (n : ℕ) → IsOutOf (desk_at desks c) n → ⊥) (calm : (n : ℕ) → IsOutOf e n → ⊥) where
    was-out : (k n : ℕ) → IsOutOf (desk_at after k) n → (k ≢ c) × IsOutOf (desk_at desks k) n
    was-out k n o = elim (cases_eq k c) [
      | inl same ↦ absurd (calm n (subst (λ (d : Desk). IsOutOf d n) (ap (λ (j : ℕ). desk_at after j) same ∙ here) o))
      | inr ne ↦ (ne, subst (λ (d : Desk). IsOutOf d n) (else k ne) o)
    ]

    is-other : (k n : ℕ) → IsOutOf (desk_at desks k) n → k ≢ c
    is-other k n o same = quiet n (subst (λ (j : ℕ). IsOutOf (desk_at desks j) n) same o)

    away-was : (k n device : ℕ) → HasAway after k n device → HasAway desks k n device
    away-was k n device h = let w = was-out k n h.out in record { out = w.1; at = h.at; spot = ap (λ (d : Desk). spot_at d n) (sym (else k w.0)) ∙ h.spot; is = h.is }

    away-still : (k n device : ℕ) → HasAway desks k n device → HasAway after k n device
    away-still k n device h = let ne = is-other k n h.out in record { out = subst (λ (d : Desk). IsOutOf d n) (sym (else k ne)) h.out; at = h.at; spot = ap (λ (d : Desk). spot_at d n) (else k ne) ∙ h.spot; is = h.is }

    pub devices-after : {D : Type 0} → (s : Shelved D) → DevicesOut desks s → DevicesOut after s
    devices-after s sound = record {
      away = λ k n device h. sound.away k n device (away-was k n device h);
      held = λ device x is. let h = sound.held device x is in (h.0, h.1, away-still h.0 h.1 device h.2);
      one = λ k j n m device g h. sound.one k j n m device (away-was k n device g) (away-was j m device h);
      placed = λ k n o call. let w = was-out k n o in
          subst (λ (d : Desk). IsSome (spot_at d n)) (sym (else k w.0)) (sound.placed k n w.1 (subst (λ (d : Desk). IsCall (kind_at d.run.graph n)) (else k w.0) call));
      unplaced = λ k n o none. let w = was-out k n o in
          ap (λ (d : Desk). spot_at d n) (else k w.0) ∙ sound.unplaced k n w.1 (λ call. none (subst (λ (d : Desk). IsCall (kind_at d.run.graph n)) (sym (else k w.0)) call));
    }

    pub seats-after : (p q : pool.PoolView) → ((k b : ℕ) → k ≢ c → b < length (desk_at desks k).lease → (seat_of q (desk_at desks k) b).out ≡ (seat_of p (desk_at desks k) b).out)
        → (e.stage ≡ Runs → pool.AllHome q e.lease) → ((k n b : ℕ) → IsOutOf (desk_at desks k) n → MakesOrUses (desk_at desks k).run.graph n b → b < length (desk_at desks k).lease) → SeatsOut desks p → SeatsOut after q
    seats-after p q kept home named sound = record {
      away = λ k n b o t.
          let w = was-out k n o in
          let t2 = subst (λ (d : Desk). MakesOrUses d.run.graph n b) (else k w.0) t in
          ap (λ (d : Desk). (seat_of q d b).out) (else k w.0) ∙ (kept k b w.0 (named k n b w.1 t2) ∙ sound.away k n b w.1 t2);
      held = λ k b. held-after k b;
      one = λ k n m b g h s t.
          let v = was-out k n g in let w = was-out k m h in
          sound.one k n m b v.1 w.1 (subst (λ (d : Desk). MakesOrUses d.run.graph n b) (else k v.0) s) (subst (λ (d : Desk). MakesOrUses d.run.graph m b) (else k v.0) t);
    }
      where
        HeldAt : ℕ → Desk → Type 0
        HeldAt b d = d.stage ≡ Runs → b < length d.lease → (seat_of q d b).out ≡ true → (n : ℕ) × IsOutOf d n × MakesOrUses d.run.graph n b

        held-after : (k b : ℕ) → (desk_at after k).stage ≡ Runs → b < length (desk_at after k).lease → (seat_of q (desk_at after k) b).out ≡ true → (n : ℕ) × IsOutOf (desk_at after k) n × MakesOrUses (desk_at after k).run.graph n b
        held-after k b = elim (cases_eq k c) [
          | inl same ↦ subst (λ (d : Desk). HeldAt b d) (sym (ap (λ (j : ℕ). desk_at after j) same ∙ here)) (λ runs lt out. let z : false ≡ true = sym (home runs b lt) ∙ out in absurd (let u : ⊥ = cc in u))
          | inr ne ↦ subst (λ (d : Desk). HeldAt b d) (sym (else k ne)) (λ runs lt out. sound.held k b runs lt (sym (kept k b ne lt) ∙ out))
        ]

  pub well-after : (y : Shape) (graphs : List Held) (p q : pool.PoolView) → ((k : ℕ) → k ≢ c → (desk_at desks k).stage ≡ Runs → pool.IsLease q (desk_at desks k).lease)
      → IsWell y graphs q e → ((k : ℕ) → k ≢ c → pool.AreApart e.lease (desk_at desks k).lease × pool.AreApart (desk_at desks k).lease e.lease) → AreWell y graphs p desks → AreWell y graphs q after
  well-after y graphs p q leases mine apart well = record {
    all = length-set desks c e ∙ well.all;
    each = λ k lt. elim (cases_eq k c) [
      | inl same ↦ subst (λ (d : Desk). IsWell y graphs q d) (sym (ap (λ (j : ℕ). desk_at after j) same ∙ here)) mine
      | inr ne ↦ subst (λ (d : Desk). IsWell y graphs q d) (sym (else k ne)) (let w = well.each k lt in record {
        runs = λ runs. well-lease y graphs p q (desk_at desks k) (leases k ne runs) (w.runs runs);
        idle = w.idle;
        spots = w.spots;
        replies = w.replies;
      })
    ];
    apart = λ j k ne. elim (cases_eq j c) [
      | inl same ↦ subst (λ (d : Desk). pool.AreApart d.lease (desk_at after k).lease) (sym (ap (λ (i : ℕ). desk_at after i) same ∙ here)) (let other : k ≢ c = (λ is. ne (same ∙ sym is)) in subst (λ (d : Desk). pool.AreApart e.lease d.lease) (sym (else k other)) (apart k other).0)
      | inr jc ↦ subst (λ (d : Desk). pool.AreApart d.lease (desk_at after k).lease) (sym (else j jc)) (elim (cases_eq k c) [
        | inl same ↦ subst (λ (d : Desk). pool.AreApart (desk_at desks j).lease d.lease) (sym (ap (λ (i : ℕ). desk_at after i) same ∙ here)) (apart j jc).1
        | inr kc ↦ subst (λ (d : Desk). pool.AreApart (desk_at desks j).lease d.lease) (sym (else k kc)) (well.apart j k ne)
      ])
    ];
  }

  -- the locks of the changed client are its own, and the others have what they had
  abbrev LockedAt : Table → ℕ → Desk → Type 0
  LockedAt t k d = (d.stage ≡ Runs → (s : ℕ) → Contains d.map.stripes s → mode_of t k s ≡ Some (mode_for d.task.kind)) × (d.stage ≡ Runs → (s : ℕ) → (Contains d.map.stripes s → ⊥) → mode_of t k s ≡ None) × (d.stage ≢ Runs → HoldsNothing t k)

  pub locked-after : (old new : Table) → owners_of new ≡ owners_of old → ((k s : ℕ) → k ≢ c → mode_of new k s ≡ mode_of old k s)
      → (e.stage ≡ Runs → (s : ℕ) → Contains e.map.stripes s → mode_of new c s ≡ Some (mode_for e.task.kind)) → (e.stage ≡ Runs → (s : ℕ) → (Contains e.map.stripes s → ⊥) → mode_of new c s ≡ None) → (e.stage ≢ Runs → HoldsNothing new c)
      → Locked desks old → Locked after new
  locked-after old new owners same each only idle locked = record {
    owners = owners ∙ locked.owners;
    each = λ k s runs. (at k).0 runs s;
    only = λ k s runs. (at k).1 runs s;
    idle = λ k rests. (at k).2 rests;
  }
    where
      at : (k : ℕ) → LockedAt new k (desk_at after k)
      at = each-after (LockedAt new) (each, only, idle) (λ k ne. (
        (λ runs s has. same k s ne ∙ locked.each k s runs has),
        (λ runs s none. same k s ne ∙ locked.only k s runs none),
        (λ rests s. same k s ne ∙ locked.idle k rests s),
      ))

  pub jobs-after : jobs_of (desk_at desks c) ≡ 0 → jobs_of e ≡ 0 → sum_by jobs_of after ≡ sum_by jobs_of desks
  jobs-after was is = let s = sum_by-set jobs_of desks c e no_desk below in omega (arith, s, was, is)
