-- What a core keeps as a node is fired.
use Rattle.std.proofs.Common.{◌≡◌, ◌≢◌, ℕ, ◌<◌, ◌⊎◌, List, length, get_or, subst, sym, ap, ◌∙◌, inl, inr, refl, Bool, true, false, Option, Some, None}
use Rattle.std.specs.Prelude.{IsSome, slice_set}
use Rattle.std.proofs.lemmas.Bool.{cases_eq}
use Rattle.buf_pool.specs.Pool as pool
use Rattle.graph_mean.specs.declared.step.Status.TheVariants as status
use Rattle.graph_mean.specs.Graph.{View, kind_at}
use Rattle.graph_mean.specs.Steps.{IsCall}
use Rattle.eng_one.specs.Control.{mark_of}
use Rattle.eng_cols.specs.declared.spot.Spot.{Spot}
use Rattle.eng_world.specs.Nodes.{MakesOrUses}
use Rattle.eng_clients.specs.declared.stage.Stage.TheVariants.{Runs}
use Rattle.eng_parts.specs.Shelf.{Seen, Shelved, seen_at, IsAway}
use Rattle.eng_clients.specs.Seats.{seat_of, BuffersLeft}
use Rattle.eng_clients.specs.Desk.{Desk, desk_at, spot_at, with_fired}
use Rattle.eng_state.specs.Sound.{IsOutOf, HasAway, DevicesOut, SeatsOut}
use Rattle.eng_state.specs.Moves.{DeviceLeft, IsTaken}
use Rattle.eng_state.proofs.Leaving.{left-here, left-else}
use Rattle.eng_state.proofs.Marking as marking
use Rattle.eng_clients.proofs.SeatsApart.{seats-differ}

-- a device isn't at home and away
pub home-away : {D : Type 0} → (o : Option (Seen D)) (a b : D) → o ≡ Some (record { out = false; device = a }) → o ≡ Some (record { out = true; device = b }) → ⊥
home-away {D} o a b home away =
    let t : false ≡ true = ap out_in (sym home ∙ away) in let u : ⊥ = cc in u
  where
    out_in : Option (Seen D) → Bool
    out_in None = false
    out_in (Some s) = s.out

module _ {D : Type 0} (desks : List Desk) (c n : ℕ) (place : Option Spot) (below : c < length desks) (runs : (desk_at desks c).stage ≡ Runs) (marks : n < length (desk_at desks c).run.marks) (spots : n < length (desk_at desks c).spots) (idle : mark_of (desk_at desks c).run n ≡ status.Idle)
    (old new : Shelved D) (l : DeviceLeft place old new) (placed : IsCall (kind_at (desk_at desks c).run.graph n) → IsSome place) (unplaced : (IsCall (kind_at (desk_at desks c).run.graph n) → ⊥) → place ≡ None) (sound : DevicesOut desks old) where
  abbrev d : Desk
  d = desk_at desks c

  abbrev after : List Desk
  after = slice_set desks c (with_fired d n place)

  -- who was away is, and the node's device
  away-kept : (device : ℕ) (x : D) → (o : Option Spot) → DeviceLeft o old new → IsAway old device x → IsAway new device x
  away-kept device x None e is = ap (λ (s : Shelved D). seen_at s device) e ∙ is
  away-kept device x (Some at) e is = ap (λ (s : Shelved D). seen_at s device) e.2 ∙ (left-else old at.device e.0 device (λ same. home-away (seen_at old device) e.0 x (ap (seen_at old) same ∙ e.1) is) ∙ is)

  away-here : (o : Option Spot) → DeviceLeft o old new → (at : Spot) → o ≡ Some at → (x : D) × IsAway new at.device x
  away-here None e at is = let z : None ≡ Some at = is in absurd (let u : ⊥ = cc in u)
  away-here (Some to) e at is =
      let same : to ≡ at = cc in
      subst (λ (s : Spot). (x : D) × IsAway new s.device x) same (e.0, ap (λ (s : Shelved D). seen_at s to.device) e.2 ∙ left-here old to.device _ e.0 e.1)

  away-only : (device : ℕ) (x : D) → (o : Option Spot) → DeviceLeft o old new → IsAway new device x → IsAway old device x ⊎ ((at : Spot) × (o ≡ Some at) × (at.device ≡ device))
  away-only device x None e is = inl (sym (ap (λ (s : Shelved D). seen_at s device) e) ∙ is)
  away-only device x (Some at) e is = elim (cases_eq device at.device) [
    | inl same ↦ inr (at, refl, sym same)
    | inr ne ↦ inl (sym (ap (λ (s : Shelved D). seen_at s device) e.2 ∙ left-else old at.device e.0 device ne) ∙ is)
  ]

  -- the node's device was at home
  was-home : (device : ℕ) (x : D) → (o : Option Spot) → DeviceLeft o old new → (at : Spot) → o ≡ Some at → at.device ≡ device → IsAway old device x → ⊥
  was-home device x None e at is same away = let z : None ≡ Some at = is in let u : ⊥ = cc in u
  was-home device x (Some to) e at is same away =
      let eq : to ≡ at = cc in
      home-away (seen_at old device) e.0 x (ap (seen_at old) (sym (ap (λ (s : Spot). s.device) eq ∙ same)) ∙ e.1) away

  pub devices-fired : DevicesOut after new
  devices-fired = record {
    away = λ k m device h. elim (marking.away-was desks c n place below runs marks spots idle k m device h) [
      | inl was ↦ let a = sound.away k m device was in (a.0, away-kept device a.0 place l a.1)
      | inr e ↦ subst (λ (j : ℕ). (x : D) × IsAway new j x) e.2.2 (away-here place l e.2.0 e.2.1)
    ];
    held = λ device x is. elim (away-only device x place l is) [
      | inl was ↦ let h = sound.held device x was in (h.0, h.1, marking.away-still desks c n place below runs marks spots idle h.0 h.1 device h.2)
      | inr e ↦ (c, n, subst (λ (j : ℕ). HasAway after c n j) e.2 (marking.away-now desks c n place below runs marks spots idle e.0 e.1))
    ];
    one = λ k j m i device g h. elim (marking.away-was desks c n place below runs marks spots idle k m device g) [
      | inl a ↦ elim (marking.away-was desks c n place below runs marks spots idle j i device h) [
        | inl b ↦ sound.one k j m i device a b
        | inr e ↦ let x = sound.away k m device a in absurd (was-home device x.0 place l e.2.0 e.2.1 e.2.2 x.1)
      ]
      | inr e ↦ elim (marking.away-was desks c n place below runs marks spots idle j i device h) [
        | inl b ↦ let x = sound.away j i device b in absurd (was-home device x.0 place l e.2.0 e.2.1 e.2.2 x.1)
        | inr t ↦ (e.0 ∙ sym t.0, e.1 ∙ sym t.1)
      ]
    ];
    placed = λ k m o call. elim (marking.was-out desks c n place below runs marks spots idle k m o) [
      | inl was ↦ subst IsSome (sym (marking.spot-other desks c n place below runs marks spots idle k m was.1)) (sound.placed k m was.0 (subst (λ (g : View). IsCall (kind_at g m)) (marking.same desks c n place below runs marks spots idle (λ a. a.run.graph) refl k) call))
      | inr e ↦ subst (λ (j : ℕ). IsCall (kind_at (desk_at after j).run.graph m) → IsSome (spot_at (desk_at after j) m)) (sym e.0)
          (subst (λ (i : ℕ). IsCall (kind_at (desk_at after c).run.graph i) → IsSome (spot_at (desk_at after c) i)) (sym e.1)
          (λ h. subst IsSome (sym (marking.spot-here desks c n place below runs marks spots idle)) (placed (subst (λ (g : View). IsCall (kind_at g n)) (marking.same desks c n place below runs marks spots idle (λ a. a.run.graph) refl c) h)))) call
    ];
    unplaced = λ k m o none. elim (marking.was-out desks c n place below runs marks spots idle k m o) [
      | inl was ↦ marking.spot-other desks c n place below runs marks spots idle k m was.1 ∙ sound.unplaced k m was.0 (λ call. none (subst (λ (g : View). IsCall (kind_at g m)) (sym (marking.same desks c n place below runs marks spots idle (λ a. a.run.graph) refl k)) call))
      | inr e ↦ subst (λ (j : ℕ). (IsCall (kind_at (desk_at after j).run.graph m) → ⊥) → spot_at (desk_at after j) m ≡ None) (sym e.0)
          (subst (λ (i : ℕ). (IsCall (kind_at (desk_at after c).run.graph i) → ⊥) → spot_at (desk_at after c) i ≡ None) (sym e.1)
          (λ h. marking.spot-here desks c n place below runs marks spots idle ∙ unplaced (λ call. h (subst (λ (g : View). IsCall (kind_at g n)) (sym (marking.same desks c n place below runs marks spots idle (λ a. a.run.graph) refl c)) call)))) none
    ];
  }

-- ## Buffers

module _ (desks : List Desk) (c n : ℕ) (place : Option Spot) (below : c < length desks) (runs : (desk_at desks c).stage ≡ Runs) (marks : n < length (desk_at desks c).run.marks) (spots : n < length (desk_at desks c).spots) (idle : mark_of (desk_at desks c).run n ≡ status.Idle)
    (old new : pool.PoolView) (l : BuffersLeft old (IsTaken (desk_at desks c) n) new)
    (home : (b : ℕ) → MakesOrUses (desk_at desks c).run.graph n b → (seat_of old (desk_at desks c) b).out ≡ false)
    (leased : pool.IsLease old (desk_at desks c).lease) (named : (b : ℕ) → MakesOrUses (desk_at desks c).run.graph n b → b < length (desk_at desks c).lease)
    (apart : (k : ℕ) → k ≢ c → pool.AreApart (desk_at desks k).lease (desk_at desks c).lease) (sound : SeatsOut desks old) where
  abbrev d2 : Desk
  d2 = desk_at desks c

  abbrev after2 : List Desk
  after2 = slice_set desks c (with_fired d2 n place)

  same-lease : (k : ℕ) → (desk_at after2 k).lease ≡ (desk_at desks k).lease
  same-lease = marking.same desks c n place below runs marks spots idle (λ a. a.lease) refl

  same-graph : (k : ℕ) → (desk_at after2 k).run.graph ≡ (desk_at desks k).run.graph
  same-graph = marking.same desks c n place below runs marks spots idle (λ a. a.run.graph) refl

  same-stage : (k : ℕ) → (desk_at after2 k).stage ≡ (desk_at desks k).stage
  same-stage = marking.same desks c n place below runs marks spots idle (λ a. a.stage) refl

  takes-old : (k m b : ℕ) → MakesOrUses (desk_at after2 k).run.graph m b → MakesOrUses (desk_at desks k).run.graph m b
  takes-old k m b t = subst (λ (g : View). MakesOrUses g m b) (same-graph k) t

  takes-new : (k m b : ℕ) → MakesOrUses (desk_at desks k).run.graph m b → MakesOrUses (desk_at after2 k).run.graph m b
  takes-new k m b t = subst (λ (g : View). MakesOrUses g m b) (sym (same-graph k)) t

  -- the node that is fired takes no buffer that is out
  not-both : (m b : ℕ) → IsOutOf d2 m → MakesOrUses d2.run.graph m b → MakesOrUses d2.run.graph n b → ⊥
  not-both m b o theirs mine = let t : true ≡ false = sym (sound.away c m b o theirs) ∙ home b mine in let u : ⊥ = cc in u

  held-here : (k b : ℕ) → (desk_at desks k).stage ≡ Runs → b < length (desk_at desks k).lease → IsTaken d2 n (get_or (desk_at desks k).lease b 0) → (k ≡ c) × MakesOrUses d2.run.graph n b
  held-here k b stage in_lease t = elim (cases_eq k c) [
    | inl is ↦ (is, subst (λ (i : ℕ). MakesOrUses d2.run.graph n i) (seats-differ old d2.lease leased t.0 b (named t.0 t.1) (subst (λ (j : ℕ). b < length (desk_at desks j).lease) is in_lease) (t.2 ∙ ap (λ (j : ℕ). get_or (desk_at desks j).lease b 0) is)) t.1)
    | inr ne ↦ absurd (apart k ne b t.0 in_lease (named t.0 t.1) (sym t.2))
  ]

  pub seats-fired : SeatsOut after2 new
  seats-fired = record {
    away = λ k m b o t. elim (marking.was-out desks c n place below runs marks spots idle k m o) [
      | inl was ↦ subst (λ (s : List ℕ). (pool.seat_at new.seats (get_or s b 0)).out ≡ true) (sym (same-lease k)) ((l.out (get_or (desk_at desks k).lease b 0)).1 (inl (sound.away k m b was.0 (takes-old k m b t))))
      | inr e ↦ subst (λ (s : List ℕ). (pool.seat_at new.seats (get_or s b 0)).out ≡ true) (sym (same-lease k))
          ((l.out (get_or (desk_at desks k).lease b 0)).1 (inr (b, subst (λ (j : ℕ). MakesOrUses (desk_at desks j).run.graph n b) e.0 (subst (λ (i : ℕ). MakesOrUses (desk_at desks k).run.graph i b) e.1 (takes-old k m b t)), sym (ap (λ (j : ℕ). get_or (desk_at desks j).lease b 0) e.0))))
    ];
    held = λ k b stage in_lease out. elim ((l.out (get_or (desk_at desks k).lease b 0)).0 (subst (λ (s : List ℕ). (pool.seat_at new.seats (get_or s b 0)).out ≡ true) (same-lease k) out)) [
      | inl was ↦ let h = sound.held k b (sym (same-stage k) ∙ stage) (subst (λ (s : List ℕ). b < length s) (same-lease k) in_lease) was in (h.0, marking.still-out desks c n place below runs marks spots idle k h.0 h.1, takes-new k h.0 b h.2)
      | inr t ↦ let h = held-here k b (sym (same-stage k) ∙ stage) (subst (λ (s : List ℕ). b < length s) (same-lease k) in_lease) t in
          (n, subst (λ (j : ℕ). IsOutOf (desk_at after2 j) n) (sym h.0) (marking.fired-out desks c n place below runs marks spots idle), subst (λ (j : ℕ). MakesOrUses (desk_at after2 j).run.graph n b) (sym h.0) (takes-new c n b h.1))
    ];
    one = λ k m i b o p t u. elim (marking.was-out desks c n place below runs marks spots idle k m o) [
      | inl a ↦ elim (marking.was-out desks c n place below runs marks spots idle k i p) [
        | inl e ↦ sound.one k m i b a.0 e.0 (takes-old k m b t) (takes-old k i b u)
        | inr e ↦ absurd (not-both m b (subst (λ (j : ℕ). IsOutOf (desk_at desks j) m) e.0 a.0) (subst (λ (j : ℕ). MakesOrUses (desk_at desks j).run.graph m b) e.0 (takes-old k m b t)) (subst (λ (j : ℕ). MakesOrUses (desk_at desks j).run.graph n b) e.0 (subst (λ (x : ℕ). MakesOrUses (desk_at desks k).run.graph x b) e.1 (takes-old k i b u))))
      ]
      | inr e ↦ elim (marking.was-out desks c n place below runs marks spots idle k i p) [
        | inl a ↦ absurd (not-both i b (subst (λ (j : ℕ). IsOutOf (desk_at desks j) i) e.0 a.0) (subst (λ (j : ℕ). MakesOrUses (desk_at desks j).run.graph i b) e.0 (takes-old k i b u)) (subst (λ (j : ℕ). MakesOrUses (desk_at desks j).run.graph n b) e.0 (subst (λ (x : ℕ). MakesOrUses (desk_at desks k).run.graph x b) e.1 (takes-old k m b t))))
        | inr f ↦ e.1 ∙ sym f.1
      ]
    ];
  }
