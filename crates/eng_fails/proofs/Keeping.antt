-- A core whose desks change in nothing that devices, buffers and locks rest on stays sound.
use Rattle.std.proofs.Common.{◌≡◌, ℕ, suc, ◌<◌, ◌+◌, List, [], ◌∷◌, length, get_or, subst, sym, ap, ◌∙◌, arith, inl, inr, refl, Bool, true, Option, Some, None}
use Rattle.std.specs.Prelude.{IsSome, slice_set, sum_by, Contains}
use Rattle.std.proofs.lemmas.Bool.{cases_eq}
use Rattle.std.proofs.lemmas.List.Sums.{sum_by-cons}
use Rattle.blk_disk.specs.declared.disk.Disk.{Ghosts as DiskGhosts}
use Rattle.buf_pool.specs.Pool as pool
use Rattle.lay_core.specs.Layout.{Shape}
use Rattle.lay_core.specs.declared.layout.Layout.{Ghosts as LayoutGhosts}
use Rattle.graph_mean.specs.declared.step.Status.TheVariants as status
use Rattle.graph_mean.specs.declared.task.Kind.{Kind}
use Rattle.graph_mean.specs.Graph.{Held, View, kind_at}
use Rattle.graph_mean.specs.Steps.{IsCall}
use Rattle.eng_one.specs.Control.{mark_of}
use Rattle.eng_cols.specs.declared.spot.Spot.{Spot}
use Rattle.eng_cols.specs.declared.spot.Loss.{Loss}
use Rattle.eng_cols.specs.Cols.{Columns}
use Rattle.eng_world.specs.Nodes.{MakesOrUses}
use Rattle.eng_clients.specs.declared.stage.Stage.TheVariants.{Runs}
use Rattle.eng_state.specs.declared.array.Array.{Array}
use Rattle.eng_clients.specs.Seats.{lease_seat}
use Rattle.eng_clients.specs.Desk.{Desk, desk_at}
use Rattle.eng_log.specs.Log.{Logged}
use Rattle.eng_state.proofs.Shown.{desk-set, desk-else}
use Rattle.eng_state.specs.Sound.{IsSound, IsOutOf, HasAway, DevicesOut, SeatsOut, Seated, IsWell, AreWell, Locked, jobs_of, mode_for}

-- what devices, buffers and locks rest on is the same at both desks, and the new one is well where the old one was
pub record GoesOn (a b : Desk) : Type 0 where
  pub runs : a.stage ≡ Runs → b.stage ≡ Runs
  pub ran : b.stage ≡ Runs → a.stage ≡ Runs
  pub lease : b.lease ≡ a.lease
  pub graph : b.run.graph ≡ a.run.graph
  pub map : b.stage ≡ Runs → b.map.stripes ≡ a.map.stripes
  pub kind : b.task.kind ≡ a.task.kind
  pub spots : b.spots ≡ a.spots
  pub out : (n : ℕ) → mark_of b.run n ≡ status.Out → mark_of a.run n ≡ status.Out
  pub was : (n : ℕ) → mark_of a.run n ≡ status.Out → mark_of b.run n ≡ status.Out
  pub jobs : jobs_of b ≡ jobs_of a
  pub well : (y : Shape) (graphs : List Held) (p : pool.PoolView) → IsWell y graphs p a → IsWell y graphs p b

-- a desk that stays
pub stays : (d : Desk) → GoesOn d d
stays d = record { runs = λ h. h; ran = λ h. h; lease = refl; graph = refl; map = λ h. refl; kind = refl; spots = refl; out = λ n h. h; was = λ n h. h; jobs = refl; well = λ y graphs p h. h }

-- one on from one on
pub goes-further : (a b c : Desk) → GoesOn a b → GoesOn b c → GoesOn a c
goes-further a b c f g = record {
  runs = λ h. g.runs (f.runs h);
  ran = λ h. f.ran (g.ran h);
  lease = g.lease ∙ f.lease;
  graph = g.graph ∙ f.graph;
  map = λ h. g.map h ∙ f.map (g.ran h);
  kind = g.kind ∙ f.kind;
  spots = g.spots ∙ f.spots;
  out = λ n h. f.out n (g.out n h);
  was = λ n h. g.was n (f.was n h);
  jobs = g.jobs ∙ f.jobs;
  well = λ y graphs p h. g.well y graphs p (f.well y graphs p h);
}

-- one desk of all goes on, and the others stay
pub one-goes : (desks : List Desk) (c : ℕ) (b : Desk) → c < length desks → GoesOn (desk_at desks c) b → (k : ℕ) → GoesOn (desk_at desks k) (desk_at (slice_set desks c b) k)
one-goes desks c b below g k = elim (cases_eq k c) [
  | inl is ↦ subst (λ (j : ℕ). GoesOn (desk_at desks j) (desk_at (slice_set desks c b) j)) (sym is) (subst (GoesOn (desk_at desks c)) (sym (desk-set desks c b below)) g)
  | inr ne ↦ subst (GoesOn (desk_at desks k)) (sym (desk-else desks c k b ne)) (stays (desk_at desks k))
]

-- lists whose elements count alike count alike
pub sums-same : (f : Desk → ℕ) (xs ys : List Desk) → length ys ≡ length xs → ((k : ℕ) → f (desk_at ys k) ≡ f (desk_at xs k)) → sum_by f ys ≡ sum_by f xs
sums-same f [] [] e same = refl
sums-same f [] (y ∷ ys) e same = absurd (let z : ⊥ = omega (arith, e) in z)
sums-same f (x ∷ xs) [] e same = absurd (let z : ⊥ = omega (arith, e) in z)
sums-same f (x ∷ xs) (y ∷ ys) e same =
    let b = sums-same f xs ys (omega (arith, e)) (λ k. same (suc k)) in
    sum_by-cons f y ys ∙ (ap (λ (v : ℕ). v + sum_by f ys) (same 0) ∙ (ap (λ (v : ℕ). f x + v) b ∙ sym (sum_by-cons f x xs)))

module _ {L D : Type 0} (lay : LayoutGhosts L) (disk : DiskGhosts D) (old : Array L D) (desks : List Desk) (cols : Columns) (failed : List Bool) (log : Logged) (lost : Option Loss)
    (sound : IsSound lay disk old) (count : length desks ≡ length old.clients) (goes : (c : ℕ) → GoesOn (desk_at old.clients c) (desk_at desks c))
    (seated : Seated disk (lay.shape old.layout) cols (record old.devices { failed = failed })) where
  abbrev y : Shape
  y = lay.shape old.layout

  was-out : (c n : ℕ) → IsOutOf (desk_at desks c) n → IsOutOf (desk_at old.clients c) n
  was-out c n o = record { runs = (goes c).ran o.runs; mark = (goes c).out n o.mark }

  still-out : (c n : ℕ) → IsOutOf (desk_at old.clients c) n → IsOutOf (desk_at desks c) n
  still-out c n o = record { runs = (goes c).runs o.runs; mark = (goes c).was n o.mark }

  was-away : (c n device : ℕ) → HasAway desks c n device → HasAway old.clients c n device
  was-away c n device h = record { out = was-out c n h.out; at = h.at; spot = ap (λ (l : List (Option Spot)). get_or l n None) (sym (goes c).spots) ∙ h.spot; is = h.is }

  still-away : (c n device : ℕ) → HasAway old.clients c n device → HasAway desks c n device
  still-away c n device h = record { out = still-out c n h.out; at = h.at; spot = ap (λ (l : List (Option Spot)). get_or l n None) (goes c).spots ∙ h.spot; is = h.is }

  devices : DevicesOut desks (record old.devices { failed = failed })
  devices = record {
    away = λ c n device h. sound.devices.away c n device (was-away c n device h);
    held = λ device x h. let a = sound.devices.held device x h in (a.0, a.1, still-away a.0 a.1 device a.2);
    one = λ c k n m device g h. sound.devices.one c k n m device (was-away c n device g) (was-away k m device h);
    placed = λ c n o call. subst (λ (l : List (Option Spot)). IsSome (get_or l n None)) (sym (goes c).spots) (sound.devices.placed c n (was-out c n o) (subst (λ (g : View). IsCall (kind_at g n)) (goes c).graph call));
    unplaced = λ c n o none. ap (λ (l : List (Option Spot)). get_or l n None) (goes c).spots ∙ sound.devices.unplaced c n (was-out c n o) (λ call. none (subst (λ (g : View). IsCall (kind_at g n)) (sym (goes c).graph) call));
  }

  takes-old : (c n b : ℕ) → MakesOrUses (desk_at desks c).run.graph n b → MakesOrUses (desk_at old.clients c).run.graph n b
  takes-old c n b t = subst (λ (g : View). MakesOrUses g n b) (goes c).graph t

  seats : SeatsOut desks old.pool
  seats = record {
    away = λ c n b o t. subst (λ (l : List ℕ). (lease_seat old.pool l b).out ≡ true) (sym (goes c).lease) (sound.seats.away c n b (was-out c n o) (takes-old c n b t));
    held = λ c b runs below out.
        let h = sound.seats.held c b ((goes c).ran runs) (subst (λ (l : List ℕ). b < length l) (goes c).lease below) (subst (λ (l : List ℕ). (lease_seat old.pool l b).out ≡ true) (goes c).lease out) in
        (h.0, still-out c h.0 h.1, subst (λ (g : View). MakesOrUses g h.0 b) (sym (goes c).graph) h.2);
    one = λ c n m b o p t u. sound.seats.one c n m b (was-out c n o) (was-out c m p) (takes-old c n b t) (takes-old c m b u);
  }

  wells : AreWell y old.graphs.items old.pool desks
  wells = record {
    all = count ∙ sound.well.all;
    each = λ c lt. (goes c).well y old.graphs.items old.pool (sound.well.each c lt);
    apart = λ c k ne. subst (λ (l : List ℕ). pool.AreApart l (desk_at desks k).lease) (sym (goes c).lease) (subst (λ (l : List ℕ). pool.AreApart (desk_at old.clients c).lease l) (sym (goes k).lease) (sound.well.apart c k ne));
  }

  locked : Locked desks old.locks
  locked = record {
    owners = sound.locked.owners;
    each = λ c s runs has. sound.locked.each c s ((goes c).ran runs) (subst (λ (l : List ℕ). Contains l s) ((goes c).map runs) has) ∙ ap (λ (k : Kind). Some (mode_for k)) (sym (goes c).kind);
    only = λ c s runs none. sound.locked.only c s ((goes c).ran runs) (λ has. none (subst (λ (l : List ℕ). Contains l s) (sym ((goes c).map runs)) has));
    idle = λ c ne. sound.locked.idle c (λ r. ne ((goes c).runs r));
  }

  jobs : old.lists + sum_by jobs_of desks ≡ 32
  jobs =
      let a = sums-same jobs_of old.clients desks count (λ k. (goes k).jobs) in
      let b = sound.jobs in omega (arith, a, b)

  pub kept-sound : IsSound lay disk (record old { clients = desks; cols = cols; devices = record old.devices { failed = failed }; log = log; lost = lost })
  kept-sound = record {
    layout = sound.layout;
    seated = seated;
    unit = sound.unit;
    well = wells;
    devices = devices;
    seats = seats;
    locked = locked;
    jobs = jobs;
  }
