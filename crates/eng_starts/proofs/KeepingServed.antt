-- A core of which but clients, pool, locks and log nothing has changed.
use Rattle.std.proofs.Common.{◌≡◌, ◌≢◌, ℕ, ◌*◌, List, length, get_or, subst, sym, ap, ◌∙◌, arith, inl, inr, refl, false, Option, None}
use Rattle.std.specs.Prelude.{slice_index_or, sum_by}
use Rattle.std.proofs.lemmas.Bool.{cases_eq}
use Rattle.blk_disk.specs.declared.disk.Disk.{Ghosts as DiskGhosts}
use Rattle.buf_pool.specs.Pool as pool
use Rattle.lay_core.specs.Layout.{Shape, IsLayout}
use Rattle.lay_core.specs.declared.layout.Layout.{Ghosts as LayoutGhosts}
use Rattle.graph_mean.specs.Graph.{Held}
use Rattle.graph_mean.specs.Steps.{Covers}
use Rattle.eng_cols.specs.Cols.{Columns}
use Rattle.eng_cols.specs.Lost.{NotLost}
use Rattle.eng_cols.specs.declared.spot.Loss.{Loss}
use Rattle.eng_world.specs.declared.item.Traced.{Traced}
use Rattle.eng_world.specs.World.{Current, Client, World, OnlyClients}
use Rattle.eng_clients.specs.declared.stage.Stage.{Stage}
use Rattle.eng_clients.specs.declared.stage.Stage.TheVariants.{Nothing, Waits, Runs}
use Rattle.eng_state.specs.declared.array.Array.{Array}
use Rattle.eng_parts.specs.Shelf.{Shelved, seen_at}
use Rattle.eng_clients.specs.Desk.{Desk, desk_at}
use Rattle.eng_log.specs.Log.{Logged, noted}
use Rattle.eng_state.specs.Shows.{Shows, ShowsClient, ShowsCurrent, device_byte, told_by, AreTold}
use Rattle.eng_state.specs.Sound.{IsSound, DevicesOut, SeatsOut, AreWell, Locked, Seated, jobs_of}
use Rattle.eng_state.specs.Serves.{Stands, ServesWell}
use Rattle.eng_state.specs.Taken.{SameRest}
use Rattle.eng_state.proofs.Put.{put, put-same, put-other}
use Rattle.eng_log.specs.Handed.{Handout, Hands}
use Rattle.eng_log.specs.Filled.{buffer_byte}

-- an operation is shown in another pool whose buffers have the same bytes where they cover something
pub shown-in : (tells : Type 0) (p q : pool.PoolView) (d : Desk) (now : Current) (t : Stage) → d.stage ≡ t → (d.stage ≡ Runs → (b o : ℕ) → Covers d.run.graph b o → (pool.seat_at q.seats (get_or d.lease b 0)).bytes ≡ (pool.seat_at p.seats (get_or d.lease b 0)).bytes) → ShowsCurrent tells p t d now → ShowsCurrent tells q t d now
shown-in tells p q d now Nothing is same s = s
shown-in tells p q d now Waits is same s = s
shown-in tells p q d now Runs is same s = (s.0, s.1, λ told b o k covers lt. s.2 told b o k covers lt ∙ ap (λ (l : List ℕ). buffer_byte d.run.graph l b o k) (sym (same is b o covers)))

pub shown-else : (tells : Type 0) (p q : pool.PoolView) (d : Desk) (c : Client) → (d.stage ≡ Runs → (b o : ℕ) → Covers d.run.graph b o → (pool.seat_at q.seats (get_or d.lease b 0)).bytes ≡ (pool.seat_at p.seats (get_or d.lease b 0)).bytes) → ShowsClient tells None p d c → ShowsClient tells None q d c
shown-else tells p q d c same s = record { items = s.items; replies = s.replies; current = shown-in tells p q d c.current d.stage refl same s.current }

module _ {L D : Type 0} (lay : LayoutGhosts L) (disk : DiskGhosts D) (old new : Array L D) (rest : SameRest lay old new) where
  abbrev y : Shape
  y = lay.shape old.layout

  abbrev gs : List Held
  gs = old.graphs.items

  pub same-shape : lay.shape new.layout ≡ y
  same-shape = ap lay.shape rest.layout

  module _ (desks : List Desk) (clients : new.clients ≡ desks) where
    pub sound-of : IsSound lay disk old → new.pool.unit ≡ old.pool.unit → AreWell y gs new.pool desks → DevicesOut desks old.devices → SeatsOut desks new.pool → Locked desks new.locks → sum_by jobs_of desks ≡ sum_by jobs_of old.clients → IsSound lay disk new
    sound-of sound unit well devices seats locked jobs = record {
      layout = subst (λ (v : Shape). IsLayout v) (sym same-shape) sound.layout;
      seated = subst (λ (v : Shape). Seated disk v new.cols new.devices) (sym same-shape)
          (subst (λ (v : Columns). Seated disk y v new.devices) (sym rest.cols) (subst (λ (s : Shelved D). Seated disk y old.cols s) (sym rest.devices) sound.seated));
      unit = unit ∙ (sound.unit ∙ ap (λ (v : Shape). 512 * v.unit_sectors) (sym same-shape));
      well = subst (λ (v : Shape). AreWell v new.graphs.items new.pool new.clients) (sym same-shape)
          (subst (λ (v : List Held). AreWell y v new.pool new.clients) (sym (ap (λ v. v.items) rest.graphs)) (subst (λ (l : List Desk). AreWell y gs new.pool l) (sym clients) well));
      devices = subst (λ (l : List Desk). DevicesOut l new.devices) (sym clients) (subst (λ (s : Shelved D). DevicesOut desks s) (sym rest.devices) devices);
      seats = subst (λ (l : List Desk). SeatsOut l new.pool) (sym clients) seats;
      locked = subst (λ (l : List Desk). Locked l new.locks) (sym clients) locked;
      jobs = let a = sound.jobs in let b = rest.lists in let e = ap (λ (l : List Desk). sum_by jobs_of l) clients in omega (arith, a, b, e, jobs);
    }

    pub stands-of : Stands lay old → ((k : ℕ) → ServesWell gs y (desk_at desks k)) → Stands lay new
    stands-of stands serves = record {
      kept = λ none. subst (λ (v : Shape). NotLost v new.cols.states) (sym same-shape) (subst (λ (v : Columns). NotLost y v.states) (sym rest.cols) (stands.kept (sym rest.lost ∙ none)));
      serves = λ k. subst (λ (v : Shape). ServesWell new.graphs.items v (desk_at new.clients k)) (sym same-shape)
          (subst (λ (v : List Held). ServesWell v y (desk_at new.clients k)) (sym (ap (λ v. v.items) rest.graphs)) (subst (λ (l : List Desk). ServesWell gs y (desk_at l k)) (sym clients) (serves k)));
    }

  -- the world in which one client is another, and so many buffers are free
  module _ (w : World) (c : ℕ) (v : Client) (free : ℕ) where
    abbrev pub now : World
    now = record w { clients = put w.clients c v; free = free }

    pub only-clients : OnlyClients w now
    only-clients = record {
      devices = record { contents = λ a b k. refl; calls = λ a. refl };
      columns = record { failed = λ a. refl; columns = refl; rebuilt = refl; lost = refl };
      blocks = record { blocks = λ b k. refl; history = refl };
    }

    pub shows-of : Shows disk old w → old.lost ≡ None → (event : Traced) → new.log ≡ noted old.log event → free ≡ length new.pool.free → ((k : ℕ) → ShowsClient disk.tells None new.pool (desk_at new.clients k) (put w.clients c v k)) → Hands disk.tells old.log.handed (put w.clients c v) → Shows disk new now
    shows-of s not_lost event log frees clients hands = record {
      contents = λ told a m k h. s.contents told a m k h ∙ sym (ap (λ (t : Shelved D). device_byte disk (seen_at t a) m k) rest.devices);
      failed = λ a. s.failed a ∙ sym (ap (λ (t : Shelved D). slice_index_or t.failed a false) rest.devices);
      calls = λ a. subst (λ (t : Shelved D). AreTold disk (told_by disk (seen_at t a)) (w.calls a)) (sym rest.devices) (s.calls a);
      columns = s.columns ∙ sym (ap (λ (t : Columns). t.states) rest.cols);
      clients = subst (λ (l : Option Loss). (k : ℕ) → ShowsClient disk.tells l new.pool (desk_at new.clients k) (put w.clients c v k)) (sym (rest.lost ∙ not_lost)) clients;
      free = frees;
      out = let a = s.out in let b = rest.lists in omega (arith, a, b);
      rebuilt = s.rebuilt ∙ sym (ap (λ t. t.rebuilt) log);
      history = s.history ∙ sym (ap (λ t. t.history) log);
      lost = s.lost ∙ sym rest.lost;
      handed = subst (λ (h : Handout). Hands disk.tells h (put w.clients c v)) (sym (ap (λ (l : Logged). l.handed) log)) hands;
    }

  -- each client is shown: the changed one as it is now, the others as they were
  pub shown-each : (q : pool.PoolView) (desks : List Desk) (f : ℕ → Client) (c : ℕ) (e : Desk) (v : Client) → desk_at desks c ≡ e → ((k : ℕ) → k ≢ c → desk_at desks k ≡ desk_at old.clients k) → ShowsClient disk.tells None q e v
      → ((k : ℕ) → k ≢ c → ShowsClient disk.tells None q (desk_at old.clients k) (f k)) → (k : ℕ) → ShowsClient disk.tells None q (desk_at desks k) (put f c v k)
  shown-each q desks f c e v here else mine others k = elim (cases_eq k c) [
    | inl same ↦ subst (λ (j : ℕ). ShowsClient disk.tells None q (desk_at desks j) (put f c v j)) (sym same)
        (subst (λ (d : Desk). ShowsClient disk.tells None q d (put f c v c)) (sym here) (subst (λ (a : Client). ShowsClient disk.tells None q e a) (sym (put-same f c v)) mine))
    | inr ne ↦ subst (λ (d : Desk). ShowsClient disk.tells None q d (put f c v k)) (sym (else k ne)) (subst (λ (a : Client). ShowsClient disk.tells None q (desk_at old.clients k) a) (sym (put-other f c v k ne)) (others k ne))
  ]
