-- A core is steady after a node is fired or passed over.
use Rattle.std.proofs.Common.{◌≡◌, ℕ, ◌<◌, length, ap, arith, inl, refl}
use Rattle.std.specs.Prelude.{slice_set}
use Rattle.blk_disk.specs.declared.disk.Disk.{Ghosts as DiskGhosts}
use Rattle.lay_core.specs.declared.layout.Layout.{Ghosts as LayoutGhosts}
use Rattle.eng_world.specs.declared.item.Traced.TheVariants as event
use Rattle.eng_rest.specs.Left.{cost}
use Rattle.eng_clients.specs.declared.stage.Stage.TheVariants.{Runs}
use Rattle.eng_state.specs.declared.array.Array.{Array}
use Rattle.eng_state.specs.Can.{CanFire, CanSkip, place_now}
use Rattle.eng_clients.specs.Desk.{Desk, desk_at, with_fired, with_skipped}
use Rattle.eng_log.specs.Log.{noted}
use Rattle.eng_state.specs.Moves.{Fired, id_of}
use Rattle.eng_state.specs.Room.{HasRoom}
use Rattle.eng_state.specs.Sound.{IsSound}
use Rattle.eng_array.specs.Steady.{IsSteady}
use Rattle.eng_state.specs.Steps.{Follows}
use Rattle.eng_array.proofs.Changed.{changed-keeps}
use Rattle.eng_array.proofs.Kept.{same}
use Rattle.eng_state.proofs.Running.{runs_below}
use Rattle.eng_array.proofs.Steady.{Keeps, notes-of, node-room, steady-on}

module _ {L D : Type 0} (lay : LayoutGhosts L) (disk : DiskGhosts D) (old new : Array L D) (c n : ℕ) (steady : IsSteady lay disk old) where
  abbrev d : Desk
  d = desk_at old.clients c

  below : d.stage ≡ Runs → c < length old.clients
  below runs = let h = runs_below (lay.shape old.layout) old.graphs.items old.pool old.clients c steady.sound.well runs in let all = steady.sound.well.all in omega (arith, all, h)

  module _ (can : CanFire lay old c n) where
    pub fire-room : HasRoom old.log
    fire-room = node-room lay disk old steady can.not_lost c n can.runs can.ready.below (let e : cost _ ≡ 2 = ap cost can.ready.idle in omega (arith, e))

    pub fire-keeps : Fired lay old c n new → Keeps lay disk old (event.Fire (id_of old.clients c) n) new
    fire-keeps f = changed-keeps lay disk old new c (with_fired d n (place_now lay old c n)) (event.Fire (id_of old.clients c) n) steady (below can.runs) (same refl (λ h. h) refl refl refl refl)
        (record { clients = f.clients; layout = f.layout; graphs = f.graphs; log = notes-of old.log (event.Fire (id_of old.clients c) n) new.log f.log; there = f.pool.seats })

    pub fire-steady : Fired lay old c n new → IsSound lay disk new → Follows lay disk old (event.Fire (id_of old.clients c) n) new → IsSteady lay disk new
    fire-steady f sound follows = steady-on lay disk old new (event.Fire (id_of old.clients c) n) (inl tt) steady sound follows (fire-keeps f)

  module _ (can : CanSkip lay old c n) where
    pub skip-room : HasRoom old.log
    skip-room = node-room lay disk old steady can.not_lost c n can.runs can.ready.below (let e : cost _ ≡ 2 = ap cost can.ready.idle in omega (arith, e))

    pub skip-keeps : new ≡ record old { clients = slice_set old.clients c (with_skipped d n); log = noted old.log (event.Skip (id_of old.clients c) n) } → Keeps lay disk old (event.Skip (id_of old.clients c) n) new
    skip-keeps is = changed-keeps lay disk old new c (with_skipped d n) (event.Skip (id_of old.clients c) n) steady (below can.runs) (same refl (λ h. h) refl refl refl refl)
        (record {
          clients = ap (λ (s : Array L D). s.clients) is;
          layout = ap (λ (s : Array L D). s.layout) is;
          graphs = ap (λ (s : Array L D). s.graphs) is;
          log = notes-of old.log (event.Skip (id_of old.clients c) n) new.log (ap (λ (s : Array L D). s.log) is);
          there = ap (λ (s : Array L D). length s.pool.seats) is;
        })

    pub skip-steady : new ≡ record old { clients = slice_set old.clients c (with_skipped d n); log = noted old.log (event.Skip (id_of old.clients c) n) }
        → IsSound lay disk new → Follows lay disk old (event.Skip (id_of old.clients c) n) new → IsSteady lay disk new
    skip-steady is sound follows = steady-on lay disk old new (event.Skip (id_of old.clients c) n) (inl tt) steady sound follows (skip-keeps is)
