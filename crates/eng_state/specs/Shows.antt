-- Which worlds a core shows.
use Rattle.std.specs.Prelude.{◌≡◌, ◌<◌, ◌+◌, ℕ, List, length, Option, Some, None, get_or}
use Rattle.blk_disk.specs.declared.disk.Call.{Call}
use Rattle.blk_disk.specs.declared.disk.Disk.{Ghosts as DiskGhosts}
use Rattle.buf_pool.specs.Pool as pool
use Rattle.graph_mean.specs.Steps.{Covers}
use Rattle.eng_one.specs.Control.{mark_of}
use Rattle.eng_cols.specs.declared.spot.Loss.{Loss}
use Rattle.eng_world.specs.World.{Running, Current, Client, World, Nothing as Idles, Waits as IsWaiting, Runs as IsRunning}
use Rattle.eng_clients.specs.declared.stage.Stage.{Stage}
use Rattle.eng_clients.specs.declared.stage.Stage.TheVariants.{Nothing, Waits, Runs}
use Rattle.eng_state.specs.declared.array.Array.{Array}
use Rattle.eng_parts.specs.Shelf.{Seen, seen_at, has_failed}
use Rattle.eng_clients.specs.Seats.{bytes_at}
use Rattle.eng_clients.specs.Desk.{Desk, desk_at, plan_of, spot_at}
use Rattle.eng_log.specs.Handed.{Hands}
use Rattle.eng_log.specs.Filled.{buffer_byte}
use Rattle.eng_clients.specs.Replied.{replies_of}

-- the operation that runs, where its buffers hold this
abbrev pub running_as : Desk → (ℕ → ℕ → ℕ → ℕ) → Running
running_as d buf = record {
  plan = plan_of d;
  node = mark_of d.run;
  buf = buf;
  phase = d.run.phase;
  fired_at = spot_at d;
  by = d.by;
}

-- what its buffers hold where they cover it, said where devices tell what they hold
abbrev pub HoldBytes : Type 0 → pool.PoolView → Desk → (ℕ → ℕ → ℕ → ℕ) → Type 0
HoldBytes tells p d buf = tells → (b o k : ℕ) → Covers d.run.graph b o → k < 512 → buf b o k ≡ buffer_byte d.run.graph (bytes_at p d.lease b) b o k

abbrev pub ShowsCurrent : Type 0 → pool.PoolView → Stage → Desk → Current → Type 0
ShowsCurrent tells p Nothing d now = now ≡ Idles
ShowsCurrent tells p Waits d now = now ≡ IsWaiting
ShowsCurrent tells p Runs d now = (buf : ℕ → ℕ → ℕ → ℕ) × (now ≡ IsRunning (running_as d buf)) × HoldBytes tells p d buf

-- the client is the one of the desk
pub record ShowsClient (tells : Type 0) (lost : Option Loss) (p : pool.PoolView) (d : Desk) (c : Client) : Type 0 where
  pub items : c.items ≡ d.items
  pub replies : c.replies ≡ replies_of lost d
  pub current : ShowsCurrent tells p d.stage d c.current

module _ {D : Type 0} (disk : DiskGhosts D) where
  -- byte k of a sector of what is there
  abbrev pub device_byte : Option (Seen D) → ℕ → ℕ → ℕ
  device_byte None n k = 0
  device_byte (Some s) n k = get_or (disk.sector s.device n) k 0

  -- the calls are those that are told
  abbrev pub AreTold : Option (List Call) → List Call → Type 0
  AreTold None calls = Unit {0}
  AreTold (Some told) calls = calls ≡ told

  -- the calls that a device tells, if there is one
  abbrev pub told_by : Option (Seen D) → Option (List Call)
  told_by None = None
  told_by (Some s) = disk.calls s.device

  -- The core shows the world: all but the plain blocks, of which it has none; and what devices and buffers hold, and which calls were told, only where devices tell it. A device or a buffer that is out is shown as it left.
  pub record Shows {L : Type 0} (core : Array L D) (w : World) : Type 0 where
    pub contents : disk.tells → (d n k : ℕ) → k < 512 → w.contents d n k ≡ device_byte (seen_at core.devices d) n k
    pub failed : (d : ℕ) → w.failed d ≡ has_failed core.devices d
    pub calls : (d : ℕ) → AreTold (told_by (seen_at core.devices d)) (w.calls d)
    pub columns : w.columns ≡ core.cols.states
    pub clients : (c : ℕ) → ShowsClient disk.tells core.lost core.pool (desk_at core.clients c) (w.clients c)
    pub free : w.free ≡ length core.pool.free
    pub out : w.out + core.lists ≡ 32
    pub rebuilt : w.rebuilt ≡ core.log.rebuilt
    pub history : w.history ≡ core.log.history
    pub lost : w.lost ≡ core.lost
    pub handed : Hands disk.tells core.log.handed w.clients
