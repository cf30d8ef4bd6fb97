-- What a request asks for, as its line says it.
use Rattle.std.specs.Prelude.{ℕ, List, map}
use Rattle.blk_plain.specs.declared.op.Op.TheVariants as op
use Rattle.raid_text.specs.Pattern.{pattern_bytes}
use Rattle.sim_queue.specs.declared.request.Request.{Request}

-- So many sectors from this one on are written with these bytes, again and again; or they are read.
-- No line asks for another operation.
pub data Transfer : Type 0 where
  Writes : (first count : ℕ) (bytes : List ℕ) → Transfer
  Reads : (first count : ℕ) → Transfer
  Other : Transfer

-- a transfer, and the tick at which it arrives
pub record Asked : Type 0 where
  pub tick : ℕ
  pub transfer : Transfer

-- how many sectors it reads
abbrev pub read_sectors : Transfer → ℕ
read_sectors (Writes first count bytes) = 0
read_sectors (Reads first count) = count
read_sectors Other = 0

-- the sectors of a disk, and what is asked of it
pub record Workload : Type 0 where
  pub sectors : ℕ
  pub asked : List Asked

-- what requests ask for
abbrev pub workload_by : ℕ → List Request → Workload
workload_by sectors requests = record {
  sectors = sectors;
  asked = map (λ (r : Request). record {
    tick = r.tick;
    transfer = elim r.op [
      | op.Write span pattern ↦ Writes span.first span.count (pattern_bytes pattern)
      | op.Read span ↦ Reads span.first span.count
      | _ ↦ Other
    ];
  }) requests;
}
