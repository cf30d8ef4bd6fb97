-- Where a call lies: on a device of a column, within its rows.
use Rattle.std.proofs.Common.{◌≡◌, ℕ, ◌<◌, ◌≤◌, ◌+◌, ◌*◌, List, length, subst, sym, ap, ◌∙◌, arith, Bool, true, false, Option, Some, None}
use Rattle.std.specs.Prelude.{cond, slice_index}
use Rattle.std.proofs.Math.Nat.{mul-le-mul_right}
use Rattle.blk_disk.specs.declared.disk.Disk.{Ghosts as DiskGhosts}
use Rattle.buf_pool.specs.Pool as pool
use Rattle.lay_core.specs.Layout.{Shape, IsLayout}
use Rattle.graph_mean.specs.declared.graph.Node.TheVariants.{Rd, Wr}
use Rattle.graph_mean.specs.Graph.{Held, buf_at}
use Rattle.graph_mean.specs.Task.{is_rebuild_of}
use Rattle.graph_mean.specs.Steps.{stripe_of}
use Rattle.graph_mean.specs.Ordered.{IsBuf}
use Rattle.eng_cols.specs.declared.spot.Spot.{Spot}
use Rattle.eng_cols.specs.Cols.{ColumnState, Columns}
use Rattle.eng_cols.specs.Seats.{is_available, seat, spot, target}
use Rattle.eng_cols.proofs.Spots.{target-seat, seat-device, seat-within}
use Rattle.eng_world.specs.World.{Plan}
use Rattle.eng_world.specs.Nodes.{place_of}
use Rattle.eng_job.specs.Performed.{HasRoom}
use Rattle.eng_parts.specs.Shelf.{Seen, Shelved, seen_at}
use Rattle.eng_clients.specs.Desk.{Desk}
use Rattle.eng_state.specs.Out.{first_of}
use Rattle.eng_state.specs.Sound.{RunsWell, Seated}

-- what has a spot has it at its seat
spot-seat : (y : Shape) (cols : List ColumnState) (s i : ℕ) (at : Spot) → spot y cols s i ≡ Some at → seat y cols s i ≡ Some at
spot-seat y cols s i at h = by_case (is_available y cols s i) h
  where
    by_case : (b : Bool) → cond b (seat y cols s i) None ≡ Some at → seat y cols s i ≡ Some at
    by_case true e = e
    by_case false e = let z : None ≡ Some at = e in absurd (let u : ⊥ = cc in u)

pub read-seat : (y : Shape) (cols : List ColumnState) (p : Plan) (i b : ℕ) (at : Spot) → place_of y cols p (Rd i b) ≡ Some at → seat y cols (p.stripe (stripe_of p.graph b)) i ≡ Some at
read-seat y cols p i b at h = spot-seat y cols (p.stripe (stripe_of p.graph b)) i at h

pub write-seat : (y : Shape) (cols : List ColumnState) (p : Plan) (i b : ℕ) (at : Spot) → place_of y cols p (Wr i b) ≡ Some at → seat y cols (p.stripe (stripe_of p.graph b)) i ≡ Some at
write-seat y cols p i b at h = by_case (is_rebuild_of p.task.kind i) h
  where
    s : ℕ
    s = p.stripe (stripe_of p.graph b)

    by_case : (r : Bool) → cond r (target y cols s i) (spot y cols s i) ≡ Some at → seat y cols s i ≡ Some at
    by_case true e = target-seat y cols s i at e
    by_case false e = spot-seat y cols s i at e

module _ {D : Type 0} (disk : DiskGhosts D) (y : Shape) (lay : IsLayout y) (graphs : List Held) (p : pool.PoolView) (d : Desk) (w : RunsWell y graphs p d) (cols : Columns) (shelf : Shelved D) (seated : Seated disk y cols shelf) where
  -- the sectors of a buffer, where its unit has its seat, lie on that device
  pub seat-room : (i b : ℕ) (at : Spot) (o : Bool) (x : D) (bytes : List ℕ) → IsBuf d.run.graph d.task b → i < y.width → seat y cols.states (slice_index d.map.stripes (stripe_of d.run.graph b)) i ≡ Some at → seen_at shelf at.device ≡ Some (record { out = o; device = x }) → length bytes ≡ 512 * y.unit_sectors → HasRoom disk x (first_of y d.run.graph b at) bytes (buf_at d.run.graph b).count
  seat-room i b at o x bytes buf unit is seen long =
      let s = slice_index d.map.stripes (stripe_of d.run.graph b) in
      let stripe : s < y.stripes = (w.task.stripes (stripe_of d.run.graph b) buf.stripe).0 in
      let on = seat-device y cols.states s i at is in
      let within = (seat-within y cols.states s i at lay stripe unit is).1 in
      let there = seated.there at.column at.device on in
      let same : there.0.device ≡ x = ap device_in (sym there.1 ∙ seen) in
      let size : 64 + y.rows * y.unit_sectors ≤ disk.size x = subst (λ (z : D). 64 + y.rows * y.unit_sectors ≤ disk.size z) same there.2 in
      let units = w.task.unit_sectors in
      let fits = buf.within in
      let rows = row-fits at.row y.rows y.unit_sectors within in
      record {
        on_disk = omega (arith, size, fits, rows, units);
        in_buffer = omega (arith, fits, long, units);
      }
    where
      device_in : Option (Seen D) → D
      device_in (Some s) = s.device
      device_in None = x

      row-fits : (r n u : ℕ) → r < n → r * u + u ≤ n * u
      row-fits r n u h = let h2 = mul-le-mul_right u (let z : r + 1 ≤ n = omega arith in z) in omega (arith, h2)
