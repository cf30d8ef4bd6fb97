-- Returns that are copied one after another.
use Rattle.std.proofs.Common.{◌≡◌, ℕ, ◌<◌, ◌≤◌, ◌+◌, ◌-◌, ◌*◌, List, [], length, get_or, subst, sym, ap, ◌∙◌, arith, inl, inr, refl, false, take}
use Rattle.std.specs.Prelude.{slice_index, slice_index_or}
use Rattle.std.proofs.lemmas.Option.{slice_get_within}
use Rattle.std.proofs.lemmas.Bool.{cases_eq, cases_lt}
use Rattle.std.proofs.lemmas.List.{length-take}
use Rattle.blk_plain.specs.declared.op.Span.{Span}
use Rattle.blk_disk.specs.Disk.{sector_at}
use Rattle.blk_disk.specs.declared.disk.Disk.{Ghosts as DiskGhosts}
use Rattle.buf_pool.specs.Pool as pool
use Rattle.buf_pool.specs.Pool.{AllHome}
use Rattle.lay_core.specs.Layout.{block_of, data_units}
use Rattle.lay_core.specs.declared.layout.Layout.{Ghosts as LayoutGhosts}
use Rattle.blk_disk.specs.Sectors.{put, length-put, sector_at-put_before, sector_at-put_behind, sector_at-put_same}
use Rattle.graph_mean.specs.declared.graph.Buf.{Buf}
use Rattle.graph_mean.specs.declared.graph.Ret.{Ret}
use Rattle.graph_mean.specs.Ordered.{IsReturn}
use Rattle.graph_mean.specs.Task.{missing_of}
use Rattle.graph_mean.specs.Graph.{View, buf_at, ret_at}
use Rattle.graph_mean.specs.Steps.{Covers, stripe_of}
use Rattle.eng_clients.specs.declared.stage.Stage.TheVariants.{Runs}
use Rattle.eng_state.specs.declared.array.Array.{Array}
use Rattle.eng_clients.specs.Desk.{Desk, desk_at}
use Rattle.eng_log.specs.declared.region.Region.{Region}
use Rattle.eng_log.specs.Handed.{Handout, AreRegions, region_at}
use Rattle.eng_log.specs.Log.{Logged, with_bytes}
use Rattle.eng_ends.specs.Copied.{AreLaid, Reads, CopiesOne, Copies, block_at, sector_for}
use Rattle.eng_clients.specs.Seats.{bytes_at}
use Rattle.eng_state.specs.Sound.{IsSound, RunsWell}
use Rattle.eng_clients.proofs.Gathering.{lease-left}
use Rattle.eng_ends.proofs.Handouts.{one-place, ret-fits, in-span}
use Rattle.eng_clients.proofs.Pools.{one-left}
use Rattle.eng_state.proofs.Running.{runs_below}
use Rattle.eng_log.proofs.Seating.{put-same}
use Rattle.eng_ends.proofs.Rebuilding.{stripe-sound, well-run}
use Rattle.eng_log.proofs.Repeating.{sector_at-take}

module _ (g : View) (place : Ret → ℕ → ℕ) (bytes : ℕ → List ℕ) where
  pub copies-none : (old : List ℕ) → Copies g place bytes 0 old old
  copies-none old = record { long = refl; here = λ k o lt. absurd (omega (arith, lt)); rest = λ s none. refl }

  pub copies-more : (n : ℕ) (old mid new : List ℕ) → ((k o u : ℕ) → k < n → Covers g (ret_at g k).buf o → Covers g (ret_at g n).buf u → place (ret_at g k) o ≡ place (ret_at g n) u → ⊥)
      → Copies g place bytes n old mid → CopiesOne g place bytes (ret_at g n) mid new → Copies g place bytes (n + 1) old new
  copies-more n old mid new apart so_far one = record {
    long = one.long ∙ so_far.long;
    here = λ k o lt co. elim (cases_eq k n) [
      | inl is ↦ subst (λ (j : ℕ). Covers g (ret_at g j).buf o → sector_at new (place (ret_at g j) o) ≡ sector_at (bytes (ret_at g j).buf) (o - (buf_at g (ret_at g j).buf).from)) (sym is) (one.here o) co
      | inr ne ↦ let less : k < n = omega (arith, lt, ne) in one.rest (place (ret_at g k) o) (λ u cu e. apart k o u less co cu e) ∙ so_far.here k o less co
    ];
    rest = λ s none. one.rest s (λ u cu e. none n u (omega arith) cu e) ∙ so_far.rest s (λ k o lt co e. none k o (omega (arith, lt)) co e);
  }

  -- the front of a buffer is put where its first offset goes
  pub copies-put : (r : Ret) (old : List ℕ) (first : ℕ) → ((o : ℕ) → Covers g r.buf o → place r o ≡ first + (o - (buf_at g r.buf).from)) → 512 * (buf_at g r.buf).count ≤ length (bytes r.buf) → 512 * first + 512 * (buf_at g r.buf).count ≤ length old
      → CopiesOne g place bytes r old (put old first (take (512 * (buf_at g r.buf).count) (bytes r.buf)))
  copies-put r old first at room fits =
      let count : ℕ = (buf_at g r.buf).count in
      let from : List ℕ = take (512 * count) (bytes r.buf) in
      let long : length from ≡ 512 * count = omega (arith, length-take (512 * count) (bytes r.buf), room) in record {
        long = length-put old from first (omega (arith, long, fits));
        here = λ o co. let k : ℕ = o - (buf_at g r.buf).from in
            let lt : k < count = let lo = co.0 in let hi = co.1 in omega (arith, lo, hi) in
            ap (sector_at (put old first from)) (at o co) ∙ (sector_at-put_same old from first k (omega (arith, fits)) (omega (arith, long, lt)) ∙ sector_at-take (bytes r.buf) (512 * count) k (omega (arith, lt)));
        rest = λ s none. elim (cases_lt s first) [
          | inl before ↦ sector_at-put_before old from first s (omega (arith, fits)) before
          | inr not_before ↦ elim (cases_lt s (first + count)) [
            | inl within ↦
                let o : ℕ = (buf_at g r.buf).from + (s - first) in
                let co : Covers g r.buf o = (omega arith, omega (arith, within, not_before)) in
                absurd (none o co (let e : first + (o - (buf_at g r.buf).from) ≡ s = omega (arith, not_before) in sym e ∙ sym (at o co)))
            | inr behind ↦ sector_at-put_behind old from first s (omega (arith, long)) (omega (arith, fits)) (omega (arith, long, behind))
          ]
        ];
      }

-- ## The core

pub laid-bytes : (h : Handout) (desks : List Desk) (bytes : List ℕ) → AreLaid h desks → AreLaid (record h { bytes = bytes }) desks
laid-bytes h desks bytes laid = record { clients = laid.clients; items = laid.items; reads = laid.reads }

module _ {L D : Type 0} (lay : LayoutGhosts L) (disk : DiskGhosts D) (old : Array L D) (c : ℕ) (span : Span) where
  abbrev d : Desk
  d = desk_at old.clients c

  abbrev place : Ret → ℕ → ℕ
  place = sector_for (lay.shape old.layout) d span (region_at old.log.handed c (length d.replies)).first

  -- the first n returns of client c are copied, and nothing else has changed
  pub record CopiesTo (n : ℕ) (now : Array L D) : Type 0 where
    pub copied : Copies d.run.graph place (bytes_at old.pool d.lease) n old.log.handed.bytes now.log.handed.bytes
    pub rest : now ≡ record old { log = with_bytes old.log now.log.handed.bytes }

  pub to-none : CopiesTo 0 old
  to-none = record { copied = copies-none d.run.graph place (bytes_at old.pool d.lease) old.log.handed.bytes; rest = refl }

  -- what is asked before the next one
  module _ (n : ℕ) (now : Array L D) (so_far : CopiesTo n now) where
    pub to-sound : IsSound lay disk old → IsSound lay disk now
    to-sound sound = subst (λ (s : Array L D). IsSound lay disk s) (sym so_far.rest) (stripe-sound lay disk old sound old.cols (with_bytes old.log now.log.handed.bytes) sound.seated)

    pub to-runs : d.stage ≡ Runs → (desk_at now.clients c).stage ≡ Runs
    to-runs runs = ap (λ (s : Array L D). (desk_at s.clients c).stage) so_far.rest ∙ runs

    pub to-rets : length (desk_at now.clients c).run.graph.rets ≡ length d.run.graph.rets
    to-rets = ap (λ (s : Array L D). length (desk_at s.clients c).run.graph.rets) so_far.rest

    pub to-reads : Reads old.clients c span → Reads now.clients c span
    to-reads reads = subst (λ (s : Array L D). Reads s.clients c span) (sym so_far.rest) reads

    pub to-laid : AreLaid old.log.handed old.clients → AreLaid now.log.handed now.clients
    to-laid laid = subst (λ (s : Array L D). AreLaid s.log.handed s.clients) (sym so_far.rest) (laid-bytes old.log.handed old.clients now.log.handed.bytes laid)

    pub to-home : AllHome old.pool d.lease → AllHome now.pool (desk_at now.clients c).lease
    to-home home = subst (λ (s : Array L D). AllHome s.pool (desk_at s.clients c).lease) (sym so_far.rest) home

    pub to-more : (new : Array L D) → (sound : IsSound lay disk old) (runs : d.stage ≡ Runs) → Reads old.clients c span → n < length d.run.graph.rets
        → CopiesOne (desk_at now.clients c).run.graph (sector_for (lay.shape now.layout) (desk_at now.clients c) span (region_at now.log.handed c (length (desk_at now.clients c).replies)).first) (bytes_at now.pool (desk_at now.clients c).lease) (ret_at (desk_at now.clients c).run.graph n) now.log.handed.bytes new.log.handed.bytes
        → new ≡ record now { log = with_bytes now.log new.log.handed.bytes } → CopiesTo (n + 1) new
    to-more new sound runs reads lt one is = record {
      copied = copies-more d.run.graph place (bytes_at old.pool d.lease) n old.log.handed.bytes now.log.handed.bytes new.log.handed.bytes
          (λ k o u less co cu e. let same = one-place (lay.shape old.layout) old.graphs.items old.pool d sound.layout (well-run lay disk old sound c runs) span reads.0 reads.1 (region_at old.log.handed c (length d.replies)).first k n o u (omega (arith, less, lt)) lt co cu e in omega (arith, same, less))
          so_far.copied
          (subst (λ (s : Array L D). CopiesOne (desk_at s.clients c).run.graph (sector_for (lay.shape s.layout) (desk_at s.clients c) span (region_at s.log.handed c (length (desk_at s.clients c).replies)).first) (bytes_at s.pool (desk_at s.clients c).lease) (ret_at (desk_at s.clients c).run.graph n) now.log.handed.bytes new.log.handed.bytes) so_far.rest one);
      rest = is ∙ ap (λ (s : Array L D). record s { log = with_bytes s.log new.log.handed.bytes }) so_far.rest;
    }

  -- a buffer's front was copied out, and the buffer is at home again
  pub front-returned : (mid new : Array L D) (buf first n : ℕ) (buffer : List ℕ) (log : Logged) → get_or d.lease buf 0 < length old.pool.seats → (pool.seat_at old.pool.seats (get_or d.lease buf 0)).out ≡ false → buffer ≡ bytes_at old.pool d.lease buf
      → mid ≡ record old { pool = pool.taken old.pool (get_or d.lease buf 0) } → log ≡ with_bytes mid.log (put mid.log.handed.bytes first (take n buffer))
      → new ≡ record mid { log = log; pool = pool.put mid.pool (get_or (desk_at mid.clients c).lease buf 0) buffer }
      → new ≡ record old { log = with_bytes old.log (put old.log.handed.bytes first (take n (bytes_at old.pool d.lease buf))) }
  front-returned mid new buf first n buffer log inside home same is_mid is_log is_new =
      is_new
      ∙ (ap (λ (l : Logged). record mid { log = l; pool = pool.put mid.pool (get_or (desk_at mid.clients c).lease buf 0) buffer }) is_log
      ∙ (ap (λ (s : Array L D). record s { log = with_bytes s.log (put s.log.handed.bytes first (take n buffer)); pool = pool.put s.pool (get_or (desk_at s.clients c).lease buf 0) buffer }) is_mid
      ∙ (ap (λ (p : pool.PoolView). record old { pool = p; log = with_bytes old.log (put old.log.handed.bytes first (take n buffer)) }) (put-same old.pool (get_or d.lease buf 0) inside buffer home same)
      ∙ ap (λ (b : List ℕ). record old { log = with_bytes old.log (put old.log.handed.bytes first (take n b)) }) same)))

  pub left-lease : (mid : Array L D) (buf : ℕ) → pool.IsLease old.pool d.lease → buf < length d.lease → mid ≡ record old { pool = pool.taken old.pool (get_or d.lease buf 0) } → pool.IsLease mid.pool (desk_at mid.clients c).lease
  left-lease mid buf lease lt is = subst (λ (s : Array L D). pool.IsLease s.pool (desk_at s.clients c).lease) (sym is)
      (lease-left old.pool (pool.taken old.pool (get_or d.lease buf 0)) (λ j. j ≡ get_or d.lease buf 0) d.lease (one-left old.pool (get_or d.lease buf 0) (lease buf lt).0 (λ j. j ≡ get_or d.lease buf 0) refl (λ j e. e)) lease)

  -- ## The next return

  module _ (sound : IsSound lay disk old) (runs : d.stage ≡ Runs) (reads : Reads old.clients c span) (laid : AreLaid old.log.handed old.clients) (k : ℕ) (less : k < length d.run.graph.rets) where
    well : RunsWell (lay.shape old.layout) old.graphs.items old.pool d
    well = well-run lay disk old sound c runs

    abbrev r : Ret
    r = ret_at d.run.graph k

    abbrev range : Buf
    range = buf_at d.run.graph r.buf

    fits : IsReturn d.run.graph d.task (missing_of d.missing) r
    fits = ret-fits (lay.shape old.layout) old.graphs.items old.pool d sound.layout well span reads.0 reads.1 k less

    pub has-region : length d.replies < length (slice_index_or old.log.handed.regions c [])
    has-region =
        let within = slice_get_within d.items (length d.replies) _ reads.1 in
        let below = runs_below (lay.shape old.layout) old.graphs.items old.pool old.clients c sound.well runs in
        let all = sound.well.all in
        let room = laid.items c (omega (arith, below, all)) in omega (arith, within, room)

    covered : Covers d.run.graph r.buf range.from
    covered = let some = (well.accepted.2.bufs r.buf fits.buf.below).some in (omega arith, omega (arith, some))

    last-covered : Covers d.run.graph r.buf (range.from + range.count - 1)
    last-covered = let some = (well.accepted.2.bufs r.buf fits.buf.below).some in (omega (arith, some), omega (arith, some))

    abbrev block : ℕ
    block = block_at (lay.shape old.layout) d r range.from

    abbrev region : Region
    region = region_at old.log.handed c (length d.replies)

    -- its blocks are in the span
    pub block-in : (span.first ≤ block) × (block + range.count ≤ span.first + span.count)
    block-in =
        let lo = in-span (lay.shape old.layout) old.graphs.items old.pool d sound.layout well span reads.0 reads.1 k range.from less covered in
        let hi = in-span (lay.shape old.layout) old.graphs.items old.pool d sound.layout well span reads.0 reads.1 k (range.from + range.count - 1) less last-covered in
        let some = (well.accepted.2.bufs r.buf fits.buf.below).some in
        (lo.0, let last = hi.1 in omega (arith, last, some))

    pub in-lease : r.buf < length d.lease
    in-lease = let a = fits.buf.below in let b = well.bufs in omega (arith, a, b)

    pub in-unit : 512 * range.count ≤ old.pool.unit
    in-unit = let a = fits.buf.within in let e = well.task.unit_sectors in let u = sound.unit in omega (arith, a, e, u)

    pub in-bytes : AreRegions old.log.handed → 512 * (region.first + (block - span.first)) + 512 * range.count ≤ length old.log.handed.bytes
    in-bytes regions = let within = regions.within c (length d.replies) in let count = laid.reads c (length d.replies) span reads.0 reads.1 in let b = block-in in let lo = b.0 in let hi = b.1 in omega (arith, within, count, lo, hi)

    pub block-is : (a : Ret) (b : Buf) (s m : ℕ) → a ≡ r → b ≡ buf_at d.run.graph a.buf → s ≡ slice_index d.map.stripes b.stripe → m ≡ block_of (lay.shape old.layout) s a.unit b.from → m ≡ block
    block-is a b s m is_a is_b is_s is_m =
        is_m ∙ (ap (λ (q : ℕ). block_of (lay.shape old.layout) q a.unit b.from) is_s
        ∙ (ap (λ (q : Buf). block_of (lay.shape old.layout) (slice_index d.map.stripes q.stripe) a.unit q.from) is_b
        ∙ ap (λ (q : Ret). block_of (lay.shape old.layout) (slice_index d.map.stripes (buf_at d.run.graph q.buf).stripe) q.unit (buf_at d.run.graph q.buf).from) is_a))

    pub one-copied : (new : Array L D) (f m count buf : ℕ) → count ≡ range.count → buf ≡ r.buf → f ≡ region.first → m ≡ block → new.log.handed.bytes ≡ put old.log.handed.bytes (f + (m - span.first)) (take (512 * count) (bytes_at old.pool d.lease buf)) → length (bytes_at old.pool d.lease buf) ≡ old.pool.unit → AreRegions old.log.handed
        → CopiesOne d.run.graph place (bytes_at old.pool d.lease) r old.log.handed.bytes new.log.handed.bytes
    one-copied new f m count buf is_count is_buf is_f is_m is long regions =
        let to : ℕ = region.first + (block - span.first) in
        let is_first : f + (m - span.first) ≡ to = omega (arith, is_f, is_m) in
        let made : new.log.handed.bytes ≡ put old.log.handed.bytes to (take (512 * range.count) (bytes_at old.pool d.lease r.buf)) =
        is ∙ (ap (λ (q : ℕ). put old.log.handed.bytes q (take (512 * count) (bytes_at old.pool d.lease buf))) is_first
        ∙ (ap (λ (q : ℕ). put old.log.handed.bytes to (take (512 * q) (bytes_at old.pool d.lease buf))) is_count
        ∙ ap (λ (q : ℕ). put old.log.handed.bytes to (take (512 * range.count) (bytes_at old.pool d.lease q))) is_buf)) in
        let len : length (bytes_at old.pool d.lease r.buf) ≡ old.pool.unit = sym (ap (λ (q : ℕ). length (bytes_at old.pool d.lease q)) is_buf) ∙ long in
        let unit = in-unit in
        subst (λ (l : List ℕ). CopiesOne d.run.graph place (bytes_at old.pool d.lease) r old.log.handed.bytes l) (sym made)
        (copies-put d.run.graph place (bytes_at old.pool d.lease) r old.log.handed.bytes to
        (λ o co.
        let base : ℕ = (slice_index d.map.stripes (stripe_of d.run.graph r.buf) * data_units (lay.shape old.layout) + r.unit) * (lay.shape old.layout).unit_sectors in
        let a : block_at (lay.shape old.layout) d r o ≡ base + o = refl in
        let b : block ≡ base + range.from = refl in
        let lo = co.0 in let first_in = block-in.0 in
        let e : region.first + (block_at (lay.shape old.layout) d r o - span.first) ≡ to + (o - range.from) = omega (arith, a, b, lo, first_in) in e)
        (omega (arith, len, unit)) (in-bytes regions))
