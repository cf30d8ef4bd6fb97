-- What became of the core as an operation was planned anew.
use Rattle.std.proofs.Common.{◌≡◌, ℕ, ◌<◌, ◌≤◌, List, length, subst, sym, ap, ◌∙◌, arith, Some, None}
use Rattle.std.specs.Prelude.{slice_set}
use Rattle.std.proofs.lemmas.List.{set-set}
use Rattle.eng_one.specs.Counts.{CanStart}
use Rattle.blk_plain.specs.declared.op.Op.{Op}
use Rattle.blk_disk.specs.declared.disk.Disk.{Ghosts as DiskGhosts}
use Rattle.buf_pool.specs.Pool as held
use Rattle.lay_core.specs.Layout.{Shape}
use Rattle.lay_core.specs.declared.layout.Layout.{Ghosts as LayoutGhosts}
use Rattle.graph_lib.proofs.SpanRanges.{spans-few}
use Rattle.graph_mean.specs.Graph.{Held}
use Rattle.eng_world.specs.declared.item.Traced.{Traced}
use Rattle.eng_state.specs.declared.array.Array.{Array}
use Rattle.eng_clients.specs.Desk.{Desk, desk_at, graph_of, with_started}
use Rattle.eng_log.specs.Filled.{HasBuffers, Filled}
use Rattle.eng_log.specs.Log.{noted}
use Rattle.eng_clients.specs.Planned.{CanRun}
use Rattle.eng_plan.specs.Asked.{lease_for}
use Rattle.eng_state.specs.Serves.{Serves, Stands, CanBack}
use Rattle.eng_state.specs.Sound.{IsSound}
use Rattle.eng_state.specs.Taken.{PlannedFor, Replaced}
use Rattle.eng_starts.proofs.Backing as backing
use Rattle.eng_state.proofs.Settling as settling
use Rattle.eng_state.proofs.Shown.{desk-set}

module _ {L D : Type 0} (lay : LayoutGhosts L) (disk : DiskGhosts D) (old s1 : Array L D) (c : ℕ) (op : Op) (sound : IsSound lay disk old) (stands : Stands lay old) (can : CanBack lay old c)
    (serves : Serves old.graphs.items (lay.shape old.layout) (desk_at old.clients c) op None) (pf : PlannedFor lay old c op None s1) (runs : CanRun old.graphs.items (desk_at s1.clients c)) where
  abbrev y : Shape
  y = lay.shape old.layout

  abbrev gs : List Held
  gs = old.graphs.items

  abbrev e : Desk
  e = desk_at old.clients c

  abbrev p : Desk
  p = desk_at s1.clients c

  below : c < length old.clients
  below = backing.below lay disk old c op None sound stands can serves

  graphs-1 : s1.graphs.items ≡ gs
  graphs-1 = ap (λ (a : Array L D). a.graphs.items) pf.now

  pub anew-can : CanStart (graph_of s1.graphs.items p)
  anew-can = subst (λ (l : List Held). CanStart (graph_of l p)) (sym graphs-1) (settling.planned-can y sound.layout gs old.cols.states op None p serves.inside pf.desk.planned runs)

  lease-same : p.lease ≡ e.lease
  lease-same = ap (λ (a : Desk). a.lease) pf.desk.rest

  long : length p.lease ≡ lease_for y gs op None
  long = ap length lease-same ∙ (backing.on lay disk old c op None sound stands can serves).lease

  buffers : HasBuffers (graph_of gs p) old.pool p.lease
  buffers = record {
    lease = subst (λ (l : List ℕ). held.IsLease old.pool l) (sym lease-same) (backing.well lay disk old c op None sound stands can serves).lease;
    home = subst (λ (l : List ℕ). held.AllHome old.pool l) (sym lease-same) (backing.all-home lay disk old c op None sound stands can serves);
    count = let a = settling.planned-bufs y sound.layout gs old.cols.states op None p serves.inside pf.desk.planned runs spans-few in let b = long in omega (arith, a, b);
    long = λ b lt. let a = settling.planned-long y sound.layout gs old.cols.states op None p serves.inside pf.desk.planned runs b lt in let u = sound.unit in omega (arith, a, u);
  }

  module _ (s3 : Array L D) (start : s3 ≡ record s1 { clients = slice_set s1.clients c (with_started s1.graphs.items p) }) where
    clients-3 : s3.clients ≡ slice_set old.clients c (with_started gs p)
    clients-3 =
        ap (λ (a : Array L D). a.clients) start
        ∙ (ap (λ (a : Array L D). slice_set a.clients c (with_started s1.graphs.items p)) pf.now
        ∙ (set-set old.clients c p (with_started s1.graphs.items p)
        ∙ ap (λ (l : List Held). slice_set old.clients c (with_started l p)) graphs-1))

    desk-3 : desk_at s3.clients c ≡ with_started gs p
    desk-3 = ap (λ (l : List Desk). desk_at l c) clients-3 ∙ desk-set old.clients c (with_started gs p) below

    graphs-3 : s3.graphs.items ≡ gs
    graphs-3 = ap (λ (a : Array L D). a.graphs.items) start ∙ graphs-1

    layout-3 : s3.layout ≡ old.layout
    layout-3 = ap (λ (a : Array L D). a.layout) start ∙ ap (λ (a : Array L D). a.layout) pf.now

    pool-3 : s3.pool ≡ old.pool
    pool-3 = ap (λ (a : Array L D). a.pool) start ∙ ap (λ (a : Array L D). a.pool) pf.now

    pub anew-there : (n : ℕ) → (desk_at s3.clients c).file ≡ Some n → n < length s3.graphs.items
    anew-there n is =
        let none : None ≡ Some n = sym pf.desk.planned.file_is ∙ (sym (ap (λ (a : Desk). a.file) desk-3) ∙ is) in
        absurd (let u : ⊥ = cc in u)

    pub anew-buffers : HasBuffers (graph_of s3.graphs.items (desk_at s3.clients c)) s3.pool (desk_at s3.clients c).lease
    anew-buffers =
        subst (λ (a : Desk). HasBuffers (graph_of s3.graphs.items a) s3.pool a.lease) (sym desk-3)
        (subst (λ (l : List Held). HasBuffers (graph_of l p) s3.pool p.lease) (sym graphs-3)
        (subst (λ (q : held.PoolView). HasBuffers (graph_of gs p) q p.lease) (sym pool-3) buffers))

    module _ (s4 s5 : Array L D) (event : Traced) (filled : Filled (lay.shape s3.layout) (desk_at s3.clients c).map.stripes (graph_of s3.graphs.items (desk_at s3.clients c)) op (desk_at s3.clients c).lease s3.pool s4.pool) (fill : s4 ≡ record s3 { pool = s4.pool }) (note : s5 ≡ record s4 { log = noted s4.log event }) where
      filled-3 : Filled y p.map.stripes (graph_of gs p) op p.lease old.pool s4.pool
      filled-3 =
          subst (λ (q : held.PoolView). Filled y p.map.stripes (graph_of gs p) op p.lease q s4.pool) pool-3
          (subst (λ (l : List Held). Filled y p.map.stripes (graph_of l p) op p.lease s3.pool s4.pool) graphs-3
          (subst (λ (a : Desk). Filled y a.map.stripes (graph_of s3.graphs.items a) op a.lease s3.pool s4.pool) desk-3
          (subst (λ (l : L). Filled (lay.shape l) (desk_at s3.clients c).map.stripes (graph_of s3.graphs.items (desk_at s3.clients c)) op (desk_at s3.clients c).lease s3.pool s4.pool) layout-3 filled)))

      pub replaced-of : Replaced lay old c op event s5
      replaced-of = record {
        plan = p;
        replanned = pf.desk;
        runs = runs;
        clients = ap (λ (a : Array L D). a.clients) note ∙ (ap (λ (a : Array L D). a.clients) fill ∙ clients-3);
        locks = ap (λ (a : Array L D). a.locks) note ∙ (ap (λ (a : Array L D). a.locks) fill ∙ (ap (λ (a : Array L D). a.locks) start ∙ ap (λ (a : Array L D). a.locks) pf.now));
        filled = subst (λ (q : held.PoolView). Filled y p.map.stripes (graph_of gs p) op p.lease old.pool q) (sym (ap (λ (a : Array L D). a.pool) note)) filled-3;
        log = ap (λ (a : Array L D). a.log) note ∙ (ap (λ (a : Array L D). noted a.log event) fill ∙ (ap (λ (a : Array L D). noted a.log event) start ∙ ap (λ (a : Array L D). noted a.log event) pf.now));
        rest = record {
          layout = ap (λ (a : Array L D). a.layout) note ∙ (ap (λ (a : Array L D). a.layout) fill ∙ (ap (λ (a : Array L D). a.layout) start ∙ ap (λ (a : Array L D). a.layout) pf.now));
          cols = ap (λ (a : Array L D). a.cols) note ∙ (ap (λ (a : Array L D). a.cols) fill ∙ (ap (λ (a : Array L D). a.cols) start ∙ ap (λ (a : Array L D). a.cols) pf.now));
          devices = ap (λ (a : Array L D). a.devices) note ∙ (ap (λ (a : Array L D). a.devices) fill ∙ (ap (λ (a : Array L D). a.devices) start ∙ ap (λ (a : Array L D). a.devices) pf.now));
          lists = ap (λ (a : Array L D). a.lists) note ∙ (ap (λ (a : Array L D). a.lists) fill ∙ (ap (λ (a : Array L D). a.lists) start ∙ ap (λ (a : Array L D). a.lists) pf.now));
          graphs = ap (λ (a : Array L D). a.graphs) note ∙ (ap (λ (a : Array L D). a.graphs) fill ∙ (ap (λ (a : Array L D). a.graphs) start ∙ ap (λ (a : Array L D). a.graphs) pf.now));
          lost = ap (λ (a : Array L D). a.lost) note ∙ (ap (λ (a : Array L D). a.lost) fill ∙ (ap (λ (a : Array L D). a.lost) start ∙ ap (λ (a : Array L D). a.lost) pf.now));
          spare = ap (λ (a : Array L D). a.spare) note ∙ (ap (λ (a : Array L D). a.spare) fill ∙ (ap (λ (a : Array L D). a.spare) start ∙ ap (λ (a : Array L D). a.spare) pf.now));
        };
      }
