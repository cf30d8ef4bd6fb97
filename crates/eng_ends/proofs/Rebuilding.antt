-- A stripe that is done: which columns and devices that leaves, and which stripe it is.
use Rattle.std.proofs.Common.{◌≡◌, ℕ, ◌<◌, List, length, subst, sym, ap, ◌∙◌, arith, refl, inl, inr, Bool, true, false, Option, Some, None}
use Rattle.std.specs.Prelude.{if◌then◌else◌, slice_get, slice_index}
use Rattle.std.proofs.lemmas.Bool.{eqb-true}
use Rattle.blk_plain.specs.declared.op.Op.TheVariants as op
use Rattle.blk_disk.specs.declared.disk.Disk.{Ghosts as DiskGhosts}
use Rattle.buf_pool.specs.Pool as pool
use Rattle.lay_core.specs.Layout.{Shape}
use Rattle.lay_core.specs.declared.layout.Layout.{Ghosts as LayoutGhosts}
use Rattle.graph_mean.specs.declared.graph.Node.{Node}
use Rattle.graph_mean.specs.declared.graph.Node.TheVariants.{Rd, Wr, Xor, Cmt, Trm}
use Rattle.graph_mean.specs.declared.task.Kind.{Kind}
use Rattle.graph_mean.specs.declared.task.Kind.TheVariants as kind
use Rattle.graph_mean.specs.Graph.{Held, kind_at}
use Rattle.graph_mean.specs.Task.{HasUnitBelow, is_rebuild_of}
use Rattle.graph_mean.specs.Steps.{Writes, Wrote}
use Rattle.eng_cols.specs.Cols.{ColumnState, Columns, Live, Dead, Filling, Spread, HasDevice, IsKept}
use Rattle.eng_cols.specs.Changes.{done_on, IsEnded}
use Rattle.eng_cols.specs.Seats.{target}
use Rattle.eng_cols.proofs.Ended.{ended-order}
use Rattle.eng_world.specs.Nodes.{IsRebuilt}
use Rattle.eng_world.specs.Planning.{Concerns}
use Rattle.eng_clients.specs.declared.stage.Stage.TheVariants.{Runs}
use Rattle.eng_state.specs.declared.array.Array.{Array}
use Rattle.eng_parts.specs.Shelf.{Shelved}
use Rattle.eng_clients.specs.Desk.{Desk, desk_at}
use Rattle.eng_log.specs.Log.{Logged}
use Rattle.eng_state.specs.Sound.{IsSound, RunsWell, Seated}
use Rattle.eng_state.proofs.Running.{runs_below}
use Rattle.eng_state.specs.Shows.{running_as}
use Rattle.eng_clients.specs.Rebuilt.{WroteAll, HasRebuilt}

-- ## Columns

done-live : (o : Option ColumnState) (s d : ℕ) → done_on o s ≡ Some (Live d) → o ≡ Some (Live d)
done-live (Some (Live device)) s d h = h
done-live (Some (Filling device done)) s d h = absurd (let u : ⊥ = cc in u)
done-live (Some (Spread done)) s d h = absurd (let u : ⊥ = cc in u)
done-live (Some Dead) s d h = absurd (let u : ⊥ = cc in u)
done-live None s d h = absurd (let u : ⊥ = cc in u)

done-filling : (o : Option ColumnState) (s d : ℕ) (done : List Bool) → done_on o s ≡ Some (Filling d done) → (was : List Bool) × (o ≡ Some (Filling d was))
done-filling (Some (Filling device was)) s d done h = (was, let q : device ≡ d = cc in ap (λ (x : ℕ). Some (Filling x was)) q)
done-filling (Some (Live device)) s d done h = absurd (let u : ⊥ = cc in u)
done-filling (Some (Spread was)) s d done h = absurd (let u : ⊥ = cc in u)
done-filling (Some Dead) s d done h = absurd (let u : ⊥ = cc in u)
done-filling None s d done h = absurd (let u : ⊥ = cc in u)

was-live : (b : Bool) (o : Option ColumnState) (s d : ℕ) → (if b then done_on o s else o) ≡ Some (Live d) → o ≡ Some (Live d)
was-live true o s d h = done-live o s d h
was-live false o s d h = h

was-filling : (b : Bool) (o : Option ColumnState) (s d : ℕ) (done : List Bool) → (if b then done_on o s else o) ≡ Some (Filling d done) → (was : List Bool) × (o ≡ Some (Filling d was))
was-filling true o s d done h = done-filling o s d done h
was-filling false o s d done h = (done, h)

module _ (y : Shape) (s i : ℕ) (old new : List ColumnState) (e : IsEnded y s i old new) where
  was-device : (c d : ℕ) → HasDevice new c d → HasDevice old c d
  was-device c d (inl h) = inl (was-live _ (slice_get old c) s d (sym (e c) ∙ h))
  was-device c d (inr h) = inr (was-filling _ (slice_get old c) s d h.0 (sym (e c) ∙ h.1))

-- columns of which a stripe is done have the devices that they had
pub seated-ended : {D : Type 0} (disk : DiskGhosts D) (y : Shape) (s i : ℕ) (old new : Columns) (shelf : Shelved D) → IsEnded y s i old.states new.states → length new.states ≡ length old.states → new.stripes ≡ old.stripes → IsKept new
    → Seated disk y old shelf → Seated disk y new shelf
seated-ended disk y s i old new shelf e columns stripes kept seated = record {
  fit = record { columns = columns ∙ seated.fit.columns; stripes = stripes ∙ seated.fit.stripes };
  kept = kept;
  order = ended-order y s i old.states new.states e seated.order;
  long = seated.long;
  there = λ c d h. seated.there c d (was-device y s i old.states new.states e c d h);
  unfailed = λ c d h. seated.unfailed c d (was-device y s i old.states new.states e c d h);
}

-- ## The stripe and the unit

pub rebuild-unit : (k : Kind) (width unit : ℕ) → HasUnitBelow width k → is_rebuild_of k unit ≡ true → unit < width
rebuild-unit (kind.Rebuild u) width unit below is = subst (λ (j : ℕ). j < width) (sym (eqb-true unit u is)) below
rebuild-unit kind.Read width unit below is = absurd (let u : ⊥ = cc in u)
rebuild-unit kind.Write width unit below is = absurd (let u : ⊥ = cc in u)
rebuild-unit kind.Sync width unit below is = absurd (let u : ⊥ = cc in u)

module _ (y : Shape) (graphs : List Held) (p : pool.PoolView) (d : Desk) (w : RunsWell y graphs p d) where
  -- what is written is of one of the operation's stripes
  wrote-in : (n s i o : ℕ) → Writes d.run.graph n s i o → s < d.task.stripes
  wrote-in n s i o h = by_kind (kind_at d.run.graph n) refl h.1
    where
      by_kind : (k : Node) → kind_at d.run.graph n ≡ k → Wrote d.run.graph k s i o → s < d.task.stripes
      by_kind (Rd u b) is e = absurd e
      by_kind (Wr u b) is e = subst (λ (j : ℕ). j < d.task.stripes) e.1 (w.accepted.2.write n u b h.0 is).1.stripe
      by_kind (Xor to) is e = absurd e
      by_kind Cmt is e = absurd e
      by_kind Trm is e = absurd e

  pub has-stripe : (unit : ℕ) → WroteAll d unit → 0 < d.task.stripes
  has-stripe unit all = let least = w.task.sound.unit_least in let h = all 0 (omega (arith, least)) in wrote-in h.0 0 unit 0 h.1.0

  -- which is one of the array's
  pub stripe-within : 0 < d.task.stripes → slice_index d.map.stripes 0 < y.stripes
  stripe-within some = (w.task.stripes 0 some).0

  -- and the one that it names
  pub stripe-named : (stripe : ℕ) → w.op ≡ op.Rebuild stripe → 0 < d.task.stripes → slice_index d.map.stripes 0 ≡ stripe
  stripe-named stripe is some = subst (λ o. Concerns y o (slice_index d.map.stripes 0)) is (w.task.stripes 0 some).1

  pub unit-within : (unit : ℕ) → is_rebuild_of d.task.kind unit ≡ true → unit < y.width
  unit-within unit is = let e = w.task.width in let lt = rebuild-unit d.task.kind d.task.width unit w.task.sound.unit_below is in omega (arith, e, lt)

-- ## What the world sees rebuilt

module _ (y : Shape) (cols columns : List ColumnState) (d : Desk) (buf : ℕ → ℕ → ℕ → ℕ) (same : columns ≡ cols) (sectors : d.task.unit_sectors ≡ y.unit_sectors) (unit : ℕ) where
  pub rebuilt-seen : HasRebuilt y cols d unit → IsRebuilt y columns (running_as d buf) unit
  rebuilt-seen h = record {
    at = h.alive.0;
    alive = ap (λ (l : List ColumnState). target y l (slice_index d.map.stripes 0) unit) same ∙ h.alive.1;
    good = λ o lt. let e = h.wrote o (omega (arith, lt, sectors)) in (e.0, e.1.0, e.1.1);
  }

  pub seen-rebuilt : is_rebuild_of d.task.kind unit ≡ true → IsRebuilt y columns (running_as d buf) unit → HasRebuilt y cols d unit
  seen-rebuilt own h = record {
    own = own;
    wrote = λ o lt. let e = h.good o (omega (arith, lt, sectors)) in (e.0, (e.1, e.2));
    alive = (h.at, ap (λ (l : List ColumnState). target y l (slice_index d.map.stripes 0) unit) (sym same) ∙ h.alive);
  }

-- ## The core

module _ {L D : Type 0} (lay : LayoutGhosts L) (disk : DiskGhosts D) (core : Array L D) (sound : IsSound lay disk core) where
  module _ (c : ℕ) (runs : (desk_at core.clients c).stage ≡ Runs) where
    pub well-run : RunsWell (lay.shape core.layout) core.graphs.items core.pool (desk_at core.clients c)
    well-run = (sound.well.each c (runs_below (lay.shape core.layout) core.graphs.items core.pool core.clients c sound.well runs)).runs runs

    pub first-position : (unit : ℕ) → WroteAll (desk_at core.clients c) unit → 0 < length (desk_at core.clients c).map.stripes
    first-position unit all = let some = has-stripe (lay.shape core.layout) core.graphs.items core.pool (desk_at core.clients c) well-run unit all in let e = well-run.stripes in omega (arith, some, e)

    pub first-within : (unit : ℕ) → WroteAll (desk_at core.clients c) unit → slice_index (desk_at core.clients c).map.stripes 0 < core.cols.stripes
    first-within unit all =
        let some = has-stripe (lay.shape core.layout) core.graphs.items core.pool (desk_at core.clients c) well-run unit all in
        let lt = stripe-within (lay.shape core.layout) core.graphs.items core.pool (desk_at core.clients c) well-run some in
        let e = sound.seated.fit.stripes in omega (arith, lt, e)

  pub stripe-sound : (cols : Columns) (log : Logged) → Seated disk (lay.shape core.layout) cols core.devices → IsSound lay disk (record core { cols = cols; log = log })
  stripe-sound cols log seated = record {
    layout = sound.layout;
    seated = seated;
    unit = sound.unit;
    well = sound.well;
    devices = sound.devices;
    seats = sound.seats;
    locked = sound.locked;
    jobs = sound.jobs;
  }
