-- What became of the core as an operation was planned, and then begun or refused.
use Rattle.std.proofs.Common.{◌≡◌, ℕ, ◌<◌, List, length, subst, sym, ap, ◌∙◌, arith, inl, inr, refl, Option}
use Rattle.std.specs.Prelude.{slice_set}
use Rattle.std.proofs.lemmas.List.{set-set, get_or_default}
use Rattle.blk_plain.specs.declared.op.Op.{Op}
use Rattle.buf_pool.specs.Pool as held
use Rattle.stripe_lock.specs.Table as table
use Rattle.stripe_lock.specs.declared.mode.Mode.TheVariants.{Share, Exclude}
use Rattle.lay_core.specs.Layout.{Shape, IsLayout}
use Rattle.lay_core.specs.declared.layout.Layout.{Ghosts as LayoutGhosts}
use Rattle.graph_mean.specs.declared.refusal.Refusal.{Refusal}
use Rattle.graph_mean.specs.Graph.{Held}
use Rattle.graph_mean.specs.Task.{Aim}
use Rattle.eng_world.specs.declared.item.Reply.{Reply}
use Rattle.eng_world.specs.declared.item.Traced.{Traced}
use Rattle.eng_world.specs.Planning.{Concerns}
use Rattle.eng_state.specs.declared.array.Array.{Array}
use Rattle.eng_clients.specs.Desk.{Desk, desk_at, graph_of, with_reply, with_started, with_lease}
use Rattle.eng_log.specs.Filled.{Filled}
use Rattle.eng_log.specs.Log.{noted}
use Rattle.eng_clients.specs.Planned.{CanRun, IsRefusedFor}
use Rattle.eng_plan.specs.Asked.{mode_by, lease_for}
use Rattle.eng_state.specs.Serves.{Serves, CanTake}
use Rattle.eng_state.specs.Taken.{PlannedFor, Settled, Taken, Refused}
use Rattle.eng_state.proofs.Plans.{planned-is}
use Rattle.eng_state.proofs.Shown.{desk-set}

module _ {L D : Type 0} (lay : LayoutGhosts L) (old mid : Array L D) (c : ℕ) (op : Op) (file : Option ℕ) (below : c < length old.clients) (pf : PlannedFor lay old c op file mid) where
  abbrev y : Shape
  y = lay.shape old.layout

  abbrev gs : List Held
  gs = old.graphs.items

  abbrev pub p : Desk
  p = desk_at mid.clients c

  abbrev base : Array L D
  base = record old { clients = slice_set old.clients c p; scratch = mid.scratch }

  desk-base : desk_at base.clients c ≡ p
  desk-base = desk-set old.clients c p below

  -- no other holds one of its stripes so that it couldn't
  pub no-conflict : IsLayout y → CanTake lay old c → Serves gs y (desk_at old.clients c) op file → table.Conflict mid.locks c p.map.stripes (mode_by op) → ⊥
  no-conflict law can serves x =
      let task = (planned-is y law gs old.cols.states op file p serves.inside pf.desk.planned (lease_for y gs op file) refl).task in
      let many = ap (λ (t : Aim). t.stripes) pf.desk.planned.task in
      let q = x.wanted.0 in
      let lt = x.wanted.1 in
      let is = get_or_default p.map.stripes q 0 x.stripe lt ∙ x.wanted.2 in
      let concerned : Concerns y op x.stripe = subst (λ (s : ℕ). Concerns y op s) is (task.stripes q (omega (arith, lt, many))).1 in
      let holds = ap (λ (a : Array L D). table.mode_of a.locks x.other x.stripe) (sym pf.now) ∙ x.held in
      let both = can.is_free op file serves.item x.other x.stripe x.theirs x.apart concerned holds in
      elim x.alone [
        | inl mine ↦ let z : Share ≡ Exclude = sym both.0 ∙ mine in let u : ⊥ = cc in u
        | inr theirs ↦ let z : Share ≡ Exclude = sym both.1 ∙ theirs in let u : ⊥ = cc in u
      ]

  module _ (m2 new : Array L D) (event : Traced) (runs : CanRun gs p) (s0 : Settled lay mid c op file m2) (log : new ≡ record m2 { log = noted m2.log event }) where
    s : Settled lay base c op file m2
    s = subst (λ (a : Array L D). Settled lay a c op file m2) pf.now s0

    pub taken-of : Taken lay old c op file event new
    taken-of = record {
      plan = p;
      replanned = pf.desk;
      runs = runs;
      lease = s.lease;
      clients =
          ap (λ (a : Array L D). a.clients) log
          ∙ (ap (λ (a : Array L D). a.clients) s.now
          ∙ (set-set old.clients c p (with_started gs (with_lease (desk_at base.clients c) s.lease))
          ∙ ap (λ (e : Desk). slice_set old.clients c (with_started gs (with_lease e s.lease))) desk-base));
      locks = subst (λ (t : table.Table). table.Acquires old.locks c p.map.stripes (mode_by op) t) (sym (ap (λ (a : Array L D). a.locks) log))
          (subst (λ (e : Desk). table.Acquires old.locks c e.map.stripes (mode_by op) m2.locks) desk-base s.locks);
      mid = s.mid;
      leases = s.leases;
      apart = s.apart;
      filled = subst (λ (q : held.PoolView). Filled y p.map.stripes (graph_of gs p) op s.lease s.mid q) (sym (ap (λ (a : Array L D). a.pool) log))
          (subst (λ (e : Desk). Filled y e.map.stripes (graph_of gs e) op s.lease s.mid m2.pool) desk-base s.filled);
      log = ap (λ (a : Array L D). a.log) log ∙ ap (λ (a : Array L D). noted a.log event) s.now;
      rest = record {
        layout = ap (λ (a : Array L D). a.layout) log ∙ ap (λ (a : Array L D). a.layout) s.now;
        cols = ap (λ (a : Array L D). a.cols) log ∙ ap (λ (a : Array L D). a.cols) s.now;
        devices = ap (λ (a : Array L D). a.devices) log ∙ ap (λ (a : Array L D). a.devices) s.now;
        lists = ap (λ (a : Array L D). a.lists) log ∙ ap (λ (a : Array L D). a.lists) s.now;
        graphs = ap (λ (a : Array L D). a.graphs) log ∙ ap (λ (a : Array L D). a.graphs) s.now;
        lost = ap (λ (a : Array L D). a.lost) log ∙ ap (λ (a : Array L D). a.lost) s.now;
        spare = ap (λ (a : Array L D). a.spare) log ∙ ap (λ (a : Array L D). a.spare) s.now;
      };
    }

  module _ (new : Array L D) (event : Traced) (cause : Refusal) (r : Reply) (refused : IsRefusedFor gs file p cause) (now : new ≡ record mid { clients = slice_set mid.clients c (with_reply (desk_at mid.clients c) r); log = noted mid.log event }) where
    pub refused-of : Refused lay old c op file cause r event new
    refused-of = record {
      plan = p;
      replanned = pf.desk;
      refused = refused;
      clients = ap (λ (a : Array L D). a.clients) now ∙ (ap (λ (a : Array L D). slice_set a.clients c (with_reply p r)) pf.now ∙ set-set old.clients c p (with_reply p r));
      locks = ap (λ (a : Array L D). a.locks) now ∙ ap (λ (a : Array L D). a.locks) pf.now;
      pool = ap (λ (a : Array L D). a.pool) now ∙ ap (λ (a : Array L D). a.pool) pf.now;
      log = ap (λ (a : Array L D). a.log) now ∙ ap (λ (a : Array L D). noted a.log event) pf.now;
      rest = record {
        layout = ap (λ (a : Array L D). a.layout) now ∙ ap (λ (a : Array L D). a.layout) pf.now;
        cols = ap (λ (a : Array L D). a.cols) now ∙ ap (λ (a : Array L D). a.cols) pf.now;
        devices = ap (λ (a : Array L D). a.devices) now ∙ ap (λ (a : Array L D). a.devices) pf.now;
        lists = ap (λ (a : Array L D). a.lists) now ∙ ap (λ (a : Array L D). a.lists) pf.now;
        graphs = ap (λ (a : Array L D). a.graphs) now ∙ ap (λ (a : Array L D). a.graphs) pf.now;
        lost = ap (λ (a : Array L D). a.lost) now ∙ ap (λ (a : Array L D). a.lost) pf.now;
        spare = ap (λ (a : Array L D). a.spare) now ∙ ap (λ (a : Array L D). a.spare) pf.now;
      };
    }

  -- its item has no reply yet
  pub unreplied : length (desk_at old.clients c).replies < length (desk_at old.clients c).items → length p.replies < length p.items
  unreplied h = let e = ap (λ (a : Desk). length a.replies) pf.desk.rest in let i = ap (λ (a : Desk). length a.items) pf.desk.rest in omega (arith, e, i, h)
