-- An operation that waits may be taken, as it is planned.
use Rattle.std.proofs.Common.{◌≡◌, ◌≢◌, ℕ, ◌<◌, List, length, subst, sym, ap, ◌∙◌, arith, Option, None}
use Rattle.std.specs.Prelude.{Contains, slice_get}
use Rattle.std.proofs.lemmas.List.Elements.{Contains-get_or}
use Rattle.blk_plain.specs.declared.op.Op.{Op}
use Rattle.blk_disk.specs.declared.disk.Disk.{Ghosts as DiskGhosts}
use Rattle.buf_pool.specs.Pool as pool
use Rattle.lay_core.specs.Layout.{Shape}
use Rattle.lay_core.specs.declared.layout.Layout.{Ghosts as LayoutGhosts}
use Rattle.graph_mean.specs.Graph.{Held}
use Rattle.eng_cols.specs.Cols.{ColumnState}
use Rattle.eng_world.specs.declared.item.Item.{Item}
use Rattle.eng_world.specs.declared.item.Reply.{Reply}
use Rattle.eng_world.specs.World.{Plan, Running, Client, World, IsRead, Has, item_now, op_of, Waits as IsWaiting}
use Rattle.eng_world.specs.Planning.{IsPlan, Concerns}
use Rattle.eng_world.specs.Serving.{CanTake as MayTake}
use Rattle.eng_clients.specs.declared.stage.Stage.{Stage}
use Rattle.eng_clients.specs.declared.stage.Stage.TheVariants.{Nothing, Waits, Runs}
use Rattle.eng_state.specs.declared.array.Array.{Array}
use Rattle.eng_clients.specs.Desk.{Desk, desk_at, graph_of, item_at, plan_of}
use Rattle.eng_plan.specs.Asked.{lease_for}
use Rattle.eng_clients.specs.Planned.{plan_with, Replanned}
use Rattle.eng_state.specs.Serves.{Serves, Stands, CanTake}
use Rattle.eng_state.specs.Shows.{Shows, ShowsClient, ShowsCurrent}
use Rattle.eng_state.specs.Sound.{IsSound, RunsWell, mode_for}
use Rattle.eng_state.specs.Steps.{graphs_of}
use Rattle.eng_state.proofs.Plans.{planned-is}
use Rattle.eng_state.proofs.Served as served
use Rattle.eng_state.proofs.Shown.{unlost, runs-shown}
use Rattle.eng_world.proofs.Words.{IsFree}

-- a client that waits is shown as one that waits
shown-waiting : (tells : Type 0) (p : pool.PoolView) (d : Desk) (c : Client) → ShowsClient tells None p d c → d.stage ≡ Waits → c.current ≡ IsWaiting
shown-waiting tells p d c s waits = subst (λ (t : Stage). ShowsCurrent tells p t d c.current) waits s.current

-- a client that waits is one of them
pub waits-below : {L D : Type 0} (lay : LayoutGhosts L) (disk : DiskGhosts D) (old : Array L D) (c : ℕ) → IsSound lay disk old → CanTake lay old c → c < length old.clients
waits-below lay disk old c sound can =
    let h = served.busy-below (lay.shape old.layout) old.graphs.items old.pool old.clients c sound.well (λ none. let z : Waits ≡ Nothing = sym can.waits ∙ none in let u : ⊥ = cc in u) in
    let all = sound.well.all in omega (arith, h, all)

module _ {L D : Type 0} (lay : LayoutGhosts L) (disk : DiskGhosts D) (old : Array L D) (c : ℕ) (op : Op) (file : Option ℕ) (sound : IsSound lay disk old) (stands : Stands lay old) (can : CanTake lay old c)
    (serves : Serves old.graphs.items (lay.shape old.layout) (desk_at old.clients c) op file) (plan : Desk) (r : Replanned (lay.shape old.layout) old.graphs.items old.cols.states op file (desk_at old.clients c) plan) (n : ℕ) (long : n ≡ lease_for (lay.shape old.layout) old.graphs.items op file) where
  abbrev y : Shape
  y = lay.shape old.layout

  abbrev gs : List Held
  gs = old.graphs.items

  abbrev d : Desk
  d = desk_at old.clients c

  abbrev pub asked : Plan
  asked = plan_with plan (graph_of gs plan) n

  busy : d.stage ≢ Nothing
  busy none = let z : Waits ≡ Nothing = sym can.waits ∙ none in let u : ⊥ = cc in u

  pub below17 : c < 17
  below17 = served.busy-below y gs old.pool old.clients c sound.well busy

  pub below : c < length old.clients
  below = let all = sound.well.all in let h = below17 in omega (arith, all, h)

  pub rests : d.stage ≢ Runs
  rests runs = let z : Waits ≡ Runs = sym can.waits ∙ runs in let u : ⊥ = cc in u

  pub lease-of : (k : ℕ) → (desk_at old.clients k).stage ≡ Runs → RunsWell y gs old.pool (desk_at old.clients k)
  lease-of k runs = (sound.well.each k (served.busy-below y gs old.pool old.clients k sound.well (λ none. let z : Runs ≡ Nothing = sym runs ∙ none in let u : ⊥ = cc in u))).runs runs

  module _ (w : World) (s : Shows disk old w) where
    plan-is : IsPlan y (graphs_of gs) w.columns op file asked
    plan-is = subst (λ (cols : List ColumnState). IsPlan y (graphs_of gs) cols op file asked) (sym s.columns) (planned-is y sound.layout gs old.cols.states op file plan serves.inside r.planned n long)

    item-is : (k : ℕ) → item_now (w.clients k) ≡ item_at (desk_at old.clients k)
    item-is k = ap (λ (l : List Item). slice_get l (length (w.clients k).replies)) (unlost disk old w s can.not_lost k).items ∙ ap (λ (l : List Reply). slice_get (desk_at old.clients k).items (length l)) (unlost disk old w s can.not_lost k).replies

    is-free : IsFree w c asked
    is-free k t q ne runs mine theirs =
        let shown = runs-shown disk old w s k q runs in
        let e = desk_at old.clients k in
        let well = lease-of k shown.0 in
        let theirs2 : Has (plan_of e) t = subst (λ (q : Running). Has q.plan t) shown.2 theirs in
        let many = well.stripes in
        let held : Contains e.map.stripes t = subst (λ (i : ℕ). Contains e.map.stripes i) theirs2.2 (Contains-get_or e.map.stripes theirs2.0 0 (let lt = theirs2.1 in omega (arith, many, lt))) in
        let mode = sound.locked.each k t shown.0 held in
        let concerned = subst (λ (i : ℕ). Concerns y op i) mine.2 (plan-is.task.stripes mine.0 mine.1).1 in
        let both = can.is_free op file serves.item k t (mode_for e.task.kind) ne concerned mode in
        let serves2 = (stands.serves k).busy (λ none. let z : Runs ≡ Nothing = sym shown.0 ∙ none in let u : ⊥ = cc in u) in
        let on = (stands.serves k).runs shown.0 serves2.0 serves2.1 serves2.2 in (
          subst (λ (o : Option Op). IsRead o) (sym (ap op_of (item-is c ∙ serves.item))) (served.share-read op both.0),
          subst (λ (o : Option Op). IsRead o) (sym (ap op_of (item-is k ∙ serves2.2.item))) (served.share-read serves2.0 (sym on.mode ∙ both.1)),
        )

    pub may : MayTake y (graphs_of gs) c op file asked w
    may = record {
      waits = shown-waiting disk.tells old.pool d (w.clients c) (unlost disk old w s can.not_lost c) can.waits;
      item = item-is c ∙ serves.item;
      index = ap length (ap (λ (d : Desk). d.replies) r.rest ∙ sym (unlost disk old w s can.not_lost c).replies);
      plan = plan-is;
      is_free = is-free;
      fits = let a = long in let b = s.free in let h = can.fits op file serves.item in omega (arith, a, b, h);
    }
