-- A take is possible in the worlds that a core shows exactly where it can be done.
use Rattle.std.proofs.Common.{◌≡◌, ◌≢◌, ℕ, ◌<◌, List, length, map, subst, sym, ap, ◌∙◌, arith, inl, inr, refl, true, false, nat_eq, Option, Some, None}
use Rattle.std.specs.Prelude.{Contains}
use Rattle.std.specs.List.{list_any}
use Rattle.std.proofs.lemmas.Bool.{cases_Bool, eqb-true}
use Rattle.std.proofs.lemmas.Cmp.{nat_eq_equiv}
use Rattle.std.proofs.lemmas.List.{get_or_default}
use Rattle.std.proofs.lemmas.Map.Views.{Contains-from_any, list_any-from_Contains}
use Rattle.blk_plain.specs.declared.op.Op.{Op}
use Rattle.blk_plain.specs.declared.op.Op.TheVariants.{Write, Writes, Read, Rebuild, Sync}
use Rattle.blk_disk.specs.declared.disk.Disk.{Ghosts as DiskGhosts}
use Rattle.stripe_lock.specs.Table.{mode_of}
use Rattle.stripe_lock.specs.declared.mode.Mode.{Mode}
use Rattle.stripe_lock.specs.declared.mode.Mode.TheVariants.{Share}
use Rattle.lay_core.specs.Layout.{Shape}
use Rattle.lay_core.specs.Touched.{Touched}
use Rattle.lay_core.specs.declared.layout.Layout.{Ghosts as LayoutGhosts}
use Rattle.graph_mean.specs.Graph.{Held, View}
use Rattle.graph_mean.specs.Task.{task_of, missing_of}
use Rattle.graph_lib.specs.Library.{library}
use Rattle.eng_world.specs.declared.item.Item.TheVariants as item
use Rattle.eng_world.specs.World.{Plan, Has, IsRead, World, op_of}
use Rattle.eng_world.specs.Planning.{Concerns, IsChosen, IsTaskOf, kind_of, missing_for, span_count, lease_of}
use Rattle.eng_world.specs.Serving.{CanTake as MayTake}
use Rattle.eng_clients.specs.declared.stage.Stage.{Stage}
use Rattle.eng_clients.specs.declared.stage.Stage.TheVariants.{Nothing, Waits, Runs}
use Rattle.eng_state.specs.declared.array.Array.{Array}
use Rattle.eng_clients.specs.Desk.{Desk, desk_at, item_at, plan_of}
use Rattle.eng_state.specs.Doing.{AreFree}
use Rattle.eng_plan.specs.Asked.{IsOpSplit, mode_by, lease_for, stripes_by}
use Rattle.eng_clients.specs.Planned.{IsDrawn, Replanned}
use Rattle.eng_state.specs.Serves.{Serves, Stands, CanTake}
use Rattle.eng_state.specs.Shows.{Shows, running_as}
use Rattle.eng_state.specs.Sound.{IsSound, mode_for}
use Rattle.eng_state.specs.Steps.{graphs_of}
use Rattle.eng_choice.proofs.Ascending.{same-count}
use Rattle.eng_state.proofs.Asking as asking
use Rattle.eng_choice.proofs.FreeStripes.{concerns-below}
use Rattle.eng_choice.proofs.SplitExists.{split-exists}
use Rattle.eng_plan.proofs.Maps.{op-count}
use Rattle.eng_state.proofs.Plans.{planned-is}
use Rattle.eng_choice.proofs.Possible.{item-shown, current-waits, running-of, well-of}
use Rattle.eng_state.proofs.Served.{same-op, same-file}
use Rattle.eng_choice.proofs.TakeParts.{take-from}

-- a read shares its stripes
read-shares : (op : Op) → IsRead (Some op) → mode_by op ≡ Share
read-shares (Write span pattern) h = absurd h
read-shares (Writes patches) h = absurd h
read-shares (Read span) h = refl
read-shares (Rebuild stripe) h = absurd h
read-shares (Sync stripe) h = absurd h

module _ {L D : Type 0} (lay : LayoutGhosts L) (disk : DiskGhosts D) (core : Array L D) (w : World) (sound : IsSound lay disk core) (stands : Stands lay core) (s : Shows disk core w) (not_lost : core.lost ≡ None) (c : ℕ) where
  abbrev y : Shape
  y = lay.shape core.layout

  abbrev gs : List Held
  gs = core.graphs.items

  abbrev d : Desk
  d = desk_at core.clients c

  -- ## What is planned for it

  module _ (op : Op) (file : Option ℕ) (served : Serves gs y d op file) where
    -- its stripes and their parts
    split : (m : Touched) × IsOpSplit y op m
    split = split-exists y sound.layout op served.inside

    -- the desk as it would be planned
    abbrev planned : Touched → Option ℕ → Desk
    planned m f = record d {
      map = m;
      missing = map (missing_for y core.cols.states op) m.stripes;
      task = task_of y (kind_of y core.cols.states op) m;
      graph = record d.graph { drawn = library (task_of y (kind_of y core.cols.states op) m) (missing_of (map (missing_for y core.cols.states op) m.stripes)) true };
      file = f;
    }

    drawn : (m : Touched) (f : Option ℕ) → ((n : ℕ) → f ≡ Some n → n < length gs) → IsDrawn gs f (planned m f)
    drawn m None there = refl
    drawn m (Some n) there = there n refl

    replanned : (m : Touched) → IsOpSplit y op m → Replanned y gs core.cols.states op file d (planned m file)
    replanned m is = record { planned = record { split = is; task = refl; missing = refl; file_is = refl; drawn = drawn m file served.there }; rest = refl }

    -- each of its tasks has as many stripes as have one of its blocks
    task-count : (p : Plan) → IsTaskOf y op p → p.task.stripes ≡ stripes_by y op
    task-count p task =
        let m = split in
        let q = planned-is y sound.layout gs core.cols.states op file (planned m.0 file) served.inside (replanned m.0 m.1).planned (lease_for y gs op file) refl in
        same-count y op p _ task q.task ∙ op-count y sound.layout op m.0 m.1

  -- ## What is possible can be done

  module _ (op : Op) (graph : Option ℕ) (plan : Plan) (h : MayTake y (graphs_of gs) c op graph plan w) where
    waits : d.stage ≡ Waits
    waits = current-waits disk.tells core.pool d (w.clients c).current d.stage (s.clients c).current h.waits

    item-is : item_at d ≡ Some (item.Run op graph)
    item-is = sym (item-shown lay disk core w sound s not_lost c) ∙ h.item

    serves : Serves gs y d op graph
    serves =
        let busy = (stands.serves c).busy (λ none. let z : Waits ≡ Nothing = sym waits ∙ none in let u : ⊥ = cc in u) in
        let same = same-op busy.0 op busy.1 graph (item_at d) busy.2.item item-is in
        let file = same-file busy.0 op busy.1 graph (item_at d) busy.2.item item-is in
        subst (λ (f : Option ℕ). Serves gs y d op f) file (subst (λ (o : Op). Serves gs y d o busy.1) same busy.2)

    -- another that holds a stripe runs, and the stripe is its operation's
    held-by : (k t : ℕ) (m : Mode) → k ≢ c → Concerns y op t → (desk_at core.clients k).stage ≡ Runs → Contains (desk_at core.clients k).map.stripes t → mode_of core.locks k t ≡ Some m → (mode_by op ≡ Share) × (m ≡ Share)
    held-by k t m ne concerns runs has held =
        let e : Desk = desk_at core.clients k in
        let q = running-of lay disk core w sound s not_lost k runs in
        let well = well-of lay disk core w sound s not_lost k runs in
        let many = well.stripes in
        let lt = has.1 in
        let theirs : Has (plan_of e) t = (has.0, omega (arith, many, lt), get_or_default e.map.stripes has.0 0 t lt ∙ has.2) in
        let mine = h.plan.task.all t (concerns-below y sound.layout op serves.inside t concerns) concerns in
        let both = h.is_free k t (running_as e q.0) ne q.1 mine theirs in
        let busy = (stands.serves k).busy (λ none. let z : Runs ≡ Nothing = sym runs ∙ none in let u : ⊥ = cc in u) in
        let on = (stands.serves k).runs runs busy.0 busy.1 busy.2 in
        let mode : Some m ≡ Some (mode_for e.task.kind) = sym held ∙ sound.locked.each k t runs has in
        let is : m ≡ mode_for e.task.kind = cc in (
          read-shares op (subst (λ (o : Option Op). IsRead o) (ap op_of h.item) both.0),
          is ∙ (on.mode ∙ read-shares busy.0 (subst (λ (o : Option Op). IsRead o) (ap op_of (item-shown lay disk core w sound s not_lost k ∙ busy.2.item)) both.1)),
        )

    by-stage : (k t : ℕ) (m : Mode) → k ≢ c → Concerns y op t → mode_of core.locks k t ≡ Some m → (g : Stage) → (desk_at core.clients k).stage ≡ g → (mode_by op ≡ Share) × (m ≡ Share)
    by-stage k t m ne concerns held Nothing is = let z : None ≡ Some m = sym (sound.locked.idle k (λ runs. let z : Nothing ≡ Runs = sym is ∙ runs in let u : ⊥ = cc in u) t) ∙ held in absurd (let u : ⊥ = cc in u)
    by-stage k t m ne concerns held Waits is = let z : None ≡ Some m = sym (sound.locked.idle k (λ runs. let z : Waits ≡ Runs = sym is ∙ runs in let u : ⊥ = cc in u) t) ∙ held in absurd (let u : ⊥ = cc in u)
    by-stage k t m ne concerns held Runs is = elim (cases_Bool (list_any (nat_eq t) (desk_at core.clients k).map.stripes)) [
      | inl has ↦ held-by k t m ne concerns is (Contains-from_any eqb-true t (desk_at core.clients k).map.stripes has) held
      | inr no_ ↦ let z : None ≡ Some m = sym (sound.locked.only k t is (λ has. let v : true ≡ false = sym (list_any-from_Contains nat_eq_equiv t (desk_at core.clients k).map.stripes has) ∙ no_ in let u : ⊥ = cc in u)) ∙ held in absurd (let u : ⊥ = cc in u)
    ]

    are-free : AreFree lay core c op
    are-free = λ k t m ne concerns held. by-stage k t m ne concerns held (desk_at core.clients k).stage refl

    lease-is : (f : Option ℕ) → IsChosen y (graphs_of gs) op f plan → plan.lease ≡ lease_for y gs op f
    lease-is None chosen = chosen.1 ∙ ap (λ (n : ℕ). lease_of y n (span_count op)) (task-count op graph serves plan h.plan.task)
    lease-is (Some n) chosen = chosen.1 ∙ ap (λ (g : View). length g.bufs) chosen.0

    pub take-can : CanTake lay core c
    take-can = take-from lay core c op graph serves not_lost waits are-free (let a = lease-is graph h.plan.graph_is in let b = h.fits in let e = s.free in omega (arith, a, b, e))

  -- ## What can be done is possible

  module _ (can : CanTake lay core c) (op : Op) (file : Option ℕ) (served : Serves gs y d op file) where
    pub can-take : (plan : Plan) × MayTake y (graphs_of gs) c op file plan w
    can-take =
        let m = split op file served in
        let p = replanned op file served m.0 m.1 in (
          asking.asked lay disk core c op file sound stands can served (planned op file served m.0 file) p (lease_for y gs op file) refl,
          asking.may lay disk core c op file sound stands can served (planned op file served m.0 file) p (lease_for y gs op file) refl w s,
        )

  pub can-take-some : CanTake lay core c → (op : Op) × (graph : Option ℕ) × (plan : Plan) × MayTake y (graphs_of gs) c op graph plan w
  can-take-some can =
      let busy = (stands.serves c).busy (λ none. let z : Waits ≡ Nothing = sym can.waits ∙ none in let u : ⊥ = cc in u) in
      let h = can-take can busy.0 busy.1 busy.2 in
      (busy.0, busy.1, h.0, h.1)
