-- Whose stripes lie in the regions: while the array isn't lost what an operation writes lies in stripes that its item concerns; and once it is lost nothing new runs.
use Rattle.std.proofs.Common.{◌≡◌, ◌<◌, ◌≤◌, ◌⊎◌, inl, inr, ℕ, Bool, true, false, Option, Some, None, slice_get, length, refl, sym, ◌∙◌, ap}
use Rattle.std.proofs.lemmas.Bool.{cases_eq, cases_lt}
use Rattle.lay_core.specs.Layout.{Shape, Blocks}
use Rattle.graph_mean.specs.declared.graph.Node.TheVariants.{Wr}
use Rattle.std.proofs.lemmas.List.{get_or_past}
use Rattle.graph_mean.specs.Graph.{Vertex, kind_at}
use Rattle.graph_mean.specs.Steps.{stripe_of}
use Rattle.eng_cols.specs.declared.spot.Loss.{Loss}
use Rattle.eng_world.specs.declared.item.Item.{Item}
use Rattle.eng_world.specs.declared.item.Item.TheVariants as item
use Rattle.eng_world.specs.declared.item.Traced.{Traced}
use Rattle.eng_world.specs.declared.item.Traced.TheVariants as event
use Rattle.eng_world.specs.World.{Running, Runs, World, RunsAs, Goes}
use Rattle.eng_world.specs.Planning.{Graphs}
use Rattle.eng_world.specs.Failing.{FailsColumn, FailsIfAlive, Loses, Survives, device_on}
use Rattle.eng_world.specs.Serving.{Begun, Takes, Refuses}
use Rattle.eng_world.specs.Nodes.{Works, Commits, Terminates}
use Rattle.eng_world.specs.Step.{StepIn, StepLost, StepBy, Step, ComesHome}
use Rattle.eng_world.specs.Invariant.{Invariant}
use Rattle.eng_world.proofs.Clients.{runs-same, nothing-runs, other-runs, still-runs}
use Rattle.eng_world.proofs.Outs.{outlives-back}
use Rattle.raid_map.specs.Regions.{region_of}
use Rattle.raid_map.specs.Mapped.{Covers, AreAskedFor}
use Rattle.raid_map.proofs.Chosen.{EachChosen, chosen-writes}
use Rattle.graph_mean.proofs.Words.{no_vertex}
use Rattle.eng_world.proofs.Words.{BackBy}

-- ## While the array isn't lost

asked-covers-in : (y : Shape) (graphs : Graphs) (in_sync : Type 0) (start : Blocks) (regions : ℕ → Bool) (w : World) → Invariant y in_sync start w → EachChosen graphs w → AreAskedFor y graphs regions w
    → (c n unit buf : ℕ) (r : Running) → n < length r.plan.graph.nodes → RunsAs w c r → kind_at r.plan.graph n ≡ Wr unit buf → regions (region_of y.stripes (r.plan.stripe (stripe_of r.plan.graph buf))) ≡ true
asked-covers-in y graphs in_sync start regions w inv chosen asked c n unit buf r nw runs kind =
    let s = inv.control.served c r runs in
    let b = (s.accepted.2.write n unit buf nw kind).1 in
    let t = s.task.stripes _ b.stripe in
    let running : (w.clients c).current ≡ Runs r = runs in
    asked c (length (w.clients c).replies) s.op s.graph _ s.item
    (chosen-writes graphs s.op s.graph r.plan n unit buf s.kind (chosen c s.op s.graph r runs s.item) kind)
    (inv.control.within c s.op s.graph (λ e. nothing-runs (sym e ∙ running)) s.item)
    t.0 t.1

-- ## Once it is lost

some-none : {A X : Type 0} {x : X} → None ≡ Some x → A
some-none h = absurd (let u : ⊥ = cc in u)

abbrev HadPlan : World → ℕ → Running → Type 0
HadPlan old d r = (q : Running) × RunsAs old d q × (r.plan ≡ q.plan)

module _ (y : Shape) (graphs : Graphs) where
  fails-plans : (c : ℕ) (old new : World) (loss : Loss) → new.lost ≡ Some loss → FailsColumn y c old new → (d : ℕ) (r : Running) → RunsAs new d r → HadPlan old d r
  fails-plans c old new loss is f d r h = go f.after
    where
      go : Loses y old new ⊎ Survives y (device_on (slice_get old.columns c) c) old new → HadPlan old d r
      go (inl l) = let b = outlives-back (old.clients d).current (new.clients d).current r (l.clients d).current h in (b.0, b.1, b.2.plan)
      go (inr s) = some-none (sym s.lost ∙ is)

  alive-plans : (c : ℕ) (old mid new : World) (loss : Loss) → mid.lost ≡ None → new.lost ≡ Some loss → FailsIfAlive y c mid new → ((d : ℕ) (r : Running) → RunsAs mid d r → HadPlan old d r) → (d : ℕ) (r : Running) → RunsAs new d r → HadPlan old d r
  alive-plans c old mid new loss none is (inl h) back d r runs = some-none (sym none ∙ ap (λ (w : World). w.lost) (sym h.1) ∙ is)
  alive-plans c old mid new loss none is (inr h) back d r runs =
      let m = fails-plans c mid new loss is h.1 d r runs in
      let b = back d m.0 m.1 in
      (b.0, b.1, m.2 ∙ b.2)

  goes-plans : (c : ℕ) (was next : Running) (old new : World) → RunsAs old c was → next.plan ≡ was.plan → Goes c (Runs next) old new → (d : ℕ) (r : Running) → RunsAs new d r → HadPlan old d r
  goes-plans c was next old new runs plan g d r h = elim (cases_eq d c) [
    | inl e ↦
        let here : next ≡ r = runs-same (sym g.current ∙ ap (λ j. (new.clients j).current) (sym e) ∙ h) in
        (was, ap (λ j. (old.clients j).current) e ∙ runs, ap (λ (v : Running). v.plan) (sym here) ∙ plan)
    | inr ne ↦ (r, other-runs c (Runs next) old new g d r ne h, refl)
  ]

  begin-plans : (c : ℕ) (old new : World) (loss : Loss) → old.lost ≡ None → new.lost ≡ Some loss → (i : Item) → Begun y c i old new → (d : ℕ) (r : Running) → RunsAs new d r → HadPlan old d r
  begin-plans c old new loss none is (item.Run o graph) (inl h) = some-none (sym none ∙ sym h.1.only.columns.lost ∙ is)
  begin-plans c old new loss none is (item.Run o graph) (inr (inl h)) = some-none (sym none ∙ sym h.2.only.columns.lost ∙ is)
  begin-plans c old new loss none is (item.Run o graph) (inr (inr h)) = some-none (sym none ∙ sym h.3.columns.lost ∙ is)
  begin-plans c old new loss none is (item.Fail column) h = alive-plans column old h.0 new loss (h.1.only.columns.lost ∙ none) is h.2 (λ d r runs. (r, still-runs c _ old h.0 h.1.replied d r runs, refl))

  in-plans : (e : Traced) (old new : World) (loss : Loss) → old.lost ≡ None → new.lost ≡ Some loss → StepIn y graphs e old new → (d : ℕ) (r : Running) → RunsAs new d r → HadPlan old d r
  in-plans (event.Begin id) old new loss none is h = begin-plans id.client old new loss none is h.1.0.item h.1.1
  in-plans (event.Take id) old new loss none is h = some-none (sym none ∙ sym (go h.1) ∙ is)
    where
      go : Takes y graphs id.client old new ⊎ Refuses y graphs id.client old new → new.lost ≡ old.lost
      go (inl f) = f.only.columns.lost
      go (inr f) = f.replies.only.columns.lost
  in-plans (event.Fire id n) old new loss none is h = some-none (sym none ∙ sym h.1.only.columns.lost ∙ is)
  in-plans (event.Skip id n) old new loss none is h = some-none (sym none ∙ sym h.1.only.columns.lost ∙ is)
  in-plans (event.Good id n) old new loss none is h = some-none (sym none ∙ sym (go h.1) ∙ is)
    where
      go : Works y id.client n old new ⊎ (Commits y id.client n old new ⊎ Terminates y id.client n old new) → new.lost ≡ old.lost
      go (inl f) = f.columns.lost
      go (inr (inl f)) = f.columns.lost
      go (inr (inr f)) = f.lost
  in-plans (event.Bad id n) old new loss none is h = alive-plans h.1.at.column old h.1.mid new loss (h.1.node.columns.lost ∙ none) is h.1.column (goes-plans id.client h.1.node.was h.1.node.next old h.1.mid h.1.node.finishes.runs h.1.node.finishes.plan h.1.node.goes)
  in-plans (event.Back id) old new loss none is h = some-none (sym none ∙ sym (go h.1.graph h.1.back) ∙ is)
    where
      go : (g : Option ℕ) → BackBy y graphs id.client h.1.op g h.1.was old new → new.lost ≡ old.lost
      go None b = b.only.columns.lost
      go (Some n) b = b.only.columns.lost
  in-plans (event.Fail c) old new loss none is h = fails-plans c old new loss is h.2
  in-plans (event.Fill c device count) old new loss none is h = some-none (sym none ∙ sym h.starts.lost ∙ is)
  in-plans (event.Resume c count) old new loss none is h = some-none (sym none ∙ sym h.starts.lost ∙ is)
  in-plans (event.Spread c) old new loss none is h = some-none (sym none ∙ sym h.starts.lost ∙ is)

  home-plans : (c n : ℕ) (good : Bool) (was : Running) (old new : World) → ComesHome y c n good was old new → (d : ℕ) (r : Running) → RunsAs new d r → HadPlan old d r
  home-plans c n good was old new f = goes-plans c was f.next old new f.finishes.runs f.finishes.plan f.goes

  lost-plans : (e : Traced) (old new : World) → StepLost y graphs e old new → (d : ℕ) (r : Running) → RunsAs new d r → HadPlan old d r
  lost-plans (event.Good id n) old new h = home-plans id.client n true h.0.was old new h.0.home
  lost-plans (event.Bad id n) old new h = home-plans id.client n false h.0.was old new h.0.home
  lost-plans (event.Begin id) old new h = absurd h
  lost-plans (event.Take id) old new h = absurd h
  lost-plans (event.Fire id n) old new h = absurd h
  lost-plans (event.Skip id n) old new h = absurd h
  lost-plans (event.Back id) old new h = absurd h
  lost-plans (event.Fail c) old new h = absurd h
  lost-plans (event.Fill c device count) old new h = absurd h
  lost-plans (event.Resume c count) old new h = absurd h
  lost-plans (event.Spread c) old new h = absurd h

  pub step-plans : (e : Traced) (old new : World) (loss : Loss) → new.lost ≡ Some loss → Step y graphs e old new → (d : ℕ) (r : Running) → RunsAs new d r → HadPlan old d r
  step-plans e old new loss is h = go old.lost refl h
    where
      go : (o : Option Loss) → old.lost ≡ o → StepBy y graphs o e old new → (d : ℕ) (r : Running) → RunsAs new d r → HadPlan old d r
      go None none s = in-plans e old new loss none is s
      go (Some was) some s = lost-plans e old new s

-- ## What runs writes into the regions

-- a node that the graph doesn't have is no write
past-kind : {A : Type 0} (r : Running) (n unit buf : ℕ) → length r.plan.graph.nodes ≤ n → kind_at r.plan.graph n ≡ Wr unit buf → A
past-kind r n unit buf far kind = absurd (let z : no_vertex.kind ≡ Wr unit buf = ap (λ (v : Vertex). v.kind) (sym (get_or_past r.plan.graph.nodes n no_vertex far)) ∙ kind in let u : ⊥ = cc in u)

pub asked-covers : (y : Shape) (graphs : Graphs) (in_sync : Type 0) (start : Blocks) (regions : ℕ → Bool) (w : World) → Invariant y in_sync start w → EachChosen graphs w → AreAskedFor y graphs regions w → Covers y regions w
asked-covers y graphs in_sync start regions w inv chosen asked c n unit buf r runs kind = elim (cases_lt n (length r.plan.graph.nodes)) [
  | inl lt ↦ asked-covers-in y graphs in_sync start regions w inv chosen asked c n unit buf r lt runs kind
  | inr far ↦ past-kind r n unit buf far kind
]
