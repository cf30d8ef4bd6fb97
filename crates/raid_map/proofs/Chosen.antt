-- By what graph an operation runs while the array isn't lost: the one of the file that its item names, or one of the library's.
use Rattle.std.proofs.Common.{◌≡◌, inl, inr, ℕ, List, [], ◌∷◌, Option, Some, None, slice_get, length, refl, sym, ◌∙◌, ap, subst}
use Rattle.std.proofs.lemmas.Bool.{cases_eq}
use Rattle.blk_plain.specs.declared.op.Op.{Op}
use Rattle.blk_plain.specs.declared.op.Op.TheVariants as op
use Rattle.lay_core.specs.Layout.{Shape, IsLayout}
use Rattle.graph_mean.specs.declared.graph.Node.TheVariants.{Wr}
use Rattle.graph_mean.specs.Graph.{View, kind_at}
use Rattle.eng_cols.specs.Contents.{InSync}
use Rattle.eng_world.specs.declared.item.Item.TheVariants as item
use Rattle.eng_world.specs.declared.item.Traced.{Traced}
use Rattle.eng_world.specs.declared.item.Reply.{Reply}
use Rattle.eng_world.specs.World.{Plan, Running, Client, World, Waits, Runs, item_now, RunsAs, Goes, Replied}
use Rattle.eng_world.specs.Planning.{Graphs, Promises, IsPlan}
use Rattle.eng_world.specs.Failing.{FailsColumn, device_on}
use Rattle.eng_world.specs.Step.{IsOpening, EventsLead}
use Rattle.eng_world.specs.Invariant.{Invariant, IsKind}
use Rattle.eng_world.proofs.Clients.{runs-same, nothing-runs, waits-runs, item-same, other-runs, not-it, still-runs}
use Rattle.eng_world.proofs.KeepsFailing.{suffers-back}
use Rattle.eng_world.proofs.Moves.{Move, Moves, one, two, replies, waits, takes, fires, skips, works, commits, ends, fails, anew, gives, dies, starts, home, moves}
use Rattle.eng_world.proofs.KeepsClients.{replied-by}
use Rattle.eng_world.proofs.Reaching.{reaches}
use Rattle.eng_world.proofs.Promised.{not-lost}
use Rattle.raid_map.specs.Mapped.{MayWrite}

some-not : {A : Type 0} {X : Type 0} {x : X} → None ≡ Some x → A
some-not h = absurd (let u : ⊥ = cc in u)

run-same : {o p : Op} {g h : Option ℕ} → Some (item.Run o g) ≡ Some (item.Run p h) → g ≡ h
run-same h = cc

module _ (graphs : Graphs) where
  -- the plan's graph is the one of the file that the item names, or the library's
  abbrev pub IsGraphOf : Option ℕ → Plan → Type 0
  IsGraphOf None p = p.graph ≡ graphs.library p.task p.missing
  IsGraphOf (Some n) p = p.graph ≡ graphs.file n

  -- so it is with each operation that runs
  abbrev pub EachChosen : World → Type 0
  EachChosen w = (c : ℕ) (o : Op) (graph : Option ℕ) (r : Running) → RunsAs w c r → item_now (w.clients c) ≡ Some (item.Run o graph) → IsGraphOf graph r.plan

  -- one that runs may write, if its graph has a write
  pub chosen-writes : (o : Op) (graph : Option ℕ) (p : Plan) (n unit buf : ℕ) → IsKind o p.task.kind → IsGraphOf graph p → kind_at p.graph n ≡ Wr unit buf → MayWrite graphs o graph
  chosen-writes o (Some f) p n unit buf kind is write = inr (n, unit, buf, ap (λ (g : View). kind_at g n) (sym is) ∙ write)
  chosen-writes (op.Read span) None p n unit buf kind is write = inr (p.task, p.missing, kind, (n, unit, buf, ap (λ (g : View). kind_at g n) (sym is) ∙ write))
  chosen-writes (op.Write span pattern) None p n unit buf kind is write = inl (λ read. read)
  chosen-writes (op.Writes patches) None p n unit buf kind is write = inl (λ read. read)
  chosen-writes (op.Rebuild stripe) None p n unit buf kind is write = inl (λ read. read)
  chosen-writes (op.Sync stripe) None p n unit buf kind is write = inl (λ read. read)

  -- ## Each move

  -- what runs ran before, with the same plan and item
  abbrev Kept : World → World → ℕ → Running → Type 0
  Kept old new d r = (q : Running) × RunsAs old d q × (r.plan ≡ q.plan) × (item_now (new.clients d) ≡ item_now (old.clients d))

  by-kept : (old new : World) → EachChosen old → ((d : ℕ) (r : Running) → RunsAs new d r → Kept old new d r) → EachChosen new
  by-kept old new was kept c o graph r runs is =
      let k = kept c r runs in
      subst (IsGraphOf graph) (sym k.2) (was c o graph k.0 k.1 (sym k.3 ∙ is))

  goes-kept : (c : ℕ) (was next : Running) (old new : World) → RunsAs old c was → next.plan ≡ was.plan → Goes c (Runs next) old new → (d : ℕ) (r : Running) → RunsAs new d r → Kept old new d r
  goes-kept c was next old new runs plan g d r h = elim (cases_eq d c) [
    | inl e ↦
        let here : next ≡ r = runs-same (sym g.current ∙ ap (λ j. (new.clients j).current) (sym e) ∙ h) in
        (was, ap (λ j. (old.clients j).current) e ∙ runs, ap (λ (v : Running). v.plan) (sym here) ∙ plan, item-same c (Runs next) old new g d)
    | inr ne ↦ (r, other-runs c (Runs next) old new g d r ne h, refl, item-same c (Runs next) old new g d)
  ]

  waits-kept : (c : ℕ) (old new : World) → Goes c Waits old new → (d : ℕ) (r : Running) → RunsAs new d r → Kept old new d r
  waits-kept c old new g d r h = elim (cases_eq d c) [
    | inl e ↦ waits-runs (sym g.current ∙ ap (λ j. (new.clients j).current) (sym e) ∙ h)
    | inr ne ↦ (r, other-runs c Waits old new g d r ne h, refl, item-same c Waits old new g d)
  ]

  replied-kept : (c : ℕ) (reply : Reply) (old new : World) → Replied c reply old new → (d : ℕ) (r : Running) → RunsAs new d r → Kept old new d r
  replied-kept c reply old new g d r h = (r, still-runs c reply old new g d r h, refl, ap item_now (g.others d (not-it c reply old new g d r h)))

  -- one that starts with this plan
  fresh-chosen : (y : Shape) (c : ℕ) (o : Op) (graph : Option ℕ) (p : Plan) (next : Running) (old new : World) → item_now (old.clients c) ≡ Some (item.Run o graph) → IsPlan y graphs old.columns o graph p → next.plan ≡ p → Goes c (Runs next) old new → EachChosen old → EachChosen new
  fresh-chosen y c o graph p next old new asked plan is g was d o' graph' r runs item = elim (cases_eq d c) [
    | inr ne ↦ was d o' graph' r (other-runs c (Runs next) old new g d r ne runs) (sym (item-same c (Runs next) old new g d) ∙ item)
    | inl e ↦
        let here : next ≡ r = runs-same (sym g.current ∙ ap (λ j. (new.clients j).current) (sym e) ∙ runs) in
        let same : graph ≡ graph' = run-same (sym asked ∙ ap (λ j. item_now (old.clients j)) (sym e) ∙ sym (item-same c (Runs next) old new g d) ∙ item) in
        subst (λ k. IsGraphOf k r.plan) same (subst (IsGraphOf graph) (sym is ∙ ap (λ (v : Running). v.plan) here) (by-plan graph plan))
  ]
    where
      by-plan : (k : Option ℕ) → IsPlan y graphs old.columns o k p → IsGraphOf k p
      by-plan None q = q.graph_is.0
      by-plan (Some n) q = q.graph_is.0

  -- a column dies, and the array isn't lost by it
  dies-kept : (y : Shape) (c : ℕ) (old new : World) → FailsColumn y c old new → new.lost ≡ None → (d : ℕ) (r : Running) → RunsAs new d r → Kept old new d r
  dies-kept y c old new f lost d r h = elim f.after [
    | inl l ↦ some-not (sym lost ∙ l.lost)
    | inr s ↦
        let k = s.clients d in
        let b = suffers-back y (device_on (slice_get old.columns c) c) old.columns new.columns (old.clients d).current (new.clients d).current r k.current h in
        (b.0, b.1, b.2.plan, item-kept (old.clients d) (new.clients d) k.told.items k.told.replies)
  ]
    where
      item-kept : (a b : Client) → b.items ≡ a.items → b.replies ≡ a.replies → item_now b ≡ item_now a
      item-kept a b items answers = ap (λ l. slice_get l (length b.replies)) items ∙ ap (λ l. slice_get a.items (length l)) answers

  module _ (y : Shape) (Known : World → Type 0) where
    move-chosen : (e : Traced) (old new : World) → Move y graphs Known e old new → (old.lost ≡ None → EachChosen old) → new.lost ≡ None → EachChosen new
    move-chosen e old new (replies c q asked known is ne idle f) h lost = by-kept old new (h (sym f.only.columns.lost ∙ lost)) (replied-kept c q old new f.replied)
    move-chosen e old new (waits c a way known asks nothing g only pool) h lost = by-kept old new (h (sym only.columns.lost ∙ lost)) (waits-kept c old new g)
    move-chosen e old new (takes c known f) h lost = fresh-chosen y c f.op f.graph f.plan f.running old new f.can.item f.can.plan f.is_fresh.plan f.goes (h (sym f.only.columns.lost ∙ lost))
    move-chosen e old new (fires c n known f) h lost = by-kept old new (h (sym f.only.columns.lost ∙ lost)) (goes-kept c f.can.was f.next old new f.can.runs f.plan f.goes)
    move-chosen e old new (skips c n known f) h lost = by-kept old new (h (sym f.only.columns.lost ∙ lost)) (goes-kept c f.can.was f.next old new f.can.runs f.plan f.goes)
    move-chosen e old new (works c n known f) h lost = by-kept old new (h (sym f.columns.lost ∙ lost)) (goes-kept c f.was f.next old new f.finishes.runs f.finishes.plan f.goes)
    move-chosen e old new (commits c n known f) h lost = by-kept old new (h (sym f.columns.lost ∙ lost)) (goes-kept c f.was f.next old new f.finishes.runs f.finishes.plan f.goes)
    move-chosen e old new (ends c n known f) h lost = let q = replied-by y f.op f.was c old new f.replies in by-kept old new (h (sym f.lost ∙ lost)) (replied-kept c q.0 old new q.1)
    move-chosen e old new (fails c n at bad known f) h lost = by-kept old new (h (sym f.columns.lost ∙ lost)) (goes-kept c f.was f.next old new f.finishes.runs f.finishes.plan f.goes)
    move-chosen e old new (anew c o known can is b) h lost = fresh-chosen y c o None b.plan b.next old new is b.is_plan b.is_fresh.plan b.goes (h (sym b.only.columns.lost ∙ lost))
    move-chosen e old new (gives c o g known can is b) h lost = by-kept old new (h (sym b.only.columns.lost ∙ lost)) (replied-kept c _ old new b.replied)
    move-chosen e old new (dies c none alive f) h lost = by-kept old new (h none) (dies-kept y c old new f lost)
    move-chosen e old new (starts c begun why known f from sp) h lost = λ d o graph r runs. nothing-runs (sym (f.unbegun_still d).1 ∙ runs)
    move-chosen e old new (home c n good was loss is f failed columns) h lost = some-not (sym lost ∙ f.lost ∙ is)

    moves-chosen : (e : Traced) (old new : World) → Moves y graphs Known e old new → (old.lost ≡ None → EachChosen old) → new.lost ≡ None → EachChosen new
    moves-chosen e old new (one m) h lost = move-chosen e old new m h lost
    moves-chosen e old new (two mid m c none alive f) h lost = by-kept mid new (move-chosen e old mid m h none) (dies-kept y c mid new f lost)

-- in every run
module _ (y : Shape) (layout : IsLayout y) (graphs : Graphs) (promises : Promises graphs) (opening : World) (o : IsOpening y opening) where
  abbrev Known : World → Type 0
  Known w = Invariant y (InSync y opening.contents opening.columns) opening.blocks w

  known : (events : List Traced) (now : World) → EventsLead y graphs opening events now → now.lost ≡ None → Known now
  known events now h kept = not-lost y (InSync y opening.contents opening.columns) opening.blocks now (reaches y layout graphs promises opening events now o h) kept

  pub run-chosen : (events : List Traced) (now : World) → EventsLead y graphs opening events now → now.lost ≡ None → EachChosen graphs now
  run-chosen [] now h none = λ c op graph r runs. nothing-runs (sym (o.unbegun c).1 ∙ subst (λ w. RunsAs w c r) h runs)
  run-chosen (e ∷ events) now h none = moves-chosen graphs y Known e h.0 now (moves y graphs Known e h.0 now (known events h.0 h.1) h.2) (run-chosen events h.0 h.1) none
