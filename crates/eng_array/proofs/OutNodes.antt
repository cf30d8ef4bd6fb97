-- Which nodes are out after an event: those that were, with the one that it fires, and without the one that it ends.
use Rattle.std.proofs.Common.{◌≡◌, ◌≢◌, ◌+◌, ◌⊎◌, inl, inr, ℕ, List, Bool, true, slice_get, refl, sym, ◌∙◌, ap, subst, length, arith, if◌then◌else◌, eq-eqb, ne_eqb}
use Rattle.std.specs.Prelude.{◌==◌, ◌&&◌, Option, Some, None}
use Rattle.std.proofs.lemmas.Bool.{cases_eq}
use Rattle.lay_core.specs.Layout.{Shape, Blocks}
use Rattle.graph_mean.specs.declared.step.Status.{Status}
use Rattle.graph_mean.specs.declared.step.Status.TheVariants.{Idle, Out, Good, Bad, Skipped}
use Rattle.graph_mean.specs.Steps.{HasEnded, marked}
use Rattle.graph_mean.proofs.Marks.{follows-ended}
use Rattle.eng_cols.specs.Cols.{ColumnState}
use Rattle.eng_cols.specs.declared.spot.Loss.{Loss}
use Rattle.eng_world.specs.declared.item.Item.{Item}
use Rattle.eng_world.specs.declared.item.Item.TheVariants as item
use Rattle.eng_world.specs.declared.item.Reply.{Reply}
use Rattle.eng_world.specs.declared.item.Traced.{Traced}
use Rattle.eng_world.specs.declared.item.Traced.TheVariants as event
use Rattle.eng_world.specs.World.{Running, Current, Nothing, Waits, Runs, Client, World, RunsAs, Goes, Replied}
use Rattle.eng_world.specs.Planning.{Graphs}
use Rattle.eng_world.specs.Pool.{job_of}
use Rattle.eng_world.specs.Failing.{Loses, Survives, FailsColumn, FailsIfAlive, device_on}
use Rattle.eng_world.specs.Serving.{Begun, Takes, Refuses, Backs, StartsRebuild}
use Rattle.eng_world.specs.Nodes.{Finishes, Works, Commits, Terminates}
use Rattle.eng_world.specs.Invariant.{IsServed, Invariant}
use Rattle.eng_world.specs.Step.{StepIn, StepLost, StepBy, Step}
use Rattle.eng_world.proofs.Shared.{marked-here, marked-other}
use Rattle.eng_world.proofs.KeepsClients.{replied-by}
use Rattle.eng_world.proofs.Walking.{walks-inv}
use Rattle.eng_world.proofs.Settling.{undone-none, none-out-not}
use Rattle.eng_world.proofs.Open.{IsOpen}
use Rattle.eng_array.specs.Tickets.{is_node}
use Rattle.eng_world.proofs.Words.{OtherClients, BackBy, SuffersIf, OutlivesIf}

-- 1 where node n of what a client does is out, else 0
abbrev pub node_out : Current → ℕ → ℕ
node_out Nothing n = 0
node_out Waits n = 0
node_out (Runs r) n = job_of (r.node n)

abbrev pub node_at : World → ℕ → ℕ → ℕ
node_at w c n = node_out (w.clients c).current n

-- ## What becomes of them

-- the same nodes are out
abbrev pub SameOut : World → World → Type 0
SameOut old new = (d m : ℕ) → node_at new d m ≡ node_at old d m

-- node n of client c is out besides
abbrev pub OneMore : ℕ → ℕ → World → World → Type 0
OneMore c n old new = (d m : ℕ) → node_at new d m ≡ node_at old d m + is_node c n d m

-- it isn't any more
abbrev pub OneLess : ℕ → ℕ → World → World → Type 0
OneLess c n old new = (d m : ℕ) → node_at new d m + is_node c n d m ≡ node_at old d m

abbrev pub OutAfter : Traced → World → World → Type 0
OutAfter (event.Fill column device count) old new = SameOut old new
OutAfter (event.Resume column count) old new = SameOut old new
OutAfter (event.Spread column) old new = SameOut old new
OutAfter (event.Fail column) old new = SameOut old new
OutAfter (event.Begin id) old new = SameOut old new
OutAfter (event.Take id) old new = SameOut old new
OutAfter (event.Fire id n) old new = OneMore id.client n old new
OutAfter (event.Good id n) old new = OneLess id.client n old new
OutAfter (event.Bad id n) old new = OneLess id.client n old new
OutAfter (event.Skip id n) old new = SameOut old new
OutAfter (event.Back id) old new = SameOut old new

-- ## Numbers of nodes

pub node-here : (c n : ℕ) → is_node c n c n ≡ 1
node-here c n = ap (λ b. if b && (n == n) then 1 else 0) (eq-eqb c c refl) ∙ ap (λ b. if b then 1 else 0) (eq-eqb n n refl)

pub node-client : (c n d m : ℕ) → d ≢ c → is_node c n d m ≡ 0
node-client c n d m ne = ap (λ b. if b && (n == m) then 1 else 0) (ne_eqb c d (λ e. ne (sym e)))

pub node-other : (c n m : ℕ) → m ≢ n → is_node c n c m ≡ 0
node-other c n m ne = ap (λ b. if b && (n == m) then 1 else 0) (eq-eqb c c refl) ∙ ap (λ b. if b then 1 else 0) (ne_eqb n m (λ e. ne (sym e)))

job-none : (s : Status) → (s ≡ Out → ⊥) → job_of s ≡ 0
job-none Idle h = refl
job-none Out h = absurd (h refl)
job-none Good h = refl
job-none Bad h = refl
job-none Skipped h = refl

ended-not : (s : Status) → HasEnded s → s ≡ Out → ⊥
ended-not s h e = subst HasEnded e h

-- ## One client

module _ (c : ℕ) (old new : World) (others : OtherClients c old new) where
  client-else : (d m : ℕ) → d ≢ c → node_at new d m ≡ node_at old d m
  client-else d m ne = ap (λ (k : Client). node_out k.current m) (others d ne)

  same-out : ((m : ℕ) → node_at new c m ≡ node_at old c m) → SameOut old new
  same-out here d m = elim (cases_eq d c) [
    | inl e ↦ subst (λ j. node_at new j m ≡ node_at old j m) (sym e) (here m)
    | inr ne ↦ client-else d m ne
  ]

  one-more : (n : ℕ) → ((m : ℕ) → node_at new c m ≡ node_at old c m + is_node c n c m) → OneMore c n old new
  one-more n here d m = elim (cases_eq d c) [
    | inl e ↦ subst (λ j. node_at new j m ≡ node_at old j m + is_node c n j m) (sym e) (here m)
    | inr ne ↦ let a = client-else d m ne in let z = node-client c n d m ne in omega (arith, a, z)
  ]

  one-less : (n : ℕ) → ((m : ℕ) → node_at new c m + is_node c n c m ≡ node_at old c m) → OneLess c n old new
  one-less n here d m = elim (cases_eq d c) [
    | inl e ↦ subst (λ j. node_at new j m + is_node c n j m ≡ node_at old j m) (sym e) (here m)
    | inr ne ↦ let a = client-else d m ne in let z = node-client c n d m ne in omega (arith, a, z)
  ]

-- one of its nodes is marked otherwise
module _ (c n : ℕ) (was next : Running) (to : Status) (node : (k : ℕ) → next.node k ≡ marked was.node n to k) where
  job-here : (m : ℕ) → m ≡ n → job_of (next.node m) ≡ job_of to
  job-here m e = ap (λ j. job_of (next.node j)) e ∙ ap job_of (node n ∙ marked-here was.node n to)

  job-else : (m : ℕ) → m ≢ n → job_of (next.node m) ≡ job_of (was.node m)
  job-else m ne = ap job_of (node m ∙ marked-other was.node n to m ne)

  job-was : (m : ℕ) → m ≡ n → job_of (was.node m) ≡ job_of (was.node n)
  job-was m e = ap (λ j. job_of (was.node j)) e

  named : (m : ℕ) → m ≡ n → is_node c n c m ≡ 1
  named m e = ap (is_node c n c) e ∙ node-here c n

  marked-same : job_of (was.node n) ≡ job_of to → (m : ℕ) → job_of (next.node m) ≡ job_of (was.node m)
  marked-same before m = elim (cases_eq m n) [
    | inl e ↦ job-here m e ∙ (sym before ∙ sym (job-was m e))
    | inr ne ↦ job-else m ne
  ]

  marked-more : job_of (was.node n) ≡ 0 → job_of to ≡ 1 → (m : ℕ) → job_of (next.node m) ≡ job_of (was.node m) + is_node c n c m
  marked-more before after m = elim (cases_eq m n) [
    | inl e ↦ let a = job-here m e in let b = job-was m e in let z = named m e in omega (arith, a, b, z, before, after)
    | inr ne ↦ let a = job-else m ne in let z = node-other c n m ne in omega (arith, a, z)
  ]

  marked-less : job_of (was.node n) ≡ 1 → job_of to ≡ 0 → (m : ℕ) → job_of (next.node m) + is_node c n c m ≡ job_of (was.node m)
  marked-less before after m = elim (cases_eq m n) [
    | inl e ↦ let a = job-here m e in let b = job-was m e in let z = named m e in omega (arith, a, b, z, before, after)
    | inr ne ↦ let a = job-else m ne in let z = node-other c n m ne in omega (arith, a, z)
  ]

-- what runs, where it is known
now-out : (w : World) (c : ℕ) (r : Running) → RunsAs w c r → (m : ℕ) → node_at w c m ≡ job_of (r.node m)
now-out w c r runs m = ap (λ k. node_out k m) runs

-- a client of which no node is out
goes-same : (c : ℕ) (to : Current) (old new : World) → Goes c to old new → ((m : ℕ) → node_at old c m ≡ 0) → ((m : ℕ) → node_out to m ≡ 0) → SameOut old new
goes-same c to old new g before after = same-out c old new g.others (λ m. ap (λ k. node_out k m) g.current ∙ (after m ∙ sym (before m)))

replied-same : (c : ℕ) (r : Reply) (old new : World) → Replied c r old new → ((m : ℕ) → node_at old c m ≡ 0) → SameOut old new
replied-same c r old new g before = same-out c old new g.others (λ m. ap (λ k. node_out k m) g.current ∙ sym (before m))

finished-less : (y : Shape) (c n : ℕ) (to : Status) (answer : Bool) (was next : Running) (old new : World) → job_of to ≡ 0 → Finishes y c n to answer was next old new → Goes c (Runs next) old new → OneLess c n old new
finished-less y c n to answer was next old new not-out f g = one-less c old new g.others n (λ m.
    let a = now-out old c was f.runs m in
    let b = now-out new c next g.current m in
    let x = marked-less c n was next to f.node (ap job_of f.out) not-out m in
    omega (arith, a, b, x))

-- ## A column fails

suffers-nodes : (y : Shape) (device : ℕ) (before now : List ColumnState) (a b : Current) → SuffersIf y device before now a b → (m : ℕ) → node_out b m ≡ node_out a m
suffers-nodes y device before now Nothing b h m = ap (λ k. node_out k m) h
suffers-nodes y device before now Waits b h m = ap (λ k. node_out k m) h
suffers-nodes y device before now (Runs was) b h m = ap (λ k. node_out k m) h.1 ∙ ap job_of (h.2.node m)

outlives-nodes : (a b : Current) → OutlivesIf a b → (m : ℕ) → node_out b m ≡ node_out a m
outlives-nodes Nothing b h m = ap (λ k. node_out k m) h
outlives-nodes Waits b h m = ap (λ k. node_out k m) h
outlives-nodes (Runs was) b h m = ap (λ k. node_out k m) h.1 ∙ ap job_of (h.2.node m)

fails-same : (y : Shape) (k : ℕ) (old new : World) → FailsColumn y k old new → SameOut old new
fails-same y k old new f = go f.after
  where
    go : Loses y old new ⊎ Survives y (device_on (slice_get old.columns k) k) old new → SameOut old new
    go (inl l) d m = outlives-nodes (old.clients d).current (new.clients d).current (l.clients d).current m
    go (inr s) d m = suffers-nodes y _ old.columns new.columns (old.clients d).current (new.clients d).current (s.clients d).current m

alive-same : (y : Shape) (k : ℕ) (old new : World) → FailsIfAlive y k old new → SameOut old new
alive-same y k old new (inl dead) d m = ap (λ w. node_at w d m) dead.1
alive-same y k old new (inr fails) d m = fails-same y k old new fails.1 d m

-- ## Each event

module _ (y : Shape) (graphs : Graphs) (in_sync : Type 0) (start : Blocks) (old new : World) (opens : IsOpen old) where
  begun-same : (c : ℕ) (i : Item) → (old.clients c).current ≡ Nothing → Begun y c i old new → SameOut old new
  begun-same c (item.Run op file) nothing (inl h) = replied-same c _ old new h.1.replied (λ m. ap (λ k. node_out k m) nothing)
  begun-same c (item.Run op file) nothing (inr (inl h)) = replied-same c _ old new h.2.replied (λ m. ap (λ k. node_out k m) nothing)
  begun-same c (item.Run op file) nothing (inr (inr h)) = goes-same c Waits old new h.2 (λ m. ap (λ k. node_out k m) nothing) (λ m. refl)
  begun-same c (item.Fail column) nothing h = λ d m. alive-same y column h.0 new h.2 d m ∙ replied-same c _ old h.0 h.1.replied (λ m. ap (λ k. node_out k m) nothing) d m

  taken-same : (c : ℕ) → Takes y graphs c old new ⊎ Refuses y graphs c old new → SameOut old new
  taken-same c (inl f) = goes-same c (Runs f.running) old new f.goes (λ m. ap (λ k. node_out k m) f.can.waits) (λ m. ap job_of (f.is_fresh.node m))
  taken-same c (inr f) = replied-same c _ old new f.replies.replied (λ m. ap (λ k. node_out k m) f.can.waits)

  starts-same : (c : ℕ) (begun : List ColumnState) → StartsRebuild y c begun old new → SameOut old new
  starts-same c begun f d m = ap (λ k. node_out k m) (f.unbegun_still d).1 ∙ sym (ap (λ k. node_out k m) (f.unbegun d).1)

  module _ (known : Invariant y in_sync start old) where
    -- as the terminator finishes it alone is out
    ends-less : (c n : ℕ) → Terminates y c n old new → OneLess c n old new
    ends-less c n f =
        let by = replied-by y f.op f.was c old new f.replies in
        one-less c old new by.1.others n (λ m.
        let a : node_at new c m ≡ 0 = ap (λ k. node_out k m) by.1.current in
        let b = now-out old c f.was f.finishes.runs m in
        elim (cases_eq m n) [
          | inl e ↦
              let z : is_node c n c m ≡ 1 = ap (is_node c n c) e ∙ node-here c n in
              let o : job_of (f.was.node m) ≡ 1 = ap (λ j. job_of (f.was.node j)) e ∙ ap job_of f.finishes.out in
              omega (arith, a, b, z, o)
          | inr ne ↦
              let z = node-other c n m ne in
              let o : job_of (f.was.node m) ≡ 0 = job-none (f.was.node m) (λ out. alone m ne out) in
              omega (arith, a, b, z, o)
        ])
      where
        s : IsServed y old c f.was
        s = known.control.served c f.was f.finishes.runs

        alone : (m : ℕ) → m ≢ n → f.was.node m ≡ Out → ⊥
        alone m ne out =
            let v = known.walks c f.was f.finishes.runs in
            let known' = walks-inv y old.columns f.was s.accepted v in
            let end : n ≡ s.accepted.1 = s.accepted.2.end.only n f.finishes.below f.is_end in
            let below = opens.below c m f.was f.finishes.runs out in
            let follows = s.accepted.2.end.follows m below (λ z. ne (z ∙ sym end)) in
            let ended = follows-ended f.was.plan.graph v.now known'.antes s.accepted.1 m (λ z. let w : Out ≡ Idle = sym f.finishes.out ∙ sym (v.node n) ∙ ap v.now.node end ∙ z in let u : ⊥ = cc in u) follows in
            ended-not (f.was.node m) (subst HasEnded (v.node m) ended) out

    good-less : (c n : ℕ) → Works y c n old new ⊎ (Commits y c n old new ⊎ Terminates y c n old new) → OneLess c n old new
    good-less c n (inl f) = finished-less y c n Good true f.was f.next old new refl f.finishes f.goes
    good-less c n (inr (inl f)) = finished-less y c n Good true f.was f.next old new refl f.finishes f.goes
    good-less c n (inr (inr f)) = ends-less c n f

    back-same : (c : ℕ) → Backs y graphs c old new → SameOut old new
    back-same c f = go f.graph f.back
      where
        none : (m : ℕ) → node_at old c m ≡ 0
        none m =
            now-out old c f.was f.runs m
            ∙ job-none (f.was.node m) (λ out.
            none-out-not f.was.node (length f.was.plan.graph.nodes) (undone-none y old.columns f.was (known.walks c f.was f.runs) f.undone) m (opens.below c m f.was f.runs out) out)

        go : (g : Option ℕ) → BackBy y graphs c f.op g f.was old new → SameOut old new
        go None b = goes-same c (Runs b.next) old new b.goes none (λ m. ap job_of (b.is_fresh.node m))
        go (Some n) b = replied-same c _ old new b.replied none

    in-out : (e : Traced) → StepIn y graphs e old new → OutAfter e old new
    in-out (event.Begin id) h = begun-same id.client h.1.0.item h.1.0.nothing h.1.1
    in-out (event.Take id) h = taken-same id.client h.1
    in-out (event.Fire id n) h =
        let f = h.1 in
        one-more id.client old new f.goes.others n (λ m.
        let a = now-out old id.client f.can.was f.can.runs m in
        let b = now-out new id.client f.next f.goes.current m in
        let x = marked-more id.client n f.can.was f.next Out f.node (ap job_of f.can.ready.idle) refl m in
        omega (arith, a, b, x))
    in-out (event.Skip id n) h =
        let f = h.1 in
        same-out id.client old new f.goes.others (λ m.
        now-out new id.client f.next f.goes.current m
        ∙ (marked-same id.client n f.can.was f.next Skipped f.node (ap job_of f.can.ready.idle) m
        ∙ sym (now-out old id.client f.can.was f.can.runs m)))
    in-out (event.Good id n) h = good-less id.client n h.1
    in-out (event.Bad id n) h = λ d m.
        let a = finished-less y id.client n Bad h.1.node.answer h.1.node.was h.1.node.next old h.1.mid refl h.1.node.finishes h.1.node.goes d m in
        let b = alive-same y h.1.at.column h.1.mid new h.1.column d m in
        omega (arith, a, b)
    in-out (event.Back id) h = back-same id.client h.1
    in-out (event.Fail c) h = fails-same y c old new h.2
    in-out (event.Fill c device count) h = starts-same c _ h.starts
    in-out (event.Resume c count) h = starts-same c _ h.starts
    in-out (event.Spread c) h = starts-same c _ h.starts

  lost-out : (e : Traced) → StepLost y graphs e old new → OutAfter e old new
  lost-out (event.Good id n) h = finished-less y id.client n Good h.0.home.answer h.0.was h.0.home.next old new refl h.0.home.finishes h.0.home.goes
  lost-out (event.Bad id n) h = finished-less y id.client n Bad h.0.home.answer h.0.was h.0.home.next old new refl h.0.home.finishes h.0.home.goes
  lost-out (event.Begin id) h = absurd h
  lost-out (event.Take id) h = absurd h
  lost-out (event.Fire id n) h = absurd h
  lost-out (event.Skip id n) h = absurd h
  lost-out (event.Back id) h = absurd h
  lost-out (event.Fail c) h = absurd h
  lost-out (event.Fill c device count) h = absurd h
  lost-out (event.Resume c count) h = absurd h
  lost-out (event.Spread c) h = absurd h

  pub step-out : (e : Traced) → (old.lost ≡ None → Invariant y in_sync start old) → Step y graphs e old new → OutAfter e old new
  step-out e known h = go old.lost refl h
    where
      go : (o : Option Loss) → old.lost ≡ o → StepBy y graphs o e old new → OutAfter e old new
      go None is s = in-out (known is) e s
      go (Some loss) is s = lost-out e s
