-- A chain of cores has few events of an item: they are those of one run of worlds.
use Rattle.std.proofs.Common.{◌≡◌, ◌<◌, ◌≤◌, ℕ, List, [], ◌∷◌, length, refl, sym, ◌∙◌, ap, subst, arith}
use Rattle.std.specs.Prelude.{◌+◌, ◌*◌}
use Rattle.blk_disk.specs.declared.disk.Disk.{Ghosts as DiskGhosts}
use Rattle.lay_core.specs.Layout.{Shape}
use Rattle.lay_core.specs.declared.layout.Layout.{Ghosts as LayoutGhosts}
use Rattle.graph_mean.specs.declared.step.Status.TheVariants as status
use Rattle.eng_cols.specs.Cols.{ColumnState}
use Rattle.eng_world.specs.declared.item.Item.{Item}
use Rattle.eng_world.specs.declared.item.Traced.{Traced}
use Rattle.eng_world.specs.World.{Running, World}
use Rattle.eng_world.specs.Planning.{Graphs}
use Rattle.eng_world.specs.Step.{Step, EventsLead}
use Rattle.eng_rest.specs.Left.{alive, Within, NoneOut}
use Rattle.eng_rest.specs.Few.{count_of, AreLater, GraphsWithin}
use Rattle.eng_rest.proofs.Fewness.{run-few}
use Rattle.eng_rest.proofs.Summing.{few-bound}
use Rattle.eng_state.specs.declared.array.Array.{Array}
use Rattle.eng_array.specs.Chain.{HasFewNodes, Chain, HaveFewNodes}
use Rattle.eng_clients.specs.Desk.{desk_at}
use Rattle.eng_array.specs.Progress.{item_left_of}
use Rattle.eng_state.specs.Shows.{Shows}
use Rattle.eng_state.specs.Sound.{IsSound, IsOutOf}
use Rattle.eng_array.specs.Steady.{IsSteady}
use Rattle.eng_state.specs.Steps.{graphs_of}
use Rattle.eng_array.proofs.Lefts.{item-shown}
use Rattle.eng_state.proofs.Running.{runs_below}
use Rattle.eng_state.proofs.Shown.{runs-shown}
use Rattle.eng_array.proofs.Steady.{steady-indexed}

module _ {L D : Type 0} (lay : LayoutGhosts L) (disk : DiskGhosts D) where
  chain-later : (old : Array L D) (events : List Traced) (new : Array L D) → Chain lay disk old events new → AreLater events
  chain-later old [] new chain = tt
  chain-later old (event ∷ events) new chain = (chain.2.later, chain-later old events chain.0 chain.1)

  pub chain-shape : (old : Array L D) (events : List Traced) (new : Array L D) → Chain lay disk old events new → lay.shape new.layout ≡ lay.shape old.layout
  chain-shape old [] new chain = ap (λ (s : Array L D). lay.shape s.layout) chain
  chain-shape old (event ∷ events) new chain = chain.2.shape ∙ chain-shape old events chain.0 chain.1

  pub chain-graphs : (old : Array L D) (events : List Traced) (new : Array L D) → Chain lay disk old events new → graphs_of new.graphs.items ≡ graphs_of old.graphs.items
  chain-graphs old [] new chain = ap (λ (s : Array L D). graphs_of s.graphs.items) chain
  chain-graphs old (event ∷ events) new chain = chain.2.graphs ∙ chain-graphs old events chain.0 chain.1

  -- from each world that the first core shows the events lead to one that the last shows
  pub chain-runs : (old : Array L D) (events : List Traced) (new : Array L D) → Chain lay disk old events new → (w : World) → Shows disk old w → (x : World) × Shows disk new x × EventsLead (lay.shape old.layout) (graphs_of old.graphs.items) w events x
  chain-runs old [] new chain w s = (w, subst (λ (core : Array L D). Shows disk core w) (sym chain) s, refl)
  chain-runs old (event ∷ events) new chain w s =
      let h = chain-runs old events chain.0 chain.1 w s in
      let f = chain.2.follows h.0 h.1 in
      let y = chain-shape old events chain.0 chain.1 in
      let g = chain-graphs old events chain.0 chain.1 in (
        f.0,
        f.1,
        (
          h.0,
          h.2,
          subst (λ (v : Shape). Step v (graphs_of old.graphs.items) event h.0 f.0) y (subst (λ (v : Graphs). Step (lay.shape chain.0.layout) v event h.0 f.0) g f.2),
        ),
      )

  -- what runs has at most 2,048 nodes
  pub sound-few : (core : Array L D) → IsSound lay disk core → (c i : ℕ) → HasFewNodes 2048 c i core
  sound-few core sound c i runs at = ((sound.well.each c (runs_below (lay.shape core.layout) core.graphs.items core.pool core.clients c sound.well runs)).runs runs).few

  module _ (m c i : ℕ) where
    few-shown : (core : Array L D) (w : World) → Shows disk core w → HasFewNodes m c i core → Within m (w.clients c) i
    few-shown core w s few r runs at =
        let d = desk_at core.clients c in
        let h = runs-shown disk core w s c r runs in
        let index : length d.replies ≡ i = sym (ap (λ (q : Running). q.plan.index) h.2) ∙ at in
        let g : length r.plan.graph.nodes ≡ length d.run.graph.nodes = ap (λ (q : Running). length q.plan.graph.nodes) h.2 in
        let n = few h.0 index in
        omega (arith, n, g)

    few-run : (old : Array L D) (events : List Traced) (new : Array L D) (chain : Chain lay disk old events new) → HaveFewNodes lay disk m c i old events new chain → (w : World) (s : Shows disk old w)
        → GraphsWithin (lay.shape old.layout) (graphs_of old.graphs.items) m c i w events (chain-runs old events new chain w s).0 (chain-runs old events new chain w s).2
    unfolding chain-runs
    few-run old [] new chain few w s = few-shown new w (subst (λ (core : Array L D). Shows disk core w) (sym chain) s) few
    few-run old (event ∷ events) new chain few w s =
        let h = chain-runs old events chain.0 chain.1 w s in
        let f = chain.2.follows h.0 h.1 in
        (few-run old events chain.0 chain.1 few.0 w s, few-shown new f.0 f.1 few.1)

    module _ (old : Array L D) (events : List Traced) (new : Array L D) (chain : Chain lay disk old events new) (steady : IsSteady lay disk old) (inside : i < length (desk_at old.clients c).items) (few : HaveFewNodes lay disk m c i old events new chain) where
      abbrev was : World
      was = steady.reached.now

      abbrev ran : (x : World) × Shows disk new x × EventsLead (lay.shape old.layout) (graphs_of old.graphs.items) was events x
      ran = chain-runs old events new chain was steady.reached.shows

      inside-shown : i < length (was.clients c).items
      inside-shown = let e = ap (λ (l : List Item). length l) (steady.reached.shows.clients c).items in omega (arith, inside, e)

      pub chain-left : item_left_of m new c i + count_of events c i ≤ item_left_of m old c i
      chain-left =
          let a = run-few (lay.shape old.layout) (graphs_of old.graphs.items) m c i was events ran.0 ran.2 (chain-later old events new chain) (steady-indexed lay disk old steady steady.reached) inside-shown (few-run old events new chain few was steady.reached.shows) in
          let b = item-shown disk old was steady.reached.shows m c i in
          let d = item-shown disk new ran.0 ran.1 m c i in
          omega (arith, a, b, d)

      pub chain-few : (deaths : ℕ) → ((n : ℕ) → IsOutOf (desk_at old.clients c) n → ⊥) → alive old.cols.states ≡ alive new.cols.states + deaths → count_of events c i ≤ (1 + deaths) * (2 * m + 4)
      chain-few deaths home die = few-bound (lay.shape old.layout) (graphs_of old.graphs.items) m c i was ran.0 events deaths ran.2 (chain-later old events new chain) (steady-indexed lay disk old steady steady.reached) inside-shown (few-run old events new chain few was steady.reached.shows) none-out
          (ap alive steady.reached.shows.columns ∙ (die ∙ ap (λ (cols : List ColumnState). alive cols + deaths) (sym ran.1.columns)))
        where
          none-out : NoneOut (was.clients c)
          none-out r n runs out =
              let h = runs-shown disk old was steady.reached.shows c r runs in
              home n (record { runs = h.0; mark = subst (λ (q : Running). q.node n ≡ status.Out) h.2 out })
