-- The sum by which a trace is judged, and the one that a core counts.
use Rattle.std.proofs.Common.{◌≡◌, ◌∙◌, ℕ, suc, ◌+◌, ◌*◌, ◌≤◌, Bool, true, false, inl, inr, List, [], ◌∷◌, length, map, take, refl, sym, ap, subst, arith}
use Rattle.std.specs.Prelude.{if◌then◌else◌, nat_le, Option, Some, None, slice_get, slice_index_or, sum_by, option_map, All}
use Rattle.std.proofs.lemmas.Bool.{cases_lt}
use Rattle.std.proofs.lemmas.List.{take_all, get_or_past}
use Rattle.std.proofs.lemmas.List.Sums.{sum_by-cons}
use Rattle.std.proofs.lemmas.Option.{slice_get-get_or, slice_get-map, slice_get_past}
use Rattle.blk_plain.specs.declared.op.Op.TheVariants.{Write, Writes, Read, Rebuild, Sync}
use Rattle.blk_plain.specs.declared.op.Patches.{Patches}
use Rattle.blk_plain.specs.Plain.{used_of}
use Rattle.lay_core.specs.Layout.{Shape}
use Rattle.lay_core.specs.declared.layout.Layout.{Ghosts as LayoutGhosts}
use Rattle.graph_mean.specs.Graph.{Held, View}
use Rattle.eng_world.specs.declared.item.Item.{Item}
use Rattle.eng_world.specs.declared.item.Item.TheVariants.{Run, Fail}
use Rattle.item_list.specs.ItemList.{ItemList}
use Rattle.eng_parts.specs.declared.setup.Setup.{Setup}
use Rattle.eng_plan.specs.Asked.{no_graph}
use Rattle.eng_array.specs.Fitting as core
use Rattle.eng_array.specs.Serving.{most_for}
use Rattle.eng_array.proofs.CountedEvents.{counted-fits, counted-rebuilds}
use Rattle.raid_script.specs.Asked.{Asked, IsAsked, Other, WritesAll, seen}
use Rattle.raid_script.specs.Steps.{seen_patches}
use Rattle.top_bound.specs.Bound.{span_nodes, spans_nodes, item_nodes, item_bound, row_sum, trace_sum}
use Rattle.top_bound.specs.Words.{nodes_in, graph_nodes, rebuilds_sum}
use Rattle.top_bound.specs.Laws.{asked_of}
use Rattle.top_bound.specs.Traced.{AreScriptAndGraphs, WhatFitsARebuild, WhatFitsHasRoom}
use Rattle.top_bound.proofs.Below.{below-zero, below-all, below-clients}
use Rattle.top_bound.proofs.Limits.{sum-map}
use Rattle.top_bound.proofs.Patched.{spans-seen}

-- ## Sums that agree where a list is of a kind

sum-where : {X Y : Type 0} (P : Y → Type 0) (g : X → Y) (f h : X → ℕ) (xs : List X) → All P (map g xs) → ((x : X) → P (g x) → f x ≡ h x) → sum_by f xs ≡ sum_by h xs
sum-where P g f h [] all same = refl
sum-where P g f h (x ∷ xs) all same =
    let here = same x (all 0 (g x) (omega arith)) in
    let rest = sum-where P g f h xs (λ k d l. all (suc k) d (omega (arith, l))) same in
    let both : f x + sum_by f xs ≡ h x + sum_by h xs = omega (arith, here, rest) in
    sum_by-cons f x xs ∙ (both ∙ sym (sum_by-cons h x xs))

-- ## Nodes

abbrev nodes-of : Option View → ℕ
nodes-of None = 0
nodes-of (Some v) = length v.nodes

-- the graph of a number, of those without their names
held-nodes : (graphs : List Held) (n : ℕ) → length (slice_index_or graphs n no_graph).drawn.nodes ≡ nodes-of (slice_get (map (λ g. g.drawn) graphs) n)
held-nodes graphs n =
    elim (cases_lt n (length graphs)) [
      | inl within ↦ sym (ap nodes-of (slice_get-map (λ (g : Held). g.drawn) graphs n ∙ ap (option_map (λ (g : Held). g.drawn)) (slice_get-get_or graphs n no_graph within)))
      | inr past ↦
          let over : length graphs ≤ n = omega (arith, past) in
          ap (λ (h : Held). length h.drawn.nodes) (get_or_past graphs n no_graph over)
          ∙ sym (ap nodes-of (slice_get-map (λ (g : Held). g.drawn) graphs n ∙ ap (option_map (λ (g : Held). g.drawn)) (slice_get_past graphs n over)))
    ]

file-nodes : (views : List View) (graphs : List Held) → map (λ g. g.drawn) graphs ≡ views → (n : ℕ) → length (slice_index_or graphs n no_graph).drawn.nodes ≡ graph_nodes views n
file-nodes views graphs same n =
    held-nodes graphs n
    ∙ (ap nodes-of (ap (λ (gs : List View). slice_get gs n) same) ∙ nodes-in (slice_get views n))
  where
    nodes-in : (o : Option View) → nodes-of o ≡ nodes_in o
    nodes-in None = refl
    nodes-in (Some g) = refl

-- of a write of several spans
writes-counted : (y : Shape) (views : List View) (graphs : List Held) (columns : ℕ) (patches : Patches) (file : Option ℕ) → map (λ g. g.drawn) graphs ≡ views
    → (few : Bool) → IsAsked columns (length views) (if few then WritesAll (seen_patches patches) file else Other) → most_for y graphs (Writes patches) file ≡ item_nodes y views (if few then WritesAll (seen_patches patches) file else Other)
unfolding spans_nodes
writes-counted y views graphs columns patches None same true asked = ap (spans_nodes y) (sym (spans-seen (used_of patches)))
writes-counted y views graphs columns patches (Some n) same true asked = file-nodes views graphs same n
writes-counted y views graphs columns patches file same false asked = absurd asked

-- the most nodes of a script's item
item-counted : (y : Shape) (views : List View) (graphs : List Held) (columns : ℕ) → map (λ g. g.drawn) graphs ≡ views
    → (i : Item) → IsAsked columns (length views) (seen i) → core.most_in y graphs (Some i) ≡ item_nodes y views (seen i)
unfolding span_nodes
item-counted y views graphs columns same (Run (Write span pattern) None) asked = refl
item-counted y views graphs columns same (Run (Writes patches) file) asked = writes-counted y views graphs columns patches file same (nat_le patches.used 8) asked
item-counted y views graphs columns same (Run (Write span pattern) (Some n)) asked = file-nodes views graphs same n
item-counted y views graphs columns same (Run (Read span) None) asked = refl
item-counted y views graphs columns same (Run (Read span) (Some n)) asked = file-nodes views graphs same n
item-counted y views graphs columns same (Run (Rebuild stripe) None) asked = refl
item-counted y views graphs columns same (Run (Rebuild stripe) (Some n)) asked = absurd asked
item-counted y views graphs columns same (Run (Sync stripe) None) asked = refl
item-counted y views graphs columns same (Run (Sync stripe) (Some n)) asked = absurd asked
item-counted y views graphs columns same (Fail column) asked = refl

-- ## Sums

module _ (y : Shape) (views : List View) (graphs : List Held) (devices columns : ℕ) (same : map (λ g. g.drawn) graphs ≡ views) where
  row-alike : (items : List Item) → All (IsAsked columns (length views)) (map seen items) → row_sum y views devices (map seen items) ≡ core.counted_events y graphs devices items
  row-alike items asked =
      let f : Asked → ℕ = λ a. item_bound devices (item_nodes y views a) in
      let g : Option Item → ℕ = λ o. item_bound devices (core.most_in y graphs o) in
      sum-map f seen items
      ∙ (sum-where (IsAsked columns (length views)) seen (λ i. f (seen i)) (λ i. g (Some i)) items asked (λ i a. ap (item_bound devices) (sym (item-counted y views graphs columns same i a)))
      ∙ sym (below-all g items))

  none : core.counted_events y graphs devices [] ≡ 0
  none = below-zero (λ i. (2 * core.most_in y graphs (slice_get [] i) + 4) * (1 + devices))

pub traced-alike : (y : Shape) (views : List View) (graphs : List Held) (devices columns : ℕ) (given : List ItemList) → AreScriptAndGraphs columns views graphs given
    → trace_sum y views devices (asked_of given) ≡ core.trace_sum y graphs devices given
unfolding trace_sum
traced-alike y views graphs devices columns given is =
    let row : ItemList → List Asked = λ items. map seen items.items in
    let all : take 16 given ≡ given = take_all 16 given is.clients in
    let counted : core.trace_sum y graphs devices given ≡ sum_by (λ (items : ItemList). core.counted_events y graphs devices items.items) given =
    below-clients (core.counted_events y graphs devices) (none y views graphs devices columns is.graphs_are) given 16
    ∙ ap (λ (rows : List ItemList). sum_by (λ (items : ItemList). core.counted_events y graphs devices items.items) rows) all in
    sum-map (row_sum y views devices) row given
    ∙ (sum-where (All (IsAsked columns (length views))) row (λ items. row_sum y views devices (row items)) (λ items. core.counted_events y graphs devices items.items) given is.asked
    (λ items asked. row-alike y views graphs devices columns is.graphs_are items.items asked)
    ∙ sym counted)

pub what-fits : {L D : Type 0} (lay : LayoutGhosts L) (setup : Setup L D) → WhatFitsHasRoom lay setup
what-fits lay setup views devices columns entries few is sum =
    counted-fits lay setup devices entries few
    (subst (λ (n : ℕ). n ≤ 1048576) (traced-alike (lay.shape setup.layout) views setup.graphs.items devices columns setup.clients.items is) sum)

pub what-fits-rebuilt : {L D : Type 0} (lay : LayoutGhosts L) (setup : Setup L D) → WhatFitsARebuild lay setup
what-fits-rebuilt lay setup views cols devices columns column asked rebuilds entries few is long most sum =
    counted-rebuilds lay setup devices entries few cols column asked rebuilds long most
    (subst (λ (n : ℕ). n + rebuilds_sum (lay.shape setup.layout) devices rebuilds ≤ 1048576) (traced-alike (lay.shape setup.layout) views setup.graphs.items devices columns setup.clients.items is) sum)
