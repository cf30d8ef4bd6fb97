use Rattle.std.proofs.Common.{List, [], ◌≤◌, ◌≡◌, length, sym, subst, arith}
use Rattle.graph_mean.specs.Graph.{Held}
use Rattle.lay_plain.specs.LeftSymmetric.{left_symmetric}
use Rattle.eng_cols.specs.Stripes.{states_of}
use Rattle.item_list.specs.ItemList.{ItemList}
use Rattle.eng_array.specs.Fitting.{opening_events}
use Rattle.eng_array.proofs.CountedEvents.{states-count}
use Rattle.array_tests.proofs.ShortTraces.{one-script}
use Rattle.array_tests.proofs.tests.traced.traced.Goals as goal

pub returns : goal.returns
returns c = λ kept.
    let y = left_symmetric c.args.layout.columns c.args.layout.unit_sectors c.args.layout.rows in
    let columns = c.in_ok-live.field-0.items in
    let cols = states_of y columns in
    let live : length columns ≡ length c.args.fails.now = c.in_ok-live.ensures in
    let few : length cols ≤ 5 = let s = states-count y columns in omega (arith, s, live, c.requires.few) in
    let events = one-script y cols c.args.items few c.requires.short in
    let all : opening_events y c.new.result.items cols c.in_ok-vec.field-0.items ≤ 1048576 = subst (λ (g : List Held). opening_events y g cols c.in_ok-vec.field-0.items ≤ 1048576) (sym c.new.ensures.items)
    (subst (λ (l : List ItemList). opening_events y [] cols l ≤ 1048576) (sym c.in_ok-vec.ensures.items) events) in
    omega (arith, all)
