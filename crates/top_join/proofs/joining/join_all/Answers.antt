use Rattle.std.proofs.Common.{◌≡◌, ◌∙◌, ℕ, ◌+◌, List, [], ◌∷◌, ◌++◌, drop, get_or, length, map, Ok, sym, ap, subst, arith}
use Rattle.std.proofs.Math.ListN.{drop_of_length-le}
use Rattle.std.proofs.lemmas.List.{drop_more, map_push}
use Rattle.graph_mean.specs.Graph.{Held, View}
use Rattle.item_list.specs.ItemList.{ItemList}
use Rattle.raid_script.specs.declared.join.Join.{Join}
use Rattle.raid_script.specs.Asked.{seen}
use Rattle.top_join.specs.Answers.{RefusesOne}
use Rattle.top_join.specs.Steps.{IsLine}
use Rattle.top_join.proofs.Lines.{Goes, all-gone, none-gone, one-gone, refused-all}
use Rattle.top_join.proofs.joining.join_all.Goals as goal

abbrev no-join : Join
no-join = record { line = 0; first = 0; second = 0 }

pub loop-j-init : goal.loop-j-init
loop-j-init g c =
    let y = g.L.Layout.shape c.args.layout.now in
    let rows = map (λ (row : ItemList). map seen row.items) c.args.clients.now in
    let book = c.args.book.now in
    let joins = c.args.joins.now in
    let none : map (λ (v : Held). v.drawn) c.in_ok-joined.joined.items ≡ [] = ap (λ (vs : List Held). map (λ (v : Held). v.drawn) vs) c.in_ok-joined.ensures.items in
    let zero : length book ≡ length book + 0 = omega arith in
    subst (λ (views : List View). Goes y book rows (length book) joins views (length book + 0) joins) (sym none)
    (subst (λ (n : ℕ). Goes y book rows (length book) joins [] n joins) zero (none-gone y book rows (length book) joins))

pub returns-in-Err-clause-refused : goal.returns-in-Err-clause-refused
returns-in-Err-clause-refused g c =
    let y = g.L.Layout.shape c.args.layout.now in
    let rows = map (λ (row : ItemList). map seen row.items) c.args.clients.now in
    let book = c.args.book.now in
    let joins = c.args.joins.now in
    let j = c.loop-j.j in
    let join = get_or joins j no-join in
    let views = map (λ (v : Held). v.drawn) c.loop-j.joined.items in
    let so_far = subst (λ (left : List Join). Goes y book rows (length book) joins views (length book + j) left) (drop_more joins j no-join c.loop-j-test.true) c.loop-j.invariant in
    refused-all y book rows (length book) joins views (length book + j) join (drop (j + 1) joins) c.in-Err.fault
    (subst (λ (n : ℕ). RefusesOne join.line (IsLine y book rows (n + j) join) c.in-Err.fault) c.count.ensures.count c.in-Err.ensures.refused) so_far

pub loop-j-preserved : goal.loop-j-preserved
loop-j-preserved g c =
    let y = g.L.Layout.shape c.args.layout.now in
    let rows = map (λ (row : ItemList). map seen row.items) c.args.clients.now in
    let book = c.args.book.now in
    let joins = c.args.joins.now in
    let j = c.loop-j.j in
    let join = get_or joins j no-join in
    let graph = c.in-Ok.graph in
    let views = map (λ (v : Held). v.drawn) c.loop-j.joined.items in
    let so_far = subst (λ (left : List Join). Goes y book rows (length book) joins views (length book + j) left) (drop_more joins j no-join c.loop-j-test.true) c.loop-j.invariant in
    let line = subst (λ (n : ℕ). IsLine y book rows (n + j) join (Ok graph.drawn)) c.count.ensures.count c.in-Ok.ensures.joined in
    let more = one-gone y book rows (length book) joins views (length book + j) join (drop (j + 1) joins) graph.drawn line so_far in
    let next : (length book + j) + 1 ≡ length book + (j + 1) = omega arith in
    let longer : views ++ graph.drawn ∷ [] ≡ map (λ (v : Held). v.drawn) c.push.new.self.items =
    sym (ap (λ (vs : List Held). map (λ (v : Held). v.drawn) vs) c.in_ok-push-in-Ok.ensures.items ∙ map_push (λ (v : Held). v.drawn) c.loop-j.joined.items graph) in
    subst (λ (vs : List View). Goes y book rows (length book) joins vs (length book + (j + 1)) (drop (j + 1) joins)) longer
    (subst (λ (n : ℕ). Goes y book rows (length book) joins (views ++ graph.drawn ∷ []) n (drop (j + 1) joins)) next more)

pub returns-clause-joined : goal.returns-clause-joined
returns-clause-joined g c =
    let y = g.L.Layout.shape c.args.layout.now in
    let rows = map (λ (row : ItemList). map seen row.items) c.args.clients.now in
    let book = c.args.book.now in
    let views = map (λ (v : Held). v.drawn) c.loop-j.joined.items in
    all-gone y book rows (length book) c.args.joins.now views (length book + c.loop-j.j)
    (subst (λ (left : List Join). Goes y book rows (length book) c.args.joins.now views (length book + c.loop-j.j) left) (drop_of_length-le c.args.joins.now c.loop-j-test.false) c.loop-j.invariant)
