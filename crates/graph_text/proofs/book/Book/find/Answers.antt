use Rattle.std.proofs.Common.{◌∙◌, List, sym, ap}
use Rattle.std.specs.Prelude.{position}
use Rattle.std.specs.Str.{bytes_eq}
use Rattle.graph_text.specs.Format.{Named}
use Rattle.graph_text.proofs.NamedGraphs.{position_named}
use Rattle.graph_text.proofs.book.Book.find.Goals as goal

pub returns-in-Some : goal.returns-in-Some
returns-in-Some c =
    let there = position_named c.self.inside.names.items c.self.inside.graphs.items c.args.name.now c.self.invariant.pairs in
    let whole = ap (λ (gs : List Named). position (λ g. bytes_eq g.name c.args.name.now) gs) c.self.view_is in
    rw c.deref.ensures.value at c.in-Some.ensures.place ∙ (sym there ∙ whole)

pub returns-in-None : goal.returns-in-None
returns-in-None c =
    let there = position_named c.self.inside.names.items c.self.inside.graphs.items c.args.name.now c.self.invariant.pairs in
    let whole = ap (λ (gs : List Named). position (λ g. bytes_eq g.name c.args.name.now) gs) c.self.view_is in
    rw c.deref.ensures.value at c.in-None.ensures.place ∙ (sym there ∙ whole)
