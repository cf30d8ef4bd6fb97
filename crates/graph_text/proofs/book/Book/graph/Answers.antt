use Rattle.std.proofs.Common.{◌∙◌, ◌<◌, List, Option, refl, sym, ap, arith, length}
use Rattle.std.proofs.lemmas.Option.{slice_get_read}
use Rattle.std.specs.Prelude.{option_map, slice_get}
use Rattle.graph_mean.specs.Graph.{Held}
use Rattle.graph_text.specs.Format.{Named}
use Rattle.graph_text.proofs.NamedGraphs.{graph_named, length_named}
use Rattle.graph_text.proofs.book.Book.graph.Goals as goal

pub returns : goal.returns
returns c =
    let there = graph_named c.self.inside.names.items c.self.inside.graphs.items c.args.i c.self.invariant.pairs in
    let whole = ap (λ (gs : List Named). option_map (λ (g : Named). g.graph) (slice_get gs c.args.i)) c.self.view_is in
    let v = ap (λ (gs : List Named). length gs) c.self.view_is in
    let l = length_named c.self.inside.names.items c.self.inside.graphs.items c.self.invariant.pairs in
    let p = c.self.invariant.pairs in
    let r = c.requires in
    let within : c.args.i < length c.self.inside.graphs.items = omega arith in
    let one = ap (λ (o : Option Held). option_map (λ (g : Held). g.drawn) o) (slice_get_read c.self.inside.graphs.items (length c.self.inside.graphs.items) c.args.i c.index.result.now refl within c.index.ensures) in
    sym whole ∙ (there ∙ one)
