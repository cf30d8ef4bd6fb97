use Rattle.std.proofs.Common.{sym, ◌∙◌, subst, List}
use Rattle.graph_mean.specs.Graph.{Held}
use Rattle.eng_clients.specs.Desk.{Lends, desk_at}
use Rattle.eng_state.proofs.Leaving.{read-takes, write-takes}
use Rattle.eng_state.proofs.Ripe.{in-lease, runs-well, sources-in, sum-takes}
use Rattle.eng_choice.proofs.doable.has_buffers.Goals as goal

pub is_home-requires-clause-buf : goal.is_home-requires-clause-buf
is_home-requires-clause-buf g c =
    let d = desk_at c.args.array.now.clients c.args.client in
    in-lease g.L.Layout g.D.Disk c.args.array.now c.args.client c.requires.sound c.requires.ripe.0 c.args.node c.in-Rd.buf c.requires.ripe.1.below (read-takes d.run.graph c.args.node c.in-Rd.unit c.in-Rd.buf (sym c.node.ensures ∙ c.in-Rd.is))

pub is_home-requires-in-Wr-clause-lease : goal.is_home-requires-in-Wr-clause-lease
is_home-requires-in-Wr-clause-lease g c = (runs-well g.L.Layout g.D.Disk c.args.array.now c.args.client c.requires.sound c.requires.ripe.0).lease

pub is_home-requires-in-Wr-clause-buf : goal.is_home-requires-in-Wr-clause-buf
is_home-requires-in-Wr-clause-buf g c =
    let d = desk_at c.args.array.now.clients c.args.client in
    in-lease g.L.Layout g.D.Disk c.args.array.now c.args.client c.requires.sound c.requires.ripe.0 c.args.node c.in-Wr.buf c.requires.ripe.1.below (write-takes d.run.graph c.args.node c.in-Wr.unit c.in-Wr.buf (sym c.node.ensures ∙ c.in-Wr.is))

pub is_home-requires-in-Xor-clause-lease : goal.is_home-requires-in-Xor-clause-lease
is_home-requires-in-Xor-clause-lease g c = (runs-well g.L.Layout g.D.Disk c.args.array.now c.args.client c.requires.sound c.requires.ripe.0).lease

pub is_home-requires-in-Xor-clause-buf : goal.is_home-requires-in-Xor-clause-buf
is_home-requires-in-Xor-clause-buf g c =
    let w = runs-well g.L.Layout g.D.Disk c.args.array.now c.args.client c.requires.sound c.requires.ripe.0 in
    in-lease g.L.Layout g.D.Disk c.args.array.now c.args.client c.requires.sound c.requires.ripe.0 c.args.node c.in-Xor.to c.requires.ripe.1.below (sum-takes _ _ _ _ w c.args.node c.requires.ripe.1.below c.in-Xor.to (sym c.node.ensures ∙ c.in-Xor.is))

pub sources_home-requires-clause-lends : goal.sources_home-requires-clause-lends
sources_home-requires-clause-lends g c = subst (λ (l : List Held). Lends l (desk_at c.args.array.now.clients c.args.client)) (sym c.deref-then-is_home.ensures.value) (runs-well g.L.Layout g.D.Disk c.args.array.now c.args.client c.requires.sound c.requires.ripe.0).lends

pub sources_home-requires-clause-lease : goal.sources_home-requires-clause-lease
sources_home-requires-clause-lease g c = (runs-well g.L.Layout g.D.Disk c.args.array.now c.args.client c.requires.sound c.requires.ripe.0).lease

pub sources_home-requires-clause-named : goal.sources_home-requires-clause-named
sources_home-requires-clause-named g c =
    let w = runs-well g.L.Layout g.D.Disk c.args.array.now c.args.client c.requires.sound c.requires.ripe.0 in
    sources-in _ _ _ _ w c.args.node c.requires.ripe.1.below c.in-Xor.to (sym c.node.ensures ∙ c.in-Xor.is)
