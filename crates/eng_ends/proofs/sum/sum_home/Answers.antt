use Rattle.std.proofs.Common.{◌∙◌, ap}
use Rattle.blk_plain.specs.declared.op.Outcome.TheVariants.{Good}
use Rattle.eng_state.specs.declared.array.Array.{Array}
use Rattle.eng_ends.proofs.EndingSum.{well, sources-out, target-lease, target-buf, target-out}
use Rattle.eng_state.proofs.Ending.{ends-good, ends-still}
use Rattle.eng_ends.proofs.sum.sum_home.Goals as goal

pub sources_home-requires-clause-lease : goal.sources_home-requires-clause-lease
sources_home-requires-clause-lease g c = (well g.L.Layout g.D.Disk c.args.array.now c.args.client c.args.node c.args.target c.args.sources.items c.args.count c.requires.sound c.requires.back).lease

pub sources_home-requires-clause-out : goal.sources_home-requires-clause-out
sources_home-requires-clause-out g c = sources-out g.L.Layout g.D.Disk c.args.array.now c.args.client c.args.node c.args.target c.args.sources.items c.args.count c.requires.sound c.requires.back

pub buffer_home-requires-clause-lease : goal.buffer_home-requires-clause-lease
buffer_home-requires-clause-lease g c = target-lease g.L.Layout g.D.Disk c.args.array.now c.args.client c.args.node c.args.target c.args.sources.items c.args.count c.requires.sound c.requires.back c.sources_home.new.array c.sources_home.ensures.home c.sources_home.ensures.rest

pub buffer_home-requires-clause-buf : goal.buffer_home-requires-clause-buf
buffer_home-requires-clause-buf g c = target-buf g.L.Layout g.D.Disk c.args.array.now c.args.client c.args.node c.args.target c.args.sources.items c.args.count c.requires.sound c.requires.back c.sources_home.new.array c.sources_home.ensures.home c.sources_home.ensures.rest c.sum_buf-to.result (c.sum_buf-to.ensures c.requires.back.to c.requires.back.kind)

pub buffer_home-requires-clause-out : goal.buffer_home-requires-clause-out
buffer_home-requires-clause-out g c = target-out g.L.Layout g.D.Disk c.args.array.now c.args.client c.args.node c.args.target c.args.sources.items c.args.count c.requires.sound c.requires.back c.sources_home.new.array c.sources_home.ensures.home c.sources_home.ensures.rest c.sum_buf-to.result (c.sum_buf-to.ensures c.requires.back.to c.requires.back.kind)

pub plain_home-requires-clause-can : goal.plain_home-requires-clause-can
plain_home-requires-clause-can g c =
    ends-still c.args.array.now c.buffer_home.new.self c.args.client c.args.node Good
    (ap (λ (s : Array g.row.L.Denot g.row.D.Denot). s.clients) c.buffer_home.ensures ∙ ap (λ (s : Array g.row.L.Denot g.row.D.Denot). s.clients) c.sources_home.ensures.rest)
    (ap (λ (s : Array g.row.L.Denot g.row.D.Denot). s.graphs.items) c.buffer_home.ensures ∙ ap (λ (s : Array g.row.L.Denot g.row.D.Denot). s.graphs.items) c.sources_home.ensures.rest)
    (ends-good g.L.Layout g.D.Disk c.args.array.now c.args.client c.args.node c.requires.sound c.requires.back.out)
