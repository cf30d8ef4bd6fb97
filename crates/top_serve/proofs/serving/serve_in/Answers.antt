use Rattle.eng_cols.proofs.Losing.{lost-excludes}
use Rattle.top_serve.specs.Setups.{shape_in, states_in}
use Rattle.top_serve.proofs.MayBegin.{can-begin}
use Rattle.top_serve.proofs.serving.serve_in.Goals as goal

pub served-requires-clause-can : goal.served-requires-clause-can
served-requires-clause-can g c = λ κs lives. can-begin g.L.Layout g.D.Disk c.args.setup c.in-Ok.core.array c.requires.setup c.in-Ok.ensures.opened c.args.start c.requires.start c.in-Ok.ensures.rebuilds

pub returns : goal.returns
returns g c = c.served.ensures c.args.setup c.requires.setup c.requires.start c.in-Ok.ensures.opened c.in-Ok.ensures.worlds c.in-Ok.ensures.long

pub unreachable-requires : goal.unreachable-requires
unreachable-requires g c = lost-excludes (shape_in g.L.Layout c.args.setup) (states_in g.L.Layout c.args.setup) c.in-Err.field-0.0 c.in-Err.ensures.loss c.requires.kept
