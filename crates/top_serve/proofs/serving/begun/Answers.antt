use Rattle.std.proofs.Common.{◌∙◌}
use Rattle.eng_array.proofs.OutAt.{at-none, none-at}
use Rattle.top_serve.proofs.MayBegin.{has-column, column-on}
use Rattle.top_serve.proofs.serving.begun.Goals as goal

pub returns-in-Some-clause-home : goal.returns-in-Some-clause-home
returns-in-Some-clause-home g c = at-none c.start.new.self.array (λ k n. c.start.ensures.keeps.nodes k n ∙ none-at c.args.core.array c.requires.home k n)

pub returns-in-Some-clause-column : goal.returns-in-Some-clause-column
returns-in-Some-clause-column g c =
    column-on g.L.Layout g.D.Disk c.args.core.array c.start.new.self.array c.start.ensures.happens.same.shape c.args.start (has-column g.L.Layout g.D.Disk c.args.core.array c.requires.steady c.args.start c.requires.can)
