use Rattle.std.proofs.Common.{◌∙◌, sym, ap}
use Rattle.std.specs.Prelude.{slice_set}
use Rattle.std.proofs.lemmas.List.Edits.{map_over_more}
use Rattle.eng_job.specs.declared.job.Source.{Source}
use Rattle.eng_clients.specs.Gathered.{turned}
use Rattle.eng_clients.proofs.gather.turn.Goals as goal

pub loop-source-preserved : goal.loop-source-preserved
loop-source-preserved c =
    ap (λ (t : Source). slice_set c.loop-source.sources c.loop-source.source-index t) (c.turn_one.ensures ∙ ap (turned c.args.at) (sym c.source-item.is))
    ∙ map_over_more (turned c.args.at) c.args.sources.now c.loop-source.sources c.loop-source.source-index c.source-item.result c.loop-source-test.true c.loop-source.invariant c.source-item.is
