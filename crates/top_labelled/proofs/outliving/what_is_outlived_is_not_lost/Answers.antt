use Rattle.top_labelled.proofs.Outlived.{not-begun-lost, outlived}
use Rattle.top_labelled.proofs.outliving.what_is_outlived_is_not_lost.Goals as goal

pub returns : goal.returns
returns g c = record {
  ran = λ a newest taken back s faulty map r outlives. outlived g.D.Disk a newest taken s back faulty map r outlives;
  begun = λ a newest taken back e map h outlives. not-begun-lost g.D.Disk a newest taken map e back h outlives;
}
