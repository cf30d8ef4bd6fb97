use Rattle.top_labelled.proofs.Outlived.{by-seed, in-turn}
use Rattle.top_labelled.proofs.in_turn.a_sweep_comes_client_after_client.Goals as goal

pub returns : goal.returns
returns g c = record {
  opening = λ a newest taken back s faulty map r. in-turn g.D.Disk a newest taken s back faulty map r;
  seeds = λ a newest taken back s faulty map r. by-seed g.D.Disk a newest taken s back faulty map r;
}
