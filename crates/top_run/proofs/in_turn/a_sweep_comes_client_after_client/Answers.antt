use Rattle.top_run.proofs.InTurn.{swept-in-turn}
use Rattle.top_run.proofs.InTurnHeld.{swept-over-held, swept-by-seed}
use Rattle.top_run.proofs.in_turn.a_sweep_comes_client_after_client.Goals as goal

pub returns : goal.returns
returns g c = record { opening = swept-in-turn g.D.Disk; held = swept-over-held g.D.Disk; seeds = swept-by-seed g.D.Disk }
