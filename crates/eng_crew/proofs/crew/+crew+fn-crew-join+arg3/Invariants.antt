use Rattle.std.proofs.Common.{◌+◌, ◌*◌, vec_len}
use Rattle.eng_crew.proofs.crew.+crew+fn-crew-join+arg3.Given as goal

abbrev pub decreases-crew : goal.decreases-crew
decreases-crew g l = 2 * vec_len l.others + 1

abbrev pub decreases-join+arg3 : goal.decreases-join+arg3
decreases-join+arg3 g l = 2 * vec_len l.others + 2
