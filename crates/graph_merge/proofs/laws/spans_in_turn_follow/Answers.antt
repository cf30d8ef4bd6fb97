use Rattle.graph_merge.proofs.Spans.{maps_follow, tasks_follow, missing_follow}
use Rattle.graph_merge.proofs.laws.spans_in_turn_follow.Goals as goal

pub returns-clause-map : goal.returns-clause-map
returns-clause-map c = maps_follow

pub returns-clause-task : goal.returns-clause-task
returns-clause-task c = tasks_follow

pub returns-clause-missing : goal.returns-clause-missing
returns-clause-missing c = missing_follow
