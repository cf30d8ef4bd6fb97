use Rattle.raid_script.proofs.RunLaws.{are_runs, only_runs}
use Rattle.raid_script.proofs.runs.put_blocks.Goals as goal

pub returns-clause-maximal : goal.returns-clause-maximal
returns-clause-maximal g c = are_runs c.args.sectors.now

pub returns-clause-only : goal.returns-clause-only
returns-clause-only g c = only_runs c.args.sectors.now
