-- Words of proofs: how a column is rebuilt and how many rebuilds there are, by an action and by an array alone.
use Rattle.std.specs.Prelude.{ℕ, List, Option}
use Rattle.eng_array.specs.declared.start.Start.{Start}
use Rattle.raid_conf.specs.declared.conf.Conf.{Conf}
use Rattle.top_open.specs.declared.fronts.Front.{Front}
use Rattle.top_open.specs.Opening.{Opened}
use Rattle.top_words.specs.Asked.{Action, profile_of}
use Rattle.top_duty.specs.Duty.{Admitted, layout_of, rebuilds_by}
use Rattle.top_duty.specs.Steps.{columns_of, with_dead}
use Rattle.top_duty.specs.Opening.{needs_of}
use Rattle.top_duty.specs.Start.{start_with}

abbrev pub start_by : Action → Option ℕ → Conf → Opened → List ℕ → List Front → Option Start
start_by action comp conf o sizes fronts = start_with (profile_of action).rebuild (profile_of action).limit comp conf o sizes fronts

abbrev pub rebuilds_of : Admitted → ℕ
rebuilds_of a = rebuilds_by (layout_of a) (with_dead (needs_of a.asked).excused (columns_of a)) a.start
