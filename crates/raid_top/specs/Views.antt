-- What is seen of what came of a command, without where it lies in memory.
use Rattle.std.specs.Prelude.{◌≡◌, ◌≤◌, ℕ, List, length}
use Rattle.raid_conf.specs.declared.conf.Conf.{Conf}
use Rattle.raid_conf.specs.Form.{conf_text}
use Rattle.raid_script.specs.Replies.{StandFor}
use Rattle.top_looks.specs.Labels.{label_text}
use Rattle.top_open.specs.Opening.{opened_seen}
use Rattle.top_run.specs.Works.{service_seen}
use Rattle.top_status.specs.declared.status.Status.{Status}
use Rattle.top_status.specs.declared.status.Status.TheVariants as status
use Rattle.top_status.specs.Status.{status_of_loss}
use Rattle.top_words.specs.Asked.{Action, profile_of}
use Rattle.top_acts.specs.declared.done.Done.TheVariants as done
use Rattle.top_labelled.specs.declared.labelled.Outcome.{Outcome as Ended}
use Rattle.top_labelled.specs.declared.labelled.Outcome.TheVariants as ended
use Rattle.raid_top.specs.Arrays.{ending_seen}
use Rattle.raid_top.specs.Outcome.{Outcome, Ran, Did, Looked}
use Rattle.raid_top.specs.Words.{status_of_done}
use Rattle.raid_top.specs.Shown.{shown_text}
use Rattle.raid_top.specs.declared.came.Shown.{Shown}
use Rattle.raid_top.specs.declared.came.Came.{Came}
use Rattle.raid_top.specs.declared.came.Came.TheVariants as came

-- what an action shows of an array
abbrev pub shown_of : Action → Conf → Shown → List ℕ
shown_of action conf s =
    shown_text (profile_of action).map conf (opened_seen s.opened) s.sizes.items s.fronts.items s.map

-- the outcome of an action over an array of this configuration
abbrev pub outcome_seen : Action → Conf → Came → Outcome
outcome_seen action conf (came.Ran service) = Ran action (service_seen service)
outcome_seen action conf (came.Did act ending) = Did act (ending_seen ending)
outcome_seen action conf (came.Shows shown) = Looked (shown_of action conf shown)
outcome_seen action conf (came.ShowsLabel front) = Looked (label_text front)
outcome_seen action conf (came.Prints text) = Looked text.items

-- what came of a run over an array with labels
abbrev pub came_from : Ended → Came
came_from (ended.Ran service) = came.Ran service
came_from (ended.Lost ending) = came.Did done.Nothing ending

-- its status, which goes by what came alone
abbrev pub status_came : Came → Status
status_came (came.Ran service) = status_of_loss service.lost
status_came (came.Did act ending) = status_of_done act ending.lost
status_came (came.Shows shown) = status.Ok
status_came (came.ShowsLabel front) = status.Ok
status_came (came.Prints text) = status.Ok

-- what a run tells can be printed
abbrev pub CanBePrinted : Came → Type 0
CanBePrinted (came.Ran s) = StandFor s.clients.items s.replies.items s.sectors × (length s.clients.items ≤ 16)
CanBePrinted (came.Did act ending) = Unit {0}
CanBePrinted (came.Shows shown) = Unit {0}
CanBePrinted (came.ShowsLabel front) = Unit {0}
CanBePrinted (came.Prints text) = Unit {0}

-- the text of the configuration is to be printed
abbrev pub PrintsConf : Conf → Came → Type 0
PrintsConf conf (came.Prints text) = text.items ≡ conf_text conf
PrintsConf conf _ = ⊥
