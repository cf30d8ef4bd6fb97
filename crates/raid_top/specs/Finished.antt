-- What is seen of what came of a call, without where it lies in memory.
use Rattle.std.specs.Prelude.{◌≡◌, ◌≤◌, length}
use Rattle.raid_conf.specs.Form.{IsConf}
use Rattle.top_help.specs.Topics.{topic_text}
use Rattle.top_scan.specs.Lines.{scan_text}
use Rattle.top_scan.specs.Scanned.{IsComplete}
use Rattle.top_scan.specs.declared.scanning.Scanned.{Scanned}
use Rattle.top_sim.specs.Lines.{sim_text}
use Rattle.top_sim.specs.declared.simulating.Simulated.{Simulated}
use Rattle.top_status.specs.declared.status.Status.{Status}
use Rattle.top_status.specs.declared.status.Status.TheVariants as status
use Rattle.top_status.specs.Refusals.{Refused, only}
use Rattle.top_study.specs.Views.{studied_text}
use Rattle.top_words.specs.Views.{action_seen}
use Rattle.top_words.specs.declared.invocation.WordsFault.{WordsFault}
use Rattle.top_words.specs.declared.invocation.WordsFault.TheVariants as fault
use Rattle.raid_top.specs.Calls.{CallOutcome, OfArray, OfConf, OfScan, OfSimulation, OfTopic}
use Rattle.raid_top.specs.Views.{CanBePrinted, outcome_seen, status_came}
use Rattle.raid_top.specs.declared.finished.Finished.{Finished}
use Rattle.raid_top.specs.declared.finished.Finished.TheVariants as finished

-- what is told of a scan, and of a simulation
abbrev pub told_of_scan : Scanned → CallOutcome
told_of_scan s = OfScan (scan_text s.names.items s.fronts.items s.sets.sets s.sets.places)

abbrev pub told_of_simulation : Simulated → CallOutcome
told_of_simulation s = OfSimulation (sim_text s.requests.items s.services.items s.replies)

-- the outcome of a call
abbrev pub finished_seen : Finished → CallOutcome
finished_seen (finished.OfArray ended) =
    OfArray (outcome_seen (action_seen ended.action) ended.conf ended.came)
finished_seen (finished.OfScan scanned) = told_of_scan scanned
finished_seen (finished.OfSimulation simulated) = told_of_simulation simulated
finished_seen (finished.OfConf studied) = OfConf (studied_text studied)
finished_seen (finished.OfTopic topic) = OfTopic (topic_text topic)

-- its status
abbrev pub status_finished : Finished → Status
status_finished (finished.OfArray ended) = status_came ended.came
status_finished (finished.OfScan scanned) = status.Ok
status_finished (finished.OfSimulation simulated) = status.Ok
status_finished (finished.OfConf studied) = status.Ok
status_finished (finished.OfTopic topic) = status.Ok

-- each request has a reply, and there are few of them
abbrev pub CanBeServed : Simulated → Type 0
CanBeServed s = (length s.replies ≡ length s.requests.items) × (length s.requests.items ≤ 4096)

-- it can be printed
abbrev pub CanBeTold : Finished → Type 0
CanBeTold (finished.OfArray ended) = IsConf ended.conf × CanBePrinted ended.came
CanBeTold (finished.OfScan s) = IsComplete s.names.items s.fronts.items s.sets.sets s.sets.places
CanBeTold (finished.OfSimulation s) = CanBeServed s
CanBeTold (finished.OfConf studied) = Unit {0}
CanBeTold (finished.OfTopic topic) = Unit {0}

-- how words are refused
abbrev pub refusal_of : WordsFault → Refused
refusal_of (fault.Usage case) = only (status.Usage case)
refusal_of fault.Memory = only status.Memory
