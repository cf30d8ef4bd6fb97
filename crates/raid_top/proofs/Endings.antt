-- A text that was put is printed, and one that was cut short is a fault of the sink.
use Rattle.std.specs.Prelude.{◌≡◌, List, ℕ, Result, Ok, Err, OnErr, OnOk, is_ok}
use Rattle.std.proofs.Common.{inl, inr, refl}
use Rattle.blk_disk.specs.declared.disk.Disk.{Ghosts}
use Rattle.blk_disk.specs.declared.disk.Failed.{Failed}
use Rattle.raid_bay.specs.Sink.{Puts}
use Rattle.top_status.specs.declared.status.Status.{Status}
use Rattle.top_status.specs.declared.status.Status.TheVariants as status
use Rattle.raid_conf.specs.declared.conf.Conf.{Conf}
use Rattle.raid_text.specs.Text.{Text}
use Rattle.top_fetch.specs.Told.{Told}
use Rattle.top_words.specs.Asked.{Action}
use Rattle.raid_top.specs.declared.came.Came.{Came}
use Rattle.raid_top.specs.declared.came.Came.TheVariants as came
use Rattle.raid_top.specs.Calls.{call_status}
use Rattle.raid_top.specs.Ends.{Acts, Followed}
use Rattle.raid_top.specs.Words.{Printed}
use Rattle.raid_top.specs.Finished.{finished_seen, status_finished}
use Rattle.raid_top.specs.declared.finished.Finished.{Finished}
use Rattle.raid_top.specs.declared.finished.Finished.TheVariants as finished
use Rattle.top_words.specs.Views.{action_seen}
use Rattle.raid_top.specs.Outcome.{status_of}
use Rattle.raid_top.specs.Views.{outcome_seen, status_came}

pub printed_of : (tells rose : Type 0) (ending answer : Status) (text old new : List ℕ) (r : Result (Unit {0}) Failed) → OnOk r (answer ≡ ending) → OnErr r (answer ≡ status.SinkFault) → (tells → Puts (is_ok r) old text new) → OnErr r rose → Printed tells rose ending answer text old new
printed_of tells rose ending answer text old new (Ok x) ok err puts fault = inl (ok, puts)
printed_of tells rose ending answer text old new (Err e) ok err puts fault = inr (err, fault, puts)

-- the status goes by what came alone
pub status_same : (action : Action) (conf : Conf) (c : Came) → status_came c ≡ status_of (outcome_seen action conf c)
status_same action conf (came.Ran service) = refl
status_same action conf (came.Did act ending) = refl
status_same action conf (came.Shows shown) = refl
status_same action conf (came.ShowsLabel front) = refl
status_same action conf (came.Prints text) = refl

-- the same of a call
pub finished_status : (f : Finished) → status_finished f ≡ call_status (finished_seen f)
finished_status (finished.OfArray ended) = status_same (action_seen ended.action) ended.conf ended.came
finished_status (finished.OfScan scanned) = refl
finished_status (finished.OfSimulation simulated) = refl
finished_status (finished.OfConf studied) = refl
finished_status (finished.OfTopic topic) = refl

-- what came wasn't refused
pub acts_of : {D : Type 0} (g : Ghosts D) (b : Told D) (words : List Text) (f : Finished) → Followed g b words (finished_seen f) → Acts g b words (finished_seen f)
acts_of g b words (finished.OfArray ended) h = (h.invocation, h.words_are, h.follows)
acts_of g b words (finished.OfScan scanned) h = (h.invocation, h.words_are, h.follows)
acts_of g b words (finished.OfSimulation simulated) h = (h.invocation, h.words_are, h.follows)
acts_of g b words (finished.OfConf studied) h = (h.invocation, h.words_are, h.follows)
acts_of g b words (finished.OfTopic topic) h = (h.invocation, h.words_are, h.follows)
