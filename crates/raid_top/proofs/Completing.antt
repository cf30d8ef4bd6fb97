-- A call by which all that is asked for is right is done and ends well, or memory was wanted.
use Rattle.std.specs.Prelude.{◌≡◌, ◌++◌, ℕ, List, Result, Ok}
use Rattle.std.proofs.Common.{inl, inr, sym, ap, subst, ◌∙◌}
use Rattle.blk_disk.specs.Devices.{AreNamed}
use Rattle.blk_disk.specs.declared.disk.Disk.{Ghosts}
use Rattle.raid_text.specs.Text.{Text}
use Rattle.top_bay.specs.Asked.{Asked, names_for}
use Rattle.top_fetch.specs.Told.{Told}
use Rattle.top_status.specs.declared.status.Status.{Status}
use Rattle.top_status.specs.declared.status.Status.TheVariants as status
use Rattle.top_status.specs.Refusals.{Refused}
use Rattle.top_duty.specs.Duty.{Duty, asked_of, duty_in}
use Rattle.top_duty.specs.Steps.{reads_fronts}
use Rattle.top_duty.specs.Taken.{RefusedAt, RefusedFor}
use Rattle.top_words.specs.Asked.{Command}
use Rattle.top_words.specs.Judged.{Invocation, Tell, OnArray, OnConf, Scan, Simulate, invocation_of}
use Rattle.blk_disk.proofs.DeviceLaws.{changes-refl}
use Rattle.raid_top.specs.Acted.{Acted, CommandEndsWell, IsRightCommand, MayRead, SurvivesCall}
use Rattle.raid_top.specs.Calls.{CallOutcome, OfArray, OfConf, OfScan, OfSimulation, OfTopic, Refuses, call_status, call_text}
use Rattle.raid_top.specs.Ends.{Acts, Answers, EndsWell, Followed, Follows, IsDone, IsDoneWell, IsRight, IsRightFor}
use Rattle.raid_top.specs.Outcome.{Outcome, status_of}
use Rattle.raid_top.specs.Refused.{IsRefusedAs, RefusedBy}
use Rattle.raid_top.proofs.Answered.{is_answered}
use Rattle.raid_top.proofs.Due.{due_in}
use Rattle.raid_top.proofs.Frames.{AnySector, due_moves}
use Rattle.raid_top.proofs.Reading.{may_read, reads_still}
use Rattle.raid_top.proofs.Refusals.{refused_for}
use Rattle.raid_top.proofs.Wanted.{asked_is, due_or_refused, is_named, one_duty}
use Rattle.raid_top.proofs.Well.{due_well}

module _ {D : Type 0} (g : Ghosts D) (b : Told D) (command : Command) (told : b.tells) (right : IsRightCommand g b command) (sound : b.rose → ⊥) where
  acted_well : (o : Outcome) → Acted g b command o → CommandEndsWell command (status_of o)
  acted_well o acted =
      let wanted = due_in g b command o acted told in
      let same : asked_of acted.duty ≡ right.asked = asked_is g.size b command acted.fronts right.asked acted.duty right.asks wanted in
      let before = subst (λ (k : Asked). AreNamed b.home (names_for k) acted.taken) same (acted.before told) in
      let after = subst (λ (k : Asked). AreNamed b.after (names_for k) acted.back) same (acted.after told) in
      let moves = due_moves g acted.duty acted.fronts acted.old acted.back o acted.does in
      let read = subst (λ (k : Asked). MayRead g (reads_fronts k.command.action) acted.taken acted.back acted.fronts) same
      (may_read g acted.taken acted.old acted.back acted.fronts (reads_fronts (asked_of acted.duty).command.action) moves acted.read) in
      let due = right.due acted.taken acted.back acted.fronts before after read in
      let one : due.duty ≡ acted.duty = one_duty (duty_in g.size b command acted.fronts) due.duty acted.duty due.wanted wanted in
      let survives = subst (λ (d : Duty). SurvivesCall g d acted.taken acted.back) one due.survives in
      due_well g command acted.duty acted.fronts acted.taken acted.old acted.back o
      (reads_still g acted.taken acted.old acted.back acted.fronts (reads_fronts (asked_of acted.duty).command.action) acted.read)
      survives acted.command_is (is_named g.size b command acted.fronts acted.duty wanted) acted.does

  refused_at : (r : Refused) → RefusedAt g b command r → ⊥
  refused_at r at =
      let was = at.read right.asked right.asks in
      let due = right.due was.taken was.back at.fronts was.before was.after
      (may_read g was.taken was.back was.back at.fronts (reads_fronts right.asked.command.action) (changes-refl g AnySector was.back) was.read) in
      due_or_refused (duty_in g.size b command at.fronts) due.duty r due.wanted at.wanted

  command_refused : (r : Refused) → RefusedFor g b command r → r.status ≡ status.Memory
  command_refused r (inl at) = absurd (refused_at r at)
  command_refused r (inr (inl bay)) = absurd (sound bay.1)
  command_refused r (inr (inr (inl memory))) = ap (λ (x : Refused). x.status) memory.0
  command_refused r (inr (inr (inr at))) = ap (λ (x : Refused). x.status) at.wanted.2

-- where what is wanted isn't refused, it is memory that was wanted
wanted_refused : {A : Type 0} (rose : Type 0) (wanted : Result A Refused) (x : A) (r : Refused) → (rose → ⊥) → wanted ≡ Ok x → IsRefusedAs rose wanted r → r.status ≡ status.Memory
wanted_refused rose wanted x r sound ok (inl refused) = absurd (let z : ⊥ = cc (ok, refused) in z)
wanted_refused rose wanted x r sound ok (inr (inl bay)) = absurd (sound bay.1)
wanted_refused rose wanted x r sound ok (inr (inr memory)) = ap (λ (y : Refused). y.status) memory

module _ {D : Type 0} (g : Ghosts D) (b : Told D) (words : List Text) (told : b.tells) (sound : b.rose → ⊥) where
  -- a command that ends well is a call that does
  of_command : (command : Command) (s : Status) → invocation_of words ≡ Ok (OnArray command) → CommandEndsWell command s → EndsWell words s
  of_command command status.Ok e h = tt
  of_command command status.Memory e h = tt
  of_command command (status.NotInSync n) e h = (command, e, h)
  of_command command (status.Usage i) e h = absurd h
  of_command command (status.Conf l c) e h = absurd h
  of_command command (status.Script l c) e h = absurd h
  of_command command (status.GraphText l c) e h = absurd h
  of_command command status.BayFault e h = absurd h
  of_command command (status.NoFile n) e h = absurd h
  of_command command status.SinkFault e h = absurd h
  of_command command (status.Lost f s t) e h = absurd h
  of_command command (status.Label f s t u) e h = absurd h
  of_command command (status.Small f s t) e h = absurd h
  of_command command status.NoSpare e h = absurd h
  of_command command status.NoRebuild e h = absurd h
  of_command command (status.Rebuilding column) e h = absurd h
  of_command command (status.LongText n) e h = absurd h

  follows_well : (i : Invocation) (o : CallOutcome) → invocation_of words ≡ Ok i → IsRightFor g b i → Follows g b i o → EndsWell words (call_status o)
  follows_well (Tell topic) (OfTopic text) e right h = tt
  follows_well (Tell topic) (OfArray o) e right h = absurd h
  follows_well (Tell topic) (OfScan text) e right h = absurd h
  follows_well (Tell topic) (OfSimulation text) e right h = absurd h
  follows_well (Tell topic) (OfConf text) e right h = absurd h
  follows_well (Tell topic) (Refuses r) e right h = absurd h
  follows_well (OnArray command) (OfArray o) e right h = of_command command (status_of o) e (acted_well g b command told right sound o h)
  follows_well (OnArray command) (OfTopic text) e right h = absurd h
  follows_well (OnArray command) (OfScan text) e right h = absurd h
  follows_well (OnArray command) (OfSimulation text) e right h = absurd h
  follows_well (OnArray command) (OfConf text) e right h = absurd h
  follows_well (OnArray command) (Refuses r) e right h = absurd h
  follows_well (Scan list) (OfScan text) e right h = tt
  follows_well (Scan list) (OfTopic text) e right h = absurd h
  follows_well (Scan list) (OfArray o) e right h = absurd h
  follows_well (Scan list) (OfSimulation text) e right h = absurd h
  follows_well (Scan list) (OfConf text) e right h = absurd h
  follows_well (Scan list) (Refuses r) e right h = absurd h
  follows_well (Simulate name order) (OfSimulation text) e right h = tt
  follows_well (Simulate name order) (OfTopic text) e right h = absurd h
  follows_well (Simulate name order) (OfArray o) e right h = absurd h
  follows_well (Simulate name order) (OfScan text) e right h = absurd h
  follows_well (Simulate name order) (OfConf text) e right h = absurd h
  follows_well (Simulate name order) (Refuses r) e right h = absurd h
  follows_well (OnConf name asked) (OfConf text) e right h = tt
  follows_well (OnConf name asked) (OfTopic text) e right h = absurd h
  follows_well (OnConf name asked) (OfArray o) e right h = absurd h
  follows_well (OnConf name asked) (OfScan text) e right h = absurd h
  follows_well (OnConf name asked) (OfSimulation text) e right h = absurd h
  follows_well (OnConf name asked) (Refuses r) e right h = absurd h

  refused_well : (i : Invocation) (r : Refused) → IsRightFor g b i → RefusedBy g b i r → r.status ≡ status.Memory
  refused_well (Tell topic) r right h = absurd h
  refused_well (OnArray command) r right h = command_refused g b command told right sound r (refused_for g b command r h)
  refused_well (Scan list) r right h = wanted_refused b.rose _ right.0 r sound right.1 h.0
  refused_well (Simulate name order) r right h = wanted_refused b.rose _ right.0 r sound right.1 h.0
  refused_well (OnConf name asked) r right h = wanted_refused b.rose _ right.0 r sound right.1 h.0

  module _ (right : IsRight g b words) where
    followed : (o : CallOutcome) → Followed g b words o → EndsWell words (call_status o)
    followed o f =
        let same : right.invocation ≡ f.invocation = (let both : ◌≡◌ {A = Result Invocation ℕ} (Ok right.invocation) (Ok f.invocation) = sym right.words_are ∙ f.words_are in cc both) in
        follows_well f.invocation o f.words_are (subst (λ (i : Invocation). IsRightFor g b i) same right.right) f.follows

    done_well : (o : CallOutcome) (f : Followed g b words o) (sink_tells : Type 0) (answer : Status) (old new : List ℕ) → answer ≡ call_status o → (sink_tells → new ≡ old ++ call_text o) → IsDoneWell g b words sink_tells answer old new
    done_well o f sink_tells answer old new same printed =
        let well = followed o f in
        record {
          outcome = o;
          followed = f;
          status = same;
          well = subst (λ (s : Status). EndsWell words s) (sym same) well;
          answered = is_answered g b words f.invocation o f.follows well;
          printed = printed;
        }

    ended : (o : CallOutcome) → Acts g b words o → (sink_tells : Type 0) (answer : Status) (old new : List ℕ) → answer ≡ call_status o → (sink_tells → new ≡ old ++ call_text o) → IsDone g b words sink_tells answer old new
    ended (OfArray o) acts sink_tells answer old new same printed = inl (done_well (OfArray o) (record { invocation = acts.0; words_are = acts.1; follows = acts.2 }) sink_tells answer old new same printed)
    ended (OfScan text) acts sink_tells answer old new same printed = inl (done_well (OfScan text) (record { invocation = acts.0; words_are = acts.1; follows = acts.2 }) sink_tells answer old new same printed)
    ended (OfSimulation text) acts sink_tells answer old new same printed = inl (done_well (OfSimulation text) (record { invocation = acts.0; words_are = acts.1; follows = acts.2 }) sink_tells answer old new same printed)
    ended (OfConf text) acts sink_tells answer old new same printed = inl (done_well (OfConf text) (record { invocation = acts.0; words_are = acts.1; follows = acts.2 }) sink_tells answer old new same printed)
    ended (OfTopic text) acts sink_tells answer old new same printed = inl (done_well (OfTopic text) (record { invocation = acts.0; words_are = acts.1; follows = acts.2 }) sink_tells answer old new same printed)
    ended (Refuses r) is sink_tells answer old new same printed = inr (same ∙ refused_well right.invocation r right.right (is.cause told right.invocation right.words_are))

    pub complete_of : (sink_tells sink_rose : Type 0) (answer : Status) (old new : List ℕ) → Answers g b words sink_tells sink_rose answer old new → (sink_rose → ⊥) → IsDone g b words sink_tells answer old new
    complete_of sink_tells sink_rose answer old new a quiet = elim a.printed [
      | inl whole ↦ ended a.outcome a.acts sink_tells answer old new whole.0 whole.1
      | inr cut ↦ absurd (quiet cut.1)
    ]
