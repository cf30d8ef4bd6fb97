-- How a call of the program ends: its outcome with all that is so then, its output and its status.
use Rattle.std.specs.Prelude.{◌≡◌, ◌⊎◌, ℕ, List, ◌++◌, take, Ok}
use Rattle.blk_disk.specs.declared.disk.Disk.{Ghosts}
use Rattle.raid_text.specs.Text.{Text}
use Rattle.sim_queue.specs.declared.request.Queue.{Queue}
use Rattle.sim_queue.specs.declared.request.Request.{Request}
use Rattle.sim_queue.specs.declared.request.Served.{Served}
use Rattle.raid_assemble.specs.declared.sets.Set.{Set}
use Rattle.raid_assemble.specs.declared.sets.Standing.{Standing}
use Rattle.top_fetch.specs.Told.{Told}
use Rattle.top_help.specs.Topics.{topic_text}
use Rattle.top_open.specs.declared.fronts.Front.{Front}
use Rattle.top_scan.specs.Lines.{scan_text}
use Rattle.top_scan.specs.Looks.{AreLookedAt}
use Rattle.top_scan.specs.Scanned.{IsComplete, names_in}
use Rattle.top_sim.specs.Asked.{Workload, workload_by}
use Rattle.top_sim.specs.Lines.{sim_text}
use Rattle.top_sim.specs.Simulated.{IsSimulated, workload_in}
use Rattle.top_study.specs.Studied.{study_in}
use Rattle.top_status.specs.declared.status.Status.{Status}
use Rattle.top_status.specs.declared.status.Status.TheVariants as status
use Rattle.top_words.specs.Asked.{Check, Command}
use Rattle.top_words.specs.Judged.{Invocation, Tell, OnArray, OnConf, Scan, Simulate, invocation_of}
use Rattle.top_words.specs.declared.study.Study.{Study}
use Rattle.raid_top.specs.Acted.{Acted, IsRightCommand}
use Rattle.raid_top.specs.Calls.{CallOutcome, OfArray, OfConf, OfScan, OfSimulation, OfTopic, Refuses, call_status, call_text}
use Rattle.raid_top.specs.Runs.{IfRan, IsRunAnswered}
use Rattle.raid_top.specs.Refused.{CallIsRefused}

module _ {D : Type 0} (g : Ghosts D) (b : Told D) where
  -- Sector 0 of each component of the list was read, and this is told of them.
  pub record Scans (list : Text) (text : List ℕ) : Type 0 where
    pub names : List Text
    pub fronts : List Front
    pub sets : List Set
    pub places : List Standing
    pub listed : b.tells → names_in b.texts b.home list ≡ Ok names
    pub looked : AreLookedAt g b.tells b.home b.after names fronts
    pub complete : IsComplete names fronts sets places
    pub told : text ≡ scan_text names fronts sets places

  -- The requests of the text were served in this order, and this is told of them. No device was taken.
  pub record Simulates (name : Text) (order : Queue) (text : List ℕ) : Type 0 where
    pub sectors : ℕ
    pub requests : List Request
    pub services : List Served
    pub replies : List (List (List ℕ))
    pub asked : b.tells → workload_in b.texts name ≡ Ok (workload_by sectors requests)
    pub simulated : IsSimulated order sectors requests services replies
    pub told : text ≡ sim_text requests services replies
    pub same : b.tells → (n : Text) → b.after n ≡ b.home n

  -- This is what is asked of the configuration. No device was taken.
  abbrev pub Studies : Text → Study → List ℕ → Type 0
  Studies name asked text = (b.tells → study_in b.texts name asked ≡ Ok text)
      × (b.tells → (n : Text) → b.after n ≡ b.home n)

  -- it is what was asked for, and no device was taken for a text
  abbrev pub Follows : Invocation → CallOutcome → Type 0
  Follows (Tell topic) (OfTopic text) =
      (text ≡ topic_text topic) × (b.tells → (n : Text) → b.after n ≡ b.home n)
  Follows (OnArray command) (OfArray o) = Acted g b command o
  Follows (Scan list) (OfScan text) = Scans list text
  Follows (Simulate name order) (OfSimulation text) = Simulates name order text
  Follows (OnConf name asked) (OfConf text) = Studies name asked text
  Follows invocation outcome = ⊥

  -- each item of its clients has the reply that it ought to have, where it has any
  abbrev pub IsAnswered : (invocation : Invocation) (o : CallOutcome) → Follows invocation o → Type 0
  IsAnswered (OnArray command) (OfArray o) h = IfRan g (IsRunAnswered g) h.duty h.fronts h.old h.back o h.does
  IsAnswered invocation o h = Unit {0}

  module _ (words : List Text) where
    -- what is so of an outcome: what the words ask for came of them, or the call was refused
    abbrev pub Acts : CallOutcome → Type 0
    Acts (Refuses r) = CallIsRefused g b words r
    Acts outcome = (invocation : Invocation) × (invocation_of words ≡ Ok invocation) × Follows invocation outcome

-- A call of the program: it came to this outcome. The answer is its status, and its output was printed whole; or the sink failed, whose count of faults rose, and a front of that output was printed. What is so of an outcome speaks of the bay, the last part of the sink.
pub record Answers {D : Type 0} (g : Ghosts D) (b : Told D) (words : List Text) (sink_tells sink_rose : Type 0) (answer : Status) (old new : List ℕ) : Type 0 where
  pub outcome : CallOutcome
  pub acts : Acts g b words outcome
  pub printed : ((answer ≡ call_status outcome) × (sink_tells → new ≡ old ++ call_text outcome))
      ⊎ ((answer ≡ status.SinkFault) × sink_rose × (sink_tells → (n : ℕ) × (new ≡ old ++ take n (call_text outcome))))

-- ## Completeness

-- words, texts and names are right; and of an array, what may have been read of it too
abbrev pub IsRightFor : {D : Type 0} → Ghosts D → Told D → Invocation → Type 0
IsRightFor g b (Tell topic) = Unit {0}
IsRightFor g b (OnArray command) = IsRightCommand g b command
IsRightFor g b (Scan list) = (names : List Text) × (names_in b.texts b.home list ≡ Ok names)
IsRightFor g b (Simulate name order) = (asked : Workload) × (workload_in b.texts name ≡ Ok asked)
IsRightFor g b (OnConf name asked) = (text : List ℕ) × (study_in b.texts name asked ≡ Ok text)

pub record IsRight {D : Type 0} (g : Ghosts D) (b : Told D) (words : List Text) : Type 0 where
  pub invocation : Invocation
  pub words_are : invocation_of words ≡ Ok invocation
  pub right : IsRightFor g b invocation

-- The call ended well; or memory was wanted; or stripes were tested, and some weren't in sync.
abbrev pub EndsWell : List Text → Status → Type 0
EndsWell words status.Ok = Unit {0}
EndsWell words status.Memory = Unit {0}
EndsWell words (status.NotInSync n) =
    (c : Command) × (invocation_of words ≡ Ok (OnArray c)) × (c.action ≡ Check)
EndsWell words _ = ⊥

-- what the words ask for came of them
pub record Followed {D : Type 0} (g : Ghosts D) (b : Told D) (words : List Text) (outcome : CallOutcome) : Type 0 where
  pub invocation : Invocation
  pub words_are : invocation_of words ≡ Ok invocation
  pub follows : Follows g b invocation outcome

module _ {D : Type 0} (g : Ghosts D) (b : Told D) (words : List Text) (sink_tells : Type 0) (answer : Status) (old new : List ℕ) where
  -- What the words ask for was done, and ended well: its status is the answer, each item of its
  -- clients has the reply that it ought to have, and all that is told of it was printed.
  pub record IsDoneWell : Type 0 where
    pub outcome : CallOutcome
    pub followed : Followed g b words outcome
    pub status : answer ≡ call_status outcome
    pub well : EndsWell words answer
    pub answered : IsAnswered g b followed.invocation outcome followed.follows
    pub printed : sink_tells → new ≡ old ++ call_text outcome

  -- that, or memory was wanted
  abbrev pub IsDone : Type 0
  IsDone = IsDoneWell ⊎ (answer ≡ status.Memory)
