-- What the words ask for, or which case of Usage they are.
use Rattle.std.specs.Prelude.{ℕ, ◌||◌, Bool, List, [], ◌∷◌, Option, Some, None, Result, Ok, Err, if◌then◌else◌, codes, option_and_then, unwrap_or}
use Rattle.std.specs.List.{list_any}
use Rattle.std.specs.Option.{option_map_or}
use Rattle.std.specs.Str.{bytes_eq}
use Rattle.clap.specs.Words.{Kinds, fault_of, matches_of}
use Rattle.raid_text.specs.Text.{Text}
use Rattle.sim_queue.specs.declared.request.Queue.{Queue}
use Rattle.sim_queue.specs.declared.request.Queue.TheVariants as queue
use Rattle.top_words.specs.App.{raid_app}
use Rattle.top_words.specs.Asked.{AreNumbersInRange, Command, action_in, has_one_action, is_apart, number_within}
use Rattle.top_words.specs.Given.{Given, given_of}
use Rattle.top_words.specs.declared.invocation.Topic.{Topic}
use Rattle.top_words.specs.declared.study.Study.{Study}
use Rattle.top_words.specs.declared.study.Study.TheVariants as study
use Rattle.top_words.specs.declared.invocation.Topic.TheVariants as topic

-- What the words ask for: one of the program's own texts; an action on the array of a
-- configuration; which arrays the components of a list make up; how one simulated disk serves
-- the requests of a text; or what is told of a configuration alone.
pub data Invocation : Type 0 where
  Tell : (topic : Topic) → Invocation
  OnArray : (command : Command) → Invocation
  Scan : (list : Text) → Invocation
  Simulate : (requests : Text) (order : Queue) → Invocation
  OnConf : (conf : Text) (study : Study) → Invocation

-- the numbers of an action are in their ranges
abbrev pub IsInRange : Invocation → Type 0
IsInRange (Tell topic) = Unit {0}
IsInRange (OnArray command) = AreNumbersInRange command.action
IsInRange (Scan list) = Unit {0}
IsInRange (Simulate requests order) = Unit {0}
IsInRange (OnConf conf study) = Unit {0}

-- ## What is given

-- the order in which a simulated disk serves its requests
unfoldable pub queue_of : Text → Option Queue
queue_of word =
    if bytes_eq word (codes "fifo") then Some queue.Fifo
    else (if bytes_eq word (codes "sstf") then Some queue.Sstf
    else (if bytes_eq word (codes "scan") then Some queue.Scan else None))

-- the first word names what is read
abbrev pub name_in : Given → Text
name_in g = unwrap_or g.conf []

-- what is given, where its values are allowed; its first word names what is read
unfoldable pub invocation_in : Given → Option Invocation
invocation_in g =
    if g.scan then Some (Scan (unwrap_or g.conf []))
    else (if g.layout then option_and_then
    (λ rows. Some (OnConf (unwrap_or g.conf []) (study.Layout rows)))
    (option_map_or (λ word. option_and_then (λ n. Some (Some n)) (number_within 1 1048576 word)) g.rows (Some None))
    else option_map_or
    (λ word. option_and_then (λ order. Some (Simulate (unwrap_or g.conf []) order)) (queue_of word)) g.sim
    (option_and_then (λ action. Some (OnArray (record { conf = unwrap_or g.conf []; action = action; adopt = g.adopt })))
    (action_in g)))

-- what is given, judged: not one action, an option apart from its action, a value that isn't allowed
unfoldable pub judged : Given → Result Invocation ℕ
judged g =
    if has_one_action g
    then (if is_apart g then Err 2 else option_map_or (λ i. Ok i) (invocation_in g) (Err 3))
    else Err 1

-- words that the command takes are judged, others are case 0
abbrev pub judged_if_taken : Kinds → Given → Result Invocation ℕ
judged_if_taken [] g = judged g
judged_if_taken (kind ∷ kinds) g = Err 0

-- ## The program's own texts

-- which of the program's own texts is asked for, wherever the word stands: the help comes before
-- the version
unfoldable pub topic_in : List Text → Option Topic
topic_in words =
    let has : Text → Bool = λ word. list_any (λ w. bytes_eq w word) words in
    if has (codes "--help") || has (codes "-h") then Some topic.Help
    else (if has (codes "--version") || has (codes "-V")
    then Some topic.Version else None)

-- what the words ask for, or the first case of Usage; the command refuses words for these faults, and
-- else makes these rows of them
unfoldable pub invocation_of : List Text → Result Invocation ℕ
invocation_of words = option_map_or (λ t. Ok (Tell t)) (topic_in words)
    (judged_if_taken (fault_of raid_app words) (given_of (matches_of raid_app words)))
