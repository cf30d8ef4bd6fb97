-- Words that name none of the program's own texts ask for none.
use Rattle.std.proofs.Common.{◌≡◌, ◌∙◌, ℕ, Bool, true, false, List, [], ◌∷◌, Option, Some, None, Result, Ok, Err, sym, ap}
use Rattle.std.specs.Option.{option_map_or}
use Rattle.std.specs.Prelude.{option_and_then, if◌then◌else◌}
use Rattle.clap.specs.Words.{Kinds}
use Rattle.raid_text.specs.Text.{Text}
use Rattle.sim_queue.specs.declared.request.Queue.{Queue}
use Rattle.top_words.specs.Asked.{Action, action_in, has_one_action, is_apart}
use Rattle.top_words.specs.Given.{Given, given_of}
use Rattle.top_words.specs.Judged.{Invocation, Tell, OnArray, OnConf, Scan, Simulate, invocation_in, invocation_of, judged, judged_if_taken, name_in, queue_of, topic_in}
use Rattle.top_words.specs.Steps.{command_in, rows_asked, simulation_in, study_in, taken_as, refusals, rows_in}
use Rattle.top_words.specs.declared.invocation.Topic.{Topic}
use Rattle.top_words.specs.declared.study.Study.TheVariants as study

simulation_not : (name word : Text) (t : Topic) → simulation_in name word ≡ Some (Tell t) → ⊥
unfolding simulation_in
simulation_not name word t h = go (queue_of word) h
  where
    go : (o : Option Queue) → option_and_then (λ order. Some (Simulate name order)) o ≡ Some (Tell t) → ⊥
    go None e = cc e
    go (Some order) e = cc e

study_not : (name : Text) (rows : Option Text) (t : Topic) → study_in name rows ≡ Some (Tell t) → ⊥
unfolding study_in
study_not name rows t h = go (rows_asked rows) h
  where
    go : (o : Option (Option ℕ)) → option_and_then (λ n. Some (OnConf name (study.Layout n))) o ≡ Some (Tell t) → ⊥
    go None e = cc e
    go (Some n) e = cc e

command_not : (g : Given) (t : Topic) → command_in g ≡ Some (Tell t) → ⊥
unfolding command_in
command_not g t h = go (action_in g) h
  where
    go : (o : Option Action) → option_and_then (λ action. Some (OnArray (record { conf = name_in g; action = action; adopt = g.adopt }))) o ≡ Some (Tell t) → ⊥
    go None e = cc e
    go (Some action) e = cc e

given_not : (g : Given) (t : Topic) → invocation_in g ≡ Some (Tell t) → ⊥
unfolding invocation_in simulation_in study_in rows_asked command_in
given_not g t h = go g.scan g.layout g.sim h
  where
    go : (scan layout : Bool) (sim : Option Text) → (if scan then Some (Scan (name_in g)) else (if layout then study_in (name_in g) g.rows else option_map_or (λ word. simulation_in (name_in g) word) sim (command_in g))) ≡ Some (Tell t) → ⊥
    go true layout sim e = cc e
    go false true sim e = study_not (name_in g) g.rows t e
    go false false None e = command_not g t e
    go false false (Some word) e = simulation_not (name_in g) word t e

abbrev or_third : Option Invocation → Result Invocation ℕ
or_third o = option_map_or (λ i. Ok i) o (Err 3)

abbrev tested : Bool → Bool → Option Invocation → Result Invocation ℕ
tested one apart o = if one then (if apart then Err 2 else or_third o) else Err 1

third_not : (o : Option Invocation) (t : Topic) → (o ≡ Some (Tell t) → ⊥) → or_third o ≡ Ok (Tell t) → ⊥
third_not None t not e = cc e
third_not (Some i) t not e = not (let same : i ≡ Tell t = cc e in ap (λ (x : Invocation). Some x) same)

tested_not : (one apart : Bool) (o : Option Invocation) (t : Topic) → (o ≡ Some (Tell t) → ⊥) → tested one apart o ≡ Ok (Tell t) → ⊥
tested_not false apart o t not e = cc e
tested_not true true o t not e = cc e
tested_not true false o t not e = third_not o t not e

judged_not : (g : Given) (t : Topic) → judged g ≡ Ok (Tell t) → ⊥
unfolding judged
judged_not g t h = tested_not (has_one_action g) (is_apart g) (invocation_in g) t (given_not g t) h

taken_not : (words : List Text) (t : Topic) → taken_as words ≡ Ok (Tell t) → ⊥
unfolding taken_as
taken_not words t h = go (refusals words) h
  where
    go : (kinds : Kinds) → judged_if_taken kinds (given_of (rows_in words)) ≡ Ok (Tell t) → ⊥
    go [] e = judged_not (given_of (rows_in words)) t e
    go (kind ∷ kinds) e = cc e

-- no text is asked for
pub not_told : (words : List Text) (t : Topic) → topic_in words ≡ None → invocation_of words ≡ Ok (Tell t) → ⊥
unfolding invocation_of taken_as refusals rows_in
not_told words t none h = taken_not words t (sym (ap (λ (o : Option Topic). option_map_or (λ x. Ok (Tell x)) o (taken_as words)) none) ∙ h)
