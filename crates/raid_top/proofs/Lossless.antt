-- What is refused before an array is opened isn't refused as lost.
use Rattle.std.specs.Prelude.{◌≡◌, ℕ, Bool, true, false, List, [], ◌∷◌, length, nat_lt, Option, Some, None, Result, Ok, Err, if◌then◌else◌}
use Rattle.std.specs.List.{position}
use Rattle.std.specs.Str.{bytes_eq}
use Rattle.graph_text.specs.Format.{Named}
use Rattle.graph_text.specs.Texts.{graphs_of}
use Rattle.raid_conf.specs.Texts.{conf_of}
use Rattle.raid_conf.specs.declared.conf.Conf.{Conf}
use Rattle.raid_script.specs.Texts.{script_of}
use Rattle.raid_text.specs.Text.{Text}
use Rattle.top_bay.specs.Asked.{Asked, asked_in, book_in, comp_in, comp_named, component_in, conf_in, devices_in, graphs_name, names_for, names_of, script_in, script_name, texts_in}
use Rattle.top_bay.specs.Steps.{device_in, is_at_home}
use Rattle.top_fetch.specs.Fetched.{or_status}
use Rattle.top_fetch.specs.Told.{Told}
use Rattle.top_open.specs.declared.fault.OpenFault.{OpenFault}
use Rattle.top_open.specs.declared.fault.OpenFault.TheVariants as fault
use Rattle.top_open.specs.declared.fronts.Front.{Front}
use Rattle.top_open.specs.Opening.{opened_in}
use Rattle.top_status.specs.declared.status.Status.{Status}
use Rattle.top_status.specs.declared.status.Status.TheVariants as status
use Rattle.top_status.specs.Refusals.{Refused, ◌then◌, only, or_refusal, text_in}
use Rattle.top_status.specs.Steps.{short_text}
use Rattle.top_words.specs.Asked.{Command, Component, Nameless, Column, Device, profile_of}
use Rattle.top_words.specs.declared.profile.Kind.{Kind}
use Rattle.top_words.specs.declared.profile.Kind.TheVariants as kind
use Rattle.top_duty.specs.Duty.{OnArray, Shows, duty_by, duty_for, duty_in}
use Rattle.top_duty.specs.Opening.{fronted_by, kind_of, needs_of, opened_by, plan_of, sizes_in, status_of}
use Rattle.top_duty.specs.Steps.{present_of, admitted_with}
use Rattle.top_duty.specs.Start.{start_in}
use Rattle.top_duty.proofs.Opens.{as_left, as_opened}

-- another status than that of a loss
abbrev pub IsNoLoss : Status → Type 0
IsNoLoss s = (first second stripe : ℕ) → s ≡ status.Lost first second stripe → ⊥

-- it isn't refused as lost, if it is refused
abbrev pub IsLossless : {A : Type 0} → Result A Refused → Type 0
IsLossless (Ok x) = Unit {0}
IsLossless (Err r) = IsNoLoss r.status

then_lossless : {A B : Type 0} (r : Result A Refused) (f : A → Result B Refused) → IsLossless r → ((x : A) → IsLossless (f x)) → IsLossless (r then f)
then_lossless (Ok x) f h each = each x
then_lossless (Err r) f h each = h

refusal_lossless : {A : Type 0} (o : Option A) (s : Status) → IsNoLoss s → IsLossless (or_refusal o s)
refusal_lossless (Some x) s h = tt
refusal_lossless None s h = h

status_lossless : {A F : Type 0} (of : F → Status) (r : Result A F) → ((f : F) → IsNoLoss (of f)) → IsLossless (or_status of r)
status_lossless of (Ok x) h = tt
status_lossless of (Err f) h = h f

-- ## Texts and names

text_lossless : (texts : Text → Option Text) (name : Text) → IsLossless (text_in texts name)
unfolding text_in
text_lossless texts name =
    then_lossless (or_refusal (texts name) (status.NoFile name)) (short_text name) (refusal_lossless (texts name) (status.NoFile name) (λ f s t e. cc e)) (λ text. short (nat_lt 16777216 (length text)) text)
  where
    short : (b : Bool) (text : Text) → IsLossless {A = Text} (if b then Err (only (status.LongText name)) else Ok text)
    short true text = λ f s t e. cc e
    short false text = tt

conf_lossless : (texts : Text → Option Text) (name : Text) → IsLossless (conf_in texts name)
unfolding conf_in
conf_lossless texts name =
    then_lossless (text_in texts name) (λ text. or_status (λ at. status.Conf at.line at.code) (conf_of text)) (text_lossless texts name)
    (λ text. status_lossless (λ at. status.Conf at.line at.code) (conf_of text) (λ at f s t e. cc e))

component_lossless : (names : List Text) (name : Text) → IsLossless (component_in names name)
unfolding component_in
component_lossless names [] = λ f s t e. cc e
component_lossless names (b ∷ name) =
    then_lossless (or_refusal (position (λ n. bytes_eq n (b ∷ name)) names) (status.Usage 3)) (λ at. Ok (Some at))
    (refusal_lossless (position (λ n. bytes_eq n (b ∷ name)) names) (status.Usage 3) (λ f s t e. cc e)) (λ at. tt)

named_lossless : (conf : Conf) (component : Component) → IsLossless (comp_named conf component)
named_lossless conf Nameless = tt
named_lossless conf (Column name) = component_lossless conf.disks name
named_lossless conf (Device name) = component_lossless (names_of conf) name

book_lossless : (texts : Text → Option Text) (name : Option Text) → IsLossless (book_in texts name)
unfolding book_in
book_lossless texts None = tt
book_lossless texts (Some name) =
    then_lossless (text_in texts name) (λ text. or_status (λ at. status.GraphText at.line at.code) (graphs_of text)) (text_lossless texts name)
    (λ text. status_lossless (λ at. status.GraphText at.line at.code) (graphs_of text) (λ at f s t e. cc e))

script_lossless : (texts : Text → Option Text) (name : Option Text) (book : List Named) (columns : ℕ) → IsLossless (script_in texts name book columns)
unfolding script_in
script_lossless texts None book columns = tt
script_lossless texts (Some name) book columns =
    then_lossless (text_in texts name) (λ text. or_status (λ at. status.Script at.line at.code) (script_of book columns text)) (text_lossless texts name)
    (λ text. status_lossless (λ at. status.Script at.line at.code) (script_of book columns text) (λ at f s t e. cc e))

device_lossless : {D : Type 0} (home : Text → Option D) (name : Text) → IsLossless (device_in home name)
device_lossless home name = go (is_at_home home name)
  where
    go : (b : Bool) → IsLossless {A = Unit {0}} (if b then Ok tt else Err (only (status.NoFile name)))
    go true = tt
    go false = λ f s t e. cc e

devices_lossless : {D : Type 0} (home : Text → Option D) (names : List Text) → IsLossless (devices_in home names)
unfolding devices_in
devices_lossless home [] = tt
devices_lossless home (name ∷ names) = then_lossless (device_in home name) (λ there. devices_in home names) (device_lossless home name) (λ there. devices_lossless home names)

texts_lossless : (texts : Text → Option Text) (command : Command) → IsLossless (texts_in texts command)
unfolding texts_in
texts_lossless texts command =
    then_lossless (conf_in texts command.conf) _ (conf_lossless texts command.conf) (λ conf.
    then_lossless (comp_in conf command.action) _ (named_lossless conf (profile_of command.action).component) (λ comp.
    then_lossless (book_in texts (graphs_name command.action)) _ (book_lossless texts (graphs_name command.action)) (λ book.
    then_lossless (script_in texts (script_name command.action) book conf.columns) _ (script_lossless texts (script_name command.action) book conf.columns) (λ script. tt))))

asked_lossless : {D : Type 0} (b : Told D) (command : Command) → IsLossless (asked_in b command)
unfolding asked_in
asked_lossless b command =
    then_lossless (texts_in b.texts command) _ (texts_lossless b.texts command) (λ asked.
    then_lossless (devices_in b.home (names_for asked)) _ (devices_lossless b.home (names_for asked)) (λ there. tt))

-- ## The opening

fault_lossless : (f : OpenFault) → IsNoLoss (status_of f)
fault_lossless (fault.Label c code found wanted) = λ f s t e. cc e
fault_lossless (fault.Small c has needs) = λ f s t e. cc e
fault_lossless fault.Memory = λ f s t e. cc e

fronted_lossless : (k : Asked) (sizes : List ℕ) (fronts : List Front) → IsLossless (fronted_by k sizes fronts)
unfolding fronted_by
fronted_lossless k sizes fronts =
    then_lossless (or_status status_of (opened_in (needs_of k) (plan_of k.conf) (present_of k.conf) sizes fronts)) (λ o. Ok (as_opened k sizes o))
    (status_lossless status_of (opened_in (needs_of k) (plan_of k.conf) (present_of k.conf) sizes fronts) fault_lossless) (λ o. tt)

opened_lossless : (k : Asked) (sizes : List ℕ) (fronts : List Front) → IsLossless (opened_by k sizes fronts)
unfolding opened_by
opened_lossless k sizes fronts = then_lossless (fronted_by k sizes fronts) (λ o. Ok (as_left k o)) (fronted_lossless k sizes fronts) (λ o. tt)

kind_lossless : (x : Kind) (k : Asked) (sizes : List ℕ) (fronts : List Front) → IsLossless (duty_for x k sizes fronts)
kind_lossless kind.Array k sizes fronts = then_lossless (opened_by k sizes fronts) (λ o. Ok (OnArray (admitted_with k o (start_in k o sizes fronts) []))) (opened_lossless k sizes fronts) (λ o. tt)
kind_lossless kind.Shown k sizes fronts = then_lossless (opened_by k sizes fronts) (λ o. Ok (Shows k o)) (opened_lossless k sizes fronts) (λ o. tt)
kind_lossless kind.Label k sizes fronts = tt
kind_lossless kind.Conf k sizes fronts = tt

by_lossless : (k : Asked) (sizes : List ℕ) (fronts : List Front) → IsLossless (duty_by k sizes fronts)
unfolding duty_by
by_lossless k sizes fronts = kind_lossless (kind_of k.command.action) k sizes fronts

pub duty_lossless : {D : Type 0} (size : D → ℕ) (b : Told D) (command : Command) (fronts : List Front) → IsLossless (duty_in size b command fronts)
unfolding duty_in
duty_lossless size b command fronts =
    then_lossless (asked_in b command) (λ k. duty_by k (sizes_in size b.home (names_for k)) fronts) (asked_lossless b command) (λ k. by_lossless k (sizes_in size b.home (names_for k)) fronts)
