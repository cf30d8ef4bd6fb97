-- What a command asks for, or which refusal comes first, by what the bay has.
use Rattle.std.specs.Prelude.{ℕ, true, List, [], ◌∷◌, ◌++◌, Option, Some, None, Result, Ok, Err, if◌then◌else◌, is_some, option_and_then, option_map}
use Rattle.std.specs.List.{position}
use Rattle.std.specs.Str.{bytes_eq}
use Rattle.raid_text.specs.Text.{Text}
use Rattle.graph_text.specs.Format.{Named}
use Rattle.graph_text.specs.Texts.{graphs_of}
use Rattle.raid_conf.specs.Texts.{conf_of}
use Rattle.raid_conf.specs.declared.conf.Conf.{Conf}
use Rattle.raid_script.specs.Texts.{script_of}
use Rattle.raid_script.specs.declared.join.Join.{Join}
use Rattle.raid_script.specs.Asked.{Asked as Item, Scripted}
use Rattle.top_words.specs.Asked.{Action, Command, Component, Nameless, Column, Device, beside_of, profile_of}
use Rattle.top_words.specs.declared.profile.Kind.{Kind}
use Rattle.top_words.specs.declared.profile.Kind.TheVariants as kind
use Rattle.top_status.specs.declared.status.Status.TheVariants as status
use Rattle.top_status.specs.Refusals.{Refused, ◌then◌, only, or_refusal, text_in}
use Rattle.top_fetch.specs.Told.{Told}
use Rattle.top_fetch.specs.Fetched.{or_status}

-- What words and texts ask for: the command, the configuration, the place of the component that the command names, the graphs of the file, and the items of the script by client, with its join lines. Without a file there are no graphs, without a script no clients.
pub record Asked : Type 0 where
  pub command : Command
  pub conf : Conf
  pub comp : Option ℕ
  pub book : List Named
  pub clients : List (List Item)
  pub joins : List Join

-- the configuration of this name
unfoldable pub conf_in : (Text → Option Text) → Text → Result Conf Refused
conf_in texts name = text_in texts name then λ text. or_status (λ at. status.Conf at.line at.code) (conf_of text)

-- the names of the columns' disks, then those of the spares; one that is absent has the empty name
abbrev pub names_of : Conf → List Text
names_of conf = conf.disks ++ conf.spare_names

-- the place of a component's name, the first; one that stands nowhere is refused, and so is the empty one, which absent disks have
unfoldable pub component_in : List Text → Text → Result (Option ℕ) Refused
component_in names [] = Err (only (status.Usage 3))
component_in names (b ∷ name) = or_refusal (position (λ n. bytes_eq n (b ∷ name)) names) (status.Usage 3) then λ at. Ok (Some at)

-- the place of the component that is named: a column's for one of the columns' disks, and a
-- device's for any device, the spares behind the columns
abbrev pub comp_named : Conf → Component → Result (Option ℕ) Refused
comp_named conf Nameless = Ok None
comp_named conf (Column name) = component_in conf.disks name
comp_named conf (Device name) = component_in (names_of conf) name

abbrev pub comp_in : Conf → Action → Result (Option ℕ) Refused
comp_in conf action = comp_named conf (profile_of action).component

-- the graphs of the file of this name, none where no file is named
unfoldable pub book_in : (Text → Option Text) → Option Text → Result (List Named) Refused
book_in texts None = Ok []
book_in texts (Some name) = text_in texts name then λ text. or_status (λ at. status.GraphText at.line at.code) (graphs_of text)

-- the items by client of the script of this name, and its join lines, beside these graphs and for so many columns; no clients where no script is named
unfoldable pub script_in : (Text → Option Text) → Option Text → List Named → ℕ → Result Scripted Refused
script_in texts None book columns = Ok (record { clients = []; joins = [] })
script_in texts (Some name) book columns = text_in texts name then λ text. or_status (λ at. status.Script at.line at.code) (script_of book columns text)

-- the names of the file of graphs and of the script that go with an action
abbrev pub graphs_name : Action → Option Text
graphs_name action = option_and_then (λ beside. beside.graphs) (beside_of action)

abbrev pub script_name : Action → Option Text
script_name action = option_map (λ beside. beside.script) (beside_of action)

-- the names of the devices that an action goes by: none where the configuration is printed, that of
-- the component where a label is shown
abbrev pub names_with : Conf → Kind → Component → List Text
names_with conf kind.Array component = names_of conf
names_with conf kind.Shown component = names_of conf
names_with conf kind.Label Nameless = []
names_with conf kind.Label (Column name) = name ∷ []
names_with conf kind.Label (Device name) = name ∷ []
names_with conf kind.Conf component = []

abbrev pub names_by : Conf → Action → List Text
names_by conf action = names_with conf (profile_of action).kind (profile_of action).component

-- the names of the devices that what is asked for goes by
abbrev pub names_for : Asked → List Text
names_for a =
    names_with a.conf (profile_of a.command.action).kind (profile_of a.command.action).component

-- all devices of these names that aren't absent are at home, or the first that isn't is refused
unfoldable pub devices_in : {D : Type 0} → (Text → Option D) → List Text → Result (Unit {0}) Refused
devices_in home [] = Ok tt
devices_in home (name ∷ names) =
    (if (elim name [ [] ↦ true | b ∷ rest ↦ is_some (home (b ∷ rest)) ]) then Ok (tt {0})
    else Err (only (status.NoFile name)))
    then λ there. devices_in home names

-- what a command and texts ask for, or the first refusal: the configuration, the component, the
-- file of graphs, the script
unfoldable pub texts_in : (Text → Option Text) → Command → Result Asked Refused
texts_in texts command =
    conf_in texts command.conf then λ conf.
    comp_named conf (profile_of command.action).component then λ comp.
    book_in texts (option_and_then (λ beside. beside.graphs) (profile_of command.action).beside)
    then λ book.
    script_in texts (option_map (λ beside. beside.script) (profile_of command.action).beside) book
    conf.columns then λ script.
    Ok (record { command = command; conf = conf; comp = comp; book = book; clients = script.clients; joins = script.joins })

-- and of a bay: behind all texts come the devices, those of the columns before the spares
unfoldable pub asked_in : {D : Type 0} → Told D → Command → Result Asked Refused
asked_in b command =
    texts_in b.texts command then λ asked.
    devices_in b.home (names_for asked) then λ there. Ok asked
