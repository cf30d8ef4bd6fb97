-- What is seen of a command and of what it asks for, without where that lies in memory.
use Rattle.std.specs.Prelude.{◌≡◌, ◌<◌, ◌+◌, ℕ, List, [], length, map, All, Option, Some, None, slice_get}
use Rattle.graph_text.specs.FormatForm.{AreGraphs}
use Rattle.raid_conf.specs.Form.{IsConf}
use Rattle.raid_script.specs.Asked.{AreFew, AreJoinsOf, IsAsked, seen}
use Rattle.raid_conf.specs.declared.conf.Conf.{Conf}
use Rattle.raid_text.specs.Text.{Text}
use Rattle.top_words.specs.Asked.{Action, AreNumbersInRange, Component, Nameless, Column, Device, profile_of}
use Rattle.top_words.specs.Views.{command_seen}
use Rattle.top_bay.specs.Asked.{Asked, names_of}
use Rattle.top_bay.specs.declared.asked.Asked as declared_asked

abbrev pub asked_seen : declared_asked.Asked → Asked
asked_seen a = record { command = command_seen a.command; conf = a.conf; comp = a.comp; book = a.book; clients = map (λ items. map seen items.items) a.clients.items; joins = a.joins.items }

-- a name that isn't empty stands in this place, which is below the count
pub record IsPlace (names : List Text) (count : ℕ) (name : Text) (comp : Option ℕ) : Type 0 where
  pub at : ℕ
  pub is : comp ≡ Some at
  pub within : at < count
  pub here : slice_get names at ≡ Some name
  pub named : name ≡ [] → ⊥

-- the component is known where one is named: a column's disk, or any device
abbrev pub IsNamed : Conf → Component → Option ℕ → Type 0
IsNamed conf Nameless comp = comp ≡ None
IsNamed conf (Column name) comp = IsPlace conf.disks conf.columns name comp
IsNamed conf (Device name) comp = IsPlace (names_of conf) (length (names_of conf)) name comp

abbrev pub IsKnown : Conf → Action → Option ℕ → Type 0
IsKnown conf action comp = IsNamed conf (profile_of action).component comp

-- What is asked for lies within the limits: of a command, of a configuration and a component of it, of graphs, and of a script for so many columns beside so many graphs.
pub record IsWithinLimits (a : Asked) : Type 0 where
  pub action : AreNumbersInRange a.command.action
  pub conf : IsConf a.conf
  pub known : IsKnown a.conf a.command.action a.comp
  pub graphs : AreGraphs a.book
  pub asked : All (All (IsAsked a.conf.columns (length a.book + length a.joins))) a.clients
  pub joins : AreJoinsOf (length a.book) a.joins
  pub few : AreFew a.clients
