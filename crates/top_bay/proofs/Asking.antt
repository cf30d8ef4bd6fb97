-- How the answer of a part is that of the whole.
use Rattle.std.specs.Prelude.{◌≡◌, ◌<◌, ℕ, zero, suc, List, [], ◌∷◌, length, Option, Some, None, Result, Ok, Err, Bool, true, false, slice_get, if◌then◌else◌}
use Rattle.std.proofs.Common.{arith, refl, sym, ap, subst, ◌∙◌}
use Rattle.raid_conf.specs.declared.conf.Conf.{Conf}
use Rattle.graph_text.specs.Format.{Named}
use Rattle.raid_script.specs.Asked.{Scripted}
use Rattle.raid_text.specs.Text.{Text}
use Rattle.top_status.specs.declared.status.Status.{Status}
use Rattle.top_status.specs.declared.status.Status.TheVariants as status
use Rattle.top_status.specs.Refusals.{Refused, ◌then◌, only, text_in}
use Rattle.top_words.specs.Asked.{Command}
use Rattle.top_fetch.specs.Told.{Told}
use Rattle.top_fetch.specs.Answers.{RefusedAs}
use Rattle.top_fetch.proofs.Refusing.{refused_then}
use Rattle.top_bay.specs.Asked.{Asked, asked_in, book_in, comp_in, conf_in, devices_in, graphs_name, names_for, script_in, script_name, texts_in}
use Rattle.top_bay.specs.Steps.{device_in, is_at_home}

-- ## Texts

-- what is read by a name is the same where the bay's texts are
pub book_in-same : (texts mid : Text → Option Text) (name : Option Text) → ((n : Text) → mid n ≡ texts n) → book_in mid name ≡ book_in texts name
unfolding book_in text_in
book_in-same texts mid None same = refl
book_in-same texts mid (Some name) same = let here : mid name ≡ texts name = same name in rw here refl

pub script_in-same : (texts mid : Text → Option Text) (name : Option Text) (book : List Named) (columns : ℕ) → ((n : Text) → mid n ≡ texts n) → script_in mid name book columns ≡ script_in texts name book columns
unfolding script_in text_in
script_in-same texts mid None book columns same = refl
script_in-same texts mid (Some name) book columns same = let here : mid name ≡ texts name = same name in rw here refl

module _ (texts : Text → Option Text) (command : Command) (conf : Conf) where
  pub refused_component : (s : Status) → conf_in texts command.conf ≡ Ok conf
      → RefusedAs s (comp_in conf command.action) → RefusedAs s (texts_in texts command)
  unfolding texts_in
  refused_component s one h = rw one (refused_then s (comp_in conf command.action) _ h)

  pub refused_book : (comp : Option ℕ) (s : Status) → conf_in texts command.conf ≡ Ok conf → comp_in conf command.action ≡ Ok comp
      → RefusedAs s (book_in texts (graphs_name command.action)) → RefusedAs s (texts_in texts command)
  unfolding texts_in
  refused_book comp s one two h = rw (one, two) (refused_then s (book_in texts (graphs_name command.action)) _ h)

  pub refused_script : (comp : Option ℕ) (book : List Named) (s : Status) → conf_in texts command.conf ≡ Ok conf → comp_in conf command.action ≡ Ok comp
      → book_in texts (graphs_name command.action) ≡ Ok book → RefusedAs s (script_in texts (script_name command.action) book conf.columns) → RefusedAs s (texts_in texts command)
  unfolding texts_in
  refused_script comp book s one two three h = rw (one, two, three) (refused_then s (script_in texts (script_name command.action) book conf.columns) _ h)

  pub all_read : (comp : Option ℕ) (book : List Named) (script : Scripted) → conf_in texts command.conf ≡ Ok conf → comp_in conf command.action ≡ Ok comp
      → book_in texts (graphs_name command.action) ≡ Ok book → script_in texts (script_name command.action) book conf.columns ≡ Ok script
      → texts_in texts command ≡ Ok (record { command = command; conf = conf; comp = comp; book = book; clients = script.clients; joins = script.joins })
  unfolding texts_in
  all_read comp book script one two three four = rw (one, two, three, four) refl

-- ## Devices

-- a device is at home where it was, or its name is empty
pub device_in-same : {D : Type 0} (home mid : Text → Option D) (name : Text) → ((name ≡ [] → ⊥) → mid name ≡ home name) → device_in mid name ≡ device_in home name
device_in-same home mid [] same = refl
device_in-same home mid (b ∷ name) same = let here : mid (b ∷ name) ≡ home (b ∷ name) = same (λ e. cc e) in rw here refl

some-eq : {X : Type 0} (x y : X) → Some x ≡ Some y → x ≡ y
some-eq x y e = cc e

-- one that isn't at home is refused where those before it are
pub refused_device : {D : Type 0} (home : Text → Option D) (names : List Text) (k : ℕ) (name : Text) (s : Status) → slice_get names k ≡ Some name
    → ((j : ℕ) (n : Text) → j < k → slice_get names j ≡ Some n → is_at_home home n ≡ true) → RefusedAs s (device_in home name) → RefusedAs s (devices_in home names)
unfolding devices_in
refused_device home [] k name s at before h = cc at
refused_device home (x ∷ names) zero name s at before h =
    refused_then s (device_in home x) _ (subst (λ (n : Text). RefusedAs s (device_in home n)) (sym (some-eq x name at)) h)
refused_device home (x ∷ names) (suc k) name s at before h =
    let first : is_at_home home x ≡ true = before 0 x (omega arith) refl in
    rw first (refused_device home names k name s at (λ j n lt is. before (suc j) n (omega (arith, lt)) is) h)

-- all of them are at home
pub devices_all : {D : Type 0} (home : Text → Option D) (names : List Text) → ((j : ℕ) (n : Text) → j < length names → slice_get names j ≡ Some n → is_at_home home n ≡ true) → devices_in home names ≡ Ok tt
unfolding devices_in
devices_all home [] all = refl
devices_all home (x ∷ names) all =
    let first : is_at_home home x ≡ true = all 0 x (omega arith) refl in
    rw first (devices_all home names (λ j n lt is. all (suc j) n (omega (arith, lt)) is))

-- the same of all devices, where the bay's homes are what they were
pub devices_in-same : {D : Type 0} (home mid : Text → Option D) (names : List Text) → ((n : Text) → mid n ≡ home n) → devices_in mid names ≡ devices_in home names
unfolding devices_in
devices_in-same home mid [] same = refl
devices_in-same home mid (x ∷ names) same =
    ap (λ r. r then λ there. devices_in mid names) (device_in-same home mid x (λ named. same x))
    ∙ ap (λ rest. device_in home x then λ there. rest) (devices_in-same home mid names same)

-- a device that is found at home is there
abbrev refused_unless : Bool → Status → Result (Unit {0}) Refused
refused_unless v s = if v then Ok tt else Err (only s)

passed : (v : Bool) (s : Status) → refused_unless v s ≡ Ok tt → v ≡ true
passed true s e = refl
passed false s e = cc e

pub found : {D : Type 0} (home : Text → Option D) (name : Text) → device_in home name ≡ Ok tt → is_at_home home name ≡ true
found home [] e = refl
found home (b ∷ name) e = passed (is_at_home home (b ∷ name)) (status.NoFile (b ∷ name)) e

-- ## All of it

module _ {D : Type 0} (b : Told D) (command : Command) (asked : Asked) where
  pub refused_devices : (s : Status) → texts_in b.texts command ≡ Ok asked → RefusedAs s (devices_in b.home (names_for asked)) → RefusedAs s (asked_in b command)
  unfolding asked_in
  refused_devices s one h = rw one (refused_then s (devices_in b.home (names_for asked)) _ h)

  pub all_asked : texts_in b.texts command ≡ Ok asked → devices_in b.home (names_for asked) ≡ Ok tt → asked_in b command ≡ Ok asked
  unfolding asked_in
  all_asked one two = rw (one, two) refl
