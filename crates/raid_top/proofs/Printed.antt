-- What a printed configuration and a printed script ask for.
use Rattle.std.specs.Prelude.{◌≡◌, ◌⊎◌, ℕ, Bool, true, false, List, [], Option, Some, None, Result, Ok, Err, All, length, nat_lt}
use Rattle.std.proofs.Common.{inl, inr, refl, sym, ◌∙◌}
use Rattle.std.proofs.lemmas.Bool.{le-ltb}
use Rattle.raid_conf.specs.declared.conf.Conf.{Conf}
use Rattle.raid_conf.specs.Form.{IsConf, conf_text}
use Rattle.raid_conf.specs.Texts.{conf_of}
use Rattle.raid_conf.proofs.CanonicalText.{text_read}
use Rattle.raid_conf.proofs.ShortTexts.{text_short}
use Rattle.raid_script.specs.Asked.{Request as Item, Scripted, scripted}
use Rattle.raid_script.specs.Form.{AreRequests}
use Rattle.raid_script.specs.Texts.{script_of}
use Rattle.raid_text.specs.Text.{Text}
use Rattle.run_effect.specs.Printed.{IsPlainRequest, script_text}
use Rattle.run_effect.proofs.Printed.{printed_read}
use Rattle.top_bay.specs.Asked.{Asked, asked_in, book_in, conf_in, devices_in, names_for, script_in, texts_in}
use Rattle.top_fetch.specs.Told.{Told}
use Rattle.top_status.specs.Refusals.{Refused, ◌then◌, only, text_in}
use Rattle.top_status.specs.declared.status.Status.TheVariants as status
use Rattle.top_words.specs.Asked.{Command, Io}

-- what the words ask for
abbrev pub command_for : (c s : Text) → ℕ → Bool → Command
command_for c s workers map = record { conf = c; action = Io (record { script = s; graphs = None; trace = false }) workers map; adopt = false }

-- and what that asks for with its texts
abbrev pub asked_for : Conf → List Item → Command → Asked
asked_for conf items command = record { command = command; conf = conf; comp = None; book = []; clients = (scripted items).clients; joins = (scripted items).joins }

module _ {D : Type 0} (b : Told D) (conf : Conf) (items : List Item) (c s : Text) (workers : ℕ) (map : Bool) (is : IsConf conf) (plain : All (IsPlainRequest conf.columns) items) (few : AreRequests items)
    (conf_at : b.texts c ≡ Some (conf_text conf)) (script_at : b.texts s ≡ Some (script_text items)) where
  abbrev command : Command
  command = command_for c s workers map

  conf_read : conf_in b.texts c ≡ Ok conf
  unfolding conf_in text_in
  conf_read =
      let short : nat_lt 16777216 (length (conf_text conf)) ≡ false = le-ltb 16777216 (length (conf_text conf)) (text_short conf is) in
      let read : conf_of (conf_text conf) ≡ Ok conf = text_read conf is in
      rw (conf_at, short, read) refl

  -- the script is read, or it is too long
  script_or : (long : Bool) → nat_lt 16777216 (length (script_text items)) ≡ long
      → (script_in b.texts (Some s) [] conf.columns ≡ Ok (scripted items)) ⊎ (script_in b.texts (Some s) [] conf.columns ≡ Err (only (status.LongText s)))
  unfolding script_in text_in
  script_or true long = inr (rw (script_at, long) refl)
  script_or false long =
      let read : script_of [] conf.columns (script_text items) ≡ Ok (scripted items) = printed_read conf.columns items plain few in
      inl (rw (script_at, long, read) refl)

  all_texts : script_in b.texts (Some s) [] conf.columns ≡ Ok (scripted items) → texts_in b.texts command ≡ Ok (asked_for conf items command)
  unfolding texts_in book_in
  all_texts e = rw (conf_read, e) refl

  long_texts : (r : Refused) → script_in b.texts (Some s) [] conf.columns ≡ Err r → texts_in b.texts command ≡ Err r
  unfolding texts_in book_in
  long_texts r e = rw (conf_read, e) refl

  -- texts are right where all is
  through : (r : Result Asked Refused) (k : Asked) → (r then λ asked. devices_in b.home (names_for asked) then λ there. Ok asked) ≡ Ok k → r ≡ Ok k
  through (Err x) k h = absurd (let z : ⊥ = cc h in z)
  through (Ok a) k h = go (devices_in b.home (names_for a)) h
    where
      go : (v : Result (Unit {0}) Refused) → (v then λ there. Ok a) ≡ Ok k → ◌≡◌ {A = Result Asked Refused} (Ok a) (Ok k)
      go (Ok x) h = h
      go (Err x) h = absurd (let z : ⊥ = cc h in z)

  of_asked : (k : Asked) → asked_in b command ≡ Ok k → texts_in b.texts command ≡ Ok k
  unfolding asked_in
  of_asked k h = through (texts_in b.texts command) k h

  pub asked_is : (k : Asked) → asked_in b command ≡ Ok k → asked_for conf items command ≡ k
  asked_is k h = elim (script_or (nat_lt 16777216 (length (script_text items))) refl) [
    | inl ok ↦
        let z : ◌≡◌ {A = Result Asked Refused} (Ok (asked_for conf items command)) (Ok k) = sym (all_texts ok) ∙ of_asked k h in
        cc z
    | inr err ↦
        let z : ◌≡◌ {A = Result Asked Refused} (Err (only (status.LongText s))) (Ok k) = sym (long_texts (only (status.LongText s)) err) ∙ of_asked k h in
        absurd (let u : ⊥ = cc z in u)
  ]
