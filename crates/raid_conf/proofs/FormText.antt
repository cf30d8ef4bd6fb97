-- That the configurations that are read are those of the form.
use Rattle.std.proofs.Common.{◌≡◌, ◌∙◌, ℕ, zero, suc, ◌≤◌, Bool, true, false, cond, List, [], ◌∷◌, ◌++◌, length, map, Option, Some, None, Result, Ok, Err, refl, sym, ap, subst, append_assoc, append-nil, All, ◌⊎◌}
use Rattle.std.specs.Prelude.{codes}
use Rattle.std.specs.List.{list_all}
use Rattle.std.proofs.lemmas.List.Elements.{All-cons, All-nil}
use Rattle.raid_text.specs.Text.{Text, Numbered, is_sound, is_word, sound_words, words_of}
use Rattle.raid_text.proofs.WordCuts.{sound_are_words}
use Rattle.text_steps.specs.declared.at.At.{At}
use Rattle.raid_conf.specs.declared.role.Role.{Role}
use Rattle.raid_conf.specs.Sections.{array_of, count_code, name_of, pass_start}
use Rattle.raid_conf.specs.Steps.{has_name}
use Rattle.text_steps.specs.Steps.{at_line, line_if_any, Next, next_line, Rest, words_in}
use Rattle.text_steps.specs.Pieces.{line_among, or_missing}
use Rattle.raid_conf.specs.Form.{Place, array_places, Differ, FillsAll, HasForm, name_places, start_places}
use Rattle.raid_conf.specs.Format.{after_start, array_in, names_in, next_name, with_name}
use Rattle.raid_conf.proofs.FormLines.{array_fills, IsNameFor, name_fills, start_fills}
use Rattle.raid_conf.proofs.DifferentNames.{differ_push}
use Rattle.raid_conf.proofs.OneStep.{bind_ok, ok_pair, ok_same}

-- ---- lines

-- a line that was read, in front of those behind it
pub record LineRead (rest : Rest) (line : Next) : Type 0 where
  pub numbered : Numbered
  pub split : rest.lines ≡ numbered ∷ line.rest.lines
  pub sound : sound_words numbered ≡ Some line.words
  pub words : list_all is_word line.words ≡ true

-- what comes of a line is what comes of its words
pub of_line : {A : Type 0} (n : ℕ) (read : Result A ℕ) (x : A) → at_line n read ≡ Ok x → read ≡ Ok x
of_line n (Ok y) x h = ap (λ z. Ok z) (ok_same y x h)
of_line n (Err code) x h = absurd (cc)

words_sound : (line : Numbered) (words : List Text) → words_in line ≡ Ok words → (sound_words line ≡ Some words) × (list_all is_word words ≡ true)
unfolding words_in sound_words
words_sound line words h = go (is_sound line.body) refl h
  where
    go : (b : Bool) → is_sound line.body ≡ b → cond {A = Result (List Text) ℕ} b (Ok (words_of line.body)) (Err 1) ≡ Ok words
        → (◌≡◌ {A = Option (List Text)} (cond (is_sound line.body) (Some (words_of line.body)) None) (Some words)) × (list_all is_word words ≡ true)
    go true e r =
        let same : words_of line.body ≡ words = ok_same (words_of line.body) words r in
        (rw e (ap (λ (ws : List Text). Some ws) same), rw same at (sound_are_words line.body e))
    go false e r = absurd (cc)

-- the line that there may be
abbrev pub MayBeRead : Rest → Option Next → Type 0
MayBeRead rest None = rest.lines ≡ []
MayBeRead rest (Some line) = LineRead rest line

among_read : (count : ℕ) (lines : List Numbered) (line : Option Next) → line_among count lines ≡ Ok line → MayBeRead (record { lines = lines; count = count }) line
among_read count [] None h = refl
among_read count [] (Some line) h = absurd (cc)
among_read count (l ∷ lines) line h =
    let words = bind_ok (at_line l.at (words_in l)) _ line h in
    let sound = words_sound l words.0 (of_line l.at (words_in l) words.0 words.1) in
    subst (λ (x : Option Next). MayBeRead (record { lines = l ∷ lines; count = count }) x) (ok_same (Some (record { at = l.at; words = words.0; rest = record { lines = lines; count = count } })) line words.2)
    (record { numbered = l; split = refl; sound = sound.0; words = sound.1 })

pub may_be_read : (rest : Rest) (line : Option Next) → line_if_any rest ≡ Ok line → MayBeRead rest line
unfolding line_if_any
may_be_read rest line h = among_read rest.count rest.lines line h

pub line_read : (code : ℕ) (rest : Rest) (line : Next) → next_line code rest ≡ Ok line → LineRead rest line
unfolding next_line
line_read code rest line h =
    let any = bind_ok (line_if_any rest) _ line h in
    go any.0 (may_be_read rest any.0 any.1) any.2
  where
    go : (o : Option Next) → MayBeRead rest o → or_missing rest.count code o ≡ Ok line → LineRead rest line
    go None read e = absurd (cc)
    go (Some l) read e = subst (λ (x : Next). LineRead rest x) (ok_same l line e) read

-- a line of these places in front of lines of such forms
pub line_form : (rest : Rest) (line : Next) (places : List Place) (more : List (List Place)) (behind : List Numbered) → LineRead rest line → FillsAll places line.words → HasForm more line.rest.lines behind → HasForm (places ∷ more) rest.lines behind
line_form rest line places more behind read fills form = rw read.split ((line.words, read.sound, fills), form)

-- lines of these forms in front of those that are left, whatever the form of these
abbrev pub Front : List (List Place) → Rest → Rest → Type 0
Front places rest left = (more : List (List Place)) (behind : List Numbered) → HasForm more left.lines behind → HasForm (places ++ more) rest.lines behind

pub section_front : (code : ℕ) (name : Text) (rest left : Rest) → after_start code name rest ≡ Ok left → Front (start_places name ∷ []) rest left
unfolding after_start
section_front code name rest left h more behind form =
    let line = bind_ok (next_line 3 rest) _ left h in
    let start = bind_ok (at_line line.0.at (pass_start code name line.0.words)) _ left line.2 in
    let same : line.0.rest ≡ left = ok_same line.0.rest left start.2 in
    line_form rest line.0 (start_places name) more behind (line_read 3 rest line.0 line.1) (start_fills code name line.0.words start.0 (of_line line.0.at (pass_start code name line.0.words) start.0 start.1)) (rw same form)

-- ---- the array

pub record ArrayFront (columns spares : ℕ) (rest left : Rest) : Type 0 where
  pub short : Bool
  pub least : 1 ≤ columns
  pub most : columns ≤ 32
  pub few : spares ≤ 8
  pub front : Front (start_places (codes "array") ∷ array_places short columns spares ∷ []) rest left

pub triple_same : (a b c d : ℕ) (e f : Rest) → ◌≡◌ {A = Result (ℕ × ℕ × Rest) At} (Ok (a, c, e)) (Ok (b, d, f)) → (a ≡ b) × (c ≡ d) × (e ≡ f)
triple_same a b c d e f h =
    let all : ◌≡◌ {A = ℕ × ℕ × Rest} (a, c, e) (b, d, f) = ok_same _ _ h in
    (ap (λ (p : ℕ × ℕ × Rest). p.0) all, ap (λ (p : ℕ × ℕ × Rest). p.1) all, ap (λ (p : ℕ × ℕ × Rest). p.2) all)

pub array_front : (rest : Rest) (columns spares : ℕ) (left : Rest) → array_in rest ≡ Ok (columns, spares, left) → ArrayFront columns spares rest left
unfolding array_in
array_front rest columns spares left h =
    let start = bind_ok (after_start 1 (codes "array") rest) _ (columns, spares, left) h in
    let line = bind_ok (next_line 1 start.0) _ (columns, spares, left) start.2 in
    let counts = bind_ok (at_line line.0.at (array_of line.0.words)) _ (columns, spares, left) line.2 in
    let is = triple_same counts.0.0 columns counts.0.1 spares line.0.rest left counts.2 in
    let of_words : array_of line.0.words ≡ Ok (columns, spares) = of_line line.0.at (array_of line.0.words) counts.0 counts.1 ∙ (ap (λ (n : ℕ). Ok (n, counts.0.1)) is.0 ∙ ap (λ (n : ℕ). Ok (columns, n)) is.1) in
    let read = array_fills line.0.words columns spares of_words in
    record {
      short = read.short;
      least = read.least;
      most = read.most;
      few = read.few;
      front = λ more behind form.
          section_front 1 (codes "array") rest start.0 start.1 (array_places read.short columns spares ∷ more) behind
          (line_form start.0 line.0 (array_places read.short columns spares) more behind (line_read 1 start.0 line.0 line.1) read.fills (rw is.2 form));
    }

-- ---- names

-- names that were read behind these, none of which stands before
pub record NamesFront (role : Role) (n : ℕ) (before names : List Text) (rest : Rest) (all : List Text) (left : Rest) : Type 0 where
  pub own : List Text
  pub split : all ≡ names ++ own
  pub count : length own ≡ n
  pub are : All (IsNameFor role) own
  pub differ : Differ (before ++ names) → Differ (before ++ all)
  pub front : Front (map name_places own) rest left

name_front : (role : Role) (names : List Text) (rest : Rest) (name : Text) (left : Rest) → next_name role names rest ≡ Ok (name, left)
    → IsNameFor role name × ((has_name names name ≡ false) ⊎ (name ≡ [])) × Front (name_places name ∷ []) rest left
unfolding next_name
name_front role names rest name left h =
    let line = bind_ok (next_line (count_code role) rest) _ (name, left) h in
    let named = bind_ok (at_line line.0.at (name_of role names line.0.words)) _ (name, left) line.2 in
    let is = ok_pair named.0 name line.0.rest left named.2 in
    let at = line_read (count_code role) rest line.0 line.1 in
    let of_words : name_of role names line.0.words ≡ Ok name = of_line line.0.at (name_of role names line.0.words) named.0 named.1 ∙ ap (λ (x : Text). Ok x) is.0 in
    let read = name_fills role names line.0.words name at.words of_words in
    (read.is, read.other, λ more behind form. line_form rest line.0 (name_places name) more behind at read.fills (rw is.1 form))

pub names_front : (role : Role) (n : ℕ) (before names : List Text) (rest : Rest) (all : List Text) (left : Rest) → names_in role n before names rest ≡ Ok (all, left) → NamesFront role n before names rest all left
unfolding names_in with_name
names_front role zero before names rest all left h =
    let is = ok_pair names all rest left h in
    record {
      own = [];
      split = sym is.0 ∙ sym (append-nil names);
      count = refl;
      are = All-nil (IsNameFor role);
      differ = λ d. rw is.0 at d;
      front = λ more behind form. rw is.1 form;
    }
names_front role (suc n) before names rest all left h =
    let one = bind_ok (with_name role before names rest) _ (all, left) h in
    let read = with_front one.0.0 one.0.1 one.1 in
    let others = names_front role n before one.0.0 one.0.1 all left one.2 in
    let pushed : one.0.0 ≡ names ++ read.0 ∷ [] = read.1 in
    let own = read.0 ∷ others.own in
    record {
      own = own;
      split = others.split ∙ (ap (λ (ns : List Text). ns ++ others.own) pushed ∙ append_assoc names (read.0 ∷ []) others.own);
      count = ap (λ (k : ℕ). suc k) others.count;
      are = All-cons (IsNameFor role) read.0 others.own read.2 others.are;
      differ = λ d. others.differ (subst (λ (ns : List Text). Differ (before ++ ns)) (sym pushed) (subst (λ (ns : List Text). Differ ns) (append_assoc before names (read.0 ∷ [])) (differ_push (before ++ names) read.0 read.3 d)));
      front = λ more behind form. read.4 (map name_places others.own ++ more) behind (others.front more behind form);
    }
  where
    with_front : (more : List Text) (behind : Rest) → with_name role before names rest ≡ Ok (more, behind)
        → (name : Text) × (more ≡ names ++ name ∷ []) × IsNameFor role name × ((has_name (before ++ names) name ≡ false) ⊎ (name ≡ [])) × Front (name_places name ∷ []) rest behind
    with_front more behind e =
        let name = bind_ok (next_name role (before ++ names) rest) _ (more, behind) e in
        let is = ok_pair (names ++ name.0.0 ∷ []) more name.0.1 behind name.2 in
        let read = name_front role (before ++ names) rest name.0.0 name.0.1 name.1 in
        (name.0.0, sym is.0, read.0, read.1, subst (λ (r : Rest). Front (name_places name.0.0 ∷ []) rest r) is.1 read.2)
