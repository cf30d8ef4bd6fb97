-- That each text of the form of a configuration is read as it.
use Rattle.std.proofs.Common.{◌≡◌, ◌∙◌, ℕ, zero, suc, ◌+◌, ◌-◌, ◌*◌, ◌<◌, ◌≤◌, Bool, true, false, cond, List, [], ◌∷◌, ◌++◌, length, map, take, drop, Option, Some, None, Result, Ok, Err, refl, sym, ap, subst, append_assoc, append-nil, arith, All}
use Rattle.std.specs.Prelude.{codes}
use Rattle.std.proofs.lemmas.Bool.{and_parts}
use Rattle.std.proofs.Math.Nat.{suc-mul}
use Rattle.std.proofs.lemmas.List.{length-drop, length-take-le, take-append-drop}
use Rattle.std.proofs.lemmas.List.Elements.{All-head, All-tail}
use Rattle.raid_text.specs.Text.{Text, Numbered, is_sound, sound_words, words_of}
use Rattle.raid_conf.specs.declared.conf.Conf.{Conf}
use Rattle.raid_conf.specs.declared.given.Given.{Given}
use Rattle.raid_conf.specs.declared.given.Given.TheVariants.{Listed, Cyclic, Complete}
use Rattle.raid_conf.specs.declared.role.Role.{Role}
use Rattle.raid_conf.specs.declared.role.Role.TheVariants.{Disk, Spare}
use Rattle.raid_conf.specs.Designs.{blocks_of, is_design, serves}
use Rattle.raid_conf.specs.Levels.{has_design}
use Rattle.raid_conf.specs.Sections.{count_code}
use Rattle.raid_conf.specs.Steps.{conf_in, disks_in, listed_in, spare_lines, tail_in, is_wide}
use Rattle.text_steps.specs.Steps.{line_if_any, Next, next_line, next_word, Rest, whole, words_in}
use Rattle.raid_conf.specs.Form.{Place, Literal, Number, array_places, design_places, Differ, FillsAll, given_places, HasForm, IsConf, IsDesignOf, IsGiven, IsTail, layout_places, name_places, queue_places, spare_places, start_places, tuple_places}
use Rattle.raid_conf.specs.Format.{after_start, array_in, debug_behind, design_in, given_in, kind_in, layout_in, names_in, next_name, next_tuple, queue_behind, queue_in, spares_in, tuples_in, with_name}
use Rattle.raid_conf.specs.Laws.{ConfIsRead}
use Rattle.raid_conf.proofs.DifferentNames.{differ_front, has_name-differ}
use Rattle.raid_conf.proofs.FormLines.{IsNameFor}
use Rattle.raid_conf.proofs.Judged.{design_is}
use Rattle.raid_conf.proofs.OneStep.{word_back}
use Rattle.raid_conf.proofs.ReadLines.{array_back, complete_back, cyclic_back, debug_begins_back, layout_back, listed_back, name_back, no_spare_back, queue_back, queue_begins_back, spare_back, start_back, tuple_back}
use Rattle.raid_conf.proofs.Same.{conf_same}

-- ---- lines

-- a line of these places that comes next, and lines of such forms behind it
record LineBack (places : List Place) (more : List (List Place)) (rest : Rest) (behind : List Numbered) : Type 0 where
  line : Next
  read : line_if_any rest ≡ Ok (Some line)
  fills : FillsAll places line.words
  form : HasForm more line.rest.lines behind

words_back : (line : Numbered) (words : List Text) → sound_words line ≡ Some words → words_in line ≡ Ok words
unfolding words_in sound_words
words_back line words h = go (is_sound line.body) h
  where
    go : (b : Bool) → ◌≡◌ {A = Option (List Text)} (cond b (Some (words_of line.body)) None) (Some words) → cond {A = Result (List Text) ℕ} b (Ok (words_of line.body)) (Err 1) ≡ Ok words
    go true e = let same : words_of line.body ≡ words = cc in rw same refl
    go false e = absurd (cc)

among_back : (count : ℕ) (lines : List Numbered) (places : List Place) (more : List (List Place)) (behind : List Numbered) → HasForm (places ∷ more) lines behind → LineBack places more (record { lines = lines; count = count }) behind
unfolding line_if_any
among_back count [] places more behind form = absurd form
among_back count (l ∷ lines) places more behind ((words, sound, fills), form) = record {
  line = record { at = l.at; words = words; rest = record { lines = lines; count = count } };
  read = rw (words_back l words sound) refl;
  fills = fills;
  form = form;
}

line_back : (rest : Rest) (places : List Place) (more : List (List Place)) (behind : List Numbered) → HasForm (places ∷ more) rest.lines behind → LineBack places more rest behind
line_back rest places more behind form = among_back rest.count rest.lines places more behind form

next_back : (code : ℕ) (rest : Rest) (line : Next) → line_if_any rest ≡ Ok (Some line) → next_line code rest ≡ Ok line
unfolding next_line
next_back code rest line h = rw h refl

section_back : (code : ℕ) (name : Text) (rest : Rest) (more : List (List Place)) (behind : List Numbered) → HasForm (start_places name ∷ more) rest.lines behind → (left : Rest) × (after_start code name rest ≡ Ok left) × HasForm more left.lines behind
unfolding after_start
section_back code name rest more behind form =
    let line = line_back rest (start_places name) more behind form in
    (line.line.rest, rw (next_back 3 rest line.line line.read, start_back code name line.line.words line.fills) refl, line.form)

-- ---- the array

array_in_back : (short : Bool) (columns spares : ℕ) (rest : Rest) (more : List (List Place)) (behind : List Numbered) → 1 ≤ columns → columns ≤ 32 → spares ≤ 8
    → HasForm (start_places (codes "array") ∷ array_places short columns spares ∷ more) rest.lines behind → (left : Rest) × (array_in rest ≡ Ok (columns, spares, left)) × HasForm more left.lines behind
unfolding array_in
array_in_back short columns spares rest more behind least most few form =
    let start = section_back 1 (codes "array") rest (array_places short columns spares ∷ more) behind form in
    let line = line_back start.0 (array_places short columns spares) more behind start.2 in
    (line.line.rest, rw (start.1, next_back 1 start.0 line.line line.read, array_back short columns spares line.line.words least most few line.fills) refl, line.form)

-- ---- names

names_back : (role : Role) (before names own : List Text) (rest : Rest) (more : List (List Place)) (behind : List Numbered) → All (IsNameFor role) own → Differ (before ++ (names ++ own)) → HasForm (map name_places own ++ more) rest.lines behind
    → (left : Rest) × (names_in role (length own) before names rest ≡ Ok (names ++ own, left)) × HasForm more left.lines behind
unfolding names_in with_name next_name
names_back role before names [] rest more behind are differ form = (rest, rw (append-nil names) refl, form)
names_back role before names (name ∷ own) rest more behind are differ form =
    let line = line_back rest (name_places name) (map name_places own ++ more) behind form in
    let moved : before ++ (names ++ name ∷ own) ≡ (before ++ names) ++ name ∷ own = sym (append_assoc before names (name ∷ own)) in
    let apart : Differ ((before ++ names) ++ name ∷ own) = subst (λ (ns : List Text). Differ ns) moved differ in
    let named = name_back role (before ++ names) name line.line.words (All-head (IsNameFor role) name own are) (λ some. has_name-differ (before ++ names) name own some apart) line.fills in
    let pushed : (names ++ name ∷ []) ++ own ≡ names ++ name ∷ own = append_assoc names (name ∷ []) own in
    let again : Differ (before ++ ((names ++ name ∷ []) ++ own)) = subst (λ (ns : List Text). Differ (before ++ ns)) (sym pushed) differ in
    let others = names_back role before (names ++ name ∷ []) own line.line.rest more behind (All-tail (IsNameFor role) name own are) again line.form in
    (others.0, rw (next_back (count_code role) rest line.line line.read, named, others.1) (ap (λ (ns : List Text). Ok (ns, others.0)) pushed), others.2)

disks_back : (columns : ℕ) (names : List Text) (rest : Rest) (more : List (List Place)) (behind : List Numbered) → length names ≡ columns → All (IsNameFor Disk) names → Differ names
    → HasForm (start_places (codes "disks") ∷ (map name_places names ++ more)) rest.lines behind → (left : Rest) × (disks_in columns rest ≡ Ok (names, left)) × HasForm more left.lines behind
unfolding disks_in
disks_back columns names rest more behind count are differ form =
    let start = section_back 1 (codes "disks") rest (map name_places names ++ more) behind form in
    let read = names_back Disk [] [] names start.0 more behind are differ start.2 in
    (read.0, rw (start.1, sym count, read.1) refl, read.2)

spares_back : (present : Bool) (spares : ℕ) (disks names : List Text) (rest : Rest) (more : List (List Place)) (behind : List Numbered) → (present ≡ false → spares ≡ 0) → length names ≡ spares → All (IsNameFor Spare) names → Differ (disks ++ names)
    → HasForm (spare_places present names ++ (start_places (codes "layout") ∷ more)) rest.lines behind → (left : Rest) × (spares_in spares disks rest ≡ Ok (names, left)) × HasForm more left.lines behind
unfolding spares_in spare_lines
spares_back true spares disks names rest more behind none count are differ form =
    let line = line_back rest (start_places (codes "spare")) (map name_places names ++ (start_places (codes "layout") ∷ more)) behind form in
    let read = names_back Spare disks [] names line.line.rest (start_places (codes "layout") ∷ more) behind are differ line.form in
    let layout = section_back 6 (codes "layout") read.0 more behind read.2 in
    (layout.0, rw (next_back 3 rest line.line line.read, spare_back spares line.line.words line.fills, sym count, read.1, layout.1) refl, layout.2)
spares_back false spares disks [] rest more behind none count are differ form =
    let line = line_back rest (start_places (codes "layout")) more behind form in
    let zero_spares : spares ≡ 0 = none refl in
    (line.line.rest, rw (next_back 3 rest line.line line.read, zero_spares, no_spare_back line.line.words line.fills) refl, line.form)
spares_back false spares disks (name ∷ names) rest more behind none count are differ form = absurd (too_many spares (length names) (none refl) count)
  where
    too_many : (s n : ℕ) → s ≡ 0 → suc n ≡ s → ⊥
    too_many s n e f = omega (arith, e, f)

-- ---- the layout

layout_in_back : (columns unit level : ℕ) (rest : Rest) (more : List (List Place)) (behind : List Numbered) (conf : Conf) → IsConf conf → conf.columns ≡ columns → conf.unit ≡ unit → conf.level ≡ level
    → HasForm (layout_places unit level ∷ more) rest.lines behind → (left : Rest) × (layout_in columns rest ≡ Ok (unit, level, left)) × HasForm more left.lines behind
unfolding layout_in
layout_in_back columns unit level rest more behind conf is c u l form =
    let line = line_back rest (layout_places unit level) more behind form in
    let read = layout_back columns unit level line.line.words (rw u at is.unit_least) (rw u at is.unit_most) (rw l at is.level) (rw (l, c) at is.allowed) line.fills in
    (line.line.rest, rw (next_back 1 rest line.line line.read, read) refl, line.form)

-- ---- designs

tuples_back : (b k : ℕ) (front tuples : List ℕ) (rest : Rest) (more : List (List Place)) (behind : List Numbered) → 0 < k → length tuples ≡ b * k → HasForm (tuple_places b k tuples ++ more) rest.lines behind
    → (left : Rest) × (tuples_in b k front rest ≡ Ok (front ++ tuples, left)) × HasForm more left.lines behind
unfolding tuples_in next_tuple tuple_places
tuples_back zero k front [] rest more behind some count form = (rest, rw (append-nil front) refl, form)
tuples_back zero k front (t ∷ ts) rest more behind some count form = absurd (none (length ts) k count)
  where
    none : (n k : ℕ) → suc n ≡ 0 * k → ⊥
    none n k e = omega (arith, e)
tuples_back (suc b) k front tuples rest more behind some count form =
    let total : length tuples ≡ b * k + k = count ∙ suc-mul b k in
    let long : k ≤ length tuples = omega (arith, total) in
    let first = take k tuples in
    let others = drop k tuples in
    let line = line_back rest (map Number first) (tuple_places b k others ++ more) behind form in
    let one = tuple_back k front first line.line.words some (length-take-le k tuples long) line.fills in
    let left_count : length others ≡ b * k = length-drop k tuples ∙ left_over (length tuples) (b * k) k total in
    let read = tuples_back b k (front ++ first) others line.line.rest more behind some left_count line.form in
    let all : (front ++ first) ++ others ≡ front ++ tuples = append_assoc front first others ∙ ap (λ (ts : List ℕ). front ++ ts) (take-append-drop k tuples) in
    (read.0, rw (next_back 11 rest line.line line.read, one, read.1) (ap (λ (ts : List ℕ). Ok (ts, read.0)) all), read.2)
  where
    left_over : (n m k : ℕ) → n ≡ m + k → n - k ≡ m
    left_over n m k e = omega (arith, e)

-- a design's tuples have objects, and are as many as they say
serves_design : (level : ℕ) (given : Given) → serves level given ≡ true → is_design (blocks_of given) ≡ true
unfolding serves is_wide
serves_design level given h = (and_parts _ _ h).1

given_back : (level columns : ℕ) (given : Given) (rest : Rest) (more : List (List Place)) (behind : List Numbered) → IsGiven level columns given → HasForm (given_places given ++ more) rest.lines behind
    → (left : Rest) × (given_in level columns rest ≡ Ok (given, left)) × HasForm more left.lines behind
unfolding given_in kind_in listed_in next_word
given_back level columns (Listed b v k r lambda tuples) rest more behind is form =
    let line = line_back rest (Literal (codes "design") ∷ Number b ∷ Number v ∷ Number k ∷ Number r ∷ Number lambda ∷ []) (tuple_places b k tuples ++ more) behind form in
    let kind = word_back (Literal (codes "design")) (Number b ∷ Number v ∷ Number k ∷ Number r ∷ Number lambda ∷ []) line.line.words line.fills in
    let named : kind.0 ≡ codes "design" = kind.3 in
    let objects : v ≡ columns = is.objects in
    let design = design_is (blocks_of (Listed b v k r lambda tuples)) (serves_design level (Listed b v k r lambda tuples) is.serves) in
    let wide = design.numbers.width_least in
    let counts = listed_back v b k r lambda kind.1 kind.4 in
    let read = tuples_back b k [] tuples line.line.rest more behind (omega (arith, wide)) design.numbers.length line.form in
    let fits : serves level (Listed b v k r lambda tuples) ≡ true = is.serves in
    (read.0, rw (next_back 11 rest line.line line.read, kind.2, named, sym objects, counts, read.1, fits) refl, read.2)
given_back level columns (Cyclic v base) rest more behind is form =
    let line = line_back rest (Literal (codes "cyclic") ∷ Number v ∷ Literal (codes ":") ∷ map Number base) more behind form in
    let kind = word_back (Literal (codes "cyclic")) (Number v ∷ Literal (codes ":") ∷ map Number base) line.line.words line.fills in
    let named : kind.0 ≡ codes "cyclic" = kind.3 in
    let objects : v ≡ columns = is.objects in
    let read = cyclic_back v base kind.1 is.words.0 kind.4 in
    let fits : serves level (Cyclic v base) ≡ true = is.serves in
    (line.line.rest, rw (next_back 11 rest line.line line.read, kind.2, named, sym objects, read, fits) refl, line.form)
given_back level columns (Complete v k) rest more behind is form =
    let line = line_back rest (Literal (codes "complete") ∷ Number v ∷ Number k ∷ []) more behind form in
    let kind = word_back (Literal (codes "complete")) (Number v ∷ Number k ∷ []) line.line.words line.fills in
    let named : kind.0 ≡ codes "complete" = kind.3 in
    let objects : v ≡ columns = is.objects in
    let read = complete_back v k kind.1 kind.4 in
    let fits : serves level (Complete v k) ≡ true = is.serves in
    (line.line.rest, rw (next_back 11 rest line.line line.read, kind.2, named, sym objects, read, fits) refl, line.form)

design_back : (level columns : ℕ) (design : Option Given) (rest : Rest) (more : List (List Place)) (behind : List Numbered) → IsDesignOf level columns design → HasForm (design_places design ++ more) rest.lines behind
    → (left : Rest) × (design_in level columns rest ≡ Ok (design, left)) × HasForm more left.lines behind
unfolding design_in
design_back level columns None rest more behind is form = (rest, rw is refl, form)
design_back level columns (Some given) rest more behind is form =
    let read = given_back level columns given rest more behind is.1 form in
    let has : has_design level ≡ true = is.0 in
    (read.0, rw (has, read.1) refl, read.2)

-- ---- the queue, and the end

-- the last line, if there is one, begins the debug lines
tail_line : (count : ℕ) (lines : List Numbered) → IsTail lines → (line : Option Next) × (line_if_any (record { lines = lines; count = count }) ≡ Ok line) × (debug_behind line ≡ Ok tt) × (queue_behind line ≡ Ok None)
unfolding line_if_any
tail_line count [] tail = (None, refl, refl, refl)
tail_line count (l ∷ lines) (words, sound, fills) =
    (Some (record { at = l.at; words = words; rest = record { lines = lines; count = count } }), rw (words_back l words sound) refl, rw (start_back 1 (codes "debug") words fills) refl, rw (debug_begins_back words fills) refl)

tail_back : (queue : Option ℕ) (rest : Rest) (behind : List Numbered) → HasForm (queue_places queue) rest.lines behind → IsTail behind → tail_in rest ≡ Ok queue
unfolding tail_in queue_in
tail_back None rest behind form tail =
    let last = tail_line rest.count rest.lines (rw (sym form) at tail) in
    rw (last.1, last.3) refl
tail_back (Some number) rest behind form tail =
    let first = line_back rest (start_places (codes "queue")) ((Literal (codes "fifo") ∷ Number number ∷ []) ∷ []) behind form in
    let second = line_back first.line.rest (Literal (codes "fifo") ∷ Number number ∷ []) [] behind first.form in
    let last = tail_line second.line.rest.count second.line.rest.lines (rw (sym second.form) at tail) in
    rw (first.read, queue_begins_back first.line.words first.fills, next_back 1 first.line.rest second.line second.read, queue_back number second.line.words second.fills, last.1, last.2) refl

-- ---- all sections

pub conf_read : ConfIsRead
unfolding conf_in disks_in tail_in
conf_read text conf is of =
    let rest = whole text in
    let tail = design_places conf.design ++ queue_places conf.queue in
    let middle = spare_places of.present conf.spare_names ++ (start_places (codes "layout") ∷ layout_places conf.unit conf.level ∷ tail) in
    let a = array_in_back of.short conf.columns conf.spares rest (start_places (codes "disks") ∷ (map name_places conf.disks ++ middle)) of.behind is.columns_least is.columns_most is.spares_most of.form in
    let d = disks_back conf.columns conf.disks a.0 middle of.behind is.disk_count is.disks (differ_front conf.disks conf.spare_names is.differ) a.2 in
    let s = spares_back of.present conf.spares conf.disks conf.spare_names d.0 (layout_places conf.unit conf.level ∷ tail) of.behind of.spares is.spare_count is.spare_names is.differ d.2 in
    let l = layout_in_back conf.columns conf.unit conf.level s.0 tail of.behind conf is refl refl refl s.2 in
    let g = design_back conf.level conf.columns conf.design l.0 (queue_places conf.queue) of.behind is.design l.2 in
    let q = tail_back conf.queue g.0 of.behind g.2 of.tail in
    let read : conf_in rest ≡ Ok conf = rw (a.1, d.1, s.1, l.1, g.1, q) refl in
    conf_same text ∙ read
