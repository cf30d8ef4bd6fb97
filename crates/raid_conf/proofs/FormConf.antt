-- That the configurations that are read are those of the form: the sections behind the names.
use Rattle.std.proofs.Common.{◌≡◌, ◌∙◌, ℕ, zero, suc, ◌<◌, ◌≤◌, ◌^◌, Bool, true, false, cond, List, [], ◌∷◌, ◌++◌, length, map, take, drop, Option, Some, None, Result, Ok, Err, refl, sym, ap, subst, append_assoc, append-nil, arith, All}
use Rattle.std.specs.Prelude.{IfOk, codes}
use Rattle.std.specs.Option.{ForSome}
use Rattle.std.specs.Str.{bytes_eq}
use Rattle.std.proofs.Math.Seq.{drop-append_seam, take-append_seam}
use Rattle.std.proofs.lemmas.List.Elements.{All-append, All-nil}
use Rattle.raid_text.specs.Text.{Text, Numbered}
use Rattle.raid_conf.specs.declared.conf.Conf.{Conf}
use Rattle.text_steps.specs.declared.at.At.{At}
use Rattle.raid_conf.specs.declared.fault.ConfFault.{ConfFault}
use Rattle.raid_conf.specs.Answers.{GivesConf}
use Rattle.raid_conf.specs.declared.given.Given.{Given}
use Rattle.raid_conf.specs.declared.given.Given.TheVariants.{Listed}
use Rattle.raid_conf.specs.declared.role.Role.TheVariants.{Disk, Spare}
use Rattle.raid_conf.specs.Designs.{objects_of, serves}
use Rattle.raid_conf.specs.Levels.{allows, has_design, is_level}
use Rattle.raid_conf.specs.Sections.{complete_of, cyclic_of, layout_of, listed_of, pass_start, queue_begins, queue_of, spares_begin, tuple_of}
use Rattle.raid_conf.specs.Steps.{no_design, conf_in, disks_in, listed_in, spare_lines, tail_in}
use Rattle.text_steps.specs.Steps.{◌>>=◌, at_line, line_if_any, Next, next_line, next_word, only_if, Rest, whole}
use Rattle.raid_conf.specs.Form.{Place, Literal, Number, design_places, Differ, FillsAll, given_places, HasForm, IsConf, IsConfOf, IsDesignOf, IsDiskName, IsName, IsTail, IsWordGiven, layout_places, name_places, queue_places, spare_places, start_places, tuple_places}
use Rattle.raid_conf.specs.Format.{after_start, array_in, debug_behind, design_in, given_in, kind_in, layout_in, names_in, next_tuple, queue_behind, queue_in, spares_in, tuples_in}
use Rattle.raid_conf.specs.Texts.{conf_of}
use Rattle.raid_conf.specs.Laws.{ConfIsOfTheForm}
use Rattle.raid_conf.proofs.FormDesigns.{complete_fills, cyclic_fills, layout_fills, listed_fills, queue_fills, tuple_line_fills}
use Rattle.raid_conf.proofs.FormLines.{queue_begun, QueueBegins, spares_begun, SparesBegin, start_fills}
use Rattle.raid_conf.proofs.FormText.{array_front, Front, line_form, LineRead, line_read, may_be_read, MayBeRead, names_front, of_line, section_front, triple_same}
use Rattle.raid_conf.proofs.OneStep.{bind_ok, bytes_same, ok_pair, ok_same, only_ok, words_are}
use Rattle.raid_conf.proofs.Same.{conf_same}

-- ---- disks and spares

-- the disks of so many columns
record DisksFront (columns : ℕ) (rest : Rest) (names : List Text) (left : Rest) : Type 0 where
  count : length names ≡ columns
  are : All IsDiskName names
  differ : Differ names
  front : Front (start_places (codes "disks") ∷ map name_places names) rest left

none_differ : Differ []
none_differ i j m n lt h = absurd (omega (arith, h))

disks_front : (columns : ℕ) (rest : Rest) (names : List Text) (left : Rest) → disks_in columns rest ≡ Ok (names, left) → DisksFront columns rest names left
unfolding disks_in
disks_front columns rest names left h =
    let start = bind_ok (after_start 1 (codes "disks") rest) _ (names, left) h in
    let read = names_front Disk columns [] [] start.0 names left start.2 in
    let same : names ≡ read.own = read.split in
    subst (λ (ns : List Text). DisksFront columns rest ns left) (sym same) (record {
      count = read.count;
      are = read.are;
      differ = rw same at (read.differ none_differ);
      front = λ more behind form. section_front 1 (codes "disks") rest start.0 start.1 (map name_places read.own ++ more) behind (read.front more behind form);
    })

-- the spares, and the line that begins the layout
record SparesFront (spares : ℕ) (disks : List Text) (rest : Rest) (names : List Text) (left : Rest) : Type 0 where
  present : Bool
  none : present ≡ false → spares ≡ 0
  count : length names ≡ spares
  are : All IsName names
  differ : Differ disks → Differ (disks ++ names)
  front : (more : List (List Place)) (behind : List Numbered) → HasForm more left.lines behind → HasForm (spare_places present names ++ (start_places (codes "layout") ∷ more)) rest.lines behind

spare_lines_front : (spares : ℕ) (disks : List Text) (rest : Rest) (line : Next) (names : List Text) (left : Rest) → LineRead rest line → SparesBegin true spares line.words → spare_lines spares disks line.rest ≡ Ok (names, left)
    → SparesFront spares disks rest names left
unfolding spare_lines
spare_lines_front spares disks rest line names left at begun h =
    let own = bind_ok (names_in Spare spares disks [] line.rest) _ (names, left) h in
    let layout = bind_ok (after_start 6 (codes "layout") own.0.1) _ (names, left) own.2 in
    let is = ok_pair own.0.0 names layout.0 left layout.2 in
    let read = names_front Spare spares disks [] line.rest own.0.0 own.0.1 own.1 in
    let same : own.0.0 ≡ read.own = read.split in
    let named : read.own ≡ names = sym same ∙ is.0 in
    subst (λ (ns : List Text). SparesFront spares disks rest ns left) named (record {
      present = true;
      none = λ e. absurd (cc);
      count = read.count;
      are = read.are;
      differ = λ d. rw same at (read.differ (rw (append-nil disks) d));
      front = λ more behind form.
          line_form rest line (start_places (codes "spare")) (map name_places read.own ++ (start_places (codes "layout") ∷ more)) behind at begun
          (read.front (start_places (codes "layout") ∷ more) behind (section_front 6 (codes "layout") own.0.1 layout.0 layout.1 more behind (rw is.1 form)));
    })

spares_front : (spares : ℕ) (disks : List Text) (rest : Rest) (names : List Text) (left : Rest) → spares_in spares disks rest ≡ Ok (names, left) → SparesFront spares disks rest names left
unfolding spares_in spare_lines
spares_front spares disks rest names left h =
    let line = bind_ok (next_line 3 rest) _ (names, left) h in
    let present = bind_ok (at_line line.0.at (spares_begin spares line.0.words)) _ (names, left) line.2 in
    let at = line_read 3 rest line.0 line.1 in
    go line.0 at present.0 (spares_begun spares line.0.words present.0 (of_line line.0.at (spares_begin spares line.0.words) present.0 present.1)) present.2
  where
    go : (line : Next) → LineRead rest line → (b : Bool) → SparesBegin b spares line.words → cond b (spare_lines spares disks line.rest) (Ok ([], line.rest)) ≡ Ok (names, left) → SparesFront spares disks rest names left
    go line at true begun r = spare_lines_front spares disks rest line names left at begun r
    go line at false begun r =
        let is = ok_pair [] names line.rest left r in
        subst (λ (ns : List Text). SparesFront spares disks rest ns left) is.0 (record {
          present = false;
          none = λ e. begun.1;
          count = sym begun.1;
          are = All-nil IsName;
          differ = λ d. rw (append-nil disks) d;
          front = λ more behind form. line_form rest line (start_places (codes "layout")) more behind at begun.0 (rw is.1 form);
        })

-- ---- the layout

record LayoutFront (columns unit level : ℕ) (rest left : Rest) : Type 0 where
  least : 1 ≤ unit
  most : unit ≤ 128
  known : is_level level ≡ true
  allowed : allows level columns ≡ true
  front : Front (layout_places unit level ∷ []) rest left

layout_front : (columns : ℕ) (rest : Rest) (unit level : ℕ) (left : Rest) → layout_in columns rest ≡ Ok (unit, level, left) → LayoutFront columns unit level rest left
unfolding layout_in
layout_front columns rest unit level left h =
    let line = bind_ok (next_line 1 rest) _ (unit, level, left) h in
    let layout = bind_ok (at_line line.0.at (layout_of columns line.0.words)) _ (unit, level, left) line.2 in
    let is = triple_same layout.0.0 unit layout.0.1 level line.0.rest left layout.2 in
    let of_words : layout_of columns line.0.words ≡ Ok (unit, level) = of_line line.0.at (layout_of columns line.0.words) layout.0 layout.1 ∙ (ap (λ (n : ℕ). Ok (n, layout.0.1)) is.0 ∙ ap (λ (n : ℕ). Ok (unit, n)) is.1) in
    let read = layout_fills columns line.0.words unit level of_words in
    record {
      least = read.least;
      most = read.most;
      known = read.known;
      allowed = read.allowed;
      front = λ more behind form. line_form rest line.0 (layout_places unit level) more behind (line_read 1 rest line.0 line.1) read.fills (rw is.2 form);
    }

-- ---- designs

-- tuples that were read behind these
record TuplesFront (b k : ℕ) (front : List ℕ) (rest : Rest) (all : List ℕ) (left : Rest) : Type 0 where
  own : List ℕ
  split : all ≡ front ++ own
  small : All (λ n. n < 2 ^ 32) own
  lines : Front (tuple_places b k own) rest left

take_first : (xs ys : List ℕ) (k : ℕ) → length xs ≡ k → take k (xs ++ ys) ≡ xs
take_first xs ys k h = subst (λ (n : ℕ). take n (xs ++ ys) ≡ xs) h (take-append_seam xs ys)

drop_first : (xs ys : List ℕ) (k : ℕ) → length xs ≡ k → drop k (xs ++ ys) ≡ ys
drop_first xs ys k h = subst (λ (n : ℕ). drop n (xs ++ ys) ≡ ys) h (drop-append_seam xs ys)

tuples_front : (b k : ℕ) (front : List ℕ) (rest : Rest) (all : List ℕ) (left : Rest) → tuples_in b k front rest ≡ Ok (all, left) → TuplesFront b k front rest all left
unfolding tuples_in next_tuple tuple_places
tuples_front zero k front rest all left h =
    let is = ok_pair front all rest left h in
    record { own = []; split = sym is.0 ∙ sym (append-nil front); small = All-nil (λ n. n < 2 ^ 32); lines = λ more behind form. rw is.1 form }
tuples_front (suc b) k front rest all left h =
    let one = bind_ok (next_tuple k front rest) _ (all, left) h in
    let line = bind_ok (next_line 11 rest) _ one.0 one.1 in
    let tuple = bind_ok (at_line line.0.at (tuple_of k front line.0.words)) _ one.0 line.2 in
    let is : (tuple.0, line.0.rest) ≡ one.0 = ok_same _ one.0 tuple.2 in
    let more_is : tuple.0 ≡ one.0.0 = ap (λ (p : List ℕ × Rest). p.0) is in
    let rest_is : line.0.rest ≡ one.0.1 = ap (λ (p : List ℕ × Rest). p.1) is in
    let read = tuple_line_fills k front line.0.words tuple.0 (of_line line.0.at (tuple_of k front line.0.words) tuple.0 tuple.1) in
    let others = tuples_front b k one.0.0 one.0.1 all left one.2 in
    let numbers = read.read.numbers in
    record {
      own = numbers ++ others.own;
      split = others.split ∙ (ap (λ (f : List ℕ). f ++ others.own) (sym more_is ∙ read.read.split) ∙ append_assoc front numbers others.own);
      small = All-append (λ n. n < 2 ^ 32) numbers others.own read.read.small others.small;
      lines = λ more behind form.
          line_form rest line.0 (map Number (take k (numbers ++ others.own))) (tuple_places b k (drop k (numbers ++ others.own)) ++ more) behind (line_read 11 rest line.0 line.1)
          (rw (take_first numbers others.own k read.count) read.read.fills)
          (rw (drop_first numbers others.own k read.count, rest_is) (others.lines more behind form));
    }

-- a design that was read
record GivenFront (columns : ℕ) (rest : Rest) (given : Given) (left : Rest) : Type 0 where
  words : IsWordGiven given
  objects : objects_of given ≡ columns
  front : Front (given_places given) rest left

-- the words of a line behind its first
abbrev Behind : Text → Next → List Text → Type 0
Behind kind line words = line.words ≡ kind ∷ words

listed_front : (columns : ℕ) (rest : Rest) (line : Next) (words : List Text) (given : Given) (left : Rest) → LineRead rest line → Behind (codes "design") line words → listed_in columns line.at words line.rest ≡ Ok (given, left) → GivenFront columns rest given left
unfolding listed_in
listed_front columns rest line words given left at split h =
    let counts = bind_ok (at_line line.at (listed_of columns words)) _ (given, left) h in
    let c = counts.0 in
    let tuples = bind_ok (tuples_in c.b c.k [] line.rest) _ (given, left) counts.2 in
    let is = ok_pair (Listed c.b columns c.k c.r c.lambda tuples.0.0) given tuples.0.1 left tuples.2 in
    let read = listed_fills columns words c (of_line line.at (listed_of columns words) c counts.1) in
    let lines = tuples_front c.b c.k [] line.rest tuples.0.0 tuples.0.1 tuples.1 in
    let same : tuples.0.0 ≡ lines.own = lines.split in
    let small = read.small in
    subst (λ (g : Given). GivenFront columns rest g left) (ap (λ (ns : List ℕ). Listed c.b columns c.k c.r c.lambda ns) (sym same) ∙ is.0) (record {
      words = (small.0, small.1, small.2, small.3, lines.small);
      objects = refl;
      front = λ more behind form.
          line_form rest line (Literal (codes "design") ∷ Number c.b ∷ Number columns ∷ Number c.k ∷ Number c.r ∷ Number c.lambda ∷ []) (tuple_places c.b c.k lines.own ++ more) behind at (rw split (refl, read.fills))
          (lines.lines more behind (rw is.1 form));
    })

cyclic_front : (columns : ℕ) (rest : Rest) (line : Next) (words : List Text) (given : Given) (left : Rest) → LineRead rest line → Behind (codes "cyclic") line words
    → ◌>>=◌ {B = Given × Rest} (at_line line.at (cyclic_of columns words)) (λ g. Ok (g, line.rest)) ≡ Ok (given, left) → GivenFront columns rest given left
cyclic_front columns rest line words given left at split h =
    let g = bind_ok (at_line line.at (cyclic_of columns words)) _ (given, left) h in
    let is = ok_pair g.0 given line.rest left g.2 in
    let read = cyclic_fills columns words g.0 (of_line line.at (cyclic_of columns words) g.0 g.1) in
    subst (λ (x : Given). GivenFront columns rest x left) (sym read.is ∙ is.0) (record {
      words = (read.some, read.small);
      objects = refl;
      front = λ more behind form. line_form rest line (Literal (codes "cyclic") ∷ Number columns ∷ Literal (codes ":") ∷ map Number read.base) more behind at (rw split (refl, read.fills)) (rw is.1 form);
    })

complete_front : (columns : ℕ) (rest : Rest) (line : Next) (words : List Text) (given : Given) (left : Rest) → LineRead rest line → Behind (codes "complete") line words
    → ◌>>=◌ {B = Given × Rest} (at_line line.at (complete_of columns words)) (λ g. Ok (g, line.rest)) ≡ Ok (given, left) → GivenFront columns rest given left
complete_front columns rest line words given left at split h =
    let g = bind_ok (at_line line.at (complete_of columns words)) _ (given, left) h in
    let is = ok_pair g.0 given line.rest left g.2 in
    let read = complete_fills columns words g.0 (of_line line.at (complete_of columns words) g.0 g.1) in
    subst (λ (x : Given). GivenFront columns rest x left) (sym read.is ∙ is.0) (record {
      words = read.small;
      objects = refl;
      front = λ more behind form. line_form rest line (Literal (codes "complete") ∷ Number columns ∷ Number read.k ∷ []) more behind at (rw split (refl, read.fills)) (rw is.1 form);
    })

kind_front : (kind : Text) (columns : ℕ) (rest : Rest) (line : Next) (words : List Text) (given : Given) (left : Rest) → LineRead rest line → Behind kind line words → kind_in kind columns line.at words line.rest ≡ Ok (given, left) → GivenFront columns rest given left
unfolding kind_in listed_in
kind_front kind columns rest line words given left at split h = design (bytes_eq kind (codes "design")) refl h
  where
    last : Result (Given × Rest) At
    last = Err (record { line = line.at; code = no_design kind })

    on_complete : Result (Given × Rest) At
    on_complete = at_line line.at (complete_of columns words) >>= λ g. Ok (g, line.rest)

    on_cyclic : Result (Given × Rest) At
    on_cyclic = at_line line.at (cyclic_of columns words) >>= λ g. Ok (g, line.rest)

    complete : (b : Bool) → bytes_eq kind (codes "complete") ≡ b → cond b on_complete last ≡ Ok (given, left) → GivenFront columns rest given left
    complete true e r = complete_front columns rest line words given left at (split ∙ ap (λ (k : Text). k ∷ words) (bytes_same kind (codes "complete") e)) r
    complete false e r = absurd (cc)

    cyclic : (b : Bool) → bytes_eq kind (codes "cyclic") ≡ b → cond b on_cyclic (cond (bytes_eq kind (codes "complete")) on_complete last) ≡ Ok (given, left) → GivenFront columns rest given left
    cyclic true e r = cyclic_front columns rest line words given left at (split ∙ ap (λ (k : Text). k ∷ words) (bytes_same kind (codes "cyclic") e)) r
    cyclic false e r = complete (bytes_eq kind (codes "complete")) refl r

    design : (b : Bool) → bytes_eq kind (codes "design") ≡ b → cond b (listed_in columns line.at words line.rest) (cond (bytes_eq kind (codes "cyclic")) on_cyclic (cond (bytes_eq kind (codes "complete")) on_complete last)) ≡ Ok (given, left)
        → GivenFront columns rest given left
    design true e r = listed_front columns rest line words given left at (split ∙ ap (λ (k : Text). k ∷ words) (bytes_same kind (codes "design") e)) r
    design false e r = cyclic (bytes_eq kind (codes "cyclic")) refl r

-- the design of a level, where it has one
record DesignFront (level columns : ℕ) (rest : Rest) (design : Option Given) (left : Rest) : Type 0 where
  is : IsDesignOf level columns design
  front : Front (design_places design) rest left

given_front : (level columns : ℕ) (rest : Rest) (given : Given) (left : Rest) → given_in level columns rest ≡ Ok (given, left) → GivenFront columns rest given left × (serves level given ≡ true)
unfolding given_in
given_front level columns rest given left h =
    let line = bind_ok (next_line 11 rest) _ (given, left) h in
    let kind = bind_ok (at_line line.0.at (next_word line.0.words)) _ (given, left) line.2 in
    let g = bind_ok (kind_in kind.0.0 columns line.0.at kind.0.1 line.0.rest) _ (given, left) kind.2 in
    let fits = bind_ok (at_line line.0.at (only_if (serves level g.0.0) 12)) _ (given, left) g.2 in
    let is : g.0 ≡ (given, left) = ok_same g.0 (given, left) fits.2 in
    let given_is : g.0.0 ≡ given = ap (λ (p : Given × Rest). p.0) is in
    let split = words_are line.0.words kind.0.0 kind.0.1 (of_line line.0.at (next_word line.0.words) kind.0 kind.1) in
    (kind_front kind.0.0 columns rest line.0 kind.0.1 given left (line_read 11 rest line.0 line.1) split (g.1 ∙ ap (λ (p : Given × Rest). Ok p) is), rw given_is at (only_ok (serves level g.0.0) 12 fits.0 (of_line line.0.at (only_if (serves level g.0.0) 12) fits.0 fits.1)))

design_front : (level columns : ℕ) (rest : Rest) (design : Option Given) (left : Rest) → design_in level columns rest ≡ Ok (design, left) → DesignFront level columns rest design left
unfolding design_in
design_front level columns rest design left h = go (has_design level) refl h
  where
    go : (b : Bool) → has_design level ≡ b → cond b (◌>>=◌ {B = Option Given × Rest} (given_in level columns rest) (λ given. Ok (Some given.0, given.1))) (Ok (None, rest)) ≡ Ok (design, left) → DesignFront level columns rest design left
    go true e r =
        let given = bind_ok (given_in level columns rest) _ (design, left) r in
        let is = ok_pair (Some given.0.0) design given.0.1 left given.2 in
        let read = given_front level columns rest given.0.0 given.0.1 given.1 in
        subst (λ (d : Option Given). DesignFront level columns rest d left) is.0 (record {
          is = (e, record { words = read.0.words; objects = read.0.objects; serves = read.1 });
          front = λ more behind form. read.0.front more behind (rw is.1 form);
        })
    go false e r =
        let is = ok_pair None design rest left r in
        subst (λ (d : Option Given). DesignFront level columns rest d left) is.0 (record { is = e; front = λ more behind form. rw is.1 form })

-- ---- the queue, and the end

-- the last lines: the queue's, and those that aren't read
record TailForm (rest : Rest) (queue : Option ℕ) : Type 0 where
  small : ForSome queue (λ n. n < 2 ^ 32)
  behind : List Numbered
  form : HasForm (queue_places queue) rest.lines behind
  tail : IsTail behind

tail_of_line : (rest : Rest) (line : Next) → LineRead rest line → FillsAll (start_places (codes "debug")) line.words → IsTail rest.lines
tail_of_line rest line at fills = rw at.split (line.words, at.sound, fills)

debug_tail : (rest : Rest) (line : Option Next) (x : Unit {0}) → MayBeRead rest line → debug_behind line ≡ Ok x → IsTail rest.lines
debug_tail rest None x read h = rw read tt
debug_tail rest (Some line) x at h = tail_of_line rest line at (start_fills 1 (codes "debug") line.words x (of_line line.at (pass_start 1 (codes "debug") line.words) x h))

none_small : ForSome None (λ n. n < 2 ^ 32)
none_small n e = absurd (cc)

some_small : (number : ℕ) → number < 2 ^ 32 → ForSome (Some number) (λ n. n < 2 ^ 32)
some_small number small n e = let same : number ≡ n = cc in rw (← same) small

queue_form : (rest : Rest) (line : Next) (number : ℕ) → LineRead rest line → FillsAll (start_places (codes "queue")) line.words → queue_in line.rest ≡ Ok number → TailForm rest (Some number)
unfolding queue_in
queue_form rest line number at begun h =
    let second = bind_ok (next_line 1 line.rest) _ number h in
    let n = bind_ok (at_line second.0.at (queue_of second.0.words)) _ number second.2 in
    let last = bind_ok (line_if_any second.0.rest) _ number n.2 in
    let debug = bind_ok (debug_behind last.0) _ number last.2 in
    let same : n.0 ≡ number = ok_same n.0 number debug.2 in
    let read = queue_fills second.0.words number (of_line second.0.at (queue_of second.0.words) n.0 n.1 ∙ ap (λ (k : ℕ). Ok k) same) in
    record {
      small = some_small number read.0;
      behind = second.0.rest.lines;
      form = line_form rest line (start_places (codes "queue")) ((Literal (codes "fifo") ∷ Number number ∷ []) ∷ []) second.0.rest.lines at begun
          (line_form line.rest second.0 (Literal (codes "fifo") ∷ Number number ∷ []) [] second.0.rest.lines (line_read 1 line.rest second.0 second.1) read.1 refl);
      tail = debug_tail second.0.rest last.0 debug.0 (may_be_read second.0.rest last.0 last.1) debug.1;
    }

tail_form : (rest : Rest) (queue : Option ℕ) → tail_in rest ≡ Ok queue → TailForm rest queue
unfolding tail_in
tail_form rest queue h =
    let line = bind_ok (line_if_any rest) queue_behind queue h in
    behind line.0 (may_be_read rest line.0 line.1) line.2
  where
    begun : (line : Next) → LineRead rest line → (b : Bool) → QueueBegins b line.words → cond b (queue_in line.rest >>= λ number. Ok (Some number)) (Ok None) ≡ Ok queue → TailForm rest queue
    begun line at true fills r =
        let number = bind_ok (queue_in line.rest) _ queue r in
        subst (λ (q : Option ℕ). TailForm rest q) (ok_same (Some number.0) queue number.2) (queue_form rest line number.0 at fills number.1)
    begun line at false fills r =
        subst (λ (q : Option ℕ). TailForm rest q) (ok_same None queue r) (record { small = none_small; behind = rest.lines; form = refl; tail = tail_of_line rest line at fills })

    behind : (o : Option Next) → MayBeRead rest o → queue_behind o ≡ Ok queue → TailForm rest queue
    behind None read r = subst (λ (q : Option ℕ). TailForm rest q) (ok_same None queue r) (record { small = none_small; behind = rest.lines; form = refl; tail = rw read tt })
    behind (Some line) at r =
        let present = bind_ok (at_line line.at (queue_begins line.words)) _ queue r in
        begun line at present.0 (queue_begun line.words present.0 (of_line line.at (queue_begins line.words) present.0 present.1)) present.2

-- ---- all sections

conf_form : (rest : Rest) (conf : Conf) → conf_in rest ≡ Ok conf → IsConf conf × IsConfOf rest.lines conf
unfolding conf_in
conf_form rest conf h =
    let array = bind_ok (array_in rest) _ conf h in
    let disks = bind_ok (disks_in array.0.0 array.0.2) _ conf array.2 in
    let spares = bind_ok (spares_in array.0.1 disks.0.0 disks.0.1) _ conf disks.2 in
    let layout = bind_ok (layout_in array.0.0 spares.0.1) _ conf spares.2 in
    let design = bind_ok (design_in layout.0.1 array.0.0 layout.0.2) _ conf layout.2 in
    let queue = bind_ok (tail_in design.0.1) _ conf design.2 in
    let a = array_front rest array.0.0 array.0.1 array.0.2 array.1 in
    let d = disks_front array.0.0 array.0.2 disks.0.0 disks.0.1 disks.1 in
    let s = spares_front array.0.1 disks.0.0 disks.0.1 spares.0.0 spares.0.1 spares.1 in
    let l = layout_front array.0.0 spares.0.1 layout.0.0 layout.0.1 layout.0.2 layout.1 in
    let g = design_front layout.0.1 array.0.0 layout.0.2 design.0.0 design.0.1 design.1 in
    let q = tail_form design.0.1 queue.0 queue.1 in
    let tail = design_places design.0.0 ++ queue_places queue.0 in
    let middle = spare_places s.present spares.0.0 ++ (start_places (codes "layout") ∷ layout_places layout.0.0 layout.0.1 ∷ tail) in
    let g_lines = g.front (queue_places queue.0) q.behind q.form in
    let l_lines = l.front tail q.behind g_lines in
    let s_lines = s.front (layout_places layout.0.0 layout.0.1 ∷ tail) q.behind l_lines in
    let d_lines = d.front middle q.behind s_lines in
    let a_lines = a.front (start_places (codes "disks") ∷ (map name_places disks.0.0 ++ middle)) q.behind d_lines in
    subst (λ (c : Conf). IsConf c × IsConfOf rest.lines c) (ok_same _ conf queue.2) (
      record {
        columns_least = a.least;
        columns_most = a.most;
        spares_most = a.few;
        unit_least = l.least;
        unit_most = l.most;
        level = l.known;
        allowed = l.allowed;
        queue = q.small;
        disk_count = d.count;
        spare_count = s.count;
        disks = d.are;
        spare_names = s.are;
        differ = s.differ d.differ;
        design = g.is;
      },
      record { short = a.short; present = s.present; behind = q.behind; spares = s.none; form = a_lines; tail = q.tail },
    )

pub conf_of_form : ConfIsOfTheForm
conf_of_form text conf h = conf_form (whole text) conf (sym (conf_same text) ∙ h)

-- what is read is within the limits
pub limits : (text : Text) (result : Result Conf ConfFault) → GivesConf result (conf_of text) → IfOk result (λ conf. IsConf conf)
limits text (Ok conf) h = (conf_of_form text conf h).0
limits text (Err fault) h = tt
