-- That a configuration is read as its steps say.
use Rattle.std.proofs.Common.{◌≡◌, ◌∙◌, refl, sym, ap, ap₂, inl, inr, arith}
use Rattle.std.specs.Prelude.{ℕ, zero, suc, Bool, true, false, not, List, [], ◌∷◌, ◌++◌, length, take, Option, Some, None, Result, Ok, Err, if◌then◌else◌, nat_eq, nat_lt, codes}
use Rattle.std.specs.Str.{bytes_eq}
use Rattle.std.proofs.lemmas.Bool.{eqb-true, eq-eqb, ne_eqb, cases_Bool}
use Rattle.std.proofs.lemmas.List.{append-nil, append_assoc}
use Rattle.raid_text.specs.Text.{Text}
use Rattle.text_steps.specs.Steps.{◌>>=◌, after_number, after_word, at_end, at_line, line_by, line_if_any, Next, next_line, next_number, next_word, number_in, numbers_of, only_if, repeated, Rest, whole}
use Rattle.text_steps.specs.declared.at.At.{At}
use Rattle.text_steps.proofs.Thens.{assoc, at_then, map_same, step_same, then_same}
use Rattle.raid_conf.specs.declared.given.Given.{Given}
use Rattle.raid_conf.specs.declared.given.Given.TheVariants.{Listed, Cyclic, Complete}
use Rattle.raid_conf.specs.declared.role.Role.{Role}
use Rattle.raid_conf.specs.declared.role.Role.TheVariants.{Disk, Spare}
use Rattle.raid_conf.specs.Designs.{serves}
use Rattle.raid_conf.specs.Levels.{has_design}
use Rattle.raid_conf.specs.Sections.{array_of, complete_of, count_code, Counts, counts_of, cyclic_of, first_of, layout_of, level_in, listed_of, name_in, name_of, numbers_behind, pass_start, queue_begins, queue_of, spares_begin, start_of, tuple_behind, tuple_of, with_number}
use Rattle.raid_conf.specs.Format.{after_start, array_in, design_in, given_in, kind_in, layout_in, names_in, next_name, next_tuple, queue_behind, queue_in, spares_in, tuples_in, with_name}
use Rattle.raid_conf.specs.Steps.{conf_in, disks_in, tail_in}
use Rattle.raid_conf.specs.Texts.{conf_of, design_among, design_by, level_of, listing_of, queue_among, sizes_of, spares_among, with_name_of, with_tuple}

-- a line and what is made of it
line_then : {A B : Type 0} (code : ℕ) (f : List Text → Result A ℕ) (rest : Rest) (k : A → Rest → Result B At)
    → (next_line code rest >>= λ line. at_line line.at (f line.words) >>= λ x. k x line.rest) ≡ (line_by code f rest >>= λ a. k a.0 a.1)
unfolding line_by
line_then code f rest k =
    sym (assoc (next_line code rest) _ (λ a. k a.0 a.1)
    ∙ then_same (next_line code rest) _ _ (λ line. assoc (at_line line.at (f line.words)) _ (λ a. k a.0 a.1)))

-- ---- the array

sizes_same : (words : List Text) → array_of words ≡ sizes_of words
unfolding array_of counts_of sizes_of
sizes_same words = refl

array_same : (rest : Rest) → array_in rest ≡ ((after_start 1 (codes "array") rest >>= line_by 1 sizes_of) >>= λ a. Ok (a.0.0, a.0.1, a.1))
unfolding array_in array_of counts_of sizes_of
array_same rest =
    then_same (after_start 1 (codes "array") rest) _ _ (λ start. line_then 1 sizes_of start (λ a behind. Ok (a.0, a.1, behind)))
    ∙ sym (assoc (after_start 1 (codes "array") rest) (line_by 1 sizes_of) (λ a. Ok (a.0.0, a.0.1, a.1)))

-- ---- names

may : Role → Bool
may Disk = true
may Spare = false

name_same : (role : Role) (before names words : List Text) → (name_of role (before ++ names) words >>= λ name. Ok (names ++ name ∷ [])) ≡ with_name_of (count_code role) (may role) before names words
unfolding name_of name_in with_name_of may
name_same Disk before names words =
    assoc (next_word words) _ _ ∙ then_same (next_word words) _ _ (λ word.
    assoc (only_if (not (bytes_eq word.0 (codes "START"))) 5) _ _ ∙ then_same (only_if (not (bytes_eq word.0 (codes "START"))) 5) _ _ (λ goes_on.
    assoc (name_in Disk (before ++ names) word.0) _ _ ∙ then_same (name_in Disk (before ++ names) word.0) _ _ (λ name. assoc (at_end word.1) _ _)))
name_same Spare before names words =
    assoc (next_word words) _ _ ∙ then_same (next_word words) _ _ (λ word.
    assoc (only_if (not (bytes_eq word.0 (codes "START"))) 6) _ _ ∙ then_same (only_if (not (bytes_eq word.0 (codes "START"))) 6) _ _ (λ goes_on.
    assoc (name_in Spare (before ++ names) word.0) _ _ ∙ then_same (name_in Spare (before ++ names) word.0) _ _ (λ name. assoc (at_end word.1) _ _)))

next_same : (role : Role) (before names : List Text) (rest : Rest) → with_name role before names rest ≡ line_by (count_code role) (with_name_of (count_code role) (may role) before names) rest
unfolding with_name next_name line_by
next_same role before names rest =
    assoc (next_line (count_code role) rest) _ _ ∙ then_same (next_line (count_code role) rest) _ _ (λ line.
    assoc (at_line line.at (name_of role (before ++ names) line.words)) _ _
    ∙ (sym (assoc (at_line line.at (name_of role (before ++ names) line.words)) (λ name. Ok (names ++ name ∷ [])) (λ names. Ok (names, line.rest)))
    ∙ ap (λ r. r >>= λ names. Ok (names, line.rest)) (sym (at_then line.at (name_of role (before ++ names) line.words) (λ name. Ok (names ++ name ∷ []))) ∙ ap (at_line line.at) (name_same role before names line.words))))

names_same : (role : Role) (n : ℕ) (before names : List Text) (rest : Rest) → names_in role n before names rest ≡ repeated n (λ names. line_by (count_code role) (with_name_of (count_code role) (may role) before names)) names rest
unfolding names_in repeated
names_same role zero before names rest = refl
names_same role (suc n) before names rest =
    ap (λ r. r >>= λ more. names_in role n before more.0 more.1) (next_same role before names rest)
    ∙ then_same (line_by (count_code role) (with_name_of (count_code role) (may role) before names) rest) _ _ (λ more. names_same role n before more.0 more.1)

-- ---- spares

abbrev spares_or_none : ℕ → List Text → Rest → Bool → Result (List Text × Rest) At
spares_or_none spares disks rest present =
    if present then (names_in Spare spares disks [] rest >>= λ names. after_start 6 (codes "layout") names.1 >>= λ layout. Ok (names.0, layout))
    else Ok ([], rest)

abbrev spares_there : ℕ → List Text → Rest → Result (List Text × Rest) At
spares_there spares disks rest = repeated spares (λ names. line_by 6 (with_name_of 6 false disks names)) [] rest >>= λ names. after_start 6 (codes "layout") names.1 >>= λ layout. Ok (names.0, layout)

abbrev spares_by : ℕ → List Text → Next → List Text → Bool → Bool → Result (List Text × Rest) At
spares_by spares disks line words a b =
    if a then (at_line line.at (at_end words) >>= λ end. spares_there spares disks line.rest)
    else (if b then (at_line line.at (only_if (nat_eq spares 0) 6) >>= λ none. at_line line.at (at_end words) >>= λ end. Ok ([], line.rest)) else Err (record { line = line.at; code = 3 }))

spares_go : (spares : ℕ) (disks : List Text) (line : Next) (words : List Text) (a b : Bool)
    → (at_line line.at (if a then (at_end words >>= λ end. Ok true) else (if b then (only_if (nat_eq spares 0) 6 >>= λ none. at_end words >>= λ end. Ok false) else Err 3)) >>= spares_or_none spares disks line.rest)
    ≡ spares_by spares disks line words a b
unfolding may
spares_go spares disks line words true b = first (at_end words)
  where
    first : (e : Result (Unit {0}) ℕ) → (at_line line.at (e >>= λ end. Ok true) >>= spares_or_none spares disks line.rest) ≡ (at_line line.at e >>= λ end. spares_there spares disks line.rest)
    first (Ok u) = step_same (names_in Spare spares disks [] line.rest) (repeated spares (λ names. line_by 6 (with_name_of 6 false disks names)) [] line.rest) _ _ (names_same Spare spares disks [] line.rest) (λ names. refl)
    first (Err c) = refl
spares_go spares disks line words false true = other (nat_eq spares 0) (at_end words)
  where
    other : (none : Bool) (e : Result (Unit {0}) ℕ) → (at_line line.at (only_if none 6 >>= λ none. e >>= λ end. Ok false) >>= spares_or_none spares disks line.rest)
        ≡ (at_line line.at (only_if none 6) >>= λ none. at_line line.at e >>= λ end. Ok ([], line.rest))
    other true (Ok u) = refl
    other true (Err c) = refl
    other false e = refl
spares_go spares disks line words false false = refl

spares_same : (spares : ℕ) (disks : List Text) (rest : Rest) → spares_in spares disks rest ≡ spares_among spares disks rest
unfolding spares_in spares_among spares_begin
spares_same spares disks rest = then_same (next_line 3 rest) _ _ (λ line.
    ap (λ r. r >>= spares_or_none spares disks line.rest) (at_then line.at (start_of 5 line.words) _)
    ∙ (assoc (at_line line.at (start_of 5 line.words)) _ _
    ∙ then_same (at_line line.at (start_of 5 line.words)) _ _ (λ start. spares_go spares disks line start.1 (bytes_eq start.0 (codes "spare")) (bytes_eq start.0 (codes "layout")))))

-- ---- the layout

layout_same : (columns : ℕ) (rest : Rest) → layout_in columns rest ≡ (line_by 1 (level_of columns) rest >>= λ a. Ok (a.0.0, a.0.1, a.1))
unfolding layout_in layout_of level_in level_of
layout_same columns rest = line_then 1 (level_of columns) rest (λ a behind. Ok (a.0, a.1, behind))

-- ---- designs

-- the numbers that are read, behind those before them
behind_same : (front : List ℕ) (words : List Text) → numbers_behind front words ≡ (numbers_of words >>= λ ns. Ok (front ++ ns))
unfolding numbers_behind numbers_of with_number
behind_same front [] = sym (ap Ok (append-nil front))
behind_same front (word ∷ words) = go (number_in word) (λ x. behind_same (front ++ x ∷ []) words)
  where
    more : (x : ℕ) (r : Result (List ℕ) ℕ) → (r >>= λ ns. Ok ((front ++ x ∷ []) ++ ns)) ≡ ((r >>= λ more. Ok (x ∷ more)) >>= λ ns. Ok (front ++ ns))
    more x (Ok ns) = ap Ok (append_assoc front (x ∷ []) ns)
    more x (Err c) = refl

    go : (n : Result ℕ ℕ) → ((x : ℕ) → numbers_behind (front ++ x ∷ []) words ≡ (numbers_of words >>= λ ns. Ok ((front ++ x ∷ []) ++ ns)))
        → ((n >>= λ x. Ok (front ++ x ∷ [])) >>= λ more. numbers_behind more words) ≡ ((n >>= λ x. numbers_of words >>= λ more. Ok (x ∷ more)) >>= λ ns. Ok (front ++ ns))
    go (Ok x) same = same x ∙ more x (numbers_of words)
    go (Err c) same = refl

nat_eq-suc : (a b : ℕ) → nat_eq (suc a) (suc b) ≡ nat_eq a b
nat_eq-suc a b = elim (cases_Bool (nat_eq a b)) [
  | inl is ↦ eq-eqb (suc a) (suc b) (ap suc (eqb-true a b is)) ∙ sym is
  | inr isnt ↦ ne_eqb (suc a) (suc b) (λ e. absurd (let n : a ≡ b = omega (arith, e) in let t = eq-eqb a b n in cc)) ∙ sym isnt
]

tuple_same : (n : ℕ) (front : List ℕ) (words : List Text) → tuple_behind n front words ≡ (numbers_of (take n words) >>= λ ns. only_if (nat_eq (length words) n) 11 >>= λ full. Ok (front ++ ns))
unfolding tuple_behind numbers_of with_number
tuple_same zero front [] = sym (ap Ok (append-nil front))
tuple_same zero front (word ∷ words) = sym (ap (λ b. only_if b 11 >>= λ full. Ok (front ++ [])) (ne_eqb (suc (length words)) 0 (λ e. omega (arith, e))))
tuple_same (suc n) front [] = sym (ap (λ b. only_if b 11 >>= λ full. Ok (front ++ [])) (ne_eqb 0 (suc n) (λ e. omega (arith, e))))
tuple_same (suc n) front (word ∷ words) = go (number_in word) (λ x. tuple_same n (front ++ x ∷ []) words)
  where
    more : (x : ℕ) (r : Result (List ℕ) ℕ) → (r >>= λ ns. only_if (nat_eq (length words) n) 11 >>= λ full. Ok ((front ++ x ∷ []) ++ ns)) ≡ ((r >>= λ more. Ok (x ∷ more)) >>= λ ns. only_if (nat_eq (suc (length words)) (suc n)) 11 >>= λ full. Ok (front ++ ns))
    more x (Ok ns) = ap (λ b. only_if b 11 >>= λ full. Ok ((front ++ x ∷ []) ++ ns)) (sym (nat_eq-suc (length words) n)) ∙ ap (λ all. only_if (nat_eq (suc (length words)) (suc n)) 11 >>= λ full. Ok all) (append_assoc front (x ∷ []) ns)
    more x (Err c) = refl

    go : (m : Result ℕ ℕ) → ((x : ℕ) → tuple_behind n (front ++ x ∷ []) words ≡ (numbers_of (take n words) >>= λ ns. only_if (nat_eq (length words) n) 11 >>= λ full. Ok ((front ++ x ∷ []) ++ ns)))
        → ((m >>= λ x. Ok (front ++ x ∷ [])) >>= λ more. tuple_behind n more words) ≡ ((m >>= λ x. numbers_of (take n words) >>= λ more. Ok (x ∷ more)) >>= λ ns. only_if (nat_eq (suc (length words)) (suc n)) 11 >>= λ full. Ok (front ++ ns))
    go (Ok x) same = same x ∙ more x (numbers_of (take n words))
    go (Err c) same = refl

tuple_line : (k : ℕ) (front : List ℕ) (words : List Text) → tuple_of k front words ≡ with_tuple k front words
unfolding tuple_of first_of with_tuple next_word
tuple_line k front [] = refl
tuple_line k front (word ∷ words) = go (not (bytes_eq word (codes "START")))
  where
    go : (b : Bool) → (◌>>=◌ {A = Text × List Text} (only_if b 11 >>= λ goes_on. Ok (word, words)) (λ word. tuple_behind k front (word.0 ∷ word.1)))
        ≡ (only_if b 11 >>= λ goes_on. numbers_of (take k (word ∷ words)) >>= λ numbers. only_if (nat_eq (length (word ∷ words)) k) 11 >>= λ full. Ok (front ++ numbers))
    go true = tuple_same k front (word ∷ words)
    go false = refl

tuples_same : (b k : ℕ) (front : List ℕ) (rest : Rest) → tuples_in b k front rest ≡ repeated b (λ tuples. line_by 11 (with_tuple k tuples)) front rest
unfolding tuples_in next_tuple repeated line_by
tuples_same zero k front rest = refl
tuples_same (suc b) k front rest =
    ap (λ r. r >>= λ more. tuples_in b k more.0 more.1) (then_same (next_line 11 rest) _ _ (λ line. ap (λ r. at_line line.at r >>= λ more. Ok (more, line.rest)) (tuple_line k front line.words)))
    ∙ then_same (next_line 11 rest >>= λ line. at_line line.at (with_tuple k front line.words) >>= λ x. Ok (x, line.rest)) _ _ (λ more. tuples_same b k more.0 more.1)

-- the numbers of a listed design
abbrev Four : Type 0
Four = ℕ × ℕ × ℕ × ℕ

abbrev four : Counts → Four
four c = (c.b, c.k, c.r, c.lambda)

counted : (columns : ℕ) (words : List Text) → listing_of columns words ≡ (listed_of columns words >>= λ c. Ok (four c))
unfolding listing_of listed_of
counted columns words = sym (
    assoc (next_number words) _ (λ c. Ok (four c)) ∙ then_same (next_number words) _ _ (λ b.
    assoc (after_number columns 4 b.1) _ (λ c. Ok (four c)) ∙ then_same (after_number columns 4 b.1) _ _ (λ v.
    assoc (next_number v) _ (λ c. Ok (four c)) ∙ then_same (next_number v) _ _ (λ k.
    assoc (next_number k.1) _ (λ c. Ok (four c)) ∙ then_same (next_number k.1) _ _ (λ r.
    assoc (next_number r.1) _ (λ c. Ok (four c)) ∙ then_same (next_number r.1) _ _ (λ lambda.
    assoc (at_end lambda.1) _ (λ c. Ok (four c))))))))

listed_line : {B : Type 0} (at columns : ℕ) (words : List Text) (f : Four → Result B At)
    → (at_line at (listed_of columns words) >>= λ c. f (four c)) ≡ (at_line at (listing_of columns words) >>= f)
listed_line at columns words f = sym (ap (λ r. at_line at r >>= f) (counted columns words) ∙ go (listed_of columns words))
  where
    go : (r : Result Counts ℕ) → (at_line at (r >>= λ c. Ok (four c)) >>= f) ≡ (at_line at r >>= λ c. f (four c))
    go (Ok c) = refl
    go (Err e) = refl

abbrev Read : Type 0
Read = Result (Given × Rest) At

abbrev with_rest : Rest → Given → Read
with_rest rest given = Ok (given, rest)

cyclic_line : (at columns : ℕ) (words : List Text) (rest : Rest)
    → (at_line at (cyclic_of columns words) >>= with_rest rest)
    ≡ (at_line at (after_number columns 4 words >>= λ v. after_word (codes ":") 1 v >>= λ colon. numbers_of colon >>= λ base. only_if (nat_lt 0 (length base)) 1 >>= λ some. Ok base) >>= λ base. with_rest rest (Cyclic columns base))
unfolding cyclic_of
cyclic_line at columns words rest = go (after_number columns 4 words)
  where
    some : (base : List ℕ) (b : Bool) → (at_line at (only_if b 1 >>= λ some. Ok (Cyclic columns base)) >>= with_rest rest) ≡ (at_line at (only_if b 1 >>= λ some. Ok base) >>= λ base. with_rest rest (Cyclic columns base))
    some base true = refl
    some base false = refl

    base : (r : Result (List ℕ) ℕ) → (at_line at ((r >>= λ ns. Ok ([] ++ ns)) >>= λ base. only_if (nat_lt 0 (length base)) 1 >>= λ some. Ok (Cyclic columns base)) >>= with_rest rest) ≡ (at_line at (r >>= λ base. only_if (nat_lt 0 (length base)) 1 >>= λ some. Ok base) >>= λ base. with_rest rest (Cyclic columns base))
    base (Ok ns) = some ns (nat_lt 0 (length ns))
    base (Err c) = refl

    colon : (r : Result (List Text) ℕ) → (at_line at (r >>= λ colon. numbers_behind [] colon >>= λ base. only_if (nat_lt 0 (length base)) 1 >>= λ some. Ok (Cyclic columns base)) >>= with_rest rest) ≡ (at_line at (r >>= λ colon. numbers_of colon >>= λ base. only_if (nat_lt 0 (length base)) 1 >>= λ some. Ok base) >>= λ base. with_rest rest (Cyclic columns base))
    colon (Ok words) = ap (λ r. at_line at (r >>= λ base. only_if (nat_lt 0 (length base)) 1 >>= λ some. Ok (Cyclic columns base)) >>= with_rest rest) (behind_same [] words) ∙ base (numbers_of words)
    colon (Err c) = refl

    go : (r : Result (List Text) ℕ) → (at_line at (r >>= λ v. after_word (codes ":") 1 v >>= λ colon. numbers_behind [] colon >>= λ base. only_if (nat_lt 0 (length base)) 1 >>= λ some. Ok (Cyclic columns base)) >>= with_rest rest) ≡ (at_line at (r >>= λ v. after_word (codes ":") 1 v >>= λ colon. numbers_of colon >>= λ base. only_if (nat_lt 0 (length base)) 1 >>= λ some. Ok base) >>= λ base. with_rest rest (Cyclic columns base))
    go (Ok v) = colon (after_word (codes ":") 1 v)
    go (Err c) = refl

complete_line : (at columns : ℕ) (words : List Text) (rest : Rest)
    → (at_line at (complete_of columns words) >>= with_rest rest)
    ≡ (at_line at (after_number columns 4 words >>= λ v. next_number v >>= λ k. at_end k.1 >>= λ end. Ok k.0) >>= λ k. with_rest rest (Complete columns k))
unfolding complete_of
complete_line at columns words rest = go (after_number columns 4 words)
  where
    ended : (k : ℕ) (e : Result (Unit {0}) ℕ) → (at_line at (e >>= λ end. Ok (Complete columns k)) >>= with_rest rest) ≡ (at_line at (e >>= λ end. Ok k) >>= λ k. with_rest rest (Complete columns k))
    ended k (Ok u) = refl
    ended k (Err c) = refl

    number : (r : Result (ℕ × List Text) ℕ) → (at_line at (r >>= λ k. at_end k.1 >>= λ end. Ok (Complete columns k.0)) >>= with_rest rest) ≡ (at_line at (r >>= λ k. at_end k.1 >>= λ end. Ok k.0) >>= λ k. with_rest rest (Complete columns k))
    number (Ok k) = ended k.0 (at_end k.1)
    number (Err c) = refl

    go : (r : Result (List Text) ℕ) → (at_line at (r >>= λ v. next_number v >>= λ k. at_end k.1 >>= λ end. Ok (Complete columns k.0)) >>= with_rest rest) ≡ (at_line at (r >>= λ v. next_number v >>= λ k. at_end k.1 >>= λ end. Ok k.0) >>= λ k. with_rest rest (Complete columns k))
    go (Ok v) = number (next_number v)
    go (Err c) = refl

-- a design by its three kinds
abbrev three : Text → ℕ → Read → Read → Read → Read
three kind at listed cyclic complete =
    if bytes_eq kind (codes "design") then listed
    else (if bytes_eq kind (codes "cyclic") then cyclic
    else (if bytes_eq kind (codes "complete") then complete
    else Err (record { line = at; code = if bytes_eq kind (codes "START") then 11 else 1 })))

abbrev listed_by : ℕ → Rest → Four → Read
listed_by columns rest f = repeated f.0 (λ tuples. line_by 11 (with_tuple f.1 tuples)) [] rest >>= λ tuples. Ok (Listed f.0 columns f.1 f.2 f.3 tuples.0, tuples.1)

kind_same : (kind : Text) (columns at : ℕ) (words : List Text) (rest : Rest) → kind_in kind columns at words rest ≡ design_by kind columns at words rest
unfolding kind_in design_by
kind_same kind columns at words rest =
    ap₂ (λ c d. three kind at (at_line at (listed_of columns words) >>= λ c. tuples_in c.b c.k [] rest >>= λ tuples. Ok (Listed c.b columns c.k c.r c.lambda tuples.0, tuples.1)) c d) (cyclic_line at columns words rest) (complete_line at columns words rest)
    ∙ ap (λ r. three kind at r
    (at_line at (after_number columns 4 words >>= λ v. after_word (codes ":") 1 v >>= λ colon. numbers_of colon >>= λ base. only_if (nat_lt 0 (length base)) 1 >>= λ some. Ok base) >>= λ base. with_rest rest (Cyclic columns base))
    (at_line at (after_number columns 4 words >>= λ v. next_number v >>= λ k. at_end k.1 >>= λ end. Ok k.0) >>= λ k. with_rest rest (Complete columns k)))
    (then_same (at_line at (listed_of columns words)) _ (λ c. listed_by columns rest (four c)) (λ c. step_same (tuples_in c.b c.k [] rest) (repeated c.b (λ tuples. line_by 11 (with_tuple c.k tuples)) [] rest) _ _ (tuples_same c.b c.k [] rest) (λ tuples. refl))
    ∙ listed_line at columns words (listed_by columns rest))

design_same : (level columns : ℕ) (rest : Rest) → design_in level columns rest ≡ design_among level columns rest
unfolding design_in design_among given_in
design_same level columns rest = ap (λ r. if has_design level then r else Ok (None, rest))
    (assoc (next_line 11 rest) _ _ ∙ then_same (next_line 11 rest) _ _ (λ line.
    assoc (at_line line.at (next_word line.words)) _ _ ∙ then_same (at_line line.at (next_word line.words)) _ _ (λ kind.
    assoc (kind_in kind.0 columns line.at kind.1 line.rest) _ _
    ∙ (ap (λ r. r >>= λ given. (at_line line.at (only_if (serves level given.0) 12) >>= λ fits. Ok given) >>= λ given. Ok (Some given.0, given.1)) (kind_same kind.0 columns line.at kind.1 line.rest)
    ∙ then_same (design_by kind.0 columns line.at kind.1 line.rest) _ _ (λ given. assoc (at_line line.at (only_if (serves level given.0) 12)) _ _)))))

-- ---- the queue

queue_same : (rest : Rest) → tail_in rest ≡ queue_among rest
unfolding tail_in queue_among queue_begins queue_in queue_of
queue_same rest = then_same (line_if_any rest) _ _ found
  where
    go : (line : Next) (words : List Text) (a b : Bool)
        → (at_line line.at (if a then (at_end words >>= λ end. Ok true) else (if b then (at_end words >>= λ end. Ok false) else Err 3))
        >>= λ present. if present then (queue_in line.rest >>= λ number. Ok (Some number)) else Ok None)
        ≡ (if a then (at_line line.at (at_end words) >>= λ end. line_by 1 queue_of line.rest >>= λ number. line_if_any number.1 >>= λ last.
        (elim last [ None ↦ Ok (tt {0}) | Some line ↦ at_line line.at (pass_start 1 (codes "debug") line.words) ]) >>= λ debug. Ok (Some number.0))
        else (if b then (at_line line.at (at_end words) >>= λ end. Ok None) else Err (record { line = line.at; code = 3 })))
    go line words true b = first (at_end words)
      where
        read : (queue_in line.rest >>= λ number. Ok (Some number)) ≡ (line_by 1 queue_of line.rest >>= λ number. line_if_any number.1 >>= λ last. (elim last [ None ↦ Ok (tt {0}) | Some line ↦ at_line line.at (pass_start 1 (codes "debug") line.words) ]) >>= λ debug. Ok (Some number.0))
        read = assoc (next_line 1 line.rest) _ _ ∙ (then_same (next_line 1 line.rest) _ _ (λ second.
            assoc (at_line second.at (queue_of second.words)) _ _ ∙ then_same (at_line second.at (queue_of second.words)) _ _ (λ number.
            assoc (line_if_any second.rest) _ _ ∙ then_same (line_if_any second.rest) _ _ (λ last.
            assoc (elim last [ None ↦ Ok (tt {0}) | Some line ↦ at_line line.at (pass_start 1 (codes "debug") line.words) ]) (λ debug. Ok number) (λ number. Ok (Some number)))))
            ∙ line_then 1 queue_of line.rest (λ number behind. line_if_any behind >>= λ last. (elim last [ None ↦ Ok (tt {0}) | Some line ↦ at_line line.at (pass_start 1 (codes "debug") line.words) ]) >>= λ debug. Ok (Some number)))

        first : (e : Result (Unit {0}) ℕ) → (at_line line.at (e >>= λ end. Ok true) >>= λ present. if present then (queue_in line.rest >>= λ number. Ok (Some number)) else Ok None)
            ≡ (at_line line.at e >>= λ end. line_by 1 queue_of line.rest >>= λ number. line_if_any number.1 >>= λ last. (elim last [ None ↦ Ok (tt {0}) | Some line ↦ at_line line.at (pass_start 1 (codes "debug") line.words) ]) >>= λ debug. Ok (Some number.0))
        first (Ok u) = read
        first (Err c) = refl
    go line words false true = other (at_end words)
      where
        other : (e : Result (Unit {0}) ℕ) → (at_line line.at (e >>= λ end. Ok false) >>= λ present. if present then (queue_in line.rest >>= λ number. Ok (Some number)) else Ok None) ≡ (at_line line.at e >>= λ end. Ok None)
        other (Ok u) = refl
        other (Err c) = refl
    go line words false false = refl

    found : (o : Option Next) → queue_behind o ≡ elim o [
      | None ↦ Ok None
      | Some line ↦ (at_line line.at (start_of 1 line.words) >>= λ start.
          if bytes_eq start.0 (codes "queue") then (at_line line.at (at_end start.1) >>= λ end. line_by 1 queue_of line.rest >>= λ number. line_if_any number.1 >>= λ last.
          (elim last [ None ↦ Ok (tt {0}) | Some line ↦ at_line line.at (pass_start 1 (codes "debug") line.words) ]) >>= λ debug. Ok (Some number.0))
          else (if bytes_eq start.0 (codes "debug") then (at_line line.at (at_end start.1) >>= λ end. Ok None) else Err (record { line = line.at; code = 3 })))
    ]
    found None = refl
    found (Some line) =
        ap (λ r. r >>= λ present. if present then (queue_in line.rest >>= λ number. Ok (Some number)) else Ok None) (at_then line.at (start_of 1 line.words) _)
        ∙ (assoc (at_line line.at (start_of 1 line.words)) _ _
        ∙ then_same (at_line line.at (start_of 1 line.words)) _ _ (λ start. go line start.1 (bytes_eq start.0 (codes "queue")) (bytes_eq start.0 (codes "debug"))))

-- ---- the whole

pub conf_same : (text : Text) → conf_of text ≡ conf_in (whole text)
unfolding conf_of conf_in disks_in may
conf_same text =
    let rest = whole text in
    sym (map_same (array_in rest) (after_start 1 (codes "array") rest >>= line_by 1 sizes_of) (λ a. (a.0.0, a.0.1, a.1)) _ _ (array_same rest) (λ array.
    step_same (disks_in array.0.0 array.1) (after_start 1 (codes "disks") array.1 >>= repeated array.0.0 (λ names. line_by 5 (with_name_of 5 true [] names)) []) _ _
    (then_same (after_start 1 (codes "disks") array.1) _ _ (λ behind. names_same Disk array.0.0 [] [] behind)) (λ disks.
    step_same (spares_in array.0.1 disks.0 disks.1) (spares_among array.0.1 disks.0 disks.1) _ _ (spares_same array.0.1 disks.0 disks.1) (λ spares.
    map_same (layout_in array.0.0 spares.1) (line_by 1 (level_of array.0.0) spares.1) (λ a. (a.0.0, a.0.1, a.1)) _ _ (layout_same array.0.0 spares.1) (λ layout.
    step_same (design_in layout.0.1 array.0.0 layout.1) (design_among layout.0.1 array.0.0 layout.1) _ _ (design_same layout.0.1 array.0.0 layout.1) (λ design.
    step_same (tail_in design.1) (queue_among design.1) _ _ (queue_same design.1) (λ queue. refl)))))))
