-- Names, tuples and numbers that are read one after another, as loops do.
use Rattle.std.proofs.Common.{◌≡◌, ◌∙◌, ℕ, ◌-◌, ◌+◌, ◌<◌, zero, suc, List, [], ◌∷◌, ◌++◌, Result, Ok, Err, refl, sym, ap, subst, arith}
use Rattle.raid_text.specs.Text.{Text}
use Rattle.text_steps.specs.declared.at.At.{At}
use Rattle.raid_conf.specs.declared.fault.ConfFault.{ConfFault}
use Rattle.raid_conf.specs.declared.fault.ConfFault.TheVariants as fault
use Rattle.raid_conf.specs.declared.role.Role.{Role}
use Rattle.raid_conf.specs.Answers.{GivesFault}
use Rattle.raid_conf.specs.Format.{names_in, next_tuple, tuples_in, with_name}
use Rattle.raid_conf.specs.Sections.{numbers_behind, tuple_behind, with_number}
use Rattle.text_steps.specs.Steps.{◌>>=◌, Rest, at_line}

-- what is left of n turns is one and then what is left of them
one_more : (n i : ℕ) → i < n → n - i ≡ suc (n - (i + 1))
one_more n i h = omega (arith, h)

-- a fault of the first step is one of both
stops : {A B : Type 0} (f : ConfFault) (step : Result A At) (then : A → Result B At) (both : Result B At) → both ≡ (step >>= then) → GivesFault f step → GivesFault f both
stops (fault.At n code) step then both e h = e ∙ ap (λ r. r >>= then) h
stops fault.Memory step then both e h = tt

-- the steps of a line are steps of the text
on_line : {A B : Type 0} (n : ℕ) (step : Result A ℕ) (then : A → Result B ℕ) → at_line n (step >>= then) ≡ (at_line n step >>= λ x. at_line n (then x))
on_line n (Ok x) then = refl
on_line n (Err code) then = refl

-- ---- names

name_turn : (role : Role) (n i : ℕ) (before names : List Text) (rest : Rest) → i < n
    → names_in role (n - i) before names rest ≡ (with_name role before names rest >>= λ more. names_in role (n - (i + 1)) before more.0 more.1)
unfolding names_in
name_turn role n i before names rest h = ap (λ (k : ℕ). names_in role k before names rest) (one_more n i h)

pub name_on : (role : Role) (n i : ℕ) (before names : List Text) (rest : Rest) (more : List Text) (behind : Rest) → i < n → with_name role before names rest ≡ Ok (more, behind)
    → names_in role (n - i) before names rest ≡ names_in role (n - (i + 1)) before more behind
name_on role n i before names rest more behind h read =
    name_turn role n i before names rest h ∙ ap (λ r. r >>= λ (p : List Text × Rest). names_in role (n - (i + 1)) before p.0 p.1) read

pub name_stop : (role : Role) (n i : ℕ) (before names : List Text) (rest : Rest) (f : ConfFault) → i < n → GivesFault f (with_name role before names rest) → GivesFault f (names_in role (n - i) before names rest)
name_stop role n i before names rest f h read = stops f (with_name role before names rest) _ _ (name_turn role n i before names rest h) read

pub names_done : (role : Role) (n : ℕ) (before names : List Text) (rest : Rest) → n ≡ 0 → names_in role n before names rest ≡ Ok (names, rest)
unfolding names_in
names_done role n before names rest none = ap (λ (k : ℕ). names_in role k before names rest) none

-- ---- tuples

tuple_turn : (n i k : ℕ) (front : List ℕ) (rest : Rest) → i < n → tuples_in (n - i) k front rest ≡ (next_tuple k front rest >>= λ more. tuples_in (n - (i + 1)) k more.0 more.1)
unfolding tuples_in
tuple_turn n i k front rest h = ap (λ (b : ℕ). tuples_in b k front rest) (one_more n i h)

pub tuple_on : (n i k : ℕ) (front : List ℕ) (rest : Rest) (more : List ℕ) (behind : Rest) → i < n → next_tuple k front rest ≡ Ok (more, behind) → tuples_in (n - i) k front rest ≡ tuples_in (n - (i + 1)) k more behind
tuple_on n i k front rest more behind h read =
    tuple_turn n i k front rest h ∙ ap (λ r. r >>= λ (p : List ℕ × Rest). tuples_in (n - (i + 1)) k p.0 p.1) read

pub tuple_stop : (n i k : ℕ) (front : List ℕ) (rest : Rest) (f : ConfFault) → i < n → GivesFault f (next_tuple k front rest) → GivesFault f (tuples_in (n - i) k front rest)
tuple_stop n i k front rest f h read = stops f (next_tuple k front rest) _ _ (tuple_turn n i k front rest h) read

pub tuples_done : (n k : ℕ) (front : List ℕ) (rest : Rest) → n ≡ 0 → tuples_in n k front rest ≡ Ok (front, rest)
unfolding tuples_in
tuples_done n k front rest none = ap (λ (b : ℕ). tuples_in b k front rest) none

-- ---- the numbers of a tuple

number_turn : (line n i : ℕ) (front : List ℕ) (word : Text) (words : List Text) → i < n
    → at_line line (tuple_behind (n - i) front (word ∷ words)) ≡ (at_line line (with_number front word) >>= λ more. at_line line (tuple_behind (n - (i + 1)) more words))
unfolding tuple_behind
number_turn line n i front word words h =
    ap (λ (k : ℕ). at_line line (tuple_behind k front (word ∷ words))) (one_more n i h) ∙ on_line line (with_number front word) (λ more. tuple_behind (n - (i + 1)) more words)

pub number_on : (line n i : ℕ) (front : List ℕ) (word : Text) (words : List Text) (more : List ℕ) → i < n → at_line line (with_number front word) ≡ Ok more
    → at_line line (tuple_behind (n - i) front (word ∷ words)) ≡ at_line line (tuple_behind (n - (i + 1)) more words)
number_on line n i front word words more h read = number_turn line n i front word words h ∙ ap (λ r. r >>= λ (xs : List ℕ). at_line line (tuple_behind (n - (i + 1)) xs words)) read

pub number_stop : (line n i : ℕ) (front : List ℕ) (word : Text) (words : List Text) (f : ConfFault) → i < n → GivesFault f (at_line line (with_number front word)) → GivesFault f (at_line line (tuple_behind (n - i) front (word ∷ words)))
number_stop line n i front word words f h read = stops f (at_line line (with_number front word)) _ _ (number_turn line n i front word words h) read

pub number_missing : (line n i : ℕ) (front : List ℕ) → i < n → at_line line (tuple_behind (n - i) front []) ≡ Err (record { line = line; code = 11 })
unfolding tuple_behind
number_missing line n i front h = ap (λ (k : ℕ). at_line line (tuple_behind k front [])) (one_more n i h)

pub tuple_done : (line n : ℕ) (front : List ℕ) → n ≡ 0 → at_line line (tuple_behind n front []) ≡ Ok front
unfolding tuple_behind
tuple_done line n front none = ap (λ (k : ℕ). at_line line (tuple_behind k front [])) none

pub number_too_many : (line n : ℕ) (front : List ℕ) (word : Text) (words : List Text) → n ≡ 0 → at_line line (tuple_behind n front (word ∷ words)) ≡ Err (record { line = line; code = 11 })
unfolding tuple_behind
number_too_many line n front word words none = ap (λ (k : ℕ). at_line line (tuple_behind k front (word ∷ words))) none

pub first_too_many : (line : ℕ) (front : List ℕ) (word : Text) (words : List Text) → at_line line (tuple_behind 0 front (word ∷ words)) ≡ Err (record { line = line; code = 11 })
first_too_many line front word words = number_too_many line 0 front word words refl

-- a number behind which k - 1 come
pub first_on : (line k : ℕ) (front : List ℕ) (word : Text) (words : List Text) (more : List ℕ) → 0 < k → at_line line (with_number front word) ≡ Ok more
    → at_line line (tuple_behind k front (word ∷ words)) ≡ at_line line (tuple_behind (k - 1) more words)
first_on line k front word words more h read =
    let none : k - 0 ≡ k = omega arith in
    let one : k - (0 + 1) ≡ k - 1 = omega arith in
    rw (none, one) at (number_on line k 0 front word words more h read)

pub first_stop : (line k : ℕ) (front : List ℕ) (word : Text) (words : List Text) (f : ConfFault) → 0 < k → GivesFault f (at_line line (with_number front word)) → GivesFault f (at_line line (tuple_behind k front (word ∷ words)))
first_stop line k front word words f h read =
    let none : k - 0 ≡ k = omega arith in
    rw none at (number_stop line k 0 front word words f h read)

-- ---- the numbers up to a line's end

element_turn : (line : ℕ) (front : List ℕ) (word : Text) (words : List Text) → at_line line (numbers_behind front (word ∷ words)) ≡ (at_line line (with_number front word) >>= λ more. at_line line (numbers_behind more words))
unfolding numbers_behind
element_turn line front word words = on_line line (with_number front word) (λ more. numbers_behind more words)

pub element_on : (line : ℕ) (front : List ℕ) (word : Text) (words : List Text) (more : List ℕ) → at_line line (with_number front word) ≡ Ok more → at_line line (numbers_behind front (word ∷ words)) ≡ at_line line (numbers_behind more words)
element_on line front word words more read = element_turn line front word words ∙ ap (λ r. r >>= λ (xs : List ℕ). at_line line (numbers_behind xs words)) read

pub element_stop : (line : ℕ) (front : List ℕ) (word : Text) (words : List Text) (f : ConfFault) → GivesFault f (at_line line (with_number front word)) → GivesFault f (at_line line (numbers_behind front (word ∷ words)))
element_stop line front word words f read = stops f (at_line line (with_number front word)) _ _ (element_turn line front word words) read

pub elements_done : (line : ℕ) (front : List ℕ) → at_line line (numbers_behind front []) ≡ Ok front
unfolding numbers_behind
elements_done line front = refl
