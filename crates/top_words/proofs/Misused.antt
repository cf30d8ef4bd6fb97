-- What is wrong with words, by what the one command makes of them.
use Rattle.std.proofs.Common.{◌≡◌, ◌∙◌, refl, true, sym, ap, ap₂, subst, inl, inr, List, [], ◌∷◌, Option, Some, None}
use Rattle.std.specs.Prelude.{option_map}
use Rattle.std.specs.Option.{option_or}
use Rattle.clap.specs.Words.{App, HasKind, HasMatchesOf, IsAmong, Kinds, found_of, fault_of, is_simple_and_free, kind_of, rows_of, matches_of}
use Rattle.clap.specs.declared.error.Error.{Error}
use Rattle.clap.specs.declared.error.kind.ErrorKind.{ErrorKind}
use Rattle.clap.specs.declared.error.kind.ErrorKind.TheVariants as kind
use Rattle.clap.specs.declared.parser.matches.ArgMatches.{ArgMatches}
use Rattle.raid_text.specs.Text.{Text}
use Rattle.top_words.specs.App.{raid_app}
use Rattle.top_words.specs.Steps.{refusals, rows_in}
use Rattle.top_words.specs.Given.{Given, given_of}
use Rattle.top_words.specs.Misuse.{misuse_of, misused, misused_if_taken, unformed}
use Rattle.top_words.proofs.OfTheApp.{is_exact, simple}

-- the first of two is seen as the first of what is seen
pub seen_or : {A B : Type 0} (see : A → B) (a b : Option A) → option_map see (option_or a b) ≡ option_or (option_map see a) (option_map see b)
seen_or see None b = refl
seen_or see (Some x) b = refl

-- the same of a result
pub seen_first : {A B : Type 0} (see : A → B) (r a b : Option A) (x y : Option B) → r ≡ option_or a b
    → option_map see a ≡ x → option_map see b ≡ y → option_map see r ≡ option_or x y
seen_first see r a b x y is first second = ap (option_map see) is ∙ (seen_or see a b ∙ ap₂ option_or first second)

-- words that it takes are judged by its matches
taken_is : (words : List Text) (m : ArgMatches) → fault_of raid_app words ≡ [] → HasMatchesOf raid_app words m
    → misuse_of words ≡ misused (given_of (rows_of (found_of m)))
unfolding misuse_of refusals rows_in
taken_is words m none has =
    ap (λ (kinds : Kinds). misused_if_taken kinds words (given_of (matches_of raid_app words))) none
    ∙ ap (λ rows. misused (given_of rows)) (sym (has simple).0)

some_refused : (k : ErrorKind) (kinds : Kinds) (words : List Text) (g : Given) → IsAmong k kinds
    → misused_if_taken kinds words g ≡ Some (unformed words)
some_refused k [] words g h = absurd h
some_refused k (x ∷ kinds) words g h = refl

-- an error that isn't want of memory comes only of words that it refuses
refused_is : (e : Error) (words : List Text) → HasKind (fault_of raid_app words) e → (kind_of e ≡ kind.OutOfMemory → ⊥) → misuse_of words ≡ Some (unformed words)
unfolding misuse_of refusals
refused_is e words h other = elim h [
  | inl memory ↦ absurd (other memory)
  | inr among ↦ some_refused (kind_of e) (fault_of raid_app words) words (given_of (rows_in words)) among
]

-- the same of a parse of an app that is this one, of words that are these
pub taken_by : (a : App) (words texts : List Text) (m : ArgMatches) → a ≡ raid_app → texts ≡ words
    → (is_simple_and_free a ≡ true → fault_of a texts ≡ []) → HasMatchesOf a texts m
    → misuse_of words ≡ misused (given_of (rows_of (found_of m)))
taken_by a words texts m is same none has =
    taken_is words m (ap₂ fault_of (sym is) (sym same) ∙ none (ap is_simple_and_free is ∙ is_exact))
    (subst (λ (w : List Text). HasMatchesOf raid_app w m) same (subst (λ (b : App). HasMatchesOf b texts m) is has))

pub refused_by : (a : App) (words texts : List Text) (e : Error) → a ≡ raid_app → texts ≡ words
    → (is_simple_and_free a ≡ true → HasKind (fault_of a texts) e) → (kind_of e ≡ kind.OutOfMemory → ⊥) → misuse_of words ≡ Some (unformed words)
refused_by a words texts e is same kinds other =
    refused_is e words
    (subst (λ (k : Kinds). HasKind k e) (ap₂ fault_of is same) (kinds (ap is_simple_and_free is ∙ is_exact))) other
