use Rattle.std.proofs.Common.{◌≡◌, ◌∙◌, ◌==◌, ℕ, List, Option, Some, None, Bor, ap, lit<, sym, take}
use Rattle.std.specs.List.{before_first}
use Rattle.std.proofs.Math.Seq.{take-length}
use Rattle.std.proofs.lemmas.Str.Pattern.{IsSplitOnceResult, split_once_first}
use Rattle.top_words.proofs.unknown.option_of.Goals as goal

front_is : (word : List ℕ) (r : Option (Bor (List ℕ) × Bor (List ℕ))) → IsSplitOnceResult 61 word r
    → (x : Bor (List ℕ) × Bor (List ℕ)) → r ≡ Some x → x.0.now ≡ before_first (λ b. b == 61) word
front_is word r split x is =
    let (inside, front, back) = rw is at (split_once_first 61 word r split (lit< tt)) in front

whole_is : (word : List ℕ) (r : Option (Bor (List ℕ) × Bor (List ℕ))) → IsSplitOnceResult 61 word r
    → r ≡ None → word ≡ before_first (λ b. b == 61) word
whole_is word r split is =
    let none = rw is at (split_once_first 61 word r split (lit< tt)) in
    sym (ap (λ n. take n word) none ∙ take-length word)

pub returns-in-Some : goal.returns-in-Some
returns-in-Some c =
    front_is c.args.word.now c.split_once.result c.split_once.ensures.cases
    (c.in-Some.option, c.in-Some.field-0-1) c.in-Some.is

pub returns-in-None : goal.returns-in-None
returns-in-None c = whole_is c.args.word.now c.split_once.result c.split_once.ensures.cases c.in-None.is
