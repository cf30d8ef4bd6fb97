-- A line of the layout, the queue or a design that was read, and which places its words fill.
use Rattle.std.proofs.Common.{◌≡◌, ◌∙◌, ℕ, zero, suc, ◌+◌, ◌<◌, ◌≤◌, ◌^◌, Bool, true, false, cond, List, [], ◌∷◌, ◌++◌, length, map, Option, Some, None, Result, Ok, Err, refl, sym, ap, subst, append_assoc, append-nil, arith, All}
use Rattle.std.specs.Prelude.{◌&&◌, IsTrue, not, codes, nat_eq, nat_le, nat_lt}
use Rattle.std.proofs.lemmas.Bool.{and_parts, eqb-true, leb-true, ltb-true}
use Rattle.std.proofs.lemmas.List.Elements.{All-cons, All-nil}
use Rattle.raid_text.specs.Text.{Text, number_of}
use Rattle.raid_conf.specs.declared.given.Given.{Given}
use Rattle.raid_conf.specs.declared.given.Given.TheVariants.{Listed, Cyclic, Complete}
use Rattle.raid_conf.specs.Levels.{allows, is_level}
use Rattle.raid_conf.specs.Sections.{complete_of, Counts, cyclic_of, first_of, layout_of, level_in, listed_of, numbers_behind, queue_of, tuple_behind, tuple_of, with_number}
use Rattle.raid_conf.specs.Steps.{after_objects, begins}
use Rattle.text_steps.specs.Steps.{◌>>=◌, after_number, after_word, at_end, next_number, next_word, number_in, only_if}
use Rattle.raid_conf.specs.Form.{Place, Literal, Number, FillsAll, IsWordGiven, layout_places}
use Rattle.raid_conf.proofs.OneStep.{between, bind_ok, end_fills, literal_fills, NumberRead, number_fills, number_is, number_read, number_small, ok_pair, ok_same, only_ok, wanted_read, words_are}

-- ---- the layout's line

pub record LayoutRead (columns : ℕ) (words : List Text) (unit level : ℕ) : Type 0 where
  pub least : 1 ≤ unit
  pub most : unit ≤ 128
  pub known : is_level level ≡ true
  pub allowed : allows level columns ≡ true
  pub fills : FillsAll (layout_places unit level) words

level_is : (word : Text) (level : ℕ) → level_in word ≡ Ok level → (word ≡ level ∷ []) × (is_level level ≡ true)
unfolding level_in
level_is [] level h = absurd (cc)
level_is (b ∷ []) level h =
    let known = bind_ok (only_if (is_level b) 8) _ level h in
    let same : b ≡ level = ok_same b level known.2 in
    (ap (λ (x : ℕ). x ∷ []) same, rw same at (only_ok (is_level b) 8 known.0 known.1))
level_is (b ∷ c ∷ more) level h = absurd (cc)

pub layout_fills : (columns : ℕ) (words : List Text) (unit level : ℕ) → layout_of columns words ≡ Ok (unit, level) → LayoutRead columns words unit level
unfolding layout_of
layout_fills columns words unit level h =
    let u = bind_ok (next_number words) _ (unit, level) h in
    let fits = bind_ok (only_if (nat_le 1 u.0.0 && nat_le u.0.0 128) 2) _ (unit, level) u.2 in
    let second = bind_ok (after_number 1 9 u.0.1) _ (unit, level) fits.2 in
    let third = bind_ok (after_number 1 9 second.0) _ (unit, level) second.2 in
    let word = bind_ok (next_word third.0) _ (unit, level) third.2 in
    let l = bind_ok (level_in word.0.0) _ (unit, level) word.2 in
    let allowed = bind_ok (only_if (allows l.0 columns) 4) _ (unit, level) l.2 in
    let end = bind_ok (at_end word.0.1) _ (unit, level) allowed.2 in
    let both = ok_pair u.0.0 unit l.0 level end.2 in
    let range = between 1 u.0.0 128 (only_ok (nat_le 1 u.0.0 && nat_le u.0.0 128) 2 fits.0 fits.1) in
    let known = level_is word.0.0 l.0 l.1 in
    let letter : FillsAll (Literal (level ∷ []) ∷ []) third.0 = letter_fills third.0 word.0.0 word.0.1 level (words_are third.0 word.0.0 word.0.1 word.1) (known.0 ∙ ap (λ (b : ℕ). b ∷ []) both.1) (end_fills word.0.1 end.0 end.1) in
    let ones = number_fills u.0.1 1 second.0 (wanted_read 1 9 u.0.1 second.0 second.1) (Number 1 ∷ Literal (level ∷ []) ∷ []) (number_fills second.0 1 third.0 (wanted_read 1 9 second.0 third.0 third.1) (Literal (level ∷ []) ∷ []) letter) in
    record {
      least = rw both.0 at range.0;
      most = rw both.0 at range.1;
      known = rw both.1 at known.1;
      allowed = rw both.1 at (only_ok (allows l.0 columns) 4 allowed.0 allowed.1);
      fills = number_fills words unit u.0.1 (number_read words unit u.0.1 (u.1 ∙ ap (λ (n : ℕ). Ok (n, u.0.1)) both.0)) (Number 1 ∷ Number 1 ∷ Literal (level ∷ []) ∷ []) ones;
    }
  where
    letter_fills : (words : List Text) (word : Text) (behind : List Text) (level : ℕ) → words ≡ word ∷ behind → word ≡ level ∷ [] → FillsAll [] behind → FillsAll (Literal (level ∷ []) ∷ []) words
    letter_fills words word behind level split same fills = rw split (same, fills)

-- ---- the queue's line

pub queue_fills : (words : List Text) (number : ℕ) → queue_of words ≡ Ok number → (number < 2 ^ 32) × FillsAll (Literal (codes "fifo") ∷ Number number ∷ []) words
unfolding queue_of
queue_fills words number h =
    let fifo = bind_ok (after_word (codes "fifo") 10 words) _ number h in
    let n = bind_ok (next_number fifo.0) _ number fifo.2 in
    let end = bind_ok (at_end n.0.1) _ number n.2 in
    let same : n.0.0 ≡ number = ok_same n.0.0 number end.2 in
    let read = number_read fifo.0 number n.0.1 (n.1 ∙ ap (λ (k : ℕ). Ok (k, n.0.1)) same) in
    (read.small, literal_fills (codes "fifo") 10 words fifo.0 fifo.1 (Number number ∷ []) (number_fills fifo.0 number n.0.1 read [] (end_fills n.0.1 end.0 end.1)))

-- ---- the lines of designs

pub record CountsRead (columns : ℕ) (words : List Text) (counts : Counts) : Type 0 where
  pub small : (counts.b < 2 ^ 32) × (counts.k < 2 ^ 32) × (counts.r < 2 ^ 32) × (counts.lambda < 2 ^ 32)
  pub fills : FillsAll (Number counts.b ∷ Number columns ∷ Number counts.k ∷ Number counts.r ∷ Number counts.lambda ∷ []) words

pub listed_fills : (columns : ℕ) (words : List Text) (counts : Counts) → listed_of columns words ≡ Ok counts → CountsRead columns words counts
unfolding listed_of after_objects
listed_fills columns words counts h =
    let b = bind_ok (next_number words) _ counts h in
    let v = bind_ok (after_objects columns b.0.1) _ counts b.2 in
    let k = bind_ok (next_number v.0) _ counts v.2 in
    let r = bind_ok (next_number k.0.1) _ counts k.2 in
    let lambda = bind_ok (next_number r.0.1) _ counts r.2 in
    let end = bind_ok (at_end lambda.0.1) _ counts lambda.2 in
    let b_read = number_read words b.0.0 b.0.1 b.1 in
    let v_read = wanted_read columns 4 b.0.1 v.0 v.1 in
    let k_read = number_read v.0 k.0.0 k.0.1 k.1 in
    let r_read = number_read k.0.1 r.0.0 r.0.1 r.1 in
    let lambda_read = number_read r.0.1 lambda.0.0 lambda.0.1 lambda.1 in
    subst (λ (x : Counts). CountsRead columns words x) (ok_same (record { b = b.0.0; k = k.0.0; r = r.0.0; lambda = lambda.0.0 }) counts end.2) (record {
      small = (b_read.small, k_read.small, r_read.small, lambda_read.small);
      fills = number_fills words b.0.0 b.0.1 b_read (Number columns ∷ Number k.0.0 ∷ Number r.0.0 ∷ Number lambda.0.0 ∷ [])
          (number_fills b.0.1 columns v.0 v_read (Number k.0.0 ∷ Number r.0.0 ∷ Number lambda.0.0 ∷ [])
          (number_fills v.0 k.0.0 k.0.1 k_read (Number r.0.0 ∷ Number lambda.0.0 ∷ [])
          (number_fills k.0.1 r.0.0 r.0.1 r_read (Number lambda.0.0 ∷ []) (number_fills r.0.1 lambda.0.0 lambda.0.1 lambda_read [] (end_fills lambda.0.1 end.0 end.1)))));
    })

-- numbers that were read behind others
pub record NumbersRead (front : List ℕ) (words : List Text) (all : List ℕ) : Type 0 where
  pub numbers : List ℕ
  pub split : all ≡ front ++ numbers
  pub small : All (λ n. n < 2 ^ 32) numbers
  pub fills : FillsAll (map Number numbers) words

no_numbers : (front all : List ℕ) → front ≡ all → NumbersRead front [] all
no_numbers front all same = record { numbers = []; split = sym same ∙ sym (append-nil front); small = All-nil (λ n. n < 2 ^ 32); fills = tt }

-- a number, and those read behind it
more_numbers : (front : List ℕ) (word : Text) (words : List Text) (all more : List ℕ) → with_number front word ≡ Ok more → NumbersRead more words all → NumbersRead front (word ∷ words) all
unfolding with_number
more_numbers front word words all more h others =
    let x = bind_ok (number_in word) _ more h in
    let is = number_is word x.0 x.1 in
    let pushed : front ++ x.0 ∷ [] ≡ more = ok_same (front ++ x.0 ∷ []) more x.2 in
    let together : (front ++ x.0 ∷ []) ++ others.numbers ≡ front ++ x.0 ∷ others.numbers = append_assoc front (x.0 ∷ []) others.numbers in
    record {
      numbers = x.0 ∷ others.numbers;
      split = others.split ∙ (ap (λ (f : List ℕ). f ++ others.numbers) (sym pushed) ∙ together);
      small = All-cons (λ n. n < 2 ^ 32) x.0 others.numbers (number_small word x.0 is) others.small;
      fills = (is, others.fills);
    }

pub numbers_fill : (front : List ℕ) (words : List Text) (all : List ℕ) → numbers_behind front words ≡ Ok all → NumbersRead front words all
unfolding numbers_behind
numbers_fill front [] all h = no_numbers front all (ok_same front all h)
numbers_fill front (word ∷ words) all h =
    let more = bind_ok (with_number front word) _ all h in
    more_numbers front word words all more.0 more.1 (numbers_fill more.0 words all more.2)

-- a tuple of n numbers that was read behind others
pub record TupleRead (n : ℕ) (front : List ℕ) (words : List Text) (all : List ℕ) : Type 0 where
  pub read : NumbersRead front words all
  pub count : length read.numbers ≡ n

tuple_fills : (n : ℕ) (front : List ℕ) (words : List Text) (all : List ℕ) → tuple_behind n front words ≡ Ok all → TupleRead n front words all
unfolding tuple_behind no_numbers more_numbers
tuple_fills zero front [] all h = record { read = no_numbers front all (ok_same front all h); count = refl }
tuple_fills zero front (word ∷ words) all h = absurd (cc)
tuple_fills (suc n) front [] all h = absurd (cc)
tuple_fills (suc n) front (word ∷ words) all h =
    let more = bind_ok (with_number front word) _ all h in
    let others = tuple_fills n more.0 words all more.2 in
    record { read = more_numbers front word words all more.0 more.1 others.read; count = ap (λ (k : ℕ). suc k) others.count }

pub tuple_line_fills : (k : ℕ) (front : List ℕ) (words : List Text) (all : List ℕ) → tuple_of k front words ≡ Ok all → TupleRead k front words all
unfolding tuple_of first_of
tuple_line_fills k front words all h =
    let first = bind_ok (first_of words) _ all h in
    let word = bind_ok (next_word words) _ first.0 first.1 in
    let goes_on = bind_ok (only_if (not (begins word.0.0)) 11) _ first.0 word.2 in
    let same : word.0 ≡ first.0 = ok_same word.0 first.0 goes_on.2 in
    let split = words_are words word.0.0 word.0.1 word.1 in
    let read : tuple_behind k front (word.0.0 ∷ word.0.1) ≡ Ok all = subst (λ (w : Text × List Text). tuple_behind k front (w.0 ∷ w.1) ≡ Ok all) (sym same) first.2 in
    subst (λ (ws : List Text). TupleRead k front ws all) (sym split) (tuple_fills k front (word.0.0 ∷ word.0.1) all read)

-- a design that was read on one line, behind the word that begins it
pub record BaseRead (columns : ℕ) (words : List Text) (given : Given) : Type 0 where
  pub base : List ℕ
  pub is : given ≡ Cyclic columns base
  pub some : 0 < length base
  pub small : All (λ n. n < 2 ^ 32) base
  pub fills : FillsAll (Number columns ∷ Literal (codes ":") ∷ map Number base) words

pub cyclic_fills : (columns : ℕ) (words : List Text) (given : Given) → cyclic_of columns words ≡ Ok given → BaseRead columns words given
unfolding cyclic_of after_objects
cyclic_fills columns words given h =
    let v = bind_ok (after_objects columns words) _ given h in
    let colon = bind_ok (after_word (codes ":") 1 v.0) _ given v.2 in
    let base = bind_ok (numbers_behind [] colon.0) _ given colon.2 in
    let some = bind_ok (only_if (nat_lt 0 (length base.0)) 1) _ given base.2 in
    let read = numbers_fill [] colon.0 base.0 base.1 in
    let all : base.0 ≡ read.numbers = read.split in
    let is : Cyclic columns base.0 ≡ given = ok_same (Cyclic columns base.0) given some.2 in
    let there = ltb-true 0 (length base.0) (only_ok (nat_lt 0 (length base.0)) 1 some.0 some.1) in
    record {
      base = read.numbers;
      is = sym is ∙ ap (λ (ns : List ℕ). Cyclic columns ns) all;
      some = rw all at there;
      small = read.small;
      fills = number_fills words columns v.0 (wanted_read columns 4 words v.0 v.1) (Literal (codes ":") ∷ map Number read.numbers) (literal_fills (codes ":") 1 v.0 colon.0 colon.1 (map Number read.numbers) read.fills);
    }

pub record WidthRead (columns : ℕ) (words : List Text) (given : Given) : Type 0 where
  pub k : ℕ
  pub is : given ≡ Complete columns k
  pub small : k < 2 ^ 32
  pub fills : FillsAll (Number columns ∷ Number k ∷ []) words

pub complete_fills : (columns : ℕ) (words : List Text) (given : Given) → complete_of columns words ≡ Ok given → WidthRead columns words given
unfolding complete_of after_objects
complete_fills columns words given h =
    let v = bind_ok (after_objects columns words) _ given h in
    let k = bind_ok (next_number v.0) _ given v.2 in
    let end = bind_ok (at_end k.0.1) _ given k.2 in
    let read = number_read v.0 k.0.0 k.0.1 k.1 in
    record {
      k = k.0.0;
      is = sym (ok_same (Complete columns k.0.0) given end.2);
      small = read.small;
      fills = number_fills words columns v.0 (wanted_read columns 4 words v.0 v.1) (Number k.0.0 ∷ []) (number_fills v.0 k.0.0 k.0.1 read [] (end_fills k.0.1 end.0 end.1));
    }
