-- The calls of rounds that follow one another.
use Rattle.std.proofs.Common.{◌≡◌, ℕ, ◌+◌, ◌≤◌, Bool, true, false, cond, List, [], ◌∷◌, ◌++◌, Option, refl, sym, ap, subst, arith}
use Rattle.std.specs.Prelude.{All}
use Rattle.std.proofs.lemmas.List.Elements.{All-append, All-cons, All-head, All-nil, All-tail}
use Rattle.std.proofs.lemmas.List.Sums.{sum_by-append, sum_by-cons}
use Rattle.blk_disk.specs.declared.disk.Call.{Call}
use Rattle.blk_disk.specs.Disk.{Tells, call_of}
use Rattle.top_close.specs.Calls.{MoreOn}
use Rattle.top_close.proofs.CallLaws.{more-none, more-one, more-then, more_as}
use Rattle.top_rounds.specs.Calls.{EndsBy, IsLabelled, WritesTo, WritesUntil, WritesSome, WritesWell, WritesWithin, label_writes}
use Rattle.top_rounds.proofs.Words.{is_label_write}

-- one write more, behind such as went well
pub well-to : (good : Bool) (a b c : Option (List Call)) → WritesWell a b → Tells b c (call_of 1 0 512 good) → WritesTo good a c
well-to good a b c one two =
    let last : List Call = call_of 1 0 512 good ∷ [] in
    more-then (All IsLabelled) (λ calls. calls ≡ last) (EndsBy good) a b c (λ xs ys well is. (xs, subst (λ l. xs ++ l ≡ xs ++ last) (sym is) refl, well)) one
    (more-one (λ calls. calls ≡ last) (call_of 1 0 512 good) b c refl two)

-- and that one went well too
pub to-well : (a b : Option (List Call)) → WritesTo true a b → WritesWell a b
to-well a b h =
    let last : List Call = call_of 1 0 512 true ∷ [] in
    more_as (EndsBy true) (All IsLabelled) a b (λ calls e. subst (All IsLabelled) (sym e.1) (All-append IsLabelled e.0 last e.2 (All-cons IsLabelled (call_of 1 0 512 true) [] refl (All-nil IsLabelled)))) h

pub to-until : (good : Bool) (a b : Option (List Call)) → WritesTo good a b → WritesUntil good a b
to-until true a b h = to-well a b h
to-until false a b h = h

-- ## How many labels are written

one_if_write : Call → ℕ
one_if_write call = cond (is_label_write call) 1 0

pub writes-append : (xs ys : List Call) → label_writes (xs ++ ys) ≡ label_writes xs + label_writes ys
unfolding label_writes
writes-append xs ys = sum_by-append (λ c. cond (is_label_write c) 1 0) xs ys

writes-none : label_writes [] ≡ 0
unfolding label_writes
writes-none = refl

writes-cons : (call : Call) (calls : List Call) → label_writes (call ∷ calls) ≡ one_if_write call + label_writes calls
unfolding label_writes one_if_write
writes-cons call calls = sum_by-cons (λ c. cond (is_label_write c) 1 0) call calls

none_written : (call : Call) → is_label_write call ≡ false → one_if_write call ≡ 0
unfolding one_if_write
none_written call h = go (is_label_write call) h
  where
    go : (b : Bool) → b ≡ false → cond {A = ℕ} b 1 0 ≡ 0
    go false h = refl
    go true h = let z : true ≡ false = h in absurd (let u : ⊥ = cc in u)

-- calls none of which writes a label
pub writes-other : (P : Call → Type 0) → ((call : Call) → P call → is_label_write call ≡ false) → (calls : List Call) → All P calls → label_writes calls ≡ 0
writes-other P other [] all = writes-none
writes-other P other (x ∷ xs) all = omega (arith, writes-cons x xs, none_written x (other x (All-head P x xs all)), writes-other P other xs (All-tail P x xs all))

one_written : (good : Bool) → label_writes (call_of 1 0 512 good ∷ []) ≡ 1
unfolding one_if_write
one_written good =
    let one : one_if_write (call_of 1 0 512 good) ≡ 1 = refl in
    omega (arith, one, writes-cons (call_of 1 0 512 good) [], writes-none)

-- no call came
pub within-none : (n m : ℕ) (a : Option (List Call)) → n ≤ m → WritesWithin n m a a
within-none n m a h = more-none (λ more. n + label_writes more ≤ m) a (omega (arith, h, writes-none))

-- one label was written
pub within-one : (good : Bool) (a b : Option (List Call)) → Tells a b (call_of 1 0 512 good) → WritesWithin 0 1 a b
within-one good a b told = more-one (λ more. 0 + label_writes more ≤ 1) (call_of 1 0 512 good) a b (omega (arith, one_written good)) told

-- calls none of which writes a label
pub within-other : (P : Call → Type 0) → ((call : Call) → P call → is_label_write call ≡ false) → (n : ℕ) (a b : Option (List Call)) → MoreOn (All P) a b → WritesWithin n n a b
within-other P other n a b on = more_as (All P) (λ more. n + label_writes more ≤ n) a b (λ calls all. omega (arith, writes-other P other calls all)) on

-- counted from another number on
pub within_as : (n m k l : ℕ) (a b : Option (List Call)) → k + m ≤ l + n → WritesWithin n m a b → WritesWithin k l a b
within_as n m k l a b h on = more_as (λ more. n + label_writes more ≤ m) (λ more. k + label_writes more ≤ l) a b (λ calls few. omega (arith, h, few)) on

-- those of two stages
pub within-then : (n m l : ℕ) (a b c : Option (List Call)) → WritesWithin n m a b → WritesWithin m l b c → WritesWithin n l a c
within-then n m l a b c one two =
    more-then (λ more. n + label_writes more ≤ m) (λ more. m + label_writes more ≤ l) (λ more. n + label_writes more ≤ l) a b c (λ xs ys few more. omega (arith, few, more, writes-append xs ys)) one two

-- the last of such writes is one
pub some-to : (good : Bool) (a b : Option (List Call)) → WritesTo good a b → WritesSome a b
some-to good a b on =
    more_as (EndsBy good) (λ more. 1 ≤ label_writes more) a b (λ calls e. omega (arith, ap label_writes e.1, writes-append e.0 (call_of 1 0 512 good ∷ []), one_written good)) on

-- whatever came before
pub some-behind : (P : List Call → Type 0) (a b c : Option (List Call)) → MoreOn P a b → WritesSome b c → WritesSome a c
some-behind P a b c one two = more-then P (λ more. 1 ≤ label_writes more) (λ more. 1 ≤ label_writes more) a b c (λ xs ys _ some. omega (arith, some, writes-append xs ys)) one two

-- or behind it
pub some-before : (P : List Call → Type 0) (a b c : Option (List Call)) → WritesSome a b → MoreOn P b c → WritesSome a c
some-before P a b c one two = more-then (λ more. 1 ≤ label_writes more) P (λ more. 1 ≤ label_writes more) a b c (λ xs ys some _. omega (arith, some, writes-append xs ys)) one two
