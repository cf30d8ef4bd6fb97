-- Calls that came between two moments, and behind them others.
use Rattle.std.proofs.Common.{◌∙◌, List, [], ◌∷◌, ◌++◌, Option, Some, None, ap, sym, append_assoc, append-nil}
use Rattle.std.specs.Prelude.{All}
use Rattle.std.proofs.lemmas.List.Elements.{All-append, All-cons, All-nil}
use Rattle.blk_disk.specs.declared.disk.Call.{Call}
use Rattle.blk_disk.specs.Disk.{Tells}
use Rattle.top_close.specs.Calls.{MoreOn}

-- none came
pub more-none : (P : List Call → Type 0) (a : Option (List Call)) → P [] → MoreOn P a a
more-none P None h = tt
more-none P (Some cs) h = ([], sym (append-nil cs), h)

-- one came
pub more-one : (P : List Call → Type 0) (call : Call) (a b : Option (List Call)) → P (call ∷ []) → Tells a b call → MoreOn P a b
more-one P call a None h told = tt
more-one P call None (Some bs) h told = absurd told
more-one P call (Some xs) (Some bs) h told = (call ∷ [], told, h)

-- those of two stages
pub more-then : (P Q R : List Call → Type 0) (a b c : Option (List Call)) → ((xs ys : List Call) → P xs → Q ys → R (xs ++ ys)) → MoreOn P a b → MoreOn Q b c → MoreOn R a c
more-then P Q R a b None both one two = tt
more-then P Q R None None (Some cs) both one two = absurd two
more-then P Q R None (Some bs) (Some cs) both one two = absurd one
more-then P Q R (Some xs) None (Some cs) both one two = absurd two
more-then P Q R (Some xs) (Some bs) (Some cs) both one two =
    (one.0 ++ two.0, two.1 ∙ (ap (λ (l : List Call). l ++ two.0) one.1 ∙ append_assoc xs one.0 two.0), both one.0 two.0 one.2 two.2)

-- of calls each of which is so
pub more_all-none : (P : Call → Type 0) (a : Option (List Call)) → MoreOn (All P) a a
more_all-none P a = more-none (All P) a (All-nil P)

pub more_all-one : (P : Call → Type 0) (call : Call) (a b : Option (List Call)) → P call → Tells a b call → MoreOn (All P) a b
more_all-one P call a b h told = more-one (All P) call a b (All-cons P call [] h (All-nil P)) told

pub more_all-then : (P : Call → Type 0) (a b c : Option (List Call)) → MoreOn (All P) a b → MoreOn (All P) b c → MoreOn (All P) a c
more_all-then P a b c one two = more-then (All P) (All P) (All P) a b c (All-append P) one two

-- said in other words
pub more_as : (P Q : List Call → Type 0) (a b : Option (List Call)) → ((xs : List Call) → P xs → Q xs) → MoreOn P a b → MoreOn Q a b
more_as P Q a None says h = tt
more_as P Q None (Some bs) says h = h
more_as P Q (Some xs) (Some bs) says h = (h.0, h.1, says h.0 h.2)
