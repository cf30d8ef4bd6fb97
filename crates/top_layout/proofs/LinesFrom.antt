-- The lines from one on.
use Rattle.std.proofs.Common.{◌≡◌, ℕ, suc, ◌+◌, ◌-◌, ◌<◌, ◌≤◌, Bool, true, false, List, ◌++◌, append-nil, ap, sym, subst, arith}
use Rattle.std.specs.Prelude.{flat_map}
use Rattle.std.specs.List.{range_with_len}
use Rattle.raid_bay.specs.Sink.{Puts}
use Rattle.raid_bay.specs.SinkLaws.{puts_then, puts_cut}

-- those of n from c on
abbrev pub lines_from : (ℕ → List ℕ) → ℕ → ℕ → List ℕ
lines_from line c n = flat_map line (range_with_len c (n - c))

more : (line : ℕ → List ℕ) (c n : ℕ) → c < n → lines_from line c n ≡ line c ++ lines_from line (c + 1) n
more line c n h = let left : n - c ≡ suc (n - (c + 1)) = omega arith in ap (λ (k : ℕ). flat_map line (range_with_len c k)) left

-- those from the first on are all
pub line_first : (line : ℕ → List ℕ) (n : ℕ) (b : Bool) (old new : List ℕ) → Puts b old (lines_from line 0 n) new → Puts b old (flat_map line (range_with_len 0 n)) new
line_first line n b old new h = let all : n - 0 ≡ n = omega arith in subst (λ (k : ℕ). Puts b old (flat_map line (range_with_len 0 k)) new) all h

-- one was put, and then what is left
pub line_put : (line : ℕ → List ℕ) (c n : ℕ) (b : Bool) (old mid new : List ℕ) → c < n → Puts true old (line c) mid → Puts b mid (lines_from line (c + 1) n) new → Puts b old (lines_from line c n) new
line_put line c n b old mid new h one rest = subst (λ (t : List ℕ). Puts b old t new) (sym (more line c n h)) (puts_then b old mid new (line c) (lines_from line (c + 1) n) one rest)

-- it was cut short
pub line_cut : (line : ℕ → List ℕ) (c n : ℕ) (old new : List ℕ) → c < n → Puts false old (line c) new → Puts false old (lines_from line c n) new
line_cut line c n old new h one = subst (λ (t : List ℕ). Puts false old t new) (sym (more line c n h)) (puts_cut old new (line c) (lines_from line (c + 1) n) one)

-- none is left
pub line_none : (line : ℕ → List ℕ) (c n : ℕ) (old : List ℕ) → n ≤ c → Puts true old (lines_from line c n) old
line_none line c n old h = let none : n - c ≡ 0 = omega arith in subst (λ (k : ℕ). Puts true old (flat_map line (range_with_len c k)) old) (sym none) (sym (append-nil old))
