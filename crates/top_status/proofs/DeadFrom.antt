-- The lines of the dead columns from one on.
use Rattle.std.proofs.Common.{◌≡◌, ◌∙◌, ℕ, suc, ◌+◌, ◌-◌, ◌<◌, ◌≤◌, Bool, true, false, cond, List, [], ◌∷◌, ◌++◌, length, get_or, Some, ap, sym, subst, arith}
use Rattle.std.specs.Prelude.{filter, flat_map, slice_get}
use Rattle.std.specs.List.{range_with_len}
use Rattle.raid_bay.specs.Sink.{Puts}
use Rattle.raid_bay.specs.SinkLaws.{puts_then, puts_cut}
use Rattle.std.proofs.lemmas.Option.{slice_get-get_or}
use Rattle.eng_cols.specs.declared.column.Column.{Column}
use Rattle.top_status.specs.Steps.{dead_line, is_dead_column}

-- the dead columns of so many from one on
abbrev dead_among : List Column → ℕ → ℕ → List ℕ
dead_among columns c n = filter (λ k. is_dead_column (slice_get columns k)) (range_with_len c n)

-- their lines, to the last column
abbrev pub dead_from : ℕ → List Column → List ℕ
dead_from c columns = flat_map dead_line (dead_among columns c (length columns - c))

dead_step : (columns : List Column) (c : ℕ) → c < length columns → dead_from c columns ≡ flat_map dead_line (cond (is_dead_column (slice_get columns c)) (c ∷ dead_among columns (c + 1) (length columns - (c + 1))) (dead_among columns (c + 1) (length columns - (c + 1))))
dead_step columns c h =
    let left : length columns - c ≡ suc (length columns - (c + 1)) = omega arith in
    ap (λ (n : ℕ). flat_map dead_line (dead_among columns c n)) left

-- a dead column, and those behind it
pub dead_more : (columns : List Column) (c : ℕ) (d : Column) → c < length columns → is_dead_column (Some (get_or columns c d)) ≡ true → dead_from c columns ≡ dead_line c ++ dead_from (c + 1) columns
dead_more columns c d h is = dead_step columns c h ∙ ap (λ (b : Bool). flat_map dead_line (cond b (c ∷ dead_among columns (c + 1) (length columns - (c + 1))) (dead_among columns (c + 1) (length columns - (c + 1))))) (ap is_dead_column (slice_get-get_or columns c d h) ∙ is)

-- a column that isn't dead
pub dead_less : (columns : List Column) (c : ℕ) (d : Column) → c < length columns → is_dead_column (Some (get_or columns c d)) ≡ false → dead_from c columns ≡ dead_from (c + 1) columns
dead_less columns c d h is = dead_step columns c h ∙ ap (λ (b : Bool). flat_map dead_line (cond b (c ∷ dead_among columns (c + 1) (length columns - (c + 1))) (dead_among columns (c + 1) (length columns - (c + 1))))) (ap is_dead_column (slice_get-get_or columns c d h) ∙ is)

-- no column is left
pub dead_none : (columns : List Column) (c : ℕ) → length columns ≤ c → dead_from c columns ≡ []
dead_none columns c h = let none : length columns - c ≡ 0 = omega arith in ap (λ (n : ℕ). flat_map dead_line (dead_among columns c n)) none

-- the front of a text was put, and then what is left of it
pub puts_on : (b : Bool) (old mid new text front rest : List ℕ) → text ≡ front ++ rest → Puts true old front mid → Puts b mid rest new → Puts b old text new
puts_on b old mid new text front rest is one two = subst (λ (t : List ℕ). Puts b old t new) (sym is) (puts_then b old mid new front rest one two)

-- the front of a text was cut short
pub puts_off : (old new text front rest : List ℕ) → text ≡ front ++ rest → Puts false old front new → Puts false old text new
puts_off old new text front rest is one = subst (λ (t : List ℕ). Puts false old t new) (sym is) (puts_cut old new front rest one)
