-- The seats of columns, one after the other, and what else a round says of them.
use Rattle.std.proofs.Common.{◌≡◌, ◌∙◌, ℕ, zero, suc, ◌+◌, ◌-◌, ◌<◌, ◌≤◌, Bool, true, false, List, [], ◌∷◌, ◌++◌, length, get_or, take, drop, map, refl, sym, ap, inr, arith, append_assoc}
use Rattle.std.specs.Prelude.{replicate, set, if◌then◌else◌}
use Rattle.std.proofs.lemmas.List.{length-map, length-take-le, map-append, set_at, take_more}
use Rattle.std.proofs.lemmas.Option.{slice_get-get_or}
use Rattle.eng_cols.specs.declared.column.Column.{Column}
use Rattle.eng_cols.specs.declared.column.Column.TheVariants as column
use Rattle.eng_cols.specs.Cols.{is_set_filling}
use Rattle.eng_cols.proofs.Counting.{drop-get}
use Rattle.raid_label.specs.declared.label.Label.{Label}
use Rattle.top_rounds.specs.Labels.{IsLabelFor, done_in, filling_from, seating_of, with_round}

-- so far each column has its number, and all places behind have 0
pub seats_more : (f : Column → ℕ) (columns : List Column) (seats : List ℕ) (i x : ℕ) (d : Column) → i < length columns → i < 32 → x ≡ f (get_or columns i d)
    → seats ≡ map f (take i columns) ++ replicate (32 - i) 0 → set seats i x ≡ map f (take (i + 1) columns) ++ replicate (32 - (i + 1)) 0
seats_more f columns seats i x d within small is so_far =
    let count : length (map f (take i columns)) ≡ i = length-map (take i columns) f ∙ length-take-le i columns (omega arith) in
    let left : 32 - i ≡ suc (32 - (i + 1)) = omega arith in
    let split : seats ≡ map f (take i columns) ++ 0 ∷ replicate (32 - (i + 1)) 0 = so_far ∙ ap (λ (n : ℕ). map f (take i columns) ++ replicate n 0) left in
    let front : map f (take (i + 1) columns) ≡ map f (take i columns) ++ x ∷ [] =
    ap (map f) (take_more columns i d within) ∙ map-append f (take i columns) (get_or columns i d ∷ []) ∙ ap (λ (n : ℕ). map f (take i columns) ++ n ∷ []) (sym is) in
    ap (λ (l : List ℕ). set l i x) split
    ∙ set_at (map f (take i columns)) 0 (replicate (32 - (i + 1)) 0) x i count
    ∙ sym (append_assoc (map f (take i columns)) (x ∷ []) (replicate (32 - (i + 1)) 0))
    ∙ ap (λ (l : List ℕ). l ++ replicate (32 - (i + 1)) 0) (sym front)

-- ## The column that is filling

-- one that isn't filling is passed over
pub filling_next : (x : Column) (xs : List Column) (c : ℕ) → is_set_filling x ≡ false → (filling_from (x ∷ xs) c ≡ filling_from xs (c + 1)) × (done_in (x ∷ xs) ≡ done_in xs)
filling_next (column.Live d) xs c h = (ap (filling_from xs) (let e : suc c ≡ c + 1 = omega arith in e), refl)
filling_next column.Dead xs c h = (ap (filling_from xs) (let e : suc c ≡ c + 1 = omega arith in e), refl)
filling_next (column.Filling d done) xs c h = let z : true ≡ false = h in absurd (let u : ⊥ = cc in u)
filling_next column.Spread xs c h = (ap (filling_from xs) (let e : suc c ≡ c + 1 = omega arith in e), refl)

-- so is one that stands there
pub filling_skip : (xs : List Column) (n : ℕ) (d : Column) → n < length xs → is_set_filling (get_or xs n d) ≡ false → (filling_from (drop n xs) n ≡ filling_from (drop (n + 1) xs) (n + 1)) × (done_in (drop n xs) ≡ done_in (drop (n + 1) xs))
filling_skip xs n d lt not =
    let rest = drop-get xs n (get_or xs n d) (slice_get-get_or xs n d lt) in
    let next = filling_next (get_or xs n d) (drop (n + 1) xs) n not in
    (ap (λ l. filling_from l n) rest ∙ next.0, ap done_in rest ∙ next.1)

-- the number of a column, or none
filling_few : (columns : List Column) (c : ℕ) → filling_from columns c ≤ c + length columns
filling_few [] c = omega arith
filling_few (x ∷ columns) c = go (is_set_filling x) (filling_few columns (suc c))
  where
    go : (b : Bool) → filling_from columns (suc c) ≤ suc c + length columns → (if b then c + 1 else filling_from columns (suc c)) ≤ c + length (x ∷ columns)
    go true rest = omega arith
    go false rest = omega (arith, rest)

-- where none is filling no stripe is done
done_none : (columns : List Column) (c : ℕ) → filling_from columns c ≡ 0 → done_in columns ≡ 0
done_none [] c h = refl
done_none (column.Live d ∷ columns) c h = done_none columns (suc c) h
done_none (column.Dead ∷ columns) c h = done_none columns (suc c) h
done_none (column.Filling d done ∷ columns) c h = absurd (omega (arith, h))
done_none (column.Spread ∷ columns) c h = done_none columns (suc c) h

-- the label of a round may be written
pub held_round : (columns : List Column) (label : Label) (counter clean : ℕ) → clean ≤ 1 → IsLabelFor columns label → IsLabelFor columns (with_round label counter clean (seating_of columns))
held_round columns label counter clean few for = record {
  held = record {
    version = inr refl;
    clean = few;
    filling = let most = filling_few columns 0 in let n = for.count in omega (arith, most, n);
    done = done_none columns 0;
    first = λ e. let z : 2 ≡ 1 = e in omega (arith, z);
  };
  count = for.count;
}

-- ## The columns that are given up, one after the other

pub gives_more : (f : Column → Column) (xs : List Column) (i : ℕ) (d x : Column) → i < length xs → x ≡ f (get_or xs i d) → set (map f (take i xs) ++ drop i xs) i x ≡ map f (take (i + 1) xs) ++ drop (i + 1) xs
gives_more f [] i d x lt is = absurd (omega (arith, lt))
gives_more f (y ∷ xs) zero d x lt is = ap (λ z. z ∷ xs) is
gives_more f (y ∷ xs) (suc i) d x lt is = let next : suc i + 1 ≡ suc (i + 1) = omega arith in rw next (ap (λ l. f y ∷ l) (gives_more f xs i d x (omega (arith, lt)) is))

pub still_there : (f : Column → Column) (xs : List Column) (i : ℕ) (d : Column) → i < length xs → get_or (map f (take i xs) ++ drop i xs) i d ≡ get_or xs i d
still_there f [] i d lt = absurd (omega (arith, lt))
still_there f (y ∷ xs) zero d lt = refl
still_there f (y ∷ xs) (suc i) d lt = still_there f xs i d (omega (arith, lt))
