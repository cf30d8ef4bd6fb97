use Rattle.std.proofs.Common.{◌≡◌, ◌<◌, ◌≤◌, ◌+◌, ◌++◌, [], ◌∷◌, ◌∙◌, ℕ, zero, suc, List, Option, Some, None, length, length-append, slice_get, sym, ap, subst, refl, arith, inl, inr}
use Rattle.std.specs.Prelude.{option_map}
use Rattle.std.proofs.lemmas.Bool.{cases_eq}
use Rattle.eng_cols.specs.declared.column.Column.{Column}
use Rattle.eng_cols.specs.Cols.{column_with}
use Rattle.eng_cols.specs.Stripes.{leading}
use Rattle.eng_events.proofs.closes.list_columns.Goals as goal

get-left : {X : Type 0} (xs : List X) (x : X) (k : ℕ) → k < length xs → slice_get (xs ++ x ∷ []) k ≡ slice_get xs k
get-left [] x k lt = absurd (omega (arith, lt))
get-left (z ∷ xs) x zero lt = refl
get-left (z ∷ xs) x (suc k) lt = get-left xs x k (omega (arith, lt))

get-last : {X : Type 0} (xs : List X) (x : X) (k : ℕ) → k ≡ length xs → slice_get (xs ++ x ∷ []) k ≡ Some x
get-last [] x k e = ap (slice_get (x ∷ [])) e
get-last (z ∷ xs) x zero e = absurd (omega (arith, e))
get-last (z ∷ xs) x (suc k) e = get-last xs x k (omega (arith, e))

pub loop-column-init : goal.loop-column-init
loop-column-init g c = record {
  count = ap length c.requires.empty;
  each = λ k lt. absurd (omega (arith, lt));
  room = c.requires.room;
}

pub loop-column-preserved : goal.loop-column-preserved
loop-column-preserved g c = record {
  count = ap length c.push_reserved.ensures.items ∙ length-append c.loop-column.columns.items (c.column.result ∷ []) ∙ ap (λ (n : ℕ). n + 1) c.loop-column.invariant.count;
  each = λ k lt. elim (cases_eq k c.loop-column.column) [
    | inl e ↦
        ap (λ (j : ℕ). option_map (column_with (leading (g.L.Layout.shape c.args.layout.now) c.args.cols.now.states j)) (slice_get c.args.cols.now.states j)) e ∙ c.column.ensures.column
        ∙ sym (ap (λ (l : List Column). slice_get l k) c.push_reserved.ensures.items ∙ get-last c.loop-column.columns.items c.column.result k (e ∙ sym c.loop-column.invariant.count))
    | inr ne ↦
        let here : k < c.loop-column.column = omega (arith, lt, ne) in
        c.loop-column.invariant.each k here
        ∙ sym (ap (λ (l : List Column). slice_get l k) c.push_reserved.ensures.items ∙ get-left c.loop-column.columns.items c.column.result k (let n = c.loop-column.invariant.count in omega (arith, here, n)))
  ];
  room = let same = c.push_reserved.ensures.capacity in let room = c.loop-column.invariant.room in omega (arith, same, room);
}

pub returns : goal.returns
returns g c =
    let fit = c.requires.fit.columns in
    let n = c.loop-column.invariant.count in
    let all : c.loop-column.column ≡ length c.args.cols.now.states = omega (arith, c.loop-column-test.false, c.columns-column-end.ensures, fit) in
    record { count = n ∙ all; each = λ k lt. c.loop-column.invariant.each k (omega (arith, lt, all)) }
