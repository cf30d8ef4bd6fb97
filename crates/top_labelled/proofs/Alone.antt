-- A column that dies beside none that is filling leaves the others what they were.
use Rattle.std.proofs.Common.{◌≡◌, inl, inr, ℕ, zero, suc, ◌<◌, List, Bool, true, false, length, Option, Some, None, option_map, slice_get, refl, sym, ◌∙◌, ap, subst, arith}
use Rattle.std.specs.Prelude.{slice_set}
use Rattle.std.proofs.lemmas.Bool.{cases_eq}
use Rattle.std.proofs.lemmas.List.{length-map, length-set}
use Rattle.std.proofs.lemmas.Option.{slice_get-get_or, slice_get-map}
use Rattle.lay_core.specs.Layout.{Shape}
use Rattle.eng_cols.specs.declared.column.Column.{Column}
use Rattle.eng_cols.specs.declared.column.Column.TheVariants as column
use Rattle.eng_cols.specs.Changes.{killed}
use Rattle.eng_cols.specs.Cols.{ColumnState, Dead, is_done, is_done_on, state_set}
use Rattle.eng_cols.specs.Stripes.{filled_in, states_of}
use Rattle.eng_cols.proofs.Lists.{get_set_other, get_set_same}
use Rattle.top_acts.specs.Alive.{IsWithout}
use Rattle.top_close.specs.Closes.{FillingEnds, SpreadEnds}
use Rattle.top_close.proofs.SettledLaws.{set_here}
use Rattle.top_labelled.proofs.Lists.{same-list}
use Rattle.eng_cols.proofs.Words.{all_done}

pub done-all : (n s : ℕ) → s < n → is_done (all_done n) s ≡ true
done-all zero s lt = absurd (omega (arith, lt))
done-all (suc n) zero lt = refl
done-all (suc n) (suc s) lt = done-all n s (omega (arith, lt))

module _ (y : Shape) (cols mids : List ColumnState) (k : ℕ) (mid : Option ColumnState) (kept : Option Column) where
  -- a column that isn't filling is kept as it is set
  pub kept-as : (l : List Bool) (x : Option Column) → ((d m : ℕ) → x ≡ Some (column.Filling d m) → ⊥) → (x ≡ Some column.Spread → (s : ℕ) → s < y.stripes → is_done_on (slice_get cols k) s ≡ true)
      → SpreadEnds y cols k (option_map (state_set y.stripes l) x) mid → FillingEnds y mids k mid kept → kept ≡ x
  kept-as l None not all e f = subst (λ (o : Option ColumnState). FillingEnds y mids k o kept) e f
  kept-as l (Some (column.Live d)) not all e f = subst (λ (o : Option ColumnState). FillingEnds y mids k o kept) e f
  kept-as l (Some column.Dead) not all e f = subst (λ (o : Option ColumnState). FillingEnds y mids k o kept) e f
  kept-as l (Some (column.Filling d m)) not all e f = absurd (not d m refl)
  kept-as l (Some column.Spread) not all (inl e) f = subst (λ (o : Option ColumnState). FillingEnds y mids k o kept) e.1 f
  kept-as l (Some column.Spread) not all (inr e) f = let z : true ≡ false = sym (all refl e.0.stripe e.0.within) ∙ e.0.left in absurd (let u : ⊥ = cc in u)

  pub dead-as : SpreadEnds y cols k (Some Dead) mid → FillingEnds y mids k mid kept → kept ≡ Some column.Dead
  dead-as e f = subst (λ (o : Option ColumnState). FillingEnds y mids k o kept) e f

module _ (y : Shape) (columns after : List Column) (c : ℕ) (w : IsWithout y c columns after) (within : c < length columns) (alone : (k d m : ℕ) → slice_get columns k ≡ Some (column.Filling d m) → k ≡ c) where
  abbrev cols : List ColumnState
  cols = killed (states_of y columns) c

  here : slice_get cols c ≡ Some Dead
  here =
      let long = length-map columns (state_set y.stripes (filled_in y columns)) in
      get_set_same (states_of y columns) c _ Dead (slice_get-get_or (states_of y columns) c Dead (omega (arith, within, long)))

  at : (k : ℕ) → (k ≡ c → ⊥) → slice_get cols k ≡ option_map (state_set y.stripes (filled_in y columns)) (slice_get columns k)
  at k ne = get_set_other (states_of y columns) c k Dead ne ∙ slice_get-map (state_set y.stripes (filled_in y columns)) columns k

  each : (k : ℕ) → slice_get after k ≡ slice_get (slice_set columns c column.Dead) k
  each k = elim (cases_eq k c) [
    | inl e ↦
        dead-as y cols w.kept.mid k (slice_get w.kept.mid k) (slice_get after k)
        (subst (λ (o : Option ColumnState). SpreadEnds y cols k o (slice_get w.kept.mid k)) (ap (slice_get cols) e ∙ here) (w.kept.spread k)) (w.kept.filling k)
        ∙ sym (ap (slice_get (slice_set columns c column.Dead)) e ∙ set_here columns c column.Dead within)
    | inr ne ↦
        kept-as y cols w.kept.mid k (slice_get w.kept.mid k) (slice_get after k) (filled_in y columns) (slice_get columns k) (λ d m is. ne (alone k d m is))
        (λ is s lt. ap (λ (o : Option ColumnState). is_done_on o s) (at k ne ∙ ap (option_map (state_set y.stripes (filled_in y columns))) is) ∙ done-all y.stripes s lt)
        (subst (λ (o : Option ColumnState). SpreadEnds y cols k o (slice_get w.kept.mid k)) (at k ne) (w.kept.spread k)) (w.kept.filling k)
        ∙ sym (get_set_other columns c k column.Dead ne)
  ]

  pub without-is : after ≡ slice_set columns c column.Dead
  without-is = let long = length-set columns c column.Dead in let same = w.entries in same-list after (slice_set columns c column.Dead) (omega (arith, long, same)) each
