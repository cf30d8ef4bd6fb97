-- A stripe becomes done on a column by a rebuild of it alone.
use Rattle.std.proofs.Common.{◌≡◌, ◌⊎◌, inl, inr, ℕ, zero, suc, List, [], ◌∷◌, Bool, true, false, Option, Some, None, slice_get, slice_set, length, refl, sym, ◌∙◌, ap, subst}
use Rattle.std.proofs.lemmas.Bool.{cases_eq, cases_Bool, cond-true, cond-false}
use Rattle.blk_plain.specs.declared.op.Op.{Op}
use Rattle.blk_plain.specs.declared.op.Op.TheVariants as op
use Rattle.lay_core.specs.Layout.{Shape}
use Rattle.eng_cols.specs.declared.spot.Loss.{Loss}
use Rattle.eng_cols.specs.Cols.{ColumnState, Live, Dead, Filling, Spread, is_done, is_done_on, none_done}
use Rattle.eng_cols.specs.Changes.{done_on, killed, IsEnded}
use Rattle.eng_cols.specs.Seats.{is_unit_of}
use Rattle.eng_cols.proofs.Lists.{get_set_same, get_set_other}
use Rattle.eng_world.specs.declared.item.Item.{Item}
use Rattle.eng_world.specs.declared.item.Item.TheVariants as item
use Rattle.eng_world.specs.declared.item.Traced.{Traced}
use Rattle.eng_world.specs.declared.item.Traced.TheVariants as event
use Rattle.eng_world.specs.World.{World, item_now, op_now, op_of}
use Rattle.eng_world.specs.Planning.{Graphs}
use Rattle.eng_world.specs.Nodes.{ColumnsAfter, Terminates}
use Rattle.eng_world.specs.Step.{column_begun, Step, StepBy, StepIn, StepLost, EventsLead}
use Rattle.eng_world.specs.Continuing.{Continues}
use Rattle.eng_world.specs.Rebuilding.{IsAskedFor, OnlyAskedAreDone}
use Rattle.eng_world.proofs.Shared.{no}
use Rattle.eng_world.proofs.Moves.{Move, Moves, one, two, replies, waits, takes, fires, skips, works, commits, ends, fails, anew, gives, dies, starts, home, moves}
use Rattle.eng_world.proofs.Continuing.{step-continues}
use Rattle.eng_world.proofs.Caused.{item-still}
use Rattle.eng_world.proofs.Carrying.{starts-none}

-- of a list that is none done none is done
pub none-done : (n s : ℕ) → is_done (none_done n) s ≡ false
none-done zero s = refl
none-done (suc n) zero = refl
none-done (suc n) (suc s) = none-done n s

-- one stripe more in a list
set-done : (l : List Bool) (s t : ℕ) → is_done (slice_set l s true) t ≡ true → (is_done l t ≡ true) ⊎ (t ≡ s)
set-done [] s t h = inl h
set-done (x ∷ l) zero zero h = inr refl
set-done (x ∷ l) zero (suc t) h = inl h
set-done (x ∷ l) (suc s) zero h = inl h
set-done (x ∷ l) (suc s) (suc t) h = elim (set-done l s t h) [ inl e ↦ inl e | inr e ↦ inr (ap suc e) ]

-- and on a column
done-more : (o : Option ColumnState) (s t : ℕ) → is_done_on (done_on o s) t ≡ true → (is_done_on o t ≡ true) ⊎ (t ≡ s)
done-more (Some (Live device)) s t h = inl h
done-more (Some Dead) s t h = inl h
done-more (Some (Filling device done)) s t h = set-done done s t h
done-more (Some (Spread done)) s t h = set-done done s t h
done-more None s t h = inl h

-- a dead column has none
killed-done : (cols : List ColumnState) (k c s : ℕ) → is_done_on (slice_get (killed cols k) c) s ≡ true → is_done_on (slice_get cols c) s ≡ true
killed-done cols k c s h = elim (cases_eq c k) [
  | inr ne ↦ ap (λ o. is_done_on o s) (sym (get_set_other cols k c Dead ne)) ∙ h
  | inl e ↦ at (slice_get cols k) refl e
]
  where
    at : (o : Option ColumnState) → slice_get cols k ≡ o → c ≡ k → is_done_on (slice_get cols c) s ≡ true
    at (Some x) is e = no (sym h ∙ (ap (λ j. is_done_on (slice_get (slice_set cols k Dead) j) s) e ∙ ap (λ o. is_done_on o s) (get_set_same cols k x Dead is)))
    at None is e = no (sym h ∙ (ap (λ j. is_done_on (slice_get (slice_set cols k Dead) j) s) e ∙ ap (λ o. is_done_on o s) (none-set cols k Dead is)))
      where
        none-set : (l : List ColumnState) (i : ℕ) (x : ColumnState) → slice_get l i ≡ None → slice_get (slice_set l i x) i ≡ None
        none-set [] i x e = refl
        none-set (y ∷ l) zero x e = let z : Some y ≡ None = e in absurd (let u : ⊥ = cc in u)
        none-set (y ∷ l) (suc i) x e = none-set l i x e

-- one that begins, on which none is done, has none
begun-done : (cols : List ColumnState) (k : ℕ) (x : ColumnState) (c s : ℕ) → slice_get cols k ≡ Some Dead → ((t : ℕ) → is_done_on (Some x) t ≡ false) → is_done_on (slice_get (slice_set cols k x) c) s ≡ true → is_done_on (slice_get cols c) s ≡ true
begun-done cols k x c s dead none h = elim (cases_eq c k) [
  | inr ne ↦ ap (λ o. is_done_on o s) (sym (get_set_other cols k c x ne)) ∙ h
  | inl e ↦ no (sym h ∙ (ap (λ j. is_done_on (slice_get (slice_set cols k x) j) s) e ∙ ap (λ o. is_done_on o s) (get_set_same cols k Dead x dead)) ∙ none s)
]

module _ (y : Shape) (graphs : Graphs) where
  abbrev any : World → Type 0
  any w = Unit {0}

  -- what it does to a stripe that it was or wasn't done
  abbrev Came : World → World → ℕ → ℕ → Type 0
  Came old new c s = (is_done_on (slice_get old.columns c) s ≡ true) ⊎ IsAskedFor old s

  same-done : (old new : World) → new.columns ≡ old.columns → (c s : ℕ) → is_done_on (slice_get new.columns c) s ≡ true → Came old new c s
  same-done old new e c s h = inl (ap (λ (l : List ColumnState). is_done_on (slice_get l c) s) (sym e) ∙ h)

  dead-done : (old new : World) (k : ℕ) → new.columns ≡ killed old.columns k → (c s : ℕ) → is_done_on (slice_get new.columns c) s ≡ true → Came old new c s
  dead-done old new k e c s h = inl (killed-done old.columns k c s (ap (λ (l : List ColumnState). is_done_on (slice_get l c) s) (sym e) ∙ h))

  -- the item whose operation this is
  asked-now : (old : World) (c : ℕ) (s : ℕ) → op_now (old.clients c) ≡ Some (op.Rebuild s) → IsAskedFor old s
  asked-now old c s h = go (item_now (old.clients c)) refl h
    where
      go : (o : Option Item) → item_now (old.clients c) ≡ o → op_of o ≡ Some (op.Rebuild s) → IsAskedFor old s
      go (Some (item.Run o graph)) e h = let same : o ≡ op.Rebuild s = cc in (record { client = c; index = length (old.clients c).replies }, graph, e ∙ ap (λ (x : Op). Some (item.Run x graph)) same)
      go (Some (item.Fail column)) e h = let z : None ≡ Some (op.Rebuild s) = h in absurd (let u : ⊥ = cc in u)
      go None e h = let z : None ≡ Some (op.Rebuild s) = h in absurd (let u : ⊥ = cc in u)

  ends-done : (k n : ℕ) (old new : World) → Terminates y k n old new → (c s : ℕ) → is_done_on (slice_get new.columns c) s ≡ true → Came old new c s
  ends-done k n old new f c s h = go f.op refl f.after
    where
      ended : (stripe unit : ℕ) → op_now (old.clients k) ≡ Some (op.Rebuild stripe) → IsEnded y stripe unit old.columns new.columns → Came old new c s
      ended stripe unit is e = elim (cases_Bool (is_unit_of y old.columns stripe unit c)) [
        | inr other ↦ inl (ap (λ o. is_done_on o s) (sym (e c ∙ cond-false (is_unit_of y old.columns stripe unit c) _ _ other)) ∙ h)
        | inl here ↦ elim (done-more (slice_get old.columns c) stripe s (ap (λ o. is_done_on o s) (sym (e c ∙ cond-true (is_unit_of y old.columns stripe unit c) _ _ here)) ∙ h)) [
          | inl was ↦ inl was
          | inr same ↦ inr (asked-now old k s (is ∙ ap (λ j. Some (op.Rebuild j)) (sym same)))
        ]
      ]

      go : (o : Op) → f.op ≡ o → ColumnsAfter y o f.was old new → Came old new c s
      go (op.Write span pattern) is a = same-done old new a.0 c s h
      go (op.Writes patches) is a = same-done old new a.0 c s h
      go (op.Read span) is a = same-done old new a.0 c s h
      go (op.Sync stripe) is a = same-done old new a.0 c s h
      go (op.Rebuild stripe) is (inr a) = same-done old new a.1.0 c s h
      go (op.Rebuild stripe) is (inl a) = ended stripe a.0 (f.op_is ∙ ap (λ (o : Op). Some o) is) a.4

  move-done : (e : Traced) (old new : World) → column_begun e ≡ None → Move y graphs any e old new → (c s : ℕ) → is_done_on (slice_get new.columns c) s ≡ true → Came old new c s
  move-done e old new quiet (replies k q asked known is ne idle f) = same-done old new f.only.columns.columns
  move-done e old new quiet (waits k a way known asks nothing g only pool) = same-done old new only.columns.columns
  move-done e old new quiet (takes k known f) = same-done old new f.only.columns.columns
  move-done e old new quiet (fires k n known f) = same-done old new f.only.columns.columns
  move-done e old new quiet (skips k n known f) = same-done old new f.only.columns.columns
  move-done e old new quiet (works k n known f) = same-done old new f.columns.columns
  move-done e old new quiet (commits k n known f) = same-done old new f.columns.columns
  move-done e old new quiet (ends k n known f) = ends-done k n old new f
  move-done e old new quiet (fails k n at bad known f) = same-done old new f.columns.columns
  move-done e old new quiet (anew k o known can is b) = same-done old new b.only.columns.columns
  move-done e old new quiet (gives k o g known can is b) = same-done old new b.only.columns.columns
  move-done e old new quiet (dies k none alive f) = dead-done old new k f.columns
  move-done e old new quiet (starts k begun why known f had spread) = starts-none e k quiet why
  move-done e old new quiet (home k n good was loss is f failed columns) = elim columns [ inl z ↦ same-done old new z | inr z ↦ dead-done old new z.0 z.1 ]

  quiet-done : (e : Traced) (old new : World) → column_begun e ≡ None → Step y graphs e old new → (c s : ℕ) → is_done_on (slice_get new.columns c) s ≡ true → Came old new c s
  quiet-done e old new quiet step c s h = go (moves y graphs any e old new (λ _. tt) step)
    where
      go : Moves y graphs any e old new → Came old new c s
      go (one m) = move-done e old new quiet m c s h
      go (two mid m k alone alive f) = move-done e old mid quiet m c s (killed-done mid.columns k c s (ap (λ (l : List ColumnState). is_done_on (slice_get l c) s) (sym f.columns) ∙ h))

  -- an event of an array that isn't lost
  in-done : (e : Traced) (old new : World) → old.lost ≡ None → Step y graphs e old new → StepIn y graphs e old new → (c s : ℕ) → is_done_on (slice_get new.columns c) s ≡ true → Came old new c s
  in-done (event.Fill k device count) old new none step f c s h = inl (begun-done old.columns k (Filling device (none_done y.stripes)) c s f.dead (none-done y.stripes) (ap (λ (l : List ColumnState). is_done_on (slice_get l c) s) (sym f.starts.columns) ∙ h))
  in-done (event.Resume k count) old new none step f c s h = same-done old new f.starts.columns c s h
  in-done (event.Spread k) old new none step f c s h = inl (begun-done old.columns k (Spread (none_done y.stripes)) c s f.dead (none-done y.stripes) (ap (λ (l : List ColumnState). is_done_on (slice_get l c) s) (sym f.starts.columns) ∙ h))
  in-done (event.Fail k) old new none step f c s h = quiet-done (event.Fail k) old new refl step c s h
  in-done (event.Begin id) old new none step f c s h = quiet-done (event.Begin id) old new refl step c s h
  in-done (event.Take id) old new none step f c s h = quiet-done (event.Take id) old new refl step c s h
  in-done (event.Fire id n) old new none step f c s h = quiet-done (event.Fire id n) old new refl step c s h
  in-done (event.Good id n) old new none step f c s h = quiet-done (event.Good id n) old new refl step c s h
  in-done (event.Bad id n) old new none step f c s h = quiet-done (event.Bad id n) old new refl step c s h
  in-done (event.Skip id n) old new none step f c s h = quiet-done (event.Skip id n) old new refl step c s h
  in-done (event.Back id) old new none step f c s h = quiet-done (event.Back id) old new refl step c s h

  -- and of one that is
  lost-done : (e : Traced) (old new : World) (loss : Loss) → StepLost y graphs e old new → Step y graphs e old new → (c s : ℕ) → is_done_on (slice_get new.columns c) s ≡ true → Came old new c s
  lost-done (event.Good id n) old new loss f step = quiet-done (event.Good id n) old new refl step
  lost-done (event.Bad id n) old new loss f step = quiet-done (event.Bad id n) old new refl step
  lost-done (event.Fill k device count) old new loss f step = absurd f
  lost-done (event.Resume k count) old new loss f step = absurd f
  lost-done (event.Spread k) old new loss f step = absurd f
  lost-done (event.Fail k) old new loss f step = absurd f
  lost-done (event.Begin id) old new loss f step = absurd f
  lost-done (event.Take id) old new loss f step = absurd f
  lost-done (event.Fire id n) old new loss f step = absurd f
  lost-done (event.Skip id n) old new loss f step = absurd f
  lost-done (event.Back id) old new loss f step = absurd f

  step-done : (e : Traced) (old new : World) → Step y graphs e old new → (c s : ℕ) → is_done_on (slice_get new.columns c) s ≡ true → Came old new c s
  step-done e old new step = go old.lost refl
    where
      go : (l : Option Loss) → old.lost ≡ l → (c s : ℕ) → is_done_on (slice_get new.columns c) s ≡ true → Came old new c s
      go None is = in-done e old new is step (subst (λ l. StepBy y graphs l e old new) is step)
      go (Some loss) is = lost-done e old new loss (subst (λ l. StepBy y graphs l e old new) is step) step

  asked-still : (old new : World) → Continues old new → (s : ℕ) → IsAskedFor old s → IsAskedFor new s
  asked-still old new go s h = (h.0, h.1, item-still old new go h.0 (item.Run (op.Rebuild s) h.1) h.2)

  pub only-asked : (opening now : World) (events : List Traced) → EventsLead y graphs opening events now → OnlyAskedAreDone opening now
  only-asked opening now [] run c s h = inl (ap (λ (w : World). is_done_on (slice_get w.columns c) s) (sym run) ∙ h)
  only-asked opening now (e ∷ events) run c s h =
      let go = step-continues y graphs e run.0 now run.2 in
      elim (step-done e run.0 now run.2 c s h) [
        | inr asked ↦ inr (asked-still run.0 now go s asked)
        | inl was ↦ elim (only-asked opening run.0 events run.1 c s was) [
          | inl first ↦ inl first
          | inr asked ↦ inr (asked-still run.0 now go s asked)
        ]
      ]
