-- How far a rebuild of a device came: by as many of the column's stripes as it asked for.
use Rattle.std.proofs.Common.{◌≡◌, ◌⊎◌, ◌<◌, ◌≤◌, ◌+◌, ◌++◌, inl, inr, ℕ, zero, suc, List, [], ◌∷◌, length, Bool, true, false, Some, None, slice_get, slice_set, refl, sym, ap, ap₂, ◌∙◌, subst, arith}
use Rattle.std.specs.Prelude.{Contains, ◌&&◌, ◌||◌, not, if◌then◌else◌}
use Rattle.std.proofs.lemmas.Bool.{cases_eq}
use Rattle.std.proofs.lemmas.Option.{slice_get-get_or, get_or_from_slice_get, slice_get_within}
use Rattle.blk_plain.specs.declared.op.Op.TheVariants as op
use Rattle.lay_core.specs.Layout.{Shape, IsLayout}
use Rattle.eng_cols.specs.Cols.{ColumnState, Dead, Filling, is_done, is_done_on, is_spread, none_done, passes}
use Rattle.eng_cols.specs.Stripes.{all_done_below, are_spread, is_stripe_of, leading}
use Rattle.eng_cols.proofs.Counting.{leading-is, stripe-of, stripe-same}
use Rattle.eng_cols.proofs.Lists.{get_set_same, get_set_other}
use Rattle.eng_world.specs.declared.item.Item.{Item}
use Rattle.eng_world.specs.declared.item.Item.TheVariants as item
use Rattle.eng_world.specs.declared.item.Traced.{Traced}
use Rattle.eng_world.specs.declared.item.Traced.TheVariants as event
use Rattle.eng_world.specs.World.{World}
use Rattle.eng_world.specs.Planning.{Graphs, Promises}
use Rattle.eng_world.specs.Serving.{StartsRebuild, Fills, Resumes}
use Rattle.eng_world.specs.Step.{column_begun, StepIn, EventsLead, IsOpening}
use Rattle.eng_world.specs.Rebuilding.{Rebuilds, GoesOnto, GoesOntoBy, IsFrontOn, SpreadAlike, OneRebuilds, AskedAreDone}
use Rattle.eng_world.proofs.Carrying.{starts-none}
use Rattle.eng_world.proofs.Caused.{some-get, tail-has}
use Rattle.eng_world.proofs.Continuing.{run-continues}
use Rattle.eng_world.proofs.Filled.{FillsSo, fills-so}
use Rattle.eng_world.proofs.Front.{IsFront, front-grows}
use Rattle.eng_world.proofs.OnlyAsked.{none-done, only-asked}
use Rattle.eng_world.proofs.Whole.{asked-done, fill-seats, first-step, parts, starts}
use Rattle.eng_cols.proofs.Words.{is_led}
use Rattle.lay_core.specs.Touched.{count_below}

-- what leads goes by what passes
all-done-same : (p q done : ℕ → Bool) (n : ℕ) → ((s : ℕ) → p s ≡ q s) → all_done_below p done n ≡ all_done_below q done n
unfolding all_done_below
all-done-same p q done zero same = refl
all-done-same p q done (suc n) same = ap₂ (λ (a b : Bool). a && (not b || done n)) (all-done-same p q done n same) (same n)

led-same : (p q done : ℕ → Bool) (n : ℕ) → ((s : ℕ) → p s ≡ q s) → count_below (is_led p done) n ≡ count_below (is_led q done) n
led-same p q done zero same = refl
led-same p q done (suc n) same =
    ap₂ (λ (a : ℕ) (b : Bool). a + (if b then 1 else 0)) (led-same p q done n same) (ap₂ (λ (a b : Bool). a && b) (same n) (all-done-same p q done (suc n) same))

-- a stripe that is done stays so as another is done
set-keeps : (l : List Bool) (t s : ℕ) → is_done l s ≡ true → is_done (slice_set l t true) s ≡ true
set-keeps [] t s h = h
set-keeps (x ∷ l) zero zero h = refl
set-keeps (x ∷ l) zero (suc s) h = h
set-keeps (x ∷ l) (suc t) zero h = h
set-keeps (x ∷ l) (suc t) (suc s) h = set-keeps l t s h

in-parts : (later : List Traced) (x e : Traced) → Contains (later ++ x ∷ []) e → Contains later e ⊎ (x ≡ e)
in-parts [] x e (zero, l, is) = inr is
in-parts [] x e (suc n, l, is) = absurd (let u : ⊥ = omega (arith, l) in u)
in-parts (z ∷ later) x e (zero, l, is) = inl (zero, omega arith, is)
in-parts (z ∷ later) x e (suc n, l, is) = elim (in-parts later x e (n, omega (arith, l), is)) [ inl h ↦ inl (tail-has z later e h) | inr h ↦ inr h ]

-- The column as the rebuild begins: it is filling, the same columns are spread, the same stripes are done, and client 16 has its items.
record Begun (y : Shape) (opening start : World) (c device count : ℕ) : Type 0 where
  done : List Bool
  filling : slice_get start.columns c ≡ Some (Filling device done)
  spread : SpreadAlike opening.columns start.columns
  same : (s : ℕ) → is_done_on (slice_get start.columns c) s ≡ is_done_on (slice_get opening.columns c) s
  items : length (start.clients 16).items ≡ count

module _ (y : Shape) (opening start : World) (c device count : ℕ) where
  begun-fill : Fills y c device count opening start → Begun y opening start c device count
  begun-fill f =
      let here : slice_get start.columns c ≡ Some (Filling device (none_done y.stripes)) = ap (λ cs. slice_get cs c) f.starts.columns ∙ get_set_same opening.columns c Dead _ f.dead in
      record {
        done = none_done y.stripes;
        filling = here;
        spread = λ k. elim (cases_eq k c) [
          | inl e ↦ ap (are_spread start.columns) e ∙ ap (passes is_spread) here ∙ sym (ap (are_spread opening.columns) e ∙ ap (passes is_spread) f.dead)
          | inr ne ↦ ap (λ (cs : List ColumnState). are_spread cs k) f.starts.columns ∙ ap (passes is_spread) (get_set_other opening.columns c k _ ne)
        ];
        same = λ s. ap (λ o. is_done_on o s) here ∙ none-done y.stripes s ∙ sym (ap (λ o. is_done_on o s) f.dead);
        items = f.count_is;
      }

  begun-resume : (done : List Bool) → slice_get opening.columns c ≡ Some (Filling device done) → Resumes y c count opening start → Begun y opening start c device count
  begun-resume done is f = record {
    done = done;
    filling = ap (λ cs. slice_get cs c) f.starts.columns ∙ is;
    spread = λ k. ap (λ (cs : List ColumnState). are_spread cs k) f.starts.columns;
    same = λ s. ap (λ (cs : List ColumnState). is_done_on (slice_get cs c) s) f.starts.columns;
    items = f.count_is;
  }

module _ (y : Shape) (layout : IsLayout y) (graphs : Graphs) (promises : Promises graphs) (opening : World) (o : IsOpening y opening) (c : ℕ) (events : List Traced) (now : World) (r : Rebuilds c events) (run : EventsLead y graphs opening events now) (none : now.lost ≡ None)
    (all : length (now.clients 16).replies ≡ length (now.clients 16).items) (device count : ℕ) (onto : GoesOntoBy opening events c device count) (some : 1 ≤ count) (alive : now.failed device ≡ false)
    (front : IsFrontOn y opening.columns c) (one : OneRebuilds now) (alike : SpreadAlike opening.columns now.columns) where
  abbrev start : World
  start = (parts y layout graphs promises opening o c events now r run none all).0

  first-is : (e : Traced) → column_begun e ≡ Some c → Contains events e → r.first ≡ e
  first-is e begins has = elim (in-parts r.later r.first e (subst (λ l. Contains l e) r.split has)) [
    | inl h ↦ starts-none e c (r.quiet e h) begins
    | inr h ↦ h
  ]

  step-of : (e : Traced) → r.first ≡ e → StepIn y graphs e opening start
  step-of e is = subst (λ z. StepIn y graphs z opening start) is (first-step y graphs r.first opening start o (parts y layout graphs promises opening o c events now r run none all).1)

  begun : Begun y opening start c device count
  begun = elim onto [
    | inl has ↦ begun-fill y opening start c device count (step-of (event.Fill c device count) (first-is (event.Fill c device count) refl has))
    | inr w ↦ begun-resume y opening start c device count w.0 w.2 (step-of (event.Resume c count) (first-is (event.Resume c count) refl w.1))
  ]

  goes : GoesOnto opening events c device
  goes = elim onto [ inl has ↦ inl (count, has) | inr w ↦ inr (count, w.0, w.1, w.2) ]

  started : (cols : List ColumnState) × StartsRebuild y c cols opening start
  started = starts y layout graphs promises opening o c events now r run none all

  abbrev stripes : List ℕ
  stripes = started.1.rebuilds.stripes

  -- client 16 has the items that it got
  same-items : (now.clients 16).items ≡ (start.clients 16).items
  same-items =
      let on = run-continues y graphs start r.later now (parts y layout graphs promises opening o c events now r run none all).2 in
      elim (on.items 16) [
        | inl e ↦ e
        | inr gone ↦ let n = begun.items in let z = ap (λ (l : List Item). length l) gone.1 in absurd (omega (arith, some, n, z))
      ]

  -- ## The stripes of the column

  of-start : (s : ℕ) → is_stripe_of y start.columns c s ≡ is_stripe_of y opening.columns c s
  of-start s = stripe-same y (are_spread start.columns) (are_spread opening.columns) c s begun.spread

  of-now : (s : ℕ) → is_stripe_of y now.columns c s ≡ is_stripe_of y opening.columns c s
  of-now s = stripe-same y (are_spread now.columns) (are_spread opening.columns) c s alike

  abbrev p : ℕ → Bool
  p s = is_stripe_of y opening.columns c s

  abbrev before : ℕ → Bool
  before s = is_done_on (slice_get opening.columns c) s

  abbrev after : ℕ → Bool
  after s = is_done_on (slice_get now.columns c) s

  only : (s : ℕ) → Contains stripes s → (s < y.stripes) × ((is_stripe_of y opening.columns c s ≡ true) × (is_done_on (slice_get opening.columns c) s ≡ false))
  only s has =
      let left = started.1.rebuilds.only s has in
      (left.within, (sym (of-start s) ∙ (stripe-of y start.columns c s).1 left.of_column, sym (begun.same s) ∙ left.left))

  first : (s : ℕ) → s < y.stripes → is_stripe_of y opening.columns c s ≡ true → is_done_on (slice_get opening.columns c) s ≡ false → Contains stripes s ⊎ ((t : ℕ) → Contains stripes t → t < s)
  first s sw is left = started.1.rebuilds.first s (record { within = sw; of_column = (stripe-of y start.columns c s).0 (of-start s ∙ is); left = begun.same s ∙ left })

  front-is : IsFront p before y.stripes
  front-is s t tn st ps pt dt = front s t tn st ((stripe-of y opening.columns c s).0 ps) ((stripe-of y opening.columns c t).0 pt) dt

  -- what is asked is done, and what was done is
  asked : AskedAreDone y now c
  asked = asked-done y layout graphs promises opening o c events now r run none all (fill-seats y layout graphs promises opening o c events now r run none all device goes alive)

  has-item : (s : ℕ) → Contains stripes s → Contains (now.clients 16).items (item.Run (op.Rebuild s) None)
  has-item s has =
      let at : slice_get stripes has.0 ≡ Some s = slice_get-get_or stripes has.0 s has.1 ∙ ap Some has.2 in
      let there : slice_get (now.clients 16).items has.0 ≡ Some (item.Run (op.Rebuild s) None) = ap (λ (l : List Item). slice_get l has.0) same-items ∙ started.1.rebuilds.each has.0 s at in
      (has.0, slice_get_within (now.clients 16).items has.0 _ there, get_or_from_slice_get (now.clients 16).items has.0 _ _ there)

  done : (s : ℕ) → s < y.stripes → is_stripe_of y opening.columns c s ≡ true → (is_done_on (slice_get opening.columns c) s ≡ true) ⊎ Contains stripes s → is_done_on (slice_get now.columns c) s ≡ true
  done s sw is (inr has) = asked s sw ((stripe-of y now.columns c s).0 (of-now s ∙ is)) (has-item s has)
  done s sw is (inl was) =
      let here : is_done begun.done s ≡ true = ap (λ o. is_done_on o s) (sym begun.filling) ∙ begun.same s ∙ was in
      let still : FillsSo c device (λ l. is_done l s ≡ true) now.columns = fills-so y graphs c device (λ l. is_done l s ≡ true) (λ l t h. set-keeps l t s h) start r.later now r.quiet (parts y layout graphs promises opening o c events now r run none all).2 none alive (begun.done, (begun.filling, here)) in
      ap (λ o. is_done_on o s) still.1.0 ∙ still.1.1

  others : (s : ℕ) → s < y.stripes → is_stripe_of y opening.columns c s ≡ true → is_done_on (slice_get now.columns c) s ≡ true → (is_done_on (slice_get opening.columns c) s ≡ true) ⊎ Contains stripes s
  others s sw is h = elim (only-asked y graphs opening now events run c s h) [
    | inl was ↦ inl was
    | inr w ↦
        let client : w.0.client ≡ 16 = one w.0 w.1 s w.2 in
        let at : slice_get (start.clients 16).items w.0.index ≡ Some (item.Run (op.Rebuild s) w.1) = ap (λ (l : List Item). slice_get l w.0.index) (sym same-items) ∙ ap (λ k. slice_get (now.clients k).items w.0.index) (sym client) ∙ w.2 in
        let lt = slice_get_within (start.clients 16).items w.0.index _ at in
        let n = started.1.rebuilds.count in
        let t = some-get stripes w.0.index (omega (arith, lt, n)) in
        let z : Some (item.Run (op.Rebuild t.0) None) ≡ Some (item.Run (op.Rebuild s) w.1) = sym (started.1.rebuilds.each w.0.index t.0 t.1) ∙ at in
        let same : t.0 ≡ s = cc in
        inr (w.0.index, omega (arith, lt, n), get_or_from_slice_get stripes w.0.index t.0 s t.1 ∙ same)
  ]

  pub goes-far : leading y now.columns c ≡ leading y opening.columns c + count
  goes-far =
      let grows = front-grows p before after y.stripes stripes only first started.1.rebuilds.ascending front-is done others in
      let n : length stripes ≡ count = sym started.1.rebuilds.count ∙ begun.items in
      sym (leading-is y now.columns c y.stripes refl)
      ∙ (led-same (is_stripe_of y now.columns c) (is_stripe_of y opening.columns c) (is_done_on (slice_get now.columns c)) y.stripes of-now
      ∙ (grows ∙ ap₂ (λ (a b : ℕ). a + b) (leading-is y opening.columns c y.stripes refl) n))
