-- The newest label of an opening.
use Rattle.std.proofs.Common.{◌≡◌, ◌∙◌, ap, sym, ℕ, zero, suc, ◌≤◌, ◌&&◌, Bool, true, false, List, length, refl, Option, Some, None, option_and_then}
use Rattle.std.specs.Prelude.{if◌then◌else◌, Result, Ok, Err, nat_lt, slice_get}
use Rattle.std.proofs.lemmas.Bool.{ltb-false}
use Rattle.raid_label.specs.Bytes.{IsHeld}
use Rattle.raid_label.proofs.Held.{label_is_held}
use Rattle.raid_label.specs.declared.label.Label.{Label}
use Rattle.top_open.specs.declared.fronts.Front.{Front}
use Rattle.top_open.specs.declared.fronts.Front.TheVariants.{Away, Unread, Held}
use Rattle.top_open.specs.declared.fault.OpenFault.{OpenFault}
use Rattle.top_open.specs.declared.fault.OpenFault.TheVariants as fault
use Rattle.top_open.specs.declared.plan.Plan.{Plan}
use Rattle.top_open.specs.declared.plan.Needs.{Needs}
use Rattle.top_open.specs.First.{first_below}
use Rattle.top_open.specs.Plan.{sectors_for}
use Rattle.top_open.specs.Labels.{label_at, newer, newest_below, shape_refusal, label_of}
use Rattle.top_open.specs.Seats.{judged_at}
use Rattle.top_open.specs.Opening.{Opened, judged_in, unlabelled_in, labelled_in, unlabelled_refusal, counter_refusal, small_in, seats_in}
use Rattle.top_open.specs.Steps.{labelled_if, is_unlabelled}
use Rattle.top_open.proofs.OwnDevices.{not_refused}
use Rattle.top_open.proofs.LargeEnough.{no_refusal}

front_held : (o : Option Front) (l : Label) → option_and_then label_of o ≡ Some l → IsHeld l
front_held None l h = cc h
front_held (Some Away) l h = cc h
front_held (Some Unread) l h = cc h
front_held (Some (Held bytes)) l h = label_is_held bytes l h

-- the newest of labels is one of them
newest_held : (fronts : List Front) (d : ℕ) (l : Label) → newest_below fronts d ≡ Some l → IsHeld l
unfolding newest_below
newest_held fronts zero l h = cc h
newest_held fronts (suc d) l h = go (λ e. newest_held fronts d l e) (newest_below fronts d) (label_at fronts d) refl refl h
  where
    go : (newest_below fronts d ≡ Some l → IsHeld l) → (a b : Option Label) → newest_below fronts d ≡ a → label_at fronts d ≡ b → newer a b ≡ Some l → IsHeld l
    go before a None x y h = before (x ∙ h)
    go before None (Some k) x y h = front_held (slice_get fronts d) l (y ∙ h)
    go before (Some best) (Some k) x y h = pick (nat_lt best.counter k.counter) h
      where
        pick : (b : Bool) → (if b then Some k else Some best) ≡ Some l → IsHeld l
        pick true h = front_held (slice_get fronts d) l (y ∙ h)
        pick false h = before (x ∙ h)

-- a counter that isn't refused has room
counter_room : (q : Needs) (l : Label) → counter_refusal q l ≡ None → q.writes ≡ true → l.counter ≤ 4294901760
unfolding counter_refusal
counter_room q l h writes = go q.writes (nat_lt 4294901760 l.counter) refl writes h
  where
    go : (a b : Bool) → nat_lt 4294901760 l.counter ≡ b → a ≡ true → (if a && b then Some (fault.Label l.column 6 l.counter 4294901760) else None) ≡ None → l.counter ≤ 4294901760
    go false b x e h = cc e
    go true true x e h = cc h
    go true false x e h = ltb-false 4294901760 l.counter x

unfoldable newest_of : Result Opened OpenFault → Option Label
newest_of (Ok x) = x.newest
newest_of (Err f) = None

module _ (q : Needs) (p : Plan) (present : List Bool) (sizes : List ℕ) (fronts : List Front) (o : Opened) where
  -- what holds of the newest label, if there is one
  MayFollow : Label → Type 0
  MayFollow l = IsHeld l × (q.writes ≡ true → l.counter ≤ 4294901760)

  of_unlabelled : unlabelled_in q p present sizes fronts ≡ Ok o → o.newest ≡ None
  unfolding unlabelled_in newest_of
  of_unlabelled h =
      let made = not_refused (small_in None false sizes _ _ _) _ o (not_refused (unlabelled_refusal q) _ o h) in
      sym (ap newest_of made)

  of_labelled : (l : Label) → labelled_in q p present sizes fronts l ≡ Ok o → (o.newest ≡ Some l) × (counter_refusal q l ≡ None)
  unfolding labelled_in newest_of
  of_labelled l h =
      let judged = not_refused (first_below (judged_at q.excused l fronts (seats_in p present l)) (length present)) _ o (not_refused (small_in q.excused q.own sizes (sectors_for p l.rows) (seats_in p present l) (length present)) _ o (not_refused (shape_refusal p (length present) l) _ o h)) in
      (sym (ap newest_of (not_refused (counter_refusal q l) _ o judged)), no_refusal (counter_refusal q l) _ o judged)

  pub newest_may_follow : judged_in q p present sizes fronts ≡ Ok o → (l : Label) → o.newest ≡ Some l → IsHeld l × (q.writes ≡ true → l.counter ≤ 4294901760)
  unfolding judged_in
  newest_may_follow h l e = go (is_unlabelled q (length present) fronts) (newest_below fronts (length fronts)) refl h
    where
      go : (b : Bool) (k : Option Label) → newest_below fronts (length fronts) ≡ k → (if b then unlabelled_in q p present sizes fronts else labelled_if q p present sizes fronts k) ≡ Ok o → IsHeld l × (q.writes ≡ true → l.counter ≤ 4294901760)
      go true k x h = let none = of_unlabelled h in cc (none, e)
      go false None x h = cc h
      go false (Some k) x h =
          let is = of_labelled k h in
          let same : k ≡ l = cc (is.0, e) in
          (newest_held fronts (length fronts) l (x ∙ ap (λ (y : Label). Some y) same), λ writes. counter_room q l (ap (λ (y : Label). counter_refusal q y) (sym same) ∙ is.1) writes)
