-- A rebuild that is begun may be.
use Rattle.std.specs.Prelude.{◌≡◌, ◌⊎◌, ◌<◌, ◌≤◌, ◌+◌, ◌*◌, ◌==◌, ◌&&◌, ◌||◌, ℕ, zero, suc, Bool, true, false, not, List, [], ◌∷◌, length, cond, count_by, Option, Some, None, Ok, if◌then◌else◌, is_none, nat_le, slice_get, slice_index, option_map, unwrap_or}
use Rattle.std.specs.List.{list_any}
use Rattle.std.proofs.Common.{arith, refl, sym, ap, subst, inl, inr, ◌∙◌}
use Rattle.std.proofs.lemmas.Bool.{eq-eqb, eqb-true, leb-true}
use Rattle.std.proofs.lemmas.List.Sums.{sum_by-cons}
use Rattle.blk_disk.specs.Devices.{size_of}
use Rattle.blk_disk.specs.declared.disk.Disk.{Ghosts}
use Rattle.eng_array.specs.Starts.{column_of}
use Rattle.eng_array.specs.declared.start.Start.{Start}
use Rattle.eng_array.specs.declared.start.Start.TheVariants as start
use Rattle.eng_cols.specs.declared.column.Column.{Column}
use Rattle.eng_cols.specs.declared.column.Column.TheVariants as column
use Rattle.eng_cols.specs.Cols.{AtMostOne, is_set_filling, is_set_spread, HasDeviceOn}
use Rattle.eng_cols.proofs.Lists.{count_at_most}
use Rattle.raid_conf.specs.Layouts.{shape_of}
use Rattle.raid_label.specs.declared.label.Label.{Label}
use Rattle.top_bay.specs.Asked.{Asked}
use Rattle.top_bay.specs.Views.{IsKnown, IsWithinLimits}
use Rattle.top_open.specs.declared.fronts.Front.{Front}
use Rattle.top_open.specs.Opening.{Opened, labelled_in}
use Rattle.top_open.specs.Plan.{sectors_for}
use Rattle.top_open.specs.Seats.{is_unread}
use Rattle.top_open.proofs.Filled.{WasJudged}
use Rattle.top_words.specs.Asked.{Action, Io, Sweep, Show, ShowMap, Init, Check, Rewrite, Print, Fail, ShowLabel, Label as Labels, Rebuild, Resume, profile_of}
use Rattle.top_duty.specs.Steps.{with_dead, present_of, onto_spare, rebuild_elsewhere, is_on, is_free, unless_named}
use Rattle.top_duty.specs.First.{first_of}
use Rattle.top_duty.specs.Fit.{HaveSparePlaces, IsStart, IsTarget, MayGo, IsStartIf}
use Rattle.top_duty.specs.Opening.{filling_at, needs_for, needs_of, opened_by, plan_of, sizes_of}
use Rattle.top_duty.specs.Start.{free_spare, has_places, other_filling, other_with, start_in}
use Rattle.top_duty.proofs.Deadened.{dead_fewer}
use Rattle.top_duty.proofs.Few.{GoesOn, few_rebuilds}
use Rattle.top_duty.proofs.Firsts.{filling_found, filling_is, first_is}
use Rattle.top_duty.proofs.Labels.{by_label, has_labels}
use Rattle.top_duty.proofs.Opens.{Stages, opened_count, opened_filling, present_count, stages}
use Rattle.top_duty.proofs.Placing.{live_own, live_seat, own_large}
use Rattle.top_duty.proofs.Places.{spare_by}
use Rattle.top_duty.proofs.Sized.{size_at}
use Rattle.top_duty.proofs.Stages.{had, judged, judged_rows, seats_are}
use Rattle.top_duty.proofs.Tables.{plan_is}
use Rattle.top_duty.proofs.Words.{start_by}

-- ## Lists

and_left : (a b : Bool) → (a && b) ≡ true → a ≡ true
and_left true b h = refl
and_left false b h = h

and_right : (a b : Bool) → (a && b) ≡ true → b ≡ true
and_right true b h = h
and_right false b h = absurd (let z : ⊥ = cc h in z)

not_true : (a : Bool) → not a ≡ true → a ≡ false
not_true true h = absurd (let z : ⊥ = cc h in z)
not_true false h = refl

or_true : (a : Bool) → (a || true) ≡ true
or_true true = refl
or_true false = refl

-- one that passes
any_here : {X : Type 0} (p : X → Bool) (xs : List X) (i : ℕ) (x : X) → slice_get xs i ≡ Some x → p x ≡ true → list_any p xs ≡ true
any_here p [] i x at e = absurd (let z : ⊥ = cc at in z)
any_here {X} p (z ∷ xs) zero x at e =
    let same : z ≡ x = cc at in
    ap (λ (b : Bool). b || list_any p xs) (ap p same ∙ e)
any_here p (z ∷ xs) (suc i) x at e = ap (λ (b : Bool). p z || b) (any_here p xs i x at e) ∙ or_true (p z)

-- where none does
any_none : {X : Type 0} (p : X → Bool) (xs : List X) → list_any p xs ≡ false → count_by p xs ≡ 0
any_none p [] h = refl
any_none {X} p (x ∷ xs) h = go (λ none. any_none p xs none) (p x) refl h
  where
    go : (list_any p xs ≡ false → count_by p xs ≡ 0) → (b : Bool) → p x ≡ b → (b || list_any p xs) ≡ false → count_by p (x ∷ xs) ≡ 0
    go rest true e h = absurd (let z : ⊥ = cc h in z)
    go rest false e h = omega (arith, sum_by-cons (λ (y : X). cond (p y) 1 0) x xs, ap (λ (b : Bool). cond {A = ℕ} b 1 0) e, rest h)

-- ## The start

module _ {D : Type 0} (g : Ghosts D) (k : Asked) (o : Opened) (devices : List (Option D)) (fronts : List Front) (within : IsWithinLimits k) (opens : opened_by k (sizes_of g.size devices) fronts ≡ Ok o) where
  abbrev sizes : List ℕ
  sizes = sizes_of g.size devices

  abbrev st : Stages k sizes fronts o
  st = stages k sizes fronts o opens

  abbrev was : WasJudged (needs_of k) (plan_of k.conf) (present_of k.conf) sizes fronts st.filled
  was = judged k sizes fronts o st

  columns_are : length o.columns ≡ k.conf.columns
  columns_are = opened_count k sizes fronts o within.conf opens

  one_filling : count_by is_set_filling o.columns ≤ 1
  one_filling = opened_filling k sizes fronts o within.conf opens

  -- a column's device was live on it as the labels were judged
  live_back : (c d : ℕ) → HasDeviceOn o.columns c d → slice_get was.judged.columns c ≡ Some (column.Live d)
  live_back c d at = (had k sizes fronts o st (plan_is k.conf within.conf) c d at).0

  module _ (l : Label) (labelled : labelled_in (needs_of k) (plan_of k.conf) (present_of k.conf) sizes fronts l ≡ Ok was.judged) where
    -- onto the column's own disk
    in_place : (c : ℕ) → (needs_of k).own ≡ true → (needs_of k).excused ≡ Some c → c < k.conf.columns → IsTarget g k o devices c c
    in_place c own excused lt =
        let n = present_count k.conf within.conf in
        let enough : sectors_for (plan_of k.conf) was.judged.rows ≤ slice_index sizes c = own_large (needs_of k) (plan_of k.conf) (present_of k.conf) sizes fronts l was.judged labelled c own excused (omega (arith, lt, n)) in
        record {
          large = subst (λ (r : ℕ). 64 + r * k.conf.unit ≤ size_of g devices c) (judged_rows k sizes fronts o st) (omega (arith, enough, size_at g devices c));
          apart = λ e at. apart e (live_own (needs_of k) (plan_of k.conf) (present_of k.conf) sizes fronts l was.judged labelled e c (live_back e c at));
          numbered = omega (arith, lt, columns_are);
        }
      where
        apart : (e : ℕ) → (c ≡ e) ⊎ (length (present_of k.conf) ≤ c) → e ≡ c
        apart e (inl same) = sym same
        apart e (inr past) = absurd (omega (arith, past, lt, present_count k.conf within.conf))

    -- onto a spare that is free
    onto_free : (c j : ℕ) → j < k.conf.spares → is_free (64 + o.rows * k.conf.unit) sizes fronts o.seats (k.conf.columns + j) ≡ true → IsTarget g k o devices c (k.conf.columns + j)
    onto_free c j lt free =
        let d : ℕ = k.conf.columns + j in
        let seated : Bool = list_any (is_on d) o.seats in
        let large : Bool = nat_le (64 + o.rows * k.conf.unit) (slice_index sizes d) in
        let both : (not seated && large) ≡ true = and_left (not seated && large) (not (is_unread (slice_get fronts d))) free in
        let none : seated ≡ false = not_true seated (and_left (not seated) large both) in
        let enough : 64 + o.rows * k.conf.unit ≤ slice_index sizes d = leb-true (64 + o.rows * k.conf.unit) (slice_index sizes d) (and_right (not seated) large both) in
        record {
          large = omega (arith, enough, size_at g devices d);
          apart = λ e at.
              let seat : slice_get o.seats e ≡ Some (column.Live d) =
              sym (ap (λ (l : List Column). slice_get l e) (seats_are k sizes fronts o st))
              ∙ live_seat (needs_of k) (plan_of k.conf) (present_of k.conf) sizes fronts l was.judged labelled e d (live_back e d at) in
              let there : list_any (is_on d) o.seats ≡ true = any_here (is_on d) o.seats e (column.Live d) seat (eq-eqb d d refl) in
              absurd (let z : ⊥ = cc (there, none) in z);
          numbered = omega (arith, lt, columns_are, within.conf.spares_most);
        }

  -- into the spare places
  into_places : has_places k.conf o.columns ≡ true → HaveSparePlaces k o
  into_places has =
      let spread : Bool = list_any is_set_spread o.columns in
      let level : k.conf.level ≡ 68 = eqb-true k.conf.level 68 (and_left (k.conf.level == 68) (not spread) has) in
      record {
        none_spread = any_none is_set_spread o.columns (not_true spread (and_right (k.conf.level == 68) (not spread) has));
        each = λ s lt. spare_by k.conf.level k.conf.columns k.conf.unit o.rows k.conf.design level within.conf.design s;
      }

  -- behind the death of the column that the action names there are no more than one that are filling
  one_left : AtMostOne is_set_filling (with_dead (needs_of k).excused o.columns)
  one_left = count_at_most is_set_filling (with_dead (needs_of k).excused o.columns) (omega (arith, dead_fewer is_set_filling (needs_of k).excused o.columns refl, one_filling))

  -- an action that needs labels
  module _ (labels : (needs_of k).labels ≡ true) where
    abbrev by : (l : Label) × (labelled_in (needs_of k) (plan_of k.conf) (present_of k.conf) sizes fronts l ≡ Ok was.judged)
    by = by_label (needs_of k) (plan_of k.conf) (present_of k.conf) sizes fronts was.judged labels was.is

    has_label : o.newest ≡ None → ⊥
    has_label none = let some = has_labels k sizes fronts o opens labels in cc (none, some.1)

    -- what may go may be started
    all_of : (s : Start) → column_of s < k.conf.columns → ((c d m : ℕ) → slice_get o.columns c ≡ Some (column.Filling d m) → c ≡ column_of s) → MayGo g k o devices s
        → GoesOn (with_dead (needs_of k).excused o.columns) s → IsStart g k o devices s
    all_of s lt alone may on = record {
      labelled = has_label;
      alone = alone;
      within = lt;
      may = may;
      few = few_rebuilds (shape_of k.conf o.rows) (with_dead (needs_of k).excused o.columns) s one_left on;
    }

    -- ### Of a column anew

    module _ (c : ℕ) (excused : (needs_of k).excused ≡ Some c) (lt : c < k.conf.columns) (alone : (e d m : ℕ) → slice_get o.columns e ≡ Some (column.Filling d m) → e ≡ c) where
      spare_is : (limit free : Option ℕ) → free_spare k.conf o sizes fronts ≡ free → (places : Bool) → (is_none limit && has_places k.conf o.columns) ≡ places → (s : Start) → onto_spare (unwrap_or limit 4294967295) c free places ≡ Some s
          → IsStart g k o devices s
      unfolding free_spare
      spare_is limit (Some device) e places f s h =
          let same : start.Fill c device (unwrap_or limit 4294967295) ≡ s = cc h in
          subst (λ (x : Start). IsStart g k o devices x) same (all_of (start.Fill c device (unwrap_or limit 4294967295)) lt alone (excused, found (first_of p k.conf.spares) refl e) tt)
        where
          p : ℕ → Bool
          p j = is_free (64 + o.rows * k.conf.unit) sizes fronts o.seats (k.conf.columns + j)

          found : (r : Option ℕ) → first_of p k.conf.spares ≡ r → option_map (λ j. k.conf.columns + j) r ≡ Some device → IsTarget g k o devices c device
          found None e h = absurd (let z : ⊥ = cc h in z)
          found (Some j) e h =
              let is : k.conf.columns + j ≡ device = cc h in
              let first = first_is p k.conf.spares j e in
              subst (λ (d : ℕ). IsTarget g k o devices c d) is (onto_free by.0 by.1 c j first.1 first.0)
      spare_is limit None e true f s h =
          let same : start.Spread c ≡ s = cc h in
          subst (λ (x : Start). IsStart g k o devices x) same (all_of (start.Spread c) lt alone (excused, into_places (and_right (is_none limit) (has_places k.conf o.columns) f)) tt)
      spare_is limit None e false f s h = absurd (let z : ⊥ = cc h in z)

      elsewhere_is : (limit : Option ℕ) (s : Start) → rebuild_elsewhere limit k.conf o sizes fronts (Some c) ≡ Some s → IsStart g k o devices s
      elsewhere_is limit s h = spare_is limit (free_spare k.conf o sizes fronts) refl (is_none limit && has_places k.conf o.columns) refl s h

      in_place_is : (limit : Option ℕ) (s : Start) → (needs_of k).own ≡ true → option_map (λ i. start.Fill i i (unwrap_or limit 4294967295)) (Some c) ≡ Some s → IsStart g k o devices s
      in_place_is limit s own h =
          let same : start.Fill c c (unwrap_or limit 4294967295) ≡ s = cc h in
          subst (λ (x : Start). IsStart g k o devices x) same (all_of (start.Fill c c (unwrap_or limit 4294967295)) lt alone (excused, in_place by.0 by.1 c own excused lt) tt)

    -- ### Of the column that is filling

    module _ (excused : (needs_of k).excused ≡ None) where
      further_is : (limit filling : Option ℕ) → filling_at o.columns ≡ filling → (s : Start) → option_map (λ i. start.Resume i (unwrap_or limit 4294967295)) filling ≡ Some s → IsStart g k o devices s
      further_is limit None e s h = absurd (let z : ⊥ = cc h in z)
      further_is limit (Some c) e s h =
          let same : start.Resume c (unwrap_or limit 4294967295) ≡ s = cc h in
          let is = filling_is o.columns c e in
          let left : slice_get (with_dead (needs_of k).excused o.columns) c ≡ Some (column.Filling is.1 is.2) = ap (λ (x : Option ℕ). slice_get (with_dead x o.columns) c) excused ∙ is.3 in
          subst (λ (x : Start). IsStart g k o devices x) same
          (all_of (start.Resume c (unwrap_or limit 4294967295)) (omega (arith, is.0, columns_are)) (λ i d m at. alone i (filling_found o.columns i d m one_filling at)) (excused, is.1, is.2, is.3) (is.1, is.2, left))
        where
          alone : (i : ℕ) → filling_at o.columns ≡ Some i → i ≡ c
          alone i found = let z : Some i ≡ Some c = sym found ∙ e in cc z

  -- ## By the action

  -- no column but the one that is named is filling
  named_alone : (c : ℕ) → unless_named (Some c) (filling_at o.columns) ≡ None → (e d m : ℕ) → slice_get o.columns e ≡ Some (column.Filling d m) → e ≡ c
  named_alone c none e d m at = go (c == e) refl (sym (ap (unless_named (Some c)) (filling_found o.columns e d m one_filling at)) ∙ none)
    where
      go : (b : Bool) → (c == e) ≡ b → (if b then None else Some e) ≡ None → e ≡ c
      go true is h = sym (eqb-true c e is)
      go false is h = absurd (let z : ⊥ = cc h in z)

  by_action : (action : Action) → k.command.action ≡ action → IsKnown k.conf action k.comp → (s : Start) → start_by action k.comp k.conf o sizes fronts ≡ Some s
      → other_with (profile_of action).rebuild k.comp (filling_at o.columns) ≡ None → IsStart g k o devices s
  by_action (Rebuild true name limit beside workers mapped) e known s h alone =
      in_place_is (ap (λ (a : Action). (needs_for a k.comp).labels) e) known.at (ap (λ (a : Action). (needs_for a k.comp).excused) e ∙ known.is) known.within
      (named_alone known.at (sym (ap (λ (c : Option ℕ). unless_named c (filling_at o.columns)) known.is) ∙ alone))
      limit s (ap (λ (a : Action). (needs_for a k.comp).own) e) (sym (ap (λ (c : Option ℕ). option_map (λ i. start.Fill i i (unwrap_or limit 4294967295)) c) known.is) ∙ h)
  by_action (Rebuild false name limit beside workers mapped) e known s h alone =
      elsewhere_is (ap (λ (a : Action). (needs_for a k.comp).labels) e) known.at (ap (λ (a : Action). (needs_for a k.comp).excused) e ∙ known.is) known.within
      (named_alone known.at (sym (ap (λ (c : Option ℕ). unless_named c (filling_at o.columns)) known.is) ∙ alone))
      limit s (sym (ap (λ (c : Option ℕ). rebuild_elsewhere limit k.conf o sizes fronts c) known.is) ∙ h)
  by_action (Resume limit beside workers mapped) e known s h alone =
      further_is (ap (λ (a : Action). (needs_for a k.comp).labels) e) (ap (λ (a : Action). (needs_for a k.comp).excused) e) limit (filling_at o.columns) refl s h
  by_action (Io beside workers mapped) e known s h alone = absurd (let z : ⊥ = cc h in z)
  by_action (Sweep seed clients ops workers mapped) e known s h alone = absurd (let z : ⊥ = cc h in z)
  by_action Show e known s h alone = absurd (let z : ⊥ = cc h in z)
  by_action ShowMap e known s h alone = absurd (let z : ⊥ = cc h in z)
  by_action Init e known s h alone = absurd (let z : ⊥ = cc h in z)
  by_action Check e known s h alone = absurd (let z : ⊥ = cc h in z)
  by_action Rewrite e known s h alone = absurd (let z : ⊥ = cc h in z)
  by_action Print e known s h alone = absurd (let z : ⊥ = cc h in z)
  by_action (Fail name) e known s h alone = absurd (let z : ⊥ = cc h in z)
  by_action (ShowLabel name) e known s h alone = absurd (let z : ⊥ = cc h in z)
  by_action (Labels serial) e known s h alone = absurd (let z : ⊥ = cc h in z)

  pub may_start : (start : Option Start) → start ≡ start_in k o sizes fronts → other_filling k o.columns ≡ None → IsStartIf g k o devices start
  may_start None e alone = tt
  may_start (Some s) e alone = by_action k.command.action refl within.known s (sym e) alone
