-- The column that is rebuilt anew is the one that the action fails; where one goes on none is named, and it is the one that is filling.
use Rattle.std.specs.Prelude.{◌≡◌, ◌<◌, ◌&&◌, ℕ, Bool, true, false, List, length, Option, Some, None, is_none, option_map, unwrap_or}
use Rattle.std.proofs.Common.{arith, refl, ap, subst}
use Rattle.eng_array.specs.Starts.{column_of}
use Rattle.eng_array.specs.declared.start.Start.{Start}
use Rattle.eng_array.specs.declared.start.Start.TheVariants as start
use Rattle.raid_conf.specs.declared.conf.Conf.{Conf}
use Rattle.top_bay.specs.Asked.{Asked}
use Rattle.top_bay.specs.Views.{IsKnown, IsWithinLimits}
use Rattle.top_open.specs.declared.fronts.Front.{Front}
use Rattle.top_open.specs.Opening.{Opened}
use Rattle.top_words.specs.Asked.{Action, Io, Sweep, Show, ShowMap, Init, Check, Rewrite, Print, Fail, ShowLabel, Label, Rebuild, Resume}
use Rattle.top_duty.specs.Opening.{filling_at, needs_for, needs_of}
use Rattle.top_duty.specs.Start.{IsNamedBy, free_spare, has_places, start_in}
use Rattle.top_duty.specs.Steps.{onto_spare, rebuild_elsewhere}
use Rattle.top_duty.proofs.Firsts.{filling_is}
use Rattle.top_duty.proofs.Opens.{dead_within}
use Rattle.top_duty.proofs.Words.{start_by}

onto_named : (most c : ℕ) (free : Option ℕ) (places : Bool) (excused : Option ℕ) (s : Start) → excused ≡ Some c → onto_spare most c free places ≡ Some s → IsNamedBy excused s
onto_named most c (Some device) places excused s named h = let same : start.Fill c device most ≡ s = cc h in subst (IsNamedBy excused) same named
onto_named most c None true excused s named h = let same : start.Spread c ≡ s = cc h in subst (IsNamedBy excused) same named
onto_named most c None false excused s named h = absurd (let z : ⊥ = cc h in z)

elsewhere_named : (limit : Option ℕ) (conf : Conf) (o : Opened) (sizes : List ℕ) (fronts : List Front) (comp : Option ℕ) (s : Start) → rebuild_elsewhere limit conf o sizes fronts comp ≡ Some s → IsNamedBy comp s
elsewhere_named limit conf o sizes fronts None s h = absurd (let z : ⊥ = cc h in z)
elsewhere_named limit conf o sizes fronts (Some c) s h = onto_named (unwrap_or limit 4294967295) c (free_spare conf o sizes fronts) _ (Some c) s refl h

in_place_named : (limit comp : Option ℕ) (s : Start) → option_map (λ i. start.Fill i i (unwrap_or limit 4294967295)) comp ≡ Some s → IsNamedBy comp s
in_place_named limit None s h = absurd (let z : ⊥ = cc h in z)
in_place_named limit (Some c) s h = let same : start.Fill c c (unwrap_or limit 4294967295) ≡ s = cc h in subst (IsNamedBy (Some c)) same refl

further_named : (limit filling : Option ℕ) (s : Start) → option_map (λ i. start.Resume i (unwrap_or limit 4294967295)) filling ≡ Some s → IsNamedBy None s
further_named limit None s h = absurd (let z : ⊥ = cc h in z)
further_named limit (Some c) s h = let same : start.Resume c (unwrap_or limit 4294967295) ≡ s = cc h in subst (IsNamedBy None) same refl

-- one that goes on is the one that is filling
onto_not : (most c : ℕ) (free : Option ℕ) (places : Bool) (i n : ℕ) → onto_spare most c free places ≡ Some (start.Resume i n) → ⊥
onto_not most c (Some device) places i n h = let z : ⊥ = cc h in z
onto_not most c None true i n h = let z : ⊥ = cc h in z
onto_not most c None false i n h = let z : ⊥ = cc h in z

elsewhere_not : (limit : Option ℕ) (conf : Conf) (o : Opened) (sizes : List ℕ) (fronts : List Front) (comp : Option ℕ) (i n : ℕ) → rebuild_elsewhere limit conf o sizes fronts comp ≡ Some (start.Resume i n) → ⊥
elsewhere_not limit conf o sizes fronts None i n h = let z : ⊥ = cc h in z
elsewhere_not limit conf o sizes fronts (Some c) i n h = onto_not (unwrap_or limit 4294967295) c (free_spare conf o sizes fronts) (is_none limit && has_places conf o.columns) i n h

in_place_not : (limit comp : Option ℕ) (i n : ℕ) → option_map (λ i. start.Fill i i (unwrap_or limit 4294967295)) comp ≡ Some (start.Resume i n) → ⊥
in_place_not limit None i n h = let z : ⊥ = cc h in z
in_place_not limit (Some c) i n h = let z : ⊥ = cc h in z

further_is : (limit filling : Option ℕ) (i n : ℕ) → option_map (λ i. start.Resume i (unwrap_or limit 4294967295)) filling ≡ Some (start.Resume i n) → filling ≡ Some i
further_is limit None i n h = absurd (let z : ⊥ = cc h in z)
further_is limit (Some c) i n h = let same : c ≡ i = cc h in ap (λ (x : ℕ). Some x) same

module _ (fronts : List Front) (sizes : List ℕ) (k : Asked) (o : Opened) where
  by_action : (action : Action) → IsKnown k.conf action k.comp → (s : Start) → start_by action k.comp k.conf o sizes fronts ≡ Some s → IsNamedBy (needs_for action k.comp).excused s
  by_action (Rebuild true name limit beside workers mapped) known s h = in_place_named limit k.comp s h
  by_action (Rebuild false name limit beside workers mapped) known s h = elsewhere_named limit k.conf o sizes fronts k.comp s h
  by_action (Resume limit beside workers mapped) known s h = further_named limit (filling_at o.columns) s h
  by_action (Io beside workers mapped) known s h = absurd (let z : ⊥ = cc h in z)
  by_action (Sweep seed clients ops workers mapped) known s h = absurd (let z : ⊥ = cc h in z)
  by_action Show known s h = absurd (let z : ⊥ = cc h in z)
  by_action ShowMap known s h = absurd (let z : ⊥ = cc h in z)
  by_action Init known s h = absurd (let z : ⊥ = cc h in z)
  by_action Check known s h = absurd (let z : ⊥ = cc h in z)
  by_action Rewrite known s h = absurd (let z : ⊥ = cc h in z)
  by_action Print known s h = absurd (let z : ⊥ = cc h in z)
  by_action (Fail name) known s h = absurd (let z : ⊥ = cc h in z)
  by_action (ShowLabel name) known s h = absurd (let z : ⊥ = cc h in z)
  by_action (Label serial) known s h = absurd (let z : ⊥ = cc h in z)

  pub start_named : IsWithinLimits k → (s : Start) → start_in k o sizes fronts ≡ Some s → IsNamedBy (needs_of k).excused s
  start_named within s h = by_action k.command.action within.known s h

  resumed_by : (action : Action) (i n : ℕ) → start_by action k.comp k.conf o sizes fronts ≡ Some (start.Resume i n) → filling_at o.columns ≡ Some i
  resumed_by (Rebuild true name limit beside workers mapped) i n h = absurd (in_place_not limit k.comp i n h)
  resumed_by (Rebuild false name limit beside workers mapped) i n h = absurd (elsewhere_not limit k.conf o sizes fronts k.comp i n h)
  resumed_by (Resume limit beside workers mapped) i n h = further_is limit (filling_at o.columns) i n h
  resumed_by (Io beside workers mapped) i n h = absurd (let z : ⊥ = cc h in z)
  resumed_by (Sweep seed clients ops workers mapped) i n h = absurd (let z : ⊥ = cc h in z)
  resumed_by Show i n h = absurd (let z : ⊥ = cc h in z)
  resumed_by ShowMap i n h = absurd (let z : ⊥ = cc h in z)
  resumed_by Init i n h = absurd (let z : ⊥ = cc h in z)
  resumed_by Check i n h = absurd (let z : ⊥ = cc h in z)
  resumed_by Rewrite i n h = absurd (let z : ⊥ = cc h in z)
  resumed_by Print i n h = absurd (let z : ⊥ = cc h in z)
  resumed_by (Fail name) i n h = absurd (let z : ⊥ = cc h in z)
  resumed_by (ShowLabel name) i n h = absurd (let z : ⊥ = cc h in z)
  resumed_by (Label serial) i n h = absurd (let z : ⊥ = cc h in z)

  -- it is one of the columns
  pub start_within : IsWithinLimits k → length o.columns ≡ k.conf.columns → (s : Start) → start_in k o sizes fronts ≡ Some s → column_of s < k.conf.columns
  start_within within entries (start.Fill c device most) h = dead_within k within c (start_named within (start.Fill c device most) h)
  start_within within entries (start.Resume c most) h = let is = filling_is o.columns c (resumed_by k.command.action c most h) in omega (arith, is.0, entries)
  start_within within entries (start.Spread c) h = dead_within k within c (start_named within (start.Spread c) h)
