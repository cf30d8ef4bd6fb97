-- What sector 1 of the devices holds behind a run over an array with labels.
use Rattle.std.proofs.Common.{◌≡◌, ◌⊎◌, inl, inr, ℕ, ◌≤◌, List, Bool, true, false, Option, Some, None, refl, sym, ◌∙◌, ap, subst, arith}
use Rattle.std.specs.Prelude.{◌&&◌, ◌||◌, ◌==◌, not, count_by, is_some}
use Rattle.blk_disk.specs.declared.disk.Disk.{Ghosts}
use Rattle.blk_disk.specs.Devices.{Changes, RisesOn, sector_of, size_of}
use Rattle.blk_disk.proofs.DeviceLaws.{changes-refl, changes_sector, changes_size, rises-wider}
use Rattle.lay_core.specs.Layout.{Shape}
use Rattle.eng_cols.specs.declared.column.Column.{Column}
use Rattle.eng_cols.specs.declared.spot.Loss.{Loss}
use Rattle.eng_cols.specs.Cols.{ColumnState, is_set_filling, HasDeviceOn}
use Rattle.eng_cols.specs.Stripes.{states_of}
use Rattle.raid_label.specs.declared.label.Label.{Label}
use Rattle.raid_map.specs.Regions.{IsBytesOf, Marks as Map}
use Rattle.top_acts.specs.Begun.{MayBegin}
use Rattle.top_acts.specs.Behind.{AreLast}
use Rattle.top_acts.specs.Cleared.{EndsMapped}
use Rattle.top_acts.specs.Mapped.{ReadsMap, is_any_marked, unmarked}
use Rattle.top_acts.specs.Marking.{AreNotice}
use Rattle.top_acts.specs.Stages.{AreStaged}
use Rattle.top_acts.specs.Sweeps.{Notice, Sweeps}
use Rattle.top_close.specs.Ended.{IsLossBy}
use Rattle.top_close.specs.Stage.{DiesIn, IsInUse, IsStage}
use Rattle.top_close.proofs.StageLaws.{live_before}
use Rattle.top_run.specs.Work.{Service, Work}
use Rattle.top_labelled.specs.Begun.{BeginsLabelled, is_kept, sweeps_in}
use Rattle.top_labelled.specs.Words.{BeginsUnless, notice_in, writes_maps, closing_label, clear_if}
use Rattle.top_labelled.specs.Maps.{IsKeptOrMap}
use Rattle.top_labelled.proofs.Looking.{begins-stage}
use Rattle.top_labelled.proofs.Unserved.{kept-clean, map-of, second-marks, second-round}
use Rattle.top_labelled.proofs.Without.{never}
use Rattle.top_acts.proofs.Words.{MayEnd}

-- ## By which map it is cleared

clear-none : (b : Bool) (m : Map) → b ≡ false → clear_if b m ≡ None
clear-none false m h = refl
clear-none true m h = never h

clear-some : (b : Bool) (m : Map) → b ≡ true → clear_if b m ≡ Some m
clear-some true m h = refl
clear-some false m h = never (sym h)

clear-same : (b : Bool) (m other : Map) → clear_if b m ≡ Some other → m ≡ other
clear-same true m other h = cc
clear-same false m other h = absurd (let z : None ≡ Some other = h in let u : ⊥ = cc in u)

and-false : (a b : Bool) → b ≡ false → (a && b) ≡ false
and-false true b h = h
and-false false b h = refl

-- maps are cleared only where they are to be
pub clears-only : (w x : Bool) (m : Map) (clear : Option Map) → clear ≡ clear_if (w && x) m → is_some clear ≡ true → w ≡ true
clears-only true x m clear is some = refl
clears-only false x m clear is some = never (sym some ∙ ap (λ (o : Option Map). is_some o) is)

none-false : (o : Option Loss) → o ≡ None → not (is_some o) ≡ true
none-false None h = refl
none-false (Some loss) h = absurd (let z : Some loss ≡ None = h in let u : ⊥ = cc in u)

some-false : (o : Option Loss) (loss : Loss) → o ≡ Some loss → not (is_some o) ≡ false
some-false None loss h = absurd (let z : None ≡ Some loss = h in let u : ⊥ = cc in u)
some-false (Some other) loss h = refl

-- of an array that isn't lost they are
pub lost-so : (w : Bool) (o : Option Loss) (m : Map) → w ≡ true → o ≡ None → is_some (clear_if (w && not (is_some o)) m) ≡ true
lost-so w o m one none = ap (λ (c : Option Map). is_some c) (clear-some (w && not (is_some o)) m (ap (λ b. b && not (is_some o)) one ∙ none-false o none))

-- one that isn't lost in the end wasn't before
pub unlost-so : (y : Shape) (before lost : Option Loss) (cols : List ColumnState) → IsLossBy y before cols lost → lost ≡ None → before ≡ None
unlost-so y None lost cols is none = refl
unlost-so y (Some loss) lost cols is none = let z : None ≡ Some loss = sym none ∙ is in absurd (let u : ⊥ = cc in u)

-- a map is kept of an array that was closed in order, where one is asked for
pub kept-so : (map : Bool) (newest : Label) → map ≡ true → newest.clean ≡ 1 → is_kept map newest ≡ true
kept-so true newest one clean = ap (λ n. n == 1) clean
kept-so false newest one clean = never (sym one)

unkept-so : (map : Bool) (newest : Label) → map ≡ false → is_kept map newest ≡ false
unkept-so false newest h = refl
unkept-so true newest h = never h

or-either : (keeps any : Bool) → (keeps ≡ true) ⊎ (any ≡ true) → (keeps || any) ≡ true
or-either true any h = refl
or-either false any (inl h) = never (sym h)
or-either false any (inr h) = h

or-neither : (keeps any : Bool) → keeps ≡ false → any ≡ false → (keeps || any) ≡ false
or-neither true any one two = never one
or-neither false any one two = two

-- where no map is cleared the end writes none
no-end : (clears : Bool) → clears ≡ false → (columns : List Column) (d : ℕ) → MayEnd clears columns d 1 → ⊥
no-end false h columns d on = let e = on.kept in omega (arith, e)
no-end true h columns d on = never h

module _ {D : Type 0} (g : Ghosts D) (a : Work) (newest first last : Label) (taken opened served back : List (Option D)) (begun closed : List Column) (s : Service) (map : Bool) (before : Option Loss) (clear : Option Map)
    (few : count_by is_set_filling a.columns ≤ 1) (begins : BeginsLabelled g a newest taken opened begun (is_kept map newest) first None)
    (stripes : begins.marks.stripes ≡ a.layout.stripes) (serial : begins.marks.serial ≡ newest.serial)
    (may : ℕ → ℕ → Type 0) (run : Changes g may opened served) (away : (d : ℕ) → 2 ≤ size_of g opened d → may d 1 → ⊥)
    (sized : (c d : ℕ) → HasDeviceOn closed c d → 2 ≤ size_of g taken d)
    (stays : (c d : ℕ) → HasDeviceOn closed c d → IsInUse a.columns d → (k : ℕ) × HasDeviceOn begun k d)
    (closes : EndsMapped g clear false (closing_label first) last closed s.ending.columns served back s.ending.lost)
    (clear_is : clear ≡ clear_if (writes_maps (is_kept map newest) begins.union && not (is_some before)) (unmarked a.layout.stripes newest.serial))
    (unlost : s.ending.lost ≡ None → before ≡ None) where
  abbrev y : Shape
  y = a.layout

  abbrev sweep : Sweeps
  sweep = sweeps_in newest begins.union

  abbrev blank : Map
  blank = unmarked a.layout.stripes newest.serial

  abbrev notice : Notice
  notice = notice_in (is_kept map newest) begins.marks

  abbrev Begun : ℕ → ℕ → Type 0
  Begun = MayBegin g notice sweep y a.columns taken

  stage : IsStage g (MayBegin g notice sweep y a.columns taken) (λ d. AreStaged (ReadsMap (AreNotice notice)) (AreLast None) sweep y (states_of y a.columns) d) None a.columns begun taken opened
  stage = begins-stage g y notice sweep (unmarked y.stripes newest.serial) begins.union newest first a.columns begins.read begun taken begins.looked opened None begins.found few begins.unread begins.looks begins.has

  abbrev Begins : Option Loss → Bool → Type 0
  Begins o keeps = BeginsUnless g o (notice_in keeps begins.marks) sweep y newest first begins.read begun begins.looked opened None begins.found

  -- ## Behind the beginning

  as-read : g.tells → (d : ℕ) → sector_of g begins.looked d 1 ≡ sector_of g taken d 1
  as-read tells d = changes_sector g (λ _ _. ⊥) taken begins.looked d 1 begins.looks.reads.frame tells (λ f. f)

  begun-plain : (o : Option Loss) (keeps : Bool) → keeps ≡ false → Begins o keeps → g.tells → (d : ℕ) → sector_of g opened d 1 ≡ sector_of g begins.looked d 1
  begun-plain (Some loss) keeps off has tells d = ap (λ (ds : List (Option D)). sector_of g ds d 1) has.0.devices_are
  begun-plain None true off has tells d = never off
  begun-plain None false off has tells d = second-round g y sweep newest first begins.read begun begins.looked opened None begins.found has tells d

  begun-either : (o : Option Loss) (keeps : Bool) → Begins o keeps → g.tells → (d : ℕ) → (RisesOn g begins.looked opened d → ⊥)
      → (sector_of g opened d 1 ≡ sector_of g begins.looked d 1) ⊎ ((keeps ≡ true) × IsBytesOf begins.marks (sector_of g opened d 1))
  begun-either (Some loss) keeps has tells d quiet = inl (ap (λ (ds : List (Option D)). sector_of g ds d 1) has.0.devices_are)
  begun-either None false has tells d quiet = inl (second-round g y sweep newest first begins.read begun begins.looked opened None begins.found has tells d)
  begun-either None true has tells d quiet = elim (second-marks g y sweep newest first begins.read begun begins.looked opened None begins.found begins.marks has tells d quiet) [ inl same ↦ inl same | inr bytes ↦ inr (refl, bytes) ]

  -- each device in use then has the map that is kept
  begun-marked : (o : Option Loss) (keeps : Bool) → keeps ≡ true → Begins o keeps → g.tells → (c d : ℕ) → HasDeviceOn begun c d → IsBytesOf begins.marks (sector_of g opened d 1)
  begun-marked (Some loss) keeps so has tells c d live = let z : None ≡ Some loss = has.1 in absurd (let u : ⊥ = cc in u)
  begun-marked None false so has tells c d live = never (sym so)
  begun-marked None true so has tells c d live = has.mapped begins.marks refl c d live tells

  -- ## Behind the run

  as-served : g.tells → (d : ℕ) → 2 ≤ size_of g taken d → sector_of g served d 1 ≡ sector_of g opened d 1
  as-served tells d sized =
      let size = changes_size g Begun taken opened d stage.frame in
      changes_sector g may opened served d 1 run tells (away d (omega (arith, size, sized)))

  as-closed : clear ≡ None → g.tells → (d : ℕ) → sector_of g back d 1 ≡ sector_of g served d 1
  as-closed none tells d = changes_sector g (MayEnd (is_some clear) closed) served back d 1 closes.stage.frame tells (no-end (is_some clear) (ap (λ (o : Option Map). is_some o) none) closed d)

  -- ## The four rules

  pub untouched : g.tells → map ≡ false → is_any_marked begins.union ≡ false → (d : ℕ) → 2 ≤ size_of g taken d → sector_of g back d 1 ≡ sector_of g taken d 1
  untouched tells unasked none d sized =
      let keeps = unkept-so map newest unasked in
      let writes : writes_maps (is_kept map newest) begins.union ≡ false = or-neither (is_kept map newest) (is_any_marked begins.union) keeps none in
      let clears = clear_is ∙ clear-none (writes_maps (is_kept map newest) begins.union && not (is_some before)) blank (ap (λ b. b && not (is_some before)) writes) in
      as-closed clears tells d ∙ (as-served tells d sized ∙ (begun-plain begins.unread (is_kept map newest) keeps begins.has tells d ∙ as-read tells d))

  pub cleared : g.tells → (is_kept map newest ≡ true) ⊎ (is_any_marked begins.union ≡ true) → s.ending.lost ≡ None → (c d : ℕ) → HasDeviceOn s.ending.columns c d → IsBytesOf blank (sector_of g back d 1)
  cleared tells why none c d live =
      let writes : writes_maps (is_kept map newest) begins.union ≡ true = or-either (is_kept map newest) (is_any_marked begins.union) why in
      let clears = clear_is ∙ clear-some (writes_maps (is_kept map newest) begins.union && not (is_some before)) blank (ap (λ b. b && not (is_some before)) writes ∙ none-false before (unlost none)) in
      closes.cleared blank clears none c d live tells

  pub exact : g.tells → newest.clean ≡ 1 → map ≡ true → (loss : Loss) → before ≡ Some loss → (c e d : ℕ) → HasDeviceOn a.columns c d → HasDeviceOn s.ending.columns e d → IsBytesOf begins.marks (sector_of g back d 1)
  exact tells clean asked loss lost c e d was live =
      let on = live_before (DiesIn g s.ending.lost closed served back) closed s.ending.columns e d closes.stage.dies live in
      let here = stays e d on (record { col = c; live = was }) in
      let held = begun-marked begins.unread (is_kept map newest) (kept-so map newest asked clean) begins.has tells here.0 d here.1 in
      let clears = clear_is ∙ clear-none (writes_maps (is_kept map newest) begins.union && not (is_some before)) blank (and-false (writes_maps (is_kept map newest) begins.union) (not (is_some before)) (some-false before loss lost)) in
      subst (IsBytesOf begins.marks) (sym (as-closed clears tells d ∙ as-served tells d (sized e d on))) held

  pub others : g.tells → (d : ℕ) → 2 ≤ size_of g taken d → (RisesOn g taken back d → ⊥) → IsKeptOrMap g a newest taken back d
  others tells d size quiet = elim (closes.maps tells d (λ rose. quiet (all-rose (rises-wider g may (λ _ _. ⊥) opened served back back d run rose (changes-refl g (λ _ _. ⊥) back))))) [
    | inr held ↦ inl (inr (subst (λ (m : Map). IsBytesOf m (sector_of g back d 1)) (sym (clear-same (writes_maps (is_kept map newest) begins.union && not (is_some before)) blank held.0 (sym clear_is ∙ held.1))) held.2))
    | inl same ↦
        let since : sector_of g back d 1 ≡ sector_of g opened d 1 = same ∙ as-served tells d size in
        elim (begun-either begins.unread (is_kept map newest) begins.has tells d (λ rose. quiet (early-rose (rises-wider g (λ _ _. ⊥) (λ _ _. ⊥) taken begins.looked opened opened d begins.looks.reads.frame rose (changes-refl g (λ _ _. ⊥) opened))))) [
          | inl kept ↦ inl (inl (since ∙ (kept ∙ as-read tells d)))
          | inr bytes ↦ inr (kept-clean map newest bytes.0, map-of begins.marks blank (sector_of g back d 1) stripes serial (subst (IsBytesOf begins.marks) (sym since) bytes.1))
        ]
  ]
    where
      all-rose : RisesOn g opened back d → RisesOn g taken back d
      all-rose rose = rises-wider g Begun (λ _ _. ⊥) taken opened back back d stage.frame rose (changes-refl g (λ _ _. ⊥) back)

      early-rose : RisesOn g taken opened d → RisesOn g taken back d
      early-rose rose =
          let more = rises-wider g (λ _ _. ⊥) may taken taken opened served d (changes-refl g (λ _ _. ⊥) taken) rose run in
          rises-wider g (λ _ _. ⊥) (MayEnd (is_some clear) closed) taken taken served back d (changes-refl g (λ _ _. ⊥) taken) more closes.stage.frame
