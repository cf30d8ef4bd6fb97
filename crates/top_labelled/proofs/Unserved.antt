-- An array that was lost before it was served.
use Rattle.std.proofs.Common.{◌≡◌, ◌⊎◌, inl, inr, ℕ, ◌+◌, ◌/◌, ◌≤◌, List, Bool, true, false, length, Option, Some, None, refl, sym, ◌∙◌, ap, subst, arith}
use Rattle.std.specs.Prelude.{◌&&◌, count_by, is_some, nat_lt}
use Rattle.std.proofs.lemmas.Map.Views.{exact_unsigned_eq}
use Rattle.blk_disk.specs.declared.disk.Disk.{Ghosts}
use Rattle.blk_disk.specs.Devices.{Changes, RisesOn, sector_of}
use Rattle.blk_disk.proofs.DeviceLaws.{changes-refl, changes_sector, rises-wider}
use Rattle.lay_core.specs.Layout.{Shape}
use Rattle.eng_array.specs.declared.start.Start.{Start}
use Rattle.eng_cols.specs.declared.column.Column.{Column}
use Rattle.eng_cols.specs.declared.spot.Loss.{Loss}
use Rattle.eng_cols.specs.Cols.{is_set_filling}
use Rattle.eng_cols.specs.Deaths.{Dies}
use Rattle.eng_cols.specs.Stripes.{states_of}
use Rattle.raid_label.specs.declared.label.Label.{Label}
use Rattle.raid_map.specs.Regions.{IsBytesOf, IsMapOf, Marks as Map, is_marked, regions_in}
use Rattle.top_acts.specs.Begun.{HasBegun, MayBegin, MaySweep, Names, Opens}
use Rattle.top_acts.specs.Mapped.{LooksAtMaps, unmarked}
use Rattle.top_acts.specs.Seats.{names}
use Rattle.top_acts.specs.Sweeps.{Notice, Round, Marks, Sweeps}
use Rattle.top_acts.proofs.Later.{sweep_high}
use Rattle.top_acts.proofs.Marked.{marks_second}
use Rattle.top_close.specs.Ended.{IsLossBy}
use Rattle.top_close.specs.Stage.{DiesIn}
use Rattle.top_run.specs.Work.{Work}
use Rattle.top_labelled.specs.Begun.{IsAnew, IsColumnWithin, is_kept, sweeps_in, without}
use Rattle.top_labelled.specs.Words.{BeginsUnless, notice_in}
use Rattle.top_labelled.specs.Between.{HasOpened, asked_of}
use Rattle.top_labelled.specs.Maps.{IsKeptOrMap}
use Rattle.top_labelled.specs.Ran.{IsLostBefore}
use Rattle.top_labelled.proofs.Opened.{moved-first, opened-dead, opened-dies, opened-moved, opened-unfilled}
use Rattle.top_rounds.proofs.Words.{IsFirstInUse}

-- ## Sector 1

module _ {D : Type 0} (g : Ghosts D) (y : Shape) (sweep : Sweeps) (newest first : Label) (columns after : List Column) (old new : List (Option D)) (lost : Option Loss) (found : ℕ) where
  abbrev MayFollow : ℕ → ℕ → Type 0
  MayFollow d n = ((is_some lost ≡ true) × (n ≡ 0)) ⊎ MaySweep g sweep y columns old d n

  low-second : (d : ℕ) → MayFollow d 1 → ⊥
  low-second d (inl h) = let e = h.1 in omega (arith, e)
  low-second d (inr m) = omega (arith, sweep_high g y sweep columns old d 1 m)

  -- where a round announced it sector 1 is what it was
  pub second-round : HasBegun g Round sweep y newest first columns after old new lost found → g.tells → (d : ℕ) → sector_of g new d 1 ≡ sector_of g old d 1
  second-round b tells d = changes_sector g (MayBegin g Round sweep y columns old) old new d 1 b.stage.frame tells (no-second d)
    where
      no-second : (d : ℕ) → MayBegin g Round sweep y columns old d 1 → ⊥
      no-second d (inl f) = let e = f.kept in omega (arith, e)
      no-second d (inr m) = omega (arith, sweep_high g y sweep columns old d 1 m)

  -- what comes behind the maps writes no sector but that of the label
  named-first : (marked lost : Option Loss) (named : Bool) (label next : Label) (cs left : List Column) (between dev : List (Option D)) → Names g marked named label next cs left between dev lost → Changes g (IsFirstInUse cs) between dev
  named-first (Some by) lost named label next cs left between dev n = n.2.rounds.1.frame
  named-first None lost true label next cs left between dev n = subst (λ (ds : List (Option D)). Changes g (IsFirstInUse cs) between ds) (sym n.0.devices_are) (changes-refl g (IsFirstInUse cs) between)
  named-first None lost false label next cs left between dev n = n.counted.stage.frame

  -- what the maps left, and labels behind them
  announced-second : (map : Map) (opened : Option Loss) (label next : Label) (mid : List Column) (dev : List (Option D)) → Opens g (Marks map) y opened label next columns mid old dev → g.tells → (d : ℕ) → (RisesOn g old dev d → ⊥)
      → (sector_of g dev d 1 ≡ sector_of g old d 1) ⊎ IsBytesOf map (sector_of g dev d 1)
  announced-second map opened label next mid dev o tells d quiet =
      let far = named-first o.2 opened (names label columns && names label o.0) label next o.0 mid o.1 dev o.5 in
      let same : sector_of g dev d 1 ≡ sector_of g o.1 d 1 = changes_sector g (IsFirstInUse o.0) o.1 dev d 1 far tells (λ f. let e = f.kept in omega (arith, e)) in
      elim (marks_second g map columns o.0 old o.1 o.3 tells d (λ h. quiet (rises-wider g (λ _ _. ⊥) (IsFirstInUse o.0) old old o.1 dev d (changes-refl g (λ _ _. ⊥) old) h far))) [
        | inl kept ↦ inl (same ∙ kept)
        | inr bytes ↦ inr (subst (IsBytesOf map) (sym same) bytes)
      ]

  -- where maps did it is what it was, or that map, on each device whose count of faults didn't rise
  pub second-marks : (map : Map) → HasBegun g (Marks map) sweep y newest first columns after old new lost found → g.tells → (d : ℕ) → (RisesOn g old new d → ⊥)
      → (sector_of g new d 1 ≡ sector_of g old d 1) ⊎ IsBytesOf map (sector_of g new d 1)
  second-marks map b tells d quiet =
      let same : sector_of g new d 1 ≡ sector_of g b.dev d 1 = changes_sector g MayFollow b.dev new d 1 b.since tells (low-second d) in
      elim (announced-second map b.opened newest b.first b.left b.dev b.opens tells d (λ h. quiet (rises-wider g (λ _ _. ⊥) MayFollow old old b.dev new d (changes-refl g (λ _ _. ⊥) old) h b.since))) [
        | inl kept ↦ inl (same ∙ kept)
        | inr bytes ↦ inr (subst (IsBytesOf map) (sym same) bytes)
      ]

-- a map of the array, by the numbers that it has
pub map-of : (map blank : Map) (sector : List ℕ) → map.stripes ≡ blank.stripes → map.serial ≡ blank.serial → IsBytesOf map sector → IsMapOf blank sector
map-of map blank sector stripes serial bytes = (
  is_marked map.marks,
  record {
    magic = bytes.magic;
    serial_is = bytes.serial_is ∙ serial;
    region_is = bytes.region_is ∙ ap region-size stripes;
    bits = λ r few. bytes.bits r few ∙ ap (λ n. nat_lt r (regions_in n) && is_marked map.marks r) stripes;
  },
)
  where
    region-size : ℕ → ℕ
    region-size n = (n + 3967) / 3968

pub kept-clean : (map : Bool) (newest : Label) → is_kept map newest ≡ true → newest.clean ≡ 1
kept-clean true newest h = exact_unsigned_eq newest.clean 1 h
kept-clean false newest h = absurd (let z : false ≡ true = h in let u : ⊥ = cc in u)

-- ## All that is said of it

module _ {D : Type 0} (g : Ghosts D) (a : Work) (failed map : Bool) (marks union : Map) (unread : Option Loss) (newest last : Label) (read columns : List Column) (taken looked back : List (Option D)) (lost : Option Loss) (began : Option Start)
    (few : count_by is_set_filling a.columns ≤ 1) (within : IsColumnWithin a.start (length a.columns)) (looks : LooksAtMaps g a.layout (unmarked a.layout.stripes newest.serial) union a.columns read taken looked unread)
    (stripes : is_kept map newest ≡ true → marks.stripes ≡ a.layout.stripes) (serial : is_kept map newest ≡ true → marks.serial ≡ newest.serial)
    (h : HasOpened g a.layout (asked_of a.start failed (is_kept map newest) a.columns) (notice_in (is_kept map newest) marks) union unread newest last read columns looked back lost began) where
  abbrev notice : Notice
  notice = notice_in (is_kept map newest) marks

  abbrev sweep : Sweeps
  sweep = sweeps_in newest union

  abbrev blank : Map
  blank = unmarked a.layout.stripes newest.serial

  abbrev behind : Changes g (IsFirstInUse (without a.start h.begun)) h.opened back
  behind = moved-first g a.layout (asked_of a.start failed (is_kept map newest) a.columns) notice blank union unread newest last a.columns read columns taken looked back lost began few within looks h

  abbrev Begins : Option Loss → Bool → Type 0
  Begins o keeps = BeginsUnless g o (notice_in keeps marks) sweep a.layout newest h.first read h.begun looked h.opened h.before h.found

  -- what it was as its maps were read, or the map
  read-second : (o : Option Loss) (keeps : Bool) → Begins o keeps → g.tells → (d : ℕ) → (RisesOn g looked h.opened d → ⊥)
      → (sector_of g h.opened d 1 ≡ sector_of g looked d 1) ⊎ ((keeps ≡ true) × IsBytesOf marks (sector_of g h.opened d 1))
  read-second (Some loss) keeps has tells d quiet = inl (ap (λ (ds : List (Option D)). sector_of g ds d 1) has.0.devices_are)
  read-second None false has tells d quiet = inl (second-round g a.layout sweep newest h.first read h.begun looked h.opened h.before h.found has tells d)
  read-second None true has tells d quiet = elim (second-marks g a.layout sweep newest h.first read h.begun looked h.opened h.before h.found marks has tells d quiet) [ inl same ↦ inl same | inr bytes ↦ inr (refl, bytes) ]

  second : g.tells → (d : ℕ) → (RisesOn g taken back d → ⊥) → IsKeptOrMap g a newest taken back d
  second tells d quiet =
      let same : sector_of g back d 1 ≡ sector_of g h.opened d 1 = changes_sector g (IsFirstInUse (without a.start h.begun)) h.opened back d 1 behind tells (λ f. let e = f.kept in omega (arith, e)) in
      let was : sector_of g looked d 1 ≡ sector_of g taken d 1 = changes_sector g (λ _ _. ⊥) taken looked d 1 looks.reads.frame tells (λ f. f) in
      elim (read-second unread (is_kept map newest) h.has tells d (λ r. quiet (rises-wider g (λ _ _. ⊥) (IsFirstInUse (without a.start h.begun)) taken looked h.opened back d looks.reads.frame r behind))) [
        | inl kept ↦ inl (inl (same ∙ (kept ∙ was)))
        | inr bytes ↦ inr (kept-clean map newest bytes.0, map-of marks blank (sector_of g back d 1) (stripes bytes.0) (serial bytes.0) (subst (IsBytesOf marks) (sym same) bytes.1))
      ]

  pub lost-before : (loss : Loss) → lost ≡ Some loss → IsLostBefore g a newest taken map (record { columns = columns; lost = lost }) back
  lost-before loss is = record {
    opened = h.opened;
    begun = h.begun;
    first = h.first;
    last = last;
    before = h.before;
    begins = record {
      looked = looked;
      read = read;
      unread = unread;
      union = union;
      looks = looks;
      marks = marks;
      found = h.found;
      has = h.has;
      lost_is = h.was_lost;
    };
    fails = h.fails;
    loss = loss;
    lost = is;
    lost_is = subst (λ (o : Option Loss). IsLossBy a.layout None (states_of a.layout columns) o) is h.lost_is;
    named = opened-dead g a.layout (asked_of a.start failed (is_kept map newest) a.columns) notice blank union unread newest last a.columns read columns taken looked back lost began few within looks h;
    frame = opened-moved g a.layout (asked_of a.start failed (is_kept map newest) a.columns) notice blank union unread newest last a.columns read columns taken looked back lost began few within looks h;
    maps = second;
    dies =
        subst (λ (o : Option Loss). Dies (λ c. IsAnew a.start c ⊎ DiesIn g o a.columns taken back c) a.columns columns) is
        (opened-dies g a.layout (asked_of a.start failed (is_kept map newest) a.columns) notice blank union unread newest last a.columns read columns taken looked back lost began few within looks h);
    given_up = opened-unfilled g a.layout (asked_of a.start failed (is_kept map newest) a.columns) notice blank union unread newest last a.columns read columns taken looked back lost began few within looks h;
  }
