-- What is asked of an array at each step of a run over it, and what comes of the steps.
use Rattle.std.proofs.Common.{◌≡◌, ◌⊎◌, inl, inr, ℕ, ◌≤◌, List, Bool, length, true, false, Option, Some, None, refl, sym, ◌∙◌, ap, subst, arith}
use Rattle.std.specs.Prelude.{Vec, ◌&&◌, is_some, not, option_map, slice_get}
use Rattle.std.specs.Bool.{then_some}
use Rattle.std.specs.declared.alloc.Global.{Global}
use Rattle.blk_disk.specs.declared.disk.Disk.{Ghosts as DiskGhosts}
use Rattle.blk_disk.specs.Devices.{Changes, size_of}
use Rattle.blk_disk.proofs.DeviceLaws.{changes_size}
use Rattle.lay_core.specs.Layout.{Shape}
use Rattle.lay_core.specs.declared.layout.Layout.{Ghosts as LayoutGhosts}
use Rattle.eng_cols.specs.declared.spot.Loss.{Loss}
use Rattle.eng_cols.specs.Deaths.{Dies}
use Rattle.eng_cols.proofs.DeathLaws.{dies-more}
use Rattle.eng_cols.specs.declared.column.Column.{Column}
use Rattle.eng_cols.specs.declared.column.Column.TheVariants as column
use Rattle.eng_cols.specs.Cols.{AtMostOne, IsFor, is_set_filling, HasDeviceOn}
use Rattle.eng_cols.specs.Fewer.{DieApart}
use Rattle.eng_cols.proofs.Lists.{count_at_most}
use Rattle.eng_parts.specs.declared.core_room.CoreRoom.{CoreRoom}
use Rattle.eng_parts.specs.declared.setup.Setup.{Setup}
use Rattle.eng_parts.specs.declared.setup.Closed.{Closed}
use Rattle.raid_label.specs.declared.label.Label.{Label}
use Rattle.raid_script.specs.Replies.{StandFor}
use Rattle.top_acts.specs.Begun.{HasBegun, MayBegin}
use Rattle.raid_map.specs.Regions.{Marks as Map}
use Rattle.top_acts.specs.Cleared.{EndsInSteps, EndsMapped, EndsMappedSettled}
use Rattle.top_acts.specs.Failed.{IsLeftLost, StaysBegun}
use Rattle.top_acts.specs.Mapped.{unmarked}
use Rattle.top_acts.specs.Sweeps.{Notice, Sweeps}
use Rattle.top_close.specs.Dying.{AnyCause}
use Rattle.eng_cols.specs.Stripes.{states_of}
use Rattle.top_close.specs.Ended.{IsLossBy}
use Rattle.top_acts.proofs.Having.{has_live}
use Rattle.top_acts.proofs.Named.{apart_in}
use Rattle.top_rounds.specs.Passes.{CanBeLabelled}
use Rattle.top_close.specs.Stage.{DiesIn}
use Rattle.eng_array.specs.Fitting.{FitsTrace}
use Rattle.eng_array.specs.declared.start.Start.{Start}
use Rattle.eng_events.specs.Opened.{IsSetup}
use Rattle.top_serve.specs.Setups.{IsFew, IsNotLost, IsRoomOf, MayStart, shape_in, with_start}
use Rattle.top_serve.specs.Served.{IsKeptAs}
use Rattle.top_serve.specs.Served as served
use Rattle.top_serve.proofs.Deaths.{later, few-later, room-later, setup-later, trace-later}
use Rattle.top_run.specs.Work.{Service}
use Rattle.top_run.specs.Works.{service_of, work_of}
use Rattle.top_run.proofs.All.{runs-stand}
use Rattle.top_labelled.specs.declared.labelled.Labelled.{Labelled}
use Rattle.top_labelled.specs.declared.labelled.Outcome.{Outcome}
use Rattle.top_labelled.specs.declared.labelled.Outcome.TheVariants as outcome
use Rattle.top_labelled.specs.declared.beginning.Started.{Started}
use Rattle.top_labelled.specs.declared.opening.AskedOpening.{AskedOpening}
use Rattle.top_labelled.specs.Begun.{BeginsLabelled, IsAlone, IsSeatedIf, IsColumnWithin, is_kept, sweeps_in, without}
use Rattle.top_labelled.specs.Words.{BeginsUnless, notice_in, writes_maps, closing_label, clear_if, line_of}
use Rattle.top_labelled.specs.Between.{CanServe, HasEnded, HasOpened, HasServed, IsBegun, IsLeftBy, MayClose, asked_of}
use Rattle.top_labelled.specs.Given.{CameTo, CanRunLabelled}
use Rattle.top_labelled.specs.Ran.{RanLabelled, onto}
use Rattle.top_labelled.proofs.Arrays.{array-of, settable-of}
use Rattle.top_labelled.proofs.All.{ran}
use Rattle.top_labelled.proofs.All.{moved as moved-all}
use Rattle.top_labelled.proofs.Leaving.{ends-so}
use Rattle.top_labelled.proofs.Looking.{begins-has}
use Rattle.top_labelled.proofs.Unserved.{lost-before}
use Rattle.top_labelled.proofs.Kept.{device-kept, filling-kept, filling-started, free-two, had-started, labels-kept, labels-started, length-started, spread-kept, spread-started, target-of}
use Rattle.top_labelled.proofs.Opened.{begun-dies, fails-kept, opened-any, opened-apart, opened-moved}
use Rattle.top_labelled.proofs.Restart.{rebuilds-alone, rebuilds-seated, rebuilds-within, start-later}
use Rattle.top_labelled.proofs.Without.{began-is}

pub none-from : (o : Option Loss) → is_some o ≡ false → o ≡ None
none-from None h = refl
none-from (Some loss) h = let z : true ≡ false = h in absurd (let u : ⊥ = cc in u)

-- the map that is handed on for a clear
pub clear-as : {A : Type 0} (b w : Bool) (blank : Map) (x : A) (f : A → Map) → b ≡ w → f x ≡ blank → option_map f (then_some b x) ≡ clear_if w blank
clear-as b w blank x f same now = subst (λ k. option_map f (then_some b x) ≡ clear_if k blank) same (go b)
  where
    go : (k : Bool) → option_map f (then_some k x) ≡ clear_if k blank
    go true = ap (λ (m : Map). Some m) now
    go false = refl

module _ {L D : Type 0} (lay : LayoutGhosts L) (disk : DiskGhosts D) where
  -- ## Between the beginning and the run

  module _ (l : Labelled L D) (b : Started L D) (can : CanRunLabelled lay disk l) (begun : IsBegun lay disk l b) where
    abbrev next : Setup L D
    next = later l.setup b.setup.devices b.setup.columns

    abbrev y : Shape
    y = shape_in lay l.setup

    abbrev keeps : Bool
    keeps = is_kept l.map l.label

    abbrev notice : Notice
    notice = notice_in (is_kept l.map l.label) b.maps.marks

    abbrev sweep : Sweeps
    sweep = sweeps_in l.label b.maps.union

    abbrev blank : Map
    blank = unmarked (shape_in lay l.setup).stripes l.label.serial

    abbrev asks : AskedOpening
    asks = asked_of l.start l.failed (is_kept l.map l.label) l.setup.columns.items

    abbrev opens : HasOpened disk y asks notice b.maps.union begun.unread l.label b.label begun.read b.setup.columns.items begun.looked b.setup.devices.items b.lost b.began
    opens = begun.opens

    within : IsColumnWithin l.start (length l.setup.columns.items)
    within = rebuilds-within lay disk l.setup l.start can.rebuilds

    alone : IsAlone l.start l.setup.columns.items
    alone = rebuilds-alone lay disk l.setup l.start can.rebuilds

    one : AtMostOne is_set_filling l.setup.columns.items
    one = count_at_most is_set_filling l.setup.columns.items can.setup.filling

    moved : Changes disk (MayBegin disk notice sweep y l.setup.columns.items l.setup.devices.items) l.setup.devices.items b.setup.devices.items
    moved = opened-moved disk y asks notice blank b.maps.union begun.unread l.label b.label l.setup.columns.items begun.read b.setup.columns.items l.setup.devices.items begun.looked b.setup.devices.items b.lost b.began can.setup.filling within begun.looks opens

    died : Dies AnyCause l.setup.columns.items b.setup.columns.items
    died = opened-any disk y asks notice blank b.maps.union begun.unread l.label b.label l.setup.columns.items begun.read b.setup.columns.items l.setup.devices.items begun.looked b.setup.devices.items b.lost b.began can.setup.filling within begun.looks opens

    apart : DieApart l.setup.columns.items b.setup.columns.items
    apart = opened-apart disk y asks notice blank b.maps.union begun.unread l.label b.label l.setup.columns.items begun.read b.setup.columns.items l.setup.devices.items begun.looked b.setup.devices.items b.lost b.began can.setup.filling within begun.looks opens alone

    -- what begins is what was asked, or nothing
    begins-or : (b.began ≡ None) ⊎ (b.began ≡ l.start)
    begins-or = elim (began-is l.failed l.start l.setup.columns.items opens.begun) [
      | inl none ↦ inl (opens.began_is ∙ none)
      | inr same ↦ inr (opens.began_is ∙ same.0)
    ]

    given : IsSetup lay disk next
    given = setup-later lay disk l.setup b.setup.devices b.setup.columns AnyCause _ died apart one moved can.setup

    few : IsFew next
    few = few-later lay disk l.setup b.setup.devices b.setup.columns AnyCause _ died apart one moved can.few

    -- ### It isn't lost

    module _ (none : b.lost ≡ None) where
      not-lost : IsNotLost lay next
      not-lost = subst (λ (o : Option Loss). IsLossBy y None (states_of y b.setup.columns.items) o) none opens.lost_is

      quiet : (opens.before ≡ None) × StaysBegun disk opens.first b.label (without l.start opens.begun) b.setup.columns.items opens.opened b.setup.devices.items
      quiet = fails-kept disk opens.first b.label (without l.start opens.begun) b.setup.columns.items opens.opened b.setup.devices.items opens.before b.lost none opens.fails

      first-dies : Dies (DiesIn disk opens.before l.setup.columns.items l.setup.devices.items opens.opened) l.setup.columns.items opens.begun
      first-dies = begun-dies disk y asks notice blank b.maps.union begun.unread l.label b.label l.setup.columns.items begun.read b.setup.columns.items l.setup.devices.items begun.looked b.setup.devices.items b.lost b.began can.setup.filling within begun.looks opens

      begun-any : Dies AnyCause l.setup.columns.items opens.begun
      begun-any = dies-more (DiesIn disk opens.before l.setup.columns.items l.setup.devices.items opens.opened) AnyCause l.setup.columns.items opens.begun (λ c why. tt) first-dies

      begun-apart : DieApart l.setup.columns.items opens.begun
      begun-apart = apart_in disk opens.before l.setup.columns.items opens.begun l.setup.devices.items opens.opened first-dies

      may-start : MayStart lay disk next b.began
      may-start = start-later lay disk l.setup b.setup.devices b.setup.columns opens.begun begun-any begun-apart one _ moved l.failed l.start b.began can.rebuilds quiet.1.columns_are opens.began_is

      has-begun : HasBegun disk notice sweep y l.label opens.first begun.read opens.begun begun.looked opens.opened opens.before opens.found
      has-begun = begins-has disk y notice sweep blank b.maps.union l.label opens.first l.setup.columns.items begun.read opens.begun l.setup.devices.items begun.looked opens.opened opens.before opens.found can.setup.filling begun.unread quiet.0 opens.has

      pub can-serve : (room : CoreRoom D) → IsRoomOf lay l.setup room → CanServe lay disk b room
      can-serve room is =
          let bound = has-begun.bounded in
          let same : b.label.counter ≡ opens.first.counter = ap (λ (l : Label). l.counter) quiet.1.label_is in
          let few = can.counter in
          let back = sym begun.setup in
          record {
            setup = subst (λ (st : Setup L D). IsSetup lay disk st) back given;
            fits = subst (λ (st : Setup L D). IsRoomOf lay st room) back (room-later lay disk l.setup b.setup.devices b.setup.columns AnyCause _ died apart one moved room is);
            trace = subst (λ (st : Setup L D). FitsTrace lay st) back (trace-later lay disk l.setup b.setup.devices b.setup.columns AnyCause _ died apart one moved can.trace);
            kept = subst (λ (st : Setup L D). IsNotLost lay st) back not-lost;
            array = begun.can.labels;
            held = begun.held;
            counter = omega (arith, bound, same, few);
            judge = subst (λ (st : Setup L D). IsFor (shape_in lay st) b.judge) back begun.judge;
            start = subst (λ (st : Setup L D). MayStart lay disk st b.began) back may-start;
            seated = subst (λ n. IsSeatedIf n b.began) (sym died.count) (rebuilds-seated lay disk l.setup l.start b.began can.rebuilds begins-or);
            within = subst (λ (o : Option Start). IsColumnWithin o (length b.setup.columns.items)) (sym begun.asked) (subst (λ n. IsColumnWithin l.start n) (sym died.count) within);
          }

      -- ### It was served

      module _ (v : Service) (back : List (Option D)) (has : HasServed lay disk b v back) where
        abbrev run : served.IsServed lay disk next b.began has.closed
        run = subst (λ (st : Setup L D). served.IsServed lay disk st b.began has.closed) begun.setup has.served

        abbrev device : Option ℕ
        device = onto l.start l.setup.columns.items

        -- by which map maps were cleared
        abbrev clear : Option Map
        clear = clear_if (b.clears && not (is_some has.closed.lost)) (unmarked b.maps.marks.stripes b.maps.marks.serial)

        clear-is : clear ≡ clear_if (writes_maps (is_kept l.map l.label) b.maps.union && not (is_some has.closed.lost)) (unmarked (shape_in lay l.setup).stripes l.label.serial)
        clear-is =
            ap (λ w. clear_if (w && not (is_some has.closed.lost)) (unmarked b.maps.marks.stripes b.maps.marks.serial)) begun.clears
            ∙ (ap (λ n. clear_if (writes_maps (is_kept l.map l.label) b.maps.union && not (is_some has.closed.lost)) (unmarked n b.maps.marks.serial)) begun.maps.marks
            ∙ ap (λ n. clear_if (writes_maps (is_kept l.map l.label) b.maps.union && not (is_some has.closed.lost)) (unmarked (shape_in lay l.setup).stripes n)) begun.serial)

        abbrev ended : HasEnded lay disk has.closed opens.first clear l.start device v back
        ended = subst (λ (n : Label). HasEnded lay disk has.closed n clear l.start device v back) quiet.1.label_is
            (subst (λ (o : Option Start). HasEnded lay disk has.closed b.label clear o device v back) begun.asked (subst (λ (o : Option ℕ). HasEnded lay disk has.closed b.label clear b.asked o v back) begun.device has.ended))

        abbrev first : BeginsLabelled disk (work_of lay l.setup l.start) l.label l.setup.devices.items b.setup.devices.items opens.begun (is_kept l.map l.label) opens.first None
        first = record {
          looked = begun.looked;
          read = begun.read;
          unread = begun.unread;
          union = b.maps.union;
          looks = begun.looks;
          marks = b.maps.marks;
          found = opens.found;
          has =
              subst (λ (ds : List (Option D)). BeginsUnless disk begun.unread notice sweep y l.label opens.first begun.read opens.begun begun.looked ds None opens.found) (sym quiet.1.devices_are)
              (subst (λ (o : Option Loss). BeginsUnless disk begun.unread notice sweep y l.label opens.first begun.read opens.begun begun.looked opens.opened o opens.found) quiet.0 opens.has);
          lost_is = subst (λ (o : Option Loss). IsLossBy y None (states_of y opens.begun) o) quiet.0 opens.was_lost;
        }

        pub came-to-run : RanLabelled disk (work_of lay l.setup l.start) l.label l.setup.devices.items v back l.failed l.map
        came-to-run =
            ran lay disk l.setup l.start b.began l.failed l.map b.setup.devices b.setup.columns opens.begun has.closed l.label opens.first begun.layout can.rebuilds first quiet.1.columns_are opens.began_is begun.marked begun.maps.marks begun.serial
            (array-of lay disk l.setup can.setup) (settable-of lay disk l.setup can.setup) not-lost given few run clear clear-is v back ended

        pub run-stands : StandFor v.clients v.replies v.sectors
        run-stands = runs-stand lay disk next b.began has.closed given few run v back (ends-so lay disk has.closed opens.first clear l.start device v back ended)

        pub as-many : length back ≡ length l.setup.devices.items
        as-many =
            (moved-all lay disk l.setup l.start b.began l.failed l.map b.setup.devices b.setup.columns opens.begun has.closed l.label opens.first begun.layout can.rebuilds first quiet.1.columns_are opens.began_is begun.marked begun.maps.marks begun.serial
            (array-of lay disk l.setup can.setup) (settable-of lay disk l.setup can.setup) not-lost given few run clear clear-is v back ended).count

    -- ### It is lost

    pub came-to-loss : (o : Outcome) (devices : Vec (Option D) Global) → is_some b.lost ≡ true → IsLeftBy b o devices → CameTo lay disk l o devices.items
    came-to-loss (outcome.Ran service) devices some left = absurd left
    came-to-loss (outcome.Lost ending) devices some left = by b.lost refl
      where
        by : (o : Option Loss) → b.lost ≡ o → CameTo lay disk l (outcome.Lost ending) devices.items
        by None is = let z : false ≡ true = sym (ap (λ (o : Option Loss). is_some o) is) ∙ some in absurd (let u : ⊥ = cc in u)
        by (Some loss) is =
            subst (λ (ds : Vec (Option D) Global). CameTo lay disk l (outcome.Lost ending) ds.items) (sym left.1)
            (subst (λ e. CameTo lay disk l (outcome.Lost e) b.setup.devices.items) (sym left.0)
            (lost-before disk (work_of lay l.setup l.start) l.failed l.map b.maps.marks b.maps.union begun.unread l.label b.label begun.read b.setup.columns.items l.setup.devices.items begun.looked b.setup.devices.items b.lost b.began
            can.setup.filling within begun.looks (λ _. begun.maps.marks) (λ _. begun.serial) opens loss is))

    pub left-many : (o : Outcome) (devices : Vec (Option D) Global) → IsLeftBy b o devices → length devices.items ≡ length l.setup.devices.items
    left-many (outcome.Ran service) devices left = absurd left
    left-many (outcome.Lost ending) devices left = ap (λ (ds : Vec (Option D) Global). length ds.items) left.1 ∙ moved.count

  -- ## The end

  module _ (b : Started L D) (room : CoreRoom D) (closed : Closed L D) (can : CanServe lay disk b room) (s : served.IsServed lay disk b.setup b.began closed) where
    -- the columns as the run's own events found them
    abbrev were : List Column
    were = with_start b.began b.setup.columns.items

    ends : (c : ℕ) → IsKeptAs (slice_get were c) (slice_get closed.columns.items c) ⊎ (slice_get closed.columns.items c ≡ Some column.Dead)
    ends c = elim (s.causes.ends c) [ inl kept ↦ inl kept | inr dead ↦ inr dead.0 ]

    long : length closed.columns.items ≡ length were
    long = s.causes.count ∙ sym (length-started b.began b.setup.columns.items)

    labels : CanBeLabelled disk closed.columns.items closed.devices.items
    labels = labels-kept were closed.columns.items long ends disk _ b.setup.devices.items closed.devices.items s.leaves.frame (labels-started lay disk b.setup b.began can.start can.array can.seated)

    -- the device of each column had a second sector
    two-sectors : (c d : ℕ) → HasDeviceOn were c d → 2 ≤ size_of disk b.setup.devices.items d
    two-sectors c d live = elim (had-started b.began b.setup.columns.items c d live) [
      | inl was ↦ let large = (array-of lay disk b.setup can.setup).there c d (has_live (shape_in lay b.setup) b.setup.columns.items c d was) in omega (arith, large)
      | inr is ↦ free-two lay disk b.setup d (target-of lay disk b.setup b.began c d can.start is)
    ]

    pub may-close : MayClose lay disk closed b.label
    may-close = record {
      array = labels;
      marks = record {
        sized = λ c d on. let two = two-sectors c d (device-kept were closed.columns.items long ends c d on) in let same = changes_size disk _ b.setup.devices.items closed.devices.items d s.leaves.frame in omega (arith, two, same);
        apart = labels.have.apart;
      };
      columns = record {
        entries = s.causes.count ∙ (can.setup.entries ∙ ap (λ z. (lay.shape z).columns) (sym s.tells.layout));
        filling = let most = filling-started lay disk b.setup b.began can.start can.setup.filling in let few = filling-kept were closed.columns.items long ends in omega (arith, few, most);
        spread = let most = spread-started lay disk b.setup b.began can.start can.setup.spread in let few = spread-kept were closed.columns.items long ends in omega (arith, few, most);
      };
      held = record { held = can.held.held; count = can.held.count ∙ sym s.causes.count };
      counter = can.counter;
    }

    -- the column that is to be rebuilt is one of those that are handed back
    pub within-closed : IsColumnWithin b.asked (length closed.columns.items)
    within-closed = subst (λ n. IsColumnWithin b.asked n) (sym s.causes.count) can.within

  pub ended-so : (closed : Closed L D) (label last : Label) (clear : Option Map) (asked : Option Start) (onto : Option ℕ) (v : Service) (lent back : List (Option D)) → v ≡ service_of closed v.line v.ending
      → v.line ≡ line_of (lay.shape closed.layout) asked onto closed.columns.items v.ending.lost → lent ≡ closed.devices.items
      → EndsMapped disk clear false (closing_label label) last closed.columns.items v.ending.columns lent back v.ending.lost
      → (closed.lost ≡ None → EndsMappedSettled disk clear (closing_label label) last closed.columns.items v.ending.columns lent back v.ending.lost)
      → ((loss : Loss) → closed.lost ≡ Some loss → IsLeftLost disk loss (closing_label label) last closed.columns.items v.ending.columns lent back)
      → EndsInSteps disk clear (lay.shape closed.layout) closed.lost (closing_label label) last closed.columns.items v.ending.columns lent back v.ending.lost
      → IsLossBy (lay.shape closed.layout) closed.lost (states_of (lay.shape closed.layout) v.ending.columns) v.ending.lost
      → HasEnded lay disk closed label clear asked onto v back
  ended-so closed label last clear asked onto v lent back told line is closes first left steps lost = record {
    last = last;
    told = told;
    line = line;
    closes = subst (λ (ds : List (Option D)). EndsMapped disk clear false (closing_label label) last closed.columns.items v.ending.columns ds back v.ending.lost) is closes;
    first = λ none. subst (λ (ds : List (Option D)). EndsMappedSettled disk clear (closing_label label) last closed.columns.items v.ending.columns ds back v.ending.lost) is (first none);
    left = λ loss was. subst (λ (ds : List (Option D)). IsLeftLost disk loss (closing_label label) last closed.columns.items v.ending.columns ds back) is (left loss was);
    steps = subst (λ (ds : List (Option D)). EndsInSteps disk clear (lay.shape closed.layout) closed.lost (closing_label label) last closed.columns.items v.ending.columns ds back v.ending.lost) is steps;
    lost = lost;
  }
