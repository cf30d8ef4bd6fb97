-- What was done to devices: sizes stay, counts of faults don't fall, and calls come behind those of before.
use Rattle.std.specs.Prelude.{ℕ, Bool, List, [], ◌∷◌, Option, Some, None}
use Rattle.std.proofs.Common.{sym, subst}
use Rattle.blk_disk.specs.declared.disk.Disk.{Ghosts}
use Rattle.blk_disk.specs.Devices.{Changes}
use Rattle.blk_disk.proofs.DeviceLaws.{changes-more, changes-refl}
use Rattle.lay_core.specs.Layout.{Shape}
use Rattle.eng_cols.specs.declared.column.Column.{Column}
use Rattle.eng_cols.specs.declared.spot.Loss.{Loss}
use Rattle.raid_conf.specs.Layouts.{shape_of}
use Rattle.raid_label.specs.declared.label.Label.{Label}
use Rattle.top_acts.proofs.Kills.{alive_frame}
use Rattle.top_acts.specs.declared.done.Done.{Done}
use Rattle.top_acts.specs.declared.sweeping.Renewal.{Renewal}
use Rattle.top_acts.specs.declared.sweeping.Renewal.TheVariants as renewal
use Rattle.top_rounds.specs.Rounds.{HaveRounds}
use Rattle.top_run.specs.Work.{Ending}
use Rattle.top_open.specs.declared.fronts.Front.{Front}
use Rattle.top_open.specs.Opening.{Opened}
use Rattle.top_bay.specs.Asked.{Asked}
use Rattle.top_looks.specs.declared.map.Marked.{Marked}
use Rattle.top_words.specs.Asked.{profile_of}
use Rattle.top_words.specs.declared.profile.Deed.{Deed}
use Rattle.top_words.specs.declared.profile.Deed.TheVariants as deed
use Rattle.top_duty.specs.Duty.{Admitted, Duty, OnArray, Shows, OneLabel, PrintConf, layout_of}
use Rattle.top_duty.specs.Steps.{columns_of}
use Rattle.top_duty.specs.Start.{has_failed}
use Rattle.raid_top.specs.Arrays.{Renews}
use Rattle.raid_top.specs.Does.{Does, DoesDeed, DoesRun, Says, ShowsArray}
use Rattle.raid_top.specs.Outcome.{Outcome, Ran, Did, Looked}
use Rattle.raid_top.specs.Shown.{AreMapsFound}

-- any sector may have changed
abbrev pub AnySector : ℕ → ℕ → Type 0
AnySector d n = Unit {0}

module _ {D : Type 0} (g : Ghosts D) where
  abbrev pub Moves : List (Option D) → List (Option D) → Type 0
  Moves old back = Changes g AnySector old back

  pub moved : (may : ℕ → ℕ → Type 0) (old back : List (Option D)) → Changes g may old back → Moves old back
  moved may old back h = changes-more g may AnySector old back (λ d n m. tt) h

  module _ (y : Shape) (columns : List Column) (old back : List (Option D)) (act : Done) (e : Ending) where
    rounds_move : (lost : Option Loss) (label next : Label) (after : List Column) → HaveRounds g lost label next columns after old back → Moves old back
    rounds_move None label next after r = moved _ old back r.frame
    rounds_move (Some loss) label next after r = moved _ old back (r.1).frame

    renewal_moves : (kind : Renewal) (newest : Option Label) → Renews g y columns old back act e kind newest → Moves old back
    renewal_moves kind None h = moved _ old back h.frame
    renewal_moves kind (Some l) h = moved _ old back h.2.stage.frame

  module _ (a : Admitted) (failed : Bool) (old back : List (Option D)) where
    pub run_moves : (newest : Option Label) (o : Outcome) → DoesRun g a failed old back newest o → Moves old back
    run_moves None (Ran action s) h = moved _ old back h.1.frame
    run_moves None (Did act e) h = absurd h
    run_moves (Some l) (Ran action s) h = moved _ old back h.1.leaves.frame
    run_moves (Some l) (Did act e) h = moved _ old back h.1.frame
    run_moves newest (Looked text) h = absurd h

    deed_moves : (d : Deed) (o : Outcome) → DoesDeed g a failed old back d o → Moves old back
    deed_moves deed.Serves o h = run_moves a.opened.newest o h
    deed_moves deed.Looks o h = absurd h
    deed_moves deed.Checks (Did act e) h = moved _ old back h.frame
    deed_moves deed.Checks (Ran action s) h = absurd h
    deed_moves deed.Checks (Looked text) h = absurd h
    deed_moves deed.Inits (Did act e) h = renewal_moves (layout_of a) (columns_of a) old back act e renewal.Init a.opened.newest h
    deed_moves deed.Inits (Ran action s) h = absurd h
    deed_moves deed.Inits (Looked text) h = absurd h
    deed_moves deed.Rewrites (Did act e) h = renewal_moves (layout_of a) (columns_of a) old back act e renewal.Rewrite a.opened.newest h
    deed_moves deed.Rewrites (Ran action s) h = absurd h
    deed_moves deed.Rewrites (Looked text) h = absurd h
    deed_moves deed.Kills (Did act e) h = moved _ old back (alive_frame g (layout_of a) h.1 h.2 (h.5).left e.columns old back e.lost (record { mid = (h.5).mid; dev = (h.5).dev; before = (h.5).before; settles = (h.5).settles; lost_is = (h.5).before_is; ends = (h.5).ends }))
    deed_moves deed.Kills (Ran action s) h = absurd h
    deed_moves deed.Kills (Looked text) h = absurd h
    deed_moves (deed.Labels serial) (Did act e) h = rounds_move (layout_of a) (columns_of a) old back act e e.lost _ h.0 e.columns (h.1).rounds
    deed_moves (deed.Labels serial) (Ran action s) h = absurd h
    deed_moves (deed.Labels serial) (Looked text) h = absurd h

  saying_moves : (old back : List (Option D)) (said : List ℕ) (o : Outcome) → Says g old back said o → Moves old back
  saying_moves old back said (Looked text) h = subst (λ (ds : List (Option D)). Moves old ds) (sym h.1) (changes-refl g AnySector old)
  saying_moves old back said (Ran action s) h = absurd h
  saying_moves old back said (Did act e) h = absurd h

  label_moves : (k : Asked) (old back : List (Option D)) (fronts : List Front) (o : Outcome) → Does g (OneLabel k) fronts old back o → Moves old back
  label_moves k old back [] o h = absurd h
  label_moves k old back (front ∷ []) o h = saying_moves old back _ o h
  label_moves k old back (front ∷ (other ∷ fronts)) o h = absurd h

  found_moves : (y : Shape) (newest : Option Label) (columns after : List Column) (old back : List (Option D)) (found : Option Marked) → AreMapsFound g y newest columns after old back found → Moves old back
  found_moves y None columns after old back found h = subst (λ (ds : List (Option D)). Moves old ds) (sym h.1) (changes-refl g AnySector old)
  found_moves y (Some l) columns after old back found h = moved _ old back h.read.frame

  shown_moves : (k : Asked) (opened : Opened) (fronts : List Front) (old back : List (Option D)) (o : Outcome) → ShowsArray g k opened fronts old back o → Moves old back
  shown_moves k opened fronts old back o h = found_moves (shape_of k.conf opened.rows) opened.newest opened.columns h.after old back h.map h.found

  pub due_moves : (duty : Duty) (fronts : List Front) (old back : List (Option D)) (o : Outcome) → Does g duty fronts old back o → Moves old back
  due_moves (OnArray a) fronts old back o h = deed_moves a (has_failed a.start fronts) old back (profile_of a.asked.command.action).deed o h
  due_moves (Shows k opened) fronts old back o h = shown_moves k opened fronts old back o h
  due_moves (OneLabel k) fronts old back o h = label_moves k old back fronts o h
  due_moves (PrintConf k) fronts old back o h = saying_moves old back _ o h
