-- What is done to the array of a call, or said of it.
use Rattle.std.specs.Prelude.{◌≡◌, ℕ, Bool, List, [], ◌∷◌, Option, Some, None, false, MatchOption, if◌then◌else◌, nat_lt}
use Rattle.std.specs.Option.{option_map_or}
use Rattle.blk_disk.specs.declared.disk.Disk.{Ghosts}
use Rattle.raid_conf.specs.Form.{conf_text}
use Rattle.eng_cols.specs.declared.column.Column.{Column}
use Rattle.raid_conf.specs.Layouts.{shape_of}
use Rattle.raid_label.specs.declared.label.Label.{Label}
use Rattle.top_bay.specs.Asked.{Asked}
use Rattle.top_looks.specs.Maps.{map_text}
use Rattle.top_looks.specs.Show.{show_text}
use Rattle.top_looks.specs.declared.map.Marked.{Marked}
use Rattle.top_open.specs.Opening.{Opened}
use Rattle.top_acts.specs.Checked.{IsChecked}
use Rattle.top_acts.specs.Killed.{IsKilled}
use Rattle.top_acts.specs.Labelled.{IsFirstLabelled}
use Rattle.top_acts.specs.Mapped.{unmarked}
use Rattle.top_acts.specs.declared.done.Done.TheVariants as done
use Rattle.top_acts.specs.declared.sweeping.Renewal.TheVariants as renewal
use Rattle.top_open.specs.declared.fronts.Front.{Front}
use Rattle.top_words.specs.Asked.{profile_of}
use Rattle.top_words.specs.declared.profile.Deed.{Deed}
use Rattle.top_words.specs.declared.profile.Deed.TheVariants as deed
use Rattle.top_duty.specs.Duty.{Admitted, Duty, OnArray, Shows, OneLabel, PrintConf, layout_of}
use Rattle.top_duty.specs.Opening.{sizes_of}
use Rattle.top_duty.specs.Start.{has_failed}
use Rattle.top_run.specs.Ran.{AsksAsScripts, RanPlain}
use Rattle.top_labelled.specs.Ran.{IsLostBefore, RanLabelled}
use Rattle.top_looks.specs.Labels.{label_text}
use Rattle.raid_top.specs.Arrays.{Renews}
use Rattle.raid_top.specs.Orders.{first_label}
use Rattle.raid_top.specs.Outcome.{Outcome, Ran, Did, Looked}
use Rattle.raid_top.specs.Found.{IsUnionFound}
use Rattle.raid_top.specs.Works.{work_of}

-- From the devices as they were once their first sectors had been read to the devices as they are put back.
module _ {D : Type 0} (g : Ghosts D) where
  -- whether the device onto which a column is rebuilt has failed before
  module _ (a : Admitted) (failed : Bool) (old back : List (Option D)) where
    -- Clients were served over an array without labels, or over one whose newest label is this one; beside the latter a column is rebuilt, if one is to be, unless the device onto which that goes has failed before. Each item is one that a script may have. Or the array, which has labels, was lost before that.
    abbrev pub DoesRun : Option Label → Outcome → Type 0
    DoesRun None (Ran action s) = (action ≡ a.asked.command.action) × RanPlain g (work_of a) old s back × AsksAsScripts (work_of a)
    DoesRun None (Did act e) = ⊥
    DoesRun (Some newest) (Ran action s) = (action ≡ a.asked.command.action)
        × RanLabelled g (work_of a) newest old s back failed (profile_of a.asked.command.action).map × AsksAsScripts (work_of a)
    DoesRun (Some newest) (Did act e) = (act ≡ done.Nothing) × IsLostBefore g (work_of a) newest old (profile_of a.asked.command.action).map e back
    DoesRun newest (Looked text) = ⊥

    -- That, or something was done without a core: stripes were tested; check units were written anew; the column that is named was failed, by the newest label; or the array got labels, the first of which is one that no round has named. `next` is the label that was written last.
    abbrev pub DoesDeed : Deed → Outcome → Type 0
    DoesDeed deed.Serves o = DoesRun a.opened.newest o
    DoesDeed deed.Checks (Did act e) = IsChecked g (layout_of a) a.opened.columns e.columns old back e.lost act
    DoesDeed deed.Inits (Did act e) = Renews g (layout_of a) a.opened.columns old back act e renewal.Init a.opened.newest
    DoesDeed deed.Rewrites (Did act e) = Renews g (layout_of a) a.opened.columns old back act e renewal.Rewrite a.opened.newest
    DoesDeed deed.Kills (Did act e) = (c : ℕ) × (l : Label) × (next : Label) × (a.asked.comp ≡ Some c) × (a.opened.newest ≡ Some l)
        × IsKilled g (layout_of a) c l next a.opened.columns e.columns old back e.lost act
    DoesDeed (deed.Labels serial) (Did act e) = (next : Label)
        × IsFirstLabelled g (layout_of a) (first_label a.asked.conf a.opened.rows serial) next a.opened.columns e.columns old back e.lost act
    DoesDeed d o = ⊥

  -- something is said, and no device was called
  abbrev pub Says : (old back : List (Option D)) → List ℕ → Outcome → Type 0
  Says old back said (Looked text) = (text ≡ said) × (back ≡ old)
  Says old back said o = ⊥

  -- The maps of the devices in use were read, where the array has labels, and the array or its parity map is shown as it is by that; an array without labels has no map. With the array it is told whether a region is marked.
  pub record ShowsArray (k : Asked) (opened : Opened) (fronts : List Front) (old back : List (Option D)) (o : Outcome) : Type 0 where
    pub after : List Column
    pub map : Option Marked
    pub found : MatchOption opened.newest ((after ≡ opened.columns) × (back ≡ old) × (map ≡ None))
        (λ l. IsUnionFound g (unmarked (shape_of k.conf opened.rows).stripes l.serial) opened.columns after old back map)
    pub said : o ≡ Looked (if (profile_of k.command.action).map then map_text map
        else show_text k.conf (record opened { columns = after }) (sizes_of g.size old) fronts (option_map_or (λ (m : Marked). nat_lt 0 m.marked) map false))

  -- What is due was done: for one label the front is said of the one device that was looked at.
  abbrev pub Does : Duty → List Front → (old back : List (Option D)) → Outcome → Type 0
  Does (OnArray a) fronts old back o = DoesDeed a (has_failed a.start fronts) old back (profile_of a.asked.command.action).deed o
  Does (Shows k opened) fronts old back o = ShowsArray k opened fronts old back o
  Does (OneLabel k) (front ∷ []) old back o = Says old back (label_text front) o
  Does (OneLabel k) fronts old back o = ⊥
  Does (PrintConf k) fronts old back o = Says old back (conf_text k.conf) o
