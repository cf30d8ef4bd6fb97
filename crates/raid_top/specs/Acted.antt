-- What was done of a command on the array of a configuration, and when that ends well.
use Rattle.std.specs.Prelude.{◌≡◌, ◌⊎◌, ◌<◌, ℕ, List, Bool, true, Option, Some, Ok, Contains, slice_get}
use Rattle.blk_disk.specs.Devices.{AreNamed, Changes, RisesOn}
use Rattle.blk_disk.specs.declared.disk.Disk.{Ghosts}
use Rattle.lay_core.specs.Layout.{IsLayout}
use Rattle.lay_core.specs.declared.place.Place.{Place}
use Rattle.eng_cols.specs.declared.column.Column.{Column}
use Rattle.eng_cols.specs.Cols.{HasDevice, is_set_filling, passes}
use Rattle.eng_cols.specs.Deaths.{Dies}
use Rattle.eng_cols.specs.Lost.{NotLost}
use Rattle.raid_text.specs.Text.{Text}
use Rattle.top_fetch.specs.Told.{Told}
use Rattle.top_bay.specs.Asked.{Asked, asked_in, names_for}
use Rattle.top_status.specs.declared.status.Status.{Status}
use Rattle.top_status.specs.declared.status.Status.TheVariants as status
use Rattle.top_open.specs.declared.fronts.Front.{Front}
use Rattle.top_words.specs.Asked.{Check, Command, profile_of}
use Rattle.eng_cols.specs.Stripes.{states_of}
use Rattle.top_duty.specs.Duty.{Admitted, Duty, OnArray, Shows, OneLabel, PrintConf, IsWanted, asked_of, duty_by, duty_in, layout_of}
use Rattle.top_duty.specs.Steps.{columns_of, reads_fronts, states_in}
use Rattle.top_duty.specs.Opening.{needs_of, sizes_of}
use Rattle.top_duty.specs.Taken.{Reads}
use Rattle.top_serve.specs.Setups.{with_start}
use Rattle.top_run.specs.Outliving.{HasFail}
use Rattle.raid_top.specs.Does.{Does}
use Rattle.raid_top.specs.Ordered.{AreOrdered}
use Rattle.raid_top.specs.Outcome.{Outcome}
use Rattle.raid_top.specs.Works.{work_of}

module _ {D : Type 0} (g : Ghosts D) (b : Told D) (command : Command) where
  -- What was due was done. There are what was asked, and the devices of its names as they were
  -- taken, as they were once their first sectors had been read, where that is done, and as they are
  -- put back. What is due goes by what was asked, by their sizes, and by what was read. What speaks
  -- of names and texts holds where the bay tells them.
  pub record Acted (o : Outcome) : Type 0 where
    pub duty : Duty
    pub fronts : List Front
    pub taken : List (Option D)
    pub old : List (Option D)
    pub back : List (Option D)
    pub command_is : (asked_of duty).command ≡ command
    pub asked : b.tells → asked_in b command ≡ Ok (asked_of duty)
    pub wanted : IsWanted (duty_by (asked_of duty) (sizes_of g.size old) fronts) (Ok duty)
    pub ordered : (a : Admitted) → duty ≡ OnArray a → IsLayout (layout_of a)
        × ((s : ℕ) (p : Place) → s < (layout_of a).stripes → (layout_of a).spare s ≡ Some p → (t : ℕ) × (i : ℕ) × (t < (layout_of a).stripes) × (i < (layout_of a).width) × (((layout_of a).place t i).column ≡ p.column))
        × AreOrdered (layout_of a) a.opened.columns × AreOrdered (layout_of a) (with_start a.start a.opened.columns)
    pub read : Reads g (profile_of (asked_of duty).command.action).reads taken old fronts
    pub before : b.tells → AreNamed b.home (names_for (asked_of duty)) taken
    pub after : b.tells → AreNamed b.after (names_for (asked_of duty)) back
    pub others : b.tells → (n : Text) → (Contains (names_for (asked_of duty)) n → ⊥)
        → b.after n ≡ b.home n
    pub does : Does g duty fronts old back o

-- ## Completeness

module _ {D : Type 0} (g : Ghosts D) where
  module _ (a : Admitted) (taken back : List (Option D)) where
    -- a column that may be dead in the end: the action names it, it is filling by the labels, an item
    -- asks that it fail, or its device's count of faults rose
    abbrev pub MayEndDead : ℕ → Type 0
    MayEndDead c = ((needs_of a.asked).excused ≡ Some c)
        ⊎ ((passes is_set_filling (slice_get (columns_of a) c) ≡ true) ⊎ (HasFail (work_of a) c ⊎ ((d : ℕ) × HasDevice (states_in a) c d × RisesOn g taken back d)))

  -- an array that something is done to outlives the call: it isn't lost, whichever of these columns
  -- be dead
  abbrev pub SurvivesCall : Duty → (taken back : List (Option D)) → Type 0
  SurvivesCall (OnArray a) taken back =
      (cols : List Column) → Dies (MayEndDead a taken back) (columns_of a) cols
      → NotLost (layout_of a) (states_of (layout_of a) cols)
  SurvivesCall (Shows k opened) taken back = Unit {0}
  SurvivesCall (OneLabel k) taken back = Unit {0}
  SurvivesCall (PrintConf k) taken back = Unit {0}

  -- Sector 0 of each device may have been read so on the way from the one to the other, by its first
  -- call, where the action reads it. So a device that tells its calls, of which the first went well,
  -- was read, though its count rose later.
  pub record MayRead (reads : Bool) (taken back : List (Option D)) (fronts : List Front) : Type 0 where
    pub looked : List (Option D)
    pub read : Reads g reads taken looked fronts
    pub later : Changes g (λ _ _. Unit {0}) looked back

  -- By these fronts all that is asked for is right, and its array outlives the call.
  pub record IsDue (b : Told D) (command : Command)
      (taken back : List (Option D)) (fronts : List Front) : Type 0 where
    pub duty : Duty
    pub wanted : IsWanted (duty_in g.size b command fronts) (Ok duty)
    pub survives : SurvivesCall duty taken back

-- Texts and names of a command are right; and by whatever may have been read of the first sectors,
-- sizes and labels are too, and the array isn't lost and outlives the call.
pub record IsRightCommand {D : Type 0} (g : Ghosts D) (b : Told D) (command : Command)
    : Type 0 where
  pub asked : Asked
  pub asks : asked_in b command ≡ Ok asked
  pub due : (taken back : List (Option D)) (fronts : List Front)
      → AreNamed b.home (names_for asked) taken → AreNamed b.after (names_for asked) back
      → MayRead g (reads_fronts asked.command.action) taken back fronts
      → IsDue g b command taken back fronts

-- The command ended well; or memory was wanted; or stripes were tested, and some weren't in sync.
abbrev pub CommandEndsWell : Command → Status → Type 0
CommandEndsWell command status.Ok = Unit {0}
CommandEndsWell command status.Memory = Unit {0}
CommandEndsWell command (status.NotInSync n) = command.action ≡ Check
CommandEndsWell command _ = ⊥
