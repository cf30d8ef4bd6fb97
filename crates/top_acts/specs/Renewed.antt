-- The check units of an array were renewed: each was rewritten, or those whose stripes weren't in sync.
use Rattle.std.specs.Prelude.{◌≡◌, ◌⊎◌, ◌≤◌, ℕ, List, [], ◌∷◌, length, Bool, Option, Some, None, All, if◌then◌else◌, MatchOption, true}
use Rattle.blk_disk.specs.declared.disk.Disk.{Ghosts}
use Rattle.blk_disk.specs.declared.disk.Call.{Call}
use Rattle.blk_disk.specs.Disk.{call_of}
use Rattle.blk_disk.specs.Devices.{Changes, RisesOn, calls_of, sector_of}
use Rattle.lay_core.specs.Layout.{Shape}
use Rattle.eng_cols.specs.declared.column.Column.{Column}
use Rattle.eng_cols.specs.declared.spot.Loss.{Loss}
use Rattle.eng_cols.specs.Deaths.{Dies, LosesDevice}
use Rattle.raid_label.specs.declared.label.Label.{Label}
use Rattle.eng_cols.specs.Stripes.{states_of}
use Rattle.top_close.specs.Calls.{EndsSettled, IsSettle, MoreOn}
use Rattle.top_close.specs.Ended.{IsLossBy}
use Rattle.top_close.specs.Settled.{AreSettled}
use Rattle.top_rounds.specs.Labels.{seating_in, seating_of, with_round}
use Rattle.top_rounds.specs.Passes.{HoldsLabel, IsKeptInUse}
use Rattle.top_close.specs.Stage.{IsGivenUpIn, ToldNothing, IsStage}
use Rattle.top_rounds.specs.Rounds.{CountsRounds, clean_in_end}
use Rattle.top_acts.specs.declared.done.Done.{Done}
use Rattle.top_acts.specs.declared.done.Done.TheVariants as done
use Rattle.top_acts.specs.declared.sweeping.Renewal.{Renewal}
use Rattle.top_acts.specs.declared.sweeping.Renewal.TheVariants as renewal
use Rattle.top_acts.specs.Begun.{HasBegun, HasSwept, MaySweep}
use Rattle.top_acts.specs.Done.{unless_lost}
use Rattle.raid_map.specs.Regions.{Marks as Map, IsBytesOf}
use Rattle.top_acts.specs.Failed.{StaysBegun}
use Rattle.top_acts.specs.Cleared.{EndsInSteps, EndsMapped, IsEndingCall}
use Rattle.top_acts.specs.Mapped.{LooksAtMaps, ReadsMap, is_any_marked}
use Rattle.top_acts.specs.Stages.{AreStaged, IsClosing}
use Rattle.top_acts.specs.Sweeping.{DoesSweep}
use Rattle.top_acts.specs.Sweeps.{Over, Round, sweep_of}
use Rattle.eng_cols.specs.Cols.{HasDeviceOn}

-- what is said to be done, of so many check units
abbrev pub renewed : Renewal → ℕ → Done
renewed renewal.Init n = done.Init n
renewed renewal.Rewrite n = done.Rewrite n

-- a settle, and label writes and settles behind it, and writes of maps, where these are cleared
abbrev pub SettlesFirstOf : (clears : Bool) → List Call → Type 0
SettlesFirstOf clears calls = (good : Bool) × (more : List Call) × (calls ≡ call_of 2 0 0 good ∷ more) × All (IsEndingCall clears) more

module _ {D : Type 0} (g : Ghosts D) where
  -- Of a labelled array: its maps are read, then the opening round, each device in use settled, the sweep, each settled again, the closing round, and each settled once more; and the maps are cleared, where the union of those that were read has a mark. Where the array is lost on the way, what is left of this isn't done, but for the one round of a lost array, and nothing is told; one that is lost as its maps are read, or as it was begun, is left as it is then. `read`, `looked` and `unread` are the columns, the devices and the loss with which it was begun; all else is said by the columns and devices as they were before. `blank` is the map into which the maps were read, and `union` what it is then.
  pub record IsRenewed (kind : Renewal) (y : Shape) (label next : Label) (columns after : List Column) (old new : List (Option D)) (lost : Option Loss) (result : Done) (blank union : Map) : Type 0 where
    pub read : List Column
    pub looked : List (Option D)
    pub unread : Option Loss
    pub looks : LooksAtMaps g y blank union columns read old looked unread
    pub found : ℕ
    pub told : result ≡ unless_lost lost (renewed kind found)
    pub swept : lost ≡ None → HasSwept g (sweep_of kind) y columns after old new found
    pub rounds : ℕ
    pub some : unread ≡ None → 1 ≤ rounds
    pub few : rounds ≤ 2
    pub two : lost ≡ None → rounds ≡ 2
    pub stage : IsStage g (λ d n. IsKeptInUse (is_any_marked union) columns d n ⊎ MaySweep g (Over (sweep_of kind)) y columns old d n)
        (λ d. AreStaged (ReadsMap (All IsClosing)) (All (IsEndingCall (is_any_marked union))) (Over (sweep_of kind)) y (states_of y columns) d) lost columns after old new
    pub counter : CountsRounds rounds label next (length stage.rises)
    pub label_is : unread ≡ None → next ≡ with_round label next.counter (clean_in_end lost 1) (seating_in next)
    pub seating : lost ≡ None → seating_in next ≡ seating_of after
    pub given_up : IsGivenUpIn lost after
    pub held : unread ≡ None → (c d : ℕ) → HasDeviceOn after c d → HoldsLabel g new next c d
    pub settled : lost ≡ None → (c d : ℕ) → HasDeviceOn after c d → EndsSettled (calls_of g new d)
    pub ordered : lost ≡ None → (c d : ℕ) → HasDeviceOn after c d
        → MoreOn (AreStaged (ReadsMap (All IsClosing))
        (λ calls. (good : Bool) × (more : List Call) × (calls ≡ call_of 2 0 0 good ∷ more) × All (IsEndingCall (is_any_marked union)) more)
        (Over (sweep_of kind)) y (states_of y columns) d)
        (calls_of g old d) (calls_of g new d)
    pub lost_is : IsLossBy y None (states_of y after) lost
    pub map : g.tells → (d : ℕ) → (RisesOn g old new d → ⊥) → (sector_of g new d 1 ≡ sector_of g old d 1) ⊎ IsBytesOf blank (sector_of g new d 1)
    pub renews : MatchOption unread
        ((mid : List Column) × (dev : List (Option D)) × (first : Label) × (before : Option Loss)
        × HasBegun g Round (Over (sweep_of kind)) y label first read mid looked dev before found
        × MatchOption before
        (((left : List Column) × (quiet : List (Option D)) × AreSettled g (length mid) mid left dev quiet
        × EndsMapped g (if is_any_marked union then Some blank else None) true (record first { clean = 1 }) next left after quiet new lost)
        × EndsInSteps g (if is_any_marked union then Some blank else None) y None (record first { clean = 1 }) next mid after dev new lost)
        (λ loss. StaysBegun g first next mid after dev new × (lost ≡ Some loss)))
        (λ loss. StaysBegun g label next read after looked new × (lost ≡ Some loss))

  -- Of an array without labels: the sweep, which left columns `mid` and devices `dev`, then each device in use settled once, whether the array is lost or not.
  pub record IsRenewedPlain (kind : Renewal) (y : Shape) (columns after : List Column) (old new : List (Option D)) (lost : Option Loss) (result : Done) : Type 0 where
    pub found : ℕ
    pub told : result ≡ unless_lost lost (renewed kind found)
    pub swept : HasSwept g (sweep_of kind) y columns after old new found
    pub dies : Dies (LosesDevice g columns old new) columns after
    pub settled : (c d : ℕ) → HasDeviceOn after c d → EndsSettled (calls_of g new d)
    pub frame : Changes g (MaySweep g (Over (sweep_of kind)) y columns old) old new
    pub calls : (d : ℕ)
        → MoreOn (AreStaged (λ calls. calls ≡ []) (All IsSettle) (Over (sweep_of kind)) y (states_of y columns) d)
        (calls_of g old d) (calls_of g new d)
    pub uncalled : ToldNothing g columns old new
    pub lost_is : IsLossBy y None (states_of y after) lost
    pub mid : List Column
    pub dev : List (Option D)
    pub sweeps : DoesSweep g (sweep_of kind) y columns mid old dev found
    pub settles : AreSettled g (length mid) mid after dev new
