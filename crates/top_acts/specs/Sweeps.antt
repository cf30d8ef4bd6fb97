-- How an array is begun with: by what it is announced that sectors of its rows are going to be written, and which check units are rewritten before that.
use Rattle.std.specs.Prelude.{ℕ, Bool, true, false, Option, if◌then◌else◌}
use Rattle.eng_cols.specs.declared.spot.Loss.{Loss}
use Rattle.raid_map.specs.Regions.{Marks as Map}
use Rattle.raid_map.specs.Sweeping.{marks_stripe}
use Rattle.raid_recon.specs.declared.kind.Sweep.{Sweep}
use Rattle.top_rounds.specs.Rounds.{clean_in_end}
use Rattle.raid_recon.specs.declared.kind.Sweep.TheVariants as sweep
use Rattle.top_acts.specs.declared.sweeping.Renewal.{Renewal}
use Rattle.top_acts.specs.declared.sweeping.Renewal.TheVariants as renewal
use Rattle.top_acts.specs.declared.opening.Notice as declared_notice
use Rattle.top_acts.specs.declared.opening.Notice.TheVariants as notice
use Rattle.top_acts.specs.declared.opening.Sweeps as declared_sweeps
use Rattle.top_acts.specs.declared.opening.Sweeps.TheVariants as sweeps

-- ## The sweep

-- no check unit is rewritten; or those that a sweep of this kind over all stripes rewrites; or those of the stripes that are marked, lack no unit, and aren't in sync
pub data Sweeps : Type 0 where
  Nothing : Sweeps
  Over : (kind : Sweep) → Sweeps
  Marked : (marks : ℕ → Bool) → Sweeps

-- the sweep by which check units are renewed so
abbrev pub sweep_of : Renewal → Sweep
sweep_of renewal.Init = sweep.Init
sweep_of renewal.Rewrite = sweep.Sync

abbrev pub sweeps_seen : declared_sweeps.Sweeps → Sweeps
sweeps_seen sweeps.Nothing = Nothing
sweeps_seen (sweeps.Over kind) = Over (sweep_of kind)
sweeps_seen (sweeps.Marked map) = Marked (marks_stripe map.now)

-- ## What announces it

-- a round of labels that aren't clean; or a map with these marks on each device in use, in the place of that round
pub data Notice : Type 0 where
  Round : Notice
  Marks : (map : Map) → Notice

abbrev pub notice_seen : declared_notice.Notice → Notice
notice_seen notice.Round = Round
notice_seen (notice.Marks map) = Marks map.now

-- how many rounds are named for it, of an array whose newest label names its columns or doesn't
abbrev pub rounds_for : Notice → (named : Bool) → ℕ
rounds_for Round named = 1
rounds_for (Marks map) named = if named then 0 else 1

-- maps are written
abbrev pub marks_maps : Notice → Bool
marks_maps Round = false
marks_maps (Marks map) = true

-- the clean field of the labels that are written for it, where that was so before: not clean where they announce it alone, or the array is lost
abbrev pub clean_in : Notice → Option Loss → ℕ → ℕ
clean_in Round lost clean = 0
clean_in (Marks map) lost clean = clean_in_end lost clean
