-- What the label of a round says of the columns, from stage to stage.
use Rattle.std.proofs.Common.{ℕ, List, Option, None, inl}
use Rattle.blk_disk.specs.declared.disk.Disk.{Ghosts}
use Rattle.blk_disk.specs.Devices.{Changes}
use Rattle.blk_disk.proofs.DeviceLaws.{changes-refl, rises-wider}
use Rattle.eng_cols.specs.declared.column.Column.{Column}
use Rattle.eng_cols.specs.declared.spot.Loss.{Loss}
use Rattle.eng_cols.specs.Deaths.{Dies, LosesDevice}
use Rattle.eng_cols.proofs.DeathLaws.{dies-more, dies-then}
use Rattle.raid_label.specs.declared.label.Label.{Label}
use Rattle.top_close.specs.Stage.{DiesIn}
use Rattle.top_rounds.specs.Rounds.{AreRounds}
use Rattle.top_close.proofs.StageLaws.{live_before, dies_over}
use Rattle.top_acts.specs.Seats.{HasSeats}
use Rattle.top_acts.proofs.Named.{only_lose}

module _ {D : Type 0} (g : Ghosts D) where
  -- of rounds
  abbrev pub seats_of_rounds : (lost : Option Loss) (label next : Label) (columns mid after : List Column) (old new : List (Option D)) → AreRounds g lost label next columns mid after old new → HasSeats g lost next columns after old new
  seats_of_rounds lost label next columns mid after old new r = record { round = mid; seating = r.seating; came = r.began; went = r.ended }

  module _ (columns mid : List Column) (old dev new : List (Option D)) (may more : ℕ → ℕ → Type 0) (first : Changes g may old dev) (second : Changes g more dev new) where
    early : (from to : List Column) → Dies (LosesDevice g columns old dev) from to → Dies (LosesDevice g columns old new) from to
    early from to was = dies-more (LosesDevice g columns old dev) (LosesDevice g columns old new) from to
        (λ c f. record { device = f.device; had = f.had; rose = rises-wider g may more old old dev new f.device (changes-refl g may old) f.rose second }) was

    -- those of before, of which some had died
    late : Dies (DiesIn g None columns old dev) columns mid → (from to : List Column) → Dies (LosesDevice g mid dev new) from to → Dies (LosesDevice g columns old new) from to
    late was from to is = dies-more (LosesDevice g mid dev new) (LosesDevice g columns old new) from to
        (λ c f. record { device = f.device; had = live_before (DiesIn g None columns old dev) columns mid c f.device was f.had; rose = rises-wider g may more old dev new new f.device first f.rose (changes-refl g more new) }) is

    -- the round is in the first stage, and no other in the second
    pub seats-kept : (next : Label) (after : List Column) → Dies (DiesIn g None columns old dev) columns mid → HasSeats g None next columns mid old dev → Dies (LosesDevice g mid dev new) mid after → HasSeats g None next columns after old new
    seats-kept next after was h is = record {
      round = h.round;
      seating = h.seating;
      came = dies-more (LosesDevice g columns old new) (DiesIn g None columns old new) columns h.round (λ c f. inl f) (early columns h.round (only_lose g columns h.round old dev h.came));
      went = dies-then (LosesDevice g columns old new) h.round mid after (early h.round mid h.went) (late was mid after is);
    }

    -- the round is in the second stage
    pub seats-then : (lost : Option Loss) (next : Label) (after : List Column) → Dies (DiesIn g None columns old dev) columns mid → HasSeats g lost next mid after dev new → HasSeats g lost next columns after old new
    seats-then lost next after was h = record {
      round = h.round;
      seating = h.seating;
      came = dies_over g lost columns mid h.round old dev new may more first second was h.came;
      went = late was h.round after h.went;
    }
