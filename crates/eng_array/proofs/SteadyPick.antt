-- A steady core stands while the array isn't lost, and a choice keeps it steady.
use Rattle.std.proofs.Common.{◌≡◌, ℕ, Option, Some, None}
use Rattle.std.specs.Prelude.{MatchOption}
use Rattle.blk_disk.specs.declared.disk.Disk.{Ghosts as DiskGhosts}
use Rattle.lay_core.specs.declared.layout.Layout.{Ghosts as LayoutGhosts}
use Rattle.eng_state.specs.declared.array.Array.{Array}
use Rattle.eng_state.specs.Serves.{Stands}
use Rattle.eng_array.specs.Steady.{IsSteady}
use Rattle.eng_choice.specs.declared.chosen.Chosen.{Chosen}
use Rattle.eng_choice.specs.Picked.{IsPicked, IsStuck}
use Rattle.eng_choice.proofs.Picking.{can-moved, sound-moved, shows-moved}
use Rattle.eng_array.proofs.Reached.{run-stands}

module _ {L D : Type 0} (lay : LayoutGhosts L) (disk : DiskGhosts D) (core : Array L D) where
  pub steady-stands : IsSteady lay disk core → core.lost ≡ None → Stands lay core
  steady-stands steady none = run-stands lay disk core steady.sound steady.reached steady.serving none

  -- whichever client is tried first
  pub steady-moved : (next : ℕ) → IsSteady lay disk core → IsSteady lay disk (record core { next = next })
  steady-moved next steady = record {
    sound = sound-moved lay disk core next steady.sound;
    reached = record {
      opening = steady.reached.opening;
      events = steady.reached.events;
      now = steady.reached.now;
      is_opening = steady.reached.is_opening;
      all_free = steady.reached.all_free;
      run = steady.reached.run;
      shows = shows-moved lay disk core next steady.reached.now steady.reached.shows;
      traced = steady.reached.traced;
    };
    serving = steady.serving;
    places = record {
      most = steady.places.most;
      bound = steady.places.bound;
      trace = steady.places.trace;
      history = steady.places.history;
    };
    laid = steady.laid;
    fit = steady.fit;
    stock = record { own = steady.stock.own; there = steady.stock.there };
  }

  -- where no event can be done, none can be whichever client is tried first
  pub choice-moved : (next : ℕ) (o : Option Chosen) → MatchOption o (IsStuck lay (record core { next = next })) (λ x. IsPicked lay (record core { next = next }) x.event) → MatchOption o (IsStuck lay core) (λ x. IsPicked lay (record core { next = next }) x.event)
  choice-moved next None stuck = λ e can. stuck e (can-moved lay disk core next e can)
  choice-moved next (Some x) picked = picked
