-- Room for one event in the trace, and for one operation in the history. Both follow from the room that a sound core keeps for all that may still come.
use Rattle.std.specs.Prelude.{◌≡◌, ◌<◌, length, true}
use Rattle.eng_log.specs.Log.{Logged}

-- where the trace is kept, one event fits
abbrev pub HasRoom : Logged → Type 0
HasRoom l = l.keeps ≡ true → length l.trace < l.trace_room

-- one operation fits
abbrev pub MayEnter : Logged → Type 0
MayEnter l = length l.history < l.history_room
