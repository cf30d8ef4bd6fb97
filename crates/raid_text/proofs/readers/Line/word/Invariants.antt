use Rattle.std.proofs.Common.{◌≡◌, ◌-◌, slice_get}
use Rattle.raid_text.specs.Seen.{words_left}
use Rattle.raid_text.specs.Text.{words_of}
use Rattle.raid_text.proofs.readers.Line.word.Given as goal

abbrev pub invariant-loop : goal.invariant-loop
invariant-loop l = slice_get (words_left l.words) (l.i - l.counter) ≡ slice_get (words_of l.self.body.now) l.i
