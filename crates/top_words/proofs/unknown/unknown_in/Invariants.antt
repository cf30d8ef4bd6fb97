use Rattle.std.proofs.Common.{◌≡◌, drop}
use Rattle.top_words.specs.Unknown.{unknown_in}
use Rattle.top_words.proofs.unknown.unknown_in.Given as goal

-- the word is among those that are left, if there is one
abbrev pub invariant-loop-word : goal.invariant-loop-word
invariant-loop-word l = unknown_in l.words ≡ unknown_in (drop l.word-index l.words)
