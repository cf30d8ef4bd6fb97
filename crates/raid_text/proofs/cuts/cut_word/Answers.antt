use Rattle.std.proofs.Common.{◌≤◌, ◌+◌, length, arith}
use Rattle.std.specs.List.{position_or_len}
use Rattle.std.proofs.lemmas.List.{take_rest}
use Rattle.raid_text.specs.Text.{is_blank}
use Rattle.raid_text.proofs.WordCuts.{cut_word, last_word, sound_behind}
use Rattle.raid_text.proofs.cuts.cut_word.Goals as goal

pub returns-then-end-body-clause-words : goal.returns-then-end-body-clause-words
returns-then-end-body-clause-words c = cut_word c.args.body.now c.first_blank-end.result c.first_blank-end.ensures.place (omega (arith, c.requires.starts)) c.if-end-body.true

pub returns-else-end-body-clause-words : goal.returns-else-end-body-clause-words
returns-else-end-body-clause-words c = last_word c.args.body.now c.requires.some (let h : length c.args.body.now ≤ position_or_len is_blank c.args.body.now = omega arith in h)

pub returns-then-end-body-clause-sound : goal.returns-then-end-body-clause-sound
returns-then-end-body-clause-sound c = rw (take_rest c.args.body.now (c.first_blank-end.result + 1)) (sound_behind (c.first_blank-end.result + 1) c.args.body.now c.requires.sound)

pub returns-else-end-body-clause-sound : goal.returns-else-end-body-clause-sound
returns-else-end-body-clause-sound c = rw (take_rest c.args.body.now (length c.args.body.now)) (sound_behind (length c.args.body.now) c.args.body.now c.requires.sound)
