use Rattle.std.proofs.lemmas.List.{take_rest}
use Rattle.raid_text.proofs.WordCuts.{skip, sound_behind}
use Rattle.raid_text.proofs.cuts.skip_blanks.Goals as goal

pub returns-clause-same : goal.returns-clause-same
returns-clause-same c = rw (take_rest c.args.body.now c.first_other.result, c.first_other.ensures.place) (skip c.args.body.now).0

pub returns-clause-starts : goal.returns-clause-starts
returns-clause-starts c = rw (take_rest c.args.body.now c.first_other.result, c.first_other.ensures.place) (skip c.args.body.now).1

pub returns-clause-sound : goal.returns-clause-sound
returns-clause-sound c = rw (take_rest c.args.body.now c.first_other.result) (sound_behind c.first_other.result c.args.body.now c.requires)
