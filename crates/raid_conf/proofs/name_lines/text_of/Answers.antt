use Rattle.raid_conf.proofs.Words.{IsUtf8-word}
use Rattle.raid_conf.proofs.name_lines.text_of.Goals as goal

pub unreachable-requires : goal.unreachable-requires
unreachable-requires c = c.in-Err.ensures.cases.0 (IsUtf8-word c.args.word.now c.requires)
