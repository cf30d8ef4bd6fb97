use Rattle.std.proofs.Common.{◌∙◌, sym}
use Rattle.std.proofs.lemmas.Bool.{eqb-true}
use Rattle.raid_text.proofs.WordCuts.{no_words}
use Rattle.raid_text.proofs.cuts.split_word.Goals as goal

pub returns-then-is_empty-clause-none : goal.returns-then-is_empty-clause-none
returns-then-is_empty-clause-none c = no_words _ _ c.skip_blanks-body.ensures.same (eqb-true _ _ (sym c.is_empty.ensures ∙ c.if-is_empty.true))
