use Rattle.std.proofs.Common.{◌∙◌, sym}
use Rattle.top_bay.specs.Views.{asked_seen}
use Rattle.top_words.specs.declared.profile.Kind.TheVariants as kind
use Rattle.top_duty.proofs.Wanting.{refused_duty}
use Rattle.top_duty.proofs.preparing.prepare.Goals as goal

pub returns-in-Err-clause-refused : goal.returns-in-Err-clause-refused
returns-in-Err-clause-refused c = refused_duty (asked_seen c.args.asked.now) c.args.sizes.now c.args.fronts.now kind.Array c.in-Err.refusal (sym c.kind_of.ensures ∙ c.in-Array.is) c.in-Err.ensures.refused

pub returns-in-Err-make_shown-clause-refused : goal.returns-in-Err-make_shown-clause-refused
returns-in-Err-make_shown-clause-refused c = refused_duty (asked_seen c.args.asked.now) c.args.sizes.now c.args.fronts.now kind.Shown c.in-Err-make_shown.refusal (sym c.kind_of.ensures ∙ c.in-Shown.is) c.in-Err-make_shown.ensures.refused
