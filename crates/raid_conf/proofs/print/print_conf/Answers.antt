use Rattle.std.proofs.Common.{◌++◌, ◌∙◌, ap}
use Rattle.raid_conf.proofs.CanonicalText.{conf_text_read, printable}
use Rattle.raid_conf.proofs.PrintedLines.{conf_then}
use Rattle.raid_conf.proofs.print.print_conf.Goals as goal

pub push_levels-requires : goal.push_levels-requires
push_levels-requires c = let conf = c.args.conf.now in printable conf.level conf.columns conf.design c.requires.design

pub returns-clause-text : goal.returns-clause-text
returns-clause-text c =
    let whole = conf_then c.args.conf.now _ _ _ c.requires.spare_count c.new-text.ensures.items c.in_ok-push_devices.ensures c.in_ok-push_levels.ensures in
    c.in_ok-extend_from_slice.ensures.items ∙ ap (λ t. c.args.out.now.items ++ t) (c.deref.ensures.value ∙ whole)

pub returns-in_err-push_devices-clause-again : goal.returns-in_err-push_devices-clause-again
returns-in_err-push_devices-clause-again c = conf_text_read c.args.conf.now c.requires

pub returns-in_err-push_levels-clause-again : goal.returns-in_err-push_levels-clause-again
returns-in_err-push_levels-clause-again c = conf_text_read c.args.conf.now c.requires

pub returns-in_err-extend_from_slice-clause-again : goal.returns-in_err-extend_from_slice-clause-again
returns-in_err-extend_from_slice-clause-again c = conf_text_read c.args.conf.now c.requires

pub returns-clause-again : goal.returns-clause-again
returns-clause-again c = conf_text_read c.args.conf.now c.requires
