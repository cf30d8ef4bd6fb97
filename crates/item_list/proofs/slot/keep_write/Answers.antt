use Rattle.std.proofs.Common.{rules, ◌≡◌, length, refl, ap}
use Rattle.blk_plain.specs.declared.op.Op.TheVariants as op
use Rattle.blk_plain.specs.declared.op.Pattern.{Pattern}
use Rattle.eng_world.specs.declared.item.Item.TheVariants as items
use Rattle.item_list.proofs.Keeping.{behind, keeps_push}
use Rattle.item_list.proofs.Patterns.{single}
use Rattle.item_list.proofs.slot.keep_write.Goals as goal

pub returns-then-pattern-eq1-clause-item : goal.returns-then-pattern-eq1-clause-item
returns-then-pattern-eq1-clause-item c writes =
    let long : length c.args.pattern.now.bytes ≡ 32 = search rules in
    ap (λ (p : Pattern). items.Run (op.Write c.args.span p) c.args.graph) (single c.args.pattern.now c.if-pattern-eq1.true long)

pub returns-clause-item : goal.returns-clause-item
returns-clause-item c writes =
    let place : c.len-at.result ≡ length c.args.longer.now.items = search rules in
    rw (c.in_ok-push.ensures.items, place, behind c.args.longer.now.items (record { span = c.args.span; pattern = c.args.pattern.now })) refl

pub returns-clause-others : goal.returns-clause-others
returns-clause-others c = rw c.in_ok-push.ensures.items (keeps_push c.args.longer.now.items _)
