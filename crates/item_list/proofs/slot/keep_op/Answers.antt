use Rattle.std.proofs.Common.{rules, ◌≡◌, length, refl}
use Rattle.item_list.proofs.Keeping.{behind, keeps_push}
use Rattle.item_list.proofs.slot.keep_op.Goals as goal

pub returns-in-Write-clause-within : goal.returns-in-Write-clause-within
returns-in-Write-clause-within c = c.keep_write.ensures.within _

pub returns-in_ok-push-in-Writes-clause-item : goal.returns-in_ok-push-in-Writes-clause-item
returns-in_ok-push-in-Writes-clause-item c =
    let place : c.len-at.result ≡ length c.args.writes.now.items = search rules in
    rw (c.in-Writes.is, c.in_ok-push-in-Writes.ensures.items, place, behind c.args.writes.now.items c.in-Writes.patches) refl

pub returns-in_ok-push-in-Writes-clause-writes : goal.returns-in_ok-push-in-Writes-clause-writes
returns-in_ok-push-in-Writes-clause-writes c = rw c.in_ok-push-in-Writes.ensures.items (keeps_push c.args.writes.now.items _)
