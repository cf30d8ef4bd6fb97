use Rattle.std.proofs.Common.{◌≡◌, ◌+◌, ◌≤◌, ◌++◌, length, replicate, vec_capacity}
use Rattle.eng_world.specs.declared.item.Reply.TheVariants as reply
use Rattle.eng_clients.proofs.client.open.reply_lost.Given as goal

-- a reply for each turn so far
abbrev pub invariant-loop-i : goal.invariant-loop-i
invariant-loop-i l = (l.replies.items ≡ l.fn.replies.items ++ replicate l.i reply.Lost) × (length l.fn.replies.items + l.count ≤ vec_capacity l.replies)
