use Rattle.std.proofs.Common.{◌<◌, ◌≡◌, sym, subst, ℕ, length, inl, inr, Option}
use Rattle.std.specs.Prelude.{Result, Ok, Err, MatchResult}
use Rattle.blk_plain.specs.declared.op.Op.{Op}
use Rattle.lay_core.specs.declared.layout.Layout.{Ghosts as LayoutGhosts}
use Rattle.eng_world.specs.declared.item.Item.{Item}
use Rattle.eng_world.specs.declared.item.Item.TheVariants as item
use Rattle.eng_world.specs.declared.item.Reply.{Reply}
use Rattle.eng_clients.specs.Desk.{desk_at}
use Rattle.eng_state.specs.declared.array.Array.{Array}
use Rattle.eng_state.specs.Beginning.{BegunAs, IsAsked, IsFine, IsRefusal, replied, waiting}
use Rattle.eng_starts.proofs.Beginning.{item-left}
use Rattle.eng_starts.proofs.begins.begin_item.Goals as goal

-- what becomes of a core whose client's operation is judged so
begun : {L D : Type 0} (lay : LayoutGhosts L) (op : Op) (graph : Option ℕ) (old new : Array L D) (client : ℕ) (judged : Result (Unit {0}) Reply)
    → MatchResult judged (λ u. IsFine (lay.shape old.layout) op) (IsRefusal (lay.shape old.layout) op)
    → MatchResult judged (λ u. new ≡ waiting old client) (λ reply. new ≡ replied old client reply)
    → BegunAs lay (item.Run op graph) old client new
begun lay op graph old new client (Ok u) fine is = inl (fine, is)
begun lay op graph old new client (Err reply) refused is = inr (reply, refused, is)

pub judge_op-judged-requires : goal.judge_op-judged-requires
judge_op-judged-requires g c =
    subst (IsAsked (g.L.Layout.shape c.args.array.now.layout)) c.in-Run.is
    (c.requires.asked c.args.client (length (desk_at c.args.array.now.clients c.args.client).replies) c.next_item.result.now c.next_item.ensures)

pub begin_fail-requires-clause-left : goal.begin_fail-requires-clause-left
begin_fail-requires-clause-left g c = item-left g.L.Layout g.D.Disk c.args.array.now c.args.client c.requires.sound c.requires.can

pub begin_fail-requires-clause-column : goal.begin_fail-requires-clause-column
begin_fail-requires-clause-column g c =
    let within = subst (IsAsked (g.L.Layout.shape c.args.array.now.layout)) c.in-Fail.is
    (c.requires.asked c.args.client (length (desk_at c.args.array.now.clients c.args.client).replies) c.next_item.result.now c.next_item.ensures) in
    subst (λ (n : ℕ). c.in-Fail.column < n) (sym c.requires.sound.seated.fit.columns) within

pub begin_run-requires-clause-left : goal.begin_run-requires-clause-left
begin_run-requires-clause-left g c = item-left g.L.Layout g.D.Disk c.args.array.now c.args.client c.requires.sound c.requires.can

pub returns-in-Run : goal.returns-in-Run
returns-in-Run g c = (
  c.next_item.result.now,
  c.next_item.ensures,
  subst (λ (i : Item). BegunAs g.L.Layout i c.args.array.now c.args.client c.begin_run.new.array) (sym c.in-Run.is)
      (begun g.L.Layout c.in-Run.op c.in-Run.graph c.args.array.now c.begin_run.new.array c.args.client c.judge_op-judged.result c.judge_op-judged.ensures c.begin_run.ensures),
)
