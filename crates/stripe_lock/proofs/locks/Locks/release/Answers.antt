use Rattle.std.proofs.Common.{arith}
use Rattle.stripe_lock.proofs.Tables.{table_of, apart_always, owner_few, releases, kept_after_leave}
use Rattle.stripe_lock.proofs.locks.Locks.release.Goals as goal

pub invariant_of-self : goal.invariant_of-self
invariant_of-self c =
    let low = owner_few c.args.self.now c.self.inside.owners c.self.inside.rows.items c.self.view_is c.args.owner _ c.self.invariant c.requires in
    let same = c.leave.ensures.room in
    let room = c.self.invariant.room in
    record {
      few = c.self.invariant.few;
      sound = kept_after_leave c.self.inside.rows.items c.leave.new.rows.items c.args.owner low c.self.invariant.sound c.leave.ensures.rows;
      room = omega arith;
    }

pub returns-clause-released : goal.returns-clause-released
returns-clause-released c =
    let low = owner_few c.args.self.now c.self.inside.owners c.self.inside.rows.items c.self.view_is c.args.owner _ c.self.invariant c.requires in
    releases c.args.self.now c.self.inside.owners c.self.inside.rows.items c.self.view_is c.leave.new.rows.items c.args.owner low c.self.invariant.sound c.leave.ensures.rows

pub returns-clause-apart : goal.returns-clause-apart
returns-clause-apart c = apart_always (table_of c.self.inside.owners c.leave.new.rows.items)
