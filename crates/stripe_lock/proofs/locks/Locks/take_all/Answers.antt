use Rattle.stripe_lock.proofs.Growing.{sound_after}
use Rattle.stripe_lock.proofs.Tables.{table_of, apart_always, owner_few, holds_none, conflict_if_barred, takes}
use Rattle.stripe_lock.proofs.locks.Locks.take_all.Goals as goal

pub returns-then-not-can_take-clause-apart : goal.returns-then-not-can_take-clause-apart
returns-then-not-can_take-clause-apart c = apart_always c.args.self.now

pub hold-requires-clause-owner : goal.hold-requires-clause-owner
hold-requires-clause-owner c = owner_few c.args.self.now c.self.inside.owners c.self.inside.rows.items c.self.view_is c.args.owner _ c.self.invariant c.requires.owner

pub hold-requires-clause-none : goal.hold-requires-clause-none
hold-requires-clause-none c = holds_none c.args.self.now c.self.inside.owners c.self.inside.rows.items c.self.view_is c.args.owner c.requires.none

pub hold-requires-clause-free : goal.hold-requires-clause-free
hold-requires-clause-free c barred =
    let refused = c.can_take.ensures.conflict.1 (conflict_if_barred c.args.self.now c.self.inside.owners c.self.inside.rows.items c.self.view_is c.args.owner c.args.stripes.now c.args.mode barred) in
    let taken = c.if-not-can_take.false in
    absurd cc

pub invariant_of-self : goal.invariant_of-self
invariant_of-self c =
    let none = holds_none c.args.self.now c.self.inside.owners c.self.inside.rows.items c.self.view_is c.args.owner c.requires.none in
    record {
      few = c.self.invariant.few;
      sound = sound_after c.self.inside.rows.items c.hold.new.rows.items c.args.owner c.args.stripes.now c.args.mode c.self.invariant.sound none c.requires.few c.hold.ensures.grows;
      room = c.hold.ensures.room;
    }

pub returns-clause-taken : goal.returns-clause-taken
returns-clause-taken c = takes c.args.self.now c.self.inside.owners c.self.inside.rows.items c.self.view_is c.hold.new.rows.items c.args.owner c.args.stripes.now c.args.mode c.requires.none c.hold.ensures.grows

pub returns-clause-apart : goal.returns-clause-apart
returns-clause-apart c = apart_always (table_of c.self.inside.owners c.hold.new.rows.items)
