use Rattle.std.proofs.Common.{◌↔◌, IsTrue, List, subst}
use Rattle.stripe_lock.specs.declared.row.Row.{Row}
use Rattle.stripe_lock.specs.Rows.{IsBarred}
use Rattle.stripe_lock.proofs.Tables.{refused_if}
use Rattle.stripe_lock.proofs.locks.Locks.can_take.Goals as goal

pub returns : goal.returns
returns c = record {
  conflict = refused_if c.args.self.now c.self.inside.owners c.self.inside.rows.items c.self.view_is c.args.owner c.args.stripes.now c.args.mode c.is_barred.result
      (subst (λ (rows : List Row). IsTrue c.is_barred.result ↔ IsBarred rows c.args.owner c.args.stripes.now c.args.mode) c.as_slice.ensures.value c.is_barred.ensures);
}
