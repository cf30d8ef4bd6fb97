use Rattle.std.proofs.Common.{subst, sym, ◌∙◌, ℕ, Option}
use Rattle.std.specs.Prelude.{IsSome}
use Rattle.eng_starts.proofs.Backing as backing
use Rattle.eng_starts.proofs.backs.back_op.Goals as goal

pub give_up-requires-clause-lease : goal.give_up-requires-clause-lease
give_up-requires-clause-lease g c = (backing.well g.L.Layout g.D.Disk c.args.array.now c.args.client c.args.op.now c.args.file c.requires.sound c.requires.stands c.requires.can c.requires.serves).lease

pub give_up-requires-clause-home : goal.give_up-requires-clause-home
give_up-requires-clause-home g c = backing.all-home g.L.Layout g.D.Disk c.args.array.now c.args.client c.args.op.now c.args.file c.requires.sound c.requires.stands c.requires.can c.requires.serves

pub unreachable-requires : goal.unreachable-requires
unreachable-requires g c =
    let some = (backing.on g.L.Layout g.D.Disk c.args.array.now c.args.client c.args.op.now c.args.file c.requires.sound c.requires.stands c.requires.can c.requires.serves).by c.requires.can.undone in
    let h = subst (λ (o : Option ℕ). IsSome o) (sym c.by.ensures ∙ c.in-None-by.is) some in
    let u : ⊥ = cc in u
