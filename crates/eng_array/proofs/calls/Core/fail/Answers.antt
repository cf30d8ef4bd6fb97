use Rattle.std.proofs.Common.{◌≡◌, Bool, true, false, sym, ◌∙◌}
use Rattle.eng_array.proofs.SteadyBegin.{failing-room, fail-steady}
use Rattle.eng_array.proofs.HappeningCalls.{fail-happens, fail-jobs}
use Rattle.eng_array.proofs.calls.Core.fail.Goals as goal

not-true : (b : Bool) → b ≡ false → b ≡ true → ⊥
not-true b f t = let z : false ≡ true = sym f ∙ t in let u : ⊥ = cc in u

pub fail-requires-clause-room : goal.fail-requires-clause-room
fail-requires-clause-room g c = failing-room g.L.Layout g.D.Disk c.args.self.now.array c.requires.steady c.args.column c.requires.column (λ dead. not-true c.is_dead.result c.if-is_dead.false (c.is_dead.ensures.1 dead))

pub returns-clause-steady : goal.returns-clause-steady
returns-clause-steady g c =
    let f = c.fail.ensures.failed (λ dead. not-true c.is_dead.result c.if-is_dead.false (c.is_dead.ensures.1 dead)) in
    fail-steady g.L.Layout g.D.Disk c.args.self.now.array c.requires.steady c.args.column f.0 c.fail.new.array f.1 f.2 c.fail.ensures.sound
    (c.fail.ensures.step (λ dead. not-true c.is_dead.result c.if-is_dead.false (c.is_dead.ensures.1 dead)))

pub returns-clause-happens : goal.returns-clause-happens
returns-clause-happens g c = λ alive.
    let f = c.fail.ensures.failed alive in
    fail-happens g.L.Layout g.D.Disk c.args.self.now.array c.fail.new.array c.requires.steady (returns-clause-steady g c) c.args.column f.0 f.1 f.2 (c.fail.ensures.step alive)

pub returns-clause-keeps : goal.returns-clause-keeps
returns-clause-keeps g c =
    let f = c.fail.ensures.failed (λ dead. not-true c.is_dead.result c.if-is_dead.false (c.is_dead.ensures.1 dead)) in
    fail-jobs g.L.Layout g.D.Disk c.args.self.now.array c.fail.new.array c.requires.steady (returns-clause-steady g c) c.args.column f.0 f.1 f.2 (c.fail.ensures.step (λ dead. not-true c.is_dead.result c.if-is_dead.false (c.is_dead.ensures.1 dead))) c.fail.ensures.stays
