use Rattle.std.proofs.Common.{inl, inr}
use Rattle.eng_array.proofs.Somebody.{somebody-goes-on}
use Rattle.eng_crew.specs.Laws.{later_itself, later_later}
use Rattle.eng_crew.proofs.Few.{after-drained}
use Rattle.eng_crew.proofs.draining.drain.Goals as goal

pub loop-turns-init : goal.loop-turns-init
loop-turns-init g c = record { steady = c.requires.steady; home = c.requires.home; after = later_itself g.L.Layout g.D.Disk c.args.core.now.array }

pub loop-turns-preserved : goal.loop-turns-preserved
loop-turns-preserved g c = record { steady = c.drain_one.ensures.steady; home = c.drain_one.ensures.home; after = later_later g.L.Layout g.D.Disk _ _ _ c.loop-turns.invariant.after c.drain_one.ensures.after }

pub loop-turns-preserved-then-turns-eq0 : goal.loop-turns-preserved-then-turns-eq0
loop-turns-preserved-then-turns-eq0 g c = record { steady = c.drain_one.ensures.steady; home = c.drain_one.ensures.home; after = later_later g.L.Layout g.D.Disk _ _ _ c.loop-turns.invariant.after c.drain_one.ensures.after }

pub returns-clause-rest : goal.returns-clause-rest
returns-clause-rest g c =
    elim (c.drain_one.ensures.idle c.loop-turns-test.false) [
      | inl rest ↦ rest
      | inr stuck ↦ somebody-goes-on g.L.Layout g.D.Disk c.drain_one.new.core.array c.drain_one.ensures.steady c.drain_one.ensures.home stuck
    ]

pub returns-clause-drained : goal.returns-clause-drained
returns-clause-drained g c = after-drained g.L.Layout g.D.Disk _ _ c.requires.steady c.requires.home (later_later g.L.Layout g.D.Disk _ _ _ c.loop-turns.invariant.after c.drain_one.ensures.after)
