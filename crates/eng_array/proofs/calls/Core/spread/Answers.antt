use Rattle.std.proofs.Common.{◌≡◌, ◌≤◌, ℕ, length, refl, sym, subst, arith}
use Rattle.eng_cols.specs.Cols.{Filling, Spread, none_done}
use Rattle.eng_cols.specs.Changes.{begun_filling, begun_spreading}
use Rattle.eng_rest.specs.Left.{alive}
use Rattle.eng_world.specs.declared.item.Traced.TheVariants as event
use Rattle.eng_state.specs.Steps.{Follows}
use Rattle.eng_starts.specs.Rebuilding.{added}
use Rattle.eng_starts.proofs.Beginnings.{spread-sound}
use Rattle.eng_array.specs.Tickets.{Happens}
use Rattle.eng_array.proofs.StartedSteady.{start-room, started-steady}
use Rattle.eng_array.proofs.HappeningCalls.{start-happens, start-jobs, spread-nodes}
use Rattle.eng_array.proofs.calls.Core.spread.Goals as goal

pub spread-requires-clause-place : goal.spread-requires-clause-place
spread-requires-clause-place g c = start-room g.L.Layout c.args.self.now.array (begun_spreading c.args.self.now.array.cols c.args.column) c.args.column 4294967295 c.requires.room

pub returns-clause-steady : goal.returns-clause-steady
returns-clause-steady g c =
    let old = c.args.self.now.array in
    started-steady g.L.Layout g.D.Disk c.args.self.now.array c.spread.new.array c.args.column 4294967295 (begun_spreading c.args.self.now.array.cols c.args.column) (λ _. event.Spread c.args.column) c.requires.steady c.requires.can.starts c.requires.room c.spread.ensures.started
    c.spread.ensures.sound (c.spread.ensures.step)

pub returns-clause-happens : goal.returns-clause-happens
returns-clause-happens g c =
    (start-happens g.L.Layout g.D.Disk c.args.self.now.array c.spread.new.array c.requires.steady (returns-clause-steady g c) c.args.column 4294967295 (begun_spreading c.args.self.now.array.cols c.args.column) (λ _. event.Spread c.args.column) c.spread.ensures.started (c.spread.ensures.step) (λ own. own) (λ bad. bad))

pub returns-clause-keeps : goal.returns-clause-keeps
returns-clause-keeps g c =
    start-jobs g.L.Layout g.D.Disk c.args.self.now.array c.spread.new.array c.requires.steady (returns-clause-steady g c) c.args.column 4294967295 (begun_spreading c.args.self.now.array.cols c.args.column) (λ _. event.Spread c.args.column) c.spread.ensures.started (c.spread.ensures.step) (λ own. own) (λ bad. bad) c.requires.can.starts
    (spread-nodes g.L.Layout g.D.Disk c.args.self.now.array c.spread.new.array c.requires.steady (returns-clause-steady g c) c.args.column c.spread.ensures.step)
