use Rattle.std.proofs.Common.{◌≡◌, ◌≤◌, ℕ, length, refl, sym, subst, arith}
use Rattle.eng_cols.specs.Cols.{Filling, Spread, none_done}
use Rattle.eng_cols.specs.Changes.{begun_filling, begun_spreading}
use Rattle.eng_rest.specs.Left.{alive}
use Rattle.eng_world.specs.declared.item.Traced.TheVariants as event
use Rattle.eng_state.specs.Steps.{Follows}
use Rattle.eng_starts.specs.Rebuilding.{added}
use Rattle.eng_starts.proofs.Beginnings.{fill-added}
use Rattle.eng_array.specs.Tickets.{Happens}
use Rattle.eng_array.proofs.StartedSteady.{start-room, started-steady}
use Rattle.eng_array.proofs.HappeningCalls.{start-happens, start-jobs, fill-nodes}
use Rattle.eng_array.proofs.calls.Core.fill.Goals as goal

pub fill-requires-clause-place : goal.fill-requires-clause-place
fill-requires-clause-place g c = start-room g.L.Layout c.args.self.now.array (begun_filling c.args.self.now.array.cols c.args.column c.args.device) c.args.column c.args.count c.requires.room

pub returns-clause-steady : goal.returns-clause-steady
returns-clause-steady g c =
    let old = c.args.self.now.array in
    started-steady g.L.Layout g.D.Disk c.args.self.now.array c.fill.new.array c.args.column c.args.count (begun_filling c.args.self.now.array.cols c.args.column c.args.device) (event.Fill c.args.column c.args.device) c.requires.steady c.requires.can.starts c.requires.room c.fill.ensures.started
    c.fill.ensures.sound (subst (λ n. Follows g.L.Layout g.D.Disk c.args.self.now.array (event.Fill c.args.column c.args.device n) c.fill.new.array) (sym (fill-added g.L.Layout g.D.Disk c.args.self.now.array c.fill.new.array c.args.column c.args.device c.args.count c.requires.steady.sound c.requires.can c.fill.ensures.started)) c.fill.ensures.step)

pub returns-clause-happens : goal.returns-clause-happens
returns-clause-happens g c =
    subst (λ n. Happens g.L.Layout g.D.Disk (event.Fill c.args.column c.args.device n) c.args.self.now.array c.fill.new.array) (fill-added g.L.Layout g.D.Disk c.args.self.now.array c.fill.new.array c.args.column c.args.device c.args.count c.requires.steady.sound c.requires.can c.fill.ensures.started) (start-happens g.L.Layout g.D.Disk c.args.self.now.array c.fill.new.array c.requires.steady (returns-clause-steady g c) c.args.column c.args.count (begun_filling c.args.self.now.array.cols c.args.column c.args.device) (event.Fill c.args.column c.args.device) c.fill.ensures.started (subst (λ n. Follows g.L.Layout g.D.Disk c.args.self.now.array (event.Fill c.args.column c.args.device n) c.fill.new.array) (sym (fill-added g.L.Layout g.D.Disk c.args.self.now.array c.fill.new.array c.args.column c.args.device c.args.count c.requires.steady.sound c.requires.can c.fill.ensures.started)) c.fill.ensures.step) (λ own. own) (λ bad. bad))

pub returns-clause-keeps : goal.returns-clause-keeps
returns-clause-keeps g c =
    start-jobs g.L.Layout g.D.Disk c.args.self.now.array c.fill.new.array c.requires.steady (returns-clause-steady g c) c.args.column c.args.count (begun_filling c.args.self.now.array.cols c.args.column c.args.device) (event.Fill c.args.column c.args.device) c.fill.ensures.started (subst (λ n. Follows g.L.Layout g.D.Disk c.args.self.now.array (event.Fill c.args.column c.args.device n) c.fill.new.array) (sym (fill-added g.L.Layout g.D.Disk c.args.self.now.array c.fill.new.array c.args.column c.args.device c.args.count c.requires.steady.sound c.requires.can c.fill.ensures.started)) c.fill.ensures.step) (λ own. own) (λ bad. bad) c.requires.can.starts
    (fill-nodes g.L.Layout g.D.Disk c.args.self.now.array c.fill.new.array c.requires.steady (returns-clause-steady g c) c.args.column c.args.device (added c.fill.new.array) c.fill.ensures.step)
