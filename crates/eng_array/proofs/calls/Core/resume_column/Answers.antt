use Rattle.std.proofs.Common.{◌≡◌, ◌≤◌, ℕ, length, refl, sym, subst, arith}
use Rattle.eng_cols.specs.Cols.{Filling, Spread, none_done}
use Rattle.eng_cols.specs.Changes.{begun_filling, begun_spreading}
use Rattle.eng_rest.specs.Left.{alive}
use Rattle.eng_world.specs.declared.item.Traced.TheVariants as event
use Rattle.eng_state.specs.Steps.{Follows}
use Rattle.eng_starts.specs.Rebuilding.{added}
use Rattle.eng_starts.proofs.Beginnings.{resume-added}
use Rattle.eng_array.specs.Tickets.{Happens}
use Rattle.eng_array.proofs.StartedSteady.{start-room, started-steady}
use Rattle.eng_array.proofs.HappeningCalls.{start-happens, start-jobs, resume-nodes}
use Rattle.eng_array.proofs.calls.Core.resume_column.Goals as goal

pub resume-requires-clause-place : goal.resume-requires-clause-place
resume-requires-clause-place g c = start-room g.L.Layout c.args.self.now.array c.args.self.now.array.cols.states c.args.column c.args.count c.requires.room

pub returns-clause-steady : goal.returns-clause-steady
returns-clause-steady g c =
    let old = c.args.self.now.array in
    started-steady g.L.Layout g.D.Disk c.args.self.now.array c.resume.new.array c.args.column c.args.count c.args.self.now.array.cols.states (event.Resume c.args.column) c.requires.steady c.requires.can.starts c.requires.room c.resume.ensures.started
    c.resume.ensures.sound (subst (λ n. Follows g.L.Layout g.D.Disk c.args.self.now.array (event.Resume c.args.column n) c.resume.new.array) (sym (resume-added g.L.Layout g.D.Disk c.args.self.now.array c.resume.new.array c.args.column c.args.count c.requires.steady.sound c.requires.can c.resume.ensures.started)) c.resume.ensures.step)

pub returns-clause-happens : goal.returns-clause-happens
returns-clause-happens g c =
    subst (λ n. Happens g.L.Layout g.D.Disk (event.Resume c.args.column n) c.args.self.now.array c.resume.new.array) (resume-added g.L.Layout g.D.Disk c.args.self.now.array c.resume.new.array c.args.column c.args.count c.requires.steady.sound c.requires.can c.resume.ensures.started) (start-happens g.L.Layout g.D.Disk c.args.self.now.array c.resume.new.array c.requires.steady (returns-clause-steady g c) c.args.column c.args.count c.args.self.now.array.cols.states (event.Resume c.args.column) c.resume.ensures.started (subst (λ n. Follows g.L.Layout g.D.Disk c.args.self.now.array (event.Resume c.args.column n) c.resume.new.array) (sym (resume-added g.L.Layout g.D.Disk c.args.self.now.array c.resume.new.array c.args.column c.args.count c.requires.steady.sound c.requires.can c.resume.ensures.started)) c.resume.ensures.step) (λ own. own) (λ bad. bad))

pub returns-clause-keeps : goal.returns-clause-keeps
returns-clause-keeps g c =
    start-jobs g.L.Layout g.D.Disk c.args.self.now.array c.resume.new.array c.requires.steady (returns-clause-steady g c) c.args.column c.args.count c.args.self.now.array.cols.states (event.Resume c.args.column) c.resume.ensures.started (subst (λ n. Follows g.L.Layout g.D.Disk c.args.self.now.array (event.Resume c.args.column n) c.resume.new.array) (sym (resume-added g.L.Layout g.D.Disk c.args.self.now.array c.resume.new.array c.args.column c.args.count c.requires.steady.sound c.requires.can c.resume.ensures.started)) c.resume.ensures.step) (λ own. own) (λ bad. bad) c.requires.can.starts
    (resume-nodes g.L.Layout g.D.Disk c.args.self.now.array c.resume.new.array c.requires.steady (returns-clause-steady g c) c.args.column (added c.resume.new.array) c.resume.ensures.step)
