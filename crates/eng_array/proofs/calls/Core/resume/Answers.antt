use Rattle.std.proofs.Common.{◌≡◌, true, false, slice_get, ap, sym, ◌∙◌, arith, subst}
use Rattle.eng_cols.specs.Cols.{is_filling, passes}
use Rattle.eng_array.specs.Starts.{HasResumed}
use Rattle.eng_array.proofs.Going.{filling-there, none-any}
use Rattle.eng_array.proofs.calls.Core.resume.Goals as goal

pub unreachable-requires : goal.unreachable-requires
unreachable-requires g c =
    let none = none-any c.args.self.now.array.cols.states (λ k lt. c.in-None.ensures k (omega (arith, lt, c.requires.steady.sound.seated.fit.columns))) in
    let z : false ≡ true = sym none ∙ c.requires.filling in let u : ⊥ = cc in u

pub resume_column-requires-clause-can : goal.resume_column-requires-clause-can
resume_column-requires-clause-can g c =
    let f = filling-there (slice_get c.args.self.now.array.cols.states c.in-Some.column) c.in-Some.ensures.1 in
    record { starts = c.requires.starts; device = f.0; done = f.1; filling = f.2 }

pub resume_column-requires-clause-room : goal.resume_column-requires-clause-room
resume_column-requires-clause-room g c = c.requires.room c.in-Some.column (resume_column-requires-clause-can g c)

pub returns : goal.returns
returns g c = record {
  resumed = λ k other.
      let same : c.in-Some.column ≡ k = c.requires.steady.sound.seated.kept.one_filling c.in-Some.column k c.in-Some.ensures.1 (ap (passes is_filling) other.filling) in
      let e = c.resume_column.ensures in
      subst (λ j. HasResumed g.L.Layout g.D.Disk j c.args.count c.args.self.now.array c.resume_column.new.self.array) same
      (record { started = e.started; step = e.step; steady = e.steady; trace = e.trace; happens = e.happens; keeps = e.keeps });
}
