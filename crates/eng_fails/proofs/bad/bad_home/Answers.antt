use Rattle.std.proofs.Common.{arith}
use Rattle.std.proofs.lemmas.Bool.{cases_Bool}
use Rattle.std.proofs.Common.{inl, inr}
use Rattle.eng_state.specs.declared.array.Array.{Array}
use Rattle.eng_fails.proofs.EndingBad as ending
use Rattle.eng_fails.proofs.FinishingBad.{may}
use Rattle.eng_fails.proofs.bad.bad_home.Goals as goal

pub call_home-requires-clause-lease : goal.call_home-requires-clause-lease
call_home-requires-clause-lease g c = let r = c.requires.back in (ending.well g.L.Layout g.D.Disk c.args.array.now c.args.client c.args.node c.args.coming.disk r.first r.count c.args.coming.buffer r.outcome c.requires.sound r.back).lease

pub call_home-requires-clause-buf : goal.call_home-requires-clause-buf
call_home-requires-clause-buf g c =
    let came = c.requires.back in
    let r = came.back in
    let old : Array g.row.L.Denot g.row.D.Denot = c.args.array.now in
    let lt = ending.in-own g.L.Layout g.D.Disk old c.args.client c.args.node c.args.coming.disk came.first came.count c.args.coming.buffer came.outcome c.requires.sound r in
    elim (cases_Bool r.writes) [
      | inl e ↦ let is = c.buf_of-buf.ensures.write r.unit r.buf (ending.is-write g.L.Layout g.D.Disk old c.args.client c.args.node c.args.coming.disk came.first came.count c.args.coming.buffer came.outcome c.requires.sound r e) in omega (arith, is, lt)
      | inr e ↦ let is = c.buf_of-buf.ensures.read r.unit r.buf (ending.is-read g.L.Layout g.D.Disk old c.args.client c.args.node c.args.coming.disk came.first came.count c.args.coming.buffer came.outcome c.requires.sound r e) in omega (arith, is, lt)
    ]

pub call_home-requires-clause-can : goal.call_home-requires-clause-can
call_home-requires-clause-can g c = let r = c.requires.back in record {
  lends = (ending.well g.L.Layout g.D.Disk c.args.array.now c.args.client c.args.node c.args.coming.disk r.first r.count c.args.coming.buffer r.outcome c.requires.sound r.back).lends;
  node = ending.node g.L.Layout g.D.Disk c.args.array.now c.args.client c.args.node c.args.coming.disk r.first r.count c.args.coming.buffer r.outcome c.requires.sound r.back;
  out = r.back.out.mark;
  may = may g.L.Layout g.D.Disk c.args.array.now c.args.client c.args.node c.args.coming.disk r.first r.count c.args.coming.buffer r.outcome c.requires.sound r.back;
}
