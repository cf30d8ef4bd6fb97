use Rattle.std.proofs.Common.{◌≡◌, sym, ap, ◌∙◌, arith}
use Rattle.graph_mean.specs.Fewest.{one_if}
use Rattle.graph_check.specs.Pieces.{is_noted}
use Rattle.graph_check.proofs.Cutting.{noted-more, noted-none}
use Rattle.graph_check.proofs.tables.cuts.count_of.Goals.{then-is_cut, else-is_cut}
use Rattle.graph_check.proofs.tables.cuts.count_of.Goals as goal

pub loop-o-init : goal.loop-o-init
loop-o-init c = record { count = sym (noted-none c.args.cuts.now c.args.stripe); most = omega arith }

pub loop-o-preserved : goal.loop-o-preserved
loop-o-preserved c =
    let cuts = c.args.cuts.now in
    let s = c.args.stripe in
    let o = c.loop-o.o in
    let more = noted-more cuts s o in
    let count = c.loop-o.invariant.count in
    let most = c.loop-o.invariant.most in
    elim c.if-is_cut.branch [
      | then-is_cut w ↦
          let q : one_if (is_noted cuts s o) ≡ 1 = ap one_if (sym c.is_cut.ensures ∙ w.if-is_cut.true) in
          let e = w.count-is in
          record { count = omega arith; most = omega arith }
      | else-is_cut w ↦
          let q : one_if (is_noted cuts s o) ≡ 0 = ap one_if (sym c.is_cut.ensures ∙ w.if-is_cut.false) in
          let e = w.count-is in
          record { count = omega arith; most = omega arith }
    ]
