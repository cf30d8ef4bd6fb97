use Rattle.std.proofs.Common.{◌∙◌, ap, sym, Bool}
use Rattle.std.specs.Prelude.{◌&&◌, ◌==◌, slice_index_or, ◌-◌}
use Rattle.std.proofs.lemmas.Bool.{ne_eqb}
use Rattle.eng_one.specs.Control.{mark_in}
use Rattle.eng_one.specs.Counts.{is_idle}
use Rattle.eng_one.proofs.Waits.{waiting-kept, and-no}
use Rattle.eng_one.proofs.followers.lower_one.Goals as goal
use Rattle.eng_one.proofs.followers.lower_one.Goals.{else-left-eq0-via-then-left-eq0+else-is_idle, else-left-eq0-via-else-left-eq0}

pub returns-else-left-eq0-clause-ready : goal.returns-else-left-eq0-clause-ready
returns-else-left-eq0-clause-ready c k =
    let left = slice_index_or c.args.unmet.now c.args.node 0 - 1 in
    c.requires.ready k
    ∙ elim c.else-left-eq0.branch [
      | else-left-eq0-via-then-left-eq0+else-is_idle w ↦ waiting-kept c.args.marks.now c.args.unmet.now c.args.node left c.requires.fits (ap (λ (b : Bool). b && (left == 0)) (sym w.is_idle.ensures ∙ w.if-is_idle.false)) k
      | else-left-eq0-via-else-left-eq0 w ↦ waiting-kept c.args.marks.now c.args.unmet.now c.args.node left c.requires.fits (ap (λ (b : Bool). is_idle (mark_in c.args.marks.now c.args.node) && b) (ne_eqb left 0 w.if-left-eq0.false) ∙ and-no (is_idle (mark_in c.args.marks.now c.args.node))) k
    ]
