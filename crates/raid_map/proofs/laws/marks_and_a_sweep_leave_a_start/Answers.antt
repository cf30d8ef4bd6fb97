use Rattle.std.proofs.Common.{sym, subst}
use Rattle.eng_cols.specs.Cols.{HasDevice}
use Rattle.raid_map.specs.Mapped.{UnsoundLieIn}
use Rattle.raid_map.proofs.Behind.{marks-left, lies-in}
use Rattle.raid_map.proofs.laws.marks_and_a_sweep_leave_a_start.Goals as goal

pub returns : goal.returns
returns g c told y serial regions map union bytes columns marked swept old held new start layout one array is_map of_serial of_stripes marks union_stripes unsound sweep kept all are since = (
  subst (λ cs. UnsoundLieIn y serial regions cs start) (sym are)
      (λ image s may u. lies-in g.D.Disk told y layout one serial regions map union bytes columns marked swept old held new array is_map of_serial of_stripes marks union_stripes unsound sweep kept all start.stored
      (λ k d has. since k d (subst (λ cs. HasDevice cs k d) (sym are) has)) image s may u),
  λ d used. marks-left g.D.Disk told y layout one serial regions map union bytes columns marked swept old held new array is_map of_serial of_stripes marks union_stripes unsound sweep kept all start.stored
      (λ k e has. since k e (subst (λ cs. HasDevice cs k e) (sym are) has)) used.0 d (subst (λ cs. HasDevice cs used.0 d) are used.1),
)
