use Rattle.std.proofs.Common.{◌≡◌, ◌<◌, ℕ, Some}
use Rattle.std.specs.Prelude.{slice_get}
use Rattle.eng_cols.specs.declared.column.Column.{Column}
use Rattle.array_tests.specs.Small.{IsOwn}
use Rattle.array_tests.proofs.tests.opening.are_own.Given as goal

-- the columns so far are
abbrev pub invariant-loop-number : goal.invariant-loop-number
invariant-loop-number g l = (c : ℕ) (x : Column) → c < l.number → slice_get l.columns c ≡ Some x → IsOwn g.D.Disk l.devices l.need c x
