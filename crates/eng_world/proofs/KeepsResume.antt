-- A rebuild that goes on keeps the invariant: the columns stay as they are.
use Rattle.std.proofs.Common.{ℕ, refl}
use Rattle.lay_core.specs.Layout.{Shape, Blocks}
use Rattle.eng_world.specs.World.{World}
use Rattle.eng_world.specs.Serving.{Resumes}
use Rattle.eng_world.specs.Invariant.{Invariant}
use Rattle.eng_world.proofs.KeepsStart.{start-keeps}

pub resume-keeps : (y : Shape) (in_sync : Type 0) (start : Blocks) (c count : ℕ) (old new : World) → Invariant y in_sync start old → Resumes y c count old new → Invariant y in_sync start new
resume-keeps y in_sync start c count old new inv f =
    start-keeps y in_sync start c old.columns old new inv f.starts (λ s i. refl) (λ s i at is. is) inv.control.order inv.control.count inv.control.done inv.control.unfailed
