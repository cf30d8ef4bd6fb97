-- What came of a command leaves each device in its place.
use Rattle.std.specs.Prelude.{◌≡◌, List, Option, Vec, Result, Ok, Err, IfOk, IfErr, OnErr}
use Rattle.std.specs.declared.alloc.Global.{Global}
use Rattle.std.proofs.Common.{sym, subst}
use Rattle.blk_disk.specs.declared.disk.Disk.{Ghosts}
use Rattle.blk_disk.proofs.DeviceLaws.{changes-refl}
use Rattle.top_open.specs.declared.fronts.Front.{Front}
use Rattle.top_duty.specs.Duty.{Duty}
use Rattle.raid_top.specs.declared.came.Came.{Came}
use Rattle.raid_top.specs.Does.{Does}
use Rattle.raid_top.specs.Outcome.{Outcome}
use Rattle.raid_top.proofs.Frames.{AnySector, Moves, due_moves}

module _ {D : Type 0} (g : Ghosts D) (duty : Duty) (fronts : List Front) (old back : Vec (Option D) Global) (seen : Came → Outcome) where
  pub came_moves : {E : Type 0} (came : Result Came E) → IfOk came (λ x. Does g duty fronts old.items back.items (seen x)) → OnErr came (back ≡ old) → Moves g old.items back.items
  came_moves (Ok x) does same = due_moves g duty fronts old.items back.items (seen x) does
  came_moves (Err e) does same = subst (λ (v : Vec (Option D) Global). Moves g old.items v.items) (sym same) (changes-refl g AnySector old.items)

-- ## Of a result that is handed on

pub both_ok : {T E : Type 0} {P Q R : T → Type 0} (r : Result T E) → IfOk r P → IfOk r Q → ((x : T) → P x → Q x → R x) → IfOk r R
both_ok (Ok x) p q f = f x p q
both_ok (Err e) p q f = tt

pub both_err : {T E : Type 0} {P R : E → Type 0} {Q : Type 0} (r : Result T E) → IfErr r P → OnErr r Q → ((e : E) → P e → Q → R e) → IfErr r R
both_err (Ok x) p q f = tt
both_err (Err e) p q f = f e p q
