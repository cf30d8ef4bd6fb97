use Rattle.std.proofs.Common.{◌≡◌, ◌∙◌, true, false, sym}
use Rattle.std.specs.Prelude.{codes}
use Rattle.std.specs.Str.{bytes_eq}
use Rattle.raid_script.specs.Format.{item_of}
use Rattle.raid_script.specs.Steps.{fail_of, sync_of, use_of}
use Rattle.raid_script.proofs.kinds.item_in.Goals as goal

pub returns-then-eq : goal.returns-then-eq
unfolding item_of sync_of fail_of use_of
returns-then-eq c =
    let test : bytes_eq c.args.kind.now (codes "sync") ≡ true = sym (rw c.as_slice.ensures at c.eq.ensures) ∙ c.if-eq.true in
    rw test (c.sync_in.ensures c.args.room.now)

pub returns-then-eq-2 : goal.returns-then-eq-2
unfolding item_of sync_of fail_of use_of
returns-then-eq-2 c =
    let one : bytes_eq c.args.kind.now (codes "sync") ≡ false = sym (rw c.as_slice.ensures at c.eq.ensures) ∙ c.if-eq.false in
    let two : bytes_eq c.args.kind.now (codes "fail") ≡ true = sym (rw c.as_slice-else-eq.ensures at c.eq-else-eq.ensures) ∙ c.if-eq-2.true in
    rw (one, two) (c.fail_in.ensures c.args.room.now)
