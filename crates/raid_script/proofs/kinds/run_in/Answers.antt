use Rattle.std.proofs.Common.{◌≡◌, ◌∙◌, true, false, sym}
use Rattle.std.specs.Prelude.{codes}
use Rattle.std.specs.Str.{bytes_eq}
use Rattle.raid_script.specs.Format.{run_of}
use Rattle.raid_script.specs.Steps.{read_of, write_of, writes_of}
use Rattle.raid_script.proofs.kinds.run_in.Goals as goal

pub returns-then-eq : goal.returns-then-eq
unfolding run_of write_of writes_of read_of
returns-then-eq c =
    let test : bytes_eq c.args.kind.now (codes "write") ≡ true = sym (rw c.as_slice.ensures at c.eq.ensures) ∙ c.if-eq.true in
    rw test c.write_in.ensures

pub returns-then-eq-3 : goal.returns-then-eq-3
unfolding run_of write_of writes_of read_of
returns-then-eq-3 c =
    let one : bytes_eq c.args.kind.now (codes "write") ≡ false = sym (rw c.as_slice.ensures at c.eq.ensures) ∙ c.if-eq.false in
    let two : bytes_eq c.args.kind.now (codes "writes") ≡ false = sym (rw c.as_slice-else-eq.ensures at c.eq-else-eq.ensures) ∙ c.if-eq-2.false in
    let three : bytes_eq c.args.kind.now (codes "read") ≡ true = sym (rw c.as_slice-else-eq-2.ensures at c.eq-else-eq-2.ensures) ∙ c.if-eq-3.true in
    rw (one, two, three) (c.read_in.ensures c.args.room.now)
