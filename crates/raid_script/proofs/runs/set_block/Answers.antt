use Rattle.std.proofs.Common.{ℕ, ◌≤◌, arith, ap, length, length-append}
use Rattle.raid_script.proofs.runs.set_block.Goals as goal

pub push-requires-4 : goal.push-requires-4
push-requires-4 c =
    let before : length c.push-3.new.self ≤ 88 = omega (arith, ap length c.clear.ensures, ap length c.push.ensures, ap length c.push-2.ensures, ap length c.push-3.ensures, length-append {A = ℕ}) in
    omega (arith, before, c.push_hex.ensures.long)
