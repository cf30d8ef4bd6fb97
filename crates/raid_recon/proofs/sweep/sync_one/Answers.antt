use Rattle.std.proofs.Common.{◌≡◌, length, ap, ◌∙◌, arith}
use Rattle.blk_disk.proofs.Written.{through_is}
use Rattle.raid_recon.proofs.sweep.sync_one.Goals as goal

pub returns-clause-room : goal.returns-clause-room
returns-clause-room g c =
    let bytes = c.room.inside.bytes in
    let a : length c.sync_in.new.room ≡ bytes.len = omega (arith, c.sync_in.ensures.room, ap length c.as_mut_slice-room.ensures.value, c.as_mut_slice-room.ensures.len) in
    ap length (through_is bytes.items c.sync_in.new.room bytes.len a) ∙ (c.sync_in.ensures.room ∙ (ap length c.as_mut_slice-room.ensures.value ∙ c.room.view_is))
