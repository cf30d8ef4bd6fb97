use Rattle.std.proofs.Common.{◌≡◌, ◌+◌, ◌-◌, ◌*◌, length, arith}
use Rattle.raid_recon.proofs.AtHand.{put_mid-put}
use Rattle.raid_recon.proofs.devices.read_into.Goals as goal

pub returns-clause-read : goal.returns-clause-read
returns-clause-read g c =
    let long : length c.read_at.new.into ≡ 512 * (c.args.rows * c.args.unit_sectors) = search (arith, c.read_at.ensures.long) in
    record {
      part = c.read_at.new.into;
      long = long;
      read = c.read_at.ensures.read;
      put_is = put_mid-put c.args.bytes.now c.read_at.new.into c.args.first (512 * c.args.first + 512 * (c.args.rows * c.args.unit_sectors) - 512 * c.args.first) (omega (arith, long));
    }
