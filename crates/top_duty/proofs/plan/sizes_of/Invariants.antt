use Rattle.std.proofs.Common.{◌≡◌, map, take}
use Rattle.std.specs.Option.{option_map_or}
use Rattle.top_duty.proofs.plan.sizes_of.Given as goal

abbrev pub invariant-loop-device : goal.invariant-loop-device
invariant-loop-device g l = l.sizes.items ≡ map (λ x. option_map_or g.D.Disk.size x 0) (take l.device-index l.devices)
