use Rattle.eng_clients.specs.Desk.{desk_at}
use Rattle.eng_array.proofs.OutAt.{out-of, is-out, out-once, none-at, at-none, device-with, buffer-with}
use Rattle.eng_array.proofs.tickets.what_is_out_has_one_place.Goals as goal

pub returns-clause-once : goal.returns-clause-once
returns-clause-once g c = λ core k n. out-once core k n

pub returns-clause-node : goal.returns-clause-node
returns-clause-node g c = λ core k n. (is-out (desk_at core.clients k) n, out-of (desk_at core.clients k) n)

pub returns-clause-none : goal.returns-clause-none
returns-clause-none g c = λ core. (none-at core, at-none core)

pub returns-clause-devices : goal.returns-clause-devices
returns-clause-devices g c = λ core d x steady away. device-with core g.L.Layout g.D.Disk steady d x away

pub returns-clause-buffers : goal.returns-clause-buffers
returns-clause-buffers g c = λ core k b steady runs below out. buffer-with core g.L.Layout g.D.Disk steady k b runs below out
