use Rattle.std.proofs.Common.{refl, take, length, arith}
use Rattle.std.proofs.lemmas.List.{take_all}
use Rattle.top_bay.specs.Asked.{names_of}
use Rattle.top_bay.proofs.Places.{known_among, opens_among}
use Rattle.top_bay.proofs.component.named.Goals as goal

pub returns-in-Device-clause-known : goal.returns-in-Device-clause-known
returns-in-Device-clause-known c =
    let names = names_of c.args.conf.now in
    let name = c.in-Device.name.now in
    rw c.in-Device.is (known_among c.place.result names (length names) name refl
    (opens_among c.place.result (take c.count.result names) names name (take_all c.count.result names (omega (arith, c.count.ensures))) c.place.ensures.answer))
