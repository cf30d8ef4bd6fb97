use Rattle.std.proofs.Common.{rules, ◌≡◌, ◌-◌, length, ap, sym, ◌∙◌}
use Rattle.std.specs.Prelude.{slice_set}
use Rattle.lay_core.specs.declared.place.Part.{Part}
use Rattle.lay_core.proofs.Putting.{last-put}
use Rattle.lay_core.proofs.joint.add_part.Goals as goal

pub returns-then-meets-clause-items : goal.returns-then-meets-clause-items
returns-then-meets-clause-items c =
    let long : c.len-len.result ≡ length c.args.parts.now.items = search rules in
    ap (λ (p : Part). slice_set c.args.parts.now.items (c.len-len.result - 1) p) c.longer.ensures
    ∙ last-put c.args.parts.now.items c.args.part c.index.result.now c.index_mut.result.now c.len-len.result long c.if-len-gt0.true c.index.ensures (sym c.meets.ensures ∙ c.if-meets.true) c.index_mut.ensures.value
