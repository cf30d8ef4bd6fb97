use Rattle.std.proofs.Common.{◌≡◌, ◌∙◌, ℕ, ap, sym}
use Rattle.std.specs.Prelude.{Option}
use Rattle.blk_plain.specs.Plain.{used_of}
use Rattle.raid_script.specs.Steps.{seen_patches}
use Rattle.top_bound.specs.Bound.{graphs_in, spans_nodes}
use Rattle.top_bound.specs.Words.{patches_nodes}
use Rattle.top_bound.proofs.Patched.{spans-seen}
use Rattle.top_bound.proofs.bound.patches_nodes.Goals as goal

pub returns-in-None-clause-value : goal.returns-in-None-clause-value
returns-in-None-clause-value g c =
    let y = g.L.Layout.shape c.args.layout.now in
    let patches = c.args.patches.now in
    c.spans_nodes.ensures.value
    ∙ (ap (spans_nodes y) (sym (spans-seen (used_of patches)))
    ∙ ap (λ (o : Option ℕ). patches_nodes y (graphs_in c.args.book.now c.args.joined.now) (seen_patches patches) o) (sym c.in-None.is))
