use Rattle.std.proofs.Common.{◌∙◌}
use Rattle.graph_lib.proofs.cutting.made_whole.Goals as goal

pub returns : goal.returns
returns c =
    let is = c.section_by.ensures in
    record {
      stripe = is.stripe;
      from = is.from;
      count = is.count ∙ c.unit_sectors-count.ensures;
      uses = record { news = is.uses.news; reads = is.uses.reads; writes = is.uses.writes; returns = is.uses.returns; sums = is.uses.sums };
    }
