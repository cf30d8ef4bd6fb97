use Rattle.graph_lib.proofs.uses.section_by.Goals as goal

pub returns-clause-uses : goal.returns-clause-uses
returns-clause-uses c = record {
  news = λ i _. c.news_by.ensures i;
  reads = c.reads_by.ensures;
  writes = λ i _. c.writes_by.ensures i;
  returns = λ i _. c.returns_by.ensures i;
  sums = c.has_sum.ensures;
}
