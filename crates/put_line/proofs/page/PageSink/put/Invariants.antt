use Rattle.std.proofs.Common.{◌≡◌, ◌≤◌, ◌+◌, ◌++◌, length}
use Rattle.put_line.specs.Page.{whole}
use Rattle.put_line.proofs.page.PageSink.put.Given as goal

abbrev pub invariant-loop-rest : goal.invariant-loop-rest
invariant-loop-rest g l = record {
  output : g.K.Sink.tells → whole g.K.Sink.output l.self.lent.sink.now l.self.bytes.items l.self.before ++ l.rest ≡ whole g.K.Sink.output l.initial.self.lent.sink.now l.initial.self.bytes.items l.initial.self.before ++ l.bytes;
  short : length l.rest ≤ length l.bytes;
  later : g.K.Sink.faults l.initial.self.lent.sink.now + l.initial.self.refused ≤ g.K.Sink.faults l.self.lent.sink.now + l.self.refused;
}

abbrev pub decreases-loop-rest : goal.decreases-loop-rest
decreases-loop-rest g l = length l.rest
