use Rattle.std.proofs.Common.{◌∙◌}
use Rattle.raid_text.specs.Seen.{left, seen as seen_line}
use Rattle.graph_text.proofs.LinesInTurn.{graphs_are, line_faulty, line_read, lines_done}
use Rattle.graph_text.proofs.reader.read_graphs.Goals as goal

pub returns-in-Err-clause-value : goal.returns-in-Err-clause-value
returns-in-Err-clause-value c =
    let line = seen_line c.in-Some.line in
    let so_far = rw c.in-Some.ensures.some at c.loop-line.invariant.read in
    let told = line_faulty c.args.text.now c.loop-line.reader c.read.new.self line (left c.next.new.self) c.in-Err.fault c.in-Err.ensures so_far in
    rw (c.at-in-Err.ensures, c.at.ensures) told

pub loop-line-preserved : goal.loop-line-preserved
loop-line-preserved c =
    let line = seen_line c.in-Some.line in
    let so_far = rw c.in-Some.ensures.some at c.loop-line.invariant.read in
    record {
      read = line_read c.loop-line.reader c.read.new.self line (left c.next.new.self) _ c.in_default-read.ensures so_far;
      count = c.in-Some.ensures.same ∙ c.loop-line.invariant.count;
    }

pub returns-clause-value : goal.returns-clause-value
returns-clause-value c =
    let so_far = rw c.in_default.ensures.none.0 at c.loop-line.invariant.read in
    let count = c.passed.ensures ∙ (c.in_default.ensures.end ∙ (c.in_default.ensures.same ∙ c.loop-line.invariant.count)) in
    let done = lines_done c.args.text.now c.loop-line.reader c.passed.result count so_far in
    rw done c.finish.ensures

pub returns-clause-graphs : goal.returns-clause-graphs
returns-clause-graphs c = graphs_are c.args.text.now c.finish.result (returns-clause-value c)
