use Rattle.std.proofs.Common.{◌∙◌, length, map, arith, length-append}
use Rattle.std.proofs.lemmas.List.{map-append}
use Rattle.raid_text.specs.Seen.{left, seen as seen_line}
use Rattle.top_sim.specs.Steps.{seen}
use Rattle.top_sim.specs.Format.{requests_behind}
use Rattle.top_sim.proofs.LinesInTurn.{at_first, ends, goes_on, is_done}
use Rattle.top_sim.proofs.RequestsInTurn.{are_asked, are_within, no_request, one_more}
use Rattle.top_sim.proofs.requests.read_requests.Goals as goal

pub loop-line-init : goal.loop-line-init
loop-line-init c = record {
  told = rw c.new-requests.ensures.items
      (at_first (requests_behind c.args.sectors 0 0 0 (left c.args.lines.now)));
  bound = omega arith;
  so_far = rw c.new-requests.ensures.items (no_request c.args.sectors);
}

pub loop-line-preserved : goal.loop-line-preserved
loop-line-preserved c =
    let requests = c.loop-line.requests.items in
    let request = c.in-Ok.request in
    let line = seen_line c.in-Some.line in
    let rest = left c.next.new.self in
    let so_far = rw c.in-Some.ensures.some at c.loop-line.invariant.told in
    let many = c.len.ensures ∙ c.loop-line.requests.ok.0 in
    let value = rw many at c.in-Ok.ensures.value in
    let more = goes_on c.args.sectors c.loop-line.low (length requests) c.loop-line.read
    (map seen requests) line rest (seen request) _ value so_far in
    record {
      told = rw (
        c.in_ok-push-in-Ok.ensures.items,
        c.read_sectors-read.ensures.value,
        map-append,
        length-append,
      ) more;
      bound = rw c.read_sectors-read.ensures.value c.in-Ok.ensures.bound;
      so_far = rw c.in_ok-push-in-Ok.ensures.items
          (one_more c.args.sectors c.loop-line.low requests request
          (rw many at c.in-Ok.ensures.few) c.in-Ok.ensures.order c.in-Ok.ensures.soon
          c.in-Ok.ensures.within c.loop-line.invariant.so_far);
    }

pub returns-in-Err-clause-requests : goal.returns-in-Err-clause-requests
returns-in-Err-clause-requests c =
    let requests = c.loop-line.requests.items in
    let line = seen_line c.in-Some.line in
    let so_far = rw c.in-Some.ensures.some at c.loop-line.invariant.told in
    let value = rw (c.len.ensures ∙ c.loop-line.requests.ok.0) at c.in-Err.ensures.value in
    rw c.at.ensures (ends c.args.sectors c.loop-line.low (length requests) c.loop-line.read
    c.in-Err.code (map seen requests) line (left c.next.new.self) _ value so_far)

pub returns-clause-requests : goal.returns-clause-requests
returns-clause-requests c =
    let requests = c.loop-line.requests.items in
    let so_far = rw c.in_default.ensures.none.0 at c.loop-line.invariant.told in
    is_done c.args.sectors c.loop-line.low (length requests) c.loop-line.read (map seen requests)
    _ so_far

pub returns-clause-asked : goal.returns-clause-asked
returns-clause-asked c =
    are_asked c.args.sectors c.loop-line.low c.loop-line.requests.items c.requires
    c.loop-line.invariant.so_far

pub returns-clause-within : goal.returns-clause-within
returns-clause-within c =
    are_within c.args.sectors c.loop-line.low c.loop-line.requests.items
    c.loop-line.invariant.so_far
