use Rattle.std.proofs.Common.{◌≡◌, ◌∙◌, List, [], Ok, Err, length, ap, refl, subst, arith}
use Rattle.std.proofs.lemmas.List.{length-append}
use Rattle.raid_text.specs.Seen.{left, seen as seen_line}
use Rattle.raid_script.specs.declared.fault.ScriptFault.TheVariants as fault
use Rattle.raid_script.specs.Asked.{Scripted, joins_of}
use Rattle.raid_script.specs.Steps.{joined_in, seen_entry}
use Rattle.raid_script.specs.declared.join.Join.{Join}
use Rattle.raid_script.specs.Format.{next_of}
use Rattle.raid_script.proofs.Refused.{are_asked, are_few, refused, sorted}
use Rattle.raid_script.proofs.RowsInTurn.{HasRead, all_read, none_read, one_read, one_refused, read_clients}
use Rattle.raid_script.proofs.reader.read_script.Goals as goal

-- no line, no join
no_joins : length (joins_of []) ≡ 0
unfolding joins_of
no_joins = refl

pub loop-line-init : goal.loop-line-init
loop-line-init c =
    let none : length c.in_ok-script.script.joins ≡ 0 = ap (λ (s : Scripted). length s.joins) c.in_ok-script.ensures ∙ no_joins in
    record {
      read = none_read c.args.book.now c.args.columns c.args.text.now c.in_ok-script.script (left c.new-lines.result) c.in_ok-script.ensures c.new-lines.ensures.left;
      bound = omega arith;
      joins = omega (arith, none);
    }

pub overflow_cast-joins : goal.overflow_cast-joins
overflow_cast-joins c =
    let few = c.loop-line.invariant.joins in
    let same : length c.joins.result.now ≡ length c.loop-line.script.joins = ap (λ (js : List Join). length js) c.joins.ensures in
    omega (arith, few, same)

pub next_entry-requires-clause-joins : goal.next_entry-requires-clause-joins
next_entry-requires-clause-joins c =
    let few = c.loop-line.invariant.joins in
    let same : length c.joins.result.now ≡ length c.loop-line.script.joins = ap (λ (js : List Join). length js) c.joins.ensures in
    omega (arith, few, same)

pub push-requires : goal.push-requires
push-requires c =
    let many = read_clients c.args.book.now c.args.columns c.args.text.now c.loop-line.script c.loop-line.items c.loop-line.sectors (left c.loop-line.lines) c.loop-line.invariant.read in
    omega (arith, many, c.in-Ok.ensures.client)

pub loop-line-preserved : goal.loop-line-preserved
loop-line-preserved c =
    let line = seen_line c.in-Some.line in
    let so_far = subst (λ ls. HasRead c.args.book.now c.args.columns c.args.text.now c.loop-line.script c.loop-line.items c.loop-line.sectors ls) c.in-Some.ensures.some c.loop-line.invariant.read in
    let told = subst (λ (js : List Join). next_of c.args.book.now c.args.columns c.loop-line.items c.loop-line.sectors (length js) line ≡ Ok (seen_entry c.next_entry.new.room c.in-Ok.entry)) c.joins.ensures c.in-Ok.ensures.value in
    let more = one_read c.args.book.now c.args.columns c.args.text.now c.loop-line.script c.loop-line.items c.loop-line.sectors line (left c.next.new.self) (seen_entry c.next_entry.new.room c.in-Ok.entry) told so_far in
    let room = c.in-Ok.ensures.joins in
    let same : length c.joins.result.now ≡ length c.loop-line.script.joins = ap (λ (js : List Join). length js) c.joins.ensures in
    let longer = length-append c.loop-line.script.joins (joined_in c.in-Ok.entry.join) in
    record {
      read = rw (c.in_ok-push-in-Ok.ensures, c.read_sectors-sectors.ensures.value c.next_entry.new.room) more;
      bound = rw (c.read_sectors-sectors.ensures.value c.next_entry.new.room) c.in-Ok.ensures.bound;
      joins = rw (c.in_ok-push-in-Ok.ensures) (omega (arith, room, same, longer));
    }

pub returns-in-Err-clause-value : goal.returns-in-Err-clause-value
returns-in-Err-clause-value c =
    let line = seen_line c.in-Some.line in
    let so_far = subst (λ ls. HasRead c.args.book.now c.args.columns c.args.text.now c.loop-line.script c.loop-line.items c.loop-line.sectors ls) c.in-Some.ensures.some c.loop-line.invariant.read in
    let told = one_refused c.args.book.now c.args.columns c.args.text.now c.loop-line.script c.loop-line.items c.loop-line.sectors c.in-Err.code line (left c.next.new.self) (subst (λ (js : List Join). next_of c.args.book.now c.args.columns c.loop-line.items c.loop-line.sectors (length js) line ≡ Err c.in-Err.code) c.joins.ensures c.in-Err.ensures.value) so_far in
    rw c.at.ensures (refused c.args.book.now c.args.columns c.args.text.now (fault.At line.at c.in-Err.code) told)

pub returns-clause-value : goal.returns-clause-value
returns-clause-value c =
    let so_far = subst (λ ls. HasRead c.args.book.now c.args.columns c.args.text.now c.loop-line.script c.loop-line.items c.loop-line.sectors ls) c.in_default.ensures.none.0 c.loop-line.invariant.read in
    rw so_far.sorted (sorted c.args.book.now c.args.columns c.args.text.now so_far.front (all_read c.args.book.now c.args.columns c.args.text.now c.loop-line.script c.loop-line.items c.loop-line.sectors so_far))

pub returns-clause-asked : goal.returns-clause-asked
returns-clause-asked c = are_asked c.args.book.now c.args.columns c.args.text.now c.loop-line.script (returns-clause-value c)

pub returns-clause-few : goal.returns-clause-few
returns-clause-few c = are_few c.args.book.now c.args.columns c.args.text.now c.loop-line.script (returns-clause-value c)
