use Rattle.std.proofs.Common.{◌≡◌, Err, Ok, map, refl, subst}
use Rattle.std.proofs.lemmas.Result.{err_from_is_err_and}
use Rattle.raid_text.specs.Seen.{left}
use Rattle.text_steps.specs.Steps.{Rest, rest_of, whole}
use Rattle.top_sim.specs.Steps.{seen}
use Rattle.top_sim.specs.Format.{disk_line}
use Rattle.top_sim.proofs.WorkloadInTurn.{all_lines, disk_stops, lines_stop}
use Rattle.top_sim.proofs.requests.read_workload.Goals as goal

pub returns-in_err-sectors-clause-workload : goal.returns-in_err-sectors-clause-workload
unfolding rest_of
returns-in_err-sectors-clause-workload c =
    let same : rest_of c.new-lines.result ≡ whole c.args.text.now =
    rw (c.new-lines.ensures.left, c.new-lines.ensures.count) refl in
    let p = err_from_is_err_and c.from_residual.result c.from_residual.ensures.1 in
    rw (p.1, p.2) (disk_stops c.args.text.now c.in_err-sectors.field-0.0
    (subst (λ (r : Rest). disk_line r ≡ Err c.in_err-sectors.field-0.0) same
    c.in_err-sectors.ensures.value))

pub returns-in_err-requests-clause-workload : goal.returns-in_err-requests-clause-workload
unfolding rest_of
returns-in_err-requests-clause-workload c =
    let same : rest_of c.new-lines.result ≡ whole c.args.text.now =
    rw (c.new-lines.ensures.left, c.new-lines.ensures.count) refl in
    let sectors = c.in_ok-sectors.sectors in
    let lines = left c.read_disk.new.lines in
    let p = err_from_is_err_and c.from_residual-in_err-requests.result
    c.from_residual-in_err-requests.ensures.1 in
    rw (p.1, p.2) (lines_stop c.args.text.now sectors lines
    (subst (λ (r : Rest). disk_line r ≡ Ok (sectors, lines)) same c.in_ok-sectors.ensures.value)
    c.in_err-requests.field-0.0 c.in_err-requests.ensures.requests)

pub returns-clause-workload : goal.returns-clause-workload
unfolding rest_of
returns-clause-workload c =
    let same : rest_of c.new-lines.result ≡ whole c.args.text.now =
    rw (c.new-lines.ensures.left, c.new-lines.ensures.count) refl in
    let sectors = c.in_ok-sectors.sectors in
    let lines = left c.read_disk.new.lines in
    all_lines c.args.text.now sectors lines
    (subst (λ (r : Rest). disk_line r ≡ Ok (sectors, lines)) same c.in_ok-sectors.ensures.value)
    (map seen c.in_ok-requests.requests.items) c.in_ok-requests.ensures.requests
