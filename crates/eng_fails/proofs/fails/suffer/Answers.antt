use Rattle.std.proofs.Common.{◌≡◌, sym, ap, ◌∙◌, List, true, false}
use Rattle.std.specs.Prelude.{slice_set}
use Rattle.std.proofs.lemmas.List.{set-get_or}
use Rattle.eng_one.proofs.Losing.{read-left}
use Rattle.eng_state.specs.declared.array.Array.{Array}
use Rattle.eng_clients.specs.Desk.{Desk, desk_at, no_desk}
use Rattle.eng_state.specs.Failing.{dying, suffered}
use Rattle.eng_fails.proofs.Suffering.{suffered-stays}
use Rattle.eng_fails.proofs.fails.suffer.Goals as goal

pub returns-then-not-is_before : goal.returns-then-not-is_before
returns-then-not-is_before g c =
    let core : Array g.row.L.Denot g.row.D.Denot = c.args.array.now in
    let d : Desk = desk_at core.clients c.args.client in
    let y = g.L.Layout.shape core.layout in
    let stay : suffered y core.cols.states c.args.column d ≡ d = suffered-stays y core.cols.states c.args.column d c.stands.ensures
    (λ runs before. let z : true ≡ false = sym (c.is_before.ensures.1 (runs, before)) ∙ c.if-not-is_before.true in absurd (let u : ⊥ = cc in u)) in
    sym (ap (λ (l : List Desk). record core { clients = l }) (ap (λ (a : Desk). slice_set core.clients c.args.client a) stay ∙ set-get_or core.clients c.args.client no_desk))

pub abandon-requires-clause-read : goal.abandon-requires-clause-read
abandon-requires-clause-read g c =
    let core : Array g.row.L.Denot g.row.D.Denot = c.args.array.now in
    let d : Desk = desk_at core.clients c.args.client in
    let y = g.L.Layout.shape core.layout in
    read-left d.run (dying y core.cols.states c.args.column d) (sym c.still_reads.ensures ∙ c.if-still_reads.true)
