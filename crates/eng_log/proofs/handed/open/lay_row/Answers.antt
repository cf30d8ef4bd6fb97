use Rattle.std.proofs.Common.{◌≡◌, ◌≤◌, ◌+◌, ℕ, List, [], Some, length, slice_get, sym, subst, ap, refl, arith}
use Rattle.std.specs.Prelude.{IfOk}
use Rattle.std.proofs.lemmas.Option.{slice_get_past, slice_get_read}
use Rattle.eng_world.specs.declared.item.Item.{Item}
use Rattle.eng_rest.specs.Left.{below}
use Rattle.eng_log.specs.Given.{items_in, items_at}
use Rattle.eng_log.specs.Laid.{sectors_at, IsRow}
use Rattle.eng_log.proofs.Laying.{below-none}
use Rattle.eng_log.proofs.handed.open.lay_row.Goals as goal

pub open-requires : goal.open-requires
open-requires c =
    let there = slice_get_read c.args.clients.now (length c.args.clients.now) c.args.client c.in-Some.items.now refl c.in-Some.ensures.lookup.3.0 c.in-Some.ensures.lookup.1 in
    subst (λ (l : List Item). c.args.first + below (sectors_at l) (length l) ≤ 262144) (ap items_in there) c.requires

pub returns-in-Some-clause-row : goal.returns-in-Some-clause-row
returns-in-Some-clause-row c =
    let same = ap items_in (sym (slice_get_read c.args.clients.now (length c.args.clients.now) c.args.client c.in-Some.items.now refl c.in-Some.ensures.lookup.3.0 c.in-Some.ensures.lookup.1)) in
    subst (λ (l : List Item). IfOk c.open.result (λ r. IsRow l c.args.first (length l) r.0)) same c.open.ensures.row

pub returns-in-Some-clause-next : goal.returns-in-Some-clause-next
returns-in-Some-clause-next c =
    let same = ap items_in (sym (slice_get_read c.args.clients.now (length c.args.clients.now) c.args.client c.in-Some.items.now refl c.in-Some.ensures.lookup.3.0 c.in-Some.ensures.lookup.1)) in
    subst (λ (l : List Item). IfOk c.open.result (λ r. r.1 ≡ c.args.first + below (sectors_at l) (length l))) same c.open.ensures.next

pub returns-in_ok-empty-in-None-clause-next : goal.returns-in_ok-empty-in-None-clause-next
returns-in_ok-empty-in-None-clause-next c =
    let past : items_at c.args.clients.now c.args.client ≡ [] = ap items_in (slice_get_past c.args.clients.now c.args.client c.in-None.ensures.lookup.3) in
    let none = below-none (sectors_at []) in
    subst (λ (l : List Item). c.args.first ≡ c.args.first + below (sectors_at l) (length l)) (sym past) (omega (arith, none))
