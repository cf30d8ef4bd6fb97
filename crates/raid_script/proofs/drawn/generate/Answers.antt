use Rattle.std.proofs.Common.{◌≡◌, ◌∙◌, ℕ, ◌+◌, ◌*◌, ◌/◌, List, map, min, subst, sym, ap, arith}
use Rattle.std.proofs.lemmas.List.{map_push}
use Rattle.raid_script.specs.Asked.{AreFew, Asked, seen}
use Rattle.raid_script.specs.Drawn.{AreApart}
use Rattle.raid_script.specs.Steps.{share}
use Rattle.raid_script.specs.DrawnParts.{after, row_from, rows_from, seeded}
use Rattle.raid_script.proofs.DrawnShares.{drawn_apart, drawn_few}
use Rattle.raid_script.proofs.DrawnWords.{after_more, after_none, rows_more, rows_none, drawn_is}
use Rattle.raid_script.proofs.drawn.generate.Goals as goal

pub loop-client-init : goal.loop-client-init
loop-client-init c =
    let none : 0 ≡ 3 * (0 * c.args.ops) = omega arith in
    record {
      rows = rw (c.in_ok-rows.ensures.items) (sym (rows_none _ c.args.ops (seeded c.args.seed)));
      rest = c.words_of-words.ensures ∙ (sym (after_none (seeded c.args.seed)) ∙ ap (λ (k : ℕ). after k (seeded c.args.seed)) none);
    }

pub loop-client-preserved : goal.loop-client-preserved
loop-client-preserved c =
    let n = c.loop-client.client in
    let ops = c.args.ops in
    let g = seeded c.args.seed in
    let wide = c.args.blocks / c.from-2.result in
    let so_many : 3 * (n * ops) + 3 * ops ≡ 3 * ((n + 1) * ops) = omega arith in
    let row : map seen c.in_ok-row_from.field-0.items ≡ row_from n wide ops (after (3 * (n * ops)) g) = rw c.loop-client.invariant.rest at c.in_ok-row_from.ensures.items in
    record {
      rows = rw (c.in_ok-push.ensures.items, map_push (λ items. map seen items.items) c.loop-client.rows.items c.in_ok-row_from.field-0, c.loop-client.invariant.rows, row) (sym (rows_more n wide ops g));
      rest = c.in_ok-row_from.ensures.rest ∙ (ap (after (3 * ops)) c.loop-client.invariant.rest ∙ (after_more (3 * (n * ops)) (3 * ops) g ∙ ap (λ (k : ℕ). after k g) so_many));
    }

pub returns-clause-value : goal.returns-clause-value
returns-clause-value c =
    let blocks = c.args.blocks in
    let g = seeded c.args.seed in
    let count : c.loop-client.client ≡ min c.args.clients blocks = omega (arith, c.from.ensures, c.min-taken.ensures) in
    let divisor : c.from-2.result ≡ min c.args.clients blocks = omega (arith, c.from.ensures, c.min-taken.ensures, c.from-2.ensures) in
    let rows = c.loop-client.invariant.rows ∙ (ap (λ (n : ℕ). rows_from n (blocks / c.from-2.result) c.args.ops g) count ∙ ap (λ (k : ℕ). rows_from (min c.args.clients blocks) (blocks / k) c.args.ops g) divisor) in
    rows ∙ sym (drawn_is c.args.seed c.args.clients c.args.ops blocks)

pub returns-clause-apart : goal.returns-clause-apart
returns-clause-apart c =
    let apart = drawn_apart c.args.seed c.args.clients c.args.ops c.args.blocks c.requires.some c.requires.blocks in
    subst (λ (rows : List (List Asked)). AreApart (min c.args.clients c.args.blocks) c.args.ops (share c.args.clients c.args.blocks) c.args.blocks rows) (sym (returns-clause-value c)) apart

pub returns-clause-few : goal.returns-clause-few
returns-clause-few c =
    let few = drawn_few c.args.seed c.args.clients c.args.ops c.args.blocks c.requires.some c.requires.most c.requires.ops c.requires.blocks in
    subst (λ (rows : List (List Asked)). AreFew rows) (sym (returns-clause-value c)) few
