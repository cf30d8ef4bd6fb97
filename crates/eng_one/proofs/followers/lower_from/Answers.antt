use Rattle.std.proofs.Common.{◌≡◌, ◌≢◌, ℕ, ◌+◌, ◌-◌, ◌<◌, ◌≤◌, ap, sym, ◌∙◌, refl, arith, length, slice_index_or, List}
use Rattle.std.specs.Prelude.{◌==◌}
use Rattle.std.proofs.Math.ListN.{length-set}
use Rattle.std.proofs.lemmas.Bool.{cond-true, eq-eqb}
use Rattle.graph_mean.specs.Fewest.{one_if}
use Rattle.eng_one.specs.Followers.{names_from}
use Rattle.eng_one.specs.Counts.{times}
use Rattle.eng_one.proofs.Chains.{times-first, set-lowered, names-none}
use Rattle.eng_one.proofs.followers.lower_from.Goals as goal

-- the first node of what is left of the list still waits
still-some : (next names unmet old : List ℕ) (first at n : ℕ) → n ≡ slice_index_or names (at - 1) 0 → ((e : ℕ) → slice_index_or next e 0 ≤ e) → at ≢ 0 → slice_index_or unmet n 0 + times n (names_from next names first) ≡ slice_index_or old n 0 + times n (names_from next names at) → times n (names_from next names first) ≤ slice_index_or old n 0 → 0 < slice_index_or unmet n 0
still-some next names unmet old first at n is down some count fits =
    let here = times-first next names down at some n in
    let one : one_if (slice_index_or names (at - 1) 0 == n) ≡ 1 = cond-true (slice_index_or names (at - 1) 0 == n) 1 0 (eq-eqb (slice_index_or names (at - 1) 0) n (sym is)) in
    omega (arith, here, one, count, fits)

pub lower_one-requires-clause-fits : goal.lower_one-requires-clause-fits
lower_one-requires-clause-fits c =
    let n = slice_index_or c.args.names.now (c.loop-at.at - 1) 0 in
    still-some c.args.next.now c.args.names.now c.loop-at.unmet c.args.unmet.now c.args.first c.loop-at.at n refl c.requires.linked c.loop-at-test.true (c.loop-at.invariant.counts n) (c.requires.fits n)

pub loop-at-preserved : goal.loop-at-preserved
loop-at-preserved c =
    let next = c.args.next.now in
    let names = c.args.names.now in
    let at = c.loop-at.at in
    let n = slice_index_or names (at - 1) 0 in
    let some = still-some next names c.loop-at.unmet c.args.unmet.now c.args.first at n refl c.requires.linked c.loop-at-test.true (c.loop-at.invariant.counts n) (c.requires.fits n) in
    record {
      link = let d = c.requires.linked (at - 1) in omega (arith, d, c.loop-at.invariant.link);
      counts = λ k.
          let first = times-first next names c.requires.linked at c.loop-at-test.true k in
          let count = c.loop-at.invariant.counts k in
          let set = set-lowered c.loop-at.unmet n k some in
          let new = ap (λ (xs : List ℕ). slice_index_or xs k 0) c.lower_one.ensures.counts in
          omega (arith, first, count, set, new);
      all = ap length c.lower_one.ensures.counts ∙ length-set c.loop-at.unmet n (slice_index_or c.loop-at.unmet n 0 - 1) ∙ c.loop-at.invariant.all;
      ready = c.lower_one.ensures.ready;
    }

pub returns-clause-counts : goal.returns-clause-counts
returns-clause-counts c k =
    let count = c.loop-at.invariant.counts k in
    let none : times k (names_from c.args.next.now c.args.names.now c.loop-at.at) ≡ 0 = ap (λ (z : ℕ). times k (names_from c.args.next.now c.args.names.now z)) c.loop-at-test.false ∙ ap (times k) (names-none c.args.next.now c.args.names.now) in
    omega (arith, count, none)
