use Rattle.std.proofs.Common.{◌≡◌, ℕ, ◌+◌, ◌<◌, ◌∙◌, ◌++◌, ◌∷◌, [], inl, inr, List, All, ap, sym, subst, arith, length, slice_index_or}
use Rattle.std.specs.Prelude.{◌==◌, nat_lt}
use Rattle.std.proofs.lemmas.Bool.{cases_eq, cond-false, le-ltb}
use Rattle.std.proofs.lemmas.List.{get_or_past, length_push}
use Rattle.std.proofs.lemmas.List.Sums.{sum_by_more}
use Rattle.graph_mean.specs.Graph.{Vertex, vertex_at}
use Rattle.graph_mean.proofs.Words.{no_vertex}
use Rattle.eng_one.specs.Bits.{has}
use Rattle.eng_one.specs.Followers.{followers_in}
use Rattle.eng_one.specs.Counts.{times}
use Rattle.eng_one.proofs.Counted.{entered, all-entered, all-named}
use Rattle.eng_one.proofs.Begun.{pushed-here, pushed-other, one-more}
use Rattle.eng_one.proofs.beginning.begin_all.Goals as goal

pub loop-n-init : goal.loop-n-init
loop-n-init c = record {
  lists = λ a k. ap (times k) (c.requires.bare.none a) ∙ sym (cond-false (nat_lt k 0) (times a (vertex_at c.args.graph.now.drawn k).antes) 0 (le-ltb k 0 (omega arith)));
  nodes = c.requires.bare.nodes;
  entries = c.requires.bare.entries;
  long = ap length c.clear.ensures.items;
  counts = λ k l. absurd (omega (arith, l));
  room = let e = c.clear.ensures.capacity in omega (arith, e);
  ready = λ k. c.clear-2.ensures k ∙ sym (ap (λ xs. slice_index_or xs k 1 == 0) c.clear.ensures.items ∙ ap (λ (x : ℕ). x == 0) (get_or_past [] k 1 (omega arith)));
}

pub append-requires : goal.append-requires
append-requires c = let l = c.loop-n.invariant.long in let r = c.loop-n.invariant.room in let m = c.requires.room in let t = c.loop-n-test.true in let e = c.nodes-n-end.ensures in omega arith

pub enter-requires-clause-nodes : goal.enter-requires-clause-nodes
enter-requires-clause-nodes c =
    let m = length c.loop-n.followers.first in
    subst (λ (xs : List ℕ). All (λ a. a < m) xs) (sym c.antes-antes.ensures) (all-named c.args.graph.now.drawn c.loop-n.n m c.requires.can c.loop-n.invariant.nodes)

-- the count of one node more
more-counts : (f : ℕ → ℕ) (xs ys : List ℕ) (x n : ℕ) → length xs ≡ n → ys ≡ xs ++ x ∷ [] → x ≡ f n → ((k : ℕ) → k < n → slice_index_or xs k 0 ≡ f k) → (k : ℕ) → k < n + 1 → slice_index_or ys k 0 ≡ f k
more-counts f xs ys x n long more is before k l = elim (cases_eq k n) [
  | inl e ↦ ap (λ zs. slice_index_or zs k 0) more ∙ pushed-here xs x k 0 (e ∙ sym long) ∙ is ∙ ap f (sym e)
  | inr apart ↦ ap (λ zs. slice_index_or zs k 0) more ∙ pushed-other xs x k 0 (λ e. apart (e ∙ long)) ∙ before k (omega (arith, l, apart))
]

pub loop-n-preserved : goal.loop-n-preserved
loop-n-preserved c =
    let g = c.args.graph.now.drawn in
    let n = c.loop-n.n in
    let xs = c.loop-n.unmet.items in
    let i = c.loop-n.invariant in
    let count : ℕ = length c.antes-antes.result.now in
    let is : count ≡ length (vertex_at g n).antes = ap length c.antes-antes.ensures in
    record {
      lists = λ a k. entered (λ (j : ℕ). times a (vertex_at g j).antes) n k (times k (followers_in c.loop-n.followers a)) (times a c.antes-antes.result.now) (times k (followers_in c.enter.new.self a)) (i.lists a k) (ap (times a) c.antes-antes.ensures) (c.enter.ensures.lists a k);
      nodes = c.enter.ensures.nodes ∙ i.nodes;
      entries =
          let more = sum_by_more (λ (v : Vertex). length v.antes) g.nodes n no_vertex (omega (arith, c.loop-n-test.true, c.nodes-n-end.ensures)) in
          let here = ap length c.antes-antes.ensures in
          omega (arith, more, here, c.enter.ensures.entries, i.entries);
      long = let p = ap length c.append.ensures.items ∙ length_push xs count in omega (arith, p, i.long);
      counts = more-counts (λ k. length (vertex_at g k).antes) xs c.append.new.items.items count n i.long c.append.ensures.items is i.counts;
      room = omega (arith, c.append.ensures.room, i.room);
      ready = one-more xs c.append.new.items.items count n i.long c.append.ensures.items (has c.loop-n.ready) (has c.insert_if_none.new.ready) i.ready c.insert_if_none.ensures;
    }

pub returns-clause-counts : goal.returns-clause-counts
returns-clause-counts c = λ k l. c.loop-n.invariant.counts k (let t = c.loop-n-test.false in let e = c.nodes-n-end.ensures in omega (arith, t, e, l))

pub returns-clause-all : goal.returns-clause-all
returns-clause-all c = λ a k. all-entered c.args.graph.now.drawn c.loop-n.n a k (times k (followers_in c.loop-n.followers a)) (omega (arith, c.loop-n-test.false, c.nodes-n-end.ensures)) (c.loop-n.invariant.lists a k)
