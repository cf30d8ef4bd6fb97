-- The returns of the joined graph are those of both halves.
use Rattle.std.proofs.Common.{◌≡◌, ◌∙◌, inl, inr, ℕ, ◌+◌, ◌-◌, ◌<◌, ◌++◌, length, map, get_or, ap, arith, length-append}
use Rattle.std.proofs.lemmas.Bool.{cases_lt}
use Rattle.std.proofs.lemmas.List.{get_or_append_left, get_or-append_right, get_or-map, length-map}
use Rattle.graph_mean.specs.declared.graph.Ret.{Ret}
use Rattle.graph_mean.specs.Graph.{ret_at}
use Rattle.graph_merge.specs.Joined.{Half, joined, moved_ret}
use Rattle.graph_merge.proofs.Valued.{JoinsRets}

module _ (a b : Half) (shift : ℕ) where
  abbrev none : Ret
  none = record { unit = 0; buf = 0 }

  first_count : length (map (moved_ret 0) a.graph.rets) ≡ length a.graph.rets
  first_count = length-map a.graph.rets (moved_ret 0)

  second_count : length (map (moved_ret (length a.graph.bufs)) b.graph.rets) ≡ length b.graph.rets
  second_count = length-map b.graph.rets (moved_ret (length a.graph.bufs))

  pub ret_count : length (joined a b shift).rets ≡ length a.graph.rets + length b.graph.rets
  unfolding joined
  ret_count =
      let l = first_count in
      let r = second_count in
      let both = length-append (map (moved_ret 0) a.graph.rets) (map (moved_ret (length a.graph.bufs)) b.graph.rets) in
      omega arith

  first_ret : (k : ℕ) → k < length a.graph.rets → ret_at (joined a b shift) (k + 0) ≡ moved_ret 0 (ret_at a.graph k)
  unfolding joined
  first_ret k h =
      let l = first_count in
      let same : k + 0 ≡ k = omega arith in
      ap (λ (i : ℕ). get_or (map (moved_ret 0) a.graph.rets ++ map (moved_ret (length a.graph.bufs)) b.graph.rets) i none) same
      ∙ (get_or_append_left (map (moved_ret 0) a.graph.rets) (map (moved_ret (length a.graph.bufs)) b.graph.rets) none k (omega arith) ∙ get_or-map (moved_ret 0) a.graph.rets k none none h)

  second_ret : (k : ℕ) → k < length b.graph.rets → ret_at (joined a b shift) (k + length a.graph.rets) ≡ moved_ret (length a.graph.bufs) (ret_at b.graph k)
  unfolding joined
  second_ret k h =
      let l = first_count in
      let back : k + length a.graph.rets - length a.graph.rets ≡ k = omega arith in
      get_or-append_right (map (moved_ret 0) a.graph.rets) (map (moved_ret (length a.graph.bufs)) b.graph.rets) (length a.graph.rets) (k + length a.graph.rets) none l (omega arith)
      ∙ (ap (λ (i : ℕ). get_or (map (moved_ret (length a.graph.bufs)) b.graph.rets) i none) back ∙ get_or-map (moved_ret (length a.graph.bufs)) b.graph.rets k none none h)

  pub joins_rets : JoinsRets a.graph b.graph (joined a b shift) (length a.graph.bufs)
  joins_rets = record {
    first = record { ret_in = λ k h. let l = ret_count in omega arith; ret = first_ret };
    second = record { ret_in = λ k h. let l = ret_count in omega arith; ret = second_ret };
    cover = λ k h. elim (cases_lt k (length a.graph.rets)) [
      | inl l ↦ inl (k, l, omega arith)
      | inr g ↦ inr (k - length a.graph.rets, (let c = ret_count in omega arith), omega arith)
    ];
  }
