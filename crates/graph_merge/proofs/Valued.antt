-- A joined graph has its values where both halves have theirs.
use Rattle.std.proofs.Common.{◌≡◌, ◌⊎◌, ◌∙◌, inl, inr, ℕ, ◌+◌, ◌<◌, true, length, sym, ap, subst, arith}
use Rattle.std.specs.Prelude.{All}
use Rattle.std.proofs.lemmas.List.{get_or_default}
use Rattle.graph_mean.specs.declared.graph.Ret.{Ret}
use Rattle.graph_mean.specs.Graph.{View, ret_at}
use Rattle.graph_mean.specs.Task.{Aim, Missing, is_that, is_rebuild_of, is_wanted, has_equation, due}
use Rattle.graph_mean.specs.Steps.{Writes, stripe_of}
use Rattle.graph_mean.specs.Atomic.{IsSector}
use Rattle.graph_mean.specs.Refusals.{Leaves, Returns, same_on}
use Rattle.graph_mean.specs.Ordered.{IsOrdered, IsReturn, HasValues}
use Rattle.graph_merge.proofs.Carry
use Rattle.graph_merge.proofs.Ordering.{Joins, ordered, wrote_a, wrote_b}
use Rattle.graph_merge.proofs.Valuing
use Rattle.graph_merge.proofs.Valuing.{RetsEmbed}

-- the returns of a joined graph are those of both halves
pub record JoinsRets (a b out : View) (split : ℕ) : Type 0 where
  pub first : RetsEmbed a out 0 0
  pub second : RetsEmbed b out split (length a.rets)
  pub cover : (k : ℕ) → k < length out.rets → ((n : ℕ) × (n < length a.rets) × (k ≡ n + 0)) ⊎ ((n : ℕ) × (n < length b.rets) × (k ≡ n + length a.rets))

module _ (a b out : View) (ca ea cb eb c e : ℕ) (pa pb : ℕ → ℕ) (split shift : ℕ) (j : Joins a b out ca ea cb eb c e pa pb split shift) (rets : JoinsRets a b out split)
    (ta tb tj : Aim) (ma mb mj : Missing) (sa : Carry.Side ta tj ma mj 0) (sb : Carry.Side tb tj mb mj shift) (edge : ta.stripes ≡ shift)
    (halves : (s : ℕ) → s < tj.stripes → ((r : ℕ) × (r < ta.stripes) × (s ≡ r + 0)) ⊎ ((r : ℕ) × (r < tb.stripes) × (s ≡ r + shift)))
    (oka : IsOrdered a ta ma ca ea) (okb : IsOrdered b tb mb cb eb) (va : HasValues a ta ma) (vb : HasValues b tb mb) where
  whole : IsOrdered out tj mj c e
  whole = ordered a b out ca ea cb eb c e pa pb split shift j ta tb tj ma mb mj sa sb edge oka okb

  -- a stripe of a half is written and returned by this half alone
  own_a : (n s i o : ℕ) → s < ta.stripes → Writes out n (s + 0) i o → (f : ℕ) × (f < length a.nodes) × (n ≡ pa f)
  own_a n s i o h w = elim (j.cover n w.0) [
    | inl f ↦ f
    | inr f ↦ let q = wrote_b a b out ca ea cb eb c e pa pb split shift j ta tb tj ma mb mj sa sb edge oka okb n f.0 (s + 0) i o f.1 f.2 w in let z = q.1 in absurd (omega arith)
  ]

  own_b : (n s i o : ℕ) → s < tb.stripes → Writes out n (s + shift) i o → (f : ℕ) × (f < length b.nodes) × (n ≡ pb f)
  own_b n s i o h w = elim (j.cover n w.0) [
    | inl f ↦ let q = wrote_a a b out ca ea cb eb c e pa pb split shift j ta tb tj ma mb mj sa sb edge oka okb n f.0 (s + shift) i o f.1 f.2 w in let z = q.1 in let l = q.2 in absurd (omega arith)
    | inr f ↦ f
  ]

  stripe_a : (k : ℕ) → k < length a.rets → (r : ℕ) × (r < ta.stripes) × (stripe_of out (ret_at out (k + 0)).buf ≡ r + 0)
  stripe_a k h =
      let right = va.returned k (record { unit = 0; buf = 0 }) h in
      (stripe_of a (ret_at a k).buf, right.buf.stripe, ap (λ (r : Ret). stripe_of out r.buf) (rets.first.ret k h) ∙ Carry.stripe_out a out ca ea pa 0 0 j.first (ret_at a k).buf right.buf.below)

  stripe_b : (k : ℕ) → k < length b.rets → (r : ℕ) × (r < tb.stripes) × (stripe_of out (ret_at out (k + length a.rets)).buf ≡ r + shift)
  stripe_b k h =
      let right = vb.returned k (record { unit = 0; buf = 0 }) h in
      (stripe_of b (ret_at b k).buf, right.buf.stripe, ap (λ (r : Ret). stripe_of out r.buf) (rets.second.ret k h) ∙ Carry.stripe_out b out cb eb pb split shift j.second (ret_at b k).buf right.buf.below)

  own_ret_a : (k s i o : ℕ) → s < ta.stripes → Returns out k (s + 0) i o → (f : ℕ) × (f < length a.rets) × (k ≡ f + 0)
  own_ret_a k s i o h r = elim (rets.cover k r.below) [
    | inl f ↦ f
    | inr f ↦ let q = stripe_b f.0 f.1 in let x = q.2 in let y = ap (λ (n : ℕ). stripe_of out (ret_at out n).buf) f.2 in let z = r.stripe in absurd (omega arith)
  ]

  own_ret_b : (k s i o : ℕ) → s < tb.stripes → Returns out k (s + shift) i o → (f : ℕ) × (f < length b.rets) × (k ≡ f + length a.rets)
  own_ret_b k s i o h r = elim (rets.cover k r.below) [
    | inl f ↦ let q = stripe_a f.0 f.1 in let l = q.1 in let x = q.2 in let y = ap (λ (n : ℕ). stripe_of out (ret_at out n).buf) f.2 in let z = r.stripe in absurd (omega arith)
    | inr f ↦ f
  ]

  -- what is so of each stripe of both halves is so of each stripe
  by_halves : (P : ℕ → Type 0) → ((r : ℕ) → r < ta.stripes → P (r + 0)) → ((r : ℕ) → r < tb.stripes → P (r + shift)) → (s : ℕ) → s < tj.stripes → P s
  by_halves P first second s h = elim (halves s h) [
    | inl r ↦ subst P (sym r.2) (first r.0 r.1)
    | inr r ↦ subst P (sym r.2) (second r.0 r.1)
  ]

  left : (s i o x : ℕ) → IsSector tj s i o → (is_that (mj s) i ≡ true → is_rebuild_of tj.kind i ≡ true) → Leaves out s i o x → same_on (has_equation tj mj s) tj.width x (due tj s i o) ≡ true
  left s i o x sector = by_halves (λ s'. IsSector tj s' i o → (is_that (mj s') i ≡ true → is_rebuild_of tj.kind i ≡ true) → Leaves out s' i o x → same_on (has_equation tj mj s') tj.width x (due tj s' i o) ≡ true)
      (λ r h. Valuing.left_out a out ca ea pa 0 0 0 j.first rets.first ta tj ma mj c e sa oka whole va own_a own_ret_a r i o x h)
      (λ r h. Valuing.left_out b out cb eb pb split shift (length a.rets) j.second rets.second tb tj mb mj c e sb okb whole vb own_b own_ret_b r i o x h)
      s sector.stripe sector

  rebuilt : (s i o : ℕ) → IsSector tj s i o → is_that (mj s) i ≡ true → is_rebuild_of tj.kind i ≡ true → (n : ℕ) × Writes out n s i o
  rebuilt s i o sector = by_halves (λ s'. IsSector tj s' i o → is_that (mj s') i ≡ true → is_rebuild_of tj.kind i ≡ true → (n : ℕ) × Writes out n s' i o)
      (λ r h. Valuing.rebuilt_out a out ca ea pa 0 0 0 j.first rets.first ta tj ma mj c e sa oka whole va own_a own_ret_a r i o h)
      (λ r h. Valuing.rebuilt_out b out cb eb pb split shift (length a.rets) j.second rets.second tb tj mb mj c e sb okb whole vb own_b own_ret_b r i o h)
      s sector.stripe sector

  return_at : (k : ℕ) → k < length out.rets → IsReturn out tj mj (ret_at out k)
  return_at k h = elim (rets.cover k h) [
    | inl f ↦ subst (λ (n : ℕ). IsReturn out tj mj (ret_at out n)) (sym f.2) (Valuing.return_out a out ca ea pa 0 0 0 j.first rets.first ta tj ma mj c e sa oka whole va own_a own_ret_a f.0 f.1)
    | inr f ↦ subst (λ (n : ℕ). IsReturn out tj mj (ret_at out n)) (sym f.2) (Valuing.return_out b out cb eb pb split shift (length a.rets) j.second rets.second tb tj mb mj c e sb okb whole vb own_b own_ret_b f.0 f.1)
  ]

  returned : All (IsReturn out tj mj) out.rets
  returned k d h = subst (IsReturn out tj mj) (get_or_default out.rets k (record { unit = 0; buf = 0 }) d h) (return_at k h)

  covered : (s i o : ℕ) → IsSector tj s i o → is_wanted tj s i o ≡ true → (k : ℕ) × Returns out k s i o
  covered s i o sector = by_halves (λ s'. IsSector tj s' i o → is_wanted tj s' i o ≡ true → (k : ℕ) × Returns out k s' i o)
      (λ r h. Valuing.covered_out a out ca ea pa 0 0 0 j.first rets.first ta tj ma mj c e sa oka whole va own_a own_ret_a r i o h)
      (λ r h. Valuing.covered_out b out cb eb pb split shift (length a.rets) j.second rets.second tb tj mb mj c e sb okb whole vb own_b own_ret_b r i o h)
      s sector.stripe sector

  -- a return is of a stripe of the task
  ret_below : (k s i o : ℕ) → Returns out k s i o → s < tj.stripes
  ret_below k s i o r = let right = return_at k r.below in let l = right.buf.stripe in let z = r.stripe in omega arith

  covered_once : (m k s i o : ℕ) → Returns out m s i o → Returns out k s i o → m ≡ k
  covered_once m k s i o r = by_halves (λ s'. Returns out m s' i o → Returns out k s' i o → m ≡ k)
      (λ q h. Valuing.once_out a out ca ea pa 0 0 0 j.first rets.first ta tj ma mj c e sa oka whole va own_a own_ret_a m k q i o h)
      (λ q h. Valuing.once_out b out cb eb pb split shift (length a.rets) j.second rets.second tb tj mb mj c e sb okb whole vb own_b own_ret_b m k q i o h)
      s (ret_below m s i o r) r

  wanted : (k s i o : ℕ) → Returns out k s i o → is_wanted tj s i o ≡ true
  wanted k s i o r = by_halves (λ s'. Returns out k s' i o → is_wanted tj s' i o ≡ true)
      (λ q h. Valuing.wanted_out a out ca ea pa 0 0 0 j.first rets.first ta tj ma mj c e sa oka whole va own_a own_ret_a k q i o h)
      (λ q h. Valuing.wanted_out b out cb eb pb split shift (length a.rets) j.second rets.second tb tj mb mj c e sb okb whole vb own_b own_ret_b k q i o h)
      s (ret_below k s i o r) r

  pub values : HasValues out tj mj
  values = record {
    left = left;
    rebuilt = rebuilt;
    returned = returned;
    covered = covered;
    covered_once = covered_once;
    wanted = wanted;
  }
