-- The formal sums of a half's buffers are the same in the joined graph.
use Rattle.std.proofs.Common.{◌≡◌, ◌≢◌, ◌∙◌, inl, inr, ℕ, zero, suc, ◌+◌, ◌<◌, List, [], ◌∷◌, length, map, refl, sym, ap, subst, arith, Some}
use Rattle.std.specs.Prelude.{bit_xor, Contains}
use Rattle.graph_mean.specs.declared.graph.Node.{Node}
use Rattle.graph_mean.specs.declared.graph.Node.TheVariants.{Rd, Wr, Xor, Cmt, Trm}
use Rattle.graph_mean.specs.Graph.{View, vertex_at, kind_at, buf_at}
use Rattle.graph_mean.specs.Sums.{xor_by}
use Rattle.graph_mean.specs.Task.{Aim, Missing}
use Rattle.graph_mean.specs.Refusals.{Makes, Uses, formal}
use Rattle.graph_mean.specs.Ordered.{IsOrdered}
use Rattle.graph_mean.proofs.Formal
use Rattle.graph_merge.specs.Joined.{moved_kind}
use Rattle.graph_merge.proofs.Carry.{Embeds, new_out}

-- a sum over numbers that are moved up
sum_moved : (up : ℕ) (f h : ℕ → ℕ) (xs : List ℕ) → ((x : ℕ) → Contains xs x → f (x + up) ≡ h x) → xor_by f (map (λ x. x + up) xs) ≡ xor_by h xs
sum_moved up f h [] same = refl
sum_moved up f h (x ∷ xs) same =
    ap (λ y. bit_xor y (xor_by f (map (λ z. z + up) xs))) (same x (0, omega arith, refl))
    ∙ ap (bit_xor (h x)) (sum_moved up f h xs (λ b has. same b (suc has.0, omega arith, has.2)))

module _ (g out : View) (c e : ℕ) (p : ℕ → ℕ) (up shift : ℕ) (emb : Embeds g out c e p up shift)
    (t tj : Aim) (m mj : Missing) (cj ej : ℕ) (ok : IsOrdered g t m c e) (whole : IsOrdered out tj mj cj ej) where
  new_same : (b u : ℕ) → b < length g.bufs → (buf_at g b).new_of ≡ Some u → formal out (b + up) ≡ formal g b
  new_same b u h is = Formal.formal-new out tj mj cj ej whole (b + up) u (new_out g out c e p up shift emb b h ∙ is) ∙ sym (Formal.formal-new g t m c e ok b u is)

  abbrev AreSame : ℕ → Type 0
  AreSame fuel = (n b : ℕ) → n < fuel → n < length g.nodes → Makes (kind_at g n) b → formal out (b + up) ≡ formal g b

  source_same : (fuel n to x : ℕ) → AreSame fuel → n < suc fuel → n < length g.nodes → kind_at g n ≡ Xor to → Contains (vertex_at g n).sources x → formal out (x + up) ≡ formal g x
  source_same fuel n to x rest low h is has = elim (ok.made n x h (subst (λ (k : Node). Uses k (vertex_at g n).sources x) (sym is) has)) [
    | inl u ↦ new_same x u.0 (ok.sources_named n x h has) u.2
    | inr maker ↦ let less : maker.0 < n = Formal.follows-lt g t m c e ok n maker.0 maker.3 in rest maker.0 x (omega arith) maker.1 maker.2
  ]

  made_same : (fuel : ℕ) → AreSame fuel
  made_same zero n b low h k = absurd (omega arith)
  made_same (suc fuel) n b low h k = go (made_same fuel) (kind_at g n) refl k
    where
      go : AreSame fuel → (kind : Node) → kind_at g n ≡ kind → Makes kind b → formal out (b + up) ≡ formal g b
      go rest (Rd u x) is same =
          let here : kind_at g n ≡ Rd u b = is ∙ ap (Rd u) same in
          Formal.formal-read out tj mj cj ej whole (p n) u (b + up) (emb.node_in n h) (emb.kind n h ∙ ap (moved_kind up) here) ∙ sym (Formal.formal-read g t m c e ok n u b h here)
      go rest (Wr u x) is same = absurd same
      go rest (Xor x) is same =
          let here : kind_at g n ≡ Xor b = is ∙ ap Xor same in
          let oc : n ≢ c = λ at. (let z : Xor b ≡ Cmt = sym here ∙ (ap (kind_at g) at ∙ ok.commit.here) in cc) in
          let oe : n ≢ e = λ at. (let z : Xor b ≡ Trm = sym here ∙ (ap (kind_at g) at ∙ ok.end.here) in cc) in
          Formal.formal-xor out tj mj cj ej whole (p n) (b + up) (emb.node_in n h) (emb.kind n h ∙ ap (moved_kind up) here)
          ∙ (ap (xor_by (formal out)) (emb.sources n h oc oe)
          ∙ (sum_moved up (formal out) (formal g) (vertex_at g n).sources (λ y has. source_same fuel n b y rest low h here has)
          ∙ sym (Formal.formal-xor g t m c e ok n b h here)))
      go rest Cmt is same = absurd same
      go rest Trm is same = absurd same

  -- each buffer of the half stands for what it stood for
  pub formal_same : (b : ℕ) → b < length g.bufs → formal out (b + up) ≡ formal g b
  formal_same b h = elim (ok.filled b h) [
    | inl u ↦ new_same b u.0 h u.2
    | inr maker ↦ made_same (suc maker.0) maker.0 b (omega arith) maker.1 maker.2
  ]
