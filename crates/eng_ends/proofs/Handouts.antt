-- What a read's returns are the reply for, and what the world is handed.
use Rattle.std.proofs.Common.{◌≡◌, ℕ, zero, suc, ◌<◌, ◌≤◌, ◌+◌, ◌⊎◌, List, [], ◌∷◌, length, get_or, subst, sym, ap, ◌∙◌, arith, inl, inr, refl, true, Option, Some}
use Rattle.std.specs.Prelude.{nat_le, nat_lt, slice_index}
use Rattle.std.proofs.lemmas.Bool.{cases_Bool, cases_lt, ltb-true, leb-true, eqb-true, lt-ltb, le-leb, eq-eqb, and_parts, and_from, cond-true, cond-false}
use Rattle.std.proofs.lemmas.List.Elements.{All-get_or}
use Rattle.blk_plain.specs.declared.op.Op.{Op}
use Rattle.blk_plain.specs.declared.op.Op.TheVariants as op
use Rattle.blk_plain.specs.declared.op.Span.{Span}
use Rattle.buf_pool.specs.Pool as pool
use Rattle.lay_core.specs.Layout.{Shape, IsLayout, data_units, block_of}
use Rattle.lay_core.specs.Layout as layout
use Rattle.lay_core.proofs.Numbering.{block_of-one_to_one, stripe_of-block_of, unit_of-block_of, offset_of-block_of, block_of-home}
use Rattle.graph_mean.specs.declared.graph.Ret.{Ret}
use Rattle.graph_mean.specs.Graph.{Held, View, buf_at, ret_at}
use Rattle.graph_mean.specs.Task as task
use Rattle.graph_mean.specs.Task.{missing_of}
use Rattle.graph_mean.specs.Steps.{Covers, stripe_of}
use Rattle.graph_mean.specs.Refusals.{Returns}
use Rattle.graph_mean.specs.Ordered.{IsReturn}
use Rattle.eng_world.specs.declared.item.Item.TheVariants as item
use Rattle.eng_world.specs.Planning.{touches}
use Rattle.eng_clients.specs.Desk.{Desk, item_at}
use Rattle.eng_state.specs.Sound.{RunsWell}
use Rattle.eng_ends.specs.Copied.{block_at, sector_for, hits, picked}

module _ (y : Shape) (graphs : List Held) (p : pool.PoolView) (d : Desk) (law : IsLayout y) (w : RunsWell y graphs p d) (span : Span) (file : Option ℕ) (is : item_at d ≡ Some (item.Run (op.Read span) file)) where
  abbrev g : View
  g = d.run.graph

  pub op-is : w.op ≡ op.Read span
  op-is = let z : Some (item.Run w.op d.file) ≡ Some (item.Run (op.Read span) file) = sym w.item ∙ is in let e : w.op ≡ op.Read span = cc in e

  pub ret-fits : (k : ℕ) → k < length g.rets → IsReturn g d.task (missing_of d.missing) (ret_at g k)
  ret-fits k lt = All-get_or (IsReturn g d.task (missing_of d.missing)) g.rets k (record { unit = 0; buf = 0 }) lt w.accepted.3.returned

  pub data-units : task.data_units d.task ≡ data_units y
  data-units = let a = w.task.width in let b = w.task.checks in omega (arith, a, b)

  pub unit-below : (k : ℕ) → k < length g.rets → (ret_at g k).unit < data_units y
  unit-below k lt = let f = (ret-fits k lt).unit in let e = data-units in omega (arith, f, e)

  pub offset-below : (k o : ℕ) → k < length g.rets → Covers g (ret_at g k).buf o → o < y.unit_sectors
  offset-below k o lt co = let f = (ret-fits k lt).buf.within in let e = w.task.unit_sectors in let hi = co.1 in omega (arith, f, e, hi)

  ret-of : (k o : ℕ) → k < length g.rets → Covers g (ret_at g k).buf o → Returns g k (stripe_of g (ret_at g k).buf) (ret_at g k).unit o
  ret-of k o lt co = record { below = lt; unit = refl; stripe = refl; covers = co }

  -- its blocks are the span's
  pub in-span : (k o : ℕ) → k < length g.rets → Covers g (ret_at g k).buf o → (span.first ≤ block_at y d (ret_at g k) o) × (block_at y d (ret_at g k) o < span.first + span.count)
  in-span k o lt co =
      let r = ret_at g k in
      let q = stripe_of g r.buf in
      let asked = (and_parts _ _ (w.accepted.3.wanted k q r.unit o (ret-of k o lt co))).1 in
      let touched : touches (op.Read span) (block_at y d r o) ≡ true = sym (ap (λ (a : Op). touches a (block_at y d r o)) op-is) ∙ (sym (w.task.touched q r.unit o (ret-fits k lt).buf.stripe (unit-below k lt) (offset-below k o lt co)) ∙ asked) in
      let both = and_parts (nat_le span.first (block_at y d r o)) (nat_lt (block_at y d r o) (span.first + span.count)) touched in
      (leb-true _ _ both.0, ltb-true _ _ both.1)

  stripes-one : (q r : ℕ) → q < d.task.stripes → r < d.task.stripes → slice_index d.map.stripes q ≡ slice_index d.map.stripes r → q ≡ r
  stripes-one q r hq hr e = elim (cases_lt q r) [
    | inl lt ↦ let a = w.task.ascend q r lt hr in absurd (omega (arith, a, e))
    | inr ge ↦ elim (cases_lt r q) [
      | inl lt ↦ let a = w.task.ascend r q lt hq in absurd (omega (arith, a, e))
      | inr le ↦ omega (arith, ge, le)
    ]
  ]

  -- no block has two
  pub one-return : (j k o u : ℕ) → j < length g.rets → k < length g.rets → Covers g (ret_at g j).buf o → Covers g (ret_at g k).buf u → block_at y d (ret_at g j) o ≡ block_at y d (ret_at g k) u → j ≡ k
  one-return j k o u hj hk cj ck e =
      let a = ret_at g j in let b = ret_at g k in
      let same = block_of-one_to_one y law (slice_index d.map.stripes (stripe_of g a.buf)) (slice_index d.map.stripes (stripe_of g b.buf)) a.unit b.unit o u (unit-below j hj) (unit-below k hk) (offset-below j o hj cj) (offset-below k u hk ck) e in
      let stripes = stripes-one (stripe_of g a.buf) (stripe_of g b.buf) (ret-fits j hj).buf.stripe (ret-fits k hk).buf.stripe same.0 in
      w.accepted.3.covered_once j k (stripe_of g a.buf) a.unit o (ret-of j o hj cj)
      (record { below = hk; unit = sym same.1; stripe = sym stripes; covers = subst (λ (m : ℕ). Covers g b.buf m) (sym same.2) ck })

  pub one-place : (first j k o u : ℕ) → j < length g.rets → k < length g.rets → Covers g (ret_at g j).buf o → Covers g (ret_at g k).buf u → sector_for y d span first (ret_at g j) o ≡ sector_for y d span first (ret_at g k) u → j ≡ k
  one-place first j k o u hj hk cj ck e =
      let a = in-span j o hj cj in let b = in-span k u hk ck in
      one-return j k o u hj hk cj ck (omega (arith, e, a.0, b.0))

  -- ## Which return hits a block

  pub hit-covers : (k block : ℕ) → k < length g.rets → hits y d (ret_at g k) block ≡ true → Covers g (ret_at g k).buf (layout.offset_of y block) × (block_at y d (ret_at g k) (layout.offset_of y block) ≡ block)
  hit-covers k block lt hit =
      let r = ret_at g k in
      let one = and_parts _ _ hit in
      let two = and_parts _ _ one.1 in
      let three = and_parts _ _ two.1 in
      let stripe = eqb-true _ _ one.0 in
      let unit = eqb-true _ _ two.0 in (
        (leb-true _ _ three.0, ltb-true _ _ three.1),
        ap (λ (s : ℕ). block_of y s r.unit (layout.offset_of y block)) stripe ∙ (ap (λ (i : ℕ). block_of y (layout.stripe_of y block) i (layout.offset_of y block)) unit ∙ block_of-home y law block),
      )

  pub covers-hit : (k o block : ℕ) → k < length g.rets → Covers g (ret_at g k).buf o → block_at y d (ret_at g k) o ≡ block → (hits y d (ret_at g k) block ≡ true) × (layout.offset_of y block ≡ o)
  covers-hit k o block lt co e =
      let r = ret_at g k in
      let s = slice_index d.map.stripes (stripe_of g r.buf) in
      let at : layout.offset_of y block ≡ o = sym (ap (layout.offset_of y) e) ∙ offset_of-block_of y law s r.unit o (offset-below k o lt co) in (
        and_from _ _ (eq-eqb _ _ (sym (stripe_of-block_of y law s r.unit o (unit-below k lt) (offset-below k o lt co)) ∙ ap (layout.stripe_of y) e))
            (and_from _ _ (eq-eqb _ _ (sym (unit_of-block_of y law s r.unit o (unit-below k lt) (offset-below k o lt co)) ∙ ap (layout.unit_of y) e))
            (and_from _ _ (le-leb (buf_at g r.buf).from (layout.offset_of y block) (let lo = co.0 in omega (arith, lo, at))) (lt-ltb (layout.offset_of y block) ((buf_at g r.buf).from + (buf_at g r.buf).count) (let hi = co.1 in omega (arith, hi, at))))),
        at,
      )

  pub hit-one : (j k block : ℕ) → j < length g.rets → k < length g.rets → hits y d (ret_at g j) block ≡ true → hits y d (ret_at g k) block ≡ true → j ≡ k
  hit-one j k block hj hk a b =
      let x = hit-covers j block hj a in let z = hit-covers k block hk b in
      one-return j k (layout.offset_of y block) (layout.offset_of y block) hj hk x.0 z.0 (x.1 ∙ sym z.1)

-- ## What is picked

abbrev pub no_ret : Ret
no_ret = record { unit = 0; buf = 0 }

module _ (y : Shape) (d : Desk) (buf : ℕ → ℕ → ℕ → ℕ) (block k byte : ℕ) where
  -- the byte of the one return that hits the block
  pub picked-one : (rets : List Ret) (n : ℕ) → n < length rets → hits y d (get_or rets n no_ret) block ≡ true → ((j : ℕ) → j < length rets → hits y d (get_or rets j no_ret) block ≡ true → j ≡ n) → picked y d buf rets block k byte ≡ buf (get_or rets n no_ret).buf (layout.offset_of y block) k
  unfolding picked
  picked-one [] n lt hit only = absurd (omega (arith, lt))
  picked-one (x ∷ rets) zero lt hit only = cond-true (hits y d x block) _ _ hit
  picked-one (x ∷ rets) (suc n) lt hit only = elim (cases_Bool (hits y d x block)) [
    | inl here ↦ let e = only zero (omega arith) here in absurd (omega (arith, e))
    | inr none ↦ cond-false (hits y d x block) _ _ none ∙ picked-one rets n (omega (arith, lt)) hit (λ j less h. let e = only (suc j) (omega (arith, less)) h in omega (arith, e))
  ]

  -- that of some return that hits it, or the one given
  pub picked-some : (rets : List Ret) → (picked y d buf rets block k byte ≡ byte) ⊎ ((n : ℕ) × (n < length rets) × (hits y d (get_or rets n no_ret) block ≡ true) × (picked y d buf rets block k byte ≡ buf (get_or rets n no_ret).buf (layout.offset_of y block) k))
  unfolding picked
  picked-some [] = inl refl
  picked-some (x ∷ rets) = elim (cases_Bool (hits y d x block)) [
    | inl here ↦ inr (zero, omega arith, here, cond-true (hits y d x block) _ _ here)
    | inr none ↦ elim (picked-some rets) [
      | inl e ↦ inl (cond-false (hits y d x block) _ _ none ∙ e)
      | inr e ↦ inr (suc e.0, let lt = e.1 in omega (arith, lt), e.2, cond-false (hits y d x block) _ _ none ∙ e.3)
    ]
  ]
