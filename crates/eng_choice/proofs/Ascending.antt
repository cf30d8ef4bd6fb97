-- How many stripes a task has: tasks of one operation have as many, since each lists its stripes in ascending order.
use Rattle.std.proofs.Common.{◌≡◌, ℕ, zero, suc, ◌<◌, ◌≤◌, ◌-◌, ap, arith, inl, inr}
use Rattle.std.proofs.lemmas.Bool.{cases_lt}
use Rattle.blk_plain.specs.declared.op.Op.{Op}
use Rattle.lay_core.specs.Layout.{Shape}
use Rattle.eng_world.specs.World.{Plan}
use Rattle.eng_world.specs.Planning.{IsTaskOf}

-- numbers in ascending order that are all among others in ascending order are no more than those
module _ (f g : ℕ → ℕ) (n k : ℕ) (up : (q r : ℕ) → q < r → r < n → f q < f r) (above : (q r : ℕ) → q < r → r < k → g q < g r) (has : (q : ℕ) → q < n → (j : ℕ) × (j < k) × (g j ≡ f q)) where
  no-earlier : (q : ℕ) → q < n → (j : ℕ) → j < k → g j ≡ f q → q ≤ j
  no-earlier zero h j l e = omega arith
  no-earlier (suc q) h j l e =
      let i = has q (omega (arith, h)) in
      let less = no-earlier q (omega (arith, h)) i.0 i.1 i.2 in
      let step = up q (suc q) (omega arith) h in
      let is = i.2 in
      elim (cases_lt i.0 j) [
        | inl lt ↦ omega (arith, less, lt)
        | inr ge ↦ elim (cases_lt j i.0) [
          | inl lt ↦ let b = above j i.0 lt i.1 in absurd (let u : ⊥ = omega (arith, b, e, is, step) in u)
          | inr le ↦ let same : i.0 ≡ j = omega (arith, ge, le) in let v = ap g same in absurd (let u : ⊥ = omega (arith, v, e, is, step) in u)
        ]
      ]

  no-more : n ≤ k
  no-more = elim (cases_lt 0 n) [
    | inl some ↦
        let l : n - 1 < n = omega (arith, some) in
        let j = has (n - 1) l in
        let b = no-earlier (n - 1) l j.0 j.1 j.2 in
        let w = j.1 in
        omega (arith, b, w, some)
    | inr none ↦ omega (arith, none)
  ]

module _ (y : Shape) (op : Op) where
  few : (p q : Plan) → IsTaskOf y op p → IsTaskOf y op q → p.task.stripes ≤ q.task.stripes
  few p q mine theirs = no-more p.stripe q.stripe p.task.stripes q.task.stripes mine.ascend theirs.ascend (λ k l. let s = mine.stripes k l in theirs.all (p.stripe k) s.0 s.1)

  pub same-count : (p q : Plan) → IsTaskOf y op p → IsTaskOf y op q → p.task.stripes ≡ q.task.stripes
  same-count p q mine theirs = let a = few p q mine theirs in let b = few q p theirs mine in omega (arith, a, b)
