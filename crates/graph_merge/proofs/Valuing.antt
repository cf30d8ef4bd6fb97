-- What is due, left and returned in a half's stripes is the same in the joined graph.
use Rattle.std.proofs.Common.{◌≡◌, ◌∙◌, ℕ, ◌+◌, ◌<◌, ◌==◌, ◌&&◌, nat_lt, Bool, true, if◌then◌else◌, is_some, Option, length, refl, sym, ap, subst, arith}
use Rattle.graph_mean.specs.declared.graph.Node.{Node}
use Rattle.graph_mean.specs.declared.graph.Ret.{Ret}
use Rattle.graph_mean.specs.declared.task.Kind.{Kind}
use Rattle.lay_core.specs.Sums.{xor_below}
use Rattle.graph_mean.specs.Graph.{View, kind_at, ret_at}
use Rattle.graph_mean.specs.Sums.{old_of, new_of}
use Rattle.graph_mean.specs.Task.{Aim, Missing, is_that, is_sync, is_rebuild_of, is_wanted, has_equation, data_units, data_due, due}
use Rattle.graph_mean.specs.Steps.{Writes, Wrote, Covers, stripe_of}
use Rattle.graph_mean.specs.Atomic.{IsSector}
use Rattle.graph_mean.specs.Refusals.{Leaves, by_write, by_none, Returns, same_on, formal}
use Rattle.graph_mean.specs.Ordered.{IsOrdered, IsReturn, HasValues}
use Rattle.graph_mean.proofs.Xor.{below_same}
use Rattle.graph_merge.specs.Joined.{moved_ret}
use Rattle.graph_merge.proofs.Carry
use Rattle.graph_merge.proofs.Summing.{formal_same}

-- the returns of a graph stand in another from a number on
pub record RetsEmbed (g out : View) (up from : ℕ) : Type 0 where
  pub ret_in : (k : ℕ) → k < length g.rets → k + from < length out.rets
  pub ret : (k : ℕ) → k < length g.rets → ret_at out (k + from) ≡ moved_ret up (ret_at g k)

module _ (t tj : Aim) (m mj : Missing) (shift : ℕ) (side : Carry.Side t tj m mj shift) where
  pub units_same : data_units tj ≡ data_units t
  units_same = let w = side.width in let k = side.checks in omega arith

  data_same : (s i o : ℕ) → s < t.stripes → data_due tj (s + shift) o i ≡ data_due t s o i
  data_same s i o h = ap (λ (b : Bool). if b then new_of i else old_of i) (side.written s i o h)

  due_same : (s i o : ℕ) → s < t.stripes → due tj (s + shift) i o ≡ due t s i o
  due_same s i o h =
      ap (λ (n : ℕ). if nat_lt i n then data_due tj (s + shift) o i else xor_below (data_due tj (s + shift) o) n) units_same
      ∙ (ap (λ (x : ℕ). if nat_lt i (data_units t) then x else xor_below (data_due tj (s + shift) o) (data_units t)) (data_same s i o h)
      ∙ ap (λ (x : ℕ). if nat_lt i (data_units t) then data_due t s o i else x) (below_same (data_due tj (s + shift) o) (data_due t s o) (data_units t) (λ j l. data_same s j o h)))

  equation_same : (s : ℕ) → s < t.stripes → has_equation tj mj (s + shift) ≡ has_equation t m s
  equation_same s h =
      ap (λ (n : ℕ). (n == 1) && (if is_sync tj.kind then is_some (mj (s + shift)) else true)) side.checks
      ∙ (ap (λ (k : Kind). (t.checks == 1) && (if is_sync k then is_some (mj (s + shift)) else true)) side.kind
      ∙ ap (λ (x : Option ℕ). (t.checks == 1) && (if is_sync t.kind then is_some x else true)) (side.missing s h))

  -- equal sets of the half are equal in the joined graph
  pub equal_out : (s x y : ℕ) → s < t.stripes → same_on (has_equation t m s) t.width x y ≡ true → same_on (has_equation tj mj (s + shift)) tj.width x y ≡ true
  equal_out s x y h is = ap (λ (b : Bool). same_on b tj.width x y) (equation_same s h) ∙ (ap (λ (n : ℕ). same_on (has_equation t m s) n x y) side.width ∙ is)

  pub due_out : (s i o x : ℕ) → s < t.stripes → same_on (has_equation t m s) t.width x (due t s i o) ≡ true → same_on (has_equation tj mj (s + shift)) tj.width x (due tj (s + shift) i o) ≡ true
  due_out s i o x h is = ap (λ (y : ℕ). same_on (has_equation tj mj (s + shift)) tj.width x y) (due_same s i o h) ∙ equal_out s x (due t s i o) h is

  pub sector_in : (s i o : ℕ) → s < t.stripes → IsSector tj (s + shift) i o → IsSector t s i o
  sector_in s i o h sector = record {
    stripe = h;
    unit = (let w = side.width in let l = sector.unit in omega arith);
    offset = (let u = side.unit_sectors in let l = sector.offset in omega arith);
  }

  -- a missing unit is one of the half, and so is a rebuild's own
  pub gone_in : (s i : ℕ) → s < t.stripes → is_that (mj (s + shift)) i ≡ true → is_that (m s) i ≡ true
  gone_in s i h gone = sym (ap (λ (x : Option ℕ). is_that x i) (side.missing s h)) ∙ gone

  pub own_in : (i : ℕ) → is_rebuild_of tj.kind i ≡ true → is_rebuild_of t.kind i ≡ true
  own_in i own = sym (ap (λ (k : Kind). is_rebuild_of k i) side.kind) ∙ own

  pub counts_in : (s i : ℕ) → s < t.stripes → (is_that (mj (s + shift)) i ≡ true → is_rebuild_of tj.kind i ≡ true) → is_that (m s) i ≡ true → is_rebuild_of t.kind i ≡ true
  counts_in s i h counts gone = own_in i (counts (ap (λ (x : Option ℕ). is_that x i) (side.missing s h) ∙ gone))

module _ (g out : View) (c e : ℕ) (p : ℕ → ℕ) (up shift from : ℕ) (emb : Carry.Embeds g out c e p up shift) (rets : RetsEmbed g out up from)
    (t tj : Aim) (m mj : Missing) (cj ej : ℕ) (side : Carry.Side t tj m mj shift) (ok : IsOrdered g t m c e) (whole : IsOrdered out tj mj cj ej) (values : HasValues g t m)
    (own : (n s i o : ℕ) → s < t.stripes → Writes out n (s + shift) i o → (f : ℕ) × (f < length g.nodes) × (n ≡ p f))
    (own_ret : (k s i o : ℕ) → s < t.stripes → Returns out k (s + shift) i o → (f : ℕ) × (f < length g.rets) × (k ≡ f + from)) where
  -- what is left in a stripe of the half is what the half leaves
  leaves_in : (s i o x : ℕ) → s < t.stripes → Leaves out (s + shift) i o x → Leaves g s i o x
  leaves_in s i o x h (by_write {n = n} {b = b} l k st cov) =
      let mine = own n s i o h (l, subst (λ (kind : Node). Wrote out kind (s + shift) i o) (sym k) (refl, st, cov)) in
      let kind = ap (kind_at out) (sym mine.2) ∙ k in
      let was = Carry.was_write up (kind_at g mine.0) i b (sym (emb.kind mine.0 mine.1) ∙ kind) in
      let named = (ok.write mine.0 i was.0 mine.1 was.1).1.below in
      let at : stripe_of out b ≡ stripe_of g was.0 + shift = ap (stripe_of out) was.2 ∙ Carry.stripe_out g out c e p up shift emb was.0 named in
      let stripe : stripe_of g was.0 ≡ s = (let z = st in omega arith) in
      let sum : formal out b ≡ formal g was.0 = ap (formal out) was.2 ∙ formal_same g out c e p up shift emb t tj m mj cj ej ok whole was.0 named in
      let covers = Carry.covers_in g out c e p up shift emb was.0 o named (subst (λ (y : ℕ). Covers out y o) was.2 cov) in
      subst (Leaves g s i o) (sym sum) (by_write mine.1 was.1 stripe covers)
  leaves_in s i o x h (by_none none) = by_none (λ n w. none (p n) (Carry.writes_out g out c e p up shift emb t tj m mj side ok n s i o w))

  pub left_out : (s i o x : ℕ) → s < t.stripes → IsSector tj (s + shift) i o → (is_that (mj (s + shift)) i ≡ true → is_rebuild_of tj.kind i ≡ true) → Leaves out (s + shift) i o x → same_on (has_equation tj mj (s + shift)) tj.width x (due tj (s + shift) i o) ≡ true
  left_out s i o x h sector counts leaves = due_out t tj m mj shift side s i o x h (values.left s i o x (sector_in t tj m mj shift side s i o h sector) (counts_in t tj m mj shift side s i h counts) (leaves_in s i o x h leaves))

  pub rebuilt_out : (s i o : ℕ) → s < t.stripes → IsSector tj (s + shift) i o → is_that (mj (s + shift)) i ≡ true → is_rebuild_of tj.kind i ≡ true → (n : ℕ) × Writes out n (s + shift) i o
  rebuilt_out s i o h sector gone mine =
      let w = values.rebuilt s i o (sector_in t tj m mj shift side s i o h sector) (gone_in t tj m mj shift side s i h gone) (own_in t tj m mj shift side i mine) in
      (p w.0, Carry.writes_out g out c e p up shift emb t tj m mj side ok w.0 s i o w.1)

  -- a return of the half is right in the joined graph
  return_right : (k : ℕ) → k < length g.rets → IsReturn g t m (ret_at g k)
  return_right k h = values.returned k (record { unit = 0; buf = 0 }) h

  pub ret_named : (k : ℕ) → k < length g.rets → (ret_at g k).buf < length g.bufs
  ret_named k h = (return_right k h).buf.below

  pub return_out : (k : ℕ) → k < length g.rets → IsReturn out tj mj (ret_at out (k + from))
  return_out k h = subst (IsReturn out tj mj) (sym (rets.ret k h)) (moved (ret_at g k) (return_right k h))
    where
      moved : (r : Ret) → IsReturn g t m r → IsReturn out tj mj (moved_ret up r)
      moved r right =
          let at = Carry.stripe_out g out c e p up shift emb r.buf right.buf.below in
          let sum = formal_same g out c e p up shift emb t tj m mj cj ej ok whole r.buf right.buf.below in
          record {
            unit = (let d = units_same t tj m mj shift side in let l = right.unit in omega arith);
            buf = Carry.buf_out g out c e p up shift emb t tj m mj side ok r.buf right.buf;
            value = subst (λ (x : ℕ). same_on (has_equation tj mj (stripe_of out (r.buf + up))) tj.width x (old_of r.unit) ≡ true) (sym sum)
                (subst (λ (s : ℕ). same_on (has_equation tj mj s) tj.width (formal g r.buf) (old_of r.unit) ≡ true) (sym at) (equal_out t tj m mj shift side (stripe_of g r.buf) (formal g r.buf) (old_of r.unit) right.buf.stripe right.value));
          }

  ret_buf : (k : ℕ) → k < length g.rets → (ret_at out (k + from)).buf ≡ (ret_at g k).buf + up
  ret_buf k h = ap (λ (r : Ret). r.buf) (rets.ret k h)

  pub ret_stripe : (k : ℕ) → k < length g.rets → stripe_of out (ret_at out (k + from)).buf ≡ stripe_of g (ret_at g k).buf + shift
  ret_stripe k h = ap (stripe_of out) (ret_buf k h) ∙ Carry.stripe_out g out c e p up shift emb (ret_at g k).buf (ret_named k h)

  returns_out : (k s i o : ℕ) → Returns g k s i o → Returns out (k + from) (s + shift) i o
  returns_out k s i o r = record {
    below = rets.ret_in k r.below;
    unit = ap (λ (x : Ret). x.unit) (rets.ret k r.below) ∙ r.unit;
    stripe = ret_stripe k r.below ∙ ap (λ (x : ℕ). x + shift) r.stripe;
    covers = subst (λ (b : ℕ). Covers out b o) (sym (ret_buf k r.below)) (Carry.covers_out g out c e p up shift emb (ret_at g k).buf o (ret_named k r.below) r.covers);
  }

  returns_in : (k s i o : ℕ) → k < length g.rets → Returns out (k + from) (s + shift) i o → Returns g k s i o
  returns_in k s i o h r = record {
    below = h;
    unit = sym (ap (λ (x : Ret). x.unit) (rets.ret k h)) ∙ r.unit;
    stripe = (let at = ret_stripe k h in let z = r.stripe in omega arith);
    covers = Carry.covers_in g out c e p up shift emb (ret_at g k).buf o (ret_named k h) (subst (λ (b : ℕ). Covers out b o) (ret_buf k h) r.covers);
  }

  pub covered_out : (s i o : ℕ) → s < t.stripes → IsSector tj (s + shift) i o → is_wanted tj (s + shift) i o ≡ true → (k : ℕ) × Returns out k (s + shift) i o
  covered_out s i o h sector is =
      let own' = values.covered s i o (sector_in t tj m mj shift side s i o h sector) (sym (side.wanted s i o h) ∙ is) in
      (own'.0 + from, returns_out own'.0 s i o own'.1)

  pub once_out : (j k s i o : ℕ) → s < t.stripes → Returns out j (s + shift) i o → Returns out k (s + shift) i o → j ≡ k
  once_out j k s i o h rj rk =
      let a = own_ret j s i o h rj in
      let b = own_ret k s i o h rk in
      let ra = returns_in a.0 s i o a.1 (subst (λ (n : ℕ). Returns out n (s + shift) i o) a.2 rj) in
      let rb = returns_in b.0 s i o b.1 (subst (λ (n : ℕ). Returns out n (s + shift) i o) b.2 rk) in
      let same = values.covered_once a.0 b.0 s i o ra rb in
      a.2 ∙ (ap (λ (n : ℕ). n + from) same ∙ sym b.2)

  pub wanted_out : (k s i o : ℕ) → s < t.stripes → Returns out k (s + shift) i o → is_wanted tj (s + shift) i o ≡ true
  wanted_out k s i o h r =
      let a = own_ret k s i o h r in
      side.wanted s i o h ∙ values.wanted a.0 s i o (returns_in a.0 s i o a.1 (subst (λ (n : ℕ). Returns out n (s + shift) i o) a.2 r))
