-- What is replied to operations that are in range and short, of an array that isn't lost.
use Rattle.std.proofs.Common.{◌≡◌, ◌∙◌, ap, sym, refl, subst, ℕ, zero, suc, ◌+◌, ◌-◌, ◌*◌, ◌/◌, ◌<◌, ◌≤◌, Bool, true, false, if◌then◌else◌, List, Some, None, arith}
use Rattle.std.specs.Prelude.{nat_le}
use Rattle.std.proofs.Math.Nat.{div-lt_iff_lt-mul, mul-le-mul}
use Rattle.blk_plain.specs.declared.op.Op.{Op}
use Rattle.blk_plain.specs.declared.op.Op.TheVariants.{Write, Writes, Read, Rebuild, Sync}
use Rattle.blk_plain.specs.declared.op.OpId.{OpId}
use Rattle.blk_plain.specs.declared.op.Patches.{Patches}
use Rattle.blk_plain.specs.declared.op.Span.{Span}
use Rattle.lay_core.specs.Layout.{Shape, blocks_in, data_units, stripe_of}
use Rattle.lay_core.specs.Touched.{PassesEnd, stripe_count}
use Rattle.eng_world.specs.declared.item.Item.{Item}
use Rattle.eng_world.specs.declared.item.Item.TheVariants as item
use Rattle.eng_world.specs.declared.item.Reply.{Reply}
use Rattle.eng_world.specs.declared.item.Reply.TheVariants as reply
use Rattle.eng_world.specs.declared.item.Traced.{Traced}
use Rattle.eng_world.specs.World.{World, IsRead}
use Rattle.eng_world.specs.Planning.{Graphs, IsOut, IsLong}
use Rattle.eng_world.specs.Legal.{ReplyOf, HasCommitted}
use Rattle.eng_world.specs.Causes.{IsCause, ItemAt, HaveCauses}
use Rattle.raid_script.specs.Asked.{Other, WritesAll}
use Rattle.raid_script.specs.Steps.{seen_patches}
use Rattle.raid_script.specs.Drawn.{IsOwn, IsOwnSpan}
use Rattle.top_run.specs.InTurn.{plain_reply, asks}

-- ## Few blocks, few stripes

quotient : (u x m : ℕ) → 0 < u → (x + m) / u ≤ x / u + m
quotient u x m some =
    let wide : m * 1 ≤ m * u = mul-le-mul (let z : m ≤ m = omega arith in z) (let z : 1 ≤ u = omega arith in z) in
    let below : x + m < (x / u + m + 1) * u = omega arith in
    let less : (x + m) / u < x / u + m + 1 = (div-lt_iff_lt-mul some).1 below in
    omega arith

positive : (a b c : ℕ) → 0 < a * b * c → (0 < b) × (0 < c)
positive a zero c h = absurd (omega (arith, h))
positive a (suc b) zero h = absurd (omega (arith, h))
positive a (suc b) (suc c) h = (omega arith, omega arith)

no-less : (d n m : ℕ) → 0 < d → n ≤ m → n / d ≤ m / d
no-less d n m some le =
    let below : n < (m / d + 1) * d = omega arith in
    let less : n / d < m / d + 1 = (div-lt_iff_lt-mul some).1 below in
    omega arith

few-stripes : (u d x m : ℕ) → 0 < u → 0 < d → (x + m) / u / d ≤ x / u / d + m
few-stripes u d x m some any =
    let one = no-less d ((x + m) / u) (x / u + m) any (quotient u x m some) in
    let two = quotient d (x / u) m any in
    omega (arith, one, two)

-- an item of a client's own blocks isn't a write of several spans
pub own-one : (wide blocks client : ℕ) (patches : Patches) → IsOwn wide blocks client (asks (Writes patches)) → ⊥
own-one wide blocks client patches own = go (nat_le patches.used 8) own
  where
    go : (few : Bool) → IsOwn wide blocks client (if few then WritesAll (seen_patches patches) None else Other) → ⊥
    go true h = h
    go false h = h

module _ (y : Shape) (wide blocks client : ℕ) (within : blocks ≤ blocks_in y) where
  span-in : (span : Span) → IsOwnSpan wide blocks client span.first span.count → PassesEnd y span → ⊥
  span-in span own out = let e = own.ends in let w = own.within in omega (arith, e, w, out, within)

  span-short : (span : Span) → IsOwnSpan wide blocks client span.first span.count → 16 < stripe_count y span → ⊥
  span-short span own long =
      let e = own.ends in let w = own.within in let s = own.some in let f = own.few in
      let some : 0 < blocks_in y = omega (arith, e, w, s, within) in
      let both = positive y.stripes (data_units y) y.unit_sectors some in
      let few = few-stripes y.unit_sectors (data_units y) span.first (span.count - 1) both.1 both.0 in
      let last : span.first + (span.count - 1) ≡ span.first + span.count - 1 = omega (arith, s) in
      let same : stripe_of y (span.first + (span.count - 1)) ≡ stripe_of y (span.first + span.count - 1) = ap (stripe_of y) last in
      omega (arith, few, same, long, f)

  not-out : (o : Op) → IsOwn wide blocks client (asks o) → IsOut y o → ⊥
  not-out (Write span pattern) own out = span-in span own.0 out
  not-out (Writes patches) own out = absurd (own-one wide blocks client patches own)
  not-out (Read span) own out = span-in span own.0 out
  not-out (Rebuild stripe) own out = absurd own
  not-out (Sync stripe) own out = absurd own

  not-long : (o : Op) → IsOwn wide blocks client (asks o) → IsLong y o → ⊥
  not-long (Write span pattern) own long = span-short span own.0 long
  not-long (Writes patches) own long = absurd (own-one wide blocks client patches own)
  not-long (Read span) own long = span-short span own.0 long
  not-long (Rebuild stripe) own long = absurd own
  not-long (Sync stripe) own long = absurd own

-- ## Replies

done-is : (o : Op) → (IsRead (Some o) → ⊥) → reply.Done ≡ plain_reply o
done-is (Write span pattern) other = refl
done-is (Writes patches) other = refl
done-is (Read span) other = absurd (other tt)
done-is (Rebuild stripe) other = refl
done-is (Sync stripe) other = refl

pub commits-so : (o : Op) → HasCommitted (plain_reply o)
commits-so (Write span pattern) = tt
commits-so (Writes patches) = tt
commits-so (Read span) = tt
commits-so (Rebuild stripe) = tt
commits-so (Sync stripe) = tt

module _ (y : Shape) (graphs : Graphs) (opening : World) (events : List Traced) (now : World) (none : now.lost ≡ None) (wide blocks client : ℕ) (within : blocks ≤ blocks_in y) where
  judged : (id : OpId) (o : Op) → IsOwn wide blocks client (asks o) → (r : Reply) (asked : Item) → asked ≡ item.Run o None → IsCause y graphs opening events now id r asked → r ≡ plain_reply o
  judged id o own reply.Data asked is c =
      let z : item.Run o None ≡ item.Run (Read c.0) c.1 = sym is ∙ c.2 in
      let same : o ≡ Read c.0 = cc in
      sym (ap plain_reply same)
  judged id o own reply.Done asked is c =
      let z : item.Run o None ≡ item.Run c.0 c.1 = sym is ∙ c.2 in
      let same : o ≡ c.0 = cc in
      done-is o (λ read. c.3 (subst (λ (x : Op). IsRead (Some x)) same read))
  judged id o own reply.Okay asked is c =
      let z : item.Run o None ≡ item.Fail c.0 = sym is ∙ c.1 in
      absurd (let u : ⊥ = cc in u)
  judged id o own (reply.Undone device) asked is c =
      let z : item.Run o None ≡ item.Run c.0 (Some c.1) = sym is ∙ c.2 in
      absurd (let u : ⊥ = cc in u)
  judged id o own reply.Range asked is c =
      let z : item.Run o None ≡ item.Run c.0 c.1 = sym is ∙ c.2 in
      let same : c.0 ≡ o = cc in
      absurd (not-out y wide blocks client within o own (subst (IsOut y) same c.3))
  judged id o own reply.Long asked is c =
      let z : item.Run o None ≡ item.Run c.0 c.1 = sym is ∙ c.2 in
      let same : c.0 ≡ o = cc in
      absurd (not-long y wide blocks client within o own (subst (IsLong y) same c.4))
  judged id o own (reply.Refused cause) asked is c =
      let z : item.Run o None ≡ item.Run c.0 (Some c.1) = sym is ∙ c.2 in
      absurd (let u : ⊥ = cc in u)
  judged id o own reply.Lost asked is c =
      let z : None ≡ Some c.0 = sym none ∙ c.1 in
      absurd (let u : ⊥ = cc in u)

  pub replied-so : HaveCauses y graphs opening events now → (id : OpId) (o : Op) → IsOwn wide blocks client (asks o) → ItemAt now id (item.Run o None) → (r : Reply) → ReplyOf now id r → r ≡ plain_reply o
  replied-so causes id o own at r is =
      let why = causes id r is in
      let z : Some why.0 ≡ Some (item.Run o None) = sym why.1 ∙ at in
      judged id o own r why.0 (let same : why.0 ≡ item.Run o None = cc in same) why.2
