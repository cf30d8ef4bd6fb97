-- The events that may still come: each event lowers their number.
use Rattle.std.proofs.Common.{◌≡◌, ◌<◌, ◌≤◌, inl, inr, ℕ, zero, suc, List, [], ◌∷◌, Option, Some, None, slice_get, refl, sym, ap, subst, length, arith}
use Rattle.std.specs.Prelude.{◌+◌}
use Rattle.std.proofs.lemmas.Bool.{cases_eq}
use Rattle.lay_core.specs.Layout.{Shape}
use Rattle.graph_mean.specs.declared.step.Status.{Status}
use Rattle.graph_mean.specs.declared.step.Phase.{Phase}
use Rattle.graph_mean.specs.declared.step.Phase.TheVariants.{Before, After, RollingBack, Ended, Undone}
use Rattle.eng_cols.specs.declared.spot.Loss.{Loss}
use Rattle.eng_cols.specs.Cols.{ColumnState, Live, Dead, Filling, Spread}
use Rattle.eng_cols.specs.Changes.{killed}
use Rattle.eng_world.specs.declared.item.Traced.{Traced}
use Rattle.eng_world.specs.declared.item.Traced.TheVariants as event
use Rattle.eng_world.specs.World.{World}
use Rattle.eng_world.specs.Planning.{Graphs}
use Rattle.eng_world.specs.Pool.{HaveItems}
use Rattle.eng_world.specs.Failing.{FailsColumn, FailsIfAlive}
use Rattle.eng_world.specs.Step.{StepLost, StepBy, Step, IsOpening, EventsLead}
use Rattle.eng_rest.specs.Left.{cost, cost_below, run_left, current_left, is_alive, alive, left, below, all_left, IsOwn, IsLater, EachWithin, IsIndexed}
use Rattle.eng_rest.proofs.Dying.{alive-killed-le}
use Rattle.eng_rest.proofs.Events.{Parts, served, kills, fails}
use Rattle.eng_rest.proofs.Parting.{parts, uses-up, later-items}
use Rattle.eng_rest.proofs.Items.{left-now}
use Rattle.eng_rest.proofs.Indexed.{opening-indexed}
use Rattle.eng_rest.proofs.Fewness.{run-indexed}
use Rattle.eng_rest.proofs.Summing.{below-le, own-later, all-falls}
use Rattle.eng_array.specs.Steady.{events_left}

-- ## Sums

-- a sum is at least each of its parts
pub below-part : (f : ℕ → ℕ) (n c : ℕ) → c < n → f c ≤ below f n
unfolding below
below-part f zero c l = absurd (omega (arith, l))
below-part f (suc n) c l = elim (cases_eq c n) [
  | inl here ↦ let e : f c ≡ f n = ap f here in omega (arith, e)
  | inr ne ↦ let a = below-part f n c (omega (arith, l, ne)) in omega (arith, a)
]

-- ## Columns

is-alive-one : (x : ColumnState) → (x ≡ Dead → ⊥) → is_alive x ≡ 1
is-alive-one (Live device) h = refl
is-alive-one (Filling device done) h = refl
is-alive-one (Spread done) h = refl
is-alive-one Dead h = absurd (h refl)

alive-killed : (cols : List ColumnState) (c : ℕ) → c < length cols → (slice_get cols c ≡ Some Dead → ⊥) → alive (killed cols c) + 1 ≡ alive cols
alive-killed [] c l h = absurd (omega (arith, l))
alive-killed (x ∷ xs) zero l h = let a = is-alive-one x (λ d. h (ap Some d)) in omega (arith, a)
alive-killed (x ∷ xs) (suc c) l h = let r = alive-killed xs c (omega (arith, l)) h in omega (arith, r)

-- a column that isn't dead is alive
pub alive-some : (cols : List ColumnState) (c : ℕ) → c < length cols → (slice_get cols c ≡ Some Dead → ⊥) → 1 ≤ alive cols
alive-some cols c l h = let a = alive-killed cols c l h in omega (arith, a)

-- ## Runs

pub reached-indexed : (y : Shape) (graphs : Graphs) (opening : World) (events : List Traced) (now : World) → IsOpening y opening → EventsLead y graphs opening events now → IsIndexed now
reached-indexed y graphs opening events now o run = run-indexed y graphs opening events now (opening-indexed y opening o) run

module _ (y : Shape) (graphs : Graphs) (old new : World) (x : IsIndexed old) where
  -- no column comes to life
  pub alive-falls : (e : Traced) → IsLater e → Step y graphs e old new → alive new.columns ≤ alive old.columns
  alive-falls e later s = go old.lost refl s
    where
      dies : (col : ℕ) (was : World) → FailsColumn y col was new → alive new.columns ≤ alive was.columns
      dies col was f = let a : alive new.columns ≡ alive (killed was.columns col) = ap alive f.columns in let b = alive-killed-le was.columns col in omega (arith, a, b)

      of-parts : Parts y graphs e old new → alive new.columns ≤ alive old.columns
      of-parts (served d name o lost cols) = omega (arith, cols)
      of-parts (kills d name mid o lost cols within col f) = after f
        where
          after : FailsIfAlive y col mid new → alive new.columns ≤ alive old.columns
          after (inl h) = let a : alive new.columns ≡ alive mid.columns = ap (λ (w : World). alive w.columns) h.1 in omega (arith, a, cols)
          after (inr h) = let a = dies col mid h.1 in omega (arith, a, cols)
      of-parts (fails name col there f) = dies col old f

      of-lost : (f : Traced) → StepLost y graphs f old new → alive new.columns ≤ alive old.columns
      of-lost (event.Good id n) h = let z : alive new.columns ≡ alive old.columns = ap alive h.0.columns in omega (arith, z)
      of-lost (event.Bad id n) h = let z : alive new.columns ≡ alive (killed old.columns h.0.at.column) = ap alive h.0.columns in let k = alive-killed-le old.columns h.0.at.column in omega (arith, z, k)
      of-lost (event.Begin id) h = absurd h
      of-lost (event.Take id) h = absurd h
      of-lost (event.Fire id n) h = absurd h
      of-lost (event.Skip id n) h = absurd h
      of-lost (event.Back id) h = absurd h
      of-lost (event.Fail k) h = absurd h
      of-lost (event.Fill k device count) h = absurd h
      of-lost (event.Resume k count) h = absurd h
      of-lost (event.Spread k) h = absurd h

      go : (o : Option Loss) → old.lost ≡ o → StepBy y graphs o e old new → alive new.columns ≤ alive old.columns
      go None none h = of-parts (parts y graphs old new none (x.now none) x.asked e later h)
      go (Some loss) lost h = of-lost e h

  -- of no item more is left
  all-stays : (e : Traced) (most : ℕ → ℕ → ℕ) (n : ℕ) → IsLater e → EachWithin most old → EachWithin most new → Step y graphs e old new → all_left most new n ≤ all_left most old n
  all-stays e most n later was is s = below-le (λ c. below (λ i. left (most c i) old c i) (length (old.clients c).items)) (λ c. below (λ i. left (most c i) new c i) (length (new.clients c).items)) n (λ c l. no-more c)
    where
      no-more : (c : ℕ) → below (λ i. left (most c i) new c i) (length (new.clients c).items) ≤ below (λ i. left (most c i) old c i) (length (old.clients c).items)
      no-more c =
          let a : below (λ i. left (most c i) new c i) (length (new.clients c).items) ≡ below (λ i. left (most c i) new c i) (length (old.clients c).items) = ap (below (λ i. left (most c i) new c i)) (later-items y graphs e old new x later s c) in
          let b = below-le (λ i. left (most c i) old c i) (λ i. left (most c i) new c i) (length (old.clients c).items) (λ i l. let z = uses-up y graphs e old new (most c i) c i later x l (was c i) (is c i) s in omega (arith, z)) in
          omega (arith, a, b)

  -- an event of an item lowers what may still come
  pub own-falls : (e : Traced) (most : ℕ → ℕ → ℕ) → IsOwn e → HaveItems old 17 → EachWithin most old → EachWithin most new → Step y graphs e old new → events_left most new < events_left most old
  own-falls e most own have was is s =
      let a = all-falls y graphs old new x e most 17 own have was is s in
      let b = alive-falls e (own-later e own) s in
      omega (arith, a, b)

  -- so does the failure of a column
  pub fail-falls : (c : ℕ) (most : ℕ → ℕ → ℕ) → length old.columns ≡ y.columns → EachWithin most old → EachWithin most new → Step y graphs (event.Fail c) old new → events_left most new < events_left most old
  fail-falls c most count was is s = go old.lost refl s
    where
      go : (o : Option Loss) → old.lost ≡ o → StepBy y graphs o (event.Fail c) old new → events_left most new < events_left most old
      go (Some loss) lost h = absurd h
      go None none h =
          let a = all-stays (event.Fail c) most 17 tt was is s in
          let b : alive new.columns ≡ alive (killed old.columns c) = ap alive h.2.columns in
          let d = alive-killed old.columns c (subst (λ (k : ℕ). c < k) (sym count) h.0) h.1 in
          omega (arith, a, b, d)

-- ## What is left while something may be done

-- a node that is idle or out may still be fired or end
cost-part : (node : ℕ → Status) (n len : ℕ) → n < len → 1 ≤ cost (node n) → 1 ≤ cost_below node len
cost-part node n zero l h = absurd (omega (arith, l))
cost-part node n (suc len) l h = elim (cases_eq n len) [
  | inl here ↦ let e : cost (node n) ≡ cost (node len) = ap (λ k. cost (node k)) here in omega (arith, e, h)
  | inr ne ↦ let a = cost-part node n len (omega (arith, l, ne)) h in omega (arith, a)
]

pub node-left : (m : ℕ) (p : Phase) (node : ℕ → Status) (n len : ℕ) → n < len → 1 ≤ cost (node n) → 1 ≤ run_left m p node len
node-left m Before node n len l h = cost-part node n len l h
node-left m After node n len l h = cost-part node n len l h
node-left m Ended node n len l h = cost-part node n len l h
node-left m RollingBack node n len l h = omega arith
node-left m Undone node n len l h = omega arith

-- an item of a client that is served now or next, and of which an event is left
pub item-left : (most : ℕ → ℕ → ℕ) (w : World) (c : ℕ) → c < 17 → length (w.clients c).replies < length (w.clients c).items → ((m : ℕ) → 1 ≤ current_left m (w.clients c).current) → 1 ≤ events_left most w
item-left most w c l there some =
    let i = length (w.clients c).replies in
    let a = below-part (λ k. below (λ j. left (most k j) w k j) (length (w.clients k).items)) 17 c l in
    let b = below-part (λ j. left (most c j) w c j) (length (w.clients c).items) i there in
    let e = left-now (most c i) (w.clients c) i refl in
    let d = some (most c i) in
    omega (arith, a, b, e, d)
