-- Block designs: what they are, and why other numbers and tuples are none.
use Rattle.std.specs.Prelude.{◌≡◌, ◌≢◌, ◌<◌, ◌≤◌, ◌-◌, ◌*◌, ◌==◌, ◌&&◌, ℕ, Bool, List, length, take, get_or, nat_le, nat_lt, not}
use Rattle.lay_design.specs.declared.fault.DesignFault.{DesignFault}
use Rattle.lay_design.specs.declared.fault.DesignFault.TheVariants.{Count, Element, Repeat, Degree, Pair, Memory}
use Rattle.lay_design.specs.Counting.{count_below, IsNowhere, IsFirstPlace}
use Rattle.lay_design.specs.Blocks.{tuple, has, degree, together}
use Rattle.std.specs.List.{list_any}

-- the numbers of a design and its tuples, one after the other: b tuples of k of the objects 0 to v - 1, of which each is to stand in r tuples and each two in lambda
pub record Blocks : Type 0 where
  pub b : ℕ
  pub v : ℕ
  pub k : ℕ
  pub r : ℕ
  pub lambda : ℕ
  pub objects : List ℕ

-- the numbers are within the limits, and fit one another and the list
pub record AreNumbers (d : Blocks) : Type 0 where
  pub objects_least : 2 ≤ d.v
  pub objects_most : d.v ≤ 32
  pub width_least : 2 ≤ d.k
  pub width_most : d.k ≤ d.v
  pub tuples_least : 1 ≤ d.b
  pub tuples_most : d.b ≤ 4096
  pub length : length d.objects ≡ d.b * d.k
  pub places : d.b * d.k ≡ d.v * d.r
  pub pairs : d.r * (d.k - 1) ≡ d.lambda * (d.v - 1)

-- a place of tuple t has no object below v
abbrev pub outside : Blocks → ℕ → ℕ → Bool
outside d t place = nat_le d.v (get_or (tuple d.k d.objects t) place 0)

-- a place of tuple t has the object of an earlier one
abbrev pub repeated : Blocks → ℕ → ℕ → Bool
repeated d t place =
    list_any (λ x. x == get_or (tuple d.k d.objects t) place 0) (take place (tuple d.k d.objects t))

-- an object doesn't stand in r tuples
abbrev pub strays : Blocks → ℕ → Bool
strays d x = not (count_below (has d.k d.objects x) d.b == d.r)

-- x is less than y, and the two don't stand together in lambda tuples
abbrev pub parts : Blocks → ℕ → ℕ → Bool
parts d x y =
    nat_lt x y && not (count_below (λ t. has d.k d.objects x t && has d.k d.objects y t) d.b == d.lambda)

-- a block design: b tuples of k distinct objects below v, each object in r of them, each two objects together in lambda
pub record IsDesign (d : Blocks) : Type 0 where
  pub numbers : AreNumbers d
  pub below : IsNowhere (outside d) d.b d.k
  pub distinct : IsNowhere (repeated d) d.b d.k
  pub degrees : (x : ℕ) → x < d.v → degree d.b d.k d.objects x ≡ d.r
  pub pairs : (x y : ℕ) → x < y → y < d.v → together d.b d.k d.objects x y ≡ d.lambda

-- the tuples are of distinct objects below v
pub record AreTuples (d : Blocks) : Type 0 where
  pub numbers : AreNumbers d
  pub below : IsNowhere (outside d) d.b d.k
  pub distinct : IsNowhere (repeated d) d.b d.k

-- the first cause for which the numbers and tuples are no design, with its least place. There may be no memory to count in, where the tuples are of distinct objects below v
abbrev pub IsFault : Blocks → DesignFault → Type 0
IsFault d Count = ¬ AreNumbers d
IsFault d (Element t i) = AreNumbers d × IsFirstPlace (outside d) d.b d.k t i
IsFault d (Repeat t i) = AreNumbers d × IsNowhere (outside d) d.b d.k × IsFirstPlace (repeated d) d.b d.k t i
IsFault d (Degree x has) = AreTuples d × (has ≡ degree d.b d.k d.objects x) × (has ≢ d.r) × (x < d.v) × ((y : ℕ) → y < x → degree d.b d.k d.objects y ≡ d.r)
IsFault d (Pair x y has) = AreTuples d × ((z : ℕ) → z < d.v → degree d.b d.k d.objects z ≡ d.r) × (has ≡ together d.b d.k d.objects x y) × IsFirstPlace (parts d) d.v d.v x y
IsFault d Memory = AreTuples d
