-- Objects in tuples, and how often they stand there.
use Rattle.std.specs.Prelude.{◌<◌, ◌≤◌, ◌+◌, ◌*◌, ◌==◌, ◌&&◌, ℕ, Bool, List, Option, Some, None, take, drop, get_or, nat_le, count_by}
use Rattle.std.specs.List.{list_any}
use Rattle.lay_design.specs.declared.spot.Spot.{Spot}
use Rattle.lay_design.specs.Counting.{count_below, IsNowhere, IsFirstPlace}

-- tuple t of tuples of k objects, that stand one after the other in a list
abbrev pub tuple : ℕ → List ℕ → ℕ → List ℕ
tuple k objects t = take k (drop (t * k) objects)

-- the object in a place of a tuple
abbrev pub object : ℕ → List ℕ → ℕ → ℕ → ℕ
object k objects t place = get_or (tuple k objects t) place 0

-- what stands in a place of a tuple isn't below v
abbrev pub is_outside : ℕ → List ℕ → ℕ → Bool
is_outside v objects place = nat_le v (get_or objects place 0)

-- what stands in a place of a tuple stands in an earlier one too
abbrev pub is_repeated : List ℕ → ℕ → Bool
is_repeated objects place = list_any (λ x. x == get_or objects place 0) (take place objects)

-- tuple t has an object
abbrev pub has : ℕ → List ℕ → ℕ → ℕ → Bool
has k objects x t = list_any (λ y. y == x) (tuple k objects t)

-- in how many of the first b tuples an object stands
abbrev pub degree : ℕ → ℕ → List ℕ → ℕ → ℕ
degree b k objects x = count_below (has k objects x) b

-- in how many of the first b tuples two objects stand together
abbrev pub together : ℕ → ℕ → List ℕ → ℕ → ℕ → ℕ
together b k objects x y = count_below (λ t. has k objects x t && has k objects y t) b

-- how often an object stands in a tuple
abbrev pub times : ℕ → List ℕ → ℕ
times x objects = count_by (λ y. y == x) objects

-- the count for two objects in a table with 32 counts for each object
abbrev pub entry : List ℕ → ℕ → ℕ → ℕ
entry counts x y = get_or counts (x * 32 + y) 0

-- the counts are far from the greatest number that they can be
abbrev pub IsLow : List ℕ → Type 0
IsLow counts = (x y : ℕ) → x < 32 → y < 32 → entry counts x y ≤ 1000000

-- the first place of all tuples that passes a test, if one does
abbrev pub IsFirstSpot : (ℕ → ℕ → Bool) → ℕ → ℕ → Option Spot → Type 0
IsFirstSpot f n k None = IsNowhere f n k
IsFirstSpot f n k (Some spot) = IsFirstPlace f n k spot.row spot.place
