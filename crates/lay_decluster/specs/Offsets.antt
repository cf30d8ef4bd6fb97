-- The table that is kept: for each position of each tuple, how many earlier tuples of the design have its object.
use Rattle.std.specs.Prelude.{◌≡◌, ◌<◌, ◌+◌, ◌*◌, ℕ, List, get_or, length}
use Rattle.lay_design.specs.Blocks.{object, degree}
use Rattle.lay_design.specs.Design.{Blocks}

-- the number for a position of tuple t
abbrev pub offset : Blocks → ℕ → ℕ → ℕ
offset d t position = degree t d.k d.objects (object d.k d.objects t position)

-- the numbers of all positions of the first n tuples, tuple by tuple
pub record AreOffsets (d : Blocks) (n : ℕ) (offsets : List ℕ) : Type 0 where
  pub long : length offsets ≡ n * d.k
  pub each : (t position : ℕ) → t < n → position < d.k → get_or offsets (t * d.k + position) 0 ≡ offset d t position

-- for each object, how many of the first n tuples have it
abbrev pub AreCounts : Blocks → ℕ → List ℕ → Type 0
AreCounts d n counts = (x : ℕ) → x < d.v → get_or counts x 0 ≡ degree n d.k d.objects x
