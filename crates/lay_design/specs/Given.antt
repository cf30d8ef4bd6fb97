-- The numbers and tuples that are given.
use Rattle.std.specs.Prelude.{◌≡◌, ◌<◌, ◌≤◌, ◌*◌, ℕ, List, length}
use Rattle.lay_design.specs.declared.numbers.Numbers.{Numbers}
use Rattle.lay_design.specs.declared.tuples.Tuples.{Tuples}
use Rattle.lay_design.specs.Counting.{IsNowhere}
use Rattle.lay_design.specs.Blocks.{tuple, is_outside, is_repeated, entry, together}
use Rattle.lay_design.specs.Design.{Blocks}

-- they as one record
abbrev pub blocks_of : Numbers → List ℕ → Blocks
blocks_of n objects = record { b = n.tuples; v = n.objects; k = n.width; r = n.degree; lambda = n.together; objects = objects }

-- few tuples of distinct objects below 32
pub record AreFit (tuples : Tuples) : Type 0 where
  pub long : length tuples.objects.now ≡ tuples.count * tuples.width
  pub few : tuples.count ≤ 4096
  pub short : tuples.width ≤ 32
  pub below : IsNowhere (λ t. is_outside 32 (tuple tuples.width tuples.objects.now t)) tuples.count tuples.width
  pub distinct : IsNowhere (λ t. is_repeated (tuple tuples.width tuples.objects.now t)) tuples.count tuples.width

-- the table has for each two objects in how many of b tuples they stand together
abbrev pub AreCounted : ℕ → ℕ → List ℕ → List ℕ → Type 0
AreCounted b k objects counts = (x y : ℕ) → x < 32 → y < 32 → entry counts x y ≡ together b k objects x y
