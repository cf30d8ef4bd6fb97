-- Whether what a configuration gives stands for a block design.
use Rattle.std.specs.Prelude.{◌*◌, ◌-◌, ◌==◌, ◌&&◌, ◌||◌, ℕ, Bool, not, length, nat_eq, nat_le}
use Rattle.std.specs.List.{list_all, range_with_len}
use Rattle.lay_design.specs.Design.{Blocks, outside, parts, repeated, strays}
use Rattle.lay_design.specs.Families.{complete, cyclic}
use Rattle.raid_conf.specs.declared.given.Given.{Given}
use Rattle.raid_conf.specs.declared.given.Given.TheVariants.{Listed, Cyclic, Complete}

-- the numbers and tuples that are meant
abbrev pub blocks_of : Given → Blocks
blocks_of (Listed b v k r lambda tuples) = record { b = b; v = v; k = k; r = r; lambda = lambda; objects = tuples }
blocks_of (Cyclic v base) = cyclic v base
blocks_of (Complete v k) = complete v k

-- the number of objects
abbrev pub objects_of : Given → ℕ
objects_of (Listed b v k r lambda tuples) = v
objects_of (Cyclic v base) = v
objects_of (Complete v k) = v

-- the numbers are within the limits of a design, and fit one another and the list
unfoldable pub numbers_fit : Blocks → Bool
numbers_fit d = (((nat_le 2 d.v && nat_le d.v 32) && (nat_le 2 d.k && nat_le d.k d.v)) && ((nat_le 1 d.b && nat_le d.b 4096) && nat_eq (length d.objects) (d.b * d.k)))
    && (nat_eq (d.b * d.k) (d.v * d.r) && nat_eq (d.r * (d.k - 1)) (d.lambda * (d.v - 1)))

-- no place of n rows of k places passes a test
unfoldable pub nowhere : (ℕ → ℕ → Bool) → ℕ → ℕ → Bool
nowhere f n k = list_all (λ t. list_all (λ i. not (f t i)) (range_with_len 0 k)) (range_with_len 0 n)

-- whether it is a block design: the test of lay_design's definition
unfoldable pub is_design : Blocks → Bool
is_design d = (numbers_fit d && (nowhere (outside d) d.b d.k && nowhere (repeated d) d.b d.k))
    && (list_all (λ x. not (strays d x)) (range_with_len 0 d.v) && nowhere (parts d) d.v d.v)

-- whether a level can stand on it: a block design, whose tuples have three objects at least at level D, where one of them is the spare place
unfoldable pub serves : ℕ → Given → Bool
serves level given =
    let width : ℕ = elim given [
      | Listed b v k r lambda tuples ↦ k
      | Cyclic v base ↦ length base
      | Complete v k ↦ k
    ] in
    (not (level == 68) || nat_le 3 width) && is_design (blocks_of given)
