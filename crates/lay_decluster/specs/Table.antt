-- Full tables: where the tuples of a design lie on the columns, stripe by stripe.
use Rattle.std.specs.Prelude.{◌≡◌, ◌<◌, ◌/◌, ◌%◌, ℕ, Bool, get_or}
use Rattle.lay_core.specs.declared.place.Place.{Place}
use Rattle.lay_design.specs.Counting.{count_below}
use Rattle.lay_design.specs.Blocks.{has, tuple}
use Rattle.lay_design.specs.Design.{Blocks}

-- the design is repeated from end to end: the tuple of stripe s
abbrev pub tuple_of : Blocks → ℕ → ℕ
tuple_of d s = s % d.b

-- the copy of the design that stripe s belongs to, among the k copies of its full table
abbrev pub copy_of : Blocks → ℕ → ℕ
copy_of d s = (s / d.b) % d.k

-- the column of a position of stripe s
abbrev pub column_at : Blocks → ℕ → ℕ → ℕ
column_at d s position = get_or (tuple d.k d.objects (s % d.b)) position 0

-- stripe s has a position on column x
abbrev pub lies_on : Blocks → ℕ → ℕ → Bool
lies_on d x s = has d.k d.objects x (s % d.b)

-- the lowest row of column x that is free for stripe s: each earlier stripe with a position there has taken one
abbrev pub free_row : Blocks → ℕ → ℕ → ℕ
free_row d x s = count_below (λ t. has d.k d.objects x (t % d.b)) s

-- the place of a position of stripe s
abbrev pub seat : Blocks → ℕ → ℕ → Place
seat d s position = record { column = column_at d s position; row = count_below (λ t. has d.k d.objects (column_at d s position) (t % d.b)) s }

-- an earlier stripe has a position there
abbrev pub IsTaken : Blocks → ℕ → Place → Type 0
IsTaken d s place = (t : ℕ) × (position : ℕ) × (t < s) × (position < d.k) × (seat d t position ≡ place)
