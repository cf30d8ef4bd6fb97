-- Words that proofs go by, for what the specifications spell out.
use Rattle.std.specs.Prelude.{ℕ, List, Bool, true, replicate, suc, ◌&&◌, Option, slice_get, option_and_then, if◌then◌else◌}
use Rattle.eng_cols.specs.Stripes.{all_done_below, is_stripe_by, first_done}
use Rattle.lay_core.specs.declared.place.Place.{Place}
use Rattle.eng_cols.specs.declared.spot.Spot.{Spot}
use Rattle.eng_cols.specs.Cols.{ColumnState}
use Rattle.eng_cols.specs.Seats.{open_on, is_available}
use Rattle.lay_core.specs.Layout.{Shape}
use Rattle.std.specs.Option.{option_map_or}
use Rattle.eng_cols.specs.Contents.{Contents, byte_at, byte_of, xor_others}

-- or each is
abbrev pub all_done : ℕ → List Bool
all_done n = replicate n true

-- it passes, and is done with each before it that passes
abbrev pub is_led : (ℕ → Bool) → (ℕ → Bool) → ℕ → Bool
is_led p done s = p s && all_done_below p done (suc s)

abbrev pub spare_open : List ColumnState → Option Place → Option Spot
spare_open cols place = option_and_then (λ (p : Place). open_on (slice_get cols p.column) p) place

-- so many of its stripes; where the column isn't filling, what is done elsewhere
abbrev pub first_or : Shape → (ℕ → Bool) → ℕ → Option ℕ → List Bool → List Bool
first_or y spread c count other =
    option_map_or (λ (done : ℕ). first_done (is_stripe_by y spread c) done y.stripes y.stripes) count other

abbrev pub byte_if : Shape → Contents → Option Spot → ℕ → ℕ → ℕ
byte_if y contents place o k = option_map_or (λ (at : Spot). byte_at y contents at o k) place 0

-- byte k at offset o of a unit where it is available, and else the sum of the stripe's other units there
abbrev pub decoded : Shape → Contents → List ColumnState → ℕ → ℕ → ℕ → ℕ → ℕ
decoded y contents cols s i o k =
    if is_available y cols s i
    then byte_of y contents cols s i o k
    else xor_others (λ j. byte_of y contents cols s j o k) i y.width
