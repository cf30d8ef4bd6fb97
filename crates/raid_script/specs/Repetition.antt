-- The string that a sector repeats.
use Rattle.std.specs.Prelude.{ℕ, ◌%◌, ◌^◌, List, length, take, map, slice_index, bytes_eq, find, unwrap_or}
use Rattle.std.specs.List.{range_with_len}

-- the sector that a string fills, again and again from its first byte on
unfoldable pub filled_by : List ℕ → List ℕ
filled_by string = map (λ i. slice_index string (i % length string)) (range_with_len 0 512)

-- the first bytes of a sector, as many as the least of the lengths 1, 2, 4, .., 512 at which they fill
-- it
unfoldable pub shortest : List ℕ → List ℕ
shortest sector = take
    (unwrap_or (find (λ n. bytes_eq (filled_by (take n sector)) sector) (map (λ k. 2 ^ k) (range_with_len 0 10))) 512)
    sector
