-- What the seats of a round's label make of the columns: what these were, but that one that was filling is live.
use Rattle.std.proofs.Common.{◌≡◌, ◌∙◌, ap, sym, ℕ, zero, suc, ◌+◌, ◌-◌, ◌<◌, ◌≤◌, ◌==◌, ◌||◌, ◌&&◌, Bool, true, false, List, [], ◌∷◌, ◌++◌, length, map, take, refl, arith, inl, inr, Option, Some, None, option_map}
use Rattle.std.specs.Prelude.{if◌then◌else◌, nat_le, nat_lt, not, replicate, slice_get, slice_index}
use Rattle.std.specs.List.{list_any}
use Rattle.std.proofs.lemmas.Bool.{lt-ltb, le-ltb, le-leb, lt-leb, eq-eqb, ne_eqb}
use Rattle.std.proofs.lemmas.Option.{slice_get-map, slice_get_within}
use Rattle.eng_cols.specs.declared.column.Column.{Column}
use Rattle.eng_cols.specs.declared.column.Column.TheVariants as column
use Rattle.raid_label.specs.declared.label.Label.{Label}
use Rattle.top_open.specs.declared.plan.Plan.{Plan}
use Rattle.top_open.specs.Plan.{IsPlan, is_present}
use Rattle.top_open.specs.Seats.{own_disk, seat_of as opened_seat}
use Rattle.top_open.specs.Steps.{seat_at, is_spread_below}
use Rattle.top_rounds.specs.Labels.{Seating, device_seat, seat_of, seating_in, seating_of}
use Rattle.raid_adopt.specs.Found.{IsPlaced, IsConfigured, IsRound}

-- the column with its device, whether that is filling or not
abbrev pub unfilled : Column → Column
unfilled (column.Live d) = column.Live d
unfilled column.Dead = column.Dead
unfilled (column.Filling d m) = column.Live d
unfilled column.Spread = column.Spread

-- an element of a list with others behind it
index-there : (xs ys : List ℕ) (c s : ℕ) → slice_get xs c ≡ Some s → slice_index (xs ++ ys) c ≡ s
index-there [] ys c s h = cc h
index-there (x ∷ xs) ys zero s h = cc h
index-there (x ∷ xs) ys (suc c) s h = index-there xs ys c s h

module _ (p : Plan) (plan : IsPlan p) (present : List Bool) where
  abbrev n : ℕ
  n = length present

  few : p.spares ≤ 8
  few = plan.spares

  -- ## The seat of a device

  own-seat : (d : ℕ) → d < n → device_seat n d ≡ 0
  own-seat d lt = rw (lt-ltb d n lt) refl

  spare-seat : (d : ℕ) → n ≤ d → device_seat n d ≡ d + 1 - n
  spare-seat d le = rw (le-ltb d n le) refl

  device-small : (c d : ℕ) → c < n → IsPlaced p present c d → device_seat n d ≤ 8
  device-small c d lt (inl (same, there)) = omega (arith, own-seat d (omega (arith, lt, same)))
  device-small c d lt (inr (le, most)) = omega (arith, spare-seat d le, most, few)

  -- what it makes of a column
  seats-device : (c d : ℕ) (spread : Bool) → c < n → IsPlaced p present c d → opened_seat p present n c spread (device_seat n d) ≡ column.Live d
  unfolding opened_seat
  seats-device c d spread lt (inl (same, there)) =
      let own : own_disk present c ≡ column.Live d = rw there (ap (λ (k : ℕ). column.Live k) (sym same)) in
      rw (own-seat d (omega (arith, lt, same))) own
  seats-device c d spread lt (inr (le, most)) =
      let s : ℕ = d + 1 - n in
      let zero-not : (s == 0) ≡ false = ne_eqb s 0 (λ e. omega (arith, e, le)) in
      let spread-not : (s == 254) ≡ false = ne_eqb s 254 (λ e. omega (arith, e, le, most, few)) in
      let spare : nat_le s p.spares ≡ true = le-leb s p.spares (omega (arith, le, most)) in
      let back : n + (s - 1) ≡ d = omega (arith, le) in
      rw (spare-seat d le, zero-not, spread-not, spare) (ap (λ (k : ℕ). column.Live k) back)

  seats-dead : (c : ℕ) (spread : Bool) → opened_seat p present n c spread 255 ≡ column.Dead
  unfolding opened_seat
  seats-dead c spread = rw (lt-leb 255 p.spares (omega (arith, few))) refl

  seats-spread : (c : ℕ) (spread : Bool) → p.level ≡ 68 → spread ≡ false → opened_seat p present n c spread 254 ≡ column.Spread
  unfolding opened_seat
  seats-spread c spread level first = rw (eq-eqb p.level 68 level, first) refl

  module _ (began : List Column) (r : Label) (round : IsRound p present began r) where
    -- none of the seats before a spread one is spread
    not-spread : (c : ℕ) (x : Column) → slice_get began c ≡ Some x → (x ≡ column.Spread → ⊥) → (seat_of n x == 254) ≡ false
    not-spread c x at isnt = go x (round.configured c x at) isnt
      where
        inside : c < n
        inside = omega (arith, slice_get_within began c x at, round.count)

        go : (x : Column) → IsConfigured p present c x → (x ≡ column.Spread → ⊥) → (seat_of n x == 254) ≡ false
        go (column.Live d) placed isnt = ne_eqb (device_seat n d) 254 (λ e. omega (arith, e, device-small c d inside placed))
        go column.Dead placed isnt = refl
        go (column.Filling d m) placed isnt = ne_eqb (device_seat n d) 254 (λ e. omega (arith, e, device-small c d inside placed))
        go column.Spread placed isnt = absurd (isnt refl)

    none-below : (xs : List Column) (ys : List ℕ) (c : ℕ) → c ≤ length xs → ((k : ℕ) (x : Column) → k < c → slice_get xs k ≡ Some x → (seat_of n x == 254) ≡ false)
        → list_any (λ seat. seat == 254) (take c (map (seat_of n) xs ++ ys)) ≡ false
    none-below xs ys zero le each = refl
    none-below [] ys (suc c) le each = absurd (omega arith)
    none-below (x ∷ xs) ys (suc c) le each =
        let rest = none-below xs ys c (omega (arith, le)) (λ k y lt at. each (suc k) y (omega (arith, lt)) at) in
        rw (each 0 x (omega arith) refl) rest

    seats-are : r.seats ≡ map (seat_of (length began)) began ++ replicate (32 - length began) 0
    seats-are = ap (λ (s : Seating). s.seats) round.seating

    seats-here : r.seats ≡ map (seat_of n) began ++ replicate (32 - length began) 0
    seats-here = seats-are ∙ ap (λ (k : ℕ). map (seat_of k) began ++ replicate (32 - length began) 0) round.count

    seat-here : (c : ℕ) (x : Column) → slice_get began c ≡ Some x → slice_index r.seats c ≡ seat_of n x
    seat-here c x at =
        ap (λ (s : List ℕ). slice_index s c) seats-here
        ∙ index-there (map (seat_of n) began) (replicate (32 - length began) 0) c (seat_of n x) (slice_get-map (seat_of n) began c ∙ ap (option_map (seat_of n)) at)

    spread-first : (c : ℕ) → slice_get began c ≡ Some column.Spread → is_spread_below r c ≡ false
    spread-first c at =
        ap (λ (s : List ℕ). list_any (λ seat. seat == 254) (take c s)) seats-here
        ∙ none-below began (replicate (32 - length began) 0) c (omega (arith, slice_get_within began c column.Spread at))
        (λ k x lt there. not-spread k x there (λ e. let same : k ≡ c = round.spread k c (there ∙ ap Some e) at in omega (arith, lt, same)))

    -- so its seat makes of each column what it was
    pub seated : (c : ℕ) (x : Column) → slice_get began c ≡ Some x → seat_at p present n r c ≡ unfilled x
    seated c x at = ap (opened_seat p present n c (is_spread_below r c)) (seat-here c x at) ∙ go x at (round.configured c x at)
      where
        inside : c < n
        inside = omega (arith, slice_get_within began c x at, round.count)

        go : (x : Column) → slice_get began c ≡ Some x → IsConfigured p present c x → opened_seat p present n c (is_spread_below r c) (seat_of n x) ≡ unfilled x
        go (column.Live d) at placed = seats-device c d (is_spread_below r c) inside placed
        go column.Dead at placed = seats-dead c (is_spread_below r c)
        go (column.Filling d m) at placed = seats-device c d (is_spread_below r c) inside placed
        go column.Spread at level = seats-spread c (is_spread_below r c) level (spread-first c at)
