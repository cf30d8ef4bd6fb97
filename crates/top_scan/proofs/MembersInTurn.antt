-- The lines of the members of a set, by column.
use Rattle.std.proofs.Common.{◌≡◌, ◌∙◌, ℕ, ◌+◌, ◌-◌, ◌<◌, ◌≤◌, Bool, true, false, List, [], ◌++◌, Option, Some, None, length, get_or, nat_lt, refl, ap, arith}
use Rattle.std.specs.Prelude.{◌==◌, ◌&&◌, position}
use Rattle.std.specs.Option.{option_map_or}
use Rattle.std.specs.List.{position_or_len}
use Rattle.std.proofs.lemmas.Bool.{and_parts, eq-eqb, eqb-true, le-ltb, lt-ltb}
use Rattle.std.proofs.lemmas.List.Sums.{position_or_len_is}
use Rattle.raid_assemble.specs.declared.sets.Standing.{Standing}
use Rattle.raid_assemble.specs.declared.sets.Standing.TheVariants.{Member, Double, Foreign, Stale, Bare}
use Rattle.raid_text.specs.Text.{Text}
use Rattle.top_scan.specs.Lines.{member_text, named_line}
use Rattle.top_scan.specs.Steps.{member_front, name_at, standing_at, is_member_at}
use Rattle.top_scan.specs.Places.{HasColumnsBelow, IsNext, NoneFrom}
use Rattle.top_scan.specs.declared.members.Found.{Found}
use Rattle.top_scan.proofs.Printed.{from_place, place_more, place_none, places_skip}

-- ## The first place

pub position_at : {X : Type 0} (p : X → Bool) (xs : List X) (k : ℕ) (d : X) → k < length xs → p (get_or xs k d) ≡ true → ((j : ℕ) → j < k → p (get_or xs j d) ≡ false) → position p xs ≡ Some k
position_at p xs k d within is before =
    let first : position_or_len p xs ≡ k = position_or_len_is p xs k d (omega (arith, within)) (λ j lt. before j lt) (λ lt. is) in
    let less : nat_lt k (length xs) ≡ true = lt-ltb k (length xs) within in
    rw (first, less) refl

pub position_none : {X : Type 0} (p : X → Bool) (xs : List X) (d : X) → ((j : ℕ) → j < length xs → p (get_or xs j d) ≡ false) → position p xs ≡ None
position_none p xs d none =
    let past : position_or_len p xs ≡ length xs = position_or_len_is p xs (length xs) d (omega arith) (λ j lt. none j lt) (λ lt. absurd (omega (arith, lt))) in
    let full : nat_lt (length xs) (length xs) ≡ false = le-ltb (length xs) (length xs) (omega arith) in
    rw (past, full) refl

-- ## Members

is_member : (set column : ℕ) (s : Standing) → is_member_at set column s ≡ true → s ≡ Member set column
is_member set column (Member s c) h =
    let two = and_parts (s == set) (c == column) h in
    ap (λ (x : ℕ). Member x c) (eqb-true s set two.0) ∙ ap (λ (x : ℕ). Member set x) (eqb-true c column two.1)
is_member set column (Double s) h = cc h
is_member set column (Foreign s) h = cc h
is_member set column (Stale s) h = cc h
is_member set column Bare h = cc h

both : {a b : Bool} → a ≡ true → b ≡ true → (a && b) ≡ true
both x y = cc

member_is : (set column : ℕ) (s : Standing) → s ≡ Member set column → is_member_at set column s ≡ true
member_is set column s h = ap (is_member_at set column) h ∙ both (eq-eqb set set refl) (eq-eqb column column refl)

no_member : (set column : ℕ) (s : Standing) → (s ≡ Member set column → ⊥) → is_member_at set column s ≡ false
no_member set column s not = go (is_member_at set column s) refl
  where
    go : (b : Bool) → is_member_at set column s ≡ b → is_member_at set column s ≡ false
    go true e = absurd (not (is_member set column s e))
    go false e = e

module _ (names : List Text) (places : List Standing) (set : ℕ) where
  -- a column without a member has no line
  pub no_text : (column : ℕ)
      → ((place : ℕ) → place < length places → standing_at places place ≡ Member set column → ⊥)
      → member_text names places set column ≡ []
  unfolding member_text member_front
  no_text column none =
      let nowhere = position_none (is_member_at set column) places Bare (λ j lt. no_member set column (standing_at places j) (none j lt)) in
      ap (λ (o : Option ℕ). option_map_or (λ place. named_line (member_front column) (name_at names place)) o []) nowhere

  -- the first member of a column has its line
  pub its_text : (from : ℕ) (f : Found) → IsNext places set from (length places) f
      → member_text names places set f.column ≡ named_line (member_front f.column) (name_at names f.place)
  unfolding member_text member_front
  its_text from f is =
      let here = position_at (is_member_at set f.column) places f.place Bare is.within
      (member_is set f.column (standing_at places f.place) is.member)
      (λ j lt. no_member set f.column (standing_at places j) (is.first j lt)) in
      ap (λ (o : Option ℕ). option_map_or (λ place. named_line (member_front f.column) (name_at names place)) o []) here

  -- the next member has a column of the set
  pub next_below : (columns from : ℕ) (f : Found) → HasColumnsBelow places set columns
      → IsNext places set from (length places) f → f.column < columns
  next_below columns from f below is = below f.place f.column is.within is.member

  -- the line of the next member, and of those behind it
  pub member_more : (columns from : ℕ) (f : Found) → HasColumnsBelow places set columns
      → IsNext places set from (length places) f → from_place (member_text names places set) from columns
      ≡ named_line (member_front f.column) (name_at names f.place) ++ from_place (member_text names places set) (f.column + 1) columns
  member_more columns from f below is =
      let high : f.column < columns = next_below columns from f below is in
      let low = is.onward in
      let gap : from + (f.column - from) ≡ f.column = omega arith in
      let skip = places_skip (member_text names places set) (f.column - from) from columns (omega arith)
      (λ k least less. no_text k (λ place lt at. let most = is.least place k lt at least in absurd (omega (arith, most, less)))) in
      skip ∙ (ap (λ (k : ℕ). from_place (member_text names places set) k columns) gap
      ∙ (place_more (member_text names places set) f.column columns high
      ∙ ap (λ (t : List ℕ). t ++ from_place (member_text names places set) (f.column + 1) columns) (its_text from f is)))

  -- none is left
  pub member_none : (columns from : ℕ) → from ≤ columns → NoneFrom places set from (length places)
      → from_place (member_text names places set) from columns ≡ []
  member_none columns from low none =
      let gap : from + (columns - from) ≡ columns = omega arith in
      let skip = places_skip (member_text names places set) (columns - from) from columns (omega arith)
      (λ k least less. no_text k (λ place lt at. let below = none place k lt at in absurd (omega (arith, below, least)))) in
      skip ∙ (ap (λ (k : ℕ). from_place (member_text names places set) k columns) gap ∙ place_none (member_text names places set) columns columns (omega arith))
