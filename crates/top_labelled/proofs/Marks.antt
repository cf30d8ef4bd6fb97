-- What maps are marked before clients are served.
use Rattle.std.proofs.Common.{◌≡◌, ◌∙◌, ◌⊎◌, ℕ, ◌+◌, ◌/◌, ◌<◌, ◌≤◌, Bool, true, false, List, length, Option, None, refl, sym, ap, subst, inl, inr, arith}
use Rattle.std.specs.Prelude.{◌&&◌, ◌||◌, MatchBool, nat_lt, slice_index, if◌then◌else◌}
use Rattle.std.proofs.lemmas.Bool.{cases_lt, lt-ltb}
use Rattle.std.proofs.lemmas.List.{get_or_past}
use Rattle.graph_mean.specs.Graph.{View}
use Rattle.lay_core.specs.Layout.{Shape}
use Rattle.item_list.specs.ItemList.{ItemList}
use Rattle.eng_array.specs.declared.start.Start.{Start}
use Rattle.eng_cols.specs.declared.column.Column.{Column}
use Rattle.eng_cols.specs.Stripes.{are_spread, is_stripe_by, is_stripe_of, spreads, states_of}
use Rattle.eng_cols.proofs.Counting.{count-more, count-same, stripe-same}
use Rattle.eng_cols.proofs.Fewer.{states-spread}
use Rattle.raid_map.specs.Asking.{MarksAlso, ScriptMayWrite}
use Rattle.raid_map.specs.Regions.{Adds, IsBytesOf, IsMapOf, Marks as Map, bit_at, is_marked, region_of, regions_in}
use Rattle.raid_map.proofs.Spans.{also-none, also-same, also-then}
use Rattle.raid_map.proofs.Unions.{regions-few}
use Rattle.top_labelled.specs.Marked.{MarksOf, StripesFrom}
use Rattle.top_labelled.specs.Words.{MarksAsked, RebuildMayWrite}
use Rattle.lay_core.specs.Touched.{count_below}

-- ## Another map

or-parts : (a b : Bool) → (a || b) ≡ true → (a ≡ true) ⊎ (b ≡ true)
or-parts true b h = inl refl
or-parts false b h = inr h

or-both : (a b : Bool) → (a ≡ true) ⊎ (b ≡ true) → (a || b) ≡ true
or-both true b h = refl
or-both false b (inl h) = absurd (let z : false ≡ true = h in let u : ⊥ = cc in u)
or-both false b (inr h) = h

not-marked : {A : Type 0} (marks : List Bool) (r : ℕ) → length marks ≤ r → is_marked marks r ≡ true → A
not-marked marks r far h = let z : false ≡ true = sym (get_or_past marks r false far) ∙ h in absurd (let u : ⊥ = cc in u)

module _ (other old new : Map) (sector : List ℕ) (stripes : other.stripes ≡ old.stripes) (serial : other.serial ≡ old.serial) (whole : length other.marks ≡ regions_in other.stripes) (bytes : IsBytesOf other sector) where
  -- the sector is a map of the same array
  is-map : IsMapOf old sector
  is-map = (
    is_marked other.marks,
    record {
      magic = bytes.magic;
      serial_is = bytes.serial_is ∙ serial;
      region_is = bytes.region_is ∙ ap region-size stripes;
      bits = λ r few. bytes.bits r few ∙ ap (λ n. nat_lt r (regions_in n) && is_marked other.marks r) stripes;
    },
  )
    where
      region-size : ℕ → ℕ
      region-size n = (n + 3967) / 3968

  module _ (adds : Adds old new sector) where
    abbrev same-count : length other.marks ≡ length old.marks
    same-count = whole ∙ (ap regions_in stripes ∙ sym adds.whole)

    bit-is : (r : ℕ) → r < length old.marks → bit_at (slice_index sector) r ≡ is_marked other.marks r
    bit-is r within =
        let few = regions-few old.stripes adds.some in
        let all = adds.whole in
        let below : r < regions_in other.stripes = omega (arith, within, whole, same-count) in
        bytes.bits r (omega (arith, within, all, few)) ∙ ap (λ b. b && is_marked other.marks r) (lt-ltb r (regions_in other.stripes) below)

    region-is : (r : ℕ) → r < length old.marks → is_marked new.marks r ≡ (is_marked old.marks r || is_marked other.marks r)
    region-is r within = adds.marks r within ∙ ap (λ b. is_marked old.marks r || b) (bit-is r within)

    to : (r : ℕ) → is_marked new.marks r ≡ true → (is_marked old.marks r ≡ true) ⊎ (is_marked other.marks r ≡ true)
    to r h = elim (cases_lt r (length old.marks)) [
      | inl within ↦ or-parts (is_marked old.marks r) (is_marked other.marks r) (sym (region-is r within) ∙ h)
      | inr far ↦ not-marked new.marks r (let same = adds.count in omega (arith, far, same)) h
    ]

    back : (r : ℕ) → (is_marked old.marks r ≡ true) ⊎ (is_marked other.marks r ≡ true) → is_marked new.marks r ≡ true
    back r h = elim (cases_lt r (length old.marks)) [
      | inl within ↦ region-is r within ∙ or-both (is_marked old.marks r) (is_marked other.marks r) h
      | inr far ↦ elim h [
        | inl was ↦ not-marked old.marks r far was
        | inr too ↦ not-marked other.marks r (omega (arith, far, same-count)) too
      ]
    ]

    marks-of : MarksOf other old new
    marks-of = record { stripes = adds.stripes; serial = adds.serial; count = adds.count; marks = λ r. (to r, back r) }

  -- it was added, since it is a map of the array
  pub adds-other : (found : Bool) → MatchBool found (IsMapOf old sector) (IsMapOf old sector → ⊥) → (found ≡ true → Adds old new sector) → MarksOf other old new
  adds-other true is added = marks-of (added refl)
  adds-other false is added = absurd (is is-map)

-- ## The stripes of a rebuild

-- of the numbers that pass, those behind the first so many, and so many of these
pub record AreFrom (p : ℕ → Bool) (done most s : ℕ) : Type 0 where
  pub passes : p s ≡ true
  pub past : done ≤ count_below p s
  pub few : count_below p s < done + most

-- those of them that come before number n
abbrev pub FromBelow : (ℕ → Bool) → (done most n s : ℕ) → Type 0
FromBelow p done most n s = (s < n) × AreFrom p done most s

-- How many were passed over, and marked, of `count` that pass: at first all are passed over; then all are marked; then none is.
abbrev pub AreCounted : (done most passed marked count : ℕ) → Type 0
AreCounted done most passed marked count = ((passed < done) × (marked ≡ 0) × (count ≡ passed))
    ⊎ (((passed ≡ done) × (marked < most) × (count ≡ passed + marked)) ⊎ ((passed ≡ done) × (marked ≡ most) × (passed + marked ≤ count)))

-- where so many were passed over
counted-past : (done most passed marked count : ℕ) → passed ≡ done → marked ≤ most → count ≡ passed + marked → AreCounted done most passed marked count
counted-past done most passed marked count past few is = elim (cases_lt marked most) [
  | inl more ↦ inr (inl (past, more, is))
  | inr all ↦ inr (inr (past, omega (arith, few, all), omega (arith, is)))
]

pub counted-none : (done most : ℕ) → AreCounted done most 0 0 0
counted-none done most = elim (cases_lt 0 done) [
  | inl some ↦ inl (some, refl, refl)
  | inr none ↦ counted-past done most 0 0 0 (omega (arith, none)) (omega arith) refl
]

-- one more that passes
pub counted-passed : (done most passed marked count : ℕ) → passed < done → AreCounted done most passed marked count → AreCounted done most (passed + 1) marked (count + 1)
counted-passed done most passed marked count more (inl h) = elim (cases_lt (passed + 1) done) [
  | inl still ↦ inl (still, h.1, omega (arith, h.2))
  | inr through ↦ counted-past done most (passed + 1) marked (count + 1) (omega (arith, through, more)) (omega (arith, h.1)) (omega (arith, h.1, h.2))
]
counted-passed done most passed marked count more (inr (inl h)) = absurd (omega (arith, more, h.0))
counted-passed done most passed marked count more (inr (inr h)) = absurd (omega (arith, more, h.0))

pub counted-marked : (done most passed marked count : ℕ) → done ≤ passed → marked < most → AreCounted done most passed marked count → AreCounted done most passed (marked + 1) (count + 1)
counted-marked done most passed marked count past more (inl h) = absurd (omega (arith, past, h.0))
counted-marked done most passed marked count past more (inr (inl h)) = counted-past done most passed (marked + 1) (count + 1) h.0 (omega (arith, more)) (omega (arith, h.2))
counted-marked done most passed marked count past more (inr (inr h)) = absurd (omega (arith, more, h.1))

pub counted-through : (done most passed marked count : ℕ) → done ≤ passed → most ≤ marked → AreCounted done most passed marked count → AreCounted done most passed marked (count + 1)
counted-through done most passed marked count past all (inl h) = absurd (omega (arith, past, h.0))
counted-through done most passed marked count past all (inr (inl h)) = absurd (omega (arith, all, h.1))
counted-through done most passed marked count past all (inr (inr h)) = inr (inr (h.0, h.1, omega (arith, h.2)))

abbrev one_where : Bool → ℕ
one_where b = if b then 1 else 0

module _ (p : ℕ → Bool) (done most n : ℕ) where
  pub count-skip : p n ≡ false → count_below p (n + 1) ≡ count_below p n
  count-skip h = let e : count_below p (n + 1) ≡ count_below p n + one_where (p n) = count-more p n (n + 1) (omega arith) in let z : one_where (p n) ≡ 0 = ap one_where h in omega (arith, e, z)

  pub count-one : p n ≡ true → count_below p (n + 1) ≡ count_below p n + 1
  count-one h = let e : count_below p (n + 1) ≡ count_below p n + one_where (p n) = count-more p n (n + 1) (omega arith) in let z : one_where (p n) ≡ 1 = ap one_where h in omega (arith, e, z)

  -- none of those that are to be marked
  pub not-from : (passed marked : ℕ) → AreCounted done most passed marked (count_below p n) → (passed < done) ⊎ (most ≤ marked) → AreFrom p done most n → ⊥
  not-from passed marked (inl h) why from = let past = from.past in omega (arith, past, h.0, h.2)
  not-from passed marked (inr (inl h)) (inl less) from = omega (arith, less, h.0)
  not-from passed marked (inr (inl h)) (inr all) from = omega (arith, all, h.1)
  not-from passed marked (inr (inr h)) why from = let few = from.few in omega (arith, few, h.0, h.1, h.2)

  -- one of them
  pub is-from : (passed marked : ℕ) → p n ≡ true → done ≤ passed → marked < most → AreCounted done most passed marked (count_below p n) → AreFrom p done most n
  is-from passed marked is past more (inl h) = absurd (omega (arith, past, h.0))
  is-from passed marked is past more (inr (inl h)) = record { passes = is; past = omega (arith, h.0, h.2); few = omega (arith, h.0, h.2, more) }
  is-from passed marked is past more (inr (inr h)) = absurd (omega (arith, more, h.1))

  -- ### The regions of those below n

  pub from-skip : (old new : Map) → (AreFrom p done most n → ⊥) → MarksAlso (FromBelow p done most n) old new → MarksAlso (FromBelow p done most (n + 1)) old new
  from-skip old new none m = also-same (FromBelow p done most n) (FromBelow p done most (n + 1)) old new (λ s within h. (omega (arith, h.0), h.1))
      (λ s within h. elim (cases_lt s n) [
        | inl before ↦ (before, h.1)
        | inr at ↦ absurd (none (subst (AreFrom p done most) (let e : s ≡ n = omega (arith, at, h.0) in e) h.1))
      ]) m

  pub from-one : (old mid new : Map) → AreFrom p done most n → MarksAlso (FromBelow p done most n) old mid → MarksAlso (λ t. t ≡ n) mid new → MarksAlso (FromBelow p done most (n + 1)) old new
  from-one old mid new is was one = also-same (λ s. FromBelow p done most n s ⊎ (s ≡ n)) (FromBelow p done most (n + 1)) old new to
      (λ s within h. elim (cases_lt s n) [
        | inl before ↦ inl (before, h.1)
        | inr at ↦ inr (omega (arith, at, h.0))
      ]) (also-then (FromBelow p done most n) (λ t. t ≡ n) old mid new was one)
    where
      to : (s : ℕ) → s < old.stripes → FromBelow p done most n s ⊎ (s ≡ n) → FromBelow p done most (n + 1) s
      to s within (inl h) = (omega (arith, h.0), h.1)
      to s within (inr e) = (omega (arith, e), subst (AreFrom p done most) (sym e) is)

pub from-none : (p : ℕ → Bool) (done most : ℕ) (old : Map) → MarksAlso (FromBelow p done most 0) old old
from-none p done most old = also-none (FromBelow p done most 0) old (λ s within h. omega (arith, h.0))

-- all of them
pub from-all : (y : Shape) (columns : List Column) (c done most n : ℕ) (old new : Map) → old.stripes ≡ y.stripes → n ≡ y.stripes → MarksAlso (FromBelow (is_stripe_by y (spreads columns) c) done most n) old new → MarksAlso (StripesFrom y (states_of y columns) c done most) old new
from-all y columns c done most n old new same end m = also-same (FromBelow (is_stripe_by y (spreads columns) c) done most n) (StripesFrom y (states_of y columns) c done most) old new
    (λ s within h. record { of_column = sym (stripe s) ∙ h.1.passes; past = let z = h.1.past in omega (arith, z, counts s); few = let z = h.1.few in omega (arith, z, counts s) })
    (λ s within h. (omega (arith, within, same, end), record { passes = stripe s ∙ h.of_column; past = let z = h.past in omega (arith, z, counts s); few = let z = h.few in omega (arith, z, counts s) })) m
  where
    stripe : (s : ℕ) → is_stripe_by y (spreads columns) c s ≡ is_stripe_of y (states_of y columns) c s
    stripe s = stripe-same y (spreads columns) (are_spread (states_of y columns)) c s (λ j. sym (states-spread y columns j))

    counts : (s : ℕ) → count_below (is_stripe_by y (spreads columns) c) s ≡ count_below (is_stripe_of y (states_of y columns) c) s
    counts s = count-same (is_stripe_by y (spreads columns) c) (is_stripe_of y (states_of y columns) c) s stripe

-- ## All that is marked

pub asks-none : (y : Shape) (columns : List Column) (old : Map) → MarksAlso (RebuildMayWrite y columns None) old old
asks-none y columns old = also-none (RebuildMayWrite y columns None) old (λ s within h. h)

pub marks-asked : (y : Shape) (file : ℕ → View) (clients : List ItemList) (columns : List Column) (how : Option Start) (union old one two new : Map) → MarksOf union old one → MarksAlso (ScriptMayWrite y file clients) one two → MarksAlso (RebuildMayWrite y columns how) two new
    → MarksAsked y file clients columns how union old new
marks-asked y file clients columns how union old one two new first second third = record {
  stripes = both.stripes_same ∙ first.stripes;
  serial = both.serial ∙ first.serial;
  marks = λ r. (to r, back r);
}
  where
    Asked : ℕ → Type 0
    Asked s = ScriptMayWrite y file clients s ⊎ RebuildMayWrite y columns how s

    both : MarksAlso Asked one new
    both = also-then (ScriptMayWrite y file clients) (RebuildMayWrite y columns how) one two new second third

    Of : ℕ → Type 0
    Of r = (s : ℕ) × (s < old.stripes) × Asked s × (region_of old.stripes s ≡ r)

    to : (r : ℕ) → is_marked new.marks r ≡ true → (is_marked old.marks r ≡ true) ⊎ ((is_marked union.marks r ≡ true) ⊎ Of r)
    to r is = elim ((both.marks r).0 is) [
      | inl was ↦ elim ((first.marks r).0 was) [ inl before ↦ inl before | inr other ↦ inr (inl other) ]
      | inr z ↦ inr (inr (z.0, subst (λ n. z.0 < n) first.stripes z.1, z.2, sym (ap (λ n. region_of n z.0) first.stripes) ∙ z.3))
    ]

    back : (r : ℕ) → (is_marked old.marks r ≡ true) ⊎ ((is_marked union.marks r ≡ true) ⊎ Of r) → is_marked new.marks r ≡ true
    back r (inl was) = (both.marks r).1 (inl ((first.marks r).1 (inl was)))
    back r (inr (inl other)) = (both.marks r).1 (inl ((first.marks r).1 (inr other)))
    back r (inr (inr z)) = (both.marks r).1 (inr (z.0, subst (λ n. z.0 < n) (sym first.stripes) z.1, z.2, ap (λ n. region_of n z.0) first.stripes ∙ z.3))
