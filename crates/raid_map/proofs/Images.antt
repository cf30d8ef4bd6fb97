-- An image that differs from what the devices hold in one stripe alone.
use Rattle.std.proofs.Common.{◌≡◌, ◌<◌, ◌≤◌, ◌+◌, ◌-◌, ◌*◌, ◌⊎◌, inl, inr, ℕ, zero, suc, List, Bool, true, false, Option, Some, None, refl, sym, ◌∙◌, ap, subst, arith, rules}
use Rattle.std.specs.Prelude.{◌&&◌, ◌||◌, ◌==◌, if◌then◌else◌, nat_lt, nat_le}
use Rattle.std.proofs.lemmas.Bool.{cases_eq, cases_Bool, and_parts, cond-true, cond-false}
use Rattle.lay_core.specs.Layout.{Shape, IsLayout}
use Rattle.eng_cols.specs.declared.spot.Spot.{Spot}
use Rattle.eng_cols.specs.Cols.{ColumnState}
use Rattle.eng_cols.specs.Seats.{is_available, seat}
use Rattle.eng_cols.specs.Contents.{Contents, sector_at, byte_of}
use Rattle.eng_cols.proofs.Sums.{below_same}
use Rattle.eng_cols.proofs.Spots.{available-seat, same-place}
use Rattle.raid_map.specs.Stops.{Stored, SameSector, MayHold, IsImage}
use Rattle.raid_map.specs.Union.{IsUnsound}
use Rattle.raid_map.proofs.Sited.{IsPlaceOf, of_unit, of_spare}
use Rattle.raid_map.proofs.Holding.{may-same}
use Rattle.eng_cols.proofs.Words.{byte_if}

-- ## One stripe has a place

pub one-stripe : (y : Shape) → IsLayout y → (s t c r : ℕ) → s < y.stripes → t < y.stripes → IsPlaceOf y s c r → IsPlaceOf y t c r → s ≡ t
one-stripe y l s t c r sw tw (of_unit i iw ic ir) (of_unit j jw jc jr) = (l.one_to_one s t i j sw tw iw jw (same-place (y.place s i) (y.place t j) (ic ∙ sym jc) (ir ∙ sym jr))).0
one-stripe y l s t c r sw tw (of_unit i iw ic ir) (of_spare p is pc pr) = absurd (l.spare_apart t s i p tw sw iw is (same-place (y.place s i) p (ic ∙ sym pc) (ir ∙ sym pr)))
one-stripe y l s t c r sw tw (of_spare p is pc pr) (of_unit j jw jc jr) = absurd (l.spare_apart s t j p sw tw jw is (same-place (y.place t j) p (jc ∙ sym pc) (jr ∙ sym pr)))
one-stripe y l s t c r sw tw (of_spare p is pc pr) (of_spare q js qc qr) = l.spare_one_to_one s t p sw tw is (js ∙ ap Some (same-place q p (qc ∙ sym pc) (qr ∙ sym pr)))

-- ## Whether a sector is one of a stripe's

any_below : (ℕ → Bool) → ℕ → Bool
any_below p zero = false
any_below p (suc n) = p n || any_below p n

any-has : (p : ℕ → Bool) (n i : ℕ) → i < n → p i ≡ true → any_below p n ≡ true
unfolding any_below
any-has p zero i iw h = absurd (omega (arith, iw))
any-has p (suc n) i iw h = elim (cases_eq i n) [
  | inl e ↦ ap (λ b. b || any_below p n) (ap p (sym e) ∙ h)
  | inr ne ↦ or-of (p n) (any_below p n) (any-has p n i (omega (arith, iw, ne)) h)
]
  where
    or-of : (a b : Bool) → b ≡ true → (a || b) ≡ true
    or-of true b h = refl
    or-of false b h = h

any-found : (p : ℕ → Bool) (n : ℕ) → any_below p n ≡ true → (i : ℕ) × (i < n) × (p i ≡ true)
unfolding any_below
any-found p zero h = absurd (let z : false ≡ true = h in let u : ⊥ = cc in u)
any-found p (suc n) h = elim (cases_Bool (p n)) [
  | inl is ↦ (n, omega arith, is)
  | inr not ↦ let f = any-found p n (sym (ap (λ b. b || any_below p n) not) ∙ h) in (f.0, (let l = f.1 in omega (arith, l)), f.2)
]

sits : Shape → ℕ → ℕ → Option Spot → Bool
sits y d n None = false
sits y d n (Some at) = (at.device == d) && (nat_le (64 + at.row * y.unit_sectors) n && nat_lt n (64 + at.row * y.unit_sectors + y.unit_sectors))

-- the sector is one of a unit of the stripe, where that has its seat
has_sector : Shape → List ColumnState → ℕ → ℕ → ℕ → Bool
has_sector y cols s d n = any_below (λ i. sits y d n (seat y cols s i)) y.width

sits-so : (y : Shape) (at : Spot) (o : ℕ) → o < y.unit_sectors → sits y at.device (sector_at y at o) (Some at) ≡ true
unfolding sits
sits-so y at o ow = search rules

sits-is : (y : Shape) (d n : ℕ) (at : Spot) → sits y d n (Some at) ≡ true → (at.device ≡ d) × (o : ℕ) × (o < y.unit_sectors) × (n ≡ sector_at y at o)
unfolding sits
sits-is y d n at h =
    let p = and_parts (at.device == d) _ h in
    let q = and_parts (nat_le (64 + at.row * y.unit_sectors) n) _ p.1 in
    let a : at.device ≡ d = search rules in
    let b : 64 + at.row * y.unit_sectors ≤ n = search rules in
    let c : n < 64 + at.row * y.unit_sectors + y.unit_sectors = search rules in
    (a, n - (64 + at.row * y.unit_sectors), omega (arith, b, c), omega (arith, b))

-- ## The image

-- what one image has in the stripe's sectors, and elsewhere what another has
pub picked : Shape → List ColumnState → ℕ → Contents → Contents → Contents
picked y cols s image other d n k = if has_sector y cols s d n then image d n k else other d n k

-- each of the stripe's sectors may be left as the image has it
abbrev pub StripeMay : Shape → List ColumnState → ℕ → (ℕ → Stored) → Contents → Type 0
StripeMay y cols s stored image = (i o : ℕ) (at : Spot) → i < y.width → o < y.unit_sectors → seat y cols s i ≡ Some at → MayHold (stored at.device) (sector_at y at o) (image at.device (sector_at y at o))

module _ (y : Shape) (cols : List ColumnState) (s : ℕ) (image other : Contents) where
  pub picked-image : (stored : ℕ → Stored) → IsImage stored other → StripeMay y cols s stored image → IsImage stored (picked y cols s image other)
  unfolding picked has_sector sits
  picked-image stored may-other may d n = elim (cases_Bool (has_sector y cols s d n)) [
    | inr h ↦ may-same (stored d) n (picked y cols s image other d n) (other d n) (λ k kw. cond-false (has_sector y cols s d n) _ _ h) (may-other d n)
    | inl h ↦ may-same (stored d) n (picked y cols s image other d n) (image d n) (λ k kw. cond-true (has_sector y cols s d n) _ _ h)
        (let f = any-found (λ i. sits y d n (seat y cols s i)) y.width h in here f.0 f.1 (seat y cols s f.0) refl f.2)
  ]
    where
      none-sits : {A : Type 0} → sits y d n None ≡ true → A
      none-sits h = absurd (let z : false ≡ true = h in let u : ⊥ = cc in u)

      here : (i : ℕ) → i < y.width → (o : Option Spot) → seat y cols s i ≡ o → sits y d n o ≡ true → MayHold (stored d) n (image d n)
      here i iw None is h = none-sits h
      here i iw (Some at) is h =
          let q = sits-is y d n at h in
          subst (λ z. MayHold (stored z) n (image z n)) q.0 (subst (λ z. MayHold (stored at.device) z (image at.device z)) (sym q.3) (may i q.1 at iw q.2 is))

  -- sector 1 is none of the stripe's
  pub picked-map : (d : ℕ) → SameSector (picked y cols s image other d 1) (other d 1)
  unfolding picked has_sector sits
  picked-map d k kw = cond-false (has_sector y cols s d 1) _ _ (apart (cases_Bool (has_sector y cols s d 1)))
    where
      high : (i : ℕ) (o : Option Spot) → sits y d 1 o ≡ true → ⊥
      high i None h = let z : false ≡ true = h in let u : ⊥ = cc in u
      high i (Some at) h = let q = sits-is y d 1 at h in let e = q.3 in omega (arith, e)

      apart : (has_sector y cols s d 1 ≡ true) ⊎ (has_sector y cols s d 1 ≡ false) → has_sector y cols s d 1 ≡ false
      apart (inr h) = h
      apart (inl h) = let f = any-found (λ i. sits y d 1 (seat y cols s i)) y.width h in absurd (high f.0 (seat y cols s f.0) f.2)

  pub byte-here : (contents : Contents) (i o k : ℕ) (at : Spot) → is_available y cols s i ≡ true → seat y cols s i ≡ Some at → byte_of y contents cols s i o k ≡ contents at.device (sector_at y at o) k
  byte-here contents i o k at av is = ap (λ z. byte_if y contents z o k) (cond-true (is_available y cols s i) _ _ av ∙ is)

  picked-byte : (i o k : ℕ) → i < y.width → o < y.unit_sectors → is_available y cols s i ≡ true → byte_of y (picked y cols s image other) cols s i o k ≡ byte_of y image cols s i o k
  unfolding picked has_sector
  picked-byte i o k iw ow av =
      let a = available-seat y cols s i av in
      byte-here (picked y cols s image other) i o k a.0 av a.1
      ∙ cond-true (has_sector y cols s a.0.device (sector_at y a.0 o)) _ _ (any-has (λ j. sits y a.0.device (sector_at y a.0 o) (seat y cols s j)) y.width i iw (ap (sits y a.0.device (sector_at y a.0 o)) a.1 ∙ sits-so y a.0 o ow))
      ∙ sym (byte-here image i o k a.0 av a.1)

  -- the stripe is as unsound in what is picked as in the image
  pub picked-unsound : IsUnsound y cols image s → IsUnsound y cols (picked y cols s image other) s
  picked-unsound u = record {
    stripe = u.stripe;
    checked = u.checked;
    complete = u.complete;
    offset = u.offset;
    byte = u.byte;
    within = u.within;
    of_sector = u.of_sector;
    differs = λ z. u.differs (below_same (λ i. byte_of y image cols s i u.offset u.byte) (λ i. byte_of y (picked y cols s image other) cols s i u.offset u.byte) y.width
        (λ i iw. sym (picked-byte i u.offset u.byte iw u.within (u.complete i iw))) ∙ z);
  }
