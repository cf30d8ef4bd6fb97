-- Sectors by the places of their bytes.
use Rattle.std.proofs.Common.{◌≡◌, ◌≢◌, ◌<◌, ◌≤◌, ◌+◌, ◌*◌, ◌++◌, ◌⊎◌, [], ◌∷◌, ℕ, zero, suc, List, length, map, get_or, replicate, sym, ap, subst, ◌∙◌, arith, refl, inl, inr}
use Rattle.std.specs.List.{concat}
use Rattle.std.specs.Prelude.{slice_set}
use Rattle.std.proofs.lemmas.Bool.{cases_eq}
use Rattle.std.proofs.lemmas.List.{ext_get_or, get_or-map, get_or-set_same, get_or-set_other, length-map, length-set, replicate-append-replicate}
use Rattle.blk_disk.specs.Disk.{sector_at}
use Rattle.blk_disk.specs.Sectors.{put}
use Rattle.sector_store.specs.Places.{kept_at, AreWhole, AreKept, KeepsApart}
use Rattle.sector_store.proofs.Joined.{length-joined, sector-joined, put-joined}

abbrev pub chosen : List (List ℕ) → List ℕ → List (List ℕ)
chosen kept places = map (kept_at kept) places

module _ (kept : List (List ℕ)) (places : List ℕ) (room : ℕ) (h : AreKept kept places room) where
  chosen-is : (i : ℕ) → i < length places → kept_at (chosen kept places) i ≡ kept_at kept (get_or places i 0)
  chosen-is i lt = get_or-map (kept_at kept) places i 0 [] lt

  chosen-whole : AreWhole (chosen kept places)
  chosen-whole i lt =
      let within : i < length places = omega (arith, lt, length-map places (kept_at kept)) in
      ap length (chosen-is i within) ∙ h.whole (get_or places i 0) (h.there i within)

  pub length-chosen : length (concat (chosen kept places)) ≡ 512 * length places
  length-chosen = length-joined (chosen kept places) chosen-whole ∙ ap (λ (n : ℕ). 512 * n) (length-map places (kept_at kept))

  pub sector-chosen : (i : ℕ) → i < length places → sector_at (concat (chosen kept places)) i ≡ kept_at kept (get_or places i 0)
  sector-chosen i lt = sector-joined (chosen kept places) i chosen-whole (omega (arith, lt, length-map places (kept_at kept))) ∙ chosen-is i lt

  -- the bytes of one sector are kept anew
  module _ (new : List (List ℕ)) (at place : ℕ) (sector : List ℕ) (within : at < length places) (k : KeepsApart (length places) at kept sector new place) where
    apart : (i : ℕ) → i < length places → i ≢ at → get_or places i 0 ≢ length places + 1 + at
    apart i lt ne = λ e. elim (h.own i lt) [
      | inl first ↦ absurd (omega (arith, e, first))
      | inr own ↦ ne (omega (arith, e, own))
    ]

    each : (i : ℕ) → i < length places → kept_at (chosen new (slice_set places at place)) i ≡ kept_at (slice_set (chosen kept places) at sector) i
    each i lt =
        get_or-map (kept_at new) (slice_set places at place) i 0 [] (omega (arith, lt, length-set places at place))
        ∙ elim (cases_eq i at) [
          | inl is ↦ subst (λ (j : ℕ). kept_at new (get_or (slice_set places at place) j 0) ≡ kept_at (slice_set (chosen kept places) at sector) j) (sym is)
              (ap (kept_at new) (get_or-set_same places at place 0 within) ∙ (k.bytes ∙ sym (get_or-set_same (chosen kept places) at sector [] (omega (arith, within, length-map places (kept_at kept))))))
          | inr ne ↦ ap (kept_at new) (get_or-set_other places at i place 0 ne)
              ∙ (k.rest (get_or places i 0) (h.there i lt) (apart i lt ne) ∙ (sym (chosen-is i lt) ∙ sym (get_or-set_other (chosen kept places) at i sector [] ne)))
        ]

    pub put-chosen : length sector ≡ 512 → concat (chosen new (slice_set places at place)) ≡ put (concat (chosen kept places)) at sector
    put-chosen long =
        ap concat (ext_get_or [] (chosen new (slice_set places at place)) (slice_set (chosen kept places) at sector)
        (omega (arith, length-map (slice_set places at place) (kept_at new), length-set places at place, length-set (chosen kept places) at sector, length-map places (kept_at kept)))
        (λ i lt. each i (omega (arith, lt, length-map (slice_set places at place) (kept_at new), length-set places at place))))
        ∙ put-joined (chosen kept places) at sector chosen-whole long (omega (arith, within, length-map places (kept_at kept)))

    there : (i : ℕ) → i < length places → get_or (slice_set places at place) i 0 < length new
    there i lt = elim (cases_eq i at) [
      | inl is ↦ subst (λ (j : ℕ). get_or (slice_set places at place) j 0 < length new) (sym is) (subst (λ (p : ℕ). p < length new) (sym (get_or-set_same places at place 0 within)) k.there)
      | inr ne ↦ let same = get_or-set_other places at i place 0 ne in let was = h.there i lt in let longer = k.longer in omega (arith, same, was, longer)
    ]

    own : (i : ℕ) → i < length places → (get_or (slice_set places at place) i 0 ≤ length places) ⊎ (get_or (slice_set places at place) i 0 ≡ length places + 1 + i)
    own i lt = elim (cases_eq i at) [
      | inl is ↦ subst (λ (j : ℕ). (get_or (slice_set places at place) j 0 ≤ length places) ⊎ (get_or (slice_set places at place) j 0 ≡ length places + 1 + j)) (sym is)
          (subst (λ (p : ℕ). (p ≤ length places) ⊎ (p ≡ length places + 1 + at)) (sym (get_or-set_same places at place 0 within)) k.own)
      | inr ne ↦ subst (λ (p : ℕ). (p ≤ length places) ⊎ (p ≡ length places + 1 + i)) (sym (get_or-set_other places at i place 0 ne)) (h.own i lt)
    ]

    pub kept-chosen : (more : ℕ) → length new ≤ 2 * length places + 1 → room ≤ more → AreKept new (slice_set places at place) more
    kept-chosen more few larger =
        let same : length (slice_set places at place) ≡ length places = length-set places at place in
        record {
          most = let m = h.most in omega (arith, same, m);
          some = let s = h.some in let longer = k.longer in omega (arith, s, longer);
          few = omega (arith, same, few);
          whole = k.whole;
          there = λ i lt. there i (omega (arith, same, lt));
          own = λ i lt. subst (λ (n : ℕ). (get_or (slice_set places at place) i 0 ≤ n) ⊎ (get_or (slice_set places at place) i 0 ≡ n + 1 + i)) (sym same) (own i (omega (arith, same, lt)));
          room = let r = h.room in omega (arith, same, r, larger);
        }

-- so many sectors of zeros
pub zeros-chosen : (zeros : List ℕ) (count : ℕ) → zeros ≡ replicate 512 0 → concat (chosen (zeros ∷ []) (replicate count 0)) ≡ replicate (512 * count) 0
zeros-chosen zeros zero is = refl
zeros-chosen zeros (suc n) is =
    ap (λ (l : List ℕ). zeros ++ l) (zeros-chosen zeros n is)
    ∙ (ap (λ (l : List ℕ). l ++ replicate (512 * n) 0) is
    ∙ (replicate-append-replicate 512 (512 * n) 0
    ∙ ap (λ (k : ℕ). replicate k 0) (let e : 512 + 512 * n ≡ 512 * suc n = omega arith in e)))
