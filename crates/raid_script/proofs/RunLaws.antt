-- The runs of sectors are the maximal ones, and the only such list.
use Rattle.std.proofs.Common.{◌≡◌, ◌≢◌, ◌∙◌, ℕ, zero, suc, ◌+◌, ◌<◌, ◌≤◌, Bool, true, false, cond, List, [], ◌∷◌, ◌++◌, length, take, drop, get_or, replicate, refl, sym, ap, subst, arith, add-one, ⊎_elim}
use Rattle.std.specs.Prelude.{flat_map, bytes_eq, All}
use Rattle.std.proofs.lemmas.Slice.Eq.{bytes_eq-Decides}
use Rattle.std.proofs.lemmas.Bool.{cases_lt, false_from_ne_true, false≢true}
use Rattle.std.proofs.lemmas.List.{take-append-drop, length-take-le, length-replicate, get_or-take, get_or-replicate, get_or_default, same_lists, drop_more, drop_all}
use Rattle.raid_script.specs.Runs.{SectorRun, runs, EndsBefore, AreApart, AreRuns}
use Rattle.raid_script.specs.Steps.{joined}

abbrev pub Sector : Type 0
Sector = List ℕ

-- a run of so many of these
abbrev run_of : Sector → ℕ → SectorRun
run_of sector count = record { sector = sector; count = count }

-- all sectors of the runs
abbrev pub spread : List SectorRun → List Sector
spread all = flat_map (λ (run : SectorRun). replicate run.count run.sector) all

-- the first of these has other bytes
abbrev pub IsOther : Sector → List Sector → Type 0
IsOther sector [] = Unit {0}
IsOther sector (first ∷ others) = sector ≢ first

same_bytes : (s t : Sector) → s ≡ t → bytes_eq s t ≡ true
same_bytes s t e = (bytes_eq-Decides s t).1 e

other_bytes : (s t : Sector) → s ≢ t → bytes_eq s t ≡ false
other_bytes s t apart = false_from_ne_true _ (λ e. apart ((bytes_eq-Decides s t).0 e))

-- what is joined begins with that sector
joined_head : (s : Sector) (all : List SectorRun) → (n : ℕ) × (others : List SectorRun) × (joined s all ≡ run_of s n ∷ others)
joined_head s [] = (1, [], refl)
joined_head s (first ∷ rest) = pick (bytes_eq s first.sector)
  where
    pick : (b : Bool) → (n : ℕ) × (others : List SectorRun) × (cond b (run_of s (first.count + 1) ∷ rest) (run_of s 1 ∷ first ∷ rest) ≡ run_of s n ∷ others)
    pick true = (first.count + 1, rest, refl)
    pick false = (1, first ∷ rest, refl)

-- a sector before others
joined_other : (s : Sector) (tail : List Sector) → IsOther s tail → joined s (runs tail) ≡ run_of s 1 ∷ runs tail
joined_other s [] other = refl
joined_other s (t ∷ ts) other =
    let h = joined_head t (runs ts) in
    subst (λ (all : List SectorRun). joined s all ≡ run_of s 1 ∷ all) (sym h.2) (ap (λ (b : Bool). cond b (run_of s (h.0 + 1) ∷ h.1) (run_of s 1 ∷ run_of t h.0 ∷ h.1)) (other_bytes s t other))

-- equal sectors before others are one run
runs_of_repeat : (n : ℕ) (s : Sector) (tail : List Sector) → 0 < n → IsOther s tail → runs (replicate n s ++ tail) ≡ run_of s n ∷ runs tail
runs_of_repeat zero s tail some other = absurd (omega arith)
runs_of_repeat (suc zero) s tail some other = joined_other s tail other
runs_of_repeat (suc (suc n)) s tail some other =
    ap (λ (all : List SectorRun). joined s all) (runs_of_repeat (suc n) s tail (omega arith) other)
    ∙ (ap (λ (b : Bool). cond b (run_of s (suc n + 1) ∷ runs tail) (run_of s 1 ∷ run_of s (suc n) ∷ runs tail)) (same_bytes s s refl)
    ∙ ap (λ (k : ℕ). run_of s k ∷ runs tail) (add-one (suc n)))

-- the sectors from the first on that are equal to it, where the one behind them isn't
pub first_run : (sectors : List Sector) (n : ℕ) (d : Sector) → 0 < n → n ≤ length sectors
    → ((k : ℕ) (e : Sector) → k < n → get_or sectors k e ≡ get_or sectors 0 e)
    → ((e : Sector) → n < length sectors → get_or sectors n e ≢ get_or sectors 0 e)
    → runs sectors ≡ run_of (get_or sectors 0 d) n ∷ runs (drop n sectors)
first_run sectors n d some within equal maximal =
    ap runs (sym (take-append-drop n sectors) ∙ ap (λ (front : List Sector). front ++ drop n sectors) repeat)
    ∙ runs_of_repeat n (get_or sectors 0 d) (drop n sectors) some (⊎_elim inside past (cases_lt n (length sectors)))
  where
    same : (k : ℕ) (e : Sector) → k < n → get_or sectors k e ≡ get_or sectors 0 d
    same k e lt = equal k e lt ∙ get_or_default sectors 0 e d (omega arith)

    many : length (take n sectors) ≡ n
    many = length-take-le n sectors within

    repeat : take n sectors ≡ replicate n (get_or sectors 0 d)
    repeat =
        same_lists (take n sectors) (replicate n (get_or sectors 0 d)) (many ∙ sym (length-replicate n (get_or sectors 0 d)))
        (λ k e h. let lt : k < n = omega (arith, many) in
        get_or-take n sectors k e lt ∙ (same k e lt ∙ sym (get_or-replicate n k (get_or sectors 0 d) e lt)))

    inside : n < length sectors → IsOther (get_or sectors 0 d) (drop n sectors)
    inside lt = subst (λ (tail : List Sector). IsOther (get_or sectors 0 d) tail) (sym (drop_more sectors n d lt)) (λ e. maximal d lt (sym e))

    past : length sectors ≤ n → IsOther (get_or sectors 0 d) (drop n sectors)
    past le = subst (λ (tail : List Sector). IsOther (get_or sectors 0 d) tail) (sym (drop_all n sectors le)) tt

joined_are : (s : Sector) (sectors : List Sector) (all : List SectorRun) → AreRuns sectors all → AreRuns (s ∷ sectors) (joined s all)
joined_are s sectors [] are = record {
  whole = ap (λ (rest : List Sector). s ∷ rest) are.whole;
  some = λ k d h. first_count k d h;
  apart = (tt, tt);
}
  where
    first_count : (k : ℕ) (d : SectorRun) → k < 1 → 0 < (get_or (run_of s 1 ∷ []) k d).count
    first_count zero d h = omega arith
    first_count (suc k) d h = absurd (omega arith)
joined_are s sectors (first ∷ rest) are = pick (bytes_eq s first.sector) refl
  where
    longer : (k : ℕ) (d : SectorRun) → k < length (first ∷ rest) → 0 < (get_or (run_of s (first.count + 1) ∷ rest) k d).count
    longer zero d h = omega arith
    longer (suc k) d h = are.some (suc k) d h

    more : (k : ℕ) (d : SectorRun) → k < suc (length (first ∷ rest)) → 0 < (get_or (run_of s 1 ∷ first ∷ rest) k d).count
    more zero d h = omega arith
    more (suc k) d h = are.some k d (omega arith)

    ends : (others : List SectorRun) → s ≡ first.sector → EndsBefore first others → EndsBefore (run_of s (first.count + 1)) others
    ends [] e h = tt
    ends (next ∷ others) e h = λ same. h (sym e ∙ same)

    pick : (b : Bool) → bytes_eq s first.sector ≡ b → AreRuns (s ∷ sectors) (cond b (run_of s (first.count + 1) ∷ rest) (run_of s 1 ∷ first ∷ rest))
    pick true is =
        let e : s ≡ first.sector = (bytes_eq-Decides s first.sector).0 is in
        record {
          whole =
              ap (λ (k : ℕ). replicate k s ++ spread rest) (add-one first.count)
              ∙ ap (λ (tail : List Sector). s ∷ tail) (ap (λ (t : Sector). replicate first.count t ++ spread rest) e ∙ are.whole);
          some = longer;
          apart = (ends rest e are.apart.0, are.apart.1);
        }
    pick false is = record {
      whole = ap (λ (tail : List Sector). s ∷ tail) are.whole;
      some = more;
      apart = ((λ e. false≢true (sym is ∙ same_bytes s first.sector e)), are.apart);
    }

-- the runs are maximal
pub are_runs : (sectors : List Sector) → AreRuns sectors (runs sectors)
are_runs [] = record { whole = refl; some = λ k d h. absurd (omega arith); apart = tt }
are_runs (s ∷ sectors) = joined_are s sectors (runs sectors) (are_runs sectors)

other_repeat : (n : ℕ) (s t : Sector) (tail : List Sector) → 0 < n → s ≢ t → IsOther s (replicate n t ++ tail)
other_repeat zero s t tail some apart = absurd (omega arith)
other_repeat (suc n) s t tail some apart = apart

other_spread : (run : SectorRun) (others : List SectorRun) → EndsBefore run others → All (λ (r : SectorRun). 0 < r.count) others → IsOther run.sector (spread others)
other_spread run [] ends some = tt
other_spread run (next ∷ others) ends some = other_repeat next.count run.sector next.sector (spread others) (some 0 next (omega arith)) ends

from_spread : (all : List SectorRun) → All (λ (r : SectorRun). 0 < r.count) all → AreApart all → all ≡ runs (spread all)
from_spread [] some apart = refl
from_spread (run ∷ others) some apart =
    let rest : All (λ (r : SectorRun). 0 < r.count) others = λ k d h. some (suc k) d (omega arith) in
    ap (λ (tail : List SectorRun). run ∷ tail) (from_spread others rest apart.1)
    ∙ sym (runs_of_repeat run.count run.sector (spread others) (some 0 run (omega arith)) (other_spread run others apart.0 rest))

-- no other list of runs is that
pub only_runs : (sectors : List Sector) (all : List SectorRun) → AreRuns sectors all → all ≡ runs sectors
only_runs sectors all are = from_spread all are.some are.apart ∙ ap runs are.whole
