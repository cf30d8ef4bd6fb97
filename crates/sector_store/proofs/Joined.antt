-- Whole sectors, one behind the other.
use Rattle.std.proofs.Common.{◌≡◌, ◌<◌, ◌≤◌, ◌+◌, ◌*◌, ◌++◌, [], ◌∷◌, ℕ, zero, suc, List, length, get_or, take, drop, sym, ap, ◌∙◌, arith, refl}
use Rattle.std.specs.List.{concat}
use Rattle.std.specs.Prelude.{slice_set}
use Rattle.std.proofs.Math.Seq.{take-append-add, drop-append-add}
use Rattle.std.proofs.lemmas.List.{append_assoc, drop_more, length-append, set_split, take_at}
use Rattle.std.proofs.lemmas.List.Folds.{concat-append}
use Rattle.blk_disk.specs.Disk.{sector_at}
use Rattle.blk_disk.specs.Sectors.{put}
use Rattle.sector_store.specs.Places.{kept_at, AreWhole}

rest-whole : (x : List ℕ) (xs : List (List ℕ)) → AreWhole (x ∷ xs) → AreWhole xs
rest-whole x xs whole = λ p lt. whole (suc p) (omega (arith, lt))

pub length-joined : (xs : List (List ℕ)) → AreWhole xs → length (concat xs) ≡ 512 * length xs
length-joined [] whole = refl
length-joined (x ∷ xs) whole =
    let one : length x ≡ 512 = whole 0 (omega arith) in
    let rest : length (concat xs) ≡ 512 * length xs = length-joined xs (rest-whole x xs whole) in
    omega (arith, length-append x (concat xs), one, rest)

drop-joined : (n : ℕ) (xs : List (List ℕ)) → AreWhole xs → n ≤ length xs → drop (512 * n) (concat xs) ≡ concat (drop n xs)
drop-joined zero xs whole le = refl
drop-joined (suc n) [] whole le = absurd (omega (arith, le))
drop-joined (suc n) (x ∷ xs) whole le =
    let one : length x ≡ 512 = whole 0 (omega arith) in
    ap (λ (k : ℕ). drop k (x ++ concat xs)) (let e : 512 * suc n ≡ length x + 512 * n = omega (arith, one) in e)
    ∙ (drop-append-add x (concat xs) (512 * n) ∙ drop-joined n xs (rest-whole x xs whole) (omega (arith, le)))

take-joined : (n : ℕ) (xs : List (List ℕ)) → AreWhole xs → n ≤ length xs → take (512 * n) (concat xs) ≡ concat (take n xs)
take-joined zero xs whole le = refl
take-joined (suc n) [] whole le = absurd (omega (arith, le))
take-joined (suc n) (x ∷ xs) whole le =
    let one : length x ≡ 512 = whole 0 (omega arith) in
    ap (λ (k : ℕ). take k (x ++ concat xs)) (let e : 512 * suc n ≡ length x + 512 * n = omega (arith, one) in e)
    ∙ (take-append-add x (concat xs) (512 * n) ∙ ap (λ (l : List ℕ). x ++ l) (take-joined n xs (rest-whole x xs whole) (omega (arith, le))))

-- a sector of them
pub sector-joined : (xs : List (List ℕ)) (i : ℕ) → AreWhole xs → i < length xs → sector_at (concat xs) i ≡ kept_at xs i
unfolding sector_at
sector-joined xs i whole lt =
    ap (λ (l : List ℕ). take 512 l) (drop-joined i xs whole (omega (arith, lt)))
    ∙ (ap (λ (l : List (List ℕ)). take 512 (concat l)) (drop_more xs i [] lt)
    ∙ take_at (get_or xs i []) (concat (drop (i + 1) xs)) 512 (whole i lt))

-- another in the place of one
pub put-joined : (xs : List (List ℕ)) (i : ℕ) (x : List ℕ) → AreWhole xs → length x ≡ 512 → i < length xs → concat (slice_set xs i x) ≡ put (concat xs) i x
put-joined xs i x whole long lt =
    ap concat (set_split xs i x lt)
    ∙ (concat-append (take i xs) (x ∷ drop (suc i) xs)
    ∙ (sym (append_assoc (concat (take i xs)) x (concat (drop (suc i) xs)))
    ∙ (ap (λ (l : List ℕ). l ++ x ++ concat (drop (suc i) xs)) (sym (take-joined i xs whole (omega (arith, lt))))
    ∙ ap (λ (l : List ℕ). take (512 * i) (concat xs) ++ x ++ l) (sym (drop-joined (suc i) xs whole (omega (arith, lt))) ∙ ap (λ (k : ℕ). drop k (concat xs)) (let e : 512 * suc i ≡ 512 * i + length x = omega (arith, long) in e)))))
