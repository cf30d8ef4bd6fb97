-- The sectors of a part of bytes.
use Rattle.std.proofs.Common.{◌≡◌, ◌≢◌, ◌∙◌, ℕ, zero, suc, ◌+◌, ◌-◌, ◌*◌, ◌/◌, ◌<◌, ◌≤◌, List, [], ◌++◌, length, take, drop, get_or, refl, sym, ap, arith}
use Rattle.std.specs.Simd.{first_chunks}
use Rattle.std.proofs.Math.Seq.{take-add}
use Rattle.std.proofs.lemmas.List.{drop-drop, get_or-drop, length-drop, length-take, same_lists}
use Rattle.std.proofs.lemmas.List.Sums.{sum_by-append}
use Rattle.blk_disk.specs.Disk.{sector_at}
use Rattle.blk_disk.specs.Sectors.{sector_at-part}
use Rattle.sector_store.proofs.Putting.{chunk-is}
use Rattle.raid_script.specs.Blocks.{blocks_text}
use Rattle.raid_script.specs.Steps.{block_line, sectors_of, bytes_from, byte_sum}
use Rattle.raid_script.proofs.Printed.{blocks_more}

-- the sectors of so many, from one on
abbrev pub part : List ℕ → ℕ → ℕ → List (List ℕ)
part bytes from count = sectors_of (bytes_from bytes from count)

length-chunks : (k : ℕ) (bytes : List ℕ) → length (first_chunks 512 k bytes) ≡ k
length-chunks zero bytes = refl
length-chunks (suc k) bytes = ap suc (length-chunks k (drop 512 bytes))

module _ (bytes : List ℕ) (from count : ℕ) (there : 512 * from + 512 * count ≤ length bytes) where
  length-bytes : length (bytes_from bytes from count) ≡ 512 * count
  length-bytes = omega (arith, length-take (512 * count) (drop (512 * from) bytes), length-drop (512 * from) bytes, there)

  pub length-part : length (part bytes from count) ≡ count
  length-part = length-chunks (length (bytes_from bytes from count) / 512) (bytes_from bytes from count) ∙ omega (arith, length-bytes)

  pub part-at : (k : ℕ) (d : List ℕ) → k < count → get_or (part bytes from count) k d ≡ sector_at bytes (from + k)
  part-at k d lt =
      chunk-is (length (bytes_from bytes from count) / 512) (bytes_from bytes from count) k d (omega (arith, length-bytes, lt))
      ∙ sector_at-part bytes from (512 * count) k (omega (arith, lt))

-- what is behind the first ones
pub part-behind : (bytes : List ℕ) (from count n : ℕ) → 512 * from + 512 * count ≤ length bytes → n ≤ count → drop n (part bytes from count) ≡ part bytes (from + n) (count - n)
part-behind bytes from count n there le =
    let rest : 512 * (from + n) + 512 * (count - n) ≤ length bytes = omega (arith, there, le) in
    same_lists (drop n (part bytes from count)) (part bytes (from + n) (count - n))
    (omega (arith, length-drop n (part bytes from count), length-part bytes from count there, length-part bytes (from + n) (count - n) rest))
    (λ k d lt.
    let inside : n + k < count = omega (arith, lt, length-drop n (part bytes from count), length-part bytes from count there) in
    get_or-drop n (part bytes from count) k d
    ∙ (part-at bytes from count there (n + k) d inside
    ∙ (ap (λ (i : ℕ). sector_at bytes i) (let e : from + (n + k) ≡ from + n + k = omega arith in e)
    ∙ sym (part-at bytes (from + n) (count - n) rest k d (omega (arith, inside))))))

-- the line of the first run of a part, and the lines of what is behind it
pub blocks-more : (first : ℕ) (bytes : List ℕ) (from count n : ℕ) → 512 * from + 512 * count ≤ length bytes → 0 < n → n ≤ count
    → ((k : ℕ) → k < n → sector_at bytes (from + k) ≡ sector_at bytes from) → (n < count → sector_at bytes (from + n) ≢ sector_at bytes from)
    → blocks_text first (part bytes from count) ≡ block_line first n (sector_at bytes from) ++ blocks_text (first + n) (part bytes (from + n) (count - n))
blocks-more first bytes from count n there some within equal maximal =
    let all : List (List ℕ) = part bytes from count in
    let head : (d : List ℕ) → get_or all 0 d ≡ sector_at bytes from = λ d. part-at bytes from count there 0 d (omega (arith, some, within)) ∙ ap (λ (i : ℕ). sector_at bytes i) (let e : from + 0 ≡ from = omega arith in e) in
    let long : length all ≡ count = length-part bytes from count there in
    blocks_more first all n (sector_at bytes from) some (omega (arith, within, long))
    (λ k e lt. part-at bytes from count there k e (omega (arith, lt, within)) ∙ (equal k lt ∙ sym (head e)))
    (λ e lt same. let inside : n < count = omega (arith, lt, long) in maximal inside (sym (part-at bytes from count there n e inside) ∙ (same ∙ head e)))
    ∙ (ap (λ (s : List ℕ). block_line first n s ++ blocks_text (first + n) (drop n all)) (head (sector_at bytes from))
    ∙ ap (λ (l : List (List ℕ)). block_line first n (sector_at bytes from) ++ blocks_text (first + n) l) (part-behind bytes from count n there within))

-- the bytes of an item, of those that stand behind some
pub bytes-behind : (bytes : List ℕ) (from at n : ℕ) → bytes_from bytes (from + at) n ≡ take (512 * n) (drop (512 * at) (drop (512 * from) bytes))
bytes-behind bytes from at n = ap (λ (l : List ℕ). take (512 * n) l) (ap (λ (k : ℕ). drop k bytes) (let e : 512 * (from + at) ≡ 512 * from + 512 * at = omega arith in e) ∙ sym (drop-drop (512 * at) (512 * from) bytes))

-- the sum of one sector more
pub sum-more : (bytes : List ℕ) (from n : ℕ) → byte_sum (bytes_from bytes from (n + 1)) ≡ byte_sum (bytes_from bytes from n) + byte_sum (sector_at bytes (from + n))
unfolding sector_at
sum-more bytes from n =
    ap byte_sum (ap (λ (k : ℕ). take k (drop (512 * from) bytes)) (let e : 512 * (n + 1) ≡ 512 * n + 512 = omega arith in e) ∙ take-add (512 * n) 512 (drop (512 * from) bytes))
    ∙ (sum_by-append (λ (byte : ℕ). byte) (bytes_from bytes from n) (take 512 (drop (512 * n) (drop (512 * from) bytes)))
    ∙ ap (λ (l : List ℕ). byte_sum (bytes_from bytes from n) + byte_sum (take 512 l)) (drop-drop (512 * n) (512 * from) bytes ∙ ap (λ (k : ℕ). drop k bytes) (let e : 512 * from + 512 * n ≡ 512 * (from + n) = omega arith in e)))

-- no sectors have no lines
pub part-none : (first : ℕ) (bytes : List ℕ) (from : ℕ) → blocks_text first (part bytes from 0) ≡ []
part-none first bytes from = refl
