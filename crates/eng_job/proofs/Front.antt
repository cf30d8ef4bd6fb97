-- The front of a buffer, what a device tells of a call on it, and sums that grow by a source.
use Rattle.std.proofs.Common.{◌≡◌, ℕ, ◌+◌, ◌*◌, ◌<◌, ◌≤◌, ◌-◌, ◌/◌, List, [], ◌∷◌, ◌++◌, length, take, drop, get_or, bit_xor, arith, sym, ap, ◌∙◌, Bool}
use Rattle.std.specs.Prelude.{min, slice_index, true, if◌then◌else◌}
use Rattle.std.proofs.lemmas.List.{drop-append-le, take-append-le, length-drop, drop-take, take-take, take_more}
use Rattle.std.specs.Int.Bits.{xor_assoc, xor_zero_l, xor_zero_r}
use Rattle.blk_disk.specs.Disk.{sector_at, call_of}
use Rattle.blk_disk.specs.declared.disk.Call.{Call}
use Rattle.eng_job.specs.declared.job.Source.{Source}
use Rattle.eng_job.specs.Performed.{byte_at, sum_at}

pub sector_front : (xs ys : List ℕ) (k : ℕ) → 512 * k + 512 ≤ length xs → sector_at (xs ++ ys) k ≡ sector_at xs k
unfolding sector_at
sector_front xs ys k h =
    ap (take 512) (drop-append-le (512 * k) xs ys (omega arith)) ∙ take-append-le 512 (drop (512 * k) xs) ys (omega (arith, length-drop (512 * k) xs, h))

pub sector_take : (xs : List ℕ) (n k : ℕ) → 512 * k + 512 ≤ n → sector_at (take n xs) k ≡ sector_at xs k
unfolding sector_at
sector_take xs n k h =
    let split : 512 * k + (n - 512 * k) ≡ n = omega arith in
    ap (λ (m : ℕ). take 512 (drop (512 * k) (take m xs))) (sym split) ∙ (ap (take 512) (drop-take (512 * k) (n - 512 * k) xs) ∙ take-take 512 (n - 512 * k) (drop (512 * k) xs) (omega arith))

-- a call on so many sectors' bytes is one on so many sectors
pub call_on : (kind first count bytes : ℕ) (good : Bool) → count ≤ 4294967295 → bytes ≡ 512 * count → call_of kind first bytes good ≡ record { kind = kind; first = first; count = count; good = good }
call_on kind first count bytes good few is =
    let same : min (bytes / 512) 4294967295 ≡ count = omega arith in
    ap (λ (n : ℕ). let c : Call = record { kind = kind; first = first; count = n; good = good } in c) same

pub sum_push : (ss : List Source) (s : Source) (k : ℕ) → sum_at (ss ++ s ∷ []) k ≡ bit_xor (sum_at ss k) (byte_at s k)
sum_push [] s k = xor_zero_r _ ∙ sym (xor_zero_l _)
sum_push (x ∷ ss) s k = ap (bit_xor (byte_at x k)) (sum_push ss s k) ∙ sym (xor_assoc (byte_at x k) (sum_at ss k) (byte_at s k))

-- one more source
pub sum_more : (ss : List Source) (i k : ℕ) (s : Source) → i < length ss → s ≡ get_or ss i s → sum_at (take (i + 1) ss) k ≡ bit_xor (sum_at (take i ss) k) (byte_at s k)
sum_more ss i k s h is = ap (λ (l : List Source). sum_at l k) (take_more ss i s h ∙ ap (λ (x : Source). take i ss ++ x ∷ []) (sym is)) ∙ sum_push (take i ss) s k

-- the first source alone
pub sum_first : (ss : List Source) (s : Source) (k : ℕ) → 0 < length ss → s ≡ get_or ss 0 s → s.counts ≡ true → sum_at (take 1 ss) k ≡ slice_index s.buffer k
sum_first [] s k some is counts = absurd (omega (arith, some))
sum_first (x ∷ ss) s k some is counts =
    let same : byte_at x k ≡ byte_at s k = ap (λ (a : Source). byte_at a k) (sym is) in
    xor_zero_r (byte_at x k) ∙ (same ∙ ap (λ (b : Bool). if b then slice_index s.buffer k else 0) counts)
