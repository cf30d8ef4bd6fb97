-- Sectors that are put one after another.
use Rattle.std.proofs.Common.{◌≡◌, ◌<◌, ◌≤◌, ◌+◌, ◌*◌, ◌/◌, ◌++◌, [], ℕ, zero, suc, List, length, get_or, take, drop, sym, ap, ◌∙◌, arith}
use Rattle.std.specs.Simd.{first_chunks}
use Rattle.std.proofs.Math.Seq.{take-add}
use Rattle.std.proofs.lemmas.List.{append_assoc, append-nil, drop_at, drop-drop, length-append, length-take, take_at, take_all, take-append-drop}
use Rattle.blk_disk.specs.Disk.{sector_at}
use Rattle.blk_disk.specs.Sectors.{put}

pub put-none : (bytes : List ℕ) (first : ℕ) → put bytes first [] ≡ bytes
put-none bytes first =
    ap (λ (l : List ℕ). l ++ drop (512 * first + 0) bytes) (append-nil (take (512 * first) bytes))
    ∙ (ap (λ (k : ℕ). take (512 * first) bytes ++ drop k bytes) (let e : 512 * first + 0 ≡ 512 * first = omega arith in e)
    ∙ take-append-drop (512 * first) bytes)

-- the sectors that bytes are
pub chunk-is : (k : ℕ) (bytes : List ℕ) (i : ℕ) (d : List ℕ) → i < k → get_or (first_chunks 512 k bytes) i d ≡ sector_at bytes i
unfolding sector_at
chunk-is zero bytes i d lt = absurd (omega (arith, lt))
chunk-is (suc k) bytes zero d lt = cc
chunk-is (suc k) bytes (suc i) d lt =
    chunk-is k (drop 512 bytes) i d (omega (arith, lt))
    ∙ ap (λ (l : List ℕ). take 512 l) (drop-drop (512 * i) 512 bytes ∙ ap (λ (n : ℕ). drop n bytes) (let e : 512 + 512 * i ≡ 512 * suc i = omega arith in e))

pub chunk-of : (chunks : List (List ℕ)) (k : ℕ) (bytes : List ℕ) (i : ℕ) (d : List ℕ) → chunks ≡ first_chunks 512 k bytes → i < k → get_or chunks i d ≡ sector_at bytes i
chunk-of chunks k bytes i d is lt = ap (λ (l : List (List ℕ)). get_or l i d) is ∙ chunk-is k bytes i d lt

-- one sector more behind those that are put
pub put-more : (bytes from : List ℕ) (first i : ℕ) → 512 * first + length from ≤ length bytes → i < length from / 512
    → put (put bytes first (take (512 * i) from)) (first + i) (sector_at from i) ≡ put bytes first (take (512 * (i + 1)) from)
unfolding sector_at
put-more bytes from first i fits lt =
    let n : ℕ = 512 * i in
    let a : ℕ = 512 * first in
    let f : List ℕ = take n from in
    let s : List ℕ = take 512 (drop n from) in
    let front : List ℕ = take a bytes ++ f in
    let now : List ℕ = front ++ drop (a + length f) bytes in
    let long_f : length f ≡ n = omega (arith, length-take n from, lt) in
    let long : length front ≡ 512 * (first + i) = omega (arith, length-append (take a bytes) f, length-take a bytes, long_f, fits, lt) in
    let more : take (512 * (i + 1)) from ≡ f ++ s = ap (λ (k : ℕ). take k from) (let e : 512 * (i + 1) ≡ n + 512 = omega arith in e) ∙ take-add n 512 from in
    let whole : a + length f + length s ≡ a + length (f ++ s) = omega (arith, length-append f s) in
    let behind : drop (512 * (first + i) + length s) now ≡ drop (a + length (f ++ s)) bytes =
    sym (drop-drop (length s) (512 * (first + i)) now)
    ∙ (ap (λ (l : List ℕ). drop (length s) l) (drop_at front (drop (a + length f) bytes) (512 * (first + i)) long)
    ∙ (drop-drop (length s) (a + length f) bytes ∙ ap (λ (k : ℕ). drop k bytes) whole)) in
    ap (λ (l : List ℕ). l ++ s ++ drop (512 * (first + i) + length s) now) (take_at front (drop (a + length f) bytes) (512 * (first + i)) long)
    ∙ (ap (λ (l : List ℕ). front ++ s ++ l) behind
    ∙ (ap (λ (l : List ℕ). l ++ drop (a + length (f ++ s)) bytes) (append_assoc (take a bytes) f s)
    ∙ ap (λ (l : List ℕ). take a bytes ++ l ++ drop (a + length l) bytes) (sym more)))

pub put-next : (old now new from x : List ℕ) (first i : ℕ) → new ≡ put now (first + i) x → now ≡ put old first (take (512 * i) from) → x ≡ sector_at from i → 512 * first + length from ≤ length old → i < length from / 512
    → new ≡ put old first (take (512 * (i + 1)) from)
put-next old now new from x first i is so_far same fits lt =
    is ∙ (ap (λ (b : List ℕ). put b (first + i) x) so_far
    ∙ (ap (λ (y : List ℕ). put (put old first (take (512 * i) from)) (first + i) y) same
    ∙ put-more old from first i fits lt))

-- all of them
pub put-all : (bytes from : List ℕ) (first n : ℕ) → length from ≤ n → put bytes first (take n from) ≡ put bytes first from
put-all bytes from first n all = ap (λ (l : List ℕ). put bytes first l) (take_all n from all)
