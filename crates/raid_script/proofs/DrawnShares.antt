-- What is drawn lies in its client's share, and is within the limits of a script.
use Rattle.std.proofs.Common.{◌≡◌, ◌∙◌, ℕ, zero, suc, ◌+◌, ◌-◌, ◌*◌, ◌/◌, ◌%◌, ◌<◌, ◌≤◌, Bool, true, false, cond, List, [], ◌∷◌, ◌++◌, Some, None, length, map, min, refl, sym, ap, subst, arith, All, add-one}
use Rattle.std.specs.Prelude.{nat_eq, slice_get, sum_by}
use Rattle.std.specs.List.{range_with_len}
use Rattle.std.proofs.Math.Nat.{div-lt_iff_lt-mul, div-mul-le_self, le-div_iff_mul-le, mul-le-mul, mul-le-mul_right}
use Rattle.std.proofs.lemmas.List.Elements.{All-nil, All-push}
use Rattle.std.proofs.lemmas.List.FromFn.{get_or-map-range_with_len, length-map-range_with_len}
use Rattle.std.proofs.lemmas.List.Sums.{sum_by_push}
use Rattle.std.proofs.lemmas.Option.{get_or_from_slice_get, slice_get_within}
use Rattle.rand_pcg.specs.Lcg.{Lcg}
use Rattle.raid_script.specs.Asked.{AreFew, Asked, Writes, Reads, read_sectors}
use Rattle.raid_script.specs.Drawn.{AreApart, IsOwn, IsOwnSpan, drawn}
use Rattle.raid_script.specs.Steps.{share}
use Rattle.raid_script.specs.DrawnParts.{after, item_by, item_from, row_from, rows_from, seeded, word_of}
use Rattle.raid_script.proofs.DrawnWords.{drawn_is, row_more, row_none, rows_more, rows_none}

-- ---- one item

-- a number between two neighbouring multiples
between : (q w b : ℕ) → 0 < w → q * w ≤ b → b < q * w + w → b / w ≡ q
between q w b some low high =
    let lower : b < (q + 1) * w = omega arith in
    let one : b / w < q + 1 = (div-lt_iff_lt-mul some).1 lower in
    let two : q ≤ b / w = (le-div_iff_mul-le some).1 low in
    omega arith

own_span : (wide blocks client count rest : ℕ) → 0 < wide → (client + 1) * wide ≤ blocks → 0 < count → count ≤ 8 → count ≤ wide → rest < wide - count + 1 → IsOwnSpan wide blocks client (client * wide + rest) count
own_span wide blocks client count rest some fits much few short small = record {
  some = much;
  few = few;
  begins = omega arith;
  ends = omega arith;
  within = fits;
  own = λ b low high. between client wide b some (omega arith) (omega arith);
}

item_own : (wide blocks client a p q : ℕ) → 0 < wide → (client + 1) * wide ≤ blocks → IsOwn wide blocks client (item_by client wide a p q)
unfolding item_by
item_own wide blocks client a p q some fits =
    let less : p % min 8 wide < min 8 wide = omega arith in
    let count = 1 + p % min 8 wide in
    let rest : a / 4 % (wide - count + 1) < wide - count + 1 = omega arith in
    go (nat_eq (a % 3) 0) (own_span wide blocks client count (a / 4 % (wide - count + 1)) some fits (omega arith) (omega arith) (omega arith) rest)
  where
    go : (b : Bool) → IsOwnSpan wide blocks client (client * wide + a / 4 % (wide - (1 + p % min 8 wide) + 1)) (1 + p % min 8 wide)
        → IsOwn wide blocks client (cond b (Reads (client * wide + a / 4 % (wide - (1 + p % min 8 wide) + 1)) (1 + p % min 8 wide) None) (Writes (client * wide + a / 4 % (wide - (1 + p % min 8 wide) + 1)) (1 + p % min 8 wide) (q % 256 ∷ []) None))
    go true span = (span, refl)
    go false span = (span, refl, refl)

next_own : (wide blocks client : ℕ) (g : Lcg) → 0 < wide → (client + 1) * wide ≤ blocks → IsOwn wide blocks client (item_from client wide g)
unfolding item_from
next_own wide blocks client g some fits = item_own wide blocks client (word_of 0 g) (word_of 1 g) (word_of 2 g) some fits

own_reads : (wide blocks client : ℕ) (a : Asked) → IsOwn wide blocks client a → read_sectors a ≤ 8
own_reads wide blocks client (Writes first count bytes graph) own = omega arith
own_reads wide blocks client (Reads first count graph) own = own.0.few
own_reads wide blocks client a own = omega arith

-- ---- the items of a client

row_last : (client wide n : ℕ) (g : Lcg) → row_from client wide (suc n) g ≡ row_from client wide n g ++ item_from client wide (after (3 * n) g) ∷ []
row_last client wide n g = ap (λ (k : ℕ). row_from client wide k g) (sym (add-one n)) ∙ row_more client wide n g

row_own : (wide blocks client n : ℕ) (g : Lcg) → 0 < wide → (client + 1) * wide ≤ blocks → All (IsOwn wide blocks client) (row_from client wide n g)
row_own wide blocks client zero g some fits = rw (row_none client wide g) (All-nil (IsOwn wide blocks client))
row_own wide blocks client (suc n) g some fits =
    let more = All-push (IsOwn wide blocks client) (row_from client wide n g) (item_from client wide (after (3 * n) g)) (row_own wide blocks client n g some fits) (next_own wide blocks client (after (3 * n) g) some fits) in
    subst (λ (xs : List Asked). All (IsOwn wide blocks client) xs) (sym (row_last client wide n g)) more

row_length : (client wide n : ℕ) (g : Lcg) → length (row_from client wide n g) ≡ n
unfolding row_from
row_length client wide n g = length-map-range_with_len (λ i. item_from client wide (after (3 * i) g)) 0 n

row_reads : (wide blocks client n : ℕ) (g : Lcg) → 0 < wide → (client + 1) * wide ≤ blocks → sum_by read_sectors (row_from client wide n g) ≤ 8 * n
row_reads wide blocks client zero g some fits = rw (row_none client wide g) (omega arith)
row_reads wide blocks client (suc n) g some fits =
    let item = item_from client wide (after (3 * n) g) in
    let last = own_reads wide blocks client item (next_own wide blocks client (after (3 * n) g) some fits) in
    let others = row_reads wide blocks client n g some fits in
    let total : sum_by read_sectors (row_from client wide (suc n) g) ≡ sum_by read_sectors (row_from client wide n g) + read_sectors item =
    ap (sum_by read_sectors) (row_last client wide n g) ∙ sum_by_push read_sectors (row_from client wide n g) item in
    omega (arith, last, others, total)

-- ---- the items of all clients

-- the share of a client lies within the blocks
in_share : (n wide blocks client : ℕ) → n * wide ≤ blocks → client < n → (client + 1) * wide ≤ blocks
in_share n wide blocks client all few =
    let most : (client + 1) * wide ≤ n * wide = mul-le-mul_right wide (omega arith) in
    omega arith

at_row : (n wide ops : ℕ) (g : Lcg) (c : ℕ) (items : List Asked) → slice_get (rows_from n wide ops g) c ≡ Some items → (c < n) × (items ≡ row_from c wide ops (after (3 * (c * ops)) g))
unfolding rows_from
at_row n wide ops g c items h =
    let f = λ (k : ℕ). row_from k wide ops (after (3 * (k * ops)) g) in
    let within = slice_get_within (map f (range_with_len 0 n)) c items h in
    let few : c < n = omega (arith, within, length-map-range_with_len f 0 n) in
    (few, sym (get_or_from_slice_get (map f (range_with_len 0 n)) c items [] h) ∙ get_or-map-range_with_len f 0 n c c [] few (omega arith))

rows_length : (n wide ops : ℕ) (g : Lcg) → length (rows_from n wide ops g) ≡ n
unfolding rows_from
rows_length n wide ops g = length-map-range_with_len (λ c. row_from c wide ops (after (3 * (c * ops)) g)) 0 n

pub rows_apart : (n wide ops blocks : ℕ) (g : Lcg) → 0 < wide → n * wide ≤ blocks → AreApart n ops wide blocks (rows_from n wide ops g)
rows_apart n wide ops blocks g some all = record {
  all = rows_length n wide ops g;
  count = λ c items h. let is = at_row n wide ops g c items h in rw is.1 (row_length c wide ops (after (3 * (c * ops)) g));
  own = λ c items h.
      let is = at_row n wide ops g c items h in
      subst (λ (xs : List Asked). All (IsOwn wide blocks c) xs) (sym is.1) (row_own wide blocks c ops (after (3 * (c * ops)) g) some (in_share n wide blocks c all is.0));
}

rows_last : (n wide ops : ℕ) (g : Lcg) → rows_from (suc n) wide ops g ≡ rows_from n wide ops g ++ row_from n wide ops (after (3 * (n * ops)) g) ∷ []
rows_last n wide ops g = ap (λ (k : ℕ). rows_from k wide ops g) (sym (add-one n)) ∙ rows_more n wide ops g

-- clients that have no more than so much each
sum_most : (f : List Asked → ℕ) (most n wide ops : ℕ) (g : Lcg) → ((c : ℕ) → c < n → f (row_from c wide ops (after (3 * (c * ops)) g)) ≤ most) → sum_by f (rows_from n wide ops g) ≤ n * most
sum_most f most zero wide ops g each = rw (rows_none wide ops g) (omega arith)
sum_most f most (suc n) wide ops g each =
    let row = row_from n wide ops (after (3 * (n * ops)) g) in
    let last = each n (omega arith) in
    let others = sum_most f most n wide ops g (λ c few. each c (omega arith)) in
    let total : sum_by f (rows_from (suc n) wide ops g) ≡ sum_by f (rows_from n wide ops g) + f row = ap (sum_by f) (rows_last n wide ops g) ∙ sum_by_push f (rows_from n wide ops g) row in
    omega (arith, last, others, total)

pub rows_few : (n wide ops blocks : ℕ) (g : Lcg) → 0 < wide → n * wide ≤ blocks → n ≤ 16 → ops ≤ 2048 → AreFew (rows_from n wide ops g)
rows_few n wide ops blocks g some all few short =
    let lengths = sum_most (λ row. length row) ops n wide ops g (λ c _. let e = row_length c wide ops (after (3 * (c * ops)) g) in omega (arith, e)) in
    let reads = sum_most (λ row. sum_by read_sectors row) (8 * ops) n wide ops g (λ c h. row_reads wide blocks c ops (after (3 * (c * ops)) g) some (in_share n wide blocks c all h)) in
    let product : n * ops ≤ 16 * 2048 = mul-le-mul few short in
    record {
      clients = omega (arith, rows_length n wide ops g);
      items = omega (arith, lengths, product);
      sectors = omega (arith, reads, product);
    }

-- ---- the script of a number

share_some : (n blocks : ℕ) → 0 < n → n ≤ blocks → 0 < blocks / n
share_some n blocks some few = let one : 1 ≤ blocks / n = (le-div_iff_mul-le some).1 (omega arith) in omega arith

share_fits : (n blocks : ℕ) → n * (blocks / n) ≤ blocks
share_fits n blocks = omega (arith, div-mul-le_self blocks n)

pub drawn_apart : (seed clients ops blocks : ℕ) → 0 < clients → 0 < blocks → AreApart (min clients blocks) ops (share clients blocks) blocks (drawn seed clients ops blocks)
drawn_apart seed clients ops blocks some any =
    let apart = rows_apart (min clients blocks) (blocks / min clients blocks) ops blocks (seeded seed) (share_some (min clients blocks) blocks (omega arith) (omega arith)) (share_fits (min clients blocks) blocks) in
    subst (λ (rows : List (List Asked)). AreApart (min clients blocks) ops (share clients blocks) blocks rows) (sym (drawn_is seed clients ops blocks)) apart

pub drawn_few : (seed clients ops blocks : ℕ) → 0 < clients → clients ≤ 16 → ops ≤ 2048 → 0 < blocks → AreFew (drawn seed clients ops blocks)
drawn_few seed clients ops blocks some most short any =
    let few = rows_few (min clients blocks) (blocks / min clients blocks) ops blocks (seeded seed) (share_some (min clients blocks) blocks (omega arith) (omega arith)) (share_fits (min clients blocks) blocks) (omega arith) short in
    subst (λ (rows : List (List Asked)). AreFew rows) (sym (drawn_is seed clients ops blocks)) few
