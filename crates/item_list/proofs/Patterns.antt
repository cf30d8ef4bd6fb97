-- A pattern of length one is that of its byte.
use Rattle.std.specs.Prelude.{nat_eq}
use Rattle.std.specs.List.{list_all}
use Rattle.std.proofs.Common.{◌≡◌, ◌∙◌, ℕ, List, [], ◌∷◌, length, drop, replicate, get_or, true, refl, sym, ap, subst, arith}
use Rattle.std.proofs.lemmas.Bool.{and_parts, eqb-true}
use Rattle.blk_plain.specs.declared.op.Pattern.{Pattern}
use Rattle.blk_plain.specs.contracts.op.Pattern as pattern
use Rattle.item_list.specs.Kept.{one_byte}

zero-byte : (b : ℕ) → nat_eq b 0 ≡ true → b ≡ 0
zero-byte b e = eqb-true b 0 e

zeros : (bytes : List ℕ) → list_all (λ b. nat_eq b 0) bytes ≡ true → bytes ≡ replicate (length bytes) 0
zeros [] e = refl
zeros (b ∷ bytes) e =
    let both = and_parts _ _ e in
    ap (λ (c : ℕ). c ∷ bytes) (zero-byte b both.0) ∙ ap (λ (l : List ℕ). 0 ∷ l) (zeros bytes both.1)

first : (bytes : List ℕ) → length bytes ≡ 32 → list_all (λ b. nat_eq b 0) (drop 1 bytes) ≡ true → get_or bytes 0 0 ∷ replicate 31 0 ≡ bytes
first [] long rest = absurd (omega (arith, long))
first (b ∷ bytes) long rest =
    let short : length bytes ≡ 31 = omega (arith, long) in
    ap (λ (l : List ℕ). b ∷ l) (sym (zeros bytes rest ∙ ap (λ (n : ℕ). replicate n 0) short))

same : (p q : Pattern) → p.len ≡ q.len → p.bytes ≡ q.bytes → p ≡ q
same p q len bytes = pattern.the_type.to_one p q (λ i. (len i, (bytes i, tt)))

pub single : (p : Pattern) → p.len ≡ 1 → length p.bytes ≡ 32 → one_byte (get_or p.bytes 0 0) ≡ p
single p one long = same (one_byte (get_or p.bytes 0 0)) p (sym one) (first p.bytes long (subst (λ (n : ℕ). list_all (λ b. nat_eq b 0) (drop n p.bytes) ≡ true) one p.rest))
