-- Clients that come one after another, each with blocks of its own.
use Rattle.std.proofs.Common.{◌≡◌, ◌∙◌, ap, sym, ℕ, zero, suc, ◌+◌, ◌<◌, ◌≤◌, List, [], ◌∷◌, ◌++◌, take, length, refl, arith, inl, inr, Some}
use Rattle.std.specs.Prelude.{slice_get}
use Rattle.std.proofs.lemmas.Bool.{cases_order, cases_lt}
use Rattle.std.proofs.lemmas.List.{append_assoc, append-nil, take-append-le}
use Rattle.blk_plain.specs.declared.op.Op.{Op}
use Rattle.lay_core.specs.Layout.{Blocks}
use Rattle.eng_world.specs.Plain.{apply, replay}
use Rattle.top_sweep.specs.Apart.{Touches, in_turn}
use Rattle.top_sweep.proofs.Turns.{apply_same, apply_other}

-- ## Operations at one block

pub replay-append : (xs ys : List Op) (s : Blocks) → replay s (xs ++ ys) ≡ replay (replay s xs) ys
replay-append [] ys s = refl
replay-append (op ∷ xs) ys s = replay-append xs ys (apply s op)

-- what they make of a block goes by what it held
pub replay_same : (ops : List Op) (s t : Blocks) (b k : ℕ) → s b k ≡ t b k → replay s ops b k ≡ replay t ops b k
replay_same [] s t b k h = h
replay_same (op ∷ ops) s t b k h = replay_same ops (apply s op) (apply t op) b k (apply_same op s t b k h)

-- those that don't touch it leave it as it is
replay_away : (ops : List Op) (s : Blocks) (b k : ℕ) → ((i : ℕ) (op : Op) → slice_get ops i ≡ Some op → Touches op b → ⊥) → replay s ops b k ≡ s b k
replay_away [] s b k away = refl
replay_away (op ∷ ops) s b k away = replay_away ops (apply s op) b k (λ i x h. away (suc i) x h) ∙ apply_other op s b k (away zero op refl)

-- ## Where they stand

-- the operations of a client stand behind those of the clients before it
split_at : (own : ℕ → List Op) (n c : ℕ) → c < n → (rest : List Op) × (in_turn own n ≡ in_turn own c ++ (own c ++ rest))
split_at own zero c h = absurd (omega (arith, h))
split_at own (suc n) c h = elim (cases_order c n) [
  | inl same ↦ ([], ap (λ (k : ℕ). in_turn own k ++ own k) (sym same) ∙ ap (λ (l : List Op). in_turn own c ++ l) (sym (append-nil (own c))))
  | inr order ↦ elim order [
    | inl less ↦
        let before = split_at own n c less in (
          before.0 ++ own n,
          ap (λ (l : List Op). l ++ own n) before.1
              ∙ (append_assoc (in_turn own c) (own c ++ before.0) (own n)
              ∙ ap (λ (l : List Op). in_turn own c ++ l) (append_assoc (own c) before.0 (own n))),
        )
    | inr gt ↦ absurd (omega (arith, h, gt))
  ]
]

get_behind : (xs ys : List Op) (i : ℕ) → slice_get (xs ++ ys) (length xs + i) ≡ slice_get ys i
get_behind [] ys i = ap (slice_get ys) (let z : 0 + i ≡ i = omega arith in z)
get_behind (x ∷ xs) ys i = ap (slice_get (x ∷ (xs ++ ys))) (let z : suc (length xs) + i ≡ suc (length xs + i) = omega arith in z) ∙ get_behind xs ys i

get_front : (xs ys : List Op) (i : ℕ) → i < length xs → slice_get (xs ++ ys) i ≡ slice_get xs i
get_front [] ys i h = absurd (omega (arith, h))
get_front (x ∷ xs) ys zero h = refl
get_front (x ∷ xs) ys (suc i) h = get_front xs ys i (omega (arith, h))

take_behind : (xs ys : List Op) (i : ℕ) → take (length xs + i) (xs ++ ys) ≡ xs ++ take i ys
take_behind [] ys i = ap (λ (n : ℕ). take n ys) (let z : 0 + i ≡ i = omega arith in z)
take_behind (x ∷ xs) ys i = ap (λ (n : ℕ). take n (x ∷ (xs ++ ys))) (let z : suc (length xs) + i ≡ suc (length xs + i) = omega arith in z) ∙ ap (λ (l : List Op). x ∷ l) (take_behind xs ys i)

pub get_in_turn : (own : ℕ → List Op) (n c i : ℕ) → c < n → i < length (own c) → slice_get (in_turn own n) (length (in_turn own c) + i) ≡ slice_get (own c) i
get_in_turn own n c i h within =
    let at = split_at own n c h in
    ap (λ (l : List Op). slice_get l (length (in_turn own c) + i)) at.1
    ∙ (get_behind (in_turn own c) (own c ++ at.0) i
    ∙ get_front (own c) at.0 i within)

pub take_in_turn : (own : ℕ → List Op) (n c i : ℕ) → c < n → i ≤ length (own c) → take (length (in_turn own c) + i) (in_turn own n) ≡ in_turn own c ++ take i (own c)
take_in_turn own n c i h within =
    let at = split_at own n c h in
    ap (λ (l : List Op). take (length (in_turn own c) + i) l) at.1
    ∙ (take_behind (in_turn own c) (own c ++ at.0) i
    ∙ ap (λ (l : List Op). in_turn own c ++ l) (take-append-le i (own c) at.0 within))

-- ## Blocks with owners

module _ (own : ℕ → List Op) (owner : ℕ → ℕ) (apart : (c i : ℕ) (op : Op) (b : ℕ) → slice_get (own c) i ≡ Some op → Touches op b → owner b ≡ c) where
  -- the clients before the owner leave a block as it is
  before_owner : (n : ℕ) (s : Blocks) (b k : ℕ) → n ≤ owner b → replay s (in_turn own n) b k ≡ s b k
  before_owner zero s b k h = refl
  before_owner (suc n) s b k h =
      ap (λ (t : Blocks). t b k) (replay-append (in_turn own n) (own n) s)
      ∙ (replay_away (own n) (replay s (in_turn own n)) b k (λ i op there touches. let e = apart n i op b there touches in omega (arith, e, h))
      ∙ before_owner n s b k (omega (arith, h)))

  -- and those behind it leave what it made
  to_owner : (n : ℕ) (s : Blocks) (b k : ℕ) → owner b < n → replay s (in_turn own n) b k ≡ replay s (own (owner b)) b k
  to_owner zero s b k h = absurd (omega (arith, h))
  to_owner (suc n) s b k h =
      ap (λ (t : Blocks). t b k) (replay-append (in_turn own n) (own n) s)
      ∙ elim (cases_order (owner b) n) [
        | inl same ↦
            replay_same (own n) (replay s (in_turn own n)) s b k (before_owner n s b k (omega (arith, same)))
            ∙ ap (λ (c : ℕ). replay s (own c) b k) (sym same)
        | inr order ↦ elim order [
          | inl less ↦
              replay_away (own n) (replay s (in_turn own n)) b k (λ i op there touches. let e = apart n i op b there touches in omega (arith, e, less))
              ∙ to_owner n s b k less
          | inr gt ↦ absurd (omega (arith, h, gt))
        ]
      ]

  -- so all of them make of a block what its owner makes, if no others have operations
  pub in_turn_leaves : (n : ℕ) (s : Blocks) (b k : ℕ) → ((c : ℕ) → n ≤ c → own c ≡ []) → replay s (in_turn own n) b k ≡ replay s (own (owner b)) b k
  in_turn_leaves n s b k none = elim (cases_lt (owner b) n) [
    | inl less ↦ to_owner n s b k less
    | inr past ↦ before_owner n s b k past ∙ ap (λ (l : List Op). replay s l b k) (sym (none (owner b) past))
  ]

  -- and those before an operation make of its client's blocks what the client made
  pub in_turn_reads : (n c i : ℕ) (s : Blocks) (b k : ℕ) → c < n → i ≤ length (own c) → owner b ≡ c → replay s (take (length (in_turn own c) + i) (in_turn own n)) b k ≡ replay s (take i (own c)) b k
  in_turn_reads n c i s b k h within his =
      ap (λ (l : List Op). replay s l b k) (take_in_turn own n c i h within)
      ∙ (ap (λ (t : Blocks). t b k) (replay-append (in_turn own c) (take i (own c)) s)
      ∙ replay_same (take i (own c)) (replay s (in_turn own c)) s b k (before_owner c s b k (omega (arith, his))))
