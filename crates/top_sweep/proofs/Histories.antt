-- Legal histories of clients that lie apart.
use Rattle.std.proofs.Common.{◌≡◌, ◌≢◌, ◌∙◌, ◌⊎◌, ap, ap₂, sym, subst, ℕ, zero, suc, ◌+◌, ◌-◌, ◌*◌, ◌/◌, ◌%◌, ◌<◌, ◌≤◌, Bool, true, false, List, [], ◌∷◌, ◌++◌, take, drop, length, min, refl, arith, inl, inr, Option, Some, None}
use Rattle.std.specs.Prelude.{slice_get}
use Rattle.std.proofs.lemmas.Bool.{cases_order, le-leb, lt-ltb}
use Rattle.std.specs.Cmp.Derive.{both_true}
use Rattle.std.proofs.lemmas.Bool.Decides.{eqb_tells}
use Rattle.std.proofs.lemmas.List.{take_all}
use Rattle.std.proofs.lemmas.Option.{slice_get_within, slice_get_cases}
use Rattle.blk_plain.specs.declared.op.Op.{Op}
use Rattle.blk_plain.specs.declared.op.Op.TheVariants.{Read}
use Rattle.blk_plain.specs.declared.op.OpId.{OpId}
use Rattle.blk_plain.specs.declared.op.Span.{Span}
use Rattle.lay_core.specs.Layout.{Blocks}
use Rattle.blk_plain.specs.Plain.{is_in}
use Rattle.eng_world.specs.declared.item.Reply.TheVariants.{Data}
use Rattle.eng_world.specs.Plain.{replay}
use Rattle.eng_world.specs.World.{World, op_at}
use Rattle.eng_world.specs.Legal.{AreOps, IsLegal, IsReadAt, RepliesFit, ReplyOf, StandsAt}
use Rattle.top_sweep.specs.Apart.{IsApart, id_of}
use Rattle.top_sweep.proofs.Turns.{InTurn, in_turn-next, in_turn-other, replay_in_turn}

-- each name in front of this place is of an operation
abbrev HaveOps : World → ℕ → Type 0
HaveOps w l = (p : ℕ) (id : OpId) → p < l → StandsAt w.history p id → (op : Op) × (op_at w id ≡ Some op)

are_ops-get : (w : World) (ids : List OpId) (ops : List Op) (p : ℕ) (id : OpId) → AreOps w ids ops → slice_get ids p ≡ Some id → (op : Op) × (op_at w id ≡ Some op)
are_ops-get w [] ops p id are h = cc
are_ops-get w (x ∷ ids) [] p id are h = absurd are
are_ops-get w (x ∷ ids) (op ∷ ops) zero id are h = let same : x ≡ id = cc in (op, ap (op_at w) (sym same) ∙ are.0)
are_ops-get w (x ∷ ids) (op ∷ ops) (suc p) id are h = are_ops-get w ids ops p id are.1 h

-- How client c's operations stand in the first l places: numbers below e, and each of them.
record Stand (w : World) (c l e : ℕ) : Type 0 where
  turn : InTurn c 0 e (take l w.history)
  below : (i : ℕ) → i < e → (p : ℕ) × (p < l) × StandsAt w.history p (id_of c i)
  above : (p i : ℕ) → p < l → StandsAt w.history p (id_of c i) → i < e

-- an element that is there has those in front of it
get_sooner : {A : Type 0} (xs : List A) (e i : ℕ) (x : A) → slice_get xs i ≡ Some x → e < i → (y : A) × (slice_get xs e ≡ Some y)
get_sooner [] e i x h lt = cc
get_sooner (y ∷ xs) zero i x h lt = (y, refl)
get_sooner (y ∷ xs) (suc e) zero x h lt = absurd (omega arith)
get_sooner (y ∷ xs) (suc e) (suc i) x h lt = get_sooner xs e i x h (omega arith)

-- one place more
take_more : {A : Type 0} (xs : List A) (l : ℕ) (x : A) → slice_get xs l ≡ Some x → take (suc l) xs ≡ take l xs ++ x ∷ []
take_more [] l x h = cc
take_more {A = A} (y ∷ xs) zero x h = let same : y ≡ x = cc in ap (λ (z : A). z ∷ []) same
take_more {A = A} (y ∷ xs) (suc l) x h = ap (λ (t : List A). y ∷ t) (take_more xs l x h)

-- the operation that stands there next is the client's next
at_turn : (w : World) (own : ℕ → List Op) (owner : ℕ → ℕ) → IsApart w own owner → IsLegal w → (c l e i : ℕ) → Stand w c l e → StandsAt w.history l (id_of c i)
    → (op : Op) → op_at w (id_of c i) ≡ Some op → i ≡ e
at_turn w own owner apart legal c l e i stand here op is = elim (cases_order i e) [
  | inl same ↦ same
  | inr order ↦ elim order [
    | inl lt ↦
        let sooner = stand.below i lt in
        let same : sooner.0 ≡ l = legal.once sooner.0 l (id_of c i) sooner.2 here in
        absurd (omega (arith, same, sooner.1))
    | inr gt ↦
        let less = get_sooner (own c) e i op (sym (apart.lists c i) ∙ is) gt in
        let replied = apart.done c e less.0 less.1 in
        let stands = legal.committed (id_of c e) replied.0 replied.1 replied.2 in
        let before : stands.0 < l = legal.ordered stands.0 l (id_of c e) (id_of c i) stands.1 here refl gt in
        absurd (omega (arith, stand.above stands.0 e before stands.1))
  ]
]

-- how they stand in any first places
stands : (w : World) (own : ℕ → List Op) (owner : ℕ → ℕ) → IsApart w own owner → IsLegal w → (c l : ℕ) → HaveOps w l → l ≤ length w.history → (e : ℕ) × Stand w c l e
stands w own owner apart legal c zero ops within = (0, record { turn = none_yet w.history; below = λ i lt. absurd (omega arith); above = λ p i lt h. absurd (omega arith) })
  where
    none_yet : (ids : List OpId) → InTurn c 0 0 (take 0 ids)
    none_yet [] = refl
    none_yet (id ∷ ids) = refl
stands w own owner apart legal c (suc l) ops within = more (stands w own owner apart legal c l (λ p id lt. ops p id (omega arith)) (omega arith)) (slice_get_cases w.history l).1
  where
    mine : (e : ℕ) (id : OpId) → Stand w c l e → StandsAt w.history l id → id.client ≡ c → id.index ≡ e → Stand w c (suc l) (e + 1)
    mine e id stand here his at = record {
      turn = subst (InTurn c 0 (e + 1)) (sym (take_more w.history l id here)) (in_turn-next c 0 e (take l w.history) id stand.turn his at);
      below = λ i lt. elim (cases_order i e) [
        | inl same ↦ (l, omega arith, here ∙ ap Some (ap₂ id_of his (at ∙ sym same)))
        | inr order ↦ elim order [
          | inl less ↦ let s = stand.below i less in (s.0, omega (arith, s.1), s.2)
          | inr gt ↦ absurd (omega (arith, lt, gt))
        ]
      ];
      above = λ p i lt h. elim (cases_order p l) [
        | inl same ↦
            let two : Some id ≡ Some (id_of c i) = sym here ∙ (ap (slice_get w.history) (sym same) ∙ h) in
            let one : id ≡ id_of c i = cc in
            omega (arith, at, ap (λ (x : OpId). x.index) one)
        | inr order ↦ elim order [
          | inl less ↦ omega (arith, stand.above p i less h)
          | inr gt ↦ absurd (omega (arith, lt, gt))
        ]
      ];
    }

    others : (e : ℕ) (id : OpId) → Stand w c l e → StandsAt w.history l id → id.client ≢ c → Stand w c (suc l) e
    others e id stand here his = record {
      turn = subst (InTurn c 0 e) (sym (take_more w.history l id here)) (in_turn-other c 0 e (take l w.history) id stand.turn his);
      below = λ i lt. let s = stand.below i lt in (s.0, omega (arith, s.1), s.2);
      above = λ p i lt h. elim (cases_order p l) [
        | inl same ↦
            let two : Some id ≡ Some (id_of c i) = sym here ∙ (ap (slice_get w.history) (sym same) ∙ h) in
            let one : id ≡ id_of c i = cc in
            absurd (his (ap (λ (x : OpId). x.client) one))
        | inr order ↦ elim order [
          | inl less ↦ stand.above p i less h
          | inr gt ↦ absurd (omega (arith, lt, gt))
        ]
      ];
    }

    step : (e : ℕ) (id : OpId) → Stand w c l e → StandsAt w.history l id → (e : ℕ) × Stand w c (suc l) e
    step e id stand here = elim (eqb_tells id.client c) [
      | inl same ↦
          let op = ops l id (omega arith) here in
          let named : id ≡ id_of c id.index = ap (λ (x : ℕ). id_of x id.index) same.1 in
          let at : id.index ≡ e = at_turn w own owner apart legal c l e id.index stand (here ∙ ap Some named) op.0 (ap (op_at w) (sym named) ∙ op.1) in
          (e + 1, mine e id stand here same.1 at)
      | inr apart ↦ (e, others e id stand here apart.1)
    ]

    more : ((e : ℕ) × Stand w c l e)
        → ((id : OpId) × (l < length w.history) × (slice_get w.history l ≡ Some id) × (Rattle.std.proofs.Common.get_or w.history l id ≡ id)) ⊎ ((length w.history ≤ l) × (slice_get w.history l ≡ None))
        → (e : ℕ) × Stand w c (suc l) e
    more got (inl h) = step got.0 h.0 got.1 h.2
    more got (inr h) = absurd (omega (arith, h.0, within))

-- whatever the history, a block holds what its owner's operations make
pub block_is_its_clients : (w : World) (start : Blocks) (own : ℕ → List Op) (owner : ℕ → ℕ) (ops : List Op) → IsApart w own owner → IsLegal w → AreOps w w.history ops
    → (b k : ℕ) → replay start ops b k ≡ replay start (own (owner b)) b k
block_is_its_clients w start own owner ops apart legal are b k =
    let c = owner b in
    let got = stands w own owner apart legal c (length w.history) (λ p id lt h. are_ops-get w w.history ops p id are h) (omega arith) in
    let all : take (length w.history) w.history ≡ w.history = take_all (length w.history) w.history (omega arith) in
    let turn : InTurn c 0 got.0 w.history = subst (InTurn c 0 got.0) all got.1.turn in
    let long : length (own c) ≤ got.0 = elim (slice_get_cases (own c) got.0).1 [
      | inl more ↦
          let replied = apart.done c got.0 more.0 more.2 in
          let stands = legal.committed (id_of c got.0) replied.0 replied.1 replied.2 in
          absurd (omega (arith, got.1.above stands.0 got.0 (slice_get_within w.history stands.0 (id_of c got.0) stands.1) stands.1))
      | inr past ↦ past.0
    ] in
    replay_in_turn w own owner apart w.history ops are c 0 got.0 got.0 turn (omega arith) start start b k refl refl
    ∙ ap (λ (l : List Op). replay start l b k) (take_all got.0 (own c) long)

pub in_span : (span : Span) (j : ℕ) → j < span.count → is_in span (span.first + j) ≡ true
in_span span j lt = both_true (le-leb span.first (span.first + j) (omega arith)) (lt-ltb (span.first + j) (span.first + span.count) (omega arith))

-- and a read hands out what its own client's earlier operations make
pub read_sees_its_client : (w : World) (start : Blocks) (own : ℕ → List Op) (owner : ℕ → ℕ) → IsApart w own owner → IsLegal w → RepliesFit start w
    → (id : OpId) (span : Span) (n : ℕ) (ops : List Op) → ReplyOf w id Data → IsReadAt w id span n ops → (j k : ℕ) → j < span.count → k < 512
    → (w.clients id.client).handed id.index j k ≡ replay start (take id.index (own id.client)) (span.first + j) k
read_sees_its_client w start own owner apart legal fit id span n ops replied is_read j k jl kl =
    let c = id.client in
    let within = slice_get_within w.history n id is_read.place in
    let got = stands w own owner apart legal c n (λ p x lt h. are_ops-get w (take n w.history) ops p x is_read.before (get_take w.history n p x lt h)) (omega arith) in
    let at : id.index ≡ got.0 = at_turn w own owner apart legal c n got.0 id.index got.1 is_read.place (Read span) is_read.op in
    let his : owner (span.first + j) ≡ c = apart.apart c id.index (Read span) (span.first + j) (sym (apart.lists c id.index) ∙ is_read.op) (in_span span j jl) in
    fit id span n j k ops replied is_read jl kl
    ∙ replay_in_turn w own owner apart (take n w.history) ops is_read.before c 0 got.0 id.index got.1.turn (omega (arith, at)) start start (span.first + j) k his refl
  where
    get_take : (xs : List OpId) (n p : ℕ) (x : OpId) → p < n → slice_get xs p ≡ Some x → slice_get (take n xs) p ≡ Some x
    get_take [] n p x lt h = cc
    get_take (y ∷ xs) zero p x lt h = absurd (omega arith)
    get_take (y ∷ xs) (suc n) zero x lt h = h
    get_take (y ∷ xs) (suc n) (suc p) x lt h = get_take xs n p x (omega arith) h
