-- In which order the calls of a device come where a map is kept: its map is written, and settled, before its rows are, and cleared behind them.
use Rattle.std.proofs.Common.{◌≡◌, ◌⊎◌, inl, inr, ℕ, suc, zero, List, [], ◌∷◌, ◌++◌, Bool, true, Option, Some, None, refl, sym, ◌∙◌, ap, subst, arith, append_assoc}
use Rattle.std.specs.Prelude.{All, Contains, option_and_then}
use Rattle.std.proofs.lemmas.List.{append_cancel_left}
use Rattle.std.proofs.lemmas.List.Elements.{All-append}
use Rattle.blk_disk.specs.declared.disk.Call.{Call}
use Rattle.blk_disk.specs.declared.disk.Disk.{Ghosts}
use Rattle.blk_disk.specs.Disk.{Tells, call_of}
use Rattle.blk_disk.specs.Devices.{calls_of, device_at, Changes, StaysIf}
use Rattle.raid_map.specs.Marking.{MarkCalls, MarksOn}
use Rattle.top_close.specs.Calls.{IsSettle, MoreOn}
use Rattle.top_close.proofs.CallLaws.{more-then}
use Rattle.top_acts.specs.Stages.{IsClosing}
use Rattle.top_rounds.specs.Calls.{IsLabelWrite}
use Rattle.top_acts.specs.Cleared.{IsEndingCall}
use Rattle.top_labelled.specs.Maps.{WritesMap, WritesRows}
use Rattle.top_labelled.specs.Words.{ClearsLast, MarksFirst}
use Rattle.top_acts.proofs.Words.{EndCleared, IsMapRead, IsMapWrite}
use Rattle.blk_disk.proofs.Words.{TellsOn}

-- ## Lists

-- what is so of all is so of one
pub one-of : {X : Type 0} (P : X → Type 0) (xs : List X) (x : X) → All P xs → Contains xs x → P x
one-of P xs x all has = subst P has.2 (all has.0 x has.1)

first-of : {X : Type 0} (x : X) (xs : List X) → Contains (x ∷ xs) x
first-of x xs = (0, omega arith, refl)

rest-of : {X : Type 0} (x z : X) (xs : List X) → Contains xs z → Contains (x ∷ xs) z
rest-of x z xs has = (suc has.0, (let l = has.1 in omega (arith, l)), has.2)

middle-of : {X : Type 0} (xs : List X) (z : X) (ys : List X) → Contains (xs ++ z ∷ ys) z
middle-of [] z ys = first-of z ys
middle-of (x ∷ xs) z ys = rest-of x z (xs ++ z ∷ ys) (middle-of xs z ys)

all-first : {X : Type 0} (P : X → Type 0) (x : X) (xs : List X) → All P (x ∷ xs) → P x
all-first P x xs all = all 0 x (omega arith)

all-rest : {X : Type 0} (P : X → Type 0) (x : X) (xs : List X) → All P (x ∷ xs) → All P xs
all-rest P x xs all k d lt = all (suc k) d (omega (arith, lt))

same-head : {X : Type 0} (x z : X) (xs zs : List X) → x ∷ xs ≡ z ∷ zs → x ≡ z
same-head x z xs zs h = cc

same-tail : {X : Type 0} (x z : X) (xs zs : List X) → x ∷ xs ≡ z ∷ zs → xs ≡ zs
same-tail x z xs zs h = cc

-- where something of which that isn't so is preceded by such ones, these come before it
behind-all : {X : Type 0} (P : X → Type 0) (front more before after : List X) (x : X) → All (λ z. P z → ⊥) front → front ++ more ≡ before ++ x ∷ after → P x → (rest : List X) × (before ≡ front ++ rest)
behind-all P [] more before after x none is so = (before, refl)
behind-all P (f ∷ front) more [] after x none is so = absurd (all-first (λ z. P z → ⊥) f front none (subst P (sym (same-head f x (front ++ more) after is)) so))
behind-all P (f ∷ front) more (b ∷ before) after x none is so =
    let r = behind-all P front more before after x (all-rest (λ z. P z → ⊥) f front none) (same-tail f b (front ++ more) (before ++ x ∷ after) is) so in
    (r.0, ap (λ z. z ∷ before) (sym (same-head f b (front ++ more) (before ++ x ∷ after) is)) ∙ ap (λ l. f ∷ l) r.1)

-- of two places in a list they are the same, or one lies behind the other
two-places : {X : Type 0} (front back before after : List X) (w x : X) → front ++ w ∷ back ≡ before ++ x ∷ after → ((before ≡ front) × (x ≡ w) × (after ≡ back)) ⊎ (Contains after w ⊎ Contains back x)
two-places [] back [] after w x is = inl (refl, sym (same-head w x back after is), sym (same-tail w x back after is))
two-places [] back (b ∷ before) after w x is = inr (inr (subst (λ l. Contains l x) (sym (same-tail w b back (before ++ x ∷ after) is)) (middle-of before x after)))
two-places (f ∷ front) back [] after w x is = inr (inl (subst (λ l. Contains l w) (same-tail f x (front ++ w ∷ back) after is) (middle-of front w back)))
two-places (f ∷ front) back (b ∷ before) after w x is = elim (two-places front back before after w x (same-tail f b (front ++ w ∷ back) (before ++ x ∷ after) is)) [
  | inl same ↦ inl (ap (λ z. z ∷ before) (sym (same-head f b (front ++ w ∷ back) (before ++ x ∷ after) is)) ∙ ap (λ l. f ∷ l) same.0, same.1, same.2)
  | inr other ↦ inr other
]

-- ## Which calls write where

read-quiet : (call : Call) → IsMapRead call → WritesRows call → ⊥
read-quiet call is rows = let z : 0 ≡ 1 = sym (ap (λ (c : Call). c.kind) is.1) ∙ rows.0 in omega (arith, z)

write-quiet : (call : Call) → IsMapWrite call → WritesRows call → ⊥
write-quiet call is rows = let first : call.first ≡ 1 = ap (λ (c : Call). c.first) is.1 in let from = rows.1 in omega (arith, first, from)

label-quiet : (call : Call) → IsLabelWrite call → WritesRows call → ⊥
label-quiet call is rows = let first : call.first ≡ 0 = ap (λ (c : Call). c.first) is.1 in let from = rows.1 in omega (arith, first, from)

settle-quiet : (call : Call) → IsSettle call → WritesRows call → ⊥
settle-quiet call is rows = let z : 2 ≡ 1 = sym (ap (λ (c : Call). c.kind) is.1) ∙ rows.0 in omega (arith, z)

ending-quiet : (call : Call) → IsEndingCall true call → WritesRows call → ⊥
ending-quiet call (inl (inl label)) rows = label-quiet call label rows
ending-quiet call (inl (inr settle)) rows = settle-quiet call settle rows
ending-quiet call (inr write) rows = write-quiet call write rows

-- a call by which marks are read or written, or labels written behind them, which isn't one to the rows
abbrev pub IsMarkOrRead : Call → Type 0
IsMarkOrRead call = IsMapRead call ⊎ (IsMapWrite call ⊎ IsClosing call)

mark-quiet : (call : Call) → IsMarkOrRead call → WritesRows call → ⊥
mark-quiet call (inl read) rows = read-quiet call read rows
mark-quiet call (inr (inl write)) rows = write-quiet call write rows
mark-quiet call (inr (inr (inl label))) rows = label-quiet call label rows
mark-quiet call (inr (inr (inr settle))) rows = settle-quiet call settle rows

-- ## Marks first

abbrev the-write : Call
the-write = call_of 1 1 512 true

abbrev the-settle : Call
the-settle = call_of 2 0 0 true

-- calls none of which writes rows
pub quiet-first : (calls : List Call) → All (λ c. WritesRows c → ⊥) calls → MarksFirst calls
quiet-first calls quiet before after call is rows = absurd (one-of (λ c. WritesRows c → ⊥) calls call quiet (subst (λ l. Contains l call) (sym is) (middle-of before call after)) rows)

marked-front : (reads : List Call) → All IsMapRead reads → All (λ c. WritesRows c → ⊥) (reads ++ the-write ∷ (the-settle ∷ []))
marked-front reads are = All-append (λ c. WritesRows c → ⊥) reads (the-write ∷ (the-settle ∷ [])) (λ k d lt. read-quiet _ (are k d lt)) two
  where
    two : All (λ c. WritesRows c → ⊥) (the-write ∷ (the-settle ∷ []))
    two zero d lt = write-quiet the-write (true, refl)
    two (suc zero) d lt = settle-quiet the-settle (true, refl)
    two (suc (suc k)) d lt = absurd (omega (arith, lt))

-- reads, a mark that went well, and whatever comes behind it
marked-first : (reads more : List Call) → All IsMapRead reads → MarksFirst ((reads ++ the-write ∷ (the-settle ∷ [])) ++ more)
marked-first reads more are before after call is rows =
    let r = behind-all WritesRows (reads ++ the-write ∷ (the-settle ∷ [])) more before after call (marked-front reads are) is rows in
    record {
      before = reads;
      write = the-write;
      between = [];
      after = r.0;
      split = r.1 ∙ append_assoc reads (the-write ∷ (the-settle ∷ [])) r.0;
      writes = (refl, refl);
    }

-- ## Cleared last

-- a settle, an end without writes to the rows, whose last calls clear the map
cleared-last : (front ends : List Call) → All (IsEndingCall true) (ends ++ the-write ∷ (the-settle ∷ [])) → ClearsLast (front ++ the-settle ∷ (ends ++ the-write ∷ (the-settle ∷ [])))
cleared-last front ends are before after call is writes last =
    let split : (front ++ the-settle ∷ ends) ++ the-write ∷ (the-settle ∷ []) ≡ before ++ call ∷ after = append_assoc front (the-settle ∷ ends) (the-write ∷ (the-settle ∷ [])) ∙ is in
    elim (two-places (front ++ the-settle ∷ ends) (the-settle ∷ []) before after the-write call split) [
      | inl same ↦ (
        front,
        ends,
        same.0,
        λ later has rows. ending-quiet later
            (one-of (IsEndingCall true) (ends ++ the-write ∷ (the-settle ∷ [])) later are (subst (λ l. Contains (ends ++ l) later) (subst₂-list call the-write after (the-settle ∷ []) same.1 same.2) has)) rows,
      )
      | inr other ↦ absurd (elim other [
        | inl behind ↦ last the-write behind (refl, refl)
        | inr settle ↦ no-settle call settle writes
      ])
    ]
  where
    subst₂-list : (x z : Call) (xs zs : List Call) → x ≡ z → xs ≡ zs → x ∷ xs ≡ z ∷ zs
    subst₂-list x z xs zs h t = ap (λ c. c ∷ xs) h ∙ ap (λ l. z ∷ l) t

    no-settle : (c : Call) → Contains (the-settle ∷ []) c → WritesMap c → ⊥
    no-settle c (zero, within, same) map = let z : 2 ≡ 1 = ap (λ (x : Call). x.kind) same ∙ map.0 in omega (arith, z)
    no-settle c (suc k, within, same) map = omega (arith, within)

-- ## Calls that are told

-- of the same two moments both are so
both-more : (P Q : List Call → Type 0) (a b : Option (List Call)) → MoreOn P a b → MoreOn Q a b → MoreOn (λ more. P more × Q more) a b
both-more P Q a None one two = tt
both-more P Q None (Some bs) one two = one
both-more P Q (Some xs) (Some bs) one two =
    let same : one.0 ≡ two.0 = append_cancel_left xs one.0 two.0 (sym one.1 ∙ two.1) in
    (one.0, one.1, (one.2, subst Q (sym same) two.2))

-- those that came since are so
pub came-so : (P : List Call → Type 0) (a b : Option (List Call)) (was came : List Call) → a ≡ Some was → b ≡ Some (was ++ came) → MoreOn P a b → P came
came-so P a b was came first last told =
    let t : MoreOn P (Some was) (Some (was ++ came)) = subst (λ o. MoreOn P o (Some (was ++ came))) first (subst (λ o. MoreOn P a o) last told) in
    subst P (sym (append_cancel_left was came t.0 t.1)) t.2

abbrev Any : List Call → Type 0
Any calls = Unit {0}

any-more : (a b : Option (List Call)) → TellsOn a b → MoreOn Any a b
any-more a None h = tt
any-more None (Some bs) h = h
any-more (Some xs) (Some bs) h = (h.0, h.1, tt)

-- what a device tells stays
pub still-tells : {D : Type 0} (g : Ghosts D) (may : ℕ → ℕ → Type 0) (old new : List (Option D)) (d : ℕ) → Changes g may old new → MoreOn Any (calls_of g old d) (calls_of g new d)
still-tells {D = D} g may old new d h = any-more (calls_of g old d) (calls_of g new d) (go (device_at old d) (device_at new d) (h.each d))
  where
    go : (x z : Option D) → StaysIf g (may d) x z → TellsOn (option_and_then g.calls x) (option_and_then g.calls z)
    go None None s = tt
    go None (Some z) s = absurd s
    go (Some x) None s = absurd s
    go (Some x) (Some z) s = s.told

mark-more : (good : Bool) (a b : Option (List Call)) → MarksOn a b good → MoreOn (MarkCalls good) a b
mark-more good a None h = tt
mark-more good None (Some bs) h = h
mark-more good (Some xs) (Some bs) h = (h.0, h.2, h.1)

tells-more : (call : Call) (a b : Option (List Call)) → Tells a b call → MoreOn (λ more. more ≡ call ∷ []) a b
tells-more call a None h = tt
tells-more call None (Some bs) h = h
tells-more call (Some xs) (Some bs) h = (call ∷ [], h, refl)

-- reads of its map, and a mark that went well
abbrev IsFront : List Call → Type 0
IsFront calls = (xs : List Call) × (calls ≡ xs ++ the-write ∷ (the-settle ∷ [])) × All IsMapRead xs

-- and behind a settle that did
abbrev IsSettled : List Call → Type 0
IsSettled calls = (xs : List Call) × (calls ≡ xs ++ the-settle ∷ [])

-- reads of its map, a mark that went well, and whatever came behind it
pub told-marked : (a b c z : Option (List Call)) → MoreOn (All IsMapRead) a b → MarksOn b c true → MoreOn Any c z → MoreOn MarksFirst a z
told-marked a b c z reads marks more =
    more-then IsFront Any MarksFirst a c z (λ xs ys front any. subst (λ l. MarksFirst (l ++ ys)) (sym front.1) (marked-first front.0 ys front.2))
    (more-then (All IsMapRead) (MarkCalls true) IsFront a b c (λ xs ys are is. (xs, ap (λ l. xs ++ l) is, are)) reads (mark-more true b c marks)) more

-- reads and marks alone
pub told-quiet : (a b : Option (List Call)) → MoreOn (All IsMarkOrRead) a b → MoreOn MarksFirst a b
told-quiet a None h = tt
told-quiet None (Some bs) h = h
told-quiet (Some xs) (Some bs) h = (h.0, h.1, quiet-first h.0 (λ k d lt. mark-quiet _ (h.2 k d lt)))

-- whatever came first, a settle that went well, and an end that cleared the map
pub told-cleared : (a b c z : Option (List Call)) → MoreOn Any a b → Tells b c (call_of 2 0 0 true) → MoreOn (All (IsEndingCall true)) c z → MoreOn EndCleared c z → MoreOn ClearsLast a z
told-cleared a b c z first settle ends cleared =
    more-then IsSettled (λ more. All (IsEndingCall true) more × EndCleared more) ClearsLast a c z
    (λ xs ys was is. subst (λ l. ClearsLast (l ++ ys)) (sym was.1) (ends-so was.0 ys is.0 is.1))
    (more-then Any (λ more. more ≡ the-settle ∷ []) IsSettled a b c (λ xs ys any is. (xs, ap (λ l. xs ++ l) is)) first (tells-more the-settle b c settle))
    (both-more (All (IsEndingCall true)) EndCleared c z ends cleared)
  where
    ends-so : (front ys : List Call) → All (IsEndingCall true) ys → EndCleared ys → ClearsLast ((front ++ the-settle ∷ []) ++ ys)
    ends-so front ys are cleared =
        subst (λ l. ClearsLast ((front ++ the-settle ∷ []) ++ l)) (sym cleared.1)
        (subst ClearsLast (sym (append_assoc front (the-settle ∷ []) (cleared.0 ++ the-write ∷ (the-settle ∷ []))))
        (cleared-last front cleared.0 (subst (All (IsEndingCall true)) cleared.1 are)))
