use Rattle.std.proofs.Common.{◌≡◌, ◌∙◌, ℕ, ◌≤◌, true, false, List, [], ◌∷◌, All, map, refl, sym, ap, subst, arith}
use Rattle.std.specs.Prelude.{nat_le, nat_lt}
use Rattle.std.proofs.lemmas.Bool.{lt-ltb}
use Rattle.std.proofs.lemmas.Bool.Decides.{nat_tests}
use Rattle.std.proofs.lemmas.List.Elements.{All-cons, All-nil}
use Rattle.blk_plain.specs.declared.op.Patch.{Patch}
use Rattle.blk_plain.specs.Plain.{used_of}
use Rattle.raid_script.specs.Steps.{seen_patch}
use Rattle.raid_script.specs.Format.{are_apart, join_of}
use Rattle.raid_script.proofs.PatchesApart.{test-is}
use Rattle.raid_script.proofs.joining.join_in.Goals as goal

-- both spans have a block
some : (one other : Patch) (patches : List Patch) → patches ≡ one ∷ other ∷ [] → 1 ≤ one.span.count → 1 ≤ other.span.count → All (λ (p : Patch). 1 ≤ p.span.count) patches
some one other patches is a b =
    subst (λ (ps : List Patch). All (λ (p : Patch). 1 ≤ p.span.count) ps) (sym is)
    (All-cons (λ (p : Patch). 1 ≤ p.span.count) one (other ∷ []) a (All-cons (λ (p : Patch). 1 ≤ p.span.count) other [] b (All-nil (λ (p : Patch). 1 ≤ p.span.count))))

above : (j : ℕ) → 64 ≤ j → nat_lt j 64 ≡ false
above j h = grind (arith, nat_tests)

pub returns-then-not-are_apart-clause-value : goal.returns-then-not-are_apart-clause-value
unfolding join_of
returns-then-not-are_apart-clause-value c =
    let h = c.in_ok-halves.halves in
    let patches = c.two_patches-patches.result in
    let is : used_of patches ≡ h.one ∷ h.other ∷ [] = c.two_patches-patches.ensures.list in
    let test : are_apart (map seen_patch (used_of patches)) ≡ false =
    test-is (used_of patches) c.are_apart.result (some h.one h.other (used_of patches) is c.in_ok-halves.ensures.one c.in_ok-halves.ensures.other) c.are_apart.ensures.0 c.are_apart.ensures.1 ∙ c.if-not-are_apart.true in
    let two : are_apart (seen_patch h.one ∷ seen_patch h.other ∷ []) ≡ false = subst (λ (ps : List Patch). are_apart (map seen_patch ps) ≡ false) is test in
    rw (c.in_ok-halves.ensures.value, two) refl

pub returns-then-joins-ge-JOINS-clause-value : goal.returns-then-joins-ge-JOINS-clause-value
unfolding join_of
returns-then-joins-ge-JOINS-clause-value c =
    let h = c.in_ok-halves.halves in
    let patches = c.two_patches-patches.result in
    let is : used_of patches ≡ h.one ∷ h.other ∷ [] = c.two_patches-patches.ensures.list in
    let test : are_apart (map seen_patch (used_of patches)) ≡ true =
    test-is (used_of patches) c.are_apart.result (some h.one h.other (used_of patches) is c.in_ok-halves.ensures.one c.in_ok-halves.ensures.other) c.are_apart.ensures.0 c.are_apart.ensures.1 ∙ c.if-not-are_apart.false in
    let two : are_apart (seen_patch h.one ∷ seen_patch h.other ∷ []) ≡ true = subst (λ (ps : List Patch). are_apart (map seen_patch ps) ≡ true) is test in
    let full : nat_lt c.args.joins 64 ≡ false = above c.args.joins c.if-joins-ge-JOINS.true in
    rw (c.in_ok-halves.ensures.value, two, full) refl

pub returns-clause-value : goal.returns-clause-value
unfolding join_of
returns-clause-value c =
    let h = c.in_ok-halves.halves in
    let patches = c.two_patches-patches.result in
    let is : used_of patches ≡ h.one ∷ h.other ∷ [] = c.two_patches-patches.ensures.list in
    let test : are_apart (map seen_patch (used_of patches)) ≡ true =
    test-is (used_of patches) c.are_apart.result (some h.one h.other (used_of patches) is c.in_ok-halves.ensures.one c.in_ok-halves.ensures.other) c.are_apart.ensures.0 c.are_apart.ensures.1 ∙ c.if-not-are_apart.false in
    let two : are_apart (seen_patch h.one ∷ seen_patch h.other ∷ []) ≡ true = subst (λ (ps : List Patch). are_apart (map seen_patch ps) ≡ true) is test in
    let room : nat_lt c.args.joins 64 ≡ true = lt-ltb c.args.joins 64 (let l = c.if-joins-ge-JOINS.false in omega (arith, l)) in
    let few : nat_le patches.used 8 ≡ true = ap (λ n. nat_le n 8) c.two_patches-patches.ensures.used in
    let list : map seen_patch (used_of patches) ≡ seen_patch h.one ∷ seen_patch h.other ∷ [] = ap (λ (ps : List Patch). map seen_patch ps) is in
    rw (c.in_ok-halves.ensures.value, two, room, few, list, c.count.ensures.count) refl
