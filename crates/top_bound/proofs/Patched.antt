-- What a script's write of several spans is to a core.
use Rattle.std.proofs.Common.{◌≡◌, ◌∙◌, ℕ, ◌+◌, ◌<◌, ◌≤◌, inl, inr, Bool, true, false, List, [], ◌∷◌, length, map, get_or, if◌then◌else◌, refl, sym, ap, subst, arith}
use Rattle.std.specs.Prelude.{Option, IsTrue, ◌↔◌, nat_le, nat_lt, All, Any}
use Rattle.std.specs.List.{list_any}
use Rattle.std.specs.Option.{ForSome}
use Rattle.std.proofs.lemmas.Bool.{cases_Bool, leb-true, lt-ltb, ltb-true}
use Rattle.std.proofs.lemmas.List.{get_or-map, length-map}
use Rattle.std.proofs.lemmas.List.Elements.{All-map}
use Rattle.std.proofs.lemmas.List.Folds.{Any-from_list_any, list_any-from_Any}
use Rattle.blk_plain.specs.declared.op.Op.TheVariants as op
use Rattle.blk_plain.specs.declared.op.Patch.{Patch}
use Rattle.blk_plain.specs.declared.op.Patches.{Patches}
use Rattle.blk_plain.specs.declared.op.Span.{Span}
use Rattle.blk_plain.specs.Plain.{AreSound, is_in, used_of, spans_of}
use Rattle.eng_plan.specs.Asked.{HasBlocks}
use Rattle.eng_world.specs.declared.item.Item.{Item}
use Rattle.item_list.specs.ItemList.{ItemList}
use Rattle.raid_script.specs.Asked.{Asked, AskedPatch, ArePatches, IsAsked, Other, WritesAll, seen}
use Rattle.raid_script.specs.Steps.{seen_op, seen_patch, seen_patches}
use Rattle.top_bound.specs.Bound.{MayBeAsked}
use Rattle.top_bound.specs.Laws.{asked_of}

-- the spans are the same
pub spans-seen : (ps : List Patch) → map (λ (p : AskedPatch). p.span) (map seen_patch ps) ≡ map (λ (p : Patch). p.span) ps
spans-seen [] = refl
spans-seen (p ∷ ps) = ap (λ (l : List Span). p.span ∷ l) (spans-seen ps)

-- a script's item has at most eight patches in use, and they are as it asks
pub asked-few : (columns graphs : ℕ) (patches : Patches) (graph : Option ℕ) → IsAsked columns graphs (seen_op (op.Writes patches) graph) → (patches.used ≤ 8) × ArePatches (seen_patches patches) × ForSome graph (λ g. g < graphs)
asked-few columns graphs patches graph asked = go (nat_le patches.used 8) refl asked
  where
    go : (few : Bool) → nat_le patches.used 8 ≡ few → IsAsked columns graphs (if few then WritesAll (seen_patches patches) graph else Other) → (patches.used ≤ 8) × ArePatches (seen_patches patches) × ForSome graph (λ g. g < graphs)
    go true e h = (leb-true patches.used 8 e, h.0, h.1)
    go false e h = absurd h

module _ (patches : Patches) (few : patches.used ≤ 8) (are : ArePatches (seen_patches patches)) where
  abbrev used : List Patch
  used = used_of patches

  many : length (seen_patches patches) ≡ length used
  many = length-map used seen_patch

  spans-same : (k : ℕ) (d : Patch) → k < length used → (get_or (seen_patches patches) k (seen_patch d)).span ≡ (get_or used k d).span
  spans-same k d lt = ap (λ (p : AskedPatch). p.span) (get_or-map seen_patch used k d (seen_patch d) lt)

  sound : AreSound patches
  sound = record {
    some = let n = many in let s = are.some in omega (arith, n, s);
    few = few;
    apart = λ i j d lt within b one other.
        let n = many in
        are.apart i j (seen_patch d) lt (omega (arith, n, within)) b
        (ap (λ (s : Span). is_in s b) (spans-same i d (omega (arith, lt, within))) ∙ one)
        (ap (λ (s : Span). is_in s b) (spans-same j d within) ∙ other);
  }

  some : All (λ (s : Span). 1 ≤ s.count) (spans_of patches)
  some = All-map (λ (s : Span). 1 ≤ s.count) (λ (p : Patch). p.span) used (λ k d lt.
      let n = many in
      let h = are.each k (seen_patch d) (omega (arith, n, lt)) in
      subst (λ (s : Span). 0 < s.count) (spans-same k d lt) h.1)

  pub has-blocks : HasBlocks (op.Writes patches)
  has-blocks = (sound, some)

-- whether one of the spans passes the end
pub some-passes : (n : ℕ) (spans : List Span) (passes : Bool) → IsTrue passes ↔ Any (λ (s : Span). n < s.first + s.count) spans → list_any (λ (s : Span). nat_lt n (s.first + s.count)) spans ≡ passes
some-passes n spans true is =
    let a = is.0 refl in
    list_any-from_Any (λ (s : Span). nat_lt n (s.first + s.count)) spans (a.0, a.1, a.2, a.3, lt-ltb n (a.1.first + a.1.count) a.4)
some-passes n spans false is = elim (cases_Bool (list_any (λ (s : Span). nat_lt n (s.first + s.count)) spans)) [
  | inl past ↦
      let a = Any-from_list_any (λ (s : Span). nat_lt n (s.first + s.count)) spans past in
      let one : false ≡ true = is.1 (a.0, a.1, a.2, a.3, ltb-true n (a.1.first + a.1.count) a.4) in
      absurd (let u : ⊥ = cc in u)
  | inr none ↦ none
]

-- an item of a list that all may be asked
pub each-asked : (items : List Item) (k : ℕ) (i : Item) → All MayBeAsked (map seen items) → k < length items → get_or items k i ≡ i → MayBeAsked (seen i)
each-asked items k i all lt is =
    let n = length-map items seen in
    subst MayBeAsked (get_or-map seen items k i (seen i) lt ∙ ap seen is) (all k (seen i) (omega (arith, n, lt)))

-- of rows of such items
pub rows-asked : (columns graphs : ℕ) (clients : List ItemList) → All (All (IsAsked columns graphs)) (asked_of clients) → All (λ (row : ItemList). All MayBeAsked (map seen row.items)) clients
rows-asked columns graphs clients all k d lt =
    let f : ItemList → List Asked = λ row. map seen row.items in
    let n = length-map clients f in
    let row : All (IsAsked columns graphs) (map seen (get_or clients k d).items) = subst (All (IsAsked columns graphs)) (get_or-map f clients k d (f d) lt) (all k (f d) (omega (arith, n, lt))) in
    λ i e l. (columns, graphs, row i e l)
