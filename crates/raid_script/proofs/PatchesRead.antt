-- That words that fill the places of patches are read as these.
use Rattle.std.proofs.Common.{◌≡◌, ℕ, zero, suc, ◌≤◌, List, [], ◌∷◌, Ok, length, refl, arith, All}
use Rattle.std.proofs.lemmas.List.Elements.{All-head, All-tail}
use Rattle.raid_text.specs.Text.{Text}
use Rattle.text_steps.specs.Steps.{at_end}
use Rattle.graph_text.specs.Format.{Named}
use Rattle.raid_script.specs.Asked.{AskedPatch, ArePatches, IsPatch}
use Rattle.raid_script.specs.Format.{all_patches_of, next_patch, patches_of}
use Rattle.raid_script.specs.Steps.{writes_of}
use Rattle.raid_script.specs.Asked.{WritesAll}
use Rattle.raid_script.specs.Form.{Place, Number, Digits, FillsAll, patch_places}
use Rattle.raid_script.proofs.PlacesRead.{pattern_read, span_read}
use Rattle.raid_script.proofs.PatchesApart.{apart-test}

pub patch_read : (book : List Named) (patch : AskedPatch) (places : List Place) (words : List Text) → IsPatch patch → FillsAll book (Number patch.span.first ∷ Number patch.span.count ∷ Digits patch.bytes ∷ places) words
    → (behind : List Text) × (next_patch words ≡ Ok (patch, behind)) × FillsAll book places behind
unfolding next_patch
patch_read book patch places words is fills =
    let span = span_read book patch.span.first patch.span.count (Digits patch.bytes ∷ places) words is.1 fills in
    let pattern = pattern_read book patch.bytes places span.0 span.2 in
    (pattern.0, rw (span.1, pattern.1) refl, pattern.2)

patches_read : (book : List Named) (n : ℕ) (patches : List AskedPatch) (words : List Text) → length patches ≤ n → All IsPatch patches → FillsAll book (patch_places patches) words → patches_of n words ≡ Ok patches
unfolding patches_of at_end
patches_read book zero [] [] few are fills = refl
patches_read book (suc n) [] [] few are fills = refl
patches_read book n [] (word ∷ words) few are fills = absurd fills
patches_read book n (patch ∷ patches) [] few are fills = absurd fills
patches_read book zero (patch ∷ patches) (word ∷ words) few are fills = absurd (let u : ⊥ = omega (arith, few) in u)
patches_read book (suc n) (patch ∷ patches) (word ∷ words) few are fills =
    let one = patch_read book patch (patch_places patches) (word ∷ words) (All-head IsPatch patch patches are) fills in
    let others = patches_read book n patches one.0 (omega (arith, few)) (All-tail IsPatch patch patches are) one.2 in
    rw (one.1, others) refl

all_patches_read : (book : List Named) (patches : List AskedPatch) (words : List Text) → ArePatches patches → FillsAll book (patch_places patches) words → all_patches_of words ≡ Ok patches
unfolding all_patches_of
all_patches_read book [] words are fills = absurd (let s = are.some in let u : ⊥ = omega (arith, s) in u)
all_patches_read book (patch ∷ patches) words are fills =
    let one = patch_read book patch (patch_places patches) words (All-head IsPatch patch patches are.each) fills in
    let others = patches_read book 7 patches one.0 (let f = are.few in omega (arith, f)) (All-tail IsPatch patch patches are.each) one.2 in
    rw (one.1, others) refl

pub writes_read : (book : List Named) (graph : _) (patches : List AskedPatch) (words : List Text) → ArePatches patches → FillsAll book (patch_places patches) words → writes_of graph words ≡ Ok (WritesAll patches graph)
unfolding writes_of
writes_read book graph patches words are fills = rw (all_patches_read book patches words are fills, apart-test patches are.each are.apart) refl
