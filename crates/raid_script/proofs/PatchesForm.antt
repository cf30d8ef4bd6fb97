-- That the patches that are read fill their places, and may be asked for.
use Rattle.std.proofs.Common.{◌≡◌, ℕ, zero, suc, ◌≤◌, List, [], ◌∷◌, Ok, length, subst, arith, All}
use Rattle.std.proofs.lemmas.List.Elements.{All-cons, All-nil}
use Rattle.raid_text.specs.Text.{Text}
use Rattle.text_steps.specs.Steps.{at_end}
use Rattle.graph_text.specs.Format.{Named}
use Rattle.graph_text.proofs.CanonicalSteps.{bind_ok, ok_pair, ok_same}
use Rattle.raid_script.specs.Asked.{AskedPatch, IsPatch}
use Rattle.raid_script.specs.Format.{all_patches_of, next_patch, next_pattern, next_span, patches_of}
use Rattle.raid_script.specs.Form.{Place, Number, Digits, FillsAll, patch_places}
use Rattle.raid_script.proofs.PlacesFilled.{end_fills, pattern_fills, span_fills}

-- a patch that was read, in front of words that fill places
pub record PatchRead (book : List Named) (words : List Text) (patch : AskedPatch) (behind : List Text) : Type 0 where
  pub is : IsPatch patch
  pub fills : (places : List Place) → FillsAll book places behind → FillsAll book (Number patch.span.first ∷ Number patch.span.count ∷ Digits patch.bytes ∷ places) words

pub patch_fills : (book : List Named) (words : List Text) (patch : AskedPatch) (behind : List Text) → next_patch words ≡ Ok (patch, behind) → PatchRead book words patch behind
unfolding next_patch
patch_fills book words patch behind h =
    let span = bind_ok (next_span words) _ (patch, behind) h in
    let bytes = bind_ok (next_pattern span.0.2) _ (patch, behind) span.2 in
    let read = span_fills book words span.0.0 span.0.1 span.0.2 span.1 in
    let found : AskedPatch = record { span = record { first = span.0.0; count = span.0.1 }; bytes = bytes.0.0 } in
    let both = ok_pair found patch bytes.0.1 behind bytes.2 in
    subst (λ (p : AskedPatch). PatchRead book words p behind) both.0 (subst (λ (rest : List Text). PatchRead book words found rest) both.1 (record {
      is = (read.small, read.some);
      fills = λ places fills. read.fills (Digits bytes.0.0 ∷ places) (pattern_fills book span.0.2 bytes.0.0 bytes.0.1 bytes.1 places fills);
    }))

-- patches that were read
pub record PatchesRead (book : List Named) (n : ℕ) (words : List Text) (patches : List AskedPatch) : Type 0 where
  pub few : length patches ≤ n
  pub each : All IsPatch patches
  pub fills : FillsAll book (patch_places patches) words

patches_fill : (book : List Named) (n : ℕ) (words : List Text) (patches : List AskedPatch) → patches_of n words ≡ Ok patches → PatchesRead book n words patches
unfolding patches_of
patches_fill book zero words patches h =
    let end = bind_ok (at_end words) _ patches h in
    subst (λ (ps : List AskedPatch). PatchesRead book zero words ps) (ok_same [] patches end.2) (record { few = omega arith; each = All-nil IsPatch; fills = end_fills book words end.0 end.1 })
patches_fill book (suc n) [] patches h =
    subst (λ (ps : List AskedPatch). PatchesRead book (suc n) [] ps) (ok_same [] patches h) (record { few = omega arith; each = All-nil IsPatch; fills = tt })
patches_fill book (suc n) (word ∷ words) patches h =
    let patch = bind_ok (next_patch (word ∷ words)) _ patches h in
    let more = bind_ok (patches_of n patch.0.1) _ patches patch.2 in
    let one = patch_fills book (word ∷ words) patch.0.0 patch.0.1 patch.1 in
    let others = patches_fill book n patch.0.1 more.0 more.1 in
    subst (λ (ps : List AskedPatch). PatchesRead book (suc n) (word ∷ words) ps) (ok_same (patch.0.0 ∷ more.0) patches more.2) (record {
      few = let f = others.few in omega (arith, f);
      each = All-cons IsPatch patch.0.0 more.0 one.is others.each;
      fills = one.fills (patch_places more.0) others.fills;
    })

-- one of them at least
pub record AllRead (book : List Named) (words : List Text) (patches : List AskedPatch) : Type 0 where
  pub some : 1 ≤ length patches
  pub few : length patches ≤ 8
  pub each : All IsPatch patches
  pub fills : FillsAll book (patch_places patches) words

pub all_patches_fill : (book : List Named) (words : List Text) (patches : List AskedPatch) → all_patches_of words ≡ Ok patches → AllRead book words patches
unfolding all_patches_of
all_patches_fill book words patches h =
    let first = bind_ok (next_patch words) _ patches h in
    let more = bind_ok (patches_of 7 first.0.1) _ patches first.2 in
    let one = patch_fills book words first.0.0 first.0.1 first.1 in
    let others = patches_fill book 7 first.0.1 more.0 more.1 in
    subst (λ (ps : List AskedPatch). AllRead book words ps) (ok_same (first.0.0 ∷ more.0) patches more.2) (record {
      some = let z : 1 ≤ suc (length more.0) = omega arith in z;
      few = let f = others.few in omega (arith, f);
      each = All-cons IsPatch first.0.0 more.0 one.is others.each;
      fills = one.fills (patch_places more.0) others.fills;
    })
