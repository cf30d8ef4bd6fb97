use Rattle.std.proofs.Common.{◌≡◌, ◌∙◌, ◌<◌, ◌≤◌, ◌-◌, ◌++◌, [], ◌∷◌, List, map, sym, ap, arith}
use Rattle.std.proofs.lemmas.List.{map_push}
use Rattle.std.proofs.lemmas.List.Elements.{All-push}
use Rattle.std.proofs.lemmas.Result.{err_from_is_err_and}
use Rattle.blk_plain.specs.declared.op.Patch.{Patch}
use Rattle.blk_plain.specs.Plain.{used_of}
use Rattle.raid_text.specs.Seen.{words_left}
use Rattle.raid_script.specs.Steps.{seen_patch, seen_patches}
use Rattle.raid_script.proofs.PatchesInTurn.{are_done, none_more, one_more, one_refused}
use Rattle.raid_script.proofs.patches.add_patches.Goals as goal

-- a word behind eight patches
pub returns-then-from-eq-SPANS-clause-value : goal.returns-then-from-eq-SPANS-clause-value
returns-then-from-eq-SPANS-clause-value c =
    let before = rw c.in-Some.ensures.some at c.loop-word.invariant.read in
    sym before ∙ none_more (seen_patches c.loop-word.patches) c.loop-word.patches.used c.in-Some.word.now (words_left c.next.new.self) (omega arith)

pub returns-in_err-patch-clause-value : goal.returns-in_err-patch-clause-value
returns-in_err-patch-clause-value c =
    let before = rw c.in-Some.ensures.some at c.loop-word.invariant.read in
    let p = err_from_is_err_and c.from_residual.result c.from_residual.ensures.1 in
    rw (p.1, p.2) (sym before ∙ one_refused (seen_patches c.loop-word.patches) c.loop-word.patches.used c.in-Some.word.now (words_left c.next.new.self) c.in_err-patch.field-0.0 (omega arith) c.in_err-patch.ensures.value)

pub loop-word-preserved : goal.loop-word-preserved
loop-word-preserved c =
    let front = seen_patches c.loop-word.patches in
    let patch = c.in_ok-patch.patch in
    let before = rw c.in-Some.ensures.some at c.loop-word.invariant.read in
    let below : c.loop-word.patches.used < 8 = omega arith in
    let step = one_more front c.loop-word.patches.used c.in-Some.word.now (words_left c.next.new.self) (words_left c.patch_from.new.words) (seen_patch patch) below c.in_ok-patch.ensures.value in
    let seen : seen_patches c.push_patch.new.patches ≡ front ++ seen_patch patch ∷ [] =
    ap (λ (ps : List Patch). map seen_patch ps) c.push_patch.ensures.list ∙ map_push seen_patch (used_of c.loop-word.patches) patch in
    record {
      read = rw (seen, c.push_patch.ensures.used) (step ∙ before);
      few = omega (arith, c.push_patch.ensures.used);
      some = rw c.push_patch.ensures.list (All-push (λ (p : Patch). 1 ≤ p.span.count) (used_of c.loop-word.patches) patch c.loop-word.invariant.some c.in_ok-patch.ensures.some);
    }

pub returns : goal.returns
returns c =
    let before = rw c.in_default.ensures.none.0 at c.loop-word.invariant.read in
    record {
      value = sym before ∙ are_done (seen_patches c.loop-word.patches) (8 - c.loop-word.patches.used);
      few = c.loop-word.invariant.few;
      some = c.loop-word.invariant.some;
    }
