use Rattle.std.proofs.Common.{◌≡◌, ◌∙◌, true, false, refl}
use Rattle.std.specs.Prelude.{nat_le}
use Rattle.std.proofs.lemmas.Bool.{le-leb}
use Rattle.blk_plain.specs.Plain.{used_of}
use Rattle.raid_script.specs.Format.{are_apart}
use Rattle.raid_script.specs.Steps.{writes_of, seen_patches}
use Rattle.raid_script.proofs.PatchesApart.{test-is}
use Rattle.raid_script.proofs.kinds.writes_in.Goals as goal

pub returns-then-not-are_apart : goal.returns-then-not-are_apart
unfolding writes_of
returns-then-not-are_apart c =
    let patches = c.in_ok-patches.patches in
    let test : are_apart (seen_patches patches) ≡ false =
    test-is (used_of patches) c.are_apart.result c.in_ok-patches.ensures.some c.are_apart.ensures.0 c.are_apart.ensures.1 ∙ c.if-not-are_apart.true in
    rw (c.in_ok-patches.ensures.value, test) refl

pub returns : goal.returns
unfolding writes_of
returns c =
    let patches = c.in_ok-patches.patches in
    let test : are_apart (seen_patches patches) ≡ true =
    test-is (used_of patches) c.are_apart.result c.in_ok-patches.ensures.some c.are_apart.ensures.0 c.are_apart.ensures.1 ∙ c.if-not-are_apart.false in
    let few : nat_le patches.used 8 ≡ true = le-leb patches.used 8 c.in_ok-patches.ensures.few in
    rw (c.in_ok-patches.ensures.value, test, few) refl
