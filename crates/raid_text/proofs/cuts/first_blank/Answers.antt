use Rattle.std.proofs.Common.{◌≡◌, ◌∙◌, rules, arith}
use borrow.Author.Tests.{tests}
use Rattle.std.specs.Prelude.{nat_le}
use Rattle.std.proofs.lemmas.Iterator.{YieldsList-from_slice}
use Rattle.std.proofs.lemmas.Iterator.Search.{position_from_yields_List}
use Rattle.raid_text.proofs.LineCuts.{le_length, unwrap_first}
use Rattle.raid_text.proofs.WordCuts.{low_place}
use Rattle.std.specs.List.{position_or_len}
use Rattle.raid_text.proofs.cuts.first_blank.Goals as goal

pub returns-clause-place : goal.returns-clause-place
returns-clause-place c =
    let p = position_from_yields_List (λ b. nat_le b 32) _ _ c.position.result c.position.ensures.ran (YieldsList-from_slice c.args.bytes.now cc) (λ x b q k. search (rules, arith, tests)) in
    let u = unwrap_first (λ b. nat_le b 32) c.args.bytes.now c.position.result p in
    c.unwrap_or.ensures ∙ u ∙ low_place c.args.bytes.now c.requires

pub returns-clause-within : goal.returns-clause-within
returns-clause-within c =
    let p = position_from_yields_List (λ b. nat_le b 32) _ _ c.position.result c.position.ensures.ran (YieldsList-from_slice c.args.bytes.now cc) (λ x b q k. search (rules, arith, tests)) in
    let u : c.unwrap_or.result ≡ position_or_len (λ b. nat_le b 32) c.args.bytes.now = c.unwrap_or.ensures ∙ unwrap_first (λ b. nat_le b 32) c.args.bytes.now c.position.result p in
    omega (arith, le_length (λ b. nat_le b 32) c.args.bytes.now)
