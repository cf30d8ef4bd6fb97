use Rattle.std.specs.Prelude.{◌≡◌, List, length}
use Rattle.std.proofs.Common.{◌∙◌, ap, sym}
use Rattle.std.proofs.lemmas.List.{length-map}
use Rattle.eng_cols.specs.declared.column.Column.{Column}
use Rattle.top_rounds.specs.Labels.{given_up, unless_filling}
use Rattle.top_rounds.proofs.RoundLaws.{whole_slice}
use Rattle.top_duty.proofs.preparing.lost.Goals as goal

pub returns : goal.returns
returns c =
    let v = c.args.columns in
    let new = c.give_up.new.columns in
    let is : new ≡ given_up v.items = c.give_up.ensures ∙ ap given_up c.as_mut_slice.ensures.value in
    let own : length v.items ≡ v.len = sym v.ok.0 in
    let many : length new ≡ v.len = ap (λ (l : List Column). length l) is ∙ (length-map v.items unless_filling ∙ own) in
    whole_slice v.len new v.items own many ∙ is
