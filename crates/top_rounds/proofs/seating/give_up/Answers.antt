use Rattle.std.proofs.Common.{◌≡◌, ◌<◌, ◌∙◌, ◌++◌, List, ap, length, map, take, get_or, append-nil, arith}
use Rattle.std.specs.Prelude.{set}
use Rattle.std.proofs.lemmas.List.{take_all}
use Rattle.eng_cols.specs.declared.column.Column.{Column}
use Rattle.eng_cols.proofs.Counting.{drop-end}
use Rattle.top_rounds.specs.Labels.{unless_filling}
use Rattle.top_rounds.proofs.SeatLaws.{gives_more, still_there}
use Rattle.top_rounds.proofs.seating.give_up.Goals as goal

pub loop-c-preserved : goal.loop-c-preserved
loop-c-preserved c =
    let xs = c.args.columns.now in
    let n = c.loop-c.c in
    let x = c.unless_filling.result in
    let lt : n < length xs = omega arith in
    ap (λ (l : List Column). set l n x) c.loop-c.invariant
    ∙ gives_more unless_filling xs n _ x lt (c.unless_filling.ensures ∙ ap unless_filling (ap (λ (l : List Column). get_or l n _) c.loop-c.invariant ∙ still_there unless_filling xs n _ lt))

pub returns : goal.returns
returns c =
    let xs = c.args.columns.now in
    let n = c.loop-c.c in
    let all : n ≡ length xs = omega arith in
    c.loop-c.invariant
    ∙ (ap (λ (l : List Column). map unless_filling (take n xs) ++ l) (drop-end xs n (omega (arith, all)))
    ∙ (append-nil (map unless_filling (take n xs))
    ∙ ap (map unless_filling) (take_all n xs (omega (arith, all)))))
