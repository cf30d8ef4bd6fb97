use Rattle.std.proofs.Common.{◌≡◌, ◌∙◌, ◌++◌, ℕ, List, take, codes, decimal, flat_map, ap, arith}
use Rattle.std.proofs.lemmas.List.{take_all}
use Rattle.top_looks.specs.Labels.{numbers_line}
use Rattle.top_looks.proofs.label.set_numbers.Goals as goal

pub returns : goal.returns
unfolding numbers_line
returns c =
    let all : take c.loop-number.number-index c.args.numbers.now ≡ c.args.numbers.now = take_all c.loop-number.number-index c.args.numbers.now (omega arith) in
    c.push-2.ensures
    ∙ ap (λ (text : List ℕ). text ++ codes "\n")
    (c.loop-number.invariant.text ∙ ap (λ (numbers : List ℕ). codes "label" ++ flat_map (λ number. codes " " ++ decimal number) numbers) all)
