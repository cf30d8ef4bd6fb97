use Rattle.std.proofs.Common.{◌≡◌, ◌∙◌, List, ℕ, Some, ap, sym, arith}
use Rattle.std.proofs.lemmas.Slice.Eq.{bytes_eq-Decides}
use Rattle.top_bay.specs.Asked.{names_of}
use Rattle.top_bay.proofs.Places.{found_among, nowhere_among}
use Rattle.top_bay.proofs.component.place_of.Goals as goal

pub returns-then-eq : goal.returns-then-eq
returns-then-eq c =
    let same : c.name_at.result.now ≡ c.args.name.now = (bytes_eq-Decides c.name_at.result.now c.args.name.now).0 (sym c.eq.ensures ∙ c.if-eq.true) in
    sym (found_among (names_of c.args.conf.now) c.args.count c.loop-k.k c.args.name.now c.loop-k-test.true c.requires.within
    (c.name_at.ensures ∙ ap (λ (n : List ℕ). Some n) same) c.loop-k.invariant)

pub returns : goal.returns
returns c =
    sym (nowhere_among (names_of c.args.conf.now) c.args.count c.args.name.now c.requires.within
    (λ j n lt at same. c.loop-k.invariant j n (omega (arith, lt, c.loop-k-test.false)) at same))
