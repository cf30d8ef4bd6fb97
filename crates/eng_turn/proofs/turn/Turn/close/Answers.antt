use Rattle.std.proofs.Common.{◌∙◌, [], ◌∷◌, sym, subst}
use Rattle.eng_turn.proofs.Keeps.{ends, some_value, not_some}
use Rattle.eng_turn.proofs.turn.Turn.close.Goals as goal

pub unreachable-requires : goal.unreachable-requires
unreachable-requires g c = let R = g.R.TurnRule in let outside = c.requires.outside in
    let ended = ends R.empty R.fits R.after _ R.empty_goes _ _ _ _ _ _ outside.2 outside.1 outside.0 c.close_with-closed.ensures.values.2 c.word-word.ensures c.take-slot.ensures.value in
    let alone = ended.0 c.if-word-eq2.true in absurd (not_some alone.1.0 (sym c.in_default.is ∙ alone.1.1))

pub returns-clause-none : goal.returns-clause-none
returns-clause-none g c = let R = g.R.TurnRule in let outside = c.requires.outside in
    let ended = ends R.empty R.fits R.after _ R.empty_goes _ _ _ _ _ _ outside.2 outside.1 outside.0 c.close_with-closed.ensures.values.2 c.word-word.ensures c.take-slot.ensures.value in
    ended.1 c.if-word-eq2.false

pub returns-then-word-eq2-clause-some : goal.returns-then-word-eq2-clause-some
returns-then-word-eq2-clause-some g c = let R = g.R.TurnRule in let outside = c.requires.outside in
    let ended = ends R.empty R.fits R.after _ R.empty_goes _ _ _ _ _ _ outside.2 outside.1 outside.0 c.close_with-closed.ensures.values.2 c.word-word.ensures c.take-slot.ensures.value in
    (ended.0 c.if-word-eq2.true).0

pub returns-then-word-eq2-clause-fits : goal.returns-then-word-eq2-clause-fits
returns-then-word-eq2-clause-fits g c = let R = g.R.TurnRule in let outside = c.requires.outside in let opening = c.args.self.table.shared.key.value in
    let ended = ends R.empty R.fits R.after _ R.empty_goes _ _ _ _ _ _ outside.2 outside.1 outside.0 c.close_with-closed.ensures.values.2 c.word-word.ensures c.take-slot.ensures.value in
    let alone = ended.0 c.if-word-eq2.true in
    let same = some_value alone.1.0 c.in-Some.resting (sym alone.1.1 ∙ c.in-Some.is) in
    subst (λ h. R.fits opening h.value (c.args.pass.seat.me.0.ticket ∷ [])) same alone.1.2

pub returns-then-word-eq2-clause-after : goal.returns-then-word-eq2-clause-after
returns-then-word-eq2-clause-after g c = let R = g.R.TurnRule in let outside = c.requires.outside in
    let ended = ends R.empty R.fits R.after _ R.empty_goes _ _ _ _ _ _ outside.2 outside.1 outside.0 c.close_with-closed.ensures.values.2 c.word-word.ensures c.take-slot.ensures.value in
    let alone = ended.0 c.if-word-eq2.true in
    let same = some_value alone.1.0 c.in-Some.resting (sym alone.1.1 ∙ c.in-Some.is) in
    λ k is. subst (λ h. R.after k h.value) same (alone.1.3 k is)
