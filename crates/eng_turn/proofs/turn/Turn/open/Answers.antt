use Rattle.std.proofs.Common.{◌≡◌, ◌∙◌, [], ◌∷◌, ◌++◌, List, Some, None, sym, ap, subst}
use Rattle.atomic_table.specs.Table.{opening}
use Rattle.eng_turn.specs.declared.view.Resting.{Resting}
use Rattle.eng_turn.specs.View.{Content, opener}
use Rattle.eng_turn.specs.Rule.{Kept}
use Rattle.eng_turn.proofs.Keeps.{opens}
use Rattle.eng_turn.proofs.turn.Turn.open.Goals as goal

pub new-requires : goal.new-requires
new-requires g c = let R = g.R.TurnRule in let o = c.of-about.result.value in let V : Type 0 = g.row.R-Value.Denot in let T : Type 0 = g.row.R-Ticket.Denot in let h : Resting V T = record { value = c.args.value; ticket = None } in
    let e : c.push.new.self.items ≡ Some h ∷ [] = c.in_default.ensures.items ∙ ap (λ (l : List (Content V T)). l ++ Some h ∷ []) c.new-slots.ensures.items in
    subst (λ (xs : List (Content V T)). Kept R.empty R.fits R.after o (opening (2 ∷ []) xs (opener R.empty o))) (sym e)
    (opens R.empty R.fits R.after R.after_itself o h (sym c.of-about.ensures) (subst (λ (y : V). R.fits y y (R.empty ∷ [])) (sym c.of-about.ensures) c.requires))
