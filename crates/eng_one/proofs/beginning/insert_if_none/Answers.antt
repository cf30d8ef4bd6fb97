use Rattle.std.proofs.Common.{◌≡◌, Bool, true, false, refl, ap, sym, ◌∙◌}
use Rattle.std.specs.Prelude.{◌==◌, ◌||◌, if◌then◌else◌}
use Rattle.std.proofs.lemmas.Bool.{eq-eqb, ne_eqb}
use Rattle.eng_one.specs.Bits.{has}
use Rattle.eng_one.proofs.beginning.insert_if_none.Goals as goal

same-both : (b x : Bool) → x ≡ (if b then x else x)
same-both true x = refl
same-both false x = refl

pub returns-then-count-eq0 : goal.returns-then-count-eq0
returns-then-count-eq0 c k = c.insert.ensures k ∙ ap (λ b. if k == c.args.node then b || has c.args.ready.now k else has c.args.ready.now k) (sym (eq-eqb c.args.count 0 c.if-count-eq0.true))

pub returns-else-count-eq0 : goal.returns-else-count-eq0
returns-else-count-eq0 c k =
    same-both (k == c.args.node) (has c.args.ready.now k)
    ∙ ap (λ b. if k == c.args.node then b || has c.args.ready.now k else has c.args.ready.now k) (sym (ne_eqb c.args.count 0 c.if-count-eq0.false))
