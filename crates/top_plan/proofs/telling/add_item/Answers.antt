use Rattle.std.proofs.Common.{◌≡◌, ◌++◌, ℕ, List, refl, sym, subst}
use Rattle.std.specs.Prelude.{Result, Ok, Err, OnOk, codes}
use Rattle.eng_world.specs.declared.item.Item.{Item}
use Rattle.top_plan.specs.Texts.{IsToldOf, other_line}
use Rattle.top_plan.proofs.telling.add_item.Goals as goal

pub returns-in-Run : goal.returns-in-Run
returns-in-Run g c =
    subst (λ (i : Item). OnOk c.add_run.result ((told : List ℕ)
    × IsToldOf (g.L.Layout.shape c.args.layout.now) c.args.cols.now.states c.args.place.client c.args.place.number i told
    × (c.add_run.new.text.items ≡ c.args.text.now.items ++ told))) (sym c.in-Run.is) c.add_run.ensures

-- what was added is what is told
on_told : {A E : Type 0} (r : Result A E) (P : List ℕ → Type 0) (old new line : List ℕ) → P line → OnOk r (new ≡ old ++ line) → OnOk r ((told : List ℕ) × P told × (new ≡ old ++ told))
on_told (Ok x) P old new line h e = (line, h, e)
on_told (Err e) P old new line h f = tt

pub returns-in-Fail : goal.returns-in-Fail
returns-in-Fail g c =
    let y = g.L.Layout.shape c.args.layout.now in
    let line = other_line c.args.place.client c.args.place.number (codes " fails a column") in
    on_told c.add_other.result (λ (told : List ℕ). IsToldOf y c.args.cols.now.states c.args.place.client c.args.place.number c.args.item.now told)
    c.args.text.now.items c.add_other.new.text.items line
    (subst (λ (i : Item). IsToldOf y c.args.cols.now.states c.args.place.client c.args.place.number i line) (sym c.in-Fail.is) refl)
    c.add_other.ensures
