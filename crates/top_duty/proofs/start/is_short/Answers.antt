use Rattle.std.proofs.Common.{◌≡◌, ◌∙◌, ap, refl, sym, Bool, true, false}
use Rattle.std.specs.Prelude.{◌&&◌, Option, Some, None, is_none, is_some, not}
use Rattle.top_words.specs.Asked.{Profile}
use Rattle.top_words.specs.declared.profile.Rebuilding.{Rebuilding}
use Rattle.top_duty.proofs.start.is_short.Goals as goal

none_is : {A : Type 0} (o : Option A) (b : Bool) → is_some o ≡ not b → b ≡ is_none o
none_is None true h = refl
none_is None false h = cc h
none_is (Some x) true h = cc h
none_is (Some x) false h = refl

pub returns-in-Some : goal.returns-in-Some
returns-in-Some c =
    none_is c.args.start c.is_none.result c.is_none.ensures
    ∙ (sym (ap (λ (o : Option Rebuilding). is_some o && is_none c.args.start) c.in-Some.is)
    ∙ ap (λ (p : Profile). is_some p.rebuild && is_none c.args.start) c.profile.ensures)

pub returns-in-None : goal.returns-in-None
returns-in-None c =
    sym (ap (λ (o : Option Rebuilding). is_some o && is_none c.args.start) c.in-None.is)
    ∙ ap (λ (p : Profile). is_some p.rebuild && is_none c.args.start) c.profile.ensures
