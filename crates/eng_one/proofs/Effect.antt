-- An accepted graph that runs without a failure has its task's effect in the end.
use Rattle.std.proofs.Common.{◌≡◌, ℕ, true, Option, ◌&&◌, List, [], ◌∷◌, All, sym, ap, ◌∙◌}
use Rattle.std.specs.Prelude.{◌==◌, if◌then◌else◌, is_some}
use Rattle.std.proofs.lemmas.List.Elements.{All-head, All-tail}
use Rattle.graph_mean.specs.declared.step.Phase.TheVariants.{Ended}
use Rattle.graph_mean.specs.Graph.{View}
use Rattle.graph_mean.specs.Task.{Aim, Missing, Values, is_that, is_sync}
use Rattle.graph_mean.specs.Steps.{State, Act, Fire, Do, Fail, Skip, Lose, Run}
use Rattle.graph_mean.specs.Atomic.{IsInStep, Starts}
use Rattle.graph_mean.specs.Ordered.{Accepted}
use Rattle.graph_mean.proofs.Sound.{accepted-atomic}
use Rattle.eng_one.specs.Alone.{all_there, NoneMissing, IsGoodAct, HasEffect}

-- no unit comes to be missing
pub missing-kept : (g : View) (x : State) (acts : List Act) (y : State) → Run g x acts y → All IsGoodAct acts → (s i : ℕ) → y.missing s i ≡ x.missing s i
missing-kept g x [] y r good s i = ap (λ (z : State). z.missing s i) r
missing-kept g x (Fire n ∷ acts) y r good s i = r.2.missing s i ∙ missing-kept g x acts r.0 r.1 (All-tail IsGoodAct (Fire n) acts good) s i
missing-kept g x (Do n ∷ acts) y r good s i = r.2.missing s i ∙ missing-kept g x acts r.0 r.1 (All-tail IsGoodAct (Do n) acts good) s i
missing-kept g x (Fail n lost ∷ acts) y r good s i = absurd (All-head IsGoodAct (Fail n lost) acts good)
missing-kept g x (Skip n ∷ acts) y r good s i = absurd (All-head IsGoodAct (Skip n) acts good)
missing-kept g x (Lose lost ∷ acts) y r good s i = absurd (All-head IsGoodAct (Lose lost) acts good)

-- the stripes are in step where they are with every unit there
pub in-step : (t : Aim) (missing : Missing) → NoneMissing missing → (old : Values) → IsInStep t all_there old → IsInStep t missing old
in-step t missing whole old step = λ s o hs ho used. step s o hs ho (ap (λ (u : Option ℕ). (t.checks == 1) && (if is_sync t.kind then is_some u else true)) (sym (whole s)) ∙ used)

pub alone-effect : (g : View) (t : Aim) (missing : Missing) → NoneMissing missing → (old new : Values) (acts : List Act) (x y : State) → Accepted g t missing → IsInStep t missing old → Starts g t missing old new x → Run g x acts y → All IsGoodAct acts → y.phase ≡ Ended → HasEffect g t old new y.buf y.cell
alone-effect g t missing whole old new acts x y a step st r good over =
    let h = accepted-atomic g t missing a old new acts x y step st r in
    record {
      sectors = λ s i o at. h.ended over s i o at (missing-kept g x acts y r good s i ∙ (st.gone s i ∙ ap (λ (u : Option ℕ). is_that u i) (whole s)));
      returned = h.returned over;
    }

-- ---- what has been written
