-- What is refused changes nothing, and what is right is answered.
use Rattle.std.specs.Prelude.{◌≡◌, zero, suc, false, true, List, ℕ, Option, Some, None}
use Rattle.std.proofs.Common.{inl, inr, refl, sym, ap, ◌∙◌}
use Rattle.blk_disk.specs.declared.disk.Disk.{Ghosts}
use Rattle.eng_cols.specs.declared.spot.Loss.{Loss}
use Rattle.raid_text.specs.Text.{Text}
use Rattle.top_acts.specs.declared.done.Done.{Done}
use Rattle.top_acts.specs.declared.done.Done.TheVariants as done
use Rattle.top_fetch.specs.Told.{Told}
use Rattle.top_status.specs.declared.status.Status.{Status}
use Rattle.raid_top.specs.Calls.{CallOutcome, OfArray, OfConf, OfScan, OfSimulation, OfTopic, Refuses, call_status}
use Rattle.raid_top.specs.Ends.{Acts}
use Rattle.raid_top.specs.Laws.{NothingChanged, RefusedChangesNothing, RightIsAnswered, is_refusing}
use Rattle.raid_top.specs.Outcome.{Outcome, Ran, Did, Looked, status_of, status_of_act}
use Rattle.raid_top.specs.Words.{status_of_done}
use Rattle.raid_top.proofs.Completing.{complete_of}
use Rattle.top_status.specs.Status.{status_of_loss}

-- ## What wasn't refused has another number

loss_is_none : (lost : Option Loss) → is_refusing (status_of_loss lost) ≡ false
loss_is_none None = refl
loss_is_none (Some loss) = refl

act_is_none : (act : Done) → is_refusing (status_of_act act) ≡ false
act_is_none (done.Check zero) = refl
act_is_none (done.Check (suc n)) = refl
act_is_none done.Nothing = refl
act_is_none (done.Init n) = refl
act_is_none (done.Rewrite n) = refl
act_is_none (done.Killed c) = refl
act_is_none (done.Labelled n) = refl

done_is_none : (act : Done) (lost : Option Loss) → is_refusing (status_of_done act lost) ≡ false
done_is_none act None = act_is_none act
done_is_none act (Some loss) = refl

outcome_is_none : (o : Outcome) → is_refusing (status_of o) ≡ false
outcome_is_none (Ran action s) = loss_is_none s.ending.lost
outcome_is_none (Did act e) = done_is_none act e.lost
outcome_is_none (Looked text) = refl

module _ {D : Type 0} (g : Ghosts D) (b : Told D) (words : List Text) (told : b.tells) where
  -- what ends with such a number was refused
  by_outcome : (sink_tells sink_rose : Type 0) (answer : Status) (old new : List ℕ) (o : CallOutcome) → Acts g b words o → is_refusing (call_status o) ≡ true → NothingChanged g b words sink_tells sink_rose answer old new
  by_outcome sink_tells sink_rose answer old new (Refuses r) acts is = acts.same told
  by_outcome sink_tells sink_rose answer old new (OfArray o) acts is = absurd (let z : false ≡ true = sym (outcome_is_none o) ∙ is in let v : ⊥ = cc z in v)
  by_outcome sink_tells sink_rose answer old new (OfScan text) acts is = absurd (let z : false ≡ true = is in let v : ⊥ = cc z in v)
  by_outcome sink_tells sink_rose answer old new (OfSimulation text) acts is = absurd (let z : false ≡ true = is in let v : ⊥ = cc z in v)
  by_outcome sink_tells sink_rose answer old new (OfConf text) acts is = absurd (let z : false ≡ true = is in let v : ⊥ = cc z in v)
  by_outcome sink_tells sink_rose answer old new (OfTopic text) acts is = absurd (let z : false ≡ true = is in let v : ⊥ = cc z in v)

module _ {D : Type 0} (g : Ghosts D) (b : Told D) (words : List Text) (sink_tells sink_rose : Type 0) (answer : Status) (old new : List ℕ) where
  pub refused_changes_nothing : RefusedChangesNothing g b words sink_tells sink_rose answer old new
  refused_changes_nothing told a (inr cut) = by_outcome g b words told sink_tells sink_rose answer old new a.outcome a.acts cut.1
  refused_changes_nothing told a (inl is) = elim a.printed [
    | inl whole ↦ by_outcome g b words told sink_tells sink_rose answer old new a.outcome a.acts (ap is_refusing (sym whole.0) ∙ is)
    | inr cut ↦ absurd (let z : false ≡ true = ap is_refusing (sym cut.0) ∙ is in let v : ⊥ = cc z in v)
  ]

  pub right_is_answered : RightIsAnswered g b words sink_tells sink_rose answer old new
  right_is_answered told a right sound quiet = complete_of g b words told sound right sink_tells sink_rose answer old new a quiet
