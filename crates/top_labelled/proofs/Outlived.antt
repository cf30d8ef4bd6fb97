-- Laws of runs over an array with labels.
use Rattle.std.proofs.Common.{◌≡◌, ◌⊎◌, inl, inr, ℕ, ◌<◌, ◌≤◌, List, Bool, min, Option, Some, None, refl, sym, ◌∙◌, ap, subst, arith}
use Rattle.blk_disk.specs.declared.disk.Disk.{Ghosts}
use Rattle.blk_disk.specs.Devices.{Changes, RisesOn}
use Rattle.blk_disk.proofs.DeviceLaws.{changes-refl, rises-wider}
use Rattle.lay_core.specs.Layout.{blocks_in}
use Rattle.eng_cols.specs.declared.column.Column.{Column}
use Rattle.eng_array.specs.declared.start.Start.{Start}
use Rattle.eng_cols.specs.declared.spot.Loss.{Loss}
use Rattle.eng_cols.specs.Cols.{is_set_filling, passes, HasDeviceOn}
use Rattle.eng_cols.specs.Deaths.{Dies, LosesDevice}
use Rattle.eng_cols.proofs.DeathLaws.{dies-more, dies-then}
use Rattle.eng_cols.proofs.Losing.{lost-excludes}
use Rattle.eng_cols.specs.Stripes.{states_of}
use Rattle.raid_label.specs.declared.label.Label.{Label}
use Rattle.raid_script.specs.Drawn.{AreApart, drawn}
use Rattle.raid_script.specs.Steps.{share}
use Rattle.raid_script.specs.Asked.{Asked}
use Rattle.raid_script.proofs.DrawnShares.{drawn_apart}
use Rattle.top_acts.specs.Mapped.{unmarked}
use Rattle.top_acts.proofs.Having.{has_live}
use Rattle.top_acts.proofs.Named.{live_of, only_lose}
use Rattle.top_close.specs.Stage.{DiesIn}
use Rattle.top_close.proofs.StageLaws.{live_before}
use Rattle.top_run.specs.Work.{Ending, Service, Work}
use Rattle.top_run.specs.Outliving.{IsRebuiltIn, MayDie, OutlivesCall}
use Rattle.top_run.specs.InTurn.{SweptInTurn}
use Rattle.top_run.proofs.InTurn.{runs-in-turn}
use Rattle.top_run.proofs.Outlived.{runs-outlived}
use Rattle.top_labelled.specs.Begun.{IsAnew, is_kept, opened_as, sweeps_in, without}
use Rattle.top_labelled.specs.Words.{began_of, notice_in, writes_maps}
use Rattle.top_labelled.specs.Ran.{IsLostBefore, MayChangeLabelled, RanLabelled}
use Rattle.top_labelled.proofs.Looking.{begins-changes, begins-dies}
use Rattle.top_labelled.proofs.Without.{anew-column, began-asked, began-none, without-dies}

module _ {D : Type 0} (g : Ghosts D) (a : Work) (newest : Label) (taken : List (Option D)) where
  -- what loses a device as the array is begun may die
  begun-may : (opened back : List (Option D)) → ((d : ℕ) → RisesOn g taken opened d → RisesOn g taken back d) → (c : ℕ) → LosesDevice g a.columns taken opened c → MayDie g a taken back c
  begun-may opened back wider c why = inr (inr (inr (why.device, has_live a.layout a.columns c why.device why.had, wider why.device why.rose)))

  -- the column that is rebuilt anew is rebuilt
  anew-rebuilt : (s : Option Start) (c : ℕ) → a.start ≡ s → IsAnew s c → IsRebuiltIn a c
  anew-rebuilt None c is of = absurd of
  anew-rebuilt (Some t) c is of = (t, is, anew-column t c of)

  anew-may : (back : List (Option D)) (c : ℕ) → IsAnew a.start c → MayDie g a taken back c
  anew-may back c of = inr (inl (anew-rebuilt a.start c refl of))

  -- so may one that is filling
  lost-may : (loss : Loss) (back : List (Option D)) (c : ℕ) → IsAnew a.start c ⊎ DiesIn g (Some loss) a.columns taken back c → MayDie g a taken back c
  lost-may loss back c (inl of) = anew-may back c of
  lost-may loss back c (inr (inl why)) = begun-may back back (λ d rose. rose) c why
  lost-may loss back c (inr (inr filling)) = inr (inr (inl filling))

  pub not-begun-lost : (map : Bool) (e : Ending) (back : List (Option D)) → IsLostBefore g a newest taken map e back → OutlivesCall g a taken back → ⊥
  not-begun-lost map e back h outlives =
      lost-excludes a.layout (states_of a.layout e.columns) h.loss h.lost_is
      (outlives e.columns (dies-more (λ c. IsAnew a.start c ⊎ DiesIn g (Some h.loss) a.columns taken back c) (MayDie g a taken back) a.columns e.columns (lost-may h.loss back) h.dies))

  module _ (s : Service) (back : List (Option D)) (faulty map : Bool) (r : RanLabelled g a newest taken s back faulty map) where
    abbrev keeps : Bool
    keeps = is_kept map newest

    abbrev mapped : Bool
    mapped = writes_maps (is_kept map newest) r.begins.union

    -- how the array was begun, whatever was written
    moved : Changes g (λ _ _. Unit {0}) taken r.opened
    moved = begins-changes g a.layout (notice_in keeps r.begins.marks) (sweeps_in newest r.begins.union) (unmarked a.layout.stripes newest.serial) r.begins.union newest r.first a.columns r.begins.read r.begun taken r.begins.looked r.opened None r.begins.found
        r.begins.unread r.begins.looks r.begins.has

    abbrev mid : List Column
    mid = without a.start r.begun

    -- none begins where none was asked
    alone : a.start ≡ None → r.began ≡ None
    alone none = r.began_is ∙ (ap (λ (o : Option Start). began_of faulty o a.columns r.begun) none ∙ began-none faulty a.columns r.begun)

    pub in-turn : (count ops wide blocks : ℕ) → a.start ≡ None → AreApart count ops wide blocks a.clients → blocks ≤ blocks_in a.layout → s.ending.lost ≡ None → SweptInTurn g (opened_as a mid r.began) r.opened s back r.run.start.blocks
    in-turn count ops wide blocks unasked = runs-in-turn g (opened_as a mid r.began) r.opened back s r.run (alone unasked) count ops wide blocks

    pub by-seed : (seed clients ops : ℕ) → a.start ≡ None → 0 < clients → 0 < blocks_in a.layout → a.clients ≡ drawn seed clients ops (blocks_in a.layout) → s.ending.lost ≡ None → SweptInTurn g (opened_as a mid r.began) r.opened s back r.run.start.blocks
    by-seed seed clients ops unasked some any are none =
        let n = blocks_in a.layout in
        let given = drawn_apart seed clients ops n some any in
        in-turn (min clients n) ops (share clients n) n unasked (subst (λ (rows : List (List Asked)). AreApart (min clients n) ops (share clients n) n rows) (sym are) given) (let z : n ≤ n = omega arith in z) none

    -- a count that rose as the array was begun has risen in all, since that of a device never falls
    wider : (d : ℕ) → RisesOn g taken r.opened d → RisesOn g taken back d
    wider d rose = rises-wider g (λ _ _. ⊥) (MayChangeLabelled g a newest taken s back mapped r.began) taken taken r.opened back d (changes-refl g (λ _ _. ⊥) taken) rose r.since

    loses : Dies (LosesDevice g a.columns taken r.opened) a.columns r.begun
    loses = only_lose g a.columns r.begun taken r.opened
        (begins-dies g a.layout (notice_in keeps r.begins.marks) (sweeps_in newest r.begins.union) (unmarked a.layout.stripes newest.serial) r.begins.union newest r.first a.columns r.begins.read r.begun taken r.begins.looked r.opened None r.begins.found
        r.begins.unread r.begins.looks r.begins.has)

    named : Dies (IsAnew a.start) r.begun mid
    named = without-dies a.start r.begun

    first : Dies (MayDie g a taken back) a.columns mid
    first =
        dies-then (MayDie g a taken back) a.columns r.begun mid (dies-more (LosesDevice g a.columns taken r.opened) (MayDie g a taken back) a.columns r.begun (begun-may r.opened back wider) loses)
        (dies-more (IsAnew a.start) (MayDie g a taken back) r.begun mid (anew-may back) named)

    pub outlived : OutlivesCall g a taken back → s.ending.lost ≡ None
    outlived outlives = runs-outlived g (opened_as a mid r.began) r.opened back s r.run
        (λ cols dies. outlives cols (dies-then (MayDie g a taken back) a.columns mid cols first (dies-more (MayDie g (opened_as a mid r.began) r.opened back) (MayDie g a taken back) mid cols by dies)))
      where
        by : (c : ℕ) → MayDie g (opened_as a mid r.began) r.opened back c → MayDie g a taken back c
        by c (inl fails) = inl (record { row = fails.row; client = fails.client; fails = fails.fails })
        by c (inr (inl of)) = inr (inl (of.0, began-asked faulty a.start a.columns r.begun of.0 (sym r.began_is ∙ of.1), of.2))
        by c (inr (inr (inl filling))) = elim (first.each c) [
          | inl same ↦ inr (inr (inl (ap (passes is_set_filling) (sym same) ∙ filling)))
          | inr dead ↦ dead.1
        ]
        by c (inr (inr (inr rose))) =
            let had : HasDeviceOn a.columns c rose.0 = live_before (MayDie g a taken back) a.columns mid c rose.0 first (live_of a.layout mid c rose.0 rose.1) in
            inr (inr (inr (
              rose.0,
              has_live a.layout a.columns c rose.0 had,
              rises-wider g (λ _ _. Unit {0}) (λ _ _. ⊥) taken r.opened back back rose.0 moved rose.2 (changes-refl g (λ _ _. ⊥) back),
            )))
