-- Of what columns died that something was done to without a core.
use Rattle.std.specs.Prelude.{◌≡◌, ◌⊎◌, ℕ, List, true, Option, Some, None, slice_get}
use Rattle.std.proofs.Common.{refl, sym, ap, subst, inl, inr, ◌∙◌}
use Rattle.blk_disk.specs.declared.disk.Disk.{Ghosts}
use Rattle.blk_disk.specs.Devices.{RisesOn}
use Rattle.lay_core.specs.Layout.{Shape}
use Rattle.eng_cols.specs.declared.column.Column.{Column}
use Rattle.eng_cols.specs.declared.column.Column.TheVariants as column
use Rattle.eng_cols.specs.declared.spot.Loss.{Loss}
use Rattle.eng_cols.specs.Cols.{HasDevice, device_set, is_set_filling, passes}
use Rattle.eng_cols.specs.Deaths.{Dies, LosesDevice}
use Rattle.eng_cols.specs.Stripes.{states_of}
use Rattle.eng_cols.proofs.DeathLaws.{dies-more, dies-then}
use Rattle.raid_label.specs.declared.label.Label.{Label}
use Rattle.raid_recon.specs.Array.{Failed}
use Rattle.top_acts.specs.declared.done.Done.{Done}
use Rattle.top_acts.specs.declared.sweeping.Renewal.{Renewal}
use Rattle.top_acts.specs.Checked.{IsChecked}
use Rattle.top_acts.specs.Killed.{IsKilled}
use Rattle.top_acts.specs.Labelled.{IsFirstLabelled}
use Rattle.top_acts.proofs.Having.{has_live}
use Rattle.top_acts.proofs.Kills.{alive_died}
use Rattle.top_rounds.specs.Labels.{given_up}
use Rattle.top_close.specs.Stage.{DiesIn, IsGivenUp}
use Rattle.top_rounds.specs.Rounds.{HaveRounds, in_end}
use Rattle.top_close.proofs.StageLaws.{given_before}
use Rattle.top_rounds.proofs.RoundLaws.{gives_up}
use Rattle.top_run.specs.Work.{Ending}
use Rattle.top_serve.specs.Served.{IsKeptAs}
use Rattle.raid_top.specs.Arrays.{Renews}
use Rattle.raid_top.proofs.Failing.{kept_left, kept_same}

-- ## Columns

-- a column that died for a cause, or is what it was, is kept or dead
pub kept_or_dead : (cause : ℕ → Type 0) (old new : List Column) → Dies cause old new → (c : ℕ) → IsKeptAs (slice_get old c) (slice_get new c) ⊎ ((slice_get new c ≡ Some column.Dead) × cause c)
kept_or_dead cause old new dies c = elim (dies.each c) [
  | inl same ↦ inl (subst (λ (o : Option Column). IsKeptAs (slice_get old c) o) (sym same) (kept_same (slice_get old c)))
  | inr dead ↦ inr dead
]

-- a column that is kept has no other device than before
kept_device : (was now : Option Column) (d : ℕ) → IsKeptAs was now → device_set now ≡ Some d → device_set was ≡ Some d
kept_device None now d kept on = ap device_set (sym kept) ∙ on
kept_device (Some (column.Live e)) now d kept on = ap device_set (sym kept) ∙ on
kept_device (Some column.Dead) now d kept on = ap device_set (sym kept) ∙ on
kept_device (Some (column.Filling e m)) now d (inl kept) on = ap device_set (sym kept) ∙ on
kept_device (Some (column.Filling e m)) now d (inr kept) on = ap device_set (sym kept.1) ∙ on
kept_device (Some column.Spread) now d kept on = ap device_set (sym kept) ∙ on

-- and is filling only where it was
kept_fills : (was now : Option Column) → IsKeptAs was now → passes is_set_filling now ≡ true → passes is_set_filling was ≡ true
kept_fills None now kept fills = ap (passes is_set_filling) (sym kept) ∙ fills
kept_fills (Some (column.Live e)) now kept fills = ap (passes is_set_filling) (sym kept) ∙ fills
kept_fills (Some column.Dead) now kept fills = ap (passes is_set_filling) (sym kept) ∙ fills
kept_fills (Some (column.Filling e m)) now kept fills = refl
kept_fills (Some column.Spread) now kept fills = ap (passes is_set_filling) (sym kept) ∙ fills

-- ## What was done

module _ {D : Type 0} (g : Ghosts D) (y : Shape) (columns : List Column) (old back : List (Option D)) (may : ℕ → Type 0) (rises : (c d : ℕ) → HasDevice (states_of y columns) c d → RisesOn g old back d → may c) where
  loses : (c : ℕ) → LosesDevice g columns old back c → may c
  loses c h = rises c h.device (has_live y columns c h.device h.had) h.rose

  fails : (c : ℕ) → Failed g (states_of y columns) old back c → may c
  fails c h = rises c h.device h.had h.rose

  -- a lost array's filling column dies besides
  given_in_end : (lost : Option Loss) (mid : List Column) → ((c : ℕ) → IsGivenUp lost columns c → may c) → Dies may columns mid → Dies may columns (in_end lost mid)
  given_in_end None mid gives one = one
  given_in_end (Some loss) mid gives one =
      dies-then may columns mid (given_up mid) one
      (dies-more (IsGivenUp (Some loss) mid) may mid (given_up mid) (λ c gave. gives c (given_before may (Some loss) columns mid c one gave)) (gives_up loss mid))

  module _ (lost : Option Loss) (gives : (c : ℕ) → IsGivenUp lost columns c → may c) where
    dies_in : (c : ℕ) → DiesIn g lost columns old back c → may c
    dies_in c (inl lose) = loses c lose
    dies_in c (inr gave) = gives c gave

    losing : (after : List Column) → Dies (DiesIn g lost columns old back) columns after → Dies may columns after
    losing after h = dies-more _ may columns after dies_in h

    -- of columns of which this one is kept
    pub died_as : (left : List Column) (k : ℕ) → IsKeptAs (slice_get columns k) (slice_get left k) → DiesIn g lost left old back k → may k
    died_as left k kept (inl lose) = loses k (record { device = lose.device; had = kept_device (slice_get columns k) (slice_get left k) lose.device kept lose.had; rose = lose.rose })
    died_as left k kept (inr gave) = gives k (given_as lost gave)
      where
        given_as : (l : Option Loss) → IsGivenUp l left k → IsGivenUp l columns k
        given_as None never = never
        given_as (Some loss) fills = kept_fills (slice_get columns k) (slice_get left k) kept fills

  rounds_die : (lost : Option Loss) (gives : (c : ℕ) → IsGivenUp lost columns c → may c) (l next : Label) (after : List Column) → HaveRounds g lost l next columns after old back → Dies may columns after
  rounds_die None gives l next after r = dies-then may columns after after (losing None gives after r.began) (dies-more _ may after after loses r.ended)
  rounds_die (Some loss) gives l next after r = dies-then may columns r.0 after (losing (Some loss) gives r.0 r.1.began) (dies-more _ may r.0 after loses r.1.ended)

  module _ (act : Done) (e : Ending) (gives : (c : ℕ) → IsGivenUp e.lost columns c → may c) where
    pub checked_dies : IsChecked g y columns e.columns old back e.lost act → Dies may columns e.columns
    checked_dies h = subst (λ (l : List Column). Dies may columns l) (sym h.after_is) (given_in_end e.lost h.mid gives (dies-more _ may columns h.mid fails h.dies))

    pub renewed_dies : (kind : Renewal) (newest : Option Label) → Renews g y columns old back act e kind newest → Dies may columns e.columns
    renewed_dies kind None h = dies-more _ may columns e.columns loses h.dies
    renewed_dies kind (Some l) h = losing e.lost gives e.columns h.2.stage.dies

    pub labelled_dies : (l next : Label) → IsFirstLabelled g y l next columns e.columns old back e.lost act → Dies may columns e.columns
    labelled_dies l next h = rounds_die e.lost gives _ next e.columns h.rounds

    -- one that was filling may have fewer stripes, or be live, since a death may leave it fewer
    pub killed_ends : (c : ℕ) (l next : Label) → may c → IsKilled g y c l next columns e.columns old back e.lost act
        → (k : ℕ) → IsKeptAs (slice_get columns k) (slice_get e.columns k) ⊎ ((slice_get e.columns k ≡ Some column.Dead) × may k)
    killed_ends c l next why h k = elim (kept_left y columns c h.left (record { entries = h.entries; kept = h.kept }) k) [
      | inr here ↦
          let dies = alive_died g y l next h.left e.columns old back e.lost (record { mid = h.mid; dev = h.dev; before = h.before; settles = h.settles; lost_is = h.before_is; ends = h.ends }) in
          elim (dies.each k) [
            | inl still ↦ inr (still ∙ here.1, subst may (sym here.0) why)
            | inr gone ↦ inr (gone.0, subst may (sym here.0) why)
          ]
      | inl kept ↦
          let dies = alive_died g y l next h.left e.columns old back e.lost (record { mid = h.mid; dev = h.dev; before = h.before; settles = h.settles; lost_is = h.before_is; ends = h.ends }) in
          elim (dies.each k) [
            | inl still ↦ inl (subst (λ (o : Option Column). IsKeptAs (slice_get columns k) o) (sym still) kept)
            | inr gone ↦ inr (gone.0, died_as e.lost gives h.left k kept gone.1)
          ]
    ]
