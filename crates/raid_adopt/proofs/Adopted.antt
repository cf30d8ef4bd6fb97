-- An array that was opened, and stopped within its first round of labels, is opened again as it was.
use Rattle.std.proofs.Common.{◌≡◌, ◌∙◌, ap, sym, ℕ, ◌<◌, ◌≤◌, Bool, true, List, length, refl, Option, Some}
use Rattle.std.specs.Prelude.{Ok}
use Rattle.eng_cols.specs.Cols.{HasDeviceOn}
use Rattle.eng_cols.specs.Contents.{Contents}
use Rattle.raid_label.specs.declared.label.Label.{Label}
use Rattle.raid_label.specs.Bytes.{IsHeld, IsInRange}
use Rattle.raid_map.specs.Stops.{Stored, IsImage}
use Rattle.top_open.specs.declared.fronts.Front.{Front}
use Rattle.top_open.specs.declared.plan.Needs.{Needs}
use Rattle.top_open.specs.declared.plan.Plan.{Plan}
use Rattle.top_open.specs.Opening.{Opened, opened_in}
use Rattle.top_open.specs.Plan.{IsPlan}
use Rattle.top_open.proofs.Filled.{was, rows-are}
use Rattle.top_rounds.specs.Labels.{seating_of, with_round}
use Rattle.raid_adopt.specs.Rounds.{Event, IsLabelOf, RoundRun}
use Rattle.raid_adopt.specs.Found.{AreAllRead, AreFrontsIn, AreReopened, AreSettled}
use Rattle.raid_adopt.proofs.Beginning.{may-begin}
use Rattle.raid_adopt.proofs.Columns.{is-round}
use Rattle.raid_adopt.proofs.Reopening.{by-newest}
use Rattle.raid_adopt.proofs.Stopped.{first-before, stopped-columns}

module _ (p : Plan) (present : List Bool) (plan : IsPlan p) (few : length present ≤ 32)
    (first : Needs) (sizes : List ℕ) (read : List Front) (was-opened : Opened) (l : Label)
    (opens : opened_in first p present sizes read ≡ Ok was-opened) (newest : was-opened.newest ≡ Some l)
    (counter clean : ℕ) (newer : l.counter < counter) (start : ℕ → Stored) (settled : AreSettled start) (reads : AreAllRead start read) where
  abbrev pub round-label : Label
  round-label = with_round l counter clean (seating_of was-opened.columns)

  rows-first : l.rows ≡ was-opened.rows
  rows-first =
      let j = was first p present sizes read was-opened opens in
      (by-newest first p present sizes read j.judged l j.is (ap (λ (x : Opened). x.newest) j.filled ∙ newest)).0
      ∙ rows-are first p present sizes read was-opened opens

  pub adopted : (q : Needs) (later : List ℕ) (fronts : List Front) (o : Opened) (k : Label) (now : ℕ → Stored) (events : List Event) (image : Contents) (c d : ℕ)
      → IsInRange round-label → IsHeld round-label → RoundRun round-label was-opened.columns start events now → IsImage now image → AreFrontsIn image was-opened.columns fronts
      → q.adopts ≡ true → opened_in q p present later fronts ≡ Ok o → o.newest ≡ Some k → HasDeviceOn was-opened.columns c d → IsLabelOf round-label c (image d 0)
      → (o.rows ≡ was-opened.rows) × AreReopened round-label was-opened.columns o.columns
  adopted q later fronts o k now events image c d in_range held run is-image are adopts again newest-again on label =
      let round = is-round first p present sizes read was-opened l opens newest round-label few refl in
      let may = may-begin first p present sizes read was-opened l opens newest start settled reads counter clean (seating_of was-opened.columns) newer in
      let f = stopped-columns p present fronts was-opened.columns round-label start image round in_range held may (first-before round-label was-opened.columns start now may events image run is-image) are q later o plan adopts c d k again newest-again on label in
      (f.0 ∙ rows-first, f.1)
