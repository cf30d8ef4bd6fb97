-- What a text asks for: its first line says the disk, and the others the requests.
use Rattle.std.proofs.Common.{◌≡◌, ◌∙◌, ℕ, List, Ok, Err, refl}
use Rattle.raid_text.specs.Text.{Text, Numbered}
use Rattle.text_steps.specs.declared.at.At.{At}
use Rattle.text_steps.specs.Steps.{◌>>=◌, whole}
use Rattle.top_sim.specs.Answers.{GivesFault}
use Rattle.top_sim.specs.Asked.{Asked}
use Rattle.top_sim.specs.Format.{disk_line, requests_behind}
use Rattle.top_sim.specs.Texts.{workload_of}
use Rattle.top_sim.specs.declared.requests.RequestsFault.{RequestsFault}
use Rattle.top_sim.specs.declared.requests.RequestsFault.TheVariants as fault
use Rattle.top_sim.specs.Steps.{workload_read}
use Rattle.top_sim.proofs.Same.{workload_same}

-- the first line is refused
pub disk_stops : (text : Text) (at : At) → disk_line (whole text) ≡ Err at
    → workload_of text ≡ Err at
unfolding workload_read
disk_stops text at h =
    let read : workload_read text ≡ Err at = rw h refl in
    workload_same text ∙ read

module _ (text : Text) (sectors : ℕ) (lines : List Numbered)
    (h : disk_line (whole text) ≡ Ok (sectors, lines)) where
  behind_disk : workload_of text
      ≡ (requests_behind sectors 0 0 0 lines >>= λ asked.
      Ok (record { sectors = sectors; asked = asked }))
  unfolding workload_read
  behind_disk =
      let read : workload_read text
      ≡ (requests_behind sectors 0 0 0 lines >>= λ asked.
      Ok (record { sectors = sectors; asked = asked })) = rw h refl in
      workload_same text ∙ read

  -- another line is refused, or memory is wanting
  pub lines_stop : (f : RequestsFault) → GivesFault f (requests_behind sectors 0 0 0 lines)
      → GivesFault f (workload_of text)
  lines_stop (fault.At n code) k = behind_disk ∙ rw k refl
  lines_stop fault.Memory k = tt

  -- no line is refused
  pub all_lines : (asked : List Asked) → requests_behind sectors 0 0 0 lines ≡ Ok asked
      → workload_of text ≡ Ok (record { sectors = sectors; asked = asked })
  all_lines asked k = behind_disk ∙ rw k refl
