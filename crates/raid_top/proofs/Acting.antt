-- What is so once what was due was done, or was refused for want of memory.
use Rattle.std.specs.Prelude.{◌≡◌, List, length, Option, Ok, Contains}
use Rattle.std.proofs.Common.{refl, sym, ap, subst, inl, inr, ◌∙◌}
use Rattle.blk_disk.specs.declared.disk.Disk.{Ghosts}
use Rattle.blk_disk.specs.Devices.{AreNamed, Changes}
use Rattle.raid_text.specs.Text.{Text}
use Rattle.top_bay.specs.Asked.{Asked, asked_in, names_for}
use Rattle.top_bay.specs.Lent.{AreBack, AreOut}
use Rattle.top_fetch.specs.Told.{Told}
use Rattle.top_open.specs.declared.fronts.Front.{Front}
use Rattle.top_status.specs.declared.status.Status.TheVariants as status
use Rattle.top_status.specs.Refusals.{Refused}
use Rattle.top_words.specs.Asked.{Command}
use Rattle.top_words.specs.Judged.{OnArray}
use Rattle.top_duty.specs.declared.duty.Duty.{Duty as DeclaredDuty}
use Rattle.top_duty.specs.declared.duty.Duty.TheVariants as declared
use Rattle.top_duty.specs.Duty.{Admitted, Duty, IsWanted, OnArray as OnAdmitted, asked_of, duty_by, duty_in}
use Rattle.top_duty.specs.Opening.{sizes_of}
use Rattle.top_duty.specs.Steps.{reads_fronts}
use Rattle.top_duty.specs.Taken.{DevicesAreTaken, Reads, RefusedFor, WasRead}
use Rattle.top_duty.specs.Views as views
use Rattle.top_duty.proofs.Returning.{others_home}
use Rattle.top_duty.specs.Views.{duty_seen}
use Rattle.raid_top.specs.Acted.{Acted}
use Rattle.raid_top.specs.Ordered.{IsOrdered}
use Rattle.raid_top.specs.Outcome.{Outcome}
use Rattle.raid_top.specs.Refused.{IsRefusedOf}
use Rattle.raid_top.specs.Served.{IsPerformed, IsMemory}
use Rattle.raid_top.proofs.Backs.{back_are_named, home_as_it_was}
use Rattle.raid_top.proofs.Reading.{reads_still}
use Rattle.raid_top.proofs.Refusals.{refused_by}
use Rattle.raid_top.proofs.Wanted.{asked_is, asked_made, wants_memory}

-- ## The call

-- `mid` is what is at home while the devices are out, and `first` says that the bay's count of faults had risen by then
module _ {D : Type 0} (g : Ghosts D) (b : Told D) (command : Command) (mid : Text → Option D) (first : Type 0) (k : Asked) (duty : Duty) (fronts : List Front) (old : List (Option D))
    (same : asked_of duty ≡ k) (command_is : k.command ≡ command) (wanted : b.tells → IsWanted (duty_in g.size b command fronts) (Ok duty))
    (taken : DevicesAreTaken g (record { tells = b.tells; rose = first; texts = b.texts; home = b.home; after = mid }) k old fronts) where
  still : Changes g (λ _ _. ⊥) taken.taken old
  still = reads_still g taken.taken old old fronts (reads_fronts k.command.action) taken.read

  pub acted_of : (o : Outcome) → IsWanted (duty_by k (sizes_of g.size old) fronts) (Ok duty) → ((a : Admitted) → duty ≡ OnAdmitted a → IsOrdered a) → length old ≡ length (names_for k) → IsPerformed g b.tells mid b.after (names_for k) duty fronts old o → Acted g b command o
  acted_of o due ordered many d =
      record {
        duty = duty;
        fronts = fronts;
        taken = taken.taken;
        old = old;
        back = d.back;
        command_is = ap (λ (x : Asked). x.command) same ∙ command_is;
        asked = λ t. asked_made g b command fronts duty (wanted t);
        wanted = subst (λ (x : Asked). IsWanted (duty_by x (sizes_of g.size old) fronts) (Ok duty)) (sym same) due;
        ordered = λ a is. (let o = ordered a is in (o.law, o.units, o.opened, o.started));
        read = subst (λ (x : Asked). Reads g (reads_fronts x.command.action) taken.taken old fronts) (sym same) taken.read;
        before = λ t. subst (λ (x : Asked). AreNamed b.home (names_for x) taken.taken) (sym same) (taken.named t);
        after = λ t. subst (λ (x : Asked). AreNamed b.after (names_for x) d.back) (sym same) (back_are_named mid b.after (names_for k) d.back (d.count ∙ many) d.there (d.put t));
        others = λ t. subst (λ (x : Asked). (n : Text) → (Contains (names_for x) n → ⊥) → b.after n ≡ b.home n) (sym same)
            (others_home b.home mid b.after (names_for k) taken.taken d.back (d.count ∙ still.count) (taken.others t) (d.put t));
        does = d.does;
      }

  -- they are back as they were looked at
  was_read : b.tells → AreBack mid b.after (names_for k) old → length old ≡ length (names_for k) → (is_out : Text → Type 0) → AreOut is_out (names_for k) old → WasRead g b k fronts
  was_read t back many is_out out = record {
    taken = taken.taken;
    back = old;
    before = taken.named t;
    after = back_are_named mid b.after (names_for k) old many out.there back;
    others = others_home b.home mid b.after (names_for k) taken.taken old still.count (taken.others t) back;
    read = taken.read;
  }

  -- why it was refused
  for_memory : (r : Refused) → b.tells → AreBack mid b.after (names_for k) old → length old ≡ length (names_for k) → (is_out : Text → Type 0) → AreOut is_out (names_for k) old → IsMemory duty r → RefusedFor g b command r
  for_memory r t back many is_out out (inl plain) =
      let asks : asked_in b command ≡ Ok k = asked_made g b command fronts duty (wanted t) ∙ ap (λ (x : Asked). Ok x) same in
      inr (inr (inl (plain, inr (k, asks, fronts, was_read t back many is_out out))))
  for_memory r t back many is_out out (inr at) =
      inr (inr (inr (record {
        fronts = fronts;
        wanted = wants_memory (duty_in g.size b command fronts) duty r at.0 (wanted t) at.1 at.2;
        read = λ x asks.
            let one : k ≡ x = sym same ∙ asked_is g.size b command fronts x duty asks (wanted t) in
            subst (λ (z : Asked). WasRead g b z fronts) one (was_read t back many is_out out);
      })))

  memory_kind : (r : Refused) → IsMemory duty r → r.status ≡ status.Memory
  memory_kind r (inl plain) = ap (λ (x : Refused). x.status) plain
  memory_kind r (inr at) = ap (λ (x : Refused). x.status) at.2

  pub refused_of : (r : Refused) (is_out : Text → Type 0) → length old ≡ length (names_for k) → AreOut is_out (names_for k) old → IsMemory duty r → (b.tells → AreBack mid b.after (names_for k) old) → IsRefusedOf g b (OnArray command) r
  refused_of r is_out many out memory back = record {
    kind = subst (λ (s : _). views.IsRefusal b.rose s) (sym (memory_kind r memory)) tt;
    told = λ topic. topic;
    cause = λ t. refused_by g b command r (for_memory r t (back t) many is_out out memory);
    same = λ t. home_as_it_was g b.home mid b.after is_out (names_for k) taken.taken old (taken.named t) (taken.others t) still out (back t);
  }

-- ## What was admitted

pub asked_of_seen : (k : Asked) (d : DeclaredDuty) → asked_of (duty_seen k d) ≡ k
asked_of_seen k (declared.OnArray ready) = refl
asked_of_seen k (declared.Shows opened) = refl
asked_of_seen k declared.OneLabel = refl
asked_of_seen k declared.PrintConf = refl
