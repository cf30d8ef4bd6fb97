-- Sizes, and refusals by what a bay has.
use Rattle.std.specs.Prelude.{◌≡◌, ◌⊎◌, ℕ, zero, suc, List, [], ◌∷◌, length, Option, Some, Result, Ok, Err, Contains, slice_get, slice_index}
use Rattle.std.specs.Option.{option_map_or}
use Rattle.std.proofs.Common.{arith, refl, sym, ap, subst, inl, inr, ◌∙◌}
use Rattle.blk_disk.specs.Devices.{AreNamed, Changes, at_home, device_at, size_of}
use Rattle.blk_disk.specs.declared.disk.Disk.{Ghosts}
use Rattle.blk_disk.proofs.DeviceLaws.{changes_size}
use Rattle.raid_text.specs.Text.{Text}
use Rattle.top_fetch.specs.Answers.{RefusedAs}
use Rattle.top_bay.specs.Asked.{Asked, asked_in, names_for}
use Rattle.top_words.specs.Asked.{Command}
use Rattle.top_fetch.specs.Told.{Told}
use Rattle.top_open.specs.declared.fronts.Front.{Front}
use Rattle.top_status.specs.declared.status.Status.{Status}
use Rattle.top_status.specs.declared.status.Status.TheVariants as status
use Rattle.top_status.specs.Refusals.{Refused, only}
use Rattle.top_duty.specs.declared.duty.Duty as declared_duty
use Rattle.top_duty.specs.Duty.{Duty, IsWanted, WantsMemory, duty_by, duty_in}
use Rattle.top_duty.specs.Opening.{sizes_in, sizes_of}
use Rattle.top_duty.specs.Steps.{reads_fronts}
use Rattle.top_duty.specs.Taken.{AreLookedAtMost, AreUntouched, IsRefusedOver, Reads, ReadsAtMost, RefusedFor, RefusedOver, WasRead}
use Rattle.top_duty.specs.Views.{IsDutyOver, RefusedHere, duty_seen}
use Rattle.top_duty.proofs.Wanting.{duty_wanted, wanted_err}

-- the sizes of the devices are those of the names
sizes_from : {D : Type 0} (size : D → ℕ) (home : Text → Option D) (names : List Text) (ds : List (Option D)) → length ds ≡ length names → ((d : ℕ) → device_at ds d ≡ at_home home (slice_get names d)) → sizes_of size ds ≡ sizes_in size home names
unfolding sizes_in device_at
sizes_from size home [] [] many each = refl
sizes_from size home [] (x ∷ ds) many each = absurd (omega (arith, many))
sizes_from size home (n ∷ names) [] many each = absurd (omega (arith, many))
sizes_from size home (n ∷ names) (x ∷ ds) many each =
    let first : x ≡ at_home home (Some n) = each 0 in
    let rest : sizes_of size ds ≡ sizes_in size home names = sizes_from size home names ds (omega (arith, many)) (λ d. each (suc d)) in
    ap (λ y. option_map_or size y 0 ∷ sizes_of size ds) first ∙ ap (λ l. option_map_or size (at_home home (Some n)) 0 ∷ l) rest

pub sizes_are : {D : Type 0} (size : D → ℕ) (home : Text → Option D) (names : List Text) (ds : List (Option D)) → AreNamed home names ds → sizes_of size ds ≡ sizes_in size home names
sizes_are size home names ds named = sizes_from size home names ds named.count named.each

-- what is asked goes by the texts and devices alone
pub asked_same : {D : Type 0} (tells rose now_rose : Type 0) (texts : Text → Option Text) (home after now_after : Text → Option D) (command : Command)
    → asked_in (record { tells = tells; rose = rose; texts = texts; home = home; after = after }) command ≡ asked_in (record { tells = tells; rose = now_rose; texts = texts; home = home; after = now_after }) command
unfolding asked_in
asked_same tells rose now_rose texts home after now_after command = refl

-- the size of one of these devices
pub size_at : {D : Type 0} (g : Ghosts D) (ds : List (Option D)) (d : ℕ) → slice_index (sizes_of g.size ds) d ≡ size_of g ds d
unfolding device_at
size_at g [] d = refl
size_at g (x ∷ ds) zero = refl
size_at g (x ∷ ds) (suc d) = size_at g ds d

-- the sizes stay
sizes_by : {D : Type 0} (g : Ghosts D) (old new : List (Option D)) → length new ≡ length old → ((d : ℕ) → size_of g new d ≡ size_of g old d) → sizes_of g.size new ≡ sizes_of g.size old
unfolding device_at
sizes_by g [] [] many each = refl
sizes_by g [] (z ∷ new) many each = absurd (omega (arith, many))
sizes_by g (x ∷ old) [] many each = absurd (omega (arith, many))
sizes_by g (x ∷ old) (z ∷ new) many each =
    let first : option_map_or g.size z 0 ≡ option_map_or g.size x 0 = each 0 in
    let rest : sizes_of g.size new ≡ sizes_of g.size old = sizes_by g old new (omega (arith, many)) (λ d. each (suc d)) in
    ap (λ (n : ℕ). n ∷ sizes_of g.size new) first ∙ ap (λ (l : List ℕ). option_map_or g.size x 0 ∷ l) rest

pub sizes_kept : {D : Type 0} (g : Ghosts D) (may : ℕ → ℕ → Type 0) (old new : List (Option D)) → Changes g may old new → sizes_of g.size new ≡ sizes_of g.size old
sizes_kept g may old new changes = sizes_by g old new changes.count (λ d. changes_size g may old new d changes)

module _ {D : Type 0} (g : Ghosts D) (b : Told D) (command : Command) where
  -- what is to be done, by the sizes of the devices
  duty_from : (k : Asked) (ds : List (Option D)) (fronts : List Front) → asked_in b command ≡ Ok k → AreNamed b.home (names_for k) ds → duty_in g.size b command fronts ≡ duty_by k (sizes_of g.size ds) fronts
  unfolding duty_in
  duty_from k ds fronts e named = let sizes = sym (sizes_are g.size b.home (names_for k) ds named) in rw e (ap (λ (l : List ℕ). duty_by k l fronts) sizes)

  pub duty_err : (r : Refused) (fronts : List Front) → asked_in b command ≡ Err r → duty_in g.size b command fronts ≡ Err r
  unfolding duty_in
  duty_err r fronts e = rw e refl

  pub is_wanted : (k : Asked) (taken devices : List (Option D)) (fronts : List Front) (d : declared_duty.Duty) → asked_in b command ≡ Ok k → AreNamed b.home (names_for k) taken
      → Changes g (λ _ _. ⊥) taken devices → IsDutyOver k (sizes_of g.size devices) fronts d → IsWanted (duty_in g.size b command fronts) (Ok (duty_seen k d))
  is_wanted k taken devices fronts d e named stays over =
      let same : duty_by k (sizes_of g.size devices) fronts ≡ duty_in g.size b command fronts = ap (λ (l : List ℕ). duty_by k l fronts) (sizes_kept g (λ _ _. ⊥) taken devices stays) ∙ sym (duty_from k taken fronts e named) in
      subst (λ (w : Result Duty Refused). IsWanted w (Ok (duty_seen k d))) same (duty_wanted k (sizes_of g.size devices) fronts d over)

  -- what was asked is refused, and no device was called
  refused_early : (r : Refused) → AreUntouched g b → asked_in b command ≡ Err r → RefusedFor g b command r
  refused_early r same e = inl (record { fronts = []; wanted = wanted_err (duty_in g.size b command []) r (duty_err r [] e); unread = λ early h. same; read = λ k h. cc (e, h) })

  pub refused_asking : (s : Status) → AreUntouched g b → (s ≡ status.BayFault → b.rose) → RefusedAs s (asked_in b command) → RefusedFor g b command (only s)
  refused_asking status.BayFault same rose h = inr (inl (refl, rose refl, same))
  refused_asking status.Memory same rose h = inr (inr (inl (refl, inl same)))
  refused_asking status.Ok same rose h = refused_early _ same h
  refused_asking (status.Usage i) same rose h = refused_early _ same h
  refused_asking (status.Conf l c) same rose h = refused_early _ same h
  refused_asking (status.Script l c) same rose h = refused_early _ same h
  refused_asking (status.GraphText l c) same rose h = refused_early _ same h
  refused_asking (status.NoFile n) same rose h = refused_early _ same h
  refused_asking status.SinkFault same rose h = refused_early _ same h
  refused_asking (status.Lost f s t) same rose h = refused_early _ same h
  refused_asking (status.Label f s t u) same rose h = refused_early _ same h
  refused_asking (status.Small f s t) same rose h = refused_early _ same h
  refused_asking (status.NotInSync n) same rose h = refused_early _ same h
  refused_asking status.NoSpare same rose h = refused_early _ same h
  refused_asking status.NoRebuild same rose h = refused_early _ same h
  refused_asking (status.Rebuilding column) same rose h = refused_early _ same h
  refused_asking (status.LongText n) same rose h = refused_early _ same h

  -- what was asked isn't done
  pub refused_judging : (k : Asked) (taken devices : List (Option D)) (r : Refused) → asked_in b command ≡ Ok k → AreNamed b.home (names_for k) taken → AreNamed b.after (names_for k) devices
      → ((n : Text) → (Contains (names_for k) n → ⊥) → b.after n ≡ b.home n) → (devices ≡ taken → AreUntouched g b)
      → Changes g (λ _ _. ⊥) taken devices → RefusedOver g k taken devices r → RefusedFor g b command r
  refused_judging k taken devices r e before after others untouched stays over = elim over [
    | inl memory ↦ inr (inr (inl (memory.0, looked memory.1)))
    | inr h ↦ judged h
  ]
    where
      was : (fronts : List Front) → Reads g (reads_fronts k.command.action) taken devices fronts → WasRead g b k fronts
      was fronts read = record { taken = taken; back = devices; before = before; after = after; others = others; read = read }

      looked : ReadsAtMost g k taken devices → AreLookedAtMost g b command
      looked (inl same) = inl (untouched same)
      looked (inr read) = inr (k, e, read.0, was read.0 read.1)

      judged : IsRefusedOver g k taken devices r → RefusedFor g b command r
      judged h = go h.wanted
        where
          w : Result Duty Refused
          w = duty_by k (sizes_of g.size devices) h.fronts

          same : w ≡ duty_in g.size b command h.fronts
          same = ap (λ (l : List ℕ). duty_by k l h.fronts) (sizes_kept g (λ _ _. ⊥) taken devices stays) ∙ sym (duty_from k taken h.fronts e before)

          read : (q : Asked) → asked_in b command ≡ Ok q → WasRead g b q h.fronts
          read q f = let one : k ≡ q = cc (e, f) in subst (λ (x : Asked). WasRead g b x h.fronts) one (was h.fronts h.read)

          go : IsWanted w (Err r) ⊎ WantsMemory w r → RefusedFor g b command r
          go (inl wanted) = inl (record { fronts = h.fronts; wanted = subst (λ (x : Result Duty Refused). IsWanted x (Err r)) same wanted; unread = λ early f. cc (e, f); read = read })
          go (inr memory) = inr (inr (inr (record { fronts = h.fronts; wanted = subst (λ (x : Result Duty Refused). WantsMemory x r) same memory; read = read })))

-- what is refused by what was read
pub refused_over : {D : Type 0} (g : Ghosts D) (k : Asked) (old new : List (Option D)) (fronts : List Front) (r : Refused) → Reads g (reads_fronts k.command.action) old new fronts
    → RefusedHere (duty_by k (sizes_of g.size new) fronts) r → RefusedOver g k old new r
refused_over g k old new fronts r read (inl h) = inr (record { fronts = fronts; read = read; wanted = h })
refused_over g k old new fronts r read (inr memory) = inl (memory, inr (fronts, read))
