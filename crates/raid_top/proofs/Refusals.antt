-- A command that can't be admitted is refused, and the other way round.
use Rattle.std.specs.Prelude.{◌≡◌, ◌⊎◌, ℕ, List, [], Result, Ok, Err}
use Rattle.std.proofs.Common.{inl, inr, refl, sym, ap, subst, ◌∙◌}
use Rattle.blk_disk.specs.declared.disk.Disk.{Ghosts}
use Rattle.top_bay.specs.Asked.{Asked, asked_in, names_for}
use Rattle.top_fetch.specs.Told.{Told}
use Rattle.top_open.specs.declared.fronts.Front.{Front}
use Rattle.top_status.specs.declared.status.Status.TheVariants as status
use Rattle.top_status.specs.Refusals.{Refused, ◌then◌, only}
use Rattle.top_words.specs.Asked.{Command}
use Rattle.top_words.specs.Judged.{OnArray}
use Rattle.top_duty.specs.Duty.{Duty, IsWanted, WantsMemory, duty_by, duty_in, judged}
use Rattle.top_duty.specs.Opening.{sizes_in, sizes_of}
use Rattle.top_duty.specs.Steps.{reads_fronts}
use Rattle.top_duty.specs.Taken.{MemoryAt, RefusedAt, RefusedFor, WasRead}
use Rattle.top_duty.proofs.Sized.{duty_err, sizes_are, sizes_kept}
use Rattle.top_duty.proofs.Wanting.{wanted_err}
use Rattle.raid_top.specs.Refused.{IsRefusedOn, RefusedBy}
use Rattle.raid_top.proofs.Due.{of_asked}
use Rattle.raid_top.proofs.Reading.{NoSector, reads_still}

-- what is wanted of a refusal is that
early_is : (early r : Refused) → IsWanted (Err early) (Err r) → early ≡ r
early_is early r h = let both : Err r ≡ (Err early then λ d. judged d h.loss h.joined) = h.is in cc both

module _ {D : Type 0} (g : Ghosts D) (b : Told D) (command : Command) where
  -- what is due goes by the devices that were looked at
  due_on : (k : Asked) (fronts : List Front) (was : WasRead g b k fronts) → asked_in b command ≡ Ok k → duty_in g.size b command fronts ≡ duty_by k (sizes_of g.size was.back) fronts
  due_on k fronts was asks =
      let still = reads_still g was.taken was.back was.back fronts (reads_fronts k.command.action) was.read in
      let sizes : sizes_of g.size was.back ≡ sizes_in g.size b.home (names_for k) = sizes_kept g NoSector was.taken was.back still ∙ sizes_are g.size b.home (names_for k) was.taken was.before in
      of_asked g b command fronts k asks ∙ ap (λ (l : List ℕ). duty_by k l fronts) (sym sizes)

  at_once : (r : Refused) (at : RefusedAt g b command r) (x : Result Asked Refused) → asked_in b command ≡ x → RefusedBy g b (OnArray command) r
  at_once r at (Err early) is =
      let wanted = subst (λ (w : Result Duty Refused). IsWanted w (Err r)) (duty_err g b command early at.fronts is) at.wanted in
      inl (inl (is ∙ ap (λ (x : Refused). Err x) (early_is early r wanted)), at.unread early is)
  at_once r at (Ok k) is =
      let was = at.read k is in
      inr (k, is, record { fronts = at.fronts; taken = was.taken; back = was.back; before = was.before; after = was.after; others = was.others; read = was.read; cause = inl (subst (λ (w : Result Duty Refused). IsWanted w (Err r)) (due_on k at.fronts was is) at.wanted) })

  for_memory : (r : Refused) (at : MemoryAt g b command r) (x : Result Asked Refused) → asked_in b command ≡ x → RefusedBy g b (OnArray command) r
  for_memory r at (Err early) is = absurd (let z : ⊥ = cc (at.wanted.1, duty_err g b command early at.fronts is) in z)
  for_memory r at (Ok k) is =
      let was = at.read k is in
      inr (k, is, record { fronts = at.fronts; taken = was.taken; back = was.back; before = was.before; after = was.after; others = was.others; read = was.read; cause = inr (inl (subst (λ (w : Result Duty Refused). WantsMemory w r) (due_on k at.fronts was is) at.wanted)) })

  pub refused_by : (r : Refused) → RefusedFor g b command r → RefusedBy g b (OnArray command) r
  refused_by r (inl at) = at_once r at (asked_in b command) refl
  refused_by r (inr (inl bay)) = inl (inr (inl (bay.0, bay.1)), bay.2)
  refused_by r (inr (inr (inl memory))) = elim memory.1 [
    | inl untouched ↦ inl (inr (inr memory.0), untouched)
    | inr looked ↦ inr (looked.0, looked.1, record { fronts = looked.2; taken = looked.3.taken; back = looked.3.back; before = looked.3.before; after = looked.3.after; others = looked.3.others; read = looked.3.read; cause = inr (inr memory.0) })
  ]
  refused_by r (inr (inr (inr at))) = for_memory r at (asked_in b command) refl

  -- ## And back

  same_asked : (k x : Asked) → asked_in b command ≡ Ok k → asked_in b command ≡ Ok x → k ≡ x
  same_asked k x one other = let both : ◌≡◌ {A = Result Asked Refused} (Ok k) (Ok x) = sym one ∙ other in cc both

  refused_on : (r : Refused) (k : Asked) → asked_in b command ≡ Ok k → (fronts : List Front) (was : WasRead g b k fronts)
      → IsWanted (duty_by k (sizes_of g.size was.back) fronts) (Err r) ⊎ (WantsMemory (duty_by k (sizes_of g.size was.back) fronts) r ⊎ (r ≡ only status.Memory)) → RefusedFor g b command r
  refused_on r k asks fronts was (inl wanted) = inl (record {
    fronts = fronts;
    wanted = subst (λ (w : Result Duty Refused). IsWanted w (Err r)) (sym (due_on k fronts was asks)) wanted;
    unread = λ early h. absurd (let z : ⊥ = cc (asks, h) in z);
    read = λ x h. subst (λ (y : Asked). WasRead g b y fronts) (same_asked k x asks h) was;
  })
  refused_on r k asks fronts was (inr (inl memory)) = inr (inr (inr (record {
    fronts = fronts;
    wanted = subst (λ (w : Result Duty Refused). WantsMemory w r) (sym (due_on k fronts was asks)) memory;
    read = λ x h. subst (λ (y : Asked). WasRead g b y fronts) (same_asked k x asks h) was;
  })))
  refused_on r k asks fronts was (inr (inr memory)) = inr (inr (inl (memory, inr (k, asks, fronts, was))))

  pub refused_for : (r : Refused) → RefusedBy g b (OnArray command) r → RefusedFor g b command r
  refused_for r (inl early) = elim early.0 [
    | inl wanted ↦ inl (record {
      fronts = [];
      wanted = wanted_err (duty_in g.size b command []) r (duty_err g b command r [] wanted);
      unread = λ x h. early.1;
      read = λ k h. absurd (let z : ⊥ = cc (wanted, h) in z);
    })
    | inr other ↦ elim other [
      | inl bay ↦ inr (inl (bay.0, bay.1, early.1))
      | inr memory ↦ inr (inr (inl (memory, inl early.1)))
    ]
  ]
  refused_for r (inr late) =
      let on = late.2 in
      refused_on r late.0 late.1 on.fronts (record { taken = on.taken; back = on.back; before = on.before; after = on.after; others = on.others; read = on.read }) on.cause
