-- What devices tell of calls.
use Rattle.std.proofs.Common.{◌≡◌, ℕ, ◌*◌, ◌/◌, ◌<◌, ◌≤◌, List, [], ◌∷◌, ◌++◌, length, Bool, Option, Some, None, sym, ap, ◌∙◌, subst, inl, inr, arith, append_assoc, append-nil}
use Rattle.std.specs.Prelude.{◌==◌, set, min, option_and_then}
use Rattle.std.proofs.lemmas.Bool.{cases_eq, eq-eqb, ne_eqb}
use Rattle.blk_disk.specs.declared.disk.Call.{Call}
use Rattle.blk_disk.specs.declared.disk.Disk.{Ghosts}
use Rattle.blk_disk.specs.Disk.{Tells, call_of}
use Rattle.blk_disk.specs.Devices.{device_at, calls_of}
use Rattle.blk_disk.proofs.DeviceLaws.{device_at-set, device_at-set_other}
use Rattle.raid_recon.specs.Turns.{TellsMore, call_if}

pub tells_more-nil : (a : Option (List Call)) → TellsMore a a []
tells_more-nil None = tt
tells_more-nil (Some xs) = sym (append-nil xs)

pub tells_more-then : (a b c : Option (List Call)) (xs ys : List Call) → TellsMore a b xs → TellsMore b c ys → TellsMore a c (xs ++ ys)
tells_more-then a b None xs ys one two = tt
tells_more-then a None (Some cs) xs ys one two = absurd two
tells_more-then None (Some bs) (Some cs) xs ys one two = absurd one
tells_more-then (Some ks) (Some bs) (Some cs) xs ys one two = two ∙ ap (λ (l : List Call). l ++ ys) one ∙ append_assoc ks xs ys

pub tells_more-one : (a b : Option (List Call)) (call : Call) → Tells a b call → TellsMore a b (call ∷ [])
tells_more-one a None call h = tt
tells_more-one None (Some bs) call h = absurd h
tells_more-one (Some ks) (Some bs) call h = h

-- a call on so many sectors' bytes is one on so many sectors
pub call_on : (kind first count bytes : ℕ) (good : Bool) → count ≤ 4294967295 → bytes ≡ 512 * count → call_of kind first bytes good ≡ record { kind = kind; first = first; count = count; good = good }
call_on kind first count bytes good few is =
    let same : min (bytes / 512) 4294967295 ≡ count = omega arith in
    ap (λ (n : ℕ). let c : Call = record { kind = kind; first = first; count = n; good = good } in c) same

-- one device had a call
pub told_at : {D : Type 0} (g : Ghosts D) (ds : List (Option D)) (d : ℕ) (x z : D) (call : Call) → d < length ds → device_at ds d ≡ Some x → Tells (g.calls x) (g.calls z) call
    → (e : ℕ) → TellsMore (calls_of g ds e) (calls_of g (set ds d (Some z)) e) (call_if (e == d) call)
told_at {D = D} g ds d x z call h is told e = elim (cases_eq e d) [
  | inl same ↦
      subst (λ b. TellsMore (calls_of g ds e) (calls_of g (set ds d (Some z)) e) (call_if b call)) (sym (eq-eqb e d same))
      (subst (λ j. TellsMore (calls_of g ds j) (calls_of g (set ds d (Some z)) j) (call ∷ [])) (sym same)
      (subst (λ (o : Option D). TellsMore (option_and_then g.calls o) (calls_of g (set ds d (Some z)) d) (call ∷ [])) (sym is)
      (subst (λ (o : Option D). TellsMore (g.calls x) (option_and_then g.calls o) (call ∷ [])) (sym (device_at-set ds d (Some z) h))
      (tells_more-one (g.calls x) (g.calls z) call told))))
  | inr apart ↦
      subst (λ b. TellsMore (calls_of g ds e) (calls_of g (set ds d (Some z)) e) (call_if b call)) (sym (ne_eqb e d apart))
      (subst (λ (o : Option D). TellsMore (calls_of g ds e) (option_and_then g.calls o) []) (sym (device_at-set_other ds d e (Some z) apart))
      (tells_more-nil (calls_of g ds e)))
]
