-- What the words ask for is refused, or the words are, and so the call is.
use Rattle.std.specs.Prelude.{◌≡◌, ℕ, List, Result, Ok, Err}
use Rattle.std.proofs.Common.{inl, inr, refl, sym, ap, subst, ◌∙◌}
use Rattle.blk_disk.specs.declared.disk.Disk.{Ghosts}
use Rattle.raid_text.specs.Text.{Text}
use Rattle.top_duty.specs.Taken.{AreUntouched}
use Rattle.top_duty.proofs.Returning.{same_stays}
use Rattle.top_fetch.specs.Told.{Told}
use Rattle.top_status.specs.declared.status.Status.TheVariants as status
use Rattle.top_status.specs.Refusals.{Refused, only}
use Rattle.top_words.specs.Judged.{Invocation, Tell, OnArray, OnConf, Scan, Simulate, invocation_of}
use Rattle.top_words.specs.declared.invocation.Topic.{Topic}
use Rattle.top_words.specs.declared.invocation.WordsFault.{WordsFault}
use Rattle.top_words.specs.declared.invocation.WordsFault.TheVariants as fault
use Rattle.raid_top.specs.Finished.{refusal_of}
use Rattle.raid_top.specs.Refused.{CallIsRefused, IsRefusedOf, IsTopic, RefusedBy}

-- words ask for one thing
one : (i j : Invocation) → ◌≡◌ {A = Result Invocation ℕ} (Ok i) (Ok j) → i ≡ j
one i j e = cc e

module _ {D : Type 0} (g : Ghosts D) (b : Told D) where
  -- what the words ask for is refused, and so the call is
  pub call_refused : (words : List Text) (i : Invocation) (r : Refused) → invocation_of words ≡ Ok i → IsRefusedOf g b i r → CallIsRefused g b words r
  call_refused words i r is refused = record {
    kind = refused.kind;
    usage = λ case none. absurd (let z : ⊥ = cc (is, none) in z);
    untouched = λ case none. absurd (let z : ⊥ = cc (is, none) in z);
    told = λ topic tells. refused.told (subst (λ (x : Invocation). IsTopic x) (one (Tell topic) i (sym tells ∙ is)) tt);
    cause = λ t other also. subst (λ (x : Invocation). RefusedBy g b x r) (one i other (sym is ∙ also)) (refused.cause t);
    same = refused.same;
  }

  -- want of memory is a refusal of whatever is asked for, but of the program's own texts
  by_memory : (words : List Text) (i : Invocation) → AreUntouched g b → ((topic : Topic) → invocation_of words ≡ Ok (Tell topic) → ⊥) → invocation_of words ≡ Ok i → RefusedBy g b i (only status.Memory)
  by_memory words (Tell topic) same told is = told topic is
  by_memory words (OnArray command) same told is = inl (inr (inr refl), same)
  by_memory words (Scan list) same told is = (inr (inr refl), inl same)
  by_memory words (Simulate name order) same told is = (inr (inr refl), same)
  by_memory words (OnConf name asked) same told is = (inr (inr refl), same)

  -- the words are refused by themselves, or there was no memory to read them
  pub words_refused : (words : List Text) (f : WordsFault) → ((i : ℕ) → f ≡ fault.Usage i → invocation_of words ≡ Err i) → ((topic : Topic) → invocation_of words ≡ Ok (Tell topic) → ⊥)
      → AreUntouched g b → CallIsRefused g b words (refusal_of f)
  words_refused words (fault.Usage i) usage told same = record {
    kind = tt;
    usage = λ j e. inl (let case : i ≡ j = (let both : ◌≡◌ {A = Result Invocation ℕ} (Err i) (Err j) = sym (usage i refl) ∙ e in cc both) in ap (λ (k : ℕ). only (status.Usage k)) case);
    untouched = λ j e t. same;
    told = told;
    cause = λ t other is. absurd (let z : ⊥ = cc (is, usage i refl) in z);
    same = λ t n. same_stays g (b.home n) (b.after n) (same n);
  }
  words_refused words fault.Memory usage told same = record {
    kind = tt;
    usage = λ j e. inr refl;
    untouched = λ j e t. same;
    told = told;
    cause = λ t other is. by_memory words other same told is;
    same = λ t n. same_stays g (b.home n) (b.after n) (same n);
  }
