-- The causes that the checker looks for, by their records, are those of refusals.
use Rattle.std.proofs.Common.{◌≡◌, ℕ, zero, suc, Option, Some, None, inl, inr, refl, sym, ◌∙◌}
use Rattle.std.specs.Prelude.{is_some, if◌then◌else◌}
use Rattle.graph_mean.specs.declared.refusal.Refusal.{Refusal}
use Rattle.graph_mean.specs.declared.refusal.Refusal.TheVariants.{Large, Index, Order, Commits, Ends, Assigned, Unordered, LateRead, EarlyWrite, Missing as OfMissingUnit, Twice, Mixed, WrongValue, WrongReturn}
use Rattle.graph_mean.specs.Graph.{View, buf_at}
use Rattle.graph_mean.specs.Task.{Aim, Missing}
use Rattle.graph_mean.specs.Refusals.{wanted_times}
use Rattle.graph_mean.specs.Causes.{HasCause}
use Rattle.graph_mean.specs.Refused.{IsCause}

-- how often a buffer should be made
wanted-is : (o : Option ℕ) → wanted_times o ≡ (if is_some o then 0 else 1)
wanted-is None = refl
wanted-is (Some u) = refl

module _ (g : View) (t : Aim) (missing : Missing) where
  -- a cause as the checker looks for it
  pub cause-has : (r : Refusal) → IsCause g t missing r → HasCause g t missing r
  cause-has Large h = h
  cause-has (Index zero b) h = record { below = h.0; foreign = h.1 }
  cause-has (Index (suc zero) n) h = record { below = h.0; foreign = h.1 }
  cause-has (Index (suc (suc zero)) k) h = record { below = h.0; foreign = h.1 }
  cause-has (Index (suc (suc (suc what))) place) h = h
  cause-has (Order n) h = record { below = h.0; late = h.1 }
  cause-has (Commits count) h = h
  cause-has (Ends count n) h = (h.0, elim h.1 [ inl many ↦ inl many | inr one ↦ inr (one.0, record { below = one.1; other = one.2; apart = one.3 }) ])
  cause-has (Assigned b times) h =
      (record { below = h.0; times = λ e. h.2 (h.1 ∙ e ∙ wanted-is (buf_at g b).new_of) }, h.1)
  cause-has (Unordered n b) h = record { below = h.0; uses = h.1; maker = h.2 }
  cause-has (LateRead n) h = record { below = h.0; read = h.1; apart = h.2 }
  cause-has (EarlyWrite n) h = record { below = h.0; write = h.1; apart = h.2 }
  cause-has (OfMissingUnit n) h = record { below = h.0; gone = h.1 }
  cause-has (Twice n m) h = record { order = h.0; shared = h.1 }
  cause-has (Mixed zero b) h = record { below = h.0; bad = h.1 }
  cause-has (Mixed (suc zero) n) h = record { below = h.0; mixed = h.1 }
  cause-has (Mixed (suc (suc what)) place) h = h
  cause-has (WrongValue s i o) h =
      record { sector = record { stripe = h.0; unit = h.1; offset = h.2 }; counts = h.3; wrong = h.4 }
  cause-has (WrongReturn block) h =
      (h.0, h.1, h.2, h.3, record { stripe = h.4; unit = h.5; offset = h.6; wrong = h.7 })

  -- and one that it looks for
  pub has-cause : (r : Refusal) → HasCause g t missing r → IsCause g t missing r
  has-cause Large h = h
  has-cause (Index zero b) h = (h.below, h.foreign)
  has-cause (Index (suc zero) n) h = (h.below, h.foreign)
  has-cause (Index (suc (suc zero)) k) h = (h.below, h.foreign)
  has-cause (Index (suc (suc (suc what))) place) h = h
  has-cause (Order n) h = (h.below, h.late)
  has-cause (Commits count) h = h
  has-cause (Ends count n) h = (h.0, elim h.1 [ inl many ↦ inl many | inr one ↦ inr (one.0, one.1.below, one.1.other, one.1.apart) ])
  has-cause (Assigned b times) h =
      (h.0.below, h.1, λ e. h.0.times (sym h.1 ∙ e ∙ sym (wanted-is (buf_at g b).new_of)))
  has-cause (Unordered n b) h = (h.below, h.uses, h.maker)
  has-cause (LateRead n) h = (h.below, h.read, h.apart)
  has-cause (EarlyWrite n) h = (h.below, h.write, h.apart)
  has-cause (OfMissingUnit n) h = (h.below, h.gone)
  has-cause (Twice n m) h = (h.order, h.shared)
  has-cause (Mixed zero b) h = (h.below, h.bad)
  has-cause (Mixed (suc zero) n) h = (h.below, h.mixed)
  has-cause (Mixed (suc (suc what)) place) h = h
  has-cause (WrongValue s i o) h = (h.sector.stripe, h.sector.unit, h.sector.offset, h.counts, h.wrong)
  has-cause (WrongReturn block) h =
      let w = h.4 in
      (h.0, h.1, h.2, h.3, w.stripe, w.unit, w.offset, w.wrong)
