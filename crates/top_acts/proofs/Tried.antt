-- An array that is closed, or whose device failed as it was settled.
use Rattle.std.proofs.Common.{◌≡◌, ◌≢◌, ◌∙◌, ℕ, zero, suc, ◌≤◌, Bool, true, false, cond, List, [], ◌∷◌, length, Option, Some, None, refl, sym, ap, subst, inl, inr, arith}
use Rattle.std.specs.Prelude.{◌+◌, is_some, slice_get, All}
use Rattle.std.proofs.lemmas.List.Elements.{All-cons, All-nil}
use Rattle.std.proofs.lemmas.List.Sums.{sum_by-cons}
use Rattle.blk_disk.specs.declared.disk.Disk.{Ghosts}
use Rattle.blk_disk.specs.Devices.{RisesOn, calls_of}
use Rattle.blk_disk.proofs.DeviceLaws.{changes_sector}
use Rattle.lay_core.specs.Layout.{Shape}
use Rattle.eng_cols.specs.declared.column.Column.{Column}
use Rattle.eng_cols.specs.declared.column.Column.TheVariants as column
use Rattle.eng_cols.specs.declared.spot.Loss.{Loss}
use Rattle.eng_cols.specs.Cols.{ColumnState, device_set, HasDeviceOn, has_device}
use Rattle.eng_cols.specs.Deaths.{Dies, LosesDevice}
use Rattle.eng_cols.specs.Lost.{NotLost}
use Rattle.raid_label.specs.declared.label.Label.{Label}
use Rattle.top_close.specs.Calls.{EndsSettled, IsSettle}
use Rattle.top_close.specs.Dying.{AnyCause}
use Rattle.eng_cols.specs.Stripes.{states_of}
use Rattle.top_close.specs.Ended.{IsLossBy}
use Rattle.top_close.specs.Settled.{AreSettled, HaveDevices}
use Rattle.top_close.proofs.SettledLaws.{device_within}
use Rattle.top_rounds.specs.Labels.{seating_in, seating_of, with_round}
use Rattle.top_close.specs.Stage.{DiesIn, IsGivenUp, IsGivenUpIn, IsInUse, device_count, IsStage}
use Rattle.top_rounds.specs.Rounds.{AreRounds, HoldsTried, clean_in_end}
use Rattle.top_close.proofs.StageLaws.{live_before, live_less}
use Rattle.top_rounds.proofs.CallLaws.{some-before}
use Rattle.top_rounds.proofs.RoundLaws.{any_death, counts-none, counts-then, rounds-some}
use Rattle.top_acts.specs.Seats.{HasSeats}
use Rattle.top_acts.specs.Closed.{CallInTurn, IsBroken, ClosesLabelled, TriesToClose, settled_in_end}
use Rattle.top_acts.proofs.Counted.{counted-then, counted_rounds}
use Rattle.top_acts.proofs.InTurn.{AreApart, in_turn-settles, in_turn-then, in_turn-writes}
use Rattle.top_acts.proofs.Named.{only_lose}
use Rattle.top_acts.proofs.Seated.{seats-kept, seats_of_rounds}
use Rattle.top_acts.proofs.Settled.{Death, death_of, settled, settled-times, unsettled}
use Rattle.top_acts.specs.Stages.{IsClosing}
use Rattle.std.proofs.lemmas.List.{length-append}
use Rattle.top_rounds.proofs.Words.{IsFirstInUse}

-- ## Lost or not

pub not_lost : (y : Shape) (cols : List ColumnState) (lost : Option Loss) → IsLossBy y None cols lost → NotLost y cols → lost ≡ None
not_lost y cols None is kept = refl
not_lost y cols (Some loss) is kept =
    let k = kept loss.stripe is.stripe is.i is.j is.units.within.0 is.units.within.1 is.units.missing.0 is.units.missing.1 in
    absurd (omega (arith, (is.units.checked k.0).0, k.1))

pub none_of : (lost : Option Loss) → is_some lost ≡ false → lost ≡ None
none_of None h = refl
none_of (Some loss) h = let z : true ≡ false = h in absurd (let u : ⊥ = cc in u)

-- ## Live columns

abbrev one_of : Option Column → ℕ
one_of x = cond (has_device x) 1 0

-- one that was live and is dead makes fewer of them
pub strict : (xs ys : List Column) → Dies AnyCause xs ys → (i : ℕ) → has_device (slice_get xs i) ≡ true → slice_get ys i ≡ Some column.Dead → suc (device_count ys) ≤ device_count xs
strict [] ys dies i live dead = let z : false ≡ true = live in absurd (let u : ⊥ = cc in u)
strict (x ∷ xs) [] dies i live dead = absurd (omega (arith, dies.count))
strict (x ∷ xs) (y ∷ ys) dies zero live dead =
    let rest : Dies AnyCause xs ys = record { count = omega (arith, dies.count); each = λ c. dies.each (suc c) } in
    let was : one_of (Some x) ≡ 1 = ap (λ b. cond b 1 0) live in
    let is : one_of (Some y) ≡ 0 = ap one_of dead in
    omega (arith, live_less AnyCause xs ys rest, was, is, sum_by-cons (λ z. one_of (Some z)) x xs, sum_by-cons (λ z. one_of (Some z)) y ys)
strict (x ∷ xs) (y ∷ ys) dies (suc i) live dead =
    let rest : Dies AnyCause xs ys = record { count = omega (arith, dies.count); each = λ c. dies.each (suc c) } in
    let fewer = strict xs ys rest i live dead in
    let a = sum_by-cons (λ z. one_of (Some z)) x xs in
    let b = sum_by-cons (λ z. one_of (Some z)) y ys in
    elim (dies.each 0) [
      | inl same ↦ let e : one_of (Some y) ≡ one_of (Some x) = ap one_of same in omega (arith, fewer, a, b, e)
      | inr gone ↦ let e : one_of (Some y) ≡ 0 = ap one_of gone.0 in omega (arith, fewer, a, b, e)
    ]

-- ## The close

module _ {D : Type 0} (g : Ghosts D) (y : Shape) (label next : Label) (columns mid after : List Column) (old dev new : List (Option D)) (lost : Option Loss)
    (rounds : AreRounds g None label next columns mid mid old dev) (label_is : next ≡ with_round label next.counter label.clean (seating_in next)) (have : HaveDevices mid dev) (kept : NotLost y (states_of y mid)) (lost_is : IsLossBy y None (states_of y after) lost)
    (apart : AreApart columns) (s : AreSettled g (length mid) mid after dev new) (last : (c d : ℕ) → HasDeviceOn after c d → EndsSettled (calls_of g new d)) where
  died : Dies (DiesIn g None columns old dev) columns mid
  died = (counted_rounds g None label next columns mid mid old dev rounds).stage.dies

  -- labels, and then a settle
  turns : CallInTurn g None true true columns after old new
  turns =
      let quiet = settled g None mid after dev new s in
      in_turn-then g None (DiesIn g None columns old dev) (DiesIn g None mid dev new) true false true columns mid after old dev new apart died quiet.dies (in_turn-writes g None true columns mid old dev rounds.each) (unsettled g mid after dev new s)
      (in_turn-settles g mid after dev new (λ c d live. s.once c d (device_within mid c d live) live))

  -- the round that was whole says what the columns were
  seats : HasSeats g None next columns after old new
  seats =
      let quiet = settled g None mid after dev new s in
      seats-kept g columns mid old dev new (IsFirstInUse columns) (λ _ _. ⊥) rounds.frame s.frame next after died (seats_of_rounds g None label next columns mid mid old dev rounds) (only_lose g mid after dev new quiet.dies)

  closed : after ≡ mid → ClosesLabelled g true label next columns after old new lost
  closed same =
      let none = not_lost y (states_of y after) lost lost_is (subst (λ l. NotLost y (states_of y l)) (sym same) kept) in
      let quiet = settled g lost mid after dev new s in
      record {
        counted = counted-then g lost 1 label next next columns mid after old dev new (counted_rounds g None label next columns mid mid old dev rounds) quiet (unsettled g mid after dev new s) (settled-times g next.counter mid after dev new s) 1
            (counts-then 1 0 label next next rounds.rises [] (record { least = rounds.least; most = rounds.most }) (counts-none next next refl));
        label_is = label_is ∙ ap (λ k. with_round label next.counter k (seating_in next)) (sym (ap (λ o. clean_in_end o label.clean) none));
        seated = subst (λ o. HasSeats g o next columns after old new) (sym none) seats;
        seating = λ _. rounds.seating ∙ ap seating_of (sym same);
        given_up = subst (λ o. IsGivenUpIn o after) (sym none) tt;
        held = λ c d live told. changes_sector g (λ _ _. ⊥) dev new d 0 s.frame told (λ h. h) ∙ rounds.held c d (subst (λ l. HasDeviceOn l c d) same live) told;
        labelled = λ c d live. some-before (All IsSettle) (calls_of g old d) (calls_of g dev d) (calls_of g new d) (rounds-some g None label next columns mid mid old dev rounds c d (subst (λ l. HasDeviceOn l c d) same live)) (s.told d);
        settled = λ _. last;
        given = λ c d gave. absurd (subst (λ o. IsGivenUp o columns c) none gave);
        each = subst (λ o. CallInTurn g o true (settled_in_end o) columns after old new) (sym none) turns;
      }

  fewer : Death (LosesDevice g mid dev new) after → suc (device_count after) ≤ device_count mid
  fewer death = strict mid after (any_death (LosesDevice g mid dev new) mid after s.dies) death.col (ap is_some death.why.had) death.dead

  gone : (death : Death (LosesDevice g mid dev new) after) (c : ℕ) → HasDeviceOn after c death.why.device → ⊥
  gone death c live =
      let d = death.why.device in
      let same : c ≡ death.col = have.apart c death.col d (live_before (LosesDevice g mid dev new) mid after c d s.dies live) death.why.had in
      let z : Some d ≡ None = sym live ∙ ap device_set (ap (slice_get after) same ∙ death.dead) in absurd (let u : ⊥ = cc in u)

  -- the stage in which the device of the column is listed
  abbrev broke : Death (LosesDevice g mid dev new) after → IsStage g (IsFirstInUse mid) (λ d. All IsClosing) None mid after dev new
  broke death =
      let d = death.why.device in
      let quiet = settled g None mid after dev new s in
      record {
        frame = quiet.frame;
        told = quiet.told;
        uncalled = quiet.uncalled;
        dies = quiet.dies;
        rises = d ∷ [];
        failed = record { apart = λ i j z before within. absurd (omega (arith, before, within)); rose = All-cons (RisesOn g dev new) d [] death.why.rose (All-nil (RisesOn g dev new)) };
        had = All-cons (IsInUse mid) d [] (record { col = death.col; live = death.why.had }) (All-nil (IsInUse mid));
        gone = All-cons (λ (k : ℕ). (c : ℕ) → HasDeviceOn after c k → ⊥) d [] (gone death) (All-nil (λ (k : ℕ). (c : ℕ) → HasDeviceOn after c k → ⊥));
        fewer = omega (arith, fewer death);
      }

  -- the label of the round that was whole
  holds : (c d : ℕ) → HasDeviceOn after c d → HoldsTried g label (next.counter + 1) old new c d
  holds c d live tells = inr (record {
    tried = next;
    newer = rounds.least;
    older = omega arith;
    label_is = label_is;
    holds = changes_sector g (λ _ _. ⊥) dev new d 0 s.frame tells (λ h. h) ∙ rounds.held c d (live_before (LosesDevice g mid dev new) mid after c d s.dies live) tells;
  })

  broken : Death (LosesDevice g mid dev new) after → IsBroken g label next columns after old new
  broken death = record {
    counted = counted-then g None 1 label next next columns mid after old dev new (counted_rounds g None label next columns mid mid old dev rounds) (broke death) (unsettled g mid after dev new s) (settled-times g next.counter mid after dev new s) 0
        (record { least = omega (arith, rounds.least); most = omega (arith, rounds.most, length-append rounds.rises (death.why.device ∷ [])) });
    label_is = label_is;
    fewer = omega (arith, fewer death, rounds.fewer);
    each = turns;
    holds = holds;
  }

  pub tried : (b : Bool) → (b ≡ true → device_count after ≡ device_count mid) → (b ≡ false → device_count after ≢ device_count mid) → TriesToClose g label next columns after old new lost b
  tried true same apart = elim (death_of (LosesDevice g mid dev new) mid after s.dies) [
    | inl e ↦ closed e
    | inr death ↦ absurd (omega (arith, same refl, fewer death))
  ]
  tried false same apart = elim (death_of (LosesDevice g mid dev new) mid after s.dies) [
    | inl e ↦ absurd (apart refl (ap device_count e))
    | inr death ↦ broken death
  ]
