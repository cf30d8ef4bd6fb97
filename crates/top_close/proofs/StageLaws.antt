-- Stages, one behind the other.
use Rattle.std.proofs.Common.{◌≡◌, ◌≢◌, ◌∙◌, ℕ, zero, suc, ◌+◌, ◌-◌, ◌<◌, ◌≤◌, true, false, List, [], ◌∷◌, ◌++◌, length, get_or, Option, Some, None, refl, sym, ap, subst, inl, inr, arith}
use Rattle.std.specs.Prelude.{All, AllPairs, option_and_then}
use Rattle.std.proofs.lemmas.Bool.{cases_lt}
use Rattle.std.proofs.lemmas.List.{length-append}
use Rattle.std.proofs.lemmas.List.Elements.{All-append, All-get_or, All-nil, All-weaker}
use Rattle.blk_disk.specs.declared.disk.Call.{Call}
use Rattle.blk_disk.specs.declared.disk.Disk.{Ghosts}
use Rattle.blk_disk.specs.Devices.{calls_of, Changes, RisesOn}
use Rattle.blk_disk.proofs.DeviceLaws.{changes-more, changes-refl, changes-then, rises-wider}
use Rattle.eng_cols.specs.declared.column.Column.{Column}
use Rattle.eng_cols.specs.declared.spot.Loss.{Loss}
use Rattle.eng_cols.specs.Cols.{device_set, passes, is_set_filling, HasDeviceOn, has_device}
use Rattle.eng_cols.specs.Deaths.{Dies, LosesDevice}
use Rattle.eng_cols.proofs.DeathLaws.{dies-more, dies-refl, dies-then}
use Rattle.top_close.specs.Calls.{IsSettle, MoreOn}
use Rattle.top_close.specs.Settled.{AreSettled}
use Rattle.top_close.specs.Stage.{DiesIn, HaveFailed, IsGivenUp, IsInUse, IsStage, ToldNothing, device_count}
use Rattle.top_close.proofs.CallLaws.{more-none, more-then, more_as}
use Rattle.top_close.proofs.Counts.{deaths_pass_less}
use Rattle.top_close.proofs.Words.{IsUncalled}

-- ## Different numbers

at_left : (xs ys : List ℕ) (i z : ℕ) → i < length xs → get_or (xs ++ ys) i z ≡ get_or xs i z
at_left [] ys i z h = absurd (omega (arith, h))
at_left (x ∷ xs) ys zero z h = refl
at_left (x ∷ xs) ys (suc i) z h = at_left xs ys i z (omega (arith, h))

at_right : (xs ys : List ℕ) (i z : ℕ) → length xs ≤ i → get_or (xs ++ ys) i z ≡ get_or ys (i - length xs) z
at_right [] ys i z h = let e : i ≡ i - 0 = omega arith in ap (λ k. get_or ys k z) e
at_right (x ∷ xs) ys zero z h = absurd (omega (arith, h))
at_right (x ∷ xs) ys (suc i) z h = at_right xs ys i z (omega (arith, h)) ∙ (let e : i - length xs ≡ suc i - suc (length xs) = omega arith in ap (λ k. get_or ys k z) e)

pairs_append : (xs ys : List ℕ) → AllPairs (λ d e. d ≢ e) xs → AllPairs (λ d e. d ≢ e) ys → ((k m z : ℕ) → k < length xs → m < length ys → get_or xs k z ≢ get_or ys m z) → AllPairs (λ d e. d ≢ e) (xs ++ ys)
pairs_append xs ys one two cross i j z lt within =
    let all = length-append xs ys in
    elim (cases_lt j (length xs)) [
      | inl jn ↦ λ e. one i j z lt jn (sym (at_left xs ys i z (omega (arith, lt, jn))) ∙ (e ∙ at_left xs ys j z jn))
      | inr nj ↦ elim (cases_lt i (length xs)) [
        | inl low ↦ λ e. cross i (j - length xs) z low (omega (arith, within, all, nj)) (sym (at_left xs ys i z low) ∙ (e ∙ at_right xs ys j z nj))
        | inr ni ↦ λ e. two (i - length xs) (j - length xs) z (omega (arith, lt, ni, nj)) (omega (arith, within, all, nj)) (sym (at_right xs ys i z ni) ∙ (e ∙ at_right xs ys j z nj))
      ]
    ]

-- ## Columns that die

-- a column that has a device had it before deaths
pub live_before : (cause : ℕ → Type 0) (columns after : List Column) (c d : ℕ) → Dies cause columns after → HasDeviceOn after c d → HasDeviceOn columns c d
live_before cause columns after c d dies h = elim (dies.each c) [
  | inl same ↦ ap device_set (sym same) ∙ h
  | inr dead ↦ let z : Some d ≡ None = sym h ∙ ap device_set dead.0 in absurd (let u : ⊥ = cc in u)
]

-- a column that is filling was so before deaths
pub given_before : (cause : ℕ → Type 0) (lost : Option Loss) (columns left : List Column) (c : ℕ) → Dies cause columns left → IsGivenUp lost left c → IsGivenUp lost columns c
given_before cause None columns left c dies h = h
given_before cause (Some loss) columns left c dies h = elim (dies.each c) [
  | inl same ↦ ap (passes is_set_filling) (sym same) ∙ h
  | inr dead ↦ let z : false ≡ true = sym (ap (passes is_set_filling) dead.0) ∙ h in absurd (let u : ⊥ = cc in u)
]

-- deaths leave no more columns with devices
pub live_less : (cause : ℕ → Type 0) (columns after : List Column) → Dies cause columns after → device_count after ≤ device_count columns
live_less cause columns after dies = deaths_pass_less cause (λ x. has_device (Some x)) columns after refl dies

module _ {D : Type 0} (g : Ghosts D) where
  -- ## Devices that no column has

  pub told-others : (columns : List Column) (old new : List (Option D)) → IsUncalled columns old new → ToldNothing g columns old new
  told-others columns old new others d none = subst (λ o. MoreOn (λ more. more ≡ []) (calls_of g old d) (option_and_then g.calls o)) (sym (others d none)) (more-none (λ more. more ≡ []) (calls_of g old d) refl)

  pub told-then : (cause : ℕ → Type 0) (columns mid : List Column) (old dev new : List (Option D)) → Dies cause columns mid → ToldNothing g columns old dev → ToldNothing g mid dev new → ToldNothing g columns old new
  told-then cause columns mid old dev new dies one two d none =
      more-then (λ more. more ≡ []) (λ more. more ≡ []) (λ more. more ≡ []) (calls_of g old d) (calls_of g dev d) (calls_of g new d) (λ xs ys is are. ap (λ (l : List Call). l ++ ys) is ∙ are)
      (one d none) (two d (λ c live. none c (live_before cause columns mid c d dies live)))

  -- ## Deaths

  -- of two stages, of which the array wasn't lost in the first
  pub dies_over : (lost : Option Loss) (columns mid after : List Column) (old dev new : List (Option D)) (may more : ℕ → ℕ → Type 0) → Changes g may old dev → Changes g more dev new → Dies (DiesIn g None columns old dev) columns mid → Dies (DiesIn g lost mid dev new) mid after → Dies (DiesIn g lost columns old new) columns after
  dies_over lost columns mid after old dev new may more first second was is = dies-then (DiesIn g lost columns old new) columns mid after
      (dies-more (DiesIn g None columns old dev) (DiesIn g lost columns old new) columns mid (λ c f. elim f [
        | inl l ↦ inl (record { device = l.device; had = l.had; rose = rises-wider g may more old old dev new l.device (changes-refl g may old) l.rose second })
        | inr given ↦ absurd given
      ]) was)
      (dies-more (DiesIn g lost mid dev new) (DiesIn g lost columns old new) mid after (λ c f. elim f [
        | inl l ↦ inl (record { device = l.device; had = live_before (DiesIn g None columns old dev) columns mid c l.device was l.had; rose = rises-wider g may more old dev new new l.device first l.rose (changes-refl g more new) })
        | inr gave ↦ inr (given_before (DiesIn g None columns old dev) lost columns mid c was gave)
      ]) is)

  -- those whose devices failed, said of an array that is lost by what it may be
  pub dies_lost : (lost : Option Loss) (columns after : List Column) (old new : List (Option D)) → Dies (LosesDevice g columns old new) columns after → Dies (DiesIn g lost columns old new) columns after
  dies_lost lost columns after old new dies = dies-more (LosesDevice g columns old new) (DiesIn g lost columns old new) columns after (λ c f. inl f) dies

  -- ## A stage

  -- of which no device is listed
  abbrev pub stage-plain : (may : ℕ → ℕ → Type 0) (calls : ℕ → List Call → Type 0) (lost : Option Loss) (columns after : List Column) (old new : List (Option D)) → Changes g may old new → ((d : ℕ) → MoreOn (calls d) (calls_of g old d) (calls_of g new d)) → ToldNothing g columns old new → Dies (DiesIn g lost columns old new) columns after → IsStage g may calls lost columns after old new
  stage-plain may calls lost columns after old new frame told uncalled dies = record {
    frame = frame;
    told = told;
    uncalled = uncalled;
    dies = dies;
    rises = [];
    failed = record { apart = λ i j d before within. absurd (omega (arith, within)); rose = All-nil (RisesOn g old new) };
    had = All-nil (IsInUse columns);
    gone = All-nil (λ (d : ℕ). (c : ℕ) → HasDeviceOn after c d → ⊥);
    fewer = omega (arith, live_less (DiesIn g lost columns old new) columns after dies);
  }

  -- nothing was done
  abbrev pub stage-none : (may : ℕ → ℕ → Type 0) (calls : ℕ → List Call → Type 0) (columns : List Column) (ds : List (Option D)) → ((d : ℕ) → calls d []) → IsStage g may calls None columns columns ds ds
  stage-none may calls columns ds none = stage-plain may calls None columns columns ds ds (changes-refl g may ds) (λ d. more-none (calls d) (calls_of g ds d) (none d)) (told-others columns ds ds (λ d free. refl)) (dies-refl (DiesIn g None columns ds ds) columns)

  -- devices in use were settled
  abbrev pub stage-settled : (lost : Option Loss) (columns after : List Column) (old new : List (Option D)) → AreSettled g (length columns) columns after old new → IsStage g (λ _ _. ⊥) (λ d. All IsSettle) lost columns after old new
  stage-settled lost columns after old new s =
      stage-plain (λ _ _. ⊥) (λ d. All IsSettle) lost columns after old new s.frame s.told (told-others columns old new (λ d free. s.others d (λ c below live. free c live))) (dies_lost lost columns after old new s.dies)

  -- said in other words
  abbrev pub stage_as : (may all : ℕ → ℕ → Type 0) (one both : ℕ → List Call → Type 0) (lost : Option Loss) (columns after : List Column) (old new : List (Option D)) → ((d n : ℕ) → may d n → all d n) → ((d : ℕ) (calls : List Call) → one d calls → both d calls) → IsStage g may one lost columns after old new → IsStage g all both lost columns after old new
  stage_as may all one both lost columns after old new wider says s = record {
    frame = changes-more g may all old new wider s.frame;
    told = λ d. more_as (one d) (both d) (calls_of g old d) (calls_of g new d) (says d) (s.told d);
    uncalled = s.uncalled;
    dies = s.dies;
    rises = s.rises;
    failed = s.failed;
    had = s.had;
    gone = s.gone;
    fewer = s.fewer;
  }

  -- ## Two stages

  module _ (may more all : ℕ → ℕ → Type 0) (one two both : ℕ → List Call → Type 0) (lost : Option Loss) (columns mid after : List Column) (old dev new : List (Option D)) (was : IsStage g may one None columns mid old dev) (is : IsStage g more two lost mid after dev new) where
    live : (c d : ℕ) → HasDeviceOn mid c d → HasDeviceOn columns c d
    live c d h = live_before (DiesIn g None columns old dev) columns mid c d was.dies h

    rose_before : (d : ℕ) → RisesOn g old dev d → RisesOn g old new d
    rose_before d h = rises-wider g may more old old dev new d (changes-refl g may old) h is.frame

    rose_behind : (d : ℕ) → RisesOn g dev new d → RisesOn g old new d
    rose_behind d h = rises-wider g may more old dev new new d was.frame h (changes-refl g more new)

    apart : (i j z : ℕ) → i < length was.rises → j < length is.rises → get_or was.rises i z ≢ get_or is.rises j z
    apart i j z first other = λ e.
        let held = All-get_or (IsInUse mid) is.rises j z other is.had in
        All-get_or (λ (d : ℕ). (c : ℕ) → HasDeviceOn mid c d → ⊥) was.rises i z first was.gone held.col (subst (λ d. HasDeviceOn mid held.col d) (sym e) held.live)

    pub failed-then : HaveFailed g old new (was.rises ++ is.rises)
    failed-then = record {
      apart = pairs_append was.rises is.rises was.failed.apart is.failed.apart apart;
      rose = All-append (RisesOn g old new) was.rises is.rises (All-weaker (RisesOn g old dev) (RisesOn g old new) rose_before was.rises was.failed.rose) (All-weaker (RisesOn g dev new) (RisesOn g old new) rose_behind is.rises is.failed.rose);
    }

    pub had-then : All (IsInUse columns) (was.rises ++ is.rises)
    had-then = All-append (IsInUse columns) was.rises is.rises was.had (All-weaker (IsInUse mid) (IsInUse columns) (λ d h. record { col = h.col; live = live h.col d h.live }) is.rises is.had)

    pub gone-then : All (λ d. (c : ℕ) → HasDeviceOn after c d → ⊥) (was.rises ++ is.rises)
    gone-then = All-append (λ (d : ℕ). (c : ℕ) → HasDeviceOn after c d → ⊥) was.rises is.rises
        (All-weaker (λ (d : ℕ). (c : ℕ) → HasDeviceOn mid c d → ⊥) (λ (d : ℕ). (c : ℕ) → HasDeviceOn after c d → ⊥) (λ d none c h. none c (live_before (DiesIn g lost mid dev new) mid after c d is.dies h)) was.rises was.gone) is.gone

    pub fewer-then : device_count after + length (was.rises ++ is.rises) ≤ device_count columns
    fewer-then = omega (arith, was.fewer, is.fewer, length-append was.rises is.rises)

    -- the sectors and calls of both
    abbrev pub stage-then : ((d n : ℕ) → may d n → all d n) → ((d n : ℕ) → more d n → all d n) → ((d : ℕ) (xs ys : List Call) → one d xs → two d ys → both d (xs ++ ys)) → IsStage g all both lost columns after old new
    stage-then first second calls = record {
      frame = changes-then g all old dev new (changes-more g may all old dev first was.frame) (changes-more g more all dev new second is.frame);
      told = λ d. more-then (one d) (two d) (both d) (calls_of g old d) (calls_of g dev d) (calls_of g new d) (calls d) (was.told d) (is.told d);
      uncalled = told-then (DiesIn g None columns old dev) columns mid old dev new was.dies was.uncalled is.uncalled;
      dies = dies_over lost columns mid after old dev new may more was.frame is.frame was.dies is.dies;
      rises = was.rises ++ is.rises;
      failed = failed-then;
      had = had-then;
      gone = gone-then;
      fewer = fewer-then;
    }
