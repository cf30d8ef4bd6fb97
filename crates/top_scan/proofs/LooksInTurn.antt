-- Devices that are looked at one after another.
use Rattle.std.proofs.Common.{◌≡◌, ◌≢◌, ◌∙◌, ℕ, zero, suc, ◌+◌, ◌<◌, Bool, true, false, List, [], ◌∷◌, ◌++◌, Option, Some, None, Ok, length, get_or, refl, sym, ap, subst, arith, inl, inr, length-append}
use Rattle.std.specs.Prelude.{Result, slice_get}
use Rattle.std.specs.Str.{bytes_eq}
use Rattle.std.proofs.lemmas.Bool.{cases_lt}
use Rattle.std.proofs.lemmas.List.{get_or_append_left}
use Rattle.std.proofs.lemmas.Slice.Eq.{bytes_eq-Decides}
use Rattle.std.proofs.Math.Seq.{get_or-append_seam}
use Rattle.blk_disk.proofs.DeviceLaws.{stays-refl}
use Rattle.blk_disk.specs.Devices.{StaysIf}
use Rattle.blk_disk.specs.declared.disk.Disk.{Ghosts}
use Rattle.raid_text.specs.Text.{Text}
use Rattle.top_open.specs.declared.fronts.Front.{Front}
use Rattle.top_open.specs.declared.fronts.Front.TheVariants.{Away}
use Rattle.top_status.specs.declared.status.Status.{Status}
use Rattle.top_status.specs.declared.status.Status.TheVariants as status
use Rattle.top_status.specs.Refusals.{Refused, ◌then◌, or_refusal}
use Rattle.top_fetch.specs.Answers.{RefusedAs}
use Rattle.top_fetch.specs.Fetched.{device_named, there_are, there_is}
use Rattle.top_fetch.proofs.Refusing.{refused_then}
use Rattle.top_scan.specs.List.{AreApart}
use Rattle.top_scan.specs.Looks.{AreLookedAt, IsLookedAt}

pub some_eq : {X : Type 0} (x y : X) → Some x ≡ Some y → x ≡ y
some_eq x y e = cc e

-- ## Names and their devices

-- a device that is lent was at home
pub at_home : {D : Type 0} (home : Text → Option D) (name : Text) (device : D) → device_named home name ≡ Ok device → home name ≡ Some device
at_home {D} home name device e = go (home name) e
  where
    go : (o : Option D) → or_refusal o (status.NoFile name) ≡ Ok device → o ≡ Some device
    go None h = cc h
    go (Some x) h = let same : x ≡ device = cc h in ap (λ (y : D). Some y) same

pub there : {D : Type 0} (home : Text → Option D) (name : Text) (device : D) → device_named home name ≡ Ok device → there_is home name ≡ Ok tt
there home name device e = ap (λ r. r then λ d. Ok tt) e

pub there_same : {D : Type 0} (home mid : Text → Option D) (name : Text) → mid name ≡ home name → there_is mid name ≡ there_is home name
there_same {D} home mid name same = ap (λ (o : Option D). or_refusal o (status.NoFile name) then λ d. Ok tt) same

-- the first that isn't there is refused
pub refused_there : {D : Type 0} (home : Text → Option D) (names : List Text) (k : ℕ) (name : Text) (s : Status) → slice_get names k ≡ Some name
    → ((j : ℕ) (n : Text) → j < k → slice_get names j ≡ Some n → there_is home n ≡ Ok tt) → RefusedAs s (there_is home name) → RefusedAs s (there_are home names)
unfolding there_are
refused_there home [] k name s at before h = cc at
refused_there home (x ∷ names) zero name s at before h =
    refused_then s (there_is home x) _ (subst (λ (n : Text). RefusedAs s (there_is home n)) (sym (some_eq x name at)) h)
refused_there home (x ∷ names) (suc k) name s at before h =
    let first : there_is home x ≡ Ok tt = before 0 x (omega arith) refl in
    subst (λ (w : Result (Unit {0}) Refused). RefusedAs s w) (sym (ap (λ r. r then λ there. there_are home names) first))
    (refused_there home names k name s at (λ j n lt is. before (suc j) n (omega (arith, lt)) is) h)

-- all of them are there
pub all_there : {D : Type 0} (home : Text → Option D) (names : List Text) → ((j : ℕ) (n : Text) → j < length names → slice_get names j ≡ Some n → there_is home n ≡ Ok tt) → there_are home names ≡ Ok tt
unfolding there_are
all_there home [] all = refl
all_there home (x ∷ names) all =
    let first : there_is home x ≡ Ok tt = all 0 x (omega arith) refl in
    ap (λ r. r then λ there. there_are home names) first ∙ all_there home names (λ j n lt is. all (suc j) n (omega (arith, lt)) is)

-- ## The same devices at home

pub there_are_same : {D : Type 0} (home mid : Text → Option D) (names : List Text) → ((n : Text) → mid n ≡ home n) → there_are mid names ≡ there_are home names
unfolding there_are
there_are_same home mid [] same = refl
there_are_same home mid (x ∷ names) same =
    ap (λ r. r then λ there. there_are mid names) (there_same home mid x (same x))
    ∙ ap (λ r. there_is home x then λ there. r) (there_are_same home mid names same)

pub looked_same : {D : Type 0} (g : Ghosts D) (tells : Type 0) (names : List Text) (home mid now : Text → Option D) (fronts : List Front)
    → (tells → (n : Text) → mid n ≡ home n) → AreLookedAt g tells mid now names fronts → AreLookedAt g tells home now names fronts
looked_same g tells names home mid now fronts same looked = record {
  each = λ k n lt at.
      let one = looked.each k n lt at in
      record {
        taken = one.taken;
        back = one.back;
        was = λ told. sym (same told n) ∙ one.was told;
        is = one.is;
        front_of = one.front_of;
        once = one.once;
        stays = one.stays;
      };
  others = λ told n none. looked.others told n none ∙ same told n;
}

-- nothing was called behind it
pub looked_behind : {D : Type 0} (g : Ghosts D) (tells : Type 0) (names : List Text) (home mid now : Text → Option D) (fronts : List Front)
    → (tells → (n : Text) → now n ≡ mid n) → AreLookedAt g tells home mid names fronts → AreLookedAt g tells home now names fronts
looked_behind g tells names home mid now fronts same looked = record {
  each = λ k n lt at.
      let one = looked.each k n lt at in
      record {
        taken = one.taken;
        back = one.back;
        was = one.was;
        is = λ told. same told n ∙ one.is told;
        front_of = one.front_of;
        once = one.once;
        stays = one.stays;
      };
  others = λ told n none. same told n ∙ looked.others told n none;
}

-- ## One more device

module _ {D : Type 0} (g : Ghosts D) (tells : Type 0) (names : List Text) (apart : AreApart names) where
  -- none is looked at
  pub none_looked : (home now : Text → Option D) → (tells → (n : Text) → now n ≡ home n) → AreLookedAt g tells home now names []
  none_looked home now same = record {
    each = λ k name lt at. absurd (omega (arith, lt));
    others = λ told n none. same told n;
  }

  -- before the device of a name is looked at, it is at home as it was
  pub not_yet : (home mid : Text → Option D) (fronts : List Front) (name : Text) → slice_get names (length fronts) ≡ Some name → AreLookedAt g tells home mid names fronts → tells → mid name ≡ home name
  not_yet home mid fronts name at so_far told = so_far.others told name (λ k lt is. apart k (length fronts) name lt is at)

  pub looked_more : (home mid now : Text → Option D) (fronts more : List Front) (front : Front) (name : Text) → more ≡ fronts ++ front ∷ [] → slice_get names (length fronts) ≡ Some name
      → AreLookedAt g tells home mid names fronts → IsLookedAt g tells mid now name front → (tells → (n : Text) → n ≢ name → now n ≡ mid n) → AreLookedAt g tells home now names more
  looked_more home mid now fronts more front name is at so_far this rest = subst (λ (l : List Front). AreLookedAt g tells home now names l) (sym is) (record {
    each = each_more;
    others = λ told n none.
        let other : n ≢ name = λ same. none (length fronts) (omega (arith, long)) (at ∙ ap (λ (t : Text). Some t) (sym same)) in
        rest told n other ∙ so_far.others told n (λ k lt here. none k (omega (arith, lt, long)) here);
  })
    where
      long : length (fronts ++ front ∷ []) ≡ length fronts + 1
      long = length-append fronts (front ∷ [])

      earlier : (k : ℕ) (n : Text) → k < length fronts → slice_get names k ≡ Some n → IsLookedAt g tells home now n (get_or fronts k Away)
      earlier k n lt here =
          let was = so_far.each k n lt here in
          let other : n ≢ name = λ same. apart k (length fronts) n lt here (at ∙ ap (λ (t : Text). Some t) (sym same)) in
          record {
            taken = was.taken;
            back = was.back;
            was = was.was;
            is = λ told. rest told n other ∙ was.is told;
            front_of = was.front_of;
            once = was.once;
            stays = was.stays;
          }

      last : (n : Text) → n ≡ name → IsLookedAt g tells home now n front
      last n same = subst (λ (t : Text). IsLookedAt g tells home now t front) (sym same) (record {
        taken = this.taken;
        back = this.back;
        was = λ told. sym (not_yet home mid fronts name at so_far told) ∙ this.was told;
        is = this.is;
        front_of = this.front_of;
        once = this.once;
        stays = this.stays;
      })

      each_more : (k : ℕ) (n : Text) → k < length (fronts ++ front ∷ []) → slice_get names k ≡ Some n → IsLookedAt g tells home now n (get_or (fronts ++ front ∷ []) k Away)
      each_more k n lt here = elim (cases_lt k (length fronts)) [
        | inl less ↦ subst (λ (f : Front). IsLookedAt g tells home now n f) (sym (get_or_append_left fronts (front ∷ []) Away k less)) (earlier k n less here)
        | inr most ↦
            let end : k ≡ length fronts = omega (arith, lt, most, long) in
            let same : n ≡ name = some_eq n name (sym here ∙ (ap (λ (i : ℕ). slice_get names i) end ∙ at)) in
            let seam : get_or (fronts ++ front ∷ []) k Away ≡ front = ap (λ (i : ℕ). get_or (fronts ++ front ∷ []) i Away) end ∙ get_or-append_seam fronts front [] Away in
            subst (λ (f : Front). IsLookedAt g tells home now n f) (sym seam) (last n same)
      ]

-- ## All names

-- a name stands among the first, or it doesn't
pub by_named : {P : Type 0} (names : List Text) (k : ℕ) (n : Text) → ((i : ℕ) → i < k → slice_get names i ≡ Some n → P) → (((i : ℕ) → i < k → slice_get names i ≡ Some n → ⊥) → P) → P
by_named names zero n one none = none (λ i lt is. absurd (omega (arith, lt)))
by_named {P} names (suc k) n one none = by_named names k n (λ i lt is. one i (omega (arith, lt)) is) (λ apart. go (slice_get names k) refl apart)
  where
    past : ((i : ℕ) → i < k → slice_get names i ≡ Some n → ⊥) → (slice_get names k ≡ Some n → ⊥) → (i : ℕ) → i < suc k → slice_get names i ≡ Some n → ⊥
    past apart other i lt is = elim (cases_lt i k) [
      | inl less ↦ apart i less is
      | inr most ↦ let end : i ≡ k = omega (arith, lt, most) in other (ap (λ (j : ℕ). slice_get names j) (sym end) ∙ is)
    ]

    tested : (x : Text) (b : Bool) → bytes_eq x n ≡ b → slice_get names k ≡ Some x → ((i : ℕ) → i < k → slice_get names i ≡ Some n → ⊥) → P
    tested x true e is apart = one k (omega arith) (is ∙ ap (λ (t : Text). Some t) ((bytes_eq-Decides x n).0 e))
    tested x false e is apart = none (past apart (λ at. let same : x ≡ n = some_eq x n (sym is ∙ at) in cc (e, (bytes_eq-Decides x n).1 same)))

    go : (o : Option Text) → slice_get names k ≡ o → ((i : ℕ) → i < k → slice_get names i ≡ Some n → ⊥) → P
    go None e apart = none (past apart (λ at. cc (at, e)))
    go (Some x) e apart = tested x (bytes_eq x n) refl e apart

stays_if : {D : Type 0} (g : Ghosts D) (o : Option D) → StaysIf g (λ _. ⊥) o o
stays_if g None = tt
stays_if g (Some x) = stays-refl g (λ _. ⊥) x

-- no sector has changed under any name
pub all_stay : {D : Type 0} (g : Ghosts D) (tells : Type 0) (home now : Text → Option D) (names : List Text) (fronts : List Front) → tells → AreLookedAt g tells home now names fronts
    → (n : Text) → StaysIf g (λ _. ⊥) (home n) (now n)
all_stay {D} g tells home now names fronts told looked n =
    by_named names (length fronts) n
    (λ i lt is.
    let one = looked.each i n lt is in
    subst (λ (x : Option D). StaysIf g (λ _. ⊥) x (now n)) (sym (one.was told))
    (subst (λ (z : Option D). StaysIf g (λ _. ⊥) (Some one.taken) z) (sym (one.is told)) one.stays))
    (λ none. subst (λ (z : Option D). StaysIf g (λ _. ⊥) (home n) z) (sym (looked.others told n none)) (stays_if g (home n)))
