-- What an action asks to be done to an array may be done to it.
use Rattle.std.specs.Prelude.{◌≡◌, ◌<◌, ℕ, Bool, true, List, Option, Some, None}
use Rattle.std.proofs.Common.{arith, refl, sym, ap, subst, inr}
use Rattle.blk_disk.specs.declared.disk.Disk.{Ghosts}
use Rattle.raid_conf.specs.declared.conf.Conf.{Conf}
use Rattle.raid_conf.specs.Layouts.{shape_of}
use Rattle.raid_label.specs.declared.label.Label.{Label}
use Rattle.raid_recon.specs.Array.{IsArray}
use Rattle.top_bay.specs.Asked.{Asked, names_by, names_of}
use Rattle.top_bay.specs.Views.{IsKnown, IsWithinLimits}
use Rattle.top_acts.specs.declared.done.Done.{Done}
use Rattle.top_acts.specs.declared.sweeping.Renewal.TheVariants as renewal
use Rattle.top_open.specs.Opening.{Opened}
use Rattle.top_run.specs.Work.{Ending}
use Rattle.top_words.specs.Asked.{Action, Io, Sweep, Show, ShowMap, Init, Check, Rewrite, Print, Fail, ShowLabel, Label as Labels, Rebuild, Resume, profile_of}
use Rattle.top_words.specs.declared.profile.Deed.{Deed}
use Rattle.top_words.specs.declared.profile.Deed.TheVariants as deed
use Rattle.top_duty.specs.Duty.{Admitted, layout_of}
use Rattle.top_duty.specs.Steps.{columns_of}
use Rattle.top_duty.specs.Fit.{IsFit}
use Rattle.top_duty.specs.Opening.{kind_of, needs_for, needs_of}
use Rattle.top_duty.proofs.Fits.{fit_array}
use Rattle.raid_top.specs.declared.array.Order.{Order}
use Rattle.raid_top.specs.declared.array.Order.TheVariants as order
use Rattle.raid_top.specs.declared.came.Came.{Came}
use Rattle.raid_top.specs.declared.came.Came.TheVariants as came
use Rattle.raid_top.specs.Arrays.{DoesOrder, HasRounds, IsNewest, MayDo, ending_seen}
use Rattle.raid_top.specs.Does.{DoesDeed, DoesRun}
use Rattle.raid_top.specs.Orders.{first_label, kill_of, order_for}
use Rattle.raid_top.specs.Outcome.{Outcome, Did}
use Rattle.raid_top.specs.Served.{ComesOfOrder, IsRun}
use Rattle.raid_top.specs.Views.{outcome_seen}

-- ## Which actions serve clients

no_kill : (comp : Option ℕ) (newest : Option Label) (at : ℕ) → comp ≡ Some at → (l : Label) → newest ≡ Some l → kill_of comp newest ≡ None → ⊥
no_kill None newest at one l two e = cc one
no_kill (Some c) None at one l two e = cc two
no_kill (Some c) (Some l) at one m two e = cc e

-- an action on an array that asks for nothing to be done without a core serves clients
pub serves : (action : Action) (comp : Option ℕ) (newest : Option Label) (conf : Conf) (rows : ℕ)
    → kind_of action ≡ kind_of Init → IsKnown conf action comp → ((needs_for action comp).labels ≡ true → (l : Label) × (newest ≡ Some l))
    → order_for (profile_of action).deed comp newest conf rows ≡ None → IsRun action
serves (Io beside workers mapped) comp newest conf rows kind known labels e = tt
serves (Sweep seed clients ops workers mapped) comp newest conf rows kind known labels e = tt
serves Show comp newest conf rows kind known labels e = absurd (let z : ⊥ = cc kind in z)
serves ShowMap comp newest conf rows kind known labels e = absurd (let z : ⊥ = cc kind in z)
serves Init comp newest conf rows kind known labels e = absurd (let z : ⊥ = cc e in z)
serves Check comp newest conf rows kind known labels e = absurd (let z : ⊥ = cc e in z)
serves Rewrite comp newest conf rows kind known labels e = absurd (let z : ⊥ = cc e in z)
serves Print comp newest conf rows kind known labels e = absurd (let z : ⊥ = cc kind in z)
serves (Fail name) comp newest conf rows kind known labels e = let l = labels refl in absurd (no_kill comp newest known.at known.is l.0 l.1 e)
serves (ShowLabel name) comp newest conf rows kind known labels e = absurd (let z : ⊥ = cc kind in z)
serves (Labels serial) comp newest conf rows kind known labels e = absurd (let z : ⊥ = cc e in z)
serves (Rebuild in_place name limit beside workers mapped) comp newest conf rows kind known labels e = tt
serves (Resume limit beside workers mapped) comp newest conf rows kind known labels e = tt

-- and such an action writes labels
pub run_writes : (action : Action) (comp : Option ℕ) → IsRun action → (needs_for action comp).writes ≡ true
run_writes (Io beside workers mapped) comp is = refl
run_writes (Sweep seed clients ops workers mapped) comp is = refl
run_writes Show comp is = absurd is
run_writes ShowMap comp is = absurd is
run_writes Init comp is = absurd is
run_writes Check comp is = absurd is
run_writes Rewrite comp is = absurd is
run_writes Print comp is = absurd is
run_writes (Fail name) comp is = absurd is
run_writes (ShowLabel name) comp is = absurd is
run_writes (Labels serial) comp is = absurd is
run_writes (Rebuild in_place name limit beside workers mapped) comp is = refl
run_writes (Resume limit beside workers mapped) comp is = refl

-- ## What may be done

same_order : (x z : Order) → Some x ≡ Some z → x ≡ z
same_order x z e = cc e

module _ {D : Type 0} (g : Ghosts D) (k : Asked) (o : Opened) (devices : List (Option D)) (within : IsWithinLimits k) (fit : IsFit g k o devices) where
  rounds_of : (l : Label) → (needs_of k).writes ≡ true → o.newest ≡ Some l → HasRounds o.columns l
  rounds_of l writes is = let at = fit.newest l is in record { held = at.0; counter = omega (arith, at.1 writes) }

  newest_is : (newest : Option Label) → (needs_of k).writes ≡ true → o.newest ≡ newest → IsNewest o.columns newest
  newest_is None writes is = tt
  newest_is (Some l) writes is = rounds_of l writes is

  array : IsArray g (shape_of k.conf o.rows) o.columns devices
  array = fit_array g k o devices fit within.conf

  may_kill : (comp : Option ℕ) (newest : Option Label) (it : Order) (at : ℕ) → comp ≡ Some at → at < k.conf.columns → (needs_of k).writes ≡ true → o.newest ≡ newest → kill_of comp newest ≡ Some it
      → MayDo g (shape_of k.conf o.rows) o.columns it devices
  may_kill None newest it at one below writes two e = absurd (let z : ⊥ = cc one in z)
  may_kill (Some c) None it at one below writes two e = absurd (let z : ⊥ = cc e in z)
  may_kill (Some c) (Some l) it at one below writes two e =
      let here : c ≡ at = cc one in
      subst (λ (x : Order). MayDo g (shape_of k.conf o.rows) o.columns x devices) (same_order (order.Kill c l) it e)
      (omega (arith, below, here, fit.entries), rounds_of l writes two)

  pub may_do : (action : Action) (it : Order) → k.command.action ≡ action → order_for (profile_of action).deed k.comp o.newest k.conf o.rows ≡ Some it → MayDo g (shape_of k.conf o.rows) o.columns it devices
  may_do Init it same e = subst (λ (x : Order). MayDo g (shape_of k.conf o.rows) o.columns x devices) (same_order _ it e)
      (array, newest_is o.newest (ap (λ (a : Action). (needs_for a k.comp).writes) same) refl)
  may_do Rewrite it same e = subst (λ (x : Order). MayDo g (shape_of k.conf o.rows) o.columns x devices) (same_order _ it e)
      (array, newest_is o.newest (ap (λ (a : Action). (needs_for a k.comp).writes) same) refl)
  may_do Check it same e = subst (λ (x : Order). MayDo g (shape_of k.conf o.rows) o.columns x devices) (same_order _ it e)
      array
  may_do (Fail name) it same e =
      let known = subst (λ (a : Action). IsKnown k.conf a k.comp) same within.known in
      may_kill k.comp o.newest it known.at known.is known.within (ap (λ (a : Action). (needs_for a k.comp).writes) same) refl e
  may_do (Labels serial) it same e = subst (λ (x : Order). MayDo g (shape_of k.conf o.rows) o.columns x devices) (same_order _ it e)
      (record { held = record { version = inr refl; clean = omega arith; filling = omega arith; done = λ none. refl; first = λ one. refl }; count = sym fit.entries })
  may_do (Io beside workers mapped) it same e = absurd (let z : ⊥ = cc e in z)
  may_do (Sweep seed clients ops workers mapped) it same e = absurd (let z : ⊥ = cc e in z)
  may_do Show it same e = absurd (let z : ⊥ = cc e in z)
  may_do ShowMap it same e = absurd (let z : ⊥ = cc e in z)
  may_do Print it same e = absurd (let z : ⊥ = cc e in z)
  may_do (ShowLabel name) it same e = absurd (let z : ⊥ = cc e in z)
  may_do (Rebuild in_place name limit beside workers mapped) it same e = absurd (let z : ⊥ = cc e in z)
  may_do (Resume limit beside workers mapped) it same e = absurd (let z : ⊥ = cc e in z)

-- ## What was done

module _ {D : Type 0} (g : Ghosts D) (a : Admitted) (failed : Bool) (old back : List (Option D)) where
  abbrev DoesSo : Order → Done → Ending → Type 0
  DoesSo it act e = DoesOrder g (layout_of a) (columns_of a) old back act e it

  kill_does : (comp : Option ℕ) (newest : Option Label) → a.asked.comp ≡ comp → a.opened.newest ≡ newest → (it : Order) (act : Done) (e : Ending) → kill_of comp newest ≡ Some it → DoesSo it act e
      → DoesDeed g a failed old back deed.Kills (Did act e)
  kill_does None newest one two it act e is h = absurd (let z : ⊥ = cc is in z)
  kill_does (Some c) None one two it act e is h = absurd (let z : ⊥ = cc is in z)
  kill_does (Some c) (Some l) one two it act e is h =
      let same : order.Kill c l ≡ it = cc is in
      let done = subst (λ (x : Order). DoesSo x act e) (sym same) h in
      (c, l, done.0, one, two, done.1)

  deed_does : (d : Deed) (it : Order) (act : Done) (e : Ending) → order_for d a.asked.comp a.opened.newest a.asked.conf a.opened.rows ≡ Some it → DoesSo it act e → DoesDeed g a failed old back d (Did act e)
  deed_does deed.Looks it act e is h = absurd (let z : ⊥ = cc is in z)
  deed_does deed.Serves it act e is h = absurd (let z : ⊥ = cc is in z)
  deed_does deed.Checks it act e is h = let same : order.Check ≡ it = cc is in subst (λ (x : Order). DoesSo x act e) (sym same) h
  deed_does deed.Inits it act e is h = let same : order.Renew renewal.Init a.opened.newest ≡ it = cc is in subst (λ (x : Order). DoesSo x act e) (sym same) h
  deed_does deed.Rewrites it act e is h = let same : order.Renew renewal.Rewrite a.opened.newest ≡ it = cc is in subst (λ (x : Order). DoesSo x act e) (sym same) h
  deed_does deed.Kills it act e is h = kill_does a.asked.comp a.opened.newest refl refl it act e is h
  deed_does (deed.Labels serial) it act e is h =
      let same : order.Label (first_label a.asked.conf a.opened.rows serial) ≡ it = cc is in
      subst (λ (x : Order). DoesSo x act e) (sym same) h

  -- what was asked was done
  pub order_does : (action : Action) (conf : Conf) (it : Order) (c : Came) → order_for (profile_of action).deed a.asked.comp a.opened.newest a.asked.conf a.opened.rows ≡ Some it
      → ComesOfOrder g (layout_of a) (columns_of a) old back it c → DoesDeed g a failed old back (profile_of action).deed (outcome_seen action conf c)
  order_does action conf it (came.Did act ending) is h = deed_does (profile_of action).deed it act (ending_seen ending) is h
  order_does action conf it (came.Ran service) is h = absurd h
  order_does action conf it (came.Shows shown) is h = absurd h
  order_does action conf it (came.ShowsLabel front) is h = absurd h
  order_does action conf it (came.Prints text) is h = absurd h

  -- or clients were served
  pub run_does : (action : Action) (o : Outcome) → IsRun action → DoesRun g a failed old back a.opened.newest o → DoesDeed g a failed old back (profile_of action).deed o
  run_does (Io beside workers mapped) o is h = h
  run_does (Sweep seed clients ops workers mapped) o is h = h
  run_does Show o is h = absurd is
  run_does ShowMap o is h = absurd is
  run_does Init o is h = absurd is
  run_does Check o is h = absurd is
  run_does Rewrite o is h = absurd is
  run_does Print o is h = absurd is
  run_does (Fail name) o is h = absurd is
  run_does (ShowLabel name) o is h = absurd is
  run_does (Labels serial) o is h = absurd is
  run_does (Rebuild in_place name limit beside workers mapped) o is h = h
  run_does (Resume limit beside workers mapped) o is h = h

-- ## Names

-- what is done with an array goes by all devices of its configuration
pub array_names : (conf : Conf) (action : Action) → kind_of action ≡ kind_of Init → names_by conf action ≡ names_of conf
array_names conf (Io beside workers mapped) e = refl
array_names conf (Sweep seed clients ops workers mapped) e = refl
array_names conf Show e = refl
array_names conf ShowMap e = refl
array_names conf Init e = refl
array_names conf Check e = refl
array_names conf Rewrite e = refl
array_names conf Print e = absurd (let z : ⊥ = cc e in z)
array_names conf (Fail name) e = refl
array_names conf (ShowLabel name) e = absurd (let z : ⊥ = cc e in z)
array_names conf (Labels serial) e = refl
array_names conf (Rebuild in_place name limit beside workers mapped) e = refl
array_names conf (Resume limit beside workers mapped) e = refl
