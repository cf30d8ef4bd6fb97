-- The array of an action that was done is opened by what was read, so each of its dead columns has its cause.
use Rattle.std.specs.Prelude.{◌≡◌, ℕ, List, [], ◌∷◌, Option, Some, None, Result, Ok, Err, if◌then◌else◌, option_map}
use Rattle.std.proofs.Common.{refl, sym, ap, subst, ◌∙◌}
use Rattle.blk_disk.specs.declared.disk.Disk.{Ghosts}
use Rattle.eng_cols.specs.declared.spot.Loss.{Loss}
use Rattle.graph_mean.specs.Graph.{View}
use Rattle.text_steps.specs.declared.at.At.{At}
use Rattle.top_bay.specs.Asked.{Asked, asked_in, names_for}
use Rattle.top_fetch.specs.Told.{Told}
use Rattle.top_open.specs.Opening.{Opened}
use Rattle.top_open.specs.declared.fronts.Front.{Front}
use Rattle.top_status.specs.declared.status.Status.TheVariants as status
use Rattle.top_status.specs.Refusals.{Refused, ◌then◌, only}
use Rattle.top_words.specs.Asked.{Command, profile_of}
use Rattle.top_words.specs.declared.profile.Kind.{Kind}
use Rattle.top_words.specs.declared.profile.Kind.TheVariants as kind
use Rattle.top_duty.specs.Duty.{Admitted, Duty, OnArray, Shows, OneLabel, PrintConf, IsWanted, asked_of, duty_by, duty_for, duty_in, judged, short_status, with_joined}
use Rattle.top_duty.specs.Steps.{columns_of, if_apart, if_past, lost_by, unless, admitted_with, is_short, first_of}
use Rattle.top_duty.specs.Opening.{kind_of, opened_by, sizes_in}
use Rattle.top_duty.specs.Start.{other_filling, start_in}
use Rattle.raid_top.specs.Laws.{DeadAsOpened}
use Rattle.raid_top.specs.Opened.{DeadHaveCauses, IsOpenedFor}
use Rattle.raid_top.proofs.DeadOpened.{dead_for}
use Rattle.raid_top.proofs.Due.{due_in}

-- ## What is wanted goes by what is due

unless_ok : (o : Option Refused) (x d : Duty) → Ok d ≡ unless o x → x ≡ d
unless_ok None x d h = cc h
unless_ok (Some r) x d h = cc h

-- the refusals by which an array is judged
abbrev refusals : Admitted → Option Loss → Result (List View) At → List (Option Refused)
refusals a loss joined =
    option_map (lost_by a) loss
    ∷ option_map (λ c. only (status.Rebuilding c)) (other_filling a.asked (columns_of a))
    ∷ (if is_short a then Some (only (short_status (profile_of a.asked.command.action).rebuild)) else None)
    ∷ if_apart a joined ∷ if_past (with_joined a joined) ∷ []

joined_opened : (a : Admitted) (j : Result (List View) At) → (with_joined a j).opened ≡ a.opened
joined_opened a (Ok views) = refl
joined_opened a (Err at) = refl

joined_asked : (a : Admitted) (j : Result (List View) At) → (with_joined a j).asked ≡ a.asked
joined_asked a (Ok views) = refl
joined_asked a (Err at) = refl

-- what is due goes by this array
record IsDueFor (w : Result Duty Refused) (k : Asked) (o : Opened) : Type 0 where
  pub due : Duty
  pub is : w ≡ Ok due
  pub opened : IsOpenedFor due o
  pub asked : asked_of due ≡ k

due_for : (w : Result Duty Refused) (d : Duty) (o : Opened) → IsWanted w (Ok d) → IsOpenedFor d o → IsDueFor w (asked_of d) o
due_for w d o h of = go w refl
  where
    to : (x : Result Duty Refused) → w ≡ x → Ok d ≡ (x then λ k. judged k h.loss h.joined)
    to x is = subst (λ (z : Result Duty Refused). Ok d ≡ (z then λ k. judged k h.loss h.joined)) is h.is

    go : (x : Result Duty Refused) → w ≡ x → IsDueFor w (asked_of d) o
    go (Err r) is = let both : Ok d ≡ (Err r then λ k. judged k h.loss h.joined) = to (Err r) is in cc both
    go (Ok (OnArray a)) is =
        let same : OnArray (with_joined a h.joined) ≡ d = unless_ok (first_of (refusals a h.loss h.joined)) (OnArray (with_joined a h.joined)) d (to (Ok (OnArray a)) is) in
        record {
          due = OnArray a;
          is = is;
          opened = sym (joined_opened a h.joined) ∙ subst (λ (x : Duty). IsOpenedFor x o) (sym same) of;
          asked = sym (joined_asked a h.joined) ∙ ap asked_of same;
        }
    go (Ok (Shows k p)) is =
        let same : Shows k p ≡ d = (let both : Ok d ≡ (Ok (Shows k p) then λ x. judged x h.loss h.joined) = to (Ok (Shows k p)) is in cc both) in
        record { due = Shows k p; is = is; opened = subst (λ (x : Duty). IsOpenedFor x o) (sym same) of; asked = ap asked_of same }
    go (Ok (OneLabel k)) is =
        let same : OneLabel k ≡ d = (let both : Ok d ≡ (Ok (OneLabel k) then λ x. judged x h.loss h.joined) = to (Ok (OneLabel k)) is in cc both) in
        absurd (subst (λ (x : Duty). IsOpenedFor x o) (sym same) of)
    go (Ok (PrintConf k)) is =
        let same : PrintConf k ≡ d = (let both : Ok d ≡ (Ok (PrintConf k) then λ x. judged x h.loss h.joined) = to (Ok (PrintConf k)) is in cc both) in
        absurd (subst (λ (x : Duty). IsOpenedFor x o) (sym same) of)

-- ## And that by what was read

-- it is opened so
abbrev Opens : Asked → List ℕ → List Front → Duty → Opened → Type 0
Opens k sizes fronts d o = (opened_by k sizes fronts ≡ Ok o) × (asked_of d ≡ k)

kind_opens : (x : Kind) (k : Asked) (sizes : List ℕ) (fronts : List Front) (d : Duty) (o : Opened) → duty_for x k sizes fronts ≡ Ok d → IsOpenedFor d o → Opens k sizes fronts d o
kind_opens kind.Array k sizes fronts d o h of = go (opened_by k sizes fronts) refl h
  where
    go : (r : Result Opened Refused) → opened_by k sizes fronts ≡ r → (r then λ p. Ok (OnArray (admitted_with k p (start_in k p sizes fronts) []))) ≡ Ok d → Opens k sizes fronts d o
    go (Ok p) e h =
        let same : OnArray (admitted_with k p (start_in k p sizes fronts) []) ≡ d = cc h in
        let one : p ≡ o = subst (λ (x : Duty). IsOpenedFor x o) (sym same) of in
        (e ∙ ap (λ (x : Opened). Ok x) one, sym (ap asked_of same))
    go (Err r) e h = cc h
kind_opens kind.Shown k sizes fronts d o h of = go (opened_by k sizes fronts) refl h
  where
    go : (r : Result Opened Refused) → opened_by k sizes fronts ≡ r → (r then λ p. Ok (Shows k p)) ≡ Ok d → Opens k sizes fronts d o
    go (Ok p) e h =
        let same : Shows k p ≡ d = cc h in
        let one : p ≡ o = subst (λ (x : Duty). IsOpenedFor x o) (sym same) of in
        (e ∙ ap (λ (x : Opened). Ok x) one, sym (ap asked_of same))
    go (Err r) e h = cc h
kind_opens kind.Label k sizes fronts d o h of = let same : OneLabel k ≡ d = cc h in absurd (subst (λ (x : Duty). IsOpenedFor x o) (sym same) of)
kind_opens kind.Conf k sizes fronts d o h of = let same : PrintConf k ≡ d = cc h in absurd (subst (λ (x : Duty). IsOpenedFor x o) (sym same) of)

by_opens : (k : Asked) (sizes : List ℕ) (fronts : List Front) (d : Duty) (o : Opened) → duty_by k sizes fronts ≡ Ok d → IsOpenedFor d o → Opens k sizes fronts d o
unfolding duty_by
by_opens k sizes fronts d o h of = kind_opens (kind_of k.command.action) k sizes fronts d o h of

module _ {D : Type 0} (g : Ghosts D) (b : Told D) (command : Command) (fronts : List Front) where
  in_opens : (d : Duty) (o : Opened) → duty_in g.size b command fronts ≡ Ok d → IsOpenedFor d o → opened_by (asked_of d) (sizes_in g.size b.home (names_for (asked_of d))) fronts ≡ Ok o
  unfolding duty_in
  in_opens d o h of = go (asked_in b command) h
    where
      go : (r : Result Asked Refused) → (r then λ k. duty_by k (sizes_in g.size b.home (names_for k)) fronts) ≡ Ok d → opened_by (asked_of d) (sizes_in g.size b.home (names_for (asked_of d))) fronts ≡ Ok o
      go (Ok k) h =
          let opens = by_opens k (sizes_in g.size b.home (names_for k)) fronts d o h of in
          subst (λ (x : Asked). opened_by x (sizes_in g.size b.home (names_for x)) fronts ≡ Ok o) (sym opens.1) opens.0
      go (Err r) h = cc h

pub dead_as_opened : {D : Type 0} (g : Ghosts D) (b : Told D) → DeadAsOpened g b
dead_as_opened g b told command o h opened of =
    let due = due_for (duty_in g.size b command h.fronts) h.duty opened (due_in g b command o h told) of in
    let opens = in_opens g b command h.fronts due.due opened due.is due.opened in
    subst (λ (k : Asked). DeadHaveCauses k (sizes_in g.size b.home (names_for k)) h.fronts opened) due.asked
    (λ c dead. dead_for (asked_of due.due) (sizes_in g.size b.home (names_for (asked_of due.due))) h.fronts opened opens c dead)
