-- An array that is refused as lost lacks a unit on both columns of its loss.
use Rattle.std.specs.Prelude.{◌≡◌, ℕ, Bool, true, false, List, [], ◌∷◌, length, map, Option, Some, None, Result, Ok, Err, if◌then◌else◌, option_map}
use Rattle.std.specs.Option.{option_map_or}
use Rattle.std.proofs.Common.{inl, inr, refl, sym, ap, subst, length-set, ◌∙◌}
use Rattle.std.proofs.lemmas.List.{length-map}
use Rattle.blk_disk.specs.Devices.{at_home}
use Rattle.blk_disk.specs.declared.disk.Disk.{Ghosts}
use Rattle.eng_cols.specs.declared.spot.Loss.{Loss}
use Rattle.eng_cols.specs.Cols.{InOrder, state_set}
use Rattle.eng_cols.specs.Laws.{HaveSpares}
use Rattle.eng_cols.specs.Lost.{IsLost}
use Rattle.eng_cols.specs.Stripes.{filled_in}
use Rattle.eng_cols.proofs.Killing.{order-kept, spread-back}
use Rattle.graph_mean.specs.Graph.{View}
use Rattle.text_steps.specs.declared.at.At.{At}
use Rattle.raid_conf.specs.declared.conf.Conf.{Conf}
use Rattle.raid_conf.specs.Form.{IsConf}
use Rattle.raid_conf.specs.Texts.{conf_of}
use Rattle.raid_conf.proofs.FormConf.{conf_of_form}
use Rattle.raid_recon.specs.Array.{IsArray}
use Rattle.raid_text.specs.Text.{Text}
use Rattle.top_bay.specs.Asked.{Asked, asked_in, book_in, comp_in, conf_in, devices_in, graphs_name, names_for, script_in, script_name, texts_in}
use Rattle.top_close.specs.Ended.{IsLossBy}
use Rattle.top_close.specs.Losses.{LossLacksUnits}
use Rattle.top_close.proofs.LackingLaws.{loss_lacks}
use Rattle.top_fetch.specs.Fetched.{or_status}
use Rattle.top_fetch.specs.Told.{Told}
use Rattle.top_open.specs.Opening.{Opened}
use Rattle.top_open.specs.declared.fronts.Front.{Front}
use Rattle.top_status.specs.declared.status.Status.{Status}
use Rattle.top_status.specs.declared.status.Status.TheVariants as status
use Rattle.top_status.specs.Refusals.{Refused, ◌then◌, only, text_in}
use Rattle.top_status.specs.Status.{status_of_loss}
use Rattle.top_words.specs.Asked.{Command}
use Rattle.top_words.specs.Judged.{OnArray as InvokesArray}
use Rattle.top_words.specs.declared.profile.Kind.{Kind}
use Rattle.top_words.specs.declared.profile.Kind.TheVariants as kind
use Rattle.top_words.specs.declared.profile.Rebuilding.{Rebuilding}
use Rattle.top_words.specs.declared.profile.Rebuilding.TheVariants as rebuilding
use Rattle.top_words.specs.Asked.{profile_of}
use Rattle.top_duty.specs.Duty.{Admitted, Duty, OnArray, Shows, OneLabel, PrintConf, IsWanted, beside_dead, duty_by, duty_for, duty_in, is_past_bound, judged, judged_states, layout_of, short_status, with_joined}
use Rattle.top_duty.specs.Steps.{columns_of, if_apart, if_past, lost_by, unless, with_killed, states_in, admitted_with, is_short, first_of}
use Rattle.top_duty.specs.Fit.{IsFit}
use Rattle.top_duty.specs.Opening.{kind_of, needs_of, opened_by, sizes_in, sizes_of}
use Rattle.top_duty.specs.Start.{start_in}
use Rattle.top_duty.specs.Taken.{RefusedAt, RefusedFor}
use Rattle.top_duty.specs.Views.{other_of, short_of}
use Rattle.top_duty.proofs.Fits.{fit_array}
use Rattle.top_duty.proofs.Fitting.{is_fit}
use Rattle.raid_top.specs.Calls.{CallOutcome}
use Rattle.raid_top.specs.Ends.{Acts}
use Rattle.raid_top.specs.Laws.{LacksUnits, RefusedLossLacksUnits}
use Rattle.raid_top.proofs.Lawful.{shape_laws}
use Rattle.raid_top.proofs.Lossless.{IsLossless, IsNoLoss, duty_lossless}
use Rattle.raid_top.proofs.Refusals.{refused_for}

-- ## The refusal of an array that was opened

short_no_loss : (x : Option Rebuilding) → IsNoLoss (short_status x)
short_no_loss None f s t e = cc e
short_no_loss (Some rebuilding.Elsewhere) f s t e = cc e
short_no_loss (Some rebuilding.InPlace) f s t e = cc e
short_no_loss (Some rebuilding.Further) f s t e = cc e

module _ (a : Admitted) (r : Refused) (loss : Loss) (lost : r.status ≡ status_of_loss (Some loss)) where
  other_status : (x : Refused) → IsNoLoss x.status → r ≡ x → ⊥
  other_status x free same = free loss.first loss.second loss.stripe (sym (ap (λ (z : Refused). z.status) same) ∙ lost)

  not_past : (b : Bool) (x : Refused) (d : Duty) → IsNoLoss x.status → Err r ≡ unless (first_of ((if b then Some x else None) ∷ [])) d → ⊥
  not_past true x d free h = other_status x free (cc h)
  not_past false x d free h = cc h

  not_apart : (joined : Result (List View) At) → Err r ≡ unless (first_of (if_apart a joined ∷ if_past (with_joined a joined) ∷ [])) (OnArray (with_joined a joined)) → ⊥
  not_apart (Ok views) h = not_past (is_past_bound (record a { joined = views })) (beside_dead (record a { joined = views }) (status.Script 0 8)) (OnArray (record a { joined = views })) (λ f s t e. cc e) h
  not_apart (Err at) h = other_status (beside_dead a (status.Script at.line at.code)) (λ f s t e. cc e) (cc h)

  not_short : (joined : Result (List View) At) (b : Bool)
      → Err r ≡ unless (first_of ((if b then Some (only (short_of a)) else None) ∷ if_apart a joined ∷ if_past (with_joined a joined) ∷ [])) (OnArray (with_joined a joined)) → ⊥
  not_short joined true h = other_status (only (short_of a)) (short_no_loss (profile_of a.asked.command.action).rebuild) (cc h)
  not_short joined false h = not_apart joined h

  not_other : (joined : Result (List View) At) (other : Option ℕ)
      → Err r ≡ unless (first_of (option_map (λ c. only (status.Rebuilding c)) other ∷ (if is_short a then Some (only (short_status (profile_of a.asked.command.action).rebuild)) else None) ∷ if_apart a joined ∷ if_past (with_joined a joined) ∷ [])) (OnArray (with_joined a joined)) → ⊥
  not_other joined None h = not_short joined (is_short a) h
  not_other joined (Some c) h = other_status (only (status.Rebuilding c)) (λ f s t e. cc e) (cc h)

  by_loss : (joined : Result (List View) At) (l : Option Loss) → IsLossBy (layout_of a) None (judged_states a) l → Err r ≡ judged (OnArray a) l joined
      → (of : Loss) × (r.status ≡ status_of_loss (Some of)) × IsLost (layout_of a) (judged_states a) of
  by_loss joined None is h = absurd (not_other joined (other_of a) h)
  by_loss joined (Some of) is h = let same : r ≡ lost_by a of = cc h in (of, ap (λ (z : Refused). z.status) same, is)

-- an array was opened, and is lost
record IsOpenedLost (w : Result Duty Refused) (r : Refused) : Type 0 where
  pub array : Admitted
  pub is : w ≡ Ok (OnArray array)
  pub loss : Loss
  pub told : r.status ≡ status_of_loss (Some loss)
  pub lost : IsLost (layout_of array) (judged_states array) loss

opened_lost : (w : Result Duty Refused) (r : Refused) (loss : Loss) → r.status ≡ status_of_loss (Some loss) → IsLossless w → IsWanted w (Err r) → IsOpenedLost w r
opened_lost w r loss lost free h = go w refl free
  where
    to : (x : Result Duty Refused) → w ≡ x → Err r ≡ (x then λ d. judged d h.loss h.joined)
    to x is = subst (λ (z : Result Duty Refused). Err r ≡ (z then λ d. judged d h.loss h.joined)) is h.is

    go : (x : Result Duty Refused) → w ≡ x → IsLossless x → IsOpenedLost w r
    go (Err e) is none =
        let both : Err r ≡ (Err e then λ d. judged d h.loss h.joined) = to (Err e) is in
        let same : r ≡ e = cc both in
        absurd (none loss.first loss.second loss.stripe (sym (ap (λ (z : Refused). z.status) same) ∙ lost))
    go (Ok (OnArray a)) is none =
        let of = by_loss a r loss lost h.joined h.loss (h.is_loss a is) (to (Ok (OnArray a)) is) in
        record { array = a; is = is; loss = of.0; told = of.1; lost = of.2 }
    go (Ok (Shows k o)) is none = let both : Err r ≡ (Ok (Shows k o) then λ d. judged d h.loss h.joined) = to (Ok (Shows k o)) is in cc both
    go (Ok (OneLabel k)) is none = let both : Err r ≡ (Ok (OneLabel k) then λ d. judged d h.loss h.joined) = to (Ok (OneLabel k)) is in cc both
    go (Ok (PrintConf k)) is none = let both : Err r ≡ (Ok (PrintConf k) then λ d. judged d h.loss h.joined) = to (Ok (PrintConf k)) is in cc both

-- ## What was asked, and how it was opened

then_ok : {A B : Type 0} (r : Result A Refused) (f : A → Result B Refused) (y : B) → (r then f) ≡ Ok y → (x : A) × (r ≡ Ok x) × (f x ≡ Ok y)
then_ok (Ok x) f y h = (x, refl, h)
then_ok (Err r) f y h = cc h

ok_same : {A : Type 0} (x y : A) → ◌≡◌ {A = Result A Refused} (Ok x) (Ok y) → x ≡ y
ok_same x y h = cc h

status_ok : {A F : Type 0} (of : F → Status) (r : Result A F) (x : A) → or_status of r ≡ Ok x → r ≡ Ok x
status_ok of (Ok z) x h = let same : z ≡ x = cc h in ap Ok same
status_ok of (Err f) x h = cc h

conf_is : (texts : Text → Option Text) (name : Text) (conf : Conf) → conf_in texts name ≡ Ok conf → IsConf conf
unfolding conf_in
conf_is texts name conf h =
    let text = then_ok (text_in texts name) (λ text. or_status (λ at. status.Conf at.line at.code) (conf_of text)) conf h in
    (conf_of_form text.0 conf (status_ok (λ at. status.Conf at.line at.code) (conf_of text.0) conf text.2)).0

texts_conf : (texts : Text → Option Text) (command : Command) (k : Asked) → texts_in texts command ≡ Ok k → IsConf k.conf
unfolding texts_in
texts_conf texts command k h =
    let conf = then_ok (conf_in texts command.conf) _ k h in
    let comp = then_ok (comp_in conf.0 command.action) _ k conf.2 in
    let book = then_ok (book_in texts (graphs_name command.action)) _ k comp.2 in
    let script = then_ok (script_in texts (script_name command.action) book.0 conf.0.columns) _ k book.2 in
    subst IsConf (ap (λ (z : Asked). z.conf) (ok_same _ k script.2)) (conf_is texts command.conf conf.0 conf.1)

module _ {D : Type 0} (b : Told D) (command : Command) where
  asked_conf : (k : Asked) → asked_in b command ≡ Ok k → IsConf k.conf
  unfolding asked_in
  asked_conf k h =
      let asked = then_ok (texts_in b.texts command) _ k h in
      let there = then_ok (devices_in b.home (names_for asked.0)) _ k asked.2 in
      subst (λ (x : Asked). IsConf x.conf) (ok_same asked.0 k there.2) (texts_conf b.texts command asked.0 asked.1)

array_from : (x : Kind) (k : Asked) (sizes : List ℕ) (fronts : List Front) (a : Admitted) → duty_for x k sizes fronts ≡ Ok (OnArray a) → (opened_by k sizes fronts ≡ Ok a.opened) × (a.asked ≡ k)
array_from kind.Array k sizes fronts a h = go (opened_by k sizes fronts) refl h
  where
    go : (r : Result Opened Refused) → opened_by k sizes fronts ≡ r → (r then λ o. Ok (OnArray (admitted_with k o (start_in k o sizes fronts) []))) ≡ Ok (OnArray a) → (opened_by k sizes fronts ≡ Ok a.opened) × (a.asked ≡ k)
    go (Ok o) e h =
        let one : OnArray (admitted_with k o (start_in k o sizes fronts) []) ≡ OnArray a = cc h in
        let same : admitted_with k o (start_in k o sizes fronts) [] ≡ a = cc one in
        (e ∙ ap (λ (z : Admitted). Ok z.opened) same, sym (ap (λ (z : Admitted). z.asked) same))
    go (Err r) e h = cc h
array_from kind.Shown k sizes fronts a h = go (opened_by k sizes fronts) h
  where
    go : (r : Result Opened Refused) → (r then λ o. Ok (Shows k o)) ≡ Ok (OnArray a) → (opened_by k sizes fronts ≡ Ok a.opened) × (a.asked ≡ k)
    go (Ok o) h = let one : Shows k o ≡ OnArray a = cc h in cc one
    go (Err r) h = cc h
array_from kind.Label k sizes fronts a h = let one : OneLabel k ≡ OnArray a = cc h in cc one
array_from kind.Conf k sizes fronts a h = let one : PrintConf k ≡ OnArray a = cc h in cc one

by_from : (k : Asked) (sizes : List ℕ) (fronts : List Front) (a : Admitted) → duty_by k sizes fronts ≡ Ok (OnArray a) → (opened_by k sizes fronts ≡ Ok a.opened) × (a.asked ≡ k)
unfolding duty_by
by_from k sizes fronts a h = array_from (kind_of k.command.action) k sizes fronts a h

-- what was asked of an array, and how that was opened
record IsAskedAndOpened {D : Type 0} (g : Ghosts D) (b : Told D) (command : Command) (fronts : List Front) (a : Admitted) : Type 0 where
  pub asked : asked_in b command ≡ Ok a.asked
  pub opened : opened_by a.asked (sizes_in g.size b.home (names_for a.asked)) fronts ≡ Ok a.opened

asked_from : {D : Type 0} (g : Ghosts D) (b : Told D) (command : Command) (fronts : List Front) (a : Admitted) → duty_in g.size b command fronts ≡ Ok (OnArray a) → IsAskedAndOpened g b command fronts a
unfolding duty_in
asked_from g b command fronts a h = go (asked_in b command) refl h
  where
    go : (r : Result Asked Refused) → asked_in b command ≡ r → (r then λ k. duty_by k (sizes_in g.size b.home (names_for k)) fronts) ≡ Ok (OnArray a) → IsAskedAndOpened g b command fronts a
    go (Ok k) e h =
        let of = by_from k (sizes_in g.size b.home (names_for k)) fronts a h in
        record {
          asked = e ∙ ap (λ (x : Asked). Ok x) (sym of.1);
          opened = subst (λ (x : Asked). opened_by x (sizes_in g.size b.home (names_for x)) fronts ≡ Ok a.opened) (sym of.1) of.0;
        }
    go (Err r) e h = cc h

-- devices at home have the sizes of their names
sizes_home : {D : Type 0} (size : D → ℕ) (home : Text → Option D) (names : List Text) → sizes_in size home names ≡ sizes_of size (map (λ name. at_home home (Some name)) names)
unfolding sizes_in
sizes_home size home [] = refl
sizes_home size home (name ∷ names) = ap (λ (l : List ℕ). option_map_or size (at_home home (Some name)) 0 ∷ l) (sizes_home size home names)

-- ## The columns as the action makes them

module _ {D : Type 0} (g : Ghosts D) (a : Admitted) (devices : List (Option D)) (fronts : List Front) (is : IsConf a.asked.conf) (opens : opened_by a.asked (sizes_of g.size devices) fronts ≡ Ok a.opened) where
  fit : IsFit g a.asked a.opened devices
  fit = is_fit g a.asked a.opened devices fronts is opens

  array : IsArray g (layout_of a) (columns_of a) devices
  array = fit_array g a.asked a.opened devices fit is

  many : length (states_in a) ≡ (layout_of a).columns
  many = length-map (columns_of a) (state_set (layout_of a).stripes (filled_in (layout_of a) (columns_of a))) ∙ array.entries

  killed_many : (e : Option ℕ) → length (with_killed e (states_in a)) ≡ (layout_of a).columns
  killed_many None = many
  killed_many (Some c) = length-set (states_in a) c _ ∙ many

  killed_order : (e : Option ℕ) → InOrder (with_killed e (states_in a))
  killed_order None = array.order
  killed_order (Some c) = order-kept (states_in a) c array.order

  killed_spares : (e : Option ℕ) → HaveSpares (layout_of a) (with_killed e (states_in a))
  killed_spares None = fit.spares
  killed_spares (Some c) = λ d s done at within. fit.spares d s done (spread-back (states_in a) c d done at) within

  both_lack : (loss : Loss) → IsLost (layout_of a) (judged_states a) loss → LossLacksUnits (layout_of a) (judged_states a) loss
  both_lack loss lost =
      loss_lacks (layout_of a) (judged_states a) loss (shape_laws a.asked.conf a.opened.rows is fit.rows)
      (killed_many (needs_of a.asked).excused) (killed_order (needs_of a.asked).excused) (killed_spares (needs_of a.asked).excused) lost

-- ## The call

module _ {D : Type 0} (g : Ghosts D) (b : Told D) (command : Command) where
  loss_at : (r : Refused) (loss : Loss) → r.status ≡ status_of_loss (Some loss) → RefusedAt g b command r → LacksUnits g b command r
  loss_at r loss lost at =
      let of = opened_lost (duty_in g.size b command at.fronts) r loss lost (duty_lossless g.size b command at.fronts) at.wanted in
      let from = asked_from g b command at.fronts of.array of.is in
      let names = names_for of.array.asked in
      record {
        fronts = at.fronts;
        array = of.array;
        loss = of.loss;
        read = at.read of.array.asked from.asked;
        opened = of.is;
        told = of.told;
        lacks = both_lack g of.array (map (λ name. at_home b.home (Some name)) names) at.fronts (asked_conf b command of.array.asked from.asked)
            (subst (λ (s : List ℕ). opened_by of.array.asked s at.fronts ≡ Ok of.array.opened) (sizes_home g.size b.home names) from.opened) of.loss of.lost;
      }

  refused_loss : (r : Refused) (loss : Loss) → r.status ≡ status_of_loss (Some loss) → RefusedFor g b command r → LacksUnits g b command r
  refused_loss r loss lost (inl at) = loss_at r loss lost at
  refused_loss r loss lost (inr (inl bay)) = let z : status.BayFault ≡ status_of_loss (Some loss) = sym (ap (λ (x : Refused). x.status) bay.0) ∙ lost in cc z
  refused_loss r loss lost (inr (inr (inl memory))) = let z : status.Memory ≡ status_of_loss (Some loss) = sym (ap (λ (x : Refused). x.status) memory.0) ∙ lost in cc z
  refused_loss r loss lost (inr (inr (inr at))) = let z : status.Memory ≡ status_of_loss (Some loss) = sym (ap (λ (x : Refused). x.status) at.wanted.2) ∙ lost in cc z

module _ {D : Type 0} (g : Ghosts D) (b : Told D) (words : List Text) (sink_tells sink_rose : Type 0) (answer : Status) (old new : List ℕ) where
  pub loss_lacks_units : RefusedLossLacksUnits g b words sink_tells sink_rose answer old new
  loss_lacks_units told a command r loss is refused lost =
      let acts = subst (λ (o : CallOutcome). Acts g b words o) refused a.acts in
      refused_loss g b command r loss lost (refused_for g b command r (acts.cause told (InvokesArray command) is))
