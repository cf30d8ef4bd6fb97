-- What follows of an action that was done: why columns are dead, what clients that were drawn come to, and what a rebuild is worth.
use Rattle.std.specs.Prelude.{◌≡◌, ◌≤◌, ◌<◌, ◌+◌, ◌*◌, ℕ, zero, suc, Bool, List, [], map, min, Option, Some, None, Ok}
use Rattle.std.specs.List.{range_with_len}
use Rattle.std.proofs.Common.{arith, refl, sym, ap, subst, ◌∙◌}
use Rattle.blk_disk.specs.declared.disk.Disk.{Ghosts}
use Rattle.lay_core.specs.Layout.{IsLayout, SparesLieByUnits, blocks_in}
use Rattle.raid_conf.specs.declared.conf.Conf.{Conf}
use Rattle.raid_conf.specs.Layouts.{shape_of}
use Rattle.raid_label.specs.declared.label.Label.{Label}
use Rattle.raid_script.specs.Asked.{Asked as Item}
use Rattle.raid_script.specs.Drawn.{AreApart, drawn, item_at}
use Rattle.raid_script.specs.Steps.{share}
use Rattle.raid_script.proofs.DrawnShares.{drawn_apart}
use Rattle.top_bay.specs.Asked.{Asked}
use Rattle.top_fetch.specs.Told.{Told}
use Rattle.top_open.specs.Opening.{Opened}
use Rattle.top_open.specs.declared.fronts.Front.{Front}
use Rattle.top_words.specs.Asked.{Action, Command, Sweep, profile_of}
use Rattle.top_duty.specs.Duty.{Admitted, Duty, IsWanted, OnArray, asked_of, duty_by, layout_of}
use Rattle.top_duty.specs.Steps.{clients_by, admitted_with}
use Rattle.top_duty.specs.Opening.{sizes_of}
use Rattle.top_duty.specs.Start.{has_failed, start_in}
use Rattle.top_duty.proofs.Tables.{some_blocks}
use Rattle.top_duty.proofs.Words.{start_by}
use Rattle.top_labelled.specs.Begun.{opened_as, without}
use Rattle.top_labelled.proofs.Outlived as labelled
use Rattle.top_run.proofs.InTurnHeld.{swept-over-held}
use Rattle.top_run.proofs.Rebuilt.{worth}
use Rattle.raid_top.specs.Acted.{Acted}
use Rattle.raid_top.specs.Does.{DoesRun}
use Rattle.raid_top.specs.Laws.{DeathsAreCaused, DrawnComeInTurn, RebuiltIsWorth}
use Rattle.raid_top.specs.Outcome.{Outcome, Ran, Did, Looked}
use Rattle.raid_top.specs.Runs.{IsRunInTurn, IsRunWorth}
use Rattle.raid_top.specs.Works.{work_of}
use Rattle.raid_top.proofs.Caused.{are_caused}
use Rattle.raid_top.proofs.Lifted.{if_ran}
use Rattle.raid_top.proofs.Ordered.{in_order}
use Rattle.raid_top.proofs.Wanted.{is_admitted}

-- ## Clients that are drawn have blocks of their own

none_drawn : (seed ops blocks : ℕ) → drawn seed 0 ops blocks ≡ []
unfolding drawn
none_drawn seed ops blocks =
    let none : min 0 blocks ≡ 0 = omega arith in
    ap (λ (n : ℕ). map (λ client. map (λ i. item_at seed client (share 0 blocks) (3 * (client * ops + i))) (range_with_len 0 ops)) (range_with_len 0 n)) none

none_apart : (ops : ℕ) → AreApart 0 ops 0 0 []
none_apart ops = record {
  all = refl;
  count = λ c items h. let z : None ≡ Some items = h in absurd (let u : ⊥ = cc in u);
  own = λ c items h. let z : None ≡ Some items = h in absurd (let u : ⊥ = cc in u);
}

-- so many clients, in shares of so many blocks, of so many in all
abbrev AreSharesOf : ℕ → ℕ → List (List Item) → Type 0
AreSharesOf ops blocks clients = (taken : ℕ) × (wide : ℕ) × (all : ℕ) × (all ≤ blocks) × AreApart taken ops wide all clients

drawn_shares : (seed clients ops blocks : ℕ) → 0 < blocks → AreSharesOf ops blocks (drawn seed clients ops blocks)
drawn_shares seed zero ops blocks any =
    let few : 0 ≤ blocks = omega arith in
    (0, 0, 0, few, subst (λ (rows : List (List Item)). AreApart 0 ops 0 0 rows) (sym (none_drawn seed ops blocks)) (none_apart ops))
drawn_shares seed (suc clients) ops blocks any =
    let some : 0 < suc clients = omega arith in
    let all : blocks ≤ blocks = omega arith in
    (min (suc clients) blocks, share (suc clients) blocks, blocks, all, drawn_apart seed (suc clients) ops blocks some any)

-- ## They come client after client

module _ {D : Type 0} (g : Ghosts D) (a : Admitted) (failed : Bool) (old back : List (Option D)) (ops : ℕ) (shares : AreSharesOf ops (blocks_in (layout_of a)) a.clients) (unasked : a.start ≡ None) where
  in_turn : (newest : Option Label) (o : Outcome) (h : DoesRun g a failed old back newest o) → IsRunInTurn g a failed old back newest o h
  in_turn None (Ran action s) h = swept-over-held g (work_of a) old back s h.1 shares.0 ops shares.1 shares.2 shares.4 shares.3
  in_turn None (Did act e) h = absurd h
  in_turn None (Looked text) h = absurd h
  in_turn (Some l) (Ran action s) h =
      labelled.in-turn g (work_of a) l old s back failed (profile_of a.asked.command.action).map h.1 shares.0 ops shares.1 shares.2 unasked shares.4 shares.3
  in_turn (Some l) (Did act e) h = tt
  in_turn (Some l) (Looked text) h = absurd h

-- ## What a rebuild is worth

module _ {D : Type 0} (g : Ghosts D) (a : Admitted) (failed : Bool) (old back : List (Option D)) (law : IsLayout (layout_of a)) (units : SparesLieByUnits (layout_of a)) where
  is_worth : (newest : Option Label) (o : Outcome) (h : DoesRun g a failed old back newest o) → IsRunWorth g a failed old back newest o h
  is_worth None o h = tt
  is_worth (Some l) (Ran action s) h = λ how done. worth g (opened_as (work_of a) (without a.start h.1.begun) h.1.began) h.1.opened back s h.1.run how done law units
  is_worth (Some l) (Did act e) h = tt
  is_worth (Some l) (Looked text) h = absurd h

-- ## What is admitted

-- its clients are those that are drawn, and nothing is rebuilt
abbrev IsDrawn : (seed clients ops : ℕ) → Admitted → Type 0
IsDrawn seed clients ops a = (a.clients ≡ drawn seed clients ops (blocks_in (layout_of a))) × (a.start ≡ None)

drawn_are : (seed clients ops workers : ℕ) (mapped : Bool) (scripted : List (List Item)) (blocks : ℕ) → clients_by (Sweep seed clients ops workers mapped) scripted blocks ≡ drawn seed clients ops blocks
drawn_are seed clients ops workers mapped scripted blocks = refl

no_start : (action : Action) (comp : Option ℕ) (conf : Conf) (o : Opened) (sizes : List ℕ) (fronts : List Front) (seed clients ops workers : ℕ) (mapped : Bool) → action ≡ Sweep seed clients ops workers mapped → start_by action comp conf o sizes fronts ≡ None
no_start action comp conf o sizes fronts seed clients ops workers mapped is = ap (λ (x : Action). start_by x comp conf o sizes fronts) is

module _ {D : Type 0} (g : Ghosts D) (b : Told D) (command : Command) (o : Outcome) (h : Acted g b command o) where
  abbrev k : Asked
  k = asked_of h.duty

  abbrev sizes : List ℕ
  sizes = sizes_of g.size h.old

  is_drawn : (a : Admitted) → h.duty ≡ OnArray a → (seed clients ops workers : ℕ) (mapped : Bool) → command.action ≡ Sweep seed clients ops workers mapped → IsDrawn seed clients ops a
  is_drawn a is seed clients ops workers mapped sweeps =
      let wanted = subst (λ (d : Duty). IsWanted (duty_by k sizes h.fronts) (Ok d)) is h.wanted in
      let by = is_admitted k sizes h.fronts a wanted in
      let action : k.command.action ≡ Sweep seed clients ops workers mapped = ap (λ (c : Command). c.action) h.command_is ∙ sweeps in
      let made : IsDrawn seed clients ops (admitted_with k by.0 (start_in k by.0 sizes h.fronts) by.1) = (
        ap (λ (x : Action). clients_by x k.clients (blocks_in (shape_of k.conf by.0.rows))) action ∙ drawn_are seed clients ops workers mapped k.clients (blocks_in (shape_of k.conf by.0.rows)),
        no_start k.command.action k.comp k.conf by.0 sizes h.fronts seed clients ops workers mapped action,
      ) in
      subst (IsDrawn seed clients ops) by.3 made

pub deaths_are_caused : {D : Type 0} (g : Ghosts D) (b : Told D) → DeathsAreCaused g b
deaths_are_caused g b command o h = are_caused g h.duty h.fronts h.old h.back o (in_order (asked_of h.duty) (sizes_of g.size h.old) h.fronts h.duty h.wanted (λ a is. let o = h.ordered a is in record { law = o.0; units = o.1; opened = o.2; started = o.3 })) h.does

pub drawn_in_turn : {D : Type 0} (g : Ghosts D) (b : Told D) → DrawnComeInTurn g b
drawn_in_turn g b command o h seed clients ops workers mapped sweeps =
    if_ran g (IsRunInTurn g) h.duty h.fronts h.old h.back o h.does (λ a is newest run.
    let so = is_drawn g b command o h a is seed clients ops workers mapped sweeps in
    let blocks = blocks_in (layout_of a) in
    let shares = subst (λ (rows : List (List Item)). AreSharesOf ops blocks rows) (sym so.0) (drawn_shares seed clients ops blocks (some_blocks (layout_of a) (h.ordered a is).0)) in
    in_turn g a (has_failed a.start h.fronts) h.old h.back ops shares so.1 newest o run)

pub rebuilt_is_worth : {D : Type 0} (g : Ghosts D) (b : Told D) → RebuiltIsWorth g b
rebuilt_is_worth g b command o h =
    if_ran g (IsRunWorth g) h.duty h.fronts h.old h.back o h.does (λ a is newest run.
    let ordered = h.ordered a is in
    is_worth g a (has_failed a.start h.fronts) h.old h.back ordered.0 ordered.1 newest o run)
