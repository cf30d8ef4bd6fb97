-- What came of clients is what was to come of those that were admitted.
use Rattle.std.specs.Prelude.{◌≡◌, ◌≤◌, ℕ, Bool, List, length, map, All, Contains, Option, Some, None}
use Rattle.std.proofs.Common.{refl, sym, ap, subst, ◌∙◌}
use Rattle.std.proofs.lemmas.List.{length-map}
use Rattle.std.proofs.lemmas.List.Elements.{All-contains}
use Rattle.blk_disk.specs.declared.disk.Disk.{Ghosts}
use Rattle.eng_array.specs.declared.start.Start.{Start}
use Rattle.item_list.specs.ItemList.{ItemList}
use Rattle.raid_conf.specs.declared.conf.Conf.{Conf}
use Rattle.raid_label.specs.declared.label.Label.{Label}
use Rattle.raid_script.specs.Asked.{AreFew, Asked as Item, IsAsked, Other}
use Rattle.top_bay.specs.Asked.{Asked}
use Rattle.top_bay.specs.Views.{IsWithinLimits}
use Rattle.top_bound.specs.Laws.{asked_of}
use Rattle.top_bound.proofs.Limits.{few-have-room}
use Rattle.top_duty.specs.Duty.{Admitted}
use Rattle.top_duty.specs.Steps.{clients_by, admitted_with}
use Rattle.graph_mean.specs.Graph.{View}
use Rattle.top_duty.specs.Views.{drawn_by}
use Rattle.top_duty.proofs.Drawing.{either_few}
use Rattle.top_open.specs.Opening.{Opened}
use Rattle.top_run.specs.Ran.{AsksAsScripts}
use Rattle.top_words.specs.Asked.{Action, profile_of}
use Rattle.raid_top.specs.declared.came.Came.{Came}
use Rattle.raid_top.specs.declared.came.Came.TheVariants as came
use Rattle.raid_top.specs.Does.{DoesRun}
use Rattle.raid_top.specs.Served.{CameOf, ComesLabelled}
use Rattle.lay_core.specs.declared.layout.Layout.{Ghosts as LayoutGhosts}
use Rattle.top_labelled.specs.Given.{CameTo, OutcomeCanBePrinted}
use Rattle.top_labelled.specs.declared.labelled.Labelled.{Labelled}
use Rattle.top_labelled.specs.declared.labelled.Outcome.{Outcome as Ended}
use Rattle.top_labelled.specs.declared.labelled.Outcome.TheVariants as ended
use Rattle.top_run.specs.Works as run_works
use Rattle.raid_top.specs.Views.{CanBePrinted, came_from, outcome_seen}
use Rattle.raid_top.specs.Works.{work_of}

-- ## What a script may have

-- items that are asked so
pub scripted : (columns graphs : ℕ) (rows : List (List Item)) → All (All (IsAsked columns graphs)) rows → (row : List Item) → Contains rows row → Contains row Other → ⊥
scripted columns graphs rows all row in_rows other = All-contains (IsAsked columns graphs) row Other (All-contains (All (IsAsked columns graphs)) rows row all in_rows) other

-- ## What came of clients

module _ {D : Type 0} (g : Ghosts D) (k : Asked) (o : Opened) (start : Option Start) (failed : Bool) (views : List View) (old back : List (Option D)) (asks : AsksAsScripts (work_of (admitted_with k o start views))) where
  abbrev a : Admitted
  a = admitted_with k o start views

  -- whether a map is asked for
  abbrev map_asked : Bool
  map_asked = (profile_of k.command.action).map

  pub came_does : (newest : Option Label) (action : Action) (conf : Conf) (c : Came) → action ≡ k.command.action → CameOf g (work_of a) newest failed map_asked old back c → DoesRun g a failed old back newest (outcome_seen action conf c)
  came_does None action conf (came.Ran service) same h = (same, h, asks)
  came_does (Some l) action conf (came.Ran service) same h = (same, h, asks)
  came_does None action conf (came.Did act ending) same h = absurd h
  came_does (Some l) action conf (came.Did act ending) same h = h
  came_does None action conf (came.Shows shown) same h = absurd h
  came_does None action conf (came.ShowsLabel front) same h = absurd h
  came_does None action conf (came.Prints text) same h = absurd h
  came_does (Some l) action conf (came.Shows shown) same h = absurd h
  came_does (Some l) action conf (came.ShowsLabel front) same h = absurd h
  came_does (Some l) action conf (came.Prints text) same h = absurd h

-- ## What was served

lengths-mapped : {X Z : Type 0} (f : X → Z) (xs zs : List X) → map f xs ≡ map f zs → length xs ≡ length zs
lengths-mapped f xs zs e = sym (length-map xs f) ∙ (ap length e ∙ length-map zs f)

pub few_asked : (k : Asked) (blocks : ℕ) (given : List ItemList) → IsWithinLimits k → AreFew (drawn_by k.command.action blocks) → asked_of given ≡ clients_by k.command.action k.clients blocks → length given ≤ 16
few_asked k blocks given within drawn is = (few-have-room given (subst (λ rows. AreFew rows) (sym is) (either_few k.command.action k.clients blocks within.few drawn))).clients

-- ## A run over an array with labels

module _ {L D : Type 0} (lay : LayoutGhosts L) (g : Ghosts D) (l : Labelled L D) where
  pub came_so : (o : Ended) (back : List (Option D)) → CameTo lay g l o back → ComesLabelled g (run_works.work_of lay l.setup l.start) l.label l.failed l.map l.setup.devices.items back (came_from o)
  came_so (ended.Ran service) back h = h
  came_so (ended.Lost ending) back h = (refl, h)

  pub printed_so : (o : Ended) (back : List (Option D)) → CameTo lay g l o back → OutcomeCanBePrinted o → CanBePrinted (came_from o)
  printed_so (ended.Ran service) back h stands = (stands, h.run.tells.few)
  printed_so (ended.Lost ending) back h stands = tt
