-- Each event goes on with the run that led to what a core shows.
use Rattle.std.proofs.Common.{◌≡◌, List, [], ◌∷◌, ◌++◌, Bool, true, sym, ap, ◌∙◌, subst}
use Rattle.std.specs.Prelude.{reverse, if◌then◌else◌}
use Rattle.std.proofs.lemmas.List.{reverse-append}
use Rattle.blk_disk.specs.declared.disk.Disk.{Ghosts as DiskGhosts}
use Rattle.lay_core.specs.Layout.{Shape}
use Rattle.lay_core.specs.declared.layout.Layout.{Ghosts as LayoutGhosts}
use Rattle.graph_mean.specs.Graph.{Held}
use Rattle.eng_world.specs.declared.item.Traced.{Traced}
use Rattle.eng_world.specs.Step.{IsOpening, EventsLead}
use Rattle.eng_state.specs.declared.array.Array.{Array}
use Rattle.eng_state.specs.Steps.{graphs_of, Follows}
use Rattle.eng_array.specs.Run.{HasRun, Notes}

module _ {L D : Type 0} (lay : LayoutGhosts L) (disk : DiskGhosts D) (old new : Array L D) (e : Traced) where
  abbrev pub run-on : lay.shape new.layout ≡ lay.shape old.layout → new.graphs.items ≡ old.graphs.items → Notes old.log e new.log → Follows lay disk old e new → HasRun lay disk old → HasRun lay disk new
  run-on shape graphs notes follows r =
      let f = follows r.now r.shows in
      record {
        opening = r.opening;
        events = e ∷ r.events;
        now = f.0;
        is_opening = subst (λ (v : Shape). IsOpening v r.opening) (sym shape) r.is_opening;
        all_free = r.all_free;
        run = subst (λ (v : Shape). EventsLead v (graphs_of new.graphs.items) r.opening (e ∷ r.events) f.0) (sym shape)
            (subst (λ (g : List Held). EventsLead (lay.shape old.layout) (graphs_of g) r.opening (e ∷ r.events) f.0) (sym graphs) (r.now, r.run, f.2));
        shows = f.1;
        traced = λ keeps. traced (sym notes.keeps ∙ keeps);
      }
    where
      traced : old.log.keeps ≡ true → new.log.trace ≡ reverse (e ∷ r.events)
      traced keeps =
          notes.trace ∙ (ap (λ (b : Bool). if b then old.log.trace ++ e ∷ [] else old.log.trace) keeps
          ∙ (ap (λ (t : List Traced). t ++ e ∷ []) (r.traced keeps) ∙ sym (reverse-append (e ∷ []) r.events)))
