-- By which event, and by which columns, an array was lost.
use Rattle.std.proofs.Common.{◌≡◌, ◌⊎◌, inl, inr, ℕ, List, [], ◌∷◌, length, Option, Some, None, slice_get, refl, sym, ◌∙◌, ap, subst}
use Rattle.std.proofs.lemmas.List.{length-set}
use Rattle.lay_core.specs.Layout.{Shape}
use Rattle.eng_cols.specs.declared.spot.Loss.{Loss}
use Rattle.eng_cols.specs.Cols.{ColumnState, Dead}
use Rattle.eng_cols.specs.Lost.{IsLost}
use Rattle.eng_cols.specs.Changes.{killed}
use Rattle.eng_cols.proofs.Lists.{get_set_either}
use Rattle.eng_world.specs.declared.item.Traced.{Traced}
use Rattle.eng_world.specs.World.{World}
use Rattle.eng_world.specs.Planning.{Graphs}
use Rattle.eng_world.specs.Failing.{Loses, Survives, FailsColumn, device_on}
use Rattle.eng_world.specs.Step.{IsOpening, Step, EventsLead}
use Rattle.eng_world.specs.Causes.{WasMade, IsLossOf}
use Rattle.eng_world.proofs.Moves.{Move, replies, waits, takes, fires, skips, works, commits, ends, fails, anew, gives, dies, starts, home, Moves, one, two, moves}

-- what is known of a world before a move of the running array
abbrev Whole : World → Type 0
Whole w = w.lost ≡ None

two-ways : {A : Type 0} (w : World) (loss : Loss) → w.lost ≡ None → w.lost ≡ Some loss → A
two-ways w loss none some = let z : None ≡ Some loss = sym none ∙ some in absurd (let u : ⊥ = cc in u)

-- columns of which each stayed, or died
abbrev DiedOn : List ColumnState → List ColumnState → Type 0
DiedOn old new = (new ≡ old) ⊎ ((k : ℕ) × (new ≡ killed old k))

module _ (y : Shape) (graphs : Graphs) where
  by-loss : (c : ℕ) (old new : World) (loss : Loss) → FailsColumn y c old new → new.lost ≡ Some loss → IsLost y new.columns loss
  by-loss c old new loss f is = go f.after
    where
      go : Loses y old new ⊎ Survives y (device_on (slice_get old.columns c) c) old new → IsLost y new.columns loss
      go (inl l) = let z : Some l.loss ≡ Some loss = sym l.lost ∙ is in let same : l.loss ≡ loss = cc in subst (IsLost y new.columns) same l.is_lost
      go (inr s) = two-ways new loss s.lost is

  -- a move by which an array is lost leaves the columns that lose it
  one-loses : (e : Traced) (old new : World) (loss : Loss) → Move y graphs Whole e old new → old.lost ≡ None → new.lost ≡ Some loss → IsLost y new.columns loss
  one-loses e old new loss (replies c q asked known is ne idle f) none h = two-ways new loss (f.only.columns.lost ∙ none) h
  one-loses e old new loss (waits c a way known asks nothing g only pool) none h = two-ways new loss (only.columns.lost ∙ none) h
  one-loses e old new loss (takes c known f) none h = two-ways new loss (f.only.columns.lost ∙ none) h
  one-loses e old new loss (fires c m known f) none h = two-ways new loss (f.only.columns.lost ∙ none) h
  one-loses e old new loss (skips c m known f) none h = two-ways new loss (f.only.columns.lost ∙ none) h
  one-loses e old new loss (works c m known f) none h = two-ways new loss (f.columns.lost ∙ none) h
  one-loses e old new loss (commits c m known f) none h = two-ways new loss (f.columns.lost ∙ none) h
  one-loses e old new loss (ends c m known f) none h = two-ways new loss (f.lost ∙ none) h
  one-loses e old new loss (fails c m at bad known f) none h = two-ways new loss (f.columns.lost ∙ none) h
  one-loses e old new loss (anew c o known can is b) none h = two-ways new loss (b.only.columns.lost ∙ none) h
  one-loses e old new loss (gives c o g known can is b) none h = two-ways new loss (b.only.columns.lost ∙ none) h
  one-loses e old new loss (dies c stands alive f) none h = by-loss c old new loss f h
  one-loses e old new loss (starts c begun why known f had spread) none h = two-ways new loss (f.lost ∙ none) h
  one-loses e old new loss (home c m good was other is f failed columns) none h = two-ways old other none is

  loses : (e : Traced) (old new : World) (loss : Loss) → Moves y graphs Whole e old new → old.lost ≡ None → new.lost ≡ Some loss → IsLost y new.columns loss
  loses e old new loss (one m) none h = one-loses e old new loss m none h
  loses e old new loss (two mid m c stands alive f) none h = by-loss c mid new loss f h

  -- once it is lost it stays so, and columns die
  one-stays : (e : Traced) (old new : World) (loss : Loss) → Move y graphs Whole e old new → old.lost ≡ Some loss → (new.lost ≡ old.lost) × DiedOn old.columns new.columns
  one-stays e old new loss (replies c q asked known is ne idle f) h = two-ways old loss known h
  one-stays e old new loss (waits c a way known asks nothing g only pool) h = two-ways old loss known h
  one-stays e old new loss (takes c known f) h = two-ways old loss known h
  one-stays e old new loss (fires c m known f) h = two-ways old loss known h
  one-stays e old new loss (skips c m known f) h = two-ways old loss known h
  one-stays e old new loss (works c m known f) h = two-ways old loss known h
  one-stays e old new loss (commits c m known f) h = two-ways old loss known h
  one-stays e old new loss (ends c m known f) h = two-ways old loss known h
  one-stays e old new loss (fails c m at bad known f) h = two-ways old loss known h
  one-stays e old new loss (anew c o known can is b) h = two-ways old loss known h
  one-stays e old new loss (gives c o g known can is b) h = two-ways old loss known h
  one-stays e old new loss (dies c stands alive f) h = two-ways old loss stands h
  one-stays e old new loss (starts c begun why known f had spread) h = two-ways old loss known h
  one-stays e old new loss (home c m good was other is f failed columns) h = (f.lost, columns)

  stays : (e : Traced) (old new : World) (loss : Loss) → Moves y graphs Whole e old new → old.lost ≡ Some loss → (new.lost ≡ old.lost) × DiedOn old.columns new.columns
  stays e old new loss (one m) h = one-stays e old new loss m h
  stays e old new loss (two mid m c stands alive f) h = two-ways mid loss stands ((one-stays e old mid loss m h).0 ∙ h)

  -- what was said of a loss, one event later
  module _ (opening : World) (e : Traced) (events : List Traced) (old new : World) (loss : Loss) (was : IsLossOf y graphs opening events old loss) where
    abbrev made-on : WasMade y graphs opening (e ∷ events) was.last was.before
    made-on = record { later = e ∷ was.made.later; before = was.made.before; split = ap (λ (l : List Traced). e ∷ l) was.made.split; run = was.made.run }

    goes-on : Step y graphs e old new → DiedOn old.columns new.columns → IsLossOf y graphs opening (e ∷ events) new loss
    goes-on step (inl same) = record {
      last = was.last;
      before = was.before;
      made = made-on;
      whole = was.whole;
      after = was.after;
      leads = was.leads;
      lost = was.lost;
      follows = (old, was.follows, step);
      is_lost = was.is_lost;
      count = ap (λ (l : List ColumnState). length l) same ∙ was.count;
      each = λ c. elim (was.each c) [ inl is ↦ inl (ap (λ l. slice_get l c) same ∙ is) | inr dead ↦ inr (ap (λ l. slice_get l c) same ∙ dead) ];
    }
    goes-on step (inr (k, is)) = record {
      last = was.last;
      before = was.before;
      made = made-on;
      whole = was.whole;
      after = was.after;
      leads = was.leads;
      lost = was.lost;
      follows = (old, was.follows, step);
      is_lost = was.is_lost;
      count = ap (λ (l : List ColumnState). length l) is ∙ (length-set old.columns k Dead ∙ was.count);
      each = λ c. elim (get_set_either old.columns k c Dead) [
        | inl dead ↦ inr (ap (λ l. slice_get l c) is ∙ dead)
        | inr same ↦ elim (was.each c) [ inl so ↦ inl (ap (λ l. slice_get l c) is ∙ (same ∙ so)) | inr dead ↦ inr (ap (λ l. slice_get l c) is ∙ (same ∙ dead)) ]
      ];
    }

  pub loss-of : (opening : World) (events : List Traced) (now : World) → IsOpening y opening → EventsLead y graphs opening events now → (loss : Loss) → now.lost ≡ Some loss → IsLossOf y graphs opening events now loss
  loss-of opening [] now o h loss is = two-ways now loss (ap (λ (w : World). w.lost) h ∙ o.lost) is
  loss-of opening (e ∷ events) now o (mid, reached, step) loss is = by mid.lost refl (λ earlier. loss-of opening events mid o reached loss earlier)
    where
      made : Moves y graphs Whole e mid now
      made = moves y graphs Whole e mid now (λ none. none) step

      by : (l : Option Loss) → mid.lost ≡ l → (mid.lost ≡ Some loss → IsLossOf y graphs opening events mid loss) → IsLossOf y graphs opening (e ∷ events) now loss
      by None none earlier = record {
        last = e;
        before = mid;
        made = record { later = []; before = events; split = refl; run = reached };
        whole = none;
        after = now;
        leads = step;
        lost = is;
        follows = refl;
        is_lost = loses e mid now loss made none is;
        count = refl;
        each = λ c. inl refl;
      }
      by (Some other) some earlier =
          let on : (now.lost ≡ mid.lost) × DiedOn mid.columns now.columns = stays e mid now other made some in
          goes-on opening e events mid now loss (earlier (sym on.0 ∙ is)) step on.1
