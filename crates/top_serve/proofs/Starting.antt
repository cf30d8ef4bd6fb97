-- The world in which a rebuild has started is one that runs begin with.
use Rattle.std.proofs.Common.{◌≡◌, inl, inr, ℕ, List, [], ◌∷◌, ◌++◌, Option, Some, None, refl, sym, ◌∙◌, ap, subst}
use Rattle.std.proofs.lemmas.Bool.{cases_eq, cases_Bool, cond-true, cond-false}
use Rattle.lay_core.specs.Layout.{Shape, IsLayout, stripe_of, unit_of, offset_of}
use Rattle.eng_cols.specs.declared.spot.Spot.{Spot}
use Rattle.eng_cols.specs.Cols.{ColumnState}
use Rattle.eng_cols.specs.Seats.{is_available, seat, spot}
use Rattle.eng_cols.specs.Contents.{Contents, byte_of, xor_others, decode}
use Rattle.eng_cols.specs.Contents as contents
use Rattle.eng_cols.proofs.Began.{filling-same, filling-kept, spreading-same, spreading-kept}
use Rattle.eng_cols.proofs.Spots.{available-seat}
use Rattle.eng_cols.proofs.Sums.{others_same}
use Rattle.eng_world.specs.declared.item.Traced.{Traced}
use Rattle.eng_world.specs.World.{World, Client}
use Rattle.eng_world.specs.Planning.{Graphs, Promises}
use Rattle.eng_world.specs.Serving.{StartsRebuild}
use Rattle.eng_world.specs.Step.{IsOpening, StepBy, Step, EventsLead}
use Rattle.eng_array.specs.declared.start.Start.{Start}
use Rattle.eng_array.specs.declared.start.Start.TheVariants as start
use Rattle.eng_array.specs.Starts.{event_of, begun_by}
use Rattle.top_serve.proofs.Meaning.{invariant}
use Rattle.eng_world.proofs.Words.{columns_of}
use Rattle.eng_cols.proofs.Words.{byte_if, decoded}

-- the events by which a rebuild starts, if one does, with so many rebuilds
abbrev pub first_of : Option Start → ℕ → List Traced
first_of None count = []
first_of (Some how) count = event_of how count ∷ []

-- ## What the contents mean

module _ (y : Shape) (old new : List ColumnState) (same : (s i : ℕ) → is_available y new s i ≡ is_available y old s i) (kept : (s i : ℕ) (at : Spot) → seat y old s i ≡ Some at → seat y new s i ≡ Some at) where
  spot-same : (s i : ℕ) → spot y new s i ≡ spot y old s i
  spot-same s i = elim (cases_Bool (is_available y old s i)) [
    | inl here ↦
        let at = available-seat y old s i here in
        cond-true (is_available y new s i) (seat y new s i) None (same s i ∙ here) ∙ (kept s i at.0 at.1 ∙ sym (cond-true (is_available y old s i) (seat y old s i) None here ∙ at.1))
    | inr not ↦ cond-false (is_available y new s i) (seat y new s i) None (same s i ∙ not) ∙ sym (cond-false (is_available y old s i) (seat y old s i) None not)
  ]

  module _ (one other : Contents) (bytes : (d n k : ℕ) → one d n k ≡ other d n k) where
    byte-if : (o : Option Spot) (p k : ℕ) → byte_if y one o p k ≡ byte_if y other o p k
    byte-if None p k = refl
    byte-if (Some at) p k = bytes at.device _ k

    byte-same : (s i p k : ℕ) → byte_of y one new s i p k ≡ byte_of y other old s i p k
    byte-same s i p k = ap (λ o. byte_if y one o p k) (spot-same s i) ∙ byte-if (spot y old s i) p k

    pub decoded-same : (s i p k : ℕ) → decoded y one new s i p k ≡ decoded y other old s i p k
    decoded-same s i p k = elim (cases_Bool (is_available y old s i)) [
      | inl here ↦
          cond-true (is_available y new s i) (byte_of y one new s i p k) _ (same s i ∙ here) ∙ (byte-same s i p k ∙ sym (cond-true (is_available y old s i) (byte_of y other old s i p k) _ here))
      | inr not ↦
          cond-false (is_available y new s i) (byte_of y one new s i p k) (xor_others (λ j. byte_of y one new s j p k) i y.width) (same s i ∙ not)
          ∙ (others_same (λ j. byte_of y one new s j p k) (λ j. byte_of y other old s j p k) i y.width (λ j jb ne. byte-same s j p k)
          ∙ sym (cond-false (is_available y old s i) (byte_of y other old s i p k) (xor_others (λ j. byte_of y other old s j p k) i y.width) not))
    ]

-- ## The start

module _ (y : Shape) (graphs : Graphs) (layout : IsLayout y) (promises : Promises graphs) (opening : World) (fresh : IsOpening y opening) where
  module _ (how : Start) (count : ℕ) (mid : World) (run : EventsLead y graphs opening (event_of how count ∷ []) mid) (c : ℕ) (begun : List ColumnState) (f : StartsRebuild y c begun opening mid)
      (same : (s i : ℕ) → is_available y begun s i ≡ is_available y opening.columns s i) (kept : (s i : ℕ) (at : Spot) → seat y opening.columns s i ≡ Some at → seat y begun s i ≡ Some at) where
    not-lost : mid.lost ≡ None
    not-lost = f.lost ∙ fresh.lost

    handed : (k i b n : ℕ) → (mid.clients k).handed i b n ≡ 0
    handed k i b n = elim (cases_eq k 16) [
      | inl e ↦ subst (λ j. (mid.clients j).handed i b n ≡ 0) (sym e) (f.handed i b n ∙ fresh.handed 16 i b n)
      | inr ne ↦ ap (λ (z : Client). z.handed i b n) (f.others k ne) ∙ fresh.handed k i b n
    ]

    blocks : contents.SameBlocks y mid.blocks (decode y mid.contents mid.columns)
    blocks b k bb kb =
        f.blocks.blocks b k
        ∙ (fresh.decoded b k bb kb
        ∙ (sym (decoded-same y opening.columns begun same kept mid.contents opening.contents f.devices.contents (stripe_of y b) (unit_of y b) (offset_of y b) k)
        ∙ ap (λ (cols : List ColumnState). decode y mid.contents cols b k) (sym f.columns)))

    opens-started : IsOpening y mid
    opens-started =
        let inv = (invariant y graphs layout promises opening fresh (event_of how count ∷ []) mid run not-lost).control in
        record {
          unbegun = f.unbegun_still;
          asked = inv.asked;
          handed = handed;
          count = inv.count;
          done = inv.done;
          order = inv.order;
          unfailed = inv.unfailed;
          not_lost = inv.not_lost;
          lost = not-lost;
          history = f.blocks.history ∙ fresh.history;
          out = f.pool.out ∙ fresh.out;
          rebuilt = f.rebuilt ∙ fresh.rebuilt;
          decoded = blocks;
        }

  -- the step, from the opening itself
  step-of : (e : Traced) (mid : World) → EventsLead y graphs opening (e ∷ []) mid → StepBy y graphs None e opening mid
  step-of e mid run = subst (λ o. StepBy y graphs o e opening mid) fresh.lost (subst (λ (w : World). Step y graphs e w mid) run.1 run.2)

  -- the columns behind the start are these
  pub started-columns : (how : Start) (count : ℕ) (mid : World) → EventsLead y graphs opening (event_of how count ∷ []) mid → mid.columns ≡ begun_by (columns_of y opening) how
  started-columns (start.Fill c device most) count mid run = (step-of (event_of (start.Fill c device most) count) mid run).starts.columns
  started-columns (start.Resume c most) count mid run = (step-of (event_of (start.Resume c most) count) mid run).starts.columns
  started-columns (start.Spread c) count mid run = (step-of (event_of (start.Spread c) count) mid run).starts.columns

  opens-begun : (how : Start) (count : ℕ) (mid : World) → EventsLead y graphs opening (event_of how count ∷ []) mid → IsOpening y mid
  opens-begun (start.Fill c device most) count mid run =
      let f = step-of (event_of (start.Fill c device most) count) mid run in
      opens-started (start.Fill c device most) count mid run c _ f.starts (filling-same y (columns_of y opening) c f.dead device) (filling-kept y (columns_of y opening) c f.dead device)
  opens-begun (start.Resume c most) count mid run =
      let f = step-of (event_of (start.Resume c most) count) mid run in
      opens-started (start.Resume c most) count mid run c _ f.starts (λ s i. refl) (λ s i at is. is)
  opens-begun (start.Spread c) count mid run =
      let f = step-of (event_of (start.Spread c) count) mid run in
      opens-started (start.Spread c) count mid run c _ f.starts (spreading-same y (columns_of y opening) c f.dead) (spreading-kept y (columns_of y opening) c f.dead)

  pub opens-behind : (how : Option Start) (count : ℕ) (mid : World) → EventsLead y graphs opening (first_of how count) mid → IsOpening y mid
  opens-behind None count mid run = subst (IsOpening y) (sym run) fresh
  opens-behind (Some how) count mid run = opens-begun how count mid run

-- ## Runs behind one another

pub run-append : (y : Shape) (graphs : Graphs) (start mid now : World) (before more : List Traced) → EventsLead y graphs start before mid → EventsLead y graphs mid more now → EventsLead y graphs start (more ++ before) now
run-append y graphs start mid now before [] run on = subst (λ (w : World). EventsLead y graphs start before w) (sym on) run
run-append y graphs start mid now before (e ∷ more) run on = (on.0, run-append y graphs start mid on.0 before more run on.1, on.2)
