-- A run that the array outlives isn't lost, and in one that isn't lost each item has the reply that it ought to.
use Rattle.std.proofs.Common.{◌≡◌, ◌≢◌, ◌⊎◌, inl, inr, ℕ, zero, suc, ◌<◌, ◌≤◌, List, [], ◌∷◌, length, map, Bool, true, false, Option, Some, None, option_map, slice_get, slice_set, refl, sym, ◌∙◌, ap, subst, arith}
use Rattle.std.specs.Prelude.{Contains, count_by, if◌then◌else◌}
use Rattle.std.proofs.lemmas.Bool.{cases_lt}
use Rattle.std.proofs.lemmas.List.{length-set}
use Rattle.std.proofs.lemmas.Option.{slice_get-map, slice_get_past, slice_get_within, get_or_from_slice_get}
use Rattle.blk_plain.specs.declared.op.Op.{Op}
use Rattle.blk_plain.specs.declared.op.Op.TheVariants as op
use Rattle.blk_plain.specs.declared.op.OpId.{OpId}
use Rattle.blk_disk.specs.declared.disk.Disk.{Ghosts}
use Rattle.lay_core.specs.Layout.{Shape}
use Rattle.eng_cols.specs.declared.column.Column.{Column}
use Rattle.eng_cols.specs.declared.column.Column.TheVariants as set
use Rattle.eng_cols.specs.declared.spot.Loss.{Loss}
use Rattle.eng_cols.specs.Cols.{AtMostOne, ColumnState, Live, Dead, Filling, Spread, device_set, is_set_filling, is_set_spread, passes, state_set}
use Rattle.eng_cols.specs.Deaths.{Dies}
use Rattle.eng_cols.specs.Fewer.{DieApart}
use Rattle.eng_cols.specs.Lost.{NotLost}
use Rattle.eng_cols.specs.Stripes.{filled_in, spreads, states_of}
use Rattle.eng_cols.proofs.Lists.{get_set_other, get_set_same}
use Rattle.eng_cols.proofs.Losing.{lost-excludes}
use Rattle.eng_world.specs.declared.item.Item.{Item as AnyItem}
use Rattle.item_list.specs.ItemList.{ItemList}
use Rattle.eng_world.specs.declared.item.Item.TheVariants as item
use Rattle.eng_world.specs.declared.item.Reply.{Reply}
use Rattle.eng_world.specs.declared.item.Reply.TheVariants as reply
use Rattle.eng_world.specs.World.{IsRead, World}
use Rattle.eng_world.specs.Legal.{StandsAt}
use Rattle.eng_world.specs.Causes.{ItemAt, WasSpread, IsGone, IsCause}
use Rattle.eng_world.proofs.Caused.{some-get}
use Rattle.eng_array.specs.Starts.{column_of}
use Rattle.eng_array.specs.declared.start.Start.{Start}
use Rattle.eng_array.specs.declared.start.Start.TheVariants as start
use Rattle.raid_script.specs.Asked.{seen, Fails}
use Rattle.raid_script.specs.Replies.{items_at}
use Rattle.raid_script.specs.Steps.{items_in}
use Rattle.top_close.specs.Dying.{AnyCause}
use Rattle.top_close.specs.Ended.{IsLossBy}
use Rattle.top_close.proofs.DyingLaws.{columns_die, dies_apart, dies_unfilled, lost_no_less}
use Rattle.top_close.proofs.ClosingLaws.{closing_dead, closing_lost}
use Rattle.top_close.specs.Stage.{IsGivenUp}
use Rattle.top_serve.specs.Served.{IsKeptAs, IsUnbuilt, WasFailed}
use Rattle.top_serve.specs.Setups.{with_start}
use Rattle.top_serve.proofs.Alike.{IsOther, other-or-not, start-other}
use Rattle.top_serve.proofs.Behind.{IsFresh}
use Rattle.top_serve.proofs.Closings.{none-count}
use Rattle.top_run.specs.Work.{Work, Service}
use Rattle.top_run.specs.Ran.{EndsAs, RisesAt, IsFailedBy, Ran, RanPlain}
use Rattle.top_run.specs.Steps.{IsDeadBy, columns_in}
use Rattle.top_run.specs.Outliving.{HasFail, done_reply, MayDie, OutlivesCall, HasFaulted, IsAnswered, IsReplyTo, AllAnswered}
use Rattle.top_run.proofs.AtEnd.{not-before}
use Rattle.top_run.proofs.Columns.{device-on, device-same, given-unspread, kept-same, kept-unspread, no-device, not-so}
use Rattle.top_run.proofs.Caused.{loss-caused, replies-caused}
use Rattle.top_run.proofs.Kept.{one-kept}
use Rattle.top_run.proofs.Starting.{IsDeadBefore, dead-then, rebuilds-none, spread-by, spread-started}

-- ## Lists and columns

at-place : {A : Type 0} (l : List A) (k : ℕ) (x : A) → slice_get l k ≡ Some x → Contains l x
at-place l k x is = (k, slice_get_within l k x is, get_or_from_slice_get l k x x is)

spread-back : (n : ℕ) (l : List Bool) (o : Option Column) (done : List Bool) → option_map (state_set n l) o ≡ Some (Spread done) → o ≡ Some set.Spread
spread-back n l None done h = let z : None ≡ Some (Spread done) = h in absurd (let u : ⊥ = cc in u)
spread-back n l (Some (set.Live d)) done h = let z : Some (Live d) ≡ Some (Spread done) = h in absurd (let u : ⊥ = cc in u)
spread-back n l (Some set.Dead) done h = let z : Some Dead ≡ Some (Spread done) = h in absurd (let u : ⊥ = cc in u)
spread-back n l (Some (set.Filling d m)) done h = let z : Some (Filling d l) ≡ Some (Spread done) = h in absurd (let u : ⊥ = cc in u)
spread-back n l (Some set.Spread) done h = refl

-- a column that is to be spread isn't dead as the run ends
unbuilt-lives : (y : Shape) (now : World) (how : Option Start) (c : ℕ) → IsUnbuilt y how now c → slice_get now.columns c ≡ Some Dead → ⊥
unbuilt-lives y now how c unbuilt dead = unbuilt.1 dead

-- and it is the one that is rebuilt
unbuilt-other : {A : Type 0} (y : Shape) (now : World) (how : Option Start) (c : ℕ) → IsUnbuilt y how now c → IsOther how c → A
unbuilt-other y now how c unbuilt other =
    let apart : IsOther (Some (start.Spread c)) c = subst (λ (h : Option Start). IsOther h c) unbuilt.0 other in
    absurd (apart refl)

done-by : (o : Op) → (IsRead (Some o) → ⊥) → reply.Done ≡ done_reply o
done-by (op.Write span pattern) h = refl
done-by (op.Writes patches) h = refl
done-by (op.Read span) h = absurd (h tt)
done-by (op.Rebuild stripe) h = refl
done-by (op.Sync stripe) h = refl

-- ## Columns without some

-- columns of which those are dead that were filling
unfilled : List Column → List Column → List Column
unfilled [] ends = ends
unfilled (x ∷ was) [] = []
unfilled (x ∷ was) (z ∷ ends) = (if is_set_filling x then set.Dead else z) ∷ unfilled was ends

unfilled-count : (was ends : List Column) → length (unfilled was ends) ≡ length ends
unfolding unfilled
unfilled-count [] ends = refl
unfilled-count (x ∷ was) [] = refl
unfilled-count (x ∷ was) (z ∷ ends) = let rest = unfilled-count was ends in omega (arith, rest)

if-one : (b : Bool) (z : Column) → b ≡ true → (if b then set.Dead else z) ≡ set.Dead
if-one true z h = refl
if-one false z h = not-so false refl h

if-other : (b : Bool) (z : Column) → b ≡ false → (if b then set.Dead else z) ≡ z
if-other true z h = not-so true h refl
if-other false z h = refl

unfilled-one : (was ends : List Column) (c : ℕ) → c < length ends → passes is_set_filling (slice_get was c) ≡ true → slice_get (unfilled was ends) c ≡ Some set.Dead
unfolding unfilled
unfilled-one [] ends c lt h = not-so false refl h
unfilled-one (x ∷ was) [] c lt h = absurd (omega (arith, lt))
unfilled-one (x ∷ was) (z ∷ ends) zero lt h = ap (λ v. Some v) (if-one (is_set_filling x) z h)
unfilled-one (x ∷ was) (z ∷ ends) (suc c) lt h = unfilled-one was ends c (omega (arith, lt)) h

unfilled-other : (was ends : List Column) (c : ℕ) → passes is_set_filling (slice_get was c) ≡ false → slice_get (unfilled was ends) c ≡ slice_get ends c
unfolding unfilled
unfilled-other [] ends c h = refl
unfilled-other (x ∷ was) [] c h = refl
unfilled-other (x ∷ was) (z ∷ ends) zero h = ap (λ v. Some v) (if-other (is_set_filling x) z h)
unfilled-other (x ∷ was) (z ∷ ends) (suc c) h = unfilled-other was ends c h

-- and of which the one is dead that is rebuilt
without : Option Start → List Column → List Column
without None columns = columns
without (Some how) columns = slice_set columns (column_of how) set.Dead

without-count : (how : Option Start) (columns : List Column) → length (without how columns) ≡ length columns
unfolding without
without-count None columns = refl
without-count (Some how) columns = length-set columns (column_of how) set.Dead

without-other : (how : Option Start) (columns : List Column) (c : ℕ) → IsOther how c → slice_get (without how columns) c ≡ slice_get columns c
unfolding without
without-other None columns c other = refl
without-other (Some how) columns c other = get_set_other columns (column_of how) c set.Dead other

without-one : (how : Start) (columns : List Column) (c : ℕ) → c ≡ column_of how → c < length columns → slice_get (without (Some how) columns) c ≡ Some set.Dead
unfolding without
without-one how columns c is lt =
    let x = some-get columns (column_of how) (subst (λ k. k < length columns) is lt) in
    ap (slice_get (slice_set columns (column_of how) set.Dead)) is ∙ get_set_same columns (column_of how) x.0 set.Dead x.1

module _ {D : Type 0} (g : Ghosts D) (a : Work) (taken back : List (Option D)) (s : Service) (ran : Ran g a taken s back) where
  abbrev y : Shape
  y = a.layout

  abbrev last : List ColumnState
  last = states_of y s.ending.columns

  -- ## Deaths

  -- an item by which a column failed is one that was asked
  asked-fail : (c : ℕ) → WasFailed ran.now c → HasFail a c
  asked-fail c w = by (slice_get s.clients w.id.client) refl
    where
      other : w.id.client ≢ 16
      other is = rebuilds-none y (columns_in a) a.start (ran.now.clients 16).items w.id.index c ran.rests.rebuilds (ap (λ k. slice_get (ran.now.clients k).items w.id.index) (sym is) ∙ w.asked)

      at : slice_get (items_at s.clients w.id.client) w.id.index ≡ Some (item.Fail c)
      at = ap (λ (l : List AnyItem). slice_get l w.id.index) (ran.tells.items w.id.client other) ∙ w.asked

      by : (o : Option ItemList) → slice_get s.clients w.id.client ≡ o → HasFail a c
      by None is = let z : None ≡ Some (item.Fail c) = ap (λ (o : Option ItemList). slice_get (items_in o) w.id.index) (sym is) ∙ at in absurd (let u : ⊥ = cc in u)
      by (Some row) is =
          let here : slice_get row.items w.id.index ≡ Some (item.Fail c) = ap (λ (o : Option ItemList). slice_get (items_in o) w.id.index) (sym is) ∙ at in
          record {
            row = map seen row.items;
            client =
                at-place a.clients w.id.client (map seen row.items)
                (ap (λ l. slice_get l w.id.client) (sym ran.tells.asked)
                ∙ (slice_get-map (λ (items : ItemList). map seen items.items) s.clients w.id.client
                ∙ ap (option_map (λ (items : ItemList). map seen items.items)) is));
            fails = at-place (map seen row.items) w.id.index (Fails c) (slice_get-map seen row.items w.id.index ∙ ap (option_map seen) here);
          }

  -- a column of which the rebuild began anew was dead
  dead-first : IsDeadBefore a.start a.columns
  dead-first = dead-then y ran.graphs ran.start ran.now ran.events ran.opens.opening ran.rests.run a.columns ran.opens.columns a.start (length (ran.now.clients 16).items) ran.rests.begins

  -- the cause of another column that died
  may-die : (c : ℕ) → IsOther a.start c → IsDeadBy g a taken s back ran.now c → MayDie g a taken back c
  may-die c other (inl w) = inl (asked-fail c w)
  may-die c other (inr (inl rose)) = inr (inr (inr (rose.0, device-same y (with_start a.start a.columns) a.columns c rose.0 (start-other a.start a.columns c other) rose.1, rose.2)))
  may-die c other (inr (inr unbuilt)) = unbuilt-other y ran.now a.start c unbuilt other

  -- another column that wasn't filling is as it was, or died
  ended : (c : ℕ) → IsOther a.start c → passes is_set_filling (slice_get a.columns c) ≡ false → (slice_get s.ending.columns c ≡ slice_get a.columns c) ⊎ ((slice_get s.ending.columns c ≡ Some set.Dead) × MayDie g a taken back c)
  ended c other none = by (ran.causes.ends c)
    where
      same : slice_get (with_start a.start a.columns) c ≡ slice_get a.columns c
      same = start-other a.start a.columns c other

      given : (lost : Option Loss) → IsGivenUp lost (with_start a.start a.columns) c → ⊥
      given None up = up
      given (Some loss) up = not-so (passes is_set_filling (slice_get a.columns c)) none (ap (passes is_set_filling) (sym same) ∙ up)

      by : EndsAs g a taken s back ran.now (slice_get (with_start a.start a.columns) c) (slice_get s.ending.columns c) c ⊎ ((slice_get s.ending.columns c ≡ Some set.Dead) × IsGivenUp s.ending.lost (with_start a.start a.columns) c)
          → (slice_get s.ending.columns c ≡ slice_get a.columns c) ⊎ ((slice_get s.ending.columns c ≡ Some set.Dead) × MayDie g a taken back c)
      by (inl (inl kept)) = inl (kept-same (slice_get a.columns c) (slice_get s.ending.columns c) none (subst (λ o. IsKeptAs o (slice_get s.ending.columns c)) same kept))
      by (inl (inr dead)) = inr (dead.0, may-die c other dead.1)
      by (inr dead) = absurd (given s.ending.lost dead.1)

  -- the columns in the end, without those that were filling and the one that was rebuilt
  abbrev lives : List Column
  lives = unfilled a.columns s.ending.columns

  abbrev rest : List Column
  rest = without a.start lives

  rest-count : length rest ≡ length s.ending.columns
  rest-count = without-count a.start lives ∙ unfilled-count a.columns s.ending.columns

  -- a column is dead then, or it is another one that wasn't filling, as it is in the end
  abbrev Which : ℕ → Type 0
  Which c = ((slice_get rest c ≡ Some set.Dead) × MayDie g a taken back c) ⊎ ((slice_get rest c ≡ slice_get s.ending.columns c) × IsOther a.start c × (passes is_set_filling (slice_get a.columns c) ≡ false))

  which : (c : ℕ) → c < length a.columns → Which c
  which c lt = within (other-or-not a.start c)
    where
      there : c < length s.ending.columns
      there = let many = ran.causes.count in omega (arith, lt, many)

      by : IsOther a.start c → (b : Bool) → passes is_set_filling (slice_get a.columns c) ≡ b → Which c
      by other true is = inl (without-other a.start lives c other ∙ unfilled-one a.columns s.ending.columns c there is, inr (inr (inl is)))
      by other false is = inr (without-other a.start lives c other ∙ unfilled-other a.columns s.ending.columns c is, other, is)

      within : IsOther a.start c ⊎ ((how : Start) × (a.start ≡ Some how) × (c ≡ column_of how)) → Which c
      within (inl other) = by other (passes is_set_filling (slice_get a.columns c)) refl
      within (inr (how, is, here)) =
          let count = unfilled-count a.columns s.ending.columns in
          let lies = there in
          inl (subst (λ h. slice_get (without h lives) c ≡ Some set.Dead) (sym is) (without-one how lives c here (omega (arith, lies, count))), inr (inl (how, is, sym here)))

  -- past the last there is none
  past-rest : (c : ℕ) → length a.columns ≤ c → slice_get rest c ≡ None
  past-rest c le = let count = rest-count in let many = ran.causes.count in slice_get_past rest c (omega (arith, le, count, many))

  died : (c : ℕ) → ((slice_get rest c ≡ slice_get a.columns c) × (passes is_set_filling (slice_get rest c) ≡ false)) ⊎ ((slice_get rest c ≡ Some set.Dead) × MayDie g a taken back c)
  died c = elim (cases_lt c (length a.columns)) [
    | inr over ↦ inl (past-rest c over ∙ sym (slice_get_past a.columns c over), ap (passes is_set_filling) (past-rest c over))
    | inl lt ↦ elim (which c lt) [
      | inl dead ↦ inr dead
      | inr left ↦ elim (ended c left.1 left.2) [
        | inl kept ↦ inl (left.0 ∙ kept, ap (passes is_set_filling) (left.0 ∙ kept) ∙ left.2)
        | inr dead ↦ inr (left.0 ∙ dead.0, dead.1)
      ]
    ]
  ]

  died-so : Dies (MayDie g a taken back) a.columns rest
  died-so = record { count = rest-count ∙ ran.causes.count; each = λ c. elim (died c) [ inl left ↦ inl left.0 | inr dead ↦ inr dead ] }

  -- none of these is filling
  none-left : count_by is_set_filling rest ≡ 0
  none-left = none-count is_set_filling rest (λ c. elim (died c) [ inl left ↦ left.1 | inr dead ↦ ap (passes is_set_filling) dead.0 ])

  -- each is as it is in the end, or has died since
  only-dead : Dies AnyCause s.ending.columns rest
  only-dead = record {
    count = rest-count;
    each = λ c. elim (cases_lt c (length a.columns)) [
      | inr over ↦ inl (past-rest c over ∙ sym (slice_get_past s.ending.columns c (let many = ran.causes.count in omega (arith, over, many))))
      | inl lt ↦ elim (which c lt) [ inl dead ↦ inr (dead.0, tt) | inr left ↦ inl left.0 ]
    ];
  }

  -- ## The loss

  one-ending : AtMostOne is_set_filling s.ending.columns
  one-ending c k h other = one-kept g a taken back s ran c k (before c h) (before k other)
    where
      before : (j : ℕ) → passes is_set_filling (slice_get s.ending.columns j) ≡ true → passes is_set_filling (slice_get ran.ends.kept j) ≡ true
      before j h = elim (ran.ends.dies.each j) [
        | inl same ↦ ap (passes is_set_filling) (sym same) ∙ h
        | inr dead ↦ not-so (passes is_set_filling (slice_get s.ending.columns j)) (ap (passes is_set_filling) dead.0) h
      ]

  -- a column that dies as devices are settled, or is given up, isn't spread
  unspread-kept : (c : ℕ) → RisesAt g a taken s back c ⊎ IsGivenUp s.ending.lost ran.ends.kept c → spreads ran.ends.kept c ≡ false
  unspread-kept c (inr up) = given-unspread s.ending.lost ran.ends.kept c up
  unspread-kept c (inl rose) = elim (ran.ends.came c) [
    | inl kept ↦ kept-unspread (slice_get (with_start a.start a.columns) c) (slice_get ran.ends.kept c) rose.0 (device-on y (with_start a.start a.columns) c rose.0 rose.1) kept
    | inr dead ↦ ap (passes is_set_spread) dead.0
  ]

  -- what was lost in the run is lost in the end
  lost-still : (loss : Loss) → ran.now.lost ≡ Some loss → NotLost y last → ⊥
  lost-still loss is kept =
      let was = loss-caused g a taken back s ran loss is in
      let one = one-kept g a taken back s ran in
      let apart : DieApart ran.ends.kept s.ending.columns = dies_apart (λ c. RisesAt g a taken s back c ⊎ IsGivenUp s.ending.lost ran.ends.kept c) ran.ends.kept s.ending.columns ran.ends.dies unspread-kept in
      let ended : NotLost y (states_of y ran.ends.kept) = lost_no_less y (states_of y ran.ends.kept) last (columns_die (λ c. RisesAt g a taken s back c ⊎ IsGivenUp s.ending.lost ran.ends.kept c) y ran.ends.kept s.ending.columns ran.ends.dies apart one) kept in
      let now : NotLost y ran.now.columns = closing_lost y ran.now.columns ran.ends.kept ran.ends.closes one ended in
      lost-excludes y was.after.columns loss was.is_lost (lost_no_less y was.after.columns ran.now.columns (record { count = was.count; each = was.each }) now)

  pub runs-outlived : OutlivesCall g a taken back → s.ending.lost ≡ None
  runs-outlived outlives = by ran.now.lost s.ending.lost refl refl ran.ends.lost
    where
      kept : NotLost y last
      kept = lost_no_less y last (states_of y rest) (columns_die AnyCause y s.ending.columns rest only-dead (dies_unfilled AnyCause s.ending.columns rest only-dead none-left) one-ending) (outlives rest died-so)

      by : (was o : Option Loss) → ran.now.lost ≡ was → s.ending.lost ≡ o → IsLossBy y was last o → s.ending.lost ≡ None
      by (Some loss) o now is h = absurd (lost-still loss now kept)
      by None None now is h = is
      by None (Some loss) now is h = absurd (lost-excludes y last loss h kept)

  -- so a run that isn't lost in the end was never lost
  never-lost : s.ending.lost ≡ None → (loss : Loss) → ran.now.lost ≡ Some loss → ⊥
  never-lost none loss is =
      let z : Some loss ≡ None = sym is ∙ not-before y ran.now.lost s.ending.lost last ran.ends.lost none in
      let u : ⊥ = cc in u

  -- ## Devices that failed

  dead-in-end : (c : ℕ) → slice_get ran.now.columns c ≡ Some Dead → slice_get s.ending.columns c ≡ Some set.Dead
  dead-in-end c dead =
      let kept = closing_dead y ran.now.columns ran.ends.kept ran.ends.closes c dead in
      elim (ran.ends.dies.each c) [ inl same ↦ same ∙ kept | inr died ↦ died.0 ]

  was-spread : (c : ℕ) → WasSpread ran.start ran.events c → slice_get (with_start a.start a.columns) c ≡ Some set.Spread
  was-spread c (inl h) =
      spread-started a.start a.columns c dead-first
      (spread-back y.stripes (filled_in y a.columns) (slice_get a.columns c) h.0 (sym (slice_get-map (state_set y.stripes (filled_in y a.columns)) a.columns c) ∙ (ap (λ (l : List ColumnState). slice_get l c) (sym ran.opens.columns) ∙ h.1)))
  was-spread c (inr h) =
      let is = spread-by a.start (length (ran.now.clients 16).items) ran.events c ran.rests.begins h in
      let dead = dead-first c (subst (λ how. IsFresh how c) (sym is) refl) in
      subst (λ how. slice_get (with_start how a.columns) c ≡ Some set.Spread) (sym is) (get_set_same a.columns c set.Dead set.Spread dead)

  -- a spread column that has died did by an item
  spread-failed : (c : ℕ) → slice_get (with_start a.start a.columns) c ≡ Some set.Spread → slice_get ran.now.columns c ≡ Some Dead → HasFail a c
  spread-failed c was dead = by (ran.causes.ends c)
    where
      unfit : {A : Type 0} (lost : Option Loss) → IsGivenUp lost (with_start a.start a.columns) c → A
      unfit None up = absurd up
      unfit (Some loss) up = not-so (passes is_set_filling (slice_get (with_start a.start a.columns) c)) (ap (passes is_set_filling) was) up

      by : EndsAs g a taken s back ran.now (slice_get (with_start a.start a.columns) c) (slice_get s.ending.columns c) c ⊎ ((slice_get s.ending.columns c ≡ Some set.Dead) × IsGivenUp s.ending.lost (with_start a.start a.columns) c) → HasFail a c
      by (inl (inl kept)) =
          let z : Some set.Dead ≡ Some set.Spread = sym (dead-in-end c dead) ∙ subst (λ o. IsKeptAs o (slice_get s.ending.columns c)) was kept in
          absurd (let u : ⊥ = cc in u)
      by (inl (inr (gone, inl failed))) = asked-fail c failed
      by (inl (inr (gone, inr (inl rose)))) = no-device (slice_get (with_start a.start a.columns) c) rose.0 (ap device_set was) (device-on y (with_start a.start a.columns) c rose.0 rose.1)
      by (inl (inr (gone, inr (inr unbuilt)))) = absurd (unbuilt-lives y ran.now a.start c unbuilt dead)
      by (inr gone) = unfit s.ending.lost gone.1

  faulted : (d : ℕ) → IsGone ran.start ran.events ran.now d → HasFaulted g a taken back d
  faulted d (inl failed) = by (ran.causes.failed d failed)
    where
      by : IsFailedBy g a taken s back ran.now d → HasFaulted g a taken back d
      by (inl rose) = inl rose
      by (inr why) = inr (inl (why.0, why.1, asked-fail why.0 why.2))
  faulted d (inr gone) = let was = was-spread d gone.0 in inr (inr (was, spread-failed d was gone.1))

  -- ## Replies

  stands : (id : OpId) → (n : ℕ) × StandsAt ran.now.history n id → (n : ℕ) × StandsAt s.history n id
  stands id h = (h.0, ap (λ (l : List OpId). slice_get l h.0) ran.tells.history ∙ h.1)

  done : (id : OpId) (o : Op) (graph : Option ℕ) (told : Reply) → (n : ℕ) × StandsAt ran.now.history n id → told ≡ done_reply o → IsAnswered g a taken back s ran id o graph told
  done id o None told h is = (stands id h, is)
  done id o (Some graph) told h is = inl (stands id h, is)

  module _ (none : s.ending.lost ≡ None) where
    -- a reply that has its cause is the one that its item ought to have
    reply-to : (id : OpId) (told : Reply) (asked : AnyItem) → IsCause y ran.graphs ran.start ran.events ran.now id told asked → IsReplyTo g a taken back s ran id asked told
    reply-to id reply.Data asked h = subst (λ (x : AnyItem). IsReplyTo g a taken back s ran id x reply.Data) (sym h.2) (record {
      out = λ out. absurd (h.3.0 out);
      long = λ within long. absurd (h.3.1 long);
      reached = λ reach. done id (op.Read h.0) h.1 reply.Data h.4 refl;
    })
    reply-to id reply.Done asked h = subst (λ (x : AnyItem). IsReplyTo g a taken back s ran id x reply.Done) (sym h.2) (record {
      out = λ out. absurd (h.4.0 out);
      long = λ within long. absurd (h.4.1 long);
      reached = λ reach. done id h.0 h.1 reply.Done h.5 (done-by h.0 h.3);
    })
    reply-to id reply.Okay asked h = subst (λ (x : AnyItem). IsReplyTo g a taken back s ran id x reply.Okay) (sym h.1) (refl, dead-in-end h.0 h.2)
    reply-to id (reply.Undone d) asked h = subst (λ (x : AnyItem). IsReplyTo g a taken back s ran id x (reply.Undone d)) (sym h.2) (record {
      out = λ out. absurd (h.3.0 out);
      long = λ within long. absurd (h.3.1 long);
      reached = λ reach. inr (inr (d, refl, faulted d h.5, λ n at. h.4 (n, ap (λ (l : List OpId). slice_get l n) (sym ran.tells.history) ∙ at)));
    })
    reply-to id reply.Range asked h = subst (λ (x : AnyItem). IsReplyTo g a taken back s ran id x reply.Range) (sym h.2) (record {
      out = λ out. refl;
      long = λ within long. absurd (within h.3);
      reached = λ reach. absurd (reach.0 h.3);
    })
    reply-to id reply.Long asked h = subst (λ (x : AnyItem). IsReplyTo g a taken back s ran id x reply.Long) (sym h.2) (record {
      out = λ out. absurd (h.3 out);
      long = λ within long. refl;
      reached = λ reach. absurd (reach.1 h.4);
    })
    reply-to id (reply.Refused cause) asked h = subst (λ (x : AnyItem). IsReplyTo g a taken back s ran id x (reply.Refused cause)) (sym h.2) (record {
      out = λ out. absurd (h.3.0 out);
      long = λ within long. absurd (h.3.1 long);
      reached = λ reach. inr (inl (cause, refl, h.4));
    })
    reply-to id reply.Lost asked h = absurd (never-lost none h.0 h.1)

    not-lost : (id : OpId) (told : Reply) (asked : AnyItem) → IsCause y ran.graphs ran.start ran.events ran.now id told asked → told ≡ reply.Lost → ⊥
    not-lost id told asked h is = let lost = subst (λ r. IsCause y ran.graphs ran.start ran.events ran.now id r asked) is h in never-lost none lost.0 lost.1

    -- what is told is asked of one of sixteen
    told-client : (id : OpId) (asked : AnyItem) → slice_get (items_at s.clients id.client) id.index ≡ Some asked → id.client ≢ 16
    told-client id asked is last =
        let few = ran.tells.few in
        let none = ap (λ (o : Option ItemList). slice_get (items_in o) id.index) (slice_get_past s.clients id.client (omega (arith, few, last))) in
        let z : None ≡ Some asked = sym none ∙ is in
        let u : ⊥ = cc in u

    pub runs-answered : AllAnswered g a taken back s ran
    runs-answered id asked is =
        let other = told-client id asked is in
        let item : ItemAt ran.now id asked = ap (λ (l : List AnyItem). slice_get l id.index) (sym (ran.tells.items id.client other)) ∙ is in
        let within = slice_get_within (ran.now.clients id.client).items id.index asked item in
        let all = ran.rests.replied id.client in
        let got = some-get (ran.now.clients id.client).replies id.index (omega (arith, within, all)) in
        let why = replies-caused g a taken back s ran id got.0 got.1 in
        let both : Some why.0 ≡ Some asked = sym why.1 ∙ item in
        let same : why.0 ≡ asked = cc in
        let cause = subst (λ (x : AnyItem). IsCause y ran.graphs ran.start ran.events ran.now id got.0 x) same why.2 in
        (got.0, ap (λ (l : List Reply). slice_get l id.index) (ran.tells.replies id.client other) ∙ got.1, not-lost id got.0 asked cause, reply-to id got.0 asked cause)

-- ## Of an array without labels

pub outlived : {D : Type 0} (g : Ghosts D) (a : Work) (taken back : List (Option D)) (s : Service) → RanPlain g a taken s back → OutlivesCall g a taken back → s.ending.lost ≡ None
outlived g a taken back s ran = runs-outlived g a taken back s ran.run

pub answered : {D : Type 0} (g : Ghosts D) (a : Work) (taken back : List (Option D)) (s : Service) (ran : RanPlain g a taken s back) → s.ending.lost ≡ None → AllAnswered g a taken back s ran.run
answered g a taken back s ran none = runs-answered g a taken back s ran.run none
