-- In a run of the clients' own events each column stays what it was, or dies.
use Rattle.std.proofs.Common.{◌≡◌, ◌⊎◌, inl, inr, ℕ, zero, suc, List, [], ◌∷◌, true, Option, option_map, Some, None, slice_get, slice_set, refl, sym, ◌∙◌, ap, subst}
use Rattle.std.specs.Prelude.{Bool, Contains, map, replicate}
use Rattle.std.proofs.lemmas.Bool.{cases_Bool, cond-true, cond-false}
use Rattle.blk_plain.specs.declared.op.Op.{Op}
use Rattle.blk_plain.specs.declared.op.Op.TheVariants as op
use Rattle.lay_core.specs.Layout.{Shape}
use Rattle.eng_cols.specs.declared.column.Column.{Column}
use Rattle.eng_cols.specs.declared.column.Column.TheVariants as set
use Rattle.eng_cols.specs.Cols.{ColumnState, Live, Dead, Filling, Spread, column_with, state_set}
use Rattle.eng_cols.specs.Changes.{killed, done_on, IsEnded}
use Rattle.eng_cols.specs.Seats.{is_unit_of}
use Rattle.eng_cols.proofs.Lists.{get_set_either}
use Rattle.eng_world.specs.declared.item.Traced.{Traced}
use Rattle.eng_world.specs.declared.item.Traced.TheVariants as event
use Rattle.eng_world.specs.World.{Running, World}
use Rattle.eng_world.specs.Planning.{Graphs}
use Rattle.eng_world.specs.Nodes.{ColumnsAfter}
use Rattle.eng_world.specs.Step.{Step, EventsLead, column_begun}
use Rattle.eng_world.proofs.Caused.{tail-has, head-has}
use Rattle.eng_world.proofs.Moves.{Move, Moves, one, two, moves, replies, waits, takes, fires, skips, works, commits, ends, fails, anew, gives, dies, starts, home}
use Rattle.eng_rest.specs.Left.{IsOwn}
use Rattle.eng_cols.proofs.Words.{all_done}

-- each of the events is one of an operation
abbrev pub AreOwn : List Traced → Type 0
AreOwn events = (e : Traced) → Contains events e → IsOwn e

pub own-rest : (e : Traced) (events : List Traced) → AreOwn (e ∷ events) → AreOwn events
own-rest e events own x has = own x (tail-has e events x has)

pub own-first : (e : Traced) (events : List Traced) → AreOwn (e ∷ events) → IsOwn e
own-first e events own = own e (head-has e events)

-- ## Columns that are set

-- each stripe of a spread one is done
abbrev pub IsSet : ℕ → ColumnState → Type 0
IsSet n (Live device) = Unit {0}
IsSet n Dead = Unit {0}
IsSet n (Filling device done) = Unit {0}
IsSet n (Spread done) = done ≡ all_done n

abbrev pub AreSet : ℕ → List ColumnState → Type 0
AreSet n cols = (c : ℕ) (x : ColumnState) → slice_get cols c ≡ Some x → IsSet n x

abbrev pub SetIn : ℕ → Option ColumnState → Type 0
SetIn n o = (x : ColumnState) → o ≡ Some x → IsSet n x

set-done : (n s : ℕ) → slice_set (replicate n true) s true ≡ replicate n true
set-done zero s = refl
set-done (suc n) zero = refl
set-done (suc n) (suc s) = ap (λ l. true ∷ l) (set-done n s)

pub set-in : (n : ℕ) (x : ColumnState) → IsSet n x → SetIn n (Some x)
set-in n x h z is = let e : x ≡ z = cc in subst (IsSet n) e h

-- so it is where a stripe more is done
done-set : (n s : ℕ) (o : Option ColumnState) → SetIn n o → SetIn n (done_on o s)
done-set n s (Some (Live device)) h = h
done-set n s (Some Dead) h = h
done-set n s (Some (Filling device done)) h = set-in n (Filling device (slice_set done s true)) tt
done-set n s (Some (Spread done)) h = set-in n (Spread (slice_set done s true)) (ap (λ l. slice_set l s true) (h (Spread done) refl) ∙ set-done n s)
done-set n s None h = h

-- a column that is set
set-one : (n : ℕ) (l : List Bool) (x : Column) → IsSet n (state_set n l x)
set-one n l (set.Live device) = tt
set-one n l set.Dead = tt
set-one n l (set.Filling device done) = tt
set-one n l set.Spread = refl

-- so are those that are set
pub set-states : (n : ℕ) (l : List Bool) (cols : List Column) → AreSet n (map (state_set n l) cols)
set-states n l [] c x is = let z : None ≡ Some x = is in absurd (let u : ⊥ = cc in u)
set-states n l (k ∷ cols) zero x is = let e : Some (state_set n l k) ≡ Some x = is in let q : state_set n l k ≡ x = cc in subst (IsSet n) q (set-one n l k)
set-states n l (k ∷ cols) (suc c) x is = set-states n l cols c x is

-- no rebuild begins by an operation's event
pub own-quiet : (e : Traced) → IsOwn e → column_begun e ≡ None
own-quiet (event.Fill c device count) h = absurd h
own-quiet (event.Resume c count) h = absurd h
own-quiet (event.Spread c) h = absurd h
own-quiet (event.Fail c) h = absurd h
own-quiet (event.Begin id) h = refl
own-quiet (event.Take id) h = refl
own-quiet (event.Fire id n) h = refl
own-quiet (event.Good id n) h = refl
own-quiet (event.Bad id n) h = refl
own-quiet (event.Skip id n) h = refl
own-quiet (event.Back id) h = refl

-- ## Each event

-- What is so of column c, and of a dead one, and stays so as a stripe is done there, is so after every event.
module _ (y : Shape) (graphs : Graphs) (c : ℕ) (Holds : Option ColumnState → Type 0) (dead : Holds (Some Dead)) (done : (s : ℕ) (o : Option ColumnState) → Holds o → Holds (done_on o s)) where
  abbrev HoldsIn : List ColumnState → Type 0
  HoldsIn cols = Holds (slice_get cols c)

  holds-same : (cols more : List ColumnState) → more ≡ cols → HoldsIn cols → HoldsIn more
  holds-same cols more e h = subst HoldsIn (sym e) h

  holds-killed : (cols more : List ColumnState) (k : ℕ) → more ≡ killed cols k → HoldsIn cols → HoldsIn more
  holds-killed cols more k e h = subst HoldsIn (sym e) (elim (get_set_either cols k c Dead) [ inl is ↦ subst Holds (sym is) dead | inr same ↦ subst Holds (sym same) h ])

  holds-ended : (s i : ℕ) (old new : List ColumnState) → IsEnded y s i old new → HoldsIn old → HoldsIn new
  holds-ended s i old new e h = elim (cases_Bool (is_unit_of y old s i c)) [
    | inl q ↦ subst Holds (sym (e c ∙ cond-true (is_unit_of y old s i c) _ _ q)) (done s (slice_get old c) h)
    | inr q ↦ subst Holds (sym (e c ∙ cond-false (is_unit_of y old s i c) _ _ q)) h
  ]

  holds-after : (o : Op) (r : Running) (old new : World) → ColumnsAfter y o r old new → HoldsIn old.columns → HoldsIn new.columns
  holds-after (op.Write span pattern) r old new h keep = holds-same old.columns new.columns h.0 keep
  holds-after (op.Writes patches) r old new h keep = holds-same old.columns new.columns h.0 keep
  holds-after (op.Read span) r old new h keep = holds-same old.columns new.columns h.0 keep
  holds-after (op.Sync stripe) r old new h keep = holds-same old.columns new.columns h.0 keep
  holds-after (op.Rebuild stripe) r old new (inl h) keep = holds-ended stripe h.0 old.columns new.columns h.4 keep
  holds-after (op.Rebuild stripe) r old new (inr h) keep = holds-same old.columns new.columns h.1.0 keep

  module _ (e : Traced) (own : IsOwn e) (old new : World) where
    abbrev Any : World → Type 0
    Any w = Unit {0}

    not-started : {A : Type 0} (k : ℕ) → column_begun e ≡ Some k → A
    not-started k h = let z : None ≡ Some k = sym (own-quiet e own) ∙ h in absurd (let u : ⊥ = cc in u)

    move-holds : Move y graphs Any e old new → HoldsIn old.columns → HoldsIn new.columns
    move-holds (replies k q asked known is ne idle f) keep = holds-same old.columns new.columns f.only.columns.columns keep
    move-holds (waits k a way known asks nothing g only pool) keep = holds-same old.columns new.columns only.columns.columns keep
    move-holds (takes k known f) keep = holds-same old.columns new.columns f.only.columns.columns keep
    move-holds (fires k m known f) keep = holds-same old.columns new.columns f.only.columns.columns keep
    move-holds (skips k m known f) keep = holds-same old.columns new.columns f.only.columns.columns keep
    move-holds (works k m known f) keep = holds-same old.columns new.columns f.columns.columns keep
    move-holds (commits k m known f) keep = holds-same old.columns new.columns f.columns.columns keep
    move-holds (ends k m known f) keep = holds-after f.op f.was old new f.after keep
    move-holds (fails k m at bad known f) keep = holds-same old.columns new.columns f.columns.columns keep
    move-holds (anew k p known can is b) keep = holds-same old.columns new.columns b.only.columns.columns keep
    move-holds (gives k p g known can is b) keep = holds-same old.columns new.columns b.only.columns.columns keep
    move-holds (dies k none alive f) keep = holds-killed old.columns new.columns k f.columns keep
    move-holds (starts k begun why known f had spread) keep = not-started k why
    move-holds (home k m good was loss is f failed (inl same)) keep = holds-same old.columns new.columns same keep
    move-holds (home k m good was loss is f failed (inr gone)) keep = holds-killed old.columns new.columns gone.0 gone.1 keep

  step-holds : (e : Traced) → IsOwn e → (old new : World) → Step y graphs e old new → HoldsIn old.columns → HoldsIn new.columns
  step-holds e own old new s keep = by (moves y graphs (λ w. Unit {0}) e old new (λ none. tt) s)
    where
      by : Moves y graphs (λ w. Unit {0}) e old new → HoldsIn new.columns
      by (one m) = move-holds e own old new m keep
      by (two mid m k none alive f) = holds-killed mid.columns new.columns k f.columns (move-holds e own old mid m keep)

  pub run-holds : (start : World) (events : List Traced) (now : World) → AreOwn events → EventsLead y graphs start events now → HoldsIn start.columns → HoldsIn now.columns
  run-holds start [] now own run keep = holds-same start.columns now.columns (ap (λ (w : World). w.columns) run) keep
  run-holds start (e ∷ events) now own run keep = step-holds e (own-first e events own) run.0 now run.2 (run-holds start events run.0 (own-rest e events own) run.1 keep)

-- ## What becomes of a column

-- a column that is set stays so
pub run-sets : (y : Shape) (graphs : Graphs) (n : ℕ) (start : World) (events : List Traced) (now : World) → AreOwn events → EventsLead y graphs start events now → (c : ℕ) → SetIn n (slice_get start.columns c) → SetIn n (slice_get now.columns c)
run-sets y graphs n start events now own run c set = run-holds y graphs c (SetIn n) (set-in n Dead tt) (done-set n) start events now own run set

done-kind : (s : ℕ) (o : Option ColumnState) → option_map (column_with 0) (done_on o s) ≡ option_map (column_with 0) o
done-kind s (Some (Live device)) = refl
done-kind s (Some Dead) = refl
done-kind s (Some (Filling device done)) = refl
done-kind s (Some (Spread done)) = refl
done-kind s None = refl

-- any column is live, filling or spread as it was, or dead
pub run-kinds : (y : Shape) (graphs : Graphs) (start : World) (events : List Traced) (now : World) → AreOwn events → EventsLead y graphs start events now → (c : ℕ) → (option_map (column_with 0) (slice_get now.columns c) ≡ option_map (column_with 0) (slice_get start.columns c)) ⊎ (slice_get now.columns c ≡ Some Dead)
run-kinds y graphs start events now own run c =
    run-holds y graphs c (λ o. (option_map (column_with 0) o ≡ option_map (column_with 0) (slice_get start.columns c)) ⊎ (o ≡ Some Dead)) (inr refl) done start events now own run (inl refl)
  where
    done : (s : ℕ) (o : Option ColumnState) → (option_map (column_with 0) o ≡ option_map (column_with 0) (slice_get start.columns c)) ⊎ (o ≡ Some Dead) → (option_map (column_with 0) (done_on o s) ≡ option_map (column_with 0) (slice_get start.columns c)) ⊎ (done_on o s ≡ Some Dead)
    done s o (inl h) = inl (done-kind s o ∙ h)
    done s o (inr h) = inr (ap (λ z. done_on z s) h)
