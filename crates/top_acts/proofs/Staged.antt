-- Calls of one stage behind those of another.
use Rattle.std.proofs.Common.{◌≡◌, ◌∙◌, ℕ, List, [], ◌++◌, Option, Some, None, refl, ap, sym, subst, inl, append_assoc, append-nil, Bool, true, false, ◌∷◌}
use Rattle.std.specs.Prelude.{All}
use Rattle.std.proofs.lemmas.List.Elements.{All-nil, All-weaker}
use Rattle.blk_disk.specs.declared.disk.Call.{Call}
use Rattle.blk_disk.specs.Disk.{Tells, call_of}
use Rattle.lay_core.specs.Layout.{Shape}
use Rattle.eng_cols.specs.declared.spot.Loss.{Loss}
use Rattle.eng_cols.specs.Cols.{ColumnState}
use Rattle.raid_recon.specs.declared.kind.Sweep.{Sweep}
use Rattle.raid_map.specs.Sweeping.{CallsMarked, IsMarkedCall}
use Rattle.raid_recon.specs.Ends.{CallsRows, IsRowsCall, IsUnitCall}
use Rattle.raid_recon.proofs.Backs.{Back}
use Rattle.top_close.proofs.CallLaws.{more-one, more-then}
use Rattle.top_rounds.specs.Calls.{IsLabelWrite}
use Rattle.top_close.specs.Calls.{MoreOn}
use Rattle.top_acts.specs.Behind.{AreLast}
use Rattle.top_acts.specs.Cleared.{IsEndingCall}
use Rattle.top_acts.specs.Mapped.{ReadsMap}
use Rattle.top_acts.specs.Renewed.{SettlesFirstOf}
use Rattle.top_acts.specs.Stages.{AreStaged, AreSweep, ClosesOn, IsClosing, SettlesFirst, SettlesFirstOn}
use Rattle.top_acts.specs.Sweeps.{Sweeps, Nothing, Over, Marked}
use Rattle.top_acts.proofs.Words.{IsMapRead, StagesOn}

-- ## Label writes and settles

-- a settle, and what closes an array behind it
pub settles-first : (good : Bool) (a b c : Option (List Call)) → Tells a b (call_of 2 0 0 good) → ClosesOn b c → SettlesFirstOn a c
settles-first good a b c one two =
    let first : List Call = call_of 2 0 0 good ∷ [] in
    more-then (λ calls. calls ≡ first) (All IsClosing) SettlesFirst a b c (λ xs ys is closes. (good, ys, ap (λ (l : List Call). l ++ ys) is, closes))
    (more-one (λ calls. calls ≡ first) (call_of 2 0 0 good) a b refl one) two

-- ## Stages

abbrev pub AreNone : List Call → Type 0
AreNone calls = calls ≡ []

-- the calls of a sweep, and no others
swept_only : (sweep : Sweeps) (y : Shape) (cols : List ColumnState) (d : ℕ) (calls : List Call) → AreSweep sweep y cols d calls → AreStaged AreNone AreNone sweep y cols d calls
swept_only sweep y cols d calls h = record { front = []; swept = calls; back = []; all = sym (append-nil calls); at_first = refl; sweeps = h; at_last = refl }

-- a sweep over all stripes
pub staged-sweep : (kind : Sweep) (y : Shape) (cols : List ColumnState) (d : ℕ) (a b : Option (List Call)) → CallsRows y cols d a b → StagesOn AreNone AreNone (Over kind) y cols d a b
staged-sweep kind y cols d a None h = tt
staged-sweep kind y cols d None (Some bs) h = h
staged-sweep kind y cols d (Some xs) (Some bs) h = (h.0, h.1, swept_only (Over kind) y cols d h.0 (h.2, h.3))

-- over those that are marked
pub staged-marked : (marks : ℕ → Bool) (y : Shape) (cols : List ColumnState) (d : ℕ) (a b : Option (List Call)) → CallsMarked y cols marks d a b → StagesOn AreNone AreNone (Marked marks) y cols d a b
staged-marked marks y cols d a None h = tt
staged-marked marks y cols d None (Some bs) h = h
staged-marked marks y cols d (Some xs) (Some bs) h = (h.0, h.1, swept_only (Marked marks) y cols d h.0 (h.2, h.3))

-- calls behind it
pub staged-more : (first last : List Call → Type 0) (sweep : Sweeps) (y : Shape) (cols : List ColumnState) (d : ℕ) (xs ys : List Call) → AreStaged first AreNone sweep y cols d xs → last ys → AreStaged first last sweep y cols d (xs ++ ys)
staged-more first last sweep y cols d xs ys s behind = record {
  front = s.front;
  swept = s.swept;
  back = ys;
  all = ap (λ (l : List Call). l ++ ys) (s.all ∙ ap (λ (l : List Call). s.front ++ (s.swept ++ l)) s.at_last ∙ ap (λ (l : List Call). s.front ++ l) (append-nil s.swept))
      ∙ append_assoc s.front s.swept ys;
  at_first = s.at_first;
  sweeps = s.sweeps;
  at_last = behind;
}

-- by columns of which some are dead now
abbrev unit_was : (y : Shape) (new old : List ColumnState) (d : ℕ) (c : Call) → Back y new old → IsUnitCall y new d c → IsUnitCall y old d c
unit_was y new old d c back u =
    record { stripe = u.stripe; unit = u.unit; at = u.at; in_array = u.in_array; in_stripe = u.in_stripe; stands = back.seats u.stripe u.unit u.at u.stands; device = u.device; call_is = u.call_is }

abbrev rows_was : (y : Shape) (new old : List ColumnState) (d : ℕ) (c : Call) → Back y new old → IsRowsCall y new d c → IsRowsCall y old d c
rows_was y new old d c back u =
    record { stripe = u.stripe; unit = u.unit; at = u.at; in_array = u.in_array; in_stripe = u.in_stripe; stands = back.seats u.stripe u.unit u.at u.stands; device = u.device; call_is = u.call_is }

sweep_was : (sweep : Sweeps) (y : Shape) (new old : List ColumnState) (d : ℕ) (calls : List Call) → Back y new old → AreSweep sweep y new d calls → AreSweep sweep y old d calls
sweep_was Nothing y new old d calls back h = h
sweep_was (Over kind) y new old d calls back h = (h.0, All-weaker (IsRowsCall y new d) (IsRowsCall y old d) (λ c u. rows_was y new old d c back u) calls h.1)
sweep_was (Marked marks) y new old d calls back h =
    (h.0, All-weaker (IsMarkedCall y new marks d) (IsMarkedCall y old marks d) (λ c u. record { unit = unit_was y new old d c back u.unit; marked = u.marked }) calls h.1)

-- such ones before it
pub staged-before : (first last : List Call → Type 0) (sweep : Sweeps) (y : Shape) (new old : List ColumnState) (d : ℕ) (xs ys : List Call) → Back y new old → first xs → AreStaged AreNone last sweep y new d ys → AreStaged first last sweep y old d (xs ++ ys)
staged-before first last sweep y new old d xs ys back before s = record {
  front = xs;
  swept = s.swept;
  back = s.back;
  all = ap (λ (l : List Call). xs ++ l) (s.all ∙ ap (λ (l : List Call). l ++ (s.swept ++ s.back)) s.at_first);
  at_first = before;
  sweeps = sweep_was sweep y new old d s.swept back s.sweeps;
  at_last = s.at_last;
}

none_swept : (sweep : Sweeps) (y : Shape) (cols : List ColumnState) (d : ℕ) → AreSweep sweep y cols d []
none_swept Nothing y cols d = refl
none_swept (Over kind) y cols d = (tt, All-nil (IsRowsCall y cols d))
none_swept (Marked marks) y cols d = (tt, All-nil (IsMarkedCall y cols marks d))

pub none_last : (lost : Option Loss) → AreLast lost []
none_last None = refl
none_last (Some loss) = All-nil IsLabelWrite

-- no sweep between the others
pub staged-around : (first last : List Call → Type 0) (sweep : Sweeps) (y : Shape) (cols : List ColumnState) (d : ℕ) (xs ys : List Call) → first xs → last ys → AreStaged first last sweep y cols d (xs ++ ys)
staged-around first last sweep y cols d xs ys before behind = record { front = xs; swept = []; back = ys; all = refl; at_first = before; sweeps = none_swept sweep y cols d; at_last = behind }

-- the first of them alone
pub staged-alone : (first : List Call → Type 0) (lost : Option Loss) (sweep : Sweeps) (y : Shape) (cols : List ColumnState) (d : ℕ) (calls : List Call) → first calls → AreStaged first (AreLast lost) sweep y cols d calls
staged-alone first lost sweep y cols d calls before = record {
  front = calls;
  swept = [];
  back = [];
  all = sym (append-nil calls);
  at_first = before;
  sweeps = none_swept sweep y cols d;
  at_last = none_last lost;
}

pub last_closes : (lost : Option Loss) (calls : List Call) → AreLast lost calls → All IsClosing calls
last_closes None calls h = subst (All IsClosing) (sym h) (All-nil IsClosing)
last_closes (Some loss) calls h = All-weaker IsLabelWrite IsClosing (λ c w. inl w) calls h

-- what is so of the last of them, said in other words
pub staged-as : (first last more : List Call → Type 0) (sweep : Sweeps) (y : Shape) (cols : List ColumnState) (d : ℕ) (calls : List Call) → ((xs : List Call) → last xs → more xs) → AreStaged first last sweep y cols d calls → AreStaged first more sweep y cols d calls
staged-as first last more sweep y cols d calls says s = record { front = s.front; swept = s.swept; back = s.back; all = s.all; at_first = s.at_first; sweeps = s.sweeps; at_last = says s.back s.at_last }

-- ## Maps that are read first

pub staged-reads : (first last : List Call → Type 0) (sweep : Sweeps) (y : Shape) (new old : List ColumnState) (d : ℕ) (xs ys : List Call) → Back y new old → All IsMapRead xs → AreStaged first last sweep y new d ys → AreStaged (ReadsMap first) last sweep y old d (xs ++ ys)
staged-reads first last sweep y new old d xs ys back reads s = record {
  front = xs ++ s.front;
  swept = s.swept;
  back = s.back;
  all = ap (λ (l : List Call). xs ++ l) s.all ∙ sym (append_assoc xs s.front (s.swept ++ s.back));
  at_first = (xs, s.front, refl, reads, s.at_first);
  sweeps = sweep_was sweep y new old d s.swept back s.sweeps;
  at_last = s.at_last;
}

-- and nothing else
pub staged-read : (first last : List Call → Type 0) (sweep : Sweeps) (y : Shape) (cols : List ColumnState) (d : ℕ) (xs : List Call) → first [] → last [] → All IsMapRead xs → AreStaged (ReadsMap first) last sweep y cols d xs
staged-read first last sweep y cols d xs some none reads = record {
  front = xs;
  swept = [];
  back = [];
  all = sym (append-nil xs);
  at_first = (xs, [], sym (append-nil xs), reads, some);
  sweeps = none_swept sweep y cols d;
  at_last = none;
}

-- what closes an array may end it where maps are cleared too
pub closing_ending : (clears : Bool) (c : Call) → IsClosing c → IsEndingCall clears c
closing_ending false c h = h
closing_ending true c h = inl h

pub last_ends : (clears : Bool) (lost : Option Loss) (calls : List Call) → AreLast lost calls → All (IsEndingCall clears) calls
last_ends clears lost calls h = All-weaker IsClosing (IsEndingCall clears) (closing_ending clears) calls (last_closes lost calls h)

-- a settle, and what ends an array behind it
pub settles-ending : (clears good : Bool) (a b c : Option (List Call)) → Tells a b (call_of 2 0 0 good) → MoreOn (All (IsEndingCall clears)) b c → MoreOn (SettlesFirstOf clears) a c
settles-ending clears good a b c one two =
    let first : List Call = call_of 2 0 0 good ∷ [] in
    more-then (λ calls. calls ≡ first) (All (IsEndingCall clears)) (SettlesFirstOf clears) a b c (λ xs ys is ends. (good, ys, ap (λ (l : List Call). l ++ ys) is, ends))
    (more-one (λ calls. calls ≡ first) (call_of 2 0 0 good) a b refl one) two
