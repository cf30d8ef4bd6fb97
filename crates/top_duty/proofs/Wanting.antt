-- What is wanted, by how far the array was made ready.
use Rattle.std.specs.Prelude.{◌≡◌, ◌⊎◌, ◌&&◌, ◌+◌, ℕ, true, false, List, [], length, nat_lt, Option, Some, None, Result, Ok, Err}
use Rattle.std.specs.Option.{ForSome}
use Rattle.std.proofs.Common.{refl, sym, ap, subst, inl, inr, ◌∙◌}
use Rattle.lay_core.specs.Layout.{Shape, blocks_in}
use Rattle.eng_array.specs.declared.start.Start.{Start}
use Rattle.eng_cols.specs.declared.column.Column.{Column}
use Rattle.eng_cols.specs.declared.spot.Loss.{Loss}
use Rattle.eng_cols.specs.Stripes.{states_of}
use Rattle.graph_mean.specs.Graph.{View}
use Rattle.text_steps.specs.declared.at.At.{At}
use Rattle.raid_conf.specs.Layouts.{shape_of}
use Rattle.raid_script.specs.Asked.{Asked as Item}
use Rattle.top_bound.specs.Bound.{trace_sum}
use Rattle.top_bound.specs.Words.{rebuilds_sum}
use Rattle.top_words.specs.Asked.{Action, Io, Sweep, Show, ShowMap, Init, Check, Rewrite, Print, Fail, ShowLabel, Label, Rebuild, Resume}
use Rattle.top_bay.specs.Asked.{Asked, names_of}
use Rattle.top_open.specs.declared.fronts.Front.{Front}
use Rattle.top_open.specs.Opening.{Opened, opened_seen}
use Rattle.top_open.specs.declared.fault.OpenFault.{OpenFault}
use Rattle.top_open.specs.declared.fault.OpenFault.TheVariants as fault
use Rattle.top_status.specs.declared.status.Status.{Status}
use Rattle.top_status.specs.declared.status.Status.TheVariants as status
use Rattle.top_status.specs.Refusals.{Refused, only}
use Rattle.top_duty.specs.declared.duty.Duty as declared_duty
use Rattle.top_duty.specs.declared.duty.Duty.TheVariants as duty
use Rattle.top_words.specs.declared.profile.Kind.{Kind}
use Rattle.top_words.specs.declared.profile.Kind.TheVariants as kind
use Rattle.top_duty.specs.Duty.{Admitted, Duty, OnArray, Shows, OneLabel, PrintConf, IsWanted, WantsMemory, beside_dead, duty_by, duty_for, is_past_bound, judged_states, layout_of, rebuilds_by}
use Rattle.top_duty.specs.Steps.{ComesOfJoins, clients_by, columns_of, lost_by, with_dead, with_killed, is_past, admitted_with, is_short, traces}
use Rattle.top_close.specs.Ended.{IsLossBy}
use Rattle.top_duty.specs.Opening.{kind_of, needs_of, opened_by, status_of}
use Rattle.top_duty.specs.Start.{IsNamedBy, other_filling, start_in}
use Rattle.top_duty.specs.Views.{ComesOver, GoesIf, IsDutyOver, IsReady, MayBeDone, RefusedAfter, RefusedHere, RefusedIf, RefusedScript, dead_beside, duty_seen, graphs_with, other_of, short_of, views_of}
use Rattle.top_duty.proofs.Counting.{rebuilds_dead, rebuilds_none}
use Rattle.top_duty.proofs.Words.{rebuilds_of}

ok_same : (r : Result Duty Refused) (a b : Admitted) → r ≡ Ok (OnArray a) → r ≡ Ok (OnArray b) → a ≡ b
ok_same r a b one two = cc (one, two)

-- what was refused before is wanted so
pub wanted_err : (w : Result Duty Refused) (r : Refused) → w ≡ Err r → IsWanted w (Err r)
wanted_err w r e = record {
  loss = None;
  joined = Ok [];
  is_loss = λ a h. cc (e, h);
  is_joined = λ a h none alone short. cc (e, h);
  is = rw e refl;
}

-- an array is refused for a loss, for want of a spare, for graphs that can't be joined, or for its trace, or isn't
pub wanted_lost : (w : Result Duty Refused) (a : Admitted) (loss : Loss) → w ≡ Ok (OnArray a) → IsLossBy (layout_of a) None (judged_states a) (Some loss) → IsWanted w (Err (lost_by a loss))
wanted_lost w a loss e h = record {
  loss = Some loss;
  joined = Ok [];
  is_loss = λ b here. subst (λ (x : Admitted). IsLossBy (layout_of x) None (judged_states x) (Some loss)) (ok_same w a b e here) h;
  is_joined = λ b here none alone short. absurd (cc none);
  is = rw e refl;
}

-- another column is filling
pub wanted_other : (w : Result Duty Refused) (a : Admitted) (c : ℕ) → w ≡ Ok (OnArray a) → IsLossBy (layout_of a) None (judged_states a) None → other_of a ≡ Some c → IsWanted w (Err (only (status.Rebuilding c)))
wanted_other w a c e h other = record {
  loss = None;
  joined = Ok [];
  is_loss = λ b here. subst (λ (x : Admitted). IsLossBy (layout_of x) None (judged_states x) None) (ok_same w a b e here) h;
  is_joined = λ b here none alone found.
      (let same : other_of b ≡ Some c = subst (λ (x : Admitted). other_of x ≡ Some c) (ok_same w a b e here) other in
      let no : Some c ≡ None = sym same ∙ alone in
      absurd (cc no));
  is = rw (e, other) refl;
}

pub wanted_short : (w : Result Duty Refused) (a : Admitted) → w ≡ Ok (OnArray a) → IsLossBy (layout_of a) None (judged_states a) None → other_of a ≡ None → is_short a ≡ true → IsWanted w (Err (only (short_of a)))
wanted_short w a e h alone short = record {
  loss = None;
  joined = Ok [];
  is_loss = λ b here. subst (λ (x : Admitted). IsLossBy (layout_of x) None (judged_states x) None) (ok_same w a b e here) h;
  is_joined = λ b here none unfilled found.
      (let same : is_short b ≡ true = subst (λ (x : Admitted). is_short x ≡ true) (ok_same w a b e here) short in
      let no : true ≡ false = sym same ∙ found in
      absurd (cc no));
  is = rw (e, alone, short) refl;
}

module _ (w : Result Duty Refused) (a : Admitted) (e : w ≡ Ok (OnArray a)) (h : IsLossBy (layout_of a) None (judged_states a) None) (alone : other_of a ≡ None) (found : is_short a ≡ false) where
  pub wanted_apart : (at : At) → ComesOfJoins a (Err at) → IsWanted w (Err (beside_dead a (status.Script at.line at.code)))
  wanted_apart at joins = record {
    loss = None;
    joined = Err at;
    is_loss = λ b here. subst (λ (x : Admitted). IsLossBy (layout_of x) None (judged_states x) None) (ok_same w a b e here) h;
    is_joined = λ b here none unfilled short. subst (λ (x : Admitted). ComesOfJoins x (Err at)) (ok_same w a b e here) joins;
    is = rw (e, alone, found) refl;
  }

  pub wanted_past : (views : List View) → ComesOfJoins a (Ok views) → is_past_bound (record a { joined = views }) ≡ true → IsWanted w (Err (beside_dead a (status.Script 0 8)))
  wanted_past views joins past = record {
    loss = None;
    joined = Ok views;
    is_loss = λ b here. subst (λ (x : Admitted). IsLossBy (layout_of x) None (judged_states x) None) (ok_same w a b e here) h;
    is_joined = λ b here none unfilled short. subst (λ (x : Admitted). ComesOfJoins x (Ok views)) (ok_same w a b e here) joins;
    is = rw (e, alone, found, past) refl;
  }

  pub wanted_ok : (views : List View) → ComesOfJoins a (Ok views) → is_past_bound (record a { joined = views }) ≡ false → IsWanted w (Ok (OnArray (record a { joined = views })))
  wanted_ok views joins past = record {
    loss = None;
    joined = Ok views;
    is_loss = λ b here. subst (λ (x : Admitted). IsLossBy (layout_of x) None (judged_states x) None) (ok_same w a b e here) h;
    is_joined = λ b here none unfilled short. subst (λ (x : Admitted). ComesOfJoins x (Ok views)) (ok_same w a b e here) joins;
    is = rw (e, alone, found, past) refl;
  }

-- what isn't judged is wanted as it is
wanted_shown : (w : Result Duty Refused) (k : Asked) (o : Opened) → w ≡ Ok (Shows k o) → IsWanted w (Ok (Shows k o))
wanted_shown w k o e = record { loss = None; joined = Ok []; is_loss = λ a h. cc (e, h); is_joined = λ a h none alone short. cc (e, h); is = rw e refl }

wanted_label : (w : Result Duty Refused) (k : Asked) → w ≡ Ok (OneLabel k) → IsWanted w (Ok (OneLabel k))
wanted_label w k e = record { loss = None; joined = Ok []; is_loss = λ a h. cc (e, h); is_joined = λ a h none alone short. cc (e, h); is = rw e refl }

wanted_conf : (w : Result Duty Refused) (k : Asked) → w ≡ Ok (PrintConf k) → IsWanted w (Ok (PrintConf k))
wanted_conf w k e = record { loss = None; joined = Ok []; is_loss = λ a h. cc (e, h); is_joined = λ a h none alone short. cc (e, h); is = rw e refl }

-- what nothing is done with is refused as is wanted, or memory was wanted
pub refused_after : (w : Result Duty Refused) (a : Admitted) (s : Status) → w ≡ Ok (OnArray a) → RefusedAfter a s
    → (let r : Refused = record { status = s; dead = dead_beside (needs_of a.asked).excused (columns_of a) s } in IsWanted w (Err r) ⊎ WantsMemory w r)
refused_after w a (status.Lost first second stripe) e h = inl (wanted_lost w a (record { first = first; second = second; stripe = stripe }) e h)
refused_after w a (status.Script line code) e h = inl (script h.3)
  where
    script : RefusedScript (λ l c. ComesOfJoins a (Err (record { line = l; code = c }))) (λ views. ComesOfJoins a (Ok views) × (is_past_bound (record a { joined = views }) ≡ true)) line code
        → IsWanted w (Err (beside_dead a (status.Script line code)))
    script (inl apart) = wanted_apart w a e h.0 h.1 h.2 (record { line = line; code = code }) apart
    script (inr past) =
        subst (λ (l : ℕ). IsWanted w (Err (beside_dead a (status.Script l code)))) (sym past.2)
        (subst (λ (c : ℕ). IsWanted w (Err (beside_dead a (status.Script 0 c)))) (sym past.3) (wanted_past w a e h.0 h.1 h.2 past.0 past.1.0 past.1.1))
refused_after w a status.Memory e h = inr (a, e, refl)
refused_after w a status.Ok e h = absurd h
refused_after w a (status.Usage i) e h = absurd h
refused_after w a (status.Conf l c) e h = absurd h
refused_after w a (status.GraphText l c) e h = absurd h
refused_after w a status.BayFault e h = absurd h
refused_after w a (status.NoFile n) e h = absurd h
refused_after w a status.SinkFault e h = absurd h
refused_after w a (status.Label a1 b c d) e h = absurd h
refused_after w a (status.Small a1 b c) e h = absurd h
refused_after w a (status.NotInSync n) e h = absurd h
refused_after w a status.NoSpare e h = inl (subst (λ (s : Status). IsWanted w (Err (only s))) h.3 (wanted_short w a e h.0 h.1 h.2))
refused_after w a status.NoRebuild e h = inl (subst (λ (s : Status). IsWanted w (Err (only s))) h.3 (wanted_short w a e h.0 h.1 h.2))
refused_after w a (status.Rebuilding c) e h = inl (wanted_other w a c e h.0 h.1)
refused_after w a (status.LongText n) e h = absurd h

-- a trace is kept of a script's items alone, and of rebuilds
past_same : (y : Shape) (graphs : List View) (n count : ℕ) (action : Action) (scripted : List (List Item)) (blocks : ℕ)
    → (traces action && nat_lt 1048576 (trace_sum y graphs n (clients_by action scripted blocks) + rebuilds_sum y n count)) ≡ (traces action && nat_lt 1048576 (trace_sum y graphs n scripted + rebuilds_sum y n count))
past_same y graphs n count (Io beside workers mapped) scripted blocks = refl
past_same y graphs n count (Sweep seed clients ops workers mapped) scripted blocks = refl
past_same y graphs n count Show scripted blocks = refl
past_same y graphs n count ShowMap scripted blocks = refl
past_same y graphs n count Init scripted blocks = refl
past_same y graphs n count Check scripted blocks = refl
past_same y graphs n count Rewrite scripted blocks = refl
past_same y graphs n count Print scripted blocks = refl
past_same y graphs n count (Fail comp) scripted blocks = refl
past_same y graphs n count (ShowLabel comp) scripted blocks = refl
past_same y graphs n count (Label serial) scripted blocks = refl
past_same y graphs n count (Rebuild in_place comp limit beside workers mapped) scripted blocks = refl
past_same y graphs n count (Resume limit beside workers mapped) scripted blocks = refl

-- its rebuilds are those of the columns as they are opened
rebuilds_are : (k : Asked) (o : Opened) (start : Option Start) → ForSome start (IsNamedBy (needs_of k).excused)
    → rebuilds_of (admitted_with k o start []) ≡ rebuilds_by (shape_of k.conf o.rows) o.columns start
rebuilds_are k o None named = rebuilds_none (shape_of k.conf o.rows) (with_dead (needs_of k).excused o.columns) o.columns
rebuilds_are k o (Some s) named = rebuilds_dead (shape_of k.conf o.rows) o.columns (needs_of k).excused s (named s refl)

past_is : (k : Asked) (o : Opened) (start : Option Start) (views : List View) → ForSome start (IsNamedBy (needs_of k).excused)
    → is_past_bound (admitted_with k o start views) ≡ is_past (shape_of k.conf o.rows) k (graphs_with k views) k.clients (rebuilds_by (shape_of k.conf o.rows) o.columns start)
past_is k o start views named =
    past_same (shape_of k.conf o.rows) (graphs_with k views) (length (names_of k.conf)) (rebuilds_of (admitted_with k o start [])) k.command.action k.clients (blocks_in (shape_of k.conf o.rows))
    ∙ ap (λ (n : ℕ). is_past (shape_of k.conf o.rows) k (graphs_with k views) k.clients n) (rebuilds_are k o start named)

module _ (k : Asked) (o : Opened) (start : Option Start) (named : ForSome start (IsNamedBy (needs_of k).excused)) where
  -- why a script that is asked for isn't run is why one that is admitted isn't
  script_if : (line code : ℕ)
      → RefusedScript (λ l c. ComesOver (shape_of k.conf o.rows) k (Err (record { line = l; code = c })))
      (λ views. ComesOver (shape_of k.conf o.rows) k (Ok views) × (is_past (shape_of k.conf o.rows) k (graphs_with k views) k.clients (rebuilds_by (shape_of k.conf o.rows) o.columns start) ≡ true)) line code
      → RefusedScript (λ l c. ComesOfJoins (admitted_with k o start []) (Err (record { line = l; code = c })))
      (λ views. ComesOfJoins (admitted_with k o start []) (Ok views) × (is_past_bound (admitted_with k o start views) ≡ true)) line code
  script_if line code (inl apart) = inl apart
  script_if line code (inr past) = inr (past.0, (past.1.0, past_is k o start past.0 named ∙ past.1.1), past.2, past.3)

  -- why what is asked isn't run is why what is admitted isn't
  pub after_if : (s : Status) → RefusedIf (shape_of k.conf o.rows) k (with_killed (needs_of k).excused (states_of (shape_of k.conf o.rows) o.columns)) (other_filling k o.columns) (rebuilds_by (shape_of k.conf o.rows) o.columns start) start s → RefusedAfter (admitted_with k o start []) s
  after_if (status.Lost first second stripe) h = h
  after_if (status.Script line code) h = (h.0, h.1.0, h.1.1, script_if line code h.1.2)
  after_if status.NoSpare h = (h.0, h.1.0, h.1.1, h.1.2)
  after_if status.NoRebuild h = (h.0, h.1.0, h.1.1, h.1.2)
  after_if (status.Rebuilding c) h = (h.0, h.1)
  after_if status.Memory h = tt
  after_if status.Ok h = absurd h.1
  after_if (status.Usage i) h = absurd h.1
  after_if (status.Conf l c) h = absurd h.1
  after_if (status.GraphText l c) h = absurd h.1
  after_if status.BayFault h = absurd h.1
  after_if (status.NoFile n) h = absurd h.1
  after_if status.SinkFault h = absurd h.1
  after_if (status.Label a1 b c d) h = absurd h.1
  after_if (status.Small a1 b c) h = absurd h.1
  after_if (status.NotInSync n) h = absurd h.1
  after_if (status.LongText n) h = absurd h.1

  -- and where it isn't refused, it may be done
  pub done_if : (views : List View) → GoesIf (shape_of k.conf o.rows) k (with_killed (needs_of k).excused (states_of (shape_of k.conf o.rows) o.columns)) (other_filling k o.columns) (rebuilds_by (shape_of k.conf o.rows) o.columns start) start views → MayBeDone (admitted_with k o start views)
  done_if views h = record { kept = h.0; alone = h.1.alone; found = h.1.found; joins = h.1.joins; bound = past_is k o start views named ∙ h.1.bound }

-- the same of a layout and columns that are those
module _ (y z : Shape) (k : Asked) (dead excused : Option ℕ) (opened others : List Column) (start : Option Start) (one : y ≡ z) (two : dead ≡ excused) (three : opened ≡ others) where
  pub if_same : (s : Status) → RefusedIf y k (with_killed dead (states_of y opened)) (other_filling k opened) (rebuilds_by y opened start) start s
      → RefusedIf z k (with_killed excused (states_of z others)) (other_filling k others) (rebuilds_by z others start) start s
  if_same s h =
      subst (λ (x : Shape). RefusedIf x k (with_killed excused (states_of x others)) (other_filling k others) (rebuilds_by x others start) start s) one
      (subst (λ (l : List Column). RefusedIf y k (with_killed excused (states_of y l)) (other_filling k l) (rebuilds_by y l start) start s) three
      (subst (λ (e : Option ℕ). RefusedIf y k (with_killed e (states_of y opened)) (other_filling k opened) (rebuilds_by y opened start) start s) two h))

  pub goes_same : (views : List View) → GoesIf y k (with_killed dead (states_of y opened)) (other_filling k opened) (rebuilds_by y opened start) start views
      → GoesIf z k (with_killed excused (states_of z others)) (other_filling k others) (rebuilds_by z others start) start views
  goes_same views h =
      subst (λ (x : Shape). GoesIf x k (with_killed excused (states_of x others)) (other_filling k others) (rebuilds_by x others start) start views) one
      (subst (λ (l : List Column). GoesIf y k (with_killed excused (states_of y l)) (other_filling k l) (rebuilds_by y l start) start views) three
      (subst (λ (e : Option ℕ). GoesIf y k (with_killed e (states_of y opened)) (other_filling k opened) (rebuilds_by y opened start) start views) two h))

-- ## By how the array was opened

pub array_is : (k : Asked) (sizes : List ℕ) (fronts : List Front) (o : Opened) (start : Option Start) → opened_by k sizes fronts ≡ Ok o → start ≡ start_in k o sizes fronts
    → duty_for kind.Array k sizes fronts ≡ Ok (OnArray (admitted_with k o start []))
array_is k sizes fronts o start e is = rw e (ap (λ (s : Option Start). Ok (OnArray (admitted_with k o s []))) (sym is))

-- an array is refused as it is opened, or memory was wanted
pub refused_opening : (k : Asked) (sizes : List ℕ) (fronts : List Front) (f : OpenFault) → (f ≡ fault.Memory) ⊎ (opened_by k sizes fronts ≡ Err (only (status_of f)))
    → RefusedHere (duty_for kind.Array k sizes fronts) (only (status_of f))
refused_opening k sizes fronts f (inl memory) = inr (ap (λ (x : OpenFault). only (status_of x)) memory)
refused_opening k sizes fronts f (inr e) = inl (inl (wanted_err (duty_for kind.Array k sizes fronts) (only (status_of f)) (rw e refl)))

pub refused_showing : (k : Asked) (sizes : List ℕ) (fronts : List Front) (f : OpenFault) → (f ≡ fault.Memory) ⊎ (opened_by k sizes fronts ≡ Err (only (status_of f)))
    → RefusedHere (duty_for kind.Shown k sizes fronts) (only (status_of f))
refused_showing k sizes fronts f (inl memory) = inr (ap (λ (x : OpenFault). only (status_of x)) memory)
refused_showing k sizes fronts f (inr e) = inl (inl (wanted_err (duty_for kind.Shown k sizes fronts) (only (status_of f)) (rw e refl)))

-- ## By what is made of the array

duty_is : (k : Asked) (sizes : List ℕ) (fronts : List Front) (x : Kind) → kind_of k.command.action ≡ x → duty_by k sizes fronts ≡ duty_for x k sizes fronts
unfolding duty_by
duty_is k sizes fronts x e = ap (λ (y : Kind). duty_for y k sizes fronts) e

pub refused_duty : (k : Asked) (sizes : List ℕ) (fronts : List Front) (x : Kind) (r : Refused) → kind_of k.command.action ≡ x → RefusedHere (duty_for x k sizes fronts) r → RefusedHere (duty_by k sizes fronts) r
refused_duty k sizes fronts x r e h = subst (λ (w : Result Duty Refused). RefusedHere w r) (sym (duty_is k sizes fronts x e)) h

-- what is to be done is what is wanted
pub duty_wanted : (k : Asked) (sizes : List ℕ) (fronts : List Front) (d : declared_duty.Duty) → IsDutyOver k sizes fronts d → IsWanted (duty_by k sizes fronts) (Ok (duty_seen k d))
duty_wanted k sizes fronts (duty.OnArray r) h =
    let o = opened_seen r.opened in
    let views = views_of r.joined.items in
    let ready : IsReady k sizes fronts o r.start views = h.1.ready in
    wanted_ok (duty_by k sizes fronts) (admitted_with k o r.start []) (duty_is k sizes fronts kind.Array h.0 ∙ array_is k sizes fronts o r.start ready.opened ready.starts) ready.may.kept ready.may.alone ready.may.found views ready.may.joins ready.may.bound
duty_wanted k sizes fronts (duty.Shows opened) h =
    wanted_shown (duty_by k sizes fronts) k (opened_seen opened) (duty_is k sizes fronts kind.Shown h.0 ∙ shown h.1)
  where
    shown : opened_by k sizes fronts ≡ Ok (opened_seen opened) → duty_for kind.Shown k sizes fronts ≡ Ok (Shows k (opened_seen opened))
    shown e = rw e refl
duty_wanted k sizes fronts duty.OneLabel h = wanted_label (duty_by k sizes fronts) k (duty_is k sizes fronts kind.Label h)
duty_wanted k sizes fronts duty.PrintConf h = wanted_conf (duty_by k sizes fronts) k (duty_is k sizes fronts kind.Conf h)
