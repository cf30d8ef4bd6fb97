-- The calls of the devices of an array of which a map is kept, from its opening to its close.
use Rattle.std.proofs.Common.{◌≡◌, ◌⊎◌, inl, inr, ℕ, List, [], ◌++◌, Bool, true, false, Option, Some, None, refl, sym, ◌∙◌, ap, subst, append-nil}
use Rattle.std.specs.Prelude.{◌&&◌, All, is_some, option_and_then}
use Rattle.std.proofs.lemmas.List.Elements.{All-append, All-nil, All-weaker}
use Rattle.blk_disk.specs.declared.disk.Call.{Call}
use Rattle.blk_disk.specs.declared.disk.Disk.{Ghosts}
use Rattle.blk_disk.specs.Disk.{Tells, call_of}
use Rattle.blk_disk.specs.Devices.{Changes, calls_of, device_at}
use Rattle.blk_disk.proofs.DeviceLaws.{changes-more, changes-refl, changes-then}
use Rattle.lay_core.specs.Layout.{Shape}
use Rattle.eng_cols.specs.declared.column.Column.{Column}
use Rattle.eng_cols.specs.declared.spot.Loss.{Loss}
use Rattle.eng_state.specs.Shows.{AreTold}
use Rattle.raid_label.specs.declared.label.Label.{Label}
use Rattle.raid_map.specs.Marking.{MarksOn}
use Rattle.raid_map.specs.Regions.{Marks as Map}
use Rattle.top_acts.specs.Begun.{HasBegun, MayBegin, MaySweep, Names, Opens}
use Rattle.top_acts.specs.Cleared.{EndsMapped, EndsMappedSettled, IsEndingCall}
use Rattle.top_acts.specs.Mapped.{unmarked}
use Rattle.top_acts.specs.Marking.{MarksAll}
use Rattle.top_acts.specs.Seats.{names}
use Rattle.top_acts.specs.Stages.{IsClosing}
use Rattle.top_acts.specs.Sweeps.{Notice, Round, Marks, Sweeps}
use Rattle.top_acts.proofs.Looked.{looks_stage}
use Rattle.top_acts.proofs.Marked.{IsMarkCall, marks_dies, marks_stage}
use Rattle.top_close.specs.Calls.{MoreOn}
use Rattle.top_close.specs.Stage.{DiesIn}
use Rattle.top_close.proofs.CallLaws.{more-none, more-then}
use Rattle.top_close.proofs.SettledLaws.{device_within}
use Rattle.top_close.proofs.StageLaws.{live_before}
use Rattle.top_rounds.specs.Passes.{IsKeptInUse}
use Rattle.top_run.specs.Work.{Service, Work}
use Rattle.top_labelled.specs.Begun.{BeginsLabelled, sweeps_in}
use Rattle.top_labelled.specs.Words.{BeginsUnless, notice_in, closing_label, ClearsLast, MarksFirst}
use Rattle.top_labelled.specs.Maps.{MapsInOrder}
use Rattle.top_labelled.proofs.Lists.{in-use-or-not}
use Rattle.top_labelled.proofs.Ordered.{IsMarkOrRead, came-so, still-tells, told-cleared, told-marked, told-quiet}
use Rattle.top_labelled.proofs.Without.{never}
use Rattle.top_acts.proofs.Words.{MayEnd, IsMapRead}
use Rattle.eng_cols.specs.Cols.{HasDeviceOn}
use Rattle.top_close.proofs.Words.{NoCalls}
use Rattle.eng_cols.specs.Deaths.{LosesDevice}

-- any sector may change
abbrev Anywhere : ℕ → ℕ → Type 0
Anywhere d n = Unit {0}

-- ## Nothing was called

-- what tells the calls of a world that haven't grown has no more
pub same-calls : {D : Type 0} (g : Ghosts D) (a b : Option (List Call)) (was is : List Call) → AreTold g a was → AreTold g b is → is ≡ was → MoreOn (λ calls. Unit {0}) a b → NoCalls a b
same-calls g a None was is one two same more = tt
same-calls g None (Some bs) was is one two same more = more
same-calls g (Some xs) (Some bs) was is one two same more = ([], sym two ∙ (same ∙ (one ∙ sym (append-nil xs))), refl)

no-more : (P : Call → Type 0) (a b c : Option (List Call)) → MoreOn (All P) a b → NoCalls b c → MoreOn (All P) a c
no-more P a b c one two = more-then (All P) (λ more. more ≡ []) (All P) a b c (λ xs ys are none. subst (All P) (sym (ap (λ l. xs ++ l) none ∙ append-nil xs)) are) one two

same-devices : {D : Type 0} (g : Ghosts D) (old new : List (Option D)) (d : ℕ) → device_at new d ≡ device_at old d → NoCalls (calls_of g old d) (calls_of g new d)
same-devices g old new d same = subst (λ o. MoreOn (λ more. more ≡ []) (calls_of g old d) (option_and_then g.calls o)) (sym same) (more-none (λ more. more ≡ []) (calls_of g old d) refl)

-- ## The mark

-- each device in use was marked, and then labels may have been written behind that
record Marked {D : Type 0} (g : Ghosts D) (map : Map) (columns left : List Column) (old dev : List (Option D)) : Type 0 where
  mid : List Column
  between : List (Option D)
  marks : MarksAll g map columns mid old between
  frame : Changes g (IsKeptInUse false mid) between dev
  told : (d : ℕ) → MoreOn (All IsClosing) (calls_of g between d) (calls_of g dev d)
  had : (c d : ℕ) → HasDeviceOn left c d → HasDeviceOn mid c d

module _ {D : Type 0} (g : Ghosts D) (map : Map) (label next : Label) (columns left : List Column) (old dev : List (Option D)) where
  named-so : (mid : List Column) (between : List (Option D)) (marked : Option Loss) (named : Bool) → MarksAll g map columns mid old between → Names g marked named label next mid left between dev None → Marked g map columns left old dev
  named-so mid between (Some by) named m n = absurd (let z : None ≡ Some n.0 = n.1 in let u : ⊥ = cc in u)
  named-so mid between None true m n = record {
    mid = mid;
    between = between;
    marks = m;
    frame = subst (λ (ds : List (Option D)). Changes g (IsKeptInUse false mid) between ds) (sym n.0.devices_are) (changes-refl g (IsKeptInUse false mid) between);
    told = λ d. subst (λ (ds : List (Option D)). MoreOn (All IsClosing) (calls_of g between d) (calls_of g ds d)) (sym n.0.devices_are) (more-none (All IsClosing) (calls_of g between d) (All-nil IsClosing));
    had = λ c d live. subst (λ (cs : List Column). HasDeviceOn cs c d) n.0.columns_are live;
  }
  named-so mid between None false m closes = record {
    mid = mid;
    between = between;
    marks = m;
    frame = closes.counted.stage.frame;
    told = closes.counted.stage.told;
    had = λ c d live. live_before (DiesIn g None mid between dev) mid left c d closes.counted.stage.dies live;
  }

marks-of : {D : Type 0} (g : Ghosts D) (notice : Notice) (y : Shape) (opened : Option Loss) (map : Map) (label next : Label) (columns left : List Column) (old dev : List (Option D)) → notice ≡ Marks map → opened ≡ None → Opens g notice y opened label next columns left old dev → Marked g map columns left old dev
marks-of g Round y opened map label next columns left old dev is none o = absurd (let z : Round ≡ Marks map = is in let u : ⊥ = cc in u)
marks-of g (Marks m) y (Some loss) map label next columns left old dev is none o = absurd (let z : Some loss ≡ None = none in let u : ⊥ = cc in u)
marks-of {D = D} g (Marks m) y None map label next columns left old dev is none o =
    subst (λ (k : Map). Marked g k columns left old dev) (let z : Marks m ≡ Marks map = is in let e : m ≡ map = cc in e)
    (named-so g m label next columns left old dev o.0 o.1 o.2 (names label columns && names label o.0) o.3 o.5)

-- an array that isn't lost wasn't so by what announced it
not-opened : (opened : Option Loss) → (is_some opened ≡ true → None ≡ opened) → opened ≡ None
not-opened None stays = refl
not-opened (Some loss) stays = sym (stays refl)

notice-is : (keeps : Bool) (marks : Map) → keeps ≡ true → notice_in keeps marks ≡ Marks marks
notice-is true marks h = refl
notice-is false marks h = never (sym h)

module _ {D : Type 0} (g : Ghosts D) (a : Work) (newest first last : Label) (taken opened served back : List (Option D)) (begun closed : List Column) (s : Service) (keeps : Bool) (clear : Option Map)
    (begins : BeginsLabelled g a newest taken opened begun keeps first None) (kept : keeps ≡ true)
    (may : ℕ → ℕ → Type 0) (run : Changes g may opened served)
    (idle : (d : ℕ) → ((c : ℕ) → HasDeviceOn begun c d → ⊥) → (c : ℕ) → HasDeviceOn a.columns c d → NoCalls (calls_of g opened d) (calls_of g served d))
    (stays : (c d k : ℕ) → HasDeviceOn closed c d → HasDeviceOn a.columns k d → (e : ℕ) × HasDeviceOn begun e d)
    (closes : EndsMapped g clear false (closing_label first) last closed s.ending.columns served back s.ending.lost)
    (settles : s.ending.lost ≡ None → EndsMappedSettled g clear (closing_label first) last closed s.ending.columns served back s.ending.lost)
    (clears : s.ending.lost ≡ None → is_some clear ≡ true) where
  abbrev y : Shape
  y = a.layout

  abbrev notice : Notice
  notice = notice_in keeps begins.marks

  abbrev sweep : Sweeps
  sweep = sweeps_in newest begins.union

  abbrev blank : Map
  blank = unmarked a.layout.stripes newest.serial

  has : HasBegun g notice sweep y newest first begins.read begun begins.looked opened None begins.found
  has = has-begun begins.unread begins.has
    where
      has-begun : (o : Option Loss) → BeginsUnless g o notice sweep y newest first begins.read begun begins.looked opened None begins.found → HasBegun g notice sweep y newest first begins.read begun begins.looked opened None begins.found
      has-begun None h = h
      has-begun (Some loss) h = let z : None ≡ Some loss = h.1 in absurd (let u : ⊥ = cc in u)

  reads : (d : ℕ) → MoreOn (All IsMapRead) (calls_of g taken d) (calls_of g begins.looked d)
  reads d = (looks_stage g y begins.unread blank begins.union a.columns begins.read taken begins.looked begins.looks).told d

  m : Marked g begins.marks begins.read has.left begins.looked has.dev
  m = marks-of g notice y has.opened begins.marks newest has.first begins.read has.left begins.looked has.dev (notice-is keeps begins.marks kept) (not-opened has.opened has.stays) has.opens

  abbrev unlost : Option Loss
  unlost = None

  -- whatever came behind the marks
  since : Changes g Anywhere m.between back
  since =
      changes-then g Anywhere m.between has.dev back (changes-more g (IsKeptInUse false m.mid) Anywhere m.between has.dev (λ d n h. tt) m.frame)
      (changes-then g Anywhere has.dev opened back (changes-more g (λ d n. ((is_some unlost ≡ true) × (n ≡ 0)) ⊎ MaySweep g sweep y begins.read begins.looked d n) Anywhere has.dev opened (λ d n h. tt) has.since)
      (changes-then g Anywhere opened served back (changes-more g may Anywhere opened served (λ d n h. tt) run)
      (changes-more g (MayEnd (is_some clear) closed) Anywhere served back (λ d n h. tt) closes.stage.frame)))

  -- ## Marks first

  -- a device that was marked
  was-marked : (c d : ℕ) → HasDeviceOn has.left c d → MoreOn MarksFirst (calls_of g taken d) (calls_of g back d)
  was-marked c d live =
      let here = m.had c d live in
      let on = live_before (LosesDevice g begins.read begins.looked m.between) begins.read m.mid c d (marks_dies g begins.marks begins.read m.mid begins.looked m.between m.marks) here in
      told-marked (calls_of g taken d) (calls_of g begins.looked d) (calls_of g m.between d) (calls_of g back d) (reads d)
      (subst (MarksOn (calls_of g begins.looked d) (calls_of g m.between d)) (ap (λ (o : Option ℕ). is_some o) here) (m.marks.marked.once c d (device_within begins.read c d on) on))
      (still-tells g Anywhere m.between back d since)

  -- one that wasn't, or failed as it was
  unmarked-quiet : (c d : ℕ) → HasDeviceOn a.columns c d → ((k : ℕ) → HasDeviceOn has.left k d → ⊥) → MoreOn MarksFirst (calls_of g taken d) (calls_of g back d)
  unmarked-quiet c d was none =
      let gone : (k : ℕ) → HasDeviceOn begun k d → ⊥ = λ k live. none k (has.lives k d live) in
      let away : (k : ℕ) → HasDeviceOn closed k d → ⊥ = λ k live. let h = stays k d c live was in gone h.0 h.1 in
      told-quiet (calls_of g taken d) (calls_of g back d)
      (no-more IsMarkOrRead (calls_of g taken d) (calls_of g served d) (calls_of g back d)
      (no-more IsMarkOrRead (calls_of g taken d) (calls_of g opened d) (calls_of g served d)
      (no-more IsMarkOrRead (calls_of g taken d) (calls_of g has.dev d) (calls_of g opened d)
      (more-then (All IsMarkOrRead) (All IsClosing) (All IsMarkOrRead) (calls_of g taken d) (calls_of g m.between d) (calls_of g has.dev d)
      (λ xs ys one two. All-append IsMarkOrRead xs ys one (All-weaker IsClosing IsMarkOrRead (λ c h. inr (inr h)) ys two))
      (more-then (All IsMapRead) (All IsMarkCall) (All IsMarkOrRead) (calls_of g taken d) (calls_of g begins.looked d) (calls_of g m.between d)
      (λ xs ys one two. All-append IsMarkOrRead xs ys (All-weaker IsMapRead IsMarkOrRead (λ c h. inl h) xs one) (All-weaker IsMarkCall IsMarkOrRead (λ c h. elim h [ inl write ↦ inr (inl write) | inr settle ↦ inr (inr (inr settle)) ]) ys two))
      (reads d) ((marks_stage g begins.marks begins.read m.mid begins.looked m.between m.marks None).told d))
      (m.told d))
      (has.behind d none)) (idle d gone c was)) (same-devices g served back d (closes.others d away)))

  -- ## Cleared last

  was-cleared : s.ending.lost ≡ None → (c d : ℕ) → HasDeviceOn s.ending.columns c d → MoreOn ClearsLast (calls_of g taken d) (calls_of g back d)
  was-cleared none c d live =
      let f = settles none in
      let mid = live_before (DiesIn g s.ending.lost f.mid f.dev back) f.mid s.ending.columns c d f.ends.stage.dies live in
      let on = live_before (LosesDevice g closed served f.dev) closed f.mid c d f.settles.dies mid in
      let some = clears none in
      told-cleared (calls_of g taken d) (calls_of g served d) (calls_of g f.dev d) (calls_of g back d)
      (still-tells g Anywhere taken served d before)
      (subst (λ (good : Bool). Tells (calls_of g served d) (calls_of g f.dev d) (call_of 2 0 0 good)) (ap (λ (o : Option ℕ). is_some o) mid) (f.settles.once c d (device_within closed c d on) on))
      (subst (λ b. MoreOn (All (IsEndingCall b)) (calls_of g f.dev d) (calls_of g back d)) some (f.ends.stage.told d))
      (f.ends.called some none c d live)
    where
      before : Changes g Anywhere taken served
      before =
          changes-then g Anywhere taken begins.looked served (changes-more g (λ _ _. ⊥) Anywhere taken begins.looked (λ d n h. tt) begins.looks.reads.frame)
          (changes-then g Anywhere begins.looked opened served (changes-more g (MayBegin g notice sweep y begins.read begins.looked) Anywhere begins.looked opened (λ d n h. tt) has.stage.frame)
          (changes-more g may Anywhere opened served (λ d n h. tt) run))

  pub in-order : MapsInOrder g a taken s back
  in-order = record {
    marked = λ c d was came live first last. came-so MarksFirst (calls_of g taken d) (calls_of g back d) was came first last
        (elim (in-use-or-not has.left d) [ inl on ↦ was-marked on.0 d on.1 | inr none ↦ unmarked-quiet c d live none ]);
    cleared = λ none c d was came live quiet first last. came-so ClearsLast (calls_of g taken d) (calls_of g back d) was came first last (was-cleared none c d live);
  }
