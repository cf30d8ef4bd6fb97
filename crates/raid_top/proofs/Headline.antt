-- A call of `--io` that ends well comes to what is asked, by what comes of every call.
use Rattle.std.specs.Prelude.{◌≡◌, ◌⊎◌, ◌<◌, ◌++◌, if◌then◌else◌, ℕ, Bool, true, false, List, [], ◌∷◌, All, Option, Some, None, Result, Ok, Err, codes, flat_map, length, option_map, slice_get, slice_index}
use Rattle.std.specs.Option.{option_map_or}
use Rattle.std.proofs.Common.{arith, refl, sym, ap, subst, inl, inr, append-nil, append_assoc, ◌∙◌}
use Rattle.blk_disk.specs.declared.disk.Disk.{Ghosts}
use Rattle.blk_disk.specs.Devices.{AreNamed, Changes, RisesOn, contents_of}
use Rattle.blk_disk.proofs.DeviceLaws.{changes-refl, changes_sector, rises-wider}
use Rattle.lay_core.specs.Layout.{Shape, blocks_in}
use Rattle.eng_array.specs.declared.start.Start.{Start}
use Rattle.eng_cols.specs.declared.column.Column.{Column}
use Rattle.eng_cols.specs.declared.column.Column.TheVariants as column
use Rattle.eng_cols.specs.declared.spot.Loss.{Loss}
use Rattle.eng_cols.specs.Cols.{ColumnState, HasDevice}
use Rattle.eng_cols.specs.Contents.{InSync, byte_of, decode}
use Rattle.eng_cols.specs.Deaths.{LosesDevice}
use Rattle.eng_cols.specs.Stripes.{states_of}
use Rattle.eng_cols.proofs.Sums.{below_same}
use Rattle.eng_world.specs.declared.item.Traced.{Traced}
use Rattle.graph_mean.specs.Graph.{View}
use Rattle.raid_conf.specs.declared.conf.Conf.{Conf}
use Rattle.raid_conf.specs.Form.{IsConf, conf_text}
use Rattle.raid_conf.specs.Layouts.{shape_of}
use Rattle.raid_label.specs.declared.label.Label.{Label}
use Rattle.raid_recon.proofs.Frames.{byte-same}
use Rattle.raid_script.specs.Asked.{Asked as Wish, Request as Item, scripted}
use Rattle.raid_script.specs.Form.{AreRequests}
use Rattle.raid_script.specs.History.{history_text}
use Rattle.raid_script.specs.Replies.{replies_text}
use Rattle.raid_script.specs.Trace.{event_line}
use Rattle.raid_text.specs.Text.{Text}
use Rattle.run_effect.specs.Effect.{Answer, Request, TakesEffect, WasFit, held}
use Rattle.run_effect.specs.Printed.{IsPlainRequest, script_text}
use Rattle.text_steps.specs.declared.at.At.{At}
use Rattle.top_acts.proofs.Named.{live_of}
use Rattle.top_bay.specs.Asked.{Asked, names_for}
use Rattle.top_duty.specs.Duty.{Admitted, Duty, IsWanted, OnArray, asked_of, duty_by, duty_for, judged, layout_of, with_joined}
use Rattle.top_duty.specs.Opening.{needs_of, opened_by, sizes_of}
use Rattle.top_duty.specs.Start.{has_failed, start_in}
use Rattle.top_duty.specs.Steps.{admitted_with, columns_of, present_of}
use Rattle.top_duty.specs.Taken.{Reads}
use Rattle.top_duty.proofs.Opens.{opened_count, present_count}
use Rattle.top_fetch.specs.Told.{Told}
use Rattle.top_labelled.specs.Begun.{IsAnew}
use Rattle.top_labelled.specs.Effect.{TakesEffectBegun}
use Rattle.top_labelled.specs.Ran.{RanLabelled}
use Rattle.top_labelled.proofs.Effect.{begun-effect}
use Rattle.top_open.specs.Opening.{Opened}
use Rattle.top_open.specs.Plan.{is_present}
use Rattle.top_open.specs.Steps.{is_blank, is_unlabelled}
use Rattle.top_open.specs.declared.fronts.Front.{Front}
use Rattle.top_open.specs.declared.fronts.Front.TheVariants.{Away, Unread, Held}
use Rattle.top_run.specs.Effect.{answer_of, request_of}
use Rattle.top_run.specs.Ran.{RanPlain, begun_in}
use Rattle.top_run.specs.Work.{Service}
use Rattle.top_run.specs.declared.service.Line.{Line}
use Rattle.top_run.proofs.Effect.{took-effect}
use Rattle.top_run.proofs.InTurnSame.{decode-same}
use Rattle.top_serve.specs.Served.{IsKeptAs}
use Rattle.top_serve.specs.Setups.{with_start}
use Rattle.top_close.specs.Stage.{IsGivenUp}
use Rattle.top_status.specs.Dead.{dead_columns, dead_text}
use Rattle.top_status.specs.Refusals.{Refused, ◌then◌}
use Rattle.top_status.specs.Status.{ending_text, numbers_line, status_of_loss, status_text}
use Rattle.top_status.specs.declared.status.Status.{Status}
use Rattle.top_status.specs.declared.status.Status.TheVariants as status
use Rattle.top_duty.specs.Views.{IsRefusal}
use Rattle.top_words.specs.Asked.{Action, Command, Io, profile_of}
use Rattle.top_words.specs.Judged.{Invocation, OnArray as OnCommand, invocation_of}
use Rattle.top_words.specs.declared.profile.Kind.{Kind}
use Rattle.top_words.specs.declared.profile.Kind.TheVariants as kind
use Rattle.raid_top.specs.Acted.{Acted}
use Rattle.raid_top.specs.Calls.{CallOutcome, OfArray, OfConf, OfScan, OfSimulation, OfTopic, Refuses, call_status, call_text}
use Rattle.raid_top.specs.Does.{Does, DoesDeed, DoesRun}
use Rattle.raid_top.specs.Ends.{Acts, Answers, Follows}
use Rattle.raid_top.specs.Headline.{AreBlank, AreOwn, EndAs, FailsByItem, Headline, Serves, disks_of, request_for}
use Rattle.raid_top.specs.Losses.{IsCauseOfDeath}
use Rattle.raid_top.specs.Outcome.{Outcome, Ran, Did, Looked, outcome_text, status_of, status_of_act}
use Rattle.raid_top.specs.Rebuilt.{rebuild_line}
use Rattle.raid_top.specs.Works.{work_of}
use Rattle.raid_top.proofs.Caused.{labelled_each, plain_each}
use Rattle.raid_top.proofs.Frames.{AnySector, Moves, due_moves}
use Rattle.raid_top.proofs.Printed.{asked_for, asked_is, command_for}
use Rattle.raid_top.proofs.Reading.{NoSector, reads_still, rises_late}
use Rattle.raid_top.proofs.Unlabelled.{OwnOr, absent_name, all_zero, columns_own, newest_is, unlabelled}
use Rattle.raid_top.proofs.Wanted.{is_admitted}

-- ## What is due is an array

-- what isn't refused is what was to be judged
judged_or : (d due : Duty) (f : Option Refused) → Ok d ≡ option_map_or (λ r. Err r) f (Ok due) → d ≡ due
judged_or d due None e = cc e
judged_or d due (Some r) e = absurd (let z : ⊥ = cc e in z)

of_kind : (kd : Kind) (k : Asked) (sizes : List ℕ) (fronts : List Front) (d : Duty) (l : Option Loss) (joined : Result (List View) At) → kd ≡ kind.Array → Ok d ≡ (duty_for kd k sizes fronts then λ x. judged x l joined) → (a : Admitted) × (d ≡ OnArray a)
of_kind kind.Array k sizes fronts d l joined same e = go (opened_by k sizes fronts) e
  where
    go : (r : Result Opened Refused) → Ok d ≡ ((r then λ o. Ok (OnArray (admitted_with k o (start_in k o sizes fronts) []))) then λ x. judged x l joined) → (a : Admitted) × (d ≡ OnArray a)
    go (Ok o) e = (with_joined (admitted_with k o (start_in k o sizes fronts) []) joined, judged_or d _ _ e)
    go (Err r) e = absurd (let z : ⊥ = cc e in z)
of_kind kind.Shown k sizes fronts d l joined same e = absurd (let z : ⊥ = cc same in z)
of_kind kind.Label k sizes fronts d l joined same e = absurd (let z : ⊥ = cc same in z)
of_kind kind.Conf k sizes fronts d l joined same e = absurd (let z : ⊥ = cc same in z)

due_array : (k : Asked) (sizes : List ℕ) (fronts : List Front) (d : Duty) → (profile_of k.command.action).kind ≡ kind.Array → IsWanted (duty_by k sizes fronts) (Ok d) → (a : Admitted) × (d ≡ OnArray a)
unfolding duty_by
due_array k sizes fronts d same h = of_kind (profile_of k.command.action).kind k sizes fronts d h.loss h.joined same h.is

-- ## Sector 0 was read

module _ {D : Type 0} (g : Ghosts D) (taken old back : List (Option D)) (read : Changes g NoSector taken old) where
  contents_same : g.tells → (d n k : ℕ) → contents_of g old d n k ≡ contents_of g taken d n k
  contents_same tells d n k = ap (λ (l : List ℕ). slice_index l k) (changes_sector g NoSector taken old d n read tells (λ f. f))

  fit_same : g.tells → (y : Shape) (cols : List ColumnState) → InSync y (contents_of g taken) cols → InSync y (contents_of g old) cols
  fit_same tells y cols fit s o k sw ou ku one all =
      below_same (λ i. byte_of y (contents_of g old) cols s i o k) (λ i. byte_of y (contents_of g taken) cols s i o k) y.width
      (λ i iw. byte-same g NoSector taken old y cols s i o k read tells (λ at stands f. f))
      ∙ fit s o k sw ou ku one all

  -- what took effect on the devices as they were read did so on those that were taken
  abbrev from_taken : (a : Request) (s : Answer) → TakesEffectBegun g a old back s → TakesEffectBegun g a taken back s
  from_taken a s e = record {
    begun = e.begun;
    columns = e.columns;
    count = e.count;
    dies = e.dies;
    fits = λ tells fit. e.fits tells (fit_same tells a.layout (states_of a.layout a.columns) fit);
    same = λ tells fit b k bl kl.
        e.same tells (fit_same tells a.layout (states_of a.layout a.columns) fit) b k bl kl
        ∙ decode-same a.layout (contents_of g old) (contents_of g taken) (states_of a.layout a.columns) (λ d n j jl. contents_same tells d n j) b k kl;
    effect = e.effect;
  }

-- ## What is printed

unlost : (l : Option Loss) → status_of_loss l ≡ status.Ok → l ≡ None
unlost None e = refl
unlost (Some loss) e = absurd (let z : ⊥ = cc e in z)

ok_line : status_text status.Ok ≡ codes "status ok\n"
unfolding numbers_line
ok_line = refl

module _ (s : Service) where
  abbrev replies : List ℕ
  replies = replies_text s.clients s.replies s.sectors

  abbrev lines : List ℕ
  lines = history_text s.history

  abbrev ended : Option Loss → List ℕ
  ended lost = ending_text s.ending.columns (status_of_loss lost)

  run_text : (c t : Text) (workers : ℕ) (map : Bool) (action : Action) → action ≡ (command_for c t workers map).action → s.trace ≡ [] → s.line ≡ None → s.ending.lost ≡ None
      → outcome_text (Ran action s) ≡ replies_text s.clients s.replies s.sectors ++ (history_text s.history ++ (dead_text (dead_columns s.ending.columns) ++ codes "status ok\n"))
  run_text c t workers map action is trace line lost =
      ap (λ (x : Action). outcome_text (Ran x s)) is
      ∙ (ap (λ (l : List Traced). (((replies ++ lines) ++ flat_map event_line l) ++ option_map_or rebuild_line s.line []) ++ ended s.ending.lost) trace
      ∙ (ap (λ (l : Option Line). (((replies ++ lines) ++ []) ++ option_map_or rebuild_line l []) ++ ended s.ending.lost) line
      ∙ (ap (λ (l : Option Loss). (((replies ++ lines) ++ []) ++ []) ++ ended l) lost
      ∙ (ap (λ (l : List ℕ). l ++ ended None) (append-nil ((replies ++ lines) ++ []))
      ∙ (ap (λ (l : List ℕ). l ++ ended None) (append-nil (replies ++ lines))
      ∙ (append_assoc replies lines (ended None)
      ∙ ap (λ (l : List ℕ). replies ++ (lines ++ (dead_text (dead_columns s.ending.columns) ++ l))) ok_line))))))

-- ## The run

no_line : {A B : Type 0} (f : A → B) (o : Option A) → o ≡ None → option_map f o ≡ None
no_line f None e = refl
no_line f (Some x) e = absurd (let z : ⊥ = cc e in z)

module _ {D : Type 0} (g : Ghosts D) (a : Admitted) (old back : List (Option D)) (failed : Bool) (unstarted : a.start ≡ None) (untraced : (work_of a).trace ≡ false) where
  -- it was served: it took effect, nothing was traced or rebuilt, and each column is kept or dead for a cause
  record HasRun (o : Outcome) : Type 0 where
    action : Action
    service : Service
    is : o ≡ Ran action service
    action_is : action ≡ a.asked.command.action
    effect : TakesEffectBegun g (request_of (work_of a)) old back (answer_of service)
    quiet : a.opened.newest ≡ None → (effect.columns ≡ a.opened.columns) × (effect.begun ≡ old)
    trace : service.trace ≡ []
    line : service.line ≡ None
    each : (c : ℕ) → IsKeptAs (slice_get (with_start a.start (columns_of a)) c) (slice_get service.ending.columns c)
        ⊎ ((slice_get service.ending.columns c ≡ Some column.Dead) × IsCauseOfDeath g a old back (Ran action service) c)

  -- over the devices as they were
  abbrev whole : (s : Answer) → TakesEffect g (request_of (work_of a)) old back s → TakesEffectBegun g (request_of (work_of a)) old back s
  whole s e = record {
    begun = old;
    columns = a.opened.columns;
    count = refl;
    dies = λ c. inl refl;
    fits = λ tells fit. fit;
    same = λ tells fit b k bl kl. refl;
    effect = e;
  }

  untold : (s : Service) (events : List Traced) → s.trace ≡ (if (work_of a).trace then events else []) → s.trace ≡ []
  untold s events is = is ∙ ap (λ (t : Bool). if t then events else []) untraced

  has_run : (newest : Option Label) → a.opened.newest ≡ newest → (o : Outcome) → DoesRun g a failed old back newest o → status_of o ≡ status.Ok → HasRun o
  has_run None e (Ran action s) d ok = record {
    action = action;
    service = s;
    is = refl;
    action_is = d.0;
    effect = whole (answer_of s) (took-effect g (work_of a) old s back d.1.run);
    quiet = λ none. (refl, refl);
    trace = untold s _ d.1.run.tells.trace;
    line = d.1.none.1;
    each = plain_each g a old back action s d.1;
  }
  has_run (Some l) e (Ran action s) d ok = record {
    action = action;
    service = s;
    is = refl;
    action_is = d.0;
    effect = begun-effect g (work_of a) l old s back failed (profile_of a.asked.command.action).map d.1;
    quiet = λ none. absurd (let z : ◌≡◌ {A = Option Label} (Some l) None = sym e ∙ none in let u : ⊥ = cc z in u);
    trace = untold s _ d.1.run.tells.trace;
    line = d.1.line ∙ no_line _ a.start unstarted;
    each = labelled_each g a old back action s l failed (profile_of a.asked.command.action).map d.1;
  }
  has_run None e (Did act en) d ok = absurd d
  has_run (Some l) e (Did act en) d ok =
      let z : status_of_loss (Some d.1.loss) ≡ status.Ok = sym (ap (λ (x : Option Loss). option_map_or (λ loss. status_of_loss (Some loss)) x (status_of_act act)) d.1.lost) ∙ ok in
      absurd (let u : ⊥ = cc z in u)
  has_run newest e (Looked text) d ok = absurd d

  -- ## How columns end

  module _ (taken : List (Option D)) (read : Changes g NoSector taken old) (o : Outcome) (h : HasRun o) (kept : h.service.ending.lost ≡ None) where
    cause : (c : ℕ) → IsCauseOfDeath g a old back (Ran h.action h.service) c → FailsByItem (answer_of h.service) c ⊎ LosesDevice g a.opened.columns taken back c
    cause c (inl (inl anew)) = absurd (subst (λ (how : Option Start). IsAnew how c) unstarted anew.0)
    cause c (inl (inr failed)) = inl (record { id = failed.id; asked = failed.asked; replied = failed.replied })
    cause c (inr (inl rose)) = inr (record {
      device = rose.0;
      had = live_of (layout_of a) a.opened.columns c rose.0 (subst (λ (how : Option Start). HasDevice (states_of (layout_of a) (with_start how a.opened.columns)) c rose.0) unstarted rose.1);
      rose = rises_late g taken old back [] rose.0 read rose.2;
    })
    cause c (inr (inr gave)) = absurd (subst (λ (l : Option Loss). IsGivenUp l a.opened.columns c) kept gave)

    end_as : EndAs g (answer_of h.service) taken back a.opened.columns
    end_as c = elim (h.each c) [
      | inl stays ↦ inl (subst (λ (how : Option Start). IsKeptAs (slice_get (with_start how a.opened.columns) c) (slice_get h.service.ending.columns c)) unstarted stays)
      | inr dead ↦ inr (dead.0, cause c dead.1)
    ]

-- ## A command

module _ {D : Type 0} (g : Ghosts D) (b : Told D) (conf : Conf) (items : List Item) (c t : Text) (workers : ℕ) (map : Bool) (is : IsConf conf) (plain : All (IsPlainRequest conf.columns) items) (few : AreRequests items)
    (conf_at : b.texts c ≡ Some (conf_text conf)) (script_at : b.texts t ≡ Some (script_text items)) (told : b.tells) (o : Outcome) (h : Acted g b (command_for c t workers map) o) (ok : status_of o ≡ status.Ok) where
  abbrev command : Command
  command = command_for c t workers map

  abbrev asks : Asked
  asks = asked_for conf items command

  abbrev sizes : List ℕ
  sizes = sizes_of g.size h.old

  same : asks ≡ asked_of h.duty
  same = asked_is b conf items c t workers map is plain few conf_at script_at (asked_of h.duty) (h.asked told)

  array : (a : Admitted) × (h.duty ≡ OnArray a)
  array = due_array (asked_of h.duty) sizes h.fronts h.duty (ap (λ (k : Asked). (profile_of k.command.action).kind) (sym same)) h.wanted

  abbrev a : Admitted
  a = array.0

  asked_so : asks ≡ a.asked
  asked_so = same ∙ ap asked_of array.1

  admitted : (x : Opened) × (views : List View) × (opened_by a.asked sizes h.fronts ≡ Ok x) × (admitted_with a.asked x (start_in a.asked x sizes h.fronts) views ≡ a)
  admitted = is_admitted a.asked sizes h.fronts a (subst (λ (d : Duty). IsWanted (duty_by (asked_of d) sizes h.fronts) (Ok d)) array.1 h.wanted)

  opens : opened_by a.asked sizes h.fronts ≡ Ok a.opened
  opens = admitted.2 ∙ ap (λ (x : Admitted). Ok x.opened) admitted.3

  unstarted : a.start ≡ None
  unstarted = sym (ap (λ (x : Admitted). x.start) admitted.3) ∙ ap (λ (k : Asked). start_in k admitted.0 sizes h.fronts) (sym asked_so)

  clients_are : a.clients ≡ (scripted items).clients
  clients_are = sym (ap (λ (x : Admitted). x.clients) admitted.3) ∙ ap (λ (k : Asked). (admitted_with k admitted.0 None []).clients) (sym asked_so)

  conf_is : a.asked.conf ≡ conf
  conf_is = ap (λ (k : Asked). k.conf) (sym asked_so)

  untraced : (work_of a).trace ≡ false
  untraced = ap (λ (k : Asked). option_map_or (λ beside. beside.trace) (profile_of k.command.action).beside false) (sym asked_so)

  read : Changes g NoSector h.taken h.old
  read = reads_still g h.taken h.old h.back h.fronts (profile_of (asked_of h.duty).command.action).reads h.read

  fronts_read : Reads g true h.taken h.old h.fronts
  fronts_read = subst (λ (k : Asked). Reads g (profile_of k.command.action).reads h.taken h.old h.fronts) (sym same) h.read

  -- ### What was done

  moves : Moves g h.old h.back
  moves = due_moves g h.duty h.fronts h.old h.back o h.does

  does : DoesRun g a (has_failed a.start h.fronts) h.old h.back a.opened.newest o
  does = subst (λ (k : Asked). DoesDeed g a (has_failed a.start h.fronts) h.old h.back (profile_of k.command.action).deed o) (sym asked_so)
      (subst (λ (d : Duty). Does g d h.fronts h.old h.back o) array.1 h.does)

  ran : HasRun g a h.old h.back (has_failed a.start h.fronts) unstarted untraced o
  ran = has_run g a h.old h.back (has_failed a.start h.fronts) unstarted untraced a.opened.newest refl o does ok

  abbrev s : Service
  s = ran.service

  lost_none : s.ending.lost ≡ None
  lost_none = unlost s.ending.lost (sym (ap status_of ran.is) ∙ ok)

  abbrev from : TakesEffectBegun g (request_of (work_of a)) h.taken h.back (answer_of s)
  from = from_taken g h.taken h.old h.back read (request_of (work_of a)) (answer_of s) ran.effect

  -- ### What was asked of it

  abbrev by : Conf → List (List Wish) → Request
  by x clients = record { layout = shape_of x a.opened.rows; columns = a.opened.columns; clients = clients }

  request_same : request_of (work_of a) ≡ request_for conf items a.opened.rows a.opened.columns
  request_same = ap (λ (x : Conf). by x a.clients) conf_is ∙ ap (λ (l : List (List Wish)). by conf l) clients_are

  abbrev effect : TakesEffectBegun g (request_for conf items a.opened.rows a.opened.columns) h.taken h.back (answer_of s)
  effect = record {
    begun = from.begun;
    columns = from.columns;
    count = from.count;
    dies = from.dies;
    fits = subst (λ (r : Request). g.tells → WasFit g r h.taken h.back (answer_of s) → InSync r.layout (contents_of g from.begun) (states_of r.layout from.columns)) request_same from.fits;
    same = subst (λ (r : Request). g.tells → WasFit g r h.taken h.back (answer_of s) → (n k : ℕ) → n < blocks_in r.layout → k < 512
        → decode r.layout (contents_of g from.begun) (states_of r.layout from.columns) n k ≡ held g r h.taken h.back (answer_of s) n k) request_same from.same;
    effect = subst (λ (r : Request). TakesEffect g (record r { columns = from.columns }) from.begun h.back (answer_of s)) request_same from.effect;
  }

  many : length a.opened.columns ≡ conf.columns
  many = opened_count a.asked sizes h.fronts a.opened (subst IsConf (sym conf_is) is) opens ∙ ap (λ (x : Conf). x.columns) conf_is

  -- ### Without labels

  module _ (tells : g.tells) (blank : AreBlank g conf h.taken) where
    present_many : length (present_of a.asked.conf) ≡ conf.columns
    present_many = present_count a.asked.conf (subst IsConf (sym conf_is) is) ∙ ap (λ (x : Conf). x.columns) conf_is

    is_zero : (d : ℕ) (f : Front) → d < length (present_of a.asked.conf) → slice_get h.fronts d ≡ Some f → is_blank f ≡ true
    is_zero d Away lt at = refl
    is_zero d Unread lt at = refl
    is_zero d (Held bytes) lt at =
        let front = fronts_read.0.each d (Held bytes) at in
        all_zero bytes (λ j jl. ap (λ (l : List ℕ). slice_index l j) (front.2 tells) ∙ blank d j (omega (arith, lt, present_many)) (let long = front.1 in omega (arith, jl, long)))

    unnamed : (needs_of a.asked).excused ≡ None
    unnamed = ap (λ (k : Asked). (needs_of k).excused) (sym asked_so)

    all_blank : is_unlabelled (needs_of a.asked) (length (present_of a.asked.conf)) h.fronts ≡ true
    all_blank = unlabelled (needs_of a.asked) (length (present_of a.asked.conf)) h.fronts is_zero

    newest_none : a.opened.newest ≡ None
    newest_none = newest_is a.asked sizes h.fronts a.opened opens unnamed all_blank

    -- a front that couldn't be read is of a device whose count rose
    own_so : (d : ℕ) → d < conf.columns → OwnOr (present_of a.asked.conf) h.fronts a.opened.columns d
        → (slice_get a.opened.columns d ≡ Some (column.Live d)) ⊎ ((slice_get a.opened.columns d ≡ Some column.Dead) × ((slice_get conf.disks d ≡ Some []) ⊎ RisesOn g h.taken h.back d))
    own_so d lt (inl live) = inl live
    own_so d lt (inr dead) = inr (
      dead.0,
      elim dead.1 [
        | inl absent ↦ inl (absent_name conf.disks d (let disks = is.disk_count in omega (arith, lt, disks)) (ap (λ (x : Conf). is_present (present_of x) d) (sym conf_is) ∙ absent))
        | inr unread ↦ inr (rises-wider g NoSector AnySector h.taken h.taken h.old h.back d (changes-refl g NoSector h.taken) (fronts_read.0.each d Unread unread) moves)
      ],
    )

    own : AreOwn g conf h.taken h.back a.opened.columns
    own d lt = own_so d lt (columns_own a.asked sizes h.fronts a.opened opens unnamed all_blank d (omega (arith, lt, present_many)))

    unmoved : (d n k : ℕ) → contents_of g from.begun d n k ≡ contents_of g h.taken d n k
    unmoved d n k = ap (λ (ds : List (Option D)). contents_of g ds d n k) (ran.quiet newest_none).1 ∙ contents_same g h.taken h.old h.back read tells d n k

  -- ### All of it

  pub serves : (sink_tells : Type 0) (before after : List ℕ) → (sink_tells → after ≡ before ++ outcome_text o) → Serves g b sink_tells before after conf items
  serves sink_tells before after text = record {
    rows = a.opened.rows;
    columns = a.opened.columns;
    taken = h.taken;
    back = h.back;
    told = answer_of s;
    before = subst (λ (k : Asked). AreNamed b.home (names_for k) h.taken) (sym same) (h.before told);
    after = subst (λ (k : Asked). AreNamed b.after (names_for k) h.back) (sym same) (h.after told);
    many = many;
    effect = effect;
    kept = lost_none;
    ends = end_as g a h.old h.back (has_failed a.start h.fronts) unstarted untraced h.taken read o ran lost_none;
    plain = λ tells blank. (own tells blank, (ran.quiet (newest_none tells blank)).0, unmoved tells blank);
    printed = λ sinks. text sinks ∙ ap (λ (l : List ℕ). before ++ l)
        (ap outcome_text ran.is ∙ run_text s c t workers map ran.action (ran.action_is ∙ ap (λ (k : Asked). k.command.action) (sym asked_so)) ran.trace ran.line lost_none);
  }

-- ## A call

module _ {D : Type 0} (g : Ghosts D) (b : Told D) (words : List Text) (sink_tells sink_rose : Type 0) (answer : Status) (old new : List ℕ) (call : Answers g b words sink_tells sink_rose answer old new) where
  pub headline : Headline g b sink_tells old new words answer
  headline conf items c t workers map words_are is plain few told conf_at script_at ok = elim call.printed [
    | inr cut ↦ let z : status.Ok ≡ status.SinkFault = sym ok ∙ cut.0 in absurd (let u : ⊥ = cc z in u)
    | inl whole ↦ go call.outcome call.acts (sym whole.0 ∙ ok) whole.1
  ]
    where
      asked : (i : Invocation) → invocation_of words ≡ Ok i → OnCommand (command_for c t workers map) ≡ i
      asked i e = let z : ◌≡◌ {A = Result Invocation ℕ} (Ok (OnCommand (command_for c t workers map))) (Ok i) = sym words_are ∙ e in cc z

      go : (o : CallOutcome) → Acts g b words o → call_status o ≡ status.Ok → (sink_tells → new ≡ old ++ call_text o) → Serves g b sink_tells old new conf items
      go (OfArray o) acts e text =
          serves g b conf items c t workers map is plain few conf_at script_at told o
          (subst (λ (i : Invocation). Follows g b i (OfArray o)) (sym (asked acts.0 acts.1)) acts.2) e sink_tells old new text
      go (Refuses r) acts e text = absurd (subst (λ (x : Status). IsRefusal b.rose x) e acts.kind)
      go (OfScan said) acts e text = absurd (subst (λ (i : Invocation). Follows g b i (OfScan said)) (sym (asked acts.0 acts.1)) acts.2)
      go (OfSimulation said) acts e text = absurd (subst (λ (i : Invocation). Follows g b i (OfSimulation said)) (sym (asked acts.0 acts.1)) acts.2)
      go (OfConf said) acts e text = absurd (subst (λ (i : Invocation). Follows g b i (OfConf said)) (sym (asked acts.0 acts.1)) acts.2)
      go (OfTopic said) acts e text = absurd (subst (λ (i : Invocation). Follows g b i (OfTopic said)) (sym (asked acts.0 acts.1)) acts.2)
