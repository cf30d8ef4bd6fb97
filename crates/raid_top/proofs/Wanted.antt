-- What is wanted is one: a duty, or one refusal.
use Rattle.std.specs.Prelude.{◌≡◌, ◌&&◌, ℕ, Bool, true, false, List, [], ◌∷◌, length, Option, Some, None, Result, Ok, Err, if◌then◌else◌, is_none, option_map, unwrap_or}
use Rattle.std.proofs.Common.{refl, sym, ap, subst, ◌∙◌}
use Rattle.blk_disk.specs.declared.disk.Disk.{Ghosts}
use Rattle.eng_array.specs.declared.start.Start.{Start}
use Rattle.eng_array.specs.declared.start.Start.TheVariants as start
use Rattle.eng_cols.specs.declared.column.Column.{Column}
use Rattle.eng_cols.specs.declared.spot.Loss.{Loss}
use Rattle.eng_cols.proofs.Losing.{lost-excludes}
use Rattle.raid_conf.specs.declared.conf.Conf.{Conf}
use Rattle.graph_mean.specs.Graph.{View}
use Rattle.text_steps.specs.declared.at.At.{At}
use Rattle.raid_text.specs.Text.{Text}
use Rattle.top_bay.specs.Asked.{Asked, asked_in, names_for}
use Rattle.top_fetch.specs.Told.{Told}
use Rattle.top_join.proofs.OneEnd.{one_end}
use Rattle.top_open.specs.Opening.{Opened}
use Rattle.top_open.specs.declared.fronts.Front.{Front}
use Rattle.top_status.specs.declared.status.Status.TheVariants as status
use Rattle.top_status.specs.Refusals.{Refused, ◌then◌, only}
use Rattle.top_words.specs.Asked.{Action, Command, Io, Sweep, Show, ShowMap, Init, Check, Rewrite, Print, Fail, ShowLabel, Label as Labels, Rebuild, Resume, profile_of}
use Rattle.top_duty.specs.Duty.{Admitted, Duty, OnArray, Shows, OneLabel, PrintConf, IsWanted, WantsMemory, asked_of, beside_dead, duty_by, duty_for, duty_in, is_past_bound, judged, judged_states, layout_of, with_joined, short_status}
use Rattle.top_duty.specs.Steps.{ComesOfJoins, columns_of, if_apart, if_past, unless, onto_spare, rebuild_elsewhere, admitted_with, is_short, first_of}
use Rattle.top_close.specs.Ended.{IsLossBy}
use Rattle.top_duty.specs.Opening.{filling_at, kind_of, needs_for, needs_of, opened_by, sizes_in}
use Rattle.top_duty.specs.Start.{free_spare, has_places, start_in}
use Rattle.top_duty.specs.Views.{other_of, short_of}
use Rattle.top_words.specs.declared.profile.Kind.{Kind}
use Rattle.top_duty.proofs.Sized.{duty_err}
use Rattle.top_words.specs.declared.profile.Kind.TheVariants as kind
use Rattle.top_duty.proofs.Words.{start_by}

-- An array is judged well: it isn't lost by the columns as the action makes them, no other column is filling, there is somewhere to rebuild a column to that is to be, or something to go on with, graphs are joined, and its trace has room.
record IsKept (a : Admitted) (d : Duty) : Type 0 where
  views : List View
  is : OnArray (record a { joined = views }) ≡ d
  loss : IsLossBy (layout_of a) None (judged_states a) None
  alone : other_of a ≡ None
  found : is_short a ≡ false
  joins : ComesOfJoins a (Ok views)
  bound : is_past_bound (record a { joined = views }) ≡ false

abbrev IsJudged : Duty → Duty → Type 0
IsJudged (OnArray a) d = IsKept a d
IsJudged (Shows k o) d = Shows k o ≡ d
IsJudged (OneLabel k) d = OneLabel k ≡ d
IsJudged (PrintConf k) d = PrintConf k ≡ d

-- What is due is what is wanted.
record IsMade (w : Result Duty Refused) (d : Duty) : Type 0 where
  due : Duty
  is : w ≡ Ok due
  judged_so : IsJudged due d

-- what is done if the trace has room, or not
past_or : (b : Bool) (d e : Duty) (r : Refused) → Ok d ≡ unless (first_of ((if b then Some r else None) ∷ [])) e → (b ≡ false) × (e ≡ d)
past_or true d e r h = absurd (let z : ⊥ = cc h in z)
past_or false d e r h = (refl, cc h)

-- and if graphs are joined, or aren't
module _ (a : Admitted) (d : Duty) (loss : IsLossBy (layout_of a) None (judged_states a) None) (alone : other_of a ≡ None) (found : is_short a ≡ false) where
  apart_or : (joined : Result (List View) At) → ComesOfJoins a joined
      → Ok d ≡ unless (first_of (if_apart a joined ∷ if_past (with_joined a joined) ∷ [])) (OnArray (with_joined a joined)) → IsKept a d
  apart_or (Err at) comes h = absurd (let z : ⊥ = cc h in z)
  apart_or (Ok views) comes h =
      let last = past_or (is_past_bound (record a { joined = views })) d (OnArray (record a { joined = views })) (beside_dead (record a { joined = views }) (status.Script 0 8)) h in
      record { views = views; is = last.1; loss = loss; alone = alone; found = found; joins = comes; bound = last.0 }

-- and if there is somewhere to rebuild to, or something to go on with, or not; and if another column is filling
module _ (a : Admitted) (d : Duty) (joined : Result (List View) At) (loss : IsLossBy (layout_of a) None (judged_states a) None) where
  short_or : other_of a ≡ None → (is_short a ≡ false → ComesOfJoins a joined) → (b : Bool) → is_short a ≡ b → (r : Refused)
      → Ok d ≡ unless (first_of ((if b then Some r else None) ∷ if_apart a joined ∷ if_past (with_joined a joined) ∷ [])) (OnArray (with_joined a joined)) → IsKept a d
  short_or alone comes true is r h = absurd (let z : ⊥ = cc h in z)
  short_or alone comes false is r h = apart_or a d loss alone is joined (comes is) h

  other_or : (other_of a ≡ None → is_short a ≡ false → ComesOfJoins a joined) → (other : Option ℕ) → other_of a ≡ other
      → Ok d ≡ unless (first_of (option_map (λ c. only (status.Rebuilding c)) other ∷ (if is_short a then Some (only (short_status (profile_of a.asked.command.action).rebuild)) else None) ∷ if_apart a joined ∷ if_past (with_joined a joined) ∷ [])) (OnArray (with_joined a joined)) → IsKept a d
  other_or comes None is h = short_or is (comes is) (is_short a) refl (only (short_of a)) h
  other_or comes (Some c) is h = absurd (let z : ⊥ = cc h in z)

-- and if it isn't lost
kept_or : (a : Admitted) (d : Duty) (joined : Result (List View) At) (l : Option Loss) → IsLossBy (layout_of a) None (judged_states a) l → (l ≡ None → other_of a ≡ None → is_short a ≡ false → ComesOfJoins a joined)
    → Ok d ≡ judged (OnArray a) l joined → IsKept a d
kept_or a d joined None loss comes h = other_or a d joined loss (comes refl) (other_of a) refl h
kept_or a d joined (Some x) loss comes h = absurd (let z : ⊥ = cc h in z)

made_from : (w x : Result Duty Refused) (d : Duty) → IsWanted w (Ok d) → x ≡ w → IsMade w d
made_from w (Err r) d h same =
    let e : Ok d ≡ (Err r then λ k. judged k h.loss h.joined) = subst (λ (y : Result Duty Refused). Ok d ≡ (y then λ k. judged k h.loss h.joined)) (sym same) h.is in
    absurd (let z : ⊥ = cc e in z)
made_from w (Ok (OnArray a)) d h same =
    let e : Ok d ≡ (Ok (OnArray a) then λ k. judged k h.loss h.joined) = subst (λ (y : Result Duty Refused). Ok d ≡ (y then λ k. judged k h.loss h.joined)) (sym same) h.is in
    record { due = OnArray a; is = sym same; judged_so = kept_or a d h.joined h.loss (h.is_loss a (sym same)) (h.is_joined a (sym same)) e }
made_from w (Ok (Shows k o)) d h same =
    let e : Ok d ≡ (Ok (Shows k o) then λ k. judged k h.loss h.joined) = subst (λ (y : Result Duty Refused). Ok d ≡ (y then λ k. judged k h.loss h.joined)) (sym same) h.is in
    record { due = Shows k o; is = sym same; judged_so = (let one : Shows k o ≡ d = cc e in one) }
made_from w (Ok (OneLabel k)) d h same =
    let e : Ok d ≡ (Ok (OneLabel k) then λ k. judged k h.loss h.joined) = subst (λ (y : Result Duty Refused). Ok d ≡ (y then λ k. judged k h.loss h.joined)) (sym same) h.is in
    record { due = OneLabel k; is = sym same; judged_so = (let one : OneLabel k ≡ d = cc e in one) }
made_from w (Ok (PrintConf k)) d h same =
    let e : Ok d ≡ (Ok (PrintConf k) then λ k. judged k h.loss h.joined) = subst (λ (y : Result Duty Refused). Ok d ≡ (y then λ k. judged k h.loss h.joined)) (sym same) h.is in
    record { due = PrintConf k; is = sym same; judged_so = (let one : PrintConf k ≡ d = cc e in one) }

is_made : (w : Result Duty Refused) (d : Duty) → IsWanted w (Ok d) → IsMade w d
is_made w d h = made_from w w d h refl

-- one duty at most is wanted
one_joined : (a : Admitted) (views others : List View) → ComesOfJoins a (Ok views) → ComesOfJoins a (Ok others) → views ≡ others
one_joined a views others h k =
    let same : ◌≡◌ {A = Result (List View) At} (Ok views) (Ok others) = one_end (layout_of a) a.asked.book a.asked.clients (length a.asked.book) a.asked.joins (Ok views) (Ok others) h k in
    cc same

one_judged : (due d e : Duty) → IsJudged due d → IsJudged due e → d ≡ e
one_judged (OnArray a) d e one two =
    sym one.is ∙ (ap (λ (vs : List View). OnArray (record a { joined = vs })) (one_joined a one.views two.views one.joins two.joins) ∙ two.is)
one_judged (Shows k o) d e one two = sym one ∙ two
one_judged (OneLabel k) d e one two = sym one ∙ two
one_judged (PrintConf k) d e one two = sym one ∙ two

pub one_duty : (w : Result Duty Refused) (d e : Duty) → IsWanted w (Ok d) → IsWanted w (Ok e) → d ≡ e
one_duty w d e one two =
    let first = is_made w d one in
    let second = is_made w e two in
    let same : first.due ≡ second.due = (let both : Ok first.due ≡ Ok second.due = sym first.is ∙ second.is in cc both) in
    one_judged second.due d e (subst (λ (x : Duty). IsJudged x d) same first.judged_so) second.judged_so

-- ## What is due isn't refused

refused_past : (b : Bool) (e : Duty) (r x : Refused) → b ≡ false → Err r ≡ unless (first_of ((if b then Some x else None) ∷ [])) e → ⊥
refused_past true e r x is h = cc is
refused_past false e r x is h = cc h

module _ (a : Admitted) (d : Duty) (r : Refused) (kept : IsKept a d) where
  refused_apart : (joined : Result (List View) At) → Ok kept.views ≡ joined
      → Err r ≡ unless (first_of (if_apart a joined ∷ if_past (with_joined a joined) ∷ [])) (OnArray (with_joined a joined)) → ⊥
  refused_apart (Err at) is h = cc is
  refused_apart (Ok views) is h =
      let same : kept.views ≡ views = cc is in
      refused_past (is_past_bound (record a { joined = views })) (OnArray (record a { joined = views })) r (beside_dead (record a { joined = views }) (status.Script 0 8))
      (subst (λ (vs : List View). is_past_bound (record a { joined = vs }) ≡ false) same kept.bound) h

  refused_short : (joined : Result (List View) At) → Ok kept.views ≡ joined → (b : Bool) → b ≡ false → (x : Refused)
      → Err r ≡ unless (first_of ((if b then Some x else None) ∷ if_apart a joined ∷ if_past (with_joined a joined) ∷ [])) (OnArray (with_joined a joined)) → ⊥
  refused_short joined is true found x h = cc found
  refused_short joined is false found x h = refused_apart joined is h

  refused_other : (joined : Result (List View) At) → Ok kept.views ≡ joined → (other : Option ℕ) → other ≡ None
      → Err r ≡ unless (first_of (option_map (λ c. only (status.Rebuilding c)) other ∷ (if is_short a then Some (only (short_status (profile_of a.asked.command.action).rebuild)) else None) ∷ if_apart a joined ∷ if_past (with_joined a joined) ∷ [])) (OnArray (with_joined a joined)) → ⊥
  refused_other joined is (Some c) alone h = cc alone
  refused_other joined is None alone h = refused_short joined is (is_short a) kept.found (only (short_of a)) h

  refused_not : (joined : Result (List View) At) (l : Option Loss) → IsLossBy (layout_of a) None (judged_states a) l → (l ≡ None → other_of a ≡ None → is_short a ≡ false → ComesOfJoins a joined)
      → Err r ≡ judged (OnArray a) l joined → ⊥
  refused_not joined None is comes h =
      refused_other joined
      (one_end (layout_of a) a.asked.book a.asked.clients (length a.asked.book) a.asked.joins (Ok kept.views) joined kept.joins (comes refl kept.alone kept.found))
      (other_of a) kept.alone h
  refused_not joined (Some loss) is comes h = lost-excludes (layout_of a) (judged_states a) loss is kept.loss

not_refused : (due d : Duty) (r : Refused) (l : Option Loss) (joined : Result (List View) At) → IsJudged due d
    → ((a : Admitted) → due ≡ OnArray a → IsLossBy (layout_of a) None (judged_states a) l)
    → ((a : Admitted) → due ≡ OnArray a → l ≡ None → other_of a ≡ None → is_short a ≡ false → ComesOfJoins a joined)
    → Err r ≡ judged due l joined → ⊥
not_refused (OnArray a) d r l joined kept loss comes e = refused_not a d r kept joined l (loss a refl) (comes a refl) e
not_refused (Shows k o) d r l joined kept loss comes e = cc e
not_refused (OneLabel k) d r l joined kept loss comes e = cc e
not_refused (PrintConf k) d r l joined kept loss comes e = cc e

-- and what is due isn't refused
pub due_or_refused : (w : Result Duty Refused) (d : Duty) (r : Refused) → IsWanted w (Ok d) → IsWanted w (Err r) → ⊥
due_or_refused w d r one two =
    let made = is_made w d one in
    not_refused made.due d r two.loss two.joined made.judged_so
    (λ a e. two.is_loss a (made.is ∙ ap (λ (x : Duty). Ok x) e))
    (λ a e. two.is_joined a (made.is ∙ ap (λ (x : Duty). Ok x) e))
    (subst (λ (y : Result Duty Refused). Err r ≡ (y then λ k. judged k two.loss two.joined)) made.is two.is)

-- ## Want of memory

memory_of : (due d : Duty) (a : Admitted) → IsJudged due d → d ≡ OnArray a → (b : Admitted) × (due ≡ OnArray b) × (beside_dead a status.Memory ≡ beside_dead b status.Memory)
memory_of (OnArray b) d a kept e =
    let both : OnArray (record b { joined = kept.views }) ≡ OnArray a = kept.is ∙ e in
    let same : record b { joined = kept.views } ≡ a = cc both in
    (b, refl, sym (ap (λ (x : Admitted). beside_dead x status.Memory) same))
memory_of (Shows k o) d a is e = let both : Shows k o ≡ OnArray a = is ∙ e in absurd (let z : ⊥ = cc both in z)
memory_of (OneLabel k) d a is e = let both : OneLabel k ≡ OnArray a = is ∙ e in absurd (let z : ⊥ = cc both in z)
memory_of (PrintConf k) d a is e = let both : PrintConf k ≡ OnArray a = is ∙ e in absurd (let z : ⊥ = cc both in z)

-- what is wanted beside an array is wanted as it was opened
pub wants_memory : (w : Result Duty Refused) (d : Duty) (r : Refused) (a : Admitted) → IsWanted w (Ok d) → d ≡ OnArray a → r ≡ beside_dead a status.Memory → WantsMemory w r
wants_memory w d r a h e is =
    let made = is_made w d h in
    let of = memory_of made.due d a made.judged_so e in
    (of.0, made.is ∙ ap (λ (x : Duty). Ok x) of.1, is ∙ of.2)

-- ## What was asked

opened_asked : (k : Asked) (f : Opened → Duty) (r : Result Opened Refused) (d : Duty) → ((o : Opened) → asked_of (f o) ≡ k) → (r then λ o. Ok (f o)) ≡ Ok d → asked_of d ≡ k
opened_asked k f (Ok o) d each e = let same : f o ≡ d = cc e in sym (ap asked_of same) ∙ each o
opened_asked k f (Err r) d each e = cc e

duty_asked : (kd : Kind) (k : Asked) (sizes : List ℕ) (fronts : List Front) (d : Duty) → duty_for kd k sizes fronts ≡ Ok d → asked_of d ≡ k
duty_asked kind.Array k sizes fronts d e = opened_asked k (λ o. OnArray (admitted_with k o (start_in k o sizes fronts) [])) (opened_by k sizes fronts) d (λ o. refl) e
duty_asked kind.Shown k sizes fronts d e = opened_asked k (λ o. Shows k o) (opened_by k sizes fronts) d (λ o. refl) e
duty_asked kind.Label k sizes fronts d e = let same : OneLabel k ≡ d = cc e in sym (ap asked_of same)
duty_asked kind.Conf k sizes fronts d e = let same : PrintConf k ≡ d = cc e in sym (ap asked_of same)

by_asked : (k : Asked) (sizes : List ℕ) (fronts : List Front) (d : Duty) → duty_by k sizes fronts ≡ Ok d → asked_of d ≡ k
unfolding duty_by
by_asked k sizes fronts d e = duty_asked (kind_of k.command.action) k sizes fronts d e

of_due : {D : Type 0} (size : D → ℕ) (b : Told D) (command : Command) (fronts : List Front) (k : Asked) (d : Duty) → asked_in b command ≡ Ok k → duty_in size b command fronts ≡ Ok d → asked_of d ≡ k
unfolding duty_in
of_due size b command fronts k d asks e =
    by_asked k (sizes_in size b.home (names_for k)) fronts d
    (subst (λ (r : Result Asked Refused). (r then λ x. duty_by x (sizes_in size b.home (names_for x)) fronts) ≡ Ok d) asks e)

same_asked : (due d : Duty) → IsJudged due d → asked_of due ≡ asked_of d
same_asked (OnArray a) d kept = ap asked_of kept.is
same_asked (Shows k o) d is = ap asked_of is
same_asked (OneLabel k) d is = ap asked_of is
same_asked (PrintConf k) d is = ap asked_of is

-- a duty is of what was asked
pub asked_is : {D : Type 0} (size : D → ℕ) (b : Told D) (command : Command) (fronts : List Front) (k : Asked) (d : Duty) → asked_in b command ≡ Ok k → IsWanted (duty_in size b command fronts) (Ok d) → asked_of d ≡ k
asked_is size b command fronts k d asks h =
    let made = is_made (duty_in size b command fronts) d h in
    sym (same_asked made.due d made.judged_so) ∙ of_due size b command fronts k made.due asks made.is

-- where something is due, texts and names are right
pub asked_made : {D : Type 0} (g : Ghosts D) (b : Told D) (command : Command) (fronts : List Front) (d : Duty) → IsWanted (duty_in g.size b command fronts) (Ok d) → asked_in b command ≡ Ok (asked_of d)
asked_made g b command fronts d h = go (asked_in b command) refl
  where
    go : (r : Result Asked Refused) → asked_in b command ≡ r → asked_in b command ≡ Ok (asked_of d)
    go (Ok k) e = e ∙ ap (λ (x : Asked). Ok x) (sym (asked_is g.size b command fronts k d e h))
    go (Err r) e = let made = is_made (duty_in g.size b command fronts) d h in absurd (let z : ⊥ = cc (made.is, duty_err g b command r fronts e) in z)

-- ## What is rebuilt

-- the column that is rebuilt anew is the one that the action names; one that goes on is the one that is filling
abbrev pub IsNamedFor : Option ℕ → List Column → Start → Type 0
IsNamedFor excused columns (start.Fill c device most) = excused ≡ Some c
IsNamedFor excused columns (start.Resume c most) = filling_at columns ≡ Some c
IsNamedFor excused columns (start.Spread c) = excused ≡ Some c

abbrev pub IsNamed : Duty → Type 0
IsNamed (OnArray a) = (s : Start) → a.start ≡ Some s → IsNamedFor (needs_of a.asked).excused (columns_of a) s
IsNamed (Shows k o) = Unit {0}
IsNamed (OneLabel k) = Unit {0}
IsNamed (PrintConf k) = Unit {0}

onto_named : (columns : List Column) (most c : ℕ) (free : Option ℕ) (places : Bool) (s : Start) → onto_spare most c free places ≡ Some s → IsNamedFor (Some c) columns s
onto_named columns most c (Some d) places s e = let same : start.Fill c d most ≡ s = cc e in subst (IsNamedFor (Some c) columns) same refl
onto_named columns most c None true s e = let same : start.Spread c ≡ s = cc e in subst (IsNamedFor (Some c) columns) same refl
onto_named columns most c None false s e = absurd (let z : ⊥ = cc e in z)

elsewhere_named : (limit : Option ℕ) (conf : Conf) (o : Opened) (sizes : List ℕ) (fronts : List Front) (comp : Option ℕ) (s : Start) → rebuild_elsewhere limit conf o sizes fronts comp ≡ Some s → IsNamedFor comp o.columns s
elsewhere_named limit conf o sizes fronts None s e = absurd (let z : ⊥ = cc e in z)
elsewhere_named limit conf o sizes fronts (Some c) s e = onto_named o.columns (unwrap_or limit 4294967295) c (free_spare conf o sizes fronts) (is_none limit && has_places conf o.columns) s e

in_place_named : (columns : List Column) (limit comp : Option ℕ) (s : Start) → option_map (λ i. start.Fill i i (unwrap_or limit 4294967295)) comp ≡ Some s → IsNamedFor comp columns s
in_place_named columns limit None s e = absurd (let z : ⊥ = cc e in z)
in_place_named columns limit (Some c) s e = let same : start.Fill c c (unwrap_or limit 4294967295) ≡ s = cc e in subst (IsNamedFor (Some c) columns) same refl

further_named : (excused : Option ℕ) (columns : List Column) (limit filling : Option ℕ) (s : Start) → filling_at columns ≡ filling → option_map (λ i. start.Resume i (unwrap_or limit 4294967295)) filling ≡ Some s → IsNamedFor excused columns s
further_named excused columns limit None s is e = absurd (let z : ⊥ = cc e in z)
further_named excused columns limit (Some c) s is e = let same : start.Resume c (unwrap_or limit 4294967295) ≡ s = cc e in subst (IsNamedFor excused columns) same is

start_named : (action : Action) (comp : Option ℕ) (conf : Conf) (o : Opened) (sizes : List ℕ) (fronts : List Front) (s : Start) → start_by action comp conf o sizes fronts ≡ Some s → IsNamedFor (needs_for action comp).excused o.columns s
start_named (Rebuild true name limit beside workers mapped) comp conf o sizes fronts s e = in_place_named o.columns limit comp s e
start_named (Rebuild false name limit beside workers mapped) comp conf o sizes fronts s e = elsewhere_named limit conf o sizes fronts comp s e
start_named (Resume limit beside workers mapped) comp conf o sizes fronts s e = further_named None o.columns limit (filling_at o.columns) s refl e
start_named (Io beside workers mapped) comp conf o sizes fronts s e = absurd (let z : ⊥ = cc e in z)
start_named (Sweep seed clients ops workers mapped) comp conf o sizes fronts s e = absurd (let z : ⊥ = cc e in z)
start_named Show comp conf o sizes fronts s e = absurd (let z : ⊥ = cc e in z)
start_named ShowMap comp conf o sizes fronts s e = absurd (let z : ⊥ = cc e in z)
start_named Init comp conf o sizes fronts s e = absurd (let z : ⊥ = cc e in z)
start_named Check comp conf o sizes fronts s e = absurd (let z : ⊥ = cc e in z)
start_named Rewrite comp conf o sizes fronts s e = absurd (let z : ⊥ = cc e in z)
start_named Print comp conf o sizes fronts s e = absurd (let z : ⊥ = cc e in z)
start_named (Fail name) comp conf o sizes fronts s e = absurd (let z : ⊥ = cc e in z)
start_named (ShowLabel name) comp conf o sizes fronts s e = absurd (let z : ⊥ = cc e in z)
start_named (Labels serial) comp conf o sizes fronts s e = absurd (let z : ⊥ = cc e in z)

array_named : (k : Asked) (sizes : List ℕ) (fronts : List Front) (r : Result Opened Refused) (d : Duty) → (r then λ o. Ok (OnArray (admitted_with k o (start_in k o sizes fronts) []))) ≡ Ok d → IsNamed d
array_named k sizes fronts (Ok o) d e =
    let same : OnArray (admitted_with k o (start_in k o sizes fronts) []) ≡ d = cc e in
    subst IsNamed same (λ s is. start_named k.command.action k.comp k.conf o sizes fronts s is)
array_named k sizes fronts (Err r) d e = cc e

shown_named : (k : Asked) (r : Result Opened Refused) (d : Duty) → (r then λ o. Ok (Shows k o)) ≡ Ok d → IsNamed d
shown_named k (Ok o) d e = let same : Shows k o ≡ d = cc e in subst IsNamed same tt
shown_named k (Err r) d e = cc e

kind_named : (kd : Kind) (k : Asked) (sizes : List ℕ) (fronts : List Front) (d : Duty) → duty_for kd k sizes fronts ≡ Ok d → IsNamed d
kind_named kind.Array k sizes fronts d e = array_named k sizes fronts (opened_by k sizes fronts) d e
kind_named kind.Shown k sizes fronts d e = shown_named k (opened_by k sizes fronts) d e
kind_named kind.Label k sizes fronts d e = let same : OneLabel k ≡ d = cc e in subst IsNamed same tt
kind_named kind.Conf k sizes fronts d e = let same : PrintConf k ≡ d = cc e in subst IsNamed same tt

by_named : (k : Asked) (sizes : List ℕ) (fronts : List Front) (d : Duty) → duty_by k sizes fronts ≡ Ok d → IsNamed d
unfolding duty_by
by_named k sizes fronts d e = kind_named (kind_of k.command.action) k sizes fronts d e

asked_named : (r : Result Asked Refused) (sizes : Asked → List ℕ) (fronts : List Front) (d : Duty) → (r then λ k. duty_by k (sizes k) fronts) ≡ Ok d → IsNamed d
asked_named (Ok k) sizes fronts d e = by_named k (sizes k) fronts d e
asked_named (Err r) sizes fronts d e = cc e

named_due : {D : Type 0} (size : D → ℕ) (b : Told D) (command : Command) (fronts : List Front) (d : Duty) → duty_in size b command fronts ≡ Ok d → IsNamed d
unfolding duty_in
named_due size b command fronts d e = asked_named (asked_in b command) (λ k. sizes_in size b.home (names_for k)) fronts d e

judged_named : (due d : Duty) → IsJudged due d → IsNamed due → IsNamed d
judged_named (OnArray a) d kept named = subst IsNamed kept.is named
judged_named (Shows k o) d is named = subst IsNamed is named
judged_named (OneLabel k) d is named = subst IsNamed is named
judged_named (PrintConf k) d is named = subst IsNamed is named

pub is_named : {D : Type 0} (size : D → ℕ) (b : Told D) (command : Command) (fronts : List Front) (d : Duty) → IsWanted (duty_in size b command fronts) (Ok d) → IsNamed d
is_named size b command fronts d h =
    let made = is_made (duty_in size b command fronts) d h in
    judged_named made.due d made.judged_so (named_due size b command fronts made.due made.is)

-- the same by sizes and fronts alone
pub named_by : (k : Asked) (sizes : List ℕ) (fronts : List Front) (d : Duty) → IsWanted (duty_by k sizes fronts) (Ok d) → IsNamed d
named_by k sizes fronts d h =
    let made = is_made (duty_by k sizes fronts) d h in
    judged_named made.due d made.judged_so (by_named k sizes fronts made.due made.is)

-- ## What is admitted

-- an array is admitted as it is opened, with the rebuild that the action begins or goes on with, and with graphs that are joined
abbrev pub IsAdmittedBy : Asked → List ℕ → List Front → Admitted → Type 0
IsAdmittedBy k sizes fronts a = (o : Opened) × (views : List View) × (opened_by k sizes fronts ≡ Ok o) × (admitted_with k o (start_in k o sizes fronts) views ≡ a)

array_by : (k : Asked) (sizes : List ℕ) (fronts : List Front) (r : Result Opened Refused) (a : Admitted) → opened_by k sizes fronts ≡ r
    → (r then λ o. Ok (OnArray (admitted_with k o (start_in k o sizes fronts) []))) ≡ Ok (OnArray a) → (o : Opened) × (opened_by k sizes fronts ≡ Ok o) × (admitted_with k o (start_in k o sizes fronts) [] ≡ a)
array_by k sizes fronts (Ok o) a is e = (o, is, (let same : admitted_with k o (start_in k o sizes fronts) [] ≡ a = cc e in same))
array_by k sizes fronts (Err r) a is e = absurd (let z : ⊥ = cc e in z)

shown_by : {A : Type 0} (k : Asked) (r : Result Opened Refused) (a : Admitted) → (r then λ o. Ok (Shows k o)) ≡ Ok (OnArray a) → A
shown_by k (Ok o) a e = absurd (let z : ⊥ = cc e in z)
shown_by k (Err r) a e = absurd (let z : ⊥ = cc e in z)

kind_by : (kd : Kind) (k : Asked) (sizes : List ℕ) (fronts : List Front) (a : Admitted) → duty_for kd k sizes fronts ≡ Ok (OnArray a)
    → (o : Opened) × (opened_by k sizes fronts ≡ Ok o) × (admitted_with k o (start_in k o sizes fronts) [] ≡ a)
kind_by kind.Array k sizes fronts a e = array_by k sizes fronts (opened_by k sizes fronts) a refl e
kind_by kind.Shown k sizes fronts a e = shown_by k (opened_by k sizes fronts) a e
kind_by kind.Label k sizes fronts a e = absurd (let z : ⊥ = cc e in z)
kind_by kind.Conf k sizes fronts a e = absurd (let z : ⊥ = cc e in z)

by_kind : (k : Asked) (sizes : List ℕ) (fronts : List Front) (a : Admitted) → duty_by k sizes fronts ≡ Ok (OnArray a)
    → (o : Opened) × (opened_by k sizes fronts ≡ Ok o) × (admitted_with k o (start_in k o sizes fronts) [] ≡ a)
unfolding duty_by
by_kind k sizes fronts a e = kind_by (kind_of k.command.action) k sizes fronts a e

judged_by : (k : Asked) (sizes : List ℕ) (fronts : List Front) (due : Duty) (a : Admitted) → duty_by k sizes fronts ≡ Ok due → IsJudged due (OnArray a) → IsAdmittedBy k sizes fronts a
judged_by k sizes fronts (OnArray x) a is kept =
    let made = by_kind k sizes fronts x is in
    let same : record x { joined = kept.views } ≡ a = cc kept.is in
    (made.0, kept.views, made.1, ap (λ (z : Admitted). record z { joined = kept.views }) made.2 ∙ same)
judged_by k sizes fronts (Shows x o) a is same = absurd (let z : ⊥ = cc same in z)
judged_by k sizes fronts (OneLabel x) a is same = absurd (let z : ⊥ = cc same in z)
judged_by k sizes fronts (PrintConf x) a is same = absurd (let z : ⊥ = cc same in z)

pub is_admitted : (k : Asked) (sizes : List ℕ) (fronts : List Front) (a : Admitted) → IsWanted (duty_by k sizes fronts) (Ok (OnArray a)) → IsAdmittedBy k sizes fronts a
is_admitted k sizes fronts a h =
    let made = is_made (duty_by k sizes fronts) (OnArray a) h in
    judged_by k sizes fronts made.due a made.is made.judged_so

-- it goes by the command, texts, devices at home and fronts alone
pub duty_same : {D : Type 0} (size : D → ℕ) (tells rose now_rose : Type 0) (texts : Text → Option Text) (home after now_after : Text → Option D) (command : Command) (fronts : List Front)
    → duty_in size (record { tells = tells; rose = rose; texts = texts; home = home; after = after }) command fronts ≡ duty_in size (record { tells = tells; rose = now_rose; texts = texts; home = home; after = now_after }) command fronts
unfolding duty_in asked_in
duty_same size tells rose now_rose texts home after now_after command fronts = refl
