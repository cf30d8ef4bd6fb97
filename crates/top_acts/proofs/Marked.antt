-- Devices in use that are marked, as a stage.
use Rattle.std.proofs.Common.{◌≡◌, ◌∙◌, ℕ, zero, suc, ◌<◌, true, false, List, [], ◌∷◌, Bool, Option, Some, None, length, refl, sym, ap, subst, inl, inr, arith}
use Rattle.std.specs.Prelude.{◌⊎◌, All, IsSome, is_some, slice_get}
use Rattle.std.specs.Option.{option_map_or}
use Rattle.std.proofs.lemmas.Bool.{cases_eq}
use Rattle.std.proofs.lemmas.List.Elements.{All-cons, All-nil}
use Rattle.blk_disk.specs.declared.disk.Call.{Call}
use Rattle.blk_disk.specs.declared.disk.Disk.{Ghosts}
use Rattle.blk_disk.specs.Disk.{call_of}
use Rattle.blk_disk.specs.Devices.{RisesOn, StaysIf, calls_of, device_at, sector_of}
use Rattle.blk_disk.proofs.DeviceLaws.{changes-more}
use Rattle.eng_cols.specs.declared.column.Column.{Column}
use Rattle.eng_cols.specs.declared.spot.Loss.{Loss}
use Rattle.eng_cols.specs.Cols.{device_set, HasDeviceOn}
use Rattle.eng_cols.specs.Deaths.{Dies, LosesDevice}
use Rattle.raid_map.specs.Marking.{AreMarked, IsMapSector, MarkCalls}
use Rattle.raid_map.specs.Regions.{Marks as Map, IsBytesOf}
use Rattle.top_close.specs.Calls.{IsSettle, MoreOn}
use Rattle.top_close.specs.Stage.{IsInUse, IsStage}
use Rattle.top_close.proofs.SettledLaws.{device_within}
use Rattle.top_close.proofs.StageLaws.{dies_lost, live_before, stage-plain, told-others}
use Rattle.top_rounds.specs.Calls.{WritesWithin}
use Rattle.top_rounds.specs.Passes.{CanBeLabelled, IsKeptInUse}
use Rattle.top_rounds.proofs.CallLaws.{within-other}
use Rattle.top_rounds.proofs.RoundLaws.{any_death}
use Rattle.top_acts.proofs.Settled.{Death}
use Rattle.top_acts.proofs.Tried.{strict}
use Rattle.top_acts.specs.Marking.{MarksAll}
use Rattle.top_acts.proofs.Words.{IsMapWrite}
use Rattle.top_rounds.proofs.Words.{is_label_write}
use Rattle.raid_map.proofs.Words.{MarksAtMost}
use Rattle.top_close.proofs.Words.{IsUncalled}

-- ## Calls

-- a write of the map, or a settle
abbrev pub IsMarkCall : Call → Type 0
IsMarkCall call = IsMapWrite call ⊎ IsSettle call

-- neither writes a label
mark-other : (call : Call) → IsMarkCall call → is_label_write call ≡ false
mark-other call (inl h) = subst (λ (c : Call). is_label_write c ≡ false) (sym h.1) refl
mark-other call (inr h) = subst (λ (c : Call). is_label_write c ≡ false) (sym h.1) refl

one_write : (good : Bool) → All IsMarkCall (call_of 1 1 512 good ∷ [])
one_write good = All-cons IsMarkCall (call_of 1 1 512 good) [] (inl (good, refl)) (All-nil IsMarkCall)

write_settle : (good : Bool) → All IsMarkCall (call_of 1 1 512 true ∷ call_of 2 0 0 good ∷ [])
write_settle good = All-cons IsMarkCall (call_of 1 1 512 true) (call_of 2 0 0 good ∷ []) (inl (true, refl)) (All-cons IsMarkCall (call_of 2 0 0 good) [] (inr (good, refl)) (All-nil IsMarkCall))

mark_calls : (good : Bool) (calls : List Call) → MarkCalls good calls → All IsMarkCall calls
mark_calls true calls h = subst (All IsMarkCall) (sym h) (write_settle true)
mark_calls false calls (inl h) = subst (All IsMarkCall) (sym h) (one_write false)
mark_calls false calls (inr h) = subst (All IsMarkCall) (sym h) (write_settle false)

pub marks_more : (a b : Option (List Call)) → MarksAtMost a b → MoreOn (All IsMarkCall) a b
marks_more a None h = tt
marks_more None (Some bs) h = h
marks_more (Some xs) (Some bs) h = (
  h.0,
  h.2,
  elim h.1 [
    | inl none ↦ subst (All IsMarkCall) (sym none) (All-nil IsMarkCall)
    | inr made ↦ mark_calls made.0 h.0 made.1
  ],
)

-- ## Which devices columns have

is_on : (o : Option ℕ) (d : ℕ) → (o ≡ Some d) ⊎ (o ≡ Some d → ⊥)
is_on None d = inr (λ h. let u : ⊥ = cc in u)
is_on (Some x) d = elim (cases_eq x d) [
  | inl same ↦ inl (ap (λ k. Some k) same)
  | inr other ↦ inr (λ h. other (let z : x ≡ d = cc in z))
]

-- one of the first n columns has the device, or none has
pub on_or : (columns : List Column) (d n : ℕ) → ((c : ℕ) × (c < n) × HasDeviceOn columns c d) ⊎ ((c : ℕ) → c < n → HasDeviceOn columns c d → ⊥)
on_or columns d zero = inr (λ c below. absurd (omega (arith, below)))
on_or columns d (suc n) = elim (is_on (device_set (slice_get columns n)) d) [
  | inl here ↦ inl (n, omega arith, here)
  | inr not ↦ elim (on_or columns d n) [
    | inl one ↦ inl (one.0, omega (arith, one.1), one.2)
    | inr none ↦ inr (λ c below on. elim (cases_eq c n) [
      | inl same ↦ not (subst (λ k. HasDeviceOn columns k d) same on)
      | inr other ↦ none c (omega (arith, below, other)) on
    ])
  ]
]

-- ## The stage

module _ {D : Type 0} (g : Ghosts D) where
  module _ (map : Map) (columns after : List Column) (old new : List (Option D)) (m : MarksAll g map columns after old new) where
    pub marks_dies : Dies (LosesDevice g columns old new) columns after
    marks_dies = m.marked.dies

    pub marks_uncalled : IsUncalled columns old new
    marks_uncalled d none = m.marked.others d (λ c below live. none c live)

    -- a device whose count of faults didn't rise holds what it did in its sector 1, or the map
    pub marks_second : g.tells → (d : ℕ) → (RisesOn g old new d → ⊥) → (sector_of g new d 1 ≡ sector_of g old d 1) ⊎ IsBytesOf map (sector_of g new d 1)
    marks_second told d quiet = elim (on_or columns d (length columns)) [
      | inr none ↦ inl (ap (λ (o : Option D). option_map_or (λ x. g.sector x 1) o []) (m.marked.others d none))
      | inl one ↦ elim (marks_dies.each one.0) [
        | inl same ↦ inr (m.held one.0 d (ap device_set same ∙ one.2) told)
        | inr dead ↦
            let e : d ≡ dead.1.device = (let z : Some d ≡ Some dead.1.device = sym one.2 ∙ dead.1.had in cc) in
            absurd (quiet (subst (λ k. RisesOn g old new k) (sym e) dead.1.rose))
      ]
    ]

    -- no device is listed of it
    abbrev pub marks_stage : (lost : Option Loss) → IsStage g (IsKeptInUse true columns) (λ d. All IsMarkCall) lost columns after old new
    marks_stage lost = stage-plain g (IsKeptInUse true columns) (λ d. All IsMarkCall) lost columns after old new
        (changes-more g (IsMapSector columns) (IsKeptInUse true columns) old new (λ d n h. record { col = h.0.0; live = h.0.1; kept = inr h.1 }) m.marked.frame)
        (λ d. marks_more (calls_of g old d) (calls_of g new d) (m.marked.told d))
        (told-others g columns old new marks_uncalled)
        (dies_lost g lost columns after old new marks_dies)

    -- no label was written
    pub marks_times : (n : ℕ) (d : ℕ) → WritesWithin n n (calls_of g old d) (calls_of g new d)
    marks_times n d = within-other IsMarkCall mark-other n (calls_of g old d) (calls_of g new d) (marks_more (calls_of g old d) (calls_of g new d) (m.marked.told d))

  -- a device failed as it was marked, and is listed
  module _ (map : Map) (columns after : List Column) (old new : List (Option D)) (m : MarksAll g map columns after old new) (apart : (c k d : ℕ) → HasDeviceOn columns c d → HasDeviceOn columns k d → c ≡ k) (death : Death (LosesDevice g columns old new) after) where
    abbrev dead : ℕ
    dead = death.why.device

    pub gone : (c : ℕ) → HasDeviceOn after c dead → ⊥
    gone c live =
        let same : c ≡ death.col = apart c death.col dead (live_before (LosesDevice g columns old new) columns after c dead (marks_dies map columns after old new m) live) death.why.had in
        let z : Some dead ≡ None = sym live ∙ ap device_set (ap (slice_get after) same ∙ death.dead) in absurd (let u : ⊥ = cc in u)

    abbrev pub broken_marks : IsStage g (IsKeptInUse true columns) (λ d. All IsMarkCall) None columns after old new
    broken_marks =
        let quiet = marks_stage map columns after old new m None in
        record {
          frame = quiet.frame;
          told = quiet.told;
          uncalled = quiet.uncalled;
          dies = quiet.dies;
          rises = dead ∷ [];
          failed = record { apart = λ i j z before within. absurd (omega (arith, before, within)); rose = All-cons (RisesOn g old new) dead [] death.why.rose (All-nil (RisesOn g old new)) };
          had = All-cons (IsInUse columns) dead [] (record { col = death.col; live = death.why.had }) (All-nil (IsInUse columns));
          gone = All-cons (λ (k : ℕ). (c : ℕ) → HasDeviceOn after c k → ⊥) dead [] gone (All-nil (λ (k : ℕ). (c : ℕ) → HasDeviceOn after c k → ⊥));
          fewer = omega (arith, strict columns after (any_death (LosesDevice g columns old new) columns after (marks_dies map columns after old new m)) death.col (ap is_some death.why.had) death.dead);
        }

  there_still : (may : ℕ → Type 0) (x z : Option D) → StaysIf g may x z → IsSome x → IsSome z
  there_still may None z h some = let u : false ≡ true = some in absurd (let v : ⊥ = cc in v)
  there_still may (Some x) None h some = absurd h
  there_still may (Some x) (Some z) h some = refl

  -- the sector of a device that is there
  held_of : (bytes : List ℕ) (map : Map) (o : Option D) → g.tells → IsSome o → IsBytesOf map bytes → ((x : D) → o ≡ Some x → g.sector x 1 ≡ bytes) → IsBytesOf map (option_map_or (λ x. g.sector x 1) o [])
  held_of bytes map None told some are holds = let z : false ≡ true = some in absurd (let u : ⊥ = cc in u)
  held_of bytes map (Some x) told some are holds = subst (IsBytesOf map) (sym (holds x refl)) are

  -- what was marked holds the map
  pub marks_all : (map : Map) (columns after : List Column) (old new : List (Option D)) (bytes : List ℕ) → CanBeLabelled g columns old → IsBytesOf map bytes → AreMarked g (length columns) bytes columns after old new → MarksAll g map columns after old new
  marks_all map columns after old new bytes can are m = record {
    bytes = bytes;
    are = are;
    marked = m;
    held = λ c d live told.
        let was : HasDeviceOn columns c d = live_before (LosesDevice g columns old new) columns after c d m.dies live in
        held_of bytes map (device_at new d) told (there_still (IsMapSector columns d) (device_at old d) (device_at new d) (m.frame.each d) (can.have.there c d was)) are
        (λ x is. (m.safe c d x (device_within columns c d was) live is).held told);
  }
