-- What an array that was begun holds.
use Rattle.std.proofs.Common.{◌≡◌, ◌⊎◌, inl, inr, ℕ, zero, suc, ◌+◌, ◌<◌, ◌≤◌, List, [], ◌∷◌, Bool, true, false, cond, length, Option, None, refl, sym, ◌∙◌, ap, subst, arith}
use Rattle.std.specs.Prelude.{◌==◌, count_by, if◌then◌else◌, slice_index}
use Rattle.std.proofs.lemmas.Bool.{cases_eq, lt-ltb}
use Rattle.std.proofs.lemmas.List.Sums.{sum_by-cons}
use Rattle.std.proofs.lemmas.Map.Views.{exact_unsigned_eq}
use Rattle.blk_disk.specs.declared.disk.Disk.{Ghosts}
use Rattle.blk_disk.specs.Devices.{Changes, contents_of, sector_of}
use Rattle.blk_disk.proofs.DeviceLaws.{changes-more, changes_sector}
use Rattle.lay_core.specs.Layout.{Shape, IsLayout, Blocks, blocks_in, stripe_of, unit_of}
use Rattle.lay_core.specs.Sums.{xor_below}
use Rattle.eng_cols.specs.declared.column.Column.{Column}
use Rattle.eng_cols.specs.Cols.{ColumnState, AtMostOne, is_set_filling}
use Rattle.eng_cols.specs.Contents.{AnyStripe, Contents, InSync, byte_of, decode}
use Rattle.eng_cols.specs.Deaths.{Dies, LosesDevice}
use Rattle.eng_cols.specs.Fewer.{DieApart}
use Rattle.eng_cols.specs.Settable.{IsSettable}
use Rattle.eng_cols.proofs.Lists.{count_at_most}
use Rattle.eng_cols.specs.Lost.{NotLost}
use Rattle.eng_cols.proofs.Decoding.{agrees-decode, agrees-only}
use Rattle.eng_array.specs.declared.start.Start.{Start}
use Rattle.eng_world.specs.World.{World}
use Rattle.eng_cols.specs.Stripes.{states_of}
use Rattle.raid_label.specs.declared.label.Label.{Label}
use Rattle.raid_recon.specs.declared.kind.Sweep.TheVariants.{Sync}
use Rattle.raid_recon.specs.Array.{IsArray}
use Rattle.raid_recon.specs.Ends.{ChecksHold}
use Rattle.raid_recon.proofs.Backs.{Back, sum-back}
use Rattle.raid_map.specs.Regions.{IsMap, Marks as Map, is_marked, region_of, regions_in}
use Rattle.raid_map.specs.Sweeping.{UnsoundAreMarked, marks_stripe}
use Rattle.raid_map.specs.Union.{IsUnsound, UnionMarks}
use Rattle.raid_map.proofs.Unions.{region-within}
use Rattle.top_acts.specs.Begun.{HasBegun, MayBegin, SweepHas}
use Rattle.top_acts.specs.Behind.{AreLast}
use Rattle.top_acts.specs.Mapped.{LooksAtMaps, ReadsMap, is_any_marked, unmarked}
use Rattle.top_acts.specs.Marking.{AreNotice}
use Rattle.top_acts.specs.Stages.{AreStaged}
use Rattle.top_acts.specs.Sweeps.{Sweeps, Nothing, Over, Marked, Notice, Round, Marks}
use Rattle.top_acts.proofs.Backs.{died}
use Rattle.top_acts.proofs.Later.{IsSwept, Quiet, has_first, sum_quiet}
use Rattle.top_acts.proofs.Looked.{looks_dies}
use Rattle.top_acts.proofs.Named.{apart_in, only_lose}
use Rattle.top_close.proofs.Counts.{deaths_pass_less}
use Rattle.top_close.specs.Dying.{OnlyDie}
use Rattle.top_close.proofs.DyingLaws.{columns_die, still_agrees}
use Rattle.top_close.specs.Stage.{DiesIn, IsStage}
use Rattle.top_run.specs.Work.{Work}
use Rattle.top_run.specs.Ran.{Opens}
use Rattle.top_run.specs.Steps.{states_in}
use Rattle.top_run.proofs.InTurnSame.{decode-same}
use Rattle.top_labelled.specs.Begun.{HoldsBlocks, IsAlone, IsAnew, IsColumnWithin, WasSound, opened_as, sweeps_in, without}
use Rattle.top_labelled.specs.Words.{notice_in, IsBlockOf}
use Rattle.top_labelled.proofs.Blocks.{MayCheck, may-check, may-low, same-blocks, swept-block, swept-same}
use Rattle.top_labelled.proofs.Looking.{back-read, begun-stage, quiet-read}
use Rattle.top_labelled.proofs.Unmade.{unmade}
use Rattle.top_labelled.proofs.Without.{alone-later, without-apart, without-dies}

zero-is : (n : ℕ) → n ≡ 0 → (n == 0) ≡ true
zero-is n h = subst (λ m. (m == 0) ≡ true) (sym h) refl

differ : {A : Type 0} → true ≡ false → A
differ h = absurd (let u : ⊥ = cc in u)

-- ## Marks

-- a map with a marked region has one
any-marked : (marks : List Bool) (r : ℕ) → is_marked marks r ≡ true → 0 < count_by (λ b. b) marks
any-marked [] r h = differ (sym h)
any-marked (true ∷ marks) zero h = let e : count_by (λ b. b) (true ∷ marks) ≡ 1 + count_by (λ b. b) marks = sum_by-cons (λ (b : Bool). cond b 1 0) true marks in omega (arith, e)
any-marked (false ∷ marks) zero h = differ (sym h)
any-marked (m ∷ marks) (suc r) h = let e : count_by (λ b. b) (m ∷ marks) ≡ cond m 1 0 + count_by (λ b. b) marks = sum_by-cons (λ (b : Bool). cond b 1 0) m marks in let some = any-marked marks r h in omega (arith, e, some)

some-marked : (map : Map) (r : ℕ) → is_marked map.marks r ≡ true → is_any_marked map ≡ true
some-marked map r h = lt-ltb 0 (count_by (λ b. b) map.marks) (any-marked map.marks r h)

-- a stripe that lacks no unit and doesn't sum to zero, or it does
sound-or : (y : Shape) (contents : Contents) (cols : List ColumnState) → ((s : ℕ) → IsUnsound y cols contents s → ⊥) → InSync y contents cols
sound-or y contents cols none s o k sw ou ku one all = elim (cases_eq (xor_below (λ i. byte_of y contents cols s i o k) y.width) 0) [
  | inl even ↦ even
  | inr odd ↦ absurd (none s (record { stripe = sw; checked = one; complete = all; offset = o; byte = k; within = ou; of_sector = ku; differs = odd }))
]

-- ## The array

module _ {D : Type 0} (g : Ghosts D) (a : Work) (layout : IsLayout a.layout) (newest : Label) (taken opened : List (Option D)) (begun : List Column) (keeps : Bool) (first : Label) (began : Option Start)
    (looked : List (Option D)) (read : List Column) (union marks : Map) (found : ℕ) (looks : LooksAtMaps g a.layout (unmarked a.layout.stripes newest.serial) union a.columns read taken looked None)
    (has : HasBegun g (notice_in keeps marks) (sweeps_in newest union) a.layout newest first read begun looked opened None found) (alive : NotLost a.layout (states_of a.layout begun))
    (array : IsArray g a.layout a.columns taken) (settable : IsSettable a.layout a.columns) (within : IsColumnWithin a.start (length a.columns)) (alone : IsAlone a.start a.columns) (kept : NotLost a.layout (states_of a.layout (without a.start begun)))
    (start : World) (opens : Opens g (opened_as a (without a.start begun) began) opened start) where
  abbrev y : Shape
  y = a.layout

  abbrev notice : Notice
  notice = notice_in keeps marks

  abbrev sweep : Sweeps
  sweep = sweeps_in newest union

  abbrev blank : Map
  blank = unmarked a.layout.stripes newest.serial

  -- the columns as the maps were read, behind the beginning, and once that is dead which is to be rebuilt
  abbrev seen : List ColumnState
  seen = states_of y read

  abbrev mid : List ColumnState
  mid = states_of y begun

  abbrev late : List ColumnState
  late = states_of y (without a.start begun)

  abbrev holds : Contents
  holds = contents_of g opened

  -- ## Deaths

  abbrev stage : IsStage g (MayBegin g notice sweep y a.columns taken) (λ d. AreStaged (ReadsMap (AreNotice notice)) (AreLast None) sweep y (states_of y a.columns) d) None a.columns begun taken opened
  stage = begun-stage g y notice sweep blank union newest first a.columns read begun taken looked opened None found settable.filling looks has

  loses : Dies (LosesDevice g a.columns taken opened) a.columns begun
  loses = only_lose g a.columns begun taken opened stage.dies

  apart : DieApart a.columns begun
  apart = apart_in g None a.columns begun taken opened stage.dies

  one : AtMostOne is_set_filling a.columns
  one = count_at_most is_set_filling a.columns settable.filling

  die : OnlyDie (states_in a) mid
  die = columns_die (LosesDevice g a.columns taken opened) y a.columns begun loses apart one

  few : count_by is_set_filling begun ≤ 1
  few = let less = deaths_pass_less (LosesDevice g a.columns taken opened) is_set_filling a.columns begun refl loses in let most = settable.filling in omega (arith, less, most)

  named : Dies (IsAnew a.start) begun (without a.start begun)
  named = without-dies a.start begun

  named-apart : DieApart begun (without a.start begun)
  named-apart = without-apart a.start begun (subst (λ n. IsColumnWithin a.start n) (sym loses.count) within) (alone-later a.start (LosesDevice g a.columns taken opened) a.columns begun loses alone)

  -- ### As its maps were read

  back : Back y seen (states_in a)
  back = back-read g y notice sweep blank union newest first a.columns read begun taken looked opened None found settable.filling looks

  quiet : Quiet g y taken looked
  quiet = quiet-read g y notice sweep blank union newest first a.columns read begun taken looked opened None found settable.filling looks

  fewer : count_by is_set_filling read ≤ 1
  fewer = let less = deaths_pass_less (DiesIn g None a.columns taken looked) is_set_filling a.columns read refl (looks_dies g y None blank union a.columns read taken looked looks) in let most = settable.filling in omega (arith, less, most)

  later : Back y mid seen
  later = died (DiesIn g None read looked opened) y read begun has.stage.dies (apart_in g None read begun looked opened has.stage.dies) fewer

  -- ## What is held

  -- its death changes no block
  same-behind : InSync y holds mid → (b k : ℕ) → b < blocks_in y → k < 512 → decode y holds late b k ≡ decode y holds mid b k
  same-behind sync b k bl kl =
      let blocks : Blocks = decode y holds mid in
      let agrees = agrees-decode y holds mid layout alive sync in
      let dead = still_agrees y mid late (columns_die (IsAnew a.start) y begun (without a.start begun) named named-apart (count_at_most is_set_filling begun few)) holds blocks AnyStripe agrees in
      sym (agrees-only y holds late layout kept blocks dead b k bl kl)

  -- nor is the array less in sync by it
  sync-behind : InSync y holds mid → InSync y holds late
  sync-behind h s o k sw ou ku one all =
      let last = died (IsAnew a.start) y begun (without a.start begun) named named-apart few in
      sum-back y holds late mid s y.width o k last all ∙ h s o k sw ou ku one (λ i iw. last.available s i (all i iw))

  -- the blocks of the opening are what the devices hold then
  start-is : g.tells → InSync y holds mid → (b k : ℕ) → b < blocks_in y → k < 512 → start.blocks b k ≡ decode y holds mid b k
  start-is tells sync b k bl kl =
      opens.opening.decoded b k bl kl
      ∙ (ap (λ (cols : List ColumnState). decode y start.contents cols b k) opens.columns
      ∙ (decode-same y start.contents holds late (λ d n j jl. opens.contents tells d n j jl) b k kl
      ∙ same-behind sync b k bl kl))

  -- ## What was sound

  -- the columns whose maps were read
  read-is : read ≡ looks.read
  read-is = looks.after_is

  -- the union has what the maps of these devices mark
  union-has : g.tells → (r : ℕ) → r < regions_in y.stripes → UnionMarks y newest.serial seen (contents_of g taken) r → is_marked union.marks r ≡ true
  union-has tells r within u =
      let same : sector_of g looked u.device 1 ≡ sector_of g taken u.device 1 = changes_sector g (λ _ _. ⊥) taken looked u.device 1 looks.reads.frame tells (λ f. f) in
      ((looks.union_is tells).marks r within).1
      (inr (subst (λ (cs : List Column). UnionMarks y newest.serial (states_of y cs) (contents_of g looked) r) read-is
      (record {
        column = u.column;
        device = u.device;
        used = u.used;
        marks = u.marks;
        map = subst (λ (l : List ℕ). IsMap newest.serial y.stripes u.marks (slice_index l)) (sym same) u.map;
        marked = u.marked;
      })))

  -- so a stripe lies in a region that it marks
  stripe-marked : g.tells → (s : ℕ) → s < y.stripes → UnionMarks y newest.serial seen (contents_of g taken) (region_of y.stripes s) → marks_stripe union s ≡ true
  stripe-marked tells s sw u = subst (λ n. is_marked union.marks (region_of n s) ≡ true) (sym looks.grows.stripes) (union-has tells (region_of y.stripes s) (region-within y.stripes s sw).0 u)

  -- what is unsound by fewer columns was so by all
  unsound-first : (s : ℕ) → IsUnsound y seen (contents_of g taken) s → IsUnsound y (states_in a) (contents_of g taken) s
  unsound-first s u = record {
    stripe = u.stripe;
    checked = u.checked;
    complete = λ i iw. back.available s i (u.complete i iw);
    offset = u.offset;
    byte = u.byte;
    within = u.within;
    of_sector = u.of_sector;
    differs = λ e. u.differs (sum-back y (contents_of g taken) seen (states_in a) s y.width u.offset u.byte back u.complete ∙ e);
  }

  read-sound : WasSound g a newest taken a.columns read → WasSound g a newest taken read read
  read-sound (inl sync) = inl sync
  read-sound (inr (inl dirty)) = inr (inl dirty)
  read-sound (inr (inr lie)) = inr (inr (lie.0, λ s u. lie.1 s (unsound-first s u)))

  -- it lies in the union, where the labels are clean
  clean-lie : (columns : List Column) (s : ℕ) → (newest.clean == 0) ≡ false → WasSound g a newest taken columns read → (InSync y (contents_of g taken) (states_in a) → InSync y (contents_of g taken) (states_of y columns)) → IsUnsound y (states_of y columns) (contents_of g taken) s
      → UnionMarks y newest.serial seen (contents_of g taken) (region_of y.stripes s)
  clean-lie columns s clean (inl sync) by u = absurd (u.differs (by sync s u.offset u.byte u.stripe u.within u.of_sector u.checked u.complete))
  clean-lie columns s clean (inr (inl dirty)) by u = differ (sym (zero-is newest.clean dirty) ∙ clean)
  clean-lie columns s clean (inr (inr lie)) by u = lie.1 s u

  sync-read : InSync y (contents_of g taken) (states_in a) → InSync y (contents_of g taken) seen
  sync-read sync s o k sw ou ku one all = sum-back y (contents_of g taken) seen (states_in a) s y.width o k back all ∙ sync s o k sw ou ku one (λ i iw. back.available s i (all i iw))

  -- where it has no mark all was sound
  all-sound : g.tells → (columns : List Column) → (newest.clean == 0) ≡ false → is_any_marked union ≡ false → WasSound g a newest taken columns read → (InSync y (contents_of g taken) (states_in a) → InSync y (contents_of g taken) (states_of y columns)) → InSync y (contents_of g taken) (states_of y columns)
  all-sound tells columns clean none sound by = sound-or y (contents_of g taken) (states_of y columns) (λ s u.
      differ (sym (some-marked union (region_of y.stripes s) (union-has tells (region_of y.stripes s) (region-within y.stripes s u.stripe).0 (clean-lie columns s clean sound by u))) ∙ none))

  -- and else each stripe that wasn't is marked
  due-marked : g.tells → y.checks ≡ 1 → (newest.clean == 0) ≡ false → WasSound g a newest taken read read → UnsoundAreMarked g y (marks_stripe union) read looked
  due-marked tells one clean sound s sw all z = stripe-marked tells s sw
      (clean-lie read s clean sound sync-read
      (record {
        stripe = sw;
        checked = one;
        complete = all;
        offset = z.offset;
        byte = z.byte;
        within = z.within;
        of_sector = z.of_sector;
        differs = λ e. z.differs (sum_quiet g y seen taken looked s y.width z.offset z.byte quiet tells ∙ e);
      }))

  -- ## What was begun

  abbrev sweep_by : Bool → Bool → Sweeps
  sweep_by dirty some = if dirty then Over Sync else (if some then Marked (marks_stripe union) else Nothing)

  abbrev HasBegunBy : Bool → Bool → Type 0
  HasBegunBy dirty some = HasBegun g notice (sweep_by dirty some) y newest first read begun looked opened None found

  in-sync : (dirty some : Bool) → (newest.clean == 0) ≡ dirty → is_any_marked union ≡ some → HasBegunBy dirty some → g.tells → WasSound g a newest taken read read → InSync y holds mid
  in-sync true some is any b tells sound = (b.swept refl).in_sync tells
  in-sync false true is any b tells sound = λ s o k sw ou ku one all. (b.swept refl).in_sync tells (due-marked tells one is sound) s o k sw ou ku one all
  in-sync false false is any b tells sound = b.still tells (quiet-sync (all-sound tells read is any sound sync-read))
    where
      quiet-sync : InSync y (contents_of g taken) seen → InSync y (contents_of g looked) seen
      quiet-sync sync s o k sw ou ku one all = sum_quiet g y seen taken looked s y.width o k quiet tells ∙ sync s o k sw ou ku one all

  -- the frame and the check units, by the columns and devices of before
  abbrev MayBy : Bool → Bool → ℕ → ℕ → Type 0
  MayBy dirty some = MayBegin g notice (sweep_by dirty some) y a.columns taken

  checks-first : (sweep : Sweeps) (some : sweep ≡ Nothing → ⊥) → HasBegun g notice sweep y newest first read begun looked opened None found → g.tells → y.checks ≡ 1 → ChecksHold g y a.columns begun taken opened
  checks-first sweep some b tells one = checks-of sweep some
      (has_first g y a.columns read taken looked back quiet sweep layout array.order begun opened found later
      (changes-more g (MayBegin g notice sweep y read looked) (IsSwept g y a.columns read taken looked back quiet sweep) looked opened (low-or notice sweep) b.stage.frame) (b.swept refl))
    where
      low-or : (m : Notice) (sweep : Sweeps) (d n : ℕ) → MayBegin g m sweep y read looked d n → IsSwept g y a.columns read taken looked back quiet sweep d n
      low-or Round sweep d n (inl f) = let e = f.kept in inl (omega (arith, e))
      low-or Round sweep d n (inr m) = inr m
      low-or (Marks map) sweep d n (inl f) = inl (elim f.kept [ inl label ↦ omega (arith, label) | inr map ↦ omega (arith, map) ])
      low-or (Marks map) sweep d n (inr m) = inr m

      checks-of : (sweep : Sweeps) → (sweep ≡ Nothing → ⊥) → SweepHas g sweep y a.columns begun taken opened found → ChecksHold g y a.columns begun taken opened
      checks-of Nothing some h = absurd (some refl)
      checks-of (Over kind) some h = h.checks one tells
      checks-of (Marked marks) some h = h.checks one tells

  swept-or : (sweep : Sweeps) (some : sweep ≡ Nothing → ⊥) → HasBegun g notice sweep y newest first read begun looked opened None found → Changes g (MayBegin g notice sweep y a.columns taken) taken opened → (newest.clean ≡ 0) ⊎ (is_any_marked union ≡ true) → InSync y holds mid → g.tells → (b : ℕ) → b < blocks_in y
      → IsBlockOf g a newest taken opened begun union start.blocks b
  swept-or sweep some h frame why sync tells b bl = elim
      (swept-block g y layout a.columns begun taken opened array die alive tells
      (changes-more g (MayBegin g notice sweep y a.columns taken) (MayCheck g y layout a.columns begun taken opened array die alive tells) taken opened (may-check g y a.columns taken notice sweep) frame)
      (checks-first sweep some h tells) b bl) [
        | inl same ↦ inl (λ k kl. start-is tells sync b k bl kl ∙ same k kl)
        | inr made ↦
            let lost = unmade y a.columns begun (LosesDevice g a.columns taken opened) loses apart one (stripe_of y b) (unit_of y b) made.0 made.1 in
            inr (
              why,
              record { col = lost.0; of_column = lost.1.0; was = made.0; dead = lost.1.1; loses = lost.1.2 },
              λ k kl. start-is tells sync b k bl kl ∙ made.2 k kl,
            )
      ]

  block-of : (dirty some : Bool) → (newest.clean == 0) ≡ dirty → is_any_marked union ≡ some → HasBegunBy dirty some → Changes g (MayBy dirty some) taken opened → g.tells → WasSound g a newest taken a.columns read → (b : ℕ) → b < blocks_in y → IsBlockOf g a newest taken opened begun union start.blocks b
  block-of true some is any h frame tells sound b bl =
      swept-or (Over Sync) (λ e. let u : ⊥ = cc in u) h frame (inl (exact_unsigned_eq newest.clean 0 is)) (in-sync true some is any h tells (read-sound sound)) tells b bl
  block-of false true is any h frame tells sound b bl =
      swept-or (Marked (marks_stripe union)) (λ e. let u : ⊥ = cc in u) h frame (inr any) (in-sync false true is any h tells (read-sound sound)) tells b bl
  block-of false false is any h frame tells sound b bl =
      inl (λ k kl.
      start-is tells (in-sync false false is any h tells (read-sound sound)) b k bl kl
      ∙ same-blocks g y layout a.columns begun taken opened array die alive tells
      (changes-more g (MayBegin g notice Nothing y a.columns taken) (λ d n. n < 64) taken opened (may-low g y a.columns taken notice) frame)
      (all-sound tells a.columns is any sound (λ sync. sync)) b k bl kl)

  -- ## Where all was in sync

  swept-fit : (sweep : Sweeps) (some : sweep ≡ Nothing → ⊥) → HasBegun g notice sweep y newest first read begun looked opened None found → Changes g (MayBegin g notice sweep y a.columns taken) taken opened → InSync y (contents_of g taken) (states_in a) → InSync y holds mid → g.tells → (b k : ℕ) → b < blocks_in y → k < 512
      → start.blocks b k ≡ decode y (contents_of g taken) (states_in a) b k
  swept-fit sweep some h frame sync now tells b k bl kl =
      start-is tells now b k bl kl
      ∙ swept-same g y layout a.columns begun taken opened array die alive tells
      (changes-more g (MayBegin g notice sweep y a.columns taken) (MayCheck g y layout a.columns begun taken opened array die alive tells) taken opened (may-check g y a.columns taken notice sweep) frame)
      (checks-first sweep some h tells) b bl sync k kl

  fit-of : (dirty some : Bool) → (newest.clean == 0) ≡ dirty → is_any_marked union ≡ some → HasBegunBy dirty some → Changes g (MayBy dirty some) taken opened → g.tells → InSync y (contents_of g taken) (states_in a) → (b k : ℕ) → b < blocks_in y → k < 512
      → start.blocks b k ≡ decode y (contents_of g taken) (states_in a) b k
  fit-of true some is any h frame tells sync b k bl kl = swept-fit (Over Sync) (λ e. let u : ⊥ = cc in u) h frame sync (in-sync true some is any h tells (inl sync)) tells b k bl kl
  fit-of false true is any h frame tells sync b k bl kl = swept-fit (Marked (marks_stripe union)) (λ e. let u : ⊥ = cc in u) h frame sync (in-sync false true is any h tells (inl sync)) tells b k bl kl
  fit-of false false is any h frame tells sync b k bl kl =
      start-is tells (in-sync false false is any h tells (inl sync)) b k bl kl
      ∙ same-blocks g y layout a.columns begun taken opened array die alive tells
      (changes-more g (MayBegin g notice Nothing y a.columns taken) (λ d n. n < 64) taken opened (may-low g y a.columns taken notice) frame) sync b k bl kl

  pub holding : HoldsBlocks g a newest taken opened begun read union start.blocks
  holding = record {
    in_sync = λ tells sound. sync-behind (in-sync (newest.clean == 0) (is_any_marked union) refl refl has tells sound);
    blocks = block-of (newest.clean == 0) (is_any_marked union) refl refl has stage.frame;
    same = fit-of (newest.clean == 0) (is_any_marked union) refl refl has stage.frame;
  }
