-- The units of a stripe, read one after another.
use Rattle.std.proofs.Common.{◌≡◌, ◌≢◌, ℕ, suc, ◌+◌, ◌*◌, ◌/◌, ◌%◌, ◌<◌, ◌≤◌, List, ◌++◌, length, take, drop, Bool, true, false, Option, Result, Ok, Err, IfErr, is_ok, sym, ap, ◌∙◌, subst, arith}
use Rattle.std.specs.Prelude.{slice_index, MatchBool}
use Rattle.std.proofs.lemmas.List.{get_or-take, get_or-drop}
use Rattle.blk_disk.specs.declared.disk.Disk.{Ghosts}
use Rattle.blk_disk.specs.Devices.{Changes, contents_of, calls_of}
use Rattle.blk_disk.proofs.DeviceLaws.{changes-refl, changes-then, rises-wider}
use Rattle.lay_core.specs.Layout.{Shape, data_units}
use Rattle.eng_cols.specs.Cols.{ColumnState}
use Rattle.eng_cols.specs.Seats.{seat}
use Rattle.eng_cols.specs.Contents.{byte_of}
use Rattle.raid_recon.specs.declared.ahead.ColumnWindows.{ColumnWindows}
use Rattle.raid_recon.specs.declared.ahead.Rows.{Rows}
use Rattle.raid_recon.specs.declared.kind.FailedAt.{FailedAt}
use Rattle.raid_recon.specs.Turns.{TellsMore}
use Rattle.raid_recon.specs.Ahead.{AreHands, seat_rows, seat_reads, read_rows, reads_ahead}
use Rattle.raid_recon.specs.Units.{IsAhead, IsSum, IsUnitAt, LoadsUnit, AllRead, Stopped, Tested}
use Rattle.raid_recon.proofs.AtHand.{ahead-alone}
use Rattle.raid_recon.proofs.Calls.{tells_more-nil, tells_more-then}
use Rattle.raid_recon.proofs.Bytes.{zero-from, not-zero}
use Rattle.raid_recon.proofs.Frames.{byte-same}

abbrev pub nothing : ℕ → ℕ → Type 0
nothing d n = ⊥

module _ {D : Type 0} (g : Ghosts D) (y : Shape) (windows : ColumnWindows) (cols : List ColumnState) (s : ℕ) (rows : ℕ → Rows) where
  pub all-none : (old : List (Option D)) (hands : List Rows) (bytes : List ℕ) → IsAhead g y windows cols s rows old hands bytes → AllRead g y windows cols s 0 rows old old hands bytes
  all-none old hands bytes h = record { same = changes-refl g nothing old; told = λ d. tells_more-nil (calls_of g old d); ahead = h }

  -- where one row alone is read what was read is told alike of any bytes
  module _ (old new : List (Option D)) (n : ℕ) (hands : List Rows) (bytes others : List ℕ) where
    pub all-alone : windows.most ≡ 1 → AreHands windows.most hands → AllRead g y windows cols s n rows old new hands bytes → AllRead g y windows cols s n rows old new hands others
    all-alone single are h = record {
      same = h.same;
      told = h.told;
      ahead = ahead-alone g y windows cols s (λ d. read_rows y windows.most cols s n d (rows d)) new hands bytes others single are h.ahead;
    }

    pub stopped-alone : (e : FailedAt) → windows.most ≡ 1 → AreHands windows.most hands → Stopped g y windows cols s n rows old new hands bytes e → Stopped g y windows cols s n rows old new hands others e
    stopped-alone e single are st = record {
      unit = st.unit;
      within = st.within;
      at = st.at;
      stands = st.stands;
      column = st.column;
      rose = st.rose;
      same = st.same;
      told = st.told;
      ahead = ahead-alone g y windows cols s (λ d. seat_rows y windows.most (seat y cols s st.unit) false d (read_rows y windows.most cols s st.unit d (rows d))) new hands bytes others single are st.ahead;
    }

  module _ (old mid new : List (Option D)) (n : ℕ) (before hands : List Rows) (at_first bytes : List ℕ) (r : Result ℕ FailedAt) (read : AllRead g y windows cols s n rows old mid before at_first)
      (one : LoadsUnit g y windows cols s n (λ d. read_rows y windows.most cols s n d (rows d)) mid new hands bytes r) where
    same : Changes g nothing old new
    same = changes-then g nothing old mid new read.same one.same

    calls : (good : Bool) → is_ok r ≡ good → (d : ℕ) → TellsMore (calls_of g old d) (calls_of g new d) (reads_ahead y windows.most cols s n d (rows d) ++ seat_reads y windows.most (seat y cols s n) good d (read_rows y windows.most cols s n d (rows d)))
    calls good is d =
        subst (λ b. TellsMore (calls_of g old d) (calls_of g new d) (reads_ahead y windows.most cols s n d (rows d) ++ seat_reads y windows.most (seat y cols s n) b d (read_rows y windows.most cols s n d (rows d)))) is
        (subst (λ q. TellsMore (calls_of g old d) (calls_of g new d) (reads_ahead y windows.most cols s n d (rows d) ++ seat_reads y windows.most q (is_ok r) d (read_rows y windows.most cols s n d (rows d)))) (sym one.stands)
        (tells_more-then (calls_of g old d) (calls_of g mid d) (calls_of g new d) _ _ (read.told d) (one.told d)))

    at_hand : (good : Bool) → is_ok r ≡ good → IsAhead g y windows cols s (λ d. seat_rows y windows.most (seat y cols s n) good d (read_rows y windows.most cols s n d (rows d))) new hands bytes
    at_hand good is =
        subst (λ b. IsAhead g y windows cols s (λ d. seat_rows y windows.most (seat y cols s n) b d (read_rows y windows.most cols s n d (rows d))) new hands bytes) is
        (subst (λ q. IsAhead g y windows cols s (λ d. seat_rows y windows.most q (is_ok r) d (read_rows y windows.most cols s n d (rows d))) new hands bytes) (sym one.stands) one.ahead)

    pub all-more : (m : ℕ) → m ≡ suc n → is_ok r ≡ true → AllRead g y windows cols s m rows old new hands bytes
    all-more m next is = subst (λ k. AllRead g y windows cols s k rows old new hands bytes) (sym next) (record { same = same; told = calls true is; ahead = at_hand true is })

    pub stopped-at : (m : ℕ) (e : FailedAt) → n < m → r ≡ Err e → Stopped g y windows cols s m rows old new hands bytes e
    stopped-at m e lt is = record {
      unit = n;
      within = lt;
      at = one.at;
      stands = one.stands;
      column = subst (λ x. IfErr x (λ f. f.column ≡ one.at.column)) is one.column;
      rose = rises-wider g nothing nothing old mid new new one.at.device read.same (one.cause (ap is_ok is)) (changes-refl g nothing new);
      same = same;
      told = calls false (ap is_ok is);
      ahead = at_hand false (ap is_ok is);
    }

    pub unit-at : g.tells → (from : ℕ) → r ≡ Ok from → IsUnitAt y (contents_of g old) cols s n bytes from
    unit-at told from is o k ou ku = one.unit from is told o k ou ku ∙ byte-same g nothing old mid y cols s n o k read.same told (λ at h none. none)

    -- the last unit was read, and the sum of the others compared with it
    module _ (last : y.width ≡ suc n) (all : n ≡ data_units y) (from : ℕ) (is : r ≡ Ok from) (sum unit : List ℕ) (long : length sum ≡ 512 * y.unit_sectors) (sums : g.tells → IsSum y (contents_of g old) cols s n sum)
        (part : (j : ℕ) → j < 512 * y.unit_sectors → slice_index unit j ≡ slice_index bytes (from + j)) where
      unit-is : g.tells → (o k : ℕ) → o < y.unit_sectors → k < 512 → slice_index unit (512 * o + k) ≡ byte_of y (contents_of g old) cols s n o k
      unit-is told o k ou ku = part (512 * o + k) (omega (arith, ou, ku)) ∙ unit-at told from is o k ou ku

      pub tested-by : (b : Bool) → MatchBool b ((j : ℕ) × (j < length sum) × (slice_index sum j ≢ slice_index unit j)) ((j : ℕ) → slice_index sum j ≡ slice_index unit j) → Tested g y windows cols s rows old new hands bytes sum b
      tested-by true h = record {
        read = all-more y.width last (ap is_ok is);
        sums = λ told. subst (λ m. IsSum y (contents_of g old) cols s m sum) all (sums told);
        zero = λ e. let u : ⊥ = cc in absurd u;
        not_zero = λ e told.
            let o : ℕ = h.0 / 512 in
            let k : ℕ = h.0 % 512 in
            let ou : o < y.unit_sectors = omega (arith, h.1, long) in
            let ku : k < 512 = omega arith in
            let at : 512 * o + k ≡ h.0 = omega arith in
            not-zero y (contents_of g old) cols s n last o k ou ku
            (λ e. h.2 (sym (ap (slice_index unit) (sym at) ∙ (unit-is told o k ou ku ∙ (e ∙ (sym (sums told o k ou ku) ∙ ap (slice_index sum) at))))));
      }
      tested-by false h = record {
        read = all-more y.width last (ap is_ok is);
        sums = λ told. subst (λ m. IsSum y (contents_of g old) cols s m sum) all (sums told);
        zero = λ e told. zero-from y (contents_of g old) cols s n last (λ o k ou ku. sym (unit-is told o k ou ku) ∙ (sym (h (512 * o + k)) ∙ sums told o k ou ku));
        not_zero = λ e. let u : ⊥ = cc in absurd u;
      }

-- one that couldn't be read of fewer units is one of more
pub stopped-wider : {D : Type 0} (g : Ghosts D) (y : Shape) (windows : ColumnWindows) (cols : List ColumnState) (s n m : ℕ) (rows : ℕ → Rows) (old new : List (Option D)) (hands : List Rows) (bytes : List ℕ) (e : FailedAt) → n ≤ m → Stopped g y windows cols s n rows old new hands bytes e → Stopped g y windows cols s m rows old new hands bytes e
stopped-wider g y windows cols s n m rows old new hands bytes e le st = record {
  unit = st.unit;
  within = omega (arith, st.within, le);
  at = st.at;
  stands = st.stands;
  column = st.column;
  rose = st.rose;
  same = st.same;
  told = st.told;
  ahead = st.ahead;
}

-- a part of bytes
pub part-at : (bytes : List ℕ) (from l n j : ℕ) → l ≡ n → j < n → slice_index (take l (drop from bytes)) j ≡ slice_index bytes (from + j)
part-at bytes from l n j same lt = get_or-take l (drop from bytes) j 0 (omega (arith, same, lt)) ∙ get_or-drop from bytes j 0
