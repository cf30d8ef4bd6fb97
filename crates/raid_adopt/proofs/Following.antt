-- A round may follow another, whole or stopped.
use Rattle.std.proofs.Common.{◌≡◌, ◌∙◌, ap, sym, subst, ℕ, ◌<◌, ◌≤◌, ◌⊎◌, List, refl, arith, inl, inr, Option, Some}
use Rattle.std.specs.Prelude.{slice_index}
use Rattle.eng_cols.specs.declared.column.Column.{Column}
use Rattle.eng_cols.specs.Cols.{HasDeviceOn}
use Rattle.raid_label.specs.declared.label.Label.{Label}
use Rattle.raid_label.specs.Bytes.{IsHeld, IsInRange, bytes_of, label_in}
use Rattle.raid_label.specs.Judged.{fault_in}
use Rattle.raid_label.proofs.Written.{label_is_read}
use Rattle.raid_map.specs.Stops.{Stored, MayHold}
use Rattle.top_rounds.specs.Labels.{Seating, with_round}
use Rattle.raid_adopt.specs.Rounds.{Event, IsLabelOf, IsOf, MayBegin, Reads, RoundRun}
use Rattle.raid_adopt.proofs.Stopped.{MayBe, Within, within, long, sector-same, refl-fault}

module _ (r : Label) (in_range : IsInRange r) (is-held : IsHeld r) where
  own-read : (c : ℕ) → c < 32 → label_in (bytes_of (record r { column = c })) ≡ Some (record r { column = c })
  own-read c few = label_is_read (record r { column = c })
      (record {
        version = in_range.version;
        serial = in_range.serial;
        counter = in_range.counter;
        column = omega (arith, few);
        columns = in_range.columns;
        unit = in_range.unit;
        rows = in_range.rows;
        level = in_range.level;
        clean = in_range.clean;
        b = in_range.b;
        k = in_range.k;
        r = in_range.r;
        lambda = in_range.lambda;
        seats = in_range.seats;
        filling = in_range.filling;
        done = in_range.done;
      })
      (record { version = is-held.version; clean = is-held.clean; filling = is-held.filling; done = is-held.done; first = is-held.first })

  label-reads : (c : ℕ) (content : ℕ → ℕ) → c < 32 → IsLabelOf r c content → Reads content (record r { column = c })
  label-reads c content few label bytes size same =
      ap label_in (sector-same content bytes (bytes_of (record r { column = c })) size (long (record r { column = c }) in_range.seats) same (λ k lt. sym (label k lt)))
      ∙ own-read c few

  module _ (began : List Column) (start now : ℕ → Stored) (events : List Event) (few : (c d : ℕ) → HasDeviceOn began c d → c < 32)
      (apart : (c k d : ℕ) → HasDeviceOn began c d → HasDeviceOn began k d → c ≡ k)
      (may : MayBegin r began start) (run : RoundRun r began start events now)
      (next : List Column) (counter clean : ℕ) (seating : Seating) (newer : r.counter < counter)
      (fewer : (c d : ℕ) → HasDeviceOn next c d → HasDeviceOn began c d) where
    abbrev r2 : Label
    r2 = with_round r counter clean seating

    left : (d : ℕ) (content : ℕ → ℕ) → MayHold (now d) 0 content → MayBe r began start may d 0 content
    left d content h = (within r began start may events now run).left d 0 content h

    same-array : (c : ℕ) (own : Label) → IsOf r c own → IsOf r2 c own
    unfolding fault_in
    same-array c own h = h

    own : (c d : ℕ) (content : ℕ → ℕ) → HasDeviceOn next c d → MayHold (now d) 0 content → (l : Label) × Reads content l × IsOf r2 c l
    own c d content on h = go (left d content h)
      where
        go : MayBe r began start may d 0 content → (l : Label) × Reads content l × IsOf r2 c l
        go (inl before) = let o = may.own c d content (fewer c d on) before in (o.0, o.1, same-array c o.0 o.2)
        go (inr (z, e, live, label)) =
            let same : e ≡ c = apart e c d live (fewer c d on) in
            let mine : IsLabelOf r c content = subst (λ (k : ℕ). IsLabelOf r k content) same label in
            (record r { column = c }, label-reads c content (few c d (fewer c d on)) mine, same-array c (record r { column = c }) (refl-fault (record r { column = c })))

    older : (d : ℕ) (content : ℕ → ℕ) (l : Label) → MayHold (now d) 0 content → Reads content l → l.counter < counter
    older d content l h reads = go (left d content h)
      where
        go : MayBe r began start may d 0 content → l.counter < counter
        go (inl before) = let lt = may.older d content l before reads in omega (arith, lt, newer)
        go (inr (z, e, live, label)) =
            let mine = reads (bytes_of (record r { column = e })) (long (record r { column = e }) in_range.seats) (λ k lt. sym (label k lt)) in
            let twice : Some l ≡ Some (record r { column = e }) = sym mine ∙ own-read e (few e d live) in
            let is : l ≡ record r { column = e } = cc twice in
            omega (arith, newer, ap (λ (x : Label). x.counter) is)

    pub may-follow : ((d n : ℕ) → MayHold (now d) n ((now d).now n)) → MayBegin r2 next now
    may-follow holds = record { may_hold = holds; own = own; older = older }
