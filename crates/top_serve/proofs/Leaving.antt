-- What the devices hold as they are handed back, and which of their sectors may have changed.
use Rattle.std.proofs.Common.{◌≡◌, ◌++◌, inl, inr, ℕ, ◌<◌, List, [], length, Option, Some, None, refl, sym, ◌∙◌, ap, subst, arith}
use Rattle.std.specs.Prelude.{slice_index}
use Rattle.std.specs.Option.{option_map_or}
use Rattle.std.proofs.lemmas.Bool.{cases_lt}
use Rattle.std.proofs.lemmas.List.{ext_get_or}
use Rattle.blk_plain.specs.declared.op.Op.{Op}
use Rattle.blk_disk.specs.declared.disk.Disk.{Ghosts as DiskGhosts}
use Rattle.blk_disk.specs.Devices.{device_at, size_of, contents_of, calls_of, StaysIf, Changes}
use Rattle.lay_core.specs.declared.layout.Layout.{Ghosts as LayoutGhosts}
use Rattle.eng_cols.specs.Contents.{InSync, Agrees, AnyStripe}
use Rattle.eng_world.specs.Plain.{replay}
use Rattle.eng_world.specs.Legal.{AreOps}
use Rattle.eng_world.proofs.Placed.{only-rows}
use Rattle.eng_parts.specs.declared.setup.Setup.{Setup}
use Rattle.eng_parts.specs.declared.setup.Closed.{Closed}
use Rattle.eng_parts.specs.Shelf.{seen_at}
use Rattle.eng_state.specs.declared.array.Array.{Array}
use Rattle.eng_cols.specs.Stripes.{states_of}
use Rattle.eng_state.specs.Shows.{AreTold}
use Rattle.eng_array.specs.declared.start.Start.{Start}
use Rattle.top_close.proofs.ClosingLaws.{closing_agrees}
use Rattle.top_serve.specs.Setups.{shape_in, states_in, graphs_in, WasInSync}
use Rattle.top_serve.specs.Served.{CoreMeans, CoreMayChange, CoreLeaves}
use Rattle.top_serve.proofs.Begins.{bytes-at, calls-at, start-contents, replied}
use Rattle.top_serve.proofs.Between.{Course}
use Rattle.top_serve.proofs.Devices.{device_of, closed-at}
use Rattle.top_serve.proofs.Behind.{had-begun}
use Rattle.top_serve.proofs.Framed.{devices-back}
use Rattle.top_serve.proofs.Closings.{closes-one}
use Rattle.top_serve.proofs.Hands.{closes, now-one}
use Rattle.top_serve.proofs.Starting.{first_of}
use Rattle.top_serve.proofs.Meaning.{sync-same, agrees-same, told, fits, agrees-all}

module _ {L D : Type 0} (lay : LayoutGhosts L) (disk : DiskGhosts D) (setup : Setup L D) (how : Option Start) (first last : Array L D) (closed : Closed L D) (p : Course lay disk setup how first last closed) where
  back-at : (d : ℕ) → device_at closed.devices.items d ≡ device_of (seen_at last.devices d)
  back-at d = closed-at closed.devices.items last.devices p.between.closes.is_closed.absent p.between.closes.is_closed.devices d

  now-contents : disk.tells → (d n k : ℕ) → k < 512 → p.now.contents d n k ≡ contents_of disk closed.devices.items d n k
  now-contents tells d n k kb = p.shows_now.contents tells d n k kb ∙ bytes-at disk closed.devices.items last.devices d (back-at d) n k

  now-calls : (d : ℕ) → AreTold disk (calls_of disk closed.devices.items d) (p.now.calls d)
  now-calls d = subst (λ o. AreTold disk o (p.now.calls d)) (calls-at disk closed.devices.items last.devices d (back-at d)) (p.shows_now.calls d)

  -- ## Where devices change

  -- byte by byte, by the run
  byte-stays : disk.tells → (d n k : ℕ) → (CoreMayChange lay disk setup how closed d n → ⊥) → k < 512 → contents_of disk closed.devices.items d n k ≡ contents_of disk setup.devices.items d n k
  byte-stays tells d n k not kb =
      sym (now-contents tells d n k kb)
      ∙ ((only-rows (shape_in lay setup) p.layout (graphs_in setup) p.promises p.start (p.own ++ first_of how p.count) p.now p.opening p.run).contents d n k (λ c had rows. not (inl ((c, had-begun lay disk setup how first last closed p c d had), rows)))
      ∙ start-contents lay disk setup how first last closed p tells d n k kb)

  -- so sector by sector, where there is such a sector
  sector-stays : disk.tells → (d n : ℕ) → (CoreMayChange lay disk setup how closed d n → ⊥) → (x z : D) → device_at setup.devices.items d ≡ Some x → device_at closed.devices.items d ≡ Some z → disk.size z ≡ disk.size x → disk.sector z n ≡ disk.sector x n
  sector-stays tells d n not x z was is size = elim (cases_lt n (disk.size x)) [
    | inl lt ↦
        let a : length (disk.sector z n) ≡ 512 = p.between.long z n tells (omega (arith, lt, size)) in
        let b : length (disk.sector x n) ≡ 512 = p.between.long x n tells lt in
        ext_get_or 0 (disk.sector z n) (disk.sector x n) (a ∙ sym b) (λ k within.
        let e = byte-stays tells d n k not (omega (arith, within, a)) in
        sym (ap (λ (o : Option D). slice_index (option_map_or (λ v. disk.sector v n) o []) k) is) ∙ (e ∙ ap (λ (o : Option D). slice_index (option_map_or (λ v. disk.sector v n) o []) k) was))
    | inr past ↦ absurd (not (inr (let e : size_of disk setup.devices.items d ≡ disk.size x = ap (λ (o : Option D). option_map_or disk.size o 0) was in omega (arith, past, e))))
  ]

  frame : Changes disk (CoreMayChange lay disk setup how closed) setup.devices.items closed.devices.items
  frame = record { count = (devices-back lay disk setup how first last closed p).count; each = λ d. by d (device_at setup.devices.items d) (device_at closed.devices.items d) refl refl ((devices-back lay disk setup how first last closed p).each d) }
    where
      by : (d : ℕ) (x z : Option D) → device_at setup.devices.items d ≡ x → device_at closed.devices.items d ≡ z → StaysIf disk (λ n. Unit {0}) x z → StaysIf disk (CoreMayChange lay disk setup how closed d) x z
      by d None None was is h = tt
      by d None (Some z) was is h = absurd h
      by d (Some x) None was is h = absurd h
      by d (Some x) (Some z) was is h = record { size = h.size; later = h.later; told = h.told; same = λ tells n not. sector-stays tells d n not x z was is h.size }

  -- ## What it means

  start-sync : disk.tells → WasInSync lay disk setup → InSync (shape_in lay setup) p.start.contents p.start.columns
  start-sync tells sync =
      subst (InSync (shape_in lay setup) p.start.contents) (sym p.columns)
      (sync-same (shape_in lay setup) (contents_of disk setup.devices.items) p.start.contents (λ d n k kb. sym (start-contents lay disk setup how first last closed p tells d n k kb)) (states_in lay setup) sync)

  pub means : CoreMeans lay disk setup p.start p.now
  means = record {
    legal = told (shape_in lay setup) (graphs_in setup) p.layout p.promises p.start p.opening (p.own ++ first_of how p.count) p.now p.run;
    fits = λ tells sync. fits (shape_in lay setup) (graphs_in setup) p.layout p.promises p.start p.opening (p.own ++ first_of how p.count) p.now p.run (start-sync tells sync);
  }

  agrees : disk.tells → WasInSync lay disk setup → closed.lost ≡ None → (ops : List Op) × AreOps p.now p.now.history ops × Agrees (shape_in lay setup) (contents_of disk closed.devices.items) (states_of (shape_in lay setup) closed.columns.items) (replay p.start.blocks ops) AnyStripe
  agrees tells sync none =
      let a = agrees-all (shape_in lay setup) (graphs_in setup) p.layout p.promises p.start p.opening (p.own ++ first_of how p.count) p.now p.run (p.shows_now.lost ∙ (sym p.between.closes.is_closed.lost ∙ none)) (replied lay disk setup how first last closed p) (start-sync tells sync) in (
        a.0,
        a.1,
        closing_agrees (shape_in lay setup) p.now.columns closed.columns.items (closes lay disk setup how first last closed p)
            (closes-one (shape_in lay setup) p.now.columns closed.columns.items (closes lay disk setup how first last closed p) (now-one lay disk setup how first last closed p)) (contents_of disk closed.devices.items) (replay p.start.blocks a.0) AnyStripe
            (agrees-same (shape_in lay setup) p.now.contents (contents_of disk closed.devices.items) (now-contents tells) p.now.columns (replay p.start.blocks a.0) AnyStripe a.2),
      )

  pub leaves : CoreLeaves lay disk setup how closed p.start p.now
  leaves = record {
    contents = now-contents;
    calls = now-calls;
    frame = frame;
    agrees = agrees;
  }
