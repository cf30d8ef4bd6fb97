-- Devices that no column has, which aren't called.
use Rattle.std.proofs.Common.{◌≡◌, ℕ, Bool, List, [], ◌∷◌, Option, Some, None, refl, sym, subst, arith}
use Rattle.std.specs.Prelude.{All}
use Rattle.std.proofs.lemmas.List.Elements.{All-get_or, All-weaker}
use Rattle.blk_disk.specs.declared.disk.Call.{Call}
use Rattle.blk_disk.specs.declared.disk.Disk.{Ghosts}
use Rattle.blk_disk.specs.Devices.{calls_of}
use Rattle.lay_core.specs.Layout.{Shape}
use Rattle.eng_cols.specs.declared.column.Column.{Column}
use Rattle.eng_cols.specs.Cols.{ColumnState, HasDevice}
use Rattle.eng_cols.proofs.Spots.{seat-device}
use Rattle.eng_cols.specs.Stripes.{states_of}
use Rattle.raid_map.specs.Sweeping.{CallsMarked, IsMarkedCall}
use Rattle.raid_recon.specs.Ends.{CallsRows, IsRowsCall, IsUnitCall}
use Rattle.top_close.specs.Stage.{ToldNothing}
use Rattle.top_acts.proofs.Named.{live_of}
use Rattle.top_close.proofs.Words.{NoCalls}

-- calls of units that no column has
none_of_units : (y : Shape) (cols : List ColumnState) (d : ℕ) (calls : List Call) → ((c : ℕ) → HasDevice cols c d → ⊥) → All (IsUnitCall y cols d) calls → calls ≡ []
none_of_units y cols d [] none all = refl
none_of_units y cols d (x ∷ xs) none all =
    let u = All-get_or (IsUnitCall y cols d) (x ∷ xs) 0 x (omega arith) all in
    absurd (none u.at.column (subst (λ k. HasDevice cols u.at.column k) (sym u.device) (seat-device y cols u.stripe u.unit u.at u.stands)))

-- nor of rows
none_of_rows : (y : Shape) (cols : List ColumnState) (d : ℕ) (calls : List Call) → ((c : ℕ) → HasDevice cols c d → ⊥) → All (IsRowsCall y cols d) calls → calls ≡ []
none_of_rows y cols d [] none all = refl
none_of_rows y cols d (x ∷ xs) none all =
    let u = All-get_or (IsRowsCall y cols d) (x ∷ xs) 0 x (omega arith) all in
    absurd (none u.at.column (subst (λ k. HasDevice cols u.at.column k) (sym u.device) (seat-device y cols u.stripe u.unit u.at u.stands)))

no_units : (y : Shape) (cols : List ColumnState) (d : ℕ) (a b : Option (List Call)) → ((c : ℕ) → HasDevice cols c d → ⊥) → CallsRows y cols d a b → NoCalls a b
no_units y cols d a None none h = tt
no_units y cols d None (Some bs) none h = h
no_units y cols d (Some xs) (Some bs) none h = (h.0, h.1, none_of_rows y cols d h.0 none h.3)

no_marked : (y : Shape) (cols : List ColumnState) (marks : ℕ → Bool) (d : ℕ) (a b : Option (List Call)) → ((c : ℕ) → HasDevice cols c d → ⊥) → CallsMarked y cols marks d a b → NoCalls a b
no_marked y cols marks d a None none h = tt
no_marked y cols marks d None (Some bs) none h = h
no_marked y cols marks d (Some xs) (Some bs) none h =
    (h.0, h.1, none_of_units y cols d h.0 none (All-weaker (IsMarkedCall y cols marks d) (IsUnitCall y cols d) (λ c m. m.unit) h.0 h.3))

module _ {D : Type 0} (g : Ghosts D) where
  pub told-marked : (y : Shape) (marks : ℕ → Bool) (columns : List Column) (old new : List (Option D)) → ((d : ℕ) → CallsMarked y (states_of y columns) marks d (calls_of g old d) (calls_of g new d)) → ToldNothing g columns old new
  told-marked y marks columns old new calls d none = no_marked y (states_of y columns) marks d (calls_of g old d) (calls_of g new d) (λ c has. none c (live_of y columns c d has)) (calls d)

  pub told-units : (y : Shape) (columns : List Column) (old new : List (Option D)) → ((d : ℕ) → CallsRows y (states_of y columns) d (calls_of g old d) (calls_of g new d)) → ToldNothing g columns old new
  told-units y columns old new calls d none = no_units y (states_of y columns) d (calls_of g old d) (calls_of g new d) (λ c has. none c (live_of y columns c d has)) (calls d)
