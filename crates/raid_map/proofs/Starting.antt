-- An array that is in sync in every image that a stop may leave has no unsound stripe in any of them, nor as its devices hold it.
use Rattle.std.proofs.Common.{◌∙◌, ℕ, List, Bool, sym, arith}
use Rattle.lay_core.specs.Layout.{Shape}
use Rattle.eng_cols.specs.Cols.{ColumnState}
use Rattle.eng_cols.specs.Contents.{Contents, sector_at, byte_of, InSync}
use Rattle.eng_cols.proofs.Sums.{below_same}
use Rattle.eng_cols.proofs.Spots.{available-seat}
use Rattle.raid_map.specs.Stops.{IsImage}
use Rattle.raid_map.specs.Mapped.{Mapped, IsStart, InSyncAnyhow, UnsoundLieIn}
use Rattle.raid_map.proofs.Images.{byte-here}

module _ (y : Shape) (start : Mapped) where
  pub start-sync : IsStart y start → InSyncAnyhow y start → InSync y start.world.contents start.world.columns
  start-sync s any t o k tw ow kw checked complete =
      below_same (λ i. byte_of y start.world.contents start.world.columns t i o k) (λ i. byte_of y (λ d. (start.stored d).now) start.world.columns t i o k) y.width (λ i iw.
      let a = available-seat y start.world.columns t i (complete i iw) in
      byte-here y start.world.columns t start.world.contents start.world.contents start.world.contents i o k a.0 (complete i iw) a.1
      ∙ sym (s.now a.0.device (sector_at y a.0 o) k (λ e. omega (arith, e)))
      ∙ sym (byte-here y start.world.columns t start.world.contents start.world.contents (λ d. (start.stored d).now) i o k a.0 (complete i iw) a.1))
      ∙ any (λ d. (start.stored d).now) (λ d n. s.may_hold d n) t o k tw ow kw checked complete

  pub none-unsound : (serial : ℕ) (regions : ℕ → Bool) (cols : List ColumnState) → ((x : Contents) → IsImage start.stored x → InSync y x cols) → UnsoundLieIn y serial regions cols start
  none-unsound serial regions cols sync image t may u = absurd (u.differs (sync image may t u.offset u.byte u.stripe u.within u.of_sector u.checked u.complete))
