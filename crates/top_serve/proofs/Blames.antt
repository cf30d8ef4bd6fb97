-- What devices failed by, and columns died of.
use Rattle.std.proofs.Common.{◌≡◌, ◌⊎◌, inl, inr, ℕ, ◌++◌, true, Option, Some, slice_get, sym, ◌∙◌, ap, subst}
use Rattle.blk_disk.specs.declared.disk.Disk.{Ghosts as DiskGhosts}
use Rattle.lay_core.specs.declared.layout.Layout.{Ghosts as LayoutGhosts}
use Rattle.eng_cols.specs.declared.column.Column.TheVariants as set
use Rattle.eng_cols.specs.Cols.{Dead, HasDevice}
use Rattle.eng_parts.specs.declared.setup.Setup.{Setup}
use Rattle.eng_parts.specs.declared.setup.Closed.{Closed}
use Rattle.eng_state.specs.declared.array.Array.{Array}
use Rattle.eng_array.specs.Blamed.{IsBlamed, rose, asked, outside}
use Rattle.eng_array.specs.declared.start.Start.{Start}
use Rattle.eng_array.proofs.ChainBlames.{blamed-in}
use Rattle.top_serve.specs.Setups.{shape_in, graphs_in, begun_in, with_start}
use Rattle.top_serve.specs.Served.{WasFailed, IsFailedBy, IsDeadBy}
use Rattle.top_serve.proofs.Begins.{first-failed}
use Rattle.top_serve.proofs.Behind.{kind-mid, mid-had, one-column, had-begun, none-fails}
use Rattle.top_serve.proofs.Between.{Course}
use Rattle.top_serve.proofs.Died.{DiedBy, was_dead, was_asked, device_failed, died-by}
use Rattle.top_serve.proofs.Framed.{rises}
use Rattle.top_serve.proofs.Alike.{bare-dead, kind}
use Rattle.top_serve.proofs.Starting.{first_of}

module _ {L D : Type 0} (lay : LayoutGhosts L) (disk : DiskGhosts D) (setup : Setup L D) (how : Option Start) (first last : Array L D) (closed : Closed L D) (p : Course lay disk setup how first last closed) where
  pub failed : (d : ℕ) → p.now.failed d ≡ true → IsFailedBy lay disk setup how closed p.now d
  failed d is = by (blamed-in lay disk first last (p.own ++ first_of how p.count) p.goes p.start p.now p.shows_start p.shows_now d (first-failed lay disk setup how first last closed p d) (sym (p.shows_now.failed d) ∙ is))
    where
      by : IsBlamed lay disk first last (p.own ++ first_of how p.count) p.start p.now d → IsFailedBy lay disk setup how closed p.now d
      by (rose up) = inl (rises lay disk setup how first last closed p d up)
      by (asked id c has it reply had) = inr (c, had-begun lay disk setup how first last closed p c d had, record { id = id; asked = it; replied = reply })
      by (outside c has had) = absurd (none-fails lay disk setup how first last closed p c has)

  -- a column's device has failed by what it died of
  pub blamed : (c d : ℕ) → HasDevice (begun_in lay setup how) c d → IsFailedBy lay disk setup how closed p.now d → IsDeadBy lay disk setup how closed p.now c
  blamed c d has (inl up) = inr (d, has, up)
  blamed c d has (inr (k, other, was)) = inl (subst (WasFailed p.now) (one-column lay disk setup how first last closed p k c d other has) was)

  pub dead-by : (c : ℕ) → slice_get p.now.columns c ≡ Some Dead → (slice_get (with_start how setup.columns.items) c ≡ Some set.Dead) ⊎ IsDeadBy lay disk setup how closed p.now c
  dead-by c dead = by (died-by (shape_in lay setup) (graphs_in setup) p.layout p.promises p.mid p.opening_begun p.own p.now p.are_own p.run_own c dead)
    where
      by : DiedBy (shape_in lay setup) (graphs_in setup) p.layout p.promises p.mid p.opening_begun p.now c → (slice_get (with_start how setup.columns.items) c ≡ Some set.Dead) ⊎ IsDeadBy lay disk setup how closed p.now c
      by (was_dead h) = inl (bare-dead (slice_get (with_start how setup.columns.items) c) (sym (kind-mid lay disk setup how first last closed p c) ∙ ap kind h))
      by (was_asked h) = inr (inl h)
      by (device_failed d has is) = inr (blamed c d (mid-had lay disk setup how first last closed p c d has) (failed d is))
