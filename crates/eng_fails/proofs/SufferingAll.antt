-- All desks suffer the death of a column, one after the other.
use Rattle.std.proofs.Common.{◌≡◌, ℕ, ◌<◌, ◌≤◌, ◌+◌, List, length, subst, sym, ap, ◌∙◌, arith, inl, inr, refl}
use Rattle.std.specs.Prelude.{slice_get, slice_set}
use Rattle.std.proofs.lemmas.Bool.{cases_eq, cases_order}
use Rattle.std.proofs.lemmas.List.{length-set, get_or_past}
use Rattle.blk_disk.specs.declared.disk.Disk.{Ghosts as DiskGhosts}
use Rattle.lay_core.specs.Layout.{Shape}
use Rattle.lay_core.specs.declared.layout.Layout.{Ghosts as LayoutGhosts}
use Rattle.eng_cols.specs.Cols.{ColumnState}
use Rattle.eng_world.specs.Failing.{device_on}
use Rattle.eng_state.specs.declared.array.Array.{Array}
use Rattle.eng_clients.specs.Desk.{Desk, desk_at, no_desk}
use Rattle.eng_state.specs.Failing.{suffered, HaveSuffered}
use Rattle.eng_state.specs.Sound.{IsSound}
use Rattle.eng_state.proofs.Shown.{desk-set, desk-else}
use Rattle.eng_fails.proofs.Suffering.{suffered-goes}
use Rattle.eng_fails.proofs.Keeping.{one-goes, kept-sound}

-- the first n desks have, and the others are as they were
pub record HaveSufferedTo (y : Shape) (cols : List ColumnState) (k n : ℕ) (old now : List Desk) : Type 0 where
  pub count : length now ≡ length old
  pub done : (c : ℕ) → c < n → desk_at now c ≡ suffered y cols k (desk_at old c)
  pub left : (c : ℕ) → n ≤ c → desk_at now c ≡ desk_at old c

one-more : (y : Shape) (cols : List ColumnState) (k n m : ℕ) (old now : List Desk) → m ≡ n + 1 → n < length now → HaveSufferedTo y cols k n old now → HaveSufferedTo y cols k m old (slice_set now n (suffered y cols k (desk_at now n)))
one-more y cols k n m old now is below h = record {
  count = length-set now n _ ∙ h.count;
  done = λ c lt. elim (cases_eq c n) [
    | inl same ↦ subst (λ (j : ℕ). desk_at (slice_set now n (suffered y cols k (desk_at now n))) j ≡ suffered y cols k (desk_at old j)) (sym same) (desk-set now n _ below ∙ ap (suffered y cols k) (h.left n (omega arith)))
    | inr ne ↦ desk-else now n c _ ne ∙ h.done c (omega arith)
  ];
  left = λ c le. desk-else now n c _ (λ e. let u : ⊥ = omega (arith, e, le, is) in u) ∙ h.left c (omega arith);
}

module _ {L D : Type 0} (lay : LayoutGhosts L) (disk : DiskGhosts D) where
  -- so far the loop has come
  pub record SuffersTo (old : Array L D) (k device n : ℕ) (now : Array L D) : Type 0 where
    pub rest : now ≡ record old { clients = now.clients }
    pub suffered_to : HaveSufferedTo (lay.shape now.layout) now.cols.states k n old.clients now.clients
    pub device_is : device ≡ device_on (slice_get now.cols.states k) k
    pub sound : IsSound lay disk now

  pub suffers-none : (old : Array L D) (k device : ℕ) → device ≡ device_on (slice_get old.cols.states k) k → IsSound lay disk old → SuffersTo old k device 0 old
  suffers-none old k device is sound = record {
    rest = refl;
    suffered_to = record { count = refl; done = λ c lt. absurd (omega (arith, lt)); left = λ c le. refl };
    device_is = is;
    sound = sound;
  }

  pub suffers-more : (old now next : Array L D) (k device n m : ℕ) → m ≡ n + 1 → n < 17 → SuffersTo old k device n now
      → next ≡ record now { clients = slice_set now.clients n (suffered (lay.shape now.layout) now.cols.states k (desk_at now.clients n)) } → SuffersTo old k device m next
  suffers-more old now next k device n m is below h e = subst (SuffersTo old k device m) (sym e) (record {
    rest = ap (λ (s : Array L D). record s { clients = slice_set now.clients n now_then }) h.rest;
    suffered_to = one-more (lay.shape now.layout) now.cols.states k n m old.clients now.clients is within h.suffered_to;
    device_is = h.device_is;
    sound = kept-sound lay disk now (slice_set now.clients n now_then) now.cols now.devices.failed now.log now.lost h.sound (length-set now.clients n _)
        (one-goes now.clients n now_then within (suffered-goes (lay.shape now.layout) now.cols.states k (desk_at now.clients n))) h.sound.seated;
  })
    where
      now_then : Desk
      now_then = suffered (lay.shape now.layout) now.cols.states k (desk_at now.clients n)

      within : n < length now.clients
      within = let all = h.sound.well.all in omega (arith, all, below)

  pub all-suffered : (old now : Array L D) (k device n : ℕ) → n ≡ 17 → IsSound lay disk old → SuffersTo old k device n now → HaveSuffered (lay.shape old.layout) old.cols.states k old.clients now.clients
  all-suffered old now k device n is sound h =
      subst (λ (cols : List ColumnState). HaveSuffered (lay.shape old.layout) cols k old.clients now.clients) (ap (λ (s : Array L D). s.cols.states) h.rest)
      (subst (λ (y : Shape). HaveSuffered y now.cols.states k old.clients now.clients) (ap (λ (s : Array L D). lay.shape s.layout) h.rest)
      (record { count = h.suffered_to.count; each = each }))
    where
      beyond : (c : ℕ) → 17 ≤ c → desk_at old.clients c ≡ no_desk
      beyond c le = let all = sound.well.all in get_or_past old.clients c no_desk (omega (arith, all, le))

      past : (c : ℕ) → 17 ≤ c → desk_at now.clients c ≡ suffered (lay.shape now.layout) now.cols.states k (desk_at old.clients c)
      past c le = (h.suffered_to.left c (omega (arith, is, le)) ∙ beyond c le) ∙ sym (ap (suffered (lay.shape now.layout) now.cols.states k) (beyond c le))

      each : (c : ℕ) → desk_at now.clients c ≡ suffered (lay.shape now.layout) now.cols.states k (desk_at old.clients c)
      each c = elim (cases_order c 17) [
        | inl e ↦ past c (omega (arith, e))
        | inr (inl lt) ↦ h.suffered_to.done c (omega (arith, is, lt))
        | inr (inr over) ↦ past c (omega (arith, over))
      ]
