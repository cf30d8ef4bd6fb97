-- What a write logs, and what a stop leaves.
use Rattle.std.proofs.Common.{◌⊎◌, get_or, ◌∙◌, rules, true, false, inl, inr, ap, sym, subst, ◌≡◌, ℕ, zero, suc, ◌+◌, ◌/◌, ◌<◌, ◌≤◌, List, [], ◌∷◌, ◌++◌, length, refl, arith, length-append}
use Rattle.std.specs.Prelude.{All, Contains, Bool, Some, slice_get, if◌then◌else◌}
use Rattle.std.proofs.lemmas.Bool.{cases_order}
use Rattle.std.proofs.lemmas.List.{take_all}
use Rattle.blk_disk.specs.Sectors.{put, sector_at-put_before, sector_at-put_behind, sector_at-put_same}
use Rattle.std.proofs.lemmas.Option.{slice_get-get_or}
use Rattle.blk_disk.specs.Stopped.{put_kept, stopped, IsOneOf}
use Rattle.std.proofs.lemmas.List.Elements.{All-append, Contains-push_cases, Contains-get_or}
use Rattle.blk_disk.specs.declared.disk.Logged.{Logged}
use Rattle.blk_disk.specs.Disk.{sector_at}
use Rattle.blk_disk.specs.Stops.{Left, Logs, written}

-- as many as are written
pub length_written : (first : ℕ) (from : List ℕ) (n : ℕ) → length (written first from n) ≡ n
unfolding written
length_written first from zero = refl
length_written first from (suc n) = let l = length_written first from n in omega (arith, l, length-append (written first from n) (record { sector = first + n; bytes = sector_at from n } ∷ []))

-- they lie in front of where the write ends
pub all_written : (first : ℕ) (from : List ℕ) (n m : ℕ) → first + n ≤ m → All (λ entry. entry.sector < m) (written first from n)
unfolding written
all_written first from zero m h = search rules
all_written first from (suc n) m h = All-append (λ (entry : Logged). entry.sector < m) (written first from n) (record { sector = first + n; bytes = sector_at from n } ∷ []) (all_written first from n m (omega (arith, h))) (one (omega (arith, h)))
  where
    one : first + n < m → All (λ (entry : Logged). entry.sector < m) (record { sector = first + n; bytes = sector_at from n } ∷ [])
    one l = search rules

-- so a log that grew by a write lies within the device
pub all_logged : (old new : List Logged) (first : ℕ) (from : List ℕ) (a b : ℕ) → new ≡ old ++ written first from (length from / 512) → b ≡ a → first + length from / 512 ≤ a / 512 → All (λ entry. entry.sector < a / 512) old → All (λ entry. entry.sector < b / 512) new
all_logged old new first from a b e same fits h =
    subst (λ (m : ℕ). All (λ (entry : Logged). entry.sector < m / 512) new) (sym same)
    (subst (λ (l : List Logged). All (λ (entry : Logged). entry.sector < a / 512) l) (sym e) (All-append (λ (entry : Logged). entry.sector < a / 512) old (written first from (length from / 512)) h (all_written first from (length from / 512) (a / 512) fits)))

-- ## What a write leaves to a stop

in_written : (first : ℕ) (from : List ℕ) (n : ℕ) (entry : Logged) → Contains (written first from n) entry → (first ≤ entry.sector) × (entry.sector < first + n)
unfolding written
in_written first from zero entry h = let l = h.1 in absurd (omega (arith, l))
in_written first from (suc n) entry h = elim (Contains-push_cases (written first from n) (record { sector = first + n; bytes = sector_at from n }) entry h) [
  | inl q ↦ let w = in_written first from n entry q in (w.0, omega (arith, w.1))
  | inr e ↦ let s : first + n ≡ entry.sector = ap (λ (z : Logged). z.sector) e in (omega (arith, s), omega (arith, s))
]

pub logs_good : (first : ℕ) (from : List ℕ) (before now : Left) → now.settled ≡ before.settled → now.logged ≡ before.logged ++ written first from (length from / 512) → Logs first from true before now
logs_good first from before now same logged = record {
  settled = same;
  more = written first from (length from / 512);
  logged = logged;
  all = λ h. refl;
  within = λ entry has. in_written first from (length from / 512) entry has;
}

-- ## One sector put over the bytes

pub put_one : (bytes from : List ℕ) (at n : ℕ) → length from ≡ 512 → at < length bytes / 512 → (sector_at (put bytes at from) n ≡ sector_at bytes n) ⊎ ((n ≡ at) × (sector_at (put bytes at from) n ≡ from))
unfolding sector_at
put_one bytes from at n long within = elim (cases_order n at) [
  | inl e ↦ inr (
    e,
    ap (sector_at (put bytes at from)) (let z : n ≡ at + 0 = omega (arith, e) in z)
        ∙ sector_at-put_same bytes from at 0 (omega (arith, within)) (omega (arith, long)) ∙ take_all 512 from (omega (arith, long)),
  )
  | inr order ↦ inl (elim order [
    | inl lt ↦ sector_at-put_before bytes from at n (omega (arith, within)) lt
    | inr gt ↦ sector_at-put_behind bytes from at n (omega (arith, long)) (omega (arith, within)) (omega (arith, long, gt))
  ])
]

-- a step more
pub one_more_of : (old bytes new : List ℕ) (logged : List Logged) (i : ℕ) (d : Logged) (n : ℕ) → i < length logged → (sector_at new n ≡ sector_at bytes n) ⊎ ((n ≡ (get_or logged i d).sector) × (sector_at new n ≡ (get_or logged i d).bytes))
    → IsOneOf old logged n (sector_at bytes n) → IsOneOf old logged n (sector_at new n)
one_more_of old bytes new logged i d n within (inl same) was = subst (IsOneOf old logged n) (sym same) was
one_more_of old bytes new logged i d n within (inr e) was =
    let whole : get_or logged i d ≡ record { sector = n; bytes = sector_at new n } = ap (λ (s : ℕ). let l : Logged = record { sector = s; bytes = (get_or logged i d).bytes } in l) (sym e.0) ∙ ap (λ (b : List ℕ). let l : Logged = record { sector = n; bytes = b } in l) (sym e.1) in
    inr (subst (Contains logged) whole (Contains-get_or logged i d within))

put_by : (bytes : List ℕ) (kept : Bool) (entry : Logged) → put_kept bytes (Some kept) (Some entry) ≡ (if kept then put bytes entry.sector entry.bytes else bytes)
put_by bytes true entry = refl
put_by bytes false entry = refl

pub stopped_more : (old bytes new : List ℕ) (keep : List Bool) (logged : List Logged) (i : ℕ) (k : Bool) (d : Logged) → i < length keep → i < length logged → bytes ≡ stopped old keep logged i
    → new ≡ (if get_or keep i k then put bytes (get_or logged i d).sector (get_or logged i d).bytes else bytes) → new ≡ stopped old keep logged (i + 1)
unfolding stopped
stopped_more old bytes new keep logged i k d kw lw was is =
    let next : i + 1 ≡ suc i = omega arith in
    is ∙ sym (put_by bytes (get_or keep i k) (get_or logged i d))
    ∙ ap (λ b. put_kept b (Some (get_or keep i k)) (Some (get_or logged i d))) was
    ∙ ap (λ o. put_kept (stopped old keep logged i) o (Some (get_or logged i d))) (sym (slice_get-get_or keep i k kw))
    ∙ ap (λ o. put_kept (stopped old keep logged i) (slice_get keep i) o) (sym (slice_get-get_or logged i d lw))
    ∙ ap (stopped old keep logged) (sym next)
