-- What a core shows, and a core one of whose clients has changed.
use Rattle.std.proofs.Common.{◌≡◌, ◌≢◌, ℕ, ◌<◌, List, length, get_or, subst, sym, ap, ◌∙◌, refl, Option, None}
use Rattle.std.specs.Prelude.{slice_set}
use Rattle.std.proofs.lemmas.List.{get_or-set_same, get_or-set_other}
use Rattle.blk_disk.specs.declared.disk.Disk.{Ghosts as DiskGhosts}
use Rattle.buf_pool.specs.Pool as pool
use Rattle.eng_cols.specs.declared.spot.Loss.{Loss}
use Rattle.eng_world.specs.World.{Running, Current, Client, World, RunsAs, Nothing as Idles, Waits as IsWaiting, Runs as IsRunning}
use Rattle.std.proofs.Common.{inl, inr}
use Rattle.std.proofs.lemmas.Bool.{cases_eq}
use Rattle.eng_state.proofs.Put.{put, put-same, put-other}
use Rattle.eng_clients.specs.declared.stage.Stage.{Stage}
use Rattle.eng_clients.specs.declared.stage.Stage.TheVariants.{Nothing, Waits, Runs}
use Rattle.eng_state.specs.declared.array.Array.{Array}
use Rattle.eng_clients.specs.Desk.{Desk, desk_at, no_desk}
use Rattle.eng_state.specs.Shows.{Shows, ShowsClient, ShowsCurrent, HoldBytes, running_as}
use Rattle.eng_log.specs.Filled.{buffer_byte}
use Rattle.eng_clients.specs.Replied.{replies_of}

-- a client whose operation runs is shown as one that runs
pub shown-running : (tells : Type 0) (lost : Option Loss) (p : pool.PoolView) (d : Desk) (c : Client) → ShowsClient tells lost p d c → d.stage ≡ Runs → (buf : ℕ → ℕ → ℕ → ℕ) × (c.current ≡ IsRunning (running_as d buf)) × HoldBytes tells p d buf
shown-running tells lost p d c s runs = subst (λ (t : Stage). ShowsCurrent tells p t d c.current) runs s.current

-- and what is seen to run runs
pub current-runs : (tells : Type 0) (p : pool.PoolView) (d : Desk) (now : Current) (r : Running) (t : Stage) → ShowsCurrent tells p t d now → now ≡ IsRunning r → (t ≡ Runs) × ((buf : ℕ → ℕ → ℕ → ℕ) × HoldBytes tells p d buf × (r ≡ running_as d buf))
current-runs tells p d now r Nothing s is = let z : Idles ≡ IsRunning r = sym s ∙ is in absurd (let u : ⊥ = cc in u)
current-runs tells p d now r Waits s is = let z : IsWaiting ≡ IsRunning r = sym s ∙ is in absurd (let u : ⊥ = cc in u)
current-runs tells p d now r Runs s is = let z : IsRunning r ≡ IsRunning (running_as d s.0) = sym is ∙ s.1 in (refl, (s.0, s.2, let e : r ≡ running_as d s.0 = cc in e))

pub runs-shown : {L D : Type 0} (disk : DiskGhosts D) (core : Array L D) (w : World) → Shows disk core w → (k : ℕ) (r : Running) → RunsAs w k r → ((desk_at core.clients k).stage ≡ Runs) × (buf : ℕ → ℕ → ℕ → ℕ) × (r ≡ running_as (desk_at core.clients k) buf)
runs-shown disk core w s k r is =
    let h = current-runs disk.tells core.pool (desk_at core.clients k) (w.clients k).current r (desk_at core.clients k).stage (s.clients k).current is in
    (h.0, h.1.0, h.1.2)

-- ## One client that has changed

pub desk-set : (desks : List Desk) (c : ℕ) (d : Desk) → c < length desks → desk_at (slice_set desks c d) c ≡ d
desk-set desks c d below = get_or-set_same desks c d no_desk below

pub desk-else : (desks : List Desk) (c k : ℕ) (d : Desk) → k ≢ c → desk_at (slice_set desks c d) k ≡ desk_at desks k
desk-else desks c k d ne = get_or-set_other desks c k d no_desk ne

-- a client is shown with the same bytes in another pool
pub same-bytes : (tells : Type 0) (p q : pool.PoolView) (d : Desk) (c : Client) (t : Stage) → ((k : ℕ) → (pool.seat_at q.seats k).bytes ≡ (pool.seat_at p.seats k).bytes) → ShowsCurrent tells p t d c.current → ShowsCurrent tells q t d c.current
same-bytes tells p q d c Nothing same s = s
same-bytes tells p q d c Waits same s = s
same-bytes tells p q d c Runs same s = (s.0, s.1, λ told b o k covers h. s.2 told b o k covers h ∙ ap (λ (bytes : List ℕ). buffer_byte d.run.graph bytes b o k) (sym (same (get_or d.lease b 0))))

-- one client is another, and of the pool only who is at home may differ
pub shown-put : (tells : Type 0) (lost : Option Loss) (p q : pool.PoolView) (desks desks2 : List Desk) (clients : ℕ → Client) (c : ℕ) (d : Desk) (v : Client) → c < length desks → desks2 ≡ slice_set desks c d
    → ((k : ℕ) → (pool.seat_at q.seats k).bytes ≡ (pool.seat_at p.seats k).bytes)
    → ((k : ℕ) → ShowsClient tells lost p (desk_at desks k) (clients k)) → ShowsClient tells lost q d v
    → (k : ℕ) → ShowsClient tells lost q (desk_at desks2 k) (put clients c v k)
shown-put tells lost p q desks desks2 clients c d v below is same s here k = subst (λ (l : List Desk). ShowsClient tells lost q (desk_at l k) (put clients c v k)) (sym is) (elim (cases_eq k c) [
  | inl e ↦ subst (λ (j : ℕ). ShowsClient tells lost q (desk_at (slice_set desks c d) j) (put clients c v j)) (sym e)
      (subst (λ (a : Desk). ShowsClient tells lost q a (put clients c v c)) (sym (desk-set desks c d below)) (subst (λ (a : Client). ShowsClient tells lost q d a) (sym (put-same clients c v)) here))
  | inr ne ↦ subst (λ (a : Desk). ShowsClient tells lost q a (put clients c v k)) (sym (desk-else desks c k d ne)) (subst (λ (a : Client). ShowsClient tells lost q (desk_at desks k) a) (sym (put-other clients c v k ne)) (moved k))
])
  where
    moved : (k : ℕ) → ShowsClient tells lost q (desk_at desks k) (clients k)
    moved k = let old = s k in record { items = old.items; replies = old.replies; current = same-bytes tells p q (desk_at desks k) (clients k) (desk_at desks k).stage same old.current }

-- while the array isn't lost the replies shown are the desk's
pub replies-shown : {L D : Type 0} (disk : DiskGhosts D) (core : Array L D) (w : World) → Shows disk core w → core.lost ≡ None → (k : ℕ) → (w.clients k).replies ≡ (desk_at core.clients k).replies
replies-shown disk core w s not_lost k = (s.clients k).replies ∙ ap (λ (l : Option Loss). replies_of l (desk_at core.clients k)) not_lost

-- the same where it is known of each other client what it is shown as
pub shown-one : (tells : Type 0) (lost : Option Loss) (q : pool.PoolView) (desks desks2 : List Desk) (clients : ℕ → Client) (c : ℕ) (d : Desk) (v : Client) → c < length desks → desks2 ≡ slice_set desks c d
    → ((k : ℕ) → k ≢ c → ShowsClient tells lost q (desk_at desks k) (clients k)) → ShowsClient tells lost q d v
    → (k : ℕ) → ShowsClient tells lost q (desk_at desks2 k) (put clients c v k)
shown-one tells lost q desks desks2 clients c d v below is others here k = subst (λ (l : List Desk). ShowsClient tells lost q (desk_at l k) (put clients c v k)) (sym is) (elim (cases_eq k c) [
  | inl e ↦ subst (λ (j : ℕ). ShowsClient tells lost q (desk_at (slice_set desks c d) j) (put clients c v j)) (sym e)
      (subst (λ (a : Desk). ShowsClient tells lost q a (put clients c v c)) (sym (desk-set desks c d below)) (subst (λ (a : Client). ShowsClient tells lost q d a) (sym (put-same clients c v)) here))
  | inr ne ↦ subst (λ (a : Desk). ShowsClient tells lost q a (put clients c v k)) (sym (desk-else desks c k d ne)) (subst (λ (a : Client). ShowsClient tells lost q (desk_at desks k) a) (sym (put-other clients c v k ne)) (others k ne))
])

-- so each client is shown by its desk
pub unlost : {L D : Type 0} (disk : DiskGhosts D) (core : Array L D) (w : World) → Shows disk core w → core.lost ≡ None → (k : ℕ) → ShowsClient disk.tells None core.pool (desk_at core.clients k) (w.clients k)
unlost disk core w s not_lost = subst (λ (l : Option Loss). (k : ℕ) → ShowsClient disk.tells l core.pool (desk_at core.clients k) (w.clients k)) not_lost s.clients
