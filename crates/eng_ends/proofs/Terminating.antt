-- A terminator that has ended, and then was given back what the operation had.
use Rattle.std.proofs.Common.{◌≡◌, ℕ, ◌<◌, List, length, subst, ap, ◌∙◌}
use Rattle.std.specs.Prelude.{slice_set}
use Rattle.std.proofs.lemmas.List.{set-set}
use Rattle.blk_plain.specs.declared.op.Outcome.TheVariants.{Good}
use Rattle.buf_pool.specs.Pool as pool
use Rattle.stripe_lock.specs.Table.{Table, Releases}
use Rattle.eng_world.specs.declared.item.Reply.{Reply}
use Rattle.eng_state.specs.declared.array.Array.{Array}
use Rattle.eng_clients.specs.Desk.{Desk, desk_at, with_ended, with_reply}
use Rattle.eng_state.specs.Moves.{CamePlain, Released, Terminated}
use Rattle.eng_state.proofs.Shown.{desk-set}

module _ {L D : Type 0} (old mid end : Array L D) (c n : ℕ) (reply : Reply) (below : c < length old.clients) (h : CamePlain old c n Good mid) (r : Released mid c reply end) (log : end.log ≡ mid.log) where
  abbrev now : Desk
  now = with_ended (desk_at old.clients c) n Good

  pub desk-mid : desk_at mid.clients c ≡ now
  desk-mid = ap (λ (l : List Desk). desk_at l c) h.clients ∙ desk-set old.clients c now below

  pub terminated : Terminated old c n reply end
  terminated = record {
    clients = r.clients ∙ (ap (λ (e : Desk). slice_set mid.clients c (with_reply e reply)) desk-mid ∙ (ap (λ (l : List Desk). slice_set l c (with_reply now reply)) h.clients ∙ set-set old.clients c now (with_reply now reply)));
    leases = subst (λ (p : pool.PoolView). pool.KeepsOthers p (desk_at old.clients c).lease end.pool) h.pool (subst (λ (l : List ℕ). pool.KeepsOthers mid.pool l end.pool) (ap (λ (e : Desk). e.lease) desk-mid) r.leases);
    pool = subst (λ (p : pool.PoolView). pool.Returns p (desk_at old.clients c).lease end.pool) h.pool (subst (λ (l : List ℕ). pool.Returns mid.pool l end.pool) (ap (λ (e : Desk). e.lease) desk-mid) r.pool);
    locks = subst (λ (t : Table). Releases t c end.locks) h.locks r.locks;
    lists = r.lists ∙ h.lists;
    devices = r.devices ∙ h.devices;
    log = log ∙ h.log;
    layout = r.layout ∙ h.layout;
    cols = r.cols ∙ h.cols;
    graphs = r.graphs ∙ h.graphs;
    lost = r.lost ∙ h.lost;
    spare = r.spare ∙ h.spare;
  }
