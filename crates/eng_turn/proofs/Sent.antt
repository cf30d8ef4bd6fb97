-- A pass may go to another thread, and a turn may go there and be shared, where the turn's value may go.
-- A crew cites `pass_send`, `turn_send` and `turn_sync`; the others serve the types that a rule names.
use denote.RattleType.{RattleType}
use denote.Param.Send.{Frees, part_keyless, IsSend, IsSync, sendable, recorded_send, enum_send}
use denote.Param.SendFields.{declared_send, declared_sync, as_row_send, as_row_sync}
use denote.Struct.Struct.{Struct}
use denote.Struct.Owning.{shape}
use denote.Struct.Field.{row_field, usize-field, u64-field}
use denote.Enum.Enum.{Enum}
use denote.Enum.Declared.{shape as shape_of}
use Rattle.std.proofs.Crossing.{crosses, frees, send as heap_send, sync as heap_sync}
use Rattle.std.specs.declared.alloc.Allocator.{Ghosts as AllocGhosts}
use Rattle.std.specs.contracts.alloc.Global as global
use Rattle.std.specs.contracts.option.Option as option
use Rattle.std.specs.contracts.snapshot.Snapshot as snapshot
use Rattle.std.specs.contracts.sync.atomic.AtomicU64 as atomic
use Rattle.atomic_table.specs.declared.shared.TableRule.{Ghosts as TableGhosts}
use Rattle.atomic_table.specs.contracts.owned.Table as table
use Rattle.atomic_table.specs.contracts.shared.Seat as seat
use Rattle.atomic_table.specs.contracts.shared.Shared as shared
use Rattle.atomic_table.specs.contracts.send_lease.SendLease as lease
use Rattle.atomic_table.proofs.Rights.{right_send}
use Rattle.atomic_table.proofs.Sent.{seat_keyless, owns_keyless, shares_keyless}
use Rattle.eng_turn.specs.declared.rule.TurnRule.{Ghosts as TurnGhosts}
use Rattle.eng_turn.specs.contracts.table_rule.TurnTable as table_rule
use Rattle.eng_turn.specs.contracts.turn.Pass as pass
use Rattle.eng_turn.specs.contracts.turn.Turn as turn
use Rattle.eng_turn.specs.contracts.view.Resting as resting
use Rattle.eng_turn.specs.contracts.view.PassView as view
use Rattle.eng_turn.specs.View.{opener}
use Rattle.eng_turn.specs.Rule.{Kept}

pub snapshot_send : (T : RattleType) → IsSend (snapshot.the_row T)
snapshot_send T = record { owned = λ d vs. ((λ vss. (tt, ((λ uss. (tt, tt)), tt))), tt); leaving = λ k f vs. tt }

pub option_send : (X : RattleType) → IsSend X → IsSend (option.the_row X)
option_send X x = let E = option.the_type X in recorded_send (Enum (shape_of E)) E.D E.to E.to_one (enum_send (shape_of E) (tt, ((x, tt), tt)))

-- the crate below doesn't pass its own proofs of the next three on
seat_send : (S V : RattleType) → IsSend S → IsSend (seat.the_row S V)
seat_send S V s = record { owned = λ d vs. ((λ vss. (tt, ((λ uss. (tt, tt)), tt))), seat_keyless S s V.coded.code d.table_id d.id d.me); leaving = λ k f vs. tt }

shared_send : (S V K P : RattleType) (g : TableGhosts P.Denot S.Denot V.Denot K.Denot) → IsSend S → IsSend (shared.the_row S V K P g)
shared_send S V K P g s = record { owned = λ d vs. ((λ vss. (tt, (tt, (tt, ((λ uss. (tt, tt)), tt))))), owns_keyless S s V.coded.code d.table_id (g.holds d.key) d.words d.slots); leaving = λ k f vs. tt }

shared_sync : (S V K P : RattleType) (g : TableGhosts P.Denot S.Denot V.Denot K.Denot) → IsSend S → IsSync (shared.the_row S V K P g)
shared_sync S V K P g s = let fields : IsSync (Struct (shape (shared.the_type S V K P g))) = search sendable depth 20 in
    record { shared = λ d b o ν. (fields.shared (d.words, (d.slots, (tt, tt))) b o ν, shares_keyless S s V.coded.code d.table_id (g.holds d.key) d.words d.slots ν) }

resting_send : (V T : RattleType) → IsSend V → IsSend (resting.the_row V T)
resting_send V T v = declared_send (resting.the_type V T) (as_row_send (row_field V) v, (option_send (snapshot.the_row T) (snapshot_send T), tt))

content_send : (V T : RattleType) → IsSend V → IsSend (option.the_row (resting.the_row V T))
content_send V T v = option_send (resting.the_row V T) (resting_send V T v)

pub pass_send : (R V T : RattleType) → IsSend V → IsSend (pass.the_row R V T)
pass_send R V T v = declared_send (pass.the_type R V T) (seat_send (option.the_row (resting.the_row V T)) (view.the_row V T) (content_send V T v), tt)

lease_sync : (T A : RattleType) (g : AllocGhosts A.Denot) → IsSend A → Frees g g.dealloc_token → IsSync (lease.the_row T A g)
lease_sync T A g s f = record { shared = λ d b o ν q. part_keyless (lease.the_row T A g) (right_send T A g f) q d b o }

size_send : IsSend usize-field.row
size_send = search sendable

size_sync : IsSync usize-field.row
size_sync = search sendable

atomic_send : IsSend atomic.the_field.row
atomic_send = search crosses depth 20

atomic_sync : IsSync atomic.the_field.row
atomic_sync = search crosses depth 20

module _ (S V K P A : RattleType) (g : TableGhosts P.Denot S.Denot V.Denot K.Denot) (h : AllocGhosts A.Denot) (s : IsSend S) (a : IsSend A) (f : Frees h h.dealloc_token) where
  table_send : IsSend (table.the_row S V K P A g h)
  table_send = declared_send (table.the_type S V K P A g h)
      (shared_send S V K P g s, (as_row_send usize-field size_send, (as_row_send usize-field size_send, (right_send u64-field.row A h f, (right_send S A h f, (as_row_send (row_field A) a, tt))))))

  table_sync : IsSync A → IsSync (table.the_row S V K P A g h)
  table_sync y = declared_sync (table.the_type S V K P A g h)
      (shared_sync S V K P g s, (as_row_sync usize-field size_sync, (as_row_sync usize-field size_sync, (lease_sync u64-field.row A h a f, (lease_sync S A h a f, (as_row_sync (row_field A) y, tt))))))

module _ (R V T : RattleType) (g : TurnGhosts R.Denot V.Denot T.Denot) (v : IsSend V) where
  abbrev kept : TableGhosts (table_rule.the_row R).Denot (option.the_row (resting.the_row V T)).Denot (view.the_row V T).Denot (snapshot.the_row V).Denot
  kept = record { holds = λ k. Kept g.empty g.fits g.after k.value; first = λ k. opener g.empty k.value }

  pub turn_send : IsSend (turn.the_row R V T g)
  turn_send = declared_send (turn.the_type R V T g)
      (table_send (option.the_row (resting.the_row V T)) (view.the_row V T) (snapshot.the_row V) (table_rule.the_row R) global.the_row kept _ (content_send V T v) heap_send frees, (as_row_send atomic.the_field atomic_send, (as_row_send atomic.the_field atomic_send, tt)))

  pub turn_sync : IsSync (turn.the_row R V T g)
  turn_sync = declared_sync (turn.the_type R V T g)
      (table_sync (option.the_row (resting.the_row V T)) (view.the_row V T) (snapshot.the_row V) (table_rule.the_row R) global.the_row kept _ (content_send V T v) heap_send frees heap_sync, (as_row_sync atomic.the_field atomic_sync, (as_row_sync atomic.the_field atomic_sync, tt)))
