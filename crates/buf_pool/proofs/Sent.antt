-- A pool and a reserve may go to another thread.
use Rattle.std.proofs.Crossing.{Vec-send}
use denote.RattleType.{RattleType}
use denote.Param.Send.{IsSend, sendable, view_send, recorded_send, enum_send}
use denote.Param.SendFields.{declared_send}
use denote.Struct.Field.{u8-field, u32-field, usize-field}
use denote.Enum.Enum.{Enum}
use denote.Enum.Declared.{shape as shape_of}
use Rattle.buf_pool.specs.contracts.pool.Pool as pool
use Rattle.buf_pool.specs.contracts.reserve.Reserve as reserve
use Rattle.buf_pool.specs.contracts.seat.Seat as seat
use Rattle.buf_pool.specs.contracts.seat.Place as place
use Rattle.buf_pool.specs.contracts.seat.Owner as owner
use Rattle.buf_pool.specs.contracts.buffer.Buffer as buffer
use Rattle.buf_pool.specs.contracts.zeroed.Zeroed as zeroed
use Rattle.buf_pool.specs.contracts.lease.Lease as lease
use Rattle.std.specs.contracts.snapshot.Snapshot as snapshot

pub lease_send : IsSend lease.the_row
lease_send = search sendable depth 20

snapshot_send : (T : RattleType) → IsSend (snapshot.the_row T)
snapshot_send T = record { owned = λ d vs. ((λ vss. (tt, ((λ uss. (tt, tt)), tt))), tt); leaving = λ k f vs. tt }

byte_send : IsSend u8-field.row
byte_send = search sendable

number_send : IsSend u32-field.row
number_send = search sendable

count_send : IsSend usize-field.row
count_send = search sendable

pub buffer_send : IsSend buffer.the_row
buffer_send = view_send _ _ _ _ _ (declared_send buffer.TheInside.the_type (Vec-send u8-field.row byte_send, tt))

pub zeroed_send : IsSend zeroed.the_row
zeroed_send = view_send _ _ _ _ _ (declared_send zeroed.TheInside.the_type (Vec-send u8-field.row byte_send, (count_send, tt)))

place_send : IsSend place.the_row
place_send = let E = place.the_type in recorded_send (Enum (shape_of E)) E.D E.to E.to_one (enum_send (shape_of E) ((zeroed_send, tt), ((snapshot_send zeroed.the_row, tt), tt)))

seat_send : IsSend seat.the_row
seat_send = declared_send seat.the_type (snapshot_send owner.the_row, (place_send, tt))

pub pool_send : IsSend pool.the_row
pool_send = view_send _ _ _ _ _ (declared_send pool.TheInside.the_type (search sendable, (Vec-send u32-field.row number_send, (Vec-send seat.the_row seat_send, tt))))

pub reserve_send : IsSend reserve.the_row
reserve_send = view_send _ _ _ _ _ (declared_send reserve.TheInside.the_type (pool_send, tt))
