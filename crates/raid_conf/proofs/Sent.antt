-- Any layout may go to another thread.
use denote.Hole.{as_row}
use denote.Param.Send.{IsSend, LiveAt, SendAt, enum_send_at, recorded_send_at, recorded_send_of}
use denote.Struct.Field.{Field}
use denote.Enum.Enum.{Enum}
use denote.Enum.Declared.{shape as shape_of}
use Rattle.lay_plain.proofs.Sent.{raid0_send, raid1_send, raid4_send, raid5_send, chain_send}
use Rattle.lay_decluster.proofs.Sent.{declustered_send, spared_send}
use Rattle.lay_decluster.specs.contracts.declustered.Declustered as declustered
use Rattle.lay_decluster.specs.contracts.spared.Spared as spared
use Rattle.raid_conf.specs.declared.layouts.AnyLayout.{AnyLayout}
use Rattle.raid_conf.specs.declared.layouts.AnyLayout.TheVariants.{Level0, Level1, Level4, Level5, LevelC, LevelT, LevelD}
use Rattle.lay_plain.specs.contracts.chain.Chain as chain
use Rattle.lay_plain.specs.contracts.level_zero.Raid0 as raid0
use Rattle.lay_plain.specs.contracts.level_one.Raid1 as raid1
use Rattle.lay_plain.specs.contracts.level_four.Raid4 as raid4
use Rattle.lay_plain.specs.contracts.level_five.Raid5 as raid5
use Rattle.raid_conf.specs.contracts.layouts.AnyLayout as any

-- a layout that may go to another thread may do so as one of the seven
as_field : (F : Field) → IsSend (as_row F) → (v : F.Value) → SendAt F.row (F.into v)
as_field F s = recorded_send_at F.row F.Value F.into F.into_one s

each_send : (layout : AnyLayout) → LiveAt SendAt (shape_of any.the_type).variants (any.the_type.to layout)
each_send (Level0 l) = (as_field raid0.the_field raid0_send l, tt)
each_send (Level1 l) = (as_field raid1.the_field raid1_send l, tt)
each_send (Level4 l) = (as_field raid4.the_field raid4_send l, tt)
each_send (Level5 l) = (as_field raid5.the_field raid5_send l, tt)
each_send (LevelC l) = (as_field chain.the_field chain_send l, tt)
each_send (LevelT l) = (as_field declustered.the_field declustered_send l, tt)
each_send (LevelD l) = (as_field spared.the_field spared_send l, tt)

pub any_layout_send : IsSend any.the_row
any_layout_send = let E = any.the_type in recorded_send_of (Enum (shape_of E)) E.D E.to E.to_one (λ d. enum_send_at (shape_of E) (E.to d) (each_send d))
