use Rattle.std.proofs.Common.{◌≡◌, List, length, map, subst}
use Rattle.eng_cols.specs.declared.column.Column.{Column}
use Rattle.eng_cols.specs.Cols.{Columns}
use Rattle.eng_cols.specs.Stripes.{states_of}
use Rattle.eng_cols.specs.Lost.{NotLost}
use Rattle.eng_parts.specs.Fresh.{IsFault}
use Rattle.eng_events.proofs.Opening.{columns-set, set-fit, room-fit, assembled-opened, cols-kept, opened-none-out, opened-sound, opened-asked, opened-stands, opened-worlds}
use Rattle.eng_events.proofs.LaidItems.{opened-laid}
use Rattle.eng_events.proofs.opens.open.Goals as goal

pub set_columns-requires-clause-layout : goal.set_columns-requires-clause-layout
set_columns-requires-clause-layout g c = room-fit (g.L.Layout.shape c.args.setup.layout) (length c.args.setup.devices.items) c.args.setup.clients.items c.args.setup.graphs.items c.args.setup.trace c.args.room c.requires.room

pub fault-requires : goal.fault-requires
fault-requires g c = set-fit (g.L.Layout.shape c.args.setup.layout) c.args.setup.columns.items c.set_columns.new.self.cols (columns-set (g.L.Layout.shape c.args.setup.layout) (length c.args.setup.devices.items) c.args.setup.clients.items c.args.setup.graphs.items c.args.setup.trace c.args.room c.set_columns.new.self c.args.setup.columns.items c.requires.room (subst (λ (cs : List Column). c.set_columns.new.self ≡ record c.args.room { cols = record c.args.room.cols { states = states_of (g.L.Layout.shape c.args.setup.layout) cs } }) c.as_slice.ensures.value c.set_columns.ensures.set)) c.requires.setup.entries

pub returns-in-Some-clause-fault : goal.returns-in-Some-clause-fault
returns-in-Some-clause-fault g c = subst (λ (v : Columns). IsFault (g.L.Layout.shape c.args.setup.layout) v.states c.in-Some.fault) (columns-set (g.L.Layout.shape c.args.setup.layout) (length c.args.setup.devices.items) c.args.setup.clients.items c.args.setup.graphs.items c.args.setup.trace c.args.room c.set_columns.new.self c.args.setup.columns.items c.requires.room (subst (λ (cs : List Column). c.set_columns.new.self ≡ record c.args.room { cols = record c.args.room.cols { states = states_of (g.L.Layout.shape c.args.setup.layout) cs } }) c.as_slice.ensures.value c.set_columns.ensures.set)) c.in-Some.ensures

pub returns-clause-fault : goal.returns-clause-fault
returns-clause-fault g c = (subst (λ (v : Columns). NotLost (g.L.Layout.shape c.args.setup.layout) v.states) (columns-set (g.L.Layout.shape c.args.setup.layout) (length c.args.setup.devices.items) c.args.setup.clients.items c.args.setup.graphs.items c.args.setup.trace c.args.room c.set_columns.new.self c.args.setup.columns.items c.requires.room (subst (λ (cs : List Column). c.set_columns.new.self ≡ record c.args.room { cols = record c.args.room.cols { states = states_of (g.L.Layout.shape c.args.setup.layout) cs } }) c.as_slice.ensures.value c.set_columns.ensures.set)) c.in-None.ensures)

pub returns-clause-opened : goal.returns-clause-opened
returns-clause-opened g c = (assembled-opened g.L.Layout g.D.Disk c.args.setup c.args.room c.set_columns.new.self c.put_together.result c.requires.room (subst (λ (cs : List Column). c.set_columns.new.self ≡ record c.args.room { cols = record c.args.room.cols { states = states_of (g.L.Layout.shape c.args.setup.layout) cs } }) c.as_slice.ensures.value c.set_columns.ensures.set) c.put_together.ensures)

pub returns-clause-sound : goal.returns-clause-sound
returns-clause-sound g c = opened-sound g.L.Layout g.D.Disk c.args.setup c.put_together.result (g.met.L.Layout.is_layout c.args.setup.layout) c.requires.setup (assembled-opened g.L.Layout g.D.Disk c.args.setup c.args.room c.set_columns.new.self c.put_together.result c.requires.room (subst (λ (cs : List Column). c.set_columns.new.self ≡ record c.args.room { cols = record c.args.room.cols { states = states_of (g.L.Layout.shape c.args.setup.layout) cs } }) c.as_slice.ensures.value c.set_columns.ensures.set) c.put_together.ensures) (cols-kept g.L.Layout g.D.Disk c.args.setup c.args.room c.set_columns.new.self c.put_together.result c.requires.room (subst (λ (cs : List Column). c.set_columns.new.self ≡ record c.args.room { cols = record c.args.room.cols { states = states_of (g.L.Layout.shape c.args.setup.layout) cs } }) c.as_slice.ensures.value c.set_columns.ensures.set) c.put_together.ensures c.set_columns.ensures.kept) (subst (λ (v : Columns). NotLost (g.L.Layout.shape c.args.setup.layout) v.states) (columns-set (g.L.Layout.shape c.args.setup.layout) (length c.args.setup.devices.items) c.args.setup.clients.items c.args.setup.graphs.items c.args.setup.trace c.args.room c.set_columns.new.self c.args.setup.columns.items c.requires.room (subst (λ (cs : List Column). c.set_columns.new.self ≡ record c.args.room { cols = record c.args.room.cols { states = states_of (g.L.Layout.shape c.args.setup.layout) cs } }) c.as_slice.ensures.value c.set_columns.ensures.set)) c.in-None.ensures)

pub returns-clause-none_out : goal.returns-clause-none_out
returns-clause-none_out g c = opened-none-out g.L.Layout g.D.Disk c.args.setup c.put_together.result (g.met.L.Layout.is_layout c.args.setup.layout) c.requires.setup (assembled-opened g.L.Layout g.D.Disk c.args.setup c.args.room c.set_columns.new.self c.put_together.result c.requires.room (subst (λ (cs : List Column). c.set_columns.new.self ≡ record c.args.room { cols = record c.args.room.cols { states = states_of (g.L.Layout.shape c.args.setup.layout) cs } }) c.as_slice.ensures.value c.set_columns.ensures.set) c.put_together.ensures) (cols-kept g.L.Layout g.D.Disk c.args.setup c.args.room c.set_columns.new.self c.put_together.result c.requires.room (subst (λ (cs : List Column). c.set_columns.new.self ≡ record c.args.room { cols = record c.args.room.cols { states = states_of (g.L.Layout.shape c.args.setup.layout) cs } }) c.as_slice.ensures.value c.set_columns.ensures.set) c.put_together.ensures c.set_columns.ensures.kept) (subst (λ (v : Columns). NotLost (g.L.Layout.shape c.args.setup.layout) v.states) (columns-set (g.L.Layout.shape c.args.setup.layout) (length c.args.setup.devices.items) c.args.setup.clients.items c.args.setup.graphs.items c.args.setup.trace c.args.room c.set_columns.new.self c.args.setup.columns.items c.requires.room (subst (λ (cs : List Column). c.set_columns.new.self ≡ record c.args.room { cols = record c.args.room.cols { states = states_of (g.L.Layout.shape c.args.setup.layout) cs } }) c.as_slice.ensures.value c.set_columns.ensures.set)) c.in-None.ensures)

pub returns-clause-asked : goal.returns-clause-asked
returns-clause-asked g c = opened-asked g.L.Layout g.D.Disk c.args.setup c.put_together.result (g.met.L.Layout.is_layout c.args.setup.layout) c.requires.setup (assembled-opened g.L.Layout g.D.Disk c.args.setup c.args.room c.set_columns.new.self c.put_together.result c.requires.room (subst (λ (cs : List Column). c.set_columns.new.self ≡ record c.args.room { cols = record c.args.room.cols { states = states_of (g.L.Layout.shape c.args.setup.layout) cs } }) c.as_slice.ensures.value c.set_columns.ensures.set) c.put_together.ensures) (cols-kept g.L.Layout g.D.Disk c.args.setup c.args.room c.set_columns.new.self c.put_together.result c.requires.room (subst (λ (cs : List Column). c.set_columns.new.self ≡ record c.args.room { cols = record c.args.room.cols { states = states_of (g.L.Layout.shape c.args.setup.layout) cs } }) c.as_slice.ensures.value c.set_columns.ensures.set) c.put_together.ensures c.set_columns.ensures.kept) (subst (λ (v : Columns). NotLost (g.L.Layout.shape c.args.setup.layout) v.states) (columns-set (g.L.Layout.shape c.args.setup.layout) (length c.args.setup.devices.items) c.args.setup.clients.items c.args.setup.graphs.items c.args.setup.trace c.args.room c.set_columns.new.self c.args.setup.columns.items c.requires.room (subst (λ (cs : List Column). c.set_columns.new.self ≡ record c.args.room { cols = record c.args.room.cols { states = states_of (g.L.Layout.shape c.args.setup.layout) cs } }) c.as_slice.ensures.value c.set_columns.ensures.set)) c.in-None.ensures)

pub returns-clause-stands : goal.returns-clause-stands
returns-clause-stands g c = opened-stands g.L.Layout g.D.Disk c.args.setup c.put_together.result (g.met.L.Layout.is_layout c.args.setup.layout) c.requires.setup (assembled-opened g.L.Layout g.D.Disk c.args.setup c.args.room c.set_columns.new.self c.put_together.result c.requires.room (subst (λ (cs : List Column). c.set_columns.new.self ≡ record c.args.room { cols = record c.args.room.cols { states = states_of (g.L.Layout.shape c.args.setup.layout) cs } }) c.as_slice.ensures.value c.set_columns.ensures.set) c.put_together.ensures) (cols-kept g.L.Layout g.D.Disk c.args.setup c.args.room c.set_columns.new.self c.put_together.result c.requires.room (subst (λ (cs : List Column). c.set_columns.new.self ≡ record c.args.room { cols = record c.args.room.cols { states = states_of (g.L.Layout.shape c.args.setup.layout) cs } }) c.as_slice.ensures.value c.set_columns.ensures.set) c.put_together.ensures c.set_columns.ensures.kept) (subst (λ (v : Columns). NotLost (g.L.Layout.shape c.args.setup.layout) v.states) (columns-set (g.L.Layout.shape c.args.setup.layout) (length c.args.setup.devices.items) c.args.setup.clients.items c.args.setup.graphs.items c.args.setup.trace c.args.room c.set_columns.new.self c.args.setup.columns.items c.requires.room (subst (λ (cs : List Column). c.set_columns.new.self ≡ record c.args.room { cols = record c.args.room.cols { states = states_of (g.L.Layout.shape c.args.setup.layout) cs } }) c.as_slice.ensures.value c.set_columns.ensures.set)) c.in-None.ensures)

pub returns-clause-worlds : goal.returns-clause-worlds
returns-clause-worlds g c = opened-worlds g.L.Layout g.D.Disk c.args.setup c.put_together.result (g.met.L.Layout.is_layout c.args.setup.layout) c.requires.setup (assembled-opened g.L.Layout g.D.Disk c.args.setup c.args.room c.set_columns.new.self c.put_together.result c.requires.room (subst (λ (cs : List Column). c.set_columns.new.self ≡ record c.args.room { cols = record c.args.room.cols { states = states_of (g.L.Layout.shape c.args.setup.layout) cs } }) c.as_slice.ensures.value c.set_columns.ensures.set) c.put_together.ensures) (cols-kept g.L.Layout g.D.Disk c.args.setup c.args.room c.set_columns.new.self c.put_together.result c.requires.room (subst (λ (cs : List Column). c.set_columns.new.self ≡ record c.args.room { cols = record c.args.room.cols { states = states_of (g.L.Layout.shape c.args.setup.layout) cs } }) c.as_slice.ensures.value c.set_columns.ensures.set) c.put_together.ensures c.set_columns.ensures.kept) (subst (λ (v : Columns). NotLost (g.L.Layout.shape c.args.setup.layout) v.states) (columns-set (g.L.Layout.shape c.args.setup.layout) (length c.args.setup.devices.items) c.args.setup.clients.items c.args.setup.graphs.items c.args.setup.trace c.args.room c.set_columns.new.self c.args.setup.columns.items c.requires.room (subst (λ (cs : List Column). c.set_columns.new.self ≡ record c.args.room { cols = record c.args.room.cols { states = states_of (g.L.Layout.shape c.args.setup.layout) cs } }) c.as_slice.ensures.value c.set_columns.ensures.set)) c.in-None.ensures)

pub returns-clause-laid : goal.returns-clause-laid
returns-clause-laid g c = opened-laid g.L.Layout g.D.Disk c.args.setup c.put_together.result (assembled-opened g.L.Layout g.D.Disk c.args.setup c.args.room c.set_columns.new.self c.put_together.result c.requires.room (subst (λ (cs : List Column). c.set_columns.new.self ≡ record c.args.room { cols = record c.args.room.cols { states = states_of (g.L.Layout.shape c.args.setup.layout) cs } }) c.as_slice.ensures.value c.set_columns.ensures.set) c.put_together.ensures)
