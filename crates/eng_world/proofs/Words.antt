-- Words that proofs go by, for what the specifications spell out.
use Rattle.std.specs.Prelude.{◌≡◌, ◌≢◌, ℕ, List, None, Contains, Option, MatchOption, ◌<◌, ◌+◌, Bool, IfSome, ◌++◌, [], ◌∷◌, true, MatchBool, Some, false}
use Rattle.eng_world.specs.World.{World, Plan, Running, item_now, RunsAs, IsRead, Has, op_of, Current}
use Rattle.blk_plain.specs.declared.op.Op.TheVariants.{Rebuild}
use Rattle.lay_core.specs.Layout.{Shape, block_of}
use Rattle.eng_cols.specs.Cols.{ColumnState, Columns}
use Rattle.eng_world.specs.declared.item.Item.{Item}
use Rattle.eng_world.specs.declared.item.Item.TheVariants as item
use Rattle.eng_world.specs.Serving.{IsLeft, PlansAnew, GivesUp}
use Rattle.blk_plain.specs.declared.op.Op.{Op}
use Rattle.eng_world.specs.Planning.{Graphs}
use Rattle.graph_mean.specs.declared.graph.Ret.{Ret}
use Rattle.graph_mean.specs.Steps.{Covers, stripe_of}
use Rattle.graph_mean.specs.Refused as causes
use Rattle.blk_disk.specs.declared.disk.Call.{Call}
use Rattle.graph_mean.specs.declared.graph.Node.{Node}
use Rattle.graph_mean.specs.Graph.{View, buf_at}
use Rattle.eng_cols.specs.declared.spot.Spot.{Spot}
use Rattle.eng_cols.specs.Contents.{sector_at}
use Rattle.eng_world.specs.Nodes.{call_kind, buffer_of, IsLateWrite, EndContents, WritesAt}
use Rattle.eng_world.specs.Failing.{Suffers, GoesOn, Outlives}
use Rattle.graph_mean.specs.declared.graph.Node.TheVariants.{Rd, Wr, Xor, Cmt, Trm}

-- all clients but this one stay
abbrev pub OtherClients : ℕ → World → World → Type 0
OtherClients c old new = (k : ℕ) → k ≢ c → new.clients k ≡ old.clients k

-- no stripe of it is held by another, unless both read
abbrev pub IsFree : World → ℕ → Plan → Type 0
IsFree w c p = (k s : ℕ) (r : Running) → k ≢ c → RunsAs w k r → Has p s → Has r.plan s → IsRead (op_of (item_now (w.clients c))) × IsRead (op_of (item_now (w.clients k)))

-- none of the column's stripes that aren't done is left out
abbrev pub AreAllRebuilds : Shape → List ColumnState → ℕ → List Item → Type 0
AreAllRebuilds y cols c items = (s : ℕ) → IsLeft y cols c s → Contains items (item.Run (Rebuild s) None)

-- the columns with the number of the layout's stripes
abbrev pub columns_of : Shape → World → Columns
columns_of y w = record { states = w.columns; stripes = y.stripes }

-- one by the library is planned anew, and one by a graph of the file given up
abbrev pub BackBy : Shape → Graphs → ℕ → Op → Option ℕ → Running → World → World → Type 0
BackBy y graphs c op graph was old new = MatchOption graph (PlansAnew y graphs c op was old new) (λ _. GivesUp c was old new)

-- each returned buffer is handed out as the blocks of the span
abbrev pub HandsOut : Shape → Running → ℕ → (ℕ → ℕ → ℕ) → Type 0
HandsOut y r first handed = (j o k : ℕ) (ret : Ret) → Contains r.plan.graph.rets ret → Covers r.plan.graph ret.buf o → k < 512
    → block_of y (r.plan.stripe (stripe_of r.plan.graph ret.buf)) ret.unit o ≡ first + j → handed j k ≡ r.buf ret.buf o k

-- the buffer's range, at the place where the unit stood, and what the device answered
abbrev pub call_of : Shape → View → Node → Spot → Bool → Call
call_of y g node at answer = record { kind = call_kind node; first = sector_at y at (buf_at g (buffer_of node)).from; count = (buf_at g (buffer_of node)).count; good = answer }

-- the checker refuses no graph of the library, and one of the file for no cause
abbrev pub IsAccepted : Option ℕ → Plan → Type 0
IsAccepted graph p = IfSome graph (λ _. causes.IsFree p.graph p.task p.missing)

-- the call of a node that was fired there, of the buffer's range and with what the device answered, is told by its device behind those that it told before
abbrev pub Told : Shape → View → Node → Option Spot → Bool → World → World → Type 0
Told y g node place answer old new = MatchOption place
    ((d : ℕ) → new.calls d ≡ old.calls d)
    (λ (at : Spot). (new.calls at.device ≡ old.calls at.device ++ record { kind = call_kind node; first = sector_at y at (buf_at g (buffer_of node)).from; count = (buf_at g (buffer_of node)).count; good = answer } ∷ [])
    × ((d : ℕ) → d ≢ at.device → new.calls d ≡ old.calls d))

-- an operation that runs suffers
abbrev pub SuffersIf : Shape → ℕ → List ColumnState → List ColumnState → Current → Current → Type 0
SuffersIf y device before now old new = GoesOn (Suffers y device before now) old new

-- so it is with an operation that runs
abbrev pub OutlivesIf : Current → Current → Type 0
OutlivesIf old new = GoesOn Outlives old new

-- What the device has answered to the call of a node: good, where the node ends good; and where it ends bad, bad, or good if it is such a write.
abbrev pub HasAnswered : Bool → Node → Option Spot → World → Bool → Type 0
HasAnswered is_good node at w answer = MatchBool is_good (answer ≡ true) (answer ≡ true → IsLateWrite node at w)

-- what a good node leaves on the devices
abbrev pub GoodContents : Shape → Running → Node → Option Spot → World → World → Type 0
GoodContents y r (Wr unit buf) (Some at) old new = WritesAt y r.plan.graph buf at (r.buf buf) old new
GoodContents y r (Wr unit buf) None old new = ⊥
GoodContents y r (Rd unit buf) at old new = (d n k : ℕ) → new.contents d n k ≡ old.contents d n k
GoodContents y r (Xor to) at old new = (d n k : ℕ) → new.contents d n k ≡ old.contents d n k
GoodContents y r Cmt at old new = ⊥
GoodContents y r Trm at old new = ⊥

-- what a bad node leaves there: the sectors of a write may hold anything
abbrev pub BadContents : Shape → Running → Node → Spot → World → World → Type 0
BadContents y r node at old new = EndContents y r node (Some at) false old new
