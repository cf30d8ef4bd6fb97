-- The item of a join line, among all items of the script.
use Rattle.std.specs.Prelude.{◌≡◌, ◌+◌, ℕ, List, [], ◌∷◌, ◌++◌, Some, length, slice_get}
use Rattle.raid_text.specs.Text.{Text}
use Rattle.graph_text.specs.Format.{Named}
use Rattle.raid_script.specs.declared.join.Join.{Join}
use Rattle.raid_script.specs.Asked.{AskedPatch, ArePatches, Request, Scripted, WritesAll, joins_of}
use Rattle.raid_script.specs.Laws.{IsScriptOf}
use Rattle.top_join.specs.Steps.{spans_in}

-- A line is join line j of the script: its item writes two spans by the graph of that number, and
-- these are the spans over which this graph is joined.
pub record IsLineOfItem (book : List Named) (script : Scripted) (r : Request) (join : Join) (j : ℕ)
    : Type 0 where
  pub one : AskedPatch
  pub other : AskedPatch
  pub asked : r.asked ≡ WritesAll (one ∷ other ∷ []) (Some (length book + j))
  pub are : ArePatches (one ∷ other ∷ [])
  pub line : slice_get script.joins j ≡ Some join
  pub spans : spans_in (length book + j) script.clients ≡ Some (one.span ∷ other.span ∷ [])

-- so it is of each item of a join line, by the join lines in front of it
abbrev pub LinesHaveTheirItems : Type 0
LinesHaveTheirItems = (book : List Named) (columns : ℕ) (text : Text) (script : Scripted)
    → (front back : List Request) (r : Request) (join : Join)
    → IsScriptOf book columns text script (front ++ r ∷ back) → r.joined ≡ Some join
    → IsLineOfItem book script r join (length (joins_of front))
