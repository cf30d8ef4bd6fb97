-- Words by which code and proofs go, of what comes of two graphs over two spans.
use Rattle.std.specs.Prelude.{◌≡◌, ◌-◌, ◌&&◌, ℕ, ◌+◌, Bool, not, MatchBool, MatchResult, List, Option, Result, Ok, Err, nat_le, nat_lt, slice_get}
use Rattle.std.specs.List.{list_any}
use Rattle.std.specs.Option.{option_map_or}
use Rattle.blk_plain.specs.declared.op.Span.{Span}
use Rattle.blk_plain.specs.Plain.{is_in_some}
use Rattle.lay_core.specs.Layout.{Shape, blocks_in, stripe_of}
use Rattle.lay_core.specs.Touched.{stripe_count, stripes_among}
use Rattle.graph_mean.specs.Graph.{View, blank}
use Rattle.graph_merge.specs.declared.fault.MergeFault.{MergeFault}
use Rattle.graph_merge.specs.Form.{IsCause}
use Rattle.graph_merge.specs.Joined.{IsJoined}
use Rattle.graph_text.specs.Format.{Named}
use Rattle.raid_script.specs.declared.join.Join.{Join}
use Rattle.raid_script.specs.Asked.{Asked}
use Rattle.top_join.specs.Joining.{IsOver, code_of, first_in, spans_by}

-- the joined graph; or the code, whose cause holds
abbrev pub IsMerged : View → View → ℕ → Result View ℕ → Type 0
IsMerged a b shift r = MatchResult r (λ out. IsJoined a b shift out) (λ code. (fault : MergeFault) × IsCause a b shift fault × (code ≡ code_of fault))

-- the one span's last stripe is below the other's first
abbrev pub is_before : Shape → Span → Span → Bool
is_before y p q = nat_lt (stripe_of y (p.first + p.count - 1)) (stripe_of y q.first)

-- where it isn't the code is 11; else the stripes of the second graph are behind those of the first span
abbrev pub IsInTurn : Shape → View → View → Span → Bool → Result View ℕ → Type 0
IsInTurn y a b p before r = MatchBool before (IsMerged a b (stripe_count y p) r) (r ≡ Err 11)

-- no span passes the end, and they touch at most 16 stripes together
abbrev pub may_join : Shape → List Span → Bool
may_join y spans = not (list_any (λ s. nat_lt (blocks_in y) (s.first + s.count)) spans) && nat_le (stripes_among y (is_in_some spans)) 16

-- where that isn't so the graph is empty
abbrev pub IsJoint : Shape → View → View → Span → Span → Bool → Result View ℕ → Type 0
IsJoint y a b p q may r = MatchBool may (IsInTurn y a b p (is_before y p q) r) (r ≡ Ok blank)

-- ## Join lines

-- those of the first such item of the first client that has one
abbrev pub spans_in : ℕ → List (List Asked) → Option (List Span)
spans_in n clients = first_in (λ row. first_in (λ asked. spans_by n asked) row) clients

-- those of the first item of a client that writes spans by the graph of this number
abbrev pub spans_in_row : ℕ → List Asked → Option (List Span)
spans_in_row n items = first_in (λ asked. spans_by n asked) items

-- the graph of a number, the empty one where there is none
abbrev pub graph_at : List Named → ℕ → View
graph_at book n = option_map_or (λ g. g.graph) (slice_get book n) blank

-- what comes of a join line whose item names this graph
abbrev pub IsLine : Shape → List Named → List (List Asked) → ℕ → Join → Result View ℕ → Type 0
IsLine y book clients n join r = IsOver y (graph_at book join.first) (graph_at book join.second) (spans_in n clients) r
