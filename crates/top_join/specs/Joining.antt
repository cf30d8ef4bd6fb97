-- The graphs that join lines ask for, over a layout.
use Rattle.std.specs.Prelude.{◌≡◌, ◌-◌, ◌&&◌, ℕ, ◌+◌, not, MatchBool, MatchResult, List, [], ◌∷◌, Option, Some, None, Result, Ok, Err, if◌then◌else◌, map, nat_eq, nat_le, nat_lt, slice_get}
use Rattle.std.specs.List.{list_any}
use Rattle.blk_plain.specs.declared.op.Span.{Span}
use Rattle.blk_plain.specs.Plain.{is_in_some}
use Rattle.lay_core.specs.Layout.{Shape, blocks_in, stripe_of}
use Rattle.lay_core.specs.Touched.{stripe_count, stripes_among}
use Rattle.graph_mean.specs.Graph.{View, blank}
use Rattle.graph_merge.specs.declared.fault.MergeFault.{MergeFault}
use Rattle.graph_merge.specs.declared.fault.MergeFault.TheVariants.{Form, Large}
use Rattle.graph_merge.specs.Form.{IsCause}
use Rattle.graph_merge.specs.Joined.{IsJoined}
use Rattle.graph_text.specs.Format.{Named}
use Rattle.text_steps.specs.declared.at.At.{At}
use Rattle.raid_script.specs.declared.join.Join.{Join}
use Rattle.raid_script.specs.Asked.{Asked, Writes, WritesAll, Reads, Syncs, Fails, Other}
use Rattle.std.specs.Option.{option_map_or, option_or}

-- ## Which spans

-- the spans that an item writes by the graph of this number, if it is such an item
abbrev pub spans_by : ℕ → Asked → Option (List Span)
spans_by n (Writes first count bytes graph) = None
spans_by n (WritesAll patches None) = None
spans_by n (WritesAll patches (Some graph)) = if nat_eq graph n then Some (map (λ p. p.span) patches) else None
spans_by n (Reads first count graph) = None
spans_by n (Syncs stripe) = None
spans_by n (Fails column) = None
spans_by n Other = None

-- the first that there is, of what these have
abbrev pub first_in : {A B : Type 0} → (A → Option B) → List A → Option B
first_in f [] = None
first_in f (x ∷ xs) = option_or (f x) (first_in f xs)

-- ## Two graphs

-- the code of a refusal
abbrev pub code_of : MergeFault → ℕ
code_of (Form which) = 10
code_of Large = 12

-- What comes of two graphs over these spans: the empty one where there aren't two spans, or one passes the end, or they touch more than 16 stripes together; else, where the first span's last stripe is below the second's first, the joined graph, in which the stripes of the second graph are behind those of the first span, or a code whose cause holds; else the code 11.
abbrev pub IsOver : Shape → View → View → Option (List Span) → Result View ℕ → Type 0
IsOver y a b None r = r ≡ Ok blank
IsOver y a b (Some []) r = r ≡ Ok blank
IsOver y a b (Some (p ∷ [])) r = r ≡ Ok blank
IsOver y a b (Some (p ∷ q ∷ [])) r =
    MatchBool (not (list_any (λ s. nat_lt (blocks_in y) (s.first + s.count)) (p ∷ q ∷ [])) && nat_le (stripes_among y (is_in_some (p ∷ q ∷ []))) 16)
    (MatchBool (nat_lt (stripe_of y (p.first + p.count - 1)) (stripe_of y q.first))
    (MatchResult r (λ out. IsJoined a b (stripe_count y p) out) (λ code. (fault : MergeFault) × IsCause a b (stripe_count y p) fault × (code ≡ code_of fault)))
    (r ≡ Err 11)) (r ≡ Ok blank)
IsOver y a b (Some (p ∷ q ∷ (s ∷ spans))) r = r ≡ Ok blank

-- ## Join lines

module _ (y : Shape) (book : List Named) (clients : List (List Asked)) where
  -- what comes of the lines behind it
  abbrev pub Follows : Join → (Result (List View) At → Type 0) → Result View ℕ → Result (List View) At → Type 0
  Follows join rest (Err code) r = r ≡ Err (record { line = join.line; code = code })
  Follows join rest (Ok view) (Ok []) = ⊥
  Follows join rest (Ok view) (Ok (v ∷ views)) = (v ≡ view) × rest (Ok views)
  Follows join rest (Ok view) (Err at) = rest (Err at)

  -- what comes of the lines in their order, whose items name the graphs from this number on, over the spans of the first such item of the first client that has one; each joins two graphs of the file, of which one that isn't there is empty: the graphs, or the first line whose graphs can't be joined, and why
  abbrev pub AreJoined : ℕ → List Join → Result (List View) At → Type 0
  AreJoined n [] r = r ≡ Ok []
  AreJoined n (join ∷ joins) r = (one : Result View ℕ)
      × IsOver y (option_map_or (λ g. g.graph) (slice_get book join.first) blank) (option_map_or (λ g. g.graph) (slice_get book join.second) blank)
      (first_in (λ row. first_in (λ asked. spans_by n asked) row) clients) one
      × Follows join (AreJoined (n + 1) joins) one r
