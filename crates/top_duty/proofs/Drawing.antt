-- Items that are drawn are few, and may be asked.
use Rattle.std.specs.Prelude.{◌≡◌, ◌<◌, ◌≤◌, ◌^◌, ℕ, List, [], length, get_or, sum_by, All, Option, None, Some}
use Rattle.std.specs.Option.{ForSome}
use Rattle.std.proofs.Common.{arith}
use Rattle.std.proofs.lemmas.List.Sums.{sum_by-le}
use Rattle.std.proofs.lemmas.Option.{slice_get-get_or}
use Rattle.raid_script.specs.Asked.{Asked, Writes, WritesAll, Reads, Syncs, Fails, Other, AreFew, IsAsked, read_sectors}
use Rattle.raid_script.specs.Drawn.{AreApart, IsOwn}
use Rattle.top_words.specs.Asked.{Action, profile_of}
use Rattle.top_words.specs.declared.profile.Drawing.{Drawing}
use Rattle.top_duty.specs.Steps.{clients_by, drawn_or}
use Rattle.top_duty.specs.Views.{drawn_by}

own_sectors : (wide blocks client : ℕ) (a : Asked) → IsOwn wide blocks client a → read_sectors a ≤ 8
own_sectors wide blocks client (Writes first count bytes graph) own = omega arith
own_sectors wide blocks client (WritesAll patches graph) own = absurd own
own_sectors wide blocks client (Reads first count graph) own = own.0.few
own_sectors wide blocks client (Syncs stripe) own = absurd own
own_sectors wide blocks client (Fails column) own = absurd own
own_sectors wide blocks client Other own = absurd own

no_graph : (graphs : ℕ) (graph : Option ℕ) → graph ≡ None → ForSome graph (λ g. g < graphs)
no_graph graphs graph e = λ g h. cc (e, h)

own_asked : (wide blocks client columns graphs : ℕ) (a : Asked) → blocks ≤ 2 ^ 32 → IsOwn wide blocks client a → IsAsked columns graphs a
own_asked wide blocks client columns graphs (Writes first count bytes graph) most own = (omega (arith, most, own.0.some, own.0.ends, own.0.within), own.0.some, no_graph graphs graph own.2)
own_asked wide blocks client columns graphs (WritesAll patches graph) most own = absurd own
own_asked wide blocks client columns graphs (Reads first count graph) most own = (omega (arith, most, own.0.some, own.0.ends, own.0.within), own.0.some, no_graph graphs graph own.1)
own_asked wide blocks client columns graphs (Syncs stripe) most own = absurd own
own_asked wide blocks client columns graphs (Fails column) most own = absurd own
own_asked wide blocks client columns graphs Other most own = absurd own

module _ (taken ops wide blocks : ℕ) (clients : List (List Asked)) (apart : AreApart taken ops wide blocks clients) where
  row_at : (c : ℕ) (d : List Asked) → c < length clients → All (IsOwn wide blocks c) (get_or clients c d)
  row_at c d lt = apart.own c (get_or clients c d) (slice_get-get_or clients c d lt)

  row_length : (c : ℕ) (d : List Asked) → c < length clients → length (get_or clients c d) ≡ ops
  row_length c d lt = apart.count c (get_or clients c d) (slice_get-get_or clients c d lt)

  row_sectors : (c : ℕ) (d : List Asked) → c < length clients → ops ≤ 2048 → sum_by read_sectors (get_or clients c d) ≤ 16384
  row_sectors c d lt few =
      let row = get_or clients c d in
      let b = sum_by-le read_sectors 8 row (λ i e l. own_sectors wide blocks c (get_or row i e) (row_at c d lt i e l)) in
      omega (arith, b, row_length c d lt, few)

  pub apart_few : taken ≤ 16 → ops ≤ 2048 → AreFew clients
  apart_few most few =
      let items = sum_by-le (λ (row : List Asked). length row) 2048 clients (λ c d l. omega (arith, row_length c d l, few)) in
      let sectors = sum_by-le (λ (row : List Asked). sum_by read_sectors row) 16384 clients (λ c d l. row_sectors c d l few) in
      record {
        clients = omega (arith, apart.all, most);
        items = omega (arith, items, apart.all, most);
        sectors = omega (arith, sectors, apart.all, most);
      }

  pub apart_asked : (columns graphs : ℕ) → blocks ≤ 2 ^ 32 → All (All (IsAsked columns graphs)) clients
  apart_asked columns graphs most = λ c d l i e m. own_asked wide blocks c columns graphs _ most (row_at c d l i e m)

-- the clients that are run are within the limits, where those of the script and those that are drawn are
pub either_asked : (columns graphs : ℕ) (action : Action) (scripted : List (List Asked)) (blocks : ℕ) → All (All (IsAsked columns graphs)) scripted → All (All (IsAsked columns graphs)) (drawn_by action blocks) → All (All (IsAsked columns graphs)) (clients_by action scripted blocks)
either_asked columns graphs action scripted blocks one two = go (profile_of action).drawn two
  where
    go : (drawing : Option Drawing) → All (All (IsAsked columns graphs)) (drawn_or drawing [] blocks) → All (All (IsAsked columns graphs)) (drawn_or drawing scripted blocks)
    go None two = one
    go (Some d) two = two

pub either_few : (action : Action) (scripted : List (List Asked)) (blocks : ℕ) → AreFew scripted → AreFew (drawn_by action blocks) → AreFew (clients_by action scripted blocks)
either_few action scripted blocks one two = go (profile_of action).drawn two
  where
    go : (drawing : Option Drawing) → AreFew (drawn_or drawing [] blocks) → AreFew (drawn_or drawing scripted blocks)
    go None two = one
    go (Some d) two = two
