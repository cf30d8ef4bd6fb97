-- What is handed back is what the run tells: items and replies, columns, history, trace, and what reads handed out.
use Rattle.std.proofs.Common.{◌≡◌, ◌≢◌, inl, inr, ℕ, ◌<◌, ◌*◌, List, [], ◌∷◌, ◌++◌, length, Bool, true, false, Option, refl, sym, ◌∙◌, ap, subst, arith}
use Rattle.std.specs.Prelude.{reverse, slice_index_or}
use Rattle.std.proofs.lemmas.Bool.{cases_lt}
use Rattle.std.proofs.lemmas.Option.{slice_get_past}
use Rattle.blk_disk.specs.declared.disk.Disk.{Ghosts as DiskGhosts}
use Rattle.lay_core.specs.Layout.{Shape}
use Rattle.lay_core.specs.declared.layout.Layout.{Ghosts as LayoutGhosts}
use Rattle.eng_cols.specs.Cols.{AtMostOne, ColumnState, is_filling, is_set_filling, is_set_spread, is_spread}
use Rattle.eng_events.specs.Closed.{AreColumns}
use Rattle.eng_world.specs.declared.item.Item.{Item}
use Rattle.eng_world.specs.declared.item.Traced.{Traced}
use Rattle.eng_log.specs.declared.region.Region.{Region}
use Rattle.eng_parts.specs.declared.setup.Setup.{Setup}
use Rattle.eng_parts.specs.declared.setup.Closed.{Closed}
use Rattle.eng_log.specs.Given.{items_at}
use Rattle.eng_log.specs.Handed.{Handout, Hands, all_sectors}
use Rattle.eng_log.specs.Laid.{sectors_before, IsRow}
use Rattle.eng_log.specs.Log.{Logged}
use Rattle.eng_log.proofs.Laying.{laid-sectors}
use Rattle.eng_clients.specs.Replied.{replies_in, replies_at}
use Rattle.eng_state.specs.declared.array.Array.{Array}
use Rattle.eng_array.specs.declared.start.Start.{Start}
use Rattle.eng_array.specs.Tickets.{keeps_trace, traced}
use Rattle.eng_array.proofs.Chains.{goes-told}
use Rattle.top_close.specs.Closes.{ClosesAs}
use Rattle.top_serve.specs.Judged.{IsJudged}
use Rattle.top_serve.specs.Setups.{shape_in}
use Rattle.top_serve.specs.Served.{trace_of, handed_in, CoreTells, HandsOut}
use Rattle.top_serve.proofs.Behind.{ready}
use Rattle.top_serve.proofs.Between.{Course, no-items}
use Rattle.top_serve.proofs.Begins.{replied}
use Rattle.top_serve.proofs.Framed.{layout-back, spare-back, untraced, regions-same}
use Rattle.top_serve.proofs.Closings.{closes-judged, closes-one, closes-one-spread, one-count}
use Rattle.top_serve.proofs.Starting.{first_of}

none-left : {A : Type 0} (l : List A) → length l ≡ 0 → l ≡ []
none-left [] h = refl
none-left (x ∷ l) h = absurd (omega (arith, h))

module _ {L D : Type 0} (lay : LayoutGhosts L) (disk : DiskGhosts D) (setup : Setup L D) (how : Option Start) (first last : Array L D) (closed : Closed L D) (p : Course lay disk setup how first last closed) where
  -- ## Columns

  pub were-now : AreColumns (shape_in lay setup) p.now.columns p.between.closes.were.items
  were-now = subst (λ (cols : List ColumnState). AreColumns (shape_in lay setup) cols p.between.closes.were.items) (sym p.shows_now.columns)
      (subst (λ (y : Shape). AreColumns y last.cols.states p.between.closes.were.items) p.shape_last p.between.closes.is_closed.columns)

  pub now-one : AtMostOne is_filling p.now.columns
  now-one = subst (AtMostOne is_filling) (sym p.shows_now.columns) p.between.steady.sound.seated.kept.one_filling

  now-one-spread : AtMostOne is_spread p.now.columns
  now-one-spread = subst (AtMostOne is_spread) (sym p.shows_now.columns) p.between.steady.sound.seated.kept.one_spread

  pub now-many : length p.now.columns ≡ (shape_in lay setup).columns
  now-many = ap (λ (cols : List ColumnState). length cols) p.shows_now.columns ∙ (p.between.steady.sound.seated.fit.columns ∙ ap (λ (y : Shape). y.columns) p.shape_last)

  pub judged-now : IsJudged (shape_in lay setup) p.now.columns how p.between.closes.were.items closed.columns.items
  judged-now = subst (λ (cols : List ColumnState). IsJudged (shape_in lay setup) cols how p.between.closes.were.items closed.columns.items) (sym p.shows_now.columns)
      (subst (λ (y : Shape). IsJudged y last.cols.states how p.between.closes.were.items closed.columns.items) p.shape_last p.between.closes.judged)

  pub closes : ClosesAs (shape_in lay setup) p.now.columns closed.columns.items
  closes = closes-judged (shape_in lay setup) p.now.columns p.between.closes.were.items closed.columns.items were-now how judged-now now-one now-many (ready lay disk setup how first last closed p)

  -- ## Clients

  items-count : length closed.clients.items ≡ length setup.clients.items
  items-count = p.between.closes.is_closed.clients.items_count ∙ spare-back lay disk setup how first last closed p

  replies-count : length closed.replies.items ≡ length setup.clients.items
  replies-count = p.between.closes.is_closed.clients.replies_count ∙ spare-back lay disk setup how first last closed p

  items-each : (c : ℕ) → items_at closed.clients.items c ≡ items_at setup.clients.items c
  items-each c = elim (cases_lt c last.spare) [
    | inl lt ↦ p.between.closes.is_closed.clients.items_each c lt ∙ p.last_items c (let e = spare-back lay disk setup how first last closed p in let few = p.few in λ is. omega (arith, lt, e, few, is))
    | inr past ↦
        let e = spare-back lay disk setup how first last closed p in
        let n = items-count in
        no-items closed.clients.items c (omega (arith, past, e, n)) ∙ sym (no-items setup.clients.items c (omega (arith, past, e)))
  ]

  replies-each : (c : ℕ) → c ≢ 16 → replies_at closed.replies.items c ≡ (p.now.clients c).replies
  replies-each c ne = elim (cases_lt c last.spare) [
    | inl lt ↦ p.between.closes.is_closed.clients.replies_each c lt ∙ sym (p.shows_now.clients c).replies
    | inr past ↦
        let e = spare-back lay disk setup how first last closed p in
        let n = replies-count in
        let none : (p.now.clients c).items ≡ [] = p.now_items c ne ∙ no-items setup.clients.items c (omega (arith, past, e)) in
        let all = replied lay disk setup how first last closed p c ∙ ap (λ (l : List Item). length l) none in
        ap replies_in (slice_get_past closed.replies.items c (omega (arith, past, e, n))) ∙ sym (none-left (p.now.clients c).replies all)
  ]

  -- ## The trace

  log-trace : traced first ≡ []
  log-trace = ap (λ (l : Logged). l.trace) p.between.opened.log

  log-keeps : keeps_trace first ≡ setup.trace
  log-keeps = ap (λ (l : Logged). l.keeps) p.between.opened.log

  trace-now : traced last ≡ trace_of setup.trace (p.own ++ first_of how p.count)
  trace-now = by setup.trace log-keeps
    where
      by : (b : Bool) → keeps_trace first ≡ b → traced last ≡ trace_of b (p.own ++ first_of how p.count)
      by true on = goes-told lay disk first last (p.own ++ first_of how p.count) p.goes on ∙ ap (λ (l : List Traced). l ++ reverse (p.own ++ first_of how p.count)) log-trace
      by false off = untraced lay disk setup how first last closed p off ∙ log-trace

  pub tells : CoreTells lay disk setup how closed (p.own ++ first_of how p.count) p.now
  tells = record {
    layout = layout-back lay disk setup how first last closed p;
    closes = closes;
    filling = one-count is_set_filling closed.columns.items (closes-one (shape_in lay setup) p.now.columns closed.columns.items closes now-one);
    spread = one-count is_set_spread closed.columns.items (closes-one-spread (shape_in lay setup) p.now.columns closed.columns.items closes now-one-spread);
    clients = items-count;
    few = let n = items-count in let few = p.few in omega (arith, n, few);
    items = items-each;
    rows = replies-count;
    replies = replies-each;
    history = p.between.closes.is_closed.history ∙ sym p.shows_now.history;
    lost = p.between.closes.is_closed.lost ∙ sym p.shows_now.lost;
    trace = p.between.closes.is_closed.trace ∙ trace-now;
  }

  -- ## What reads handed out

  handed-back : handed_in closed ≡ last.log.handed
  handed-back =
      let a = p.between.closes.is_closed.sectors in
      let b = p.between.closes.is_closed.regions in
      ap (λ (bytes : List ℕ). record { bytes = bytes; regions = closed.regions.items }) a ∙ ap (λ (regions : List (List Region)). record { bytes = last.log.handed.bytes; regions = regions }) b

  regions-back : closed.regions.items ≡ first.log.handed.regions
  regions-back = p.between.closes.is_closed.regions ∙ regions-same lay disk setup how first last closed p

  rows-back : (c : ℕ) → c < 16 → IsRow (items_at setup.clients.items c) (sectors_before setup.clients.items c) (length (items_at setup.clients.items c)) (slice_index_or closed.regions.items c [])
  rows-back c lt = subst (λ (rows : List (List Region)). IsRow (items_at setup.clients.items c) (sectors_before setup.clients.items c) (length (items_at setup.clients.items c)) (slice_index_or rows c [])) (sym regions-back) (p.between.opened.laid.rows c lt)

  -- there are as many sectors as the regions have, which are those of the opening
  sectors-back : all_sectors last.log.handed ≡ sectors_before setup.clients.items 16
  sectors-back =
      ap (λ (rows : List (List Region)). all_sectors (record { bytes = []; regions = rows })) (regions-same lay disk setup how first last closed p)
      ∙ laid-sectors setup.clients.items (shape_in lay setup).stripes first.log.handed p.between.opened.laid

  pub hands : HandsOut lay disk setup how closed p.now
  hands = record {
    rows = rows-back;
    all = ap (λ (bytes : List ℕ). length bytes) p.between.closes.is_closed.sectors ∙ (p.between.regions.all ∙ ap (λ (n : ℕ). 512 * n) sectors-back);
    handed = subst (λ (h : Handout). Hands disk.tells h p.now.clients) (sym handed-back) p.shows_now.handed;
  }
