-- In a run of clients that are apart each operation is done.
use Rattle.std.proofs.Common.{◌≡◌, ◌∙◌, inl, inr, ap, sym, refl, subst, ℕ, ◌/◌, ◌≤◌, List, map, true, Option, Some, None, option_map, arith}
use Rattle.std.specs.Prelude.{slice_get}
use Rattle.std.proofs.lemmas.Option.{slice_get-map, slice_get_within, slice_get_cases, get_or_from_slice_get}
use Rattle.blk_plain.specs.declared.op.Op.{Op}
use Rattle.blk_plain.specs.declared.op.Op.TheVariants.{Write, Writes, Read, Rebuild, Sync}
use Rattle.blk_disk.specs.declared.disk.Disk.{Ghosts}
use Rattle.lay_core.specs.Layout.{blocks_in}
use Rattle.eng_cols.specs.declared.spot.Loss.{Loss}
use Rattle.eng_world.specs.declared.item.Item.{Item}
use Rattle.eng_world.specs.declared.item.Item.TheVariants as item
use Rattle.eng_world.specs.declared.item.Reply.{Reply}
use Rattle.eng_world.specs.World.{op_of}
use Rattle.eng_world.specs.Planning.{touches}
use Rattle.eng_world.specs.Legal.{ReplyOf}
use Rattle.eng_world.specs.Causes.{ItemAt}
use Rattle.item_list.specs.ItemList.{ItemList}
use Rattle.eng_cols.specs.Stripes.{states_of}
use Rattle.raid_script.specs.Asked.{seen}
use Rattle.raid_script.specs.Drawn.{AreApart, IsOwn}
use Rattle.raid_script.specs.Replies.{items_at}
use Rattle.raid_script.specs.Steps.{items_in}
use Rattle.raid_script.proofs.OwnItems.{own_items}
use Rattle.top_sweep.specs.Apart.{Touches, IsApart, id_of}
use Rattle.top_run.specs.Work.{Work, Service}
use Rattle.top_run.specs.Ran.{Ran}
use Rattle.top_run.specs.InTurn.{plain_reply}
use Rattle.top_run.proofs.AtEnd.{not-before}
use Rattle.top_run.proofs.Caused.{replies-caused}
use Rattle.top_run.proofs.InTurnAlone.{items-all}
use Rattle.top_run.proofs.InTurnOps.{EachRuns, AllRun, own_of, row_asks, ops-at, item-of}
use Rattle.top_run.proofs.InTurnReplies.{replied-so, commits-so}

touched : (o : Op) (b : ℕ) → Touches o b → touches o b ≡ true
touched (Write span pattern) b h = h
touched (Writes patches) b h = h
touched (Read span) b h = h
touched (Rebuild stripe) b h = absurd h
touched (Sync stripe) b h = absurd h

module _ {D : Type 0} (g : Ghosts D) (a : Work) (taken : List (Option D)) (s : Service) (back : List (Option D)) (r : Ran g a taken s back) (alone : a.start ≡ None) (count ops wide blocks : ℕ) (apart : AreApart count ops wide blocks a.clients) (within : blocks ≤ blocks_in a.layout) (none : s.ending.lost ≡ None) where
  -- ## The array isn't lost

  no-loss : r.now.lost ≡ None
  no-loss = not-before a.layout r.now.lost s.ending.lost (states_of a.layout s.ending.columns) r.ends.lost none

  -- ## Items

  row-at : (c : ℕ) (row : ItemList) → slice_get s.clients c ≡ Some row → slice_get a.clients c ≡ Some (map seen row.items)
  row-at c row h = ap (λ l. slice_get l c) (sym r.tells.asked) ∙ (slice_get-map row_asks s.clients c ∙ ap (option_map row_asks) h)

  pub own-item : (c i : ℕ) (x : Item) → slice_get (items_at s.clients c) i ≡ Some x → IsOwn wide blocks c (seen x)
  own-item c i x h = go (slice_get s.clients c) refl h
    where
      go : (o : Option ItemList) → slice_get s.clients c ≡ o → slice_get (items_in o) i ≡ Some x → IsOwn wide blocks c (seen x)
      go None is e = let z : None ≡ Some x = e in absurd (let u : ⊥ = cc in u)
      go (Some row) is e =
          let at : slice_get (map seen row.items) i ≡ Some (seen x) = slice_get-map seen row.items i ∙ ap (option_map seen) e in
          let all = apart.own c (map seen row.items) (row-at c row is) in
          subst (IsOwn wide blocks c) (get_or_from_slice_get (map seen row.items) i (seen x) (seen x) at) (all i (seen x) (slice_get_within (map seen row.items) i (seen x) at))

  pub runs : (c : ℕ) → EachRuns (items_at s.clients c)
  runs c i x h = let own = own_items wide blocks c x (own-item c i x h) in (own.op, own.is)

  pub all-run : AllRun s.clients
  all-run c row h i x there = runs c i x (ap (λ o. slice_get (items_in o) i) h ∙ there)

  -- ## Operations

  abbrev pub own : ℕ → List Op
  own c = own_of s.clients c

  abbrev pub owner : ℕ → ℕ
  owner b = b / wide

  item-now : (c i : ℕ) (o : Op) → slice_get (own c) i ≡ Some o → ItemAt r.now (id_of c i) (item.Run o None)
  item-now c i o h = ap (λ l. slice_get l i) (sym (items-all g a taken s back r alone c)) ∙ item-of (items_at s.clients c) (runs c) i o h

  has-reply : (c i : ℕ) (x : Item) → slice_get (r.now.clients c).items i ≡ Some x → (e : Reply) × ReplyOf r.now (id_of c i) e
  has-reply c i x h = elim (slice_get_cases (r.now.clients c).replies i).1 [
    | inl there ↦ (there.0, there.2)
    | inr past ↦
        let inside = slice_get_within (r.now.clients c).items i x h in
        let all = r.rests.replied c in
        absurd (omega (arith, past.0, inside, all))
  ]

  -- each is replied what the plain machine replies
  pub replied-as : (c i : ℕ) (o : Op) → slice_get (own c) i ≡ Some o → ReplyOf r.now (id_of c i) (plain_reply o)
  replied-as c i o h =
      let at = item-now c i o h in
      let e = has-reply c i (item.Run o None) at in
      let mine = own-item c i (item.Run o None) (item-of (items_at s.clients c) (runs c) i o h) in
      let same : e.0 ≡ plain_reply o = replied-so a.layout r.graphs r.start r.events r.now no-loss wide blocks c within (replies-caused g a taken back s r) (id_of c i) o mine at e.0 e.1 in
      e.1 ∙ ap Some same

  pub is-apart : IsApart r.now own owner
  is-apart = record {
    lists = λ c i. ap (λ l. op_of (slice_get l i)) (sym (items-all g a taken s back r alone c)) ∙ ops-at (items_at s.clients c) (runs c) i;
    done = λ c i o h. (plain_reply o, replied-as c i o h, commits-so o);
    apart = λ c i o b h touch.
        let at = item-of (items_at s.clients c) (runs c) i o h in
        let mine = own_items wide blocks c (item.Run o None) (own-item c i (item.Run o None) at) in
        let z : item.Run o None ≡ item.Run mine.op None = mine.is in
        let same : o ≡ mine.op = cc in
        mine.own b (ap (λ p. touches p b) (sym same) ∙ touched o b touch);
  }
