-- What a run of clients that are apart means.
use Rattle.std.proofs.Common.{◌≡◌, ◌∙◌, inl, inr, ap, sym, subst, ℕ, zero, suc, ◌+◌, ◌<◌, ◌≤◌, List, [], ◌∷◌, length, map, take, Option, Some, None, arith}
use Rattle.std.specs.Prelude.{slice_get, slice_index_or}
use Rattle.std.proofs.lemmas.Bool.{cases_lt}
use Rattle.std.proofs.lemmas.List.{length-map}
use Rattle.std.proofs.lemmas.Option.{slice_get_past, get_or_from_slice_get}
use Rattle.blk_plain.specs.declared.op.Op.{Op}
use Rattle.blk_plain.specs.declared.op.Op.TheVariants.{Read}
use Rattle.blk_plain.specs.declared.op.OpId.{OpId}
use Rattle.blk_plain.specs.declared.op.Span.{Span}
use Rattle.blk_disk.specs.declared.disk.Disk.{Ghosts}
use Rattle.blk_disk.specs.Devices.{contents_of}
use Rattle.lay_core.specs.Layout.{Blocks, blocks_in}
use Rattle.eng_cols.specs.Contents.{Agrees, AnyStripe}
use Rattle.eng_world.specs.declared.item.Item.TheVariants as item
use Rattle.eng_world.specs.declared.item.Reply.TheVariants as reply
use Rattle.eng_world.specs.Plain.{replay}
use Rattle.eng_world.specs.World.{World}
use Rattle.eng_world.specs.Legal.{AreOps, ReplyOf}
use Rattle.eng_cols.specs.Stripes.{states_of}
use Rattle.raid_script.specs.Asked.{seen}
use Rattle.raid_script.specs.Drawn.{AreApart}
use Rattle.raid_script.specs.Replies.{items_at, item_sectors, no_item, replies_at}
use Rattle.raid_script.specs.Steps.{items_in}
use Rattle.top_sweep.specs.Apart.{id_of, in_turn}
use Rattle.top_sweep.proofs.OneAfterAnother.{get_in_turn}
use Rattle.top_sweep.proofs.InAnyOrder.{leaves_in_turn, reads_in_turn}
use Rattle.top_run.specs.Work.{Work, Service}
use Rattle.top_run.specs.Ran.{WasInSync, Ran, told_byte}
use Rattle.top_run.specs.InTurn.{asks, one_after_another, place_of, HasOp, plain_reply}
use Rattle.top_run.proofs.InTurnAlone.{replies-all}
use Rattle.top_run.proofs.InTurnOps.{ops-many, item-of, turn_of, all-in-turn, first-in-turn, none-behind, turn-asks, first-many, asked-by}
use Rattle.top_run.proofs.InTurnApart as apart

-- the first names of a history have the first operations
are_ops-take : (w : World) (ids : List OpId) (ops : List Op) (n : ℕ) → AreOps w ids ops → AreOps w (take n ids) (take n ops)
are_ops-take w ids ops zero are = tt
are_ops-take w [] [] (suc n) are = tt
are_ops-take w [] (o ∷ ops) (suc n) are = absurd are
are_ops-take w (id ∷ ids) [] (suc n) are = absurd are
are_ops-take w (id ∷ ids) (o ∷ ops) (suc n) are = (are.0, are_ops-take w ids ops n are.1)

module _ {D : Type 0} (g : Ghosts D) (a : Work) (taken : List (Option D)) (s : Service) (back : List (Option D)) (r : Ran g a taken s back) (alone : a.start ≡ None) (count ops wide blocks : ℕ) (given : AreApart count ops wide blocks a.clients) (within : blocks ≤ blocks_in a.layout) (none : s.ending.lost ≡ None) where
  abbrev own : ℕ → List Op
  own = apart.own g a taken s back r alone count ops wide blocks given within none

  abbrev owner : ℕ → ℕ
  owner = apart.owner g a taken s back r alone count ops wide blocks given within none

  abbrev pub turn : List Op
  turn = turn_of s.clients

  abbrev many : ℕ
  many = length s.clients

  whole : in_turn own many ≡ turn
  whole = all-in-turn s.clients

  pub asked : map asks turn ≡ one_after_another a.clients
  asked = turn-asks s.clients (apart.all-run g a taken s back r alone count ops wide blocks given within none) ∙ ap one_after_another r.tells.asked

  -- ## Places

  client-in : (c i : ℕ) → i < length (slice_index_or a.clients c []) → (c < many) × (i < length (own c))
  client-in c i inside =
      let here : i < length (items_at s.clients c) = (
      let one = ap (λ l. length l) (asked-by s.clients c) in
      let two = length-map (items_at s.clients c) seen in
      let three = ap (λ l. length (slice_index_or l c [])) r.tells.asked in
      omega (arith, inside, one, two, three)) in
      let as_many = ops-many (items_at s.clients c) (apart.runs g a taken s back r alone count ops wide blocks given within none c) in (
        elim (cases_lt c many) [
          | inl less ↦ less
          | inr past ↦
              let z = ap (λ o. length (items_in o)) (slice_get_past s.clients c past) in
              absurd (omega (arith, here, z))
        ],
        omega (arith, here, as_many),
      )

  place-is : (c i : ℕ) → c < many → place_of a.clients c i ≡ length (in_turn own c) + i
  place-is c i less =
      let one = ap (λ l. length l) (first-in-turn s.clients c (omega (arith, less))) in
      let two = first-many s.clients (apart.all-run g a taken s back r alone count ops wide blocks given within none) c in
      let three = ap (λ l. length (one_after_another (take c l))) r.tells.asked in
      omega (arith, one, two, three)

  pub own-at : (c i : ℕ) (o : Op) → HasOp a.clients turn c i o → slice_get (own c) i ≡ Some o
  own-at c i o has =
      let here = client-in c i has.0 in
      sym (get_in_turn own many c i here.0 here.1)
      ∙ (ap (λ l. slice_get l (length (in_turn own c) + i)) whole
      ∙ (ap (slice_get turn) (sym (place-is c i here.0))
      ∙ has.1))

  pub replied : (c i : ℕ) (o : Op) → HasOp a.clients turn c i o → slice_get (replies_at s.replies c) i ≡ Some (plain_reply o)
  replied c i o has =
      ap (λ l. slice_get l i) (replies-all g a taken s back r alone c)
      ∙ apart.replied-as g a taken s back r alone count ops wide blocks given within none c i o (own-at c i o has)

  -- ## Blocks

  pub left : g.tells → WasInSync g a taken → Agrees a.layout (contents_of g back) (states_of a.layout s.ending.columns) (replay r.start.blocks turn) AnyStripe
  left tells sync =
      let was = r.means.agrees tells sync none in
      let same : (b k : ℕ) → replay r.start.blocks was.0 b k ≡ replay r.start.blocks turn b k =
      λ b k.
      leaves_in_turn r.now r.start.blocks own owner was.0 many (apart.is-apart g a taken s back r alone count ops wide blocks given within none) r.means.legal.legal was.1 (none-behind s.clients) b k
      ∙ ap (λ (l : List Op). replay r.start.blocks l b k) whole in
      subst (λ (bs : Blocks). Agrees a.layout (contents_of g back) (states_of a.layout s.ending.columns) bs AnyStripe) (λ i b k. same b k i) was.2

  -- ## Reads

  pub read-own : g.tells → WasInSync g a taken → (c i : ℕ) (span : Span) → c < many → slice_get (own c) i ≡ Some (Read span) → (j k : ℕ) → j < span.count → k < 512
      → told_byte s c i j k ≡ replay r.start.blocks (take (length (in_turn own c) + i) (in_turn own many)) (span.first + j) k
  read-own tells sync c i span less there j k jl kl =
      let is-apart = apart.is-apart g a taken s back r alone count ops wide blocks given within none in
      let told : ReplyOf r.now (id_of c i) reply.Data = apart.replied-as g a taken s back r alone count ops wide blocks given within none c i (Read span) there in
      let at = r.means.legal.legal.committed (id_of c i) reply.Data told tt in
      let asks_for = item-of (items_at s.clients c) (apart.runs g a taken s back r alone count ops wide blocks given within none c) i (Read span) there in
      let long : item_sectors (slice_index_or (items_at s.clients c) i no_item) ≡ span.count = ap item_sectors (get_or_from_slice_get (items_at s.clients c) i (item.Run (Read span) None) no_item asks_for) in
      sym (r.tells.handed tells c i j k told (omega (arith, jl, long)) kl)
      ∙ reads_in_turn r.now r.start.blocks own owner many is-apart r.means.legal.legal (r.means.fits tells sync) (id_of c i) span at.0 (take at.0 r.means.legal.ops)
      told (record { op = is-apart.lists c i ∙ there; place = at.1; before = are_ops-take r.now r.now.history r.means.legal.ops at.0 r.means.legal.are_ops }) less j k jl kl

  pub read : g.tells → WasInSync g a taken → (c i : ℕ) (span : Span) → HasOp a.clients turn c i (Read span) → (j k : ℕ) → j < span.count → k < 512
      → told_byte s c i j k ≡ replay r.start.blocks (take (place_of a.clients c i) turn) (span.first + j) k
  read tells sync c i span has j k jl kl =
      let here = client-in c i has.0 in
      read-own tells sync c i span here.0 (own-at c i (Read span) has) j k jl kl
      ∙ (ap (λ (n : ℕ). replay r.start.blocks (take n (in_turn own many)) (span.first + j) k) (sym (place-is c i here.0))
      ∙ ap (λ (l : List Op). replay r.start.blocks (take (place_of a.clients c i) l) (span.first + j) k) whole)
