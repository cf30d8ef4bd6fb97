-- What sums up a run of clients that are apart.
use Rattle.std.proofs.Common.{◌≡◌, ◌∙◌, ap, ap₂, sym, refl, ℕ, ◌+◌, ◌*◌, ◌<◌, ◌≤◌, List, ◌++◌, length, take, drop, Option, Some, None, arith}
use Rattle.std.specs.Prelude.{slice_get, slice_index_or, sum_by}
use Rattle.std.proofs.lemmas.List.{length-map, length-take}
use Rattle.std.proofs.lemmas.Option.{slice_get_within, get_or_from_slice_get}
use Rattle.blk_plain.specs.declared.op.Op.{Op}
use Rattle.blk_plain.specs.declared.op.Op.TheVariants.{Write, Writes, Read, Rebuild, Sync}
use Rattle.blk_plain.specs.declared.op.Span.{Span}
use Rattle.blk_disk.specs.declared.disk.Disk.{Ghosts}
use Rattle.lay_core.specs.Layout.{Blocks, blocks_in}
use Rattle.eng_world.specs.declared.item.Item.TheVariants as item
use Rattle.eng_world.specs.declared.item.Reply.{Reply}
use Rattle.eng_world.specs.declared.item.Reply.TheVariants as reply
use Rattle.eng_world.specs.Plain.{replay}
use Rattle.raid_script.specs.Drawn.{AreApart}
use Rattle.raid_script.specs.Replies.{items_at, item_sectors, item_bytes, no_item, replies_at, row_sectors, sectors_before}
use Rattle.raid_script.specs.Summary.{all_sum, data_sum, summary_text}
use Rattle.raid_script.specs.Steps.{client_sum, place_sum, row_writes, sweep_line, written_line}
use Rattle.top_sweep.specs.Apart.{in_turn}
use Rattle.top_sweep.proofs.OneAfterAnother.{replay-append, take_in_turn}
use Rattle.top_run.specs.Work.{Work, Service}
use Rattle.top_run.specs.Ran.{WasInSync, Ran, told_byte}
use Rattle.top_run.specs.InTurn.{plain_reply, reply_sum, replies_sum, turn_text}
use Rattle.top_run.proofs.InTurnAlone.{replies-all}
use Rattle.top_run.proofs.InTurnOps.{ops-many, item-of, turn_of, row_asks, turn-many, turn-writes, turn-reads, all-in-turn}
use Rattle.top_run.proofs.InTurnApart as apart
use Rattle.top_run.proofs.InTurnMeans as means
use Rattle.top_run.proofs.InTurnSums.{upto, read-sum, sum-by-place, sum-by-client}

module _ {D : Type 0} (g : Ghosts D) (a : Work) (taken : List (Option D)) (s : Service) (back : List (Option D)) (r : Ran g a taken s back) (alone : a.start ≡ None) (count ops wide blocks : ℕ) (given : AreApart count ops wide blocks a.clients) (within : blocks ≤ blocks_in a.layout) (none : s.ending.lost ≡ None) where
  abbrev own : ℕ → List Op
  own = apart.own g a taken s back r alone count ops wide blocks given within none

  abbrev turn : List Op
  turn = turn_of s.clients

  -- ## How many

  clients-many : length s.clients ≡ length a.clients
  clients-many = sym (length-map s.clients row_asks) ∙ ap (λ l. length l) r.tells.asked

  pub counts : (sum : ℕ) → sum ≡ all_sum s.clients s.replies s.sectors → summary_text s.clients s.replies s.sectors ≡ turn_text (length a.clients) turn sum
  unfolding sweep_line written_line
  counts sum is =
      ap (λ (l : List ℕ). l ++ written_line (sum_by (λ row. row_writes row.items) s.clients) (sum_by (λ row. row_sectors row.items) s.clients) (all_sum s.clients s.replies s.sectors))
      (ap₂ sweep_line clients-many (sym (turn-many s.clients (apart.all-run g a taken s back r alone count ops wide blocks given within none))))
      ∙ (ap (λ (l : List ℕ). sweep_line (length a.clients) (length turn) ++ l) (ap₂ (λ (w n : ℕ). written_line w n (all_sum s.clients s.replies s.sectors)) (sym (turn-writes s.clients)) (sym (turn-reads s.clients)))
      ∙ ap (turn_text (length a.clients) turn) (sym is))

  -- ## Bytes

  -- the blocks before client c's operation i
  abbrev held : ℕ → ℕ → Blocks
  held c i = replay (replay r.start.blocks (in_turn own c)) (take i (own c))

  module _ (tells : g.tells) (sync : WasInSync g a taken) where
    byte-told : (c i : ℕ) (span : Span) → c < length s.clients → slice_get (own c) i ≡ Some (Read span) → (j k : ℕ) → j < span.count → k < 512 → told_byte s c i j k ≡ held c i (span.first + j) k
    byte-told c i span less there j k jl kl =
        means.read-own g a taken s back r alone count ops wide blocks given within none tells sync c i span less there j k jl kl
        ∙ (ap (λ (l : List Op). replay r.start.blocks l (span.first + j) k) (take_in_turn own (length s.clients) c i less (let inside = slice_get_within (own c) i (Read span) there in omega (arith, inside)))
        ∙ ap (λ (bs : Blocks). bs (span.first + j) k) (replay-append (in_turn own c) (take i (own c)) r.start.blocks))

    -- the bytes of client c's item i
    abbrev bytes : ℕ → ℕ → List ℕ
    bytes c i = item_bytes (items_at s.clients c) (drop (512 * sectors_before s.clients c) s.sectors) i (item_sectors (slice_index_or (items_at s.clients c) i no_item))

    bytes-few : (c i : ℕ) (span : Span) → slice_get (own c) i ≡ Some (Read span) → length (bytes c i) ≤ 512 * span.count
    bytes-few c i span there =
        let asked = item-of (items_at s.clients c) (apart.runs g a taken s back r alone count ops wide blocks given within none c) i (Read span) there in
        let long : item_sectors (slice_index_or (items_at s.clients c) i no_item) ≡ span.count = ap item_sectors (get_or_from_slice_get (items_at s.clients c) i (item.Run (Read span) None) no_item asked) in
        let cut = length-take (512 * item_sectors (slice_index_or (items_at s.clients c) i no_item)) (drop (512 * row_sectors (take i (items_at s.clients c))) (drop (512 * sectors_before s.clients c) s.sectors)) in
        omega (arith, long, cut)

    replied-sum : (c i : ℕ) (o : Op) → c < length s.clients → slice_get (own c) i ≡ Some o → data_sum (plain_reply o) (bytes c i) ≡ reply_sum (held c i) o
    replied-sum c i (Write span pattern) less there = refl
    replied-sum c i (Writes patches) less there = refl
    replied-sum c i (Read span) less there = read-sum (bytes c i) span (held c i) (bytes-few c i span there) (byte-told c i span less there)
    replied-sum c i (Rebuild stripe) less there = refl
    replied-sum c i (Sync stripe) less there = refl

    place-sum : (c i : ℕ) (o : Op) → c < length s.clients → slice_get (own c) i ≡ Some o → place_sum (items_at s.clients c) (replies_at s.replies c) (drop (512 * sectors_before s.clients c) s.sectors) i ≡ reply_sum (held c i) o
    place-sum c i o less there =
        let told : slice_get (replies_at s.replies c) i ≡ Some (plain_reply o) = ap (λ l. slice_get l i) (replies-all g a taken s back r alone c) ∙ apart.replied-as g a taken s back r alone count ops wide blocks given within none c i o there in
        ap (λ (e : Reply). data_sum e (bytes c i)) (get_or_from_slice_get (replies_at s.replies c) i (plain_reply o) reply.Done told)
        ∙ replied-sum c i o less there

    client-sum : (c : ℕ) → c < length s.clients → client_sum s.clients s.replies s.sectors c ≡ replies_sum (replay r.start.blocks (in_turn own c)) (own c)
    client-sum c less =
        let value = place_sum (items_at s.clients c) (replies_at s.replies c) (drop (512 * sectors_before s.clients c) s.sectors) in
        ap (upto value) (sym (ops-many (items_at s.clients c) (apart.runs g a taken s back r alone count ops wide blocks given within none c)))
        ∙ sum-by-place (own c) (replay r.start.blocks (in_turn own c)) value (λ i o there. place-sum c i o less there)

    pub sum-is : all_sum s.clients s.replies s.sectors ≡ replies_sum r.start.blocks turn
    sum-is =
        sum-by-client own (length s.clients) r.start.blocks (client_sum s.clients s.replies s.sectors) client-sum
        ∙ ap (replies_sum r.start.blocks) (all-in-turn s.clients)

    pub summary : summary_text s.clients s.replies s.sectors ≡ turn_text (length a.clients) turn (replies_sum r.start.blocks turn)
    summary = counts (replies_sum r.start.blocks turn) (sym sum-is)
