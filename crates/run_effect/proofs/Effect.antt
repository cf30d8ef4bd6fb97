-- What a run comes to, in the words of what is asked, of what is told and of what devices hold.
use Rattle.std.proofs.Common.{◌≡◌, ◌≢◌, ◌∙◌, ap, sym, refl, subst, inl, inr, ℕ, zero, suc, ◌+◌, ◌*◌, ◌<◌, ◌≤◌, Bool, true, false, List, [], ◌∷◌, length, take, Option, Some, None, arith}
use Rattle.std.specs.Prelude.{if◌then◌else◌, ◌==◌, ◌++◌, option_to_list, slice_get, slice_index_or}
use Rattle.std.proofs.lemmas.Bool.{cases_eq}
use Rattle.std.proofs.lemmas.Nat.{mul-add-lt}
use Rattle.std.proofs.lemmas.Option.{get_or_from_slice_get, slice_get_past}
use Rattle.blk_plain.specs.declared.op.Op.{Op}
use Rattle.blk_plain.specs.declared.op.Op.TheVariants.{Write, Writes, Read, Rebuild, Sync}
use Rattle.blk_plain.specs.declared.op.OpId.{OpId}
use Rattle.blk_plain.specs.declared.op.Span.{Span}
use Rattle.blk_plain.specs.Plain.{is_in, is_in_some, used_of, spans_of}
use Rattle.blk_disk.specs.declared.disk.Disk.{Ghosts}
use Rattle.blk_disk.specs.Devices.{contents_of}
use Rattle.lay_core.specs.Layout.{Shape, Blocks, blocks_in, block_of, data_units, stripe_of, unit_of, offset_of}
use Rattle.eng_cols.specs.declared.spot.Spot.{Spot}
use Rattle.eng_cols.specs.Cols.{ColumnState}
use Rattle.eng_cols.specs.Seats.{is_available, spot}
use Rattle.eng_cols.specs.Contents.{Agrees, AnyStripe, Contents, byte_of, decode, sector_at, xor_others}
use Rattle.eng_cols.specs.Stripes.{states_of}
use Rattle.eng_cols.proofs.Words.{byte_if}
use Rattle.eng_world.specs.declared.item.Item.{Item}
use Rattle.eng_world.specs.declared.item.Item.TheVariants as item
use Rattle.eng_world.specs.declared.item.Reply.{Reply}
use Rattle.eng_world.specs.declared.item.Reply.TheVariants as reply
use Rattle.eng_world.specs.Plain.{apply, replay, filled, filled_by}
use Rattle.eng_world.specs.World.{World, op_at, op_of}
use Rattle.eng_world.specs.Legal.{AreOps, ReplyOf, HasCommitted, HasNotCommitted}
use Rattle.eng_world.proofs.Shared.{code-same, xor_below-same}
use Rattle.item_list.specs.ItemList.{ItemList}
use Rattle.raid_script.specs.Replies.{items_at, item_sectors, no_item, replies_at}
use Rattle.raid_script.specs.Steps.{items_in, replies_in}
use Rattle.run_effect.specs.Effect.{Request, Answer, TakesEffect, WasFit, byte_read, held, op_named, ops_named, reply_to}
use Rattle.run_effect.specs.Run.{RanSo}

-- ## Operations at one byte

apply_same : (op : Op) (s t : Blocks) (b k : ℕ) → s b k ≡ t b k → apply s op b k ≡ apply t op b k
apply_same (Write span pattern) s t b k h = ap (λ (x : ℕ). if is_in span b then filled pattern k else x) h
apply_same (Writes patches) s t b k h = ap (λ (x : ℕ). if is_in_some (spans_of patches) b then filled_by (used_of patches) b k else x) h
apply_same (Read span) s t b k h = h
apply_same (Rebuild stripe) s t b k h = h
apply_same (Sync stripe) s t b k h = h

replay_same : (ops : List Op) (s t : Blocks) (b k : ℕ) → s b k ≡ t b k → replay s ops b k ≡ replay t ops b k
replay_same [] s t b k h = h
replay_same (op ∷ ops) s t b k h = replay_same ops (apply s op) (apply t op) b k (apply_same op s t b k h)

-- a rebuild changes no block
nothing : (stripe : ℕ) (s : Blocks) (b k : ℕ) → apply s (Rebuild stripe) b k ≡ s b k
nothing stripe s b k = refl

-- ## What contents mean

module _ (y : Shape) (one other : Contents) (cols : List ColumnState) (same : (d n k : ℕ) → k < 512 → one d n k ≡ other d n k) where
  byte-same : (at : Option Spot) (o k : ℕ) → k < 512 → byte_if y one at o k ≡ byte_if y other at o k
  byte-same None o k kl = refl
  byte-same (Some at) o k kl = same at.device (sector_at y at o) k kl

  decode-same : (b k : ℕ) → k < 512 → decode y one cols b k ≡ decode y other cols b k
  decode-same b k kl = go (is_available y cols (stripe_of y b) (unit_of y b))
    where
      byte : (i : ℕ) → byte_of y one cols (stripe_of y b) i (offset_of y b) k ≡ byte_of y other cols (stripe_of y b) i (offset_of y b) k
      byte i = byte-same (spot y cols (stripe_of y b) i) (offset_of y b) k kl

      but : (j i : ℕ) (here : Bool) → (if here then 0 else byte_of y one cols (stripe_of y b) j (offset_of y b) k) ≡ (if here then 0 else byte_of y other cols (stripe_of y b) j (offset_of y b) k)
      but j i true = refl
      but j i false = byte j

      go : (there : Bool)
          → (if there then byte_of y one cols (stripe_of y b) (unit_of y b) (offset_of y b) k else xor_others (λ j. byte_of y one cols (stripe_of y b) j (offset_of y b) k) (unit_of y b) y.width)
          ≡ (if there then byte_of y other cols (stripe_of y b) (unit_of y b) (offset_of y b) k else xor_others (λ j. byte_of y other cols (stripe_of y b) j (offset_of y b) k) (unit_of y b) y.width)
      go true = byte (unit_of y b)
      go false = xor_below-same _ _ y.width (λ j lt. but j (unit_of y b) (j == unit_of y b))

in-array : (y : Shape) (s i o : ℕ) → s < y.stripes → i < data_units y → o < y.unit_sectors → block_of y s i o < blocks_in y
in-array y s i o hs hi ho =
    let unit : s * data_units y + i < y.stripes * data_units y = omega (arith, mul-add-lt s (data_units y) i y.stripes hs hi) in
    omega (arith, mul-add-lt (s * data_units y + i) y.unit_sectors o (y.stripes * data_units y) unit ho)

-- so many first blocks are the same
abbrev SameBelow : ℕ → Blocks → Blocks → Type 0
SameBelow n one other = (b k : ℕ) → b < n → k < 512 → one b k ≡ other b k

agrees-on : (y : Shape) (contents : Contents) (cols : List ColumnState) (one other : Blocks) → SameBelow (blocks_in y) one other → Agrees y contents cols one AnyStripe → Agrees y contents cols other AnyStripe
agrees-on y contents cols one other same agrees s i si st ii at o k here is ou ku =
    agrees s i si st ii at o k here is ou ku
    ∙ code-same y one other s i o k (λ j jl. block j jl) (λ il. block i il)
  where
    block : (j : ℕ) → j < data_units y → one (block_of y s j o) k ≡ other (block_of y s j o) k
    block j jl = same (block_of y s j o) k (in-array y s j o si jl ou) ku

-- ## Names

-- who stands in a history is an operation
op-there : (w : World) (ids : List OpId) (ops : List Op) (n : ℕ) (id : OpId) → AreOps w ids ops → slice_get ids n ≡ Some id → (op : Op) × (op_at w id ≡ Some op)
op-there w [] ops n id are at = let z : None ≡ Some id = at in absurd (let u : ⊥ = cc in u)
op-there w (x ∷ ids) [] n id are at = absurd are
op-there w (x ∷ ids) (o ∷ ops) zero id are at =
    let z : Some x ≡ Some id = at in
    let same : x ≡ id = cc in
    (o, ap (op_at w) (sym same) ∙ are.0)
op-there w (x ∷ ids) (o ∷ ops) (suc n) id are at = op-there w ids ops n id are.1 at

-- the first names of a history have the first operations
first-ops : (w : World) (ids : List OpId) (ops : List Op) (n : ℕ) → AreOps w ids ops → AreOps w (take n ids) (take n ops)
first-ops w ids ops zero are = tt
first-ops w [] [] (suc n) are = tt
first-ops w [] (o ∷ ops) (suc n) are = absurd are
first-ops w (id ∷ ids) [] (suc n) are = absurd are
first-ops w (id ∷ ids) (o ∷ ops) (suc n) are = (are.0, first-ops w ids ops n are.1)

-- an item that reads has as many sectors as it asks
reads-long : (items : List Item) (i : ℕ) (span : Span) → op_of (slice_get items i) ≡ Some (Read span) → item_sectors (slice_index_or items i no_item) ≡ span.count
reads-long items i span is = go (slice_get items i) refl is
  where
    go : (x : Option Item) → slice_get items i ≡ x → op_of x ≡ Some (Read span) → item_sectors (slice_index_or items i no_item) ≡ span.count
    go None at e = let z : None ≡ Some (Read span) = e in absurd (let u : ⊥ = cc in u)
    go (Some (item.Run o graph)) at e =
        let z : Some o ≡ Some (Read span) = e in
        let same : o ≡ Read span = cc in
        ap item_sectors (get_or_from_slice_get items i (item.Run o graph) no_item at) ∙ ap (λ x. item_sectors (item.Run x graph)) same
    go (Some (item.Fail column)) at e = let z : None ≡ Some (Read span) = e in absurd (let u : ⊥ = cc in u)

-- ## The run

module _ {D : Type 0} (g : Ghosts D) (a : Request) (taken back : List (Option D)) (s : Answer) (r : RanSo g a taken back s) where
  abbrev before : Blocks
  before = held g a taken back s

  -- the array's own client has no items and no replies that are told
  no-items : (c : ℕ) → c ≡ 16 → items_at s.clients c ≡ []
  no-items c last = let few = r.few in ap items_in (slice_get_past s.clients c (omega (arith, few, last)))

  no-replies : (c : ℕ) → c ≡ 16 → replies_at s.replies c ≡ []
  no-replies c last = let few = r.few in let rows = r.rows in ap replies_in (slice_get_past s.replies c (omega (arith, few, rows, last)))

  named : (id : OpId) → id.client ≢ 16 → op_named s id ≡ op_at r.now id
  named id other = ap (λ l. op_of (slice_get l id.index)) (r.items id.client other)

  unnamed : (id : OpId) → id.client ≡ 16 → op_named s id ≡ None
  unnamed id last = ap (λ l. op_of (slice_get l id.index)) (no-items id.client last)

  told : (id : OpId) (x : Reply) → reply_to s id ≡ Some x → ReplyOf r.now id x
  told id x h = elim (cases_eq id.client 16) [
    | inl last ↦
        let z : None ≡ Some x = ap (λ l. slice_get l id.index) (sym (no-replies id.client last)) ∙ h in
        absurd (let u : ⊥ = cc in u)
    | inr other ↦ ap (λ l. slice_get l id.index) (sym (r.replies id.client other)) ∙ h
  ]

  asks : (id : OpId) (o : Op) → op_named s id ≡ Some o → op_at r.now id ≡ Some o
  asks id o h = elim (cases_eq id.client 16) [
    | inl last ↦ let z : None ≡ Some o = sym (unnamed id last) ∙ h in absurd (let u : ⊥ = cc in u)
    | inr other ↦ sym (named id other) ∙ h
  ]

  -- an operation of the array's own is a rebuild
  is-rebuild : (id : OpId) (o : Op) → id.client ≡ 16 → op_at r.now id ≡ Some o → (stripe : ℕ) × (o ≡ Rebuild stripe)
  is-rebuild id o last h = go (slice_get (r.now.clients 16).items id.index) refl (ap (λ c. op_of (slice_get (r.now.clients c).items id.index)) (sym last) ∙ h)
    where
      go : (x : Option Item) → slice_get (r.now.clients 16).items id.index ≡ x → op_of x ≡ Some o → (stripe : ℕ) × (o ≡ Rebuild stripe)
      go None is e = let z : None ≡ Some o = e in absurd (let u : ⊥ = cc in u)
      go (Some x) is e =
          let rebuild = r.rebuilds id.index x is in
          let z : Some (Rebuild rebuild.0) ≡ Some o = ap (λ y. op_of (Some y)) (sym rebuild.1) ∙ e in
          let same : Rebuild rebuild.0 ≡ o = cc in
          (rebuild.0, sym same)

  -- what all operations of a history make of the blocks the clients' own make
  replay-named : (ids : List OpId) (ops : List Op) (blocks : Blocks) (b k : ℕ) → AreOps r.now ids ops → replay blocks ops b k ≡ replay blocks (ops_named s ids) b k
  replay-named [] [] blocks b k are = refl
  replay-named [] (o ∷ ops) blocks b k are = absurd are
  replay-named (id ∷ ids) [] blocks b k are = absurd are
  replay-named (id ∷ ids) (o ∷ ops) blocks b k are = elim (cases_eq id.client 16) [
    | inl last ↦
        let rebuild = is-rebuild id o last are.0 in
        ap (λ (x : Op). replay (apply blocks x) ops b k) rebuild.1
        ∙ (replay_same ops (apply blocks (Rebuild rebuild.0)) blocks b k (nothing rebuild.0 blocks b k)
        ∙ (replay-named ids ops blocks b k are.1
        ∙ ap (λ (x : Option Op). replay blocks (option_to_list x ++ ops_named s ids) b k) (sym (unnamed id last))))
    | inr other ↦
        replay-named ids ops (apply blocks o) b k are.1
        ∙ ap (λ (x : Option Op). replay blocks (option_to_list x ++ ops_named s ids) b k) (sym (named id other ∙ are.0))
  ]

  there : (n : ℕ) (id : OpId) → slice_get s.history n ≡ Some id → slice_get r.now.history n ≡ Some id
  there n id h = ap (λ l. slice_get l n) (sym r.history) ∙ h

  start-held : g.tells → SameBelow (blocks_in a.layout) r.start.blocks before
  start-held tells b k bl kl =
      r.opening.decoded b k bl kl
      ∙ (ap (λ (cols : List ColumnState). decode a.layout r.start.contents cols b k) r.columns
      ∙ decode-same a.layout r.start.contents (contents_of g taken) (states_of a.layout a.columns) (λ d n j jl. r.contents tells d n j jl) b k kl)

  reads : g.tells → WasFit g a taken back s → (id : OpId) (span : Span) (n j k : ℕ) → reply_to s id ≡ Some reply.Data → op_named s id ≡ Some (Read span) → slice_get s.history n ≡ Some id
      → j < span.count → span.first + j < blocks_in a.layout → k < 512
      → byte_read s id j k ≡ replay before (ops_named s (take n s.history)) (span.first + j) k
  reads tells sync id span n j k rep is at jl inside kl =
      let ops = r.legal.ops in
      let was = told id reply.Data rep in
      let first = first-ops r.now r.now.history ops n r.legal.are_ops in
      let long = reads-long (items_at s.clients id.client) id.index span is in
      sym (r.handed tells id.client id.index j k was (omega (arith, jl, long)) kl)
      ∙ (r.fits tells sync id span n j k (take n ops) was (record { op = asks id (Read span) is; place = there n id at; before = first }) jl kl
      ∙ (replay_same (take n ops) r.start.blocks before (span.first + j) k (start-held tells (span.first + j) k inside kl)
      ∙ (replay-named (take n r.now.history) (take n ops) before (span.first + j) k first
      ∙ ap (λ (l : List OpId). replay before (ops_named s (take n l)) (span.first + j) k) (sym r.history))))

  leaves : g.tells → WasFit g a taken back s → s.lost ≡ None → Agrees a.layout (contents_of g back) (states_of a.layout s.columns) (replay before (ops_named s s.history)) AnyStripe
  leaves tells sync none =
      let was = r.agrees tells sync none in
      agrees-on a.layout (contents_of g back) (states_of a.layout s.columns) (replay r.start.blocks was.0) (replay before (ops_named s s.history))
      (λ b k bl kl.
      replay_same was.0 r.start.blocks before b k (start-held tells b k bl kl)
      ∙ (replay-named r.now.history was.0 before b k was.1
      ∙ ap (λ (l : List OpId). replay before (ops_named s l) b k) (sym r.history)))
      was.2

  all-answered : (c : ℕ) → length (replies_at s.replies c) ≡ length (items_at s.clients c)
  all-answered c = elim (cases_eq c 16) [
    | inl last ↦ ap (λ (l : List Reply). length l) (no-replies c last) ∙ ap (λ (l : List Item). length l) (sym (no-items c last))
    | inr other ↦ ap (λ (l : List Reply). length l) (r.replies c other) ∙ (r.replied c ∙ ap (λ (l : List Item). length l) (sym (r.items c other)))
  ]

  pub effect : TakesEffect g a taken back s
  effect = record {
    asked = r.asked;
    answered = all-answered;
    own = λ n id at other.
        let is = op-there r.now r.now.history r.legal.ops n id r.legal.are_ops (there n id at) in
        (is.0, named id other ∙ is.1);
    once = λ m n id one other. r.legal.legal.once m n id (there m id one) (there n id other);
    ordered = λ m n x y one other client less. r.legal.legal.ordered m n x y (there m x one) (there n y other) client less;
    done = λ id x rep is.
        let at = r.legal.legal.committed id x (told id x rep) is in
        (at.0, ap (λ l. slice_get l at.0) r.history ∙ at.1);
    undone = λ id x n rep not at. r.legal.legal.none id x n (told id x rep) not (there n id at);
    read = reads;
    left = leaves;
  }
