-- A run of clients that are apart, over the blocks that the devices held.
use Rattle.std.proofs.Common.{◌≡◌, ◌∙◌, ap, sym, refl, subst, ℕ, ◌+◌, ◌<◌, ◌≤◌, List, length, min, take, Option, Some, None, arith}
use Rattle.std.specs.Prelude.{slice_get}
use Rattle.blk_plain.specs.declared.op.Op.{Op}
use Rattle.blk_plain.specs.declared.op.Op.TheVariants.{Write, Writes, Read, Rebuild, Sync}
use Rattle.blk_plain.specs.Plain.{IsInRange}
use Rattle.blk_disk.specs.declared.disk.Disk.{Ghosts}
use Rattle.blk_disk.specs.Devices.{contents_of}
use Rattle.lay_core.specs.Layout.{Blocks, blocks_in}
use Rattle.eng_cols.specs.Cols.{ColumnState}
use Rattle.eng_cols.specs.Contents.{decode}
use Rattle.eng_world.specs.declared.item.Item.TheVariants as item
use Rattle.eng_cols.specs.Stripes.{states_of}
use Rattle.raid_script.specs.Drawn.{AreApart, IsOwn, drawn}
use Rattle.raid_script.specs.Steps.{share}
use Rattle.raid_script.proofs.DrawnShares.{drawn_apart}
use Rattle.raid_script.specs.Asked.{Asked}
use Rattle.raid_script.specs.Replies.{items_at}
use Rattle.raid_script.specs.Summary.{all_sum}
use Rattle.top_sweep.proofs.OneAfterAnother.{replay_same}
use Rattle.top_run.specs.Work.{Work, Service}
use Rattle.top_run.specs.Ran.{RanPlain, Ran}
use Rattle.top_run.specs.Steps.{states_in}
use Rattle.top_run.specs.InTurn.{SweptInTurn, asks, place_of, turn_text}
use Rattle.top_run.proofs.InTurnApart as apart
use Rattle.top_run.proofs.InTurnMeans as means
use Rattle.top_run.proofs.InTurnSummary as sums
use Rattle.top_run.proofs.InTurnOps.{all-in-turn, item-of, turn_of}
use Rattle.top_run.proofs.InTurnReplies.{own-one}
use Rattle.top_run.proofs.InTurnSame.{SameBelow, AreWithin, agrees-on, decode-same, replies-on, within-each, within-turn}

own-within : (wide blocks client n : ℕ) → blocks ≤ n → (o : Op) → IsOwn wide blocks client (asks o) → IsInRange n o
own-within wide blocks client n le (Write span pattern) own = let e = own.0.ends in let w = own.0.within in omega (arith, e, w, le)
own-within wide blocks client n le (Writes patches) own = absurd (own-one wide blocks client patches own)
own-within wide blocks client n le (Read span) own = let e = own.0.ends in let w = own.0.within in omega (arith, e, w, le)
own-within wide blocks client n le (Rebuild stripe) own = absurd own
own-within wide blocks client n le (Sync stripe) own = absurd own

module _ {D : Type 0} (g : Ghosts D) (a : Work) (taken back : List (Option D)) (s : Service) (r : Ran g a taken s back) (alone : a.start ≡ None) (count ops wide blocks : ℕ) (given : AreApart count ops wide blocks a.clients) (within : blocks ≤ blocks_in a.layout) (none : s.ending.lost ≡ None) where
  -- the blocks that the devices held
  abbrev held : Blocks
  held = decode a.layout (contents_of g taken) (states_in a)

  start-held : g.tells → SameBelow (blocks_in a.layout) r.start.blocks held
  start-held tells b k bl kl =
      r.opens.opening.decoded b k bl kl
      ∙ (ap (λ (cols : List ColumnState). decode a.layout r.start.contents cols b k) r.opens.columns
      ∙ decode-same a.layout r.start.contents (contents_of g taken) (states_in a) (λ d n j jl. r.opens.contents tells d n j jl) b k kl)

  in-range : (c i : ℕ) (o : Op) → slice_get (apart.own g a taken s back r alone count ops wide blocks given within none c) i ≡ Some o → IsInRange (blocks_in a.layout) o
  in-range c i o there =
      let asked = item-of (items_at s.clients c) (apart.runs g a taken s back r alone count ops wide blocks given within none c) i o there in
      own-within wide blocks c (blocks_in a.layout) within o (apart.own-item g a taken s back r alone count ops wide blocks given within none c i (item.Run o None) asked)

  all-in-range : AreWithin (blocks_in a.layout) (turn_of s.clients)
  all-in-range =
      let own = apart.own g a taken s back r alone count ops wide blocks given within none in
      subst (λ (l : List Op). AreWithin (blocks_in a.layout) l) (all-in-turn s.clients)
      (within-turn (blocks_in a.layout) own (length s.clients) (λ c. within-each (blocks_in a.layout) (own c) (in-range c)))

  abbrev turn : List Op
  turn = turn_of s.clients

  pub runs-over-held : SweptInTurn g a taken s back held
  runs-over-held = record {
    turn = turn;
    asked = means.asked g a taken s back r alone count ops wide blocks given within none;
    replied = means.replied g a taken s back r alone count ops wide blocks given within none;
    left = λ tells sync.
        agrees-on a.layout (contents_of g back) (states_of a.layout s.ending.columns) r.start.blocks held turn (start-held tells)
        (means.left g a taken s back r alone count ops wide blocks given within none tells sync);
    read = λ tells sync c i span has j k jl kl.
        let there = means.own-at g a taken s back r alone count ops wide blocks given within none c i (Read span) has in
        let few : span.first + span.count ≤ blocks_in a.layout = in-range c i (Read span) there in
        means.read g a taken s back r alone count ops wide blocks given within none tells sync c i span has j k jl kl
        ∙ replay_same (take (place_of a.clients c i) turn) r.start.blocks held (span.first + j) k (start-held tells (span.first + j) k (omega (arith, few, jl)) kl);
    counts = (all_sum s.clients s.replies s.sectors, sums.counts g a taken s back r alone count ops wide blocks given within none (all_sum s.clients s.replies s.sectors) refl);
    summary = λ tells sync.
        sums.summary g a taken s back r alone count ops wide blocks given within none tells sync
        ∙ ap (λ (sum : ℕ). turn_text (length a.clients) turn sum) (replies-on (blocks_in a.layout) turn r.start.blocks held (start-held tells) all-in-range);
  }

-- so too where they are drawn
pub runs-by-seed : {D : Type 0} (g : Ghosts D) (a : Work) (taken back : List (Option D)) (s : Service) (r : Ran g a taken s back) (alone : a.start ≡ None) (seed clients ops : ℕ)
    → 0 < clients → 0 < blocks_in a.layout → a.clients ≡ drawn seed clients ops (blocks_in a.layout) → s.ending.lost ≡ None
    → SweptInTurn g a taken s back (decode a.layout (contents_of g taken) (states_in a))
runs-by-seed g a taken back s r alone seed clients ops some any are none =
    let n = blocks_in a.layout in
    let given = drawn_apart seed clients ops n some any in
    runs-over-held g a taken back s r alone (min clients n) ops (share clients n) n
    (subst (λ (rows : List (List Asked)). AreApart (min clients n) ops (share clients n) n rows) (sym are) given) (let z : n ≤ n = omega arith in z) none

-- ## Of an array without labels

pub swept-over-held : {D : Type 0} (g : Ghosts D) (a : Work) (taken back : List (Option D)) (s : Service) (r : RanPlain g a taken s back) (count ops wide blocks : ℕ)
    → AreApart count ops wide blocks a.clients → blocks ≤ blocks_in a.layout → s.ending.lost ≡ None → SweptInTurn g a taken s back (decode a.layout (contents_of g taken) (states_in a))
swept-over-held g a taken back s r = runs-over-held g a taken back s r.run r.none.0

pub swept-by-seed : {D : Type 0} (g : Ghosts D) (a : Work) (taken back : List (Option D)) (s : Service) (r : RanPlain g a taken s back) (seed clients ops : ℕ)
    → 0 < clients → 0 < blocks_in a.layout → a.clients ≡ drawn seed clients ops (blocks_in a.layout) → s.ending.lost ≡ None
    → SweptInTurn g a taken s back (decode a.layout (contents_of g taken) (states_in a))
swept-by-seed g a taken back s r = runs-by-seed g a taken back s r.run r.none.0
