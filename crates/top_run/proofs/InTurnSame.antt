-- What operations make of two lists of blocks that are the same on all blocks of the array.
use Rattle.std.proofs.Common.{◌≡◌, ◌∙◌, refl, ℕ, zero, suc, ◌+◌, ◌*◌, ◌<◌, List, [], ◌∷◌, ◌++◌, Bool, true, false, Option, Some, None, arith}
use Rattle.std.specs.Prelude.{slice_get, if◌then◌else◌, ◌==◌}
use Rattle.std.proofs.lemmas.Nat.{mul-add-lt}
use Rattle.blk_plain.specs.declared.op.Op.{Op}
use Rattle.blk_plain.specs.declared.op.Op.TheVariants.{Write, Writes, Read, Rebuild, Sync}
use Rattle.blk_plain.specs.Plain.{IsInRange}
use Rattle.lay_core.specs.Layout.{Shape, Blocks, blocks_in, block_of, data_units, stripe_of, unit_of, offset_of}
use Rattle.eng_cols.specs.declared.spot.Spot.{Spot}
use Rattle.eng_cols.specs.Cols.{ColumnState}
use Rattle.eng_cols.specs.Seats.{is_available, spot}
use Rattle.eng_cols.specs.Contents.{Agrees, AnyStripe, Contents, byte_of, decode, sector_at, xor_others}
use Rattle.eng_world.specs.Plain.{apply, replay}
use Rattle.eng_world.proofs.Shared.{code-same, xor_below-same}
use Rattle.top_sweep.specs.Apart.{in_turn}
use Rattle.top_sweep.proofs.Turns.{apply_same}
use Rattle.top_sweep.proofs.OneAfterAnother.{replay_same}
use Rattle.top_run.specs.InTurn.{reply_sum, replies_sum}
use Rattle.top_run.proofs.InTurnSums.{blocks-sum-same}
use Rattle.eng_cols.proofs.Words.{byte_if}

-- ## What contents mean

module _ (y : Shape) (one other : Contents) (cols : List ColumnState) (same : (d n k : ℕ) → k < 512 → one d n k ≡ other d n k) where
  byte-same : (at : Option Spot) (o k : ℕ) → k < 512 → byte_if y one at o k ≡ byte_if y other at o k
  byte-same None o k kl = refl
  byte-same (Some at) o k kl = same at.device (sector_at y at o) k kl

  -- contents that are the same mean the same blocks
  pub decode-same : (b k : ℕ) → k < 512 → decode y one cols b k ≡ decode y other cols b k
  decode-same b k kl = go (is_available y cols (stripe_of y b) (unit_of y b))
    where
      byte : (i : ℕ) → byte_of y one cols (stripe_of y b) i (offset_of y b) k ≡ byte_of y other cols (stripe_of y b) i (offset_of y b) k
      byte i = byte-same (spot y cols (stripe_of y b) i) (offset_of y b) k kl

      but : (j i : ℕ) (here : Bool) → (if here then 0 else byte_of y one cols (stripe_of y b) j (offset_of y b) k) ≡ (if here then 0 else byte_of y other cols (stripe_of y b) j (offset_of y b) k)
      but j i true = refl
      but j i false = byte j

      go : (there : Bool)
          → (if there then byte_of y one cols (stripe_of y b) (unit_of y b) (offset_of y b) k else xor_others (λ j. byte_of y one cols (stripe_of y b) j (offset_of y b) k) (unit_of y b) y.width)
          ≡ (if there then byte_of y other cols (stripe_of y b) (unit_of y b) (offset_of y b) k else xor_others (λ j. byte_of y other cols (stripe_of y b) j (offset_of y b) k) (unit_of y b) y.width)
      go true = byte (unit_of y b)
      go false = xor_below-same _ _ y.width (λ j lt. but j (unit_of y b) (j == unit_of y b))

-- ## What operations make of blocks

in-array : (y : Shape) (s i o : ℕ) → s < y.stripes → i < data_units y → o < y.unit_sectors → block_of y s i o < blocks_in y
in-array y s i o hs hi ho =
    let unit : s * data_units y + i < y.stripes * data_units y = omega (arith, mul-add-lt s (data_units y) i y.stripes hs hi) in
    omega (arith, mul-add-lt (s * data_units y + i) y.unit_sectors o (y.stripes * data_units y) unit ho)

-- so many first blocks are the same
abbrev pub SameBelow : ℕ → Blocks → Blocks → Type 0
SameBelow n one other = (b k : ℕ) → b < n → k < 512 → one b k ≡ other b k

pub agrees-on : (y : Shape) (contents : Contents) (cols : List ColumnState) (one other : Blocks) (ops : List Op) → SameBelow (blocks_in y) one other → Agrees y contents cols (replay one ops) AnyStripe → Agrees y contents cols (replay other ops) AnyStripe
agrees-on y contents cols one other ops same agrees s i si st ii at o k here is ou ku =
    agrees s i si st ii at o k here is ou ku
    ∙ code-same y (replay one ops) (replay other ops) s i o k (λ j jl. block j jl) (λ il. block i il)
  where
    block : (j : ℕ) → j < data_units y → replay one ops (block_of y s j o) k ≡ replay other ops (block_of y s j o) k
    block j jl = replay_same ops one other (block_of y s j o) k (same (block_of y s j o) k (in-array y s j o si jl ou) ku)

-- each operation is within so many blocks
abbrev pub AreWithin : ℕ → List Op → Type 0
AreWithin n [] = Unit {0}
AreWithin n (o ∷ ops) = IsInRange n o × AreWithin n ops

pub within-each : (n : ℕ) (ops : List Op) → ((i : ℕ) (o : Op) → slice_get ops i ≡ Some o → IsInRange n o) → AreWithin n ops
within-each n [] each = tt
within-each n (o ∷ ops) each = (each zero o refl, within-each n ops (λ i x h. each (suc i) x h))

within-both : (n : ℕ) (xs ys : List Op) → AreWithin n xs → AreWithin n ys → AreWithin n (xs ++ ys)
within-both n [] ys one two = two
within-both n (o ∷ xs) ys one two = (one.0, within-both n xs ys one.1 two)

pub within-turn : (n : ℕ) (own : ℕ → List Op) (many : ℕ) → ((c : ℕ) → AreWithin n (own c)) → AreWithin n (in_turn own many)
within-turn n own zero each = tt
within-turn n own (suc many) each = within-both n (in_turn own many) (own many) (within-turn n own many each) (each many)

one-reply : (n : ℕ) (one other : Blocks) → SameBelow n one other → (o : Op) → IsInRange n o → reply_sum one o ≡ reply_sum other o
one-reply n one other same (Write span pattern) within = refl
one-reply n one other same (Writes patches) within = refl
one-reply n one other same (Read span) within = blocks-sum-same one other span (λ j k jl kl. same (span.first + j) k (omega (arith, jl, within)) kl)
one-reply n one other same (Rebuild stripe) within = refl
one-reply n one other same (Sync stripe) within = refl

-- operations within the blocks that are the same are replied the same bytes
pub replies-on : (n : ℕ) (ops : List Op) (one other : Blocks) → SameBelow n one other → AreWithin n ops → replies_sum one ops ≡ replies_sum other ops
replies-on n [] one other same within = refl
replies-on n (o ∷ ops) one other same within =
    let here = one-reply n one other same o within.0 in
    let rest = replies-on n ops (apply one o) (apply other o) (λ b k bl kl. apply_same o one other b k (same b k bl kl)) within.1 in
    omega (arith, here, rest)
