-- Whatever the history, it is as if the clients had come one after another.
use Rattle.std.proofs.Common.{◌≡◌, ◌∙◌, sym, ℕ, ◌+◌, ◌<◌, ◌≤◌, List, [], take, length, arith, Some}
use Rattle.std.specs.Prelude.{slice_get}
use Rattle.std.proofs.lemmas.Option.{slice_get_within}
use Rattle.blk_plain.specs.declared.op.Op.{Op}
use Rattle.blk_plain.specs.declared.op.Op.TheVariants.{Read}
use Rattle.blk_plain.specs.declared.op.OpId.{OpId}
use Rattle.blk_plain.specs.declared.op.Span.{Span}
use Rattle.lay_core.specs.Layout.{Blocks}
use Rattle.eng_world.specs.declared.item.Reply.TheVariants.{Data}
use Rattle.eng_world.specs.Plain.{replay}
use Rattle.eng_world.specs.World.{World}
use Rattle.eng_world.specs.Legal.{AreOps, IsLegal, IsReadAt, RepliesFit, ReplyOf}
use Rattle.top_sweep.specs.Apart.{IsApart, in_turn}
use Rattle.top_sweep.proofs.Histories.{block_is_its_clients, read_sees_its_client, in_span}
use Rattle.top_sweep.proofs.OneAfterAnother.{in_turn_leaves, in_turn_reads}

pub leaves_in_turn : (w : World) (start : Blocks) (own : ℕ → List Op) (owner : ℕ → ℕ) (ops : List Op) (n : ℕ) → IsApart w own owner → IsLegal w → AreOps w w.history ops
    → ((c : ℕ) → n ≤ c → own c ≡ []) → (b k : ℕ) → replay start ops b k ≡ replay start (in_turn own n) b k
leaves_in_turn w start own owner ops n apart legal are none b k =
    block_is_its_clients w start own owner ops apart legal are b k ∙ sym (in_turn_leaves own owner apart.apart n start b k none)

pub reads_in_turn : (w : World) (start : Blocks) (own : ℕ → List Op) (owner : ℕ → ℕ) (n : ℕ) → IsApart w own owner → IsLegal w → RepliesFit start w
    → (id : OpId) (span : Span) (at : ℕ) (ops : List Op) → ReplyOf w id Data → IsReadAt w id span at ops → id.client < n → (j k : ℕ) → j < span.count → k < 512
    → (w.clients id.client).handed id.index j k ≡ replay start (take (length (in_turn own id.client) + id.index) (in_turn own n)) (span.first + j) k
reads_in_turn w start own owner n apart legal fit id span at ops replied is_read few j k jl kl =
    let there : slice_get (own id.client) id.index ≡ Some (Read span) = sym (apart.lists id.client id.index) ∙ is_read.op in
    let within : id.index < length (own id.client) = slice_get_within (own id.client) id.index (Read span) there in
    read_sees_its_client w start own owner apart legal fit id span at ops replied is_read j k jl kl
    ∙ sym (in_turn_reads own owner apart.apart n id.client id.index start (span.first + j) k few (omega (arith, within)) (apart.apart id.client id.index (Read span) (span.first + j) there (in_span span j jl)))
