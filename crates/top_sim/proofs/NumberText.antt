-- The lines of the request of a number.
use Rattle.std.proofs.Common.{◌≡◌, ◌∙◌, ℕ, List, [], Some, get_or, slice_get, sym, ap}
use Rattle.std.proofs.lemmas.Option.{get_or_from_slice_get}
use Rattle.blk_plain.specs.declared.op.Op.{Op}
use Rattle.sim_queue.specs.declared.request.Request.{Request}
use Rattle.sim_queue.specs.Service.{request_at}
use Rattle.top_sim.specs.Lines.{number_text}
use Rattle.top_sim.specs.Steps.{reply_text}

pub number_is : (requests : List Request) (replies : List (List (List ℕ))) (number : ℕ) (op : Op)
    (sectors : List (List ℕ))
    → op ≡ (request_at requests number).op → slice_get replies number ≡ Some sectors
    → number_text requests replies number ≡ reply_text number op sectors
unfolding number_text
number_is requests replies number op sectors of at =
    ap (λ (x : Op). reply_text number x (get_or replies number [])) (sym of)
    ∙ ap (λ (s : List (List ℕ)). reply_text number op s)
    (get_or_from_slice_get replies number sectors [] at)
