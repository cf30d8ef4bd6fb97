-- The lines of a simulation.
use Rattle.std.specs.Prelude.{ℕ, List, [], ◌∷◌, ◌++◌, length, codes, decimal, flat_map, slice_index_or}
use Rattle.std.specs.List.{range_with_len}
use Rattle.blk_plain.specs.declared.op.Op.{Op}
use Rattle.blk_plain.specs.declared.op.Op.TheVariants.{Read}
use Rattle.put_line.specs.Line.{line}
use Rattle.raid_script.specs.Blocks.{blocks_text}
use Rattle.sim_queue.specs.Service.{request_at}
use Rattle.sim_queue.specs.declared.request.Request.{Request}
use Rattle.sim_queue.specs.declared.request.Served.{Served}

-- the lines behind it: the runs of a read's sectors
abbrev pub data_text : Op → List (List ℕ) → List ℕ
data_text (Read span) sectors = blocks_text span.first sectors
data_text _ sectors = []

-- the lines of the request of a number: `data` and the runs of its sectors for a read, else `done`
unfoldable pub number_text : List Request → List (List (List ℕ)) → ℕ → List ℕ
number_text requests replies number =
    let op = (request_at requests number).op in
    line (codes "reply " ∷ decimal number ∷ codes " "
    ∷ (elim op [ Read span ↦ codes "data" | _ ↦ codes "done" ]) ∷ codes "\n" ∷ [])
    ++ data_text op (slice_index_or replies number [])

-- the lines of the services, `served I START END`, in their order, and behind them those of the
-- requests
abbrev pub sim_text : List Request → List Served → List (List (List ℕ)) → List ℕ
sim_text requests services replies =
    flat_map (λ (s : Served). line
    (codes "served " ∷ decimal s.request ∷ codes " " ∷ decimal s.start
    ∷ codes " " ∷ decimal s.end ∷ codes "\n" ∷ [])) services
    ++ flat_map (number_text requests replies) (range_with_len 0 (length requests))
