-- What a graph does, counted.
use Rattle.std.specs.Prelude.{ℕ, length}
use Rattle.graph_mean.specs.Fewest.{sum_below}
use Rattle.graph_mean.specs.Graph.{View, buf_at, kind_at}
use Rattle.graph_mean.specs.declared.graph.Node.{Node}
use Rattle.graph_mean.specs.declared.graph.Node.TheVariants.{Rd, Wr, Xor, Cmt, Trm}

-- the sectors that a node writes; those that it reads are `read_count` of graph_mean
abbrev pub write_count : View → Node → ℕ
write_count g (Rd unit buf) = 0
write_count g (Wr unit buf) = (buf_at g buf).count
write_count g (Xor to) = 0
write_count g Cmt = 0
write_count g Trm = 0

-- the sectors of its sum
abbrev pub sum_count : View → Node → ℕ
sum_count g (Rd unit buf) = 0
sum_count g (Wr unit buf) = 0
sum_count g (Xor to) = (buf_at g to).count
sum_count g Cmt = 0
sum_count g Trm = 0

abbrev pub write_sectors : View → ℕ
write_sectors g = sum_below (λ n. write_count g (kind_at g n)) (length g.nodes)

abbrev pub sum_sectors : View → ℕ
sum_sectors g = sum_below (λ n. sum_count g (kind_at g n)) (length g.nodes)
