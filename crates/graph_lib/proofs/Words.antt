-- Words that proofs go by, for what the specifications spell out.
use Rattle.std.specs.Prelude.{◌+◌, ◌++◌, length, Bool, not, if◌then◌else◌, ℕ, ◌-◌, ◌==◌, nat_lt, List, [], false, true, map}
use Rattle.std.specs.List.{range_with_len}
use Rattle.graph_mean.specs.declared.graph.Node.TheVariants.{Xor}
use Rattle.graph_mean.specs.Graph.{Vertex}
use Rattle.graph_lib.specs.Piece.{Piece, At, Use, reads_from}
use Rattle.graph_lib.specs.Library.{Range, numbered, touched, others}
use Rattle.graph_mean.specs.Task.{Aim}

abbrev pub sum_node : At → Piece → Vertex
sum_node a p = record {
  kind = Xor (a.buf + length p.news + length p.reads);
  sources = range_with_len (a.buf + length p.news) (length p.reads) ++ range_with_len a.buf (length p.news);
  antes = range_with_len a.read (length p.reads);
}

-- two answers are the same
abbrev pub same_answer : Bool → Bool → Bool
same_answer b c = if b then c else not c

-- the buffer in which unit i is returned where all of k units but m were read, and m is their sum
abbrev pub return_beside : ℕ → ℕ → ℕ → Use
return_beside k m i = record { unit = i; buf = if i == m then k - 1 else if nat_lt i m then i else i - 1 }

abbrev pub read_nodes : At → Piece → List Vertex
read_nodes a p = reads_from (a.buf + length p.news) p.reads

-- writes of the touched units alone
abbrev pub plain_write : List ℕ → ℕ → Range → Piece
plain_write news s r = record { stripe = s; from = r.from; count = r.count; news = news; reads = []; sums = false; writes = numbered 0 news; returns = [] }

-- the touched units, one of which is made from all others: it is returned in the buffer of their sum, behind those that were read
abbrev pub made_read : Aim → ℕ → ℕ → Range → Piece
made_read t m s r = record {
  stripe = s;
  from = r.from;
  count = r.count;
  news = [];
  reads = others t.width m;
  sums = true;
  writes = [];
  returns =
      map (λ (i : ℕ). record { unit = i; buf = if i == m then t.width - 1 else if nat_lt i m then i else i - 1 })
      (touched t s r.from);
}
