-- The lines of a graph, behind their first word, as the functions that read them find them.
use Rattle.std.specs.Prelude.{ℕ, List, [], ◌∷◌, Option, Some, None, Result, Ok, Err, if◌then◌else◌, codes}
use Rattle.std.specs.Str.{bytes_eq}
use Rattle.raid_text.specs.Text.{Text}
use Rattle.graph_mean.specs.declared.graph.Buf.{Buf}
use Rattle.graph_mean.specs.declared.graph.Ret.{Ret}
use Rattle.graph_mean.specs.declared.graph.Node.{Node}
use Rattle.graph_mean.specs.declared.graph.Node.TheVariants.{Rd, Wr, Xor, Cmt, Trm}
use Rattle.graph_mean.specs.Graph.{Vertex}
use Rattle.graph_text.specs.FormatSteps.{next_pair}
use Rattle.text_steps.specs.Steps.{◌>>=◌, number_in, next_word, next_number, at_end, after_word, after_number, numbers_of}

-- ---- buffer I stripe S from O count L, and `new U` behind it where it is filled with new data

-- nothing, or `new U`
unfoldable pub new_of : List Text → Result (Option ℕ) ℕ
new_of [] = Ok None
new_of (word ∷ words) = do
  number ← after_word (codes "new") 1 (word ∷ words)
  unit ← next_number number
  end ← at_end unit.1
  Ok (Some unit.0)

-- the n-th buffer
unfoldable pub buffer_of : ℕ → List Text → Result Buf ℕ
buffer_of n words = do
  stripe_word ← after_number n 3 words
  stripe_number ← after_word (codes "stripe") 1 stripe_word
  stripe ← next_number stripe_number
  from_number ← after_word (codes "from") 1 stripe.1
  from ← next_number from_number
  count_number ← after_word (codes "count") 1 from.1
  count ← next_number count_number
  unit ← new_of count.1
  Ok (record { stripe = stripe.0; from = from.0; count = count.0; new_of = unit })

-- ---- node I KIND .., and `after A ..` behind it where it has antecedents

-- the words behind `after`, or none at the line's end; code 1 where another word comes
unfoldable pub after_of : List Text → Result (Option (List Text)) ℕ
after_of [] = Ok None
after_of (word ∷ words) = if bytes_eq word (codes "after") then Ok (Some words) else Err 1

-- the antecedents behind `after`, of which there is one at least
unfoldable pub antes_of : Option (List Text) → Result (List ℕ) ℕ
antes_of None = Ok []
antes_of (Some words) = do
  first ← next_number words
  more ← numbers_of first.1
  Ok (first.0 ∷ more)

-- the sources up to `after` or to the line's end, and the words behind `after`; code 2 where a word is neither a number nor `after`
unfoldable pub sources_of : List Text → Result (List ℕ × Option (List Text)) ℕ
sources_of [] = Ok ([], None)
sources_of (word ∷ words) =
    if bytes_eq word (codes "after") then Ok ([], Some words)
    else (number_in word >>= λ n. sources_of words >>= λ more. Ok (n ∷ more.0, more.1))

-- a node without sources, and its antecedents
unfoldable pub plain_of : Node → List Text → Result Vertex ℕ
plain_of kind words = do
  behind ← after_of words
  antes ← antes_of behind
  Ok (record { kind = kind; sources = []; antes = antes })

-- what stands behind the node's kind
unfoldable pub kind_of : Text → List Text → Result Vertex ℕ
kind_of kind words =
    if bytes_eq kind (codes "read") then (do
      pair ← next_pair words
      plain_of (Rd pair.0 pair.1) pair.2)
    else (if bytes_eq kind (codes "write") then (do
      pair ← next_pair words
      plain_of (Wr pair.0 pair.1) pair.2)
    else (if bytes_eq kind (codes "xor") then (do
      target ← next_number words
      sources ← sources_of target.1
      antes ← antes_of sources.1
      Ok (record { kind = Xor target.0; sources = sources.0; antes = antes }))
    else (if bytes_eq kind (codes "commit") then plain_of Cmt words
    else (if bytes_eq kind (codes "terminate") then plain_of Trm words
    else Err 1))))

-- the n-th node
unfoldable pub node_of : ℕ → List Text → Result Vertex ℕ
node_of n words = do
  kind_word ← after_number n 3 words
  kind ← next_word kind_word
  kind_of kind.0 kind.1

-- ---- return UNIT BUFFER

unfoldable pub return_of : List Text → Result Ret ℕ
return_of words = do
  pair ← next_pair words
  end ← at_end pair.2
  Ok (record { unit = pair.0; buf = pair.1 })
