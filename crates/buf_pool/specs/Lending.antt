-- What becomes of a buffer whose bytes are lent.
use Rattle.std.specs.Prelude.{ℕ, List, ◌++◌, take, drop, length}
use Rattle.std.specs.Borrow.{Lends, MutBor, Fml, Array, u8}
use Rattle.buf_pool.specs.contracts.buffer.Buffer.{the_row}

-- the buffer ends with the bytes that were last behind r, which are as many as before
abbrev pub LendsBytes : MutBor (List ℕ) → MutBor (List ℕ) → Fml
LendsBytes s r = Lends the_row (Array u8 0) s r (λ bytes. take (length s.now) (bytes ++ drop (length bytes) s.now))
