-- Patterns, as words spell them.
use Rattle.std.specs.Prelude.{ℕ, ◌==◌, ◌||◌, List, length, take, Option, None, if◌then◌else◌}
use Rattle.std.specs.Result.{result_ok}
use Rattle.hex.specs.Hex.{decode_of}
use Rattle.blk_plain.specs.declared.op.Pattern.{Pattern}
use Rattle.raid_text.specs.Text.{Text}

-- the bytes that 2, 4, 8, 16, 32 or 64 hexadecimal digits of either case stand for
unfoldable pub pattern_of : Text → Option (List ℕ)
pattern_of w =
    let n = length w in
    if n == 2 || (n == 4 || (n == 8 || (n == 16 || (n == 32 || n == 64)))) then result_ok (decode_of w)
    else None

-- the bytes that a pattern repeats
abbrev pub pattern_bytes : Pattern → List ℕ
pattern_bytes pattern = take pattern.len pattern.bytes
