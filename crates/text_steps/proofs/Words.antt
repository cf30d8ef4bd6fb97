-- Words are texts.
use Rattle.std.proofs.Common.{◌≡◌, ℕ, ◌<◌, true, get_or, arith, length}
use Rattle.std.specs.Prelude.{nat_lt}
use Rattle.std.specs.List.{list_all}
use Rattle.std.specs.Str.{IsUtf8}
use Rattle.std.proofs.lemmas.Bool.{and_parts}
use Rattle.std.proofs.lemmas.Bool.Decides.{nat_tests}
use Rattle.std.proofs.lemmas.List.Sums.{AllPass-from_list_all}
use Rattle.std.proofs.lemmas.Str.{IsUtf8-from_ascii}
use Rattle.std.proofs.lemmas.Str.Ascii.{IsAscii-from_all}
use Rattle.raid_text.specs.Text.{Text, is_word, is_word_byte}

byte_small : (b : ℕ) → is_word_byte b ≡ true → b < 128
byte_small b h = grind (arith, nat_tests)

-- a word is a text
pub IsUtf8-word : (word : Text) → is_word word ≡ true → IsUtf8 word
IsUtf8-word word h =
    let all = AllPass-from_list_all is_word_byte word (and_parts (nat_lt 0 (length word)) (list_all is_word_byte word) h).1 in
    IsUtf8-from_ascii word (IsAscii-from_all word (λ i d lt. byte_small (get_or word i d) (all i d lt)))
