use Rattle.std.proofs.Common.{◌≡◌, ◌∙◌, ◌+◌, ◌*◌, ◌++◌, ap, sym, ℕ, List, length, take, get_or, replicate, refl, arith, rules, append_assoc}
use Rattle.std.specs.Int.{w32, to_le_bytes}
use Rattle.raid_label.specs.Steps.{magic, bytes_of_words}
use Rattle.raid_label.proofs.WordLaws.{bytes_of_words-take, written}
use Rattle.raid_label.proofs.write.write_label.Goals as goal

pub loop-i-init : goal.loop-i-init
loop-i-init c = c.put.ensures

pub loop-i-preserved : goal.loop-i-preserved
loop-i-preserved c =
    let i = c.loop-i.i in
    let words = c.words-words.result in
    let next : 8 + 4 * (i + 1) ≡ 8 + 4 * i + 4 = omega arith in
    let long : length words ≡ 13 = ap length c.words-words.ensures in
    let word = to_le_bytes w32 (get_or words i 0) in
    rw next (c.put_word.ensures ∙ (ap (λ (t : List ℕ). t ++ word) c.loop-i.invariant
    ∙ (append_assoc magic (bytes_of_words (take i words)) word
    ∙ ap (λ (t : List ℕ). magic ++ t) (sym (bytes_of_words-take words i (omega (arith, long)))))))

pub returns : goal.returns
returns c =
    let all : take 60 c.loop-i.sector ≡ magic ++ bytes_of_words (take 13 c.words-words.result) =
    let end : c.loop-i.i ≡ 13 = omega arith in rw end at c.loop-i.invariant in
    written c.args.label.now c.words-words.result c.loop-i.sector c.put_seats.new.sector c.put_word-2.new.sector c.put_word-3.new.sector c.put-2.new.sector (replicate 412 0)
    c.words-words.ensures refl (search rules) all c.put_seats.ensures c.put_word-2.ensures c.put_word-3.ensures c.put-2.ensures
