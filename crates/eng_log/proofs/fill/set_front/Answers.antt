use Rattle.std.proofs.Common.{◌≡◌, ◌*◌, ◌∙◌, ap, ℕ, List, replicate, drop, ◌++◌, length-take-le}
use Rattle.blk_disk.specs.Disk.{sector_at}
use Rattle.eng_log.proofs.Repeating.{sector_at-replicate}
use Rattle.eng_log.proofs.fill.set_front.Goals as goal

pub returns : goal.returns
returns c = λ j h.
    let n = 512 * c.args.count in
    let rest = drop n c.args.bytes.now in
    let long = length-take-le n c.args.bytes.now c.requires in
    let all : c.fill.new.self ≡ replicate n c.args.byte = c.fill.ensures.after (λ y e. e) ∙ ap (λ (m : ℕ). replicate m c.args.byte) long in
    ap (λ (l : List ℕ). sector_at (l ++ rest) j) all ∙ sector_at-replicate c.args.byte rest c.args.count j h
