use Rattle.std.proofs.Common.{◌≡◌, ◌∙◌, ◌*◌, length, take, ap, arith, length-append}
use Rattle.hex.specs.Hex.{encode_lower, lower_digits}
use Rattle.hex.proofs.HexLemmas.{length-encode_with}
use Rattle.put_line.proofs.text_line.Line.push_hex.Goals as goal

pub returns-clause-long : goal.returns-clause-long
returns-clause-long c =
    let digits : length (encode_lower c.args.bytes.now) ≡ 2 * length c.args.bytes.now = length-encode_with lower_digits c.args.bytes.now in
    let front : length (take c.self.inside.len c.self.inside.bytes) ≡ length c.args.self.now = ap length c.self.view_is in
    let both = length-append (take c.self.inside.len c.self.inside.bytes) (encode_lower c.args.bytes.now) in
    ap length c.paste_hex.ensures ∙ omega (arith, both, digits, front)
