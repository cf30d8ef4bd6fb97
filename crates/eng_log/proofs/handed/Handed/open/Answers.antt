use Rattle.std.proofs.Common.{ℕ, ◌*◌, replicate, ap, ◌∙◌, ◌++◌, ◌∷◌, [], List}
use Rattle.eng_log.specs.declared.region.Region.{Region}
use Rattle.eng_log.proofs.Laying.{all-laid, are-regions}
use Rattle.eng_log.proofs.handed.Handed.open.Goals as goal

pub invariant_of-result : goal.invariant_of-result
invariant_of-result c = are-regions c.args.clients.now c.args.own _ (all-laid c.args.clients.now c.args.own c.in_ok-laid.laid.0.items (record { bytes = c.in_ok-bytes.bytes; regions = c.push_reserved.new.self.items }) c.requires.few c.in_ok-laid.ensures.rows
    (c.push_reserved.ensures.items ∙ ap (λ (r : List Region). c.in_ok-laid.laid.0.items ++ r ∷ []) c.in_ok-empty.ensures)
    (c.in_ok-bytes.ensures.zeros ∙ ap (λ (n : ℕ). replicate (512 * n) 0) c.in_ok-laid.ensures.count))

pub returns : goal.returns
returns c = all-laid c.args.clients.now c.args.own c.in_ok-laid.laid.0.items (record { bytes = c.in_ok-bytes.bytes; regions = c.push_reserved.new.self.items }) c.requires.few c.in_ok-laid.ensures.rows
    (c.push_reserved.ensures.items ∙ ap (λ (r : List Region). c.in_ok-laid.laid.0.items ++ r ∷ []) c.in_ok-empty.ensures)
    (c.in_ok-bytes.ensures.zeros ∙ ap (λ (n : ℕ). replicate (512 * n) 0) c.in_ok-laid.ensures.count)
