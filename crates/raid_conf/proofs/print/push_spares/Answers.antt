use Rattle.std.proofs.Common.{◌≡◌, ◌≢◌, ◌∙◌, ℕ, false, arith}
use Rattle.std.specs.Prelude.{nat_eq}
use Rattle.std.proofs.lemmas.Bool.Decides.{nat_tests}
use Rattle.std.proofs.lemmas.Result.{on_ok_weaker}
use Rattle.raid_conf.proofs.PrintedLines.{spares_then}
use Rattle.raid_conf.proofs.print.push_spares.Goals as goal

-- a number that isn't 0
not_zero : (n m : ℕ) → m ≡ n → m ≢ 0 → nat_eq n 0 ≡ false
not_zero n m same some = let positive : n ≢ 0 = λ e. some (same ∙ e) in grind (arith, nat_tests)

pub returns : goal.returns
returns c = on_ok_weaker c.push_names.result (λ h. spares_then _ _ _ c.args.names.now (not_zero _ _ c.len.ensures.count c.if-len-eq0.false) c.in_ok-push_start.ensures h) c.push_names.ensures
