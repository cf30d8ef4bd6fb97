use Rattle.std.proofs.Common.{◌≡◌, ◌+◌, ◌*◌, ◌≤◌, ℕ, refl, suc, ap, sym, ◌∙◌, arith, length}
use Rattle.eng_clients.specs.Desk.{desk_at}
use Rattle.eng_rest.specs.Left.{below}
use Rattle.eng_array.proofs.calls.Core.replied.Goals as goal

none-below : (f : ℕ → ℕ) → 0 ≡ below f 0
unfolding below
none-below f = refl

one-more : (f : ℕ → ℕ) (n : ℕ) → below f (suc n) ≡ f n + below f n
unfolding below
one-more f n = refl

one-more-below : (f : ℕ → ℕ) (n : ℕ) → below f (n + 1) ≡ f n + below f n
one-more-below f n = let e : n + 1 ≡ suc n = omega arith in ap (below f) e ∙ one-more f n

pub loop-client-init : goal.loop-client-init
loop-client-init g c = (none-below (λ k. length (desk_at c.args.self.now.array.clients k).replies), omega arith)

pub loop-client-preserved : goal.loop-client-preserved
loop-client-preserved g c =
    let f : ℕ → ℕ = λ k. length (desk_at c.args.self.now.array.clients k).replies in
    let more = one-more-below f c.loop-client.client in
    (omega (arith, c.loop-client.invariant.0, c.from-replied.ensures, c.served.ensures, more), omega (arith, c.loop-client.invariant.1, c.from-replied.ensures, c.served.type_inv))
