-- What a sink has of what was put into a page before it.
use Rattle.std.specs.Prelude.{Result, Ok, Err, OnOk, OnErr, is_ok}
use Rattle.std.proofs.Common.{◌≡◌, ◌∙◌, ℕ, ◌+◌, ◌-◌, ◌≤◌, List, ◌++◌, length, take, min, Bool, true, false, arith, sym, ap, subst, length-append, length-take, take-take}
use Rattle.std.proofs.Math.Seq.{take-append_seam, take-append-add}
use Rattle.raid_bay.specs.Sink.{Puts}
use Rattle.put_line.specs.Page.{IsFront}

-- what was put, where the rest is left of all
pub put_so_far : (now start rest all : List ℕ) → now ++ rest ≡ start ++ all → length rest ≤ length all → now ≡ start ++ take (length all - length rest) all
put_so_far now start rest all e h =
    let n = length all - length rest in
    let lengths : length now + length rest ≡ length start + length all = sym (length-append now rest) ∙ ap length e ∙ length-append start all in
    let long : length now ≡ length start + n = omega (arith, lengths, h) in
    sym (take-append_seam now rest) ∙ ap (λ (xs : List ℕ). take (length now) xs) e ∙ ap (λ (k : ℕ). take k (start ++ all)) long ∙ take-append-add start all n

-- the sink has a front of all that the printing put, whether or not the printing ended well
pub put_front : (b : Bool) (start text whole now : List ℕ) → Puts b start text whole → IsFront start whole now → Puts false start text now
put_front true start text whole now put front =
    let n = length now - length start in
    let long : length now ≡ length start + n = omega (arith, front.grown) in
    (n, sym front.front ∙ ap (λ (xs : List ℕ). take (length now) xs) put ∙ ap (λ (k : ℕ). take k (start ++ text)) long ∙ take-append-add start text n)
put_front false start text whole now put front =
    let n = length now - length start in
    let long : length now ≡ length start + n = omega (arith, front.grown) in
    let cut : length (take (length now) whole) ≡ length now = ap length front.front in
    let all : length whole ≡ length start + length (take put.0 text) = ap length put.1 ∙ length-append start (take put.0 text) in
    let within : n ≤ put.0 = omega (arith, front.grown, cut, all, length-take (length now) whole, length-take put.0 text) in (
      n,
      sym front.front ∙ ap (λ (xs : List ℕ). take (length now) xs) put.1 ∙ ap (λ (k : ℕ). take k (start ++ take put.0 text)) long ∙ take-append-add start (take put.0 text) n
          ∙ ap (λ (xs : List ℕ). start ++ xs) (take-take n put.0 text within),
    )

-- what a sink has where a text was put into a page before it and the page was finished
pub put_by : {A E : Type 0} (printed finished : Result A E) (start begun text whole now : List ℕ) → begun ≡ start → OnOk finished (is_ok printed ≡ true) → OnOk finished (now ≡ whole) → OnErr finished (IsFront start whole now)
    → Puts (is_ok printed) begun text whole → Puts (is_ok finished) start text now
put_by printed (Ok u) start begun text whole now first well all front put =
    all ∙ subst (λ (b : Bool). Puts b begun text whole) well put ∙ ap (λ (xs : List ℕ). xs ++ text) first
put_by printed (Err e) start begun text whole now first well all front put =
    put_front (is_ok printed) start text whole now (subst (λ (xs : List ℕ). Puts (is_ok printed) xs text whole) first put) front
