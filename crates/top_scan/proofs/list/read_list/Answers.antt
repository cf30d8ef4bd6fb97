use Rattle.std.proofs.Common.{◌≡◌, ◌∙◌, ◌++◌, ◌∷◌, [], ℕ, List, length, refl, ap, arith, length-append}
use Rattle.raid_text.specs.Seen.{left, seen}
use Rattle.top_scan.specs.Steps.{list_of}
use Rattle.top_scan.proofs.ListInTurn.{apart_more, ends, goes_on, is_done, name_is_new, none_apart}
use Rattle.top_scan.proofs.list.read_list.Goals as goal

pub loop-line-init : goal.loop-line-init
unfolding list_of
loop-line-init c = record {
  told = rw (c.new-names.ensures.items, c.new-lines.ensures.left) refl;
  few = rw c.new-names.ensures.items (omega arith);
  apart = rw c.new-names.ensures.items none_apart;
}

pub loop-line-preserved : goal.loop-line-preserved
loop-line-preserved c =
    let line = seen c.in-Some.line in
    let names = c.loop-line.names.items in
    let word : List ℕ = c.in-Ok.word.now in
    let so_far = rw c.in-Some.ensures.some at c.loop-line.invariant.told in
    let named = rw c.deref.ensures.value at c.in-Ok.ensures.name in
    let new = name_is_new names line word named in
    let pushed : c.push.new.self.items ≡ names ++ word ∷ [] = c.in_ok-push-in-Ok.ensures.items ∙ ap (λ (n : List ℕ). names ++ n ∷ []) (c.in_ok-new-in-Ok.ensures ∙ c.text_of.ensures) in
    record {
      told = rw pushed (goes_on names line (left c.next.new.self) word (list_of c.args.text.now) named so_far);
      few = omega (arith, ap length pushed, length-append names (word ∷ []), new.room);
      apart = rw pushed (apart_more names word c.loop-line.invariant.apart new.new);
    }

pub returns-in-Err-clause-names : goal.returns-in-Err-clause-names
returns-in-Err-clause-names c =
    let line = seen c.in-Some.line in
    let so_far = rw c.in-Some.ensures.some at c.loop-line.invariant.told in
    rw c.at.ensures (ends c.loop-line.names.items c.in-Err.code line (left c.next.new.self) (list_of c.args.text.now) (rw c.deref.ensures.value at c.in-Err.ensures.name) so_far)

pub returns-clause-names : goal.returns-clause-names
returns-clause-names c =
    let so_far = rw c.in_default.ensures.none.0 at c.loop-line.invariant.told in
    is_done c.loop-line.names.items (list_of c.args.text.now) so_far
