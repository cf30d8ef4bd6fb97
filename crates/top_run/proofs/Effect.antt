-- What a run of clients comes to.
use Rattle.std.proofs.Common.{◌≡◌, ◌∙◌, ap, sym, refl, ℕ, List, [], Option, Some, None, map, option_map}
use Rattle.std.specs.Prelude.{slice_get, MatchOption}
use Rattle.std.proofs.lemmas.Option.{slice_get-map}
use Rattle.blk_plain.specs.declared.op.Op.TheVariants as op
use Rattle.blk_disk.specs.declared.disk.Disk.{Ghosts}
use Rattle.eng_world.specs.declared.item.Item.{Item}
use Rattle.eng_world.specs.declared.item.Item.TheVariants as item
use Rattle.eng_array.specs.declared.start.Start.{Start}
use Rattle.run_effect.specs.Effect.{TakesEffect}
use Rattle.run_effect.specs.Run.{RanSo}
use Rattle.run_effect.proofs.Effect.{effect}
use Rattle.top_serve.specs.Served.{IsRebuiltBy}
use Rattle.top_run.specs.Work.{Work, Service}
use Rattle.top_run.specs.Ran.{Ran}
use Rattle.top_run.specs.Steps.{columns_in}
use Rattle.top_run.specs.Effect.{request_of, answer_of}

-- an item that the array gave itself is a rebuild
listed : (stripes : List ℕ) (items : List Item) → items ≡ map (λ (s : ℕ). item.Run (op.Rebuild s) None) stripes → (n : ℕ) (x : Item) → slice_get items n ≡ Some x → (stripe : ℕ) × (x ≡ item.Run (op.Rebuild stripe) None)
listed stripes items are n x at = go (slice_get stripes n) (sym (slice_get-map (λ (s : ℕ). item.Run (op.Rebuild s) None) stripes n) ∙ (ap (λ l. slice_get l n) (sym are) ∙ at))
  where
    go : (o : Option ℕ) → option_map (λ (s : ℕ). item.Run (op.Rebuild s) None) o ≡ Some x → (stripe : ℕ) × (x ≡ item.Run (op.Rebuild stripe) None)
    go None e = let z : None ≡ Some x = e in absurd (let u : ⊥ = cc in u)
    go (Some s) e = let z : Some (item.Run (op.Rebuild s) None) ≡ Some x = e in let same : item.Run (op.Rebuild s) None ≡ x = cc in (s, sym same)

module _ {D : Type 0} (g : Ghosts D) (a : Work) (taken : List (Option D)) (s : Service) (back : List (Option D)) (r : Ran g a taken s back) where
  none-there : (items : List Item) → items ≡ [] → (n : ℕ) (x : Item) → slice_get items n ≡ Some x → (stripe : ℕ) × (x ≡ item.Run (op.Rebuild stripe) None)
  none-there items none n x at = let z : None ≡ Some x = ap (λ l. slice_get l n) (sym none) ∙ at in absurd (let u : ⊥ = cc in u)

  rebuilt : (how : Option Start) → IsRebuiltBy a.layout (columns_in a) how (r.now.clients 16).items → (n : ℕ) (x : Item) → slice_get (r.now.clients 16).items n ≡ Some x → (stripe : ℕ) × (x ≡ item.Run (op.Rebuild stripe) None)
  rebuilt None none n x at = none-there (r.now.clients 16).items none n x at
  rebuilt (Some how) are n x at = listed are.stripes (r.now.clients 16).items are.is n x at

  so : RanSo g (request_of a) taken back (answer_of s)
  so = record {
    start = r.start;
    now = r.now;
    opening = r.opens.opening;
    columns = r.opens.columns;
    contents = r.opens.contents;
    rebuilds = rebuilt a.start r.rests.rebuilds;
    replied = r.rests.replied;
    asked = r.tells.asked;
    few = r.tells.few;
    items = r.tells.items;
    rows = r.tells.rows;
    replies = r.tells.replies;
    history = r.tells.history;
    handed = r.tells.handed;
    legal = r.means.legal;
    fits = r.means.fits;
    agrees = r.means.agrees;
  }

  pub took-effect : TakesEffect g (request_of a) taken back (answer_of s)
  took-effect = effect g (request_of a) taken back (answer_of s) so
