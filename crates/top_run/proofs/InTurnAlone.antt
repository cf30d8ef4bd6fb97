-- Where nothing is rebuilt, all clients' items and replies are told.
use Rattle.std.proofs.Common.{◌≡◌, ◌∙◌, inl, inr, ap, sym, refl, subst, ℕ, List, [], ◌∷◌, length, Option, None, arith}
use Rattle.std.proofs.lemmas.Bool.{cases_eq}
use Rattle.std.proofs.lemmas.Option.{slice_get_past}
use Rattle.blk_disk.specs.declared.disk.Disk.{Ghosts}
use Rattle.eng_world.specs.declared.item.Item.{Item}
use Rattle.eng_world.specs.declared.item.Reply.{Reply}
use Rattle.raid_script.specs.Replies.{items_at, replies_at}
use Rattle.raid_script.specs.Steps.{items_in, replies_in}
use Rattle.top_serve.specs.Served.{IsRebuiltBy}
use Rattle.top_run.specs.Work.{Work, Service}
use Rattle.top_run.specs.Ran.{Ran}
use Rattle.top_run.specs.Steps.{columns_in}

no-replies : (l : List Reply) → length l ≡ 0 → l ≡ []
no-replies [] none = refl
no-replies (x ∷ l) none = absurd (omega (arith, none))

module _ {D : Type 0} (g : Ghosts D) (a : Work) (taken : List (Option D)) (s : Service) (back : List (Option D)) (r : Ran g a taken s back) (alone : a.start ≡ None) where
  no-items : (r.now.clients 16).items ≡ []
  no-items = subst (λ how. IsRebuiltBy a.layout (columns_in a) how (r.now.clients 16).items) alone r.rests.rebuilds

  pub items-all : (c : ℕ) → items_at s.clients c ≡ (r.now.clients c).items
  items-all c = elim (cases_eq c 16) [
    | inl last ↦
        let few = r.tells.few in
        ap items_in (slice_get_past s.clients c (omega (arith, few, last))) ∙ (sym no-items ∙ ap (λ k. (r.now.clients k).items) (sym last))
    | inr other ↦ r.tells.items c other
  ]

  pub replies-all : (c : ℕ) → replies_at s.replies c ≡ (r.now.clients c).replies
  replies-all c = elim (cases_eq c 16) [
    | inl last ↦
        let few = r.tells.few in
        let rows = r.tells.rows in
        let many = r.rests.replied 16 in
        let none = ap (λ (l : List Item). length l) no-items in
        ap replies_in (slice_get_past s.replies c (omega (arith, few, rows, last)))
        ∙ (sym (no-replies (r.now.clients 16).replies (omega (arith, many, none))) ∙ ap (λ k. (r.now.clients k).replies) (sym last))
    | inr other ↦ r.tells.replies c other
  ]
