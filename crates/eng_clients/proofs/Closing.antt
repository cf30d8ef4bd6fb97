-- The clients and columns of a closed core.
use Rattle.std.proofs.Common.{◌≡◌, ℕ, zero, suc, ◌<◌, ◌+◌, List, [], ◌∷◌, ◌++◌, length, length-append, sym, ap, ◌∙◌, arith, inl, inr, refl, Option, Some}
use Rattle.std.specs.Prelude.{Vec, slice_get}
use Rattle.std.specs.declared.alloc.Global.{Global}
use Rattle.std.proofs.lemmas.Bool.{cases_eq}
use Rattle.std.proofs.lemmas.List.{get_or_push, get_or_append_left}
use Rattle.eng_cols.specs.declared.spot.Loss.{Loss}
use Rattle.eng_world.specs.declared.item.Reply.{Reply}
use Rattle.item_list.specs.ItemList.{ItemList}
use Rattle.eng_clients.specs.Desk.{Desk, no_desk}
use Rattle.eng_log.specs.Given.{items_in}
use Rattle.eng_clients.specs.Replied.{replies_of, replies_in, AreClosed}

slice-left : {X : Type 0} (xs ys : List X) (k : ℕ) → k < length xs → slice_get (xs ++ ys) k ≡ slice_get xs k
slice-left [] ys k lt = absurd (omega (arith, lt))
slice-left (x ∷ xs) ys zero lt = refl
slice-left (x ∷ xs) ys (suc k) lt = slice-left xs ys k (omega (arith, lt))

slice-here : {X : Type 0} (xs : List X) (y : X) → slice_get (xs ++ y ∷ []) (length xs) ≡ Some y
slice-here [] y = refl
slice-here (x ∷ xs) y = slice-here xs y

-- one client more
pub closed-more : (lost : Option Loss) (desks : List Desk) (d : Desk) (items : List ItemList) (replies : List (Vec Reply Global)) (a : ItemList) (b : Vec Reply Global) → AreClosed lost desks (length desks) items replies → a.items ≡ d.items → b.items ≡ replies_of lost d → AreClosed lost (desks ++ d ∷ []) (length (desks ++ d ∷ [])) (items ++ a ∷ []) (replies ++ b ∷ [])
closed-more lost desks d items replies a b h i r = record {
  items_count = omega (arith, ni, more, ia);
  replies_count = omega (arith, nr, more, ra);
  items_each = λ c lt. elim (cases_eq c (length desks)) [
    | inl e ↦ ap (λ (k : ℕ). items_in (slice_get (items ++ a ∷ []) k)) (e ∙ sym ni) ∙ (ap items_in (slice-here items a) ∙ (i ∙ sym (ap (λ (x : Desk). x.items) (get_or_push desks d no_desk c (sym e)))))
    | inr ne ↦
        let low : c < length desks = omega (arith, lt, more, ne) in
        ap items_in (slice-left items (a ∷ []) c (omega (arith, low, ni))) ∙ (h.items_each c low ∙ sym (ap (λ (x : Desk). x.items) (get_or_append_left desks (d ∷ []) no_desk c low)))
  ];
  replies_each = λ c lt. elim (cases_eq c (length desks)) [
    | inl e ↦ ap (λ (k : ℕ). replies_in (slice_get (replies ++ b ∷ []) k)) (e ∙ sym nr) ∙ (ap replies_in (slice-here replies b) ∙ (r ∙ sym (ap (replies_of lost) (get_or_push desks d no_desk c (sym e)))))
    | inr ne ↦
        let low : c < length desks = omega (arith, lt, more, ne) in
        ap replies_in (slice-left replies (b ∷ []) c (omega (arith, low, nr))) ∙ (h.replies_each c low ∙ sym (ap (replies_of lost) (get_or_append_left desks (d ∷ []) no_desk c low)))
  ];
}
  where
    ni : length items ≡ length desks
    ni = h.items_count

    nr : length replies ≡ length desks
    nr = h.replies_count

    more : length (desks ++ d ∷ []) ≡ length desks + 1
    more = length-append desks (d ∷ [])

    ia : length (items ++ a ∷ []) ≡ length items + 1
    ia = length-append items (a ∷ [])

    ra : length (replies ++ b ∷ []) ≡ length replies + 1
    ra = length-append replies (b ∷ [])
