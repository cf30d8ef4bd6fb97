-- What clients were handed, as replies are added.
use Rattle.std.proofs.Common.{◌≡◌, ℕ, zero, suc, List, [], ◌∷◌, ◌++◌, subst, sym, ap, ◌∙◌, inl, inr, true, false, Option, Some, None}
use Rattle.std.specs.Prelude.{slice_get, replicate, length, ◌-◌}
use Rattle.std.proofs.lemmas.Bool.{cases_eq}
use Rattle.eng_cols.specs.declared.spot.Loss.{Loss}
use Rattle.eng_world.specs.declared.item.Item.{Item}
use Rattle.eng_world.specs.declared.item.Reply.{Reply}
use Rattle.eng_world.specs.declared.item.Reply.TheVariants as reply
use Rattle.eng_world.specs.World.{Client}
use Rattle.eng_log.specs.Handed.{Handout, Hands, is_data}
use Rattle.eng_state.proofs.Put.{put, put-same, put-other}
use Rattle.eng_clients.specs.Replied.{told_of}

data-in : (l m : List Reply) → ((i : ℕ) → slice_get m i ≡ Some reply.Data → ⊥) → (i : ℕ) → slice_get (l ++ m) i ≡ Some reply.Data → slice_get l i ≡ Some reply.Data
data-in [] m none i h = absurd (none i h)
data-in (r ∷ l) m none zero h = h
data-in (r ∷ l) m none (suc i) h = data-in l m none i h

none-one : (r : Reply) → is_data r ≡ false → (i : ℕ) → slice_get (r ∷ []) i ≡ Some reply.Data → ⊥
none-one r other zero h = let e : r ≡ reply.Data = cc in let z : true ≡ false = sym (ap is_data e) ∙ other in let u : ⊥ = cc in u
none-one r other (suc i) h = let z : None ≡ Some reply.Data = h in let u : ⊥ = cc in u

none-lost : (n i : ℕ) → slice_get (replicate n reply.Lost) i ≡ Some reply.Data → ⊥
none-lost zero i h = let z : None ≡ Some reply.Data = h in let u : ⊥ = cc in u
none-lost (suc n) zero h = let z : Some reply.Lost ≡ Some reply.Data = h in let u : ⊥ = cc in u
none-lost (suc n) (suc i) h = none-lost n i h

data-told : (lost : Option Loss) (items : List Item) (replies : List Reply) (i : ℕ) → slice_get (told_of lost items replies) i ≡ Some reply.Data → slice_get replies i ≡ Some reply.Data
data-told None items replies i h = h
data-told (Some loss) items replies i h = data-in replies (replicate (length items - length replies) reply.Lost) (none-lost (length items - length replies)) i h

-- what it had, it has with more
data-more : (l m : List Reply) (i : ℕ) → slice_get l i ≡ Some reply.Data → slice_get (l ++ m) i ≡ Some reply.Data
data-more [] m i h = let z : None ≡ Some reply.Data = h in absurd (let u : ⊥ = cc in u)
data-more (r ∷ l) m zero h = h
data-more (r ∷ l) m (suc i) h = data-more l m i h

told-data : (lost : Option Loss) (items : List Item) (replies : List Reply) (i : ℕ) → slice_get replies i ≡ Some reply.Data → slice_get (told_of lost items replies) i ≡ Some reply.Data
told-data None items replies i h = h
told-data (Some loss) items replies i h = data-more replies (replicate (length items - length replies) reply.Lost) i h

-- one client is another, with the same data replies
hands-put : (tells : Type 0) (h : Handout) (clients : ℕ → Client) (c : ℕ) (v : Client) → ((i : ℕ) → slice_get v.replies i ≡ Some reply.Data → slice_get (clients c).replies i ≡ Some reply.Data)
    → ((i : ℕ) → slice_get (clients c).replies i ≡ Some reply.Data → slice_get v.replies i ≡ Some reply.Data) → v.handed ≡ (clients c).handed
    → Hands tells h clients → Hands tells h (put clients c v)
hands-put tells h clients c v within stays same old = record {
  read = λ told k i b j got lt lj. elim (cases_eq k c) [
    | inl is ↦
        let here : put clients c v k ≡ v = ap (put clients c v) is ∙ put-same clients c v in
        ap (λ (q : Client). q.handed i b j) here ∙ (ap (λ (f : ℕ → ℕ → ℕ → ℕ). f i b j) same
        ∙ (ap (λ (m : ℕ). (clients m).handed i b j) (sym is)
        ∙ old.read told k i b j (subst (λ (m : ℕ). slice_get (clients m).replies i ≡ Some reply.Data) (sym is) (within i (sym (ap (λ (q : Client). slice_get q.replies i) here) ∙ got))) lt lj))
    | inr ne ↦
        let there = put-other clients c v k ne in
        ap (λ (q : Client). q.handed i b j) there ∙ old.read told k i b j (sym (ap (λ (q : Client). slice_get q.replies i) there) ∙ got) lt lj
  ];
  zeros = λ k i b j none lt lj. old.zeros k i b j (λ had. none (elim (cases_eq k c) [
    | inl is ↦
        let here : put clients c v k ≡ v = ap (put clients c v) is ∙ put-same clients c v in
        ap (λ (q : Client). slice_get q.replies i) here ∙ stays i (subst (λ (m : ℕ). slice_get (clients m).replies i ≡ Some reply.Data) is had)
    | inr ne ↦ ap (λ (q : Client). slice_get q.replies i) (put-other clients c v k ne) ∙ had
  ])) lt lj;
}

-- its replies are those that it had
pub hands-kept : (tells : Type 0) (h : Handout) (clients : ℕ → Client) (c : ℕ) (v : Client) → v.replies ≡ (clients c).replies → v.handed ≡ (clients c).handed → Hands tells h clients → Hands tells h (put clients c v)
hands-kept tells h clients c v replies same = hands-put tells h clients c v (λ i got. ap (λ (l : List Reply). slice_get l i) (sym replies) ∙ got) (λ i had. ap (λ (l : List Reply). slice_get l i) replies ∙ had) same

-- or one more, that is no data
pub hands-replied : (tells : Type 0) (h : Handout) (clients : ℕ → Client) (c : ℕ) (v : Client) (r : Reply) → is_data r ≡ false → v.replies ≡ (clients c).replies ++ r ∷ [] → v.handed ≡ (clients c).handed → Hands tells h clients → Hands tells h (put clients c v)
hands-replied tells h clients c v r other replies same = hands-put tells h clients c v
    (λ i got. data-in (clients c).replies (r ∷ []) (none-one r other) i (ap (λ (l : List Reply). slice_get l i) (sym replies) ∙ got))
    (λ i had. ap (λ (l : List Reply). slice_get l i) replies ∙ data-more (clients c).replies (r ∷ []) i had) same

-- each has been told of a loss
pub hands-told : (tells : Type 0) (h : Handout) (lost : Option Loss) (clients now : ℕ → Client) → ((c : ℕ) → (now c).replies ≡ told_of lost (clients c).items (clients c).replies) → ((c : ℕ) → (now c).handed ≡ (clients c).handed) → Hands tells h clients → Hands tells h now
hands-told tells h lost clients now replies same old = record {
  read = λ told c i b k got lt lk. ap (λ (f : ℕ → ℕ → ℕ → ℕ). f i b k) (same c)
      ∙ old.read told c i b k (data-told lost (clients c).items (clients c).replies i (ap (λ (l : List Reply). slice_get l i) (sym (replies c)) ∙ got)) lt lk;
  zeros = λ c i b k none lt lk. old.zeros c i b k (λ had. none (ap (λ (l : List Reply). slice_get l i) (replies c) ∙ told-data lost (clients c).items (clients c).replies i had)) lt lk;
}

-- the same where what is handed out is kept by another log
pub hands-on : (tells : Type 0) (old new : Handout) (clients : ℕ → Client) (c : ℕ) (v : Client) → new ≡ old → v.replies ≡ (clients c).replies → v.handed ≡ (clients c).handed → Hands tells old clients → Hands tells new (put clients c v)
hands-on tells old new clients c v is replies same hands = hands-kept tells new clients c v replies same (subst (λ (h : Handout). Hands tells h clients) (sym is) hands)

pub hands-more : (tells : Type 0) (old new : Handout) (clients : ℕ → Client) (c : ℕ) (v : Client) (r : Reply) → is_data r ≡ false → new ≡ old → v.replies ≡ (clients c).replies ++ r ∷ [] → v.handed ≡ (clients c).handed → Hands tells old clients → Hands tells new (put clients c v)
hands-more tells old new clients c v r other is replies same hands = hands-replied tells new clients c v r other replies same (subst (λ (h : Handout). Hands tells h clients) (sym is) hands)
