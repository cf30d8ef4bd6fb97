-- No more stripes were rebuilt than items were replied.
use Rattle.std.proofs.Common.{◌≡◌, ℕ, suc, ◌<◌, ◌≤◌, ◌⊎◌, List, [], ◌∷◌, length, length-append, subst, sym, ap, arith, inl, inr, slice_get, replicate}
use Rattle.std.specs.Prelude.{◌-◌}
use Rattle.std.proofs.lemmas.Bool.{cases_eq, cases_lt}
use Rattle.blk_plain.specs.declared.op.Op.{Op}
use Rattle.blk_plain.specs.declared.op.Op.TheVariants as op
use Rattle.lay_core.specs.Layout.{Shape}
use Rattle.eng_world.specs.declared.item.Reply.{Reply}
use Rattle.eng_world.specs.declared.item.Reply.TheVariants as reply
use Rattle.eng_world.specs.declared.item.Traced.{Traced}
use Rattle.eng_world.specs.World.{Current, Waits, Runs, Client, World, Goes, Replied}
use Rattle.eng_world.specs.Planning.{Graphs}
use Rattle.eng_world.specs.Failing.{FailsColumn, Loses, Survives, device_on}
use Rattle.eng_world.specs.Nodes.{Terminates, RepliesTo, ColumnsAfter}
use Rattle.eng_world.specs.Serving.{IsUnbegun}
use Rattle.eng_world.specs.Step.{EventsLead}
use Rattle.eng_world.proofs.Moves.{Move, replies, waits, takes, fires, skips, works, commits, ends, fails, anew, gives, dies, starts, home, Moves, one, two, moves}
use Rattle.eng_rest.specs.Left.{below}
use Rattle.eng_rest.proofs.Summing.{below-le, below-less}

-- how many items of a client were replied
abbrev pub replied_of : World → ℕ → ℕ
replied_of w c = length (w.clients c).replies

abbrev Grows : World → World → Type 0
Grows old new = (c : ℕ) → replied_of old c ≤ replied_of new c

-- no client has fewer replies, and where a stripe more was rebuilt one has more
record Tells (old new : World) : Type 0 where
  grows : Grows old new
  rebuilt : (new.rebuilt ≤ old.rebuilt) ⊎ ((new.rebuilt ≤ suc old.rebuilt) × (c : ℕ) × (replied_of old c < replied_of new c))

same : (old new : World) → new.rebuilt ≡ old.rebuilt → Grows old new → Tells old new
same old new e g = record { grows = g; rebuilt = inl (omega (arith, e)) }

module _ (c : ℕ) (old new : World) where
  goes-grows : (to : Current) → Goes c to old new → Grows old new
  goes-grows to g k = elim (cases_eq k c) [
    | inl e ↦ subst (λ (j : ℕ). replied_of old j ≤ replied_of new j) (sym e) (let z = ap (λ (l : List Reply). length l) g.replies in omega (arith, z))
    | inr ne ↦ let z = ap (λ (q : Client). length q.replies) (g.others k ne) in omega (arith, z)
  ]

  replied-more : (r : Reply) → Replied c r old new → replied_of old c < replied_of new c
  replied-more r g = let z = ap (λ (l : List Reply). length l) g.replies in let a = length-append (old.clients c).replies (r ∷ []) in omega (arith, z, a)

  replied-grows : (r : Reply) → Replied c r old new → Grows old new
  replied-grows r g k = elim (cases_eq k c) [
    | inl e ↦ subst (λ (j : ℕ). replied_of old j ≤ replied_of new j) (sym e) (let z = replied-more r g in omega (arith, z))
    | inr ne ↦ let z = ap (λ (q : Client). length q.replies) (g.others k ne) in omega (arith, z)
  ]

dies-grows : (y : Shape) (col : ℕ) (old new : World) → FailsColumn y col old new → Grows old new
dies-grows y col old new f k = after f.after
  where
    after : Loses y old new ⊎ Survives y (device_on (slice_get old.columns col) col) old new → replied_of old k ≤ replied_of new k
    after (inl l) =
        let z = ap (λ (v : List Reply). length v) (l.clients k).replies in
        let a = length-append (old.clients k).replies (replicate (length (old.clients k).items - length (old.clients k).replies) reply.Lost) in
        omega (arith, z, a)
    after (inr s) = let z = ap (λ (v : List Reply). length v) (s.clients k).told.replies in omega (arith, z)

ends-tell : (y : Shape) (c n : ℕ) (old new : World) → Terminates y c n old new → Tells old new
ends-tell y c n old new f = go f.op f.replies f.after
  where
    go : (o : Op) → RepliesTo y o f.was c old new → ColumnsAfter y o f.was old new → Tells old new
    go (op.Read span) h a = same old new a.1 (replied-grows c old new reply.Data h.0)
    go (op.Write span pattern) h a = same old new a.1 (replied-grows c old new reply.Done h)
    go (op.Writes patches) h a = same old new a.1 (replied-grows c old new reply.Done h)
    go (op.Rebuild stripe) h (inl a) = let z = a.5 in record { grows = replied-grows c old new reply.Done h; rebuilt = inr (omega (arith, z), c, replied-more c old new reply.Done h) }
    go (op.Rebuild stripe) h (inr a) = same old new a.1.1 (replied-grows c old new reply.Done h)
    go (op.Sync stripe) h a = same old new a.1 (replied-grows c old new reply.Done h)

-- nothing was replied before any operation begins
unbegun-grows : (old new : World) → IsUnbegun old → Grows old new
unbegun-grows old new u k = let z = ap (λ (l : List Reply). length l) (u k).0 in omega (arith, z)

module _ (y : Shape) (graphs : Graphs) where
  abbrev Known : World → Type 0
  Known w = Unit {0}

  move-tells : (e : Traced) (old new : World) → Move y graphs Known e old new → Tells old new
  move-tells e old new (replies c r asked known item not idle h) = same old new h.only.columns.rebuilt (replied-grows c old new r h.replied)
  move-tells e old new (waits c o graph known item nothing g only pool) = same old new only.columns.rebuilt (goes-grows c old new Waits g)
  move-tells e old new (takes c known f) = same old new f.only.columns.rebuilt (goes-grows c old new (Runs f.running) f.goes)
  move-tells e old new (fires c n known f) = same old new f.only.columns.rebuilt (goes-grows c old new (Runs f.next) f.goes)
  move-tells e old new (skips c n known f) = same old new f.only.columns.rebuilt (goes-grows c old new (Runs f.next) f.goes)
  move-tells e old new (works c n known f) = same old new f.columns.rebuilt (goes-grows c old new (Runs f.next) f.goes)
  move-tells e old new (commits c n known f) = same old new f.columns.rebuilt (goes-grows c old new (Runs f.next) f.goes)
  move-tells e old new (ends c n known f) = ends-tell y c n old new f
  move-tells e old new (fails c n at is known f) = same old new f.columns.rebuilt (goes-grows c old new (Runs f.next) f.goes)
  move-tells e old new (anew c o known can item f) = same old new f.only.columns.rebuilt (goes-grows c old new (Runs f.next) f.goes)
  move-tells e old new (gives c o graph known can item f) = same old new f.only.columns.rebuilt (replied-grows c old new (reply.Undone f.device) f.replied)
  move-tells e old new (dies c none alive f) = same old new f.rebuilt (dies-grows y c old new f)
  move-tells e old new (starts c begun from known f has spread) = same old new f.rebuilt (unbegun-grows old new f.unbegun)
  move-tells e old new (home c n good was loss lost h failed cols) = same old new h.rebuilt (goes-grows c old new (Runs h.next) h.goes)

  moves-tell : (e : Traced) (old new : World) → Moves y graphs Known e old new → Tells old new
  moves-tell e old new (one m) = move-tells e old new m
  moves-tell e old new (two mid m c none alive f) =
      let t = move-tells e old mid m in
      let same_count = f.rebuilt in
      record {
        grows = λ k. let a = t.grows k in let b = dies-grows y c mid new f k in omega (arith, a, b);
        rebuilt = elim t.rebuilt [
          | inl l ↦ inl (omega (arith, l, same_count))
          | inr r ↦ inr ((let l = r.0 in omega (arith, l, same_count)), r.1, (let l = r.2 in let b = dies-grows y c mid new f r.1 in omega (arith, l, b)))
        ];
      }

  -- where only seventeen clients were replied
  pub run-rebuilt : (start : World) (events : List Traced) (now : World) → start.rebuilt ≡ 0 → EventsLead y graphs start events now → ((c : ℕ) → 17 ≤ c → replied_of now c ≡ 0) → now.rebuilt ≤ below (replied_of now) 17
  run-rebuilt start [] now zero run none = let e = ap (λ (w : World). w.rebuilt) run in omega (arith, e, zero)
  run-rebuilt start (e ∷ events) now zero run none =
      let mid = run.0 in
      let t = moves-tell e mid now (moves y graphs Known e mid now (λ not_lost. tt) run.2) in
      let rest = run-rebuilt start events mid zero run.1 (λ c l. let a = t.grows c in let b = none c l in omega (arith, a, b)) in
      elim t.rebuilt [
        | inl l ↦ let a = below-le (replied_of now) (replied_of mid) 17 (λ c k. t.grows c) in omega (arith, l, rest, a)
        | inr r ↦
            let inside : r.1 < 17 = elim (cases_lt r.1 17) [
              | inl l ↦ l
              | inr l ↦ let a = none r.1 l in let b = r.2 in absurd (let u : ⊥ = omega (arith, a, b) in u)
            ] in
            let a = below-less (replied_of now) (replied_of mid) 17 r.1 inside (λ c k. t.grows c) r.2 in
            let h = r.0 in
            omega (arith, h, rest, a)
      ]
