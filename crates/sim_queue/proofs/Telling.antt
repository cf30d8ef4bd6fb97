-- The replies so far.
use Rattle.std.proofs.Common.{◌≡◌, ◌≢◌, ◌∙◌, inl, inr, ℕ, ◌+◌, ◌<◌, List, [], length, take, map, get_or, sym, ap, subst, arith, Option, Some, slice_get, slice_set, replicate, get_or-set_other, get_or-set_same}
use Rattle.std.proofs.lemmas.Bool.{cases_eq}
use Rattle.std.proofs.lemmas.List.{get_or-map, length-map, length-set, length-replicate}
use Rattle.std.proofs.lemmas.List.Sums.{fold_more}
use Rattle.std.proofs.lemmas.Option.{slice_get-get_or}
use Rattle.blk_plain.specs.declared.op.Op.{Op}
use Rattle.blk_plain.specs.declared.op.Op.TheVariants.{Write, Writes, Read, Rebuild, Sync}
use Rattle.blk_plain.specs.Plain.{after, after_option, replayed, zero_blocks, zero_sector, IsInRange}
use Rattle.blk_plain.specs.Laws.{length-after}
use Rattle.sim_queue.specs.declared.request.Request.{Request}
use Rattle.sim_queue.specs.declared.request.Served.{Served}
use Rattle.sim_queue.specs.Service.{request_at, IsTransfer}
use Rattle.sim_queue.specs.Replies.{AreApart, AreKnown, AreWithin, read_from, reply_at, service_at}
use Rattle.sim_queue.proofs.Words.{before}

-- the replies of the services before a place, and the blocks there
pub record Told (sectors : ℕ) (requests : List Request) (services : List Served) (place : ℕ) (blocks : List (List ℕ)) (rows : List (List (List ℕ))) : Type 0 where
  pub now : blocks ≡ before sectors requests services place
  pub count : length blocks ≡ sectors
  pub long : length rows ≡ length requests
  pub told : (p : ℕ) → p < place → get_or rows (service_at services p).request [] ≡ reply_at sectors requests services p

in_range : (sectors : ℕ) (op : Op) → IsTransfer sectors op → IsInRange sectors op
in_range sectors (Write span pattern) h = h
in_range sectors (Read span) h = h
in_range sectors (Writes patches) h = absurd h
in_range sectors (Rebuild stripe) h = absurd h
in_range sectors (Sync stripe) h = absurd h

pub told_first : (sectors : ℕ) (requests : List Request) (services : List Served) (blocks : List (List ℕ)) (rows : List (List (List ℕ))) → blocks ≡ zero_blocks sectors → rows ≡ replicate (length requests) [] → Told sectors requests services 0 blocks rows
unfolding zero_sector
told_first sectors requests services blocks rows zeros none = record {
  now = zeros;
  count = ap length zeros ∙ length-replicate sectors zero_sector;
  long = ap length none ∙ length-replicate (length requests) [];
  told = λ p h. absurd (omega arith);
}

before_more : (sectors : ℕ) (requests : List Request) (services : List Served) (place : ℕ) → place < length services → (service_at services place).request < length requests
    → before sectors requests services (place + 1) ≡ after (request_at requests (service_at services place).request).op (before sectors requests services place)
unfolding service_at request_at
before_more sectors requests services place within known =
    let order : List ℕ = map (λ (s : Served). s.request) services in
    let ops : List Op = map (λ (r : Request). r.op) requests in
    let d : Served = record { request = 0; start = 0; end = 0 } in
    let e : Request = record { tick = 0; op = Sync 0 } in
    let step = fold_more (λ (now : List (List ℕ)) i. after_option (slice_get ops i) now) (zero_blocks sectors) order place 0 (let long : length order ≡ length services = length-map services (λ (s : Served). s.request) in omega arith) in
    let at : get_or order place 0 ≡ (get_or services place d).request = get_or-map (λ (s : Served). s.request) services place d 0 within in
    let its : slice_get ops (get_or services place d).request ≡ Some (get_or requests (get_or services place d).request e).op =
    slice_get-get_or ops (get_or services place d).request (Sync 0) (let long : length ops ≡ length requests = length-map requests (λ (r : Request). r.op) in omega arith) ∙ ap (λ (o : Op). Some o) (get_or-map (λ (r : Request). r.op) requests (get_or services place d).request e (Sync 0) known)
    in
    step ∙ (ap (λ (i : ℕ). after_option (slice_get ops i) (replayed ops (take place order) (zero_blocks sectors))) at ∙ ap (λ (o : Option Op). after_option o (replayed ops (take place order) (zero_blocks sectors))) its)

apart_at : (services : List Served) (p place : ℕ) → AreApart services → p < place → place < length services → (service_at services p).request ≢ (service_at services place).request
unfolding service_at
apart_at services p place apart below inside = apart p place (record { request = 0; start = 0; end = 0 }) below inside

pub told_more : (sectors : ℕ) (requests : List Request) (services : List Served) (place : ℕ) (blocks next : List (List ℕ)) (rows others : List (List (List ℕ)))
    → AreWithin sectors requests → AreKnown (length requests) services → AreApart services → place < length services
    → Told sectors requests services place blocks rows
    → next ≡ after (request_at requests (service_at services place).request).op blocks
    → others ≡ slice_set rows (service_at services place).request (read_from (request_at requests (service_at services place).request).op blocks)
    → Told sectors requests services (place + 1) next others
unfolding reply_at
told_more sectors requests services place blocks next rows others within known apart inside told after' set' =
    let number = (service_at services place).request in
    let low = known place inside in
    record {
      now = after' ∙ (ap (after (request_at requests number).op) told.now ∙ sym (before_more sectors requests services place inside low));
      count = ap length after' ∙ (length-after (request_at requests number).op blocks (subst (λ (n : ℕ). IsInRange n (request_at requests number).op) (sym told.count) (in_range sectors (request_at requests number).op (within number low))) ∙ told.count);
      long = ap length set' ∙ (length-set rows number (read_from (request_at requests number).op blocks) ∙ told.long);
      told = λ p h. ap (λ (rs : List (List (List ℕ))). get_or rs (service_at services p).request []) set' ∙ elim (cases_eq p place) [
        | inl same ↦
            let row = read_from (request_at requests number).op blocks in
            let there : get_or (slice_set rows number row) number [] ≡ row = get_or-set_same rows number row [] (let long = told.long in omega arith) in
            let here : get_or (slice_set rows number row) number [] ≡ read_from (request_at requests number).op (before sectors requests services place) = there ∙ ap (read_from (request_at requests number).op) told.now in
            subst (λ (q : ℕ). get_or (slice_set rows number row) (service_at services q).request [] ≡ read_from (request_at requests (service_at services q).request).op (before sectors requests services q)) (sym same) here
        | inr other ↦
            let row = read_from (request_at requests number).op blocks in
            let below : p < place = omega arith in
            let differ : (service_at services p).request ≢ number = apart_at services p place apart below inside in
            get_or-set_other rows number (service_at services p).request row [] differ ∙ told.told p below
      ];
    }

-- what is read lies within the blocks
pub read_within : (sectors : ℕ) (requests : List Request) (services : List Served) (place : ℕ) (blocks : List (List ℕ)) (rows : List (List (List ℕ))) (r : Request)
    → AreWithin sectors requests → AreKnown (length requests) services → place < length services → Told sectors requests services place blocks rows
    → r ≡ request_at requests (service_at services place).request → IsTransfer (length blocks) r.op
read_within sectors requests services place blocks rows r within known inside told is =
    let here = within (service_at services place).request (known place inside) in
    subst (λ (n : ℕ). IsTransfer n r.op) (sym told.count) (subst (λ (x : Request). IsTransfer sectors x.op) (sym is) here)
