use Rattle.std.proofs.Common.{rules, ◌≡◌, ◌+◌, ◌∙◌, length, length-append, [], ◌∷◌, ap, arith, inl, inr}
use Rattle.std.proofs.lemmas.List.{length-map}
use Rattle.eng_clients.specs.Listing.{Listing, rebuild}
use Rattle.eng_starts.proofs.ListingAll.{rebuilds-more, rebuilds-skip}
use Rattle.eng_starts.proofs.rebuild.list_stripe.Goals as goal

pub push-requires : goal.push-requires
push-requires g c =
    let r = c.requires.before in
    let long = ap length r.is ∙ length-map r.stripes rebuild in
    let few = r.few in
    let below = c.requires.stripe in
    let room = c.requires.room in
    omega (arith, long, few, below, room)

pub returns-clause-count : goal.returns-clause-count
returns-clause-count g c =
    let more = ap (λ (l : Listing). length l.items) c.push.ensures ∙ length-append c.args.rebuilds.now.items (rebuild c.args.stripe ∷ []) in
    let some = c.if-left-eq0.false in
    omega (arith, more, some)

pub returns-clause-listed : goal.returns-clause-listed
returns-clause-listed g c =
    let some = c.if-left-eq0.false in
    rebuilds-more (g.L.Layout.shape c.args.layout.now) c.args.cols.now.states c.args.column (c.args.left + length c.args.rebuilds.now.items) c.args.stripe c.args.rebuilds.now.items c.push.new.self.items c.requires.before
    (c.is_left.ensures.left c.if-not-is_left.false) (omega (arith, some)) (ap (λ (l : Listing). l.items) c.push.ensures)

pub returns-then-left-eq0-clause-listed : goal.returns-then-left-eq0-clause-listed
returns-then-left-eq0-clause-listed g c =
    let none = c.if-left-eq0.true in
    rebuilds-skip (g.L.Layout.shape c.args.layout.now) c.args.cols.now.states c.args.column (c.args.left + length c.args.rebuilds.now.items) c.args.stripe c.args.rebuilds.now.items c.requires.before (inr (omega (arith, none)))

pub returns-then-not-is_left-clause-listed : goal.returns-then-not-is_left-clause-listed
returns-then-not-is_left-clause-listed g c =
    rebuilds-skip (g.L.Layout.shape c.args.layout.now) c.args.cols.now.states c.args.column (c.args.left + length c.args.rebuilds.now.items) c.args.stripe c.args.rebuilds.now.items c.requires.before (inl (c.is_left.ensures.other c.if-not-is_left.true))
