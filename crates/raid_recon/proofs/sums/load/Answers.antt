use Rattle.std.proofs.Common.{◌≡◌, ◌≤◌, ◌<◌, ◌+◌, ◌-◌, ◌*◌, ◌∙◌, ℕ, suc, length, true, false, is_ok, Some, refl, sym, ap, subst, arith}
use Rattle.std.proofs.Math.Nat.{mul-le-mul_left, mul-le-mul_right, mul-add, mul-suc, mul_comm, add-mul, one-le-mul}
use Rattle.std.specs.Prelude.{min}
use Rattle.eng_cols.specs.Seats.{seat}
use Rattle.eng_cols.proofs.Spots.{seat-device, seat-within}
use Rattle.eng_cols.specs.declared.spot.Spot.{Spot}
use Rattle.raid_recon.specs.Ahead.{IsInWindow, IsOutside, rows_at, is_at_hand, window_at}
use Rattle.raid_recon.specs.Units.{IsReadInto}
use Rattle.raid_recon.proofs.AtHand.{at_hand-is, hands-set}
use Rattle.raid_recon.proofs.Loads.{hit-loads, hit-window, miss-loads, miss-window, read-outside}
use Rattle.raid_recon.proofs.Places.{spot-seat}
use Rattle.raid_recon.proofs.OneCall.{some_device}
use Rattle.raid_recon.proofs.Windows.{apart-few, many-beside, row-few}
use Rattle.raid_recon.proofs.sums.load.Goals as goal
use Rattle.raid_recon.proofs.Words.{rows_from}

pub returns-then-is_at_hand-clause-loads : goal.returns-then-is_at_hand-clause-loads
returns-then-is_at_hand-clause-loads g c rows h =
    let y = g.L.Layout.shape c.args.layout.now in
    let cols = c.args.cols.now.states in
    let s = c.args.stripe in
    let i = c.args.unit in
    let at = c.in-Some.at in
    let there = c.requires.complete i c.requires.unit in
    let stands : seat y cols s i ≡ Some at = sym (spot-seat y cols s i there) ∙ (sym c.spot.ensures.spot ∙ c.in-Some.is) in
    let same = h.agrees at.column at.device (seat-device y cols s i at stands) in
    let hand : is_at_hand (rows at.device) at.row ≡ true = ap (λ r. is_at_hand r at.row) (sym same) ∙ (sym c.is_at_hand.ensures ∙ c.if-is_at_hand.true) in
    hit-loads g.D.Disk y c.args.windows cols s i at c.requires.stripe c.requires.unit stands there rows c.args.devices.now c.args.hands.now c.args.ahead.now h (512 * c.sector_of.result) hand
    (ap (λ n. 512 * n) (c.sector_of.ensures ∙ (ap (λ u. u * (c.window_at-window.result + (at.row - (rows_at c.args.hands.now at.column).first))) c.unit_sectors-sectors.ensures
    ∙ (ap (λ w. y.unit_sectors * (w + (at.row - (rows_at c.args.hands.now at.column).first))) c.window_at-window.ensures ∙ ap (λ r. y.unit_sectors * (window_at c.args.windows at.column + (at.row - r.first))) same))))

pub returns-then-is_at_hand-clause-inside : goal.returns-then-is_at_hand-clause-inside
returns-then-is_at_hand-clause-inside g c =
    let y = g.L.Layout.shape c.args.layout.now in
    let cols = c.args.cols.now.states in
    let at = c.in-Some.at in
    let u = y.unit_sectors in
    let w = window_at c.args.windows at.column in
    let stands : seat y cols c.args.stripe c.args.unit ≡ Some at = sym (spot-seat y cols c.args.stripe c.args.unit (c.requires.complete c.args.unit c.requires.unit)) ∙ (sym c.spot.ensures.spot ∙ c.in-Some.is) in
    let column = (seat-within y cols c.args.stripe c.args.unit at (g.met.L.Layout.is_layout c.args.layout.now) c.requires.stripe c.requires.unit stands).0 in
    let hand = at_hand-is (rows_at c.args.hands.now at.column) at.row (sym c.is_at_hand.ensures ∙ c.if-is_at_hand.true) in
    let far : ℕ = at.row - (rows_at c.args.hands.now at.column).first in
    let less : suc (w + far) ≤ w + c.args.windows.most = omega (arith, hand.0, hand.1, c.requires.hands.few at.column) in
    let most : u * suc (w + far) ≤ u * (w + c.args.windows.most) = mul-le-mul_left u less in
    let place : c.sector_of.result ≡ u * (w + far) = c.sector_of.ensures ∙ (ap (λ x. x * (c.window_at-window.result + far)) c.unit_sectors-sectors.ensures ∙ ap (λ x. u * (x + far)) c.window_at-window.ensures) in
    omega (arith, place, most, mul-suc u (w + far), c.requires.windows.within at.column column)

pub overflow_sub-rows : goal.overflow_sub-rows
overflow_sub-rows g c =
    let y = g.L.Layout.shape c.args.layout.now in
    let cols = c.args.cols.now.states in
    let at = c.in-Some.at in
    let stands : seat y cols c.args.stripe c.args.unit ≡ Some at = sym (spot-seat y cols c.args.stripe c.args.unit (c.requires.complete c.args.unit c.requires.unit)) ∙ (sym c.spot.ensures.spot ∙ c.in-Some.is) in
    omega (arith, c.rows.ensures, (seat-within y cols c.args.stripe c.args.unit at (g.met.L.Layout.is_layout c.args.layout.now) c.requires.stripe c.requires.unit stands).1)

fits : goal.read_into-requires-clause-fits
fits g c =
    let y = g.L.Layout.shape c.args.layout.now in
    let cols = c.args.cols.now.states in
    let at = c.in-Some.at in
    let u = c.unit_sectors-sectors.result in
    let n = c.min-rows.result in
    let stands : seat y cols c.args.stripe c.args.unit ≡ Some at = sym (spot-seat y cols c.args.stripe c.args.unit (c.requires.complete c.args.unit c.requires.unit)) ∙ (sym c.spot.ensures.spot ∙ c.in-Some.is) in
    let within = seat-within y cols c.args.stripe c.args.unit at (g.met.L.Layout.is_layout c.args.layout.now) c.requires.stripe c.requires.unit stands in
    let room = c.requires.array.there at.column at.device (seat-device y cols c.args.stripe c.args.unit at stands) in
    let less : at.row + n ≤ y.rows = omega (arith, within.1, c.rows.ensures, c.min-rows.ensures) in
    let most : (at.row + n) * u ≤ y.rows * u = mul-le-mul_right u less in
    omega (arith, most, add-mul at.row n u, room, ap (λ x. y.rows * x) c.unit_sectors-sectors.ensures)

pub read_into-requires-clause-fits : goal.read_into-requires-clause-fits
read_into-requires-clause-fits g c = fits g c

pub read_into-requires-clause-there : goal.read_into-requires-clause-there
read_into-requires-clause-there g c = some_device g.D.Disk c.args.devices.now c.in-Some.at.device (omega (arith, fits g c))

pub read_into-requires-clause-some : goal.read_into-requires-clause-some
read_into-requires-clause-some g c =
    let y = g.L.Layout.shape c.args.layout.now in
    let cols = c.args.cols.now.states in
    let at = c.in-Some.at in
    let law = g.met.L.Layout.is_layout c.args.layout.now in
    let stands : seat y cols c.args.stripe c.args.unit ≡ Some at = sym (spot-seat y cols c.args.stripe c.args.unit (c.requires.complete c.args.unit c.requires.unit)) ∙ (sym c.spot.ensures.spot ∙ c.in-Some.is) in
    let within = seat-within y cols c.args.stripe c.args.unit at law c.requires.stripe c.requires.unit stands in
    one-le-mul (let a : 1 ≤ c.min-rows.result = omega (arith, within.1, c.rows.ensures, c.min-rows.ensures, c.requires.windows.some) in a) (let b : 1 ≤ c.unit_sectors-sectors.result = omega (arith, law.unit_least, c.unit_sectors-sectors.ensures) in b)

inside : goal.read_into-requires-clause-inside
inside g c =
    let y = g.L.Layout.shape c.args.layout.now in
    let cols = c.args.cols.now.states in
    let at = c.in-Some.at in
    let u = y.unit_sectors in
    let w = window_at c.args.windows at.column in
    let n = c.min-rows.result in
    let stands : seat y cols c.args.stripe c.args.unit ≡ Some at = sym (spot-seat y cols c.args.stripe c.args.unit (c.requires.complete c.args.unit c.requires.unit)) ∙ (sym c.spot.ensures.spot ∙ c.in-Some.is) in
    let column = (seat-within y cols c.args.stripe c.args.unit at (g.met.L.Layout.is_layout c.args.layout.now) c.requires.stripe c.requires.unit stands).0 in
    let less : w + n ≤ w + c.args.windows.most = omega (arith, c.min-rows.ensures) in
    let most : u * (w + n) ≤ u * (w + c.args.windows.most) = mul-le-mul_left u less in
    let place : c.sector_of-begin.result ≡ u * w = c.sector_of-begin.ensures ∙ (ap (λ x. x * c.window_at-window.result) c.unit_sectors-sectors.ensures ∙ ap (λ x. u * x) c.window_at-window.ensures) in
    omega (arith, place, most, mul-add u w n, mul_comm u n, ap (λ x. n * x) c.unit_sectors-sectors.ensures, c.requires.windows.within at.column column)

pub read_into-requires-clause-inside : goal.read_into-requires-clause-inside
read_into-requires-clause-inside g c = inside g c

pub bounds-hands-column : goal.bounds-hands-column
bounds-hands-column g c =
    let y = g.L.Layout.shape c.args.layout.now in
    let cols = c.args.cols.now.states in
    let s = c.args.stripe in
    let i = c.args.unit in
    let at = c.in-Some.at in
    let law = g.met.L.Layout.is_layout c.args.layout.now in
    let there = c.requires.complete i c.requires.unit in
    let stands : seat y cols s i ≡ Some at = sym (spot-seat y cols s i there) ∙ (sym c.spot.ensures.spot ∙ c.in-Some.is) in
    let within = seat-within y cols s i at law c.requires.stripe c.requires.unit stands in
    let below : at.column < 32 = omega (arith, within.0, law.columns_most) in
    omega (arith, below, c.requires.hands.count)

pub overflow_mul-result-in-Ok : goal.overflow_mul-result-in-Ok
overflow_mul-result-in-Ok g c =
    let law = g.met.L.Layout.is_layout c.args.layout.now in
    let w = c.window_at-window.result in
    let most : c.unit_sectors-sectors.result * w ≤ 128 * w = mul-le-mul_right w (let a : c.unit_sectors-sectors.result ≤ 128 = omega (arith, law.unit_most, c.unit_sectors-sectors.ensures) in a) in
    omega (arith, most, c.sector_of-begin.ensures, c.window_at-window.type_inv)

pub bounds-hands-column-in-Err : goal.bounds-hands-column-in-Err
bounds-hands-column-in-Err g c =
    let y = g.L.Layout.shape c.args.layout.now in
    let cols = c.args.cols.now.states in
    let s = c.args.stripe in
    let i = c.args.unit in
    let at = c.in-Some.at in
    let law = g.met.L.Layout.is_layout c.args.layout.now in
    let there = c.requires.complete i c.requires.unit in
    let stands : seat y cols s i ≡ Some at = sym (spot-seat y cols s i there) ∙ (sym c.spot.ensures.spot ∙ c.in-Some.is) in
    let within = seat-within y cols s i at law c.requires.stripe c.requires.unit stands in
    let below : at.column < 32 = omega (arith, within.0, law.columns_most) in
    omega (arith, below, c.requires.hands.count)

pub returns-in-Ok-clause-loads : goal.returns-in-Ok-clause-loads
returns-in-Ok-clause-loads g c rows h =
    let y = g.L.Layout.shape c.args.layout.now in
    let cols = c.args.cols.now.states in
    let s = c.args.stripe in
    let i = c.args.unit in
    let at = c.in-Some.at in
    let law = g.met.L.Layout.is_layout c.args.layout.now in
    let there = c.requires.complete i c.requires.unit in
    let stands : seat y cols s i ≡ Some at = sym (spot-seat y cols s i there) ∙ (sym c.spot.ensures.spot ∙ c.in-Some.is) in
    let within = seat-within y cols s i at law c.requires.stripe c.requires.unit stands in
    let below : at.column < 32 = omega (arith, within.0, law.columns_most) in
    let u = y.unit_sectors in
    let same = h.agrees at.column at.device (seat-device y cols s i at stands) in
    let miss : is_at_hand (rows at.device) at.row ≡ false = ap (λ r. is_at_hand r at.row) (sym same) ∙ (sym c.is_at_hand.ensures ∙ c.if-is_at_hand.false) in
    let count : c.min-rows.result ≡ rows_from y c.args.windows.most at.row = c.min-rows.ensures ∙ ap (λ r. min c.args.windows.most (r - at.row)) c.rows.ensures in
    let start : c.sector_of-begin.result ≡ u * window_at c.args.windows at.column = c.sector_of-begin.ensures ∙ (ap (λ x. x * c.window_at-window.result) c.unit_sectors-sectors.ensures ∙ ap (λ x. u * x) c.window_at-window.ensures) in
    let less : window_at c.args.windows at.column + c.min-rows.result ≤ window_at c.args.windows at.column + c.args.windows.most = omega (arith, c.min-rows.ensures) in
    let most : u * (window_at c.args.windows at.column + c.min-rows.result) ≤ u * (window_at c.args.windows at.column + c.args.windows.most) = mul-le-mul_left u less in
    let inside : 512 * c.sector_of-begin.result + 512 * (c.min-rows.result * u) ≤ length c.args.ahead.now = omega (arith, start, most, mul-add u (window_at c.args.windows at.column) c.min-rows.result, mul_comm u c.min-rows.result, c.requires.windows.within at.column within.0) in
    let w = subst (λ x. IsReadInto g.D.Disk at x (c.min-rows.result * x) c.args.devices.now c.read_into.new.devices c.sector_of-begin.result c.args.ahead.now c.read_into.new.bytes (is_ok c.read_into.result)) c.unit_sectors-sectors.ensures c.read_into.ensures.read in
    miss-loads g.D.Disk y c.args.windows cols s i at c.requires.stripe c.requires.unit stands there rows c.args.devices.now c.args.hands.now c.args.ahead.now h c.requires.windows.some (many-beside y c.args.windows _ c.requires.windows) c.requires.array.order c.requires.hands below within.1 miss c.read_into.new.devices c.sector_of-begin.result c.min-rows.result c.read_into.new.bytes true count start
    inside (subst (IsReadInto g.D.Disk at u (c.min-rows.result * u) c.args.devices.now c.read_into.new.devices c.sector_of-begin.result c.args.ahead.now c.read_into.new.bytes) (ap is_ok c.in-Ok.is) w) (at.row + c.min-rows.result) (ap (λ n. at.row + n) count) _ refl (λ from e. sym (let same : 512 * c.sector_of-begin.result ≡ from = cc in same)) tt

pub returns-in-Ok-clause-hands : goal.returns-in-Ok-clause-hands
returns-in-Ok-clause-hands g c =
    let y = g.L.Layout.shape c.args.layout.now in
    let cols = c.args.cols.now.states in
    let s = c.args.stripe in
    let i = c.args.unit in
    let at = c.in-Some.at in
    let law = g.met.L.Layout.is_layout c.args.layout.now in
    let there = c.requires.complete i c.requires.unit in
    let stands : seat y cols s i ≡ Some at = sym (spot-seat y cols s i there) ∙ (sym c.spot.ensures.spot ∙ c.in-Some.is) in
    let within = seat-within y cols s i at law c.requires.stripe c.requires.unit stands in
    let below : at.column < 32 = omega (arith, within.0, law.columns_most) in
    hands-set c.args.windows.most c.args.hands.now at.column _ below (omega (arith, c.min-rows.ensures)) c.requires.hands

pub returns-in-Ok-clause-inside : goal.returns-in-Ok-clause-inside
returns-in-Ok-clause-inside g c =
    let y = g.L.Layout.shape c.args.layout.now in
    let cols = c.args.cols.now.states in
    let s = c.args.stripe in
    let i = c.args.unit in
    let at = c.in-Some.at in
    let law = g.met.L.Layout.is_layout c.args.layout.now in
    let there = c.requires.complete i c.requires.unit in
    let stands : seat y cols s i ≡ Some at = sym (spot-seat y cols s i there) ∙ (sym c.spot.ensures.spot ∙ c.in-Some.is) in
    let within = seat-within y cols s i at law c.requires.stripe c.requires.unit stands in
    let below : at.column < 32 = omega (arith, within.0, law.columns_most) in
    let u = y.unit_sectors in
    let start : c.sector_of-begin.result ≡ u * window_at c.args.windows at.column = c.sector_of-begin.ensures ∙ (ap (λ x. x * c.window_at-window.result) c.unit_sectors-sectors.ensures ∙ ap (λ x. u * x) c.window_at-window.ensures) in
    let less : window_at c.args.windows at.column + 1 ≤ window_at c.args.windows at.column + c.args.windows.most = omega (arith, c.requires.windows.some) in
    let most : u * (window_at c.args.windows at.column + 1) ≤ u * (window_at c.args.windows at.column + c.args.windows.most) = mul-le-mul_left u less in
    let long = c.read_into.ensures.long in
    omega (arith, start, most, mul-add u (window_at c.args.windows at.column) 1, long, c.requires.windows.within at.column within.0)

pub returns-in-Err-clause-loads : goal.returns-in-Err-clause-loads
returns-in-Err-clause-loads g c rows h =
    let y = g.L.Layout.shape c.args.layout.now in
    let cols = c.args.cols.now.states in
    let s = c.args.stripe in
    let i = c.args.unit in
    let at = c.in-Some.at in
    let law = g.met.L.Layout.is_layout c.args.layout.now in
    let there = c.requires.complete i c.requires.unit in
    let stands : seat y cols s i ≡ Some at = sym (spot-seat y cols s i there) ∙ (sym c.spot.ensures.spot ∙ c.in-Some.is) in
    let within = seat-within y cols s i at law c.requires.stripe c.requires.unit stands in
    let below : at.column < 32 = omega (arith, within.0, law.columns_most) in
    let u = y.unit_sectors in
    let same = h.agrees at.column at.device (seat-device y cols s i at stands) in
    let miss : is_at_hand (rows at.device) at.row ≡ false = ap (λ r. is_at_hand r at.row) (sym same) ∙ (sym c.is_at_hand.ensures ∙ c.if-is_at_hand.false) in
    let count : c.min-rows.result ≡ rows_from y c.args.windows.most at.row = c.min-rows.ensures ∙ ap (λ r. min c.args.windows.most (r - at.row)) c.rows.ensures in
    let start : c.sector_of-begin.result ≡ u * window_at c.args.windows at.column = c.sector_of-begin.ensures ∙ (ap (λ x. x * c.window_at-window.result) c.unit_sectors-sectors.ensures ∙ ap (λ x. u * x) c.window_at-window.ensures) in
    let less : window_at c.args.windows at.column + c.min-rows.result ≤ window_at c.args.windows at.column + c.args.windows.most = omega (arith, c.min-rows.ensures) in
    let most : u * (window_at c.args.windows at.column + c.min-rows.result) ≤ u * (window_at c.args.windows at.column + c.args.windows.most) = mul-le-mul_left u less in
    let inside : 512 * c.sector_of-begin.result + 512 * (c.min-rows.result * u) ≤ length c.args.ahead.now = omega (arith, start, most, mul-add u (window_at c.args.windows at.column) c.min-rows.result, mul_comm u c.min-rows.result, c.requires.windows.within at.column within.0) in
    let w = subst (λ x. IsReadInto g.D.Disk at x (c.min-rows.result * x) c.args.devices.now c.read_into.new.devices c.sector_of-begin.result c.args.ahead.now c.read_into.new.bytes (is_ok c.read_into.result)) c.unit_sectors-sectors.ensures c.read_into.ensures.read in
    miss-loads g.D.Disk y c.args.windows cols s i at c.requires.stripe c.requires.unit stands there rows c.args.devices.now c.args.hands.now c.args.ahead.now h c.requires.windows.some (many-beside y c.args.windows _ c.requires.windows) c.requires.array.order c.requires.hands below within.1 miss c.read_into.new.devices c.sector_of-begin.result c.min-rows.result c.read_into.new.bytes false count start
    inside (subst (IsReadInto g.D.Disk at u (c.min-rows.result * u) c.args.devices.now c.read_into.new.devices c.sector_of-begin.result c.args.ahead.now c.read_into.new.bytes) (ap is_ok c.in-Err.is) w) at.row (omega arith) _ refl (λ from e. let u : ⊥ = cc in absurd u) refl

pub returns-in-Err-clause-hands : goal.returns-in-Err-clause-hands
returns-in-Err-clause-hands g c =
    let y = g.L.Layout.shape c.args.layout.now in
    let cols = c.args.cols.now.states in
    let s = c.args.stripe in
    let i = c.args.unit in
    let at = c.in-Some.at in
    let law = g.met.L.Layout.is_layout c.args.layout.now in
    let there = c.requires.complete i c.requires.unit in
    let stands : seat y cols s i ≡ Some at = sym (spot-seat y cols s i there) ∙ (sym c.spot.ensures.spot ∙ c.in-Some.is) in
    let within = seat-within y cols s i at law c.requires.stripe c.requires.unit stands in
    let below : at.column < 32 = omega (arith, within.0, law.columns_most) in
    hands-set c.args.windows.most c.args.hands.now at.column _ below (omega arith) c.requires.hands

pub returns-then-is_at_hand-clause-window : goal.returns-then-is_at_hand-clause-window
returns-then-is_at_hand-clause-window g c to is =
    let y = g.L.Layout.shape c.args.layout.now in
    let cols = c.args.cols.now.states in
    let s = c.args.stripe in
    let i = c.args.unit in
    let at = c.in-Some.at in
    let there = c.requires.complete i c.requires.unit in
    let stands : seat y cols s i ≡ Some at = sym (spot-seat y cols s i there) ∙ (sym c.spot.ensures.spot ∙ c.in-Some.is) in
    let found : Some at ≡ Some to = sym stands ∙ is in
    let same : at ≡ to = cc in
    let far : ℕ = at.row - (rows_at c.args.hands.now at.column).first in
    let hand = at_hand-is (rows_at c.args.hands.now at.column) at.row (sym c.is_at_hand.ensures ∙ c.if-is_at_hand.true) in
    let short : far < c.args.windows.most = omega (arith, hand.0, hand.1, c.requires.hands.few at.column) in
    let place : c.sector_of.result ≡ y.unit_sectors * (window_at c.args.windows at.column + far) = c.sector_of.ensures ∙ (ap (λ x. x * (c.window_at-window.result + far)) c.unit_sectors-sectors.ensures ∙ ap (λ x. y.unit_sectors * (x + far)) c.window_at-window.ensures) in
    subst (λ (q : Spot). IsInWindow y c.args.windows q.column (512 * c.sector_of.result)) same (hit-window y c.args.windows at.column far _ short (ap (λ n. 512 * n) place))

pub returns-in-Ok-clause-window : goal.returns-in-Ok-clause-window
returns-in-Ok-clause-window g c to is =
    let y = g.L.Layout.shape c.args.layout.now in
    let cols = c.args.cols.now.states in
    let s = c.args.stripe in
    let i = c.args.unit in
    let at = c.in-Some.at in
    let there = c.requires.complete i c.requires.unit in
    let stands : seat y cols s i ≡ Some at = sym (spot-seat y cols s i there) ∙ (sym c.spot.ensures.spot ∙ c.in-Some.is) in
    let found : Some at ≡ Some to = sym stands ∙ is in
    let same : at ≡ to = cc in
    let law = g.met.L.Layout.is_layout c.args.layout.now in
    let within = seat-within y cols s i at law c.requires.stripe c.requires.unit stands in
    let u = y.unit_sectors in
    let start : c.sector_of-begin.result ≡ u * window_at c.args.windows at.column = c.sector_of-begin.ensures ∙ (ap (λ x. x * c.window_at-window.result) c.unit_sectors-sectors.ensures ∙ ap (λ x. u * x) c.window_at-window.ensures) in
    subst (λ (q : Spot). IsInWindow y c.args.windows q.column (512 * c.sector_of-begin.result)) same (miss-window y c.args.windows at.column c.sector_of-begin.result c.requires.windows.some start)

pub returns-in-Ok-clause-outside : goal.returns-in-Ok-clause-outside
returns-in-Ok-clause-outside g c to is n outside =
    let y = g.L.Layout.shape c.args.layout.now in
    let cols = c.args.cols.now.states in
    let s = c.args.stripe in
    let i = c.args.unit in
    let at = c.in-Some.at in
    let there = c.requires.complete i c.requires.unit in
    let stands : seat y cols s i ≡ Some at = sym (spot-seat y cols s i there) ∙ (sym c.spot.ensures.spot ∙ c.in-Some.is) in
    let found : Some at ≡ Some to = sym stands ∙ is in
    let same : at ≡ to = cc in
    let law = g.met.L.Layout.is_layout c.args.layout.now in
    let within = seat-within y cols s i at law c.requires.stripe c.requires.unit stands in
    let u = y.unit_sectors in
    let start : c.sector_of-begin.result ≡ u * window_at c.args.windows at.column = c.sector_of-begin.ensures ∙ (ap (λ x. x * c.window_at-window.result) c.unit_sectors-sectors.ensures ∙ ap (λ x. u * x) c.window_at-window.ensures) in
    let few : c.min-rows.result ≤ c.args.windows.most = omega (arith, c.min-rows.ensures) in
    let less : window_at c.args.windows at.column + c.min-rows.result ≤ window_at c.args.windows at.column + c.args.windows.most = omega (arith, few) in
    let most : u * (window_at c.args.windows at.column + c.min-rows.result) ≤ u * (window_at c.args.windows at.column + c.args.windows.most) = mul-le-mul_left u less in
    let inside : 512 * c.sector_of-begin.result + 512 * (c.min-rows.result * u) ≤ length c.args.ahead.now = omega (arith, start, most, mul-add u (window_at c.args.windows at.column) c.min-rows.result, mul_comm u c.min-rows.result, c.requires.windows.within at.column within.0) in
    let w = subst (λ x. IsReadInto g.D.Disk at x (c.min-rows.result * x) c.args.devices.now c.read_into.new.devices c.sector_of-begin.result c.args.ahead.now c.read_into.new.bytes (is_ok c.read_into.result)) c.unit_sectors-sectors.ensures c.read_into.ensures.read in
    read-outside g.D.Disk y c.args.windows at c.args.devices.now c.read_into.new.devices c.sector_of-begin.result c.min-rows.result c.args.ahead.now c.read_into.new.bytes (is_ok c.read_into.result) start few inside w n (subst (λ (q : Spot). IsOutside y c.args.windows q.column n) (sym same) outside)

pub returns-in-Err-clause-outside : goal.returns-in-Err-clause-outside
returns-in-Err-clause-outside g c to is n outside =
    let y = g.L.Layout.shape c.args.layout.now in
    let cols = c.args.cols.now.states in
    let s = c.args.stripe in
    let i = c.args.unit in
    let at = c.in-Some.at in
    let there = c.requires.complete i c.requires.unit in
    let stands : seat y cols s i ≡ Some at = sym (spot-seat y cols s i there) ∙ (sym c.spot.ensures.spot ∙ c.in-Some.is) in
    let found : Some at ≡ Some to = sym stands ∙ is in
    let same : at ≡ to = cc in
    let law = g.met.L.Layout.is_layout c.args.layout.now in
    let within = seat-within y cols s i at law c.requires.stripe c.requires.unit stands in
    let u = y.unit_sectors in
    let start : c.sector_of-begin.result ≡ u * window_at c.args.windows at.column = c.sector_of-begin.ensures ∙ (ap (λ x. x * c.window_at-window.result) c.unit_sectors-sectors.ensures ∙ ap (λ x. u * x) c.window_at-window.ensures) in
    let few : c.min-rows.result ≤ c.args.windows.most = omega (arith, c.min-rows.ensures) in
    let less : window_at c.args.windows at.column + c.min-rows.result ≤ window_at c.args.windows at.column + c.args.windows.most = omega (arith, few) in
    let most : u * (window_at c.args.windows at.column + c.min-rows.result) ≤ u * (window_at c.args.windows at.column + c.args.windows.most) = mul-le-mul_left u less in
    let inside : 512 * c.sector_of-begin.result + 512 * (c.min-rows.result * u) ≤ length c.args.ahead.now = omega (arith, start, most, mul-add u (window_at c.args.windows at.column) c.min-rows.result, mul_comm u c.min-rows.result, c.requires.windows.within at.column within.0) in
    let w = subst (λ x. IsReadInto g.D.Disk at x (c.min-rows.result * x) c.args.devices.now c.read_into.new.devices c.sector_of-begin.result c.args.ahead.now c.read_into.new.bytes (is_ok c.read_into.result)) c.unit_sectors-sectors.ensures c.read_into.ensures.read in
    read-outside g.D.Disk y c.args.windows at c.args.devices.now c.read_into.new.devices c.sector_of-begin.result c.min-rows.result c.args.ahead.now c.read_into.new.bytes (is_ok c.read_into.result) start few inside w n (subst (λ (q : Spot). IsOutside y c.args.windows q.column n) (sym same) outside)

pub window_at-window-requires-clause-apart : goal.window_at-window-requires-clause-apart
window_at-window-requires-clause-apart g c = apart-few (g.L.Layout.shape c.args.layout.now) c.args.windows _ (g.met.L.Layout.is_layout c.args.layout.now) c.requires.windows

pub overflow_add-window : goal.overflow_add-window
overflow_add-window g c =
    let y = g.L.Layout.shape c.args.layout.now in
    let cols = c.args.cols.now.states in
    let at = c.in-Some.at in
    let law = g.met.L.Layout.is_layout c.args.layout.now in
    let stands : seat y cols c.args.stripe c.args.unit ≡ Some at = sym (spot-seat y cols c.args.stripe c.args.unit (c.requires.complete c.args.unit c.requires.unit)) ∙ (sym c.spot.ensures.spot ∙ c.in-Some.is) in
    let within = seat-within y cols c.args.stripe c.args.unit at law c.requires.stripe c.requires.unit stands in
    let hand = at_hand-is (rows_at c.args.hands.now at.column) at.row (sym c.is_at_hand.ensures ∙ c.if-is_at_hand.true) in
    let far : ℕ = at.row - (rows_at c.args.hands.now at.column).first in
    let few = row-few y c.args.windows _ at.column far law c.requires.windows within.0 (omega (arith, hand.0, hand.1, c.requires.hands.few at.column)) in
    omega (arith, few, c.window_at-window.ensures)

pub overflow_mul-result : goal.overflow_mul-result
overflow_mul-result g c =
    let y = g.L.Layout.shape c.args.layout.now in
    let cols = c.args.cols.now.states in
    let at = c.in-Some.at in
    let law = g.met.L.Layout.is_layout c.args.layout.now in
    let stands : seat y cols c.args.stripe c.args.unit ≡ Some at = sym (spot-seat y cols c.args.stripe c.args.unit (c.requires.complete c.args.unit c.requires.unit)) ∙ (sym c.spot.ensures.spot ∙ c.in-Some.is) in
    let within = seat-within y cols c.args.stripe c.args.unit at law c.requires.stripe c.requires.unit stands in
    let hand = at_hand-is (rows_at c.args.hands.now at.column) at.row (sym c.is_at_hand.ensures ∙ c.if-is_at_hand.true) in
    let far : ℕ = at.row - (rows_at c.args.hands.now at.column).first in
    let few = row-few y c.args.windows _ at.column far law c.requires.windows within.0 (omega (arith, hand.0, hand.1, c.requires.hands.few at.column)) in
    let row : ℕ = c.window_at-window.result + far in
    let sectors : c.unit_sectors-sectors.result * row ≤ 128 * row = mul-le-mul_right row (let a : c.unit_sectors-sectors.result ≤ 128 = omega (arith, law.unit_most, c.unit_sectors-sectors.ensures) in a) in
    omega (arith, sectors, c.sector_of.ensures, few, c.window_at-window.ensures)
