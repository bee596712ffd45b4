use Rattle.std.proofs.Common.{◌≡◌, ◌+◌, ◌*◌, ◌≤◌, ◌^◌, ◌↔◌, ◌⊎◌, ℕ, subst, sym, ap, ◌∙◌, arith}
use Rattle.std.proofs.Math.Nat.{mul-le-mul_right}
use Rattle.jk_marks.specs.declared.coding.Coding.{Coding}
use Rattle.jk_geom.specs.declared.shape.TileShape.{TileShape}
use Rattle.jk_geom.specs.Precincts.{precincts_across, precincts_down, precinct_number}
use Rattle.jk_geom.specs.TileShapes.{IsTileShape}
use Rattle.jk_geom.specs.declared.shape.PacketName.{PacketName}
use Rattle.jk_order.specs.PacketOrder.{packet_count, IsName}
use Rattle.jk_window.specs.NeededNumbers.{AreNeeded, AreNeededNumbers, columns_in, rows_in}
use Rattle.jk_window.specs.Numbered.{Adds, ArePrecincts, IsOf, IsNeededOf}
use Rattle.jk_window.proofs.NumberedNames.{precincts_few}
use Rattle.jk_window.proofs.Adding.{adds_none, adds_more, adds_same, IsInRows, row_of, coding_read, rows_none, rows_more, rows_all}
use Rattle.jk_window.proofs.intervals.push_resolution.Goals as goal

pub loop-row-init : goal.loop-row-init
loop-row-init c =
    let t = c.args.tile.now in
    let r = c.args.resolution in
    let x = c.needed_precincts-needed.result in
    let own = coding_read t.shape.now.codings c.as_slice-codings.result.now c.args.component c.index-codings-component.result c.as_slice-codings.ensures c.requires.component c.index-codings-component.is in
    let are = subst (λ (k : Coding). AreNeeded t.shape.now.rect k t.top t.reduce r x) own c.needed_precincts-needed.ensures.needed in
    let across = c.precinct_count-across.ensures.across ∙ ap (λ (k : Coding). precincts_across t.shape.now.rect k r) own in
    let first = ap (λ (q : ℕ × ℕ). q.0) c.rows-first.ensures.value in
    adds_none t.shape.now c.args.intervals.now.items (IsInRows t c.args.layers c.args.component r c.precinct_count-across.result.0 c.rows-first.result.0)
    (λ n is o. rows_none t c.args.layers c.args.component r x c.rows-first.result.0 are first n is
    (subst (λ w. IsInRows t c.args.layers c.args.component r w c.rows-first.result.0 n) across o))

pub numbers-requires-clause-columns : goal.numbers-requires-clause-columns
numbers-requires-clause-columns c =
    let ends = c.needed_precincts-needed.ensures.across c.loop-row.row in
    let across = c.precinct_count-across.ensures.across in
    omega (arith, ends, across)

pub numbers-requires-clause-start : goal.numbers-requires-clause-start
numbers-requires-clause-start c =
    let starts = c.needed_precincts-needed.ensures.start c.loop-row.row in
    let across = c.precinct_count-across.ensures.across in
    omega (arith, starts, across)

pub numbers-requires-clause-few : goal.numbers-requires-clause-few
numbers-requires-clause-few c =
    let t = c.args.tile.now in
    let r = c.args.resolution in
    let k = c.index-codings-component.result in
    let own = coding_read t.shape.now.codings c.as_slice-codings.result.now c.args.component k c.as_slice-codings.ensures c.requires.component c.index-codings-component.is in
    let w = c.precinct_count-across.result.0 in
    let across = c.precinct_count-across.ensures.across in
    let rows = ap (λ (q : ℕ × ℕ). q.1) c.rows-first.ensures.value in
    let test = c.loop-row-test.true in
    let down = c.needed_precincts-needed.ensures.down in
    let below : (c.loop-row.row + 1) * w ≤ precincts_down t.shape.now.rect k r * w = mul-le-mul_right w (omega (arith, rows, test, down)) in
    let all : precincts_down t.shape.now.rect k r * w ≡ precincts_down t.shape.now.rect k r * precincts_across t.shape.now.rect k r = ap (λ q. precincts_down t.shape.now.rect k r * q) across in
    let number : precinct_number t.shape.now.rect k r ≤ packet_count t.shape.now =
    subst (λ (q : Coding). precinct_number t.shape.now.rect q r ≤ packet_count t.shape.now) (sym own)
    (precincts_few t.shape.now c.args.component r c.requires.cut.1.shape c.requires.component c.requires.resolution) in
    let few = c.requires.few in
    omega (arith, below, all, number, few)

pub push_precincts-requires-clause-shape : goal.push_precincts-requires-clause-shape
push_precincts-requires-clause-shape c = subst IsTileShape (sym c.requires.numbers) c.requires.cut.1.shape

pub push_precincts-requires-clause-few : goal.push_precincts-requires-clause-few
push_precincts-requires-clause-few c = subst (λ (s : TileShape). packet_count s ≤ 2 ^ 24) (sym c.requires.numbers) c.requires.few

pub push_precincts-requires-clause-precincts : goal.push_precincts-requires-clause-precincts
push_precincts-requires-clause-precincts c =
    let t = c.args.tile.now in
    let r = c.args.resolution in
    let k = c.index-codings-component.result in
    let own = coding_read t.shape.now.codings c.as_slice-codings.result.now c.args.component k c.as_slice-codings.ensures c.requires.component c.index-codings-component.is in
    let x = c.needed_precincts-needed.result in
    let row = c.loop-row.row in
    let w = c.precinct_count-across.result.0 in
    let across = c.precinct_count-across.ensures.across in
    let rows = ap (λ (q : ℕ × ℕ). q.1) c.rows-first.ensures.value in
    let test = c.loop-row-test.true in
    let down = c.needed_precincts-needed.ensures.down in
    let below : (row + 1) * w ≤ precincts_down t.shape.now.rect k r * w = mul-le-mul_right w (omega (arith, rows, test, down)) in
    let all : precincts_down t.shape.now.rect k r * w ≡ precincts_down t.shape.now.rect k r * precincts_across t.shape.now.rect k r = ap (λ q. precincts_down t.shape.now.rect k r * q) across in
    let end : c.numbers.result.1 ≡ row * w + (columns_in x row).1 = ap (λ (q : ℕ × ℕ). q.1) c.numbers.ensures in
    let next : (row + 1) * w ≡ row * w + w = omega arith in
    let ends = c.needed_precincts-needed.ensures.across row in
    let within : c.numbers.result.1 ≤ precinct_number t.shape.now.rect k r = omega (arith, below, all, end, next, ends, across) in
    subst (λ (s : TileShape). ArePrecincts s (record { component = c.args.component; resolution = r; numbers = c.numbers.result; layers = c.args.layers })) (sym c.requires.numbers)
    (record {
      component = c.requires.component;
      resolution = c.requires.resolution;
      within = subst (λ (q : Coding). c.numbers.result.1 ≤ precinct_number t.shape.now.rect q r) own within;
      layers = c.requires.layers;
    })

pub push_precincts-requires-clause-order : goal.push_precincts-requires-clause-order
push_precincts-requires-clause-order c = ap (λ (s : TileShape). s.order) (sym c.requires.numbers)

pub loop-row-preserved : goal.loop-row-preserved
loop-row-preserved c =
    let t = c.args.tile.now in
    let l = c.args.layers in
    let k = c.args.component in
    let r = c.args.resolution in
    let x = c.needed_precincts-needed.result in
    let own = coding_read t.shape.now.codings c.as_slice-codings.result.now k c.index-codings-component.result c.as_slice-codings.ensures c.requires.component c.index-codings-component.is in
    let across = c.precinct_count-across.ensures.across ∙ ap (λ (q : Coding). precincts_across t.shape.now.rect q r) own in
    let w = c.precinct_count-across.result.0 in
    let row = c.loop-row.row in
    let cur = c.loop-row.intervals.items in
    let new = c.push_precincts.new.intervals.items in
    let rows = ap (λ (q : ℕ × ℕ). q.1) c.rows-first.ensures.value in
    let test = c.loop-row-test.true in
    let numbers = subst (λ (q : Coding). AreNeededNumbers t.shape.now.rect q t.top t.reduce r x) own c.needed_precincts-needed.ensures.numbers in
    let wide = subst (λ (q : Coding). (columns_in x row).1 ≤ precincts_across t.shape.now.rect q r) own (c.needed_precincts-needed.ensures.across row) in
    let down = subst (λ (q : Coding). (rows_in x).1 ≤ precincts_down t.shape.now.rect q r) own c.needed_precincts-needed.ensures.down in
    let adds = subst (λ (s : TileShape). Adds s cur new (IsOf (record { component = k; resolution = r; numbers = c.numbers.result; layers = l }))) c.requires.numbers c.in_ok-push_precincts.ensures.adds in
    let those = subst (λ (q : ℕ × ℕ). Adds t.shape.now cur new (IsOf (record { component = k; resolution = r; numbers = q; layers = l }))) c.numbers.ensures adds in
    adds_more t.shape.now c.args.intervals.now.items cur new (IsInRows t l k r w row) (IsOf (row_of k r l x w row)) (IsInRows t l k r w (row + 1))
    c.loop-row.invariant those
    (subst (λ q. (n : PacketName) → IsName t.shape.now n → (IsInRows t l k r q row n ⊎ IsOf (row_of k r l x q row) n) ↔ IsInRows t l k r q (row + 1) n) (sym across)
    (rows_more t l k r x row numbers wide (omega (arith, rows, test, down))))

pub returns-clause-adds : goal.returns-clause-adds
returns-clause-adds c =
    let t = c.args.tile.now in
    let r = c.args.resolution in
    let x = c.needed_precincts-needed.result in
    let own = coding_read t.shape.now.codings c.as_slice-codings.result.now c.args.component c.index-codings-component.result c.as_slice-codings.ensures c.requires.component c.index-codings-component.is in
    let are = subst (λ (k : Coding). AreNeeded t.shape.now.rect k t.top t.reduce r x) own c.needed_precincts-needed.ensures.needed in
    let across = c.precinct_count-across.ensures.across ∙ ap (λ (k : Coding). precincts_across t.shape.now.rect k r) own in
    let rows = ap (λ (q : ℕ × ℕ). q.1) c.rows-first.ensures.value in
    let past = c.loop-row-test.false in
    adds_same t.shape.now c.args.intervals.now.items c.loop-row.intervals.items
    (IsInRows t c.args.layers c.args.component r c.precinct_count-across.result.0 c.loop-row.row) (IsNeededOf t c.args.layers c.args.component r)
    c.loop-row.invariant
    (subst (λ w. (n : PacketName) → IsName t.shape.now n → IsInRows t c.args.layers c.args.component r w c.loop-row.row n ↔ IsNeededOf t c.args.layers c.args.component r n) (sym across)
    (rows_all t c.args.layers c.args.component r x c.loop-row.row are (omega (arith, rows, past))))
