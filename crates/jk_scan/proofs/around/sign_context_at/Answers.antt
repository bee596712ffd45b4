use Rattle.std.proofs.Common.{◌+◌, ◌-◌, ◌*◌, ◌/◌, ◌%◌, ◌^◌, ◌∙◌, arith}
use Rattle.jk_scan.specs.Words.{bordered}
use Rattle.jk_scan.specs.WordPlaces.{column, row}
use Rattle.jk_scan.proofs.Adding.{rows_between}
use Rattle.jk_scan.proofs.Seen.{AreFour, sign_seen}
use Rattle.jk_scan.proofs.Neighbourhoods.{joined, neighbourhood_is}
use Rattle.jk_scan.proofs.Beside.{four_seen}
use Rattle.jk_scan.proofs.around.sign_context_at.Goals as goal

pub returns-clause-value : goal.returns-clause-value
returns-clause-value c f n j s h g =
    let k = c.args.k in
    let a = c.args.significant in
    let d = c.args.negative in
    let b = rows_between (k % 8) c.requires.on_row in
    let C = 8 * (j + 1) + k / 8 in
    let R = 4 * (s + 1) + k % 8 - 1 in
    let v = neighbourhood_is a.centre a.west a.east k (omega arith) (omega arith) (bordered f) j (s + 1) (k / 8) (k % 8) h.centre h.west h.east (omega arith) (omega arith) b.0 b.1 in
    let w = neighbourhood_is d.centre d.west d.east k (omega arith) (omega arith) (bordered n) j (s + 1) (k / 8) (k % 8) g.centre g.west g.east (omega arith) (omega arith) b.0 b.1 in
    let p = c.columns_at.ensures in
    let q = c.columns_at-2.ensures in
    let places = c.four_beside-places.ensures in
    let signs = c.four_beside-signs.ensures in
    let four : AreFour f (column j k) (row s k) c.four_beside-places.result =
    four_seen f (column j k) (row s k) C R c.columns_at.result.west c.columns_at.result.centre c.columns_at.result.east c.four_beside-places.result (joined a.centre a.west a.east / 2 ^ (k - 1)) (omega arith) (omega (arith, b)) v
    (p.west (bordered f) j s h) (p.centre (bordered f) j s h) (p.east (bordered f) j s h) places.small places.west places.above places.below places.east in
    let negative : AreFour n (column j k) (row s k) c.four_beside-signs.result =
    four_seen n (column j k) (row s k) C R c.columns_at-2.result.west c.columns_at-2.result.centre c.columns_at-2.result.east c.four_beside-signs.result (joined d.centre d.west d.east / 2 ^ (k - 1)) (omega arith) (omega (arith, b)) w
    (q.west (bordered n) j s g) (q.centre (bordered n) j s g) (q.east (bordered n) j s g) signs.small signs.west signs.above signs.below signs.east in
    c.sign_context_of_eight.ensures.value ∙ sign_seen f n (column j k) (row s k) c.four_beside-places.result c.four_beside-signs.result four negative
