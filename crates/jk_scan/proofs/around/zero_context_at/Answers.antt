use Rattle.std.proofs.Common.{◌+◌, ◌-◌, ◌*◌, ◌/◌, ◌%◌, ◌^◌, ◌∙◌, arith}
use Rattle.jk_scan.specs.Words.{bordered}
use Rattle.jk_scan.specs.WordPlaces.{column, row}
use Rattle.jk_scan.proofs.Adding.{rows_between}
use Rattle.jk_scan.proofs.Seen.{seen, zero_seen}
use Rattle.jk_scan.proofs.Neighbourhoods.{joined, neighbourhood_is}
use Rattle.jk_scan.proofs.Beside.{nine_of_neighbourhood}
use Rattle.jk_scan.proofs.around.zero_context_at.Goals as goal

pub returns-clause-value : goal.returns-clause-value
returns-clause-value c f j s h =
    let k = c.args.k in
    let a = c.args.significant in
    let b = rows_between (k % 8) c.requires.on_row in
    let C = 8 * (j + 1) + k / 8 in
    let R = 4 * (s + 1) + k % 8 - 1 in
    let neighbourhood = joined a.centre a.west a.east / 2 ^ (k - 1) in
    let w = neighbourhood_is a.centre a.west a.east k (omega arith) (omega arith) (bordered f) j (s + 1) (k / 8) (k % 8) h.centre h.west h.east (omega arith) (omega arith) b.0 b.1 in
    let n = c.columns_at.ensures in
    c.zero_context_of_nine.ensures.value
    ∙ zero_seen c.args.orientation f (column j k) (row s k) neighbourhood c.nine_beside.result
    (seen f (column j k) (row s k) C R neighbourhood (omega arith) (omega (arith, b)) w)
    (nine_of_neighbourhood (bordered f) C R c.columns_at.result.west c.columns_at.result.centre c.columns_at.result.east c.nine_beside.result neighbourhood w
    (n.west (bordered f) j s h) (n.centre (bordered f) j s h) (n.east (bordered f) j s h) c.nine_beside.ensures.west c.nine_beside.ensures.centre c.nine_beside.ensures.east)
