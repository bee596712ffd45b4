use Rattle.std.proofs.Common.{length, ◌∙◌, arith}
use Rattle.jk_math.proofs.Laws.{AreBytes}
use Rattle.jk_params.proofs.GoodLaws.{counted_parts}
use Rattle.jk_params.proofs.walk.read_tiles.Goals as goal

pub count_own-requires-clause-tiles : goal.count_own-requires-clause-tiles
count_own-requires-clause-tiles c =
    let bytes = c.args.bytes.now in
    let fits : AreBytes bytes = λ i. omega (arith, c.type_inv.bytes i) in
    let after = counted_parts (length bytes) c.args.main.now bytes c.args.at c.args.tiles.now c.read_parts.new.tiles fits c.requires.main c.requires.counted c.in_ok-read_parts.ensures in
    after.1 ∙ c.requires.tiles

pub count_own-requires-clause-layers : goal.count_own-requires-clause-layers
count_own-requires-clause-layers c = λ t lt.
    let bytes = c.args.bytes.now in
    let fits : AreBytes bytes = λ i. omega (arith, c.type_inv.bytes i) in
    let after = counted_parts (length bytes) c.args.main.now bytes c.args.at c.args.tiles.now c.read_parts.new.tiles fits c.requires.main c.requires.counted c.in_ok-read_parts.ensures in
    (after.0 t lt).0

pub count_own-requires-clause-codings : goal.count_own-requires-clause-codings
count_own-requires-clause-codings c = λ t lt.
    let bytes = c.args.bytes.now in
    let fits : AreBytes bytes = λ i. omega (arith, c.type_inv.bytes i) in
    let after = counted_parts (length bytes) c.args.main.now bytes c.args.at c.args.tiles.now c.read_parts.new.tiles fits c.requires.main c.requires.counted c.in_ok-read_parts.ensures in
    (after.0 t lt).1
