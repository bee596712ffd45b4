use Rattle.std.proofs.Common.{map, take, drop, get_or, ◌+◌, ◌-◌, ◌∙◌, ap, arith}
use Rattle.jk_math.specs.Steps.{answers_same}
use Rattle.jk_block.specs.Reading.{block_at}
use Rattle.jk_tile.specs.declared.decoding.bodies.BodyPlace.{BodyPlace}
use Rattle.jk_tile.specs.decoding.TileReading.{bodies_values}
use Rattle.jk_tile.specs.decoding.Gathered.{body_of}
use Rattle.jk_tile.proofs.decoding.Blocks.{block_is, one_body, if_small, if_long}
use Rattle.jk_tile.proofs.decoding.block.read_block.Goals as goal

pub returns-then-bodies-eq1-clause-exact : goal.returns-then-bodies-eq1-clause-exact
returns-then-bodies-eq1-clause-exact c =
    let bytes = c.args.bytes.now in
    let left = c.saturating_sub-left.ensures ∙ ap (λ n. c.args.planes - n) (c.zero_planes.ensures bytes) in
    let d : BodyPlace = record { part = record { band = 0; block = 0; zero_planes = 0; passes = 0; length = 0 }; start = 0 } in
    let b : BodyPlace = get_or c.args.bodies.now 0 d in
    let lent = one_body bytes c.args.bodies.now d c.if-bodies-eq1.true in
    answers_same (λ b. b.values.items) c.decode.result (block_at c.args.shape c.saturating_sub-left.result c.passes-count.result (take (b.start + b.part.length - b.start) (drop b.start bytes))) (bodies_values c.args.shape c.args.planes (map (body_of bytes) c.args.bodies.now)) c.decode.ensures.exact
    (block_is c.args.shape c.args.planes c.saturating_sub-left.result c.passes-count.result (take (b.start + b.part.length - b.start) (drop b.start bytes)) bytes c.args.bodies.now c.requires.planes left (c.passes-count.ensures bytes) lent)

pub returns-then-bodies-eq1-clause-small : goal.returns-then-bodies-eq1-clause-small
returns-then-bodies-eq1-clause-small c = if_small c.decode.result c.saturating_sub-left.result (omega (arith, c.saturating_sub-left.ensures, c.requires.planes)) c.decode.ensures.small

pub returns-then-bodies-eq1-clause-long : goal.returns-then-bodies-eq1-clause-long
returns-then-bodies-eq1-clause-long c = if_long c.decode.result c.args.shape c.saturating_sub-left.result c.passes-count.result _ c.decode.ensures.exact

pub returns-clause-exact : goal.returns-clause-exact
returns-clause-exact c =
    let bytes = c.args.bytes.now in
    let left = c.saturating_sub-left.ensures ∙ ap (λ n. c.args.planes - n) (c.zero_planes.ensures bytes) in
    answers_same (λ b. b.values.items) c.decode-2.result (block_at c.args.shape c.saturating_sub-left.result c.passes-count.result c.deref.result.now) (bodies_values c.args.shape c.args.planes (map (body_of bytes) c.args.bodies.now)) c.decode-2.ensures.exact
    (block_is c.args.shape c.args.planes c.saturating_sub-left.result c.passes-count.result c.deref.result.now bytes c.args.bodies.now c.requires.planes left (c.passes-count.ensures bytes) (c.deref.ensures.value ∙ c.in_ok-join.ensures.segment))

pub returns-clause-small : goal.returns-clause-small
returns-clause-small c = if_small c.decode-2.result c.saturating_sub-left.result (omega (arith, c.saturating_sub-left.ensures, c.requires.planes)) c.decode-2.ensures.small

pub returns-clause-long : goal.returns-clause-long
returns-clause-long c = if_long c.decode-2.result c.args.shape c.saturating_sub-left.result c.passes-count.result _ c.decode-2.ensures.exact
