use Rattle.std.proofs.Common.{sym, ap, ◌∙◌, Ok, arith}
use Rattle.std.proofs.lemmas.Result.{err_from_is_err_and}
use Rattle.jk_packet.proofs.ReadLaws.{zeros_known, zeros_err, zeros_none, zeros_ok}
use Rattle.jk_packet.proofs.block.read_zero_planes.Goals as goal

pub returns-then-block-clause-exact : goal.returns-then-block-clause-exact
returns-then-block-clause-exact c = zeros_known c.args.planes c.args.leaf c.args.block (c.args.tree.now, c.args.reader.now) c.if-block.true

pub returns-in_err-known-clause-exact : goal.returns-in_err-known-clause-exact
returns-in_err-known-clause-exact c =
    let p = err_from_is_err_and c.from_residual.result c.from_residual.ensures.1 in
    rw (p.1, p.2) (zeros_err c.args.planes c.args.leaf c.args.block (c.args.tree.now, c.args.reader.now) c.in_err-known.field-0.0 c.if-block.false c.in_err-known.ensures.exact)

pub returns-then-not-known-clause-exact : goal.returns-then-not-known-clause-exact
returns-then-not-known-clause-exact c =
    zeros_none c.args.planes c.args.leaf c.args.block (c.args.tree.now, c.args.reader.now) (c.in_ok-known.known, (c.ask.new.self, c.ask.new.reader)) c.if-block.false c.in_ok-known.ensures.exact c.if-not-known.true

pub overflow_cast-result : goal.overflow_cast-result
overflow_cast-result c =
    let below = (c.in_ok-known.ensures.below c.if-not-known.false).1 in
    let is = c.low.ensures in
    let range = c.ranges.planes in
    omega (arith, below, is, range)

pub returns-clause-exact : goal.returns-clause-exact
returns-clause-exact c =
    zeros_ok c.args.planes c.args.leaf c.args.block (c.args.tree.now, c.args.reader.now) (c.in_ok-known.known, (c.ask.new.self, c.ask.new.reader)) c.if-block.false c.in_ok-known.ensures.exact c.if-not-known.false
    ∙ ap (λ n. Ok (n, (c.ask.new.self, c.ask.new.reader))) (sym c.low.ensures)
