use Rattle.jk_packet.proofs.ReadLaws.{included_bit, included_asks}
use Rattle.jk_packet.proofs.block.read_inclusion.Goals as goal

pub returns-then-block-clause-exact : goal.returns-then-block-clause-exact
returns-then-block-clause-exact c =
    included_bit c.args.layer c.args.leaf c.args.block c.args.tree.now c.args.reader.now c.bit.new.self c.bit.result c.if-block.true c.bit.ensures.exact

pub returns-else-block-clause-exact : goal.returns-else-block-clause-exact
returns-else-block-clause-exact c =
    included_asks c.args.layer c.args.leaf c.args.block (c.args.tree.now, c.args.reader.now) (c.ask.new.self, c.ask.new.reader) c.ask.result c.if-block.false c.ask.ensures.exact
