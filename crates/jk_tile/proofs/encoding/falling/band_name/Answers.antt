use Rattle.std.proofs.Common.{sym, arith}
use Rattle.jk_tile.proofs.encoding.ComponentFalls.{name_high}
use Rattle.jk_tile.proofs.encoding.falling.band_name.Goals as goal

pub returns-clause-resolution : goal.returns-clause-resolution
returns-clause-resolution c = sym (name_high c.args.b (let some = c.if-b-eq0.false in omega (arith, some))).0

pub returns-clause-band : goal.returns-clause-band
returns-clause-band c = sym (name_high c.args.b (let some = c.if-b-eq0.false in omega (arith, some))).1
