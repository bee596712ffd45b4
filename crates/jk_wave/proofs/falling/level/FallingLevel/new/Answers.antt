use Rattle.std.proofs.Common.{rules, arith}
use Rattle.jk_wave.proofs.falling.level.FallingLevel.new.Goals as goal

pub returns-clause-standing : goal.returns-clause-standing
returns-clause-standing c = record {
  area = c.requires;
  upper = omega arith;
  lower = c.requires.upper;
  ready = λ _. c.in_ok-new.ensures.ready;
  row = search rules;
  none = c.none.ensures 0 (omega arith);
}
