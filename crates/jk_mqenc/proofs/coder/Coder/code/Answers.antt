use Rattle.jk_mqenc.proofs.Settling.{doubled-once}
use Rattle.jk_mqenc.proofs.coder.Coder.code.Goals as goal

pub returns-in-Some : goal.returns-in-Some
returns-in-Some c = record {
  done = doubled-once c.args.self.now c.args.taken c.in-Some.registers c.requires.holds c.in-Some.ensures.doubled;
}
