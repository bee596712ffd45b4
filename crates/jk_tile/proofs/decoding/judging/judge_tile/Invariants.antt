use Rattle.std.proofs.Common.{◌≡◌}
use Rattle.jk_tile.proofs.Steps.{fine}
use Rattle.jk_tile.proofs.decoding.Judged.{components_tested}
use Rattle.jk_tile.proofs.decoding.judging.judge_tile.Given as goal

abbrev pub invariant-loop-c : goal.invariant-loop-c
invariant-loop-c l = components_tested l.coded.bytes l.coded.headers l.coded.number l.coded.reduce l.coded.packets l.c ≡ fine
