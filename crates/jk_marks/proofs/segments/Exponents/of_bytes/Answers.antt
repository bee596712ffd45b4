use Rattle.std.proofs.Common.{refl}
use Rattle.std.proofs.lemmas.List.{take_min}
use Rattle.std.proofs.Math.Nat.{min_comm}
use Rattle.jk_marks.proofs.segments.Exponents.of_bytes.Goals as goal

pub returns : goal.returns
returns c = rw (c.push_bytes.ensures, c.new-exponents.ensures, c.min.ensures, min_comm _ 31, take_min) refl
