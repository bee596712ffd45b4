use Rattle.std.proofs.Common.{◌≡◌, ◌++◌, ◌/◌, map, take}
use Rattle.jk_marks.proofs.segments.Exponents.push_bytes.Given as goal

abbrev pub invariant-loop-byte : goal.invariant-loop-byte
invariant-loop-byte l = l.self ≡ l.fn.self ++ map (λ b. b / 8) (take l.byte-index l.bytes)
