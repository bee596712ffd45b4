use Rattle.std.proofs.Common.{◌≡◌, take, map}
use Rattle.jk_packet.proofs.writing.open_blocks.Given as goal

abbrev pub invariant-loop-first : goal.invariant-loop-first
invariant-loop-first l = l.blocks.items ≡ map (λ n. record { first = n; length_bits = 3 }) (take l.first-index l.firsts)
