use Rattle.std.proofs.Common.{◌≡◌, replicate}
use Rattle.jk_packet.specs.Reading.{blank_block}
use Rattle.jk_packet.proofs.block.blank_blocks.Given as goal

abbrev pub invariant-loop : goal.invariant-loop
invariant-loop l = l.blocks.items ≡ replicate l.counter blank_block
