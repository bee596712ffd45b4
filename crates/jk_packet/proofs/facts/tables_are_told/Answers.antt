use Rattle.jk_packet.proofs.WrittenLaws.{written_told, header_written}
use Rattle.jk_packet.proofs.BodyLaws.{bodies_parts, bodies_lengths, bodies_joined, block_written}
use Rattle.jk_packet.proofs.facts.tables_are_told.Goals as goal

pub returns-clause-told : goal.returns-clause-told
returns-clause-told c = written_told

pub returns-clause-headers : goal.returns-clause-headers
returns-clause-headers c = header_written

pub returns-clause-parts : goal.returns-clause-parts
returns-clause-parts c = bodies_parts

pub returns-clause-lengths : goal.returns-clause-lengths
returns-clause-lengths c = bodies_lengths

pub returns-clause-bodies : goal.returns-clause-bodies
returns-clause-bodies c = bodies_joined

pub returns-clause-blocks : goal.returns-clause-blocks
returns-clause-blocks c = block_written
