use Rattle.jk_packet.proofs.PrecinctLaws.{header_some}
use Rattle.jk_packet.proofs.facts.headers_have_a_byte.Goals as goal

pub returns : goal.returns
returns c = header_some
