use Rattle.std.proofs.Common.{rules}
use Rattle.jk_commands.proofs.StreamLaws.{not_passed, not_failed}
use Rattle.jk_commands.proofs.StreamEndLaws.{source_left, source_dropped}
use Rattle.jk_commands.proofs.encoding_from.encode_to_end.Goals as goal

pub returns-then-not-is_bad-clause-part : goal.returns-then-not-is_bad-clause-part
returns-then-not-is_bad-clause-part g c =
    source_left g.S.Read.remaining (g.W.Write.contents c.args.writer.now) (g.W.Write.contents c.encode_incoming-told.new.writer) c.args.plan c.args.incoming.now c.encode_incoming-told.new.incoming c.encode_incoming-told.result
    c.requires (c.is_bad.ensures.other (search (rules, not_passed))) c.encode_incoming-told.ensures.part

pub returns-clause-part : goal.returns-clause-part
returns-clause-part g c =
    let rest = c.in_ok-dropped.ensures.took in
    source_dropped g.S.Read.remaining (g.W.Write.contents c.args.writer.now) (g.W.Write.contents c.encode_incoming-told.new.writer) c.args.plan c.args.incoming.now c.encode_incoming-told.new.incoming c.dropped.new.incoming
    c.encode_incoming-told.result rest.0 c.requires (c.is_bad.ensures.bad (search (rules, not_failed))) rest.1 c.in_ok-dropped.ensures.ended c.encode_incoming-told.ensures.part
