use Rattle.std.proofs.Common.{refl}
use Rattle.jk_files.proofs.IncomingLaws.{took_read}
use Rattle.jk_files.proofs.incoming.Incoming.read_once.Goals as goal

pub returns-clause-took : goal.returns-clause-took
returns-clause-took g c = took_read g.S.Read.remaining c.args.self.now _ c.read_more.result _ _ refl c.requires c.requires c.read_more.ensures
