use Rattle.std.proofs.Common.{None, refl}
use Rattle.jk_store.proofs.MemoryLaws.{seen_instead}
use Rattle.jk_store.proofs.memory.MemoryShelf.take.Goals as goal

pub returns-clause-gone : goal.returns-clause-gone
returns-clause-gone c = seen_instead (λ v. v.items) c.args.name.now c.args.name.now c.args.self.now.files c.remove.new.self None refl c.remove.ensures.updates
