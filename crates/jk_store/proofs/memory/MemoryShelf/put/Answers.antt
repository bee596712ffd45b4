use Rattle.std.proofs.Common.{Some}
use Rattle.std.specs.String.{string_bytes}
use Rattle.jk_store.proofs.MemoryLaws.{seen_instead}
use Rattle.jk_store.proofs.memory.MemoryShelf.put.Goals as goal

pub returns-clause-ok : goal.returns-clause-ok
returns-clause-ok c = seen_instead (λ v. v.items) c.args.name.now (string_bytes c.in_ok-from_str.field-0) c.args.self.now.files c.insert.new.self (Some c.args.bytes) c.in_ok-from_str.ensures.ok c.in_ok-insert.ensures.updates
