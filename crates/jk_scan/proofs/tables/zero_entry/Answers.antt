use Rattle.std.proofs.Common.{refl}
use Rattle.jk_scan.specs.Bits.{on}
use Rattle.jk_scan.specs.Contexts.{zero_context_of}
use Rattle.jk_scan.specs.Tables.{zero_context_by, contexts_by, zero_contexts}
use Rattle.jk_scan.proofs.tables.zero_entry.Goals as goal

pub returns : goal.returns
unfolding on zero_context_of zero_context_by contexts_by zero_contexts
returns c = refl
