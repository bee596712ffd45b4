use Rattle.std.proofs.Common.{refl}
use Rattle.jk_scan.specs.Bits.{on}
use Rattle.jk_scan.specs.Contexts.{contribution_of, sign_context_of}
use Rattle.jk_scan.specs.Tables.{sign_context_by, sign_entries}
use Rattle.jk_scan.proofs.tables.sign_entry.Goals as goal

pub returns : goal.returns
unfolding on contribution_of sign_context_of sign_context_by sign_entries
returns c = refl
