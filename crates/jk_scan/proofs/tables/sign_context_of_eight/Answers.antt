use Rattle.std.proofs.Common.{◌∙◌}
use Rattle.jk_scan.proofs.Entries.{sign_at_entry, unpacked, sign_small}
use Rattle.jk_scan.specs.Tables.{sign_context_by}
use Rattle.jk_scan.proofs.tables.sign_context_of_eight.Goals as goal

pub returns-clause-value : goal.returns-clause-value
returns-clause-value c = unpacked c.sign_entry-entry.result (sign_context_by c.args.eight) (c.sign_entry-entry.ensures ∙ sign_at_entry c.args.eight c.requires)

pub returns-clause-small : goal.returns-clause-small
returns-clause-small c = sign_small c.sign_entry-entry.result c.args.eight (c.sign_entry-entry.ensures ∙ sign_at_entry c.args.eight c.requires)
