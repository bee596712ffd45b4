use Rattle.std.proofs.Common.{◌+◌, ◌<◌, get_or, ◌∙◌, ap, sym, subst}
use Rattle.jk_scan.specs.Tables.{zero_contexts}
use Rattle.jk_scan.proofs.Entries.{zero_entry_at, zero_small}
use Rattle.jk_scan.proofs.tables.zero_context_of_nine.Goals as goal

pub returns-clause-value : goal.returns-clause-value
returns-clause-value c = c.zero_entry.ensures ∙ ap (λ n. get_or zero_contexts (n + c.args.nine) 0) c.first_entry.ensures.value ∙ zero_entry_at c.args.orientation c.args.nine c.requires

pub returns-clause-small : goal.returns-clause-small
returns-clause-small c = subst (λ n. n < 9) (sym (returns-clause-value c)) (zero_small c.args.orientation c.args.nine)
