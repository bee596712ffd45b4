use Rattle.std.proofs.Common.{sym, ◌∙◌}
use Rattle.jk_store.proofs.NameLaws.{named_file, bad_name}
use Rattle.jk_store.proofs.names.image_name.Goals as goal

pub returns-then-is_good_name : goal.returns-then-is_good_name
returns-then-is_good_name c = named_file c.args.file.now c.in_ok-name.name.now c.in_ok-name.ensures.cases (sym c.is_good_name.ensures ∙ c.if-is_good_name.true)

pub returns-else-is_good_name : goal.returns-else-is_good_name
returns-else-is_good_name c = bad_name c.args.file.now c.in_ok-name.name.now c.in_ok-name.ensures.cases (sym c.is_good_name.ensures ∙ c.if-is_good_name.false)
