use Rattle.std.proofs.Common.{◌||◌, ap, ◌∙◌}
use Rattle.std.specs.Option.{is_some}
use Rattle.std.specs.BTreeMap.{get_by_text}
use Rattle.jk_commands.specs.Sums.{digest_of}
use Rattle.jk_commands.proofs.SumLaws.{differences_are, no_name}
use Rattle.jk_commands.proofs.comparing.differences.Goals as goal

pub returns-clause-exact : goal.returns-clause-exact
returns-clause-exact c =
    let all = λ (n : _). c.in_ok-add_names-2.ensures.ok n
    ∙ ap (λ b. is_some (digest_of c.args.now.now n) || b) (c.in_ok-add_names.ensures.ok n
    ∙ ap (λ b. is_some (digest_of c.args.before.now n) || b) (no_name c.new-names.result n c.new-names.ensures.empty)) in
    differences_are c.args.before.now c.args.now.now c.add_names-2.new.names (get_by_text c.in_ok-earlier.earlier) (get_by_text c.in_ok-present.present) c.told.result
    c.in_ok-earlier.ensures.ok c.in_ok-present.ensures.ok all c.told.ensures.ordered c.told.ensures.told
