use Rattle.std.proofs.Common.{◌||◌, true, cond, ap, ◌∙◌, arith}
use Rattle.std.specs.Option.{is_some}
use Rattle.std.specs.Str.{bytes_eq}
use Rattle.std.specs.String.{string_bytes}
use Rattle.std.specs.BTreeSet.{contains_text}
use Rattle.std.proofs.lemmas.Map.Text.{btree_set_updates_text}
use Rattle.jk_commands.specs.Sums.{digest_of}
use Rattle.jk_commands.proofs.SumLaws.{name_more}
use Rattle.jk_commands.proofs.comparing.add_names.Goals as goal

pub loop-sum-preserved : goal.loop-sum-preserved
loop-sum-preserved c = λ n.
    let old = contains_text c.loop-sum.names n in
    let key = c.in_ok-clone.field-0 in
    let step = btree_set_updates_text (string_bytes key) c.loop-sum.names c.insert.new.self true c.in_ok-insert.ensures.updates n
    ∙ ap (λ q. cond (bytes_eq q n) true old) c.in_ok-clone.ensures.cases in
    name_more c.args.sums.now c.loop-sum.sum-index c.sum-item.result n old (contains_text c.insert.new.self n) (is_some (digest_of c.args.sums.now n) || contains_text c.args.names.now n) (omega arith) c.sum-item.is step (c.loop-sum.invariant n)
