use Rattle.std.proofs.Common.{Some, cond, ap, ◌∙◌, arith}
use Rattle.std.specs.Str.{bytes_eq}
use Rattle.std.specs.String.{string_bytes}
use Rattle.std.specs.BTreeMap.{get_by_text}
use Rattle.std.proofs.lemmas.Map.Text.{btree_map_updates_text}
use Rattle.jk_commands.specs.Sums.{digest_of}
use Rattle.jk_commands.proofs.SumLaws.{digest_more}
use Rattle.jk_commands.proofs.comparing.digests.Goals as goal

pub loop-sum-preserved : goal.loop-sum-preserved
loop-sum-preserved c = λ n.
    let old = get_by_text c.loop-sum.digests n in
    let key = c.in_ok-clone.field-0 in
    let step = btree_map_updates_text (string_bytes key) c.loop-sum.digests c.insert.new.self (Some c.sum-item.result.digest) c.in_ok-insert.ensures.updates n
    ∙ ap (λ q. cond (bytes_eq q n) (Some c.sum-item.result.digest) old) c.in_ok-clone.ensures.cases in
    digest_more c.args.sums.now c.loop-sum.sum-index c.sum-item.result n old (get_by_text c.insert.new.self n) (digest_of c.args.sums.now n) (omega arith) c.sum-item.is step (c.loop-sum.invariant n)
