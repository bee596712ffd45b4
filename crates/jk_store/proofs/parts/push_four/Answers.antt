-- Four parts more.
use Rattle.std.proofs.Common.{List, ℕ, ◌++◌, ◌∙◌, ap}
use Rattle.jk_store.proofs.PartsLaws.{digests_four_more}
use Rattle.jk_store.proofs.parts.push_four.Goals as goal

pub returns-clause-ok : goal.returns-clause-ok
returns-clause-ok c before =
    digests_four_more c.args.bytes.now c.args.first c.args.digests.now.items c.extend_from_slice.new.self.items
    c.part.result.now c.part-2.result.now c.part-3.result.now c.part-4.result.now before
    c.part.ensures c.part-2.ensures c.part-3.ensures c.part-4.ensures
    (c.in_ok-extend_from_slice.ensures.items ∙ ap (λ (l : List (List ℕ)). c.args.digests.now.items ++ l) c.sha256_of_four-four.ensures)
