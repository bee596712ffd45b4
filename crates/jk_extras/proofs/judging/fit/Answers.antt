use Rattle.std.proofs.Common.{◌+◌, ◌-◌, drop, sym, ◌∙◌, arith}
use Rattle.std.proofs.lemmas.Bool.{lt-leb, le-leb}
use Rattle.jk_extras.proofs.Sizes.{others_size, size_at, no_more, leb_by}
use Rattle.jk_extras.proofs.judging.fit.Goals as goal

pub returns-then-size-left : goal.returns-then-size-left
returns-then-size-left c =
    let os = c.args.others.now in
    let size = size_at os c.loop-other.other-index c.other-item.result (omega arith) c.other-item.is in
    sym (lt-leb _ _ (omega (arith, size, c.other_size-size.ensures))) ∙ c.loop-other.invariant

pub loop-other-preserved : goal.loop-other-preserved
loop-other-preserved c =
    let os = c.args.others.now in
    let i = c.loop-other.other-index in
    let size = size_at os i c.other-item.result (omega arith) c.other-item.is in
    let same = leb_by (others_size (drop (i + 1) os)) (c.loop-other.left - c.other_size-size.result) (others_size (drop i os)) c.loop-other.left
    (λ h. omega (arith, size, c.other_size-size.ensures)) (λ h. omega (arith, size, c.other_size-size.ensures)) in
    same ∙ c.loop-other.invariant

pub returns : goal.returns
returns c = sym (le-leb _ _ (omega (arith, no_more c.args.others.now c.loop-other.other-index (omega arith)))) ∙ c.loop-other.invariant
