use Rattle.std.proofs.Common.{◌≤◌, ap, sym, subst, ◌∙◌}
use Rattle.jk_window.specs.Emptying.{block_size, emptied_texts}
use Rattle.jk_window.proofs.EmptyTexts.{some_zeros, some_with_eph}
use Rattle.jk_window.proofs.emptying.emptied.Goals as goal

pub returns-then-eph : goal.returns-then-eph
returns-then-eph c =
    some_with_eph c.args.count (subst (λ b. c.args.count ≤ block_size b) c.if-eph.true c.requires)
    ∙ ap (λ b. emptied_texts b c.args.count) (sym c.if-eph.true)

pub returns-else-eph : goal.returns-else-eph
returns-else-eph c =
    some_zeros c.args.count (subst (λ b. c.args.count ≤ block_size b) c.if-eph.false c.requires)
    ∙ ap (λ b. emptied_texts b c.args.count) (sym c.if-eph.false)
