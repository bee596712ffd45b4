use Rattle.std.proofs.Common.{◌∙◌, ap, take}
use Rattle.jk_marks.proofs.Fronts.{take_take}
use Rattle.jk_marks.proofs.segments.Exponents.front.Goals as goal

pub returns : goal.returns
returns c =
    ap (λ k. take k c.self.inside.exponents) c.min.ensures ∙ take_take c.args.count c.self.inside.count c.self.inside.exponents ∙ ap (take c.args.count) c.self.view_is
