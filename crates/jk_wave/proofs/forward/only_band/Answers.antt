use Rattle.std.proofs.Common.{◌∷◌, [], List, ◌++◌, ap, ◌∙◌}
use Rattle.std.specs.Global.{Vec}
use Rattle.std.proofs.Common.{ℤ}
use Rattle.jk_math.specs.Lists.{lists_of}
use Rattle.jk_wave.proofs.Leaving.{band_alone}
use Rattle.jk_wave.proofs.forward.only_band.Goals as goal

pub returns-clause-exact : goal.returns-clause-exact
returns-clause-exact g c =
    let all : Vec ℤ = c.in_ok-all_rows.field-0 in
    band_alone c.args.rect.now (g.S.RowSource.value_at c.args.source.now) (lists_of c.push.new.self.items) all.items
    (ap lists_of (c.in_ok-push.ensures.items ∙ ap (λ (l : List (Vec ℤ)). l ++ all ∷ []) c.new-bands.ensures.items)) c.in_ok-all_rows.ensures.value
