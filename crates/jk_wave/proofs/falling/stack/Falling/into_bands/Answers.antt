use Rattle.std.proofs.Common.{◌∙◌, ap}
use Rattle.jk_wave.specs.falling.Stack.{reduced_rows, fallen_rows, HaveBands}
use Rattle.jk_wave.proofs.falling.Stacked.{band_whole, low_whole}
use Rattle.jk_wave.proofs.falling.stack.Falling.into_bands.Goals as goal

pub returns-clause-exact : goal.returns-clause-exact
returns-clause-exact c f keeps =
    let s = c.args.self in
    let area = c.requires.standing.2.area in
    let have : HaveBands s.rect s.levels f s.all.items = λ n o other less some few.
    keeps.high n o other less some few ∙ ap (λ y. fallen_rows s.rect s.levels s.rect.y0 y f n o) c.requires.last ∙ band_whole s.rect s.levels n o f area less some few in
    c.new.ensures ∙ c.in_ok-listed.ensures.exact s.rect f have (keeps.low ∙ ap (λ y. reduced_rows s.rect s.levels s.rect.y0 y f s.levels) c.requires.last ∙ low_whole s.rect s.levels f area)
