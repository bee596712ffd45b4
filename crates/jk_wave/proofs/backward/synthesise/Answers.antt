use Rattle.std.proofs.Common.{ℕ, ℤ, Ok, sym, ◌∙◌, ap, subst}
use Rattle.jk_math.specs.declared.rect.Rect.{Rect}
use Rattle.jk_math.specs.Raster.{raster}
use Rattle.jk_wave.specs.Bands.{coefficients_of}
use Rattle.jk_wave.specs.Regions.{AreBandParts, ShowsParts}
use Rattle.jk_wave.specs.Resolutions.{resolution_of}
use Rattle.jk_wave.proofs.PartSamples.{whole_parts, whole_shown}
use Rattle.jk_wave.proofs.backward.synthesise.Goals as goal

pub synthesise_region-requires-clause-parts : goal.synthesise_region-requires-clause-parts
synthesise_region-requires-clause-parts c =
    let b = c.args.bands.now in
    subst (λ (q : Rect). AreBandParts (record { rect = b.rect; levels = b.levels; top = c.args.r; area = q }) b.bands) (sym c.resolution.ensures.value)
    (whole_parts b.rect b.levels c.args.r b.bands c.requires.r c.requires.bands)

pub returns-clause-exact : goal.returns-clause-exact
returns-clause-exact c =
    let b = c.args.bands.now in
    let f : ℕ → ℕ → ℕ → ℤ = coefficients_of b.rect b.levels b.bands in
    let shown = subst (λ (q : Rect). ShowsParts (record { rect = b.rect; levels = b.levels; top = c.args.r; area = q }) b.bands f) (sym c.resolution.ensures.value)
    (whole_shown b.rect b.levels c.args.r b.bands c.requires.r) in
    ap Ok (sym (c.in_ok-synthesise_region.ensures.part f shown ∙ ap (λ q. raster q (resolution_of b.rect b.levels f c.args.r)) c.resolution.ensures.value))
