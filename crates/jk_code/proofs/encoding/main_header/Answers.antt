use Rattle.std.proofs.Common.{◌≡◌, refl, ap, sym, subst, ◌∙◌}
use Rattle.jk_marks.specs.Codestream.{IsWritten}
use Rattle.jk_params.specs.Profile.{siz_of}
use Rattle.jk_tile.specs.encoding.Needs.{exponents_for}
use Rattle.jk_params.specs.Profile.{siz_for}
use Rattle.jk_code.specs.Contents.{HasPicture}
use Rattle.jk_code.proofs.HeaderLaws.{main_written}
use Rattle.jk_code.proofs.encoding.main_header.Goals as goal

pub returns-clause-value : goal.returns-clause-value
returns-clause-value c p has =
    let q = c.args.source.now.parameters.now in
    let siz : c.siz_for.result ≡ siz_of p q = c.siz_for.ensures.value ∙ ap (λ f. siz_for f q) has.frame in
    let exponents : c.copy.result ≡ exponents_for p q = c.copy.ensures ∙ has.exponents in
    rw (siz, c.cod_of.ensures, exponents) refl

pub returns-clause-written : goal.returns-clause-written
returns-clause-written c =
    let has : HasPicture c.args.source.now c.requires.some.0 = c.requires.some.1 in
    subst IsWritten (sym (returns-clause-value c c.requires.some.0 has)) (main_written c.requires.some.0 c.args.source.now.parameters.now has.picture has.written)
