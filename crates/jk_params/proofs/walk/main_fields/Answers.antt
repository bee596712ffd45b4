use Rattle.std.proofs.Common.{◌≡◌, [], Ok, sym, ap, subst, ◌∙◌}
use Rattle.jk_marks.specs.Codestream.{head_of}
use Rattle.jk_params.specs.CodingReading.{codings_at}
use Rattle.jk_params.specs.HeadersReading.{IsProfileMain}
use Rattle.jk_params.proofs.GoodLaws.{good_main, good_codings}
use Rattle.jk_params.proofs.walk.main_fields.Goals as goal

pub count_alike-requires-clause-layers : goal.count_alike-requires-clause-layers
count_alike-requires-clause-layers c =
    let found = c.in_ok-main.ensures.found in
    (subst IsProfileMain (sym found.4) (good_main found.0 found.1 found.2)).layers

pub count_alike-requires-clause-codings : goal.count_alike-requires-clause-codings
count_alike-requires-clause-codings c =
    let found = c.in_ok-main.ensures.found in
    let main = c.in_ok-main.main in
    let ks = c.in_ok-codings.codings in
    let good = subst IsProfileMain (sym found.4) (good_main found.0 found.1 found.2) in
    let read : codings_at main (head_of []) ≡ Ok ks = ap (codings_at main) (sym c.none.ensures) ∙ sym c.in_ok-codings.ensures in
    (good_codings main (head_of []) ks good.siz.some_components good.siz.few_components good.styles read).0

pub returns-clause-good : goal.returns-clause-good
returns-clause-good c =
    let found = c.in_ok-main.ensures.found in
    subst IsProfileMain (sym found.4) (good_main found.0 found.1 found.2)

pub returns-clause-codings : goal.returns-clause-codings
returns-clause-codings c =
    let found = c.in_ok-main.ensures.found in
    let main = c.in_ok-main.main in
    let ks = c.in_ok-codings.codings in
    let good = subst IsProfileMain (sym found.4) (good_main found.0 found.1 found.2) in
    let read : codings_at main (head_of []) ≡ Ok ks = ap (codings_at main) (sym c.none.ensures) ∙ sym c.in_ok-codings.ensures in
    (good_codings main (head_of []) ks good.siz.some_components good.siz.few_components good.styles read).0
