use Rattle.jk_window.proofs.Laws.{has_index}
use Rattle.jk_code.proofs.windows.pictures_have_indexes.Goals as goal

pub returns : goal.returns
returns c = λ bytes d p means.
    let shown = means.picture in
    has_index bytes means.codestream shown.headers means.holds shown.says (λ t lt. let tile = (shown.tiles t lt).decoded in (tile.packets, tile.tile))
