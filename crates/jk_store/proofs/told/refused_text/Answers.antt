use Rattle.jk_math.specs.Steps.{if_ok}
use Rattle.jk_store.proofs.told.refused_text.Goals as goal

pub returns : goal.returns
returns c = if_ok c.refused_for.result (λ t e. (c.as_str.result.now, e)) c.refused_for.ensures
