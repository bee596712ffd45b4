use Rattle.std.proofs.Common.{Option, sym, ap, ◌∙◌, Bor}
use Rattle.std.specs.Prelude.{option_map}
use Rattle.jk_marks.specs.declared.head.TileHead.{TileHead}
use Rattle.jk_params.specs.CodingReading.{head_or_none}
use Rattle.jk_params.proofs.coding.effective.Goals as goal

pub returns-in-Some-clause-only : goal.returns-in-Some-clause-only
returns-in-Some-clause-only c = λ siz segments tile m h has.
    c.with_head.ensures.only siz segments tile m (sym (ap (λ (o : Option (Bor TileHead)). head_or_none (option_map (λ h. h.now) o)) c.in-Some.is) ∙ h) has

pub returns-in-Some-clause-found : goal.returns-in-Some-clause-found
returns-in-Some-clause-found c = λ siz segments tile m h.
    c.with_head.ensures.found siz segments tile m (sym (ap (λ (o : Option (Bor TileHead)). head_or_none (option_map (λ h. h.now) o)) c.in-Some.is) ∙ h)

pub returns-in-None-clause-only : goal.returns-in-None-clause-only
returns-in-None-clause-only c = λ siz segments tile m h has.
    c.with_head-in-None.ensures.only siz segments tile m (c.none.ensures ∙ sym (ap (λ (o : Option (Bor TileHead)). head_or_none (option_map (λ h. h.now) o)) c.in-None.is) ∙ h) has

pub returns-in-None-clause-found : goal.returns-in-None-clause-found
returns-in-None-clause-found c = λ siz segments tile m h.
    c.with_head-in-None.ensures.found siz segments tile m (c.none.ensures ∙ sym (ap (λ (o : Option (Bor TileHead)). head_or_none (option_map (λ h. h.now) o)) c.in-None.is) ∙ h)
