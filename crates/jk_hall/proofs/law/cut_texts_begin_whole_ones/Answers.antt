use Rattle.std.proofs.Common.{length, take, inl, refl}
use Rattle.jk_web.specs.Images.{answer}
use Rattle.jk_web.proofs.Laws.{begins_text}
use Rattle.jk_hall.specs.Reading.{seen}
use Rattle.jk_hall.specs.Behind.{GivesFirst, GivesFirstKept}
use Rattle.jk_hall.proofs.Fronts.{prefix_self}
use Rattle.jk_hall.proofs.law.cut_texts_begin_whole_ones.Goals as goal

pub returns-clause-any : goal.returns-clause-any
returns-clause-any g c =
    λ images s t stream text k.
    begins_text (GivesFirst g.S.Shelf.failed g.S.Shelf.gave g.S.Shelf.gave_at images)
    (λ u q. (answer q (take (length (seen u.0)) images), u, (prefix_self (seen u.0), inl refl))) s stream text t k

pub returns-clause-same : goal.returns-clause-same
returns-clause-same g c =
    λ images s t stream text k.
    begins_text (GivesFirstKept g.S.Shelf.failed g.S.Shelf.gave g.S.Shelf.gave_at images)
    (λ u q. (answer q (take (length (seen u.0)) images), u, (prefix_self (seen u.0), inl refl))) s stream text t k
