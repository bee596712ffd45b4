use Rattle.std.proofs.Common.{inl, refl}
use Rattle.jk_web.specs.Images.{answer, gives_reply, gives_cached, gives_kept}
use Rattle.jk_web.proofs.RequestLaws.{begins_text}
use Rattle.jk_web.proofs.theorems.cut_texts_begin_whole_ones.Goals as goal

pub returns-clause-text : goal.returns-clause-text
returns-clause-text g c =
    λ images s t stream text k.
    begins_text (gives_reply g.C.Catalogue.broke g.C.Catalogue.reads g.C.Catalogue.cuts images) (λ u q. (answer q images, u, inl refl)) s stream text t k

pub returns-clause-cached : goal.returns-clause-cached
returns-clause-cached g c =
    λ images s t stream text k.
    begins_text (gives_cached g.C.Catalogue.broke g.C.Catalogue.reads g.C.Catalogue.made images) (λ u q. (answer q images, u, inl refl)) s stream text t k

pub returns-clause-same : goal.returns-clause-same
returns-clause-same g c =
    λ images s t stream text k.
    begins_text (gives_kept g.C.Catalogue.broke images) (λ u q. (answer q images, u, inl refl)) s stream text t k
