use Rattle.std.proofs.Common.{◌≡◌, inl, true, is_some, IfOk, sym, ◌∙◌}
use Rattle.jk_web.specs.Resources.{whole}
use Rattle.jk_web.specs.Pairs.{are_none}
use Rattle.jk_web.specs.Queries.{pairs_of}
use Rattle.jk_web.specs.Images.{image_of, IsReplyAt, IsKeptReplyAt}
use Rattle.jk_web.proofs.ImageLaws.{at_name}
use Rattle.jk_web.proofs.ReplyLaws.{some_not, bad_whole, whole_sent, either, said, sent_as, refused_as}
use Rattle.jk_web.proofs.answering.answer_whole.Goals as goal

pub returns-then-not-is_empty-clause-exact : goal.returns-then-not-is_empty-clause-exact
returns-then-not-is_empty-clause-exact g c = λ images stands.
    let has : is_some (image_of c.args.name.now images) ≡ true = sym (c.has.ensures images stands) ∙ c.if-not-has.false in
    at_name images c.args.name.now whole has
    (λ r. IfOk c.refuse-then-not-is_empty.result (IsReplyAt g.C.Catalogue.broke g.C.Catalogue.reads g.C.Catalogue.cuts images c.args.catalogue.now c.args.catalogue.now c.args.query.now c.args.close r))
    (said _ _ _ c.args.close c.refuse-then-not-is_empty.result _
    (bad_whole (image_of c.args.name.now images) (are_none (pairs_of c.args.query.now)) has (sym c.is_empty.ensures ∙ c.if-not-is_empty.true))
    c.refuse-then-not-is_empty.ensures.exact)

pub returns-then-not-is_empty-clause-same : goal.returns-then-not-is_empty-clause-same
returns-then-not-is_empty-clause-same g c = λ images stands kept.
    let has : is_some (image_of c.args.name.now images) ≡ true = sym (c.has.ensures images stands) ∙ c.if-not-has.false in
    at_name images c.args.name.now whole has
    (λ r. IfOk c.refuse-then-not-is_empty.result (IsKeptReplyAt g.C.Catalogue.broke images c.args.catalogue.now c.args.catalogue.now c.args.query.now c.args.close r))
    (said _ _ _ c.args.close c.refuse-then-not-is_empty.result _
    (bad_whole (image_of c.args.name.now images) (are_none (pairs_of c.args.query.now)) has (sym c.is_empty.ensures ∙ c.if-not-is_empty.true))
    c.refuse-then-not-is_empty.ensures.exact)

pub returns-in-Ok-clause-exact : goal.returns-in-Ok-clause-exact
returns-in-Ok-clause-exact g c = λ images stands.
    let has : is_some (image_of c.args.name.now images) ≡ true = sym (c.has.ensures images stands) ∙ c.if-not-has.false in
    let bare : are_none (pairs_of c.args.query.now) ≡ true = sym c.is_empty.ensures ∙ c.if-not-is_empty.false in
    let given = rw (← c.deref.ensures.value) at (c.in-Ok.ensures.gives images stands) in
    at_name images c.args.name.now whole has
    (λ r. IfOk c.answered.result (IsReplyAt g.C.Catalogue.broke g.C.Catalogue.reads g.C.Catalogue.cuts images c.args.catalogue.now c.whole.new.self c.args.query.now c.args.close r))
    (sent_as _ _ _ c.args.close c.answered.result c.deref.result.now
    (either given (λ is. whole_sent (image_of c.args.name.now images) (are_none (pairs_of c.args.query.now)) c.deref.result.now bare is) (λ other. (bare, other)))
    c.answered.ensures.exact)

pub returns-in-Ok-clause-same : goal.returns-in-Ok-clause-same
returns-in-Ok-clause-same g c = λ images stands kept.
    let has : is_some (image_of c.args.name.now images) ≡ true = sym (c.has.ensures images stands) ∙ c.if-not-has.false in
    let bare : are_none (pairs_of c.args.query.now) ≡ true = sym c.is_empty.ensures ∙ c.if-not-is_empty.false in
    let given = rw (← c.deref.ensures.value) at (c.in-Ok.ensures.same images stands kept) in
    at_name images c.args.name.now whole has
    (λ r. IfOk c.answered.result (IsKeptReplyAt g.C.Catalogue.broke images c.args.catalogue.now c.whole.new.self c.args.query.now c.args.close r))
    (sent_as _ _ _ c.args.close c.answered.result c.deref.result.now
    (inl (whole_sent (image_of c.args.name.now images) (are_none (pairs_of c.args.query.now)) c.deref.result.now bare given))
    c.answered.ensures.exact)

pub returns-in-Err-clause-exact : goal.returns-in-Err-clause-exact
returns-in-Err-clause-exact g c = λ images stands.
    let has : is_some (image_of c.args.name.now images) ≡ true = sym (c.has.ensures images stands) ∙ c.if-not-has.false in
    at_name images c.args.name.now whole has
    (λ r. IfOk c.refused.result (IsReplyAt g.C.Catalogue.broke g.C.Catalogue.reads g.C.Catalogue.cuts images c.args.catalogue.now c.whole.new.self c.args.query.now c.args.close r))
    (refused_as _ _ _ c.args.close c.refused.result (image_of c.args.name.now images) ⊥ c.in-Err.fault (c.in-Err.ensures.gives images stands)
    (some_not (image_of c.args.name.now images) has) (λ x. absurd x) c.refused.ensures.exact c.refused.ensures.passed)

pub returns-in-Err-clause-same : goal.returns-in-Err-clause-same
returns-in-Err-clause-same g c = λ images stands kept.
    let has : is_some (image_of c.args.name.now images) ≡ true = sym (c.has.ensures images stands) ∙ c.if-not-has.false in
    at_name images c.args.name.now whole has
    (λ r. IfOk c.refused.result (IsKeptReplyAt g.C.Catalogue.broke images c.args.catalogue.now c.whole.new.self c.args.query.now c.args.close r))
    (refused_as _ _ _ c.args.close c.refused.result (image_of c.args.name.now images) ⊥ c.in-Err.fault (c.in-Err.ensures.gives images stands)
    (some_not (image_of c.args.name.now images) has) (λ x. absurd x) c.refused.ensures.exact c.refused.ensures.passed)
