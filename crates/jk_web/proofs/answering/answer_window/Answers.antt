use Rattle.std.proofs.Common.{◌≡◌, inl, true, Some, is_some, IfOk, sym, subst, ◌∙◌}
use Rattle.jk_window.specs.declared.view.View.{View}
use Rattle.jk_web.specs.Resources.{window}
use Rattle.jk_web.specs.Queries.{pairs_of, asked_by}
use Rattle.jk_web.specs.Images.{image_of, HasNoCut, IsReplyAtWith, IsKeptReplyAt}
use Rattle.jk_web.proofs.ImageLaws.{at_name}
use Rattle.jk_web.proofs.ReplyLaws.{some_not, bad_window, no_cut, cut_sent, either, said, sent_as, refused_as}
use Rattle.jk_web.proofs.answering.answer_window.Goals as goal

pub returns-in_default-clause-exact : goal.returns-in_default-clause-exact
returns-in_default-clause-exact g c = λ images stands held.
    let has : is_some (image_of c.args.name.now images) ≡ true = sym (c.has.ensures images stands) ∙ c.if-not-has.false in
    at_name images c.args.name.now window has
    (λ r. IfOk c.refuse-in_default.result (IsReplyAtWith g.C.Catalogue.broke g.C.Catalogue.reads g.W.Windows.others images c.args.catalogue.now c.args.catalogue.now c.args.query.now c.args.close r))
    (said _ _ _ c.args.close c.refuse-in_default.result _
    (bad_window (image_of c.args.name.now images) (asked_by (pairs_of c.args.query.now)) has (sym c.in_ok-asked.ensures.exact ∙ c.in_default.is))
    c.refuse-in_default.ensures.exact)

pub returns-in_default-clause-same : goal.returns-in_default-clause-same
returns-in_default-clause-same g c = λ images stands kept known.
    let has : is_some (image_of c.args.name.now images) ≡ true = sym (c.has.ensures images stands) ∙ c.if-not-has.false in
    at_name images c.args.name.now window has
    (λ r. IfOk c.refuse-in_default.result (IsKeptReplyAt g.C.Catalogue.broke images c.args.catalogue.now c.args.catalogue.now c.args.query.now c.args.close r))
    (said _ _ _ c.args.close c.refuse-in_default.result _
    (bad_window (image_of c.args.name.now images) (asked_by (pairs_of c.args.query.now)) has (sym c.in_ok-asked.ensures.exact ∙ c.in_default.is))
    c.refuse-in_default.ensures.exact)

pub returns-in-Ok-clause-exact : goal.returns-in-Ok-clause-exact
returns-in-Ok-clause-exact g c = λ images stands held.
    let has : is_some (image_of c.args.name.now images) ≡ true = sym (c.has.ensures images stands) ∙ c.if-not-has.false in
    let is : asked_by (pairs_of c.args.query.now) ≡ Some c.in-Some.asked = sym c.in_ok-asked.ensures.exact ∙ c.in-Some.is in
    let given = rw (← c.deref.ensures.value) at (c.in-Ok.ensures.gives images stands held) in
    at_name images c.args.name.now window has
    (λ r. IfOk c.answered.result (IsReplyAtWith g.C.Catalogue.broke g.C.Catalogue.reads g.W.Windows.others images c.args.catalogue.now c.window.new.catalogue c.args.query.now c.args.close r))
    (sent_as _ _ _ c.args.close c.answered.result c.deref.result.now
    (either given (λ due. cut_sent (image_of c.args.name.now images) (asked_by (pairs_of c.args.query.now)) c.in-Some.asked c.deref.result.now is due) (λ other. (c.in-Some.asked, is, other)))
    c.answered.ensures.exact)

pub returns-in-Ok-clause-same : goal.returns-in-Ok-clause-same
returns-in-Ok-clause-same g c = λ images stands kept known.
    let has : is_some (image_of c.args.name.now images) ≡ true = sym (c.has.ensures images stands) ∙ c.if-not-has.false in
    let is : asked_by (pairs_of c.args.query.now) ≡ Some c.in-Some.asked = sym c.in_ok-asked.ensures.exact ∙ c.in-Some.is in
    let given = rw (← c.deref.ensures.value) at (c.in-Ok.ensures.same images stands kept known) in
    at_name images c.args.name.now window has
    (λ r. IfOk c.answered.result (IsKeptReplyAt g.C.Catalogue.broke images c.args.catalogue.now c.window.new.catalogue c.args.query.now c.args.close r))
    (sent_as _ _ _ c.args.close c.answered.result c.deref.result.now
    (inl (cut_sent (image_of c.args.name.now images) (asked_by (pairs_of c.args.query.now)) c.in-Some.asked c.deref.result.now is given))
    c.answered.ensures.exact)

pub returns-in-Err-clause-exact : goal.returns-in-Err-clause-exact
returns-in-Err-clause-exact g c = λ images stands held.
    let has : is_some (image_of c.args.name.now images) ≡ true = sym (c.has.ensures images stands) ∙ c.if-not-has.false in
    at_name images c.args.name.now window has
    (λ r. IfOk c.refused.result (IsReplyAtWith g.C.Catalogue.broke g.C.Catalogue.reads g.W.Windows.others images c.args.catalogue.now c.window.new.catalogue c.args.query.now c.args.close r))
    (refused_as _ _ _ c.args.close c.refused.result (image_of c.args.name.now images) (HasNoCut (image_of c.args.name.now images) c.in-Some.asked) c.in-Err.fault (c.in-Err.ensures.refuses images stands)
    (some_not (image_of c.args.name.now images) has) (no_cut (image_of c.args.name.now images) (asked_by (pairs_of c.args.query.now)) c.in-Some.asked (sym c.in_ok-asked.ensures.exact ∙ c.in-Some.is)) c.refused.ensures.exact c.refused.ensures.passed)

pub returns-in-Err-clause-same : goal.returns-in-Err-clause-same
returns-in-Err-clause-same g c = λ images stands kept known.
    let has : is_some (image_of c.args.name.now images) ≡ true = sym (c.has.ensures images stands) ∙ c.if-not-has.false in
    at_name images c.args.name.now window has
    (λ r. IfOk c.refused.result (IsKeptReplyAt g.C.Catalogue.broke images c.args.catalogue.now c.window.new.catalogue c.args.query.now c.args.close r))
    (refused_as _ _ _ c.args.close c.refused.result (image_of c.args.name.now images) (HasNoCut (image_of c.args.name.now images) c.in-Some.asked) c.in-Err.fault (c.in-Err.ensures.refuses images stands)
    (some_not (image_of c.args.name.now images) has) (no_cut (image_of c.args.name.now images) (asked_by (pairs_of c.args.query.now)) c.in-Some.asked (sym c.in_ok-asked.ensures.exact ∙ c.in-Some.is)) c.refused.ensures.exact c.refused.ensures.passed)

pub returns-in-Ok-clause-unread : goal.returns-in-Ok-clause-unread
returns-in-Ok-clause-unread g c = λ asked b is has.
    let same : Some asked ≡ Some c.in-Some.asked = sym is ∙ sym c.in_ok-asked.ensures.exact ∙ c.in-Some.is in
    let own : asked ≡ c.in-Some.asked = cc in
    c.window.ensures.unread b (subst (λ (a : View). g.W.Windows.has c.args.windows.now c.args.name.now a b) own has)

pub returns-in-Err-clause-unread : goal.returns-in-Err-clause-unread
returns-in-Err-clause-unread g c = λ asked b is has.
    let same : Some asked ≡ Some c.in-Some.asked = sym is ∙ sym c.in_ok-asked.ensures.exact ∙ c.in-Some.is in
    let own : asked ≡ c.in-Some.asked = cc in
    c.window.ensures.unread b (subst (λ (a : View). g.W.Windows.has c.args.windows.now c.args.name.now a b) own has)
