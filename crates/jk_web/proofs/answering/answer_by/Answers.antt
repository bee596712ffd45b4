use Rattle.std.proofs.Common.{◌≡◌, true, codes, ℕ, List, IfOk, ap, subst, ◌∙◌, rules}
use Rattle.std.specs.Str.{bytes_eq}
use Rattle.jk_web.specs.Resources.{path_of, query_of}
use Rattle.jk_web.specs.Queries.{pairs_of, asked_by}
use Rattle.jk_math.specs.Steps.{if_ok}
use Rattle.jk_web.specs.Images.{IsBroken, IsOtherRead, IsOtherSent, IsReplyOf}
use Rattle.jk_web.proofs.ImageLaws.{answered, whole_alone, window_for, whole_not, window_named}
use Rattle.jk_web.proofs.ReplyLaws.{reply_as}
use Rattle.jk_web.proofs.answering.answer_by.Goals as goal

pub returns-in-Whole-clause-exact : goal.returns-in-Whole-clause-exact
returns-in-Whole-clause-exact g c =
    let q = c.args.request.now in
    let get : bytes_eq q.method (codes "GET") ≡ true = search rules in
    λ images stands held segments.
    answered q images c.split_target.result.0.now c.split_target.result.1.now _ get
    (c.split_target.ensures.path ∙ ap path_of c.as_slice-3.ensures) (c.split_target.ensures.query ∙ ap query_of c.as_slice-3.ensures) (c.in-Whole.ensures _ segments)
    (λ due r query. IfOk c.answer_whole.result (IsReplyOf due (IsBroken (λ n. g.C.Catalogue.broke c.args.catalogue.now n c.answer_whole.new.catalogue) r)
    (IsOtherSent images (λ n file. g.C.Catalogue.reads c.args.catalogue.now n file c.answer_whole.new.catalogue)
    (λ image n asked cut. g.W.Windows.others image c.args.catalogue.now n asked c.answer_whole.new.catalogue cut) query r) q.closes))
    (if_ok c.answer_whole.result
    (λ r. reply_as _ _ _ _ q.closes r (whole_alone images _
    (λ image n asked cut. IsOtherRead g.C.Catalogue.cuts image c.args.catalogue.now n asked c.answer_whole.new.catalogue cut)
    (λ image n asked cut. g.W.Windows.others image c.args.catalogue.now n asked c.answer_whole.new.catalogue cut) c.in-Whole.name.now c.split_target.result.1.now))
    (c.answer_whole.ensures.exact images stands))

pub returns-in-Whole-clause-same : goal.returns-in-Whole-clause-same
returns-in-Whole-clause-same g c =
    let q = c.args.request.now in
    let get : bytes_eq q.method (codes "GET") ≡ true = search rules in
    λ images stands kept known segments.
    answered q images c.split_target.result.0.now c.split_target.result.1.now _ get
    (c.split_target.ensures.path ∙ ap path_of c.as_slice-3.ensures) (c.split_target.ensures.query ∙ ap query_of c.as_slice-3.ensures) (c.in-Whole.ensures _ segments)
    (λ due r query. IfOk c.answer_whole.result (IsReplyOf due (IsBroken (λ n. g.C.Catalogue.broke c.args.catalogue.now n c.answer_whole.new.catalogue) r) (λ _. ⊥) q.closes))
    (c.answer_whole.ensures.same images stands kept)

pub returns-in-Window-clause-exact : goal.returns-in-Window-clause-exact
returns-in-Window-clause-exact g c =
    let q = c.args.request.now in
    let get : bytes_eq q.method (codes "GET") ≡ true = search rules in
    λ images stands held segments.
    answered q images c.split_target.result.0.now c.split_target.result.1.now _ get
    (c.split_target.ensures.path ∙ ap path_of c.as_slice-3.ensures) (c.split_target.ensures.query ∙ ap query_of c.as_slice-3.ensures) (c.in-Window.ensures _ segments)
    (λ due r query. IfOk c.answer_window.result (IsReplyOf due (IsBroken (λ n. g.C.Catalogue.broke c.args.catalogue.now n c.answer_window.new.catalogue) r)
    (IsOtherSent images (λ n file. g.C.Catalogue.reads c.args.catalogue.now n file c.answer_window.new.catalogue)
    (λ image n asked cut. g.W.Windows.others image c.args.catalogue.now n asked c.answer_window.new.catalogue cut) query r) q.closes))
    (c.answer_window.ensures.exact images stands held)

pub returns-in-Window-clause-same : goal.returns-in-Window-clause-same
returns-in-Window-clause-same g c =
    let q = c.args.request.now in
    let get : bytes_eq q.method (codes "GET") ≡ true = search rules in
    λ images stands kept known segments.
    answered q images c.split_target.result.0.now c.split_target.result.1.now _ get
    (c.split_target.ensures.path ∙ ap path_of c.as_slice-3.ensures) (c.split_target.ensures.query ∙ ap query_of c.as_slice-3.ensures) (c.in-Window.ensures _ segments)
    (λ due r query. IfOk c.answer_window.result (IsReplyOf due (IsBroken (λ n. g.C.Catalogue.broke c.args.catalogue.now n c.answer_window.new.catalogue) r) (λ _. ⊥) q.closes))
    (c.answer_window.ensures.same images stands kept known)

pub returns-in-Whole-clause-unread : goal.returns-in-Whole-clause-unread
returns-in-Whole-clause-unread g c =
    let q = c.args.request.now in
    let get : bytes_eq q.method (codes "GET") ≡ true = search rules in
    λ names segments hit.
    absurd (whole_not names c.in-Whole.name.now hit.0
    (window_for q names c.split_target.result.0.now _ hit.0 get (c.split_target.ensures.path ∙ ap path_of c.as_slice-3.ensures) (c.in-Whole.ensures names segments) hit.3))

pub returns-in-Window-clause-unread : goal.returns-in-Window-clause-unread
returns-in-Window-clause-unread g c =
    let q = c.args.request.now in
    let get : bytes_eq q.method (codes "GET") ≡ true = search rules in
    λ names segments hit.
    let name : hit.0 ≡ c.in-Window.name.now = window_named names c.in-Window.name.now hit.0
    (window_for q names c.split_target.result.0.now _ hit.0 get (c.split_target.ensures.path ∙ ap path_of c.as_slice-3.ensures) (c.in-Window.ensures names segments) hit.3) in
    let query : c.split_target.result.1.now ≡ query_of q.target = c.split_target.ensures.query ∙ ap query_of c.as_slice-3.ensures in
    c.answer_window.ensures.unread hit.1 hit.2 (ap (λ t. asked_by (pairs_of t)) query ∙ hit.4)
    (subst (λ (n : List ℕ). g.W.Windows.has c.args.windows.now n hit.1 hit.2) name hit.5)
