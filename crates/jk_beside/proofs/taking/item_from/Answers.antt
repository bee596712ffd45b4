use Rattle.std.proofs.Common.{◌≡◌, ℕ, ◌++◌, ◌∷◌, List, [], Option, Some, None, Ok, refl, sym, ap, ◌∙◌, arith}
use Rattle.std.proofs.lemmas.List.{take_rest}
use Rattle.jk_boxes.specs.Reading.{contents_of}
use Rattle.jk_extras.specs.declared.finding.Wanted.TheVariants.{Others}
use Rattle.jk_extras.specs.declared.finding.Found.{Found}
use Rattle.jk_extras.specs.Finding.{found_at}
use Rattle.jk_beside.specs.Taking.{held_by, held_in}
use Rattle.jk_beside.proofs.Others.{reach_more, nothing_behind}
use Rattle.jk_beside.proofs.Items.{none_more, seen_none}
use Rattle.jk_beside.proofs.taking.item_from.Goals as goal

pub loop-at-init : goal.loop-at-init
loop-at-init c = ([], refl, tt)

pub loop-at-preserved : goal.loop-at-preserved
loop-at-preserved c =
    let file = c.args.file.now in
    let f = c.in-Some.found in
    let before = c.loop-at.invariant in
    let found : found_at Others c.loop-at.at file ≡ Ok (Some f) = sym c.in_ok-found.ensures.exact ∙ ap (λ (x : Option Found). Ok x) c.in-Some.is in
    let contents = c.contents-contents.ensures ∙ ap (contents_of f.head) (take_rest file f.at) in
    let none = seen_none c.in_ok-held.held (sym c.is_some.ensures ∙ c.if-is_some.false) in
    let held : held_in c.args.item file f ≡ Ok None =
    ap (held_by c.args.item f.head.kind) (sym contents) ∙ c.in_ok-held.ensures ∙ ap (λ (x : Option (List ℕ)). Ok x) none in
    (before.0 ++ f ∷ [], reach_more file c.args.from c.loop-at.at before.0 f before.1 found, none_more c.args.item file before.0 f before.2 held)

pub returns-clause-ok : goal.returns-clause-ok
returns-clause-ok c =
    let before = c.loop-at.invariant in
    (before.0, record { end = c.loop-at.at; reach = before.1; none = nothing_behind c.args.file.now c.loop-at.at (omega arith) }, before.2)
