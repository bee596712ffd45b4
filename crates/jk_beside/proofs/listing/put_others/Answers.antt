use Rattle.std.proofs.Common.{◌≡◌, ℕ, ◌++◌, ◌∷◌, List, [], Option, Some, Ok, sym, ap, subst, ◌∙◌, arith, append_assoc}
use Rattle.std.proofs.lemmas.List.{take_rest}
use Rattle.std.proofs.lemmas.Result.{err_from_is_err_and}
use Rattle.std.specs.String.{string_bytes}
use Rattle.jk_math.specs.Answer.{Refuses}
use Rattle.jk_boxes.specs.Reading.{contents_of}
use Rattle.jk_extras.specs.declared.finding.Wanted.TheVariants.{Others}
use Rattle.jk_extras.specs.declared.finding.Found.{Found}
use Rattle.jk_extras.specs.Finding.{found_at}
use Rattle.jk_beside.specs.Listing.{other_behind}
use Rattle.jk_beside.proofs.Others.{reach_more, nothing_behind, lines_more, line_said, line_none, behind_fault}
use Rattle.jk_beside.proofs.listing.put_others.Goals as goal

pub returns-in_err-put_other-clause-err : goal.returns-in_err-put_other-clause-err
returns-in_err-put_other-clause-err c =
    let file = c.args.file.now in
    let f = c.in-Some.found in
    let d = c.in_err-put_other.field-0.0 in
    let known = string_bytes c.loop-at.lines in
    let before = c.loop-at.invariant in
    let found : found_at Others c.loop-at.at file ≡ Ok (Some f) = sym c.in_ok-found.ensures.exact ∙ ap (λ (x : Option Found). Ok x) c.in-Some.is in
    let contents = c.contents-contents.ensures ∙ ap (contents_of f.head) (take_rest file f.at) in
    let refused = subst (λ (x : List ℕ). Refuses d (other_behind known f.head.kind x)) contents c.in_err-put_other.ensures in
    let p = err_from_is_err_and c.from_residual-in_err-put_other.result c.from_residual-in_err-put_other.ensures.1 in
    rw (p.1, p.2) (behind_fault file c.args.from before.0 before.1 f d (record { end = c.loop-at.at; reach = before.2; found = found }) before.3
    (line_none known f.head.kind (contents_of f.head _) d refused))

pub loop-at-preserved : goal.loop-at-preserved
loop-at-preserved c =
    let file = c.args.file.now in
    let f = c.in-Some.found in
    let known = string_bytes c.loop-at.lines in
    let before = c.loop-at.invariant in
    let found : found_at Others c.loop-at.at file ≡ Ok (Some f) = sym c.in_ok-found.ensures.exact ∙ ap (λ (x : Option Found). Ok x) c.in-Some.is in
    let contents = c.contents-contents.ensures ∙ ap (contents_of f.head) (take_rest file f.at) in
    let next = ap (other_behind known f.head.kind) (sym contents) ∙ c.in_ok-put_other.ensures in
    let said = line_said known f.head.kind (contents_of f.head _) (string_bytes c.put_other.new.lines) next in (
      before.0 ++ f ∷ [],
      before.1 ++ said.0,
      reach_more file c.args.from c.loop-at.at before.0 f before.2 found,
      lines_more file before.0 f before.1 said.0 before.3 said.1,
      said.2 ∙ ap (λ (t : List ℕ). t ++ said.0) before.4 ∙ append_assoc (string_bytes c.args.lines.now) before.1 said.0,
    )

pub returns-clause-ok : goal.returns-clause-ok
returns-clause-ok c =
    let before = c.loop-at.invariant in
    (before.1, (before.0, record { end = c.loop-at.at; reach = before.2; none = nothing_behind c.args.file.now c.loop-at.at (omega arith) }, before.3), before.4)
