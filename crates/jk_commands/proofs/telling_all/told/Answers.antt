use Rattle.std.proofs.Common.{sym, ◌∙◌}
use Rattle.std.proofs.lemmas.Result.{err_from_is_err_and}
use Rattle.std.specs.String.{string_bytes}
use Rattle.jk_math.specs.Steps.{ok_is}
use Rattle.jk_marks.proofs.Laws.{main_sized}
use Rattle.jk_commands.specs.AllLines.{all_at}
use Rattle.jk_commands.proofs.CommandLaws.{refuses_other}
use Rattle.jk_commands.proofs.AllLaws.{memory_answers, opened, all_told}
use Rattle.jk_commands.proofs.telling_all.told.Goals as goal

pub returns-in_err-place : goal.returns-in_err-place
returns-in_err-place c =
    let is = c.in_ok-index.ensures.found in
    absurd (let o = (c.in_err-place.ensures.only is.codestream c.in_ok-index.index.place is.holds).0 in cc)

pub returns-in_err-size : goal.returns-in_err-size
returns-in_err-size c =
    let o = opened c.args.bytes.now c.in_ok-place.place c.in_ok-index.index c.in_ok-index.ensures.found c.in_ok-place.ensures.only in
    let tree = o.says.tree in
    absurd (let e = c.in_err-size.ensures.only tree.siz tree.segments o.says.spelled.header o.begins in cc)

pub returns-in_err-headers : goal.returns-in_err-headers
returns-in_err-headers c =
    let o = opened c.args.bytes.now c.in_ok-place.place c.in_ok-index.index c.in_ok-index.ensures.found c.in_ok-place.ensures.only in
    let h = c.in_ok-index.index.headers in
    let f = err_from_is_err_and c.from_residual-in_err-headers.result c.from_residual-in_err-headers.ensures.1 in
    rw (f.1, f.2) (refuses_other c.in_err-headers.field-0.0 h (all_at c.args.bytes.now) (c.in_err-headers.ensures.only h o.says))

pub lines-requires-clause-same : goal.lines-requires-clause-same
lines-requires-clause-same c =
    let o = opened c.args.bytes.now c.in_ok-place.place c.in_ok-index.index c.in_ok-index.ensures.found c.in_ok-place.ensures.only in
    let h = c.in_ok-index.index.headers in
    sym (ok_is h c.in_ok-headers.headers (c.in_ok-headers.ensures.only h o.says))

pub lines-requires-clause-size : goal.lines-requires-clause-size
lines-requires-clause-size c =
    let found = c.in_ok-size.ensures.found in
    found.5 ∙ sym (main_sized _ found.0 found.1 found.2 found.3)

pub returns-in_err-lines : goal.returns-in_err-lines
returns-in_err-lines c =
    memory_answers (λ s. string_bytes s) c.from_residual-in_err-lines.result (all_at c.args.bytes.now) c.from_residual-in_err-lines.ensures.1

pub returns : goal.returns
returns c =
    let bytes = c.args.bytes.now in
    let o = opened bytes c.in_ok-place.place c.in_ok-index.index c.in_ok-index.ensures.found c.in_ok-place.ensures.only in
    let h = c.in_ok-index.index.headers in
    all_told bytes c.in_ok-place.place c.in_ok-index.index c.in_ok-headers.headers (string_bytes c.in_ok-lines.field-0) c.in_ok-index.ensures.exact o.same (sym (ok_is h c.in_ok-headers.headers (c.in_ok-headers.ensures.only h o.says))) c.in_ok-lines.ensures
