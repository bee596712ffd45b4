use Rattle.std.proofs.Common.{◌++◌, sym, ◌∙◌}
use Rattle.std.proofs.lemmas.Bool.{lt-ltb}
use Rattle.jk_pnm.specs.Reading.{depth_at}
use Rattle.jk_pnm.proofs.JudgingLaws.{header_without_depth, header_without_space, header_too_large, err_not_ok}
use Rattle.jk_pnm.proofs.judging.bad_fields.Goals as goal

pub returns-then-is_err : goal.returns-then-is_err
returns-then-is_err c = λ front more e. header_without_depth front c.args.read.now.width c.args.read.now.height c.args.read.now.maxval (c.args.rest.now ++ more) e
    (err_not_ok c.depth.result (depth_at c.args.read.now.maxval) c.depth.ensures.exact (sym c.is_err.ensures.value ∙ c.if-is_err.true))

pub returns-then-not-is_space : goal.returns-then-not-is_space
returns-then-not-is_space c = λ front more e. header_without_space front c.args.read.now.width c.args.read.now.height c.args.read.now.maxval c.args.rest.now more e c.requires.some (sym c.is_space.ensures ∙ c.if-not-is_space.true)

pub returns-then-read : goal.returns-then-read
returns-then-read c = λ front more e. header_too_large front c.args.read.now.width c.args.read.now.height c.args.read.now.maxval (c.args.rest.now ++ more) e
    (lt-ltb _ _ c.if-read.true)
