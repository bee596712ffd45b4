use Rattle.std.proofs.Common.{sym, ◌∙◌}
use Rattle.std.proofs.lemmas.Result.{err_from_is_err_and}
use Rattle.jk_pnm.specs.Written.{written as pnm_of}
use Rattle.jk_commands.specs.Commands.{window_decoded, window_given}
use Rattle.jk_commands.proofs.LeftLaws.{left_nothing, left_as, window_is, window_refused, given_is, given_refused, on_ok}
use Rattle.jk_commands.proofs.viewing.decode_window_file_into.Goals as goal

pub returns-in_err-image-clause-exact : goal.returns-in_err-image-clause-exact
returns-in_err-image-clause-exact g c =
    let same = err_from_is_err_and c.from_residual.result c.from_residual.ensures.1 in
    let e = c.in_err-image.field-0.0 in
    rw (same.1, same.2)
    (left_nothing (g.W.Write.contents c.args.writer.now) (window_decoded c.args.bytes.items c.args.view) e (window_refused c.args.bytes.items c.args.view e c.in_err-image.ensures.exact))

pub returns-in_err-image-clause-means : goal.returns-in_err-image-clause-means
returns-in_err-image-clause-means g c p m =
    let same = err_from_is_err_and c.from_residual.result c.from_residual.ensures.1 in
    let e = c.in_err-image.field-0.0 in
    rw (same.1, same.2) (left_nothing (g.W.Write.contents c.args.writer.now) (window_given c.args.view p) e (given_refused c.args.view p e (c.in_err-image.ensures.means p m)))

pub returns-clause-exact : goal.returns-clause-exact
returns-clause-exact g c =
    let image = c.in_ok-image.image in
    left_as (g.W.Write.contents c.args.writer.now) (g.W.Write.contents c.write_into.new.writer) (pnm_of image) (window_decoded c.args.bytes.items c.args.view) c.write_into.result
    (sym (window_is c.args.bytes.items c.args.view image c.in_ok-image.ensures.exact)) c.write_into.ensures.exact

pub returns-clause-found : goal.returns-clause-found
returns-clause-found g c =
    let image = c.in_ok-image.image in
    on_ok c.write_into.result (λ known. (image, c.in_ok-image.ensures.found, λ file e. known file (sym (window_is c.args.bytes.items c.args.view image c.in_ok-image.ensures.exact) ∙ e))) c.write_into.ensures.means

pub returns-clause-means : goal.returns-clause-means
returns-clause-means g c p m =
    let image = c.in_ok-image.image in
    left_as (g.W.Write.contents c.args.writer.now) (g.W.Write.contents c.write_into.new.writer) (pnm_of image) (window_given c.args.view p) c.write_into.result
    (sym (given_is c.args.view p image (c.in_ok-image.ensures.means p m))) c.write_into.ensures.exact
