use Rattle.std.proofs.Common.{◌<◌, ◌≤◌, length, drop, refl, sym, ap, subst, ◌∙◌, inr, rules, arith}
use Rattle.std.proofs.lemmas.Bool.{eqb-true, eq-eqb}
use Rattle.std.proofs.lemmas.Result.{err_from_is_err_and}
use Rattle.jk_pnm.specs.declared.rasters.RasterFrame.{RasterFrame}
use Rattle.jk_files.specs.Incoming.{waiting_of}
use Rattle.jk_commands.proofs.StreamLaws.{not_passed, not_failed, bad_few, rows_fault, end_fault, rows_were_read}
use Rattle.jk_commands.proofs.encoding_from.next_rows.Goals as goal

pub returns-then-not-branch-clause-fault : goal.returns-then-not-branch-clause-fault
returns-then-not-branch-clause-fault g c =
    let order = c.requires.order in
    let b = c.are_there.new.incoming in
    let ended = c.in_ok-are_there.ensures.ended (search (rules, not_passed)) in
    inr (inr (
      refl,
      bad_few g.S.Read.remaining c.args.head.now c.args.y c.args.z c.args.incoming.now b (omega (arith, order)) c.requires.inside c.in_ok-are_there.ensures.took ended.0
          (subst (λ n. length (waiting_of b) < n) c.size_of_rows-size.ensures ended.1),
    ))

pub returns-in_err-rows-clause-fault : goal.returns-in_err-rows-clause-fault
returns-in_err-rows-clause-fault g c =
    let order = c.requires.order in
    let b = c.are_there.new.incoming in
    let there = c.in_ok-are_there.ensures.there (search (rules, not_failed)) in
    let same = err_from_is_err_and c.from_residual-in_err-rows.result c.from_residual-in_err-rows.ensures.1 in
    rw (same.1, same.2)
    (rows_fault g.S.Read.remaining c.args.head.now c.args.y c.args.z c.args.incoming.now b c.in_err-rows.field-0.0 (omega (arith, order)) c.requires.inside c.in_ok-are_there.ensures.took
    (subst (λ n. n ≤ length (waiting_of b)) c.size_of_rows-size.ensures there) c.in_err-rows.ensures)

pub returns-in_err-expect_end-clause-fault : goal.returns-in_err-expect_end-clause-fault
returns-in_err-expect_end-clause-fault g c =
    let order = c.requires.order in
    let h = c.args.head.now in
    let b = c.are_there.new.incoming in
    let there = c.in_ok-are_there.ensures.there (search (rules, not_failed)) in
    let size = c.size_of_rows-size.ensures in
    let height = ap (λ (f : RasterFrame). f.height) c.frame.ensures.value in
    let same = err_from_is_err_and c.from_residual-in_err-expect_end.result c.from_residual-in_err-expect_end.ensures.1 in
    rw (same.1, same.2)
    (end_fault g.S.Read.remaining h c.args.y c.args.z c.args.incoming.now b c.take.new.self c.expect_end.new.incoming c.in_err-expect_end.field-0.0 (omega (arith, order)) c.in_ok-are_there.ensures.took
    (subst (λ n. n ≤ length (waiting_of b)) size there) c.take.ensures.source (c.take.ensures.left ∙ ap (λ n. drop n (waiting_of b)) size) c.in_err-expect_end.ensures.fault
    (λ is. let more = c.in_err-expect_end.ensures.more is in (eqb-true c.args.z c.frame.result.height more.0 ∙ height, more.1, more.2)))

pub returns-clause-read : goal.returns-clause-read
returns-clause-read g c =
    let h = c.args.head.now in
    let b = c.are_there.new.incoming in
    let there = c.in_ok-are_there.ensures.there (search (rules, not_failed)) in
    let size = c.size_of_rows-size.ensures in
    let height = ap (λ (f : RasterFrame). f.height) c.frame.ensures.value in
    rows_were_read g.S.Read.remaining h c.args.y c.args.z c.args.incoming.now b c.take.new.self c.expect_end.new.incoming c.in_ok-rows.rows c.requires.order c.requires.inside c.in_ok-are_there.ensures.took
    (subst (λ n. n ≤ length (waiting_of b)) size there) c.take.ensures.source (c.take.ensures.left ∙ ap (λ n. drop n (waiting_of b)) size) c.in_ok-expect_end.ensures.took c.in_ok-rows.ensures
    (λ full. c.in_ok-expect_end.ensures.ended (eq-eqb c.args.z c.frame.result.height (full ∙ sym height)))
