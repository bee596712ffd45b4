use Rattle.std.proofs.Common.{ℕ, List, Bor}
use Rattle.jk_beside.proofs.Decimals.{one_number, two_numbers, not_none}
use Rattle.jk_beside.proofs.words.grid.Goals as goal

pub returns-in_err-both-in-None-clause-some : goal.returns-in_err-both-in-None-clause-some
returns-in_err-both-in-None-clause-some c g held =
    let one = one_number c.args.text.now g c.split_once.result c.in-None.is c.split_once.ensures.cases held in
    absurd (not_none c.inches.result (c.inches.ensures.some g.across one) c.in_err-both-in-None.was)

pub returns-in_err-across-in-Some-clause-some : goal.returns-in_err-across-in-Some-clause-some
returns-in_err-across-in-Some-clause-some c g held =
    let pair : Bor (List ℕ) × Bor (List ℕ) = (c.in-Some.across, c.in-Some.down) in
    let two = two_numbers c.args.text.now g pair c.split_once.result c.in-Some.is c.split_once.ensures.cases held in
    absurd (not_none c.inches-in-Some.result (c.inches-in-Some.ensures.some g.across two.0) c.in_err-across-in-Some.was)

pub returns-in_err-down-in-Some-clause-some : goal.returns-in_err-down-in-Some-clause-some
returns-in_err-down-in-Some-clause-some c g held =
    let pair : Bor (List ℕ) × Bor (List ℕ) = (c.in-Some.across, c.in-Some.down) in
    let two = two_numbers c.args.text.now g pair c.split_once.result c.in-Some.is c.split_once.ensures.cases held in
    absurd (not_none c.inches-in-Some-2.result (c.inches-in-Some-2.ensures.some g.down two.1) c.in_err-down-in-Some.was)
