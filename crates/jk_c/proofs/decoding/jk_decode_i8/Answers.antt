use Rattle.std.proofs.Common.{Ok, arith}
use Rattle.jk_math.proofs.Laws.{AreBytes}
use Rattle.jk_code.specs.MeaningReading.{meaning_at}
use Rattle.jk_c.proofs.RowsGiven.{answered_only, signed_rows_due, signed_rows_found}
use Rattle.jk_c.proofs.decoding.jk_decode_i8.Goals as goal

pub returns-clause-exact : goal.returns-clause-exact
returns-clause-exact c =
    let r = c.give_pixels.ensures in
    signed_rows_due c.args.file.now c.args.reduce 8 r.0 (λ i. omega (arith, c.type_inv.file i)) r.1 (meaning_at c.args.file.now c.args.reduce) c.args.pixels.now c.give_pixels.new.pixels c.give_pixels.result r.1 r.3

pub returns-clause-found : goal.returns-clause-found
returns-clause-found c =
    let r = c.give_pixels.ensures in
    signed_rows_found c.args.file.now c.args.reduce 8 r.0 (λ i. omega (arith, c.type_inv.file i)) r.1 c.args.pixels.now c.give_pixels.new.pixels c.give_pixels.result r.2 r.3

pub returns-clause-only : goal.returns-clause-only
returns-clause-only c p m =
    let r = c.give_pixels.ensures in
    let fits : AreBytes c.args.file.now = λ i. omega (arith, c.type_inv.file i) in
    signed_rows_due c.args.file.now c.args.reduce 8 r.0 fits r.1 (Ok p) c.args.pixels.now c.give_pixels.new.pixels c.give_pixels.result (answered_only c.args.file.now c.args.reduce r.0 p fits r.1 m) r.3
