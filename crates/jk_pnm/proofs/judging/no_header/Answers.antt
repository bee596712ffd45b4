use Rattle.std.proofs.Common.{◌++◌, Err, ap}
use Rattle.jk_pnm.proofs.JudgingLaws.{header_without_magic, fields_behind, never_behind, some_follows}
use Rattle.jk_pnm.proofs.judging.no_header.Goals as goal

pub returns-then-not-begins : goal.returns-then-not-begins
returns-then-not-begins c = λ more. header_without_magic (c.args.bytes.now ++ more) (c.begins.ensures c.if-not-begins.true more)

pub returns-in-Ok : goal.returns-in-Ok
returns-in-Ok c = some_follows c.bad_fields.result c.bad_fields.ensures (λ bad more.
    let told = c.in-Ok.ensures.ok in
    let read = c.in-Ok.read in
    bad (c.args.bytes.now ++ more) more (fields_behind c.args.bytes.now more c.in-Ok.rest.now read.width read.height read.maxval c.if-bytes-lt2.false told.0 told.1))

pub returns-in-Err-Never : goal.returns-in-Err-Never
returns-in-Err-Never c = λ more. never_behind c.args.bytes.now more c.if-bytes-lt2.false (c.in-Err-Never.ensures.never (ap Err c.in-Err-Never.field-0-is) more)
