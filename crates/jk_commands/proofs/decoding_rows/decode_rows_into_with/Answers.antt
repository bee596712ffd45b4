use Rattle.std.proofs.Common.{arith}
use Rattle.jk_pnm.specs.Written.{written as pnm_of}
use Rattle.jk_code.proofs.Laws.{only_meaning, meant_picture}
use Rattle.jk_commands.specs.Commands.{decoded}
use Rattle.jk_commands.proofs.LeftLaws.{on_ok, decoded_is}
use Rattle.jk_commands.proofs.AheadLaws.{whole_means, ends_of}
use Rattle.jk_commands.proofs.decoding_rows.decode_rows_into_with.Goals as goal

pub returns-clause-found : goal.returns-clause-found
returns-clause-found g c =
    let bytes = c.args.bytes.now in
    let d = c.args.reduce in
    on_ok c.write_file.result (λ m. (m.0, m.2, λ file due. whole_means bytes d m.0 file (meant_picture bytes d m.0 (λ i. omega (arith, c.type_inv.bytes i)) m.1) m.1 due)) c.write_file.ensures.meaning

pub returns-clause-only : goal.returns-clause-only
returns-clause-only g c some few p m =
    let bytes = c.args.bytes.now in
    let d = c.args.reduce in
    let means = only_meaning bytes d p (λ i. omega (arith, c.type_inv.bytes i)) m in
    ends_of (decoded bytes d) (pnm_of p) c.write_file.result (g.W.Write.contents c.args.writer.now) (g.W.Write.contents c.write_file.new.writer) (decoded_is bytes d p means) c.write_file.ensures.exact c.write_file.ensures.written
