use Rattle.std.proofs.Common.{◌+◌, length, sym, ap, ◌∙◌}
use Rattle.jk_packet.specs.Written.{Table}
use Rattle.jk_packet.proofs.TableLaws.{length-table}
use Rattle.jk_packet.proofs.table.BlockTable.layers.Goals as goal

pub returns : goal.returns
returns c =
    let s = c.self.inside in
    ap (λ n. s.skipped + n) (c.len.ensures ∙ s.parts.ok.0)
    ∙ sym (length-table s.zero_planes s.skipped s.parts.items s.bytes.items)
    ∙ ap (λ (t : Table). length t.parts) c.self.view_is
