use Rattle.std.proofs.Common.{ℕ, List, ◌-◌, ◌<◌, length, sym, ap, ◌∙◌, arith}
use Rattle.jk_packet.specs.Written.{Table, part_in}
use Rattle.jk_packet.proofs.TableLaws.{part_behind, part_past}
use Rattle.jk_packet.proofs.table.BlockTable.passes.Goals as goal

pub returns-then-index-len : goal.returns-then-index-len
returns-then-index-len c =
    let s = c.self.inside in
    let k = c.args.layer - s.skipped in
    let less : k < length s.parts.items = (let t = c.if-index-len.true in let e = c.len.ensures in let o = s.parts.ok.0 in omega (arith, t, e, o)) in
    sym (ap (λ (p : ℕ × List ℕ). p.0) (part_behind s.zero_planes s.skipped c.args.layer s.parts.items s.bytes.items c.index.result.now c.if-layer-self.false less c.index.ensures))
    ∙ ap (λ (t : Table). (part_in t c.args.layer).0) c.self.view_is

pub returns-else-index-len : goal.returns-else-index-len
returns-else-index-len c =
    let s = c.self.inside in
    sym (ap (λ (p : ℕ × List ℕ). p.0) (part_past s.zero_planes s.skipped c.args.layer s.parts.items s.bytes.items c.if-layer-self.false (let t = c.if-index-len.false in let e = c.len.ensures in let o = s.parts.ok.0 in omega (arith, t, e, o))))
    ∙ ap (λ (t : Table). (part_in t c.args.layer).0) c.self.view_is
