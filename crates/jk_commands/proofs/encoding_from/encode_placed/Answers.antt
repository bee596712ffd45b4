use Rattle.std.proofs.Common.{◌≡◌, refl, sym, subst, inl, inr, rules}
use Rattle.jk_files.specs.declared.incoming.Incoming.{Incoming}
use Rattle.jk_commands.specs.RowStreaming.{HasRaster, IsLeftOfStream}
use Rattle.jk_commands.proofs.LeftLaws.{on_ok}
use Rattle.jk_commands.proofs.RowLeftLaws.{at_corner}
use Rattle.jk_commands.proofs.StreamRowLaws.{frame_told, stream_whole, stream_left}
use Rattle.jk_commands.proofs.encoding_from.encode_placed.Goals as goal

pub returns-clause-ok : goal.returns-clause-ok
returns-clause-ok g c =
    let h = c.args.head in
    let f = c.args.placed.now.frame in
    let frame = frame_told h f c.requires.place c.requires.frame in
    let whole = stream_whole g.S.Read.remaining (g.W.Write.contents c.args.writer.now) (g.W.Write.contents c.encode_rows_by.new.writer) _ c.encode_rows_by.new.supply f c.args.placed.now.parameters c.encode_rows_by.result
    c.encode_rows_by.ensures.ok c.requires.place refl (at_corner f.x0 f.y0 h.width h.height frame) in
    on_ok c.encode_rows_by.result (λ t.
    let same = t.0 in
    let back : c.incoming-1.given.0 ≡ c.encode_rows_by.new.supply.incoming.now = search rules in
    (t.1, subst (λ (i : Incoming g.row.S.Denot). HasRaster g.S.Read.remaining h c.args.incoming.now i t.1) (sym back) t.2, t.3, t.4, t.5, t.6)) whole

pub returns-clause-part : goal.returns-clause-part
returns-clause-part g c =
    let h = c.args.head in
    let f = c.args.placed.now.frame in
    let frame = frame_told h f c.requires.place c.requires.frame in
    let left = stream_left g.S.Read.remaining (g.W.Write.contents c.args.writer.now) (g.W.Write.contents c.encode_rows_by.new.writer) _ c.encode_rows_by.new.supply f c.args.placed.now.parameters c.encode_rows_by.result
    c.encode_rows_by.ensures.part c.requires.place refl (at_corner f.x0 f.y0 h.width h.height frame) frame in (
      left.0,
      left.1,
      elim left.2 [
        | inl m ↦ inl (m.0, m.1, inl m.2, m.3)
        | inr n ↦
            let same = n.0 in
            let back : c.incoming-1.given.0 ≡ c.encode_rows_by.new.supply.incoming.now = search rules in
            subst (λ (i : Incoming g.row.S.Denot). IsLeftOfStream g.S.Read.remaining h f.x0 f.y0 c.args.placed.now.parameters c.args.incoming.now i left.0 c.encode_rows_by.result) (sym back) n.1
      ],
    )
