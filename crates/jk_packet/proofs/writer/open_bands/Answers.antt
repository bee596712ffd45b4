use Rattle.std.proofs.Common.{◌≡◌, ◌+◌, ◌<◌, List, length, take, drop, sym, ap, ◌∙◌, subst, arith}
use Rattle.jk_packet.specs.declared.shape.BandShape.{BandShape}
use Rattle.jk_packet.specs.declared.writing.WriteBand.{WriteBand}
use Rattle.jk_packet.specs.Shapes.{bands_of}
use Rattle.jk_packet.specs.PacketText.{band_shape}
use Rattle.jk_packet.specs.Written.{Table, band_tables, banded, AreBandTables}
use Rattle.jk_packet.proofs.PrecinctWriting.{blocks_in, banded_at, count_more, count_within, BandsOpen, open_goes, open_ends}
use Rattle.jk_packet.proofs.writer.open_bands.Goals as goal

pub tables_of-own-requires : goal.tables_of-own-requires
tables_of-own-requires c =
    let shapes = bands_of c.args.shape.now in
    let flat = c.args.tables.now in
    let n = c.loop-number.number in
    let listed : c.bands-shapes.result.now ≡ shapes = c.bands-shapes.ensures in
    let less : n < length shapes = (let t = c.loop-number-test.true in let e = c.loop-number.invariant.end_is in omega (arith, t, e)) in
    let own : band_shape c.bands-shapes.result.now n ≡ band_shape shapes n = ap (λ (ss : List BandShape). band_shape ss n) listed in
    let count : c.blocks_in-count.result ≡ blocks_in (band_shape shapes n) = c.blocks_in-count.ensures ∙ ap blocks_in own in
    let more = count_more shapes n less in
    let within = count_within shapes (n + 1) in
    let place = c.loop-number.invariant.place in
    let whole = c.requires.whole in
    omega (arith, count, more, within, place, whole)

pub new-requires : goal.new-requires
new-requires c =
    let shapes = bands_of c.args.shape.now in
    let flat = c.args.tables.now in
    let n = c.loop-number.number in
    let listed : c.bands-shapes.result.now ≡ shapes = c.bands-shapes.ensures in
    let less : n < length shapes = (let t = c.loop-number-test.true in let e = c.loop-number.invariant.end_is in omega (arith, t, e)) in
    let own : band_shape c.bands-shapes.result.now n ≡ band_shape shapes n = ap (λ (ss : List BandShape). band_shape ss n) listed in
    let own_tables : c.tables_of-own.result.now ≡ band_tables (banded shapes flat) n =
    c.tables_of-own.ensures
    ∙ ap (λ k. take k (drop c.loop-number.at flat)) (c.blocks_in-count.ensures ∙ ap blocks_in own)
    ∙ ap (λ k. take (blocks_in (band_shape shapes n)) (drop k flat)) c.loop-number.invariant.place
    ∙ sym (banded_at shapes flat n less) in
    subst (λ (b : BandShape). AreBandTables b c.args.layers c.tables_of-own.result.now) (sym own)
    (subst (λ (ts : List Table). AreBandTables (band_shape shapes n) c.args.layers ts) (sym own_tables) (c.requires.tables.each n less))

pub overflow_add-at : goal.overflow_add-at
overflow_add-at c =
    let shapes = bands_of c.args.shape.now in
    let flat = c.args.tables.now in
    let n = c.loop-number.number in
    let listed : c.bands-shapes.result.now ≡ shapes = c.bands-shapes.ensures in
    let less : n < length shapes = (let t = c.loop-number-test.true in let e = c.loop-number.invariant.end_is in omega (arith, t, e)) in
    let own : band_shape c.bands-shapes.result.now n ≡ band_shape shapes n = ap (λ (ss : List BandShape). band_shape ss n) listed in
    let count : c.blocks_in-count.result ≡ blocks_in (band_shape shapes n) = c.blocks_in-count.ensures ∙ ap blocks_in own in
    let more = count_more shapes n less in
    let within = count_within shapes (n + 1) in
    let place = c.loop-number.invariant.place in
    let whole = c.requires.whole in
    omega (arith, count, more, within, place, whole)

pub loop-number-preserved : goal.loop-number-preserved
loop-number-preserved c =
    let shapes = bands_of c.args.shape.now in
    let flat = c.args.tables.now in
    let n = c.loop-number.number in
    let listed : c.bands-shapes.result.now ≡ shapes = c.bands-shapes.ensures in
    let less : n < length shapes = (let t = c.loop-number-test.true in let e = c.loop-number.invariant.end_is in omega (arith, t, e)) in
    let own : band_shape c.bands-shapes.result.now n ≡ band_shape shapes n = ap (λ (ss : List BandShape). band_shape ss n) listed in
    let count : c.blocks_in-count.result ≡ blocks_in (band_shape shapes n) = c.blocks_in-count.ensures ∙ ap blocks_in own in
    let more = count_more shapes n less in
    let within = count_within shapes (n + 1) in
    let place = c.loop-number.invariant.place in
    let own_tables : c.tables_of-own.result.now ≡ band_tables (banded shapes flat) n =
    c.tables_of-own.ensures
    ∙ ap (λ k. take k (drop c.loop-number.at flat)) (c.blocks_in-count.ensures ∙ ap blocks_in own)
    ∙ ap (λ k. take (blocks_in (band_shape shapes n)) (drop k flat)) c.loop-number.invariant.place
    ∙ sym (banded_at shapes flat n less) in
    record {
      end_is = c.loop-number.invariant.end_is;
      within = (let t = c.loop-number-test.true in omega (arith, t));
      place = omega (arith, count, more, place);
      made = subst (λ (bs : List WriteBand). BandsOpen shapes (banded shapes flat) (n + 1) bs) (sym c.in_ok-push.ensures.items)
          (open_goes shapes (banded shapes flat) n c.loop-number.bands.items (band_shape c.bands-shapes.result.now n) c.tables_of-own.result.now _ own own_tables c.in_ok-new.ensures.ready c.in_ok-new.ensures.speaks c.loop-number.invariant.made);
    }

pub returns : goal.returns
returns c =
    let shapes = bands_of c.args.shape.now in
    open_ends shapes (banded shapes c.args.tables.now) c.loop-number.number c.loop-number.bands.items (let t = c.loop-number-test.false in let e = c.loop-number.invariant.end_is in let w = c.loop-number.invariant.within in omega (arith, t, e, w)) c.loop-number.invariant.made
