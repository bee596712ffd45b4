use Rattle.std.proofs.Common.{◌≡◌, ◌+◌, ◌<◌, ◌++◌, Bool, List, length, take, drop, refl, sym, ap, ◌∙◌, subst, arith}
use Rattle.std.proofs.lemmas.List.{append-nil}
use Rattle.jk_bits.specs.Writing.{Written}
use Rattle.jk_packet.specs.declared.shape.BandShape.{BandShape}
use Rattle.jk_packet.specs.Shapes.{bands_of}
use Rattle.jk_packet.specs.PacketText.{band_shape, band_layers}
use Rattle.jk_packet.specs.Written.{Table, band_tables, layers_before, full_bits, banded, AreBandTables}
use Rattle.jk_packet.specs.Writing.{Follow}
use Rattle.jk_packet.proofs.WrittenLaws.{follows}
use Rattle.jk_packet.proofs.PrecinctWriting.{blocks_in, length-banded, banded_at, count_more, count_within, half_begins, half_ends, half_next, half_goes, rest_first, rest_end, rest_goes}
use Rattle.jk_packet.proofs.writer.write_bands.Goals as goal

pub loop-number-init : goal.loop-number-init
loop-number-init c =
    let shapes = bands_of c.args.shape.now in
    let tables = banded shapes c.args.tables.now in
    record {
      end_is = ap length c.bands-shapes.ensures;
      within = omega arith;
      place = refl;
      half = half_begins shapes tables c.args.layer c.args.bands.now.items c.requires.stand;
      sound = refl;
      told = ap (λ (bs : List Bool). c.args.writer.now.bits ++ bs) (rest_first shapes tables c.args.layer);
    }

pub tables_of-own-requires : goal.tables_of-own-requires
tables_of-own-requires c =
    let shapes = bands_of c.args.shape.now in
    let flat = c.args.tables.now in
    let n = c.loop-number.number in
    let listed : c.bands-shapes.result.now ≡ shapes = c.bands-shapes.ensures in
    let less : n < length shapes = (let t = c.loop-number-test.true in let e = c.loop-number.invariant.end_is in omega (arith, t, e)) in
    let own : band_shape c.bands-shapes.result.now n ≡ band_shape shapes n = ap (λ (ss : List BandShape). band_shape ss n) listed in
    let count : c.blocks_in-count.result ≡ blocks_in (band_shape shapes n) = c.blocks_in-count.ensures ∙ ap blocks_in own in
    let more = count_more shapes n less in
    let within = count_within shapes (n + 1) in
    let place = c.loop-number.invariant.place in
    let whole = c.requires.whole in
    omega (arith, count, more, within, place, whole)

pub write_band-requires-clause-tables : goal.write_band-requires-clause-tables
write_band-requires-clause-tables c =
    let shapes = bands_of c.args.shape.now in
    let flat = c.args.tables.now in
    let n = c.loop-number.number in
    let listed : c.bands-shapes.result.now ≡ shapes = c.bands-shapes.ensures in
    let less : n < length shapes = (let t = c.loop-number-test.true in let e = c.loop-number.invariant.end_is in omega (arith, t, e)) in
    let own : band_shape c.bands-shapes.result.now n ≡ band_shape shapes n = ap (λ (ss : List BandShape). band_shape ss n) listed in
    let own_tables : c.tables_of-own.result.now ≡ band_tables (banded shapes flat) n =
    c.tables_of-own.ensures
    ∙ ap (λ k. take k (drop c.loop-number.at flat)) (c.blocks_in-count.ensures ∙ ap blocks_in own)
    ∙ ap (λ k. take (blocks_in (band_shape shapes n)) (drop k flat)) c.loop-number.invariant.place
    ∙ sym (banded_at shapes flat n less) in (
      c.args.layers,
      c.requires.layer,
      c.requires.tables.few,
      subst (λ (b : BandShape). AreBandTables b c.args.layers c.tables_of-own.result.now) (sym own)
          (subst (λ (ts : List Table). AreBandTables (band_shape shapes n) c.args.layers ts) (sym own_tables) (c.requires.tables.each n less)),
    )

pub write_band-requires-clause-ready : goal.write_band-requires-clause-ready
write_band-requires-clause-ready c =
    let shapes = bands_of c.args.shape.now in
    let flat = c.args.tables.now in
    let n = c.loop-number.number in
    let listed : c.bands-shapes.result.now ≡ shapes = c.bands-shapes.ensures in
    let less : n < length shapes = (let t = c.loop-number-test.true in let e = c.loop-number.invariant.end_is in omega (arith, t, e)) in
    let own : band_shape c.bands-shapes.result.now n ≡ band_shape shapes n = ap (λ (ss : List BandShape). band_shape ss n) listed in
    let own_tables : c.tables_of-own.result.now ≡ band_tables (banded shapes flat) n =
    c.tables_of-own.ensures
    ∙ ap (λ k. take k (drop c.loop-number.at flat)) (c.blocks_in-count.ensures ∙ ap blocks_in own)
    ∙ ap (λ k. take (blocks_in (band_shape shapes n)) (drop k flat)) c.loop-number.invariant.place
    ∙ sym (banded_at shapes flat n less) in
    let stand = half_next shapes (banded shapes flat) c.args.layer n c.loop-number.bands.items (band_shape c.bands-shapes.result.now n) c.tables_of-own.result.now c.index_mut.result.now less own own_tables c.index_mut.ensures.value c.loop-number.invariant.half in
    stand.ready

pub overflow_add-at : goal.overflow_add-at
overflow_add-at c =
    let shapes = bands_of c.args.shape.now in
    let flat = c.args.tables.now in
    let n = c.loop-number.number in
    let listed : c.bands-shapes.result.now ≡ shapes = c.bands-shapes.ensures in
    let less : n < length shapes = (let t = c.loop-number-test.true in let e = c.loop-number.invariant.end_is in omega (arith, t, e)) in
    let own : band_shape c.bands-shapes.result.now n ≡ band_shape shapes n = ap (λ (ss : List BandShape). band_shape ss n) listed in
    let count : c.blocks_in-count.result ≡ blocks_in (band_shape shapes n) = c.blocks_in-count.ensures ∙ ap blocks_in own in
    let more = count_more shapes n less in
    let within = count_within shapes (n + 1) in
    let place = c.loop-number.invariant.place in
    let whole = c.requires.whole in
    omega (arith, count, more, within, place, whole)

pub loop-number-preserved : goal.loop-number-preserved
loop-number-preserved c =
    let shapes = bands_of c.args.shape.now in
    let flat = c.args.tables.now in
    let n = c.loop-number.number in
    let listed : c.bands-shapes.result.now ≡ shapes = c.bands-shapes.ensures in
    let less : n < length shapes = (let t = c.loop-number-test.true in let e = c.loop-number.invariant.end_is in omega (arith, t, e)) in
    let own : band_shape c.bands-shapes.result.now n ≡ band_shape shapes n = ap (λ (ss : List BandShape). band_shape ss n) listed in
    let count : c.blocks_in-count.result ≡ blocks_in (band_shape shapes n) = c.blocks_in-count.ensures ∙ ap blocks_in own in
    let more = count_more shapes n less in
    let within = count_within shapes (n + 1) in
    let place = c.loop-number.invariant.place in
    let own_tables : c.tables_of-own.result.now ≡ band_tables (banded shapes flat) n =
    c.tables_of-own.ensures
    ∙ ap (λ k. take k (drop c.loop-number.at flat)) (c.blocks_in-count.ensures ∙ ap blocks_in own)
    ∙ ap (λ k. take (blocks_in (band_shape shapes n)) (drop k flat)) c.loop-number.invariant.place
    ∙ sym (banded_at shapes flat n less) in
    let stand = half_next shapes (banded shapes flat) c.args.layer n c.loop-number.bands.items (band_shape c.bands-shapes.result.now n) c.tables_of-own.result.now c.index_mut.result.now less own own_tables c.index_mut.ensures.value c.loop-number.invariant.half in
    let tables = banded shapes flat in
    let long : length tables ≡ length shapes = length-banded shapes flat in
    let ls = band_layers n (layers_before tables c.args.layer) in
    let follow = subst (λ (ts : List Table). Follow ts c.args.layer ls) (sym own_tables) (follows tables c.args.layer n (omega (arith, long, less))) in
    let said = c.in_ok-write_band.ensures.told ls follow stand.spoken in
    record {
      end_is = c.loop-number.invariant.end_is;
      within = (let t = c.loop-number-test.true in omega (arith, t));
      place = omega (arith, count, more, place);
      half = half_goes shapes tables c.args.layer n c.loop-number.bands.items (band_shape c.bands-shapes.result.now n) c.tables_of-own.result.now c.write_band.new.band less long c.requires.full own own_tables c.in_ok-write_band.ensures.ready said.1 c.loop-number.invariant.half;
      sound = ap (λ (w : Written). w.failed) said.0 ∙ c.loop-number.invariant.sound;
      told = rest_goes shapes tables c.args.layer n (band_shape c.bands-shapes.result.now n) c.tables_of-own.result.now _ c.loop-number.writer c.write_band.new.writer (omega (arith, long, less)) own own_tables said.0 c.loop-number.invariant.told;
    }

pub returns-clause-stand : goal.returns-clause-stand
returns-clause-stand c =
    let shapes = bands_of c.args.shape.now in
    half_ends shapes (banded shapes c.args.tables.now) c.args.layer c.loop-number.number c.loop-number.bands.items (let t = c.loop-number-test.false in let e = c.loop-number.invariant.end_is in let w = c.loop-number.invariant.within in omega (arith, t, e, w)) c.loop-number.invariant.half

pub returns-clause-told : goal.returns-clause-told
returns-clause-told c =
    let shapes = bands_of c.args.shape.now in
    let tables = banded shapes c.args.tables.now in
    let w = c.loop-number.writer in
    let long : length tables ≡ length shapes = length-banded shapes c.args.tables.now in
    let none = rest_end shapes tables c.args.layer c.loop-number.number (let t = c.loop-number-test.false in let e = c.loop-number.invariant.end_is in omega (arith, t, e, long)) in
    let told : w.bits ≡ c.args.writer.now.bits ++ full_bits shapes tables c.args.layer = sym (append-nil w.bits) ∙ ap (λ (bs : List Bool). w.bits ++ bs) (sym none) ∙ c.loop-number.invariant.told in
    ap (λ (bs : List Bool). record { bits = bs; failed = w.failed }) told
    ∙ ap (λ (f : Bool). record { bits = c.args.writer.now.bits ++ full_bits shapes tables c.args.layer; failed = f }) c.loop-number.invariant.sound
