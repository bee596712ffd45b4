use Rattle.std.proofs.Common.{◌≡◌, ℕ, ◌+◌, ◌<◌, ◌≤◌, List, length, take, drop, refl, sym, ap, ◌∙◌, subst, inl, inr, arith}
use Rattle.std.proofs.lemmas.Bool.{cases_eq}
use Rattle.jk_packet.specs.declared.shape.BandShape.{BandShape}
use Rattle.jk_packet.specs.Shapes.{bands_of}
use Rattle.jk_packet.specs.PacketText.{band_shape}
use Rattle.jk_packet.specs.Written.{Table, AreBandTables, band_tables, block_count, banded}
use Rattle.jk_packet.proofs.Laws.{blocks_in, length-banded, banded_at, count_more}
use Rattle.vectors_packet.proofs.writing.are_tables.Goals as goal

pub loop-number-preserved : goal.loop-number-preserved
loop-number-preserved c =
    let shapes = bands_of c.args.shape.now in
    let flat = c.args.tables.now in
    let n = c.loop-number.number in
    let listed : c.bands-shapes.result.now ≡ shapes = c.bands-shapes.ensures in
    let less : n < length shapes = (let t = c.loop-number-test.true in let e = c.loop-number.invariant.end_is in omega (arith, t, e)) in
    let own : band_shape c.bands-shapes.result.now n ≡ band_shape shapes n = ap (λ (ss : List BandShape). band_shape ss n) listed in
    let count : c.blocks_in-count.result ≡ blocks_in (band_shape shapes n) = c.blocks_in-count.ensures ∙ ap blocks_in own in
    let more = count_more shapes n less in
    let place = c.loop-number.invariant.place in
    let own_band : c.own_tables.result.now ≡ band_tables (banded shapes flat) n =
    c.own_tables.ensures
    ∙ ap (λ k. take k (drop c.loop-number.at flat)) count
    ∙ ap (λ k. take (blocks_in (band_shape shapes n)) (drop k flat)) place
    ∙ sym (banded_at shapes flat n less) in
    let here : AreBandTables (band_shape shapes n) c.args.layers (band_tables (banded shapes flat) n) =
    subst (λ (b : BandShape). AreBandTables b c.args.layers (band_tables (banded shapes flat) n)) own
    (subst (λ (ts : List Table). AreBandTables (band_shape c.bands-shapes.result.now n) c.args.layers ts) own_band (c.are_band_tables.ensures c.if-not-are_band_tables.false)) in
    record {
      end_is = c.loop-number.invariant.end_is;
      within = (let t = c.loop-number-test.true in omega (arith, t));
      place = omega (arith, count, more, place);
      inside = (let t = c.if-count-tables.false in let e = c.loop-number.invariant.inside in omega (arith, t, e));
      each = λ i front. elim (cases_eq i n) [
        | inl at ↦ subst (λ k. AreBandTables (band_shape shapes k) c.args.layers (band_tables (banded shapes flat) k)) (sym at) here
        | inr apart ↦ c.loop-number.invariant.each i (omega (arith, front, apart))
      ];
    }

pub returns-clause-are : goal.returns-clause-are
returns-clause-are c = λ all.
    let shapes = bands_of c.args.shape.now in
    record {
      long = length-banded shapes c.args.tables.now;
      few = omega arith;
      each = λ i less. c.loop-number.invariant.each i (let t = c.loop-number-test.false in let e = c.loop-number.invariant.end_is in omega (arith, t, e, less));
    }
