use Rattle.std.proofs.Common.{◌≡◌, suc, ◌+◌, ◌-◌, sym, ap, ◌∙◌, arith}
use Rattle.std.proofs.lemmas.Result.{err_from_is_err_and}
use Rattle.std.proofs.lemmas.List.{get_or_read, length-set}
use Rattle.jk_packet.specs.Reading.{BandState, BandWalk, Walk, band_at, band_in, bands_at}
use Rattle.jk_packet.proofs.BandLaws.{bands_none, bands_err, bands_next, refuses_on}
use Rattle.jk_packet.proofs.precinct.read_bands.Goals as goal

pub returns-in_err-read-clause-exact : goal.returns-in_err-read-clause-exact
returns-in_err-read-clause-exact c =
    let i = c.loop-number.number in
    let n = c.len-number-end.result in
    let w : Walk = record { bands = c.loop-number.bands.items; bits = c.loop-number.reader; parts = c.loop-number.parts.items } in
    let p = err_from_is_err_and c.from_residual.result c.from_residual.ensures.1 in
    let more : n - i ≡ suc (n - (i + 1)) = (let t = c.loop-number-test.true in omega (arith, t)) in
    let band : c.index_mut-band.result.now ≡ band_in w.bands i =
    get_or_read w.bands i c.index_mut-band.result.now (let t = c.loop-number-test.true in let e = c.loop-number.invariant.end_is in let l = c.loop-number.invariant.long in omega (arith, t, e, l)) c.index_mut-band.ensures.value _ in
    rw (p.1, p.2) (refuses_on c.in_err-read.field-0.0 (band_at i c.args.layer record { band = c.index_mut-band.result.now; bits = w.bits; parts = w.parts }) _ c.in_err-read.ensures
    (λ h. ap (λ k. bands_at c.args.layer k 0 record { bands = c.args.bands.now.items; bits = c.args.reader.now; parts = c.args.parts.now.items }) (sym c.loop-number.invariant.end_is)
    ∙ sym c.loop-number.invariant.told
    ∙ ap (λ k. bands_at c.args.layer k i w) more
    ∙ bands_err c.args.layer (n - (i + 1)) i w c.in_err-read.field-0.0
    (ap (λ (b : BandState). band_at i c.args.layer record { band = b; bits = w.bits; parts = w.parts }) (sym band) ∙ h)))

pub loop-number-preserved : goal.loop-number-preserved
loop-number-preserved c =
    let i = c.loop-number.number in
    let n = c.len-number-end.result in
    let w : Walk = record { bands = c.loop-number.bands.items; bits = c.loop-number.reader; parts = c.loop-number.parts.items } in
    let v : BandWalk = record { band = c.read.new.self; bits = c.read.new.reader; parts = c.read.new.parts.items } in
    let more : n - i ≡ suc (n - (i + 1)) = (let t = c.loop-number-test.true in omega (arith, t)) in
    let band : c.index_mut-band.result.now ≡ band_in w.bands i =
    get_or_read w.bands i c.index_mut-band.result.now (let t = c.loop-number-test.true in let e = c.loop-number.invariant.end_is in let l = c.loop-number.invariant.long in omega (arith, t, e, l)) c.index_mut-band.ensures.value _ in
    record {
      end_is = c.loop-number.invariant.end_is;
      within = (let t = c.loop-number-test.true in omega (arith, t));
      long = length-set w.bands i c.read.new.self ∙ c.loop-number.invariant.long;
      told =
          sym (bands_next c.args.layer (n - (i + 1)) i w v
          (ap (λ (b : BandState). band_at i c.args.layer record { band = b; bits = w.bits; parts = w.parts }) (sym band) ∙ c.in_ok-read.ensures))
          ∙ ap (λ k. bands_at c.args.layer k i w) (sym more)
          ∙ c.loop-number.invariant.told;
    }

pub returns-clause-exact : goal.returns-clause-exact
returns-clause-exact c =
    let i = c.loop-number.number in
    let n = c.len-number-end.result in
    let w : Walk = record { bands = c.loop-number.bands.items; bits = c.loop-number.reader; parts = c.loop-number.parts.items } in
    let none : n - i ≡ 0 = (let t = c.loop-number-test.false in omega (arith, t)) in
    ap (λ k. bands_at c.args.layer k 0 record { bands = c.args.bands.now.items; bits = c.args.reader.now; parts = c.args.parts.now.items }) (sym c.loop-number.invariant.end_is)
    ∙ sym c.loop-number.invariant.told
    ∙ ap (λ k. bands_at c.args.layer k i w) none
    ∙ bands_none c.args.layer i w
