use Rattle.std.proofs.Common.{◌≡◌, ◌<◌, List, [], length, Ok, sym, ap, ◌∙◌, arith}
use Rattle.std.proofs.lemmas.Result.{err_from_is_err_and}
use Rattle.jk_math.specs.Steps.{refuses_due}
use Rattle.jk_packet.specs.declared.header.BlockContribution.{BlockContribution}
use Rattle.jk_packet.specs.Shapes.{bands_of}
use Rattle.jk_packet.specs.Reading.{BandState, bands_seen, packet_at}
use Rattle.jk_packet.proofs.BandLaws.{refuses_on, seen_made}
use Rattle.jk_packet.proofs.TextLaws.{bits_err, bits_none, bits_full}
use Rattle.jk_packet.proofs.precinct.read_bits.Goals as goal

pub returns-in_err-full-clause-exact : goal.returns-in_err-full-clause-exact
returns-in_err-full-clause-exact c =
    let p = err_from_is_err_and c.from_residual.result c.from_residual.ensures.1 in
    rw (p.1, p.2) (refuses_due c.in_err-full.field-0.0 _
    (bits_err c.args.layer (bands_seen (bands_of c.args.shape) c.args.bands.now.items) c.args.reader.now c.in_err-full.field-0.0 c.in_err-full.ensures.exact))

pub returns-then-not-full-clause-exact : goal.returns-then-not-full-clause-exact
returns-then-not-full-clause-exact c =
    let bands = bands_seen (bands_of c.args.shape) c.args.bands.now.items in
    bits_none c.args.layer bands c.args.reader.now (c.in_ok-full.full, c.bit.new.self) c.in_ok-full.ensures.exact c.if-not-full.true
    ∙ ap (λ (ps : List BlockContribution). Ok (record { bands = bands; bits = c.bit.new.self; parts = ps })) (sym c.requires.none)

pub returns-in_err-read_bands-clause-exact : goal.returns-in_err-read_bands-clause-exact
returns-in_err-read_bands-clause-exact c =
    let bands = bands_seen (bands_of c.args.shape) c.args.bands.now.items in
    let p = err_from_is_err_and c.from_residual-in_err-read_bands.result c.from_residual-in_err-read_bands.ensures.1 in
    let made : c.make_bands.new.bands.items ≡ bands = c.in_ok-make_bands.ensures.made in
    rw (p.1, p.2) (refuses_on c.in_err-read_bands.field-0.0 (packet_at c.args.layer record { bands = c.make_bands.new.bands.items; bits = c.bit.new.self; parts = c.args.parts.now.items }) _ c.in_err-read_bands.ensures.exact
    (λ h. bits_full c.args.layer bands c.args.reader.now (c.in_ok-full.full, c.bit.new.self) c.in_ok-full.ensures.exact c.if-not-full.false
    ∙ ap (λ (bs : List BandState). packet_at c.args.layer record { bands = bs; bits = c.bit.new.self; parts = [] }) (sym made)
    ∙ ap (λ (ps : List BlockContribution). packet_at c.args.layer record { bands = c.make_bands.new.bands.items; bits = c.bit.new.self; parts = ps }) (sym c.requires.none)
    ∙ h))

pub returns-clause-exact : goal.returns-clause-exact
returns-clause-exact c =
    let bands = bands_seen (bands_of c.args.shape) c.args.bands.now.items in
    let made : c.make_bands.new.bands.items ≡ bands = c.in_ok-make_bands.ensures.made in
    let some : 0 < length c.read_bands.new.bands.items = (let k = c.in_ok-read_bands.ensures.kept in let s = c.in_ok-make_bands.ensures.some in omega (arith, k, s)) in
    bits_full c.args.layer bands c.args.reader.now (c.in_ok-full.full, c.bit.new.self) c.in_ok-full.ensures.exact c.if-not-full.false
    ∙ ap (λ (bs : List BandState). packet_at c.args.layer record { bands = bs; bits = c.bit.new.self; parts = [] }) (sym made)
    ∙ ap (λ (ps : List BlockContribution). packet_at c.args.layer record { bands = c.make_bands.new.bands.items; bits = c.bit.new.self; parts = ps }) (sym c.requires.none)
    ∙ c.in_ok-read_bands.ensures.exact
    ∙ ap (λ (bs : List BandState). Ok (record { bands = bs; bits = c.read_bands.new.reader; parts = c.read_bands.new.parts.items })) (sym (seen_made (bands_of c.args.shape) c.read_bands.new.bands.items some))
