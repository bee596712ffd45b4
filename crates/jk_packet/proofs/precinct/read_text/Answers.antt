use Rattle.std.proofs.Common.{◌≡◌, ℕ, ◌+◌, ◌-◌, ◌<◌, ◌≤◌, ◌^◌, Bool, List, length, drop, false, Ok, sym, ap, ◌∙◌, subst, arith, Fits, w64}
use Rattle.std.proofs.lemmas.Result.{err_from_is_err_and}
use Rattle.std.proofs.lemmas.List.{length-drop}
use Rattle.jk_math.specs.Steps.{refuses_due}
use Rattle.jk_bits.specs.Reading.{Bits, finish_at}
use Rattle.jk_bits.specs.Giving.{same_bytes}
use Rattle.jk_bits.proofs.Laws.{finish_within}
use Rattle.jk_packet.specs.declared.header.BlockContribution.{BlockContribution}
use Rattle.jk_packet.specs.Shapes.{bands_of}
use Rattle.jk_packet.specs.Reading.{BandState, Walk, bands_seen, bits_of, bits_at, sop_at, eph_at, text_end, text_rest, text_at}
use Rattle.jk_packet.proofs.BandLaws.{refuses_on}
use Rattle.jk_packet.proofs.TextLaws.{bind_err, bind_ok, text_sop_err, text_sop}
use Rattle.jk_packet.proofs.Moves.{bits_move}
use Rattle.jk_packet.proofs.precinct.read_text.Goals as goal

pub returns-in_err-sop-clause-exact : goal.returns-in_err-sop-clause-exact
returns-in_err-sop-clause-exact c =
    let s = c.args.shape in
    let p = err_from_is_err_and c.from_residual.result c.from_residual.ensures.1 in
    rw (p.1, p.2) (refuses_due c.in_err-sop.field-0.0 _
    (text_sop_err s.sop s.eph c.args.layer c.args.bytes.now (bands_seen (bands_of s) c.args.bands.now.items) c.in_err-sop.field-0.0
    (ap (λ b. sop_at b c.args.bytes.now) (sym c.sop.ensures) ∙ sym c.in_err-sop.ensures.exact)))

-- the reader that was made
reader_is : (r : Bits) (bytes : List ℕ) (n : ℕ) (from : List ℕ) → r ≡ record { bytes = from; read = 0; failed = false } → from ≡ drop n bytes → r ≡ bits_of (drop n bytes)
reader_is r bytes n from h e = h ∙ ap bits_of e

pub returns-in_err-read_bits-clause-exact : goal.returns-in_err-read_bits-clause-exact
returns-in_err-read_bits-clause-exact c =
    let s = c.args.shape in
    let bytes = c.args.bytes.now in
    let bands = bands_seen (bands_of s) c.args.bands.now.items in
    let n = c.in_ok-sop.sop in
    let made = reader_is c.new-reader.result bytes n c.bytes_from.result.now c.new-reader.ensures.made c.bytes_from.ensures in
    let p = err_from_is_err_and c.from_residual-in_err-read_bits.result c.from_residual-in_err-read_bits.ensures.1 in
    rw (p.1, p.2) (refuses_on c.in_err-read_bits.field-0.0 (bits_at c.args.layer bands c.new-reader.result) _ c.in_err-read_bits.ensures.exact
    (λ h. text_sop s.sop s.eph c.args.layer bytes bands n (ap (λ b. sop_at b bytes) (sym c.sop.ensures) ∙ sym c.in_ok-sop.ensures.exact)
    ∙ bind_err (bits_at c.args.layer bands (bits_of (drop n bytes))) (λ w. text_rest s.eph bytes n w) c.in_err-read_bits.field-0.0
    (ap (bits_at c.args.layer bands) (sym made) ∙ h)))

-- where the bits end
size_fits : (layer : ℕ) (bands : List BandState) (r : Bits) (w : Walk) (bytes : List ℕ) (n m : ℕ) → r ≡ bits_of (drop n bytes) → n ≤ length bytes → bits_at layer bands r ≡ Ok w → finish_at w.bits ≡ Ok m → n + m ≤ length bytes
size_fits layer bands r w bytes n m made low read size =
    let within = finish_within w.bits m size in
    let same : w.bits.bytes ≡ drop n bytes = same_bytes r w.bits (bits_move layer bands r w read) ∙ ap (λ (b : Bits). b.bytes) made in
    let long : length w.bits.bytes ≡ length bytes - n = ap length same ∙ length-drop n bytes in
    omega (arith, within, long, low)

-- from the bits to the size
sized : (s_sop s_eph : Bool) (layer : ℕ) (bytes : List ℕ) (bands : List BandState) (n : ℕ) (r : Bits) (w : Walk) → r ≡ bits_of (drop n bytes) → sop_at s_sop bytes ≡ Ok n → bits_at layer bands r ≡ Ok w
    → text_at s_sop s_eph layer bytes bands ≡ text_rest s_eph bytes n w
sized s_sop s_eph layer bytes bands n r w made sop read =
    text_sop s_sop s_eph layer bytes bands n sop
    ∙ bind_ok (bits_at layer bands (bits_of (drop n bytes))) (λ w. text_rest s_eph bytes n w) w (ap (bits_at layer bands) (sym made) ∙ read)

pub returns-in_err-size-clause-exact : goal.returns-in_err-size-clause-exact
returns-in_err-size-clause-exact c =
    let s = c.args.shape in
    let bytes = c.args.bytes.now in
    let bands = bands_seen (bands_of s) c.args.bands.now.items in
    let n = c.in_ok-sop.sop in
    let w : Walk = record { bands = bands_seen (bands_of s) c.read_bits.new.bands.items; bits = c.read_bits.new.reader; parts = c.read_bits.new.parts.items } in
    let p = err_from_is_err_and c.from_residual-in_err-size.result c.from_residual-in_err-size.ensures.1 in
    rw (p.1, p.2) (refuses_due c.in_err-size.field-0.0 _
    (sized s.sop s.eph c.args.layer bytes bands n c.new-reader.result w (reader_is c.new-reader.result bytes n c.bytes_from.result.now c.new-reader.ensures.made c.bytes_from.ensures)
    (ap (λ b. sop_at b bytes) (sym c.sop.ensures) ∙ sym c.in_ok-sop.ensures.exact) c.in_ok-read_bits.ensures.exact
    ∙ bind_err (finish_at w.bits) (λ m. text_end s.eph bytes n w m) c.in_err-size.field-0.0 (sym c.in_err-size.ensures.exact)))

fits_of : (a b : ℕ) → a ≤ b → b < 2 ^ 64 → Fits w64 a
fits_of a b h k = omega (arith, h, k)

pub overflow_add-end : goal.overflow_add-end
overflow_add-end c =
    let bytes = c.args.bytes.now in
    let bands = bands_seen (bands_of c.args.shape) c.args.bands.now.items in
    let n = c.in_ok-sop.sop in
    let w : Walk = record { bands = bands_seen (bands_of c.args.shape) c.read_bits.new.bands.items; bits = c.read_bits.new.reader; parts = c.read_bits.new.parts.items } in
    let fits = size_fits c.args.layer bands c.new-reader.result w bytes n c.in_ok-size.size (reader_is c.new-reader.result bytes n c.bytes_from.result.now c.new-reader.ensures.made c.bytes_from.ensures) c.in_ok-sop.ensures.within c.in_ok-read_bits.ensures.exact (sym c.in_ok-size.ensures.exact) in
    omega (arith, fits)

pub bytes_from-requires-2 : goal.bytes_from-requires-2
bytes_from-requires-2 c =
    let bytes = c.args.bytes.now in
    let bands = bands_seen (bands_of c.args.shape) c.args.bands.now.items in
    let n = c.in_ok-sop.sop in
    let w : Walk = record { bands = bands_seen (bands_of c.args.shape) c.read_bits.new.bands.items; bits = c.read_bits.new.reader; parts = c.read_bits.new.parts.items } in
    size_fits c.args.layer bands c.new-reader.result w bytes n c.in_ok-size.size (reader_is c.new-reader.result bytes n c.bytes_from.result.now c.new-reader.ensures.made c.bytes_from.ensures) c.in_ok-sop.ensures.within c.in_ok-read_bits.ensures.exact (sym c.in_ok-size.ensures.exact)

pub returns-in_err-eph-clause-exact : goal.returns-in_err-eph-clause-exact
returns-in_err-eph-clause-exact c =
    let s = c.args.shape in
    let bytes = c.args.bytes.now in
    let bands = bands_seen (bands_of s) c.args.bands.now.items in
    let n = c.in_ok-sop.sop in
    let m = c.in_ok-size.size in
    let w : Walk = record { bands = bands_seen (bands_of s) c.read_bits.new.bands.items; bits = c.read_bits.new.reader; parts = c.read_bits.new.parts.items } in
    let p = err_from_is_err_and c.from_residual-in_err-eph.result c.from_residual-in_err-eph.ensures.1 in
    rw (p.1, p.2) (refuses_due c.in_err-eph.field-0.0 _
    (sized s.sop s.eph c.args.layer bytes bands n c.new-reader.result w (reader_is c.new-reader.result bytes n c.bytes_from.result.now c.new-reader.ensures.made c.bytes_from.ensures)
    (ap (λ b. sop_at b bytes) (sym c.sop.ensures) ∙ sym c.in_ok-sop.ensures.exact) c.in_ok-read_bits.ensures.exact
    ∙ bind_ok (finish_at w.bits) (λ m. text_end s.eph bytes n w m) m (sym c.in_ok-size.ensures.exact)
    ∙ bind_err (eph_at s.eph (drop (n + m) bytes)) (λ k. Ok (record { length = n + m + k; parts = w.parts }, w.bands)) c.in_err-eph.field-0.0
    (ap (eph_at s.eph) (sym c.bytes_from-2.ensures) ∙ ap (λ b. eph_at b c.bytes_from-2.result.now) (sym c.eph.ensures) ∙ sym c.in_err-eph.ensures.exact)))

pub returns-clause-exact : goal.returns-clause-exact
returns-clause-exact c =
    let s = c.args.shape in
    let bytes = c.args.bytes.now in
    let bands = bands_seen (bands_of s) c.args.bands.now.items in
    let n = c.in_ok-sop.sop in
    let m = c.in_ok-size.size in
    let k = c.in_ok-eph.eph in
    let w : Walk = record { bands = bands_seen (bands_of s) c.read_bits.new.bands.items; bits = c.read_bits.new.reader; parts = c.read_bits.new.parts.items } in
    sized s.sop s.eph c.args.layer bytes bands n c.new-reader.result w (reader_is c.new-reader.result bytes n c.bytes_from.result.now c.new-reader.ensures.made c.bytes_from.ensures)
    (ap (λ b. sop_at b bytes) (sym c.sop.ensures) ∙ sym c.in_ok-sop.ensures.exact) c.in_ok-read_bits.ensures.exact
    ∙ bind_ok (finish_at w.bits) (λ m. text_end s.eph bytes n w m) m (sym c.in_ok-size.ensures.exact)
    ∙ bind_ok (eph_at s.eph (drop (n + m) bytes)) (λ k. Ok (record { length = n + m + k; parts = w.parts }, w.bands)) k
    (ap (eph_at s.eph) (sym c.bytes_from-2.ensures) ∙ ap (λ b. eph_at b c.bytes_from-2.result.now) (sym c.eph.ensures) ∙ sym c.in_ok-eph.ensures.exact)
    ∙ ap (λ (ps : List BlockContribution). Ok (record { length = n + m + k; parts = ps }, w.bands)) (sym c.new.ensures)

pub overflow_add-result : goal.overflow_add-result
overflow_add-result c =
    let bytes = c.args.bytes.now in
    let bands = bands_seen (bands_of c.args.shape) c.args.bands.now.items in
    let n = c.in_ok-sop.sop in
    let w : Walk = record { bands = bands_seen (bands_of c.args.shape) c.read_bits.new.bands.items; bits = c.read_bits.new.reader; parts = c.read_bits.new.parts.items } in
    let fits = size_fits c.args.layer bands c.new-reader.result w bytes n c.in_ok-size.size (reader_is c.new-reader.result bytes n c.bytes_from.result.now c.new-reader.ensures.made c.bytes_from.ensures) c.in_ok-sop.ensures.within c.in_ok-read_bits.ensures.exact (sym c.in_ok-size.ensures.exact) in
    let within : c.in_ok-eph.eph ≤ length (drop (n + c.in_ok-size.size) bytes) = subst (λ (bs : List ℕ). c.in_ok-eph.eph ≤ length bs) c.bytes_from-2.ensures c.in_ok-eph.ensures.within in
    let long = length-drop (n + c.in_ok-size.size) bytes in
    omega (arith, fits, within, long)
