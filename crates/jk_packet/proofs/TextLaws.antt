-- Steps of reading a packet header, one equation for each case.
use Rattle.std.proofs.Common.{◌≡◌, ℕ, ◌+◌, Bool, true, false, cond, List, [], drop, Result, Option, Some, None, Ok, Err, ap, ◌∙◌}
use Rattle.jk_math.specs.Answer.{◌>>=◌}
use Rattle.jk_math.specs.declared.fault.Fault.{Fault}
use Rattle.jk_bits.specs.Reading.{Bits, bit_at}
use Rattle.jk_tree.specs.Asking.{unless_failed}
use Rattle.jk_packet.specs.Reading.{BandState, HeaderText, PrecinctState, packet_at, bits_of, bits_at, sop_at, text_rest, text_at, header_at}

-- a step that fails, and one that doesn't
pub bind_err : {A B : Type 0} (r : Result A Fault) (f : A → Result B Fault) (e : Fault) → r ≡ Err e → (r >>= f) ≡ Err e
bind_err {A} r f e h = ap (λ (x : Result A Fault). x >>= f) h

pub bind_ok : {A B : Type 0} (r : Result A Fault) (f : A → Result B Fault) (x : A) → r ≡ Ok x → (r >>= f) ≡ f x
bind_ok {A} r f x h = ap (λ (y : Result A Fault). y >>= f) h

pub bits_err : (layer : ℕ) (bands : List BandState) (r : Bits) (e : Fault) → bit_at r ≡ Err e → bits_at layer bands r ≡ Err e
unfolding bits_at
bits_err layer bands r e h = bind_err (bit_at r) (λ b. cond b.0 (packet_at layer (record { bands = bands; bits = b.1; parts = [] })) (Ok (record { bands = bands; bits = b.1; parts = [] }))) e h

pub bits_after : (layer : ℕ) (bands : List BandState) (r : Bits) (o : Bool × Bits) → bit_at r ≡ Ok o
    → bits_at layer bands r ≡ cond o.0 (packet_at layer (record { bands = bands; bits = o.1; parts = [] })) (Ok (record { bands = bands; bits = o.1; parts = [] }))
unfolding bits_at
bits_after layer bands r o h = bind_ok (bit_at r) (λ b. cond b.0 (packet_at layer (record { bands = bands; bits = b.1; parts = [] })) (Ok (record { bands = bands; bits = b.1; parts = [] }))) o h

pub bits_none : (layer : ℕ) (bands : List BandState) (r : Bits) (o : Bool × Bits) → bit_at r ≡ Ok o → o.0 ≡ false → bits_at layer bands r ≡ Ok (record { bands = bands; bits = o.1; parts = [] })
bits_none layer bands r o h b =
    bits_after layer bands r o h ∙ ap (λ (c : Bool). cond c (packet_at layer (record { bands = bands; bits = o.1; parts = [] })) (Ok (record { bands = bands; bits = o.1; parts = [] }))) b

pub bits_full : (layer : ℕ) (bands : List BandState) (r : Bits) (o : Bool × Bits) → bit_at r ≡ Ok o → o.0 ≡ true → bits_at layer bands r ≡ packet_at layer (record { bands = bands; bits = o.1; parts = [] })
bits_full layer bands r o h b =
    bits_after layer bands r o h ∙ ap (λ (c : Bool). cond c (packet_at layer (record { bands = bands; bits = o.1; parts = [] })) (Ok (record { bands = bands; bits = o.1; parts = [] }))) b

-- what follows the SOP marker segment
abbrev pub text_from : (eph : Bool) (layer : ℕ) → List ℕ → List BandState → ℕ → Result (HeaderText × List BandState) Fault
text_from eph layer bytes bands n = bits_at layer bands (bits_of (drop n bytes)) >>= λ w. text_rest eph bytes n w

pub text_sop_err : (sop eph : Bool) (layer : ℕ) (bytes : List ℕ) (bands : List BandState) (e : Fault) → sop_at sop bytes ≡ Err e → text_at sop eph layer bytes bands ≡ Err e
unfolding text_at
text_sop_err sop eph layer bytes bands e h = bind_err (sop_at sop bytes) (text_from eph layer bytes bands) e h

pub text_sop : (sop eph : Bool) (layer : ℕ) (bytes : List ℕ) (bands : List BandState) (n : ℕ) → sop_at sop bytes ≡ Ok n → text_at sop eph layer bytes bands ≡ text_from eph layer bytes bands n
unfolding text_at
text_sop sop eph layer bytes bands n h = bind_ok (sop_at sop bytes) (text_from eph layer bytes bands) n h

pub header_failed : (layer : ℕ) (bytes : List ℕ) (s : PrecinctState) (e : Fault) → s.failed ≡ Some e → header_at layer bytes s ≡ Err e
unfolding header_at
header_failed layer bytes s e h =
    ap (λ (f : Option Fault). unless_failed f (text_at s.sop s.eph layer bytes s.bands >>= λ o. Ok (o.0, record s { bands = o.1; layers = s.layers + 1 }))) h

pub header_goes : (layer : ℕ) (bytes : List ℕ) (s : PrecinctState) → s.failed ≡ None → header_at layer bytes s ≡ (text_at s.sop s.eph layer bytes s.bands >>= λ o. Ok (o.0, record s { bands = o.1; layers = s.layers + 1 }))
unfolding header_at
header_goes layer bytes s h =
    ap (λ (f : Option Fault). unless_failed f (text_at s.sop s.eph layer bytes s.bands >>= λ o. Ok (o.0, record s { bands = o.1; layers = s.layers + 1 }))) h

pub header_err : (layer : ℕ) (bytes : List ℕ) (s : PrecinctState) (e : Fault) → s.failed ≡ None → text_at s.sop s.eph layer bytes s.bands ≡ Err e → header_at layer bytes s ≡ Err e
header_err layer bytes s e none h = header_goes layer bytes s none ∙ bind_err (text_at s.sop s.eph layer bytes s.bands) (λ o. Ok (o.0, record s { bands = o.1; layers = s.layers + 1 })) e h

pub header_ok : (layer : ℕ) (bytes : List ℕ) (s : PrecinctState) (o : HeaderText × List BandState) → s.failed ≡ None → text_at s.sop s.eph layer bytes s.bands ≡ Ok o
    → header_at layer bytes s ≡ Ok (o.0, record s { bands = o.1; layers = s.layers + 1 })
header_ok layer bytes s o none h = header_goes layer bytes s none ∙ bind_ok (text_at s.sop s.eph layer bytes s.bands) (λ o. Ok (o.0, record s { bands = o.1; layers = s.layers + 1 })) o h
