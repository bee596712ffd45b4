-- One packet of the walk: its faults, and what is read.
use Rattle.std.proofs.Common.{◌≡◌, ℕ, ◌+◌, ◌<◌, ◌≤◌, Bool, nat_lt, List, length, Result, Ok, Err, sym, ap, ◌∙◌, arith}
use Rattle.std.proofs.lemmas.Bool.{lt-ltb}
use Rattle.jk_math.specs.Answer.{◌>>=◌, refuse, Refuses}
use Rattle.jk_math.specs.Steps.{ok_is}
use Rattle.jk_math.specs.declared.fault.Fault.{Fault}
use Rattle.jk_math.specs.declared.fault.Fault.TheVariants.{Memory, Truncated}
use Rattle.jk_geom.specs.declared.shape.PacketName.{PacketName}
use Rattle.jk_packet.specs.Reading.{PrecinctState, HeaderText, header_at}
use Rattle.jk_packet.proofs.Laws.{header_within}
use Rattle.jk_walk.specs.TilePackets.{slice_of}
use Rattle.jk_walk.specs.WalkReading.{place_end, place_of, packet_at}
use Rattle.jk_walk.specs.Keeping.{alone}
use Rattle.jk_walk.proofs.Slices.{slice_length}
use Rattle.jk_walk.proofs.SpanLaws.{refuses_read}

-- a step behind a fault
pub refused_step : {A B : Type 0} (e : Fault) (r : Result A Fault) (f : A → Result B Fault) → Refuses e r → Refuses e (r >>= f)
refused_step (Memory m) r f h = tt
refused_step {A} e r f h = ap (λ (x : Result A Fault). x >>= f) h

-- the state behind what was read
pub state_behind : {A S : Type 0} (r : Result (A × S) Fault) (a : A) → alone r ≡ Ok a → (s : S) × (r ≡ Ok (a, s))
state_behind {A} {S} (Ok o) a e = (o.1, ap (λ (b : A). Ok (b, o.1)) (ok_is o.0 a e))
state_behind (Err f) a e = absurd cc

-- a fault of what is read alone is one of the reading, and the other way round
pub alone_refused : {A S : Type 0} (e : Fault) (r : Result (A × S) Fault) → Refuses e r → Refuses e (alone r)
alone_refused e r h = refused_step e r _ h

pub refused_alone : {A S : Type 0} (e : Fault) (r : Result (A × S) Fault) → Refuses e (alone r) → Refuses e r
refused_alone {A} {S} e r h = refuses_read e r (λ (o : A × S). o.0) h

-- of two states behind the same
pub state_same : {A S : Type 0} (r : Result (A × S) Fault) (a : A) (s t : S) → r ≡ Ok (a, s) → r ≡ Ok (a, t) → t ≡ s
state_same {A} {S} r a s t left right = ap (λ (o : A × S). o.1) (sym (ok_is (a, s) (a, t) (sym left ∙ right)))

-- a header lies in its part
pub header_inside : (bytes : List ℕ) (part : ℕ × ℕ) (n : ℕ) (x : PrecinctState) (o : HeaderText × PrecinctState) → header_at n (slice_of bytes part) x ≡ Ok o → part.0 ≤ part.1 → part.1 ≤ length bytes → part.0 + o.0.length ≤ part.1
header_inside bytes part n x o h order within =
    let long = slice_length bytes part.0 part.1 order within in
    let inside = header_within n (slice_of bytes part) x o h in
    omega (arith, long, inside, order)

pub packet_refused : (bytes : List ℕ) (part : ℕ × ℕ) (n : PacketName) (x : PrecinctState) (e : Fault) → Refuses e (header_at n.layer (slice_of bytes part) x) → Refuses e (packet_at bytes part n x)
unfolding packet_at
packet_refused bytes part n x e h = refused_step e (header_at n.layer (slice_of bytes part) x) _ h

pub packet_cut : (bytes : List ℕ) (part : ℕ × ℕ) (n : PacketName) (x : PrecinctState) (o : HeaderText × PrecinctState) → header_at n.layer (slice_of bytes part) x ≡ Ok o
    → part.1 < place_end (place_of n part.0 o.0.length o.0.parts) → packet_at bytes part n x ≡ Err Truncated
unfolding packet_at
packet_cut bytes part n x o read past =
    ap (λ (r : Result (HeaderText × PrecinctState) Fault). r
    >>= λ h. refuse (nat_lt part.1 (place_end (place_of n part.0 h.0.length h.0.parts))) Truncated
    >>= λ _. Ok (place_of n part.0 h.0.length h.0.parts, h.1)) read
    ∙ ap (λ (t : Bool). refuse t Truncated >>= λ _. Ok (place_of n part.0 o.0.length o.0.parts, o.1)) (lt-ltb part.1 (place_end (place_of n part.0 o.0.length o.0.parts)) past)
