-- Steps of reading a sub-band, one equation for each case.
use Rattle.std.proofs.Common.{◌≡◌, ℕ, suc, ◌+◌, ◌<◌, Bool, true, false, cond, List, [], ◌∷◌, length, map, set, Result, Ok, Err, refl, ap, ◌∙◌, arith}
use Rattle.jk_math.specs.Answer.{◌>>=◌, Refuses}
use Rattle.jk_math.specs.declared.fault.Fault.{Fault}
use Rattle.jk_math.specs.declared.fault.Fault.TheVariants.{Memory}
use Rattle.jk_bits.specs.Reading.{Bits}
use Rattle.jk_tree.specs.Asking.{TagTreeRead}
use Rattle.jk_packet.specs.declared.shape.BandShape.{BandShape}
use Rattle.jk_packet.specs.declared.words.Addition.{Addition}
use Rattle.jk_packet.specs.Words.{most_passes}
use Rattle.jk_packet.specs.Reading.{included_at, zero_planes_at, piece_at, BandWalk, block_in, with_inclusion, with_piece, taken_at, block_at, blocks_at, band_at, BandState, Walk, band_in, bands_at, blank_band, blank_bands, bands_seen}

pub block_err : (number layer i : ℕ) (w : BandWalk) (e : Fault) → included_at layer i (block_in w.band.blocks i) (w.band.inclusion, w.bits) ≡ Err e → block_at number layer i w ≡ Err e
unfolding block_at
block_err number layer i w e h = ap (λ (r : Result (Bool × (TagTreeRead × Bits)) Fault). r >>= λ o. cond o.0 (taken_at number i (with_inclusion w o.1)) (Ok (with_inclusion w o.1))) h

pub block_after : (number layer i : ℕ) (w : BandWalk) (o : Bool × (TagTreeRead × Bits)) → included_at layer i (block_in w.band.blocks i) (w.band.inclusion, w.bits) ≡ Ok o
    → block_at number layer i w ≡ cond o.0 (taken_at number i (with_inclusion w o.1)) (Ok (with_inclusion w o.1))
unfolding block_at
block_after number layer i w o h = ap (λ (r : Result (Bool × (TagTreeRead × Bits)) Fault). r >>= λ o. cond o.0 (taken_at number i (with_inclusion w o.1)) (Ok (with_inclusion w o.1))) h

pub block_left : (number layer i : ℕ) (w : BandWalk) (o : Bool × (TagTreeRead × Bits)) → included_at layer i (block_in w.band.blocks i) (w.band.inclusion, w.bits) ≡ Ok o → o.0 ≡ false
    → block_at number layer i w ≡ Ok (with_inclusion w o.1)
block_left number layer i w o h b = block_after number layer i w o h ∙ ap (λ (c : Bool). cond c (taken_at number i (with_inclusion w o.1)) (Ok (with_inclusion w o.1))) b

pub block_taken : (number layer i : ℕ) (w : BandWalk) (o : Bool × (TagTreeRead × Bits)) → included_at layer i (block_in w.band.blocks i) (w.band.inclusion, w.bits) ≡ Ok o → o.0 ≡ true
    → block_at number layer i w ≡ taken_at number i (with_inclusion w o.1)
block_taken number layer i w o h b = block_after number layer i w o h ∙ ap (λ (c : Bool). cond c (taken_at number i (with_inclusion w o.1)) (Ok (with_inclusion w o.1))) b

pub taken_zeros_err : (number i : ℕ) (w : BandWalk) (e : Fault) → zero_planes_at w.band.planes i (block_in w.band.blocks i) (w.band.zeros, w.bits) ≡ Err e → taken_at number i w ≡ Err e
unfolding taken_at
taken_zeros_err number i w e h =
    ap (λ (r : Result (ℕ × (TagTreeRead × Bits)) Fault). r >>= λ z. piece_at (most_passes w.band.planes z.0) (block_in w.band.blocks i).passes (block_in w.band.blocks i).length_bits z.1.1 >>= λ p. Ok (with_piece number i w z p)) h

pub taken_zeros : (number i : ℕ) (w : BandWalk) (z : ℕ × (TagTreeRead × Bits)) → zero_planes_at w.band.planes i (block_in w.band.blocks i) (w.band.zeros, w.bits) ≡ Ok z
    → taken_at number i w ≡ (piece_at (most_passes w.band.planes z.0) (block_in w.band.blocks i).passes (block_in w.band.blocks i).length_bits z.1.1 >>= λ p. Ok (with_piece number i w z p))
unfolding taken_at
taken_zeros number i w z h =
    ap (λ (r : Result (ℕ × (TagTreeRead × Bits)) Fault). r >>= λ z. piece_at (most_passes w.band.planes z.0) (block_in w.band.blocks i).passes (block_in w.band.blocks i).length_bits z.1.1 >>= λ p. Ok (with_piece number i w z p)) h

pub taken_piece_err : (number i : ℕ) (w : BandWalk) (z : ℕ × (TagTreeRead × Bits)) (e : Fault) → zero_planes_at w.band.planes i (block_in w.band.blocks i) (w.band.zeros, w.bits) ≡ Ok z
    → piece_at (most_passes w.band.planes z.0) (block_in w.band.blocks i).passes (block_in w.band.blocks i).length_bits z.1.1 ≡ Err e → taken_at number i w ≡ Err e
taken_piece_err number i w z e h k = taken_zeros number i w z h ∙ ap (λ (r : Result (Addition × Bits) Fault). r >>= λ p. Ok (with_piece number i w z p)) k

pub taken_ok : (number i : ℕ) (w : BandWalk) (z : ℕ × (TagTreeRead × Bits)) (p : Addition × Bits) → zero_planes_at w.band.planes i (block_in w.band.blocks i) (w.band.zeros, w.bits) ≡ Ok z
    → piece_at (most_passes w.band.planes z.0) (block_in w.band.blocks i).passes (block_in w.band.blocks i).length_bits z.1.1 ≡ Ok p → taken_at number i w ≡ Ok (with_piece number i w z p)
taken_ok number i w z p h k = taken_zeros number i w z h ∙ ap (λ (r : Result (Addition × Bits) Fault). r >>= λ p. Ok (with_piece number i w z p)) k

pub blocks_none : (number layer i : ℕ) (w : BandWalk) → blocks_at number layer 0 i w ≡ Ok w
unfolding blocks_at
blocks_none number layer i w = refl

pub blocks_err : (number layer more i : ℕ) (w : BandWalk) (e : Fault) → block_at number layer i w ≡ Err e → blocks_at number layer (suc more) i w ≡ Err e
unfolding blocks_at
blocks_err number layer more i w e h = ap (λ (r : Result BandWalk Fault). r >>= λ v. blocks_at number layer more (i + 1) v) h

pub blocks_next : (number layer more i : ℕ) (w v : BandWalk) → block_at number layer i w ≡ Ok v → blocks_at number layer (suc more) i w ≡ blocks_at number layer more (i + 1) v
unfolding blocks_at
blocks_next number layer more i w v h = ap (λ (r : Result BandWalk Fault). r >>= λ v. blocks_at number layer more (i + 1) v) h

-- what is refused for a fault that is due is refused where that makes it due
pub refuses_on : {A B : Type 0} (e : Fault) (due : Result A Fault) (again : Result B Fault) → Refuses e due → (due ≡ Err e → again ≡ Err e) → Refuses e again
refuses_on (Memory r) due again h on = tt
refuses_on e due again h on = on h

pub bands_none : (layer number : ℕ) (w : Walk) → bands_at layer 0 number w ≡ Ok w
unfolding bands_at
bands_none layer number w = refl

pub bands_err : (layer more number : ℕ) (w : Walk) (e : Fault) → band_at number layer (record { band = band_in w.bands number; bits = w.bits; parts = w.parts }) ≡ Err e → bands_at layer (suc more) number w ≡ Err e
unfolding bands_at
bands_err layer more number w e h = ap (λ (r : Result BandWalk Fault). r >>= λ v. bands_at layer more (number + 1) (record { bands = set w.bands number v.band; bits = v.bits; parts = v.parts })) h

pub bands_next : (layer more number : ℕ) (w : Walk) (v : BandWalk) → band_at number layer (record { band = band_in w.bands number; bits = w.bits; parts = w.parts }) ≡ Ok v
    → bands_at layer (suc more) number w ≡ bands_at layer more (number + 1) (record { bands = set w.bands number v.band; bits = v.bits; parts = v.parts })
unfolding bands_at
bands_next layer more number w v h = ap (λ (r : Result BandWalk Fault). r >>= λ v. bands_at layer more (number + 1) (record { bands = set w.bands number v.band; bits = v.bits; parts = v.parts })) h

pub seen_made : (shapes : List BandShape) (bands : List BandState) → 0 < length bands → bands_seen shapes bands ≡ bands
unfolding bands_seen
seen_made shapes [] some = absurd (omega (arith, some))
seen_made shapes (b ∷ bs) some = refl

pub seen_blank : (shapes : List BandShape) (bands : List BandState) → bands ≡ [] → bands_seen shapes bands ≡ map blank_band shapes
unfolding bands_seen blank_bands
seen_blank shapes bands none = ap (bands_seen shapes) none
