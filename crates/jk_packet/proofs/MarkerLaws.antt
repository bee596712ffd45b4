-- The text of the bit 0, and the SOP marker segments that are written.
use Rattle.std.proofs.Common.{◌≡◌, ℕ, ◌/◌, ◌%◌, ◌^◌, ◌<◌, Bool, true, false, eqb, [], ◌∷◌, refl, ap, inl, inr, arith}
use Rattle.std.proofs.lemmas.Bool.{ne_eqb}
use Rattle.jk_bits.specs.Stuffing.{binary, Packs}
use Rattle.jk_packet.specs.PacketText.{IsSop}
use Rattle.jk_packet.specs.Written.{sop_text}

-- a byte's highest bit
low_bit : (b : ℕ) → b < 128 → eqb (b / 2 ^ 7 % 2) 1 ≡ false
low_bit b low = let bit : b / 2 ^ 7 % 2 ≡ 0 = omega (arith, low) in rw bit refl

not_ff : (b : ℕ) → b < 128 → eqb b 255 ≡ false
not_ff b low = ne_eqb b 255 (λ same. omega (arith, low, same))

-- a byte below 128 is a text of the bit 0
pub zero_packs : (b : ℕ) → b < 128 → Packs false (false ∷ []) (b ∷ [])
unfolding Packs binary
zero_packs b low = (refl, ap (λ (bit : Bool). bit ∷ []) (low_bit b low), (refl, not_ff b low))

-- what is written where SOP is asked for is an SOP marker segment
pub sop_is : (sop : Bool) (counter : ℕ) → IsSop sop (sop_text sop counter)
sop_is true counter = inr (refl, counter / 256, counter % 256, refl)
sop_is false counter = inl refl
