-- Empty packets one after another.
use Rattle.std.specs.Prelude.{ℕ, zero, suc, Bool, if◌then◌else◌, List, [], ◌∷◌, ◌++◌}
use Rattle.jk_packet.specs.PacketText.{eph_text}

-- so many without SOP: a header of the bit 0, and EPH where it must stand (T.800 B.10.3)
unfoldable pub emptied_texts : (eph : Bool) → (count : ℕ) → List ℕ
emptied_texts eph zero = []
emptied_texts eph (suc n) = (0 ∷ eph_text eph) ++ emptied_texts eph n

-- how many of them are written at once
abbrev pub block_size : (eph : Bool) → ℕ
block_size eph = if eph then 64 else 1024
