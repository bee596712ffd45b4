-- The passes and bytes of a block by layers: the last layer has bit-plane 0, the one before it
-- plane 1 and so on, the first one all planes that are left.
use Rattle.std.specs.Prelude.{ℕ, ◌+◌, ◌-◌, ◌*◌, ◌&&◌, List, length, get_or, nat_le, nat_lt, ◌==◌, if◌then◌else◌, min}
use Rattle.jk_block.specs.BlockWritten.{Coded}

-- how many passes of a block of so many planes stand in the layers from 0 to l
unfoldable pub passes_upto : (layers planes l : ℕ) → ℕ
passes_upto layers planes l = if nat_le planes (layers - 1 - l) then 0 else 3 * (planes - (layers - 1 - l)) - 2

-- a length, less one where the byte before its end is FF
unfoldable pub without_ff : List ℕ → ℕ → ℕ
without_ff bytes z = if nat_lt 0 z && (get_or bytes (z - 1) 0 == 255) then z - 1 else z

-- How many bytes of a block stand in the layers from 0 to l: the last layer has all; an earlier one
-- as many as its passes surely need, which are four more than were placed after its last pass.
unfoldable pub bytes_upto : (layers : ℕ) → Coded → (l : ℕ) → ℕ
bytes_upto layers k l =
    let n = passes_upto layers k.planes l in
    if n == 0 then 0
    else (if l + 1 == layers then length k.bytes
    else without_ff k.bytes (min (length k.bytes) (get_or k.marks (n - 1) 0 + 4)))
