-- The parts of a file, of which an archive keeps the digests.
use Rattle.std.specs.Prelude.{ℕ, ◌+◌, ◌-◌, ◌*◌, ◌/◌, min, List, length, take, drop, map}
use Rattle.std.specs.List.{range_with_len}
use Rattle.sha2.specs.Sha256.{sha256}

-- how many bytes a part has; the last one of a file may have fewer
abbrev pub part_size : ℕ
part_size = 16384

-- part i of a file
abbrev pub file_part : ℕ → List ℕ → List ℕ
file_part i file = take part_size (drop (i * part_size) file)

-- how many parts a file of so many bytes has, of which none is empty
abbrev pub part_count : ℕ → ℕ
part_count size = (size + (part_size - 1)) / part_size

-- how many bytes part i of a file of so many bytes has
abbrev pub part_length : (size i : ℕ) → ℕ
part_length size i = min part_size (size - i * part_size)

-- the digests of the first n parts, in order
abbrev pub first_digests : ℕ → List ℕ → List (List ℕ)
first_digests n file = map (λ i. sha256 (file_part i file)) (range_with_len 0 n)

-- the digests of all parts, in order
abbrev pub part_digests : List ℕ → List (List ℕ)
part_digests file = map (λ i. sha256 (file_part i file)) (range_with_len 0 (part_count (length file)))
