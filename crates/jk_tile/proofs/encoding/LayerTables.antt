-- Coded code-blocks cut into layers.
use Rattle.std.proofs.Common.{◌≡◌, ℕ, zero, suc, ◌+◌, ◌-◌, ◌*◌, ◌^◌, ◌<◌, ◌≤◌, List, [], ◌∷◌, ◌++◌, length, map, take, drop, get_or, min, sum_by, true, false, cond, ℤ, refl, sym, ap, subst, ◌∙◌, inl, inr, arith}
use Rattle.std.specs.List.{flat_map, range_with_len}
use Rattle.std.specs.Prelude.{nat_eq}
use Rattle.std.proofs.lemmas.Bool.{cases_lt}
use Rattle.std.proofs.lemmas.Bool.Decides.{nat_tests}
use Rattle.std.proofs.lemmas.List.{take_all}
use Rattle.std.proofs.lemmas.List.Sums.{sum_by-cons}
use Rattle.std.proofs.lemmas.List.FromFn.{length-map-range_with_len, get_or-map-range_with_len, map-range_with_len_more}
use Rattle.jk_scan.specs.declared.shape.BlockShape.{BlockShape}
use Rattle.jk_packet.specs.declared.table.LayerPart.{LayerPart}
use Rattle.jk_packet.specs.Written.{Table, part_in, IsTable, cut_parts, AreEnds, table_of}
use Rattle.jk_packet.proofs.Laws.{last_end, table_bytes, table_size, table_passes}
use Rattle.jk_math.specs.BitLength.{bit_length}
use Rattle.jk_block.specs.Meaning.{value_in}
use Rattle.jk_block.specs.BlockWritten.{greatest, Coded, coded, pass_count}
use Rattle.jk_block.specs.Layers.{passes_upto, bytes_upto, without_ff}
use Rattle.jk_block.proofs.Laws.{passes_none, passes_some, passes_rise, passes_few, passes_whole, upto_few, upto_rise, upto_whole, bytes_small}
use Rattle.jk_tile.specs.encoding.PacketsWritten.{passes_before, bytes_before, layer_part, parts_for, coded_table}

abbrev pub part_of : ℕ → Coded → ℕ → LayerPart
part_of layers k l = record { passes = passes_upto layers k.planes l - passes_before layers k.planes l; end = bytes_upto layers k l }

-- what is before the next layer
pub next_passes : (layers planes l : ℕ) → passes_before layers planes (l + 1) ≡ passes_upto layers planes l
next_passes layers planes l = let one : l + 1 ≡ suc l = omega arith in ap (passes_before layers planes) one

next_bytes : (layers : ℕ) (k : Coded) (l : ℕ) → bytes_before layers k (l + 1) ≡ bytes_upto layers k l
next_bytes layers k l = let one : l + 1 ≡ suc l = omega arith in ap (bytes_before layers k) one

-- the parts by their ends are the parts
pub cut_from : (layers : ℕ) (k : Coded) (a n : ℕ) → cut_parts (bytes_before layers k a) (map (part_of layers k) (range_with_len a n)) k.bytes ≡ map (layer_part layers k) (range_with_len a n)
cut_from layers k a zero = refl
cut_from layers k a (suc n) =
    let next = next_bytes layers k a in
    ap (λ ps. layer_part layers k a ∷ ps) (ap (λ from. cut_parts from (map (part_of layers k) (range_with_len (a + 1) n)) k.bytes) (sym next) ∙ cut_from layers k (a + 1) n)

pub table_is : (layers planes : ℕ) (k : Coded) → coded_table layers planes k ≡ table_of (planes - k.planes) 0 (parts_for layers k) k.bytes
unfolding coded_table
table_is layers planes k = ap (λ ps. record { zero_planes = planes - k.planes; parts = ps }) (sym (cut_from layers k 0 layers))

-- the ends don't fall
before_rise : (s : BlockShape) (values : List ℤ) (layers l : ℕ) → l < layers → bytes_before layers (coded s values) l ≤ bytes_upto layers (coded s values) l
before_rise s values layers zero lt = omega arith
before_rise s values layers (suc l) lt = upto_rise s values layers l (suc l) (omega arith) lt

pub ends_from : (s : BlockShape) (values : List ℤ) (layers a n : ℕ) → a + n ≤ layers → AreEnds (bytes_before layers (coded s values) a) (map (part_of layers (coded s values)) (range_with_len a n)) (length (coded s values).bytes)
ends_from s values layers a zero le = tt
ends_from s values layers a (suc n) le =
    let k = coded s values in (
      before_rise s values layers a (omega (arith, le)),
      upto_few layers k a (omega (arith, le)),
      subst (λ from. AreEnds from (map (part_of layers k) (range_with_len (a + 1) n)) (length k.bytes)) (next_bytes layers k a) (ends_from s values layers (a + 1) n (omega (arith, le))),
    )

pub parts_end : (s : BlockShape) (values : List ℤ) (layers : ℕ) → AreEnds 0 (parts_for layers (coded s values)) (length (coded s values).bytes)
parts_end s values layers = ends_from s values layers 0 layers (omega arith)

-- the end of the last
pub last_from : (layers : ℕ) (k : Coded) (a n : ℕ) → last_end (bytes_before layers k a) (map (part_of layers k) (range_with_len a n)) ≡ bytes_before layers k (a + n)
last_from layers k a zero = ap (bytes_before layers k) (let e : a ≡ a + 0 = omega arith in e)
last_from layers k a (suc n) = ap (λ from. last_end from (map (part_of layers k) (range_with_len (a + 1) n))) (sym (next_bytes layers k a)) ∙ last_from layers k (a + 1) n ∙ ap (bytes_before layers k) (let e : a + 1 + n ≡ a + suc n = omega arith in e)

last_whole : (s : BlockShape) (values : List ℤ) (layers : ℕ) → 1 ≤ layers → last_end 0 (parts_for layers (coded s values)) ≡ length (coded s values).bytes
last_whole s values layers some =
    let k = coded s values in
    let one : 0 + layers ≡ suc (layers - 1) = omega (arith, some) in
    last_from layers k 0 layers ∙ ap (bytes_before layers k) one ∙ upto_whole s values layers some

-- all bytes, and all passes
pub table_has_bytes : (s : BlockShape) (values : List ℤ) (layers planes : ℕ) → 1 ≤ layers → flat_map (λ p. p.1) (coded_table layers planes (coded s values)).parts ≡ (coded s values).bytes
table_has_bytes s values layers planes some =
    let k = coded s values in
    ap (λ (t : Table). flat_map (λ p. p.1) t.parts) (table_is layers planes k) ∙ table_bytes (planes - k.planes) 0 (parts_for layers k) k.bytes (parts_end s values layers)
    ∙ ap (λ n. take n k.bytes) (last_whole s values layers some) ∙ take_all (length k.bytes) k.bytes (omega arith)

table_has_size : (s : BlockShape) (values : List ℤ) (layers planes : ℕ) → 1 ≤ layers → sum_by (λ p. length p.1) (coded_table layers planes (coded s values)).parts ≡ length (coded s values).bytes
table_has_size s values layers planes some =
    let k = coded s values in
    ap (λ (t : Table). sum_by (λ p. length p.1) t.parts) (table_is layers planes k) ∙ table_size (planes - k.planes) 0 (parts_for layers k) k.bytes (parts_end s values layers) ∙ last_whole s values layers some

pub before_passes : (layers planes l : ℕ) → passes_before layers planes l ≤ passes_upto layers planes l
before_passes layers planes zero = omega arith
before_passes layers planes (suc l) = passes_rise layers planes l (suc l) (omega arith)

pub sum_from : (layers : ℕ) (k : Coded) (a n : ℕ) → passes_before layers k.planes a + sum_by (λ p. p.passes) (map (part_of layers k) (range_with_len a n)) ≡ passes_before layers k.planes (a + n)
sum_from layers k a zero = let e : a ≡ a + 0 = omega arith in let z : passes_before layers k.planes a + 0 ≡ passes_before layers k.planes a = omega arith in z ∙ ap (passes_before layers k.planes) e
sum_from layers k a (suc n) =
    let rise = before_passes layers k.planes a in
    let next = next_passes layers k.planes a in
    let rest = sum_from layers k (a + 1) n in
    let rest_sum = sum_by (λ (p : LayerPart). p.passes) (map (part_of layers k) (range_with_len (a + 1) n)) in
    ap (λ m. passes_before layers k.planes a + m) (sum_by-cons (λ (p : LayerPart). p.passes) (part_of layers k a) (map (part_of layers k) (range_with_len (a + 1) n)))
    ∙ (let e : passes_before layers k.planes a + (passes_upto layers k.planes a - passes_before layers k.planes a + rest_sum) ≡ passes_before layers k.planes (a + 1) + rest_sum = omega (arith, rise, next) in e)
    ∙ rest ∙ ap (passes_before layers k.planes) (let e : a + 1 + n ≡ a + suc n = omega arith in e)

pub table_has_passes : (layers planes : ℕ) (k : Coded) → 1 ≤ layers → sum_by (λ p. p.0) (coded_table layers planes k).parts ≡ pass_count k.planes
table_has_passes layers planes k some =
    let one : 0 + layers ≡ suc (layers - 1) = omega (arith, some) in
    ap (λ (t : Table). sum_by (λ p. p.0) t.parts) (table_is layers planes k) ∙ table_passes (planes - k.planes) 0 (parts_for layers k) k.bytes
    ∙ (let z : sum_by (λ (p : LayerPart). p.passes) (parts_for layers k) ≡ 0 + sum_by (λ (p : LayerPart). p.passes) (parts_for layers k) = omega arith in z) ∙ sum_from layers k 0 layers ∙ ap (passes_before layers k.planes) one ∙ passes_whole layers k.planes

-- one layer more
pub parts_more : (layers n passes end before : ℕ) (k : Coded) (old new : List LayerPart) → old ≡ map (part_of layers k) (range_with_len 0 n) → passes ≡ passes_upto layers k.planes n → before ≡ passes_before layers k.planes n → end ≡ bytes_upto layers k n
    → new ≡ old ++ record { passes = passes - before; end = end } ∷ [] → new ≡ map (part_of layers k) (range_with_len 0 (n + 1))
parts_more layers n passes end before k old new eo ep eb ee e =
    e ∙ ap (λ (ps : List LayerPart). ps ++ record { passes = passes - before; end = end } ∷ []) eo
    ∙ ap (λ (m : ℕ). map (part_of layers k) (range_with_len 0 n) ++ record { passes = m - before; end = end } ∷ []) ep
    ∙ ap (λ (m : ℕ). map (part_of layers k) (range_with_len 0 n) ++ record { passes = passes_upto layers k.planes n - m; end = end } ∷ []) eb
    ∙ ap (λ (m : ℕ). map (part_of layers k) (range_with_len 0 n) ++ record { passes = passes_upto layers k.planes n - passes_before layers k.planes n; end = m } ∷ []) ee
    ∙ sym (map-range_with_len_more (part_of layers k) 0 n n (omega arith))

-- those of a coded block
pub ends_of : (s : BlockShape) (values : List ℤ) (layers : ℕ) (k : Coded) (parts : List LayerPart) → k ≡ coded s values → parts ≡ parts_for layers k → AreEnds 0 parts (length k.bytes)
ends_of s values layers k parts e ep =
    subst (λ ps. AreEnds 0 ps (length k.bytes)) (sym ep) (subst (λ (c : Coded). AreEnds 0 (parts_for layers c) (length c.bytes)) (sym e) (parts_end s values layers))

-- the bytes up to a layer that isn't the last
pub early_is : (layers : ℕ) (k : Coded) (l room : ℕ) → 0 < passes_upto layers k.planes l → l + 1 < layers → room ≡ min (length k.bytes) (get_or k.marks (passes_upto layers k.planes l - 1) 0 + 4) → bytes_upto layers k l ≡ without_ff k.bytes room
unfolding bytes_upto
early_is layers k l room h e is =
    ap (λ b. cond b 0 (cond (nat_eq (l + 1) layers) (length k.bytes) (without_ff k.bytes (min (length k.bytes) (get_or k.marks (passes_upto layers k.planes l - 1) 0 + 4)))))
    (let g : nat_eq (passes_upto layers k.planes l) 0 ≡ false = grind (arith, nat_tests) in g)
    ∙ ap (λ b. cond b (length k.bytes) (without_ff k.bytes (min (length k.bytes) (get_or k.marks (passes_upto layers k.planes l - 1) 0 + 4))))
    (let g : nat_eq (l + 1) layers ≡ false = grind (arith, nat_tests) in g)
    ∙ ap (without_ff k.bytes) (sym is)

pub saturated : (a b c : ℕ) → a < 2 ^ 25 → min a (min (b + 4) 18446744073709551615) ≡ min a (b + 4)
saturated a b c few = omega (arith, few)

-- ---- a table of layers

none_is : (layers : ℕ) (k : Coded) (l : ℕ) → passes_upto layers k.planes l ≡ 0 → bytes_upto layers k l ≡ 0
unfolding bytes_upto
none_is layers k l e =
    ap (λ b. cond b 0 (cond (nat_eq (l + 1) layers) (length k.bytes) (without_ff k.bytes (min (length k.bytes) (get_or k.marks (passes_upto layers k.planes l - 1) 0 + 4)))))
    (let g : nat_eq (passes_upto layers k.planes l) 0 ≡ true = grind (arith, nat_tests) in g)

-- a layer that adds no pass has none before it
no_pass : (layers planes l : ℕ) → l < layers → passes_upto layers planes l - passes_before layers planes l ≡ 0 → passes_upto layers planes l ≡ 0
no_pass layers planes zero lt e = omega (arith, e)
no_pass layers planes (suc l) lt e = elim (cases_lt (layers - 1 - suc l) planes) [
  | inl some ↦
      let here = passes_some layers planes (suc l) some in
      elim (cases_lt (layers - 1 - l) planes) [
        | inl before ↦ let there = passes_some layers planes l before in absurd (omega (arith, e, here, there, lt, some, before))
        | inr none ↦ let there = passes_none layers planes l none in absurd (omega (arith, e, here, there, some))
      ]
  | inr none ↦ passes_none layers planes (suc l) none
]

pub part_is : (layers planes : ℕ) (k : Coded) (l : ℕ) → l < layers → part_in (coded_table layers planes k) l ≡ layer_part layers k l
unfolding coded_table
part_is layers planes k l lt = get_or-map-range_with_len (layer_part layers k) 0 layers l l (0, []) lt (omega arith)

bare_part : (layers : ℕ) (k : Coded) (l : ℕ) → l < layers → (layer_part layers k l).0 ≡ 0 → (layer_part layers k l).1 ≡ []
bare_part layers k l lt e =
    let none = none_is layers k l (no_pass layers k.planes l lt e) in
    ap (λ n. take n (drop (bytes_before layers k l) k.bytes)) (let z : bytes_upto layers k l - bytes_before layers k l ≡ 0 = omega (arith, none) in z)

coded_size : (s : BlockShape) (values : List ℤ) → s.width ≤ 1024 → s.width * s.height ≤ 4096 → (coded s values).planes ≤ 23 → length (coded s values).bytes < 2 ^ 25
unfolding coded
coded_size s values wide area few = bytes_small s (bit_length (greatest values)) (pass_count (bit_length (greatest values))) (value_in s values) wide area (omega (arith, few))

table_long : (layers planes : ℕ) (k : Coded) → length (coded_table layers planes k).parts ≡ layers
unfolding coded_table
table_long layers planes k = length-map-range_with_len (layer_part layers k) 0 layers

pub zero_planes_are : (layers planes : ℕ) (k : Coded) → (coded_table layers planes k).zero_planes ≡ planes - k.planes
unfolding coded_table
zero_planes_are layers planes k = refl

pub table_fits : (s : BlockShape) (values : List ℤ) (layers planes : ℕ) → 1 ≤ layers → s.width ≤ 1024 → s.width * s.height ≤ 4096 → (coded s values).planes ≤ planes → planes ≤ 23 → IsTable layers planes (coded_table layers planes (coded s values))
table_fits s values layers planes some wide area room few =
    let k = coded s values in
    let zeros = zero_planes_are layers planes k in
    record {
      long = table_long layers planes k;
      zeros = omega (arith, zeros);
      few = λ l lt. let is = part_is layers planes k l lt in let all = passes_few layers k.planes l in let same = ap (λ (p : ℕ × List ℕ). p.0) is in omega (arith, same, all, room, few);
      bare = λ l lt e. let is = part_is layers planes k l lt in ap (λ (p : ℕ × List ℕ). p.1) is ∙ bare_part layers k l lt (sym (ap (λ (p : ℕ × List ℕ). p.0) is) ∙ e);
      passes = let all = table_has_passes layers planes k some in omega (arith, all, zeros, room);
      size = let all = table_has_size s values layers planes some in let small = coded_size s values wide area (omega (arith, room, few)) in omega (arith, all, small);
    }
