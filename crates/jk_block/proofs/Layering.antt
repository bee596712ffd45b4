-- The passes and bytes of a block by layers.
use Rattle.std.proofs.Common.{◌≡◌, ℕ, suc, ◌+◌, ◌-◌, ◌*◌, ◌/◌, ◌%◌, ◌^◌, ◌<◌, ◌≤◌, Bool, true, false, cond, List, length, get_or, take, min, ℤ, pos, unsigned_abs, refl, sym, ap, ◌∙◌, subst, inl, inr, arith}
use Rattle.std.specs.Prelude.{◌&&◌, nat_eq, nat_lt, nat_le}
use Rattle.std.specs.Int.{is_negative}
use Rattle.std.proofs.lemmas.Bool.{cases_lt}
use Rattle.std.proofs.lemmas.Bool.Decides.{nat_tests}
use Rattle.std.proofs.Math.Nat.{div-eq_of_lt}
use Rattle.std.proofs.Math.Pow.{pow_mono}
use Rattle.jk_scan.specs.declared.shape.BlockShape.{BlockShape}
use Rattle.jk_scan.specs.Neighbours.{Field}
use Rattle.jk_scan.specs.Moments.{pass_of}
use Rattle.jk_scan.proofs.Laws.{cases_of}
use Rattle.jk_block.specs.Meaning.{kind_of, plane_at, with_sign, above, truncated, IsBlockMeaning, value_in}
use Rattle.jk_block.specs.BlockWritten.{pass_count, bytes_of, Coded, coded}
use Rattle.jk_block.specs.Layers.{passes_upto, without_ff, bytes_upto}
use Rattle.jk_block.proofs.Parts.{part_means, shorter_means, none_means, coded_marks_rise, bytes_none, coded_planes_hold}

-- ---- passes

pub passes_none : (layers planes l : ℕ) → planes ≤ layers - 1 - l → passes_upto layers planes l ≡ 0
unfolding passes_upto
passes_none layers planes l h = ap (λ b. cond b 0 (3 * (planes - (layers - 1 - l)) - 2)) (let e : nat_le planes (layers - 1 - l) ≡ true = grind (arith, nat_tests) in e)

pub passes_some : (layers planes l : ℕ) → layers - 1 - l < planes → passes_upto layers planes l ≡ 3 * (planes - (layers - 1 - l)) - 2
unfolding passes_upto
passes_some layers planes l h = ap (λ b. cond b 0 (3 * (planes - (layers - 1 - l)) - 2)) (let e : nat_le planes (layers - 1 - l) ≡ false = grind (arith, nat_tests) in e)

pub passes_rise : (layers planes l m : ℕ) → l ≤ m → passes_upto layers planes l ≤ passes_upto layers planes m
passes_rise layers planes l m h = elim (cases_lt (layers - 1 - l) planes) [
  | inl some ↦ let e = passes_some layers planes l some in let f = passes_some layers planes m (omega (arith, some, h)) in omega (arith, e, f, h, some)
  | inr none ↦ let e = passes_none layers planes l none in omega (arith, e)
]

pub passes_few : (layers planes l : ℕ) → passes_upto layers planes l ≤ pass_count planes
passes_few layers planes l = elim (cases_lt (layers - 1 - l) planes) [
  | inl some ↦ let e = passes_some layers planes l some in omega (arith, e)
  | inr none ↦ let e = passes_none layers planes l none in omega (arith, e)
]

pub passes_whole : (layers planes : ℕ) → passes_upto layers planes (layers - 1) ≡ pass_count planes
passes_whole layers planes = elim (cases_lt (layers - 1 - (layers - 1)) planes) [
  | inl some ↦ let e = passes_some layers planes (layers - 1) some in omega (arith, e)
  | inr none ↦ let e = passes_none layers planes (layers - 1) none in omega (arith, e, none)
]

-- ---- lengths

-- one byte less, or none
pub cut_ff : {R : Type 0} (bytes : List ℕ) (z : ℕ) → (without_ff bytes z ≡ z → R) → (without_ff bytes z ≡ z - 1 → get_or bytes (z - 1) 0 ≡ 255 → R) → R
unfolding without_ff
cut_ff {R} bytes z f g = by (nat_lt 0 z) (nat_eq (get_or bytes (z - 1) 0) 255) refl refl
  where
    by : (p q : Bool) → nat_lt 0 z ≡ p → nat_eq (get_or bytes (z - 1) 0) 255 ≡ q → R
    by true true e h =
        let p : nat_lt 0 z ≡ true = e in
        let q : nat_eq (get_or bytes (z - 1) 0) 255 ≡ true = h in
        g (ap (λ p. cond (p && nat_eq (get_or bytes (z - 1) 0) 255) (z - 1) z) p ∙ ap (λ q. cond (true && q) (z - 1) z) q) (grind (arith, nat_tests))
    by true false e h =
        let p : nat_lt 0 z ≡ true = e in
        let q : nat_eq (get_or bytes (z - 1) 0) 255 ≡ false = h in
        f (ap (λ p. cond (p && nat_eq (get_or bytes (z - 1) 0) 255) (z - 1) z) p ∙ ap (λ q. cond (true && q) (z - 1) z) q)
    by false q e h = let p : nat_lt 0 z ≡ false = e in f (ap (λ p. cond (p && nat_eq (get_or bytes (z - 1) 0) 255) (z - 1) z) p)

pub without_few : (bytes : List ℕ) (z : ℕ) → without_ff bytes z ≤ z
without_few bytes z = cut_ff bytes z (λ e. omega (arith, e)) (λ e _. omega (arith, e))

pub without_rise : (bytes : List ℕ) (z z' : ℕ) → z ≤ z' → without_ff bytes z ≤ without_ff bytes z'
without_rise bytes z z' h = elim (cases_lt z z') [
  | inl less ↦ let a = without_few bytes z in cut_ff bytes z' (λ e. omega (arith, a, e, less)) (λ e _. omega (arith, a, e, less))
  | inr most ↦ let e = ap (without_ff bytes) (let same : z ≡ z' = omega arith in same) in omega (arith, e)
]

-- the bytes of the layers up to l, by cases
pub upto_none : (layers : ℕ) (k : Coded) (l : ℕ) → passes_upto layers k.planes l ≡ 0 → bytes_upto layers k l ≡ 0
unfolding bytes_upto
upto_none layers k l e =
    ap (λ b. cond b 0 (cond (nat_eq (l + 1) layers) (length k.bytes) (without_ff k.bytes (min (length k.bytes) (get_or k.marks (passes_upto layers k.planes l - 1) 0 + 4)))))
    (let g : nat_eq (passes_upto layers k.planes l) 0 ≡ true = grind (arith, nat_tests) in g)

pub upto_last : (layers : ℕ) (k : Coded) (l : ℕ) → 0 < passes_upto layers k.planes l → l + 1 ≡ layers → bytes_upto layers k l ≡ length k.bytes
unfolding bytes_upto
upto_last layers k l h e =
    ap (λ b. cond b 0 (cond (nat_eq (l + 1) layers) (length k.bytes) (without_ff k.bytes (min (length k.bytes) (get_or k.marks (passes_upto layers k.planes l - 1) 0 + 4)))))
    (let g : nat_eq (passes_upto layers k.planes l) 0 ≡ false = grind (arith, nat_tests) in g)
    ∙ ap (λ b. cond b (length k.bytes) (without_ff k.bytes (min (length k.bytes) (get_or k.marks (passes_upto layers k.planes l - 1) 0 + 4))))
    (let g : nat_eq (l + 1) layers ≡ true = grind (arith, nat_tests) in g)

pub room_of : (layers : ℕ) (k : Coded) (l : ℕ) → ℕ
room_of layers k l = min (length k.bytes) (get_or k.marks (passes_upto layers k.planes l - 1) 0 + 4)

pub room_is : (layers : ℕ) (k : Coded) (l : ℕ) → room_of layers k l ≡ min (length k.bytes) (get_or k.marks (passes_upto layers k.planes l - 1) 0 + 4)
unfolding room_of
room_is layers k l = refl

pub upto_early : (layers : ℕ) (k : Coded) (l : ℕ) → 0 < passes_upto layers k.planes l → l + 1 < layers → bytes_upto layers k l ≡ without_ff k.bytes (room_of layers k l)
unfolding bytes_upto room_of
upto_early layers k l h e =
    ap (λ b. cond b 0 (cond (nat_eq (l + 1) layers) (length k.bytes) (without_ff k.bytes (min (length k.bytes) (get_or k.marks (passes_upto layers k.planes l - 1) 0 + 4)))))
    (let g : nat_eq (passes_upto layers k.planes l) 0 ≡ false = grind (arith, nat_tests) in g)
    ∙ ap (λ b. cond b (length k.bytes) (without_ff k.bytes (min (length k.bytes) (get_or k.marks (passes_upto layers k.planes l - 1) 0 + 4))))
    (let g : nat_eq (l + 1) layers ≡ false = grind (arith, nat_tests) in g)

pub upto_few : (layers : ℕ) (k : Coded) (l : ℕ) → l < layers → bytes_upto layers k l ≤ length k.bytes
upto_few layers k l h = elim (cases_lt 0 (passes_upto layers k.planes l)) [
  | inl some ↦ elim (cases_lt (l + 1) layers) [
    | inl early ↦ let e = upto_early layers k l some early in let w = without_few k.bytes (room_of layers k l) in let r = room_is layers k l in omega (arith, e, w, r)
    | inr last ↦ let e = upto_last layers k l some (omega arith) in omega (arith, e)
  ]
  | inr none ↦ let e = upto_none layers k l (omega arith) in omega (arith, e)
]

pub coded_passes : (s : BlockShape) (values : List ℤ) → (coded s values).passes ≡ pass_count (coded s values).planes
unfolding coded
coded_passes s values = refl

pub coded_nothing : (s : BlockShape) (values : List ℤ) → (coded s values).passes ≡ 0 → length (coded s values).bytes ≡ 0
unfolding coded
coded_nothing s values e = ap (λ n. length (bytes_of s (coded s values).planes n (value_in s values))) e ∙ ap (λ (b : List ℕ). length b) (bytes_none s (coded s values).planes (value_in s values))

pub upto_rise : (s : BlockShape) (values : List ℤ) (layers l m : ℕ) → l ≤ m → m < layers → bytes_upto layers (coded s values) l ≤ bytes_upto layers (coded s values) m
upto_rise s values layers l m h u =
    let k = coded s values in
    let p = passes_rise layers k.planes l m h in
    let n = passes_upto layers k.planes m in
    let few : n ≤ k.passes = let f = passes_few layers k.planes m in let g = coded_passes s values in omega (arith, f, g) in
    elim (cases_lt 0 (passes_upto layers k.planes l)) [
      | inl some ↦ elim (cases_lt (m + 1) layers) [
        | inl early ↦
            let e = upto_early layers k l some (omega arith) in
            let f = upto_early layers k m (omega (arith, p, some)) early in
            let r = coded_marks_rise s values (passes_upto layers k.planes l - 1) (n - 1) (omega (arith, p)) (omega (arith, p, some, few)) in
            let a = room_is layers k l in
            let b = room_is layers k m in
            let w = without_rise k.bytes (room_of layers k l) (room_of layers k m) (omega (arith, r, a, b)) in
            omega (arith, e, f, w)
        | inr last ↦ let f = upto_last layers k m (omega (arith, p, some)) (omega arith) in let g = upto_few layers k l (omega arith) in omega (arith, f, g)
      ]
      | inr none ↦ let e = upto_none layers k l (omega arith) in omega (arith, e)
    ]

pub upto_whole : (s : BlockShape) (values : List ℤ) (layers : ℕ) → 1 ≤ layers → bytes_upto layers (coded s values) (layers - 1) ≡ length (coded s values).bytes
upto_whole s values layers h =
    let k = coded s values in
    let n = passes_whole layers k.planes in
    let g = coded_passes s values in
    elim (cases_lt 0 (passes_upto layers k.planes (layers - 1))) [
      | inl some ↦ upto_last layers k (layers - 1) some (omega arith)
      | inr none ↦ upto_none layers k (layers - 1) (omega arith) ∙ sym (coded_nothing s values (omega (arith, n, g, none)))
    ]

-- The bytes of the layers up to l mean what the passes up to there code of the block.
pub upto_means : (s : BlockShape) (values : List ℤ) (layers l : ℕ) → l < layers
    → IsBlockMeaning s (coded s values).planes (passes_upto layers (coded s values).planes l) (take (bytes_upto layers (coded s values) l) (coded s values).bytes) (truncated s (coded s values).planes (passes_upto layers (coded s values).planes l) (value_in s values))
upto_means s values layers l h =
    let k = coded s values in
    let n = passes_upto layers k.planes l in
    let few : n ≤ k.passes = let f = passes_few layers k.planes l in let g = coded_passes s values in omega (arith, f, g) in
    let mean : ℕ → Type 0 = λ z. IsBlockMeaning s k.planes n (take z k.bytes) (truncated s k.planes n (value_in s values)) in
    elim (cases_lt 0 n) [
      | inl some ↦ elim (cases_lt (l + 1) layers) [
        | inl early ↦
            let r = room_is layers k l in
            subst mean (sym (upto_early layers k l some early))
            (cut_ff k.bytes (room_of layers k l)
            (λ e. subst mean (sym e) (part_means s values n (room_of layers k l) some few (omega (arith, r))))
            (λ e f. subst mean (sym e) (shorter_means s values n (room_of layers k l) some few (omega (arith, r)) f)))
        | inr last ↦ subst mean (sym (upto_last layers k l some (omega arith))) (part_means s values n (length k.bytes) some few (omega arith))
      ]
      | inr none ↦
          let zero_is : n ≡ 0 = omega arith in
          subst (λ n. IsBlockMeaning s k.planes n (take (bytes_upto layers k l) k.bytes) (truncated s k.planes n (value_in s values))) (sym zero_is)
          (none_means s k.planes (take (bytes_upto layers k l) k.bytes) (value_in s values))
    ]

-- ---- what whole planes leave of a coefficient

no_sign : (n : Bool) → with_sign n 0 ≡ pos 0
no_sign true = refl
no_sign false = refl

pub cut_plane : (s : BlockShape) (e d : ℕ) (q : Field ℤ) (x y : ℕ) → truncated s (e + suc d) (suc (3 * d)) q x y ≡ with_sign (is_negative (q x y)) (above e (unsigned_abs (q x y)))
unfolding truncated
cut_plane s e d q x y =
    ap (λ b. with_sign (is_negative (q x y)) (cond (nat_le (pass_of s (plane_at s b q).magnitude x y) (kind_of (3 * d))) (above b (unsigned_abs (q x y))) (above (b + 1) (unsigned_abs (q x y))))) (let g : e + suc d - 1 - (3 * d + 2) / 3 ≡ e = omega arith in g)
    ∙ ap (λ k. with_sign (is_negative (q x y)) (cond k (above e (unsigned_abs (q x y))) (above (e + 1) (unsigned_abs (q x y))))) last
  where
    by : (n k : ℕ) → k ≡ 2 → n ≤ 2 → nat_le n k ≡ true
    by n k e h = grind (arith, nat_tests)

    last : nat_le (pass_of s (plane_at s e q).magnitude x y) (kind_of (3 * d)) ≡ true
    last =
        let k : (3 * d + 2) % 3 ≡ 2 = omega arith in
        let n = pass_of s (plane_at s e q).magnitude x y in
        cases_of s (plane_at s e q).magnitude x y
        (λ w. let e = w.pass_is in by n ((3 * d + 2) % 3) k (omega arith))
        (λ w. let e = w.pass_is in by n ((3 * d + 2) % 3) k (omega arith))
        (λ w. let e = w.pass_is in by n ((3 * d + 2) % 3) k (omega arith))

cut_none : (s : BlockShape) (planes : ℕ) (q : Field ℤ) (x y : ℕ) → truncated s planes 0 q x y ≡ pos 0
unfolding truncated
cut_none s planes q x y = refl

-- In the layers up to l a coefficient has its bits in the planes from layers - 1 - l on.
pub upto_cut : (s : BlockShape) (values : List ℤ) (layers l x y : ℕ)
    → truncated s (coded s values).planes (passes_upto layers (coded s values).planes l) (value_in s values) x y ≡ with_sign (is_negative (value_in s values x y)) (above (layers - 1 - l) (unsigned_abs (value_in s values x y)))
upto_cut s values layers l x y =
    let k = coded s values in
    let q = value_in s values in
    let e = layers - 1 - l in
    elim (cases_lt e k.planes) [
      | inl some ↦
          let d = k.planes - e - 1 in
          let planes : k.planes ≡ e + suc d = omega arith in
          let passes : passes_upto layers k.planes l ≡ suc (3 * d) = let f = passes_some layers k.planes l some in omega (arith, f, some) in
          ap (λ n. truncated s k.planes n q x y) passes ∙ ap (λ p. truncated s p (suc (3 * d)) q x y) planes ∙ cut_plane s e d q x y
      | inr none ↦
          let small = coded_planes_hold s values x y in
          let power : 2 ^ k.planes ≤ 2 ^ e = pow_mono none in
          let zero_is : unsigned_abs (q x y) / 2 ^ e ≡ 0 = div-eq_of_lt (omega (arith, small, power)) in
          ap (λ n. truncated s k.planes n q x y) (passes_none layers k.planes l none) ∙ cut_none s k.planes q x y
          ∙ sym (ap (λ m. with_sign (is_negative (q x y)) (m * 2 ^ e)) zero_is ∙ ap (with_sign (is_negative (q x y))) (let g : 0 * 2 ^ e ≡ 0 = omega arith in g) ∙ no_sign (is_negative (q x y)))
    ]
