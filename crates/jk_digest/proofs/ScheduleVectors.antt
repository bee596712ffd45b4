-- The words of four schedules in vectors, lane by lane.
use Rattle.std.proofs.Common.{◌≡◌, ℕ, ◌*◌, ◌/◌, ◌%◌, ◌^◌, ◌-◌, ◌<◌, List, [], ◌∷◌, map, length, get_or, bit_or, bit_xor, refl, sym, ap, subst, ◌∙◌, arith}
use Rattle.std.proofs.lemmas.List.{length-map, get_or-map}
use Rattle.std.proofs.lemmas.Simd.{length-zip2, get_or-zip2}
use Rattle.std.specs.Int.{w32, rotate_right}
use lib.Lanes.{zip2}
use Rattle.sha2.specs.Sha256.{add32, small_sigma0, small_sigma1}

-- the same number in each lane
abbrev pub splat : ℕ → List ℕ
splat n = n ∷ n ∷ n ∷ n ∷ []

abbrev pub shifted_right : List ℕ → ℕ → List ℕ
shifted_right x n = zip2 (λ a b. a / 2 ^ b) x (splat n)

abbrev pub shifted_left : List ℕ → ℕ → List ℕ
shifted_left x n = zip2 (λ a b. a * 2 ^ b % 2 ^ 32) x (splat n)

pub rotated_lanes : (x : List ℕ) (n : ℕ) → length x ≡ 4 → 0 < n → n < 32 → zip2 bit_or (shifted_right x n) (shifted_left x (32 - n)) ≡ map (λ w. rotate_right w32 w n) x
rotated_lanes [] n h o k = absurd (omega arith)
rotated_lanes (a ∷ []) n h o k = absurd (omega arith)
rotated_lanes (a ∷ b ∷ []) n h o k = absurd (omega arith)
rotated_lanes (a ∷ b ∷ c ∷ []) n h o k = absurd (omega arith)
rotated_lanes (a ∷ b ∷ c ∷ d ∷ []) n h o k =
    let right : n ≡ n % 32 = omega arith in
    let left : 32 - n ≡ (32 - n % 32) % 32 = omega arith in
    λ i. map (λ (w : ℕ). bit_or (w / 2 ^ right i) (w * 2 ^ left i % 2 ^ 32)) (a ∷ b ∷ c ∷ d ∷ [])
rotated_lanes (a ∷ b ∷ c ∷ d ∷ e ∷ r) n h o k = absurd (omega arith)

pub sigma0_lanes : (x : List ℕ) → length x ≡ 4
    → zip2 bit_xor (zip2 bit_xor (map (λ w. rotate_right w32 w 7) x) (map (λ w. rotate_right w32 w 18) x)) (shifted_right x 3) ≡ map small_sigma0 x
sigma0_lanes [] h = absurd (omega arith)
sigma0_lanes (a ∷ []) h = absurd (omega arith)
sigma0_lanes (a ∷ b ∷ []) h = absurd (omega arith)
sigma0_lanes (a ∷ b ∷ c ∷ []) h = absurd (omega arith)
sigma0_lanes (a ∷ b ∷ c ∷ d ∷ []) h = refl
sigma0_lanes (a ∷ b ∷ c ∷ d ∷ e ∷ r) h = absurd (omega arith)

pub sigma1_lanes : (x : List ℕ) → length x ≡ 4
    → zip2 bit_xor (zip2 bit_xor (map (λ w. rotate_right w32 w 17) x) (map (λ w. rotate_right w32 w 19) x)) (shifted_right x 10) ≡ map small_sigma1 x
sigma1_lanes [] h = absurd (omega arith)
sigma1_lanes (a ∷ []) h = absurd (omega arith)
sigma1_lanes (a ∷ b ∷ []) h = absurd (omega arith)
sigma1_lanes (a ∷ b ∷ c ∷ []) h = absurd (omega arith)
sigma1_lanes (a ∷ b ∷ c ∷ d ∷ []) h = refl
sigma1_lanes (a ∷ b ∷ c ∷ d ∷ e ∷ r) h = absurd (omega arith)

-- a word of each block is made of four before it
abbrev made : (x y z w : List ℕ) → List ℕ
made x y z w = zip2 add32 (zip2 add32 (zip2 add32 (map small_sigma1 x) y) (map small_sigma0 z)) w

module _ (x y z w : List ℕ) (hx : length x ≡ 4) (hy : length y ≡ 4) (hz : length z ≡ 4) (hw : length w ≡ 4) where
  one : length (zip2 add32 (map small_sigma1 x) y) ≡ 4
  one = length-zip2 add32 (map small_sigma1 x) y (length-map x small_sigma1 ∙ hx ∙ sym hy) ∙ length-map x small_sigma1 ∙ hx

  two : length (zip2 add32 (zip2 add32 (map small_sigma1 x) y) (map small_sigma0 z)) ≡ 4
  two = length-zip2 add32 (zip2 add32 (map small_sigma1 x) y) (map small_sigma0 z) (one ∙ sym (length-map z small_sigma0 ∙ hz)) ∙ one

  pub made_long : length (made x y z w) ≡ 4
  made_long = length-zip2 add32 (zip2 add32 (zip2 add32 (map small_sigma1 x) y) (map small_sigma0 z)) w (two ∙ sym hw) ∙ two

  pub made_at : (k : ℕ) → k < 4
      → get_or (made x y z w) k 0 ≡ add32 (add32 (add32 (small_sigma1 (get_or x k 0)) (get_or y k 0)) (small_sigma0 (get_or z k 0))) (get_or w k 0)
  made_at k low =
      let sx : k < length (map small_sigma1 x) = subst (λ n. k < n) (sym (length-map x small_sigma1 ∙ hx)) low in
      let sy : k < length y = subst (λ n. k < n) (sym hy) low in
      let sz : k < length (map small_sigma0 z) = subst (λ n. k < n) (sym (length-map z small_sigma0 ∙ hz)) low in
      let sw : k < length w = subst (λ n. k < n) (sym hw) low in
      let s1 = subst (λ n. k < n) (sym one) low in
      let s2 = subst (λ n. k < n) (sym two) low in
      let first = get_or-zip2 add32 (map small_sigma1 x) y k 0 0 0 sx sy ∙ ap (λ n. add32 n (get_or y k 0)) (get_or-map small_sigma1 x k 0 0 (subst (λ n. k < n) (sym hx) low)) in
      let second = get_or-zip2 add32 (zip2 add32 (map small_sigma1 x) y) (map small_sigma0 z) k 0 0 0 s1 sz
      ∙ (λ i. add32 (first i) (get_or-map small_sigma0 z k 0 0 (subst (λ n. k < n) (sym hz) low) i)) in
      get_or-zip2 add32 (zip2 add32 (zip2 add32 (map small_sigma1 x) y) (map small_sigma0 z)) w k 0 0 0 s2 sw
      ∙ ap (λ n. add32 n (get_or w k 0)) second
