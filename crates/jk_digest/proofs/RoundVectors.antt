-- The rounds of four messages in vectors, lane by lane.
use Rattle.std.proofs.Common.{◌≡◌, ℕ, ◌<◌, List, [], ◌∷◌, length, replicate, map, get_or, bit_and, bit_xor, refl, sym, ap, subst, ◌∙◌, arith}
use Rattle.std.specs.Int.{w32, bit_not, rotate_right}
use lib.Lanes.{zip2}
use Rattle.std.proofs.lemmas.Simd.{length-zip2, get_or-zip2}
use Rattle.std.proofs.lemmas.List.{length-map, get_or-map, get_or-replicate}
use Rattle.sha2.specs.Sha256.{add32, big_sigma0, big_sigma1, ch, maj, round, add_state, temp1, temp2}
use Rattle.jk_digest.specs.declared.lanes.EightWords.{EightWords}
use Rattle.jk_digest.specs.Lanes.{AreFours, lane}
use Rattle.jk_digest.proofs.Choices.{majority}

-- two vectors, number by number
pub long : (f : ℕ → ℕ → ℕ) (x y : List ℕ) → length x ≡ 4 → length y ≡ 4 → length (zip2 f x y) ≡ 4
long f x y hx hy = length-zip2 f x y (hx ∙ sym hy) ∙ hx

pub at : (f : ℕ → ℕ → ℕ) (x y : List ℕ) (k : ℕ) → length x ≡ 4 → length y ≡ 4 → k < 4 → get_or (zip2 f x y) k 0 ≡ f (get_or x k 0) (get_or y k 0)
at f x y k hx hy low = get_or-zip2 f x y k 0 0 0 (subst (λ n. k < n) (sym hx) low) (subst (λ n. k < n) (sym hy) low)

-- one vector
pub long_map : (f : ℕ → ℕ) (x : List ℕ) → length x ≡ 4 → length (map f x) ≡ 4
long_map f x hx = length-map x f ∙ hx

pub at_map : (f : ℕ → ℕ) (x : List ℕ) (k : ℕ) → length x ≡ 4 → k < 4 → get_or (map f x) k 0 ≡ f (get_or x k 0)
at_map f x k hx low = get_or-map f x k 0 0 (subst (λ n. k < n) (sym hx) low)

module _ (x y z : List ℕ) (hx : length x ≡ 4) (hy : length y ≡ 4) (hz : length z ≡ 4) where
  pub ch_long : length (zip2 bit_xor (zip2 bit_and x y) (zip2 bit_and (map (bit_not w32) x) z)) ≡ 4
  ch_long = long bit_xor (zip2 bit_and x y) (zip2 bit_and (map (bit_not w32) x) z) (long bit_and x y hx hy) (long bit_and (map (bit_not w32) x) z (long_map (bit_not w32) x hx) hz)

  pub ch_at : (k : ℕ) → k < 4 → get_or (zip2 bit_xor (zip2 bit_and x y) (zip2 bit_and (map (bit_not w32) x) z)) k 0 ≡ ch (get_or x k 0) (get_or y k 0) (get_or z k 0)
  ch_at k low =
      let nx : List ℕ = map (bit_not w32) x in
      let hn = long_map (bit_not w32) x hx in
      at bit_xor (zip2 bit_and x y) (zip2 bit_and nx z) k (long bit_and x y hx hy) (long bit_and nx z hn hz) low
      ∙ (λ i. bit_xor (at bit_and x y k hx hy low i) (at bit_and nx z k hn hz low i))
      ∙ ap (λ n. bit_xor (bit_and (get_or x k 0) (get_or y k 0)) (bit_and n (get_or z k 0))) (at_map (bit_not w32) x k hx low)

  pub maj_long : length (zip2 bit_xor (zip2 bit_and (zip2 bit_xor x y) (zip2 bit_xor y z)) y) ≡ 4
  maj_long = long bit_xor (zip2 bit_and (zip2 bit_xor x y) (zip2 bit_xor y z)) y (long bit_and (zip2 bit_xor x y) (zip2 bit_xor y z) (long bit_xor x y hx hy) (long bit_xor y z hy hz)) hy

  pub maj_at : (k : ℕ) → k < 4 → get_or (zip2 bit_xor (zip2 bit_and (zip2 bit_xor x y) (zip2 bit_xor y z)) y) k 0 ≡ maj (get_or x k 0) (get_or y k 0) (get_or z k 0)
  maj_at k low =
      let xy = long bit_xor x y hx hy in
      let yz = long bit_xor y z hy hz in
      at bit_xor (zip2 bit_and (zip2 bit_xor x y) (zip2 bit_xor y z)) y k (long bit_and (zip2 bit_xor x y) (zip2 bit_xor y z) xy yz) hy low
      ∙ ap (λ n. bit_xor n (get_or y k 0)) (at bit_and (zip2 bit_xor x y) (zip2 bit_xor y z) k xy yz low ∙ (λ i. bit_and (at bit_xor x y k hx hy low i) (at bit_xor y z k hy hz low i)))
      ∙ majority (get_or x k 0) (get_or y k 0) (get_or z k 0)

-- the sums of a round
abbrev pub first_of : List ℕ → List ℕ → List ℕ → ℕ → List ℕ → List ℕ
first_of h s c constant w = zip2 add32 (zip2 add32 (zip2 add32 (zip2 add32 h s) c) (replicate 4 constant)) w

module _ (h s c w : List ℕ) (constant : ℕ) (hh : length h ≡ 4) (hs : length s ≡ 4) (hc : length c ≡ 4) (hw : length w ≡ 4) where
  one : length (zip2 add32 h s) ≡ 4
  one = long add32 h s hh hs

  two : length (zip2 add32 (zip2 add32 h s) c) ≡ 4
  two = long add32 (zip2 add32 h s) c one hc

  three : length (zip2 add32 (zip2 add32 (zip2 add32 h s) c) (replicate 4 constant)) ≡ 4
  three = long add32 (zip2 add32 (zip2 add32 h s) c) (replicate 4 constant) two refl

  pub first_long : length (first_of h s c constant w) ≡ 4
  first_long = long add32 (zip2 add32 (zip2 add32 (zip2 add32 h s) c) (replicate 4 constant)) w three hw

  pub first_at : (k : ℕ) → k < 4 → get_or (first_of h s c constant w) k 0 ≡ add32 (add32 (add32 (add32 (get_or h k 0) (get_or s k 0)) (get_or c k 0)) constant) (get_or w k 0)
  first_at k low =
      at add32 (zip2 add32 (zip2 add32 (zip2 add32 h s) c) (replicate 4 constant)) w k three hw low
      ∙ ap (λ n. add32 n (get_or w k 0)) (at add32 (zip2 add32 (zip2 add32 h s) c) (replicate 4 constant) k two refl low
      ∙ (λ i. add32 ((at add32 (zip2 add32 h s) c k one hc low ∙ ap (λ n. add32 n (get_or c k 0)) (at add32 h s k hh hs low)) i) (get_or-replicate 4 k constant 0 low i)))

-- the upper case sigmas
pub sigma0_quads : (x : List ℕ) → length x ≡ 4
    → zip2 bit_xor (zip2 bit_xor (map (λ w. rotate_right w32 w 2) x) (map (λ w. rotate_right w32 w 13) x)) (map (λ w. rotate_right w32 w 22) x) ≡ map big_sigma0 x
sigma0_quads [] h = absurd (omega arith)
sigma0_quads (a ∷ []) h = absurd (omega arith)
sigma0_quads (a ∷ b ∷ []) h = absurd (omega arith)
sigma0_quads (a ∷ b ∷ c ∷ []) h = absurd (omega arith)
sigma0_quads (a ∷ b ∷ c ∷ d ∷ []) h = refl
sigma0_quads (a ∷ b ∷ c ∷ d ∷ e ∷ r) h = absurd (omega arith)

pub sigma1_quads : (x : List ℕ) → length x ≡ 4
    → zip2 bit_xor (zip2 bit_xor (map (λ w. rotate_right w32 w 6) x) (map (λ w. rotate_right w32 w 11) x)) (map (λ w. rotate_right w32 w 25) x) ≡ map big_sigma1 x
sigma1_quads [] h = absurd (omega arith)
sigma1_quads (a ∷ []) h = absurd (omega arith)
sigma1_quads (a ∷ b ∷ []) h = absurd (omega arith)
sigma1_quads (a ∷ b ∷ c ∷ []) h = absurd (omega arith)
sigma1_quads (a ∷ b ∷ c ∷ d ∷ []) h = refl
sigma1_quads (a ∷ b ∷ c ∷ d ∷ e ∷ r) h = absurd (omega arith)

-- eight sums
pub added_fours : (h v : EightWords) → AreFours h → AreFours v
    → AreFours (record { a = zip2 add32 h.a v.a; b = zip2 add32 h.b v.b; c = zip2 add32 h.c v.c; d = zip2 add32 h.d v.d; e = zip2 add32 h.e v.e; f = zip2 add32 h.f v.f; g = zip2 add32 h.g v.g; h = zip2 add32 h.h v.h })
added_fours h v p q = (
  long add32 h.a v.a p.0 q.0,
  long add32 h.b v.b p.1 q.1,
  long add32 h.c v.c p.2 q.2,
  long add32 h.d v.d p.3 q.3,
  long add32 h.e v.e p.4 q.4,
  long add32 h.f v.f p.5 q.5,
  long add32 h.g v.g p.6 q.6,
  long add32 h.h v.h p.7 q.7,
)

pub added_lane : (h v : EightWords) → AreFours h → AreFours v → (k : ℕ) → k < 4
    → lane (record { a = zip2 add32 h.a v.a; b = zip2 add32 h.b v.b; c = zip2 add32 h.c v.c; d = zip2 add32 h.d v.d; e = zip2 add32 h.e v.e; f = zip2 add32 h.f v.f; g = zip2 add32 h.g v.g; h = zip2 add32 h.h v.h }) k
    ≡ add_state (lane h k) (lane v k)
added_lane h v p q k low = λ i.
    at add32 h.a v.a k p.0 q.0 low i ∷ at add32 h.b v.b k p.1 q.1 low i ∷ at add32 h.c v.c k p.2 q.2 low i ∷ at add32 h.d v.d k p.3 q.3 low i
    ∷ at add32 h.e v.e k p.4 q.4 low i ∷ at add32 h.f v.f k p.5 q.5 low i ∷ at add32 h.g v.g k p.6 q.6 low i ∷ at add32 h.h v.h k p.7 q.7 low i ∷ []

-- the variables behind a round, where its sums are f and s
module _ (v : EightWords) (f s : List ℕ) (p : AreFours v) (hf : length f ≡ 4) (hs : length s ≡ 4) where
  abbrev pub rounded : EightWords
  rounded = record { a = zip2 add32 f s; b = v.a; c = v.b; d = v.c; e = zip2 add32 v.d f; f = v.e; g = v.f; h = v.g }

  pub round_fours : AreFours rounded
  round_fours = (long add32 f s hf hs, p.0, p.1, p.2, long add32 v.d f p.3 hf, p.4, p.5, p.6)

  pub round_lane : (k constant w : ℕ) → k < 4 → get_or f k 0 ≡ temp1 (lane v k) constant w → get_or s k 0 ≡ temp2 (lane v k) → lane rounded k ≡ round (lane v k) constant w
  round_lane k constant w low first second =
      let top = at add32 f s k hf hs low ∙ (λ i. add32 (first i) (second i)) in
      let mid = at add32 v.d f k p.3 hf low ∙ ap (λ n. add32 (get_or v.d k 0) n) first in
      λ i. top i ∷ get_or v.a k 0 ∷ get_or v.b k 0 ∷ get_or v.c k 0 ∷ mid i ∷ get_or v.e k 0 ∷ get_or v.f k 0 ∷ get_or v.g k 0 ∷ []
