-- A subinterval of which a byte is due: C there, the doublings behind it, and the width then.
use Rattle.std.proofs.Common.{◌≡◌, ◌∙◌, ap, sym, subst, refl, ℕ, suc, ◌+◌, ◌-◌, ◌*◌, ◌/◌, ◌%◌, ◌^◌, ◌<◌, ◌≤◌, inl, inr, arith}
use Rattle.std.specs.Int.Count.{count_leading_zeros}
use Rattle.std.proofs.Math.Nat.{pow-succ', mul-lt-mul_of_pos_right}
use Rattle.std.proofs.Math.Pow.{pow_mono}
use Rattle.std.proofs.lemmas.Bool.{cases_lt}
use Rattle.std.proofs.lemmas.Nat.{pow-add, pow_pos, mul-le, leading_top, shl-shr}
use Rattle.jk_mqenc.specs.Deferred.{scale_of, IsTaken}
use Rattle.jk_mqenc.proofs.Deferring.{times-power, scale-made}

-- so many doublings bring a width to 2^15
pub record Brings (width times : ℕ) : Type 0 where
  pub fits : width * 2 ^ times < 2 ^ 16
  pub wide : 2 ^ 15 ≤ width * 2 ^ times

-- some number of doublings does
zeros-all : (w : ℕ) → 1 ≤ w → w < 65536 → (16 ≤ count_leading_zeros 32 w) × (w * 2 ^ (count_leading_zeros 32 w - 16) < 65536) × (32768 ≤ w * 2 ^ (count_leading_zeros 32 w - 16))
zeros-all w some small =
    let t = leading_top 32 w some (omega (arith, small)) in
    let n = count_leading_zeros 32 w in
    let j = t.0 in
    let all : n + suc j ≡ 32 = t.1 in
    let low : j ≤ 15 = elim (cases_lt 15 j) [
      | inl more ↦ (let p : 2 ^ 16 ≤ 2 ^ j = pow_mono more in
          let least = t.2 in
          absurd (omega (arith, p, least, small)))
      | inr few ↦ few
    ] in
    let below : w * 2 ^ (n - 16) < 2 ^ suc j * 2 ^ (n - 16) = mul-lt-mul_of_pos_right t.3 (pow_pos (n - 16)) in
    let sum : suc j + (n - 16) ≡ 16 = omega (arith, all, low) in
    let top : 2 ^ suc j * 2 ^ (n - 16) ≡ 2 ^ 16 = sym (pow-add 2 (suc j) (n - 16)) ∙ ap (λ k. 2 ^ k) sum in
    let least : 2 ^ j * 2 ^ (n - 16) ≤ w * 2 ^ (n - 16) = mul-le (2 ^ j) (2 ^ (n - 16)) w (2 ^ (n - 16)) t.2 (omega arith) in
    let half : 2 ^ j * 2 ^ (n - 16) ≡ 2 ^ 15 = sym (pow-add 2 j (n - 16)) ∙ ap (λ k. 2 ^ k) (let e : j + (n - 16) ≡ 15 = omega (arith, all, low) in e) in
    (omega (arith, all, low), omega (arith, below, top), omega (arith, least, half))

brings : (w : ℕ) → 1 ≤ w → w < 2 ^ 16 → Brings w (count_leading_zeros 32 w - 16)
brings w some small =
    let z = zeros-all w some (omega (arith, small)) in
    record { fits = z.1; wide = z.2 }

few-doublings : (w t : ℕ) → 1 ≤ w → w * 2 ^ t < 2 ^ 16 → t ≤ 15
few-doublings w t some fits = elim (cases_lt 15 t) [
  | inl more ↦
      let grows : 2 ^ 16 ≤ 2 ^ t = pow_mono more in
      let least = mul-le 1 (2 ^ t) w (2 ^ t) some (omega arith) in
      absurd (omega (arith, grows, least, fits))
  | inr few ↦ few
]

-- how many they are shows in the place of the highest bit
zeros-taken : (code width count least e t : ℕ) → IsTaken e code width count least → Brings (width / 2 ^ e) t → count_leading_zeros 64 width + e ≡ 48 + t
zeros-taken code width count least e t k b =
    let s = k.scaled in
    let a = width / 2 ^ e in
    let few = few-doublings a t k.some b.fits in
    let before = s.before in
    let most = s.few in
    let largest = s.largest in
    let parts : a * 2 ^ t * 2 ^ (e - t) ≡ a * 2 ^ e = times-power a t (e - t) e (omega (arith, few, before, most)) in
    let scale : scale_of width ≡ e - t = ap (λ x. scale_of x) (s.width_whole ∙ sym parts) ∙ scale-made (a * 2 ^ t) (e - t) b.wide b.fits (omega (arith, largest)) in
    omega (arith, scale, few, before, most, largest)

-- the width then
width-brought : (code width count least e t : ℕ) → IsTaken e code width count least → Brings (width / 2 ^ e) t → width * 2 ^ (count_leading_zeros 64 width - 12) ≡ width / 2 ^ e * 2 ^ t * 2 ^ 36
width-brought code width count least e t k b =
    let s = k.scaled in
    let a = width / 2 ^ e in
    let z = count_leading_zeros 64 width in
    let zeros = zeros-taken code width count least e t k b in
    let largest = s.largest in
    let left : a * 2 ^ e * 2 ^ (z - 12) ≡ a * 2 ^ (t + 36) = times-power a e (z - 12) (t + 36) (omega (arith, zeros, largest)) in
    ap (λ x. x * 2 ^ (z - 12)) s.width_whole ∙ left ∙ sym (times-power a t 36 (t + 36) refl)

-- CT doublings at least
many-due : (w n t : ℕ) → w * 2 ^ n < 2 ^ 16 → 2 ^ 15 ≤ w * 2 ^ t → n ≤ t
many-due w n t small wide = elim (cases_lt t n) [
  | inl less ↦
      let grows = mul-le w (2 ^ suc t) w (2 ^ n) (omega arith) (pow_mono (let h : suc t ≤ n = omega (arith, less) in h)) in
      let twice : w * 2 ^ suc t ≡ 2 * (w * 2 ^ t) = ap (λ x. w * x) (pow-succ' 2 t) ∙ grind arith in
      absurd (omega (arith, grows, twice, small, wide))
  | inr more ↦ more
]

-- C then
pub code-at_byte : (code width count least e : ℕ) → IsTaken e code width count least → code / 2 ^ (36 - count) ≡ code / 2 ^ e * 2 ^ (count + e - 36)
code-at_byte code width count least e k =
    let s = k.scaled in
    let c = code / 2 ^ e in
    let before = s.before in
    let few = s.few in
    let parts : c * 2 ^ (count + e - 36) * 2 ^ (36 - count) ≡ c * 2 ^ e = times-power c (count + e - 36) (36 - count) e (omega (arith, before, few)) in
    ap (λ x. x / 2 ^ (36 - count)) (s.code_whole ∙ sym parts) ∙ shl-shr (c * 2 ^ (count + e - 36)) (36 - count)

-- the doublings behind the byte
pub record Behind (width count e : ℕ) : Type 0 where
  pub most : 12 ≤ count_leading_zeros 64 width
  pub more : count ≤ count_leading_zeros 64 width - 12
  pub brings : Brings (width / 2 ^ e) (count + e - 36 + (count_leading_zeros 64 width - 12 - count))

pub behind : (code width count least e : ℕ) → IsTaken e code width count least → width / 2 ^ e * 2 ^ (count + e - 36) < 2 ^ 16 → Behind width count e
behind code width count least e k due =
    let s = k.scaled in
    let a = width / 2 ^ e in
    let t = count_leading_zeros 32 a - 16 in
    let b = brings a k.some k.fits in
    let zeros = zeros-taken code width count least e t k b in
    let many = many-due a (count + e - 36) t due b.wide in
    let before = s.before in
    let few = s.few in
    let largest = s.largest in
    let all : t ≡ count + e - 36 + (count_leading_zeros 64 width - 12 - count) = omega (arith, zeros, many, before, few, largest) in
    record {
      most = omega (arith, zeros, largest);
      more = omega (arith, zeros, many, before, few, largest);
      brings = subst (λ x. Brings a x) all b;
    }

-- the width then, at the scale of a whole one
pub record IsWhole (width doubled : ℕ) : Type 0 where
  pub most : 12 ≤ count_leading_zeros 64 width
  pub whole : doubled ≡ doubled / 2 ^ 36 * 2 ^ 36
  pub wide : 2 ^ 51 ≤ doubled
  pub fits : doubled < 2 ^ 52

pub width-is : (code width count least e t : ℕ) → IsTaken e code width count least → Brings (width / 2 ^ e) t → width * 2 ^ (count_leading_zeros 64 width - 12) % 2 ^ 64 ≡ width / 2 ^ e * 2 ^ t * 2 ^ 36
width-is code width count least e t k b =
    let is = width-brought code width count least e t k b in
    let fits = b.fits in
    omega (arith, is, fits)

pub whole-width : (code width count least e : ℕ) → IsTaken e code width count least → IsWhole width (width * 2 ^ (count_leading_zeros 64 width - 12) % 2 ^ 64)
whole-width code width count least e k =
    let a = width / 2 ^ e in
    let t = count_leading_zeros 32 a - 16 in
    let b = brings a k.some k.fits in
    let is = width-is code width count least e t k b in
    let zeros = zeros-taken code width count least e t k b in
    let largest = k.scaled.largest in
    let fits = b.fits in
    let wide = b.wide in
    record {
      most = omega (arith, zeros, largest);
      whole = omega (arith, is);
      wide = omega (arith, is, wide);
      fits = omega (arith, is, fits);
    }
