-- Registers whose doublings are put off, and the subinterval that a decision takes of them.
use Rattle.std.proofs.Common.{◌≡◌, ◌∙◌, ap, sym, subst, refl, ℕ, suc, ◌+◌, ◌-◌, ◌*◌, ◌/◌, ◌^◌, ◌<◌, ◌≤◌, inl, inr, Bool, true, false, not, cond, ltb, arith}
use Rattle.std.specs.Bool.{beq}
use Rattle.std.specs.Int.Count.{count_leading_zeros, leading_unique}
use Rattle.std.proofs.Math.Nat.{mul-lt-mul_of_pos_right, mul-le-mul_right, mul-le-mul_left, mul-sub}
use Rattle.std.proofs.Math.Pow.{pow_mono}
use Rattle.std.proofs.lemmas.Bool.{cases_lt, lt-ltb, le-ltb, false≢true}
use Rattle.std.proofs.lemmas.Nat.{pow-add, pow_pos, leading_top, shl-shr, shr-shr, div_below, le-div}
use Rattle.jk_mqenc.specs.declared.registers.Registers.{Registers}
use Rattle.jk_mqenc.specs.Deferred.{registers_at, scale_of, IsScaled, IsDeferred, IsTaken, IsDoubled}

-- ---- powers

power : (i j k : ℕ) → i + j ≡ k → 2 ^ i * 2 ^ j ≡ 2 ^ k
power i j k e = sym (pow-add 2 i j) ∙ ap (λ x. 2 ^ x) e

pub times-power : (a i j k : ℕ) → i + j ≡ k → a * 2 ^ i * 2 ^ j ≡ a * 2 ^ k
times-power a i j k e = let p = ap (λ x. a * x) (power i j k e) in let same : a * 2 ^ i * 2 ^ j ≡ a * (2 ^ i * 2 ^ j) = grind arith in same ∙ p

less-times : (a b n : ℕ) → a < b → a * 2 ^ n < b * 2 ^ n
less-times a b n h = mul-lt-mul_of_pos_right h (pow_pos n)

less-back : (a b n : ℕ) → a * 2 ^ n < b * 2 ^ n → a < b
less-back a b n h = elim (cases_lt a b) [
  | inl less ↦ less
  | inr more ↦ (let grows = mul-le-mul_right (2 ^ n) more in absurd (omega (arith, grows, h)))
]

minus-times : (a b n : ℕ) → (a - b) * 2 ^ n ≡ a * 2 ^ n - b * 2 ^ n
minus-times a b n =
    let k = 2 ^ n in
    let product = mul-sub k a b in
    let left : (a - b) * k ≡ k * (a - b) = grind arith in
    let first : k * a ≡ a * k = grind arith in
    let second : k * b ≡ b * k = grind arith in
    left ∙ product ∙ ap (λ x. x - k * b) first ∙ ap (λ x. a * k - x) second

ltb-times : (a b n : ℕ) → ltb (a * 2 ^ n) (b * 2 ^ n) ≡ ltb a b
ltb-times a b n = elim (cases_lt a b) [
  | inl less ↦ lt-ltb (a * 2 ^ n) (b * 2 ^ n) (less-times a b n less) ∙ sym (lt-ltb a b less)
  | inr more ↦ le-ltb (a * 2 ^ n) (b * 2 ^ n) (mul-le-mul_right (2 ^ n) more) ∙ sym (le-ltb a b more)
]

-- ---- the scale

-- the scale of a width of so many bits
pub scale-made : (a e : ℕ) → 2 ^ 15 ≤ a → a < 2 ^ 16 → e ≤ 48 → scale_of (a * 2 ^ e) ≡ e
scale-made a e wide fits few =
    let below = less-times a (2 ^ 16) e fits in
    let top = power 16 e (16 + e) refl in
    let above = mul-le-mul_right (2 ^ e) wide in
    let half = power 15 e (15 + e) refl in
    let twice : 2 ^ (16 + e) ≡ 2 * 2 ^ (15 + e) = (let p = power 1 (15 + e) (16 + e) (omega arith) in omega (arith, p)) in
    let zeros = leading_unique 64 (a * 2 ^ e) (48 - e) (16 + e) (omega (arith, few)) (omega (arith, below, top)) (omega (arith, above, half, twice)) in
    omega (arith, zeros, few)

pub scaled-made : (c a e count least : ℕ) → least * 2 ^ count ≡ 2 ^ 52 → 1 ≤ count → count ≤ 12 → e ≤ 36 → 36 < count + e → IsScaled e (c * 2 ^ e) (a * 2 ^ e) count least
scaled-made c a e count least least_is some few largest before = record {
  code_whole = sym (ap (λ x. x * 2 ^ e) (shl-shr c e));
  width_whole = sym (ap (λ x. x * 2 ^ e) (shl-shr a e));
  least_is = least_is;
  some = some;
  few = few;
  largest = largest;
  before = before;
}

pub registers-made : (c a e count : ℕ) → registers_at e (c * 2 ^ e) (a * 2 ^ e) count ≡ record { code = c; width = a; count = count + e - 36 }
registers-made c a e count =
    ap (λ x. let r : Registers = record { code = x; width = a * 2 ^ e / 2 ^ e; count = count + e - 36 } in r) (shl-shr c e)
    ∙ ap (λ x. let r : Registers = record { code = c; width = x; count = count + e - 36 } in r) (shl-shr a e)

pub deferred-made : (c a e count least : ℕ) → 2 ^ 15 ≤ a → a < 2 ^ 16 → least * 2 ^ count ≡ 2 ^ 52 → 1 ≤ count → count ≤ 12 → e ≤ 36 → 36 < count + e → least ≤ a * 2 ^ e → IsDeferred (c * 2 ^ e) (a * 2 ^ e) count least
deferred-made c a e count least wide fits least_is some few largest before enough =
    let below = less-times a (2 ^ 16) e fits in
    let top = power 16 e (16 + e) refl in
    let limit : 2 ^ (16 + e) ≤ 2 ^ 52 = pow_mono (let h : 16 + e ≤ 52 = omega (arith, largest) in h) in
    record {
      scaled = subst (λ s. IsScaled s (c * 2 ^ e) (a * 2 ^ e) count least) (sym (scale-made a e wide fits (omega (arith, largest)))) (scaled-made c a e count least least_is some few largest before);
      enough = enough;
      fits = omega (arith, below, top, limit);
    }

pub view-made : (c a e count : ℕ) → 2 ^ 15 ≤ a → a < 2 ^ 16 → e ≤ 36 → registers_at (scale_of (a * 2 ^ e)) (c * 2 ^ e) (a * 2 ^ e) count ≡ record { code = c; width = a; count = count + e - 36 }
view-made c a e count wide fits few =
    ap (λ s. registers_at s (c * 2 ^ e) (a * 2 ^ e) count) (scale-made a e wide fits (omega (arith, few))) ∙ registers-made c a e count

pub halved : (c : ℕ) → c ≤ 12 → 2 ^ 52 / 2 ^ c * 2 ^ c ≡ 2 ^ 52
halved c few =
    let all = power (52 - c) c 52 (omega (arith, few)) in
    ap (λ x. x / 2 ^ c * 2 ^ c) (sym all) ∙ ap (λ x. x * 2 ^ c) (shl-shr (2 ^ (52 - c)) c) ∙ all

-- half of what a whole width stays below is wide enough
halved-small : (c l w : ℕ) → 1 ≤ c → l * 2 ^ c ≡ 2 ^ 52 → 2 ^ 51 ≤ w → l ≤ w
halved-small c l w some is wide = elim (cases_lt w l) [
  | inl less ↦
      let grows = less-times w l c less in
      let one : 2 ^ 1 ≤ 2 ^ c = pow_mono some in
      let twice : 2 * w ≤ w * 2 ^ c = (let m = mul-le-mul_left w one in omega (arith, m)) in
      absurd (omega (arith, grows, twice, is, wide))
  | inr more ↦ more
]

-- registers of which no doubling is put off
pub begins : (r : Registers) (code width least : ℕ) → code ≡ r.code * 2 ^ 36 → width ≡ r.width * 2 ^ 36 → least * 2 ^ r.count ≡ 2 ^ 52 → 2 ^ 15 ≤ r.width → r.width < 2 ^ 16 → 1 ≤ r.count → r.count ≤ 12 → IsDeferred code width r.count least × (registers_at (scale_of width) code width r.count ≡ r)
begins r code width least code_is width_is least_is wide fits some few =
    let enough : least ≤ r.width * 2 ^ 36 = halved-small r.count least (r.width * 2 ^ 36) some least_is (omega (arith, wide)) in
    let d = deferred-made r.code r.width 36 r.count least wide fits least_is some few (omega arith) (omega (arith, some)) enough in
    let v = view-made r.code r.width 36 r.count wide fits (omega arith) in
    let count : r.count + 36 - 36 ≡ r.count = omega arith in (
      subst (λ x. IsDeferred x width r.count least) (sym code_is) (subst (λ x. IsDeferred (r.code * 2 ^ 36) x r.count least) (sym width_is) d),
      ap (λ x. registers_at (scale_of width) x width r.count) code_is
          ∙ ap (λ x. registers_at (scale_of x) (r.code * 2 ^ 36) x r.count) width_is
          ∙ v ∙ ap (λ x. record r { count = x }) count,
    )

-- ---- what the scale tells

-- a width that isn't small has this many bits
pub record HasBits (width e : ℕ) : Type 0 where
  pub zeros : count_leading_zeros 64 width + e ≡ 48
  pub wide : 2 ^ (15 + e) ≤ width
  pub fits : width < 2 ^ (16 + e)

pub has-bits : (width : ℕ) → 2 ^ 40 ≤ width → width < 2 ^ 64 → HasBits width (scale_of width)
has-bits width wide fits =
    let t = leading_top 64 width (omega (arith, wide)) fits in
    let z = count_leading_zeros 64 width in
    let j = t.0 in
    let all : z + suc j ≡ 64 = t.1 in
    let high : 40 ≤ suc j = elim (cases_lt j 39) [
      | inl low ↦
          let small : 2 ^ suc j ≤ 2 ^ 40 = pow_mono (let h : suc j ≤ 40 = omega (arith, low) in h) in
          let below = t.3 in
          absurd (omega (arith, small, below, wide))
      | inr more ↦ omega (arith, more)
    ] in
    let at : j ≡ 15 + (48 - z) = omega (arith, all, high) in
    let next : suc j ≡ 16 + (48 - z) = omega (arith, at) in
    record {
      zeros = omega (arith, all, high);
      wide = subst (λ k. 2 ^ k ≤ width) at t.2;
      fits = subst (λ k. width < 2 ^ k) next t.3;
    }

least-large : (count least : ℕ) → count ≤ 12 → least * 2 ^ count ≡ 2 ^ 52 → 2 ^ 40 ≤ least
least-large count least few is = elim (cases_lt least (2 ^ 40)) [
  | inl less ↦
      let grows = less-times least (2 ^ 40) count less in
      let all = power 40 count (40 + count) refl in
      let most : 2 ^ (40 + count) ≤ 2 ^ 52 = pow_mono (let h : 40 + count ≤ 52 = omega (arith, few) in h) in
      absurd (omega (arith, grows, all, most, is))
  | inr more ↦ more
]

pub bits-of : (code width count least : ℕ) → IsDeferred code width count least → HasBits width (scale_of width)
bits-of code width count least d =
    let large = least-large count least d.scaled.few d.scaled.least_is in
    let enough = d.enough in
    let fits = d.fits in
    has-bits width (omega (arith, large, enough)) (omega (arith, fits))

-- A is that wide
pub width-wide : (width e : ℕ) → HasBits width e → (2 ^ 15 ≤ width / 2 ^ e) × (width / 2 ^ e < 2 ^ 16)
width-wide width e b =
    let low = power 15 e (15 + e) refl in
    let top = power 16 e (16 + e) refl in
    let wide = b.wide in
    let fits = b.fits in
    (le-div (2 ^ 15) width (2 ^ e) (pow_pos e) (omega (arith, low, wide)), div_below width (2 ^ e) (2 ^ 16) (pow_pos e) (omega (arith, top, fits)))

-- ---- a decision

-- the same choice
pub exchanged-scaled : (a q e width size : ℕ) → width ≡ a * 2 ^ e → size ≡ q * 2 ^ e → ltb (width - size) size ≡ ltb (a - q) q
exchanged-scaled a q e width size width_is size_is =
    ap (λ x. ltb (x - size) size) width_is
    ∙ ap (λ x. ltb (a * 2 ^ e - x) x) size_is
    ∙ ap (λ x. ltb x (q * 2 ^ e)) (sym (minus-times a q e))
    ∙ ltb-times (a - q) q e

code-made : (c q e : ℕ) (t : Bool) (code size kept : ℕ) → code ≡ c * 2 ^ e → size ≡ q * 2 ^ e → kept ≡ cond (not t) size 0 → code + kept ≡ (c + cond t 0 q) * 2 ^ e
code-made c q e true code size kept code_is size_is kept_is =
    let same : (c + 0) * 2 ^ e ≡ c * 2 ^ e = ap (λ x. x * 2 ^ e) (let z : c + 0 ≡ c = omega arith in z) in
    omega (arith, same, code_is, kept_is)
code-made c q e false code size kept code_is size_is kept_is =
    let same : (c + q) * 2 ^ e ≡ c * 2 ^ e + q * 2 ^ e = grind arith in
    omega (arith, same, code_is, size_is, kept_is)

width-made : (a q e : ℕ) (t : Bool) (width size chosen : ℕ) → width ≡ a * 2 ^ e → size ≡ q * 2 ^ e → chosen ≡ cond t size (width - size) → chosen ≡ cond t q (a - q) * 2 ^ e
width-made a q e true width size chosen width_is size_is chosen_is = chosen_is ∙ size_is
width-made a q e false width size chosen width_is size_is chosen_is =
    chosen_is ∙ ap (λ x. x - size) width_is ∙ ap (λ x. a * 2 ^ e - x) size_is ∙ sym (minus-times a q e)

-- the registers of the subinterval
pub record Takes (c a q e count least code width : ℕ) (t : Bool) : Type 0 where
  pub code_is : code ≡ (c + cond t 0 q) * 2 ^ e
  pub width_is : width ≡ cond t q (a - q) * 2 ^ e
  pub taken : IsTaken e code width count least

width-small : (a q : ℕ) (t : Bool) → 1 ≤ q → q < a → a < 2 ^ 16 → (1 ≤ cond t q (a - q)) × (cond t q (a - q) < 2 ^ 16)
width-small a q true some below fits = (some, omega (arith, below, fits))
width-small a q false some below fits = (omega (arith, below), omega (arith, below, fits))

taken-made : (c a e count least : ℕ) → 1 ≤ a → a < 2 ^ 16 → IsScaled e (c * 2 ^ e) (a * 2 ^ e) count least → IsTaken e (c * 2 ^ e) (a * 2 ^ e) count least
taken-made c a e count least some fits s = record {
  scaled = s;
  some = subst (λ x. 1 ≤ x) (sym (shl-shr a e)) some;
  fits = subst (λ x. x < 2 ^ 16) (sym (shl-shr a e)) fits;
}

pub takes : (code width count least e q size kept chosen : ℕ) (t : Bool) → IsScaled e code width count least → width / 2 ^ e < 2 ^ 16 → size ≡ q * 2 ^ e → 1 ≤ q → q < width / 2 ^ e → kept ≡ cond (not t) size 0 → chosen ≡ cond t size (width - size) → Takes (code / 2 ^ e) (width / 2 ^ e) q e count least (code + kept) chosen t
takes code width count least e q size kept chosen t s fits size_is some below kept_is chosen_is =
    let c = code / 2 ^ e in
    let a = width / 2 ^ e in
    let x = code-made c q e t code size kept s.code_whole size_is kept_is in
    let y = width-made a q e t width size chosen s.width_whole size_is chosen_is in
    let small = width-small a q t some below fits in
    let made = taken-made (c + cond t 0 q) (cond t q (a - q)) e count least small.0 small.1 (scaled-made (c + cond t 0 q) (cond t q (a - q)) e count least s.least_is s.some s.few s.largest s.before) in
    record {
      code_is = x;
      width_is = y;
      taken = subst (λ u. IsTaken e u chosen count least) (sym x) (subst (λ u. IsTaken e ((c + cond t 0 q) * 2 ^ e) u count least) (sym y) made);
    }

-- Qe is neither 0 nor half the range
pub size-sound : (q e top : ℕ) → 15 + e ≡ top → 1 ≤ q * 2 ^ e → q * 2 ^ e < 2 ^ top → (1 ≤ q) × (q < 2 ^ 15)
size-sound q e top is some below = (
  elim (cases_lt 0 q) [
    | inl more ↦ more
    | inr none ↦ (let zero : q * 2 ^ e ≡ 0 = ap (λ x. x * 2 ^ e) (let z : q ≡ 0 = omega (arith, none) in z) ∙ omega arith in absurd (omega (arith, zero, some)))
  ],
  less-back q (2 ^ 15) e (let p = power 15 e top is in omega (arith, p, below)),
)

-- there is room for it
pub has-room : (c a e count ct : ℕ) → 8 * (c + a) ≤ 9 * 2 ^ (27 - ct) → ct ≡ count + e - 36 → 1 ≤ count → count ≤ 12 → e ≤ 36 → 36 < count + e → (c + a) * 2 ^ e < 2 ^ 63
has-room c a e count ct room ct_is some few largest before =
    let grows = mul-le-mul_right (2 ^ e) room in
    let all = power (27 - ct) e (63 - count) (omega (arith, ct_is, some, few, largest, before)) in
    let most : 2 ^ (63 - count) ≤ 2 ^ 62 = pow_mono (let h : 63 - count ≤ 62 = omega (arith, some) in h) in
    let left : 8 * (c + a) * 2 ^ e ≡ 8 * ((c + a) * 2 ^ e) = grind arith in
    let right : 9 * 2 ^ (27 - ct) * 2 ^ e ≡ 9 * (2 ^ (27 - ct) * 2 ^ e) = grind arith in
    omega (arith, grows, all, most, left, right)

pub code-fits : (c a q e code : ℕ) (t : Bool) → (c + a) * 2 ^ e < 2 ^ 63 → q < a → code ≡ (c + cond t 0 q) * 2 ^ e → code < 2 ^ 63
code-fits c a q e code true room below is =
    let grows : (c + 0) * 2 ^ e ≤ (c + a) * 2 ^ e = mul-le-mul_right (2 ^ e) (let h : c + 0 ≤ c + a = omega arith in h) in
    omega (arith, grows, room, is)
code-fits c a q e code false room below is =
    let grows : (c + q) * 2 ^ e ≤ (c + a) * 2 ^ e = mul-le-mul_right (2 ^ e) (let h : c + q ≤ c + a = omega (arith, below) in h) in
    omega (arith, grows, room, is)

-- the less probable symbol leaves less than 2^15
pub less-narrow : (a q : ℕ) (less : Bool) → q < 2 ^ 15 → less ≡ true → cond (not (beq less (ltb (a - q) q))) q (a - q) < 2 ^ 15
less-narrow a q true small e = elim (cases_lt (a - q) q) [
  | inl exchanged ↦
      let t : not (beq true (ltb (a - q) q)) ≡ false = ap (λ (x : Bool). not (beq true x)) (lt-ltb (a - q) q exchanged) in
      let is = ap (λ (x : Bool). cond x q (a - q)) t in
      omega (arith, is, exchanged, small)
  | inr plain ↦
      let t : not (beq true (ltb (a - q) q)) ≡ true = ap (λ (x : Bool). not (beq true x)) (le-ltb (a - q) q plain) in
      let is = ap (λ (x : Bool). cond x q (a - q)) t in
      omega (arith, is, small)
]
less-narrow a q false small e = absurd (false≢true e)

-- ---- the subinterval, renormalised

-- whether a renormalisation is due
pub wide-digit : (width e top : ℕ) → 15 + e ≡ top → width / 2 ^ e < 2 ^ 16 → width / 2 ^ top ≡ cond (ltb (width / 2 ^ e) (2 ^ 15)) 0 1
wide-digit width e top is fits =
    let a = width / 2 ^ e in
    let parts : width / 2 ^ top ≡ a / 2 ^ 15 = ap (λ k. width / 2 ^ k) (let h : top ≡ e + 15 = omega (arith, is) in h) ∙ sym (shr-shr width e 15) in
    elim (cases_lt a (2 ^ 15)) [
      | inl less ↦ parts ∙ (let z : a / 2 ^ 15 ≡ 0 = omega (arith, less) in z) ∙ sym (ap (λ (t : Bool). cond t 0 1) (lt-ltb a (2 ^ 15) less))
      | inr more ↦ parts ∙ (let z : a / 2 ^ 15 ≡ 1 = omega (arith, more, fits) in z) ∙ sym (ap (λ (t : Bool). cond t 0 1) (le-ltb a (2 ^ 15) more))
    ]

-- a byte is due
pub is-due : (code width count least e : ℕ) → IsTaken e code width count least → width < least → width / 2 ^ e * 2 ^ (count + e - 36) < 2 ^ 16
is-due code width count least e t less =
    let s = t.scaled in
    let a = width / 2 ^ e in
    let n = count + e - 36 in
    let below = less-times width least count less in
    let before = s.before in
    let whole : a * 2 ^ n * 2 ^ 36 ≡ a * 2 ^ e * 2 ^ count =
    times-power a n 36 (count + e) (omega (arith, before)) ∙ sym (times-power a e count (count + e) (omega arith)) in
    let same = ap (λ x. x * 2 ^ count) s.width_whole in
    let is = s.least_is in
    omega (arith, below, whole, same, is)

-- none is due: the doublings are put off
pub record PutsOff (code width count least e : ℕ) : Type 0 where
  pub deferred : IsDeferred code width count least
  pub doubled : IsDoubled (registers_at e code width count) (registers_at (scale_of width) code width count)

pub puts-off : (code width count least e : ℕ) → width < 2 ^ 64 → IsTaken e code width count least → least ≤ width → PutsOff code width count least e
puts-off code width count least e small t enough =
    let s = t.scaled in
    let c = code / 2 ^ e in
    let a = width / 2 ^ e in
    let large = least-large count least s.few s.least_is in
    let b = has-bits width (omega (arith, large, enough)) small in
    let f = scale_of width in
    let wide = b.wide in
    let fits = b.fits in
    let below = less-times a (2 ^ 16) e t.fits in
    let top = power 16 e (16 + e) refl in
    let width_is = s.width_whole in
    let less : f ≤ e = elim (cases_lt e f) [
      | inl more ↦
          let grows : 2 ^ (16 + e) ≤ 2 ^ (15 + f) = pow_mono (let h : 16 + e ≤ 15 + f = omega (arith, more) in h) in
          absurd (omega (arith, grows, wide, below, top, width_is))
      | inr few ↦ few
    ] in
    let k = e - f in
    let sum : k + f ≡ e = omega (arith, less) in
    let code_parts : c * 2 ^ k * 2 ^ f ≡ code = times-power c k f e sum ∙ sym s.code_whole in
    let width_parts : a * 2 ^ k * 2 ^ f ≡ width = times-power a k f e sum ∙ sym s.width_whole in
    let low = power 15 f (15 + f) refl in
    let high = power 16 f (16 + f) refl in
    let wide_a : 2 ^ 15 ≤ a * 2 ^ k = elim (cases_lt (a * 2 ^ k) (2 ^ 15)) [
      | inl under ↦ (let g = less-times (a * 2 ^ k) (2 ^ 15) f under in absurd (omega (arith, g, width_parts, low, wide)))
      | inr over ↦ over
    ] in
    let fits_a : a * 2 ^ k < 2 ^ 16 = less-back (a * 2 ^ k) (2 ^ 16) f (omega (arith, width_parts, high, fits)) in
    let grown = mul-le-mul_right (2 ^ count) enough in
    let over = less-times width (2 ^ (16 + f)) count fits in
    let all = power (16 + f) count (16 + f + count) refl in
    let least_is = s.least_is in
    let before : 36 < count + f = elim (cases_lt 36 (count + f)) [
      | inl more ↦ more
      | inr few ↦
          let under : 2 ^ (16 + f + count) ≤ 2 ^ 52 = pow_mono (let h : 16 + f + count ≤ 52 = omega (arith, few) in h) in
          absurd (omega (arith, grown, over, all, under, least_is))
    ] in
    let largest = s.largest in
    let few : f ≤ 36 = omega (arith, less, largest) in
    let made = deferred-made (c * 2 ^ k) (a * 2 ^ k) f count least wide_a fits_a s.least_is s.some s.few few before (subst (λ x. least ≤ x) (sym width_parts) enough) in
    record {
      deferred = subst (λ x. IsDeferred x width count least) code_parts (subst (λ x. IsDeferred (c * 2 ^ k * 2 ^ f) x count least) width_parts made);
      doubled = record {
        times = k;
        before = omega (arith, sum, before);
        fits = fits_a;
        wide = wide_a;
        code = ap (λ x. x / 2 ^ f) (sym code_parts) ∙ shl-shr (c * 2 ^ k) f;
        width = ap (λ x. x / 2 ^ f) (sym width_parts) ∙ shl-shr (a * 2 ^ k) f;
        count = omega (arith, sum, before);
      };
    }

-- ---- a decision, as the code finds it

-- the interval, and the size of the lower subinterval
pub record Whole (code width count least e q : ℕ) : Type 0 where
  pub same : scale_of width ≡ e
  pub scaled : IsScaled e code width count least
  pub wide : 2 ^ 15 ≤ width / 2 ^ e
  pub fits : width / 2 ^ e < 2 ^ 16
  pub some : 1 ≤ q
  pub half : q < 2 ^ 15

pub whole : (code width count least q size top : ℕ) → IsDeferred code width count least → top + count_leading_zeros 64 width ≡ 63 → size ≡ q * 2 ^ (top - 15) → 1 ≤ size → size < 2 ^ top → Whole code width count least (top - 15) q
whole code width count least q size top d place size_is one below =
    let e = top - 15 in
    let b = bits-of code width count least d in
    let zeros = b.zeros in
    let same : scale_of width ≡ e = omega (arith, place) in
    let a = width-wide width (scale_of width) b in
    let at : 15 + e ≡ top = omega (arith, zeros, place) in
    let s = size-sound q e top at (omega (arith, size_is, one)) (subst (λ x. x < 2 ^ top) size_is below) in
    record {
      same = same;
      scaled = subst (λ x. IsScaled x code width count least) same d.scaled;
      wide = subst (λ x. 2 ^ 15 ≤ width / 2 ^ x) same a.0;
      fits = subst (λ x. width / 2 ^ x < 2 ^ 16) same a.1;
      some = s.0;
      half = s.1;
    }

-- a width isn't 0
pub some-width : (code width count least : ℕ) → IsDeferred code width count least → 1 ≤ width
some-width code width count least d =
    let large = least-large count least d.scaled.few d.scaled.least_is in
    let enough = d.enough in
    omega (arith, large, enough)

-- there is a place for its highest bit
pub top-large : (code width count least top : ℕ) → IsDeferred code width count least → top + count_leading_zeros 64 width ≡ 63 → 15 ≤ top
top-large code width count least top d place =
    let zeros = (bits-of code width count least d).zeros in
    omega (arith, zeros, place)

pub size-below : (code width count least e q size : ℕ) → Whole code width count least e q → size ≡ q * 2 ^ e → size ≤ width
size-below code width count least e q size w size_is =
    let wide = w.wide in
    let half = w.half in
    let less = less-times q (width / 2 ^ e) e (omega (arith, wide, half)) in
    let is = w.scaled.width_whole in
    omega (arith, less, size_is, is)

pub decision : (code width count least e q size kept chosen : ℕ) (less : Bool) → Whole code width count least e q → size ≡ q * 2 ^ e
    → kept ≡ cond (not (not (beq less (ltb (width - size) size)))) size 0 → chosen ≡ cond (not (beq less (ltb (width - size) size))) size (width - size)
    → Takes (code / 2 ^ e) (width / 2 ^ e) q e count least (code + kept) chosen (not (beq less (ltb (width / 2 ^ e - q) q)))
decision code width count least e q size kept chosen less w size_is kept_is chosen_is =
    let a = width / 2 ^ e in
    let same = exchanged-scaled a q e width size w.scaled.width_whole size_is in
    let wide = w.wide in
    let half = w.half in
    takes code width count least e q size kept chosen (not (beq less (ltb (a - q) q))) w.scaled w.fits size_is w.some (omega (arith, wide, half))
    (kept_is ∙ ap (λ (t : Bool). cond (not (not (beq less t))) size 0) same)
    (chosen_is ∙ ap (λ (t : Bool). cond (not (beq less t)) size (width - size)) same)

pub sum-fits : (code width count least e q size kept : ℕ) (less : Bool) (r : Registers) → Whole code width count least e q → size ≡ q * 2 ^ e → registers_at (scale_of width) code width count ≡ r → 8 * (r.code + r.width) ≤ 9 * 2 ^ (27 - r.count)
    → kept ≡ cond (not (not (beq less (ltb (width - size) size)))) size 0 → code + kept < 2 ^ 63
sum-fits code width count least e q size kept less r w size_is view room kept_is =
    let c = code / 2 ^ e in
    let a = width / 2 ^ e in
    let s = w.scaled in
    let t = not (beq less (ltb (width - size) size)) in
    let seen : registers_at e code width count ≡ r = ap (λ x. registers_at x code width count) (sym w.same) ∙ view in
    let here : 8 * (c + a) ≤ 9 * 2 ^ (27 - (count + e - 36)) = subst (λ (x : Registers). 8 * (x.code + x.width) ≤ 9 * 2 ^ (27 - x.count)) (sym seen) room in
    let fits = has-room c a e count (count + e - 36) here refl s.some s.few s.largest s.before in
    let wide = w.wide in
    let half = w.half in
    code-fits c a q e (code + kept) t fits (omega (arith, wide, half)) (code-made c q e t code size kept s.code_whole size_is kept_is)
