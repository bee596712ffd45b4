-- Registers whose doublings are put off: how many these are, and a decision at their scale.
use Rattle.std.proofs.Common.{◌≡◌, ◌∙◌, ap, sym, subst, refl, ℕ, suc, ◌+◌, ◌-◌, ◌*◌, ◌/◌, ◌^◌, ◌<◌, ◌≤◌, ◌⊎◌, inl, inr, Bool, not, eqb, ltb, List, arith}
use Rattle.std.specs.Bool.{beq}
use Rattle.std.specs.Int.Count.{count_leading_zeros}
use Rattle.std.proofs.Math.Nat.{mul-le-mul_right, mul-sub}
use Rattle.std.proofs.Math.Pow.{pow_pos}
use Rattle.std.proofs.lemmas.Nat.{pow-add, leading_top, shl-shr, div_below, le-div}
use Rattle.std.proofs.lemmas.Bool.{cases_lt, eq-eqb, ne_eqb, lt-ltb, le-ltb}
use Rattle.jk_model.specs.Decisions.{State, renormalised}
use Rattle.jk_mqdec.specs.declared.wide.WideRegisters.{WideRegisters}
use Rattle.jk_mqdec.specs.declared.deferred.DeferredRegisters.{DeferredRegisters}
use Rattle.jk_mqdec.specs.Wide.{HasLeftWide, IsHeld, HoldsWide, IsReadyWide, IsSteadyWide}
use Rattle.jk_mqdec.specs.Deferred.{doubled_wide, caught_up, IsDeferred, IsSteadyDeferred}
use Rattle.jk_mqdec.proofs.Shifts.{shift_less, shift_grows, shift_first, shift_twice}
use Rattle.jk_mqdec.proofs.Staying.{subinterval-inside}
use Rattle.jk_mqdec.proofs.Widening.{wide-shifted, wide-renormalised}

-- ---- how many doublings are put off

-- the doublings that bring the highest bit of a width to the top
pub record Rises (w n : ℕ) : Type 0 where
  pub few : n ≤ 63
  pub least : 2 ^ 63 ≤ w * 2 ^ n
  pub most : w * 2 ^ n < 2 ^ 64
  pub from : 2 ^ (63 - n) ≤ w
  pub below : w < 2 * 2 ^ (63 - n)

pub rises : (w : ℕ) → 1 ≤ w → w < 2 ^ 64 → Rises w (count_leading_zeros 64 w)
rises w some fits =
    let t = leading_top 64 w some fits in
    let n = count_leading_zeros 64 w in
    let j = t.0 in
    let all : n + suc j ≡ 64 = t.1 in
    let at : j ≡ 63 - n = omega (arith, all) in
    let above : w * 2 ^ n < 2 ^ suc j * 2 ^ n = shift_less w (2 ^ suc j) n t.3 in
    let under : 2 ^ j * 2 ^ n ≤ w * 2 ^ n = mul-le-mul_right (2 ^ n) t.2 in
    let top : 2 ^ suc j * 2 ^ n ≡ 2 ^ 64 = sym (pow-add 2 (suc j) n) ∙ ap (λ k. 2 ^ k) (let e : suc j + n ≡ 64 = omega (arith, all) in e) in
    let bottom : 2 ^ j * 2 ^ n ≡ 2 ^ 63 = sym (pow-add 2 j n) ∙ ap (λ k. 2 ^ k) (let e : j + n ≡ 63 = omega (arith, all) in e) in
    let double : 2 ^ suc j ≡ 2 * 2 ^ j = (let e = shift_first 1 j in omega (arith, e)) in
    let least = t.2 in
    let most = t.3 in
    record {
      few = omega (arith, all);
      least = omega (arith, under, bottom);
      most = omega (arith, above, top);
      from = subst (λ k. 2 ^ k ≤ w) at least;
      below = subst (λ k. w < 2 * 2 ^ k) at (omega (arith, most, double));
    }

-- no more than need no byte, where the width is at least so large
pub none-due : (w n l c : ℕ) → Rises w n → l * 2 ^ c ≡ 2 ^ 63 → l ≤ w → n ≤ c
none-due w n l c r is h = elim (cases_lt c n) [
  | inl more ↦
      let grows = shift_grows w (suc c) n (omega (arith, more)) in
      let first = shift_first w c in
      let twice = shift_first 1 c in
      let under : l * 2 ^ c ≤ w * 2 ^ c = mul-le-mul_right (2 ^ c) h in
      let same : 2 * w * 2 ^ c ≡ 2 * (w * 2 ^ c) = grind arith in
      let most = r.most in
      absurd (omega (arith, grows, first, under, same, most, is))
  | inr few ↦ few
]

-- and more, where it is smaller
pub one-due : (w n l c : ℕ) → Rises w n → l * 2 ^ c ≡ 2 ^ 63 → w < l → c < n
one-due w n l c r is h = elim (cases_lt c n) [
  | inl more ↦ more
  | inr few ↦
      let grows = shift_grows w n c few in
      let under = shift_less w l c h in
      let least = r.least in
      absurd (omega (arith, grows, under, least, is))
]

-- the doublings behind some of them
pub record Rests (w n z : ℕ) : Type 0 where
  pub some : n ≤ z
  pub few : z - n ≤ 15
  pub least : 2 ^ 63 ≤ w * 2 ^ n * 2 ^ (z - n)
  pub most : w * 2 ^ n * 2 ^ (z - n) < 2 ^ 64

pub rests : (w n z : ℕ) → Rises w z → 2 ^ 48 ≤ w * 2 ^ n → w * 2 ^ n < 2 ^ 64 → Rests w n z
rests w n z r wide fits =
    let least = r.least in
    let most = r.most in
    let some : n ≤ z = elim (cases_lt z n) [
      | inl less ↦
          let grows = shift_grows w (suc z) n (omega (arith, less)) in
          let first = shift_first w z in
          let same : 2 * w * 2 ^ z ≡ 2 * (w * 2 ^ z) = grind arith in
          absurd (omega (arith, grows, first, same, least, fits))
      | inr more ↦ more
    ] in
    let all : w * 2 ^ n * 2 ^ (z - n) ≡ w * 2 ^ z = shift_twice w n (z - n) z (omega (arith, some)) in
    let few : z - n ≤ 15 = elim (cases_lt 15 (z - n)) [
      | inl more ↦
          let grows = shift_grows (w * 2 ^ n) 16 (z - n) more in
          absurd (omega (arith, grows, all, most, wide))
      | inr less ↦ less
    ] in
    record { some = some; few = few; least = omega (arith, all, least); most = omega (arith, all, most) }

-- ---- the registers that they stand for

pub doubled-none : (r : WideRegisters) → doubled_wide 0 r ≡ r
doubled-none r =
    ap (λ x. let y : WideRegisters = record { code = x; width = r.width * 2 ^ 0; count = r.count - 0; place = r.place } in y) (let e : r.code * 2 ^ 0 ≡ r.code = omega arith in e)
    ∙ ap (λ x. record r { width = x; count = r.count - 0 }) (let e : r.width * 2 ^ 0 ≡ r.width = omega arith in e)
    ∙ ap (λ x. record r { count = x }) (let e : r.count - 0 ≡ r.count = omega arith in e)

-- no doubling is put off of a width at the top
pub caught-up-already : (r : WideRegisters) → 2 ^ 63 ≤ r.width → r.width < 2 ^ 64 → caught_up r ≡ r
caught-up-already r least most =
    let n = count_leading_zeros 64 r.width in
    let t = rises r.width (omega (arith, least)) most in
    let below = t.most in
    let none : n ≡ 0 = elim (cases_lt 0 n) [
      | inl some ↦ (let grows = shift_grows r.width 1 n some in absurd (omega (arith, grows, least, below)))
      | inr none ↦ omega (arith, none)
    ] in
    ap (λ k. doubled_wide k r) none ∙ doubled-none r

pub halved : (c : ℕ) → c ≤ 48 → 2 ^ 63 / 2 ^ c * 2 ^ c ≡ 2 ^ 63
halved c few =
    let all : 2 ^ (63 - c) * 2 ^ c ≡ 2 ^ 63 = sym (pow-add 2 (63 - c) c) ∙ ap (λ k. 2 ^ k) (let e : 63 - c + c ≡ 63 = omega (arith, few) in e) in
    ap (λ x. x / 2 ^ c * 2 ^ c) (sym all) ∙ ap (λ x. x * 2 ^ c) (shl-shr (2 ^ (63 - c)) c) ∙ all

-- the bounds of the registers that they stand for
pub ready-wide : (b : List ℕ) (r : DeferredRegisters) → r.registers.width < 2 ^ 64 → r.registers.code < r.registers.width → IsDeferred b r → IsReadyWide b (caught_up r.registers)
ready-wide b r fits code i =
    let t = rises r.registers.width (omega (arith, code)) fits in
    let few = i.count in
    record {
      code = shift_less r.registers.code r.registers.width (count_leading_zeros 64 r.registers.width) code;
      least = t.least;
      count = omega (arith, few);
      place = i.place;
    }

-- no byte is due: the interval is renormalised, and the doublings stay put off
pub wide-settled : (b : List ℕ) (r : WideRegisters) (n : ℕ) (s : State) → Rests r.width n (count_leading_zeros 64 r.width) → count_leading_zeros 64 r.width ≤ r.count → HoldsWide b (doubled_wide n r) s → HoldsWide b (caught_up r) (renormalised 15 s)
wide-settled b r n s t few h =
    let z = count_leading_zeros 64 r.width in
    let w = doubled_wide n r in
    let some = t.some in
    let all : n + (z - n) ≡ z = omega (arith, some) in
    subst (λ u. HoldsWide b (caught_up r) u) (sym (wide-renormalised b w s (z - n) h t.few t.least t.most))
    (wide-shifted b (z - n) w (caught_up r) s h (omega (arith, some, few)) (sym (shift_twice r.code n (z - n) z all)) (sym (shift_twice r.width n (z - n) z all)) (omega (arith, some, few)) refl)

pub some-width : (w n : ℕ) → 2 ^ 48 ≤ w * 2 ^ n → 1 ≤ w
some-width w n wide = elim (cases_lt 0 w) [
  | inl some ↦ some
  | inr none ↦
      let zero : w * 2 ^ n ≡ 0 = ap (λ x. x * 2 ^ n) (let e : w ≡ 0 = omega (arith, none) in e) ∙ omega arith in
      absurd (omega (arith, zero, wide))
]

-- registers that were doubled so often
pub held-doubled : (b : List ℕ) (n : ℕ) (old new : WideRegisters) (s : State) → n ≤ old.count → new.code ≡ old.code * 2 ^ n → new.width ≡ old.width * 2 ^ n → new.count + n ≡ old.count → new.place ≡ old.place → HoldsWide b (doubled_wide n old) s → HoldsWide b new s
held-doubled b n old new s few code width count place h =
    let count_is : new.count ≡ old.count - n = omega (arith, count, few) in
    subst (λ x. IsHeld b x new.width new.count new.place s) (sym code)
    (subst (λ x. IsHeld b (old.code * 2 ^ n) x new.count new.place s) (sym width)
    (subst (λ x. IsHeld b (old.code * 2 ^ n) (old.width * 2 ^ n) x new.place s) (sym count_is)
    (subst (λ x. IsHeld b (old.code * 2 ^ n) (old.width * 2 ^ n) (old.count - n) x s) (sym place) h)))

-- ---- a decision at the scale of the registers

pub less-back : (a b n : ℕ) → a * 2 ^ n < b * 2 ^ n → a < b
less-back a b n h = elim (cases_lt a b) [
  | inl less ↦ less
  | inr more ↦ (let grows = mul-le-mul_right (2 ^ n) more in absurd (omega (arith, grows, h)))
]

least-back : (a b n : ℕ) → a * 2 ^ n ≤ b * 2 ^ n → a ≤ b
least-back a b n h = elim (cases_lt b a) [
  | inl less ↦ (let below = shift_less b a n less in absurd (omega (arith, below, h)))
  | inr more ↦ more
]

less-doubled : (a b n : ℕ) → ltb a b ≡ ltb (a * 2 ^ n) (b * 2 ^ n)
less-doubled a b n = elim (cases_lt a b) [
  | inl less ↦ lt-ltb a b less ∙ sym (lt-ltb (a * 2 ^ n) (b * 2 ^ n) (shift_less a b n less))
  | inr more ↦ le-ltb a b more ∙ sym (le-ltb (a * 2 ^ n) (b * 2 ^ n) (mul-le-mul_right (2 ^ n) more))
]

minus-doubled : (a b n : ℕ) → (a - b) * 2 ^ n ≡ a * 2 ^ n - b * 2 ^ n
minus-doubled a b n =
    let k = 2 ^ n in
    let product = mul-sub k a b in
    let left : (a - b) * k ≡ k * (a - b) = grind arith in
    let first : k * a ≡ a * k = grind arith in
    let second : k * b ≡ b * k = grind arith in
    left ∙ product ∙ ap (λ x. x - k * b) first ∙ ap (λ x. a * k - x) second

-- the lower subinterval
pub lower-doubled : (n q : ℕ) (r subinterval : WideRegisters) → (r.code < q → subinterval ≡ record r { width = q }) → r.code * 2 ^ n < q * 2 ^ n → doubled_wide n subinterval ≡ record (doubled_wide n r) { width = q * 2 ^ n }
lower-doubled n q r subinterval low h = ap (λ x. doubled_wide n x) (low (less-back r.code q n h))

-- the upper one
pub upper-doubled : (n q : ℕ) (r subinterval : WideRegisters) → (q ≤ r.code → subinterval ≡ record r { code = r.code - q; width = r.width - q }) → q * 2 ^ n ≤ r.code * 2 ^ n
    → doubled_wide n subinterval ≡ record (doubled_wide n r) { code = r.code * 2 ^ n - q * 2 ^ n; width = r.width * 2 ^ n - q * 2 ^ n }
upper-doubled n q r subinterval high h =
    ap (λ x. doubled_wide n x) (high (least-back q r.code n h))
    ∙ ap (λ x. record (doubled_wide n r) { code = x; width = (r.width - q) * 2 ^ n }) (minus-doubled r.code q n)
    ∙ ap (λ x. record (doubled_wide n r) { code = r.code * 2 ^ n - q * 2 ^ n; width = x }) (minus-doubled r.width q n)

-- which symbol it stands for
pub symbol-doubled : (n q : ℕ) (r : WideRegisters) (less : Bool) → less ≡ not (beq (ltb r.code q) (ltb (r.width - q) q)) → less ≡ not (beq (ltb (r.code * 2 ^ n) (q * 2 ^ n)) (ltb (r.width * 2 ^ n - q * 2 ^ n) (q * 2 ^ n)))
symbol-doubled n q r less h =
    h
    ∙ ap (λ (t : Bool). not (beq t (ltb (r.width - q) q))) (less-doubled r.code q n)
    ∙ ap (λ (t : Bool). not (beq (ltb (r.code * 2 ^ n) (q * 2 ^ n)) t)) (less-doubled (r.width - q) q n ∙ ap (λ x. ltb x (q * 2 ^ n)) (minus-doubled r.width q n))

-- Qe
pub size-doubled : (k n : ℕ) → n ≤ 48 → k * 2 ^ (63 - n - 15) * 2 ^ n ≡ k * 2 ^ 48
size-doubled k n few = shift_twice k (63 - n - 15) n 48 (omega (arith, few))

-- what a subinterval has of the whole
pub record IsTaken (r subinterval : WideRegisters) (q : ℕ) : Type 0 where
  pub width : (subinterval.width ≡ q) ⊎ (subinterval.width + q ≡ r.width)
  pub count : subinterval.count ≡ r.count
  pub place : subinterval.place ≡ r.place

pub is-taken : (r subinterval : WideRegisters) (q : ℕ) → q ≤ r.width → (r.code < q → subinterval ≡ record r { width = q }) → (q ≤ r.code → subinterval ≡ record r { code = r.code - q; width = r.width - q }) → IsTaken r subinterval q
is-taken r subinterval q fits low high = elim (cases_lt r.code q) [
  | inl below ↦
      let is = low below in
      record { width = inl (ap (λ (x : WideRegisters). x.width) is); count = ap (λ (x : WideRegisters). x.count) is; place = ap (λ (x : WideRegisters). x.place) is }
  | inr above ↦
      let is = high above in
      let width = ap (λ (x : WideRegisters). x.width) is in
      record { width = inr (omega (arith, width, fits)); count = ap (λ (x : WideRegisters). x.count) is; place = ap (λ (x : WideRegisters). x.place) is }
]

pub as-taken : (r subinterval : WideRegisters) (q : ℕ) → IsTaken r subinterval q → subinterval ≡ record r { code = subinterval.code; width = subinterval.width }
as-taken r subinterval q t =
    ap (λ x. record subinterval { count = x }) t.count ∙ ap (λ x. record subinterval { count = r.count; place = x }) t.place

-- where no byte is due of it, the code value lies in it
pub stays-inside : (r subinterval : WideRegisters) (q least : ℕ) → q ≤ r.width → 1 ≤ q → (r.code < q → subinterval ≡ record r { width = q }) → (q ≤ r.code → subinterval ≡ record r { code = r.code - q; width = r.width - q }) → (HasLeftWide r → r.width ≤ least) → least ≤ subinterval.width → subinterval.code < subinterval.width
stays-inside r subinterval q least fits some low high waits enough = elim (cases_lt r.code r.width) [
  | inl inside ↦ subinterval-inside r subinterval q low high inside
  | inr left ↦
      let width = ap (λ (x : WideRegisters). x.width) (high (omega (arith, left, fits))) in
      let narrow = waits left in
      absurd (omega (arith, width, narrow, enough, some, fits))
]

pub taken-fits : (r subinterval : WideRegisters) (q : ℕ) → q ≤ r.width → IsTaken r subinterval q → subinterval.width ≤ r.width
taken-fits r subinterval q fits t = elim t.width [
  | inl e ↦ omega (arith, e, fits)
  | inr e ↦ omega (arith, e)
]

-- Qe is neither 0 nor half the range
record IsSize (k : ℕ) : Type 0 where
  some : 1 ≤ k
  most : k < 2 ^ 15

size-sound : (q k n : ℕ) → q * 2 ^ n ≡ k * 2 ^ 48 → 1 ≤ q → q < 2 ^ (63 - n) → n ≤ 63 → IsSize k
size-sound q k n is some below few =
    let none = shift_less 0 q n some in
    let under = shift_less q (2 ^ (63 - n)) n below in
    let top : 2 ^ (63 - n) * 2 ^ n ≡ 2 ^ 63 = sym (pow-add 2 (63 - n) n) ∙ ap (λ j. 2 ^ j) (let e : 63 - n + n ≡ 63 = omega (arith, few) in e) in
    record { some = omega (arith, none, is); most = omega (arith, under, top, is) }

-- it is not narrower than one of the interval
pub taken-wide : (r subinterval : WideRegisters) (q k n : ℕ) → q * 2 ^ n ≡ k * 2 ^ 48 → 1 ≤ q → q < 2 ^ (63 - n) → Rises r.width n → IsTaken r subinterval q → 2 ^ 48 ≤ subinterval.width * 2 ^ n
taken-wide r subinterval q k n is one below rise t =
    let size = size-sound q k n is one below rise.few in
    let some = size.some in
    let most = size.most in
    elim t.width [
      | inl e ↦ (let same = ap (λ x. x * 2 ^ n) e in omega (arith, same, is, some))
      | inr e ↦
          let sum = ap (λ x. x * 2 ^ n) e in
          let parts : (subinterval.width + q) * 2 ^ n ≡ subinterval.width * 2 ^ n + q * 2 ^ n = grind arith in
          let least = rise.least in
          omega (arith, sum, parts, is, most, least)
    ]

-- a width against half its range: it has the highest bit of the whole, or is to be doubled
pub digit-small : (v w n : ℕ) → v ≤ w → Rises w n → v / 2 ^ (63 - n) ≤ 1
digit-small v w n fits rise =
    let below = rise.below in
    let less = div_below v (2 ^ (63 - n)) 2 (pow_pos (63 - n)) (omega (arith, fits, below)) in
    omega (arith, less)

pub digit-doubled : (v n : ℕ) → n ≤ 63 → eqb (v / 2 ^ (63 - n)) 0 ≡ ltb (v * 2 ^ n) (2 ^ 63)
digit-doubled v n few =
    let k = 2 ^ (63 - n) in
    let top : k * 2 ^ n ≡ 2 ^ 63 = sym (pow-add 2 (63 - n) n) ∙ ap (λ j. 2 ^ j) (let e : 63 - n + n ≡ 63 = omega (arith, few) in e) in
    elim (cases_lt v k) [
      | inl less ↦
          let none = div_below v k 1 (pow_pos (63 - n)) (omega (arith, less)) in
          let under = shift_less v k n less in
          eq-eqb (v / k) 0 (omega (arith, none)) ∙ sym (lt-ltb (v * 2 ^ n) (2 ^ 63) (omega (arith, under, top)))
      | inr more ↦
          let some = le-div 1 v k (pow_pos (63 - n)) (omega (arith, more)) in
          let over = mul-le-mul_right (2 ^ n) more in
          ne_eqb (v / k) 0 (λ e. omega (arith, e, some)) ∙ sym (le-ltb (v * 2 ^ n) (2 ^ 63) (omega (arith, over, top)))
    ]

-- ---- the start

pub begins-deferred : (b : List ℕ) (r : WideRegisters) (d : DeferredRegisters) → IsSteadyWide b r → d.registers ≡ r → d.least * 2 ^ r.count ≡ 2 ^ 63 → d.least ≤ r.width → IsSteadyDeferred b d
begins-deferred b r d steady same least enough =
    let count = ap (λ (x : WideRegisters). x.count) same in
    let place = ap (λ (x : WideRegisters). x.place) same in
    let width = ap (λ (x : WideRegisters). x.width) same in
    let code = ap (λ (x : WideRegisters). x.code) same in
    let few = steady.count in
    let at = steady.place in
    record {
      bounds = record {
        least = ap (λ k. d.least * 2 ^ k) count ∙ least;
        enough = omega (arith, width, enough);
        count = omega (arith, count, few);
        place = omega (arith, place, at);
      };
      waits = λ left.
          let w = steady.waits (omega (arith, left, width, code)) in
          let none = w.0 in
          let half = w.1 in
          let all = sym (ap (λ k. d.least * 2 ^ k) none) ∙ least in
          omega (arith, half, all, width);
    }

-- ---- registers before a decision

pub record IsBehind (r : WideRegisters) (n : ℕ) : Type 0 where
  pub some : 1 ≤ r.width
  pub rise : Rises r.width n
  pub few : n ≤ r.count
  pub small : n ≤ 48

pub behind : (b : List ℕ) (d : DeferredRegisters) → d.registers.width < 2 ^ 64 → IsDeferred b d → IsBehind d.registers (count_leading_zeros 64 d.registers.width)
behind b d fits i =
    let r = d.registers in
    let least = i.least in
    let enough = i.enough in
    let count = i.count in
    let some : 1 ≤ r.width = elim (cases_lt 0 d.least) [
      | inl more ↦ omega (arith, more, enough)
      | inr none ↦
          let zero : d.least * 2 ^ r.count ≡ 0 = ap (λ x. x * 2 ^ r.count) (let e : d.least ≡ 0 = omega (arith, none) in e) ∙ omega arith in
          absurd (omega (arith, zero, least))
    ] in
    let rise = rises r.width some fits in
    let few = none-due r.width (count_leading_zeros 64 r.width) d.least r.count rise least enough in
    record { some = some; rise = rise; few = few; small = omega (arith, few, count) }

pub taken-of : (r subinterval : WideRegisters) (q n : ℕ) → IsBehind r n → q < 2 ^ (63 - n) → (r.code < q → subinterval ≡ record r { width = q }) → (q ≤ r.code → subinterval ≡ record r { code = r.code - q; width = r.width - q }) → (q ≤ r.width) × IsTaken r subinterval q
taken-of r subinterval q n i below low high =
    let from = i.rise.from in
    let fits : q ≤ r.width = omega (arith, from, below) in
    (fits, is-taken r subinterval q fits low high)
