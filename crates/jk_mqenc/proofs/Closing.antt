-- The code value of the finished bytes lies within each interval that is remembered.
use Rattle.std.proofs.Common.{◌≡◌, ◌∙◌, ap, sym, subst, ℕ, zero, suc, ◌+◌, ◌-◌, ◌*◌, ◌^◌, ◌<◌, ◌≤◌, inl, inr, List, [], ◌∷◌, arith}
use Rattle.std.proofs.Math.Nat.{pow-succ'}
use Rattle.std.proofs.lemmas.Bool.{cases_lt}
use Rattle.std.proofs.lemmas.Nat.{pow-add, pow_pos, mul-le, pow_below}
use Rattle.jk_model.specs.Code.{code_value}
use Rattle.jk_model.specs.Decisions.{State}
use Rattle.jk_model.proofs.Laws.{code_value-grows}
use Rattle.jk_model.specs.Placed.{gap, placed_number, end, Clean, onto}
use Rattle.jk_mqenc.specs.Machine.{Machine, unit}
use Rattle.jk_mqenc.specs.Since.{Since}
use Rattle.jk_mqenc.proofs.Machine.{unit-is}
use Rattle.jk_mqenc.proofs.Since.{gap-le}
use Rattle.jk_mqenc.proofs.Flush.{Closes, gap-ge}
use Rattle.jk_model.proofs.Laws.{value-tail}

-- ---- arithmetic

cancel-lt : (a b w : ℕ) → a * w < b * w → a < b
cancel-lt a b w h =
    elim (cases_lt a b) [
      | inl l ↦ l
      | inr l ↦ let k = mul-le b w a w l (omega arith) in absurd (omega arith)
    ]

cancel-le : (a b w : ℕ) → 0 < w → a * w ≤ b * w → a ≤ b
cancel-le a b w p h =
    elim (cases_lt b a) [
      | inl l ↦
          let k = mul-le (suc b) w a w (omega arith) (omega arith) in
          let e : suc b * w ≡ b * w + w = grind arith in
          absurd (omega arith)
      | inr l ↦ l
    ]

one-more : (a w : ℕ) → (a + 1) * w ≡ a * w + w
one-more a w = grind arith

-- the next multiple
next-multiple : (p q w x : ℕ) → x ≡ q * w → p * w < x → (p + 1) * w ≤ x
next-multiple p q w x e h =
    let l = cancel-lt p q w (omega arith) in
    omega (arith, mul-le (p + 1) w q w (omega arith) (omega arith))

swap-last : (a b c : ℕ) → a * b * c ≡ a * c * b
swap-last a b c = grind arith

regroup : (l a b : ℕ) → l * (a * b) ≡ l * a * b
regroup l a b = grind arith

-- ---- the code value grows

pub grows-by : (b : List ℕ) (n k : ℕ) → code_value b n * 2 ^ k ≤ code_value b (n + k)
grows-by b n zero = let e : n + 0 ≡ n = omega arith in omega (arith, ap (λ i. code_value b i) e)
grows-by b n (suc k) =
    let e : n + suc k ≡ n + k + 1 = omega arith in
    let p : code_value b n * 2 ^ suc k ≡ 2 * (code_value b n * 2 ^ k) = ap (λ x. code_value b n * x) (pow-succ' 2 k) ∙ grind arith in
    omega (arith, p, grows-by b n k, code_value-grows b (n + k), ap (λ i. code_value b i) e)

-- ---- above

-- (P + 1) units aren't above the top end of the interval
ceiling : (least times more p c g : ℕ) → least + 1 ≡ times * 32768 → 8 ≤ more → 7 ≤ g → least * 2 ^ more ≡ c + p * unit g → (p + 1) * unit g ≤ (least + 1) * 2 ^ more
ceiling least times more p c g ones m h low =
    let j = 15 + more - (27 - g) in
    let e : 15 + more ≡ j + (27 - g) = omega arith in
    let power : 32768 * 2 ^ more ≡ 2 ^ j * unit g = sym (pow-add 2 15 more) ∙ ap (λ x. 2 ^ x) e ∙ pow-add 2 j (27 - g) ∙ ap (λ x. 2 ^ j * x) (sym (unit-is g)) in
    let whole : (least + 1) * 2 ^ more ≡ times * 2 ^ j * unit g = ap (λ x. x * 2 ^ more) ones ∙ sym (regroup times 32768 (2 ^ more)) ∙ ap (λ x. times * x) power ∙ regroup times (2 ^ j) (unit g) in
    next-multiple p (times * 2 ^ j) (unit g) ((least + 1) * 2 ^ more) whole (omega (arith, one-more least (2 ^ more), pow_pos more))

-- the same in the units of the code value
ceiling-scaled : (least more p t g : ℕ) → g ≤ 8 → t + more + g ≡ 34 → (p + 1) * unit g ≤ (least + 1) * 2 ^ more → (p + 1) * 2 ^ t ≤ 128 * (least + 1)
ceiling-scaled least more p t g h e l =
    let k : t + more ≡ 7 + (27 - g) = omega arith in
    let power : 2 ^ t * 2 ^ more ≡ 128 * unit g = sym (pow-add 2 t more) ∙ ap (λ x. 2 ^ x) k ∙ pow-add 2 7 (27 - g) ∙ ap (λ x. 128 * x) (sym (unit-is g)) in
    let left : (p + 1) * 2 ^ t * 2 ^ more ≡ 128 * ((p + 1) * unit g) = sym (regroup (p + 1) (2 ^ t) (2 ^ more)) ∙ ap (λ x. (p + 1) * x) power ∙ grind arith in
    let right : 128 * (least + 1) * 2 ^ more ≡ 128 * ((least + 1) * 2 ^ more) = sym (regroup 128 (least + 1) (2 ^ more)) in
    cancel-le ((p + 1) * 2 ^ t) (128 * (least + 1)) (2 ^ more) (pow_pos more) (omega (arith, left, right, l))

abbrev pub bytes_of : Machine → List ℕ
bytes_of m = onto m.placed []

pub top-above : (m : Machine) (s : State) (n : Machine) → Closes m s n → code_value (bytes_of n) s.doublings < 128 * (s.low + s.width)
top-above m s n c =
    let x = c.pushed.last in
    let xs = c.pushed.before in
    let g = gap xs in
    let clean = subst (λ (b : List ℕ). Clean b) c.pushed.placed c.leads.holds.clean in
    let low = subst (λ (b : List ℕ). c.u.low ≡ n.code + placed_number b * unit n.count) c.pushed.placed c.leads.holds.low in
    let low_g = subst (λ i. c.u.low ≡ n.code + placed_number (x ∷ xs) * unit i) c.pushed.count low in
    let t = 34 - c.more - g in
    let e : t + end (x ∷ xs) ≡ s.doublings + 22 = omega (arith, c.pushed.clock, c.doublings, c.more_most, gap-le xs) in
    let tail = value-tail xs x s.doublings t clean (omega (arith, c.pushed.clock, c.doublings, c.more_most)) e in
    let top = ceiling c.least c.times c.more (placed_number (x ∷ xs)) n.code g c.ones c.more_least (gap-ge xs) (sym c.low ∙ low_g) in
    let scaled = ceiling-scaled c.least c.more (placed_number (x ∷ xs)) t g (gap-le xs) (omega (arith, c.more_most, gap-le xs)) top in
    let value : code_value (bytes_of n) s.doublings ≡ code_value (onto (x ∷ xs) []) s.doublings = ap (λ (b : List ℕ). code_value (onto b []) s.doublings) c.pushed.placed in
    omega (arith, value, tail.2, pow_pos tail.0, scaled, c.within)

pub closed-above : (t : State) (m : Machine) (s : State) (n : Machine) → Closes m s n → Since t m s → code_value (bytes_of n) t.doublings < 128 * (t.low + t.width)
closed-above t m s n c since =
    let w = code_value (bytes_of n) t.doublings in
    let grown = grows-by (bytes_of n) t.doublings since.more in
    let there : code_value (bytes_of n) s.doublings ≡ code_value (bytes_of n) (t.doublings + since.more) = ap (λ i. code_value (bytes_of n) i) since.clock in
    let e : 128 * (t.low + t.width) * 2 ^ since.more ≡ 128 * ((t.low + t.width) * 2 ^ since.more) = sym (regroup 128 (t.low + t.width) (2 ^ since.more)) in
    cancel-lt w (128 * (t.low + t.width)) (2 ^ since.more) (omega (arith, grown, there, top-above m s n c, since.high, e))

-- ---- below

power-of : (r : ℕ) → r < 8 → 2 ^ r ≤ 128
power-of r h =
    let k : r + (7 - r) ≡ 7 = omega arith in
    let e : 2 ^ r * 2 ^ (7 - r) ≡ 128 = sym (pow-add 2 r (7 - r)) ∙ ap (λ x. 2 ^ x) k in
    omega (arith, e, mul-le (2 ^ r) 1 (2 ^ r) (2 ^ (7 - r)) (omega arith) (pow_pos (7 - r)))

below-tail : (l more p c g t r v : ℕ) → c < unit g → l * 2 ^ more ≤ c + p * unit g → g ≤ 8 → more + g + t ≡ 34 → 8 ≤ t → r < 8 → v + 2 ^ r ≡ (p + 1) * 2 ^ t → 128 * l ≤ v
below-tail l more p c g t r v code low h e k small value =
    let j = t - 7 in
    let split : 27 - g ≡ j + more = omega arith in
    let power : unit g ≡ 2 ^ j * 2 ^ more = unit-is g ∙ ap (λ x. 2 ^ x) split ∙ pow-add 2 j more in
    let whole : (p + 1) * unit g ≡ (p + 1) * 2 ^ j * 2 ^ more = ap (λ x. (p + 1) * x) power ∙ regroup (p + 1) (2 ^ j) (2 ^ more) in
    let less = cancel-lt l ((p + 1) * 2 ^ j) (2 ^ more) (omega (arith, whole, one-more p (unit g))) in
    let te : t ≡ j + 7 = omega arith in
    let scaled : (p + 1) * 2 ^ t ≡ (p + 1) * 2 ^ j * 128 = ap (λ x. (p + 1) * 2 ^ x) te ∙ ap (λ x. (p + 1) * x) (pow-add 2 j 7) ∙ regroup (p + 1) (2 ^ j) 128 in
    omega (arith, less, scaled, value, pow_below r 8 small, power-of r small)

pub closed-below : (t : State) (m : Machine) (s : State) (n : Machine) → Closes m s n → Since t m s → 128 * t.low ≤ code_value (bytes_of n) t.doublings
closed-below t m s n c since =
    let after = c.leads.since t since in
    let x = c.pushed.last in
    let xs = c.pushed.before in
    let g = gap xs in
    let holds = c.leads.holds in
    let clean = subst (λ (b : List ℕ). Clean b) c.pushed.placed holds.clean in
    let ends : end n.placed ≡ end (x ∷ xs) = ap (λ (b : List ℕ). end b) c.pushed.placed in
    let low = subst (λ (b : List ℕ). c.u.low ≡ n.code + placed_number b * unit n.count) c.pushed.placed holds.low in
    let low_g = subst (λ i. c.u.low ≡ n.code + placed_number (x ∷ xs) * unit i) c.pushed.count low in
    let code_g = subst (λ i. n.code < unit i) c.pushed.count c.pushed.code in
    let value : code_value (bytes_of n) t.doublings ≡ code_value (onto (x ∷ xs) []) t.doublings = ap (λ (b : List ℕ). code_value (onto b []) t.doublings) c.pushed.placed in
    elim (cases_lt (t.doublings + 14) (end (x ∷ xs))) [
      | inl l ↦ after.kept (omega arith)
      | inr l ↦
          let i = t.doublings + 22 - end (x ∷ xs) in
          let e : i + end (x ∷ xs) ≡ t.doublings + 22 = omega arith in
          let tail = value-tail xs x t.doublings i clean (omega arith) e in
          let below = below-tail t.low after.more (placed_number (x ∷ xs)) n.code g i tail.0 (code_value (onto (x ∷ xs) []) t.doublings) code_g (omega (arith, after.low, low_g)) (gap-le xs) (omega (arith, after.clock, c.pushed.clock)) (omega arith) tail.1 tail.2 in
          omega (arith, below, value)
    ]
