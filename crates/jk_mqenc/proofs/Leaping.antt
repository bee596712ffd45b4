-- Several doublings at once.
use Rattle.std.proofs.Common.{◌≡◌, ◌∙◌, ap, sym, subst, refl, ℕ, zero, suc, ◌+◌, ◌-◌, ◌*◌, ◌^◌, ◌<◌, ◌≤◌, inl, inr, Bool, cond, eqb, arith}
use Rattle.std.proofs.Math.Nat.{pow-succ'}
use Rattle.std.proofs.Math.Pow.{pow_mono}
use Rattle.std.proofs.lemmas.Bool.{cases_eq, cases_lt, eq-eqb, ne_eqb, lt-ltb}
use Rattle.std.proofs.lemmas.Nat.{pow-add, mul-le, pow_pos}
use Rattle.jk_model.specs.Decisions.{State, doubled_by}
use Rattle.jk_mqenc.specs.Machine.{Machine, byte_out, HoldsInterval}
use Rattle.jk_mqenc.specs.Coding.{shifted, shifted_by, twice, renorme}
use Rattle.jk_mqenc.proofs.Holdings.{IsHeld, twice-more}
use Rattle.jk_mqenc.proofs.Finishing.{shifted_by-is, code-small}
use Rattle.jk_mqenc.proofs.AtomicSteps.{Goes, twice-is, renorme-suc, below-half, leads-then, leads-shifts, leads-byte_out, byte_out-count, shifts-count}
use Rattle.jk_mqenc.proofs.Renorming.{Comes, comes-first, comes-last}

-- k doublings, where k is at most CT, and BYTEOUT where it is CT
pub leapt : ℕ → Machine → Machine
leapt k m = cond (eqb (m.count - k) 0) (byte_out (shifted_by k m)) (shifted_by k m)

shift-small : (m : Machine) (k : ℕ) → k ≤ m.count → IsHeld m → m.code * 2 ^ k < 4294967296
shift-small m k h i =
    let p = mul-le m.code (2 ^ k) m.code (2 ^ m.count) (omega arith) (pow_mono h) in
    omega (arith, p, code-small m i)

pub held-shifted_by : (m : Machine) (k : ℕ) → k ≤ m.count → m.width * 2 ^ k < 65536 → IsHeld m → IsHeld (shifted_by k m)
held-shifted_by m k h w i = (doubled_by k i.0, (leads-shifts k m i.0 h w i.1).holds)

leapt-is : (k : ℕ) (m : Machine) → leapt k m ≡ cond (eqb (m.count - k) 0) (byte_out (shifted_by k m)) (shifted_by k m)
unfolding leapt
leapt-is k m = refl

pub leapt-last : (k : ℕ) (m : Machine) → m.count - k ≡ 0 → leapt k m ≡ byte_out (shifted_by k m)
leapt-last k m e = leapt-is k m ∙ ap (λ (t : Bool). cond t (byte_out (shifted_by k m)) (shifted_by k m)) (eq-eqb (m.count - k) 0 e)

leapt-more : (k : ℕ) (m : Machine) → (m.count - k ≡ 0 → ⊥) → leapt k m ≡ shifted_by k m
leapt-more k m n = leapt-is k m ∙ ap (λ (t : Bool). cond t (byte_out (shifted_by k m)) (shifted_by k m)) (ne_eqb (m.count - k) 0 n)

-- ---- a leap is that many doublings

leapt-one : (m : Machine) → 1 ≤ m.count → twice m ≡ leapt 1 m
leapt-one m h =
    elim (cases_eq m.count 1) [
      | inl e ↦ twice-is m ∙ ap (λ (t : Bool). cond t (byte_out (shifted m)) (shifted m)) (eq-eqb m.count 1 e) ∙ sym (leapt-last 1 m (omega arith))
      | inr n ↦ twice-more m n ∙ sym (leapt-more 1 m (λ z. n (omega arith)))
    ]

leapt-next : (k : ℕ) (m : Machine) → leapt k (shifted m) ≡ leapt (suc k) m
leapt-next k m =
    let e : m.count - 1 - k ≡ m.count - suc k = omega arith in
    leapt-is k (shifted m) ∙ ap (λ x. cond (eqb x 0) (byte_out (shifted_by k (shifted m))) (shifted_by k (shifted m))) e ∙ sym (leapt-is (suc k) m)

power-more : (w k : ℕ) → w * 2 ^ suc k ≡ 2 * w * 2 ^ k
power-more w k = ap (λ x. w * x) (pow-succ' 2 k) ∙ grind arith

renorme-leapt : (k l n : ℕ) (m : Machine) → n ≡ suc k + l → suc k ≤ m.count → m.width * 2 ^ suc k < 65536 → renorme n m ≡ renorme l (leapt (suc k) m)
renorme-leapt k l zero m e h w = absurd (omega arith)
renorme-leapt zero l (suc n) m e h w =
    let same : n ≡ l = omega arith in
    let small : m.width < 32768 = below-half m.width (2 ^ 0) (pow_pos 0) (omega (arith, power-more m.width 0)) in
    renorme-suc n m ∙ ap (λ (t : Bool). cond t (renorme n (twice m)) m) (lt-ltb m.width 32768 small) ∙ ap (λ i. renorme i (twice m)) same ∙ ap (λ (x : Machine). renorme l x) (leapt-one m h)
renorme-leapt (suc k) l (suc n) m e h w =
    let p = power-more m.width (suc k) in
    let small : m.width < 32768 = below-half m.width (2 ^ suc k) (pow_pos (suc k)) (omega (arith, p)) in
    let many : m.count ≡ 1 → ⊥ = λ z. omega (arith, z, h) in
    let rest = renorme-leapt k l n (shifted m) (omega arith) (omega arith) (omega (arith, p)) in
    renorme-suc n m ∙ ap (λ (t : Bool). cond t (renorme n (twice m)) m) (lt-ltb m.width 32768 small) ∙ ap (λ (x : Machine). renorme n x) (twice-more m many) ∙ rest ∙ ap (λ (x : Machine). renorme l x) (leapt-next (suc k) m)

goes-leapt : (k : ℕ) (m : Machine) (s : State) → k ≤ m.count → m.width * 2 ^ k < 65536 → HoldsInterval m s → Goes m s (leapt k m) (doubled_by k s)
goes-leapt k m s h w i =
    let first = leads-shifts k m s h w i in
    let n = shifted_by k m in
    let u = doubled_by k s in
    elim (cases_eq (m.count - k) 0) [
      | inl e ↦
          let z : n.count ≡ 0 = omega (arith, shifts-count k m) in
          subst (λ (o : Machine). Goes m s o u) (sym (leapt-last k m e)) (record {
            leads = leads-then m n (byte_out n) s u u first (leads-byte_out n u z first.holds);
            count = omega (arith, byte_out-count n u z first.holds);
          })
      | inr o ↦
          let some : 1 ≤ n.count = omega (arith, shifts-count k m, o) in
          subst (λ (x : Machine). Goes m s x u) (sym (leapt-more k m o)) (record { leads = first; count = some })
    ]

leapt-width : (k : ℕ) (m : Machine) (s : State) → k ≤ m.count → m.width * 2 ^ k < 65536 → HoldsInterval m s → (leapt k m).width ≡ m.width * 2 ^ k
leapt-width k m s h w i =
    let g = goes-leapt k m s h w i in
    let f = leads-shifts k m s h w i in
    let a : (shifted_by k m).width ≡ m.width * 2 ^ k = ap (λ (x : Machine). x.width) (shifted_by-is k m) in
    omega (arith, g.leads.holds.width, f.holds.width, a)

-- ---- the loop

-- as many doublings are left
enough-left : (w k l : ℕ) → w * 2 ^ suc k < 65536 → 32768 ≤ w * 2 ^ l → suc k ≤ l
enough-left w k l h e =
    elim (cases_lt k l) [
      | inl m ↦ omega arith
      | inr m ↦
          let p = mul-le w (2 ^ l) w (2 ^ k) (omega arith) (pow_mono m) in
          let d : w * 2 ^ suc k ≡ 2 * (w * 2 ^ k) = ap (λ x. w * x) (pow-succ' 2 k) ∙ grind arith in
          absurd (omega (arith, p, d))
    ]

comes-leap-suc : (now next first : Machine) (k : ℕ) → suc k ≤ now.count → now.width * 2 ^ suc k < 65536 → next ≡ leapt (suc k) now → Comes now first → Comes next first
comes-leap-suc now next first k h w e c =
    let g = goes-leapt (suc k) now c.at h w c.holds in
    let l = c.left - suc k in
    let all = enough-left now.width k c.left w c.enough in
    let split : c.left ≡ suc k + l = omega (arith, all) in
    let width = leapt-width (suc k) now c.at h w c.holds in
    let power : now.width * 2 ^ suc k * 2 ^ l ≡ now.width * 2 ^ c.left = sym (ap (λ x. now.width * x) (ap (λ i. 2 ^ i) split ∙ pow-add 2 (suc k) l) ∙ grind arith) in
    subst (λ (n : Machine). Comes n first) (sym e) (record {
      left = l;
      same = sym (renorme-leapt k l c.left now split h w) ∙ c.same;
      enough = subst (λ x. 32768 ≤ x * 2 ^ l) (sym width) (subst (λ x. 32768 ≤ x) (sym power) c.enough);
      count = g.count;
      at = doubled_by (suc k) c.at;
      holds = g.leads.holds;
    })

pub comes-leap : (now next first : Machine) (k : ℕ) → 1 ≤ k → k ≤ now.count → now.width * 2 ^ k < 65536 → next ≡ leapt k now → Comes now first → Comes next first
comes-leap now next first zero o h w e c = absurd (omega arith)
comes-leap now next first (suc k) o h w e c = comes-leap-suc now next first k h w e c

pub fewer-shift : (w k n : ℕ) → k ≤ n → w * 2 ^ n < 65536 → w * 2 ^ k < 65536
fewer-shift w k n h l = let p = mul-le w (2 ^ k) w (2 ^ n) (omega arith) (pow_mono h) in omega (arith, p, l)

-- All doublings at once, where no byte goes out.
pub leap-all : (now next : Machine) (k : ℕ) → k < now.count → now.width * 2 ^ k < 65536 → 32768 ≤ now.width * 2 ^ k → IsHeld now → next ≡ shifted_by k now → next ≡ renorme 15 now
leap-all now next zero h w l i e = e ∙ comes-last now now (omega (arith, l)) (comes-first now (omega (arith, h)) i)
leap-all now next (suc k) h w l i e =
    let same : next ≡ leapt (suc k) now = e ∙ sym (leapt-more (suc k) now (λ z. omega (arith, h, z))) in
    let width : next.width ≡ now.width * 2 ^ suc k = ap (λ (m : Machine). m.width) (e ∙ shifted_by-is (suc k) now) in
    comes-last next now (omega (arith, width, l)) (comes-leap now next now (suc k) (omega arith) (omega (arith, h)) w same (comes-first now (omega (arith, h)) i))

-- The last doublings, where no byte goes out.
pub leap-rest : (now next first : Machine) (k : ℕ) → k < now.count → now.width * 2 ^ k < 65536 → 32768 ≤ now.width * 2 ^ k → next ≡ shifted_by k now → Comes now first → next ≡ renorme 15 first
leap-rest now next first zero h w l e c = e ∙ comes-last now first (omega (arith, l)) c
leap-rest now next first (suc k) h w l e c =
    let same : next ≡ leapt (suc k) now = e ∙ sym (leapt-more (suc k) now (λ z. omega (arith, h, z))) in
    let width : next.width ≡ now.width * 2 ^ suc k = ap (λ (m : Machine). m.width) (e ∙ shifted_by-is (suc k) now) in
    comes-last next first (omega (arith, width, l)) (comes-leap now next first (suc k) (omega arith) (omega (arith, h)) w same c)
