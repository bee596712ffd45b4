-- A subinterval, renormalised: its doublings put off, or made.
use Rattle.std.proofs.Common.{◌≡◌, ◌∙◌, ap, sym, subst, ℕ, ◌+◌, ◌-◌, ◌*◌, ◌^◌, ◌<◌, ◌≤◌, Bool, true, false, cond, eqb, refl, arith}
use Rattle.std.proofs.Math.Pow.{pow_mono}
use Rattle.jk_mqenc.specs.declared.registers.Registers.{Registers}
use Rattle.jk_mqenc.specs.Machine.{Machine}
use Rattle.jk_mqenc.specs.Coding.{renorme, subinterval}
use Rattle.jk_mqenc.specs.Encoded.{EncoderView, HasCoded, with_registers}
use Rattle.jk_mqenc.specs.Deferred.{IsDoubled}
use Rattle.jk_mqenc.proofs.Machine.{unit-is}
use Rattle.jk_mqenc.proofs.Holdings.{IsHeld}
use Rattle.jk_mqenc.proofs.Finishing.{at_of, shifted_by-is}
use Rattle.jk_mqenc.proofs.AtomicSteps.{goes-renorme}
use Rattle.jk_mqenc.proofs.Leaping.{leap-all}
use Rattle.jk_mqenc.proofs.Spelled.{renormalised-wide}
use Rattle.jk_mqenc.proofs.Subintervals.{held-subinterval, subinterval-made}
use Rattle.jk_mqenc.proofs.Encoding.{held-of, wide-of, count-of}

-- fewer doublings than CT
pub doubled-once : (m : Machine) (old new : Registers) → IsHeld (with_registers m old) → IsDoubled old new → with_registers m new ≡ renorme 15 (with_registers m old)
doubled-once m old new held d =
    let p = with_registers m old in
    let k = d.times in
    let count = d.count in
    let same : with_registers m new ≡ at_of (p.code * 2 ^ k) (p.width * 2 ^ k) (p.count - k) p.placed =
    ap (λ x. at_of x new.width new.count m.placed) d.code
    ∙ ap (λ x. at_of (p.code * 2 ^ k) x new.count m.placed) d.width
    ∙ ap (λ x. at_of (p.code * 2 ^ k) (p.width * 2 ^ k) x m.placed) (let e : new.count ≡ p.count - k = omega (arith, count) in e) in
    leap-all p (with_registers m new) k d.before d.fits d.wide held (same ∙ sym (shifted_by-is k p))

-- the subinterval of a decision
pub taken-is : (m : Machine) (old taken : Registers) (q : ℕ) (lower : Bool) → taken.code ≡ old.code + cond lower 0 q → taken.width ≡ cond lower q (old.width - q) → taken.count ≡ old.count → with_registers m taken ≡ subinterval (with_registers m old) q lower
taken-is m old taken q lower code width count =
    let p = with_registers m old in
    ap (λ x. at_of x taken.width taken.count m.placed) code
    ∙ ap (λ x. at_of (p.code + cond lower 0 q) x taken.count m.placed) width
    ∙ ap (λ x. at_of (p.code + cond lower 0 q) (cond lower q (p.width - q)) x m.placed) count
    ∙ subinterval-made p p q (cond lower 0 q) (cond lower q (p.width - q)) lower refl refl refl

pub held-taken : (m : Machine) (old taken : Registers) (q : ℕ) (lower : Bool) → taken.code ≡ old.code + cond lower 0 q → taken.width ≡ cond lower q (old.width - q) → taken.count ≡ old.count → 1 ≤ q → q < old.width → IsHeld (with_registers m old) → IsHeld (with_registers m taken)
held-taken m old taken q lower code width count some below held =
    subst (λ (x : Machine). IsHeld x) (sym (taken-is m old taken q lower code width count)) (held-subinterval (with_registers m old) q lower some below held)

-- whether a renormalisation is due, as a number
pub digit-back : (t : Bool) → eqb (cond t 0 1) 0 ≡ t
digit-back true = refl
digit-back false = refl

-- registers between two decisions
pub record IsReady (m : Machine) : Type 0 where
  pub code : m.code < 2 ^ 28
  pub wide : 2 ^ 15 ≤ m.width
  pub fits : m.width < 2 ^ 16
  pub some : 1 ≤ m.count
  pub few : m.count ≤ 12
  pub room : 8 * (m.code + m.width) ≤ 9 * 2 ^ (27 - m.count)

ready-held : (m : Machine) → IsHeld m → 1 ≤ m.count → 2 ^ 15 ≤ m.width → IsReady m
ready-held m held some wide =
    let i = held.1 in
    let unit = unit-is m.count in
    let small : 2 ^ (27 - m.count) ≤ 2 ^ 26 = pow_mono (let h : 27 - m.count ≤ 26 = omega (arith, some) in h) in
    let room = i.room in
    let fits = i.largest in
    let few = i.count in
    record {
      code = omega (arith, room, unit, small);
      wide = wide;
      fits = fits;
      some = some;
      few = few;
      room = omega (arith, room, unit);
    }

pub ready-renormed : (m n : Machine) → n ≡ renorme 15 m → 1 ≤ m.count → IsHeld m → IsReady n
ready-renormed m n same some held =
    let g = goes-renorme 15 m held.0 some held.1 in
    let positive = held.1.positive in
    let width = held.1.width in
    let wide = renormalised-wide 15 held.0 (omega (arith, positive, width)) in
    let there = g.leads.holds.width in
    subst (λ (x : Machine). IsReady x) (sym same) (ready-held (renorme 15 m) (_, g.leads.holds) g.count (omega (arith, wide, there)))

pub ready-coded : (e : EncoderView) → HasCoded e → e.failed ≡ false → IsReady e.machine
ready-coded e h l = ready-held e.machine (held-of e h l) (count-of e h l) (wide-of e h l)
