-- A renormalisation that bytes go out of, with C and CT apart from the bytes.
use Rattle.std.proofs.Common.{◌≡◌, ◌∙◌, ap, sym, ℕ, ◌-◌, ◌*◌, ◌^◌, ◌<◌, ◌≤◌, [], arith}
use Rattle.jk_mqenc.specs.declared.registers.Registers.{Registers}
use Rattle.jk_mqenc.specs.Machine.{Machine, byte_out, placed_after}
use Rattle.jk_mqenc.specs.Coding.{renorme, shifted_by}
use Rattle.jk_mqenc.specs.Encoded.{with_registers}
use Rattle.jk_mqenc.proofs.Deferring.{times-power}
use Rattle.jk_mqenc.proofs.Holdings.{IsHeld, held-room, held-first, byte_out-is}
use Rattle.jk_mqenc.proofs.Finishing.{at_of, shifted_by-is}
use Rattle.jk_mqenc.proofs.AtomicSteps.{shifts-count}
use Rattle.jk_mqenc.proofs.Renorming.{Comes}
use Rattle.jk_mqenc.proofs.Leaping.{leapt, leapt-last, held-shifted_by, comes-leap, fewer-shift, leap-rest}
use Rattle.jk_mqenc.proofs.Settling.{IsReady, ready-renormed}

-- So many doublings are due, and they bring the width to that of the subinterval after all of them.
pub record Passing (old : Machine) (taken : Registers) (new : Machine) (code count due : ℕ) : Type 0 where
  pub width : ℕ
  pub times : ℕ
  pub comes : Comes (at_of code width count new.placed) (with_registers old taken)
  pub whole : width * 2 ^ due ≡ taken.width * 2 ^ times
  pub fits : taken.width * 2 ^ times < 2 ^ 16
  pub wide : 2 ^ 15 ≤ taken.width * 2 ^ times

-- what BYTEOUT asks of C
pub record CanPut (m : Machine) (code : ℕ) : Type 0 where
  pub room : code < 150994944
  pub first : m.placed ≡ [] → code < 134217728

pub can-put : (m : Machine) → m.width * 2 ^ m.count < 65536 → IsHeld m → CanPut m (m.code * 2 ^ m.count)
can-put m fits held =
    let k = m.count in
    let n = shifted_by k m in
    let z : n.count ≡ 0 = omega (arith, shifts-count k m) in
    let there = held-shifted_by m k (omega arith) fits held in
    let code = ap (λ (x : Machine). x.code) (shifted_by-is k m) in
    let placed = ap (λ (x : Machine). x.placed) (shifted_by-is k m) in
    record {
      room = let room = held-room n z there in omega (arith, room, code);
      first = λ e. let room = held-first n z there (placed ∙ e) in omega (arith, room, code);
    }

-- a byte goes out
comes-put : (m new first : Machine) (code count : ℕ) → Comes m first → m.width * 2 ^ m.count < 65536 → ((w : ℕ) → placed_after m.placed (m.code * 2 ^ m.count) w ≡ at_of code w count new.placed) → Comes (at_of code (m.width * 2 ^ m.count) count new.placed) first
comes-put m new first code count comes fits placed =
    let k = m.count in
    let there = at_of code (m.width * 2 ^ k) count new.placed in
    let same : there ≡ leapt k m =
    sym (placed (m.width * 2 ^ k)) ∙ sym (byte_out-is (at_of (m.code * 2 ^ k) (m.width * 2 ^ k) (m.count - k) m.placed)) ∙ sym (ap (λ (x : Machine). byte_out x) (shifted_by-is k m)) ∙ sym (leapt-last k m (omega arith)) in
    comes-leap m there first k comes.count (omega arith) fits same comes

-- and another one, while as many doublings are due
pub passes : (old : Machine) (taken : Registers) (new m : Machine) (code count due times : ℕ) → Comes m (with_registers old taken) → m.count ≤ due → m.width * 2 ^ due ≡ taken.width * 2 ^ times → taken.width * 2 ^ times < 2 ^ 16 → 2 ^ 15 ≤ taken.width * 2 ^ times
    → ((w : ℕ) → placed_after m.placed (m.code * 2 ^ m.count) w ≡ at_of code w count new.placed) → Passing old taken new code count (due - m.count)
passes old taken new m code count due times comes many whole fits wide placed =
    let k = m.count in
    let few = fewer-shift m.width k due many (omega (arith, whole, fits)) in
    record {
      width = m.width * 2 ^ k;
      times = times;
      comes = comes-put m new (with_registers old taken) code count comes few placed;
      whole = times-power m.width k (due - k) due (omega (arith, many)) ∙ whole;
      fits = fits;
      wide = wide;
    }

pub can-pass : (old : Machine) (taken : Registers) (new : Machine) (code count due : ℕ) (p : Passing old taken new code count due) → count ≤ due → CanPut (at_of code p.width count new.placed) (code * 2 ^ count)
can-pass old taken new code count due p many =
    let whole = p.whole in
    let fits = p.fits in
    can-put (at_of code p.width count new.placed) (fewer-shift p.width count due many (omega (arith, whole, fits))) (p.comes.at, p.comes.holds)

-- fewer doublings than CT are left
pub passes-last : (old : Machine) (taken : Registers) (new : Machine) (code count due : ℕ) (p : Passing old taken new code count due) → due < count → with_registers new (record { code = code * 2 ^ due; width = taken.width * 2 ^ p.times; count = count - due }) ≡ renorme 15 (with_registers old taken)
passes-last old taken new code count due p less =
    let m = at_of code p.width count new.placed in
    let there = at_of (code * 2 ^ due) (taken.width * 2 ^ p.times) (count - due) new.placed in
    let whole = p.whole in
    let fits = p.fits in
    let wide = p.wide in
    let same : there ≡ shifted_by due m = ap (λ x. at_of (code * 2 ^ due) x (count - due) new.placed) (sym whole) ∙ sym (shifted_by-is due m) in
    leap-rest m there (with_registers old taken) due less (omega (arith, whole, fits)) (omega (arith, whole, wide)) same p.comes

pub passes-ready : (old : Machine) (taken : Registers) (new : Machine) (code count due : ℕ) (p : Passing old taken new code count due) → due < count → 1 ≤ taken.count → IsHeld (with_registers old taken) → IsReady (with_registers new (record { code = code * 2 ^ due; width = taken.width * 2 ^ p.times; count = count - due }))
passes-ready old taken new code count due p less some held =
    ready-renormed (with_registers old taken) (with_registers new (record { code = code * 2 ^ due; width = taken.width * 2 ^ p.times; count = count - due })) (passes-last old taken new code count due p less) some held
