-- Registers whose code value may have left the interval.
use Rattle.std.proofs.Common.{◌≡◌, ap, ℕ, ◌-◌, ◌<◌, ◌≤◌, inl, inr, arith}
use Rattle.std.proofs.lemmas.Bool.{cases_lt}
use Rattle.jk_mqdec.specs.declared.wide.WideRegisters.{WideRegisters}

-- a subinterval is left where the whole is
pub whole-inside : (r subinterval : WideRegisters) (q : ℕ) → q ≤ r.width → (r.code < q → subinterval ≡ record r { width = q }) → (q ≤ r.code → subinterval ≡ record r { code = r.code - q; width = r.width - q }) → subinterval.code < subinterval.width → r.code < r.width
whole-inside r subinterval q fits low high k = elim (cases_lt r.code q) [
  | inl below ↦ omega (arith, below, fits)
  | inr above ↦
      let is = high above in
      let code = ap (λ (x : WideRegisters). x.code) is in
      let width = ap (λ (x : WideRegisters). x.width) is in
      omega (arith, code, width, above, k)
]

pub subinterval-inside : (r subinterval : WideRegisters) (q : ℕ) → (r.code < q → subinterval ≡ record r { width = q }) → (q ≤ r.code → subinterval ≡ record r { code = r.code - q; width = r.width - q }) → r.code < r.width → subinterval.code < subinterval.width
subinterval-inside r subinterval q low high k = elim (cases_lt r.code q) [
  | inl below ↦
      let is = low below in
      let code = ap (λ (x : WideRegisters). x.code) is in
      let width = ap (λ (x : WideRegisters). x.width) is in
      omega (arith, code, width, below)
  | inr above ↦
      let is = high above in
      let code = ap (λ (x : WideRegisters). x.code) is in
      let width = ap (λ (x : WideRegisters). x.width) is in
      omega (arith, code, width, above, k)
]
