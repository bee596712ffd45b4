-- What jobs give, job by job.
use Rattle.std.proofs.Common.{◌≡◌, ℕ, suc, ◌≤◌, List, [], ◌∷◌, length, Result, Ok, sym, subst, inl, inr, arith}
use Rattle.std.proofs.lemmas.Bool.{cases_lt}
use Rattle.std.specs.List.{AllZip}
use Rattle.jk_math.specs.declared.fault.Fault.{Fault}
use Rattle.jk_jobs.specs.Dealing.{AreGiven}

module _ {J D : Type 0} (gives : J → Result D Fault → Type 0) where
  -- job by job
  pub zipped : (jobs : List J) (items : List D) → AreGiven gives jobs (length jobs) items → AllZip (λ j d. gives j (Ok d)) jobs items
  zipped [] [] h = tt
  zipped [] (d ∷ items) h = absurd (let long = h.long in omega (arith, long))
  zipped (j ∷ jobs) [] h = absurd (let long = h.long in omega (arith, long))
  zipped (j ∷ jobs) (d ∷ items) h = (
    h.each 0 d (omega arith) j,
    zipped jobs items (record { long = (let long = h.long in omega (arith, long)); each = λ i e lt k. h.each (suc i) e (omega (arith, lt)) k }),
  )

  -- all but the first
  pub given_rest : (j : J) (jobs : List J) (n : ℕ) (d : D) (items : List D) → AreGiven gives (j ∷ jobs) (suc n) (d ∷ items) → AreGiven gives jobs n items
  given_rest j jobs n d items h = record { long = (let long = h.long in omega (arith, long)); each = λ i e lt k. h.each (suc i) e (omega (arith, lt)) k }

pub mapped : {J D : Type 0} (P Q : J → D → Type 0) (jobs : List J) (items : List D) → ((j : J) (d : D) → P j d → Q j d) → AllZip P jobs items → AllZip Q jobs items
mapped P Q [] [] f h = tt
mapped P Q [] (d ∷ items) f h = h
mapped P Q (j ∷ jobs) [] f h = h
mapped P Q (j ∷ jobs) (d ∷ items) f h = (f j d h.0, mapped P Q jobs items f h.1)

-- What holds of the answer to another number of workers, and where there may be so many, holds.
pub by_workers : {R : Type 0} (P : R → Type 0) (workers : ℕ) (bad r : R) → ((1 ≤ workers → workers ≤ 64 → ⊥) → r ≡ bad) → (1 ≤ workers → workers ≤ 64 → P r) → P bad → P r
by_workers P workers bad r range given none = elim (cases_lt workers 1) [
  | inl few ↦ subst P (sym (range (λ some most. omega (arith, few, some)))) none
  | inr some ↦ elim (cases_lt 64 workers) [
    | inl many ↦ subst P (sym (range (λ one most. omega (arith, many, most)))) none
    | inr most ↦ given some most
  ]
]
