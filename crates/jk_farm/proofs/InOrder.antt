-- What is put together, in the order of jobs.
use Rattle.std.proofs.Common.{◌≡◌, ◌⊎◌, ℕ, zero, suc, ◌+◌, ◌<◌, ◌≤◌, List, [], ◌∷◌, length, map, get_or, All, Result, Ok, Err, IfOk, IfErr, MatchResult, ℤ, refl, sym, ap, subst, ◌∙◌, inl, inr, arith}
use Rattle.std.specs.List.{AllZip}
use Rattle.std.specs.Global.{Vec}
use Rattle.jk_math.specs.Answer.{◌>>=◌, Refuses, Answers}
use Rattle.jk_math.specs.Memory.{IsMemory}
use Rattle.jk_math.specs.declared.fault.Fault.{Fault}
use Rattle.jk_math.specs.declared.fault.Fault.TheVariants.{Memory}
use Rattle.jk_block.specs.declared.decoding.Block.{Block}
use Rattle.jk_block.specs.declared.encoding.CodedBlock.{CodedBlock}
use Rattle.jk_farm.specs.declared.segments.Segment.{Segment}
use Rattle.jk_jobs.specs.Dealing.{AreGiven, IsFirstFault}
use Rattle.jk_jobs.proofs.Laws.{zipped, mapped, given_rest}
use Rattle.jk_farm.specs.Blocks.{segment_at, segments_at, IsRead, IsBlockOf, IsWritten, IsCodedAs}

pub segments_found : (jobs : List Segment) (items : List Block) → AllZip (λ j d. IsRead j (Ok d)) jobs items → segments_at jobs ≡ Ok (map (λ b. b.values.items) items)
unfolding segments_at
segments_found [] [] h = refl
segments_found [] (d ∷ items) h = absurd h
segments_found (j ∷ jobs) [] h = absurd h
segments_found (j ∷ jobs) (d ∷ items) h =
    ap (λ (r : Result (List ℤ) Fault). r >>= λ values. segments_at jobs >>= λ more. Ok (values ∷ more)) h.0.exact
    ∙ ap (λ (r : Result (List (List ℤ)) Fault). r >>= λ more. Ok (d.values.items ∷ more)) (segments_found jobs items h.1)

-- a refusal of one due is a refusal of another
refuses_on : {A B : Type 0} (e : Fault) (due : Result A Fault) (again : Result B Fault) → Refuses e due → (due ≡ Err e → again ≡ Err e) → Refuses e again
refuses_on (Memory r) due again h on = tt
refuses_on e due again h on = on h

memory_refuses : {A : Type 0} (e : Fault) (due : Result A Fault) → IsMemory e → Refuses e due
memory_refuses (Memory r) due h = tt
memory_refuses e due h = absurd h

-- the fault of job number n
failed_at : (jobs : List Segment) (n : ℕ) (before : List Block) (e : Fault) → n < length jobs → ((j : Segment) → IsRead (get_or jobs n j) (Err e)) → AreGiven IsRead jobs n before → Refuses e (segments_at jobs)
unfolding segments_at
failed_at [] n before e lt fails given = absurd (omega (arith, lt))
failed_at (j ∷ jobs) zero before e lt fails given =
    refuses_on e (segment_at j) (segments_at (j ∷ jobs)) (fails j).exact (λ h. ap (λ (r : Result (List ℤ) Fault). r >>= λ values. segments_at jobs >>= λ more. Ok (values ∷ more)) h)
failed_at (j ∷ jobs) (suc n) [] e lt fails given = absurd (let long = given.long in omega (arith, long))
failed_at (j ∷ jobs) (suc n) (d ∷ before) e lt fails given =
    refuses_on e (segments_at jobs) (segments_at (j ∷ jobs)) (failed_at jobs n before e (omega (arith, lt)) fails (given_rest IsRead j jobs n d before given))
    (λ h. ap (λ (r : Result (List ℤ) Fault). r >>= λ values. segments_at jobs >>= λ more. Ok (values ∷ more)) (given.each 0 d (omega arith) j).exact
    ∙ ap (λ (r : Result (List (List ℤ)) Fault). r >>= λ more. Ok (d.values.items ∷ more)) h)

pub segments_answer : (jobs : List Segment) (r : Result (Vec Block) Fault) → MatchResult r (λ v. AreGiven IsRead jobs (length jobs) v.items) (λ e. IsMemory e ⊎ IsFirstFault IsRead jobs e)
    → Answers (λ v. map (λ b. b.values.items) v.items) r (segments_at jobs)
segments_answer jobs (Ok v) h = segments_found jobs v.items (zipped IsRead jobs v.items h)
segments_answer jobs (Err e) h = elim h [
  | inl memory ↦ memory_refuses e (segments_at jobs) memory
  | inr first ↦ failed_at jobs first.job first.before e first.is_job first.fails first.given
]

pub segments_sized : (jobs : List Segment) (r : Result (Vec Block) Fault) → MatchResult r (λ v. AreGiven IsRead jobs (length jobs) v.items) (λ e. IsMemory e ⊎ IsFirstFault IsRead jobs e)
    → IfOk r (λ v. AllZip IsBlockOf jobs v.items)
segments_sized jobs (Ok v) h = mapped (λ j d. IsRead j (Ok d)) IsBlockOf jobs v.items (λ j d is. is.sized) (zipped IsRead jobs v.items h)
segments_sized jobs (Err e) h = tt

-- ---- blocks

pub blocks_answer : (jobs : List Block) (r : Result (Vec CodedBlock) Fault) → MatchResult r (λ v. AreGiven IsWritten jobs (length jobs) v.items) (λ e. IsMemory e ⊎ IsFirstFault IsWritten jobs e)
    → IfOk r (λ v. AllZip IsCodedAs jobs v.items)
blocks_answer jobs (Ok v) h = mapped (λ j d. IsWritten j (Ok d)) IsCodedAs jobs v.items (λ j d is. is.coded) (zipped IsWritten jobs v.items h)
blocks_answer jobs (Err e) h = tt

-- writing is refused memory alone
some_job : (jobs : List Block) (n : ℕ) → n < length jobs → Block
some_job [] n lt = absurd (omega (arith, lt))
some_job (b ∷ jobs) n lt = b

pub blocks_memory : (jobs : List Block) (r : Result (Vec CodedBlock) Fault) → MatchResult r (λ v. AreGiven IsWritten jobs (length jobs) v.items) (λ e. IsMemory e ⊎ IsFirstFault IsWritten jobs e)
    → IfErr r IsMemory
blocks_memory jobs (Ok v) h = tt
blocks_memory jobs (Err e) h = elim h [
  | inl memory ↦ memory
  | inr first ↦ (first.fails (some_job jobs first.job first.is_job)).memory
]
