-- The laws of texts that crates above cite: bits come back from their text, the bits that were read pack it, it lies within
-- its bytes, and what is written is one.
use Rattle.std.proofs.Common.{◌≡◌, ℕ, zero, suc, ◌-◌, ◌≤◌, Bool, true, false, cond, List, [], ◌∷◌, length, Result, Ok, Err, refl, sym, ◌∙◌, arith}
use Rattle.std.specs.Prelude.{◌==◌}
use Rattle.jk_math.specs.Answer.{◌>>=◌}
use Rattle.jk_math.specs.declared.fault.Fault.{Fault}
use Rattle.jk_bits.specs.Stuffing.{room, first_byte, size}
use Rattle.jk_bits.specs.Reading.{Bits, finish_at, fault_ahead}
pub use Rattle.jk_bits.proofs.Spreading.{length-binary}
pub use Rattle.jk_bits.proofs.Texts.{ReadsBack, reads_back}
pub use Rattle.jk_bits.proofs.Finishing.{found_at}
pub use Rattle.jk_bits.proofs.Stuffed.{stuffed_stuffs, stuffs_packs}

closing_within : (after : Bool) (bytes : List ℕ) (m : ℕ) → size after 0 bytes ≡ Ok m → m ≤ length bytes
unfolding size first_byte
closing_within false bytes m h = let e : m ≡ 0 = cc in omega (arith, e)
closing_within true [] m h = absurd (cc)
closing_within true (b ∷ bytes) m h = let e = bind_one (first_byte true (b ∷ bytes)) m h in omega (arith, e)
  where
    bind_one : (r : Result ℕ Fault) (m : ℕ) → (r >>= (λ _. Ok 1)) ≡ Ok m → m ≡ 1
    bind_one (Ok x) m h = cc
    bind_one (Err e) m h = absurd (cc)

size-more : (after : Bool) (n b : ℕ) (bytes : List ℕ) → size after (suc n) (b ∷ bytes) ≡ (first_byte after (b ∷ bytes) >>= (λ _. size (b == 255) (suc n - room after) bytes >>= (λ m. Ok (suc m))))
unfolding size
size-more after n b bytes = refl

no_size : (after : Bool) (n m : ℕ) → size after (suc n) [] ≡ Ok m → ⊥
unfolding size
no_size after n m h = cc

rest_within : (r : Result ℕ Fault) (m n : ℕ) → ((k : ℕ) → r ≡ Ok k → k ≤ n) → (r >>= (λ k. Ok (suc k))) ≡ Ok m → m ≤ suc n
rest_within (Ok k) m n on e = let fits = on k refl in let is : suc k ≡ m = cc in omega (arith, fits, is)
rest_within (Err d) m n on e = absurd (cc)

first_within : (first r : Result ℕ Fault) (m n : ℕ) → ((k : ℕ) → r ≡ Ok k → k ≤ n) → (first >>= (λ _. r >>= (λ k. Ok (suc k)))) ≡ Ok m → m ≤ suc n
first_within (Ok x) r m n on e = rest_within r m n on e
first_within (Err d) r m n on e = absurd (cc)

size_within : (after : Bool) (n : ℕ) (bytes : List ℕ) (m : ℕ) → size after n bytes ≡ Ok m → m ≤ length bytes
size_within after zero bytes m h = closing_within after bytes m h
size_within after (suc n) [] m h = absurd (no_size after n m h)
size_within after (suc n) (b ∷ bytes) m h =
    first_within (first_byte after (b ∷ bytes)) (size (b == 255) (suc n - room after) bytes) m (length bytes)
    (λ k. size_within (b == 255) (suc n - room after) bytes k) (sym (size-more after n b bytes) ∙ h)

-- A text lies within its bytes.
pub finish_within : (r : Bits) (m : ℕ) → finish_at r ≡ Ok m → m ≤ length r.bytes
unfolding finish_at
finish_within r m h = by_failed r.failed h
  where
    by_failed : (f : Bool) → cond f (Err (fault_ahead r)) (size false r.read r.bytes) ≡ Ok m → m ≤ length r.bytes
    by_failed true h = absurd (cc)
    by_failed false h = size_within false r.read r.bytes m h
