-- One byte more of a text: what it does to the bits, their end and their size.
use Rattle.std.proofs.Common.{◌≡◌, ℕ, zero, suc, ◌-◌, ◌/◌, ◌%◌, ◌^◌, ◌<◌, ◌≤◌, Bool, true, false, cond, List, [], ◌∷◌, ◌++◌, length, drop, get_or, Ok, Err, refl, ap, ◌∙◌, subst, inl, inr}
use Rattle.std.specs.Prelude.{◌==◌}
use Rattle.std.proofs.lemmas.Bool.{cases_Bool}
use Rattle.std.proofs.lemmas.List.{drop_all}
use Rattle.std.proofs.Math.Seq.{drop-cons}
use Rattle.jk_math.specs.Answer.{◌>>=◌}
use Rattle.jk_math.specs.declared.fault.Fault.{Fault}
use Rattle.jk_math.specs.declared.fault.Fault.TheVariants.{Truncated, PacketHeader}
use Rattle.jk_bits.specs.Stuffing.{room, stuffed_one, binary, first_byte, spread, edge, size}

pub length-binary : (n x : ℕ) → length (binary n x) ≡ n
unfolding binary
length-binary zero x = refl
length-binary (suc n) x = ap suc (length-binary n x)

pub binary-suc : (n x : ℕ) → binary (suc n) x ≡ (x / 2 ^ n % 2 == 1) ∷ binary n x
unfolding binary
binary-suc n x = refl

-- What a first byte says of a text.
pub record Loads (after : Bool) (bytes : List ℕ) (x : ℕ) (rest : List ℕ) : Type 0 where
  pub split : bytes ≡ x ∷ rest
  pub bits : spread after bytes ≡ binary (room after) x ++ spread (x == 255) rest
  pub ends : edge after bytes ≡ edge (x == 255) rest
  pub sizes : (n : ℕ) → size after (suc n) bytes ≡ (size (x == 255) (suc n - room after) rest >>= (λ m. Ok (suc m)))

abbrev pub drop_one : List ℕ → List ℕ
drop_one [] = []
drop_one (x ∷ xs) = xs

loads_tested : (after : Bool) (b x : ℕ) (rest : List ℕ) → (stuffed_one after b) ≡ false → b ≡ x → Loads after (b ∷ rest) x rest
unfolding spread edge size first_byte
loads_tested after b x rest free e =
    subst (λ (y : ℕ). Loads after (b ∷ rest) y rest) e record {
      split = refl;
      bits = ap (λ (t : Bool). cond t [] (binary (room after) b ++ spread (b == 255) rest)) free;
      ends = ap (λ (t : Bool). cond t PacketHeader (edge (b == 255) rest)) free;
      sizes = λ n. ap (λ (t : Bool). cond t (Err PacketHeader) (Ok b) >>= (λ _. size (b == 255) (suc n - room after) rest >>= (λ m. Ok (suc m)))) free;
    }

pub loads : (after : Bool) (bytes : List ℕ) (x : ℕ) → first_byte after bytes ≡ Ok x → Loads after bytes x (drop_one bytes)
unfolding first_byte
loads after [] x h = absurd (cc)
loads after (b ∷ rest) x h =
    elim (cases_Bool (stuffed_one after b)) [
      | inl stuffed ↦ absurd (let g : cond true (Err PacketHeader) (Ok b) ≡ Ok x = subst (λ (t : Bool). cond t (Err PacketHeader) (Ok b) ≡ Ok x) stuffed h in cc)
      | inr free ↦ loads_tested after b x rest free (let g : cond false (Err PacketHeader) (Ok b) ≡ Ok x = subst (λ (t : Bool). cond t (Err PacketHeader) (Ok b) ≡ Ok x) free h in cc)
    ]

-- No first byte: no bit, and the fault is what ends them.
pub no_load : (after : Bool) (bytes : List ℕ) (e : Fault) → first_byte after bytes ≡ Err e → (spread after bytes ≡ []) × (edge after bytes ≡ e)
unfolding first_byte spread edge
no_load after [] e h = (refl, cc)
no_load after (b ∷ rest) e h =
    elim (cases_Bool (stuffed_one after b)) [
      | inl stuffed ↦ (
        ap (λ (t : Bool). cond t [] (binary (room after) b ++ spread (b == 255) rest)) stuffed,
        ap (λ (t : Bool). cond t PacketHeader (edge (b == 255) rest)) stuffed ∙ (let g : cond true (Err PacketHeader) (Ok b) ≡ Err e = subst (λ (t : Bool). cond t (Err PacketHeader) (Ok b) ≡ Err e) stuffed h in cc),
      )
      | inr free ↦ absurd (let g : cond false (Err PacketHeader) (Ok b) ≡ Err e = subst (λ (t : Bool). cond t (Err PacketHeader) (Ok b) ≡ Err e) free h in cc)
    ]

pub first_byte_past : (after : Bool) (bytes : List ℕ) (position : ℕ) → length bytes ≤ position → first_byte after (drop position bytes) ≡ Err Truncated
unfolding first_byte
first_byte_past after bytes position h = ap (first_byte after) (drop_all position bytes h)

pub first_byte_at : (after : Bool) (bytes : List ℕ) (position : ℕ) → position < length bytes
    → first_byte after (drop position bytes) ≡ cond (stuffed_one after (get_or bytes position 0)) (Err PacketHeader) (Ok (get_or bytes position 0))
unfolding first_byte
first_byte_at after bytes position h = ap (first_byte after) (drop-cons bytes position 0 h)
