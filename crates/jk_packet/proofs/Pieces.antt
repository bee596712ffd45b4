-- The words of a piece (T.800 B.10.6, B.10.7): what is read is a piece, and each piece is read.
use Rattle.std.proofs.Common.{◌≡◌, ℕ, ◌+◌, ◌-◌, ◌<◌, ◌≤◌, Bool, true, false, List, [], ◌∷◌, ◌++◌, replicate, Result, Ok, refl, sym, ap, ◌∙◌, subst, arith, append_assoc}
use Rattle.std.specs.Prelude.{nat_lt}
use Rattle.std.proofs.lemmas.List.{append-nil}
use Rattle.std.proofs.lemmas.Bool.Decides.{nat_tests}
use Rattle.jk_math.specs.Answer.{◌>>=◌, refuse}
use Rattle.jk_math.specs.declared.fault.Fault.{Fault}
use Rattle.jk_math.specs.declared.fault.Fault.TheVariants.{TooManyPasses}
use Rattle.jk_bits.specs.Stuffing.{binary}
use Rattle.jk_bits.specs.Reading.{Bits}
use Rattle.jk_packet.specs.declared.words.Addition.{Addition}
use Rattle.jk_packet.specs.Words.{floor_log2, pass_code, width, piece_bits, IsAddition}
use Rattle.jk_packet.specs.Reading.{number_at, passes_at, growth_at, piece_at}
use Rattle.jk_packet.proofs.Codes.{IsCoded, Joined, coded_bind, coded_pure, coded_refuse, coded_says, coded_number, coded_growth}
use Rattle.jk_packet.proofs.PassCodes.{Number, Passes, coded_passes, not_below}

abbrev Growth : ℕ → ℕ → List Bool → Type 0
Growth room k bits = (k < room) × (bits ≡ replicate k true ++ false ∷ [])

abbrev length_at : ℕ → ℕ → ℕ → Bits → Result (Addition × Bits) Fault
length_at lblock n g r = number_at (lblock + g + floor_log2 n) 0 r >>= λ k. Ok (record { passes = n; growth = g; length = k.0 }, k.1)

abbrev JustPiece : ℕ → ℕ → ℕ → Addition → List Bool → Type 0
JustPiece n g k p bits = (p ≡ record { passes = n; growth = g; length = k }) × (bits ≡ [])

abbrev Length : ℕ → ℕ → ℕ → Addition → List Bool → Type 0
Length lblock n g = Joined (Number (lblock + g + floor_log2 n)) (JustPiece n g)

abbrev rest_at : ℕ → ℕ → Bits → Result (Addition × Bits) Fault
rest_at lblock n r = growth_at (33 - (lblock + floor_log2 n)) 0 r >>= λ g. length_at lblock n g.0 g.1

abbrev Rest : ℕ → ℕ → Addition → List Bool → Type 0
Rest lblock n = Joined (Growth (33 - (lblock + floor_log2 n))) (Length lblock n)

abbrev Kept : ℕ → ℕ → ℕ → ℕ → Addition → List Bool → Type 0
Kept most before lblock n p bits = (nat_lt most (before + n) ≡ false) × Rest lblock n p bits

-- a piece within the bound, and its words
pub record Says (most before lblock : ℕ) (p : Addition) (bits : List Bool) : Type 0 where
  pub piece : IsAddition lblock p
  pub within : before + p.passes ≤ most
  pub words : bits ≡ piece_bits lblock p

coded_length : (lblock n g : ℕ) → IsCoded (length_at lblock n g) (Length lblock n g)
coded_length lblock n g =
    coded_bind (number_at (lblock + g + floor_log2 n) 0) (λ k r. Ok (record { passes = n; growth = g; length = k }, r)) (Number (lblock + g + floor_log2 n)) (JustPiece n g)
    (coded_number (lblock + g + floor_log2 n)) (λ k. coded_pure record { passes = n; growth = g; length = k })

coded_rest : (lblock n : ℕ) → IsCoded (rest_at lblock n) (Rest lblock n)
coded_rest lblock n =
    coded_bind (growth_at (33 - (lblock + floor_log2 n)) 0) (length_at lblock n) (Growth (33 - (lblock + floor_log2 n))) (Length lblock n) (coded_growth (33 - (lblock + floor_log2 n))) (coded_length lblock n)

coded_words : (most before lblock : ℕ) → IsCoded (piece_at most before lblock) (Joined Passes (Kept most before lblock))
unfolding piece_at
coded_words most before lblock =
    coded_bind passes_at (λ n r. refuse (nat_lt most (before + n)) TooManyPasses >>= λ _. rest_at lblock n r) Passes (Kept most before lblock) coded_passes
    (λ n. coded_refuse (nat_lt most (before + n)) TooManyPasses (rest_at lblock n) (Rest lblock n) (coded_rest lblock n))

words_of : (lblock : ℕ) (p : Addition) → piece_bits lblock p ≡ pass_code p.passes ++ (replicate p.growth true ++ (false ∷ binary (width lblock p) p.length))
unfolding piece_bits
words_of lblock p = refl

piece_says : (most before lblock : ℕ) (p : Addition) (bits : List Bool) → Joined Passes (Kept most before lblock) p bits → Says most before lblock p bits
piece_says most before lblock p bits j =
    let n = j.middle in
    let g = j.says_second.1.middle in
    let last = j.says_second.1.says_second in
    let k = last.middle in
    let is : p ≡ record { passes = n; growth = g; length = k } = last.says_second.0 in
    let within = not_below most (before + n) j.says_second.0 in
    let room = j.says_second.1.says_first.0 in
    subst (λ (q : Addition). Says most before lblock q bits) (sym is) record {
      piece = record {
        some = j.says_first.some;
        few = j.says_first.few;
        narrow = omega (arith, room);
        fits = last.says_first.0;
      };
      within = within;
      words =
          j.joins
          ∙ ap (λ (xs : List Bool). xs ++ j.second) j.says_first.code
          ∙ ap (λ (xs : List Bool). pass_code n ++ xs)
          (j.says_second.1.joins
          ∙ ap (λ (xs : List Bool). xs ++ j.says_second.1.second) j.says_second.1.says_first.1
          ∙ append_assoc (replicate g true) (false ∷ []) j.says_second.1.second
          ∙ ap (λ (xs : List Bool). replicate g true ++ (false ∷ xs))
          (last.joins ∙ ap (λ (xs : List Bool). xs ++ last.second) last.says_first.1 ∙ ap (λ (xs : List Bool). binary (lblock + g + floor_log2 n) k ++ xs) last.says_second.1 ∙ append-nil (binary (lblock + g + floor_log2 n) k)))
          ∙ sym (words_of lblock record { passes = n; growth = g; length = k });
    }

piece_back : (most before lblock : ℕ) (p : Addition) → IsAddition lblock p → before + p.passes ≤ most → Joined Passes (Kept most before lblock) p (piece_bits lblock p)
piece_back most before lblock p i within =
    let narrow = i.narrow in
    let word = binary (width lblock p) p.length in
    record {
      middle = p.passes;
      first = pass_code p.passes;
      second = replicate p.growth true ++ (false ∷ word);
      says_first = record { some = i.some; few = i.few; code = refl };
      says_second = (
        grind (arith, nat_tests),
        record {
          middle = p.growth;
          first = replicate p.growth true ++ false ∷ [];
          second = word;
          says_first = (omega (arith, narrow), refl);
          says_second = record { middle = p.length; first = word; second = []; says_first = (i.fits, refl); says_second = (refl, refl); joins = sym (append-nil word) };
          joins = sym (append_assoc (replicate p.growth true) (false ∷ []) word);
        },
      );
      joins = words_of lblock p;
    }

-- The words of a piece.
pub coded_piece : (most before lblock : ℕ) → IsCoded (piece_at most before lblock) (Says most before lblock)
coded_piece most before lblock =
    coded_says (piece_at most before lblock) (Joined Passes (Kept most before lblock)) (Says most before lblock) (coded_words most before lblock)
    (piece_says most before lblock)
    (λ p bits s. subst (λ (xs : List Bool). Joined Passes (Kept most before lblock) p xs) (sym s.words) (piece_back most before lblock p s.piece s.within))
