-- The contents of the JP2 header box, one step after another.
use Rattle.std.proofs.Common.{◌≡◌, ℕ, ◌++◌, ◌≤◌, true, false, ltb, List, length, take, drop, Result, Ok, refl, sym, ap, subst, ◌∙◌}
use Rattle.std.proofs.lemmas.Bool.{le-ltb}
use Rattle.byteorder.specs.Endian.{big_number}
use Rattle.jk_math.specs.Answer.{◌>>=◌, Refuses}
use Rattle.jk_math.specs.declared.fault.Fault.{Fault}
use Rattle.jk_math.specs.declared.fault.Fault.TheVariants.{Memory}
use Rattle.jk_boxes.specs.Boxes.{boxes_text}
use Rattle.jk_extras.specs.declared.values.Extras.{Extras}
use Rattle.jk_extras.specs.Extras.{is_extras, colour_boxes, resolution_boxes}
use Rattle.jk_extras.specs.Placing.{kept_after, header_dressed}

pub header_on : (e : Extras) (contents : List ℕ) → 22 ≤ length contents → is_extras (big_number 2 (drop 16 contents)) e ≡ true
    → header_dressed e contents
    ≡ (kept_after e (take 22 contents ++ boxes_text (colour_boxes (big_number 2 (drop 16 contents)) e.colour)) (drop 22 contents) >>= λ text. Ok (text ++ boxes_text (resolution_boxes e)))
unfolding header_dressed
header_on e contents long is = let a : ltb (length contents) 22 ≡ false = le-ltb _ _ long in rw (a, is) refl

header_from : (e : Extras) (contents : List ℕ) (n : ℕ) (known : List ℕ) → 22 ≤ length contents → n ≡ big_number 2 (drop 16 contents) → is_extras n e ≡ true
    → known ≡ take 22 contents ++ boxes_text (colour_boxes n e.colour)
    → header_dressed e contents ≡ (kept_after e known (drop 22 contents) >>= λ text. Ok (text ++ boxes_text (resolution_boxes e)))
header_from e contents n known long number is known-is =
    header_on e contents long (ap (λ k. is_extras k e) (sym number) ∙ is)
    ∙ ap (λ (x : List ℕ). kept_after e x (drop 22 contents) >>= λ text. Ok (text ++ boxes_text (resolution_boxes e)))
    (ap (λ k. take 22 contents ++ boxes_text (colour_boxes k e.colour)) (sym number) ∙ sym known-is)

pub header_kept : (e : Extras) (contents : List ℕ) (n : ℕ) (known text : List ℕ) → 22 ≤ length contents → n ≡ big_number 2 (drop 16 contents) → is_extras n e ≡ true
    → known ≡ take 22 contents ++ boxes_text (colour_boxes n e.colour) → kept_after e known (drop 22 contents) ≡ Ok text
    → header_dressed e contents ≡ Ok (text ++ boxes_text (resolution_boxes e))
header_kept e contents n known text long number is known-is kept = header_from e contents n known long number is known-is ∙ rw kept refl

-- a fault of the first of two steps is that of both
refuses_bind : {A B : Type 0} (d : Fault) (r : Result A Fault) (f : A → Result B Fault) → Refuses d r → Refuses d (r >>= f)
refuses_bind (Memory m) r f h = tt
refuses_bind d r f h = rw h refl

pub header_refused : (e : Extras) (contents : List ℕ) (n : ℕ) (known : List ℕ) → 22 ≤ length contents → n ≡ big_number 2 (drop 16 contents) → is_extras n e ≡ true
    → known ≡ take 22 contents ++ boxes_text (colour_boxes n e.colour) → (d : Fault) → Refuses d (kept_after e known (drop 22 contents))
    → Refuses d (header_dressed e contents)
header_refused e contents n known long number is known-is d refused =
    subst (λ (x : Result (List ℕ) Fault). Refuses d x) (sym (header_from e contents n known long number is known-is))
    (refuses_bind d (kept_after e known (drop 22 contents)) (λ text. Ok (text ++ boxes_text (resolution_boxes e))) refused)
