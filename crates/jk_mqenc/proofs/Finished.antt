-- The finished bytes in the code.
use Rattle.std.proofs.Common.{◌≡◌, ◌∙◌, ap, sym, refl, inl, inr, ℕ, Bool, cond, eqb, List, [], ◌∷◌, ◌++◌, reverse, Option, Some, None}
use Rattle.std.proofs.lemmas.Bool.{cases_eq, eq-eqb, ne_eqb}
use Rattle.std.proofs.lemmas.List.{append-nil}
use Rattle.std.proofs.lemmas.Grind.{reverse_onto}
use Rattle.jk_model.specs.Code.{byte_at}
use Rattle.jk_model.specs.Placed.{onto}
use Rattle.jk_model.specs.Deciding.{Alike}
use Rattle.jk_mqenc.specs.Machine.{Machine}
use Rattle.jk_mqenc.specs.Holding.{placed_of, IsBegun}
use Rattle.jk_mqenc.specs.Coding.{set_bits, pushed_out, flushed}
use Rattle.jk_model.proofs.Laws.{alike-ff}
use Rattle.jk_mqenc.specs.Encoded.{without_last_ff}
use Rattle.jk_mqenc.proofs.Prefix.{onto-append}
use Rattle.jk_mqenc.proofs.Holdings.{none-begun}
use Rattle.jk_mqenc.proofs.Flush.{pushed_out-is, flushed-is}

onto-push : (bs : List ℕ) (x : ℕ) (q : List ℕ) → onto (bs ++ x ∷ []) q ≡ x ∷ onto bs q
onto-push [] x q = refl
onto-push (y ∷ ys) x q = onto-push ys x (y ∷ q)

onto-reversed : (xs q : List ℕ) → onto (reverse xs) q ≡ xs ++ q
onto-reversed [] q = refl
onto-reversed (x ∷ xs) q = ap (λ (y : List ℕ). onto y q) (reverse_onto xs x []) ∙ onto-push (reverse xs) x q ∙ ap (λ (y : List ℕ). x ∷ y) (onto-reversed xs q)

pub onto-held : (items : List ℕ) (b : ℕ) → onto (b ∷ reverse items) [] ≡ items ++ b ∷ []
onto-held items b = onto-reversed items (b ∷ [])

placed-held : (items f : List ℕ) (held : Option ℕ) (b : ℕ) → placed_of items held ≡ f → held ≡ Some b → without_last_ff f ≡ cond (eqb b 255) (reverse items) (b ∷ reverse items)
placed-held items f held b e h =
    ap (λ (x : List ℕ). without_last_ff x) (sym e) ∙ ap (λ (x : Option ℕ). without_last_ff (placed_of items x)) h

pub last-pushed : (items new f : List ℕ) (held : Option ℕ) (b : ℕ) → placed_of items held ≡ f → held ≡ Some b → (b ≡ 255 → ⊥) → new ≡ items ++ b ∷ [] → new ≡ onto (without_last_ff f) []
last-pushed items new f held b e h n k =
    k ∙ sym (ap (λ (x : List ℕ). onto x []) (placed-held items f held b e h ∙ ap (λ (t : Bool). cond t (reverse items) (b ∷ reverse items)) (ne_eqb b 255 n)) ∙ onto-held items b)

pub last-left_off : (items new f : List ℕ) (held : Option ℕ) (b : ℕ) → placed_of items held ≡ f → held ≡ Some b → b ≡ 255 → new ≡ items → new ≡ onto (without_last_ff f) []
last-left_off items new f held b e h n k =
    k ∙ sym (ap (λ (x : List ℕ). onto x []) (placed-held items f held b e h ∙ ap (λ (t : Bool). cond t (reverse items) (b ∷ reverse items)) (eq-eqb b 255 n)) ∙ onto-reversed items [] ∙ append-nil items)

pub last-none : (items new f : List ℕ) (held : Option ℕ) → placed_of items held ≡ f → held ≡ None → IsBegun items held → new ≡ items → new ≡ onto (without_last_ff f) []
last-none items new f held e h g k =
    k ∙ none-begun items held h g ∙ ap (λ (x : List ℕ). onto (without_last_ff x) []) (sym (ap (λ (x : Option ℕ). placed_of items x) h) ∙ e)

-- a last FF that is left off changes nothing
pub alike-last : (bs : List ℕ) → Alike (onto (without_last_ff bs) []) (onto bs [])
alike-last [] i = refl
alike-last (b ∷ o) i =
    elim (cases_eq b 255) [
      | inl e ↦
          ap (λ (t : Bool). byte_at (onto (cond t o (b ∷ o)) []) i) (eq-eqb b 255 e) ∙ sym (alike-ff (onto o []) i) ∙ ap (λ x. byte_at (onto o [] ++ x ∷ []) i) (sym e) ∙ ap (λ (x : List ℕ). byte_at x i) (sym (onto-append o (b ∷ [])))
      | inr n ↦ ap (λ (t : Bool). byte_at (onto (cond t o (b ∷ o)) []) i) (ne_eqb b 255 n)
    ]

pushed-width : (m : Machine) → pushed_out (record m { width = 1 }) ≡ pushed_out m
pushed-width m = pushed_out-is (record m { width = 1 }) ∙ sym (pushed_out-is m)

abbrev made : ℕ → ℕ → List ℕ → Machine
made code count bs = record { code = code; width = 1; count = count; placed = bs }

pub set-is : (code width count c : ℕ) (bs : List ℕ) (m : Machine) → record { code = code; width = width; count = count; placed = bs } ≡ m → c ≡ set_bits code width → record { code = c; width = 1; count = count; placed = bs } ≡ record m { code = set_bits m.code m.width; width = 1 }
set-is code width count c bs m v e =
    ap (λ x. made x count bs) e ∙ ap (λ (n : Machine). record n { code = set_bits n.code n.width; width = 1 }) v

pub flushed-from : (m first n second last : Machine) → first ≡ record m { code = set_bits m.code m.width; width = 1 } → n ≡ pushed_out first → second ≡ record n { width = 1 } → last ≡ pushed_out second → last ≡ flushed m
flushed-from m first n second last a b c d =
    let set = record m { code = set_bits m.code m.width } in
    let one : n ≡ pushed_out set = b ∙ ap (λ (x : Machine). pushed_out x) a ∙ pushed-width set in
    d ∙ ap (λ (x : Machine). pushed_out x) c ∙ pushed-width n ∙ ap (λ (x : Machine). pushed_out x) one ∙ sym (flushed-is m)
