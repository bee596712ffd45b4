-- The bytes of a word's places as decisions.
use Rattle.std.proofs.Common.{◌≡◌, ℕ, ◌+◌, ◌*◌, ◌%◌, ◌^◌, ◌<◌, Bool, true, false, cond, List, refl, ap, ◌∙◌, arith}
use Rattle.std.specs.Prelude.{◌==◌}
use Rattle.std.proofs.lemmas.Bool.Decides.{nat_tests}
use Rattle.jk_scan.proofs.Laws.{row_stripe, zero_seen_in, sign_seen_in}
use Rattle.jk_mqenc.specs.Encoded.{decision_of}
use Rattle.jk_scan.specs.declared.around.Around.{Around}
use Rattle.jk_scan.specs.Bits.{on}
use Rattle.jk_scan.specs.Neighbours.{zero_at, sign_at, seen_from, zero_in, sign_in}
use Rattle.jk_scan.specs.Passes.{flipped}
use Rattle.jk_scan.specs.Words.{Truths, of_rows, bordered}
use Rattle.jk_scan.specs.WordPlaces.{column, row}
use Rattle.jk_scan.specs.Surroundings.{IsAround, Turns}
use Rattle.jk_scan.specs.WordNumbers.{byte_at, sign_byte}
use Rattle.jk_block.specs.declared.encoding.plane.BlockPlane.{BlockPlane}
use Rattle.jk_block.specs.declared.word_place.WordPlace.{WordPlace}
use Rattle.jk_block.specs.encoding.Viewed.{significant_at, seen_at, negative_in, ShowsOnes}
use Rattle.jk_block.proofs.encoding.Foreseen.{with_centre, HasBits, HasSigns}
use Rattle.jk_block.proofs.encoding.Listed.{sign_is}
use Rattle.jk_block.proofs.encoding.Negatives.{sign_bit}
use Rattle.jk_block.proofs.encoding.Slicing.{one_at}

abbrev pub decided : ℕ → Bool → ℕ × Bool
decided cx bit = (cx, bit)

two : {m n : ℕ} {a b : Bool} → m ≡ n → a ≡ b → decided m a ≡ decided n b
two e g = cc

pub spelled : (byte cx : ℕ) (b : Bool) → byte ≡ 2 * cx + cond b 1 0 → decision_of byte ≡ decided cx b
spelled byte cx true h = two (omega (arith, h)) (let e : byte % 2 ≡ 1 = omega (arith, h) in let g : (byte % 2 == 1) ≡ true = grind (arith, nat_tests) in g)
spelled byte cx false h = two (omega (arith, h)) (let e : byte % 2 ≡ 0 = omega (arith, h) in let g : (byte % 2 == 1) ≡ false = grind (arith, nat_tests) in g)

pub bits_spelled : (v : BlockPlane) (at : WordPlace) (around : Around) (new ones : ℕ) (bits : List ℕ) → ShowsOnes v at.word at.stripe ones
    → ((f : Truths) (j s centre k : ℕ) → k < 64 → of_rows (k % 8) ≡ true → centre < 2 ^ 64 → Turns centre new around.centre k → IsAround (bordered f) j s (with_centre centre around)
    → byte_at bits k ≡ 2 * zero_at v.shape.orientation f (column j k) (row s k) + cond (on ones k) 1 0)
    → HasBits v at around new bits
bits_spelled v at around new ones bits shows h t centre k place fits turns shown =
    let x = column at.word k in
    let y = row at.stripe k in
    let cx = zero_in v.shape (significant_at v t) x y in
    spelled (byte_at bits k) cx (on ones k) (h (seen_at v t at.stripe) at.word at.stripe centre k place.within place.on_row fits turns shown ∙ ap (λ c. 2 * c + cond (on ones k) 1 0) (zero_seen_in v.shape at.stripe (significant_at v t) x y (row_stripe at.stripe k place.on_row))) ∙ ap (decided cx) (one_at v at k ones place shows)

pub signs_spelled : (v : BlockPlane) (at : WordPlace) (around signs : Around) (new : ℕ) (bytes : List ℕ) → IsAround (bordered (seen_from v.shape at.stripe (negative_in v))) at.word at.stripe signs
    → ((f n : Truths) (j s centre k : ℕ) → k < 64 → of_rows (k % 8) ≡ true → centre < 2 ^ 64 → Turns centre new around.centre k → IsAround (bordered f) j s (with_centre centre around) → IsAround (bordered n) j s signs
    → byte_at bytes k ≡ sign_byte (sign_at f n (column j k) (row s k)) (on signs.centre k))
    → HasSigns v at around new bytes
signs_spelled v at around signs new bytes shows h t centre k place fits turns shown =
    let x = column at.word k in
    let y = row at.stripe k in
    let c = sign_in v.shape (significant_at v t) (negative_in v) x y in
    let own = on signs.centre k in
    spelled (byte_at bytes k) c.context (flipped c.flip own) (h (seen_at v t at.stripe) (seen_from v.shape at.stripe (negative_in v)) at.word at.stripe centre k place.within place.on_row fits turns shown shows
    ∙ ap (λ c. sign_byte c own) (sign_seen_in v.shape at.stripe (significant_at v t) (negative_in v) x y (row_stripe at.stripe k place.on_row)))
    ∙ sign_is v t x y c own (flipped c.flip own) refl (sign_bit v at k signs place shows) refl
