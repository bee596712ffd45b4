-- What each place spells that the significance propagation pass codes in a word.
use Rattle.std.proofs.Common.{◌≡◌, ℕ, zero, suc, ◌+◌, ◌-◌, ◌*◌, ◌%◌, ◌^◌, ◌<◌, ◌≤◌, Bool, true, false, cond, List, [], ◌∷◌, ◌++◌, sym, ap, ◌∙◌, subst, inl, inr, arith}
use Rattle.std.specs.Prelude.{◌&&◌, ◌||◌, ◌==◌, nat_le}
use Rattle.std.specs.Int.{trailing_zeros, bit_not, w64}
use Rattle.std.specs.Int.RustNames.{bit_and, bit_or}
use Rattle.std.proofs.lemmas.Bool.{cases_lt}
use Rattle.std.proofs.lemmas.Bool.Decides.{nat_tests}
use Rattle.std.proofs.lemmas.Nat.{and_le_l}
use Rattle.jk_scan.specs.Bits.{on}
use Rattle.jk_scan.specs.declared.around.Around.{Around}
use Rattle.jk_scan.specs.Moments.{stripes}
use Rattle.jk_scan.specs.Neighbours.{is_inside, zero_at, sign_at, seen_from}
use Rattle.jk_scan.specs.Surroundings.{IsAround, Turns}
use Rattle.jk_scan.specs.Passes.{Decided}
use Rattle.jk_scan.specs.Words.{Truths, of_rows, Shows, bordered, is_member}
use Rattle.jk_scan.specs.WordNumbers.{byte_at, sign_byte}
use Rattle.jk_scan.specs.WordPlaces.{column, row}
use Rattle.jk_scan.proofs.Laws.{lowest, rest_at, on_zero, sooner_zero}
use Rattle.jk_mqenc.specs.Encoded.{decision_of}
use Rattle.jk_block.specs.declared.encoding.plane.BlockPlane.{BlockPlane}
use Rattle.jk_block.specs.declared.word_place.WordPlace.{WordPlace}
use Rattle.jk_block.specs.encoding.Viewed.{seen, moment_at, seen_at, negative_in, ShowsOnes, SpellsBit, SpellsSign}
use Rattle.jk_block.specs.encoding.Reached.{is_reached}
use Rattle.jk_block.proofs.encoding.Columned.{Known}
use Rattle.jk_block.proofs.encoding.Coming.{mag}
use Rattle.jk_block.proofs.encoding.Foreseen.{with_centre, foreseen_none, Listing, listing_next, listing_place, listing_all, foreseen_next, foreseen_turns}
use Rattle.jk_block.proofs.encoding.Lighting.{new_told}
use Rattle.jk_block.proofs.encoding.Propagated.{no_run}
use Rattle.jk_block.proofs.encoding.Slicing.{one_at}
use Rattle.jk_block.proofs.encoding.Spelled.{bits_spelled, signs_spelled}
use Rattle.jk_block.proofs.encoding.Timing.{codes}

pub record Spelt (v : BlockPlane) (at : WordPlace) (bits signs : List ℕ) (m : ℕ) : Type 0 where
  pub bit_is : SpellsBit v (moment_at v.shape 0 at.word at.stripe m) (column at.word m) (row at.stripe m) (byte_at bits m)
  pub sign_is : SpellsSign v (moment_at v.shape 0 at.word at.stripe m) (column at.word m) (row at.stripe m) (byte_at signs m)

pub record AllSpelt (v : BlockPlane) (at : WordPlace) (all : ℕ) (bits signs : List ℕ) (rest : ℕ) : Type 0 where
  pub all_are : (m : ℕ) → m < 64 → on all m ≡ codes v.shape (mag v) 0 at.word at.stripe m
  pub each : (m : ℕ) → m < 64 → on rest m ≡ true → Spelt v at bits signs m

differ : {R : Type 0} (a : Bool) → a ≡ true → a ≡ false → R
differ a e g = let c : true ≡ false = sym e ∙ g in absurd cc

later_is : (z m : ℕ) → z < m → nat_le (z + 1) m ≡ true
later_is z m h = grind (arith, nat_tests)

none_left : (v : BlockPlane) (at : WordPlace) (old list : Decided) (inside ones all : ℕ) (bits signs : List ℕ) (rest : ℕ) → Listing v at old list inside ones all bits signs rest → rest ≡ 0 → AllSpelt v at all bits signs rest
none_left v at old list inside ones all bits signs rest h e = record {
  all_are = (listing_all v at old list inside ones all bits signs rest h e).1;
  each = λ m l set. differ (on rest m) set (ap (λ w. on w m) e ∙ on_zero m);
}

-- one place after another, from the lowest on
pub spelt : (v : BlockPlane) (at : WordPlace) (old list : Decided) (inside ones all : ℕ) (bits signs : List ℕ) (rest d : ℕ) → Listing v at old list inside ones all bits signs rest → rest < 2 ^ 64
    → inside < 2 ^ 64 → Shows of_rows (bordered (is_inside v.shape)) (at.word + 1) (at.stripe + 1) inside → ShowsOnes v at.word at.stripe ones → 64 - trailing_zeros w64 rest ≤ d → AllSpelt v at all bits signs rest
spelt v at old list inside ones all bits signs rest zero h fits inside_fits limits shows fuel = elim (cases_lt 0 rest) [
  | inl some ↦ let l = (lowest rest some fits).0 in absurd (omega (arith, l, fuel))
  | inr none ↦ none_left v at old list inside ones all bits signs rest h (omega (arith, none))
]
spelt v at old list inside ones all bits signs rest (suc d) h fits inside_fits limits shows fuel = elim (cases_lt 0 rest) [
  | inr none ↦ none_left v at old list inside ones all bits signs rest h (omega (arith, none))
  | inl some ↦
      let z = trailing_zeros w64 rest in
      let low = lowest rest some fits in
      let place = listing_next v at old list inside ones all bits signs rest h some fits in
      let next = foreseen_next v at old list h.around inside ones all rest h.foreseen some fits in
      let turns = foreseen_turns v at old list h.around inside ones all rest h.foreseen some fits in
      let t = moment_at v.shape 0 at.word at.stripe z in
      let own : Spelt v at bits signs z = record {
        bit_is = h.bits_are t h.foreseen.centre z place h.foreseen.centre_fits turns next.shown;
        sign_is = h.signs_are t h.foreseen.centre z place h.foreseen.centre_fits turns next.shown;
      } in
      let bit = byte_at bits z in
      let sign = byte_at signs z in
      let told : Decided = decision_of bit ∷ cond (bit % 2 == 1) (decision_of sign ∷ []) [] in
      let rest' = bit_and rest (rest - 1) in
      let less = sooner_zero rest some fits in
      let below = and_le_l rest (rest - 1) in
      let later = spelt v at old (list ++ told) inside ones all bits signs rest' d
      (listing_place v at old list (list ++ told) inside ones all bits signs rest h some fits inside_fits limits (one_at v at z ones place shows)
      (λ t b s. ap (λ (ds : Decided). list ++ ds) (new_told v.shape (seen v) t (column at.word z) (row at.stripe z) bit sign b s)))
      (omega (arith, below, fits)) inside_fits limits shows (omega (arith, less, fuel)) in
      record {
        all_are = later.all_are;
        each = λ m l set. elim (cases_lt m z) [
          | inl before ↦ differ (on rest m) set (low.2 m before)
          | inr from ↦ elim (cases_lt z m) [
            | inl after ↦ later.each m l (rest_at rest some fits m ∙ both (nat_le (z + 1) m) (on rest m) (later_is z m after) set)
            | inr same ↦ subst (λ m. Spelt v at bits signs m) (let e : z ≡ m = omega (arith, from, same) in e) own
          ]
        ];
      }
]
  where
    both : (a b : Bool) → a ≡ true → b ≡ true → (a && b) ≡ true
    both a b e g = cc

-- What is known of a word as the pass comes to it.
pub begin : (v : BlockPlane) (at : WordPlace) (old : Decided) (inside ones all candidates : ℕ) (bits bytes : List ℕ) (around signs : Around) → around.centre < 2 ^ 64 → candidates < 2 ^ 64 → all < 2 ^ 64 → inside < 2 ^ 64 → at.stripe < stripes v.shape
    → IsAround (bordered (seen_at v (moment_at v.shape 0 at.word at.stripe 0) at.stripe)) at.word at.stripe around
    → Shows of_rows (is_member (bordered (is_inside v.shape)) (bordered (seen_at v (moment_at v.shape 0 at.word at.stripe 0) at.stripe))) (at.word + 1) (at.stripe + 1) candidates
    → ((m : ℕ) → m < 64 → on all m ≡ (on candidates m || (on (bit_and inside (bit_not w64 around.centre)) m && is_reached (λ k. on all k && on ones k) m)))
    → Shows of_rows (bordered (is_inside v.shape)) (at.word + 1) (at.stripe + 1) inside
    → ShowsOnes v at.word at.stripe ones
    → ((f : Truths) (j s centre k : ℕ) → k < 64 → of_rows (k % 8) ≡ true → centre < 2 ^ 64 → Turns centre (bit_or around.centre (bit_and all ones)) around.centre k → IsAround (bordered f) j s (with_centre centre around)
    → byte_at bits k ≡ 2 * zero_at v.shape.orientation f (column j k) (row s k) + cond (on ones k) 1 0)
    → IsAround (bordered (seen_from v.shape at.stripe (negative_in v))) at.word at.stripe signs
    → ((f n : Truths) (j s centre k : ℕ) → k < 64 → of_rows (k % 8) ≡ true → centre < 2 ^ 64 → Turns centre (bit_or around.centre (bit_and all ones)) around.centre k → IsAround (bordered f) j s (with_centre centre around) → IsAround (bordered n) j s signs
    → byte_at bytes k ≡ sign_byte (sign_at f n (column j k) (row s k)) (on signs.centre k))
    → Known v 0 at bits bytes all ones 0
begin v at old inside ones all candidates bits bytes around signs centre_fits candidates_fit all_fits inside_fits stripe shown members all_is limits shows bits_are signs_shown signs_are =
    let listing : Listing v at old old inside ones all bits bytes all = record {
      around = around;
      fits = centre_fits;
      foreseen = foreseen_none v at old around inside ones all candidates stripe centre_fits candidates_fit shown members all_is;
      bits_are = bits_spelled v at around (bit_or around.centre (bit_and all ones)) ones bits shows bits_are;
      signs_are = signs_spelled v at around signs (bit_or around.centre (bit_and all ones)) bytes signs_shown signs_are;
    } in
    let spelt_all = spelt v at old old inside ones all bits bytes all 64 listing all_fits inside_fits limits shows (omega arith) in
    record {
      other = λ e. absurd (omega (arith, e));
      members_are = spelt_all.all_are;
      ones_are = shows;
      bits_are = λ m place set. (spelt_all.each m place.within set).bit_is;
      signs_are = λ m place set. (spelt_all.each m place.within set).sign_is;
      runs_are = λ c h. on_zero (8 * c + 1) ∙ sym (no_run v.shape (mag v) at.word at.stripe c);
    }
