-- What words show behind a pass of a word.
use Rattle.std.proofs.Common.{◌≡◌, ℕ, zero, suc, ◌+◌, ◌-◌, ◌*◌, ◌/◌, ◌%◌, ◌<◌, ◌≤◌, Bool, true, false, refl, sym, ap, ◌∙◌, subst, arith}
use Rattle.std.specs.Prelude.{◌&&◌, ◌||◌, nat_eq, nat_lt}
use Rattle.std.specs.Int.RustNames.{bit_and}
use Rattle.std.proofs.lemmas.Bool.Decides.{nat_tests}
use Rattle.jk_scan.specs.Bits.{on}
use Rattle.jk_scan.specs.Neighbours.{Field}
use Rattle.jk_scan.specs.Moments.{stripes}
use Rattle.jk_scan.specs.Passes.{is_one}
use Rattle.jk_scan.specs.Words.{of_rows}
use Rattle.jk_scan.specs.WordPlaces.{column, row}
use Rattle.jk_scan.specs.Flags.{IsDrawn}
use Rattle.jk_scan.proofs.Laws.{rows_between, drawn_same, on_and}
use Rattle.jk_block.specs.declared.encoding.flags.Flags.{Flags}
use Rattle.jk_block.specs.declared.encoding.plane.BlockPlane.{BlockPlane}
use Rattle.jk_block.specs.declared.word_place.WordPlace.{WordPlace}
use Rattle.jk_block.specs.encoding.Viewed.{ShowsOnes, significant_at, spread_at, IsFlagged, HasFlagRoom, moment_at}
use Rattle.jk_block.specs.Fields.{with_word}
use Rattle.jk_block.proofs.encoding.Coming.{mag, mag_outside}
use Rattle.jk_block.proofs.encoding.Propagated.{one_is}
use Rattle.jk_block.proofs.Seeing.{is_due}
use Rattle.jk_block.proofs.encoding.Timing.{here, codes, significant_bit, spread_bit, by_test}

-- the place of a bit, and others
at_place : (j i x y n : ℕ) → 8 * (x % 8) + (y % 4 + 1) ≡ n → (nat_eq x (8 * j + n / 8) && nat_eq y (4 * i + n % 8 - 1)) ≡ (nat_eq (x / 8) j && nat_eq (y / 4) i)
at_place j i x y n e = grind (arith, nat_tests)

elsewhere : (j i x y n : ℕ) → n < 64 → of_rows (n % 8) ≡ true → nat_eq (8 * (x % 8) + (y % 4 + 1)) n ≡ false → (nat_eq x (8 * j + n / 8) && nat_eq y (4 * i + n % 8 - 1)) ≡ false
elsewhere j i x y n l r e = let b = rows_between (n % 8) r in let b0 = b.0 in let b1 = b.1 in grind (arith, nat_tests)

now : (f w a b h : Bool) (p n : ℕ) → p ≡ n → a ≡ b → h ≡ w → ((f || (w && (nat_lt p n && a))) || (b && h)) ≡ (f || (w && (nat_lt p (suc n) && a)))
now f w a b h p n e g k = let l : nat_lt p n ≡ false = grind (arith, nat_tests) in let m : nat_lt p (suc n) ≡ true = grind (arith, nat_tests) in grind (arith, nat_tests)

other : (f w a b h : Bool) (p n : ℕ) → nat_eq p n ≡ false → h ≡ false → ((f || (w && (nat_lt p n && a))) || (b && h)) ≡ (f || (w && (nat_lt p (suc n) && a)))
other f w a b h p n e g = let l : nat_lt p (suc n) ≡ nat_lt p n = grind (arith, nat_tests) in grind (arith, nat_tests)

idle : (f w a b h : Bool) (p n : ℕ) → nat_eq p n ≡ false → b ≡ false → ((f || (w && (nat_lt p n && a))) || (b && h)) ≡ (f || (w && (nat_lt p (suc n) && a)))
idle f w a b h p n e g = let l : nat_lt p (suc n) ≡ nat_lt p n = grind (arith, nat_tests) in grind (arith, nat_tests)

none : (f w : Bool) (p : ℕ) (a : Bool) → f ≡ (f || (w && (nat_lt p 0 && a)))
none f w p a = grind (arith, nat_tests)

is_place : (p n : ℕ) → nat_eq p n ≡ true → p ≡ n
is_place p n e = grind (arith, nat_tests)

-- A field takes in a place at each bit where g holds. Behind bit n it has taken in those of the
-- word before it.
taken_in : (f : ℕ → Field Bool) (g : ℕ → Bool) (j i word : ℕ) → ((n x y : ℕ) → f (n + 1) x y ≡ (f n x y || (g n && here (column j n) (row i n) x y))) → ((m : ℕ) → g m ≡ true → of_rows (m % 8) ≡ true)
    → ((m : ℕ) → m < 64 → on word m ≡ g m) → (x y n : ℕ) → n ≤ 64
    → f n x y ≡ (f 0 x y || ((nat_eq (x / 8) j && nat_eq (y / 4) i) && (nat_lt (8 * (x % 8) + (y % 4 + 1)) n && on word (8 * (x % 8) + (y % 4 + 1)))))
unfolding here
taken_in f g j i word step rows word_is x y zero most = none (f 0 x y) (nat_eq (x / 8) j && nat_eq (y / 4) i) (8 * (x % 8) + (y % 4 + 1)) (on word (8 * (x % 8) + (y % 4 + 1)))
taken_in f g j i word step rows word_is x y (suc n) most =
    ap (λ k. f k x y) (let e : suc n ≡ n + 1 = omega arith in e)
    ∙ step n x y
    ∙ ap (λ b. b || (g n && (nat_eq x (column j n) && nat_eq y (row i n)))) (taken_in f g j i word step rows word_is x y n (omega (arith, most)))
    ∙ by_test (nat_eq p n)
    (λ e. let s = is_place p n e in
    now (f 0 x y) w (on word p) (g n) (nat_eq x (column j n) && nat_eq y (row i n)) p n s (ap (on word) s ∙ word_is n (omega (arith, most))) (at_place j i x y n s))
    (λ e. by_test (g n)
    (λ b. other (f 0 x y) w (on word p) (g n) (nat_eq x (column j n) && nat_eq y (row i n)) p n e (elsewhere j i x y n (omega (arith, most)) (rows n b) e))
    (λ b. idle (f 0 x y) w (on word p) (g n) (nat_eq x (column j n) && nat_eq y (row i n)) p n e b))
  where
    p : ℕ
    p = 8 * (x % 8) + (y % 4 + 1)

    w : Bool
    w = nat_eq (x / 8) j && nat_eq (y / 4) i

-- behind all bits
taken_all : (f : ℕ → Field Bool) (g : ℕ → Bool) (j i word : ℕ) → ((n x y : ℕ) → f (n + 1) x y ≡ (f n x y || (g n && here (column j n) (row i n) x y))) → ((m : ℕ) → g m ≡ true → of_rows (m % 8) ≡ true)
    → ((m : ℕ) → m < 64 → on word m ≡ g m) → (x y : ℕ) → f 64 x y ≡ with_word (f 0) j i word x y
taken_all f g j i word step rows word_is x y =
    taken_in f g j i word step rows word_is x y 64 (omega arith)
    ∙ ap (λ b. f 0 x y || ((nat_eq (x / 8) j && nat_eq (y / 4) i) && (b && on word (8 * (x % 8) + (y % 4 + 1))))) (let e : nat_lt (8 * (x % 8) + (y % 4 + 1)) 64 ≡ true = grind (arith, nat_tests) in e)

-- the place at a bit becomes significant in a pass
abbrev pub becomes : BlockPlane → (pass j i k : ℕ) → Bool
becomes v pass j i k = codes v.shape (mag v) pass j i k && nat_eq (mag v (column j k) (row i k)) 1

-- Of the places that a pass codes, those with the bit 1 become significant.
pub becoming : (v : BlockPlane) (pass j i places ones : ℕ) → nat_eq pass 1 ≡ false → ((m : ℕ) → m < 64 → on places m ≡ codes v.shape (mag v) pass j i m) → ShowsOnes v j i ones
    → (m : ℕ) → m < 64 → on (bit_and places ones) m ≡ becomes v pass j i m
becoming v pass j i places ones new places_are ones_are m l =
    on_and places ones m ∙ both (places_are m l) (ones_are m l)
    ∙ by_test (codes v.shape (mag v) pass j i m)
    (λ due. gate (of_rows (m % 8)) (is_due v.shape (mag v) pass x y) (is_one (mag v x y)) (nat_eq (mag v x y) 1) (one_is v pass j i m due new))
    (λ none. closed (of_rows (m % 8)) (is_due v.shape (mag v) pass x y) (is_one (mag v x y)) (nat_eq (mag v x y) 1) none)
  where
    x : ℕ
    x = column j m

    y : ℕ
    y = row i m

    both : {a b a' b' : Bool} → a ≡ a' → b ≡ b' → (a && b) ≡ (a' && b')
    both e g = cc

    gate : (r d o e : Bool) → o ≡ e → ((r && d) && (r && o)) ≡ ((r && d) && e)
    gate r d o e g = grind (arith, nat_tests)

    closed : (r d o e : Bool) → (r && d) ≡ false → ((r && d) && (r && o)) ≡ ((r && d) && e)
    closed r d o e g = grind (arith, nat_tests)

first_two : (a b c : Bool) → ((a && b) && c) ≡ true → a ≡ true
first_two true b c e = refl
first_two false b c e = absurd cc

pub becoming_row : (v : BlockPlane) (pass j i k : ℕ) → becomes v pass j i k ≡ true → of_rows (k % 8) ≡ true
becoming_row v pass j i k e = first_two (of_rows (k % 8)) (is_due v.shape (mag v) pass (column j k) (row i k)) (nat_eq (mag v (column j k) (row i k)) 1) e

-- the flags behind the significance propagation pass
pub flagged_spread : (v : BlockPlane) (at : WordPlace) (places ones : ℕ) (old new : Flags) → at.stripe < stripes v.shape → ((m : ℕ) → m < 64 → on places m ≡ codes v.shape (mag v) 0 at.word at.stripe m) → ShowsOnes v at.word at.stripe ones
    → IsFlagged v (moment_at v.shape 0 at.word at.stripe 0) old
    → ((f : Field Bool) → IsDrawn v.shape f old.significant.now → IsDrawn v.shape (with_word f at.word at.stripe (bit_and places ones)) new.significant.now)
    → ((f : Field Bool) → IsDrawn v.shape f old.visited.now → IsDrawn v.shape (with_word f at.word at.stripe places) new.visited.now)
    → HasFlagRoom v.shape new → IsFlagged v (moment_at v.shape 0 at.word at.stripe 64) new
flagged_spread v at places ones old new stripe places_are ones_are flagged known_significant coded room = record {
  known_significant = drawn_same v.shape (with_word (significant_at v (t 0)) j i (bit_and places ones)) (significant_at v (t 64)) new.significant.now
      (λ x y. sym (taken_all (λ n. significant_at v (t n)) (becomes v 0 j i) j i (bit_and places ones) (λ n x y. significant_bit v.shape (mag v) 0 j i n (mag_outside v) stripe x y)
      (becoming_row v 0 j i) (becoming v 0 j i places ones refl places_are ones_are) x y))
      (known_significant (significant_at v (t 0)) flagged.known_significant);
  coded = drawn_same v.shape (with_word (spread_at v (t 0)) j i places) (spread_at v (t 64)) new.visited.now
      (λ x y. sym (taken_all (λ n. spread_at v (t n)) (λ m. codes v.shape (mag v) 0 j i m && true) j i places (λ n x y. spread_bit v.shape (mag v) 0 j i n stripe x y)
      (λ m e. first_two (of_rows (m % 8)) (is_due v.shape (mag v) 0 (column j m) (row i m)) true e) (λ m l. places_are m l ∙ same (codes v.shape (mag v) 0 j i m)) x y))
      (coded (spread_at v (t 0)) flagged.coded);
  room = room;
}
  where
    j : ℕ
    j = at.word

    i : ℕ
    i = at.stripe

    t : ℕ → ℕ
    t n = moment_at v.shape 0 j i n

    same : (b : Bool) → b ≡ (b && true)
    same b = grind (arith, nat_tests)

-- The cleanup pass doesn't touch what the significance propagation pass has coded.
spread_kept : (v : BlockPlane) (at : WordPlace) → at.stripe < stripes v.shape → (x y n : ℕ) → spread_at v (moment_at v.shape 2 at.word at.stripe n) x y ≡ spread_at v (moment_at v.shape 2 at.word at.stripe 0) x y
spread_kept v at stripe x y zero = refl
spread_kept v at stripe x y (suc n) =
    ap (λ k. spread_at v (moment_at v.shape 2 at.word at.stripe k) x y) (let e : suc n ≡ n + 1 = omega arith in e)
    ∙ spread_bit v.shape (mag v) 2 at.word at.stripe n stripe x y
    ∙ kept (spread_at v (moment_at v.shape 2 at.word at.stripe n) x y) (codes v.shape (mag v) 2 at.word at.stripe n) (here (column at.word n) (row at.stripe n) x y)
    ∙ spread_kept v at stripe x y n
  where
    kept : (f c h : Bool) → (f || ((c && false) && h)) ≡ f
    kept f c h = grind (arith, nat_tests)

-- the flags behind the cleanup pass
pub flagged_left : (v : BlockPlane) (at : WordPlace) (places ones : ℕ) (old new : Flags) → at.stripe < stripes v.shape → ((m : ℕ) → m < 64 → on places m ≡ codes v.shape (mag v) 2 at.word at.stripe m) → ShowsOnes v at.word at.stripe ones
    → IsFlagged v (moment_at v.shape 2 at.word at.stripe 0) old
    → ((f : Field Bool) → IsDrawn v.shape f old.significant.now → IsDrawn v.shape (with_word f at.word at.stripe (bit_and places ones)) new.significant.now) → new.visited.now ≡ old.visited.now
    → HasFlagRoom v.shape new → IsFlagged v (moment_at v.shape 2 at.word at.stripe 64) new
flagged_left v at places ones old new stripe places_are ones_are flagged known_significant visited room = record {
  known_significant = drawn_same v.shape (with_word (significant_at v (t 0)) j i (bit_and places ones)) (significant_at v (t 64)) new.significant.now
      (λ x y. sym (taken_all (λ n. significant_at v (t n)) (becomes v 2 j i) j i (bit_and places ones) (λ n x y. significant_bit v.shape (mag v) 2 j i n (mag_outside v) stripe x y)
      (becoming_row v 2 j i) (becoming v 2 j i places ones refl places_are ones_are) x y))
      (known_significant (significant_at v (t 0)) flagged.known_significant);
  coded = drawn_same v.shape (spread_at v (t 0)) (spread_at v (t 64)) new.visited.now (λ x y. sym (spread_kept v at stripe x y 64)) (subst (λ ws. IsDrawn v.shape (spread_at v (t 0)) ws) (sym visited) flagged.coded);
  room = room;
}
  where
    j : ℕ
    j = at.word

    i : ℕ
    i = at.stripe

    t : ℕ → ℕ
    t n = moment_at v.shape 2 j i n
