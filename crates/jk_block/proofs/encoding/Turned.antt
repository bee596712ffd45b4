-- What is significant as the cleanup pass goes through a word: of the places before the one it has
-- come to those that are so behind the pass, of the others those that were so before it.
use Rattle.std.proofs.Common.{◌≡◌, ℕ, zero, suc, ◌+◌, ◌*◌, ◌/◌, ◌%◌, ◌^◌, ◌<◌, ◌≤◌, Bool, true, false, List, refl, sym, ap, ◌∙◌, subst, inl, inr, arith}
use Rattle.std.specs.Prelude.{◌&&◌, ◌||◌, nat_eq}
use Rattle.std.specs.Int.RustNames.{bit_or}
use Rattle.std.proofs.lemmas.Bool.{cases_lt}
use Rattle.std.proofs.lemmas.Bool.Decides.{nat_tests}
use Rattle.std.proofs.lemmas.Nat.{or_lt, pow_pos}
use Rattle.std.proofs.Math.Nat.{mod-lt}
use Rattle.jk_scan.specs.declared.around.Around.{Around}
use Rattle.jk_scan.specs.Bits.{on}
use Rattle.jk_scan.specs.Neighbours.{Field, seen_from}
use Rattle.jk_scan.specs.Moments.{stripes}
use Rattle.jk_scan.specs.Words.{bordered}
use Rattle.jk_scan.specs.WordPlaces.{column, row}
use Rattle.jk_scan.specs.Surroundings.{IsAround, Turns}
use Rattle.jk_scan.specs.WordNumbers.{byte_at}
use Rattle.jk_scan.proofs.Laws.{same_field, on_or, on_set}
use Rattle.jk_block.specs.declared.encoding.plane.BlockPlane.{BlockPlane}
use Rattle.jk_block.specs.declared.word_place.WordPlace.{WordPlace}
use Rattle.jk_block.specs.Steps.{IsBitPlace}
use Rattle.jk_block.specs.encoding.Viewed.{significant_at, moment_at, SpellsBit, SpellsSign, seen_at}
use Rattle.jk_block.proofs.encoding.Behind.{becomes, becoming_row}
use Rattle.jk_block.proofs.encoding.Coming.{mag, mag_outside}
use Rattle.jk_block.proofs.encoding.Foreseen.{with_centre, HasBits, HasSigns}
use Rattle.jk_block.proofs.encoding.Remaining.{is_run}
use Rattle.jk_block.proofs.Stills.{is_still}
use Rattle.jk_block.proofs.encoding.Testing.{still_runs}
use Rattle.jk_block.proofs.encoding.Timing.{here, significant_bit}
use Rattle.jk_block.proofs.WordBits.{around_also}

-- what is around a word as the pass comes to its bit n
pub record Turned (v : BlockPlane) (at : WordPlace) (around : Around) (new n : ℕ) : Type 0 where
  pub centre : ℕ
  pub fits : centre < 2 ^ 64
  pub shown : IsAround (bordered (seen_at v (moment_at v.shape 2 at.word at.stripe n) at.stripe)) at.word at.stripe (with_centre centre around)
  pub turns : Turns centre (bit_or around.centre new) around.centre n

-- one bit on
turn : (v : BlockPlane) (at : WordPlace) (around : Around) (new n : ℕ) → at.stripe < stripes v.shape → n < 64 → on new n ≡ becomes v 2 at.word at.stripe n → Turned v at around new n → Turned v at around new (n + 1)
unfolding here
turn v at around new n stripe within new_is h = by (becomes v 2 j i n) refl
  where
    j : ℕ
    j = at.word

    i : ℕ
    i = at.stripe

    t : ℕ
    t = moment_at v.shape 2 j i n

    u : ℕ
    u = moment_at v.shape 2 j i (n + 1)

    next : (x y : ℕ) → significant_at v u x y ≡ (significant_at v t x y || (becomes v 2 j i n && (nat_eq x (column j n) && nat_eq y (row i n))))
    next x y = significant_bit v.shape (mag v) 2 j i n (mag_outside v) stripe x y

    off : (f b h : Bool) → b ≡ false → (f || (b && h)) ≡ f
    off f b h e = grind (arith, nat_tests)

    significant_up : (f b h : Bool) → b ≡ true → (f || (b && h)) ≡ (f || h)
    significant_up f b h e = grind (arith, nat_tests)

    apart : (m : ℕ) → m < n → nat_eq m n ≡ false
    apart m l = grind (arith, nat_tests)

    beyond : (m : ℕ) → n + 1 ≤ m → nat_eq m n ≡ false
    beyond m l = grind (arith, nat_tests)

    none : (a : Bool) → (a || false) ≡ a
    none a = grind (arith, nat_tests)

    any : (a b e : Bool) → b ≡ true → e ≡ true → (a || e) ≡ (a || b)
    any a b e g h = grind (arith, nat_tests)

    by : (b : Bool) → becomes v 2 j i n ≡ b → Turned v at around new (n + 1)
    by false e = record {
      centre = h.centre;
      fits = h.fits;
      shown = subst (λ (f : Field Bool). IsAround (bordered (seen_from v.shape i f)) j i (with_centre h.centre around))
          (sym (same_field (significant_at v u) (significant_at v t) (λ x y. next x y ∙ off (significant_at v t x y) (becomes v 2 j i n) (nat_eq x (column j n) && nat_eq y (row i n)) e))) h.shown;
      turns = record {
        before = λ m less. elim (cases_lt m n) [
          | inl early ↦ h.turns.before m early
          | inr from ↦
              let s : m ≡ n = omega (arith, less, from) in
              h.turns.behind m from (omega (arith, s, within)) ∙ sym (on_or around.centre new m ∙ ap (λ b. on around.centre m || b) (ap (on new) s ∙ new_is ∙ e) ∙ none (on around.centre m))
        ];
        behind = λ m le l. h.turns.behind m (omega (arith, le)) l;
      };
    }
    by true e =
        let on_row = becoming_row v 2 j i n e in
        record {
          centre = bit_or h.centre (1 * 2 ^ n % 2 ^ 64);
          fits = or_lt 64 h.centre (1 * 2 ^ n % 2 ^ 64) h.fits (mod-lt (1 * 2 ^ n) (pow_pos 64));
          shown = around_also v.shape (significant_at v t) (significant_at v u) j i n (with_centre h.centre around) within on_row
              (λ x y. next x y ∙ significant_up (significant_at v t x y) (becomes v 2 j i n) (nat_eq x (column j n) && nat_eq y (row i n)) e) h.shown;
          turns = record {
            before = λ m less. on_set h.centre n 64 m (omega (arith, less, within)) ∙ elim (cases_lt m n) [
              | inl early ↦ ap (λ b. on h.centre m || b) (apart m early) ∙ none (on h.centre m) ∙ h.turns.before m early
              | inr from ↦
                  let s : m ≡ n = omega (arith, less, from) in
                  ap (λ b. b || nat_eq m n) (h.turns.behind m from (omega (arith, s, within)))
                  ∙ any (on around.centre m) (on new m) (nat_eq m n) (ap (on new) s ∙ new_is ∙ e) (let g : nat_eq m n ≡ true = grind (arith, nat_tests) in g) ∙ sym (on_or around.centre new m)
            ];
            behind = λ m le l. on_set h.centre n 64 m l ∙ ap (λ b. on h.centre m || b) (beyond m le) ∙ none (on h.centre m) ∙ h.turns.behind m (omega (arith, le)) l;
          };
        }

pub turned : (v : BlockPlane) (at : WordPlace) (around : Around) (new : ℕ) → at.stripe < stripes v.shape → around.centre < 2 ^ 64
    → IsAround (bordered (seen_at v (moment_at v.shape 2 at.word at.stripe 0) at.stripe)) at.word at.stripe around → ((m : ℕ) → m < 64 → on new m ≡ becomes v 2 at.word at.stripe m)
    → (n : ℕ) → n ≤ 64 → Turned v at around new n
turned v at around new stripe fits shown new_is zero most = record {
  centre = around.centre;
  fits = fits;
  shown = record { centre = shown.centre; west = shown.west; east = shown.east };
  turns = record { before = λ m l. absurd (omega (arith, l)); behind = λ m l h. refl };
}
turned v at around new stripe fits shown new_is (suc n) most =
    subst (Turned v at around new) (let e : n + 1 ≡ suc n = omega arith in e)
    (turn v at around new n stripe (omega (arith, most)) (new_is n (omega (arith, most))) (turned v at around new stripe fits shown new_is n (omega (arith, most))))

-- What is known of each place of a word before the first is listed: what it has around it at its
-- moment, and which columns are in run mode.
pub record Prepared (v : BlockPlane) (at : WordPlace) (bits signs : List ℕ) (still : ℕ) : Type 0 where
  pub bits_are : (k : ℕ) → IsBitPlace v.shape at k → SpellsBit v (moment_at v.shape 2 at.word at.stripe k) (column at.word k) (row at.stripe k) (byte_at bits k)
  pub signs_are : (k : ℕ) → IsBitPlace v.shape at k → SpellsSign v (moment_at v.shape 2 at.word at.stripe k) (column at.word k) (row at.stripe k) (byte_at signs k)
  pub runs_are : (m : ℕ) → m < 64 → on still m ≡ (nat_eq (m % 8) 1 && is_run v.shape (mag v) 2 at.word at.stripe (m / 8))

-- the columns in run mode, each in its turn
abbrev pub HasRuns : BlockPlane → WordPlace → Around → (new still : ℕ) → Type 0
HasRuns v at around new still =
    (f : Field Bool) (centre m : ℕ) → m < 64 → centre < 2 ^ 64 → Turns centre new around.centre (8 * (m / 8)) → IsAround (bordered (seen_from v.shape at.stripe f)) at.word at.stripe (with_centre centre around)
    → on still m ≡ (nat_eq (m % 8) 1 && is_still v.shape f at.word at.stripe (m / 8))

pub prepared : (v : BlockPlane) (at : WordPlace) (around : Around) (new : ℕ) (bits signs : List ℕ) (still : ℕ) → ((n : ℕ) → n ≤ 64 → Turned v at around new n)
    → HasBits v at around (bit_or around.centre new) bits → HasSigns v at around (bit_or around.centre new) signs → HasRuns v at around (bit_or around.centre new) still → Prepared v at bits signs still
prepared v at around new bits signs still all bits_are signs_are runs_are = record {
  bits_are = λ k place.
      let t = all k (let l = place.within in omega (arith, l)) in
      bits_are (moment_at v.shape 2 j i k) t.centre k place t.fits t.turns t.shown;
  signs_are = λ k place.
      let t = all k (let l = place.within in omega (arith, l)) in
      signs_are (moment_at v.shape 2 j i k) t.centre k place t.fits t.turns t.shown;
  runs_are = λ m l.
      let t = all (8 * (m / 8)) (omega (arith, l)) in
      runs_are (significant_at v (moment_at v.shape 2 j i (8 * (m / 8)))) t.centre m l t.fits t.turns t.shown ∙ ap (λ b. nat_eq (m % 8) 1 && b) (still_runs v.shape (mag v) j i (m / 8));
}
  where
    j : ℕ
    j = at.word

    i : ℕ
    i = at.stripe
