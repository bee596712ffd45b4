-- How far a word is listed in a pass.
use Rattle.std.proofs.Common.{◌≡◌, ℕ, zero, suc, ◌+◌, ◌-◌, ◌/◌, ◌%◌, ◌<◌, ◌≤◌, Bool, true, false, ◌++◌, refl, sym, ap, ◌∙◌, subst, append_assoc, append-nil, arith}
use Rattle.std.specs.Prelude.{◌&&◌, ◌||◌, nat_eq}
use Rattle.std.proofs.lemmas.Bool.Decides.{nat_tests}
use Rattle.jk_scan.specs.Neighbours.{Field, is_inside}
use Rattle.jk_scan.specs.Moments.{stripes}
use Rattle.jk_scan.specs.Passes.{Decided, place_decisions}
use Rattle.jk_scan.specs.Words.{of_rows}
use Rattle.jk_scan.specs.WordPlaces.{column, row}
use Rattle.jk_scan.proofs.Laws.{same_field, drawn_same}
use Rattle.jk_block.specs.Meaning.{value_in}
use Rattle.jk_block.specs.Steps.{IsBitPlace}
use Rattle.jk_block.specs.declared.encoding.flags.Flags.{Flags}
use Rattle.jk_block.specs.declared.encoding.plane.BlockPlane.{BlockPlane}
use Rattle.jk_block.specs.declared.word_place.WordPlace.{WordPlace}
use Rattle.jk_block.specs.encoding.Viewed.{seen, significant_at, spread_at, IsFlagged, moment_at, word_decisions}
use Rattle.jk_block.proofs.encoding.Remaining.{remaining_at, remaining_all, remaining_none, remaining_place, Rests, rest, is_run}
use Rattle.jk_block.proofs.Seeing.{is_due}
use Rattle.jk_block.proofs.encoding.Timing.{here, codes, significant_bit, spread_bit}
use Rattle.jk_block.proofs.Whole.{plane_outside}

-- the magnitudes of a block at a bit-plane
abbrev pub mag : BlockPlane → Field ℕ
mag v = (seen v).magnitude

pub mag_outside : (v : BlockPlane) (x y : ℕ) → is_inside v.shape x y ≡ false → mag v x y ≡ 0
mag_outside v x y = plane_outside v.shape v.plane (value_in v.shape v.values.now) x y

-- the words show what is so at another moment at which the same is so
flagged_at : (v : BlockPlane) (t u : ℕ) (flags : Flags) → ((x y : ℕ) → significant_at v u x y ≡ significant_at v t x y) → ((x y : ℕ) → spread_at v u x y ≡ spread_at v t x y) → IsFlagged v t flags → IsFlagged v u flags
flagged_at v t u flags e g h = record {
  known_significant = drawn_same v.shape (significant_at v t) (significant_at v u) flags.significant.now (λ x y. sym (e x y)) h.known_significant;
  coded = drawn_same v.shape (spread_at v t) (spread_at v u) flags.visited.now (λ x y. sym (g x y)) h.coded;
  room = h.room;
}

-- nothing changes at a bit: no place is coded there, or a 0 is, but not in the significance
-- propagation pass
pub record Idle (v : BlockPlane) (pass j i k : ℕ) : Type 0 where
  pub known_significant : (codes v.shape (mag v) pass j i k && nat_eq (mag v (column j k) (row i k)) 1) ≡ false
  pub coded : (codes v.shape (mag v) pass j i k && nat_eq pass 0) ≡ false

-- what is so at two moments is the same
pub record Same (v : BlockPlane) (t u : ℕ) : Type 0 where
  pub known_significant : (x y : ℕ) → significant_at v u x y ≡ significant_at v t x y
  pub coded : (x y : ℕ) → spread_at v u x y ≡ spread_at v t x y

pub same_here : (v : BlockPlane) (t : ℕ) → Same v t t
same_here v t = record { known_significant = λ x y. refl; coded = λ x y. refl }

pub same_flags : (v : BlockPlane) (t u : ℕ) (flags : Flags) → Same v t u → IsFlagged v t flags → IsFlagged v u flags
same_flags v t u flags s h = flagged_at v t u flags s.known_significant s.coded h

pub same_significant : (v : BlockPlane) (t u : ℕ) → Same v t u → significant_at v u ≡ significant_at v t
same_significant v t u s = same_field (significant_at v u) (significant_at v t) s.known_significant

idle_step : (v : BlockPlane) (pass j i k : ℕ) → i < stripes v.shape → Idle v pass j i k → Same v (moment_at v.shape pass j i k) (moment_at v.shape pass j i (k + 1))
idle_step v pass j i k stripe h = record {
  known_significant = λ x y. significant_bit v.shape (mag v) pass j i k (mag_outside v) stripe x y ∙ none (significant_at v (moment_at v.shape pass j i k) x y) (codes v.shape (mag v) pass j i k && nat_eq (mag v (column j k) (row i k)) 1) (here (column j k) (row i k) x y) h.known_significant;
  coded = λ x y. spread_bit v.shape (mag v) pass j i k stripe x y ∙ none (spread_at v (moment_at v.shape pass j i k) x y) (codes v.shape (mag v) pass j i k && nat_eq pass 0) (here (column j k) (row i k) x y) h.coded;
}
  where
    none : (f d h : Bool) → d ≡ false → (f || (d && h)) ≡ f
    none f d h e = grind (arith, nat_tests)

pub idle_until : (v : BlockPlane) (pass j i n d : ℕ) → i < stripes v.shape → ((m : ℕ) → n ≤ m → m < n + d → Idle v pass j i m) → Same v (moment_at v.shape pass j i n) (moment_at v.shape pass j i (n + d))
idle_until v pass j i n zero stripe h = subst (λ m. Same v (moment_at v.shape pass j i n) (moment_at v.shape pass j i m)) (let e : n ≡ n + 0 = omega arith in e) (same_here v (moment_at v.shape pass j i n))
idle_until v pass j i n (suc d) stripe h =
    let before = idle_until v pass j i n d stripe (λ m a l. h m a (omega (arith, l))) in
    let step = idle_step v pass j i (n + d) stripe (h (n + d) (omega arith) (omega arith)) in
    subst (λ m. Same v (moment_at v.shape pass j i n) (moment_at v.shape pass j i m)) (let e : n + d + 1 ≡ n + suc d = omega arith in e)
    (record { known_significant = λ x y. step.known_significant x y ∙ before.known_significant x y; coded = λ x y. step.coded x y ∙ before.coded x y })

pub idle_to : (v : BlockPlane) (pass j i n m : ℕ) → i < stripes v.shape → n ≤ m → ((l : ℕ) → n ≤ l → l < m → Idle v pass j i l) → Same v (moment_at v.shape pass j i n) (moment_at v.shape pass j i m)
idle_to v pass j i n m stripe le h = subst (λ k. Same v (moment_at v.shape pass j i n) (moment_at v.shape pass j i k)) (let e : n + (m - n) ≡ m = omega arith in e) (idle_until v pass j i n (m - n) stripe (λ l a b. h l a (omega (arith, b))))

pub idle_none : (v : BlockPlane) (pass j i k : ℕ) → codes v.shape (mag v) pass j i k ≡ false → Idle v pass j i k
idle_none v pass j i k e = record { known_significant = ap (λ q. q && nat_eq (mag v (column j k) (row i k)) 1) e; coded = ap (λ q. q && nat_eq pass 0) e }

-- The list has come to bit n of a word.
pub record Told (v : BlockPlane) (pass : ℕ) (at : WordPlace) (n : ℕ) (old list : Decided) : Type 0 where
  pub most : n ≤ 64
  pub stripe : at.stripe < stripes v.shape
  pub listed : old ++ word_decisions v.shape (seen v) pass at.word at.stripe ≡ list ++ remaining_at v.shape (seen v) pass at.word at.stripe n

pub told_none : (v : BlockPlane) (pass : ℕ) (at : WordPlace) (list : Decided) → at.stripe < stripes v.shape → Told v pass at 0 list list
told_none v pass at list stripe = record { most = omega arith; stripe = stripe; listed = ap (λ (ds : Decided). list ++ ds) (remaining_all v.shape (seen v) pass at.word at.stripe) }

-- nothing happens at a bit
pub record Passes (v : BlockPlane) (pass j i k : ℕ) : Type 0 where
  pub plain : k % 8 ≡ 0 → is_run v.shape (mag v) pass j i (k / 8) ≡ false
  pub idle : codes v.shape (mag v) pass j i k ≡ false

rests_of : (v : BlockPlane) (pass j i k : ℕ) → Passes v pass j i k → Rests v.shape (mag v) pass j i (k / 8) (k % 8)
rests_of v pass j i k p = record {
  plain = p.plain;
  idle = λ a b. second (of_rows (k % 8)) (is_due v.shape (mag v) pass (column j k) (row i k)) p.idle (on_rows (k % 8) a b);
}
  where
    second : (r d : Bool) → (r && d) ≡ false → r ≡ true → d ≡ false
    second true d e h = e
    second false d e h = absurd cc

    on_rows : (r : ℕ) → 1 ≤ r → r < 5 → of_rows r ≡ true
    on_rows r h l = grind (arith, nat_tests)

pub told_skip : (v : BlockPlane) (pass : ℕ) (at : WordPlace) (n m : ℕ) (old list : Decided) → Told v pass at n old list → n ≤ m → m ≤ 64
    → ((l : ℕ) → n ≤ l → l < m → Passes v pass at.word at.stripe l) → Told v pass at m old list
told_skip v pass at n m old list c le most p = record {
  most = most;
  stripe = c.stripe;
  listed = c.listed ∙ ap (λ (ds : Decided). list ++ ds)
      (rest v.shape (seen v) pass at.word at.stripe n (m - n) (omega (arith, le, most)) (λ l a b. rests_of v pass at.word at.stripe l (p l a (omega (arith, b, le))))
      ∙ ap (remaining_at v.shape (seen v) pass at.word at.stripe) (let e : n + (m - n) ≡ m = omega (arith, le) in e));
}

pub append_both : (a b c d e : Decided) → a ≡ b ++ d → d ≡ c ++ e → a ≡ (b ++ c) ++ e
append_both a b c d e f g = f ∙ ap (λ (ds : Decided). b ++ ds) g ∙ sym (append_assoc b c e)

-- a place was listed
pub told_place : (v : BlockPlane) (pass : ℕ) (at : WordPlace) (n : ℕ) (old list list' : Decided) → Told v pass at n old list → IsBitPlace v.shape at n
    → list' ≡ list ++ place_decisions v.shape (seen v) pass (column at.word n) (row at.stripe n) → Told v pass at (n + 1) old list'
told_place v pass at n old list list' c place e = record {
  most = (let w = place.within in omega (arith, w));
  stripe = c.stripe;
  listed = append_both (old ++ word_decisions v.shape (seen v) pass at.word at.stripe) list (place_decisions v.shape (seen v) pass (column at.word n) (row at.stripe n)) (remaining_at v.shape (seen v) pass at.word at.stripe n) (remaining_at v.shape (seen v) pass at.word at.stripe (n + 1))
      c.listed (remaining_place v.shape (seen v) pass at.word at.stripe n place.within place.on_row place.inside)
      ∙ ap (λ (ds : Decided). ds ++ remaining_at v.shape (seen v) pass at.word at.stripe (n + 1)) (sym e);
}

pub told_all : (v : BlockPlane) (pass : ℕ) (at : WordPlace) (old list : Decided) → Told v pass at 64 old list → list ≡ old ++ word_decisions v.shape (seen v) pass at.word at.stripe
told_all v pass at old list c = sym (c.listed ∙ ap (λ (ds : Decided). list ++ ds) (remaining_none v.shape (seen v) pass at.word at.stripe) ∙ append-nil list)
