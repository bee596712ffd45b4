-- Which bits of a word are reached from earlier ones.
use Rattle.std.proofs.Common.{◌≡◌, ℕ, ◌-◌, ◌*◌, ◌^◌, ◌%◌, ◌<◌, ◌≤◌, Bool, true, false, not, refl, sym, ap, ◌∙◌, subst, arith}
use Rattle.std.specs.Prelude.{◌&&◌, ◌||◌, nat_le}
use Rattle.std.specs.Int.RustNames.{bit_or, bit_and}
use Rattle.std.proofs.lemmas.Nat.{or_lt, and_le_r, le_or_l}
use Rattle.std.proofs.lemmas.Bool.Decides.{nat_tests}
use Rattle.jk_scan.specs.Bits.{on}
use Rattle.jk_scan.proofs.Laws.{on_or, on_and, on_shl_any, same_from_on}
use Rattle.jk_block.specs.encoding.Reached.{reaches, is_reached}

pub reached_at : (w m : ℕ) → m < 64 → on (bit_or (bit_or (bit_or (w * 2 ^ 1 % 2 ^ 64) (w * 2 ^ 7 % 2 ^ 64)) (w * 2 ^ 8 % 2 ^ 64)) (w * 2 ^ 9 % 2 ^ 64)) m ≡ is_reached (on w) m
reached_at w m h =
    let a = w * 2 ^ 1 % 2 ^ 64 in
    let b = w * 2 ^ 7 % 2 ^ 64 in
    let d = w * 2 ^ 8 % 2 ^ 64 in
    let e = w * 2 ^ 9 % 2 ^ 64 in
    on_or (bit_or (bit_or a b) d) e m
    ∙ two (on_or (bit_or a b) d m ∙ two (on_or a b m ∙ two (on_shl_any w 1 64 m h) (on_shl_any w 7 64 m h)) (on_shl_any w 8 64 m h)) (on_shl_any w 9 64 m h)
  where
    two : {a b a' b' : Bool} → a ≡ a' → b ≡ b' → (a || b) ≡ (a' || b')
    two e g = cc

pub reach_same : (f g : ℕ → Bool) (m : ℕ) → ((k : ℕ) → f k ≡ g k) → is_reached f m ≡ is_reached g m
reach_same f g m h = four (each 1) (each 7) (each 8) (each 9)
  where
    each : (d : ℕ) → reaches f d m ≡ reaches g d m
    each d = ap (λ b. nat_le d m && b) (h (m - d))

    four : {a b d e a' b' d' e' : Bool} → a ≡ a' → b ≡ b' → d ≡ d' → e ≡ e' → (((a || b) || d) || e) ≡ (((a' || b') || d') || e')
    four p q r s = cc

pub reach_none : (f : ℕ → Bool) (m : ℕ) → ((k : ℕ) → k < m → f k ≡ false) → is_reached f m ≡ false
reach_none f m h = four (each 1 (omega arith)) (each 7 (omega arith)) (each 8 (omega arith)) (each 9 (omega arith))
  where
    off : (le v : Bool) → (le ≡ true → v ≡ false) → (le && v) ≡ false
    off true v h = h refl
    off false v h = refl

    each : (d : ℕ) → 1 ≤ d → reaches f d m ≡ false
    each d some = off (nat_le d m) (f (m - d)) (λ e. h (m - d) (let g : d ≤ m = grind (arith, nat_tests) in omega (arith, g)))

    four : {a b d e : Bool} → a ≡ false → b ≡ false → d ≡ false → e ≡ false → (((a || b) || d) || e) ≡ false
    four p q r s = cc

-- one bit after another
pub reach_both : (f g : ℕ → Bool) (m : ℕ) → is_reached (λ k. f k || g k) m ≡ (is_reached f m || is_reached g m)
reach_both f g m = eight (nat_le 1 m) (nat_le 7 m) (nat_le 8 m) (nat_le 9 m) (f (m - 1)) (f (m - 7)) (f (m - 8)) (f (m - 9)) (g (m - 1)) (g (m - 7)) (g (m - 8)) (g (m - 9))
  where
    eight : (p q r s a b d e a' b' d' e' : Bool) → ((((p && (a || a')) || (q && (b || b'))) || (r && (d || d'))) || (s && (e || e'))) ≡ (((((p && a) || (q && b)) || (r && d)) || (s && e)) || ((((p && a') || (q && b')) || (r && d')) || (s && e')))
    eight p q r s a b d e a' b' d' e' = grind (arith, nat_tests)

-- How far the places are known: all that are, and those that are reached from them.
pub record Reaching (candidates ones free all more : ℕ) : Type 0 where
  pub fits : all < 2 ^ 64
  pub more_fits : more < 2 ^ 64
  pub more_is : (m : ℕ) → m < 64 → on more m ≡ (on candidates m || (on free m && is_reached (λ k. on all k && on ones k) m))
  pub kept : (m : ℕ) → m < 64 → on all m ≡ true → on more m ≡ true

abbrev pub next_of : (candidates free hit : ℕ) → ℕ
next_of candidates free hit = bit_or candidates (bit_and hit free)

pub next_at : (candidates ones free all hit : ℕ) → ((m : ℕ) → m < 64 → on hit m ≡ is_reached (on (bit_and all ones)) m)
    → (m : ℕ) → m < 64 → on (next_of candidates free hit) m ≡ (on candidates m || (on free m && is_reached (λ k. on all k && on ones k) m))
next_at candidates ones free all hit h m l =
    on_or candidates (bit_and hit free) m
    ∙ ap (λ b. on candidates m || b) (on_and hit free m ∙ turn (on hit m) (on free m) ∙ ap (λ b. on free m && b) (h m l ∙ reach_same (on (bit_and all ones)) (λ k. on all k && on ones k) m (on_and all ones)))
  where
    turn : (a b : Bool) → (a && b) ≡ (b && a)
    turn a b = grind (arith, nat_tests)

pub reaching_first : (candidates ones free hit : ℕ) → candidates < 2 ^ 64 → free < 2 ^ 64 → ((m : ℕ) → m < 64 → on hit m ≡ is_reached (on (bit_and candidates ones)) m) → Reaching candidates ones free candidates (next_of candidates free hit)
reaching_first candidates ones free hit fits free_fits h = record {
  fits = fits;
  more_fits = or_lt 64 candidates (bit_and hit free) fits (let e = and_le_r hit free in omega (arith, e, free_fits));
  more_is = next_at candidates ones free candidates hit h;
  kept = λ m l e. next_at candidates ones free candidates hit h m l ∙ ap (λ b. b || (on free m && is_reached (λ k. on candidates k && on ones k) m)) e;
}

pub reaching_more : (candidates ones free all more hit : ℕ) → candidates < 2 ^ 64 → free < 2 ^ 64 → Reaching candidates ones free all more → ((m : ℕ) → m < 64 → on hit m ≡ is_reached (on (bit_and more ones)) m) → Reaching candidates ones free more (next_of candidates free hit)
reaching_more candidates ones free all more hit fits free_fits r h = record {
  fits = r.more_fits;
  more_fits = or_lt 64 candidates (bit_and hit free) fits (let e = and_le_r hit free in omega (arith, e, free_fits));
  more_is = next_at candidates ones free more hit h;
  kept = λ m l e.
      next_at candidates ones free more hit h m l
      ∙ grows (on candidates m) (on free m) (is_reached (λ k. on all k && on ones k) m) (is_reached (λ k. on more k && on ones k) m) (sym (r.more_is m l) ∙ e)
      (λ e. wider m l (nat_le 1 m) (nat_le 7 m) (nat_le 8 m) (nat_le 9 m) (on all (m - 1) && on ones (m - 1)) (on all (m - 7) && on ones (m - 7)) (on all (m - 8) && on ones (m - 8)) (on all (m - 9) && on ones (m - 9))
      (on more (m - 1) && on ones (m - 1)) (on more (m - 7) && on ones (m - 7)) (on more (m - 8) && on ones (m - 8)) (on more (m - 9) && on ones (m - 9)) (each m l 1) (each m l 7) (each m l 8) (each m l 9) e);
}
  where
    grows : (c f a b : Bool) → (c || (f && a)) ≡ true → (a ≡ true → b ≡ true) → (c || (f && b)) ≡ true
    grows true f a b e h = refl
    grows false true true b e h = h refl
    grows false true false b e h = absurd cc
    grows false false a b e h = absurd cc

    either : (a b o : Bool) → (a ≡ true → b ≡ true) → (not (a && o) || (b && o)) ≡ true
    either true b true h = ap (λ b. b && true) (h refl)
    either true b false h = refl
    either false b o h = refl

    each : (m : ℕ) → m < 64 → (d : ℕ) → (not (on all (m - d) && on ones (m - d)) || (on more (m - d) && on ones (m - d))) ≡ true
    each m l d = either (on all (m - d)) (on more (m - d)) (on ones (m - d)) (λ e. r.kept (m - d) (omega (arith, l)) e)

    wider : (m : ℕ) → m < 64 → (p q r s a b d e a' b' d' e' : Bool) → (not a || a') ≡ true → (not b || b') ≡ true → (not d || d') ≡ true → (not e || e') ≡ true
        → ((((p && a) || (q && b)) || (r && d)) || (s && e)) ≡ true → ((((p && a') || (q && b')) || (r && d')) || (s && e')) ≡ true
    wider m l p q r s a b d e a' b' d' e' ha hb hd he h = grind (arith, nat_tests)

-- the loop comes to an end
pub reaching_less : (candidates ones free all more : ℕ) → Reaching candidates ones free all more → (more ≡ all → ⊥) → all < more
reaching_less candidates ones free all more r differ =
    let fits = r.more_fits in
    let joined : bit_or all more ≡ more = same_from_on 64 (bit_or all more) more (let f = r.fits in or_lt 64 all more f fits) fits (λ m l. on_or all more m ∙ within (on all m) (on more m) (r.kept m l)) in
    let le = le_or_l all more in
    let le' : all ≤ more = subst (λ n. all ≤ n) joined le in
    strict all more le' differ
  where
    within : (a b : Bool) → (a ≡ true → b ≡ true) → (a || b) ≡ b
    within true b h = sym (h refl)
    within false b h = refl

    strict : (a b : ℕ) → a ≤ b → (b ≡ a → ⊥) → a < b
    strict a b le h = grind (arith, nat_tests)

pub reaching_all : (candidates ones free all more : ℕ) → Reaching candidates ones free all more → more ≡ all → (m : ℕ) → m < 64 → on all m ≡ (on candidates m || (on free m && is_reached (λ k. on all k && on ones k) m))
reaching_all candidates ones free all more r e m l = ap (λ w. on w m) (sym e) ∙ r.more_is m l
