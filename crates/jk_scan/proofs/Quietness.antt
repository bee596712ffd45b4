-- The bytes that are 0.
use Rattle.std.proofs.Common.{◌≡◌, ℕ, zero, suc, ◌+◌, ◌-◌, ◌*◌, ◌/◌, ◌%◌, ◌^◌, ◌<◌, ◌≤◌, Bool, true, false, not, refl, sym, ap, ◌∙◌, arith}
use Rattle.std.specs.Prelude.{◌&&◌, ◌||◌, nat_eq, nat_lt}
use Rattle.std.specs.Int.RustNames.{bit_and}
use Rattle.std.proofs.lemmas.Nat.{shr-shr, pow-add, pow_pos}
use Rattle.std.proofs.Math.Nat.{mod-lt}
use Rattle.std.proofs.lemmas.Bool.Decides.{nat_tests}
use Rattle.jk_scan.specs.Bits.{on}
use Rattle.jk_scan.specs.Words.{any_of_six, IsNarrow}
use Rattle.jk_scan.proofs.BitLaws.{on_and, on_shr, on_shr_at, on_mod}
use Rattle.jk_scan.proofs.Patterns.{all_below, all_at, same, same_is, seconds}

-- byte c of a word
byte : (word c : ℕ) → ℕ
byte word c = word / 2 ^ (8 * c) % 2 ^ 8

byte_below : (word c : ℕ) → byte word c < 2 ^ 8
unfolding byte
byte_below word c = mod-lt (word / 2 ^ (8 * c)) (pow_pos 8)

byte_on : (word c i : ℕ) → i < 8 → on (byte word c) i ≡ on word (8 * c + i)
unfolding byte
byte_on word c i h = on_mod (word / 2 ^ (8 * c)) 8 i h ∙ on_shr word (8 * c) i

-- the word that has 80 in each of n bytes
tops : ℕ → ℕ
tops zero = 0
tops (suc n) = 128 + 256 * tops n

byte-suc : (word c : ℕ) → byte (word / 256) c ≡ byte word (suc c)
unfolding byte
byte-suc word c = ap (λ x. x % 2 ^ 8) (shr-shr word 8 (8 * c) ∙ ap (λ e. word / 2 ^ e) (omega arith))

byte-zero : (word : ℕ) → byte word 0 ≡ word % 256
unfolding byte
byte-zero word = ap (λ x. x % 256) (let e : word / 1 ≡ word = omega arith in e)

covers : (n d : ℕ) → d < 2 ^ (8 * n) → ((c : ℕ) → c < n → byte d c < 64) → d ≤ tops n
unfolding tops
covers zero d lim small = omega arith
covers (suc n) d lim small =
    let power : 2 ^ (8 * suc n) ≡ 256 * 2 ^ (8 * n) = ap (λ e. 2 ^ e) (omega arith) ∙ pow-add 2 8 (8 * n) in
    let rest = covers n (d / 256) (omega (arith, power)) (λ c h. let e = byte-suc d c in let g = small (suc c) (omega arith) in omega (arith, e, g)) in
    let low = small 0 (omega arith) in
    let is = byte-zero d in
    omega (arith, rest, low, is)

byte_less : (n d c : ℕ) → c < n → d < 2 ^ (8 * n) → ((c : ℕ) → c < n → byte d c < 64) → byte (tops n - d) c ≡ 128 - byte d c
unfolding tops
byte_less zero d c h lim small = absurd (omega arith)
byte_less (suc n) d zero h lim small =
    let all = covers (suc n) d lim small in
    let low = small 0 (omega arith) in
    let is = byte-zero d in
    let goal_is = byte-zero (128 + 256 * tops n - d) in
    omega (arith, all, low, is, goal_is)
byte_less (suc n) d (suc c) h lim small =
    let power : 2 ^ (8 * suc n) ≡ 256 * 2 ^ (8 * n) = ap (λ e. 2 ^ e) (omega arith) ∙ pow-add 2 8 (8 * n) in
    let all = covers (suc n) d lim small in
    let low = small 0 (omega arith) in
    let is = byte-zero d in
    let shifted : (128 + 256 * tops n - d) / 256 ≡ tops n - d / 256 = omega (arith, all, low, is) in
    sym (byte-suc (128 + 256 * tops n - d) c) ∙ ap (λ x. byte x c) shifted
    ∙ byte_less n (d / 256) c (omega arith) (omega (arith, power)) (λ c h. let e = byte-suc d c in let g = small (suc c) (omega arith) in omega (arith, e, g))
    ∙ ap (λ x. 128 - x) (byte-suc d c)

-- of one byte, by looking at each
six : ℕ → Bool
six b = on b 0 || (on b 1 || (on b 2 || (on b 3 || (on b 4 || on b 5))))

top_of : (b : ℕ) → b < 64 → on (128 - b) 7 ≡ not (six b)
unfolding on all_below same six
top_of b h = same_is (on (128 - b) 7) (not (six b)) (all_at 64 (λ b. same (on (128 - b) 7) (not (six b))) refl b h)

narrow_byte : (b : ℕ) → b < 256 → on b 6 ≡ false → on b 7 ≡ false → b < 64
unfolding on all_below
narrow_byte b h e g = by_test (on b 6) (on b 7) (all_at 256 (λ b. (on b 6 || on b 7) || nat_lt b 64) refl b h) e g
  where
    by_test : (p q : Bool) → ((p || q) || nat_lt b 64) ≡ true → p ≡ false → q ≡ false → b < 64
    by_test p q k m n = grind (arith, nat_tests)

narrow : (d : ℕ) → IsNarrow d → (c : ℕ) → c < 8 → byte d c < 64
narrow d h c l =
    narrow_byte (byte d c) (byte_below d c) (byte_on d c 6 (omega arith) ∙ h c 6 l (omega arith) (omega arith)) (byte_on d c 7 (omega arith) ∙ h c 7 l (omega arith) (omega arith))

tops_are : tops 8 ≡ 0x8080_8080_8080_8080
unfolding tops
tops_are = refl

pub quiet_fits : (d : ℕ) → d < 2 ^ 64 → IsNarrow d → d ≤ 0x8080_8080_8080_8080
quiet_fits d lim h = let c = covers 8 d lim (narrow d h) in let t = tops_are in omega (arith, c, t)

pub quiet_at : (d : ℕ) → d < 2 ^ 64 → IsNarrow d → (c i : ℕ) → c < 8 → i < 8 → on (bit_and ((0x8080_8080_8080_8080 - d) / 2 ^ 6) 0x0202_0202_0202_0202) (8 * c + i) ≡ (nat_eq i 1 && not (any_of_six d c))
unfolding six
quiet_at d lim h c i p q =
    let w = 0x8080_8080_8080_8080 - d in
    on_and (w / 2 ^ 6) 0x0202_0202_0202_0202 (8 * c + i) ∙ ap (λ b. on (w / 2 ^ 6) (8 * c + i) && b) (seconds c i p q)
    ∙ gated (on (w / 2 ^ 6) (8 * c + i)) (not (any_of_six d c)) i 1 (λ e. on_shr_at w 6 (8 * c + 7) (8 * c + i) (omega arith) ∙ sym (byte_on w c 7 (omega arith))
    ∙ ap (λ t. on (byte (t - d) c) 7) (sym tops_are) ∙ ap (λ b. on b 7) (byte_less 8 d c p lim (narrow d h)) ∙ top_of (byte d c) (narrow d h c p)
    ∙ ap not (six_is (byte_on d c 0 (omega arith)) (byte_on d c 1 (omega arith)) (byte_on d c 2 (omega arith)) (byte_on d c 3 (omega arith)) (byte_on d c 4 (omega arith)) (byte_on d c 5 (omega arith))))
  where
    gated : (x y : Bool) (i n : ℕ) → (i ≡ n → x ≡ y) → (x && nat_eq i n) ≡ (nat_eq i n && y)
    gated x y i n h = grind (arith, nat_tests)

    six_is : {a b d e g h a' b' d' e' g' h' : Bool} → a ≡ a' → b ≡ b' → d ≡ d' → e ≡ e' → g ≡ g' → h ≡ h' → (a || (b || (d || (e || (g || h))))) ≡ (a' || (b' || (d' || (e' || (g' || h')))))
    six_is i j k l m n = cc
