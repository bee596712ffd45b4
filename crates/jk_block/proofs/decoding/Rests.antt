-- What is left of a word in a pass, from a bit on.
use Rattle.std.proofs.Common.{◌≡◌, ℕ, zero, suc, ◌+◌, ◌-◌, ◌*◌, ◌/◌, ◌%◌, ◌<◌, ◌≤◌, Bool, true, false, cond, List, Result, Ok, Err, refl, sym, ap, ◌∙◌, inl, inr, arith}
use Rattle.std.specs.Prelude.{◌&&◌, nat_eq, nat_lt}
use Rattle.std.proofs.lemmas.Bool.{cases_lt, and_parts}
use Rattle.std.proofs.lemmas.Bool.Decides.{nat_tests}
use Rattle.jk_math.specs.declared.fault.Fault.{Fault}
use Rattle.jk_math.specs.Answer.{◌>>=◌}
use Rattle.jk_math.specs.Steps.{done}
use Rattle.jk_scan.specs.declared.shape.BlockShape.{BlockShape}
use Rattle.jk_scan.specs.Neighbours.{is_inside}
use Rattle.jk_scan.specs.Moments.{cleanup}
use Rattle.jk_scan.specs.Words.{of_rows}
use Rattle.jk_scan.specs.WordPlaces.{column, row}
use Rattle.jk_scan.proofs.Laws.{inside_parts, rows_between}
use Rattle.jk_block.specs.Reading.{Progress, known_significant, times, place_at, rows_at, is_quiet, read_run, column_at}
use Rattle.jk_block.specs.Steps.{word_column, word_pass}
use Rattle.jk_block.proofs.decoding.WordSteps.{is_due, place_idle}

Step : Type 0
Step = Progress → Result Progress Fault

pub bind_assoc : (r : Result Progress Fault) (f g : Progress → Result Progress Fault) → ((r >>= f) >>= g) ≡ (r >>= λ w. f w >>= g)
bind_assoc (Ok w) f g = refl
bind_assoc (Err e) f g = refl

bind_ok : (r : Result Progress Fault) → (r >>= λ w. done w) ≡ r
bind_ok (Ok w) = refl
bind_ok (Err e) = refl

pub bind_same : (r : Result Progress Fault) (f g : Progress → Result Progress Fault) → ((w : Progress) → f w ≡ g w) → (r >>= f) ≡ (r >>= g)
bind_same (Ok w) f g e = e w
bind_same (Err d) f g e = refl

pub times_same : (n : ℕ) (f g : ℕ → Progress → Result Progress Fault) (z : Progress) → ((d : ℕ) → d < n → (w : Progress) → f d w ≡ g d w) → times n f z ≡ times n g z
unfolding times
times_same zero f g z e = refl
times_same (suc n) f g z e = ap (λ (r : Result Progress Fault). r >>= f n) (times_same n f g z (λ d h w. e d (omega arith) w)) ∙ bind_same (times n g z) (f n) (g n) (e n (omega arith))

pub times_head : (n : ℕ) (f : ℕ → Progress → Result Progress Fault) (z : Progress) → times (suc n) f z ≡ (f 0 z >>= times n (λ d. f (suc d)))
unfolding times
times_head zero f z = sym (bind_ok (f 0 z))
times_head (suc n) f z =
    ap (λ (r : Result Progress Fault). r >>= f (suc n)) (times_head n f z)
    ∙ bind_assoc (f 0 z) (times n (λ d. f (suc d))) (f (suc n))

pub times_none : (f : ℕ → Progress → Result Progress Fault) (z : Progress) → times 0 f z ≡ Ok z
unfolding times
times_none f z = refl

-- a + b steps are a of them, and then b
pub times_parts : (a b : ℕ) (f : ℕ → Progress → Result Progress Fault) (z : Progress) → times (a + b) f z ≡ (times a f z >>= times b (λ d. f (a + d)))
unfolding times
times_parts a zero f z = ap (λ n. times n f z) (let e : a + 0 ≡ a = omega arith in e) ∙ sym (bind_ok (times a f z))
times_parts a (suc b) f z =
    ap (λ n. times n f z) (let e : a + suc b ≡ suc (a + b) = omega arith in e)
    ∙ ap (λ (r : Result Progress Fault). r >>= f (a + b)) (times_parts a b f z)
    ∙ bind_assoc (times a f z) (times b (λ d. f (a + d))) (f (a + b))

-- the rows of a column from the row r on
abbrev pub rows_left : List ℕ → BlockShape → (b pass j i c r : ℕ) → Progress → Result Progress Fault
rows_left bytes s b pass j i c r z = cond (nat_lt (8 * j + c) s.width) (rows_at bytes s b pass (8 * j + c) i r (4 - r) z) (done z)

-- the columns behind a column
abbrev pub behind : List ℕ → BlockShape → (b pass j i c : ℕ) → Progress → Result Progress Fault
behind bytes s b pass j i c z = times (7 - c) (λ d. word_column bytes s b pass j i (c + 1 + d)) z

-- What is left of a word from bit r of byte c on. At bit 0 the column has not begun.
pub rest : List ℕ → BlockShape → (b pass j i c r : ℕ) → Progress → Result Progress Fault
rest bytes s b pass j i c zero z = times (8 - c) (λ d. word_column bytes s b pass j i (c + d)) z
rest bytes s b pass j i c (suc r) z = rows_left bytes s b pass j i c r z >>= behind bytes s b pass j i c

abbrev pub rest_at : List ℕ → BlockShape → (b pass j i n : ℕ) → Progress → Result Progress Fault
rest_at bytes s b pass j i n z = rest bytes s b pass j i (n / 8) (n % 8) z

pub rest_all : (bytes : List ℕ) (s : BlockShape) (b pass j i : ℕ) (z : Progress) → word_pass bytes s b pass j i z ≡ rest_at bytes s b pass j i 0 z
unfolding rest word_pass
rest_all bytes s b pass j i z = times_same 8 (word_column bytes s b pass j i) (λ d. word_column bytes s b pass j i (0 + d)) z (λ d h w. ap (λ c. word_column bytes s b pass j i c w) (let e : d ≡ 0 + d = omega arith in e))

pub rest_none : (bytes : List ℕ) (s : BlockShape) (b pass j i : ℕ) (z : Progress) → rest_at bytes s b pass j i 64 z ≡ Ok z
unfolding rest
rest_none bytes s b pass j i z = times_none (λ d. word_column bytes s b pass j i (8 + d)) z

-- the column that begins, and the others
pub rest_head : (bytes : List ℕ) (s : BlockShape) (b pass j i c : ℕ) (z : Progress) → c < 8 → rest bytes s b pass j i c 0 z ≡ (word_column bytes s b pass j i c z >>= behind bytes s b pass j i c)
unfolding rest
rest_head bytes s b pass j i c z h =
    ap (λ n. times n (λ d. word_column bytes s b pass j i (c + d)) z) (let e : 8 - c ≡ suc (7 - c) = omega arith in e)
    ∙ times_head (7 - c) (λ d. word_column bytes s b pass j i (c + d)) z
    ∙ ap (λ n. word_column bytes s b pass j i n z >>= times (7 - c) (λ d. word_column bytes s b pass j i (c + suc d))) (let e : c + 0 ≡ c = omega arith in e)
    ∙ bind_same (word_column bytes s b pass j i c z) (times (7 - c) (λ d. word_column bytes s b pass j i (c + suc d))) (behind bytes s b pass j i c)
    (λ w. times_same (7 - c) (λ d. word_column bytes s b pass j i (c + suc d)) (λ d. word_column bytes s b pass j i (c + 1 + d)) w (λ d l v. ap (λ n. word_column bytes s b pass j i n v) (let e : c + suc d ≡ c + 1 + d = omega arith in e)))

-- the column is coded in run mode
abbrev pub is_run : BlockShape → (pass j i c : ℕ) → Progress → Bool
is_run s pass j i c z = nat_lt (8 * j + c) s.width && (nat_eq pass cleanup && is_quiet s (known_significant s z) (8 * j + c) i)

plain_column : (bytes : List ℕ) (s : BlockShape) (b pass j i c : ℕ) (z : Progress) → is_run s pass j i c z ≡ false → word_column bytes s b pass j i c z ≡ rows_left bytes s b pass j i c 0 z
unfolding word_column column_at
plain_column bytes s b pass j i c z e = by (nat_lt (8 * j + c) s.width) (nat_eq pass cleanup && is_quiet s (known_significant s z) (8 * j + c) i) e
  where
    by : (w q : Bool) → (w && q) ≡ false → cond w (cond q (read_run bytes s b (8 * j + c) i z) (rows_at bytes s b pass (8 * j + c) i 0 4 z)) (done z) ≡ cond w (rows_at bytes s b pass (8 * j + c) i 0 4 z) (done z)
    by true q e = ap (λ q. cond q (read_run bytes s b (8 * j + c) i z) (rows_at bytes s b pass (8 * j + c) i 0 4 z)) e
    by false q e = refl

run_column : (bytes : List ℕ) (s : BlockShape) (b pass j i c : ℕ) (z : Progress) → is_run s pass j i c z ≡ true → word_column bytes s b pass j i c z ≡ read_run bytes s b (8 * j + c) i z
unfolding word_column column_at
run_column bytes s b pass j i c z e = by (nat_lt (8 * j + c) s.width) (nat_eq pass cleanup && is_quiet s (known_significant s z) (8 * j + c) i) e
  where
    by : (w q : Bool) → (w && q) ≡ true → cond w (cond q (read_run bytes s b (8 * j + c) i z) (rows_at bytes s b pass (8 * j + c) i 0 4 z)) (done z) ≡ read_run bytes s b (8 * j + c) i z
    by true q e = ap (λ q. cond q (read_run bytes s b (8 * j + c) i z) (rows_at bytes s b pass (8 * j + c) i 0 4 z)) e
    by false q e = absurd cc

-- one row, and the others
row_head : (bytes : List ℕ) (s : BlockShape) (b pass x i r : ℕ) (z : Progress) → r < 4 → rows_at bytes s b pass x i r (4 - r) z ≡ (place_at bytes s b pass x (4 * i + r) z >>= rows_at bytes s b pass x i (suc r) (4 - suc r))
row_head bytes s b pass x i r z h =
    ap (λ n. times n (λ k. place_at bytes s b pass x (4 * i + (r + k))) z) (let e : 4 - r ≡ suc (4 - suc r) = omega arith in e)
    ∙ times_head (4 - suc r) (λ k. place_at bytes s b pass x (4 * i + (r + k))) z
    ∙ ap (λ n. place_at bytes s b pass x (4 * i + n) z >>= times (4 - suc r) (λ k. place_at bytes s b pass x (4 * i + (r + suc k)))) (let e : r + 0 ≡ r = omega arith in e)
    ∙ bind_same (place_at bytes s b pass x (4 * i + r) z) (times (4 - suc r) (λ k. place_at bytes s b pass x (4 * i + (r + suc k)))) (rows_at bytes s b pass x i (suc r) (4 - suc r))
    (λ w. times_same (4 - suc r) (λ k. place_at bytes s b pass x (4 * i + (r + suc k))) (λ k. place_at bytes s b pass x (4 * i + (suc r + k))) w (λ k l v. ap (λ n. place_at bytes s b pass x (4 * i + n) v) (let e : r + suc k ≡ suc r + k = omega arith in e)))

-- a place of the block, and what is left behind it
pub rest_row : (bytes : List ℕ) (s : BlockShape) (b pass j i c r : ℕ) (z : Progress) → r < 4 → nat_lt (8 * j + c) s.width ≡ true
    → rest bytes s b pass j i c (suc r) z ≡ (place_at bytes s b pass (8 * j + c) (4 * i + r) z >>= rest bytes s b pass j i c (suc (suc r)))
unfolding rest
rest_row bytes s b pass j i c r z h w =
    ap (λ q. cond q (rows_at bytes s b pass (8 * j + c) i r (4 - r) z) (done z) >>= behind bytes s b pass j i c) w
    ∙ ap (λ (o : Result Progress Fault). o >>= behind bytes s b pass j i c) (row_head bytes s b pass (8 * j + c) i r z h)
    ∙ bind_assoc (place_at bytes s b pass (8 * j + c) (4 * i + r) z) (rows_at bytes s b pass (8 * j + c) i (suc r) (4 - suc r)) (behind bytes s b pass j i c)
    ∙ bind_same (place_at bytes s b pass (8 * j + c) (4 * i + r) z) (λ v. rows_at bytes s b pass (8 * j + c) i (suc r) (4 - suc r) v >>= behind bytes s b pass j i c) (λ v. rows_left bytes s b pass j i c (suc r) v >>= behind bytes s b pass j i c)
    (λ v. sym (ap (λ q. cond q (rows_at bytes s b pass (8 * j + c) i (suc r) (4 - suc r) v) (done v) >>= behind bytes s b pass j i c) w))

-- past the width nothing is left of a column
rest_outside : (bytes : List ℕ) (s : BlockShape) (b pass j i c r : ℕ) (z : Progress) → nat_lt (8 * j + c) s.width ≡ false → rest bytes s b pass j i c (suc r) z ≡ behind bytes s b pass j i c z
unfolding rest
rest_outside bytes s b pass j i c r z w = ap (λ q. cond q (rows_at bytes s b pass (8 * j + c) i r (4 - r) z) (done z) >>= behind bytes s b pass j i c) w

-- nor behind its rows
rest_behind : (bytes : List ℕ) (s : BlockShape) (b pass j i c r : ℕ) (z : Progress) → 4 ≤ r → rest bytes s b pass j i c (suc r) z ≡ behind bytes s b pass j i c z
unfolding rest
rest_behind bytes s b pass j i c r z h =
    ap (λ n. cond (nat_lt (8 * j + c) s.width) (rows_at bytes s b pass (8 * j + c) i r n z) (done z) >>= behind bytes s b pass j i c) (let e : 4 - r ≡ 0 = omega arith in e)
    ∙ by (nat_lt (8 * j + c) s.width)
  where
    by : (q : Bool) → (cond q (rows_at bytes s b pass (8 * j + c) i r 0 z) (done z) >>= behind bytes s b pass j i c) ≡ behind bytes s b pass j i c z
    by true = ap (λ (o : Result Progress Fault). o >>= behind bytes s b pass j i c) (times_none (λ k. place_at bytes s b pass (8 * j + c) (4 * i + (r + k))) z)
    by false = refl

rest_next : (bytes : List ℕ) (s : BlockShape) (b pass j i c : ℕ) (z : Progress) → behind bytes s b pass j i c z ≡ rest bytes s b pass j i (c + 1) 0 z
unfolding rest
rest_next bytes s b pass j i c z = ap (λ n. times n (λ d. word_column bytes s b pass j i (c + 1 + d)) z) (let e : 7 - c ≡ 8 - (c + 1) = omega arith in e)

inside_or : {R : Type 0} (b : Bool) → (b ≡ true → R) → (b ≡ false → R) → R
inside_or true f g = f refl
inside_or false f g = g refl

-- nothing happens at bit r of byte c
pub record Passes (s : BlockShape) (pass j i c r : ℕ) (z : Progress) : Type 0 where
  pub plain : r ≡ 0 → is_run s pass j i c z ≡ false
  pub idle : 1 ≤ r → r < 5 → is_due s pass (8 * j + c) (4 * i + r - 1) z ≡ false

pub skip_within : (bytes : List ℕ) (s : BlockShape) (b pass j i c r : ℕ) (z : Progress) → c < 8 → r < 7 → Passes s pass j i c r z → rest bytes s b pass j i c r z ≡ rest bytes s b pass j i c (suc r) z
unfolding rest
skip_within bytes s b pass j i c zero z h l p =
    rest_head bytes s b pass j i c z h ∙ ap (λ (o : Result Progress Fault). o >>= behind bytes s b pass j i c) (plain_column bytes s b pass j i c z (p.plain refl))
skip_within bytes s b pass j i c (suc r) z h l p = elim (cases_lt r 4) [
  | inl less ↦
      inside_or (nat_lt (8 * j + c) s.width)
      (λ w. rest_row bytes s b pass j i c r z less w
      ∙ ap (λ (o : Result Progress Fault). o >>= rest bytes s b pass j i c (suc (suc r)))
      (place_idle bytes s b pass (8 * j + c) (4 * i + r) z (ap (λ y. is_due s pass (8 * j + c) y z) (let e : 4 * i + r ≡ 4 * i + suc r - 1 = omega arith in e) ∙ p.idle (omega arith) (omega arith))))
      (λ w. rest_outside bytes s b pass j i c r z w ∙ sym (rest_outside bytes s b pass j i c (suc r) z w))
  | inr past ↦ rest_behind bytes s b pass j i c r z past ∙ sym (rest_behind bytes s b pass j i c (suc r) z (omega arith))
]

pub skip_last : (bytes : List ℕ) (s : BlockShape) (b pass j i c : ℕ) (z : Progress) → rest bytes s b pass j i c 7 z ≡ rest bytes s b pass j i (c + 1) 0 z
skip_last bytes s b pass j i c z = rest_behind bytes s b pass j i c 6 z (omega arith) ∙ rest_next bytes s b pass j i c z

-- one bit on
skip_one : (bytes : List ℕ) (s : BlockShape) (b pass j i n : ℕ) (z : Progress) → n < 64 → Passes s pass j i (n / 8) (n % 8) z → rest_at bytes s b pass j i n z ≡ rest_at bytes s b pass j i (suc n) z
skip_one bytes s b pass j i n z h p = elim (cases_lt (n % 8) 7) [
  | inl less ↦
      skip_within bytes s b pass j i (n / 8) (n % 8) z (omega arith) less p
      ∙ ap (λ c. rest bytes s b pass j i c (suc (n % 8)) z) (let e : n / 8 ≡ suc n / 8 = omega arith in e) ∙ ap (λ r. rest bytes s b pass j i (suc n / 8) r z) (let e : suc (n % 8) ≡ suc n % 8 = omega arith in e)
  | inr last ↦
      ap (λ r. rest bytes s b pass j i (n / 8) r z) (let e : n % 8 ≡ 7 = omega arith in e) ∙ skip_last bytes s b pass j i (n / 8) z
      ∙ ap (λ c. rest bytes s b pass j i c 0 z) (let e : n / 8 + 1 ≡ suc n / 8 = omega arith in e) ∙ ap (λ r. rest bytes s b pass j i (suc n / 8) r z) (let e : 0 ≡ suc n % 8 = omega arith in e)
]

pub skip : (bytes : List ℕ) (s : BlockShape) (b pass j i n d : ℕ) (z : Progress) → n + d ≤ 64 → ((m : ℕ) → n ≤ m → m < n + d → Passes s pass j i (m / 8) (m % 8) z) → rest_at bytes s b pass j i n z ≡ rest_at bytes s b pass j i (n + d) z
skip bytes s b pass j i n zero z h p = ap (λ n. rest_at bytes s b pass j i n z) (let e : n ≡ n + 0 = omega arith in e)
skip bytes s b pass j i n (suc d) z h p =
    skip bytes s b pass j i n d z (omega arith) (λ m a l. p m a (omega arith)) ∙ skip_one bytes s b pass j i (n + d) z (omega arith) (p (n + d) (omega arith) (omega arith))
    ∙ ap (λ n. rest_at bytes s b pass j i n z) (let e : suc (n + d) ≡ n + suc d = omega arith in e)

-- the place at a bit, and what is left behind it
pub rest_place : (bytes : List ℕ) (s : BlockShape) (b pass j i n : ℕ) (z : Progress) → n < 64 → of_rows (n % 8) ≡ true → is_inside s (column j n) (row i n) ≡ true
    → rest_at bytes s b pass j i n z ≡ (place_at bytes s b pass (column j n) (row i n) z >>= rest_at bytes s b pass j i (n + 1))
rest_place bytes s b pass j i n z h on_row inside =
    let between = rows_between (n % 8) on_row in
    let parts = inside_parts s (column j n) (row i n) inside in
    let w : nat_lt (8 * j + n / 8) s.width ≡ true = let p = parts.0 in grind (arith, nat_tests) in
    ap (λ r. rest bytes s b pass j i (n / 8) r z) (let e : n % 8 ≡ suc (n % 8 - 1) = omega (arith, between) in e)
    ∙ rest_row bytes s b pass j i (n / 8) (n % 8 - 1) z (omega (arith, between)) w
    ∙ ap (λ y. place_at bytes s b pass (8 * j + n / 8) y z >>= rest bytes s b pass j i (n / 8) (suc (suc (n % 8 - 1)))) (let e : 4 * i + (n % 8 - 1) ≡ 4 * i + n % 8 - 1 = omega (arith, between) in e)
    ∙ bind_same (place_at bytes s b pass (column j n) (row i n) z) (rest bytes s b pass j i (n / 8) (suc (suc (n % 8 - 1)))) (rest_at bytes s b pass j i (n + 1))
    (λ v. ap (λ r. rest bytes s b pass j i (n / 8) r v) (let e : suc (suc (n % 8 - 1)) ≡ (n + 1) % 8 = omega (arith, between) in e) ∙ ap (λ c. rest bytes s b pass j i c ((n + 1) % 8) v) (let e : n / 8 ≡ (n + 1) / 8 = omega (arith, between) in e))

-- a column in run mode, and what is left behind its first significant row
pub rest_run : (bytes : List ℕ) (s : BlockShape) (b pass j i n f : ℕ) (z w : Progress) → n < 64 → n % 8 ≡ 0 → f ≤ 4 → is_run s pass j i (n / 8) z ≡ true
    → read_run bytes s b (8 * j + n / 8) i z ≡ rows_at bytes s b pass (8 * j + n / 8) i (f + 1) (3 - f) w → rest_at bytes s b pass j i n z ≡ rest_at bytes s b pass j i (n + f + 2) w
unfolding rest
rest_run bytes s b pass j i n f z w h first few run e =
    let c = n / 8 in
    let inside = (and_parts (nat_lt (8 * j + c) s.width) (nat_eq pass cleanup && is_quiet s (known_significant s z) (8 * j + c) i) run).0 in
    ap (λ r. rest bytes s b pass j i c r z) first
    ∙ rest_head bytes s b pass j i c z (omega arith)
    ∙ ap (λ (o : Result Progress Fault). o >>= behind bytes s b pass j i c) (run_column bytes s b pass j i c z run ∙ e ∙ ap (λ n. rows_at bytes s b pass (8 * j + c) i (f + 1) n w) (let g : 3 - f ≡ 4 - (f + 1) = omega arith in g))
    ∙ sym (ap (λ q. cond q (rows_at bytes s b pass (8 * j + c) i (f + 1) (4 - (f + 1)) w) (done w) >>= behind bytes s b pass j i c) inside)
    ∙ ap (λ r. rest bytes s b pass j i c r w) (let g : suc (f + 1) ≡ (n + f + 2) % 8 = omega arith in g) ∙ ap (λ c. rest bytes s b pass j i c ((n + f + 2) % 8) w) (let g : c ≡ (n + f + 2) / 8 = omega arith in g)

pub rest_run_fault : (bytes : List ℕ) (s : BlockShape) (b pass j i n : ℕ) (z : Progress) (e : Fault) → n < 64 → n % 8 ≡ 0 → is_run s pass j i (n / 8) z ≡ true
    → read_run bytes s b (8 * j + n / 8) i z ≡ Err e → rest_at bytes s b pass j i n z ≡ Err e
rest_run_fault bytes s b pass j i n z e h first run g =
    ap (λ r. rest bytes s b pass j i (n / 8) r z) first ∙ rest_head bytes s b pass j i (n / 8) z (omega arith)
    ∙ ap (λ (o : Result Progress Fault). o >>= behind bytes s b pass j i (n / 8)) (run_column bytes s b pass j i (n / 8) z run ∙ g)
