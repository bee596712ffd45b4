-- What is left to list of a word in a pass, from a bit on.
use Rattle.std.proofs.Common.{◌≡◌, ℕ, zero, suc, ◌+◌, ◌-◌, ◌*◌, ◌/◌, ◌%◌, ◌<◌, ◌≤◌, Bool, true, false, cond, [], ◌++◌, refl, sym, ap, ◌∙◌, append_assoc, inl, inr, arith}
use Rattle.std.specs.Prelude.{◌&&◌, nat_eq, nat_lt}
use Rattle.std.proofs.lemmas.Bool.{cases_lt, and_parts}
use Rattle.std.proofs.lemmas.Bool.Decides.{nat_tests}
use Rattle.std.proofs.lemmas.List.{append-nil}
use Rattle.jk_scan.specs.declared.shape.BlockShape.{BlockShape}
use Rattle.jk_scan.specs.Neighbours.{Field, is_inside}
use Rattle.jk_scan.specs.Words.{of_rows}
use Rattle.jk_scan.specs.WordPlaces.{column, row}
use Rattle.jk_scan.specs.Flags.{across}
use Rattle.jk_scan.specs.Passes.{BlockAtPlane, Decided, joined, place_decisions, rows_decisions, in_run_mode, first_one, run_decisions, column_decisions}
use Rattle.jk_scan.proofs.Laws.{inside_parts, rows_between}
use Rattle.jk_block.specs.encoding.Viewed.{column_if, word_decisions}
use Rattle.jk_block.proofs.encoding.Listed.{place_none}
use Rattle.jk_block.proofs.Seeing.{is_due}

joined_same : (n : ℕ) (f g : ℕ → Decided) → ((d : ℕ) → d < n → f d ≡ g d) → joined n f ≡ joined n g
unfolding joined
joined_same zero f g e = refl
joined_same (suc n) f g e = ap (λ (ds : Decided). ds ++ f n) (joined_same n f g (λ d h. e d (omega arith))) ∙ ap (λ (ds : Decided). joined n g ++ ds) (e n (omega arith))

joined_head : (n : ℕ) (f : ℕ → Decided) → joined (suc n) f ≡ f 0 ++ joined n (λ d. f (suc d))
unfolding joined
joined_head zero f = sym (append-nil (f 0))
joined_head (suc n) f = ap (λ (ds : Decided). ds ++ f (suc n)) (joined_head n f) ∙ append_assoc (f 0) (joined n (λ d. f (suc d))) (f (suc n))

joined_zero : (f : ℕ → Decided) → joined 0 f ≡ []
unfolding joined
joined_zero f = refl

joined_parts : (a b : ℕ) (f : ℕ → Decided) → joined (a + b) f ≡ joined a f ++ joined b (λ d. f (a + d))
unfolding joined
joined_parts a zero f = ap (λ n. joined n f) (let e : a + 0 ≡ a = omega arith in e) ∙ sym (append-nil (joined a f))
joined_parts a (suc b) f =
    ap (λ n. joined n f) (let e : a + suc b ≡ suc (a + b) = omega arith in e)
    ∙ ap (λ (ds : Decided). ds ++ f (a + b)) (joined_parts a b f) ∙ append_assoc (joined a f) (joined b (λ d. f (a + d))) (f (a + b))

-- the rows of a column from the row r on
abbrev pub rows_left : BlockShape → BlockAtPlane → (pass j i c r : ℕ) → Decided
rows_left s p pass j i c r = cond (nat_lt (8 * j + c) s.width) (rows_decisions s p pass (8 * j + c) i r (4 - r)) []

-- the columns behind a column
abbrev pub behind : BlockShape → BlockAtPlane → (pass j i c : ℕ) → Decided
behind s p pass j i c = joined (7 - c) (λ d. column_if s p pass j i (c + 1 + d))

-- What is left of a word from bit r of byte c on. At bit 0 the column has not begun.
pub remaining : BlockShape → BlockAtPlane → (pass j i c r : ℕ) → Decided
remaining s p pass j i c zero = joined (8 - c) (λ d. column_if s p pass j i (c + d))
remaining s p pass j i c (suc r) = rows_left s p pass j i c r ++ behind s p pass j i c

abbrev pub remaining_at : BlockShape → BlockAtPlane → (pass j i n : ℕ) → Decided
remaining_at s p pass j i n = remaining s p pass j i (n / 8) (n % 8)

pub remaining_all : (s : BlockShape) (p : BlockAtPlane) (pass j i : ℕ) → word_decisions s p pass j i ≡ remaining_at s p pass j i 0
unfolding remaining word_decisions
remaining_all s p pass j i = joined_same 8 (column_if s p pass j i) (λ d. column_if s p pass j i (0 + d)) (λ d h. ap (column_if s p pass j i) (let e : d ≡ 0 + d = omega arith in e))

pub remaining_none : (s : BlockShape) (p : BlockAtPlane) (pass j i : ℕ) → remaining_at s p pass j i 64 ≡ []
unfolding remaining
remaining_none s p pass j i = joined_zero (λ d. column_if s p pass j i (8 + d))

-- the column that begins, and the others
head : (s : BlockShape) (p : BlockAtPlane) (pass j i c : ℕ) → c < 8 → remaining s p pass j i c 0 ≡ column_if s p pass j i c ++ behind s p pass j i c
unfolding remaining
head s p pass j i c h =
    ap (λ n. joined n (λ d. column_if s p pass j i (c + d))) (let e : 8 - c ≡ suc (7 - c) = omega arith in e)
    ∙ joined_head (7 - c) (λ d. column_if s p pass j i (c + d))
    ∙ ap (λ n. column_if s p pass j i n ++ joined (7 - c) (λ d. column_if s p pass j i (c + suc d))) (let e : c + 0 ≡ c = omega arith in e)
    ∙ ap (λ (ds : Decided). column_if s p pass j i c ++ ds)
    (joined_same (7 - c) (λ d. column_if s p pass j i (c + suc d)) (λ d. column_if s p pass j i (c + 1 + d)) (λ d l. ap (column_if s p pass j i) (let e : c + suc d ≡ c + 1 + d = omega arith in e)))

-- the column is coded in run mode
abbrev pub is_run : BlockShape → Field ℕ → (pass j i c : ℕ) → Bool
is_run s a pass j i c = nat_lt (8 * j + c) s.width && (nat_eq pass 2 && in_run_mode s a (8 * j + c) i)

pub plain_column : (s : BlockShape) (p : BlockAtPlane) (pass j i c : ℕ) → is_run s p.magnitude pass j i c ≡ false → column_if s p pass j i c ≡ rows_left s p pass j i c 0
unfolding column_if column_decisions
plain_column s p pass j i c e = by (nat_lt (8 * j + c) s.width) (nat_eq pass 2 && in_run_mode s p.magnitude (8 * j + c) i) e
  where
    by : (w q : Bool) → (w && q) ≡ false
        → cond w (cond q (run_decisions s p (8 * j + c) i (first_one p.magnitude (8 * j + c) i)) (rows_decisions s p pass (8 * j + c) i 0 4)) [] ≡ cond w (rows_decisions s p pass (8 * j + c) i 0 4) []
    by true q e = ap (λ q. cond q (run_decisions s p (8 * j + c) i (first_one p.magnitude (8 * j + c) i)) (rows_decisions s p pass (8 * j + c) i 0 4)) e
    by false q e = refl

pub run_column : (s : BlockShape) (p : BlockAtPlane) (pass j i c : ℕ) → is_run s p.magnitude pass j i c ≡ true → column_if s p pass j i c ≡ run_decisions s p (8 * j + c) i (first_one p.magnitude (8 * j + c) i)
unfolding column_if column_decisions
run_column s p pass j i c e = by (nat_lt (8 * j + c) s.width) (nat_eq pass 2 && in_run_mode s p.magnitude (8 * j + c) i) e
  where
    by : (w q : Bool) → (w && q) ≡ true
        → cond w (cond q (run_decisions s p (8 * j + c) i (first_one p.magnitude (8 * j + c) i)) (rows_decisions s p pass (8 * j + c) i 0 4)) [] ≡ run_decisions s p (8 * j + c) i (first_one p.magnitude (8 * j + c) i)
    by true q e = ap (λ q. cond q (run_decisions s p (8 * j + c) i (first_one p.magnitude (8 * j + c) i)) (rows_decisions s p pass (8 * j + c) i 0 4)) e
    by false q e = absurd cc

-- one row, and the others
row_head : (s : BlockShape) (p : BlockAtPlane) (pass x i r : ℕ) → r < 4 → rows_decisions s p pass x i r (4 - r) ≡ place_decisions s p pass x (4 * i + r) ++ rows_decisions s p pass x i (suc r) (4 - suc r)
row_head s p pass x i r h =
    ap (λ n. joined n (λ k. place_decisions s p pass x (4 * i + (r + k)))) (let e : 4 - r ≡ suc (4 - suc r) = omega arith in e)
    ∙ joined_head (4 - suc r) (λ k. place_decisions s p pass x (4 * i + (r + k)))
    ∙ ap (λ n. place_decisions s p pass x (4 * i + n) ++ joined (4 - suc r) (λ k. place_decisions s p pass x (4 * i + (r + suc k)))) (let e : r + 0 ≡ r = omega arith in e)
    ∙ ap (λ (ds : Decided). place_decisions s p pass x (4 * i + r) ++ ds)
    (joined_same (4 - suc r) (λ k. place_decisions s p pass x (4 * i + (r + suc k))) (λ k. place_decisions s p pass x (4 * i + (suc r + k))) (λ k l. ap (λ n. place_decisions s p pass x (4 * i + n)) (let e : r + suc k ≡ suc r + k = omega arith in e)))

-- a place of the block, and what is left behind it
remaining_row : (s : BlockShape) (p : BlockAtPlane) (pass j i c r : ℕ) → r < 4 → nat_lt (8 * j + c) s.width ≡ true
    → remaining s p pass j i c (suc r) ≡ place_decisions s p pass (8 * j + c) (4 * i + r) ++ remaining s p pass j i c (suc (suc r))
unfolding remaining
remaining_row s p pass j i c r h w =
    ap (λ q. cond q (rows_decisions s p pass (8 * j + c) i r (4 - r)) [] ++ behind s p pass j i c) w
    ∙ ap (λ (ds : Decided). ds ++ behind s p pass j i c) (row_head s p pass (8 * j + c) i r h)
    ∙ append_assoc (place_decisions s p pass (8 * j + c) (4 * i + r)) (rows_decisions s p pass (8 * j + c) i (suc r) (4 - suc r)) (behind s p pass j i c)
    ∙ sym (ap (λ q. place_decisions s p pass (8 * j + c) (4 * i + r) ++ (cond q (rows_decisions s p pass (8 * j + c) i (suc r) (4 - suc r)) [] ++ behind s p pass j i c)) w)

-- past the width nothing is left of a column
remaining_outside : (s : BlockShape) (p : BlockAtPlane) (pass j i c r : ℕ) → nat_lt (8 * j + c) s.width ≡ false → remaining s p pass j i c (suc r) ≡ behind s p pass j i c
unfolding remaining
remaining_outside s p pass j i c r w = ap (λ q. cond q (rows_decisions s p pass (8 * j + c) i r (4 - r)) [] ++ behind s p pass j i c) w

-- nor behind its rows
remaining_behind : (s : BlockShape) (p : BlockAtPlane) (pass j i c r : ℕ) → 4 ≤ r → remaining s p pass j i c (suc r) ≡ behind s p pass j i c
unfolding remaining
remaining_behind s p pass j i c r h =
    ap (λ n. cond (nat_lt (8 * j + c) s.width) (rows_decisions s p pass (8 * j + c) i r n) [] ++ behind s p pass j i c) (let e : 4 - r ≡ 0 = omega arith in e)
    ∙ by (nat_lt (8 * j + c) s.width)
  where
    by : (q : Bool) → cond q (rows_decisions s p pass (8 * j + c) i r 0) [] ++ behind s p pass j i c ≡ behind s p pass j i c
    by true = ap (λ (ds : Decided). ds ++ behind s p pass j i c) (joined_zero (λ k. place_decisions s p pass (8 * j + c) (4 * i + (r + k))))
    by false = refl

remaining_next : (s : BlockShape) (p : BlockAtPlane) (pass j i c : ℕ) → behind s p pass j i c ≡ remaining s p pass j i (c + 1) 0
unfolding remaining
remaining_next s p pass j i c = ap (λ n. joined n (λ d. column_if s p pass j i (c + 1 + d))) (let e : 7 - c ≡ 8 - (c + 1) = omega arith in e)

inside_or : {R : Type 0} (b : Bool) → (b ≡ true → R) → (b ≡ false → R) → R
inside_or true f g = f refl
inside_or false f g = g refl

-- nothing is decided at bit r of byte c
pub record Rests (s : BlockShape) (a : Field ℕ) (pass j i c r : ℕ) : Type 0 where
  pub plain : r ≡ 0 → is_run s a pass j i c ≡ false
  pub idle : 1 ≤ r → r < 5 → is_due s a pass (8 * j + c) (4 * i + r - 1) ≡ false

place_idle : (s : BlockShape) (p : BlockAtPlane) (pass x y : ℕ) → is_due s p.magnitude pass x y ≡ false → place_decisions s p pass x y ≡ []
unfolding is_due
place_idle s p pass x y h = place_none s p pass x y h

rest_within : (s : BlockShape) (p : BlockAtPlane) (pass j i c r : ℕ) → c < 8 → r < 7 → Rests s p.magnitude pass j i c r → remaining s p pass j i c r ≡ remaining s p pass j i c (suc r)
unfolding remaining
rest_within s p pass j i c zero h l q = head s p pass j i c h ∙ ap (λ (ds : Decided). ds ++ behind s p pass j i c) (plain_column s p pass j i c (q.plain refl))
rest_within s p pass j i c (suc r) h l q = elim (cases_lt r 4) [
  | inl less ↦
      inside_or (nat_lt (8 * j + c) s.width)
      (λ w. remaining_row s p pass j i c r less w
      ∙ ap (λ (ds : Decided). ds ++ remaining s p pass j i c (suc (suc r)))
      (place_idle s p pass (8 * j + c) (4 * i + r) (ap (λ y. is_due s p.magnitude pass (8 * j + c) y) (let e : 4 * i + r ≡ 4 * i + suc r - 1 = omega arith in e) ∙ q.idle (omega arith) (omega arith))))
      (λ w. remaining_outside s p pass j i c r w ∙ sym (remaining_outside s p pass j i c (suc r) w))
  | inr past ↦ remaining_behind s p pass j i c r past ∙ sym (remaining_behind s p pass j i c (suc r) (omega arith))
]

rest_last : (s : BlockShape) (p : BlockAtPlane) (pass j i c : ℕ) → remaining s p pass j i c 7 ≡ remaining s p pass j i (c + 1) 0
rest_last s p pass j i c = remaining_behind s p pass j i c 6 (omega arith) ∙ remaining_next s p pass j i c

-- one bit on
rest_one : (s : BlockShape) (p : BlockAtPlane) (pass j i n : ℕ) → n < 64 → Rests s p.magnitude pass j i (n / 8) (n % 8) → remaining_at s p pass j i n ≡ remaining_at s p pass j i (suc n)
rest_one s p pass j i n h q = elim (cases_lt (n % 8) 7) [
  | inl less ↦
      rest_within s p pass j i (n / 8) (n % 8) (omega arith) less q
      ∙ ap (λ c. remaining s p pass j i c (suc (n % 8))) (let e : n / 8 ≡ suc n / 8 = omega arith in e) ∙ ap (remaining s p pass j i (suc n / 8)) (let e : suc (n % 8) ≡ suc n % 8 = omega arith in e)
  | inr last ↦
      ap (remaining s p pass j i (n / 8)) (let e : n % 8 ≡ 7 = omega arith in e) ∙ rest_last s p pass j i (n / 8)
      ∙ ap (λ c. remaining s p pass j i c 0) (let e : n / 8 + 1 ≡ suc n / 8 = omega arith in e) ∙ ap (remaining s p pass j i (suc n / 8)) (let e : 0 ≡ suc n % 8 = omega arith in e)
]

pub rest : (s : BlockShape) (p : BlockAtPlane) (pass j i n d : ℕ) → n + d ≤ 64 → ((m : ℕ) → n ≤ m → m < n + d → Rests s p.magnitude pass j i (m / 8) (m % 8)) → remaining_at s p pass j i n ≡ remaining_at s p pass j i (n + d)
rest s p pass j i n zero h q = ap (remaining_at s p pass j i) (let e : n ≡ n + 0 = omega arith in e)
rest s p pass j i n (suc d) h q =
    rest s p pass j i n d (omega arith) (λ m a l. q m a (omega arith)) ∙ rest_one s p pass j i (n + d) (omega arith) (q (n + d) (omega arith) (omega arith))
    ∙ ap (remaining_at s p pass j i) (let e : suc (n + d) ≡ n + suc d = omega arith in e)

-- the place at a bit, and what is left behind it
pub remaining_place : (s : BlockShape) (p : BlockAtPlane) (pass j i n : ℕ) → n < 64 → of_rows (n % 8) ≡ true → is_inside s (column j n) (row i n) ≡ true
    → remaining_at s p pass j i n ≡ place_decisions s p pass (column j n) (row i n) ++ remaining_at s p pass j i (n + 1)
remaining_place s p pass j i n h on_row inside =
    let between = rows_between (n % 8) on_row in
    let parts = inside_parts s (column j n) (row i n) inside in
    let w : nat_lt (8 * j + n / 8) s.width ≡ true = let q = parts.0 in grind (arith, nat_tests) in
    ap (remaining s p pass j i (n / 8)) (let e : n % 8 ≡ suc (n % 8 - 1) = omega (arith, between) in e)
    ∙ remaining_row s p pass j i (n / 8) (n % 8 - 1) (omega (arith, between)) w
    ∙ ap (λ y. place_decisions s p pass (8 * j + n / 8) y ++ remaining s p pass j i (n / 8) (suc (suc (n % 8 - 1)))) (let e : 4 * i + (n % 8 - 1) ≡ 4 * i + n % 8 - 1 = omega (arith, between) in e)
    ∙ ap (λ (ds : Decided). place_decisions s p pass (column j n) (row i n) ++ ds)
    (ap (remaining s p pass j i (n / 8)) (let e : suc (suc (n % 8 - 1)) ≡ (n + 1) % 8 = omega (arith, between) in e) ∙ ap (λ c. remaining s p pass j i c ((n + 1) % 8)) (let e : n / 8 ≡ (n + 1) / 8 = omega (arith, between) in e))

-- a column in run mode, and what is left behind its first row with the bit 1
pub remaining_run : (s : BlockShape) (p : BlockAtPlane) (pass j i n f : ℕ) (part : Decided) → n < 64 → n % 8 ≡ 0 → f ≤ 4 → is_run s p.magnitude pass j i (n / 8) ≡ true
    → run_decisions s p (8 * j + n / 8) i (first_one p.magnitude (8 * j + n / 8) i) ≡ part ++ rows_decisions s p pass (8 * j + n / 8) i (f + 1) (3 - f)
    → remaining_at s p pass j i n ≡ part ++ remaining_at s p pass j i (n + f + 2)
unfolding remaining
remaining_run s p pass j i n f part h first few run e =
    let c = n / 8 in
    let inside = (and_parts (nat_lt (8 * j + c) s.width) (nat_eq pass 2 && in_run_mode s p.magnitude (8 * j + c) i) run).0 in
    ap (remaining s p pass j i c) first
    ∙ head s p pass j i c (omega arith)
    ∙ ap (λ (ds : Decided). ds ++ behind s p pass j i c) (run_column s p pass j i c run ∙ e ∙ ap (λ n. part ++ rows_decisions s p pass (8 * j + c) i (f + 1) n) (let g : 3 - f ≡ 4 - (f + 1) = omega arith in g))
    ∙ append_assoc part (rows_decisions s p pass (8 * j + c) i (f + 1) (4 - (f + 1))) (behind s p pass j i c)
    ∙ ap (λ (ds : Decided). part ++ ds)
    (sym (ap (λ q. cond q (rows_decisions s p pass (8 * j + c) i (f + 1) (4 - (f + 1))) [] ++ behind s p pass j i c) inside)
    ∙ ap (remaining s p pass j i c) (let g : suc (f + 1) ≡ (n + f + 2) % 8 = omega arith in g) ∙ ap (λ c. remaining s p pass j i c ((n + f + 2) % 8)) (let g : c ≡ (n + f + 2) / 8 = omega arith in g))

-- a stripe word by word is a stripe column by column

guarded : BlockShape → BlockAtPlane → (pass i x : ℕ) → Decided
guarded s p pass i x = cond (nat_lt x s.width) (column_decisions s p pass x i) []

words_are : (s : BlockShape) (p : BlockAtPlane) (pass i m : ℕ) → joined m (λ j. word_decisions s p pass j i) ≡ joined (8 * m) (guarded s p pass i)
unfolding joined word_decisions column_if guarded
words_are s p pass i zero = refl
words_are s p pass i (suc m) =
    ap (λ (ds : Decided). ds ++ word_decisions s p pass m i) (words_are s p pass i m)
    ∙ sym (joined_parts (8 * m) 8 (guarded s p pass i))
    ∙ ap (λ n. joined n (guarded s p pass i)) (let e : 8 * m + 8 ≡ 8 * suc m = omega arith in e)

past : (s : BlockShape) (p : BlockAtPlane) (pass i d : ℕ) → joined d (λ k. guarded s p pass i (s.width + k)) ≡ []
unfolding joined guarded
past s p pass i zero = refl
past s p pass i (suc d) =
    ap (λ (ds : Decided). ds ++ guarded s p pass i (s.width + d)) (past s p pass i d)
    ∙ ap (λ q. cond q (column_decisions s p pass (s.width + d) i) []) (let e : nat_lt (s.width + d) s.width ≡ false = grind (arith, nat_tests) in e)

within : (s : BlockShape) (p : BlockAtPlane) (pass i x : ℕ) → x < s.width → guarded s p pass i x ≡ column_decisions s p pass x i
unfolding guarded
within s p pass i x h = ap (λ q. cond q (column_decisions s p pass x i) []) (let e : nat_lt x s.width ≡ true = grind (arith, nat_tests) in e)

pub stripe_listed : (s : BlockShape) (p : BlockAtPlane) (pass i : ℕ) → joined (across s) (λ j. word_decisions s p pass j i) ≡ joined s.width (λ x. column_decisions s p pass x i)
stripe_listed s p pass i =
    words_are s p pass i (across s)
    ∙ ap (λ n. joined n (guarded s p pass i)) (let e : 8 * ((s.width + 7) / 8) ≡ s.width + (8 * ((s.width + 7) / 8) - s.width) = omega arith in e)
    ∙ joined_parts s.width (8 * ((s.width + 7) / 8) - s.width) (guarded s p pass i)
    ∙ ap (λ (ds : Decided). joined s.width (guarded s p pass i) ++ ds) (past s p pass i (8 * ((s.width + 7) / 8) - s.width))
    ∙ append-nil (joined s.width (guarded s p pass i))
    ∙ joined_same s.width (guarded s p pass i) (λ x. column_decisions s p pass x i) (λ x h. within s p pass i x h)
