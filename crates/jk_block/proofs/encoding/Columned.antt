-- A word listed column by column, where it is known at once what each of its places decides.
use Rattle.std.proofs.Common.{◌≡◌, ℕ, zero, suc, ◌+◌, ◌-◌, ◌*◌, ◌/◌, ◌%◌, ◌<◌, ◌≤◌, Bool, true, false, not, cond, List, [], ◌∷◌, ◌++◌, map, get_or, refl, sym, ap, ◌∙◌, arith}
use Rattle.std.specs.Prelude.{◌&&◌, nat_eq, nat_le, nat_lt}
use Rattle.std.proofs.lemmas.Bool.{and_parts}
use Rattle.std.proofs.lemmas.Bool.Decides.{nat_tests}
use Rattle.std.proofs.lemmas.List.{map-append}
use Rattle.jk_scan.specs.declared.shape.BlockShape.{BlockShape}
use Rattle.jk_scan.specs.Bits.{on}
use Rattle.jk_scan.specs.Moments.{number, visits, pass_of, significant}
use Rattle.jk_scan.specs.Neighbours.{Field, zero_in, touched_in}
use Rattle.jk_scan.specs.Passes.{BlockAtPlane, Decided, is_one, joined, sign_decision, new_decisions, place_decisions, rows_decisions, in_run_mode, first_one, run_decisions}
use Rattle.jk_scan.specs.Words.{of_rows}
use Rattle.jk_scan.specs.WordNumbers.{byte_of, byte_at}
use Rattle.jk_scan.specs.WordPlaces.{column, row}
use Rattle.jk_mqenc.specs.Encoded.{decision_of}
use Rattle.jk_columns.specs.Columns.{chained, row_places, rows_places, first_place, run_places, column_places, column_bytes, IsColumn, IsIndex}
use Rattle.jk_block.specs.Steps.{IsBitPlace}
use Rattle.jk_block.specs.declared.encoding.plane.BlockPlane.{BlockPlane}
use Rattle.jk_block.specs.declared.word_place.WordPlace.{WordPlace}
use Rattle.jk_block.specs.encoding.Viewed.{seen, moment_at, ShowsOnes, SpellsBit, SpellsSign, column_if, word_decisions, run_head}
use Rattle.jk_block.proofs.Columns.{rows_left, row_left, runs_is}
use Rattle.jk_block.proofs.Rows.{start}
use Rattle.jk_block.proofs.Seeing.{is_due}
use Rattle.jk_block.proofs.encoding.Coming.{mag}
use Rattle.jk_block.proofs.encoding.Listed.{place_none, run_is}
use Rattle.jk_block.proofs.encoding.Propagated.{new_place}
use Rattle.jk_block.proofs.encoding.Remaining.{is_run, plain_column, run_column}
use Rattle.jk_block.proofs.encoding.Slicing.{one_at, run_row}
use Rattle.jk_block.proofs.encoding.Testing.{due_inside}
use Rattle.jk_block.proofs.encoding.Timing.{codes, moment_place}
use Rattle.jk_block.proofs.encoding.Turned.{Prepared}

-- What words show of the places that a pass codes, and what their bytes spell.
pub record Known (v : BlockPlane) (pass : ℕ) (at : WordPlace) (bits signs : List ℕ) (members ones runs : ℕ) : Type 0 where
  pub other : pass ≡ 1 → ⊥
  pub members_are : (m : ℕ) → m < 64 → on members m ≡ codes v.shape (mag v) pass at.word at.stripe m
  pub ones_are : ShowsOnes v at.word at.stripe ones
  pub bits_are : (m : ℕ) → IsBitPlace v.shape at m → on members m ≡ true → SpellsBit v (moment_at v.shape pass at.word at.stripe m) (column at.word m) (row at.stripe m) (byte_at bits m)
  pub signs_are : (m : ℕ) → IsBitPlace v.shape at m → on members m ≡ true → SpellsSign v (moment_at v.shape pass at.word at.stripe m) (column at.word m) (row at.stripe m) (byte_at signs m)
  pub runs_are : (c : ℕ) → c < 8 → on runs (8 * c + 1) ≡ is_run v.shape (mag v) pass at.word at.stripe c

abbrev pub bytes_at : List ℕ → List ℕ → Decided
bytes_at xs ks = map decision_of (map (λ k. get_or xs k 0) ks)

bytes_append : (xs ks ls : List ℕ) → bytes_at xs (ks ++ ls) ≡ bytes_at xs ks ++ bytes_at xs ls
bytes_append xs ks ls =
    ap (map decision_of) (map-append (λ k. get_or xs k 0) ks ls) ∙ map-append decision_of (map (λ k. get_or xs k 0) ks) (map (λ k. get_or xs k 0) ls)

-- a place that is coded
new_bytes : (s : BlockShape) (p : BlockAtPlane) (t x y : ℕ) (xs : List ℕ) (r k : ℕ) (o : Bool) → decision_of (get_or xs r 0) ≡ (zero_in s (significant s p.magnitude t) x y, is_one (p.magnitude x y)) → (o ≡ true → decision_of (get_or xs k 0) ≡ sign_decision s p t x y) → o ≡ is_one (p.magnitude x y)
    → bytes_at xs (r ∷ cond o (k ∷ []) []) ≡ new_decisions s p t x y
unfolding new_decisions
new_bytes s p t x y xs r k true e g h =
    ap (λ (d : ℕ × Bool). d ∷ decision_of (get_or xs k 0) ∷ []) e
    ∙ ap (λ (d : ℕ × Bool). (zero_in s (significant s p.magnitude t) x y, is_one (p.magnitude x y)) ∷ d ∷ []) (g refl)
    ∙ ap (λ (b : Bool). (zero_in s (significant s p.magnitude t) x y, is_one (p.magnitude x y)) ∷ cond b (sign_decision s p t x y ∷ []) []) h
new_bytes s p t x y xs r k false e g h =
    ap (λ (d : ℕ × Bool). d ∷ []) e
    ∙ ap (λ (b : Bool). (zero_in s (significant s p.magnitude t) x y, is_one (p.magnitude x y)) ∷ cond b (sign_decision s p t x y ∷ []) []) h

-- where the bit of row r of column c stands
pub row_bit : (c r : ℕ) → c < 8 → r < 4 → of_rows ((8 * c + (r + 1)) % 8) ≡ true
row_bit c r h l = let e : (8 * c + (r + 1)) % 8 ≡ r + 1 = omega (arith, h, l) in grind (arith, nat_tests)

pub byte_is : (lines : List ℕ) (c r : ℕ) → r < 4 → byte_at lines (8 * c + (r + 1)) ≡ byte_of (get_or lines r 0) c
byte_is lines c r l = ap (λ k. byte_of (get_or lines k 0) ((8 * c + (r + 1)) / 8)) (let e : (8 * c + (r + 1)) % 8 - 1 ≡ r = omega (arith, l) in e) ∙ ap (byte_of (get_or lines r 0)) (let e : (8 * c + (r + 1)) / 8 ≡ c = omega (arith, l) in e)

pub column_at : (j c r : ℕ) → r < 4 → column j (8 * c + (r + 1)) ≡ 8 * j + c
column_at j c r l = omega (arith, l)

pub row_at : (i c r : ℕ) → r < 4 → row i (8 * c + (r + 1)) ≡ 4 * i + r
row_at i c r l = omega (arith, l)

pub by_case : {R : Type 0} (b : Bool) → (b ≡ true → R) → (b ≡ false → R) → R
by_case true f g = f refl
by_case false f g = g refl

pub place_at : (v : BlockPlane) (pass : ℕ) (at : WordPlace) (m : ℕ) → m < 64 → codes v.shape (mag v) pass at.word at.stripe m ≡ true → IsBitPlace v.shape at m
place_at v pass at m within due =
    let parts = and_parts (of_rows (m % 8)) (is_due v.shape (mag v) pass (column at.word m) (row at.stripe m)) due in
    record { within = within; on_row = parts.0; inside = (due_inside v.shape (mag v) pass (column at.word m) (row at.stripe m) parts.1).0 }

-- one row
row_told : (v : BlockPlane) (pass : ℕ) (at : WordPlace) (bits signs : List ℕ) (members ones runs : ℕ) (c r index : ℕ) (xs : List ℕ) → Known v pass at bits signs members ones runs → c < 8 → r < 4
    → IsColumn bits signs c xs → IsIndex members ones runs c index → bytes_at xs (row_places index r) ≡ place_decisions v.shape (seen v) pass (8 * at.word + c) (4 * at.stripe + r)
unfolding row_places is_due
row_told v pass at bits signs members ones runs c r index xs known h l is_column is_index = by_case (on index r) set clear
  where
    m : ℕ
    m = 8 * c + (r + 1)

    within : m < 64
    within = omega arith

    there : place_decisions v.shape (seen v) pass (column at.word m) (row at.stripe m) ≡ place_decisions v.shape (seen v) pass (8 * at.word + c) (4 * at.stripe + r)
    there = ap (λ x. place_decisions v.shape (seen v) pass x (row at.stripe m)) (column_at at.word c r l) ∙ ap (λ y. place_decisions v.shape (seen v) pass (8 * at.word + c) y) (row_at at.stripe c r l)

    member : on index r ≡ codes v.shape (mag v) pass at.word at.stripe m
    member = is_index.members_are r l ∙ known.members_are m within

    second : (a b : Bool) → (a && b) ≡ false → a ≡ true → b ≡ false
    second a b e g = grind (arith, nat_tests)

    clear : on index r ≡ false → bytes_at xs (cond (on index r) (r ∷ cond (on index (4 + r)) ((4 + r) ∷ []) []) []) ≡ place_decisions v.shape (seen v) pass (8 * at.word + c) (4 * at.stripe + r)
    clear off =
        ap (λ b. bytes_at xs (cond b (r ∷ cond (on index (4 + r)) ((4 + r) ∷ []) []) [])) off
        ∙ sym (place_none v.shape (seen v) pass (column at.word m) (row at.stripe m) (second (of_rows (m % 8)) (is_due v.shape (mag v) pass (column at.word m) (row at.stripe m)) (sym member ∙ off) (row_bit c r h l))) ∙ there

    set : on index r ≡ true → bytes_at xs (cond (on index r) (r ∷ cond (on index (4 + r)) ((4 + r) ∷ []) []) []) ≡ place_decisions v.shape (seen v) pass (8 * at.word + c) (4 * at.stripe + r)
    set on_index =
        let due = sym member ∙ on_index in
        let place = place_at v pass at m within due in
        let t = moment_at v.shape pass at.word at.stripe m in
        let is_member = sym (is_index.members_are r l) ∙ on_index in
        ap (λ b. bytes_at xs (cond b (r ∷ cond (on index (4 + r)) ((4 + r) ∷ []) []) [])) on_index
        ∙ new_place v pass at.word at.stripe m [] (bytes_at xs (r ∷ cond (on index (4 + r)) ((4 + r) ∷ []) [])) due known.other
        (new_bytes v.shape (seen v) t (column at.word m) (row at.stripe m) xs r (4 + r) (on index (4 + r))
        (ap decision_of (is_column.bits_are r l ∙ sym (byte_is bits c r l)) ∙ known.bits_are m place is_member)
        (λ _. ap decision_of (is_column.signs_are r l ∙ sym (byte_is signs c r l)) ∙ known.signs_are m place is_member)
        (is_index.ones_are r l ∙ one_at v at m ones place known.ones_are))
        ∙ there

-- what each row of a column tells
abbrev pub TellsRows : BlockPlane → (pass : ℕ) → WordPlace → (c index : ℕ) → List ℕ → Type 0
TellsRows v pass at c index xs =
    (r : ℕ) → r < 4 → bytes_at xs (row_places index r) ≡ place_decisions v.shape (seen v) pass (8 * at.word + c) (4 * at.stripe + r)

-- some rows
rows_told : (v : BlockPlane) (pass : ℕ) (at : WordPlace) (c index : ℕ) (xs : List ℕ) → TellsRows v pass at c index xs → (a n : ℕ) → n ≤ 4 - a → bytes_at xs (rows_places index a n) ≡ rows_decisions v.shape (seen v) pass (8 * at.word + c) at.stripe a n
unfolding chained joined
rows_told v pass at c index xs row a zero l = refl
rows_told v pass at c index xs row a (suc n) l =
    bytes_append xs (rows_places index a n) (row_places index (a + n))
    ∙ ap (λ (ds : Decided). ds ++ bytes_at xs (row_places index (a + n))) (rows_told v pass at c index xs row a n (omega arith))
    ∙ ap (λ (ds : Decided). rows_decisions v.shape (seen v) pass (8 * at.word + c) at.stripe a n ++ ds) (row (a + n) (omega arith))

-- no row of a column past the width
rows_none : (s : BlockShape) (p : BlockAtPlane) (pass x i a n : ℕ) → nat_lt x s.width ≡ false → rows_decisions s p pass x i a n ≡ []
unfolding joined
rows_none s p pass x i a zero h = refl
rows_none s p pass x i a (suc n) h =
    ap (λ (ds : Decided). ds ++ place_decisions s p pass x (4 * i + (a + n))) (rows_none s p pass x i a n h)
    ∙ place_none s p pass x (4 * i + (a + n)) (ap (λ b. (b && nat_lt (4 * i + (a + n)) s.height) && nat_eq (pass_of s p.magnitude x (4 * i + (a + n))) pass) h)

-- a column that isn't in run mode
pub rows_column : (v : BlockPlane) (pass : ℕ) (at : WordPlace) (c : ℕ) → is_run v.shape (mag v) pass at.word at.stripe c ≡ false → rows_decisions v.shape (seen v) pass (8 * at.word + c) at.stripe 0 4 ≡ column_if v.shape (seen v) pass at.word at.stripe c
rows_column v pass at c no_run = within (nat_lt (8 * at.word + c) v.shape.width) refl ∙ sym (plain_column v.shape (seen v) pass at.word at.stripe c no_run)
  where
    within : (b : Bool) → nat_lt (8 * at.word + c) v.shape.width ≡ b → rows_decisions v.shape (seen v) pass (8 * at.word + c) at.stripe 0 4 ≡ cond (nat_lt (8 * at.word + c) v.shape.width) (rows_decisions v.shape (seen v) pass (8 * at.word + c) at.stripe 0 4) []
    within true e = ap (λ b. cond b (rows_decisions v.shape (seen v) pass (8 * at.word + c) at.stripe 0 4) []) (sym e)
    within false e = rows_none v.shape (seen v) pass (8 * at.word + c) at.stripe 0 4 e ∙ ap (λ b. cond b (rows_decisions v.shape (seen v) pass (8 * at.word + c) at.stripe 0 4) []) (sym e)

-- the first row with the bit 1
first_is : (v : BlockPlane) (at : WordPlace) (members ones runs c index : ℕ) → c < 8 → ShowsOnes v at.word at.stripe ones → IsIndex members ones runs c index → first_place index ≡ first_one (mag v) (8 * at.word + c) at.stripe
unfolding first_place first_one
first_is v at members ones runs c index h ones_are is_index =
    run_row v at (8 * c + 1) ones (first_place index) (omega arith) (omega arith) ones_are value
    ∙ ap (λ x. first_one (mag v) x at.stripe) (let e : column at.word (8 * c + 1) ≡ 8 * at.word + c = omega arith in e)
  where
    one : (r : ℕ) (b : Bool) → r < 4 → on ones (8 * c + 1 + r) ≡ b → on index (4 + r) ≡ b
    one r b l e = is_index.ones_are r l ∙ ap (on ones) (let g : 8 * c + (r + 1) ≡ 8 * c + 1 + r = omega arith in g) ∙ e

    value : (a : Field ℕ) (x i : ℕ) → on ones (8 * c + 1 + 0) ≡ is_one (a x (4 * i + 0)) → on ones (8 * c + 1 + 1) ≡ is_one (a x (4 * i + 1)) → on ones (8 * c + 1 + 2) ≡ is_one (a x (4 * i + 2)) → on ones (8 * c + 1 + 3) ≡ is_one (a x (4 * i + 3))
        → first_place index ≡ first_one a x i
    value a x i e0 e1 e2 e3 =
        ap (λ b. cond b 0 (cond (on index 5) 1 (cond (on index 6) 2 (cond (on index 7) 3 4)))) (one 0 (is_one (a x (4 * i + 0))) (omega arith) e0)
        ∙ ap (λ b. cond (is_one (a x (4 * i + 0))) 0 (cond b 1 (cond (on index 6) 2 (cond (on index 7) 3 4)))) (one 1 (is_one (a x (4 * i + 1))) (omega arith) e1)
        ∙ ap (λ b. cond (is_one (a x (4 * i + 0))) 0 (cond (is_one (a x (4 * i + 1))) 1 (cond b 2 (cond (on index 7) 3 4)))) (one 2 (is_one (a x (4 * i + 2))) (omega arith) e2)
        ∙ ap (λ b. cond (is_one (a x (4 * i + 0))) 0 (cond (is_one (a x (4 * i + 1))) 1 (cond (is_one (a x (4 * i + 2))) 2 (cond b 3 4)))) (one 3 (is_one (a x (4 * i + 3))) (omega arith) e3)

-- A column in run mode, up to its first row with the bit 1.
head_told : (s : BlockShape) (p : BlockAtPlane) (t x i f index : ℕ) (bits signs : List ℕ) (c : ℕ) (xs : List ℕ) → f ≤ 4 → IsColumn bits signs c xs → (f < 4 → decision_of (get_or xs (4 + f) 0) ≡ sign_decision s p t x (4 * i + f))
    → bytes_at xs (run_places index f) ≡ run_head s p t x i f ++ bytes_at xs (rows_places index (f + 1) (3 - f))
unfolding run_places run_head chained
head_told s p t x i f index bits signs c xs few is sign = by f few sign
  where
    begun : (r : ℕ) → r < 4 → decision_of (get_or xs (8 + r) 0) ≡ decision_of (34 + r)
    begun r l = ap decision_of (is.run_is r l)

    four : {a a' b b' d d' e e' : ℕ × Bool} → a ≡ a' → b ≡ b' → d ≡ d' → e ≡ e' → (rest : Decided) → (a ∷ b ∷ d ∷ e ∷ rest) ≡ (a' ∷ b' ∷ d' ∷ e' ∷ rest)
    four p q r s rest = cc

    by : (f : ℕ) → f ≤ 4 → (f < 4 → decision_of (get_or xs (4 + f) 0) ≡ sign_decision s p t x (4 * i + f)) → bytes_at xs (run_places index f) ≡ run_head s p t x i f ++ bytes_at xs (rows_places index (f + 1) (3 - f))
    by zero l g = four (begun 1 (omega arith)) (begun 2 (omega arith)) (begun 2 (omega arith)) (g (omega arith)) (bytes_at xs (rows_places index 1 3))
    by (suc zero) l g = four (begun 1 (omega arith)) (begun 2 (omega arith)) (begun 3 (omega arith)) (g (omega arith)) (bytes_at xs (rows_places index 2 2))
    by (suc (suc zero)) l g = four (begun 1 (omega arith)) (begun 3 (omega arith)) (begun 2 (omega arith)) (g (omega arith)) (bytes_at xs (rows_places index 3 1))
    by (suc (suc (suc zero))) l g = four (begun 1 (omega arith)) (begun 3 (omega arith)) (begun 3 (omega arith)) (g (omega arith)) (bytes_at xs (rows_places index 4 0))
    by (suc (suc (suc (suc zero)))) l g = ap (λ (d : ℕ × Bool). d ∷ []) (begun 0 (omega arith))
    by (suc (suc (suc (suc (suc n))))) l g = absurd (omega arith)

first_few : (index : ℕ) → first_place index ≤ 4
unfolding first_place
first_few index = by (on index 4) (on index 5) (on index 6) (on index 7)
  where
    by : (a b d e : Bool) → cond a 0 (cond b 1 (cond d 2 (cond e 3 4))) ≤ 4
    by true b d e = omega arith
    by false true d e = omega arith
    by false false true e = omega arith
    by false false false true = omega arith
    by false false false false = omega arith

-- A column in run mode is coded in cleanup, and each of its rows is left to it.
record RunColumn (v : BlockPlane) (pass : ℕ) (at : WordPlace) (c : ℕ) : Type 0 where
  is_cleanup : pass ≡ 2
  narrow : 8 * at.word + c < v.shape.width
  due : (r : ℕ) → r < 4 → codes v.shape (mag v) pass at.word at.stripe (8 * c + (r + 1)) ≡ true

run_parts : (v : BlockPlane) (pass : ℕ) (at : WordPlace) (c : ℕ) → c < 8 → is_run v.shape (mag v) pass at.word at.stripe c ≡ true → RunColumn v pass at c
unfolding is_due rows_left row_left
run_parts v pass at c h run = record { is_cleanup = cleanup_is; narrow = narrow; due = due }
  where
    s : BlockShape
    s = v.shape

    x : ℕ
    x = 8 * at.word + c

    i : ℕ
    i = at.stripe

    left_at : ℕ → Bool
    left_at r = nat_eq (pass_of s (mag v) x (4 * i + r)) 2 && not (touched_in s (significant s (mag v) (start s 2 x i)) x (4 * i + r))

    parts : (nat_lt x s.width ≡ true) × ((nat_eq pass 2 && in_run_mode s (mag v) x i) ≡ true)
    parts = and_parts (nat_lt x s.width) (nat_eq pass 2 && in_run_mode s (mag v) x i) run

    both : (nat_eq pass 2 ≡ true) × (in_run_mode s (mag v) x i ≡ true)
    both = and_parts (nat_eq pass 2) (in_run_mode s (mag v) x i) parts.1

    high : (nat_le (4 * i + 4) s.height ≡ true) × (((left_at 0 && left_at 1) && (left_at 2 && left_at 3)) ≡ true)
    high = and_parts (nat_le (4 * i + 4) s.height) ((left_at 0 && left_at 1) && (left_at 2 && left_at 3)) (sym (runs_is s (mag v) x i) ∙ both.1)

    two : ((left_at 0 && left_at 1) ≡ true) × ((left_at 2 && left_at 3) ≡ true)
    two = and_parts (left_at 0 && left_at 1) (left_at 2 && left_at 3) high.1

    left : (r : ℕ) → r < 4 → left_at r ≡ true
    left zero l = (and_parts (left_at 0) (left_at 1) two.0).0
    left (suc zero) l = (and_parts (left_at 0) (left_at 1) two.0).1
    left (suc (suc zero)) l = (and_parts (left_at 2) (left_at 3) two.1).0
    left (suc (suc (suc zero))) l = (and_parts (left_at 2) (left_at 3) two.1).1
    left (suc (suc (suc (suc r)))) l = absurd (omega arith)

    cleanup_is : pass ≡ 2
    cleanup_is = let e = both.0 in grind (arith, nat_tests)

    narrow : x < s.width
    narrow = let e = parts.0 in grind (arith, nat_tests)

    low : (r : ℕ) → r < 4 → nat_lt (4 * i + r) s.height ≡ true
    low r l = let e = high.0 in grind (arith, nat_tests)

    all : (a b d e : Bool) → a ≡ true → b ≡ true → d ≡ true → e ≡ true → (a && ((b && d) && e)) ≡ true
    all a b d e p q r s = cc

    due : (r : ℕ) → r < 4 → codes s (mag v) pass at.word i (8 * c + (r + 1)) ≡ true
    due r l =
        let y = 4 * i + r in
        let of : nat_eq (pass_of s (mag v) x y) pass ≡ true = ap (nat_eq (pass_of s (mag v) x y)) cleanup_is ∙ (and_parts (nat_eq (pass_of s (mag v) x y) 2) (not (touched_in s (significant s (mag v) (start s 2 x i)) x y)) (left r l)).0 in
        ap (λ u. of_rows ((8 * c + (r + 1)) % 8) && is_due s (mag v) pass u (row i (8 * c + (r + 1)))) (column_at at.word c r l)
        ∙ ap (λ w. of_rows ((8 * c + (r + 1)) % 8) && is_due s (mag v) pass x w) (row_at i c r l)
        ∙ all (of_rows ((8 * c + (r + 1)) % 8)) (nat_lt x s.width) (nat_lt y s.height) (nat_eq (pass_of s (mag v) x y) pass) (row_bit c r h l) parts.0 (low r l) of

-- what a column decides
pub column_told : (v : BlockPlane) (pass : ℕ) (at : WordPlace) (bits signs : List ℕ) (members ones runs : ℕ) → Known v pass at bits signs members ones runs → (c index : ℕ) (xs : List ℕ) → c < 8
    → IsColumn bits signs c xs → IsIndex members ones runs c index → map decision_of (column_bytes xs index) ≡ column_if v.shape (seen v) pass at.word at.stripe c
unfolding column_places
column_told v pass at bits signs members ones runs known c index xs h is_column is_index = by_case (on index 8) in_run plain
  where
    s : BlockShape
    s = v.shape

    x : ℕ
    x = 8 * at.word + c

    run_is_at : on index 8 ≡ is_run s (mag v) pass at.word at.stripe c
    run_is_at = is_index.run_is ∙ known.runs_are c h

    own_rows : TellsRows v pass at c index xs
    own_rows r l = row_told v pass at bits signs members ones runs c r index xs known h l is_column is_index

    plain : on index 8 ≡ false → bytes_at xs (cond (on index 8) (run_places index (first_place index)) (rows_places index 0 4)) ≡ column_if s (seen v) pass at.word at.stripe c
    plain off =
        ap (λ b. bytes_at xs (cond b (run_places index (first_place index)) (rows_places index 0 4))) off
        ∙ rows_told v pass at c index xs own_rows 0 4 (omega arith) ∙ rows_column v pass at c (sym run_is_at ∙ off)

    in_run : on index 8 ≡ true → bytes_at xs (cond (on index 8) (run_places index (first_place index)) (rows_places index 0 4)) ≡ column_if s (seen v) pass at.word at.stripe c
    in_run set =
        let run = run_parts v pass at c h (sym run_is_at ∙ set) in
        let f = first_place index in
        let few = first_few index in
        let t = moment_at s pass at.word at.stripe (8 * c + (f + 1)) in
        ap (λ b. bytes_at xs (cond b (run_places index f) (rows_places index 0 4))) set
        ∙ head_told s (seen v) t x at.stripe f index bits signs c xs few is_column (sign_at run f)
        ∙ ap (λ (ds : Decided). run_head s (seen v) t x at.stripe f ++ ds) (rows_told v pass at c index xs own_rows (f + 1) (3 - f) (omega arith))
        ∙ ap (λ n. run_head s (seen v) t x at.stripe f ++ rows_decisions s (seen v) n x at.stripe (f + 1) (3 - f)) run.is_cleanup
        ∙ sym (run_is s (seen v) t x at.stripe f (λ e. moment_row run f few e))
        ∙ ap (run_decisions s (seen v) x at.stripe) (first_is v at members ones runs c index h known.ones_are is_index)
        ∙ sym (run_column s (seen v) pass at.word at.stripe c (sym run_is_at ∙ set))
      where
        below_four : (f : ℕ) → f ≤ 4 → nat_eq f 4 ≡ false → f < 4
        below_four f few e = grind (arith, nat_tests)

        sign_at : RunColumn v pass at c → (f : ℕ) → f < 4 → decision_of (get_or xs (4 + f) 0) ≡ sign_decision s (seen v) (moment_at s pass at.word at.stripe (8 * c + (f + 1))) x (4 * at.stripe + f)
        sign_at run f l =
            let m = 8 * c + (f + 1) in
            let due = run.due f l in
            let t = moment_at s pass at.word at.stripe m in
            ap decision_of (is_column.signs_are f l ∙ sym (byte_is signs c f l))
            ∙ known.signs_are m (place_at v pass at m (omega (arith, l)) due) (known.members_are m (omega (arith, l)) ∙ due)
            ∙ ap (λ u. sign_decision s (seen v) t u (row at.stripe m)) (column_at at.word c f l) ∙ ap (sign_decision s (seen v) t x) (row_at at.stripe c f l)

        moment_row : RunColumn v pass at c → (f : ℕ) → f ≤ 4 → nat_eq f 4 ≡ false → moment_at s pass at.word at.stripe (8 * c + (f + 1)) ≡ 2 * visits s + number s.width x (4 * at.stripe + f)
        moment_row run f few e =
            let l = below_four f few e in
            let m = 8 * c + (f + 1) in
            let narrow = run.narrow in
            let same = column_at at.word c f l in
            moment_place s pass at.word at.stripe m (row_bit c f h l) (omega (arith, same, narrow))
            ∙ ap (λ n. n * visits s + number s.width (column at.word m) (row at.stripe m)) run.is_cleanup
            ∙ ap (λ u. 2 * visits s + number s.width u (row at.stripe m)) same ∙ ap (λ w. 2 * visits s + number s.width x w) (row_at at.stripe c f l)

-- what a word decides
pub word_told : (v : BlockPlane) (pass : ℕ) (at : WordPlace) (old new : Decided) → new ≡ old ++ joined 8 (column_if v.shape (seen v) pass at.word at.stripe) → new ≡ old ++ word_decisions v.shape (seen v) pass at.word at.stripe
unfolding word_decisions
word_told v pass at old new h = h

-- What is known of a word as the cleanup pass comes to it.
pub known_left : (v : BlockPlane) (at : WordPlace) (bits signs : List ℕ) (left ones still : ℕ) → Prepared v at bits signs still → ((m : ℕ) → m < 64 → on left m ≡ codes v.shape (mag v) 2 at.word at.stripe m) → ShowsOnes v at.word at.stripe ones
    → Known v 2 at bits signs left ones still
known_left v at bits signs left ones still prepared left_is shows = record {
  other = λ e. absurd (omega (arith, e));
  members_are = left_is;
  ones_are = shows;
  bits_are = λ m place _. prepared.bits_are m place;
  signs_are = λ m place _. prepared.signs_are m place;
  runs_are = λ c h.
      prepared.runs_are (8 * c + 1) (omega (arith, h))
      ∙ first (nat_eq ((8 * c + 1) % 8) 1) (is_run v.shape (mag v) 2 at.word at.stripe ((8 * c + 1) / 8)) (one c)
      ∙ ap (is_run v.shape (mag v) 2 at.word at.stripe) (let e : (8 * c + 1) / 8 ≡ c = omega arith in e);
}
  where
    first : (a b : Bool) → a ≡ true → (a && b) ≡ b
    first a b e = grind (arith, nat_tests)

    one : (c : ℕ) → nat_eq ((8 * c + 1) % 8) 1 ≡ true
    one c = let e : (8 * c + 1) % 8 ≡ 1 = omega arith in grind (arith, nat_tests)
