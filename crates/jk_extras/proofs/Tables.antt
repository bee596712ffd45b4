-- Tables of tags, one entry at a time.
use Rattle.std.proofs.Common.{◌≡◌, ℕ, suc, ◌+◌, ◌-◌, ◌*◌, ◌<◌, ◌≤◌, true, false, ◌&&◌, ◌||◌, eqb, leb, List, length, drop, refl, ap, ◌∙◌, arith}
use Rattle.std.proofs.lemmas.List.{drop-drop}
use Rattle.byteorder.specs.Endian.{big_number}
use Rattle.std.proofs.lemmas.Bool.{le-leb, leb-true, and_parts}
use Rattle.jk_extras.specs.Profiles.{has_tag, lie_within, tags_in, field, has_size, is_known_profile, has_space, has_table, has_curves, is_restricted}

pub tag_more : (tag n : ℕ) (table : List ℕ) → has_tag tag (suc n) table ≡ (eqb (big_number 4 table) tag || has_tag tag n (drop 12 table))
unfolding tags_in
tag_more tag n table = refl

pub tag_none : (tag : ℕ) (table : List ℕ) → has_tag tag 0 table ≡ false
unfolding tags_in
tag_none tag table = refl

pub within_more : (size n : ℕ) (table : List ℕ)
    → lie_within size (suc n) table ≡ (leb (big_number 4 (drop 4 table) + big_number 4 (drop 8 table)) size && lie_within size n (drop 12 table))
unfolding tags_in
within_more size n table = refl

pub within_none : (size : ℕ) (table : List ℕ) → lie_within size 0 table ≡ true
unfolding tags_in
within_none size table = refl

-- the same by the place of the entry in the table
pub tag_step : (tag count k : ℕ) (table : List ℕ) → k < count
    → has_tag tag (count - k) (drop (12 * k) table) ≡ (eqb (big_number 4 (drop (12 * k) table)) tag || has_tag tag (count - (k + 1)) (drop (12 * (k + 1)) table))
tag_step tag count k table h =
    let n : count - k ≡ suc (count - (k + 1)) = omega arith in
    let next : drop 12 (drop (12 * k) table) ≡ drop (12 * (k + 1)) table = drop-drop 12 (12 * k) table ∙ ap (λ m. drop m table) (omega arith) in
    ap (λ m. has_tag tag m (drop (12 * k) table)) n ∙ tag_more tag (count - (k + 1)) (drop (12 * k) table)
    ∙ ap (λ (x : List ℕ). eqb (big_number 4 (drop (12 * k) table)) tag || has_tag tag (count - (k + 1)) x) next

pub within_step : (size count k : ℕ) (table : List ℕ) → k < count
    → lie_within size (count - k) (drop (12 * k) table)
    ≡ (leb (big_number 4 (drop (12 * k + 4) table) + big_number 4 (drop (12 * k + 8) table)) size && lie_within size (count - (k + 1)) (drop (12 * (k + 1)) table))
within_step size count k table h =
    let n : count - k ≡ suc (count - (k + 1)) = omega arith in
    let next : drop 12 (drop (12 * k) table) ≡ drop (12 * (k + 1)) table = drop-drop 12 (12 * k) table ∙ ap (λ m. drop m table) (omega arith) in
    let rest = lie_within size (count - (k + 1)) in
    ap (λ m. lie_within size m (drop (12 * k) table)) n ∙ within_more size (count - (k + 1)) (drop (12 * k) table)
    ∙ ap (λ (x : List ℕ). leb (big_number 4 x + big_number 4 (drop 8 (drop (12 * k) table))) size && rest (drop 12 (drop (12 * k) table))) (drop-drop 4 (12 * k) table)
    ∙ ap (λ (x : List ℕ). leb (big_number 4 (drop (12 * k + 4) table) + big_number 4 x) size && rest (drop 12 (drop (12 * k) table))) (drop-drop 8 (12 * k) table)
    ∙ ap (λ (x : List ℕ). leb (big_number 4 (drop (12 * k + 4) table) + big_number 4 (drop (12 * k + 8) table)) size && rest x) next

pub table_is : (p : List ℕ) → field 128 p ≤ 100 → 132 + 12 * field 128 p ≤ length p → has_table p ≡ lie_within (length p) (field 128 p) (drop 132 p)
unfolding has_table
table_is p few room = let a = le-leb _ _ few in let b = le-leb _ _ room in rw (a, b) refl

pub table_room : (p : List ℕ) → has_table p ≡ true → 132 + 12 * field 128 p ≤ length p
unfolding has_table
table_room p is = let a = and_parts (leb (field 128 p) 100) _ is in leb-true _ _ (and_parts (leb (132 + 12 * field 128 p) (length p)) _ a.1).0

pub restricted_is : (n : ℕ) (p : List ℕ) → has_size p ≡ true → is_known_profile p ≡ true → has_space n p ≡ true → has_table p ≡ true
    → is_restricted n p ≡ has_curves n (field 128 p) (drop 132 p)
unfolding is_restricted
restricted_is n p size known space table = rw (size, known, space, table) refl
