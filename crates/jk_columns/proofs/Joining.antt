-- Columns put one behind another.
use Rattle.std.proofs.Common.{◌≡◌, ℕ, suc, ◌+◌, ◌-◌, ◌*◌, ◌/◌, ◌%◌, ◌<◌, ◌≤◌, true, ◌++◌, List, length, map, get_or, All, sym, ap, ◌∙◌, subst, append_assoc, append-nil, inl, inr, arith}
use Rattle.std.proofs.lemmas.Bool.{cases_lt}
use Rattle.std.proofs.lemmas.Bool.Decides.{nat_tests}
use Rattle.std.proofs.lemmas.List.Elements.{All-from_get_or}
use Rattle.jk_scan.specs.declared.bytes.DecisionBytes.{DecisionBytes}
use Rattle.jk_scan.specs.Passes.{Decided, joined}
use Rattle.jk_scan.specs.WordNumbers.{byte_of, byte_at}
use Rattle.jk_scan.specs.Words.{of_rows}
use Rattle.jk_mqenc.specs.Encoded.{decision_of}
use Rattle.jk_columns.specs.Columns.{IsColumn, IsIndex, column_bytes}
use Rattle.jk_columns.specs.Sheets.{IsSheet, told}

-- what a column decides, where its bytes and its index are so
abbrev pub Decides : (bits signs : List ℕ) → (members ones runs : ℕ) → (ℕ → Decided) → Type 0
Decides bits signs members ones runs part =
    (c index : ℕ) (column : List ℕ) → c < 8 → IsColumn bits signs c column → IsIndex members ones runs c index → map decision_of (column_bytes column index) ≡ part c

-- the first c columns are put
pub record PutTo (rows : DecisionBytes) (members ones runs : ℕ) (old : List ℕ) (before : ℕ) (bytes : List ℕ) (count c : ℕ) : Type 0 where
  pub listed : (part : ℕ → Decided) → Decides rows.bits rows.signs members ones runs part → told bytes count ≡ told old before ++ joined c part
  pub few : count ≤ before + 10 * c
  pub sheet : (n : ℕ) → IsSheet old n → IsSheet bytes n

pub put_none : (rows : DecisionBytes) (members ones runs : ℕ) (old : List ℕ) (before : ℕ) → PutTo rows members ones runs old before old before 0
unfolding joined
put_none rows members ones runs old before = record {
  listed = λ part d. sym (append-nil (told old before));
  few = omega arith;
  sheet = λ n h. h;
}

pub put_more : (rows : DecisionBytes) (members ones runs : ℕ) (old : List ℕ) (before : ℕ) (bytes bytes' : List ℕ) (count count' c index : ℕ) (column : List ℕ)
    → PutTo rows members ones runs old before bytes count c → c < 8 → IsColumn rows.bits rows.signs c column → IsIndex members ones runs c index
    → told bytes' count' ≡ told bytes count ++ map decision_of (column_bytes column index) → count' ≤ count + 10 → ((n : ℕ) → IsSheet bytes n → IsSheet bytes' n)
    → PutTo rows members ones runs old before bytes' count' (c + 1)
unfolding joined
put_more rows members ones runs old before bytes bytes' count count' c index column h within is_column is_index e few sheet = record {
  listed = λ part d.
      e ∙ ap (λ (ds : Decided). told bytes count ++ ds) (d c index column within is_column is_index)
      ∙ ap (λ (ds : Decided). ds ++ part c) (h.listed part d) ∙ append_assoc (told old before) (joined c part) (part c) ∙ step part;
  few = (let f = h.few in omega (arith, f, few));
  sheet = λ n s. sheet n (h.sheet n s);
}
  where
    step : (part : ℕ → Decided) → told old before ++ (joined c part ++ part c) ≡ told old before ++ joined (c + 1) part
    step part = ap (λ n. told old before ++ joined n part) (let one : suc c ≡ c + 1 = omega arith in one)

-- each byte of a column has a context's number
pub column_small : (rows : DecisionBytes) (c : ℕ) (column : List ℕ) → c < 8 → ((k : ℕ) → k < 64 → of_rows (k % 8) ≡ true → byte_at rows.bits k < 38) → ((k : ℕ) → k < 64 → of_rows (k % 8) ≡ true → byte_at rows.signs k < 38)
    → IsColumn rows.bits rows.signs c column → All (λ byte. byte / 2 < 19) column
column_small rows c column h bits signs is = All-from_get_or (λ byte. byte / 2 < 19) column 0 small
  where
    on_row : (r : ℕ) → r < 4 → of_rows ((8 * c + (r + 1)) % 8) ≡ true
    on_row r l = let e : (8 * c + (r + 1)) % 8 ≡ r + 1 = omega (arith, l) in grind (arith, nat_tests)

    own : (lines : List ℕ) (r : ℕ) → r < 4 → byte_at lines (8 * c + (r + 1)) ≡ byte_of (get_or lines r 0) c
    own lines r l = ap (λ k. byte_of (get_or lines k 0) ((8 * c + (r + 1)) / 8)) (let e : (8 * c + (r + 1)) % 8 - 1 ≡ r = omega (arith, l) in e) ∙ ap (byte_of (get_or lines r 0)) (let e : (8 * c + (r + 1)) / 8 ≡ c = omega (arith, l) in e)

    low : (lines : List ℕ) (r b : ℕ) → r < 4 → ((k : ℕ) → k < 64 → of_rows (k % 8) ≡ true → byte_at lines k < 38) → b ≡ byte_of (get_or lines r 0) c → b < 38
    low lines r b l all e = subst (λ b. b < 38) (sym (e ∙ sym (own lines r l))) (all (8 * c + (r + 1)) (omega (arith, h, l)) (on_row r l))

    half : (b : ℕ) → b < 38 → b / 2 < 19
    half b l = omega arith

    at : (i j : ℕ) → i ≡ j → get_or column i 0 ≡ get_or column j 0
    at i j e = ap (λ i. get_or column i 0) e

    small : (i : ℕ) → i < length column → get_or column i 0 / 2 < 19
    small i l = elim (cases_lt i 4) [
      | inl first ↦ half (get_or column i 0) (let b = low rows.bits i (get_or column i 0) first bits (is.bits_are i first) in omega (arith, b))
      | inr from ↦ elim (cases_lt i 8) [
        | inl second ↦ half (get_or column i 0) (let b = low rows.signs (i - 4) (get_or column i 0) (omega (arith, second, from)) signs (at i (4 + (i - 4)) (omega (arith, from)) ∙ is.signs_are (i - 4) (omega (arith, second, from))) in omega (arith, b))
        | inr past ↦ elim (cases_lt i 12) [
          | inl third ↦ half (get_or column i 0) (let e = at i (8 + (i - 8)) (omega (arith, past)) ∙ is.run_is (i - 8) (omega (arith, third, past)) in omega (arith, e, third))
          | inr rest ↦ half (get_or column i 0) (let long = is.long in let e = at i (12 + (i - 12)) (omega (arith, rest)) ∙ is.rest_is (i - 12) (omega (arith, l, long, rest)) in omega (arith, e))
        ]
      ]
    ]

-- less room
pub sheet_less : (bytes : List ℕ) (n m : ℕ) → IsSheet bytes n → m ≤ n → IsSheet bytes m
sheet_less bytes n m h l = let w = h.within in record { within = omega (arith, w, l); small = h.small }
