-- What the bytes of a block mean, and what their first parts mean.
use Rattle.std.proofs.Common.{◌≡◌, ℕ, zero, suc, ◌+◌, ◌-◌, ◌*◌, ◌/◌, ◌%◌, ◌^◌, ◌<◌, ◌≤◌, Bool, true, false, cond, List, [], ◌∷◌, ◌++◌, length, get_or, take, min, ℤ, pos, negsuc, unsigned_abs, refl, sym, ap, ◌∙◌, subst, inl, inr, map, append_assoc, Ok, arith}
use Rattle.std.specs.Prelude.{◌&&◌, nat_eq, nat_lt, nat_le}
use Rattle.std.specs.Int.{is_negative}
use Rattle.std.specs.List.{range_with_len}
use Rattle.std.proofs.lemmas.Bool.{cases_lt}
use Rattle.std.proofs.lemmas.Bool.Decides.{nat_tests}
use Rattle.std.proofs.lemmas.List.{append-nil, take_all, get_or_past, get_or_default, same_lists}
use Rattle.std.proofs.lemmas.List.FromFn.{get_or-map-range_with_len, length-map-range_with_len}
use Rattle.std.proofs.lemmas.Nat.{pow_pos, div-add-mod'}
use Rattle.jk_math.specs.Steps.{done}
use Rattle.jk_model.specs.Code.{byte_at, is_last}
use Rattle.jk_model.specs.Decisions.{initial}
use Rattle.jk_model.specs.CodingPasses.{SpellsPasses}
use Rattle.jk_model.proofs.Laws.{passes-split, is_last-is}
use Rattle.jk_mqenc.specs.Encoded.{written_by, finished}
use Rattle.jk_mqenc.proofs.Laws.{finished-spells, finished-prefix, finished-shorter, finished-unmarked, written-grows}
use Rattle.jk_scan.specs.declared.shape.BlockShape.{BlockShape}
use Rattle.jk_scan.specs.Neighbours.{Field, is_inside}
use Rattle.jk_scan.specs.Moments.{visits, pass_of, is_coded}
use Rattle.jk_scan.specs.Passes.{Decided}
use Rattle.jk_scan.proofs.Laws.{agree_coded, cases_of}
use Rattle.jk_block.specs.Meaning.{plane_of, kind_of, plane_at, whole_decisions, pass_decisions, with_sign, above, truncated, IsBlockMeaning, values_of, value_in}
use Rattle.jk_block.specs.Reading.{Progress, block_at}
use Rattle.jk_block.specs.BlockWritten.{greatest, pass_count, marks_upto, bytes_of, Coded, coded}
use Rattle.jk_block.proofs.Stages.{mags}
use Rattle.jk_block.proofs.Seeing.{significant_then}
use Rattle.jk_block.proofs.Whole.{plane_negative, Done, DoneLike, passes_more, passes_onward, passes_back, passes_only}
use Rattle.jk_block.proofs.Meanings.{abs_with_sign, negative_with_sign, with_sign_self, block_only, coded_by, held_is, Holds, cut_held, done_like, by_code}
use Rattle.jk_math.specs.BitLength.{bit_length}
use Rattle.jk_math.proofs.Laws.{bit_length_room}
use Rattle.jk_block.proofs.Sizing.{greatest_bounds}

-- What is held after some passes over a block is what they code of it.
cut_held_of : (s : BlockShape) (planes n : ℕ) (z : Progress) (q : Field ℤ) → Done s planes n z → DoneLike s planes n z q → Holds s z (truncated s planes n q)
unfolding Done DoneLike truncated
cut_held_of s planes zero z q d l = record {
  magnitude = λ x y i. sym (ap (λ (z : Progress). z.magnitude x y) d);
  negative = λ x y i h. absurd (let e = ap (λ (z : Progress). z.magnitude x y) d in omega (arith, e, h));
}
cut_held_of s planes (suc n) z q d l = record {
  magnitude = λ x y i. abs_with_sign (is_negative (q x y)) (size x y) ∙ sym (held x y i);
  negative = λ x y i h.
      let some : 0 < size x y = subst (λ m. 0 < m) (held x y i) h in
      l.signs x y (sym (significant_then s b t z d x y) ∙ shown (is_inside s x y) (z.magnitude x y) i h) ∙ plane_negative s b q x y ∙ sym (negative_with_sign (is_negative (q x y)) (size x y) some);
}
  where
    b : ℕ
    b = plane_of planes n

    k : ℕ
    k = kind_of n

    t : ℕ
    t = k * visits s + visits s

    size : ℕ → ℕ → ℕ
    size x y = cond (nat_le (pass_of s (plane_at s b q).magnitude x y) k) (above b (unsigned_abs (q x y))) (above (b + 1) (unsigned_abs (q x y)))

    held : (x y : ℕ) → is_inside s x y ≡ true → z.magnitude x y ≡ size x y
    held x y i =
        let code : is_coded s (mags s b z) t x y ≡ nat_le (pass_of s (mags s b z) x y) k = coded_by s (mags s b z) k x y i in
        let pass : is_coded s (mags s b z) t x y ≡ nat_le (pass_of s (plane_at s b q).magnitude x y) k = agree_coded s (mags s b z) (plane_at s b q).magnitude t t x y l.agree (omega arith) ∙ coded_by s (plane_at s b q).magnitude k x y i in
        held_is s b k z x y i d ∙ ap (λ c. cond c (above b (z.magnitude x y)) (above (b + 1) (z.magnitude x y))) (sym code)
        ∙ by_code s b t z q x y i l (is_coded s (mags s b z) t x y) refl
        ∙ ap (λ c. cond c (above b (unsigned_abs (q x y))) (above (b + 1) (unsigned_abs (q x y)))) pass

    shown : (i : Bool) (m : ℕ) → i ≡ true → 0 < m → (i && nat_lt 0 m) ≡ true
    shown i m e h = grind (arith, nat_tests)

-- Bytes that spell the decisions of the first passes mean what these passes code of the block.
pub spelled_means : (s : BlockShape) (planes n : ℕ) (bytes : List ℕ) (q : Field ℤ) → n ≤ 3 * planes - 2 → ((x y : ℕ) → is_inside s x y ≡ true → unsigned_abs (q x y) < 2 ^ planes)
    → SpellsPasses s.style.reset bytes (pass_decisions s planes n q) → IsBlockMeaning s planes n bytes (truncated s planes n q)
spelled_means s planes n bytes q few small spelled =
    let all = passes_only bytes s planes n q few small spelled in
    let z = all.last in
    let d = passes_onward bytes s planes n z few all.is in
    let h = cut_held_of s planes n z q d all.like in
    let back = passes_back bytes s planes n z (truncated s planes n q) few all.is (done_like s planes n z (truncated s planes n q) d h) in
    record { few = few; small = back.small; coded = cut_held s planes n z (truncated s planes n q) d h; spelled = λ _. back.told.spelled }

no_magnitude : (v : ℤ) → unsigned_abs v < 1 → pos 0 ≡ v
no_magnitude (pos m) e = ap pos (let f : 0 ≡ m = omega arith in f)
no_magnitude (negsuc m) e = absurd (omega arith)

-- all passes code all of it
pub cut_whole : (s : BlockShape) (planes : ℕ) (q : Field ℤ) → ((x y : ℕ) → is_inside s x y ≡ true → unsigned_abs (q x y) < 2 ^ planes) → (x y : ℕ) → is_inside s x y ≡ true → truncated s planes (pass_count planes) q x y ≡ q x y
unfolding truncated
cut_whole s zero q small x y i = no_magnitude (q x y) (let h = small x y i in omega (arith, h))
cut_whole s (suc p) q small x y i =
    ap (λ n. truncated s (suc p) n q x y) (let e : 3 * suc p - 2 ≡ suc (3 * p) = omega arith in e)
    ∙ ap (λ b. with_sign (is_negative (q x y)) (cond (nat_le (pass_of s (plane_at s b q).magnitude x y) (kind_of (3 * p))) (above b (unsigned_abs (q x y))) (above (b + 1) (unsigned_abs (q x y))))) (let e : suc p - 1 - (3 * p + 2) / 3 ≡ 0 = omega arith in e)
    ∙ ap (λ k. with_sign (is_negative (q x y)) (cond k (above 0 (unsigned_abs (q x y))) (above (0 + 1) (unsigned_abs (q x y))))) last
    ∙ ap (λ m. with_sign (is_negative (q x y)) m) (let e : unsigned_abs (q x y) / 2 ^ 0 * 2 ^ 0 ≡ unsigned_abs (q x y) = omega arith in e)
    ∙ with_sign_self (q x y)
  where
    last : nat_le (pass_of s (plane_at s 0 q).magnitude x y) (kind_of (3 * p)) ≡ true
    last =
        let k : (3 * p + 2) % 3 ≡ 2 = omega arith in
        cases_of s (plane_at s 0 q).magnitude x y
        (λ w. let e = w.pass_is in by (pass_of s (plane_at s 0 q).magnitude x y) ((3 * p + 2) % 3) k (omega arith))
        (λ w. let e = w.pass_is in by (pass_of s (plane_at s 0 q).magnitude x y) ((3 * p + 2) % 3) k (omega arith))
        (λ w. let e = w.pass_is in by (pass_of s (plane_at s 0 q).magnitude x y) ((3 * p + 2) % 3) k (omega arith))
      where
        by : (n k : ℕ) → k ≡ 2 → n ≤ 2 → nat_le n k ≡ true
        by n k e h = grind (arith, nat_tests)

-- the decisions of some passes, and the others
pub record Split (s : BlockShape) (planes n m : ℕ) (q : Field ℤ) : Type 0 where
  pub rest : List Decided
  pub is : pass_decisions s planes m q ≡ pass_decisions s planes n q ++ rest

pub split_at : (s : BlockShape) (planes n k m : ℕ) (q : Field ℤ) → n + k ≡ m → Split s planes n m q
split_at s planes n zero m q e = record {
  rest = [];
  is = ap (λ m. pass_decisions s planes m q) (let f : m ≡ n = omega arith in f) ∙ sym (append-nil (pass_decisions s planes n q));
}
split_at s planes n (suc k) m q e =
    let before = split_at s planes n k (n + k) q refl in
    let last = whole_decisions s (plane_at s (plane_of planes (n + k)) q) (kind_of (n + k)) in
    record {
      rest = before.rest ++ last ∷ [];
      is = ap (λ m. pass_decisions s planes m q) (let f : m ≡ suc (n + k) = omega arith in f) ∙ passes_more s planes (n + k) q ∙ ap (λ (dss : List Decided). dss ++ last ∷ []) before.is ∙ append_assoc (pass_decisions s planes n q) before.rest (last ∷ []);
    }

pub splits : (s : BlockShape) (planes n m : ℕ) (q : Field ℤ) → n ≤ m → Split s planes n m q
splits s planes n m q h = split_at s planes n (m - n) m q (omega arith)

-- the mark after the n-th pass
pub mark_is : (s : BlockShape) (planes passes n : ℕ) (q : Field ℤ) → 1 ≤ n → n ≤ passes → get_or (marks_upto s planes passes q) (n - 1) 0 ≡ written_by s.style.reset (pass_decisions s planes n q)
unfolding marks_upto
mark_is s planes passes n q l h =
    get_or-map-range_with_len (λ n. written_by s.style.reset (pass_decisions s planes (n + 1) q)) 0 passes (n - 1) (n - 1) 0 (omega arith) (omega arith)
    ∙ ap (λ n. written_by s.style.reset (pass_decisions s planes n q)) (let e : n - 1 + 1 ≡ n = omega arith in e)

pub marks_length : (s : BlockShape) (planes passes : ℕ) (q : Field ℤ) → length (marks_upto s planes passes q) ≡ passes
unfolding marks_upto
marks_length s planes passes q = length-map-range_with_len (λ n. written_by s.style.reset (pass_decisions s planes (n + 1) q)) 0 passes

-- marks don't decrease
pub marks_rise : (s : BlockShape) (planes passes i j : ℕ) (q : Field ℤ) → i ≤ j → j < passes → get_or (marks_upto s planes passes q) i 0 ≤ get_or (marks_upto s planes passes q) j 0
marks_rise s planes passes i j q h l =
    let m = mark_is s planes passes (i + 1) q (omega arith) (omega arith) in
    let n = mark_is s planes passes (j + 1) q (omega arith) (omega arith) in
    let at : (k : ℕ) → get_or (marks_upto s planes passes q) (k + 1 - 1) 0 ≡ get_or (marks_upto s planes passes q) k 0 = λ k. ap (λ k. get_or (marks_upto s planes passes q) k 0) (omega arith) in
    let p = splits s planes (i + 1) (j + 1) q (omega arith) in
    let g = written-grows s.style.reset (pass_decisions s planes (i + 1) q) p.rest in
    let e = ap (written_by s.style.reset) p.is in
    omega (arith, m, n, at i, at j, g, e)

pub bytes_some : (s : BlockShape) (planes passes : ℕ) (q : Field ℤ) → 0 < passes → bytes_of s planes passes q ≡ finished s.style.reset (pass_decisions s planes passes q)
unfolding bytes_of
bytes_some s planes passes q h = ap (λ b. cond b [] (finished s.style.reset (pass_decisions s planes passes q))) (let e : nat_eq passes 0 ≡ false = grind (arith, nat_tests) in e)

pub bytes_none : (s : BlockShape) (planes : ℕ) (q : Field ℤ) → bytes_of s planes 0 q ≡ []
unfolding bytes_of
bytes_none s planes q = refl

-- all bytes spell the decisions of all passes
pub all_spell : (s : BlockShape) (planes passes : ℕ) (q : Field ℤ) → 0 < passes → SpellsPasses s.style.reset (bytes_of s planes passes q) (pass_decisions s planes passes q)
all_spell s planes passes q h = subst (λ (b : List ℕ). SpellsPasses s.style.reset b (pass_decisions s planes passes q)) (sym (bytes_some s planes passes q h)) (finished-spells s.style.reset (pass_decisions s planes passes q))

-- and those of the first ones
pub all_spell_first : (s : BlockShape) (planes passes n : ℕ) (q : Field ℤ) → 1 ≤ n → n ≤ passes → SpellsPasses s.style.reset (bytes_of s planes passes q) (pass_decisions s planes n q)
all_spell_first s planes passes n q l h =
    let p = splits s planes n passes q h in
    let b = bytes_of s planes passes q in
    (passes-split s.style.reset b initial (pass_decisions s planes n q) p.rest (subst (λ (dss : List Decided). SpellsPasses s.style.reset b dss) p.is (all_spell s planes passes q (omega arith)))).0

-- What is long enough spells the decisions of the first passes.
pub part_spells : (s : BlockShape) (planes passes n z : ℕ) (q : Field ℤ) → 1 ≤ n → n ≤ passes → min (length (bytes_of s planes passes q)) (get_or (marks_upto s planes passes q) (n - 1) 0 + 4) ≤ z
    → SpellsPasses s.style.reset (take z (bytes_of s planes passes q)) (pass_decisions s planes n q)
part_spells s planes passes n z q l h long =
    let b = bytes_of s planes passes q in
    let ds = pass_decisions s planes n q in
    let m = mark_is s planes passes n q l h in
    elim (cases_lt z (length b)) [
      | inl less ↦
          let p = splits s planes n passes q h in
          let same : b ≡ finished s.style.reset (ds ++ p.rest) = bytes_some s planes passes q (omega arith) ∙ ap (finished s.style.reset) p.is in
          subst (λ (b : List ℕ). SpellsPasses s.style.reset (take z b) ds) (sym same) (finished-prefix s.style.reset ds p.rest z (omega (arith, m, less, long)))
      | inr all ↦ subst (λ (b : List ℕ). SpellsPasses s.style.reset b ds) (sym (take_all z b all)) (all_spell_first s planes passes n q l h)
    ]

-- the last byte isn't FF
last_other : (r : Bool) (dss : List Decided) (z : ℕ) → length (finished r dss) ≤ z → get_or (finished r dss) (z - 1) 0 ≡ 255 → ⊥
last_other r dss z h e =
    let b = finished r dss in
    elim (cases_lt (z - 1) (length b)) [
      | inl less ↦
          let here : byte_at b (z - 1) ≡ 255 = get_or_default b (z - 1) 255 0 less ∙ e in
          let after : byte_at b (z - 1 + 1) ≡ 255 = get_or_past b (z - 1 + 1) 255 (omega (arith, less, h)) in
          let last : is_last b (z - 1) ≡ true = is_last-is b (z - 1) ∙ both (byte_at b (z - 1)) (byte_at b (z - 1 + 1)) here after in
          let no = finished-unmarked r dss (z - 1) less in
          let c : true ≡ false = sym last ∙ no in absurd cc
      | inr past ↦ let g = get_or_past b (z - 1) 0 past in omega (arith, g, e)
    ]
  where
    both : (x y : ℕ) → x ≡ 255 → y ≡ 255 → (nat_eq x 255 && nat_lt 143 y) ≡ true
    both x y e g = grind (arith, nat_tests)

-- So does such a part without its last byte, if that is FF.
pub shorter_spells : (s : BlockShape) (planes passes n z : ℕ) (q : Field ℤ) → 1 ≤ n → n ≤ passes → min (length (bytes_of s planes passes q)) (get_or (marks_upto s planes passes q) (n - 1) 0 + 4) ≤ z
    → get_or (bytes_of s planes passes q) (z - 1) 0 ≡ 255 → SpellsPasses s.style.reset (take (z - 1) (bytes_of s planes passes q)) (pass_decisions s planes n q)
shorter_spells s planes passes n z q l h long e =
    let b = bytes_of s planes passes q in
    let ds = pass_decisions s planes n q in
    let m = mark_is s planes passes n q l h in
    let p = splits s planes n passes q h in
    let same : b ≡ finished s.style.reset (ds ++ p.rest) = bytes_some s planes passes q (omega arith) ∙ ap (finished s.style.reset) p.is in
    elim (cases_lt z (length b)) [
      | inl less ↦ subst (λ (b : List ℕ). SpellsPasses s.style.reset (take (z - 1) b) ds) (sym same) (finished-shorter s.style.reset ds p.rest z (omega (arith, m, less, long)) (subst (λ (b : List ℕ). get_or b (z - 1) 0 ≡ 255) same e))
      | inr all ↦ absurd (last_other s.style.reset (ds ++ p.rest) z (subst (λ (b : List ℕ). length b ≤ z) same all) (subst (λ (b : List ℕ). get_or b (z - 1) 0 ≡ 255) same e))
    ]

-- The block's planes hold its magnitudes.
pub planes_hold : (s : BlockShape) (values : List ℤ) (x y : ℕ) → unsigned_abs (value_in s values x y) < 2 ^ bit_length (greatest values)
planes_hold s values x y =
    let g = greatest_bounds values (y * s.width + x) in
    let r = bit_length_room (greatest values) in
    omega (arith, g, r)

-- The bytes of a coded block mean the block.
pub coded_means : (s : BlockShape) (values : List ℤ) → IsBlockMeaning s (coded s values).planes (coded s values).passes (coded s values).bytes (value_in s values)
unfolding coded
coded_means s values =
    let p = bit_length (greatest values) in
    let q = value_in s values in
    record {
      few = let e : pass_count p ≤ 3 * p - 2 = omega arith in e;
      small = λ x y i. planes_hold s values x y;
      coded = cut_whole s p q (λ x y i. planes_hold s values x y);
      spelled = λ h. all_spell s p (pass_count p) q h;
    }

-- A part of them that is long enough means what the first passes code of the block.
pub part_means : (s : BlockShape) (values : List ℤ) (n z : ℕ) → 1 ≤ n → n ≤ (coded s values).passes → min (length (coded s values).bytes) (get_or (coded s values).marks (n - 1) 0 + 4) ≤ z
    → IsBlockMeaning s (coded s values).planes n (take z (coded s values).bytes) (truncated s (coded s values).planes n (value_in s values))
unfolding coded
part_means s values n z l h long =
    let p = bit_length (greatest values) in
    let q = value_in s values in
    spelled_means s p n (take z (bytes_of s p (pass_count p) q)) q h (λ x y i. planes_hold s values x y) (part_spells s p (pass_count p) n z q l h long)

pub shorter_means : (s : BlockShape) (values : List ℤ) (n z : ℕ) → 1 ≤ n → n ≤ (coded s values).passes → min (length (coded s values).bytes) (get_or (coded s values).marks (n - 1) 0 + 4) ≤ z → get_or (coded s values).bytes (z - 1) 0 ≡ 255
    → IsBlockMeaning s (coded s values).planes n (take (z - 1) (coded s values).bytes) (truncated s (coded s values).planes n (value_in s values))
unfolding coded
shorter_means s values n z l h long e =
    let p = bit_length (greatest values) in
    let q = value_in s values in
    spelled_means s p n (take (z - 1) (bytes_of s p (pass_count p) q)) q h (λ x y i. planes_hold s values x y) (shorter_spells s p (pass_count p) n z q l h long e)

-- no passes mean nothing
pub none_means : (s : BlockShape) (planes : ℕ) (bytes : List ℕ) (q : Field ℤ) → IsBlockMeaning s planes 0 bytes (truncated s planes 0 q)
unfolding truncated
none_means s planes bytes q = record {
  few = omega arith;
  small = λ x y i. pow_pos planes;
  coded = λ x y i. refl;
  spelled = λ h. absurd (omega arith);
}

-- the values of the block that a list of values makes
pub values_listed : (s : BlockShape) (values : List ℤ) → length values ≡ s.width * s.height → values_of s (value_in s values) ≡ values
unfolding values_of
values_listed s values h =
    same_lists (map (λ i. value_in s values (i % s.width) (i / s.width)) (range_with_len 0 (s.width * s.height))) values
    (length-map-range_with_len (λ i. value_in s values (i % s.width) (i / s.width)) 0 (s.width * s.height) ∙ sym h)
    (λ i d l.
    let n = length-map-range_with_len (λ i. value_in s values (i % s.width) (i / s.width)) 0 (s.width * s.height) in
    get_or-map-range_with_len (λ i. value_in s values (i % s.width) (i / s.width)) 0 (s.width * s.height) i i d (omega (arith, n, l)) (omega arith) ∙ ap (λ k. get_or values k (pos 0)) (div-add-mod' i s.width)
    ∙ get_or_default values i (pos 0) d (omega (arith, n, l, h)))

-- What is written of a block is read as the block.
pub coded_read : (s : BlockShape) (values : List ℤ) → length values ≡ s.width * s.height → block_at s (coded s values).planes (coded s values).passes (coded s values).bytes ≡ Ok values
coded_read s values h =
    block_only s (coded s values).planes (coded s values).passes (coded s values).bytes (value_in s values) (coded_means s values)
    ∙ ap (λ (vs : List ℤ). done vs) (values_listed s values h)

pub coded_marks_rise : (s : BlockShape) (values : List ℤ) (i j : ℕ) → i ≤ j → j < (coded s values).passes → get_or (coded s values).marks i 0 ≤ get_or (coded s values).marks j 0
unfolding coded
coded_marks_rise s values i j h l = let p = bit_length (greatest values) in marks_rise s p (pass_count p) i j (value_in s values) h l

-- what is made of a block
abbrev pub made : (planes passes : ℕ) → (bytes marks : List ℕ) → Coded
made planes passes bytes marks = record { planes = planes; passes = passes; bytes = bytes; marks = marks }

pub coded_from : (s : BlockShape) (values : List ℤ) (planes passes : ℕ) (bytes marks : List ℕ) → planes ≡ bit_length (greatest values) → passes ≡ pass_count planes
    → bytes ≡ bytes_of s planes passes (value_in s values) → marks ≡ marks_upto s planes passes (value_in s values) → made planes passes bytes marks ≡ coded s values
unfolding coded
coded_from s values planes passes bytes marks p n b m =
    let q = value_in s values in
    ap (λ b. made planes passes b marks) b ∙ ap (λ m. made planes passes (bytes_of s planes passes q) m) m
    ∙ ap (λ n. made planes n (bytes_of s planes n q) (marks_upto s planes n q)) n
    ∙ ap (λ p. made p (pass_count p) (bytes_of s p (pass_count p) q) (marks_upto s p (pass_count p) q)) p

pub marks_none : (s : BlockShape) (planes : ℕ) (q : Field ℤ) → marks_upto s planes 0 q ≡ []
unfolding marks_upto
marks_none s planes q = refl

pub decisions_none : (s : BlockShape) (planes : ℕ) (q : Field ℤ) → pass_decisions s planes 0 q ≡ []
unfolding pass_decisions
decisions_none s planes q = refl

-- what holds of a block that is coded
pub means_of : (s : BlockShape) (values : List ℤ) (k : Coded) → k ≡ coded s values → IsBlockMeaning s k.planes k.passes k.bytes (value_in s values)
means_of s values k e = subst (λ (k : Coded). IsBlockMeaning s k.planes k.passes k.bytes (value_in s values)) (sym e) (coded_means s values)

pub read_of : (s : BlockShape) (values : List ℤ) (k : Coded) → k ≡ coded s values → length values ≡ s.width * s.height → block_at s k.planes k.passes k.bytes ≡ Ok values
read_of s values k e h = ap (λ (k : Coded). block_at s k.planes k.passes k.bytes) e ∙ coded_read s values h

pub part_of : (s : BlockShape) (values : List ℤ) (k : Coded) → k ≡ coded s values → (n z : ℕ) → 1 ≤ n → n ≤ k.passes → min (length k.bytes) (get_or k.marks (n - 1) 0 + 4) ≤ z
    → IsBlockMeaning s k.planes n (take z k.bytes) (truncated s k.planes n (value_in s values))
part_of s values k e =
    subst (λ (k : Coded). (n z : ℕ) → 1 ≤ n → n ≤ k.passes → min (length k.bytes) (get_or k.marks (n - 1) 0 + 4) ≤ z → IsBlockMeaning s k.planes n (take z k.bytes) (truncated s k.planes n (value_in s values))) (sym e) (part_means s values)

pub shorter_of : (s : BlockShape) (values : List ℤ) (k : Coded) → k ≡ coded s values → (n z : ℕ) → 1 ≤ n → n ≤ k.passes → min (length k.bytes) (get_or k.marks (n - 1) 0 + 4) ≤ z → get_or k.bytes (z - 1) 0 ≡ 255
    → IsBlockMeaning s k.planes n (take (z - 1) k.bytes) (truncated s k.planes n (value_in s values))
shorter_of s values k e =
    subst (λ (k : Coded). (n z : ℕ) → 1 ≤ n → n ≤ k.passes → min (length k.bytes) (get_or k.marks (n - 1) 0 + 4) ≤ z → get_or k.bytes (z - 1) 0 ≡ 255 → IsBlockMeaning s k.planes n (take (z - 1) k.bytes) (truncated s k.planes n (value_in s values))) (sym e) (shorter_means s values)

pub rise_of : (s : BlockShape) (values : List ℤ) (k : Coded) → k ≡ coded s values → (i j : ℕ) → i ≤ j → j < k.passes → get_or k.marks i 0 ≤ get_or k.marks j 0
rise_of s values k e = subst (λ (k : Coded). (i j : ℕ) → i ≤ j → j < k.passes → get_or k.marks i 0 ≤ get_or k.marks j 0) (sym e) (coded_marks_rise s values)

pub coded_planes_hold : (s : BlockShape) (values : List ℤ) (x y : ℕ) → unsigned_abs (value_in s values x y) < 2 ^ (coded s values).planes
unfolding coded
coded_planes_hold s values x y = planes_hold s values x y
