-- A shuffle of which some places are followed by 128 is defined, and gives the bytes at these places
-- with zeros behind them.
use Rattle.std.proofs.Common.{◌≡◌, ℕ, zero, suc, ◌+◌, ◌-◌, ◌*◌, ◌/◌, ◌<◌, ◌≤◌, Bool, true, false, cond, List, [], ◌∷◌, ◌++◌, length, map, get_or, take, drop, All, replicate, refl, sym, ap, ◌∙◌, subst, append_assoc, arith}
use Rattle.std.specs.Prelude.{◌||◌}
use Rattle.std.specs.Simd.Lanes.{all_below, Each1, put_chunk}
use Rattle.std.proofs.Math.Dec.{T, ltb, leb}
use Rattle.std.proofs.lemmas.Bool.{lt-leb}
use Rattle.std.proofs.lemmas.List.{length-append, length-replicate, length-map, length-take, map-append}
use Rattle.std.proofs.lemmas.List.Elements.{All-append, All-drop, All-take, All-replicate, All-nil, All-cons}
use Rattle.std.proofs.lemmas.Simd.{swz_l, SwzOk, SwzOk-from_Each1, put_chunk_is, length-put_chunk}
use Rattle.std.proofs.Math.Seq.{take-append_seam}
use mir.Syntax.{w8}
use mir.Val.{zeroes}
use mir.ValLaws.{and_both}
use lib.Dec.{ltb→lt}
use Rattle.jk_mqenc.specs.Encoded.{decision_of}
use Rattle.jk_columns.specs.Columns.{padded}
use Rattle.jk_columns.specs.Sheets.{IsSheet, told}

-- the bytes at some places
abbrev pub at_places : List ℕ → List ℕ → List ℕ
at_places xs ks = map (λ k. get_or xs k 0) ks

zeros_behind : (xs : List ℕ) (n i : ℕ) → swz_l w8 16 xs i (replicate n 128) ≡ replicate n 0
zeros_behind xs zero i = refl
zeros_behind xs (suc n) i = ap (λ (ys : List ℕ). 0 ∷ ys) (zeros_behind xs n (suc i))

one_picked : (xs : List ℕ) (i j : ℕ) → j < 16 → i < 16 → cond (leb 128 j) 0 (get_or xs (16 * (i / 16) + j) 0) ≡ get_or xs j 0
one_picked xs i j h l =
    ap (λ b. cond b 0 (get_or xs (16 * (i / 16) + j) 0)) (lt-leb 128 j (omega arith)) ∙ ap (λ k. get_or xs k 0) (let e : 16 * (i / 16) + j ≡ j = omega arith in e)

pub picked : (xs ks : List ℕ) (n i : ℕ) → T (all_below 16 ks) → i + length ks ≤ 16 → swz_l w8 16 xs i (ks ++ replicate n 128) ≡ at_places xs ks ++ replicate n 0
picked xs [] n i h l = zeros_behind xs n i
picked xs (j ∷ ks) n i h l =
    let both = and_both (ltb j 16) (all_below 16 ks) h in
    let lt = ltb→lt j 16 both.0 in
    ap (λ (y : ℕ). y ∷ swz_l w8 16 xs (suc i) (ks ++ replicate n 128)) (one_picked xs i j lt (omega arith))
    ∙ ap (λ (ys : List ℕ). get_or xs j 0 ∷ ys) (picked xs ks n (suc i) both.1 (omega arith))

each_ok : (ks : List ℕ) (n : ℕ) → T (all_below 16 ks) → Each1 (λ j. T (zeroes 16 w8 j || ltb j 16)) (ks ++ replicate n 128)
each_ok [] zero h = tt
each_ok [] (suc n) h = (tt, each_ok [] n tt)
each_ok (j ∷ ks) n h =
    let both = and_both (ltb j 16) (all_below 16 ks) h in
    (either_ok (leb 128 j) (ltb j 16) both.0, each_ok ks n both.1)
  where
    either_ok : (a b : Bool) → T b → T (a || b)
    either_ok true b t = tt
    either_ok false b t = t

-- 16 places
length_padded : (ks : List ℕ) → length ks ≤ 16 → length (padded ks) ≡ 16
length_padded ks h = let a = length-append ks (replicate (16 - length ks) 128) in let r = length-replicate {A = ℕ} (16 - length ks) 128 in omega (arith, a, r)

pub shuffles_ok : (ks js : List ℕ) → T (all_below 16 ks) → length ks ≤ 16 → js ≡ padded ks → SwzOk w8 16 16 0 js
shuffles_ok ks js h l e =
    subst (λ (js : List ℕ). SwzOk w8 16 16 0 js) (sym e)
    (let p = length_padded ks l in SwzOk-from_Each1 w8 16 1 16 0 (padded ks) refl (omega (arith, p)) (each_ok ks (16 - length ks) h))

-- what is stored
abbrev pub shuffled : (xs ks : List ℕ) → List ℕ
shuffled xs ks = at_places xs ks ++ replicate (16 - length ks) 0

length_shuffled : (xs ks : List ℕ) → length ks ≤ 16 → length (shuffled xs ks) ≡ 16
length_shuffled xs ks h =
    let a = length-append (at_places xs ks) (replicate (16 - length ks) 0) in
    let r = length-replicate {A = ℕ} (16 - length ks) 0 in
    let m = length-map ks (λ k. get_or xs k 0) in omega (arith, a, r, m)

pub shuffled_is : (xs ks js : List ℕ) → T (all_below 16 ks) → length ks ≤ 16 → js ≡ padded ks → swz_l w8 16 xs 0 js ≡ shuffled xs ks
shuffled_is xs ks js h l e = ap (λ (js : List ℕ). swz_l w8 16 xs 0 js) e ∙ picked xs ks (16 - length ks) 0 h (omega arith)

-- The bytes behind those that are there are then these.
pub put_places : (xs ks old : List ℕ) (count n : ℕ) → length ks ≤ 16 → n ≡ length ks → count + 16 ≤ length old → take (count + n) (put_chunk count old (shuffled xs ks)) ≡ take count old ++ at_places xs ks
put_places xs ks old count n l e room =
    let ys = at_places xs ks in
    let zs : List ℕ = replicate (16 - length ks) 0 in
    let rest = drop (length (shuffled xs ks)) (drop count old) in
    let s = length_shuffled xs ks l in
    let t = length-take count old in
    let m = length-map ks (λ k. get_or xs k 0) in
    let a = length-append (take count old) ys in
    ap (take (count + n)) (put_chunk_is count old (shuffled xs ks) (omega (arith, s)) ∙ three (take count old) ys zs rest)
    ∙ ap (λ k. take k ((take count old ++ ys) ++ (zs ++ rest))) (let g : count + n ≡ length (take count old ++ ys) = omega (arith, t, m, a, e) in g)
    ∙ take-append_seam (take count old ++ ys) (zs ++ rest)
  where
    three : (a b c d : List ℕ) → a ++ ((b ++ c) ++ d) ≡ (a ++ b) ++ (c ++ d)
    three a b c d = simp append_assoc

pub put_told : (xs ks old : List ℕ) (count n : ℕ) → length ks ≤ 16 → n ≡ length ks → count + 16 ≤ length old → told (put_chunk count old (shuffled xs ks)) (count + n) ≡ told old count ++ map decision_of (at_places xs ks)
put_told xs ks old count n l e room = ap (map decision_of) (put_places xs ks old count n l e room) ∙ map-append decision_of (take count old) (at_places xs ks)

-- and each byte still has a context's number
pub put_sheet : (xs ks old : List ℕ) (count n m : ℕ) → ((k : ℕ) → k < m → get_or xs k 0 / 2 < 19) → T (all_below m ks) → length ks ≤ 16 → count + 16 ≤ length old → IsSheet old n → IsSheet (put_chunk count old (shuffled xs ks)) n
put_sheet xs ks old count n m small h l room sheet = record {
  within = (let w = sheet.within in let p = length-put_chunk count old (shuffled xs ks) in omega (arith, w, p));
  small = (let s = length_shuffled xs ks l in
      subst (All (λ byte. byte / 2 < 19)) (sym (put_chunk_is count old (shuffled xs ks) (omega (arith, s))))
      (All-append (λ byte. byte / 2 < 19) (take count old) (shuffled xs ks ++ drop (length (shuffled xs ks)) (drop count old))
      (All-take (λ byte. byte / 2 < 19) count old sheet.small)
      (All-append (λ byte. byte / 2 < 19) (shuffled xs ks) (drop (length (shuffled xs ks)) (drop count old))
      (All-append (λ byte. byte / 2 < 19) (at_places xs ks) (replicate (16 - length ks) 0) (chosen ks h) (All-replicate (λ byte. byte / 2 < 19) (16 - length ks) 0 (omega arith)))
      (All-drop (λ byte. byte / 2 < 19) (length (shuffled xs ks)) (drop count old) (All-drop (λ byte. byte / 2 < 19) count old sheet.small)))));
}
  where
    chosen : (ks : List ℕ) → T (all_below m ks) → All (λ byte. byte / 2 < 19) (at_places xs ks)
    chosen [] h = All-nil (λ byte. byte / 2 < 19)
    chosen (k ∷ ks) h =
        let both = and_both (ltb k m) (all_below m ks) h in
        All-cons (λ byte. byte / 2 < 19) (get_or xs k 0) (at_places xs ks) (small k (ltb→lt k m both.0)) (chosen ks both.1)
