-- The streams by the ranks of their next packets: which is the first, and where one is put that has moved on.
use Rattle.std.proofs.Common.{◌≡◌, ℕ, zero, suc, ◌+◌, ◌-◌, ◌<◌, ◌≤◌, ◌⊎◌, inl, inr, List, [], ◌∷◌, ◌++◌, length, take, drop, set, get_or, length-set, append_assoc, refl, ap, sym, ◌∙◌, subst, arith, rules}
use Rattle.std.specs.Prelude.{Contains}
use Rattle.std.specs.List.{AllByRecursion}
use Rattle.std.specs.List.Sorted.{IsPermutation}
use Rattle.std.proofs.lemmas.List.{get_or-set_other, get_or-take, length-take-le, ext_get_or, set_split, take_more_set, take-set, take-append-drop, length-drop, drop-set, drop-set-lt, drop_more, drop_all}
use Rattle.std.proofs.lemmas.List.Elements.{Contains-get_or}
use Rattle.std.proofs.lemmas.List.Sorted.{IsPermutation-refl, IsPermutation-sym, IsPermutation-trans, IsPermutation-cons, IsPermutation-swap, Contains-permutation}
use Rattle.std.proofs.lemmas.Slice.{between_to_end, between-put_mid, overwrites}
use Rattle.std.proofs.lemmas.Bool.{cases_lt, cases_eq, lt-ltb, le-ltb}
use borrow.Rule.Slice.PartMut.{put_mid}
use Rattle.jk_order.specs.Streams.{finished}
use Rattle.jk_order.specs.Queue.{Follows, Ascends, IsQueue, queued}
use Rattle.jk_order.proofs.Ascending.{none_in, first_in, later_in, in_cases}

-- what holds of all, and of each
each_of : (P : ℕ → Type 0) (xs : List ℕ) (y : ℕ) → AllByRecursion P xs → Contains xs y → P y
each_of P [] y all h = absurd (none_in y h)
each_of P (x ∷ xs) y all h = by (λ later. each_of P xs y all.1 later) (in_cases x xs y h)
  where
    by : (Contains xs y → P y) → (x ≡ y) ⊎ Contains xs y → P y
    by rest (inl same) = subst P same all.0
    by rest (inr later) = rest later

all_of : (P : ℕ → Type 0) (xs : List ℕ) → ((y : ℕ) → Contains xs y → P y) → AllByRecursion P xs
all_of P [] h = tt
all_of P (x ∷ xs) h = (h x (first_in x xs), all_of P xs (λ y c. h y (later_in x xs y c)))

-- where a stream is put
queued_none : (hs : List ℕ) (i : ℕ) → queued hs i [] ≡ i ∷ []
unfolding queued
queued_none hs i = refl

queued_behind : (hs : List ℕ) (i j : ℕ) (js : List ℕ) → get_or hs j 0 < get_or hs i 0 → queued hs i (j ∷ js) ≡ j ∷ queued hs i js
unfolding queued
queued_behind hs i j js h = rw (lt-ltb (get_or hs j 0) (get_or hs i 0) h) refl

queued_here : (hs : List ℕ) (i j : ℕ) (js : List ℕ) → get_or hs i 0 ≤ get_or hs j 0 → queued hs i (j ∷ js) ≡ i ∷ j ∷ js
unfolding queued
queued_here hs i j js h = rw (le-ltb (get_or hs j 0) (get_or hs i 0) h) refl

-- the streams stay the same ones
queued_moves : (hs : List ℕ) (i : ℕ) (js : List ℕ) → IsPermutation (i ∷ js) (queued hs i js)
queued_moves hs i [] = subst (IsPermutation (i ∷ [])) (sym (queued_none hs i)) (IsPermutation-refl (i ∷ []))
queued_moves hs i (j ∷ js) = by (queued_moves hs i js) (cases_lt (get_or hs j 0) (get_or hs i 0))
  where
    by : IsPermutation (i ∷ js) (queued hs i js) → (get_or hs j 0 < get_or hs i 0) ⊎ (get_or hs i 0 ≤ get_or hs j 0) → IsPermutation (i ∷ j ∷ js) (queued hs i (j ∷ js))
    by rest (inl less) =
        subst (IsPermutation (i ∷ j ∷ js)) (sym (queued_behind hs i j js less))
        (IsPermutation-trans (i ∷ j ∷ js) (j ∷ i ∷ js) (j ∷ queued hs i js) (IsPermutation-swap (i ∷ j ∷ js) (j ∷ i ∷ js) 0 1 (omega arith) (omega arith) refl)
        (IsPermutation-cons j (i ∷ js) (queued hs i js) rest))
    by rest (inr stop) = subst (IsPermutation (i ∷ j ∷ js)) (sym (queued_here hs i j js stop)) (IsPermutation-refl (i ∷ j ∷ js))

-- and their ranks ascend
queued_ascends : (hs : List ℕ) (i : ℕ) (js : List ℕ) → ((y : ℕ) → Contains js y → y ≡ i → ⊥) → Ascends hs js → Ascends hs (queued hs i js)
queued_ascends hs i [] apart up = subst (Ascends hs) (sym (queued_none hs i)) (tt, tt)
queued_ascends hs i (j ∷ js) apart up =
    by (queued_ascends hs i js (λ y c. apart y (later_in j js y c)) up.1) (cases_lt (get_or hs j 0) (get_or hs i 0))
  where
    behind : get_or hs j 0 < get_or hs i 0 → (y : ℕ) → (i ≡ y) ⊎ Contains js y → Follows hs j y
    behind less y (inl e) = subst (Follows hs j) e ((λ same. apart j (first_in j js) (sym same)), omega arith)
    behind less y (inr c) = each_of (Follows hs j) js y up.0 c

    ahead : get_or hs i 0 ≤ get_or hs j 0 → (y : ℕ) → (j ≡ y) ⊎ Contains js y → get_or hs i 0 ≤ get_or hs y 0
    ahead stop y (inl e) = subst (λ k. get_or hs i 0 ≤ get_or hs k 0) e stop
    ahead stop y (inr c) = let f = (each_of (Follows hs j) js y up.0 c).1 in omega arith

    by : Ascends hs (queued hs i js) → (get_or hs j 0 < get_or hs i 0) ⊎ (get_or hs i 0 ≤ get_or hs j 0) → Ascends hs (queued hs i (j ∷ js))
    by rest (inl less) =
        subst (Ascends hs) (sym (queued_behind hs i j js less))
        (all_of (Follows hs j) (queued hs i js) (λ y c. behind less y (in_cases i js y (Contains-permutation (queued hs i js) (i ∷ js) y (IsPermutation-sym (i ∷ js) (queued hs i js) (queued_moves hs i js)) c))), rest)
    by rest (inr stop) = subst (Ascends hs) (sym (queued_here hs i j js stop)) (all_of (Follows hs i) (j ∷ js) (λ y c. (apart y c, ahead stop y (in_cases j js y c))), up)

-- behind all of them, where its next packet comes behind that of the last
queued_last : (hs : List ℕ) (i n : ℕ) (js : List ℕ) → length js ≡ suc n → Ascends hs js → get_or hs (get_or js n 0) 0 < get_or hs i 0
    → queued hs i js ≡ js ++ i ∷ []
queued_last hs i n [] long up less = absurd (omega arith)
queued_last hs i zero (j ∷ []) long up less = queued_behind hs i j [] less ∙ ap (λ (xs : List ℕ). j ∷ xs) (queued_none hs i)
queued_last hs i zero (j ∷ k ∷ ks) long up less = absurd (omega arith)
queued_last hs i (suc n) (j ∷ []) long up less = absurd (omega arith)
queued_last hs i (suc n) (j ∷ k ∷ ks) long up less =
    let follows = each_of (Follows hs j) (k ∷ ks) (get_or (k ∷ ks) n 0) up.0 (Contains-get_or (k ∷ ks) n 0 (omega arith)) in
    queued_behind hs i j (k ∷ ks) (omega (arith, follows.1, less))
    ∙ ap (λ (xs : List ℕ). j ∷ xs) (queued_last hs i n (k ∷ ks) (omega arith) up.1 less)

-- a stream put among later ones
put_queue : (low i : ℕ) (hs is : List ℕ) → ((y : ℕ) → Contains is y → y ≡ i → ⊥) → Ascends hs is → ((j : ℕ) → Contains (i ∷ is) j → (low ≤ j) × (j < 44))
    → ((j : ℕ) → low ≤ j → j < 44 → get_or hs j 0 < finished → Contains (i ∷ is) j) → IsQueue low hs (queued hs i is)
put_queue low i hs is apart up m all = record {
  ascending = queued_ascends hs i is apart up;
  members = λ j h. m j (Contains-permutation (queued hs i is) (i ∷ is) j (IsPermutation-sym (i ∷ is) (queued hs i is) (queued_moves hs i is)) h);
  all = λ j from to some. Contains-permutation (i ∷ is) (queued hs i is) j (queued_moves hs i is) (all j from to some);
}

-- no stream of a queue has a rank below that of its first one
not_below : (hs queue : List ℕ) → Ascends hs queue → (j : ℕ) → Contains queue j → get_or hs (get_or queue 0 0) 0 ≤ get_or hs j 0
not_below hs [] up j h = absurd (none_in j h)
not_below hs (i ∷ is) up j h = by (in_cases i is j h)
  where
    by : (i ≡ j) ⊎ Contains is j → get_or hs i 0 ≤ get_or hs j 0
    by (inl e) = subst (λ k. get_or hs i 0 ≤ get_or hs k 0) e (omega arith)
    by (inr later) = (each_of (Follows hs i) is j up.0 later).1

-- the first stream has the least rank
pub first_least : (hs queue : List ℕ) → IsQueue 0 hs queue → get_or hs (get_or queue 0 0) 0 < finished → (j : ℕ) → j < 44 → get_or hs (get_or queue 0 0) 0 ≤ get_or hs j 0
first_least hs queue q some j low = by (cases_lt (get_or hs j 0) finished)
  where
    by : (get_or hs j 0 < finished) ⊎ (finished ≤ get_or hs j 0) → get_or hs (get_or queue 0 0) 0 ≤ get_or hs j 0
    by (inl less) = not_below hs queue q.ascending j (q.all j (omega arith) low less)
    by (inr end) = omega arith

-- where it has no next packet, none has
pub none_next : (hs queue : List ℕ) → IsQueue 0 hs queue → (0 < length queue → finished ≤ get_or hs (get_or queue 0 0) 0) → (j : ℕ) → j < 44 → finished ≤ get_or hs j 0
none_next hs queue q end j low = by (cases_lt (get_or hs j 0) finished)
  where
    ends : (xs : List ℕ) → Contains xs j → 0 < length xs
    ends [] h = absurd (none_in j h)
    ends (x ∷ xs) h = omega arith

    by : (get_or hs j 0 < finished) ⊎ (finished ≤ get_or hs j 0) → finished ≤ get_or hs j 0
    by (inl less) =
        let h = q.all j (omega arith) low less in
        let first = not_below hs queue q.ascending j h in
        let none = end (ends queue h) in
        omega arith
    by (inr none) = none

-- the first stream moves on, and is put back
ascends_other : (hs : List ℕ) (i g : ℕ) (js : List ℕ) → ((y : ℕ) → Contains js y → y ≡ i → ⊥) → Ascends hs js → Ascends (set hs i g) js
ascends_other hs i g [] apart up = tt
ascends_other hs i g (j ∷ js) apart up = (
  all_of (Follows (set hs i g) j) js (λ y c.
      let f = each_of (Follows hs j) js y up.0 c in
      (f.0, rw (get_or-set_other hs i j g 0 (apart j (first_in j js)), get_or-set_other hs i y g 0 (apart y (later_in j js y c))) f.1)),
  ascends_other hs i g js (λ y c. apart y (later_in j js y c)) up.1,
)

pub moved_ascends : (hs queue : List ℕ) (g : ℕ) → 0 < length queue → IsQueue 0 hs queue → Ascends (set hs (get_or queue 0 0) g) (drop 1 queue)
moved_ascends hs [] g some q = absurd (omega arith)
moved_ascends hs (i ∷ is) g some q = ascends_other hs i g is (λ y c. (each_of (Follows hs i) is y q.ascending.0 c).0) q.ascending.1

pub moved_queue : (hs queue : List ℕ) (g : ℕ) → 0 < length queue → IsQueue 0 hs queue
    → IsQueue 0 (set hs (get_or queue 0 0) g) (queued (set hs (get_or queue 0 0) g) (get_or queue 0 0) (drop 1 queue))
moved_queue hs [] g some q = absurd (omega arith)
moved_queue hs (i ∷ is) g some q =
    let apart = λ (y : ℕ) (c : Contains is y). (each_of (Follows hs i) is y q.ascending.0 c).0 in
    put_queue 0 i (set hs i g) is apart (ascends_other hs i g is apart q.ascending.1) q.members (λ j from to some. there j to some (cases_eq j i))
  where
    there : (j : ℕ) → j < 44 → get_or (set hs i g) j 0 < finished → (j ≡ i) ⊎ (j ≡ i → ⊥) → Contains (i ∷ is) j
    there j to some (inl e) = subst (λ k. Contains (i ∷ is) k) (sym e) (first_in i is)
    there j to some (inr ne) = q.all j (omega arith) to (subst (λ h. h < finished) (get_or-set_other hs i j g 0 ne) some)

-- the first stream goes past one that stands before it
pub place_passed : (hs : List ℕ) (n p : ℕ) (q r : List ℕ) → p + 1 < length q → get_or hs (get_or q (p + 1) 0) 0 < get_or hs n 0
    → take p q ++ queued hs n (drop (p + 1) q) ≡ r
    → take (p + 1) (set q p (get_or q (p + 1) 0)) ++ queued hs n (drop (p + 1 + 1) (set q p (get_or q (p + 1) 0))) ≡ r
place_passed hs n p q r low less is =
    let m = get_or q (p + 1) 0 in
    let behind = ap (queued hs n) (drop_more q (p + 1) 0 low) ∙ queued_behind hs n m (drop (p + 1 + 1) q) less in
    rw (take_more_set q p m (omega arith), drop-set-lt (p + 1 + 1) q p m (omega arith), append_assoc) (sym (ap (λ xs. take p q ++ xs) behind) ∙ is)

-- and stops where none is left
pub place_found : (hs : List ℕ) (n p : ℕ) (q r : List ℕ) → p < length q → (p + 1 < length q → get_or hs n 0 ≤ get_or hs (get_or q (p + 1) 0) 0)
    → take p q ++ queued hs n (drop (p + 1) q) ≡ r → set q p n ≡ r
place_found hs n p q r low stop is =
    sym (take-append-drop p (set q p n)) ∙ rw (take-set q p n, drop-set q p n low, ← ends (cases_lt (p + 1) (length q))) is
  where
    ends : (p + 1 < length q) ⊎ (length q ≤ p + 1) → queued hs n (drop (p + 1) q) ≡ n ∷ drop (p + 1) q
    ends (inl h) = rw (drop_more q (p + 1) 0 h) (queued_here hs n (get_or q (p + 1) 0) (drop (p + 1 + 1) q) (stop h))
    ends (inr h) = rw (drop_all (p + 1) q h) (queued_none hs n)

-- the others move up, and the first goes behind them
pub placed_last : (hs : List ℕ) (n : ℕ) (q moved : List ℕ) → length q ≡ suc n → length moved ≡ suc n → ((k : ℕ) → k < n → get_or moved k 0 ≡ get_or q (suc k) 0)
    → Ascends hs (drop 1 q) → get_or hs (get_or q n 0) 0 < get_or hs (get_or q 0 0) 0
    → set moved n (get_or q 0 0) ≡ queued hs (get_or q 0 0) (drop 1 q)
placed_last hs n [] moved long same are up less = absurd (omega arith)
placed_last hs zero (i ∷ is) moved long same are up less = absurd (omega arith)
placed_last hs (suc n) (i ∷ is) moved long same are up less =
    set_split moved (suc n) i (omega arith)
    ∙ rw (drop_all (suc (suc n)) moved (omega arith), front) (sym (queued_last hs i n is (omega arith) up less))
  where
    front : take (suc n) moved ≡ is
    front = ext_get_or 0 (take (suc n) moved) is (omega (arith, length-take-le (suc n) moved))
        (λ k low. get_or-take (suc n) moved k 0 (omega (arith, length-take-le (suc n) moved)) ∙ are k (omega (arith, length-take-le (suc n) moved)))

-- the numbers of a queue are those of streams
numbers_at : (queue : List ℕ) → ((j : ℕ) → Contains queue j → j < 44) → (k : ℕ) → k < length queue → get_or queue k 0 < 44
numbers_at queue m k h = m (get_or queue k 0) (Contains-get_or queue k 0 h)

pub queue_numbers : (hs queue : List ℕ) (k : ℕ) → IsQueue 0 hs queue → k < length queue → get_or queue k 0 < 44
queue_numbers hs queue k q h = numbers_at queue (λ j c. (q.members j c).1) k h

-- the queue of the streams from a number on grows by the stream below, which is put before the place p
module _ (i p : ℕ) (hs q : List ℕ) (low : i < 44) (near : p < 44) (long : length q ≡ 44) (later : IsQueue (i + 1) hs (drop (p + 1) q)) where
  abbrev part : List ℕ
  part = take (44 - p) (drop p (set q p i))

  part_is : part ≡ i ∷ drop (p + 1) q
  part_is = between_to_end (set q p i) p 44 (omega (arith, length-set q p i)) ∙ drop-set q p i (omega arith)

  grown : (j : ℕ) → Contains (i ∷ drop (p + 1) q) j → (i ≤ j) × (j < 44)
  grown j h = from (in_cases i (drop (p + 1) q) j h)
    where
      from : (i ≡ j) ⊎ Contains (drop (p + 1) q) j → (i ≤ j) × (j < 44)
      from (inl e) = (omega arith, omega arith)
      from (inr later_one) = let m = later.members j later_one in (omega arith, omega arith)

  all_there : (j : ℕ) → i ≤ j → j < 44 → get_or hs j 0 < finished → Contains (i ∷ drop (p + 1) q) j
  all_there j from to some = there (cases_lt i j)
    where
      there : (i < j) ⊎ (j ≤ i) → Contains (i ∷ drop (p + 1) q) j
      there (inl more) = later_in i (drop (p + 1) q) j (later.all j (omega arith) to some)
      there (inr less) = let e : i ≡ j = omega arith in subst (λ k. Contains (i ∷ drop (p + 1) q) k) e (first_in i (drop (p + 1) q))

  pub grown_numbers : (k : ℕ) → k < length part → get_or part k 0 < 44
  grown_numbers = subst (λ (xs : List ℕ). (k : ℕ) → k < length xs → get_or xs k 0 < 44) (sym part_is) (numbers_at (i ∷ drop (p + 1) q) (λ j c. (grown j c).1))

  pub grown_ascends : Ascends hs (drop 1 part)
  grown_ascends = subst (λ (xs : List ℕ). Ascends hs (drop 1 xs)) (sym part_is) later.ascending

  pub grown_queue : (new : List ℕ) → length new ≡ length part → new ≡ queued hs (get_or part 0 0) (drop 1 part) → IsQueue i hs (drop p (put_mid p (44 - p) (set q p i) new))
  grown_queue new same is =
      let size : length new ≡ 44 - p = omega (arith, same, ap (λ (xs : List ℕ). length xs) part_is, length-drop (p + 1) q) in
      let whole : length (put_mid p (44 - p) (set q p i) new) ≤ 44 = search (rules, overwrites) in
      let put = sym (between_to_end (put_mid p (44 - p) (set q p i) new) p 44 whole)
      ∙ (between-put_mid p (44 - p) (set q p i) new 44 (omega (arith, length-set q p i)) size
      ∙ (is ∙ ap (λ (xs : List ℕ). queued hs (get_or xs 0 0) (drop 1 xs)) part_is)) in
      subst (IsQueue i hs) (sym put) (put_queue i i hs (drop (p + 1) q) (λ y c e. (let m = (later.members y c).0 in omega arith)) later.ascending grown all_there)

pub none_queue : (hs : List ℕ) → IsQueue 44 hs []
none_queue hs = record {
  ascending = tt;
  members = λ j h. absurd (none_in j h);
  all = λ j from to some. absurd (omega arith);
}

-- a stream without a next packet is left out
pub passed_queue : (i : ℕ) (hs queue : List ℕ) → finished ≤ get_or hs i 0 → IsQueue (i + 1) hs queue → IsQueue i hs queue
passed_queue i hs queue end q = record {
  ascending = q.ascending;
  members = λ j h. (let m = q.members j h in (omega arith, m.1));
  all = λ j from to some. there j from to some (cases_eq j i);
}
  where
    there : (j : ℕ) → i ≤ j → j < 44 → get_or hs j 0 < finished → (j ≡ i) ⊎ (j ≡ i → ⊥) → Contains queue j
    there j from to some (inl e) = (let same = ap (λ k. get_or hs k 0) e in absurd (omega arith))
    there j from to some (inr ne) = q.all j (omega arith) to some

-- the queue before a step, in the terms of the stream and the place that come
pub later : (k p : ℕ) (hs q : List ℕ) → k < 44 → 0 < p → IsQueue (44 - k) hs (drop p q) → IsQueue (43 - k + 1) hs (drop (p - 1 + 1) q)
later k p hs q low some is =
    let e : 44 - k ≡ 43 - k + 1 = omega arith in
    let d : p ≡ p - 1 + 1 = omega arith in
    subst (λ n. IsQueue n hs (drop (p - 1 + 1) q)) e (subst (λ m. IsQueue (44 - k) hs (drop m q)) d is)

-- the streams looked at so far that have packets, in as many places at most
abbrev pub Queued : (numbers : List ℕ) (first k : ℕ) (heads : List ℕ) → Type 0
Queued numbers first k heads = (length numbers ≡ 44) × (44 - k ≤ first) × (first ≤ 44) × IsQueue (44 - k) heads (drop first numbers)

pub same_queue : (xs ys hs : List ℕ) (a b k : ℕ) → xs ≡ ys → a ≡ b → Queued ys b k hs → Queued xs a k hs
same_queue xs ys hs a b k e d s = subst (λ (zs : List ℕ). Queued zs a k hs) (sym e) (subst (λ n. Queued ys n k hs) (sym d) s)

pub put_queue_state : (k p : ℕ) (hs q new : List ℕ) → k < 44 → 0 < p → Queued q p k hs
    → length new ≡ length (take (44 - (p - 1)) (drop (p - 1) (set q (p - 1) (43 - k))))
    → new ≡ queued hs (get_or (take (44 - (p - 1)) (drop (p - 1) (set q (p - 1) (43 - k)))) 0 0) (drop 1 (take (44 - (p - 1)) (drop (p - 1) (set q (p - 1) (43 - k)))))
    → Queued (put_mid (p - 1) (44 - (p - 1)) (set q (p - 1) (43 - k)) new) (p - 1) (k + 1) hs
put_queue_state k p hs q new low some s same is =
    let e : 43 - k ≡ 44 - (k + 1) = omega arith in (
      search (rules, overwrites),
      omega arith,
      omega arith,
      subst (λ n. IsQueue n hs (drop (p - 1) (put_mid (p - 1) (44 - (p - 1)) (set q (p - 1) (43 - k)) new))) e
          (grown_queue (43 - k) (p - 1) hs q (omega arith) (omega arith) s.0 (later k p hs q low some s.3) new same is),
    )

pub passed_queue_state : (k p : ℕ) (hs q : List ℕ) → k < 44 → Queued q p k hs → finished ≤ get_or hs (43 - k) 0 → Queued q p (k + 1) hs
passed_queue_state k p hs q low s end =
    let e : 43 - k ≡ 44 - (k + 1) = omega arith in
    let d : 44 - k ≡ 43 - k + 1 = omega arith in (
      s.0,
      omega arith,
      s.2,
      subst (λ n. IsQueue n hs (drop p q)) e (passed_queue (43 - k) hs (drop p q) end (subst (λ n. IsQueue n hs (drop p q)) d s.3)),
    )
