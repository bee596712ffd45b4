-- What packed lists spell stays when a group is added to them.
use Rattle.std.proofs.Common.{◌≡◌, ℕ, zero, suc, ◌+◌, ◌-◌, ◌*◌, ◌/◌, ◌%◌, ◌<◌, ◌≤◌, inl, inr, List, [], ◌∷◌, ◌++◌, length, take, drop, get_or, add-one, Some, None, refl, sym, ap, subst, ◌∙◌, arith, length-append}
use Rattle.std.specs.Prelude.{slice_get, Option}
use Rattle.std.specs.Option.{option_and_then}
use Rattle.std.proofs.lemmas.Bool.{cases_lt}
use Rattle.std.proofs.lemmas.List.{take_more, take_all}
use Rattle.std.proofs.lemmas.Option.{slice_get_within, slice_get-get_or, option_and_then_some}
use Rattle.jk_walk.specs.declared.entries.PacketEntry.{PacketEntry}
use Rattle.jk_window.specs.declared.packed.Layout.{Layout}
use Rattle.jk_window.specs.declared.packed.Layout.TheVariants.{Joined, Near, Wide}
use Rattle.jk_window.specs.declared.packed.Group.{Group}
use Rattle.jk_window.specs.declared.packed.Lists.{Lists}
use Rattle.jk_window.specs.Packed.{entry_by, entry_at, one_or_none, spelled, AreSpelled}
use Rattle.jk_window.specs.Packing.{StaysIn, IsMore, Spell}

-- ---- lists one behind another

pub get_front : {A : Type 0} (xs ys : List A) (k : ℕ) (x : A) → slice_get xs k ≡ Some x → slice_get (xs ++ ys) k ≡ Some x
get_front [] ys k x e = absurd cc
get_front (y ∷ xs) ys zero x e = e
get_front (y ∷ xs) ys (suc k) x e = get_front xs ys k x e

pub get_behind : {A : Type 0} (xs ys : List A) (j : ℕ) → slice_get (xs ++ ys) (length xs + j) ≡ slice_get ys j
get_behind [] ys j = let none : 0 + j ≡ j = omega arith in ap (slice_get ys) none
get_behind (x ∷ xs) ys j =
    let one : suc (length xs) + j ≡ suc (length xs + j) = omega arith in ap (slice_get (x ∷ (xs ++ ys))) one ∙ get_behind xs ys j

-- at a place behind a list
pub get_at : {A : Type 0} (xs ys zs : List A) (j k : ℕ) → zs ≡ xs ++ ys → k ≡ length xs + j → slice_get zs k ≡ slice_get ys j
get_at xs ys zs j k e at = ap (λ l. slice_get l k) e ∙ ap (slice_get (xs ++ ys)) at ∙ get_behind xs ys j

pub get_kept : {A : Type 0} (xs ys zs : List A) (k : ℕ) (x : A) → zs ≡ xs ++ ys → slice_get xs k ≡ Some x → slice_get zs k ≡ Some x
get_kept xs ys zs k x e is = ap (λ l. slice_get l k) e ∙ get_front xs ys k x is

pub get_take : {A : Type 0} (xs : List A) (n k : ℕ) (x : A) → k < n → slice_get xs k ≡ Some x → slice_get (take n xs) k ≡ Some x
get_take [] n k x lt e = absurd cc
get_take (y ∷ xs) zero k x lt e = absurd (omega arith)
get_take (y ∷ xs) (suc n) zero x lt e = e
get_take (y ∷ xs) (suc n) (suc k) x lt e = get_take xs n k x (omega arith) e

pub get_drop : {A : Type 0} (xs : List A) (n k : ℕ) → slice_get (drop n xs) k ≡ slice_get xs (n + k)
get_drop xs zero k = let none : k ≡ 0 + k = omega arith in ap (slice_get xs) none
get_drop [] (suc n) k = refl
get_drop (y ∷ xs) (suc n) k =
    let one : suc (n + k) ≡ suc n + k = omega arith in get_drop xs n k ∙ ap (slice_get (y ∷ xs)) one

-- ---- one step of a chain

pub then_some : {A B : Type 0} (f : A → Option B) (o : Option A) (x : A) (y : B) → o ≡ Some x → f x ≡ Some y → option_and_then f o ≡ Some y
then_some f o x y e is = ap (option_and_then f) e ∙ is

-- ---- what is spelled stays

pub by_kept : (o : Layout) (old new : Lists) (g : Group) (i j : ℕ) (e : PacketEntry) → StaysIn old new → entry_by o old g i j ≡ Some e → entry_by o new g i j ≡ Some e
by_kept Joined old new g i j e more is =
    option_and_then_some _ (slice_get old.marks.items (g.at + j)) e is (λ from at_from k.
    option_and_then_some _ (slice_get old.headers.items (g.at + j)) e k (λ long at_long m.
    option_and_then_some _ (slice_get old.marks.items (g.at + j + 1)) e m (λ to at_to last.
    then_some _ (slice_get new.marks.items (g.at + j)) from e (get_kept old.marks.items more.marks_more new.marks.items (g.at + j) from more.marks at_from)
    (then_some _ (slice_get new.headers.items (g.at + j)) long e (get_kept old.headers.items more.headers_more new.headers.items (g.at + j) long more.headers at_long)
    (then_some _ (slice_get new.marks.items (g.at + j + 1)) to e (get_kept old.marks.items more.marks_more new.marks.items (g.at + j + 1) to more.marks at_to) last)))))
by_kept Near old new g i j e more is =
    option_and_then_some _ (slice_get old.near.items (g.at + j)) e is (λ n at last.
    then_some _ (slice_get new.near.items (g.at + j)) n e (get_kept old.near.items more.near_more new.near.items (g.at + j) n more.near at) last)
by_kept Wide old new g i j e more is = get_kept old.wide.items more.wide_more new.wide.items (g.at + j) e more.wide is

pub at_kept : (old new : Lists) (i : ℕ) (e : PacketEntry) → StaysIn old new → entry_at old i ≡ Some e → entry_at new i ≡ Some e
at_kept old new i e more is =
    option_and_then_some (λ (g : Group). entry_by g.layout old g i (i % 64)) (slice_get old.groups.items (i / 64)) e is (λ g at by.
    then_some (λ (g : Group). entry_by g.layout new g i (i % 64)) (slice_get new.groups.items (i / 64)) g e
    (get_kept old.groups.items more.groups_more new.groups.items (i / 64) g more.groups at)
    (by_kept g.layout old new g i (i % 64) e more by))

pub spell_kept : (old new : Lists) (entries : List PacketEntry) (n : ℕ) → Spell old entries n → StaysIn old new → Spell new entries n
spell_kept old new entries n before more = λ k e lt is. (at_kept old new k e more (before k e lt is).0, (before k e lt is).1)

-- ---- one group more

pub spell_none : (l : Lists) (entries : List PacketEntry) → Spell l entries (0 * 64)
spell_none l entries = λ k e lt is. absurd (omega (arith, lt))

pub spell_more : (old new : Lists) (entries piece : List PacketEntry) (m behind : ℕ) → Spell old entries (m * 64) → length old.groups.items ≡ m
    → piece ≡ take (behind - m * 64) (drop (m * 64) entries) → ((k : ℕ) → k < (m + 1) * 64 → k < length entries → k < behind) → IsMore old new piece (m * 64)
    → Spell new entries ((m + 1) * 64)
spell_more old new entries piece m behind before count cut far more = λ k e lt is. elim (cases_lt k (m * 64)) [
  | inl less ↦ (at_kept old new k e more.front (before k e less is).0, (before k e less is).1)
  | inr past ↦
      let j = k - m * 64 in
      let here : k ≡ m * 64 + j = omega (arith, past) in
      let group : k / 64 ≡ m = omega (arith, past, lt) in
      let place : k % 64 ≡ j = omega (arith, past, lt) in
      let within = slice_get_within entries k e is in
      let behind_k = far k lt within in
      let at : slice_get (drop (m * 64) entries) j ≡ Some e = get_drop entries (m * 64) j ∙ ap (slice_get entries) (sym here) ∙ is in
      let in_piece : slice_get piece j ≡ Some e = ap (λ l. slice_get l j) cut ∙ get_take (drop (m * 64) entries) (behind - m * 64) j e (omega (arith, behind_k, past)) at in
      let found : slice_get new.groups.items (k / 64) ≡ Some more.group = get_at old.groups.items (more.group ∷ []) new.groups.items 0 (k / 64) more.groups (omega (arith, group, count)) in
      let by : entry_by more.group.layout new more.group (m * 64 + j) j ≡ Some e = (more.spells j e in_piece).0 in (
        then_some (λ (g : Group). entry_by g.layout new g k (k % 64)) (slice_get new.groups.items (k / 64)) more.group e found
            (subst (λ p. entry_by more.group.layout new more.group k p ≡ Some e) (sym place)
            (subst (λ n. entry_by more.group.layout new more.group n j ≡ Some e) (sym here) by)),
        (more.spells j e in_piece).1,
      )
]

-- ---- the list that is spelled

one_is : (o : Option PacketEntry) (e : PacketEntry) → o ≡ Some e → one_or_none o ≡ e ∷ []
one_is o e is = ap one_or_none is

pub spelled_long : (l : Lists) (n : ℕ) → AreSpelled l n → length (spelled l n) ≡ n
unfolding spelled
spelled_long l zero all = refl
spelled_long l (suc n) all =
    let last = all n (omega arith) in
    let before = spelled_long l n (λ i lt. all i (omega (arith, lt))) in
    length-append (spelled l n) (one_or_none (entry_at l n)) ∙ ap (λ k. length (spelled l n) + length k) (one_is (entry_at l n) last.entry last.is) ∙ ap (λ k. k + 1) before ∙ omega arith

pub spelled_get : (l : Lists) (n i : ℕ) → AreSpelled l n → i < n → slice_get (spelled l n) i ≡ entry_at l i
unfolding spelled
spelled_get l zero i all lt = absurd (omega arith)
spelled_get l (suc n) i all lt =
    let sooner : AreSpelled l n = λ k less. all k (omega (arith, less)) in
    let long = spelled_long l n sooner in
    let here = all i lt in
    let more = one_or_none (entry_at l n) in
    elim (cases_lt i n) [
      | inl less ↦ get_front (spelled l n) more i here.entry (spelled_get l n i sooner less ∙ here.is) ∙ sym here.is
      | inr past ↦
          let last : i ≡ n = omega (arith, past, lt) in
          let at : slice_get more 0 ≡ Some here.entry = ap (λ o. slice_get (one_or_none o) 0) (ap (entry_at l) (sym last) ∙ here.is) in
          get_at (spelled l n) more (spelled l n ++ more) 0 i refl (omega (arith, last, long)) ∙ at ∙ sym here.is
    ]

-- ---- all entries

no_entry : PacketEntry
no_entry = record { start = 0; body = 0; end = 0; counter = None }

pub spelled_are : (l : Lists) (entries : List PacketEntry) (n : ℕ) → n ≤ length entries → Spell l entries n → spelled l n ≡ take n entries
unfolding spelled
spelled_are l entries zero within spell = refl
spelled_are l entries (suc n) within spell =
    let lt : n < length entries = omega (arith, within) in
    let last = get_or entries n (no_entry) in
    let at : slice_get entries n ≡ Some last = slice_get-get_or entries n no_entry lt in
    let before = spelled_are l entries n (omega (arith, within)) (λ k e less is. spell k e (omega (arith, less)) is) in
    let one = one_is (entry_at l n) last (spell n last (omega arith) at).0 in
    let more = take_more entries n no_entry lt in
    ap (λ xs. xs ++ one_or_none (entry_at l n)) before ∙ ap (λ ys. take n entries ++ ys) one ∙ sym more ∙ ap (λ k. take k entries) (add-one n)

pub spelled_all : (l : Lists) (entries : List PacketEntry) → Spell l entries (length entries) → spelled l (length entries) ≡ entries
spelled_all l entries spell = spelled_are l entries (length entries) (omega arith) spell ∙ take_all (length entries) entries (omega arith)

pub all_spelled : (l : Lists) (entries : List PacketEntry) → Spell l entries (length entries) → AreSpelled l (length entries)
all_spelled l entries spell = λ i lt.
    let e = get_or entries i (no_entry) in
    let at : slice_get entries i ≡ Some e = slice_get-get_or entries i no_entry lt in
    let told = spell i e lt at in
    record {
      entry = e;
      is = told.0;
      start = told.1.start;
      body = told.1.body;
      end = told.1.end;
    }
