-- What is listed in an archive and published in one step.
use Rattle.std.proofs.Common.{◌≡◌, ◌⊎◌, inl, inr, ⊎_elim, ℕ, Bool, true, false, not, ◌&&◌, ◌||◌, List, [], ◌∷◌, ◌++◌, Result, Ok, Err, OnOk, OnErr, IfErr, ◌↔◌, refl, ap, sym, ◌∙◌, subst, append_assoc, arith}
use Rattle.std.proofs.lemmas.List.{append-nil}
use Rattle.std.specs.Prelude.{nat_le, length}
use Rattle.std.specs.Result.{IsErrAnd}
use Rattle.std.specs.String.{string_bytes}
use mathlib.Core.List.{IsPrefix}
use Rattle.jk_math.specs.Answer.{◌>>=◌, refuse}
use Rattle.jk_math.specs.Memory.{IsMemory}
use Rattle.jk_math.specs.declared.fault.Fault.{Fault}
use Rattle.jk_math.specs.declared.fault.Fault.TheVariants.{BadName, NameTaken, Limit}
use Rattle.jk_store.specs.Names.{is_good_name}
use Rattle.jk_store.specs.Adding.{judged_name}
use Rattle.jk_store.specs.Catalogue.{is_listed, most_entries}
use Rattle.jk_store.specs.declared.entry.Entry.{Entry}
use Rattle.jk_store.specs.declared.prepared.Prepared.{Prepared}
use Rattle.jk_serve.specs.declared.unlisted.Unlisted.{Unlisted}
use Rattle.jk_hall.specs.Writing.{are_new}
use Rattle.jk_hall.proofs.Names.{listed-append}
use Rattle.jk_serve.specs.Tables.{AreWithin, IsListedBeside, IsPassedBeside, ListEach}

-- ---- one image more

pub listed_on : (start now next : List Entry) (p : Prepared) (left all : List Prepared) (done : List Entry) (passed : List Unlisted) (e : Entry)
    → IsListedBeside now p e → next ≡ now ++ e ∷ []
    → ((more : List Entry) (rest : List Unlisted) → ListEach now (p ∷ left) more rest → ListEach start all (done ++ more) (passed ++ rest))
    → (more : List Entry) (rest : List Unlisted) → ListEach next left more rest → ListEach start all ((done ++ e ∷ []) ++ more) (passed ++ rest)
listed_on start now next p left all done passed e is same before more rest each =
    subst (λ es. ListEach start all es (passed ++ rest)) (sym (append_assoc done (e ∷ []) more))
    (before (e ∷ more) rest (inl (e, more, is, refl, subst (λ es. ListEach es left more rest) same each)))

pub passed_on : (start now next : List Entry) (p : Prepared) (left all : List Prepared) (done : List Entry) (passed : List Unlisted) (k : Unlisted)
    → IsPassedBeside now p k → next ≡ now
    → ((more : List Entry) (rest : List Unlisted) → ListEach now (p ∷ left) more rest → ListEach start all (done ++ more) (passed ++ rest))
    → (more : List Entry) (rest : List Unlisted) → ListEach next left more rest → ListEach start all (done ++ more) ((passed ++ k ∷ []) ++ rest)
passed_on start now next p left all done passed k is same before more rest each =
    subst (λ ks. ListEach start all (done ++ more) ks) (sym (append_assoc passed (k ∷ []) rest))
    (before more (k ∷ rest) (inr (k, rest, is, refl, subst (λ es. ListEach es left more rest) same each)))

pub no_items : {X : Type 0} (xs : List X) → length xs ≡ 0 → xs ≡ []
no_items [] none = refl
no_items (x ∷ xs) none = absurd (omega (arith, none))

-- all are judged
pub all_judged : (start now : List Entry) (all : List Prepared) (done : List Entry) (passed : List Unlisted)
    → ((more : List Entry) (rest : List Unlisted) → ListEach now [] more rest → ListEach start all (done ++ more) (passed ++ rest)) → ListEach start all done passed
all_judged start now all done passed before =
    subst (λ es. ListEach start all es passed) (append-nil done) (subst (λ ks. ListEach start all (done ++ []) ks) (append-nil passed) (before [] [] (refl, refl)))

-- ---- names

one_of : (a b : Bool) → (a || b) ≡ true → (a ≡ true) ⊎ (b ≡ true)
one_of true b is = inl refl
one_of false b is = inr is

first_of : (a b : Bool) → a ≡ true → (a || b) ≡ true
first_of true b is = refl
first_of false b is = absurd (cc)

second_of : (a b : Bool) → b ≡ true → (a || b) ≡ true
second_of true b is = refl
second_of false b is = is

listed_first : (xs ys : List Entry) (n : List ℕ) → is_listed xs n ≡ true → is_listed (xs ++ ys) n ≡ true
listed_first xs ys n is = listed-append xs ys n ∙ first_of (is_listed xs n) (is_listed ys n) is

listed_last : (xs ys : List Entry) (n : List ℕ) → is_listed ys n ≡ true → is_listed (xs ++ ys) n ≡ true
listed_last xs ys n is = listed-append xs ys n ∙ second_of (is_listed xs n) (is_listed ys n) is

prefix_listed : (front all : List Entry) (n : List ℕ) → IsPrefix front all → is_listed front n ≡ true → is_listed all n ≡ true
prefix_listed front all n p is = subst (λ es. is_listed es n ≡ true) p.1 (listed_first front p.0 n is)

pub within_self : (xs : List Entry) → AreWithin xs xs
within_self xs n is = is

-- the same entries behind both, or a beginning of them behind the first
pub within_front : (xs ys front more : List Entry) → IsPrefix front more → AreWithin xs ys → AreWithin (xs ++ front) (ys ++ more)
within_front xs ys front more p within n is =
    ⊎_elim (λ (h : is_listed xs n ≡ true). listed_first ys more n (within n h)) (λ (h : is_listed front n ≡ true). listed_last ys more n (prefix_listed front more n p h))
    (one_of (is_listed xs n) (is_listed front n) (sym (listed-append xs front n) ∙ is))

prefix_itself : (xs : List Entry) → IsPrefix xs xs
prefix_itself xs = ([], append-nil xs)

pub within_more : (xs ys more : List Entry) → AreWithin xs ys → AreWithin (xs ++ more) (ys ++ more)
within_more xs ys more within = within_front xs ys more more (prefix_itself more) within

pub within_longer : (xs ys more : List Entry) → AreWithin xs ys → AreWithin xs (ys ++ more)
within_longer xs ys more within n is = listed_first ys more n (within n is)

fresh_judged : (there : List Entry) (n : List ℕ) → judged_name there n ≡ Ok tt → is_listed there n ≡ false
unfolding judged_name
fresh_judged there n is = by_name (is_good_name n) (is_listed there n) (nat_le most_entries (length there)) is
  where
    by_name : (good listed full : Bool) → (refuse (not good) BadName >>= λ _. refuse listed NameTaken >>= λ _. refuse full Limit) ≡ Ok tt → listed ≡ false
    by_name good false full is = refl
    by_name true true full is = absurd (cc)
    by_name false true full is = absurd (cc)

not_within : (a b : Bool) → (a ≡ true → b ≡ true) → b ≡ false → a ≡ false
not_within false b up is = refl
not_within true b up is = absurd (let both = sym (up refl) ∙ is in cc)

new_first : (some more : List Entry) (e : Entry) → is_listed some (string_bytes e.name) ≡ false → are_new (some ++ e ∷ []) more ≡ true → are_new some (e ∷ more) ≡ true
new_first some more e fresh on = ap (λ (b : Bool). not b && are_new (some ++ e ∷ []) more) fresh ∙ on

-- what is listed has names that none of those has that are within
pub new_within : (images : List Prepared) (there some more : List Entry) (passed : List Unlisted) → AreWithin some there → ListEach there images more passed → are_new some more ≡ true
new_within [] there some more passed within each = ap (are_new some) each.0
new_within (p ∷ images) there some more passed within (inl h) =
    let e = h.0 in
    let fresh = fresh_judged there (string_bytes p.name) h.2.0 in
    let named : string_bytes e.name ≡ string_bytes p.name = h.2.1.2.name in
    let apart = not_within (is_listed some (string_bytes e.name)) (is_listed there (string_bytes e.name)) (within (string_bytes e.name)) (ap (is_listed there) named ∙ fresh) in
    subst (λ es. are_new some es ≡ true) (sym h.3) (new_first some h.1 e apart (new_within images (there ++ e ∷ []) (some ++ e ∷ []) h.1 passed (within_more some there (e ∷ []) within) h.4))
new_within (p ∷ images) there some more passed within (inr h) = new_within images there some more h.1 within h.4

-- where no name is taken, what is refused is refused for want of memory
pub memory_alone : {A B : Type 0} (r : Result A Fault) (x : Fault) (q : Result B Fault) (b : Bool) → IsErrAnd r (λ e. e ≡ x) → q ≡ Err x → IsMemory x ⊎ (x ≡ NameTaken) → (q ≡ Err NameTaken) ↔ (b ≡ false) → b ≡ true
    → IfErr r IsMemory
memory_alone (Ok y) x q b h was cause taken new = tt
memory_alone (Err y) x q b h was (inl memory) taken new = subst IsMemory (sym h) memory
memory_alone (Err y) x q b h was (inr named) taken new = absurd (let no = taken.0 (was ∙ ap Err named) in let both = sym new ∙ no in cc)

-- what waits comes behind what is listed
behind_both : (list waits more entries : List Entry) (front : List Entry) → IsPrefix front more → AreWithin (list ++ waits) entries → AreWithin (list ++ (waits ++ front)) (entries ++ more)
behind_both list waits more entries front p within =
    subst (λ es. AreWithin es (entries ++ more)) (append_assoc list waits front) (within_front (list ++ waits) entries front more p within)

-- where it is published
within_shown : (list waits more entries list' waits' : List Entry) → AreWithin (list ++ waits) entries → list' ≡ list ++ (waits ++ more) → waits' ≡ [] → AreWithin (list' ++ waits') (entries ++ more)
within_shown list waits more entries list' waits' within shown none =
    subst (λ es. AreWithin es (entries ++ more)) (sym (ap (λ es. es ++ waits') shown ∙ ap (λ es. (list ++ (waits ++ more)) ++ es) none ∙ append-nil (list ++ (waits ++ more))))
    (behind_both list waits more entries more (prefix_itself more) within)

-- where a beginning of it waits
within_waiting : (list waits more entries list' waits' front : List Entry) → AreWithin (list ++ waits) entries → list' ≡ list → waits' ≡ waits ++ front → IsPrefix front more → AreWithin (list' ++ waits') (entries ++ more)
within_waiting list waits more entries list' waits' front within shown still p =
    subst (λ es. AreWithin es (entries ++ more)) (sym (ap (λ es. es ++ waits') shown ∙ ap (λ es. list ++ es) still)) (behind_both list waits more entries front p within)

pub within_all : {A E : Type 0} (r : Result A E) (list waits more entries list' waits' after : List Entry) → AreWithin (list ++ waits) entries → after ≡ entries ++ more
    → OnOk r (list' ≡ list ++ (waits ++ more)) → OnOk r (waits' ≡ []) → OnErr r (list' ≡ list) → OnErr r ((front : List Entry) × IsPrefix front more × (waits' ≡ waits ++ front))
    → AreWithin (list' ++ waits') after
within_all (Ok x) list waits more entries list' waits' after within grown shown none same still =
    subst (λ es. AreWithin (list' ++ waits') es) (sym grown) (within_shown list waits more entries list' waits' within shown none)
within_all (Err x) list waits more entries list' waits' after within grown shown none same still =
    subst (λ es. AreWithin (list' ++ waits') es) (sym grown) (within_waiting list waits more entries list' waits' still.0 within same still.2 still.1)

either_waits : (waits waits' : List Entry) (e : Entry) → (waits' ≡ waits) ⊎ (waits' ≡ waits ++ e ∷ []) → (front : List Entry) × IsPrefix front (e ∷ []) × (waits' ≡ waits ++ front)
either_waits waits waits' e (inl same) = ([], (e ∷ [], refl), same ∙ sym (append-nil waits))
either_waits waits waits' e (inr behind) = (e ∷ [], ([], refl), behind)

pub within_one : {A E : Type 0} (r : Result A E) (list waits entries list' waits' after : List Entry) (e : Entry) → AreWithin (list ++ waits) entries → after ≡ entries ++ e ∷ []
    → OnOk r (list' ≡ list ++ (waits ++ e ∷ [])) → OnOk r (waits' ≡ []) → OnErr r (list' ≡ list) → OnErr r ((waits' ≡ waits) ⊎ (waits' ≡ waits ++ e ∷ []))
    → AreWithin (list' ++ waits') after
within_one {A} {E} (Ok x) list waits entries list' waits' after e within grown shown none same still = within_all {A = A} {E = E} (Ok x) list waits (e ∷ []) entries list' waits' after within grown shown none same still
within_one {A} {E} (Err x) list waits entries list' waits' after e within grown shown none same still =
    within_all {A = A} {E = E} (Err x) list waits (e ∷ []) entries list' waits' after within grown shown none same (either_waits waits waits' e still)
