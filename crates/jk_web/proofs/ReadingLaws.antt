-- A query that is read from front to back: what one more pair does.
use Rattle.std.proofs.Common.{◌≡◌, ℕ, ◌+◌, Bool, true, false, cond, ◌&&◌, ◌||◌, leb, List, [], ◌∷◌, map, count_by, Option, Some, None, is_some, is_none, refl, sym, ap, ◌∙◌, true≢false, arith}
use Rattle.std.specs.Prelude.{codes}
use Rattle.std.specs.List.{list_all, list_any, find}
use Rattle.std.specs.Option.{option_or, option_and_then}
use Rattle.std.specs.Str.{bytes_eq}
use Rattle.std.proofs.lemmas.List.Sums.{sum_by-cons}
use Rattle.std.proofs.lemmas.Bool.{false_from_ne_true, and_parts}
use Rattle.std.proofs.lemmas.Bool.Decides.{nat_tests}
use Rattle.std.proofs.lemmas.Slice.Eq.{bytes_eq-Decides}
use Rattle.jk_window.specs.declared.view.View.{View}
use Rattle.jk_web.specs.declared.query.Readings.{Readings}
use Rattle.jk_web.specs.Queries.{number_of, has_key, keys, is_reading, queried_window, asked_by}
use Rattle.jk_web.specs.Readings.{slots, is_once, number_with, asked_with}

-- the names, in the order in which they are judged
abbrev key_x : List ℕ
key_x = codes "x"

abbrev key_y : List ℕ
key_y = codes "y"

abbrev key_w : List ℕ
key_w = codes "w"

abbrev key_h : List ℕ
key_h = codes "h"

abbrev key_r : List ℕ
key_r = codes "r"

abbrev key_l : List ℕ
key_l = codes "layers"

-- the window, by its tests and its numbers
abbrev judged : Bool → Bool → Bool → Bool → Bool → Bool → Bool → Option ℕ → Option ℕ → Option ℕ → Option ℕ → Option ℕ → Option ℕ → Option View
judged all a b c d e f x y w h r l = cond (all && (a && (b && (c && (d && (e && (f && true))))))) (queried_window x y w h r l) None

abbrev Pair : Type 0
Pair = List ℕ × List ℕ

-- ---- how often a name stands

once_other : (t : Pair → Bool) (p : Pair) (rest : List Pair) (k : ℕ) → t p ≡ false → leb (count_by t (p ∷ rest) + k) 1 ≡ leb (count_by t rest + k) 1
once_other t p rest k e =
    let sum : count_by t (p ∷ rest) + k ≡ count_by t rest + k = ap (λ n. n + k) (sum_by-cons (λ q. cond (t q) 1 0) p rest) ∙ ap (λ b. cond b 1 0 + count_by t rest + k) e ∙ omega arith in
    ap (λ m. leb m 1) sum

once_free : (t : Pair → Bool) (p : Pair) (rest : List Pair) → t p ≡ true → leb (count_by t (p ∷ rest) + 0) 1 ≡ leb (count_by t rest + 1) 1
once_free t p rest e =
    let sum : count_by t (p ∷ rest) + 0 ≡ count_by t rest + 1 = ap (λ n. n + 0) (sum_by-cons (λ q. cond (t q) 1 0) p rest) ∙ ap (λ b. cond b 1 0 + count_by t rest + 0) e ∙ omega arith in
    ap (λ m. leb m 1) sum

once_full : (t : Pair → Bool) (p : Pair) (rest : List Pair) → t p ≡ true → leb (count_by t (p ∷ rest) + 1) 1 ≡ false
once_full t p rest e =
    let sum : count_by t (p ∷ rest) + 1 ≡ count_by t rest + 2 = ap (λ n. n + 1) (sum_by-cons (λ q. cond (t q) 1 0) p rest) ∙ ap (λ b. cond b 1 0 + count_by t rest + 1) e ∙ omega arith in
    let many : (n : ℕ) → leb (n + 2) 1 ≡ false = above in
    ap (λ m. leb m 1) sum ∙ many (count_by t rest)
  where
    above : (n : ℕ) → leb (n + 2) 1 ≡ false
    above n = grind (arith, nat_tests)

-- ---- what was read, name by name

abbrev Slot : Type 0
Slot = List ℕ × Option ℕ

-- the window by the numbers of the names in turn
abbrev by_numbers : List (Option ℕ) → Option View
by_numbers (x ∷ y ∷ w ∷ h ∷ r ∷ l ∷ []) = queried_window x y w h r l
by_numbers _ = None

-- what is made of pairs behind what was read
abbrev read_with : (List (Option ℕ) → Option View) → List Pair → List Slot → Option View
read_with f pairs read = cond (list_all is_reading pairs && list_all (is_once pairs) read) (f (map (λ s. number_with s.1 s.0 pairs) read)) None

as_read : (r : Readings) (pairs : List Pair) → asked_with r pairs ≡ read_with by_numbers pairs (slots r)
unfolding asked_with
as_read r pairs = refl

-- whether a name may be read once more
abbrev is_free : List ℕ → Slot → Bool
is_free key s = cond (bytes_eq key s.0) (is_none s.1) true

-- what was read with a number more of this name
abbrev filled : List ℕ → ℕ → Slot → Slot
filled key n s = (s.0, cond (bytes_eq key s.0) (Some n) s.1)

-- ---- a pair with a name

once_one : (key v : List ℕ) (rest : List Pair) (n : ℕ) (k : List ℕ) (o : Option ℕ) (own : Bool) → bytes_eq key k ≡ own → cond own (is_none o) true ≡ true
    → is_once ((key, v) ∷ rest) (k, o) ≡ is_once rest (k, cond own (Some n) o)
once_one key v rest n k None true e free = once_free (has_key k) (key, v) rest e
once_one key v rest n k (Some m) true e free = absurd (true≢false (sym free))
once_one key v rest n k o false e free = once_other (has_key k) (key, v) rest (cond (is_some o) 1 0) e

once_never : (key v : List ℕ) (rest : List Pair) (k : List ℕ) (o : Option ℕ) (own : Bool) → bytes_eq key k ≡ own → cond own (is_none o) true ≡ false
    → is_once ((key, v) ∷ rest) (k, o) ≡ false
once_never key v rest k None true e full = absurd (true≢false full)
once_never key v rest k (Some m) true e full = once_full (has_key k) (key, v) rest e
once_never key v rest k o false e full = absurd (true≢false full)

number_one : (key v : List ℕ) (rest : List Pair) (n : ℕ) (k : List ℕ) (o : Option ℕ) (own : Bool) → number_of v ≡ Some n → bytes_eq key k ≡ own
    → cond own (is_none o) true ≡ true → number_with o k ((key, v) ∷ rest) ≡ number_with (cond own (Some n) o) k rest
number_one key v rest n k None true num e free = ap (λ own. option_and_then (λ (p : Pair). number_of p.1) (cond own (Some (key, v)) (find (has_key k) rest))) e ∙ num
number_one key v rest n k (Some m) true num e free = absurd (true≢false (sym free))
number_one key v rest n k o false num e free = ap (λ own. option_or o (option_and_then (λ (p : Pair). number_of p.1) (cond own (Some (key, v)) (find (has_key k) rest)))) e

once_all : (key v : List ℕ) (rest : List Pair) (n : ℕ) (read : List Slot) → list_all (is_free key) read ≡ true
    → list_all (is_once ((key, v) ∷ rest)) read ≡ list_all (is_once rest) (map (filled key n) read)
once_all key v rest n [] e = refl
once_all key v rest n (s ∷ read) e =
    let parts = and_parts (is_free key s) (list_all (is_free key) read) e in
    λ i. once_one key v rest n s.0 s.1 (bytes_eq key s.0) refl parts.0 i && once_all key v rest n read parts.1 i

numbers_all : (key v : List ℕ) (rest : List Pair) (n : ℕ) (read : List Slot) → number_of v ≡ Some n → list_all (is_free key) read ≡ true
    → map (λ s. number_with s.1 s.0 ((key, v) ∷ rest)) read ≡ map (λ s. number_with s.1 s.0 rest) (map (filled key n) read)
numbers_all key v rest n [] num e = refl
numbers_all key v rest n (s ∷ read) num e =
    let parts = and_parts (is_free key s) (list_all (is_free key) read) e in
    λ i. number_one key v rest n s.0 s.1 (bytes_eq key s.0) num refl parts.0 i ∷ numbers_all key v rest n read num parts.1 i

and-false : (b : Bool) → (b && false) ≡ false
and-false true = refl
and-false false = refl

and-true : (b : Bool) → (b && true) ≡ b
and-true true = refl
and-true false = refl

full_more : (once all free all_free : Bool) → (free ≡ false → once ≡ false) → (all_free ≡ false → all ≡ false) → (free && all_free) ≡ false → (once && all) ≡ false
full_more once all false all_free now later e = ap (λ b. b && all) (now refl)
full_more once all true all_free now later e = ap (λ b. once && b) (later e) ∙ and-false once

full_all : (key v : List ℕ) (rest : List Pair) (read : List Slot) → list_all (is_free key) read ≡ false
    → list_all (is_once ((key, v) ∷ rest)) read ≡ false
full_all key v rest [] e = absurd (true≢false e)
full_all key v rest (s ∷ read) e =
    full_more (is_once ((key, v) ∷ rest) s) (list_all (is_once ((key, v) ∷ rest)) read) (is_free key s) (list_all (is_free key) read)
    (once_never key v rest s.0 s.1 (bytes_eq key s.0) refl) (full_all key v rest read) e

-- One more pair, of a name that was read before or not.
one_more : (f : List (Option ℕ) → Option View) (key v : List ℕ) (rest : List Pair) (n : ℕ) (read : List Slot) (free : Bool)
    → list_any (λ k. bytes_eq key k) keys ≡ true → number_of v ≡ Some n → list_all (is_free key) read ≡ free
    → read_with f ((key, v) ∷ rest) read ≡ cond free (read_with f rest (map (filled key n) read)) None
one_more f key v rest n read true known num e =
    λ i. cond (((known i && is_some (num i)) && list_all is_reading rest) && once_all key v rest n read e i) (f (numbers_all key v rest n read num e i)) None
one_more f key v rest n read false known num e =
    let numbers = f (map (λ s. number_with s.1 s.0 ((key, v) ∷ rest)) read) in
    ap (λ b. cond (list_all is_reading ((key, v) ∷ rest) && b) numbers None) (full_all key v rest read e)
    ∙ ap (λ b. cond b numbers None) (and-false (list_all is_reading ((key, v) ∷ rest)))

-- A name, what was read of it, and what is read with one more of it.
keeps : (r made : Readings) (key v : List ℕ) (rest : List Pair) (n : ℕ) (free : Bool) (slot : Option ℕ) → list_any (λ k. bytes_eq key k) keys ≡ true
    → list_all (is_free key) (slots r) ≡ (is_none slot && true) → map (filled key n) (slots r) ≡ slots made → number_of v ≡ Some n → free ≡ is_none slot
    → asked_with r ((key, v) ∷ rest) ≡ cond free (asked_with made rest) None
keeps r made key v rest n free slot known frees puts num is_free =
    as_read r ((key, v) ∷ rest)
    ∙ one_more by_numbers key v rest n (slots r) free known num (frees ∙ and-true (is_none slot) ∙ sym is_free)
    ∙ ap (λ o. cond free o None) (ap (read_with by_numbers rest) puts ∙ sym (as_read made rest))

pub keeps_x : (r : Readings) (key v : List ℕ) (n : ℕ) (rest : List Pair) (free : Bool) (new : Option ℕ) → key ≡ key_x → number_of v ≡ Some n
    → free ≡ is_none r.x → new ≡ Some n → asked_with r ((key, v) ∷ rest) ≡ cond free (asked_with record r { x = new } rest) None
keeps_x r key v n rest free new name num is_free is_new =
    ap (λ (t : List ℕ). asked_with r ((t, v) ∷ rest)) name
    ∙ keeps r record r { x = Some n } key_x v rest n free r.x refl refl refl num is_free
    ∙ sym (ap (λ s. cond free (asked_with record r { x = s } rest) None) is_new)

pub keeps_y : (r : Readings) (key v : List ℕ) (n : ℕ) (rest : List Pair) (free : Bool) (new : Option ℕ) → key ≡ key_y → number_of v ≡ Some n
    → free ≡ is_none r.y → new ≡ Some n → asked_with r ((key, v) ∷ rest) ≡ cond free (asked_with record r { y = new } rest) None
keeps_y r key v n rest free new name num is_free is_new =
    ap (λ (t : List ℕ). asked_with r ((t, v) ∷ rest)) name
    ∙ keeps r record r { y = Some n } key_y v rest n free r.y refl refl refl num is_free
    ∙ sym (ap (λ s. cond free (asked_with record r { y = s } rest) None) is_new)

pub keeps_w : (r : Readings) (key v : List ℕ) (n : ℕ) (rest : List Pair) (free : Bool) (new : Option ℕ) → key ≡ key_w → number_of v ≡ Some n
    → free ≡ is_none r.width → new ≡ Some n → asked_with r ((key, v) ∷ rest) ≡ cond free (asked_with record r { width = new } rest) None
keeps_w r key v n rest free new name num is_free is_new =
    ap (λ (t : List ℕ). asked_with r ((t, v) ∷ rest)) name
    ∙ keeps r record r { width = Some n } key_w v rest n free r.width refl refl refl num is_free
    ∙ sym (ap (λ s. cond free (asked_with record r { width = s } rest) None) is_new)

pub keeps_h : (r : Readings) (key v : List ℕ) (n : ℕ) (rest : List Pair) (free : Bool) (new : Option ℕ) → key ≡ key_h → number_of v ≡ Some n
    → free ≡ is_none r.height → new ≡ Some n → asked_with r ((key, v) ∷ rest) ≡ cond free (asked_with record r { height = new } rest) None
keeps_h r key v n rest free new name num is_free is_new =
    ap (λ (t : List ℕ). asked_with r ((t, v) ∷ rest)) name
    ∙ keeps r record r { height = Some n } key_h v rest n free r.height refl refl refl num is_free
    ∙ sym (ap (λ s. cond free (asked_with record r { height = s } rest) None) is_new)

pub keeps_r : (r : Readings) (key v : List ℕ) (n : ℕ) (rest : List Pair) (free : Bool) (new : Option ℕ) → key ≡ key_r → number_of v ≡ Some n
    → free ≡ is_none r.reduce → new ≡ Some n → asked_with r ((key, v) ∷ rest) ≡ cond free (asked_with record r { reduce = new } rest) None
keeps_r r key v n rest free new name num is_free is_new =
    ap (λ (t : List ℕ). asked_with r ((t, v) ∷ rest)) name
    ∙ keeps r record r { reduce = Some n } key_r v rest n free r.reduce refl refl refl num is_free
    ∙ sym (ap (λ s. cond free (asked_with record r { reduce = s } rest) None) is_new)

pub keeps_l : (r : Readings) (key v : List ℕ) (n : ℕ) (rest : List Pair) (free : Bool) (new : Option ℕ) → key ≡ key_l → number_of v ≡ Some n
    → free ≡ is_none r.layers → new ≡ Some n → asked_with r ((key, v) ∷ rest) ≡ cond free (asked_with record r { layers = new } rest) None
keeps_l r key v n rest free new name num is_free is_new =
    ap (λ (t : List ℕ). asked_with r ((t, v) ∷ rest)) name
    ∙ keeps r record r { layers = Some n } key_l v rest n free r.layers refl refl refl num is_free
    ∙ sym (ap (λ s. cond free (asked_with record r { layers = s } rest) None) is_new)

-- ---- a pair that is no reading

no_reading : (r : Readings) (p : Pair) (rest : List Pair) → is_reading p ≡ false → asked_with r (p ∷ rest) ≡ None
no_reading r p rest e =
    as_read r (p ∷ rest)
    ∙ (λ i. cond ((e i && list_all is_reading rest) && list_all (is_once (p ∷ rest)) (slots r)) (by_numbers (map (λ s. number_with s.1 s.0 (p ∷ rest)) (slots r))) None)

pub no_number : (r : Readings) (key v : List ℕ) (rest : List Pair) → number_of v ≡ None → asked_with r ((key, v) ∷ rest) ≡ None
no_number r key v rest none =
    no_reading r (key, v) rest (ap (λ o. list_any (λ k. has_key k (key, v)) keys && is_some o) none ∙ and-false (list_any (λ k. has_key k (key, v)) keys))

other : (a b : List ℕ) → (a ≡ b → ⊥) → bytes_eq a b ≡ false
other a b ne = false_from_ne_true (bytes_eq a b) (λ t. ne ((bytes_eq-Decides a b).0 t))

pub no_name : (r : Readings) (key v : List ℕ) (rest : List Pair) → (key ≡ key_x → ⊥) → (key ≡ key_y → ⊥) → (key ≡ key_w → ⊥)
    → (key ≡ key_h → ⊥) → (key ≡ key_r → ⊥) → (key ≡ key_l → ⊥) → asked_with r ((key, v) ∷ rest) ≡ None
no_name r key v rest nx ny nw nh nr nl =
    let ex = other key key_x nx in
    let ey = other key key_y ny in
    let ew = other key key_w nw in
    let eh = other key key_h nh in
    let er = other key key_r nr in
    let el = other key key_l nl in
    no_reading r (key, v) rest (λ i. (ex i || (ey i || (ew i || (eh i || (er i || (el i || false)))))) && is_some (number_of v))

-- ---- the beginning and the end

-- Before the first pair nothing was read.
pub asked_with-start : (r : Readings) (pairs : List Pair) → r.x ≡ None → r.y ≡ None → r.width ≡ None → r.height ≡ None → r.reduce ≡ None → r.layers ≡ None
    → asked_with r pairs ≡ asked_by pairs
unfolding asked_with
asked_with-start r pairs x y w h d n =
    let none : (key : List ℕ) (s : Option ℕ) → s ≡ None → leb (count_by (has_key key) pairs + cond (is_some s) 1 0) 1 ≡ leb (count_by (has_key key) pairs) 1 =
    λ key s e. ap (λ (t : Option ℕ). leb (count_by (has_key key) pairs + cond (is_some t) 1 0) 1) e ∙ ap (λ m. leb m 1) (plain key) in
    λ i. judged (list_all is_reading pairs)
    (none key_x r.x x i) (none key_y r.y y i) (none key_w r.width w i) (none key_h r.height h i) (none key_r r.reduce d i) (none key_l r.layers n i)
    (number_with (x i) key_x pairs) (number_with (y i) key_y pairs) (number_with (w i) key_w pairs) (number_with (h i) key_h pairs) (number_with (d i) key_r pairs) (number_with (n i) key_l pairs)
  where
    plain : (key : List ℕ) → count_by (has_key key) pairs + 0 ≡ count_by (has_key key) pairs
    plain key = omega arith

none_left : (key : List ℕ) (s : Option ℕ) → is_once [] (key, s) ≡ true
none_left key None = refl
none_left key (Some n) = refl

or_none : (s : Option ℕ) → option_or s None ≡ s
or_none None = refl
or_none (Some n) = refl

-- Behind the last pair the window is that of what was read.
pub asked_with-end : (r : Readings) → asked_with r [] ≡ queried_window r.x r.y r.width r.height r.reduce r.layers
unfolding asked_with
asked_with-end r =
    λ i. judged true (none_left key_x r.x i) (none_left key_y r.y i) (none_left key_w r.width i) (none_left key_h r.height i) (none_left key_r r.reduce i) (none_left key_l r.layers i)
    (or_none r.x i) (or_none r.y i) (or_none r.width i) (or_none r.height i) (or_none r.reduce i) (or_none r.layers i)
