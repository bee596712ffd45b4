-- Lists of digests that are read: the lines so far, and that a text is one list.
use Rattle.std.proofs.Common.{◌≡◌, ◌≢◌, ℕ, ◌<◌, zero, suc, Bool, true, false, not, ◌||◌, cond, ◌⊎◌, List, [], ◌∷◌, ◌++◌, map, length, get_or, drop, All, Bor, Option, Some, None, MatchOption, IfNone, Result, Ok, is_ok, inl, inr, refl, sym, ap, subst, ◌∙◌, arith, append_assoc, append-nil, true≢false}
use Rattle.std.specs.List.{AllZip, AllByRecursion, AllPass, IsDistinct, flat_map, list_any}
use Rattle.std.proofs.lemmas.Grind.{flat_map-append}
use Rattle.std.proofs.lemmas.List.Elements.{All-append, All-head, All-tail}
use Rattle.std.proofs.lemmas.List.Folds.{list_any-append}
use Rattle.std.specs.Str.{bytes_eq}
use Rattle.hex.specs.Hex.{decode_sized, is_hex_digit}
use Rattle.hex.specs.declared.error.FromHexError.{FromHexError}
use Rattle.hex.proofs.HexLemmas.{IsOk-decode_sized}
use Rattle.std.specs.Result.{result_ok, result_unwrap_or}
use Rattle.std.proofs.lemmas.Str.Pattern.{IsSplitOnceResult, split_after}
use Rattle.std.specs.Prelude.{◌==◌}
use Rattle.std.proofs.lemmas.Bool.{eqb-true}
use Rattle.jk_commands.specs.declared.sums.Sum.{Sum}
use Rattle.jk_commands.specs.Sums.{SumFields, sum_fields, IsSumLine, IsSumList, IsOneLine, ended}

-- ---- lines

-- what stands before the first byte of a kind, and behind it
one_cut : (c : ℕ) (a b x y : List ℕ) → All (λ z. z ≢ c) a → All (λ z. z ≢ c) b → a ++ c ∷ x ≡ b ++ c ∷ y → (a ≡ b) × (x ≡ y)
one_cut c [] [] x y p q e = (refl, ap (drop 1) e)
one_cut c [] (d ∷ b) x y p q e = absurd (q 0 0 (omega arith) (sym (ap (λ l. get_or l 0 0) e)))
one_cut c (d ∷ a) [] x y p q e = absurd (p 0 0 (omega arith) (ap (λ l. get_or l 0 0) e))
one_cut c (d ∷ a) (f ∷ b) x y p q e =
    let rest = one_cut c a b x y (All-tail (λ z. z ≢ c) d a p) (All-tail (λ z. z ≢ c) f b q) (ap (drop 1) e) in
    (ap (λ z. z ∷ a) (ap (λ l. get_or l 0 0) e) ∙ ap (λ l. f ∷ l) rest.0, rest.1)

first_line : (a b x y : List ℕ) → IsOneLine a → IsOneLine b → ended a ++ x ≡ ended b ++ y → (a ≡ b) × (x ≡ y)
first_line a b x y p q e =
    one_cut 10 a b x y p q (sym (append_assoc a (10 ∷ []) x) ∙ (e ∙ append_assoc b (10 ∷ []) y))

no_ended : (a x : List ℕ) → [] ≡ ended a ++ x → ⊥
no_ended [] x e = let none : 0 ≡ suc (length x) = ap (λ l. length l) e in absurd (omega (arith, none))
no_ended (d ∷ a) x e = let none : 0 ≡ suc (length (ended a ++ x)) = ap (λ l. length l) e in absurd (omega (arith, none))

-- lines in front of a text that is lines
more_lines : (front lines : List (List ℕ)) (rest : List ℕ) → All IsOneLine front → All IsOneLine lines
    → flat_map ended front ++ rest ≡ flat_map ended lines
    → (more : List (List ℕ)) × (lines ≡ front ++ more) × (rest ≡ flat_map ended more)
more_lines [] lines rest p q e = (lines, refl, e)
more_lines (a ∷ front) [] rest p q e =
    absurd (no_ended a (flat_map ended front ++ rest) (sym e ∙ append_assoc (ended a) (flat_map ended front) rest))
more_lines (a ∷ front) (b ∷ lines) rest p q e =
    let cut = first_line a b (flat_map ended front ++ rest) (flat_map ended lines) (All-head IsOneLine a front p) (All-head IsOneLine b lines q)
    (sym (append_assoc (ended a) (flat_map ended front) rest) ∙ e) in
    let tail = more_lines front lines rest (All-tail IsOneLine a front p) (All-tail IsOneLine b lines q) cut.1 in
    (tail.0, ap (λ l. l ∷ lines) (sym cut.0) ∙ ap (λ l. a ∷ l) tail.1, tail.2)

-- the lines of a text, of which the last may lack its end
abbrev Spell : List (List ℕ) → List ℕ → Type 0
Spell lines text = (text ≡ flat_map ended lines) ⊎ (ended text ≡ flat_map ended lines)

-- what is left of the lines behind those in front
spell_rest : (front lines : List (List ℕ)) (text rest : List ℕ) → All IsOneLine front → All IsOneLine lines
    → text ≡ flat_map ended front ++ rest → Spell lines text → (more : List (List ℕ)) × (lines ≡ front ++ more) × Spell more rest
spell_rest front lines text rest p q e (inl whole) =
    let m = more_lines front lines rest p q (sym e ∙ whole) in (m.0, m.1, inl m.2)
spell_rest front lines text rest p q e (inr open_end) =
    let m = more_lines front lines (ended rest) p q
    (sym (append_assoc (flat_map ended front) rest (10 ∷ [])) ∙ (ap ended (sym e) ∙ open_end)) in
    (m.0, m.1, inr m.2)

-- ---- what lines say

no_space : (digits bytes : List ℕ) → decode_sized digits 32 ≡ Ok bytes → All (λ z. z ≢ 32) digits
no_space digits bytes e = λ k d lt is.
    let pass : AllPass is_hex_digit digits = ((IsOk-decode_sized digits 32).0 (ap (λ r. is_ok r) e)).1 in
    let here : is_hex_digit (get_or digits k d) ≡ true = pass k d lt in
    true≢false (sym here ∙ ap is_hex_digit is)

one_value : (r : Result (List ℕ) FromHexError) (a b : List ℕ) → r ≡ Ok a → r ≡ Ok b → a ≡ b
one_value r a b p q = ap (λ (x : Result (List ℕ) FromHexError). result_unwrap_or x []) (sym p ∙ q)

-- a line says one thing
pub one_meaning : (line d n e m : List ℕ) → IsSumLine line d n → IsSumLine line e m → (d ≡ e) × (n ≡ m)
one_meaning line d n e m p q =
    let cut = one_cut 32 p.digits q.digits (p.mark ∷ n) (q.mark ∷ m) (no_space p.digits d p.bytes) (no_space q.digits e q.bytes)
    (sym p.text ∙ q.text) in
    (one_value (decode_sized p.digits 32) d e p.bytes (ap (λ t. decode_sized t 32) cut.0 ∙ q.bytes), ap (drop 1) cut.1)

-- ---- a line that says nothing

pub if_none : {A P : Type 0} (r : Option A) → P → IfNone r P
if_none None p = p
if_none (Some x) p = tt

-- what a text is without its first character, or that it hasn't it
abbrev IsStripped : ℕ → List ℕ → Option (Bor (List ℕ)) → Type 0
IsStripped c text r = MatchOption r ((rest : List ℕ) → text ≢ c ∷ rest) (λ x. text ≡ c ∷ x.now)

pub no_mark : (text : List ℕ) (first second : Option (Bor (List ℕ))) → first ≡ None → IsStripped 32 text first → IsStripped 42 text second
    → IfNone second ((mark : ℕ) (name : List ℕ) → text ≡ mark ∷ name → (mark ≡ 32) ⊎ (mark ≡ 42) → ⊥)
no_mark text (Some x) second none a b = absurd (let clash = none in cc)
no_mark text None (Some x) none a b = tt
no_mark text None None none a b = λ mark name e marked. elim marked [
  | inl space ↦ a name (e ∙ ap (λ z. z ∷ name) space)
  | inr asterisk ↦ b name (e ∙ ap (λ z. z ∷ name) asterisk)
]

free_of_space : (digits bytes : List ℕ) → decode_sized digits 32 ≡ Ok bytes → (i : ℕ) → i < length digits → get_or digits i 0 ≢ 32
free_of_space digits bytes e i lt = no_space digits bytes e i 0 lt

pub not_split : (line : List ℕ) (r : Option (Bor (List ℕ) × Bor (List ℕ))) → r ≡ None → IsSplitOnceResult 32 line r
    → (d n : List ℕ) → IsSumLine line d n → ⊥
not_split line r none h d n says =
    let cut = split_after 32 line says.digits (says.mark ∷ n) r h (omega arith) says.text (free_of_space says.digits d says.bytes) in
    rw none at cut

-- the two sides of the first space are the digits and what stands behind
pub split_says : (line : List ℕ) (x : Bor (List ℕ) × Bor (List ℕ)) (r : Option (Bor (List ℕ) × Bor (List ℕ))) → r ≡ Some x → IsSplitOnceResult 32 line r
    → (d n : List ℕ) (says : IsSumLine line d n) → (x.0.now ≡ says.digits) × (x.1.now ≡ says.mark ∷ n)
split_says line x r some h d n says =
    let cut = split_after 32 line says.digits (says.mark ∷ n) r h (omega arith) says.text (free_of_space says.digits d says.bytes) in
    rw some at cut

pub not_decoded : (digits : List ℕ) (r : Result (List ℕ) FromHexError) (line d n : List ℕ) (says : IsSumLine line d n)
    → digits ≡ says.digits → r ≡ decode_sized digits 32 → result_ok r ≡ None → ⊥
not_decoded digits r line d n says same is none =
    let ok : r ≡ Ok d = is ∙ (ap (λ t. decode_sized t 32) same ∙ says.bytes) in
    let some : result_ok r ≡ Some d = ap (λ (q : Result (List ℕ) FromHexError). result_ok q) ok in
    let clash : None ≡ Some d = sym none ∙ some in
    cc

no_empty_line : (d n : List ℕ) → IsSumLine [] d n → ⊥
no_empty_line d n says = absurd (split_apart says.digits (says.mark ∷ n) says.text) where
  split_apart : (a x : List ℕ) → [] ≡ a ++ 32 ∷ x → ⊥
  split_apart [] x e = let none : 0 ≡ suc (length x) = ap (λ l. length l) e in absurd (omega (arith, none))
  split_apart (b ∷ a) x e = let none : 0 ≡ suc (length (a ++ 32 ∷ x)) = ap (λ l. length l) e in absurd (omega (arith, none))

-- a line by what it says
abbrev Says : List ℕ → SumFields → Type 0
Says line s = IsSumLine line s.digest s.name

abbrev said : (name digest : List ℕ) → SumFields
said name digest = record { name = name; digest = digest }

one_saying : (line : List ℕ) (s t : SumFields) → Says line s → Says line t → s ≡ t
one_saying line s t p q =
    let same = one_meaning line s.digest s.name t.digest t.name p q in
    made same.0 same.1
  where
    made : s.digest ≡ t.digest → s.name ≡ t.name → s ≡ t
    made d n =
        let named : s ≡ said t.name s.digest = ap (λ x. said x s.digest) n in
        let digested : said t.name s.digest ≡ t = ap (λ x. said t.name x) d in
        named ∙ digested

-- the files of the lines in front, and of those behind
zip_split : (front more : List (List ℕ)) (sums said : List SumFields) → AllZip Says front sums → AllZip Says (front ++ more) said
    → (left : List SumFields) × (said ≡ sums ++ left) × AllZip Says more left
zip_split [] more [] said p q = (said, refl, q)
zip_split [] more (s ∷ sums) said p q = absurd p
zip_split (a ∷ front) more [] said p q = absurd p
zip_split (a ∷ front) more (s ∷ sums) [] p q = absurd q
zip_split (a ∷ front) more (s ∷ sums) (t ∷ said) p q =
    let tail = zip_split front more sums said p.1 q.1 in
    (tail.0, ap (λ x. x ∷ said) (sym (one_saying a s t p.0 q.0)) ∙ ap (λ l. s ∷ l) tail.1, tail.2)

-- ---- what was read so far

zip_more : (lines : List (List ℕ)) (sums : List SumFields) (line : List ℕ) (s : SumFields) → AllZip Says lines sums → Says line s → AllZip Says (lines ++ line ∷ []) (sums ++ s ∷ [])
zip_more [] [] x y h p = (p, tt)
zip_more [] (z ∷ ys) x y h p = absurd h
zip_more (z ∷ xs) [] x y h p = absurd h
zip_more (z ∷ xs) (w ∷ ys) x y h p = (h.0, zip_more xs ys x y h.1 p)

-- The text is these files and what stands behind them.
pub record ReadSoFar (text rest : List ℕ) (sums : List SumFields) : Type 0 where
  pub lines : List (List ℕ)
  pub each : AllZip Says lines sums
  pub whole : All IsOneLine lines
  pub text_is : (text ≡ flat_map ended lines ++ rest) ⊎ ((ended text ≡ flat_map ended lines) × (rest ≡ []))

only_one : (line : List ℕ) → IsOneLine line → All IsOneLine (line ∷ [])
only_one line p zero d lt = p
only_one line p (suc k) d lt = absurd (omega (arith, lt))

lines_more : (lines : List (List ℕ)) (line rest : List ℕ) → flat_map ended lines ++ (ended line ++ rest) ≡ flat_map ended (lines ++ line ∷ []) ++ rest
lines_more lines line rest =
    rw (flat_map-append ended lines (line ∷ []), append-nil (ended line)) (sym (append_assoc (flat_map ended lines) (ended line) rest))

-- a text begins with a line, and this stands behind it
abbrev pub IsCut : (rest line behind : List ℕ) → Type 0
IsCut rest line behind = (rest ≡ ended line ++ behind) ⊎ ((rest ≡ line) × (behind ≡ []))

pub read_more : (text rest line behind : List ℕ) (sums : List SumFields) (s : SumFields) → (rest ≡ [] → ⊥) → IsCut rest line behind
    → IsOneLine line → Says line s → ReadSoFar text rest sums → ReadSoFar text behind (sums ++ s ∷ [])
read_more text rest line behind sums s some cut one says so_far = record {
  lines = so_far.lines ++ line ∷ [];
  each = zip_more so_far.lines sums line s so_far.each says;
  whole = All-append IsOneLine so_far.lines (line ∷ []) so_far.whole (only_one line one);
  text_is = elim so_far.text_is [
    | inl more ↦ elim cut [
      | inl ends ↦ inl (more ∙ (ap (λ r. flat_map ended so_far.lines ++ r) ends ∙ lines_more so_far.lines line behind))
      | inr last ↦ inr (
        ap ended more ∙ (append_assoc (flat_map ended so_far.lines) rest (10 ∷ []) ∙ (ap (λ r. flat_map ended so_far.lines ++ (r ++ 10 ∷ [])) last.0
            ∙ (ap (λ r. flat_map ended so_far.lines ++ r) (sym (append-nil (ended line))) ∙ (lines_more so_far.lines line [] ∙ append-nil (flat_map ended (so_far.lines ++ line ∷ [])))))),
        last.1,
      )
    ]
    | inr done ↦ absurd (some done.1)
  ];
}

-- ---- a list that a text is

behind_all : (front more : List (List ℕ)) → All IsOneLine (front ++ more) → All IsOneLine more
behind_all [] more p = p
behind_all (a ∷ front) more p = behind_all front more (All-tail IsOneLine a (front ++ more) p)

-- The next file of a list of which these were read.
pub record IsNext (line : List ℕ) (sums said : List SumFields) : Type 0 where
  pub file : SumFields
  pub more : List SumFields
  pub list : said ≡ sums ++ file ∷ more
  pub says : Says line file

-- with an end behind it, a text that is cut begins with its line, which ends
cut_ends : (rest line behind : List ℕ) → IsCut rest line behind → (x : List ℕ) × (ended rest ≡ ended line ++ x)
cut_ends rest line behind (inl ends) = (behind ++ 10 ∷ [], ap ended ends ∙ append_assoc (ended line) behind (10 ∷ []))
cut_ends rest line behind (inr last) = ([], ap ended last.0 ∙ sym (append-nil (ended line)))

-- and so does one that is lines
spell_ends : (m : List ℕ) (more : List (List ℕ)) (rest : List ℕ) → Spell (m ∷ more) rest → (x : List ℕ) × (ended rest ≡ ended m ++ x)
spell_ends m more rest (inl whole) = (flat_map ended more ++ 10 ∷ [], ap ended whole ∙ append_assoc (ended m) (flat_map ended more) (10 ∷ []))
spell_ends m more rest (inr open_end) = (flat_map ended more, open_end)

spell_none : (rest : List ℕ) → Spell [] rest → rest ≡ []
spell_none rest (inl whole) = whole
spell_none [] (inr open_end) = refl
spell_none (b ∷ rest) (inr open_end) = let none : suc (length (ended rest)) ≡ 0 = ap (λ l. length l) open_end in absurd (omega (arith, none))

next_line : (line rest : List ℕ) (more : List (List ℕ)) (sums left said : List SumFields) (x : List ℕ) → IsOneLine line → All IsOneLine more
    → ended rest ≡ ended line ++ x → (rest ≡ [] → ⊥) → Spell more rest → AllZip Says more left → said ≡ sums ++ left → IsNext line sums said
next_line line rest [] sums left said x one whole e some spells each list = absurd (some (spell_none rest spells))
next_line line rest (m ∷ more) sums [] said x one whole e some spells each list = absurd each
next_line line rest (m ∷ more) sums (s ∷ left) said x one whole e some spells each list =
    let other = spell_ends m more rest spells in
    let same = (first_line line m x other.0 one (All-head IsOneLine m more whole) (sym e ∙ other.1)).0 in
    record { file = s; more = left; list = list; says = subst (λ l. Says l s) (sym same) each.0 }

pub next_said : (text rest line behind : List ℕ) (sums said : List SumFields) → (rest ≡ [] → ⊥) → IsCut rest line behind → IsOneLine line
    → ReadSoFar text rest sums → IsSumList text said → IsNext line sums said
next_said text rest line behind sums said some cut one so_far is = elim so_far.text_is [
  | inl more ↦
      (let r = spell_rest so_far.lines is.lines text rest so_far.whole is.whole more is.text_is in
      let z = zip_split so_far.lines r.0 sums said so_far.each (subst (λ l. AllZip Says l said) r.1 is.each) in
      let c = cut_ends rest line behind cut in
      next_line line rest r.0 sums z.0 said c.0 one (behind_all so_far.lines r.0 (subst (All IsOneLine) r.1 is.whole)) c.1 some r.2 z.2 z.1)
  | inr done ↦ absurd (some done.1)
]

-- no line but the last is empty, and that one neither
no_last_line : (more : List (List ℕ)) (left : List SumFields) → All IsOneLine more → (10 ∷ [] ≡ flat_map ended more) → AllZip Says more left → ⊥
no_last_line [] left whole e each = let none : 1 ≡ 0 = ap (λ l. length l) e in absurd (omega (arith, none))
no_last_line (m ∷ more) [] whole e each = absurd each
no_last_line (m ∷ more) (s ∷ left) whole e each =
    let same = (first_line [] m [] (flat_map ended more) (λ k d lt. absurd (omega (arith, lt))) (All-head IsOneLine m more whole) e).0 in
    no_empty_line s.digest s.name (subst (λ l. Says l s) (sym same) each.0)

none_left : (more : List (List ℕ)) (left : List SumFields) → [] ≡ flat_map ended more → AllZip Says more left → left ≡ []
none_left [] [] e each = refl
none_left [] (s ∷ left) e each = absurd each
none_left (m ∷ more) left e each = absurd (no_ended m (flat_map ended more) e)

pub all_said : (text rest : List ℕ) (sums said : List SumFields) → rest ≡ [] → ReadSoFar text rest sums → IsSumList text said → sums ≡ said
all_said text rest sums said none so_far is = elim so_far.text_is [
  | inl more ↦ elim is.text_is [
    | inl whole ↦
        (let m = more_lines so_far.lines is.lines [] so_far.whole is.whole (ap (λ r. flat_map ended so_far.lines ++ r) (sym none) ∙ (sym more ∙ whole)) in
        closed m.0 m.1 m.2)
    | inr open_end ↦
        (let text_is : text ≡ flat_map ended so_far.lines = more ∙ (ap (λ r. flat_map ended so_far.lines ++ r) none ∙ append-nil (flat_map ended so_far.lines)) in
        let m = more_lines so_far.lines is.lines (10 ∷ []) so_far.whole is.whole (ap ended (sym text_is) ∙ open_end) in
        let z = zip_split so_far.lines m.0 sums said so_far.each (subst (λ l. AllZip Says l said) m.1 is.each) in
        absurd (no_last_line m.0 z.0 (behind_all so_far.lines m.0 (subst (All IsOneLine) m.1 is.whole)) m.2 z.2))
  ]
  | inr done ↦ elim is.text_is [
    | inl whole ↦
        (let m = more_lines is.lines so_far.lines (10 ∷ []) is.whole so_far.whole (ap ended (sym whole) ∙ done.0) in
        let z = zip_split is.lines m.0 said sums is.each (subst (λ l. AllZip Says l sums) m.1 so_far.each) in
        absurd (no_last_line m.0 z.0 (behind_all is.lines m.0 (subst (All IsOneLine) m.1 so_far.whole)) m.2 z.2))
    | inr open_end ↦
        (let m = more_lines so_far.lines is.lines [] so_far.whole is.whole (append-nil (flat_map ended so_far.lines) ∙ (sym done.0 ∙ open_end)) in
        closed m.0 m.1 m.2)
  ]
] where
  closed : (more : List (List ℕ)) → is.lines ≡ so_far.lines ++ more → [] ≡ flat_map ended more → sums ≡ said
  closed more lines_are left =
      let z = zip_split so_far.lines more sums said so_far.each (subst (λ l. AllZip Says l said) lines_are is.each) in
      sym (z.1 ∙ (ap (λ l. sums ++ l) (none_left more z.0 left z.2) ∙ append-nil sums))

-- ---- names

-- whether one of these files has a name
abbrev pub is_named : List SumFields → List ℕ → Bool
is_named sums n = list_any (λ (s : SumFields). bytes_eq s.name n) sums

neither : (a b : Bool) → (a || b) ≡ false → (a ≡ false) × (b ≡ false)
neither true b e = absurd (true≢false e)
neither false b e = (refl, e)

all_but : (x : List ℕ) (front : List SumFields) (s : SumFields) → AllByRecursion (λ y. bytes_eq x y ≡ false) (map (λ (t : SumFields). t.name) front)
    → bytes_eq x s.name ≡ false → AllByRecursion (λ y. bytes_eq x y ≡ false) (map (λ (t : SumFields). t.name) (front ++ s ∷ []))
all_but x [] s h e = (e, tt)
all_but x (t ∷ front) s h e = (h.0, all_but x front s h.1 e)

pub named_once : (front : List SumFields) (s : SumFields) → IsDistinct bytes_eq (map (λ (t : SumFields). t.name) front) → is_named front s.name ≡ false
    → IsDistinct bytes_eq (map (λ (t : SumFields). t.name) (front ++ s ∷ []))
unfolding IsDistinct
named_once [] s d e = (tt, tt)
named_once (x ∷ front) s d e =
    let apart = neither (bytes_eq x.name s.name) (is_named front s.name) e in
    (all_but x.name front s d.0 apart.0, named_once front s d.1 apart.1)

one_apart : (x : List ℕ) (front more : List SumFields) (s : SumFields)
    → AllByRecursion (λ y. bytes_eq x y ≡ false) (map (λ (t : SumFields). t.name) (front ++ s ∷ more)) → bytes_eq x s.name ≡ false
one_apart x [] more s h = h.0
one_apart x (t ∷ front) more s h = one_apart x front more s h.1

pub not_again : (front more : List SumFields) (s : SumFields) → IsDistinct bytes_eq (map (λ (t : SumFields). t.name) (front ++ s ∷ more)) → is_named front s.name ≡ false
unfolding IsDistinct
not_again [] more s d = refl
not_again (x ∷ front) more s d = ap (λ b. b || is_named front s.name) (one_apart x.name front more s d.0) ∙ not_again front more s d.1

-- one name more
pub named_more : (sums : List SumFields) (s : SumFields) (n : List ℕ) → is_named (sums ++ s ∷ []) n ≡ cond (bytes_eq s.name n) true (is_named sums n)
named_more sums s n = list_any-append (λ (t : SumFields). bytes_eq t.name n) sums (s ∷ []) ∙ either (is_named sums n) (bytes_eq s.name n)
  where
    either : (a b : Bool) → (a || (b || false)) ≡ cond b true a
    either true true = refl
    either true false = refl
    either false true = refl
    either false false = refl

-- ---- the steps of the loop

pub at_start : (text : List ℕ) (sums : List SumFields) → sums ≡ [] → ReadSoFar text text sums
at_start text sums none =
    subst (λ l. ReadSoFar text text l) (sym none) (record { lines = []; each = tt; whole = λ k d lt. absurd (omega (arith, lt)); text_is = inl refl })

pub none_once : (sums : List SumFields) → sums ≡ [] → IsDistinct bytes_eq (map (λ (t : SumFields). t.name) sums)
unfolding IsDistinct
none_once [] none = tt
none_once (s ∷ sums) none = absurd (let clash = none in cc)

pub fields_more : (sums : List Sum) (s : Sum) → map sum_fields (sums ++ s ∷ []) ≡ map sum_fields sums ++ sum_fields s ∷ []
fields_more [] s = refl
fields_more (t ∷ sums) s = ap (λ l. sum_fields t ∷ l) (fields_more sums s)

-- a text with a byte, and one with none
pub some_bytes : (xs : List ℕ) (empty : Bool) → empty ≡ (length xs == 0) → empty ≡ false → xs ≡ [] → ⊥
some_bytes xs empty is test none = true≢false (sym (is ∙ ap (λ l. length l == 0) none) ∙ test)

pub no_byte : (xs : List ℕ) → (length xs == 0) ≡ true → xs ≡ []
no_byte [] e = refl
no_byte (x ∷ xs) e = let none : suc (length xs) ≡ 0 = eqb-true (suc (length xs)) 0 e in absurd (omega (arith, none))

-- whether a name was new
pub was_new : (added there : Bool) → added ≡ not there → added ≡ true → there ≡ false
was_new added true is e = absurd (true≢false (sym e ∙ is))
was_new added false is e = refl

pub was_there : (added there : Bool) → added ≡ not there → added ≡ false → there ≡ true
was_there added true is e = refl
was_there added false is e = absurd (true≢false (sym is ∙ e))

-- The next line has a name again: then the text isn't a list.
pub named_again : (line : List ℕ) (sums said : List SumFields) (d n : List ℕ) → IsSumLine line d n → IsNext line sums said
    → IsDistinct bytes_eq (map (λ (t : SumFields). t.name) said) → is_named sums n ≡ true → ⊥
named_again line sums said d n says next once there =
    let same : n ≡ next.file.name = (one_meaning line d n next.file.digest next.file.name says next.says).1 in
    let apart = subst (λ l. IsDistinct bytes_eq (map (λ (t : SumFields). t.name) l)) next.list once in
    true≢false (sym there ∙ (ap (λ m. is_named sums m) same ∙ not_again sums next.more next.file apart))
