-- Coding styles: what is read is spelled so, and what is spelled so is read.
use Rattle.std.proofs.Common.{◌≡◌, ℕ, zero, suc, ◌+◌, ◌-◌, ◌/◌, ◌%◌, ◌<◌, ◌≤◌, Bool, true, false, not, ◌&&◌, ◌||◌, cond, eqb, ltb, leb, List, [], ◌∷◌, ◌++◌, length, map, drop, Ok, refl, sym, ap, subst, ◌∙◌, ◌⊎◌, inl, inr, append_assoc, arith}
use Rattle.std.proofs.lemmas.Bool.{true≢false, ltb-false, le-ltb, lt-leb, eqb-true, eq-eqb, ne_eqb, not-false, or_parts, or_from}
use Rattle.std.proofs.lemmas.List.{length-append, append-nil}
use Rattle.std.proofs.Math.Nat.{mod-lt, mod-add-div}
use Rattle.std.specs.List.{AllByRecursion}
use Rattle.jk_math.specs.Steps.{bind_then, refuse_then, ok_is}
use Rattle.jk_math.specs.declared.fault.Fault.TheVariants.{BadLength, BadValue, Limit, Unsupported}
use Rattle.jk_marks.specs.declared.segments.CodingStyle.{CodingStyle}
use Rattle.jk_marks.specs.Place.{ReadingPlace}
use Rattle.jk_marks.specs.Precincts.{precinct_byte}
use Rattle.jk_math.specs.declared.style.Style.{Style}
use Rattle.jk_marks.specs.BlockStyle.{bit_of, style_byte, style_of}
use Rattle.jk_marks.specs.Segments.{IsStyle, ArePrecincts, style_text, given_bit}
use Rattle.jk_marks.specs.Reading.{number, precinct_at, precincts_at, given_precincts_at, levels_at, block_at, block_style_at, transform_at, style_at}
use Rattle.jk_math.proofs.Laws.{AreBytes}
use Rattle.jk_marks.proofs.Steps.{Goes, ahead, ahead_twice, goes_none, goes_then, goes_as, byte_goes, byte_again}

-- a precinct size is small, and both exponents are positive
abbrev pub IsSmall : ℕ × ℕ → Type 0
IsSmall p = (p.0 < 16) × (p.1 < 16)

abbrev pub IsPositive : ℕ × ℕ → Type 0
IsPositive p = (0 < p.0) × (0 < p.1)

same_byte : (b : ℕ) → precinct_byte (b % 16, b / 16) ≡ b
same_byte b = mod-add-div b 16

high_half : (b : ℕ) → b < 256 → b / 16 < 16
high_half b lt = omega arith

positive : (b : Bool) (x y : ℕ) → (not b && (ltb x 1 || ltb y 1)) ≡ false → b ≡ false → (0 < x) × (0 < y)
positive true x y e f = absurd (true≢false f)
positive false x y e f =
    let parts = or_parts (ltb x 1) (ltb y 1) e in
    (ltb-false _ _ parts.0, ltb-false _ _ parts.1)

pub precinct_goes : (b : Bool) (size : ℕ × ℕ) (p q : ReadingPlace) → AreBytes p.rest → precinct_at b p ≡ Ok (size, q)
    → Goes p (precinct_byte size ∷ []) q × IsSmall size × (b ≡ false → IsPositive size)
unfolding precinct_at
precinct_goes b size p q fits e =
    bind_then (number 1 p) _ (size, q) e (λ byte read e.
    refuse_then (not b && (ltb (byte.0 % 16) 1 || ltb (byte.0 / 16) 1)) BadValue _ (size, q) e (λ kept e.
    let g = byte_goes byte.0 p byte.1 fits read in
    let pair : ℕ × ℕ = (byte.0 % 16, byte.0 / 16) in
    let here : Goes p (precinct_byte pair ∷ []) byte.1 = goes_as p (byte.0 ∷ []) (precinct_byte pair ∷ []) byte.1 g.0 (ap (λ k. k ∷ []) (sym (same_byte byte.0))) in
    subst (λ (r : (ℕ × ℕ) × ReadingPlace). Goes p (precinct_byte r.0 ∷ []) r.1 × IsSmall r.0 × (b ≡ false → IsPositive r.0)) (ok_is (pair, byte.1) (size, q) e)
    (here, (mod-lt byte.0 (omega arith), high_half byte.0 g.1), λ f. positive b (byte.0 % 16) (byte.0 / 16) kept f)))

kept_again : (b : Bool) (size : ℕ × ℕ) → (b ≡ false → IsPositive size) → (not b && (ltb size.0 1 || ltb size.1 1)) ≡ false
kept_again true size pos = refl
kept_again false size pos = or_from (ltb size.0 1) (ltb size.1 1) (le-ltb _ _ (pos refl).0) (le-ltb _ _ (pos refl).1)

pub precinct_again : (b : Bool) (size : ℕ × ℕ) (p : ReadingPlace) (rest : List ℕ) → p.rest ≡ precinct_byte size ∷ rest → IsSmall size → (b ≡ false → IsPositive size) → 1 ≤ p.room
    → precinct_at b p ≡ Ok (size, ahead 1 rest p)
unfolding precinct_at
precinct_again b size p rest e small pos room =
    let byte = precinct_byte size in
    let lt : byte < 256 = omega (arith, small.0, small.1) in
    let read = byte_again byte p rest e lt room in
    let low : byte % 16 ≡ size.0 = omega (arith, small.0, small.1) in
    let high : byte / 16 ≡ size.1 = omega (arith, small.0, small.1) in
    let kept = kept_again b size pos in
    rw (read, low, high, kept) refl

-- precinct sizes behind a first one
record Later (done all : List (ℕ × ℕ)) (n : ℕ) (p q : ReadingPlace) : Type 0 where
  more : List (ℕ × ℕ)
  joined : all ≡ done ++ more
  count : length more ≡ n
  gone : Goes p (map precinct_byte more) q
  small : AllByRecursion IsSmall more
  whole : AllByRecursion IsPositive more

some_done : (done : List (ℕ × ℕ)) (x : ℕ × ℕ) → eqb (length (done ++ x ∷ [])) 0 ≡ false
some_done done x = ne_eqb _ _ (omega (arith, length-append done (x ∷ [])))

later_goes : (n : ℕ) (done all : List (ℕ × ℕ)) (p q : ReadingPlace) → AreBytes p.rest → eqb (length done) 0 ≡ false → precincts_at n done p ≡ Ok (all, q) → Later done all n p q
unfolding precincts_at
later_goes zero done all p q fits some e =
    let pair = ok_is (done, p) (all, q) e in
    let here : Later done done zero p p = record { more = []; joined = sym (append-nil done); count = refl; gone = goes_none p fits; small = tt; whole = tt } in
    subst (λ (r : List (ℕ × ℕ) × ReadingPlace). Later done r.0 zero p r.1) pair here
later_goes (suc n) done all p q fits some e =
    bind_then (precinct_at (eqb (length done) 0) p) _ (all, q) e (λ r read e.
    let g = precinct_goes (eqb (length done) 0) r.0 p r.1 fits read in
    let l = later_goes n (done ++ r.0 ∷ []) all r.1 q g.0.bytes (some_done done r.0) e in
    record {
      more = r.0 ∷ l.more;
      joined = l.joined ∙ append_assoc done (r.0 ∷ []) l.more;
      count = ap suc l.count;
      gone = goes_then p (precinct_byte r.0 ∷ []) r.1 (map precinct_byte l.more) q g.0 l.gone;
      small = (g.1, l.small);
      whole = (g.2 some, l.whole);
    })

-- all precinct sizes
pub record Sizes (all : List (ℕ × ℕ)) (n : ℕ) (p q : ReadingPlace) : Type 0 where
  pub count : length all ≡ n
  pub gone : Goes p (map precinct_byte all) q
  pub small : AllByRecursion IsSmall all
  pub whole : AllByRecursion IsPositive (drop 1 all)

pub precincts_goes : (n : ℕ) (all : List (ℕ × ℕ)) (p q : ReadingPlace) → AreBytes p.rest → precincts_at n [] p ≡ Ok (all, q) → Sizes all n p q
unfolding precincts_at
precincts_goes zero all p q fits e =
    let here : Sizes [] zero p p = record { count = refl; gone = goes_none p fits; small = tt; whole = tt } in
    subst (λ (r : List (ℕ × ℕ) × ReadingPlace). Sizes r.0 zero p r.1) (ok_is ([], p) (all, q) e) here
precincts_goes (suc n) all p q fits e =
    bind_then (precinct_at true p) _ (all, q) e (λ r read e.
    let g = precinct_goes true r.0 p r.1 fits read in
    let l = later_goes n (r.0 ∷ []) all r.1 q g.0.bytes refl e in
    let here : Sizes (r.0 ∷ l.more) (suc n) p q = record {
      count = ap suc l.count;
      gone = goes_then p (precinct_byte r.0 ∷ []) r.1 (map precinct_byte l.more) q g.0 l.gone;
      small = (g.1, l.small);
      whole = l.whole;
    } in
    subst (λ (x : List (ℕ × ℕ)). Sizes x (suc n) p q) (sym l.joined) here)

later_again : (more done : List (ℕ × ℕ)) (p : ReadingPlace) (rest : List ℕ) → p.rest ≡ map precinct_byte more ++ rest → AllByRecursion IsSmall more → AllByRecursion IsPositive more
    → eqb (length done) 0 ≡ false → length more ≤ p.room → precincts_at (length more) done p ≡ Ok (done ++ more, ahead (length more) rest p)
unfolding precincts_at
later_again [] done p rest e small whole some room =
    let at : p.at + 0 ≡ p.at = omega arith in
    let room-is : p.room - 0 ≡ p.room = omega arith in
    rw (append-nil done, at, room-is, sym e) refl
later_again (x ∷ more) done p rest e small whole some room =
    let tail = map precinct_byte more ++ rest in
    let s1 = precinct_again (eqb (length done) 0) x p tail e small.0 (λ f. whole.0) (omega arith) in
    let s2 = later_again more (done ++ x ∷ []) (ahead 1 tail p) rest refl small.1 whole.1 (some_done done x) (omega (arith, room)) in
    let again : precincts_at (length (x ∷ more)) done p ≡ Ok ((done ++ x ∷ []) ++ more, ahead (length more) rest (ahead 1 tail p)) = rw (s1, s2) refl in
    again ∙ ap (λ (q : ReadingPlace). Ok ((done ++ x ∷ []) ++ more, q)) (ahead_twice 1 (length more) (length (x ∷ more)) rest tail p (omega arith))
    ∙ ap (λ (xs : List (ℕ × ℕ)). Ok (xs, ahead (length (x ∷ more)) rest p)) (append_assoc done (x ∷ []) more)

pub precincts_again : (all : List (ℕ × ℕ)) (p : ReadingPlace) (rest : List ℕ) → p.rest ≡ map precinct_byte all ++ rest → AllByRecursion IsSmall all → AllByRecursion IsPositive (drop 1 all)
    → length all ≤ p.room → precincts_at (length all) [] p ≡ Ok (all, ahead (length all) rest p)
unfolding precincts_at
precincts_again [] p rest e small whole room =
    let at : p.at + 0 ≡ p.at = omega arith in
    let room-is : p.room - 0 ≡ p.room = omega arith in
    rw (at, room-is, sym e) refl
precincts_again (x ∷ more) p rest e small whole room =
    let tail = map precinct_byte more ++ rest in
    let s1 = precinct_again true x p tail e small.0 (λ f. absurd (true≢false f)) (omega arith) in
    let s2 = later_again more (x ∷ []) (ahead 1 tail p) rest refl small.1 whole refl (omega (arith, room)) in
    let again : precincts_at (length (x ∷ more)) [] p ≡ Ok (x ∷ more, ahead (length more) rest (ahead 1 tail p)) = rw (s1, s2) refl in
    again ∙ ap (λ (q : ReadingPlace). Ok (x ∷ more, q)) (ahead_twice 1 (length more) (length (x ∷ more)) rest tail p (omega arith))

-- how many bytes of a segment are precinct sizes
abbrev pub size_bytes : Bool → ℕ → ℕ
size_bytes given levels = cond given (levels + 1) 0

pub record Levels (size fixed : ℕ) (given : Bool) (levels : ℕ) (p q : ReadingPlace) : Type 0 where
  pub gone : Goes p (levels ∷ []) q
  pub few : levels ≤ 10
  pub size-is : size ≡ fixed + size_bytes given levels

pub levels_goes : (size fixed : ℕ) (given : Bool) (levels : ℕ) (p q : ReadingPlace) → AreBytes p.rest → levels_at size fixed given p ≡ Ok (levels, q) → Levels size fixed given levels p q
unfolding levels_at
levels_goes size fixed given levels p q fits e =
    let t : ℕ × ReadingPlace = (levels, q) in
    bind_then (number 1 p) _ t e (λ n read e.
    refuse_then (not (eqb size (fixed + size_bytes given n.0))) BadLength _ t e (λ same e.
    refuse_then (ltb 32 n.0) BadValue _ t e (λ legal e.
    refuse_then (ltb 10 n.0) Limit _ t e (λ few e.
    let g = byte_goes n.0 p n.1 fits read in
    let here : Levels size fixed given n.0 p n.1 = record { gone = g.0; few = ltb-false _ _ few; size-is = eqb-true _ _ (not-false _ same) } in
    subst (λ (r : ℕ × ReadingPlace). Levels size fixed given r.0 p r.1) (ok_is n t e) here))))

pub levels_again : (size fixed : ℕ) (given : Bool) (levels : ℕ) (p : ReadingPlace) (rest : List ℕ) → p.rest ≡ levels ∷ rest → levels ≤ 10 → size ≡ fixed + size_bytes given levels → 1 ≤ p.room
    → levels_at size fixed given p ≡ Ok (levels, ahead 1 rest p)
unfolding levels_at
levels_again size fixed given levels p rest e few size-is room =
    let read = byte_again levels p rest e (omega (arith, few)) room in
    let same : eqb size (fixed + size_bytes given levels) ≡ true = eq-eqb _ _ size-is in
    let legal : ltb 32 levels ≡ false = le-ltb _ _ (omega (arith, few)) in
    let small : ltb 10 levels ≡ false = le-ltb _ _ few in
    rw (read, same, legal, small) refl

-- the exponents of a code-block's sides
pub record AreSides (x y : ℕ) : Type 0 where
  pub narrow : 2 ≤ x
  pub wide : x ≤ 10
  pub low : 2 ≤ y
  pub high : y ≤ 10
  pub area : x + y ≤ 12

pub block_goes : (sides : ℕ × ℕ) (p q : ReadingPlace) → AreBytes p.rest → block_at p ≡ Ok (sides, q) → Goes p ((sides.0 - 2) ∷ (sides.1 - 2) ∷ []) q × AreSides sides.0 sides.1
unfolding block_at
block_goes sides p q fits e =
    let t : (ℕ × ℕ) × ReadingPlace = (sides, q) in
    bind_then (number 1 p) _ t e (λ x s1 e.
    refuse_then (ltb 8 x.0) BadValue _ t e (λ wide e.
    bind_then (number 1 x.1) _ t e (λ y s2 e.
    refuse_then (ltb 8 y.0 || ltb 8 (x.0 + y.0)) BadValue _ t e (λ high e.
    let g1 = byte_goes x.0 p x.1 fits s1 in
    let g2 = byte_goes y.0 x.1 y.1 g1.0.bytes s2 in
    let both = or_parts (ltb 8 y.0) (ltb 8 (x.0 + y.0)) high in
    let hx = ltb-false _ _ wide in
    let hy = ltb-false _ _ both.0 in
    let ha = ltb-false _ _ both.1 in
    let ex : x.0 ≡ x.0 + 2 - 2 = omega arith in
    let ey : y.0 ≡ y.0 + 2 - 2 = omega arith in
    let text : x.0 ∷ y.0 ∷ [] ≡ (x.0 + 2 - 2) ∷ (y.0 + 2 - 2) ∷ [] = ap (λ a. a ∷ y.0 ∷ []) ex ∙ ap (λ b. (x.0 + 2 - 2) ∷ b ∷ []) ey in
    let gone = goes_as p (x.0 ∷ y.0 ∷ []) ((x.0 + 2 - 2) ∷ (y.0 + 2 - 2) ∷ []) y.1 (goes_then p (x.0 ∷ []) x.1 (y.0 ∷ []) y.1 g1.0 g2.0) text in
    let sides-are : AreSides (x.0 + 2) (y.0 + 2) = record { narrow = omega arith; wide = omega (arith, hx); low = omega arith; high = omega (arith, hy); area = omega (arith, ha) } in
    subst (λ (r : (ℕ × ℕ) × ReadingPlace). Goes p ((r.0.0 - 2) ∷ (r.0.1 - 2) ∷ []) r.1 × AreSides r.0.0 r.0.1) (ok_is ((x.0 + 2, y.0 + 2), y.1) t e) (gone, sides-are)))))

pub block_again : (x y : ℕ) (p : ReadingPlace) (rest : List ℕ) → p.rest ≡ (x - 2) ∷ (y - 2) ∷ rest → AreSides x y → 2 ≤ p.room → block_at p ≡ Ok ((x, y), ahead 2 rest p)
unfolding block_at
block_again x y p rest e s room =
    let s1 = byte_again (x - 2) p ((y - 2) ∷ rest) e (omega (arith, s.wide)) (omega (arith, room)) in
    let s2 = byte_again (y - 2) (ahead 1 ((y - 2) ∷ rest) p) rest refl (omega (arith, s.high)) (omega (arith, room)) in
    let wide : ltb 8 (x - 2) ≡ false = le-ltb _ _ (omega (arith, s.wide)) in
    let below : y - 2 ≤ 8 = omega (arith, s.high) in
    let both : x - 2 + (y - 2) ≤ 8 = omega (arith, s.area, s.narrow, s.low) in
    let high : (ltb 8 (y - 2) || ltb 8 (x - 2 + (y - 2))) ≡ false = or_from _ _ (le-ltb _ _ below) (le-ltb _ _ both) in
    let ex : x - 2 + 2 ≡ x = omega (arith, s.narrow) in
    let ey : y - 2 + 2 ≡ y = omega (arith, s.low) in
    let again : block_at p ≡ Ok ((x - 2 + 2, y - 2 + 2), ahead 1 rest (ahead 1 ((y - 2) ∷ rest) p)) = rw (s1, wide, s2, high) refl in
    again ∙ ap (λ a. Ok ((a, y - 2 + 2), ahead 1 rest (ahead 1 ((y - 2) ∷ rest) p))) ex ∙ ap (λ b. Ok ((x, b), ahead 1 rest (ahead 1 ((y - 2) ∷ rest) p))) ey
    ∙ ap (λ (q : ReadingPlace). Ok ((x, y), q)) (ahead_twice 1 1 2 rest ((y - 2) ∷ rest) p refl)

pub block_style_goes : (s : Style) (p q : ReadingPlace) → AreBytes p.rest → block_style_at p ≡ Ok (s, q) → Goes p (style_byte s ∷ []) q
unfolding block_style_at
block_style_goes s p q fits e =
    let t : Style × ReadingPlace = (s, q) in
    bind_then (number 1 p) _ t e (λ byte s1 e.
    refuse_then (leb 128 byte.0) BadValue _ t e (λ legal e.
    refuse_then (not (eqb (style_byte (style_of byte.0)) byte.0)) Unsupported _ t e (λ known e.
    let g1 = byte_goes byte.0 p byte.1 fits s1 in
    let text : byte.0 ∷ [] ≡ style_byte (style_of byte.0) ∷ [] = ap (λ a. a ∷ []) (sym (eqb-true _ _ (not-false _ known))) in
    let gone = goes_as p (byte.0 ∷ []) (style_byte (style_of byte.0) ∷ []) byte.1 g1.0 text in
    subst (λ (r : Style × ReadingPlace). Goes p (style_byte r.0 ∷ []) r.1) (ok_is (style_of byte.0, byte.1) t e) gone)))

-- a style has its byte
pub style_back : (reset causal segments : Bool) → let s : Style = record { reset = reset; causal = causal; segments = segments } in style_of (style_byte s) ≡ s
style_back false false false = refl
style_back false false true = refl
style_back false true false = refl
style_back false true true = refl
style_back true false false = refl
style_back true false true = refl
style_back true true false = refl
style_back true true true = refl

bit_few : (b : Bool) → bit_of b ≤ 1
bit_few true = omega arith
bit_few false = omega arith

pub block_style_again : (s : Style) (p : ReadingPlace) (rest : List ℕ) → p.rest ≡ style_byte s ∷ rest → 1 ≤ p.room → block_style_at p ≡ Ok (s, ahead 1 rest p)
unfolding block_style_at
block_style_again s p rest e room =
    let few : style_byte s ≤ 42 = omega (arith, bit_few s.reset, bit_few s.causal, bit_few s.segments) in
    let s1 = byte_again (style_byte s) p rest e (omega (arith, few)) room in
    let legal : leb 128 (style_byte s) ≡ false = lt-leb _ _ (omega (arith, few)) in
    let back = style_back s.reset s.causal s.segments in
    let known : eqb (style_byte (style_of (style_byte s))) (style_byte s) ≡ true = eq-eqb _ _ (ap style_byte back) in
    let again : block_style_at p ≡ Ok (style_of (style_byte s), ahead 1 rest p) = rw (s1, legal, known) refl in
    again ∙ ap (λ (k : Style). Ok (k, ahead 1 rest p)) back

pub transform_goes : (u : Unit {0}) (p q : ReadingPlace) → AreBytes p.rest → transform_at p ≡ Ok (u, q) → Goes p (1 ∷ []) q
unfolding transform_at
transform_goes u p q fits e =
    let t : Unit {0} × ReadingPlace = (u, q) in
    bind_then (number 1 p) _ t e (λ transform s1 e.
    refuse_then (ltb 1 transform.0) BadValue _ t e (λ low e.
    refuse_then (ltb transform.0 1) Unsupported _ t e (λ high e.
    let g1 = byte_goes transform.0 p transform.1 fits s1 in
    let h1 = ltb-false _ _ low in
    let h2 = ltb-false _ _ high in
    let e1 : transform.0 ≡ 1 = omega (arith, h1, h2) in
    let gone = goes_as p (transform.0 ∷ []) (1 ∷ []) transform.1 g1.0 (ap (λ a. a ∷ []) e1) in
    subst (λ (r : Unit {0} × ReadingPlace). Goes p (1 ∷ []) r.1) (ok_is (tt, transform.1) t e) gone)))

pub transform_again : (p : ReadingPlace) (rest : List ℕ) → p.rest ≡ 1 ∷ rest → 1 ≤ p.room → transform_at p ≡ Ok (tt, ahead 1 rest p)
unfolding transform_at
transform_again p rest e room = let s1 = byte_again 1 p rest e (omega arith) room in rw s1 refl

-- a coding style that was read
pub record IsRead (size fixed : ℕ) (given : Bool) (k : CodingStyle) (p q : ReadingPlace) : Type 0 where
  pub gone : Goes p (style_text k) q
  pub is : IsStyle k
  pub size-is : size ≡ fixed + length k.precincts
  pub given-is : given_bit k.precincts ≡ bit_of given

given_some : (all : List (ℕ × ℕ)) → 0 < length all → given_bit all ≡ 1
given_some [] some = absurd (omega (arith, some))
given_some (x ∷ all) some = refl

given_goes : (given : Bool) (levels : ℕ) (all : List (ℕ × ℕ)) (p q : ReadingPlace) → AreBytes p.rest → given_precincts_at given (levels + 1) p ≡ Ok (all, q)
    → Goes p (map precinct_byte all) q × ArePrecincts levels all × (length all ≡ size_bytes given levels) × (given_bit all ≡ bit_of given)
given_goes true levels all p q fits e =
    let s = precincts_goes (levels + 1) all p q fits e in
    (s.gone, record { count = inr s.count; small = s.small; whole = s.whole }, s.count, given_some all (omega (arith, s.count)))
given_goes false levels all p q fits e =
    let same = ok_is ([], p) (all, q) e in
    let here : Goes p [] p × ArePrecincts levels [] × (0 ≡ 0) × (0 ≡ 0) = (goes_none p fits, record { count = inl refl; small = tt; whole = tt }, refl, refl) in
    subst (λ (r : List (ℕ × ℕ) × ReadingPlace). Goes p (map precinct_byte r.0) r.1 × ArePrecincts levels r.0 × (length r.0 ≡ 0) × (given_bit r.0 ≡ 0)) same here

pub style_goes : (size fixed : ℕ) (given : Bool) (k : CodingStyle) (p q : ReadingPlace) → AreBytes p.rest → style_at size fixed given p ≡ Ok (k, q) → IsRead size fixed given k p q
unfolding style_at style_text
style_goes size fixed given k p q fits e =
    let t : CodingStyle × ReadingPlace = (k, q) in
    bind_then (levels_at size fixed given p) _ t e (λ levels s1 e.
    bind_then (block_at levels.1) _ t e (λ block s2 e.
    bind_then (block_style_at block.1) _ t e (λ style s3 e.
    bind_then (transform_at style.1) _ t e (λ transform s4 e.
    bind_then (given_precincts_at given (levels.0 + 1) transform.1) _ t e (λ all s5 e.
    let g1 = levels_goes size fixed given levels.0 p levels.1 fits s1 in
    let g2 = block_goes block.0 levels.1 block.1 g1.gone.bytes s2 in
    let g3 = block_style_goes style.0 block.1 style.1 g2.0.bytes s3 in
    let g4 = transform_goes transform.0 style.1 transform.1 g3.bytes s4 in
    let g5 = given_goes given levels.0 all.0 transform.1 all.1 g4.bytes s5 in
    let sides : List ℕ = (block.0.0 - 2) ∷ (block.0.1 - 2) ∷ [] in
    let sizes = map precinct_byte all.0 in
    let byte = style_byte style.0 in
    let gone = goes_then p (levels.0 ∷ []) levels.1 (sides ++ (byte ∷ 1 ∷ sizes)) all.1 g1.gone
    (goes_then levels.1 sides block.1 (byte ∷ 1 ∷ sizes) all.1 g2.0
    (goes_then block.1 (byte ∷ []) style.1 (1 ∷ sizes) all.1 g3 (goes_then style.1 (1 ∷ []) transform.1 sizes all.1 g4 g5.0))) in
    let coding : CodingStyle = record { levels = levels.0; xcb = block.0.0; ycb = block.0.1; style = style.0; precincts = all.0 } in
    let is : IsStyle coding = record {
      levels = g1.few;
      narrow = g2.1.narrow;
      wide = g2.1.wide;
      low = g2.1.low;
      high = g2.1.high;
      area = g2.1.area;
      precincts = g5.1;
    } in
    let here : IsRead size fixed given coding p all.1 = record { gone = gone; is = is; size-is = g1.size-is ∙ ap (λ n. fixed + n) (sym g5.2); given-is = g5.3 } in
    subst (λ (r : CodingStyle × ReadingPlace). IsRead size fixed given r.0 p r.1) (ok_is (coding, all.1) t e) here)))))

none_given : (given : Bool) (levels : ℕ) (p : ReadingPlace) → 0 ≡ bit_of given → given_precincts_at given (levels + 1) p ≡ Ok ([], p)
none_given true levels p e = absurd cc
none_given false levels p e = refl

some_given : (given : Bool) (levels : ℕ) (p : ReadingPlace) → 1 ≡ bit_of given → given_precincts_at given (levels + 1) p ≡ precincts_at (levels + 1) [] p
some_given true levels p e = refl
some_given false levels p e = absurd cc

counted : (levels : ℕ) (x : ℕ × ℕ) (all : List (ℕ × ℕ)) → (x ∷ all ≡ []) ⊎ (length (x ∷ all) ≡ levels + 1) → length (x ∷ all) ≡ levels + 1
counted levels x all (inl e) = absurd cc
counted levels x all (inr e) = e

given_again : (given : Bool) (levels : ℕ) (all : List (ℕ × ℕ)) (p : ReadingPlace) (rest : List ℕ) → p.rest ≡ map precinct_byte all ++ rest → ArePrecincts levels all → given_bit all ≡ bit_of given
    → length all ≤ p.room → given_precincts_at given (levels + 1) p ≡ Ok (all, ahead (length all) rest p)
given_again given levels [] p rest e are same room =
    let at : p.at + 0 ≡ p.at = omega arith in
    let room-is : p.room - 0 ≡ p.room = omega arith in
    none_given given levels p same ∙ rw (at, room-is, sym e) refl
given_again given levels (x ∷ all) p rest e are same room =
    some_given given levels p same ∙ ap (λ n. precincts_at n [] p) (sym (counted levels x all are.count)) ∙ precincts_again (x ∷ all) p rest e are.small are.whole room

size_of : (given : Bool) (levels : ℕ) (all : List (ℕ × ℕ)) → (all ≡ []) ⊎ (length all ≡ levels + 1) → given_bit all ≡ bit_of given → length all ≡ size_bytes given levels
size_of true levels [] are same = absurd cc
size_of false levels [] are same = refl
size_of true levels (x ∷ all) are same = counted levels x all are
size_of false levels (x ∷ all) are same = absurd cc

pub style_again : (size fixed : ℕ) (given : Bool) (k : CodingStyle) (p : ReadingPlace) (rest : List ℕ) → p.rest ≡ style_text k ++ rest → IsStyle k → given_bit k.precincts ≡ bit_of given
    → size ≡ fixed + length k.precincts → 5 + length k.precincts ≤ p.room → style_at size fixed given p ≡ Ok (k, ahead (5 + length k.precincts) rest p)
unfolding style_at style_text
style_again size fixed given k p rest e is same size-is room =
    let n = length k.precincts in
    let r4 = map precinct_byte k.precincts ++ rest in
    let r3 = 1 ∷ r4 in
    let r2 = style_byte k.style ∷ r3 in
    let r1 = (k.xcb - 2) ∷ (k.ycb - 2) ∷ r2 in
    let p1 = ahead 1 r1 p in
    let p2 = ahead 2 r2 p1 in
    let p3 = ahead 1 r3 p2 in
    let p4 = ahead 1 r4 p3 in
    let size-of = size_of given k.levels k.precincts is.precincts.count same in
    let s1 = levels_again size fixed given k.levels p r1 e is.levels (size-is ∙ ap (λ m. fixed + m) size-of) (omega (arith, room)) in
    let s2 = block_again k.xcb k.ycb p1 r2 refl (record { narrow = is.narrow; wide = is.wide; low = is.low; high = is.high; area = is.area }) (omega (arith, room)) in
    let s3 = block_style_again k.style p2 r3 refl (omega (arith, room)) in
    let s4 = transform_again p3 r4 refl (omega (arith, room)) in
    let s5 = given_again given k.levels k.precincts p4 rest refl is.precincts same (omega (arith, room)) in
    let again : style_at size fixed given p ≡ Ok (k, ahead n rest p4) = rw (s1, s2, s3, s4, s5) refl in
    let place : ahead n rest p4 ≡ ahead (5 + n) rest p =
    ahead_twice 1 n (1 + n) rest r4 p3 refl ∙ ahead_twice 1 (1 + n) (2 + n) rest r3 p2 (omega arith)
    ∙ ahead_twice 2 (2 + n) (4 + n) rest r2 p1 (omega arith) ∙ ahead_twice 1 (4 + n) (5 + n) rest r1 p (omega arith) in
    again ∙ ap (λ (q : ReadingPlace). Ok (k, q)) place
