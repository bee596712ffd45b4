-- The fronts of tile-parts that are put into an outline.
use Rattle.std.proofs.Common.{◌≡◌, ℕ, ◌+◌, ◌-◌, ◌<◌, ◌≤◌, ◌^◌, min, List, [], ◌∷◌, ◌++◌, length, take, drop, sym, ap, ◌∙◌, arith, append-nil, subst}
use Rattle.std.specs.List.{flat_map}
use Rattle.std.proofs.lemmas.List.{take-take, length-take-le}
use Rattle.std.proofs.lemmas.Grind.{flat_map-append}
use Rattle.byteorder.specs.Endian.{big_bytes}
use Rattle.jk_bits.proofs.Texts.{drop_take}
use Rattle.jk_stored.specs.Outlines.{Front, shortened, IsFront, AreFronts}
use Rattle.jk_stored.proofs.Held.{front_part}

-- the front of this many bytes that were read
abbrev pub front_of : (room : List ℕ) (held size : ℕ) → Front
front_of room held size = record { bytes = take held room; size = size }

pub front_text : (room : List ℕ) (held size : ℕ) → 10 ≤ held → held ≤ length room → shortened (front_of room held size) ≡ take 6 room ++ (big_bytes 4 held ++ take (held - 10) (drop 10 room))
front_text room held size some within =
    let long : length (take held room) ≡ held = length-take-le held room within in
    ap (λ (xs : List ℕ). xs ++ (big_bytes 4 (length (take held room)) ++ drop 10 (take held room))) (take-take 6 held room (omega (arith, some)))
    ∙ ap (λ k. take 6 room ++ (big_bytes 4 k ++ drop 10 (take held room))) long
    ∙ ap (λ (xs : List ℕ). take 6 room ++ (big_bytes 4 held ++ xs)) (drop_take 10 held room)

pub front_is : (c room : List ℕ) (at size count psot held : ℕ) → take count room ≡ take count (drop at c) → count ≤ length room → 14 ≤ count → take 4 (drop 6 room) ≡ big_bytes 4 psot → 14 ≤ psot → psot ≤ size - at → at ≤ size → psot < 2 ^ 32
    → held ≡ min psot count → length c ≡ size → IsFront c at (front_of room held psot)
front_is c room at size count psot held read fits long told some inside order narrow least whole =
    let less : held ≤ count = omega (arith, least) in
    let big : 14 ≤ held = omega (arith, least, some, long) in
    let size-is : length (take held room) ≡ held = length-take-le held room (omega (arith, less, fits)) in
    record {
      head = omega (arith, size-is, big);
      part = omega (arith, size-is, least);
      narrow = narrow;
      told = front_part room held 6 4 (omega (arith, big)) ∙ told;
      stands =
          sym (take-take held count room less) ∙ ap (take held) read ∙ take-take held count (drop at c) less ∙ ap (λ k. take k (drop at c)) (sym size-is);
      within = omega (arith, inside, order, whole);
    }

-- one more
pub fronts_push : (c : List ℕ) (a b : ℕ) (fronts : List Front) (f : Front) → AreFronts c a fronts b → IsFront c b f → AreFronts c a (fronts ++ f ∷ []) (b + f.size)
fronts_push c a b [] f are is = (subst (λ k. IsFront c k f) (sym are) is, ap (λ k. k + f.size) are)
fronts_push c a b (g ∷ fronts) f are is = (are.0, fronts_push c (a + g.size) b fronts f are.1 is)

pub texts_push : (fronts : List Front) (f : Front) → flat_map shortened (fronts ++ f ∷ []) ≡ flat_map shortened fronts ++ shortened f
texts_push fronts f = flat_map-append shortened fronts (f ∷ []) ∙ ap (λ (xs : List ℕ). flat_map shortened fronts ++ xs) (append-nil (shortened f))
