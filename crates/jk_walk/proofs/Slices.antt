-- Bytes of places, and the bodies of parts that stand one after another.
use Rattle.std.proofs.Common.{◌≡◌, ℕ, ◌+◌, ◌-◌, ◌≤◌, List, [], ◌∷◌, ◌++◌, length, take, drop, map, refl, sym, ap, ◌∙◌, arith, append_assoc}
use Rattle.std.specs.List.{AllByRecursion, flat_map}
use Rattle.std.proofs.lemmas.List.{length-take-le, length-drop, length-append, take-take, take-append-drop, take_at, drop_at, drop-drop, drop-take}
use Rattle.std.proofs.lemmas.List.Sums.{sum_by-cons}
use Rattle.jk_packet.specs.declared.header.BlockContribution.{BlockContribution}
use Rattle.jk_walk.specs.TilePackets.{slice_of, Body}
use Rattle.jk_walk.specs.WalkReading.{bodies_length, bodies_at}

pub bodies_length-cons : (p : BlockContribution) (parts : List BlockContribution) → bodies_length (p ∷ parts) ≡ p.length + bodies_length parts
bodies_length-cons p parts = sum_by-cons (λ (p : BlockContribution). p.length) p parts

take_sum : (n m : ℕ) (xs : List ℕ) → take (n + m) xs ≡ take n xs ++ take m (drop n xs)
take_sum n m xs =
    sym (take-append-drop n (take (n + m) xs))
    ∙ ap (λ (ys : List ℕ). ys ++ drop n (take (n + m) xs)) (take-take n (n + m) xs (omega arith))
    ∙ ap (λ (ys : List ℕ). take n xs ++ ys) (drop-take n m xs)

-- a place cut in two
pub slice_join : (bytes : List ℕ) (a b c : ℕ) → a ≤ b → b ≤ c → slice_of bytes (a, c) ≡ slice_of bytes (a, b) ++ slice_of bytes (b, c)
slice_join bytes a b c le more =
    ap (λ n. take n (drop a bytes)) (let e : c - a ≡ (b - a) + (c - b) = omega (arith, le, more) in e)
    ∙ take_sum (b - a) (c - b) (drop a bytes)
    ∙ ap (λ (xs : List ℕ). slice_of bytes (a, b) ++ take (c - b) xs) (drop-drop (b - a) a bytes ∙ ap (λ n. drop n bytes) (let e : a + (b - a) ≡ b = omega (arith, le) in e))

-- the front of a place
pub slice_front : (bytes : List ℕ) (a b n : ℕ) → a + n ≤ b → take n (slice_of bytes (a, b)) ≡ slice_of bytes (a, a + n)
slice_front bytes a b n le =
    take-take n (b - a) (drop a bytes) (omega (arith, le)) ∙ ap (λ m. take m (drop a bytes)) (let e : n ≡ a + n - a = omega arith in e)

pub slice_length : (bytes : List ℕ) (a b : ℕ) → a ≤ b → b ≤ length bytes → length (slice_of bytes (a, b)) ≡ b - a
slice_length bytes a b le within = length-take-le (b - a) (drop a bytes) (let e = length-drop a bytes in omega (arith, e, le, within))

pub slice_none : (bytes : List ℕ) (a b : ℕ) → b ≤ a → slice_of bytes (a, b) ≡ []
slice_none bytes a b le = ap (λ n. take n (drop a bytes)) (let e : b - a ≡ 0 = omega (arith, le) in e)

-- ---- bodies

abbrev pub body_bytes : Body → List ℕ
body_bytes b = b.bytes

abbrev pub body_part : Body → BlockContribution
body_part b = b.part

-- the body is as long as its part says
abbrev pub IsLong : Body → Type 0
IsLong b = length b.bytes ≡ b.part.length

pub bodies_parts : (bytes : List ℕ) (at : ℕ) (parts : List BlockContribution) → map body_part (bodies_at bytes at parts) ≡ parts
bodies_parts bytes at [] = refl
bodies_parts bytes at (p ∷ parts) = ap (λ (ps : List BlockContribution). p ∷ ps) (bodies_parts bytes (at + p.length) parts)

pub bodies_long : (bytes : List ℕ) (at : ℕ) (parts : List BlockContribution) → at + bodies_length parts ≤ length bytes → AllByRecursion IsLong (bodies_at bytes at parts)
bodies_long bytes at [] within = tt
bodies_long bytes at (p ∷ parts) within =
    let size = bodies_length-cons p parts in (
      slice_length bytes at (at + p.length) (omega arith) (omega (arith, size, within)) ∙ (let e : at + p.length - at ≡ p.length = omega arith in e),
      bodies_long bytes (at + p.length) parts (omega (arith, size, within)),
    )

pub bodies_join : (bytes : List ℕ) (at : ℕ) (parts : List BlockContribution) → flat_map body_bytes (bodies_at bytes at parts) ≡ slice_of bytes (at, at + bodies_length parts)
bodies_join bytes at [] = sym (slice_none bytes at (at + 0) (omega arith))
bodies_join bytes at (p ∷ parts) =
    let size = bodies_length-cons p parts in
    let more : at + bodies_length (p ∷ parts) ≡ at + p.length + bodies_length parts = omega (arith, size) in
    ap (λ (xs : List ℕ). slice_of bytes (at, at + p.length) ++ xs) (bodies_join bytes (at + p.length) parts)
    ∙ sym (slice_join bytes at (at + p.length) (at + p.length + bodies_length parts) (omega arith) (omega arith))
    ∙ ap (λ n. slice_of bytes (at, n)) (sym more)

-- bodies are as long as their parts say
pub bodies_size : (bodies : List Body) → AllByRecursion IsLong bodies → length (flat_map body_bytes bodies) ≡ bodies_length (map body_part bodies)
bodies_size [] long = refl
bodies_size (b ∷ bodies) long =
    let here = long.0 in
    let more = bodies_size bodies long.1 in
    let both = length-append b.bytes (flat_map body_bytes bodies) in
    let size = bodies_length-cons b.part (map body_part bodies) in
    omega (arith, here, more, both, size)

-- bodies that stand at a place
pub bodies_are : (bytes : List ℕ) (at : ℕ) (bodies : List Body) (rest : List ℕ) → AllByRecursion IsLong bodies → drop at bytes ≡ flat_map body_bytes bodies ++ rest
    → bodies ≡ bodies_at bytes at (map body_part bodies)
bodies_are bytes at [] rest long from = refl
bodies_are bytes at (b ∷ bodies) rest long from =
    let n = b.part.length in
    let here : drop at bytes ≡ b.bytes ++ (flat_map body_bytes bodies ++ rest) = from ∙ append_assoc b.bytes (flat_map body_bytes bodies) rest in
    let own : slice_of bytes (at, at + n) ≡ b.bytes = ap (λ m. take m (drop at bytes)) (let e : at + n - at ≡ n = omega arith in e) ∙ ap (take n) here ∙ take_at b.bytes (flat_map body_bytes bodies ++ rest) n long.0 in
    let later : drop (at + n) bytes ≡ flat_map body_bytes bodies ++ rest = sym (drop-drop n at bytes) ∙ ap (drop n) here ∙ drop_at b.bytes (flat_map body_bytes bodies ++ rest) n long.0 in
    let more = bodies_are bytes (at + n) bodies rest long.1 later in
    let head : b ≡ record { part = b.part; bytes = slice_of bytes (at, at + n) } = ap (λ (xs : List ℕ). record { part = b.part; bytes = xs }) (sym own) in
    ap (λ (c : Body). c ∷ bodies) head ∙ ap (λ (bs : List Body). record { part = b.part; bytes = slice_of bytes (at, at + n) } ∷ bs) more
