-- A code-block's values.
use Rattle.std.proofs.Common.{◌≡◌, ℕ, ◌+◌, ◌-◌, ◌*◌, ◌^◌, ◌<◌, ◌≤◌, min, Bool, List, [], ◌∷◌, length, map, take, drop, Ok, Err, Result, All, ℤ, refl, sym, ap, ◌∙◌, inl, inr, arith, get_or, nat_lt, IfOk}
use Rattle.std.specs.Prelude.{unsigned_abs}
use Rattle.std.proofs.lemmas.Bool.{cases_lt, lt-ltb}
use Rattle.std.proofs.lemmas.List.{append-nil}
use Rattle.std.proofs.lemmas.List.Elements.{All-weaker}
use Rattle.std.proofs.lemmas.Int.{ints}
use Rattle.std.proofs.Math.Pow.{pow_mono}
use Rattle.std.proofs.lemmas.List.FromFn.{length-map-range_with_len}
use Rattle.jk_math.specs.Answer.{◌>>=◌, refuse, Answers}
use Rattle.jk_math.specs.Steps.{bind_then, ok_is}
use Rattle.jk_math.specs.Signed.{IsBelow}
use Rattle.jk_math.specs.declared.fault.Fault.{Fault}
use Rattle.jk_math.specs.declared.fault.Fault.TheVariants.{TooManyPasses}
use Rattle.jk_scan.specs.declared.shape.BlockShape.{BlockShape}
use Rattle.jk_block.specs.declared.decoding.Block.{Block}
use Rattle.jk_block.specs.Meaning.{values_of}
use Rattle.jk_block.specs.Reading.{Progress, times, pass_at, blank, coefficients, block_at}
use Rattle.jk_walk.specs.TilePackets.{Body}
use Rattle.jk_tile.specs.declared.decoding.bodies.BodyPlace.{BodyPlace}
use Rattle.jk_tile.specs.TileBlocks.{block_bytes, passes_in, zeros_in}
use Rattle.jk_tile.specs.decoding.TileReading.{bodies_values}
use Rattle.jk_tile.specs.decoding.Gathered.{body_of}

values_length : (s : BlockShape) (q : ℕ → ℕ → ℤ) → length (values_of s q) ≡ s.width * s.height
unfolding values_of
values_length s q = length-map-range_with_len _ 0 (s.width * s.height)

abbrev run : BlockShape → (planes passes : ℕ) → List ℕ → Result Progress Fault
run s planes passes bytes = times passes (pass_at bytes s planes) blank

block_by : (s : BlockShape) (planes passes : ℕ) (bytes : List ℕ)
    → block_at s planes passes bytes ≡ (refuse (nat_lt (3 * planes - 2) passes) TooManyPasses >>= λ _. run s planes passes bytes >>= λ z. Ok (values_of s (coefficients z)))
unfolding block_at
block_by s planes passes bytes = refl

-- as many values as the shape has places
pub block_length : (s : BlockShape) (planes passes : ℕ) (bytes : List ℕ) (values : List ℤ) → block_at s planes passes bytes ≡ Ok values → length values ≡ s.height * s.width
block_length s planes passes bytes values e =
    bind_then (refuse (nat_lt (3 * planes - 2) passes) TooManyPasses) (λ _. run s planes passes bytes >>= λ z. Ok (values_of s (coefficients z))) values (sym (block_by s planes passes bytes) ∙ e) (λ u r f.
    bind_then (run s planes passes bytes) (λ z. Ok (values_of s (coefficients z))) values f (λ z t g.
    let is = ok_is (values_of s (coefficients z)) values g in
    let turned : s.width * s.height ≡ s.height * s.width = omega arith in
    ap (λ (vs : List ℤ). length vs) (sym is) ∙ values_length s (coefficients z) ∙ turned))

-- more passes than there can be are refused, however many
too_many : (s : BlockShape) (planes passes : ℕ) (bytes : List ℕ) → 3 * planes - 2 < passes → block_at s planes passes bytes ≡ Err TooManyPasses
too_many s planes passes bytes lt =
    block_by s planes passes bytes
    ∙ ap (λ (b : Bool). refuse b TooManyPasses >>= λ _. run s planes passes bytes >>= λ z. Ok (values_of s (coefficients z))) (lt-ltb _ _ lt)

pub passes_cut : (s : BlockShape) (planes passes : ℕ) (bytes : List ℕ) → planes ≤ 23 → block_at s planes (min passes (2 ^ 64 - 1)) bytes ≡ block_at s planes passes bytes
passes_cut s planes passes bytes few = elim (cases_lt passes (2 ^ 64)) [
  | inl lt ↦ let e : min passes (2 ^ 64 - 1) ≡ passes = omega (arith, lt) in ap (λ n. block_at s planes n bytes) e
  | inr ge ↦ too_many s planes (min passes (2 ^ 64 - 1)) bytes (omega (arith, few, ge)) ∙ sym (too_many s planes passes bytes (omega (arith, few, ge)))
]

bodies_by : (s : BlockShape) (planes : ℕ) (bodies : List Body) → bodies_values s planes bodies ≡ block_at s (planes - zeros_in bodies) (passes_in bodies) (block_bytes bodies)
unfolding bodies_values
bodies_by s planes bodies = refl

-- what is decoded is what the bodies mean
pub block_is : (s : BlockShape) (planes left count : ℕ) (segment bytes : List ℕ) (bodies : List BodyPlace) → planes ≤ 23 → left ≡ planes - zeros_in (map (body_of bytes) bodies)
    → count ≡ min (passes_in (map (body_of bytes) bodies)) (2 ^ 64 - 1) → segment ≡ block_bytes (map (body_of bytes) bodies)
    → block_at s left count segment ≡ bodies_values s planes (map (body_of bytes) bodies)
block_is s planes left count segment bytes bodies few l c e =
    let bs = map (body_of bytes) bodies in
    ap (λ n. block_at s n count segment) l ∙ ap (λ n. block_at s (planes - zeros_in bs) n segment) c ∙ ap (block_at s (planes - zeros_in bs) (min (passes_in bs) (2 ^ 64 - 1))) e
    ∙ passes_cut s (planes - zeros_in bs) (passes_in bs) (block_bytes bs) (omega (arith, few)) ∙ sym (bodies_by s planes bs)

-- a single body is lent
pub one_body : (bytes : List ℕ) (bodies : List BodyPlace) (d : BodyPlace) → length bodies ≡ 1
    → let b : BodyPlace = get_or bodies 0 d in take (b.start + b.part.length - b.start) (drop b.start bytes) ≡ block_bytes (map (body_of bytes) bodies)
one_body bytes [] d long = absurd (omega (arith, long))
one_body bytes (x ∷ []) d long = sym (append-nil (take (x.start + x.part.length - x.start) (drop x.start bytes)))
one_body bytes (x ∷ y ∷ bodies) d long = absurd (omega (arith, long))

-- magnitudes below 2^n are below 2^23
size_below : (m n : ℕ) (z : ℤ) → m ≤ n → unsigned_abs z < m → IsBelow n z
size_below m n z le h = (omega (arith, ints), omega (arith, ints))

pub all_below : (n : ℕ) (values : List ℤ) → n ≤ 23 → All (λ v. unsigned_abs v < 2 ^ n) values → All (IsBelow (2 ^ 23)) values
all_below n values few h = All-weaker (λ v. unsigned_abs v < 2 ^ n) (IsBelow (2 ^ 23)) (λ z b. size_below (2 ^ n) (2 ^ 23) z (pow_mono few) b) values h

-- what holds of a block that is decoded
pub if_small : (r : Result Block Fault) (n : ℕ) → n ≤ 23 → IfOk r (λ b. All (λ v. unsigned_abs v < 2 ^ n) b.values.items) → IfOk r (λ b. All (IsBelow (2 ^ 23)) b.values.items)
if_small (Ok b) n few h = all_below n b.values.items few h
if_small (Err e) n few h = tt

pub if_long : (r : Result Block Fault) (s : BlockShape) (planes passes : ℕ) (segment : List ℕ) → Answers (λ b. b.values.items) r (block_at s planes passes segment) → IfOk r (λ b. length b.values.items ≡ s.height * s.width)
if_long (Ok b) s planes passes segment h = block_length s planes passes segment b.values.items h
if_long (Err e) s planes passes segment h = tt
