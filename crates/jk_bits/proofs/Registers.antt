-- The registers of a reader: at the first bit, after a bit of the byte in hand, and after a byte is taken.
use Rattle.std.proofs.Common.{◌≡◌, ℕ, zero, suc, ◌+◌, ◌-◌, ◌/◌, ◌%◌, ◌^◌, ◌<◌, ◌≤◌, Bool, true, false, List, [], ◌∷◌, ◌++◌, length, drop, Option, Some, None, Result, Ok, Err, refl, sym, ap, ◌∙◌, subst, arith, length-append, zero-add}
use Rattle.std.specs.Prelude.{◌==◌, IfSome, is_some}
use Rattle.std.proofs.lemmas.List.{drop-drop, length-drop}
use Rattle.jk_math.specs.Answer.{◌>>=◌}
use Rattle.jk_math.specs.declared.fault.Fault.{Fault}
use Rattle.jk_bits.specs.Stuffing.{room, binary, first_byte, spread, edge, size}
use Rattle.jk_bits.specs.Reading.{Bits, first_bit, bit_at, read_of, IsReading}
use Rattle.jk_bits.proofs.Spreading.{length-binary, binary-suc, Loads, loads, drop_one, no_load}

-- what is behind the byte in hand
abbrev behind : List ℕ → ℕ → ℕ → List Bool
behind bytes position byte = spread (byte == 255) (drop position bytes)

pub read_start : (bytes : List ℕ) → read_of bytes 0 0 0 ≡ 0
unfolding read_of
read_start bytes = omega arith

moved : (r : Result ℕ Fault) → (r >>= (λ n. Ok (0 + n))) ≡ r
moved (Ok n) = ap Ok (zero-add n)
moved (Err e) = refl

pub start : (bytes : List ℕ) → IsReading bytes 0 0 0 None
unfolding binary
start bytes =
    let none = read_start bytes in
    record {
      below = omega arith;
      within = omega arith;
      fits = omega arith;
      bits_left = ap (λ n. drop n (spread false bytes)) none;
      ends = refl;
      sizes = λ more. ap (λ n. size false (n + more) bytes) none ∙ ap (λ n. size false n bytes) (let e : 0 + more ≡ more - 0 = omega arith in e) ∙ sym (moved (size false (more - 0) bytes));
      stuck = tt;
    }

read_shift : (bytes : List ℕ) (position byte left : ℕ) → suc left + length (behind bytes position byte) ≤ length (spread false bytes) → read_of bytes position byte left ≡ read_of bytes position byte (suc left) + 1
unfolding read_of
read_shift bytes position byte left fits = omega arith

unstuck : (bytes : List ℕ) (position byte left : ℕ) (f : Option Fault)
    → IfSome f (λ e. (suc left ≡ 0) × (behind bytes position byte ≡ []) × (e ≡ edge (byte == 255) (drop position bytes)))
    → IfSome f (λ e. (left ≡ 0) × (behind bytes position byte ≡ []) × (e ≡ edge (byte == 255) (drop position bytes)))
unstuck bytes position byte left None h = tt
unstuck bytes position byte left (Some e) h = absurd (omega (arith, h.0))

-- The registers with a byte in hand of which no bit may have been taken yet.
pub record HasByte (bytes : List ℕ) (position byte left : ℕ) (failed : Option Fault) : Type 0 where
  pub within : position ≤ length bytes
  pub fits : left + length (behind bytes position byte) ≤ length (spread false bytes)
  pub bits_left : drop (read_of bytes position byte left) (spread false bytes) ≡ binary left byte ++ behind bytes position byte
  pub ends : edge false bytes ≡ edge (byte == 255) (drop position bytes)
  pub sizes : (more : ℕ) → size false (read_of bytes position byte left + suc more) bytes ≡ (size (byte == 255) (suc more - left) (drop position bytes) >>= (λ n. Ok (position + n)))
  pub stuck : IfSome failed (λ e. (left ≡ 0) × (behind bytes position byte ≡ []) × (e ≡ edge (byte == 255) (drop position bytes)))

pub has_byte : (bytes : List ℕ) (position byte left : ℕ) (f : Option Fault) → IsReading bytes position byte left f → HasByte bytes position byte left f
has_byte bytes position byte left f i = record {
  within = i.within;
  fits = i.fits;
  bits_left = i.bits_left;
  ends = i.ends;
  sizes = λ more. i.sizes (suc more);
  stuck = i.stuck;
}

-- A bit of the byte in hand is taken.
pub shift : (bytes : List ℕ) (position byte left : ℕ) (f : Option Fault) → left < 8 → HasByte bytes position byte (suc left) f → IsReading bytes position byte left f
shift bytes position byte left f below i =
    let r = read_of bytes position byte (suc left) in
    let moves : read_of bytes position byte left ≡ r + 1 = read_shift bytes position byte left i.fits in
    let fits : left + length (behind bytes position byte) ≤ length (spread false bytes) = omega (arith, i.fits) in
    record {
      below = below;
      within = i.within;
      fits = fits;
      bits_left =
          ap (λ n. drop n (spread false bytes)) moves
          ∙ sym (drop-drop 1 r (spread false bytes))
          ∙ ap (drop 1) i.bits_left
          ∙ ap (λ (bits : List Bool). drop 1 (bits ++ behind bytes position byte)) (binary-suc left byte);
      ends = i.ends;
      sizes = λ more.
          ap (λ n. size false n bytes) (let e : read_of bytes position byte left + more ≡ r + suc more = omega (arith, moves) in e)
          ∙ i.sizes more
          ∙ ap (λ n. size (byte == 255) n (drop position bytes) >>= (λ n. Ok (position + n))) (let e : suc more - suc left ≡ more - left = omega arith in e);
      stuck = unstuck bytes position byte left f i.stuck;
    }

-- The bit that is taken is the next.
pub shift_bit : (bytes : List ℕ) (position byte left : ℕ) (f : Option Fault) (failed : Bool) → HasByte bytes position byte (suc left) f
    → bit_at record { bytes = bytes; read = read_of bytes position byte (suc left); failed = failed }
    ≡ Ok (byte / 2 ^ left % 2 == 1, record { bytes = bytes; read = read_of bytes position byte left; failed = failed })
unfolding bit_at
shift_bit bytes position byte left f failed i =
    let r = read_of bytes position byte (suc left) in
    let s : Bits = record { bytes = bytes; read = r; failed = failed } in
    ap (first_bit s) (i.bits_left ∙ ap (λ (bits : List Bool). bits ++ behind bytes position byte) (binary-suc left byte))
    ∙ ap (λ n. Ok (byte / 2 ^ left % 2 == 1, record { bytes = bytes; read = n; failed = failed })) (sym (read_shift bytes position byte left i.fits))

-- the bytes from one place on, and from the next
next_bytes : (bytes : List ℕ) (position x : ℕ) (rest : List ℕ) → drop position bytes ≡ x ∷ rest → drop (position + 1) bytes ≡ rest
next_bytes bytes position x rest h = sym (drop-drop 1 position bytes) ∙ ap (drop 1) h

inside : (bytes : List ℕ) (position x : ℕ) (rest : List ℕ) → drop position bytes ≡ x ∷ rest → position + 1 ≤ length bytes
inside bytes position x rest h = omega (arith, length-drop position bytes, ap length h)

room_some : (after : Bool) → 0 < room after
room_some true = omega arith
room_some false = omega arith

not_stuck : (bytes : List ℕ) (position byte x left : ℕ) (f : Option Fault) (b : Bool) (bits : List Bool) → behind bytes position byte ≡ bits → 0 < length bits
    → IfSome f (λ e. (◌≡◌ {A = ℕ} 0 0) × (behind bytes position byte ≡ []) × (e ≡ edge (byte == 255) (drop position bytes)))
    → IfSome f (λ e. (left ≡ 0) × (behind bytes (position + 1) x ≡ []) × (e ≡ edge (x == 255) (drop (position + 1) bytes)))
not_stuck bytes position byte x left None b bits e some h = tt
not_stuck bytes position byte x left (Some _) b bits e some h = absurd (omega (arith, ap length e, ap length h.1))

joined : (r : Result ℕ Fault) (p : ℕ) → (r >>= (λ m. Ok (suc m)) >>= (λ n. Ok (p + n))) ≡ (r >>= (λ n. Ok (p + 1 + n)))
joined (Ok m) p = ap Ok (omega arith)
joined (Err e) p = refl

-- A byte is taken.
pub load : (bytes : List ℕ) (position byte x : ℕ) (f : Option Fault) → IsReading bytes position byte 0 f → first_byte (byte == 255) (drop position bytes) ≡ Ok x
    → HasByte bytes (position + 1) x (room (byte == 255)) f × (read_of bytes (position + 1) x (room (byte == 255)) ≡ read_of bytes position byte 0)
unfolding read_of binary
load bytes position byte x f i h =
    let after = byte == 255 in
    let rest = drop_one (drop position bytes) in
    let l : Loads after (drop position bytes) x rest = loads after (drop position bytes) x h in
    let on : drop (position + 1) bytes ≡ rest = next_bytes bytes position x rest l.split in
    let ahead_on : behind bytes (position + 1) x ≡ spread (x == 255) rest = ap (spread (x == 255)) on in
    let bits_on : behind bytes position byte ≡ binary (room after) x ++ behind bytes (position + 1) x = l.bits ∙ ap (λ (b : List Bool). binary (room after) x ++ b) (sym ahead_on) in
    let lengths : length (behind bytes position byte) ≡ room after + length (behind bytes (position + 1) x) = ap length bits_on ∙ length-append (binary (room after) x) (behind bytes (position + 1) x) ∙ ap (λ n. n + length (behind bytes (position + 1) x)) (length-binary (room after) x) in
    let same : read_of bytes (position + 1) x (room after) ≡ read_of bytes position byte 0 = omega (arith, lengths) in (
      record {
        within = inside bytes position x rest l.split;
        fits = omega (arith, lengths, i.fits);
        bits_left = ap (λ n. drop n (spread false bytes)) same ∙ i.bits_left ∙ bits_on;
        ends = i.ends ∙ l.ends ∙ ap (edge (x == 255)) (sym on);
        sizes = λ more.
            ap (λ n. size false (n + suc more) bytes) same
            ∙ i.sizes (suc more)
            ∙ ap (λ n. size (byte == 255) n (drop position bytes) >>= (λ n. Ok (position + n))) (let e : suc more - 0 ≡ suc more = omega arith in e)
            ∙ ap (λ (r : Result ℕ Fault). r >>= (λ n. Ok (position + n))) (l.sizes more)
            ∙ joined (size (x == 255) (suc more - room after) rest) position
            ∙ ap (λ (bs : List ℕ). size (x == 255) (suc more - room after) bs >>= (λ n. Ok (position + 1 + n))) (sym on);
        stuck = not_stuck bytes position byte x (room after) f after _ bits_on (omega (arith, lengths, ap length bits_on, room_some after)) i.stuck;
      },
      same,
    )

-- There is no byte to take.
pub stop : (bytes : List ℕ) (position byte : ℕ) (f : Option Fault) (failed : Bool) (e : Fault) → IsReading bytes position byte 0 f → first_byte (byte == 255) (drop position bytes) ≡ Err e
    → IsReading bytes position byte 0 (Some e) × (bit_at record { bytes = bytes; read = read_of bytes position byte 0; failed = failed } ≡ Err e)
unfolding bit_at binary
stop bytes position byte f failed e i h =
    let none = no_load (byte == 255) (drop position bytes) e h in
    let s : Bits = record { bytes = bytes; read = read_of bytes position byte 0; failed = failed } in (
      record {
        below = i.below;
        within = i.within;
        fits = i.fits;
        bits_left = i.bits_left;
        ends = i.ends;
        sizes = i.sizes;
        stuck = (refl, none.0, sym none.1);
      },
      ap (first_bit s) (i.bits_left ∙ none.0) ∙ ap Err (i.ends ∙ none.1),
    )

-- The registers, ready to give a bit, of a reader that callers see as old.
pub record IsReady (old : Bits) (bytes : List ℕ) (position byte left : ℕ) (f : Option Fault) : Type 0 where
  pub has : HasByte bytes position byte left f
  pub some : 0 < left
  pub below : left ≤ 8
  pub seen : old ≡ record { bytes = bytes; read = read_of bytes position byte left; failed = is_some f }

pub record TakesBit (old : Bits) (bytes : List ℕ) (position byte left : ℕ) (f : Option Fault) : Type 0 where
  pub reads : IsReading bytes position byte left f
  pub gives : bit_at old ≡ Ok (byte / 2 ^ left % 2 == 1, record { bytes = bytes; read = read_of bytes position byte left; failed = is_some f })

takes_bit : (old : Bits) (bytes : List ℕ) (position byte left : ℕ) (f : Option Fault) → IsReady old bytes position byte (suc left) f → TakesBit old bytes position byte left f
takes_bit old bytes position byte left f r = record {
  reads = shift bytes position byte left f (omega (arith, r.below)) r.has;
  gives = ap bit_at r.seen ∙ shift_bit bytes position byte left f (is_some f) r.has;
}

pub takes : (old : Bits) (bytes : List ℕ) (position byte left : ℕ) (f : Option Fault) → IsReady old bytes position byte left f → TakesBit old bytes position byte (left - 1) f
takes old bytes position byte zero f r = absurd (omega (arith, r.some))
takes old bytes position byte (suc left) f r =
    subst (λ n. TakesBit old bytes position byte n f) (let e : left ≡ suc left - 1 = omega arith in e) (takes_bit old bytes position byte left f r)

pub ready : (old : Bits) (bytes : List ℕ) (position byte left : ℕ) (f : Option Fault) → IsReading bytes position byte left f → (left ≡ 0 → ⊥)
    → old ≡ record { bytes = bytes; read = read_of bytes position byte left; failed = is_some f } → IsReady old bytes position byte left f
ready old bytes position byte left f i some seen = record { has = has_byte bytes position byte left f i; some = omega arith; below = omega (arith, i.below); seen = seen }

room_below : (after : Bool) → room after ≤ 8
room_below true = omega arith
room_below false = omega arith

pub ready_loaded : (old : Bits) (bytes : List ℕ) (position byte left x : ℕ) (f : Option Fault) → IsReading bytes position byte left f → left ≡ 0
    → first_byte (byte == 255) (drop position bytes) ≡ Ok x
    → old ≡ record { bytes = bytes; read = read_of bytes position byte left; failed = is_some f } → IsReady old bytes (position + 1) x (room (byte == 255)) f
ready_loaded old bytes position byte left x f i none first seen =
    let at_zero : IsReading bytes position byte 0 f = subst (λ n. IsReading bytes position byte n f) none i in
    let l = load bytes position byte x f at_zero first in
    record {
      has = l.0;
      some = room_some (byte == 255);
      below = room_below (byte == 255);
      seen = seen ∙ ap (λ n. record { bytes = bytes; read = n; failed = is_some f }) (ap (read_of bytes position byte) none ∙ sym l.1);
    }
