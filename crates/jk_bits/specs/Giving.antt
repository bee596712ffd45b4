-- Bits that a reader gives, one after another, and their laws.
use Rattle.std.proofs.Common.{◌≡◌, ℕ, ◌+◌, Bool, false, true, List, [], ◌∷◌, ◌++◌, length, drop, Result, Ok, Err, refl}
use Rattle.std.proofs.Common.{sym, ap, ◌∙◌, arith, append_assoc, length-append, add-zero}
use Rattle.std.proofs.lemmas.List.{drop-drop, drop_at}
use Rattle.jk_math.specs.Answer.{Reads}
use Rattle.jk_math.specs.declared.fault.Fault.{Fault}
use Rattle.jk_bits.specs.Stuffing.{spread}
use Rattle.jk_bits.specs.Reading.{Bits, ahead, first_bit, bit_at}

-- the reader gives these bits, and no more
pub record GivesBits (old : Bits) (bits : List Bool) (new : Bits) : Type 0 where
  pub first : ahead old ≡ bits ++ ahead new
  pub moved : new ≡ record old { read = old.read + length bits }

-- the reader, so many bits on
abbrev pub advance : Bits → ℕ → Bits
advance r n = record r { read = r.read + n }

pub ahead-advance : (r : Bits) (n : ℕ) → ahead (advance r n) ≡ drop n (ahead r)
ahead-advance r n = sym (drop-drop n r.read (spread false r.bytes))

-- What begins with bits gives them.
pub ahead_on : (r : Bits) (bits rest : List Bool) → ahead r ≡ bits ++ rest → ahead (advance r (length bits)) ≡ rest
ahead_on r bits rest h = ahead-advance r (length bits) ∙ ap (drop (length bits)) h
    ∙ drop_at bits rest (length bits) refl

pub gives_on : (r : Bits) (bits rest : List Bool) → ahead r ≡ bits ++ rest → GivesBits r bits (advance r (length bits))
gives_on r bits rest h =
    record { first = h ∙ ap (λ (xs : List Bool). bits ++ xs) (sym (ahead_on r bits rest h)); moved = refl }

pub gives_none : (r : Bits) → GivesBits r [] r
gives_none r = record { first = refl; moved = ap (λ n. record r { read = n }) (sym (add-zero r.read)) }

pub gives_join : (a b c : Bits) (xs ys : List Bool) → GivesBits a xs b → GivesBits b ys c → GivesBits a (xs ++ ys) c
gives_join a b c xs ys g h = record {
  first = g.first ∙ ap (λ (zs : List Bool). xs ++ zs) h.first ∙ sym (append_assoc xs ys (ahead c));
  moved =
      h.moved
      ∙ ap (λ (r : Bits). record r { read = r.read + length ys }) g.moved
      ∙ ap (λ n. record a { read = n })
      (let e : a.read + length xs + length ys
      ≡ a.read + length (xs ++ ys) = omega (arith, length-append xs ys) in e);
}

bit_from : (a : Bits) (xs : List Bool) (r : Bool × Bits) → ahead a ≡ xs → first_bit a xs ≡ Ok r
    → (r ≡ (r.0, advance a 1)) × (ahead a ≡ r.0 ∷ ahead (advance a 1))
bit_from a [] r h e = absurd (cc)
bit_from a (b ∷ bs) r h e =
    let is : r ≡ (b, advance a 1) = cc in
    let same : r.0 ≡ b = ap (λ (p : Bool × Bits). p.0) is in (
      is ∙ ap (λ (c : Bool). (c, advance a 1)) (sym same),
      h ∙ ap (λ (c : Bool). c ∷ bs) (sym same) ∙ ap (λ (cs : List Bool). r.0 ∷ cs) (sym (ahead_on a (b ∷ []) bs h)),
    )

-- A bit that is read.
pub gives_bit : (a : Bits) (r : Bool × Bits) → bit_at a ≡ Ok r → GivesBits a (r.0 ∷ []) r.1
unfolding bit_at
gives_bit a r e =
    let f = bit_from a (ahead a) r refl e in
    let moved : r.1 ≡ advance a 1 = ap (λ (p : Bool × Bits). p.1) f.0 in
    record { first = f.1 ∙ ap (λ (b : Bits). r.0 ∷ ahead b) (sym moved); moved = moved }

-- A bit that is ahead is read.
pub bit_ahead : (a : Bits) (b : Bool) (rest : List Bool) → ahead a ≡ b ∷ rest → bit_at a ≡ Ok (b, advance a 1)
unfolding bit_at
bit_ahead a b rest h = ap (first_bit a) h

-- What is read by one function is read by another that agrees with it there.
pub reads_same : {S A : Type 0} (f g : S → Result (A × S) Fault) (old new : S) (result : Result A Fault) → g old ≡ f old
    → Reads f old new result → Reads g old new result
reads_same f g old new (Ok x) e h = e ∙ h
reads_same f g old new (Err x) e h = e ∙ h

-- the reader goes on by the bits that it gave
abbrev pub Moves : Bits → Bits → Type 0
Moves old new = (bits : List Bool) × GivesBits old bits new

pub stays : (r : Bits) → Moves r r
stays r = ([], gives_none r)

pub moves_on : (a b c : Bits) → Moves a b → Moves b c → Moves a c
moves_on a b c m n = (m.0 ++ n.0, gives_join a b c m.0 n.0 m.1 n.1)

pub bit_moves : (r : Bits) (o : Bool × Bits) → bit_at r ≡ Ok o → Moves r o.1
bit_moves r o h = (o.0 ∷ [], gives_bit r o h)

-- the reader goes on by some bits, and fails there
abbrev pub Stops : Bits → Bits → Type 0
Stops old new = (place : Bits) × Moves old place × (new ≡ record place { failed = true })

pub stops_here : (old new : Bits) → new ≡ record old { failed = true } → Stops old new
stops_here old new e = (old, stays old, e)

pub stops_on : (a b c : Bits) → Moves a b → Stops b c → Stops a c
stops_on a b c m s = (s.0, moves_on a b s.0 m s.1, s.2)

-- The bytes stay.
pub same_bytes : (old new : Bits) → Moves old new → new.bytes ≡ old.bytes
same_bytes old new m = ap (λ (b : Bits). b.bytes) m.1.moved
