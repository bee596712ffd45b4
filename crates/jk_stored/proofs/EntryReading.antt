-- A packet whose header is read in the first bytes of a part is read in all of it.
use Rattle.std.proofs.Common.{◌≡◌, ◌⊎◌, ℕ, ◌+◌, ◌≤◌, min, Bool, true, cond, inl, inr, List, ◌∷◌, ◌++◌, length, take, Option, Some, None, Ok, sym, ap, ◌∙◌, arith}
use Rattle.std.specs.Prelude.{◌&&◌, ◌==◌, nat_le}
use Rattle.std.proofs.lemmas.Bool.{cases_lt}
use Rattle.std.proofs.lemmas.Bool.Decides.{nat_tests}
use Rattle.std.proofs.lemmas.List.{take_all}
use Rattle.jk_geom.specs.declared.shape.PacketName.{PacketName}
use Rattle.jk_packet.specs.Reading.{PrecinctState, HeaderText, header_at}
use Rattle.jk_walk.specs.declared.entries.PacketEntry.{PacketEntry}
use Rattle.jk_walk.specs.TilePackets.{slice_of}
use Rattle.jk_walk.specs.Sop.{counter_of}
use Rattle.jk_walk.specs.Entries.{packet_entry}
use Rattle.jk_walk.specs.WalkReading.{bodies_length, place_of}
use Rattle.jk_walk.proofs.Slices.{slice_join, slice_front}
use Rattle.jk_walk.proofs.OnlyLaws.{packet_ok}
use Rattle.jk_stored.specs.Walks.{IsEntryAt}
use Rattle.jk_stored.proofs.Forward.{header_forward}

-- ---- the counter

abbrev counter_six : Bool → (a b e f : ℕ) → Option (ℕ × ℕ)
counter_six sop a b e f = cond ((sop && ((a == 0xFF) && (b == 0x91))) && true) (Some (e, f)) None

counter_is : (sop : Bool) (a b c d e f : ℕ) (rest : List ℕ) → counter_of sop (a ∷ (b ∷ (c ∷ (d ∷ (e ∷ (f ∷ rest)))))) ≡ counter_six sop a b e f
counter_is sop a b c d e f rest =
    let n = length (a ∷ (b ∷ (c ∷ (d ∷ (e ∷ (f ∷ rest)))))) in
    let long : n ≡ length rest + 6 = omega arith in
    let six : nat_le 6 n ≡ true = grind (arith, nat_tests) in
    ap (λ (t : Bool). cond ((sop && ((a == 0xFF) && (b == 0x91))) && t) (Some (e, f)) None) six

counter_wide : (sop : Bool) (bytes more : List ℕ) → 6 ≤ length bytes → counter_of sop bytes ≡ counter_of sop (bytes ++ more)
counter_wide sop (a ∷ (b ∷ (c ∷ (d ∷ (e ∷ (f ∷ rest)))))) more long = counter_is sop a b c d e f rest ∙ sym (counter_is sop a b c d e f (rest ++ more))
counter_wide sop bytes more long = absurd (omega (arith, long))

-- the bytes at hand are enough: six, or all of the part
abbrev pub IsEnough : (size : ℕ) → ℕ × ℕ → Type 0
IsEnough size part = (6 ≤ size) ⊎ (part.1 ≤ part.0 + size)

-- of a packet of which the bytes at hand may be a part
pub counter_same : (c bytes : List ℕ) (sop : Bool) (part : ℕ × ℕ) (size : ℕ) → bytes ≡ slice_of c (part.0, part.0 + length bytes) → part.0 + length bytes ≤ part.1 → part.0 + size ≤ part.1 → IsEnough (length bytes) part
    → counter_of sop (take (min (length bytes) size) bytes) ≡ counter_of sop (slice_of c (part.0, part.0 + size))
counter_same c bytes sop part size is within fits enough = elim (cases_lt (length bytes) size) [
  | inr less ↦
      let front : min (length bytes) size ≡ size = omega (arith, less) in
      ap (counter_of sop)
      (ap (λ n. take n bytes) front ∙ ap (take size) is ∙ slice_front c part.0 (part.0 + length bytes) size (omega (arith, less)))
  | inl more ↦
      let front : min (length bytes) size ≡ length bytes = omega (arith, more) in
      let rest = slice_of c (part.0 + length bytes, part.0 + size) in
      let whole : slice_of c (part.0, part.0 + size) ≡ bytes ++ rest =
      slice_join c part.0 (part.0 + length bytes) (part.0 + size) (omega arith) (omega (arith, more)) ∙ ap (λ (xs : List ℕ). xs ++ rest) (sym is) in
      let six : 6 ≤ length bytes = elim enough [
        | inl e ↦ e
        | inr all ↦ absurd (omega (arith, all, fits, more))
      ] in
      ap (counter_of sop) (ap (λ n. take n bytes) front ∙ take_all (length bytes) bytes (omega arith)) ∙ counter_wide sop bytes rest six ∙ ap (counter_of sop) (sym whole)
]

-- ---- the header

header_whole : (c bytes : List ℕ) (part : ℕ × ℕ) (n : ℕ) (x : PrecinctState) (o : HeaderText × PrecinctState) → bytes ≡ slice_of c (part.0, part.0 + length bytes) → part.0 + length bytes ≤ part.1 → IsEnough (length bytes) part
    → header_at n bytes x ≡ Ok o → header_at n (slice_of c part) x ≡ Ok o
header_whole c bytes part n x o is within (inl six) h =
    let rest = slice_of c (part.0 + length bytes, part.1) in
    let whole : slice_of c part ≡ bytes ++ rest = slice_join c part.0 (part.0 + length bytes) part.1 (omega arith) within ∙ ap (λ (xs : List ℕ). xs ++ rest) (sym is) in
    ap (λ (xs : List ℕ). header_at n xs x) whole ∙ header_forward n bytes rest x o six h
header_whole c bytes part n x o is within (inr all) h =
    let end : part.1 ≡ part.0 + length bytes = omega (arith, all, within) in
    ap (λ (xs : List ℕ). header_at n xs x) (ap (λ k. slice_of c (part.0, k)) end ∙ sym is) ∙ h

-- ---- the entry

pub entry_read : (c bytes : List ℕ) (sop : Bool) (part : ℕ × ℕ) (n : PacketName) (x after : PrecinctState) (h : HeaderText) (size : ℕ) (counter : Option (ℕ × ℕ)) → bytes ≡ slice_of c (part.0, part.0 + length bytes)
    → part.0 + length bytes ≤ part.1 → IsEnough (length bytes) part → header_at n.layer bytes x ≡ Ok (h, after) → size ≡ bodies_length h.parts → part.0 + h.length + size ≤ part.1
    → counter ≡ counter_of sop (take (min (length bytes) (h.length + size)) bytes)
    → IsEntryAt c sop part n x after (record { start = part.0; body = part.0 + h.length; end = part.0 + h.length + size; counter = counter })
entry_read c bytes sop part n x after h size counter is within enough read sum fits told =
    let w = place_of n part.0 h.length h.parts in
    let all : part.0 + (h.length + size) ≤ part.1 = omega (arith, fits) in
    let stop : part.0 + (h.length + size) ≡ part.0 + h.length + bodies_length h.parts = omega (arith, sum) in
    let own : counter ≡ counter_of sop (slice_of c (part.0, part.0 + h.length + bodies_length h.parts)) = told ∙ counter_same c bytes sop part (h.length + size) is within all enough ∙ ap (λ k. counter_of sop (slice_of c (part.0, k))) stop in
    let left : PacketEntry = record { start = part.0; body = part.0 + h.length; end = part.0 + h.length + size; counter = counter } in
    let same : left ≡ packet_entry c sop w =
    ap (λ k. record left { end = part.0 + h.length + k }) sum
    ∙ ap (λ (k : Option (ℕ × ℕ)). record left { end = part.0 + h.length + bodies_length h.parts; counter = k }) own in
    (w, packet_ok c part n x after h.length h.parts (header_whole c bytes part n.layer x (h, after) is within enough read) (omega (arith, sum, fits)), same)
