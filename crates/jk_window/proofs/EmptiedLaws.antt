-- Packets that are emptied are packets, no longer than they were.
use Rattle.std.proofs.Common.{◌≡◌, ℕ, zero, suc, ◌+◌, ◌<◌, ◌≤◌, Bool, true, false, ◌&&◌, cond, List, [], ◌∷◌, ◌++◌, length, length-append, take, get_or, Ok, append_assoc, refl, sym, ap, ◌∙◌, arith}
use Rattle.std.specs.List.{AllByRecursion, flat_map}
use Rattle.std.proofs.lemmas.List.{append-nil, take_at}
use Rattle.jk_geom.specs.declared.shape.TileShape.{TileShape}
use Rattle.jk_geom.specs.declared.shape.PacketName.{PacketName}
use Rattle.jk_packet.specs.Reading.{sop_at}
use Rattle.jk_packet.specs.PacketText.{IsHeaderText, eph_text}
use Rattle.jk_packet.proofs.Laws.{sop_only, zero_packs, some_packed}
use Rattle.jk_walk.specs.TilePackets.{Packet, IsPacket, IsTile}
use Rattle.jk_walk.proofs.Laws.{sop_by}
pub use Rattle.jk_walk.proofs.Laws.{HasBit, no_packet, tile_bits}
use Rattle.jk_window.specs.Indexing.{joined_runs}
use Rattle.jk_window.specs.Emptied.{begins_sop, sop_of, emptied_text, emptied_packet, kept_packet, emptied_run, run_text}

-- ---- SOP

-- The SOP that is kept is that of the header.
sop_kept : (sop eph : Bool) (bits : List Bool) (header rest : List ℕ) → (h : IsHeaderText sop eph bits header) → 0 < length bits → sop_of sop (header ++ rest) ≡ h.sop_text
sop_kept sop eph bits header rest h some =
    let text = header ++ rest in
    let parts : text ≡ h.sop_text ++ (h.header ++ (eph_text eph ++ rest)) =
    ap (λ (xs : List ℕ). xs ++ rest) h.joins ∙ append_assoc h.sop_text (h.header ++ eph_text eph) rest ∙ ap (λ (xs : List ℕ). h.sop_text ++ xs) (append_assoc h.header (eph_text eph) rest) in
    let at : sop_at sop text ≡ Ok (length h.sop_text) = ap (sop_at sop) parts ∙ sop_only sop h.sop_text bits h.header (eph_text eph ++ rest) h.is_sop some h.packs in
    let size = sop_by sop text (length h.sop_text) at in
    let front : take (length h.sop_text) text ≡ h.sop_text = ap (take (length h.sop_text)) parts ∙ take_at h.sop_text (h.header ++ (eph_text eph ++ rest)) (length h.sop_text) refl in
    by (sop && begins_sop text) size front
  where
    by : (b : Bool) → length h.sop_text ≡ cond b 6 0 → take (length h.sop_text) (header ++ rest) ≡ h.sop_text → cond b (take 6 (header ++ rest)) [] ≡ h.sop_text
    by true size front = ap (λ n. take n (header ++ rest)) (sym size) ∙ front
    by false size front = sym (none_left h.sop_text size)
      where
        none_left : (xs : List ℕ) → length xs ≡ 0 → xs ≡ []
        none_left [] e = refl
        none_left (x ∷ xs) e = absurd (omega (arith, e))

-- ---- a packet

-- the emptied text of a packet
record Emptied (sop eph : Bool) (p : Packet) : Type 0 where
  header : IsHeaderText sop eph (false ∷ []) (emptied_text sop eph p.text)
  short : length (emptied_text sop eph p.text) ≤ length p.text

text_emptied : (sop eph : Bool) (p : Packet) → IsPacket sop eph p → HasBit p → Emptied sop eph p
text_emptied sop eph p is some =
    let bodies = flat_map (λ b. b.bytes) p.bodies in
    let h = is.is_header in
    let own : sop_of sop p.text ≡ h.sop_text = ap (sop_of sop) is.joins ∙ sop_kept sop eph p.bits is.header bodies h some in
    let byte = some_packed p.bits h.header some h.packs in
    let joined : length p.text ≡ length h.sop_text + (length h.header + length (eph_text eph)) + length bodies =
    omega (arith, ap (λ (xs : List ℕ). length xs) is.joins, length-append is.header bodies, ap (λ (xs : List ℕ). length xs) h.joins, length-append h.sop_text (h.header ++ eph_text eph), length-append h.header (eph_text eph)) in
    let size = length-append (sop_of sop p.text) (0 ∷ eph_text eph) in
    let sop_size = ap (λ (xs : List ℕ). length xs) own in
    record {
      header = record {
        sop_text = h.sop_text;
        header = 0 ∷ [];
        is_sop = h.is_sop;
        packs = zero_packs 0 (omega arith);
        joins = ap (λ (xs : List ℕ). xs ++ (0 ∷ eph_text eph)) own;
      };
      short = omega (arith, joined, size, sop_size, byte);
    }

-- An emptied packet is a packet.
pub emptied_is : (sop eph : Bool) (p : Packet) → IsPacket sop eph p → HasBit p → IsPacket sop eph (emptied_packet sop eph p)
emptied_is sop eph p is some = record {
  header = emptied_text sop eph p.text;
  is_header = (text_emptied sop eph p is some).header;
  parts = refl;
  lengths = tt;
  joins = sym (append-nil (emptied_text sop eph p.text));
}

-- ---- runs

kept_short : (keep : PacketName → Bool) (sop eph : Bool) (p : Packet) → IsPacket sop eph p → HasBit p → length (kept_packet keep sop eph p).text ≤ length p.text
kept_short keep sop eph p is some = by (keep p.name)
  where
    by : (b : Bool) → length (cond b p (emptied_packet sop eph p)).text ≤ length p.text
    by true = omega arith
    by false = (text_emptied sop eph p is some).short

-- a run doesn't get longer
run_short : (keep : PacketName → Bool) (sop eph : Bool) (run : List Packet) → AllByRecursion (IsPacket sop eph) run → AllByRecursion HasBit run → length (run_text (emptied_run keep sop eph run)) ≤ length (run_text run)
run_short keep sop eph [] is some = omega arith
run_short keep sop eph (p ∷ run) is some =
    let here = kept_short keep sop eph p is.0 some.0 in
    let more = run_short keep sop eph run is.1 some.1 in
    omega (arith, here, more, length-append p.text (run_text run), length-append (kept_packet keep sop eph p).text (run_text (emptied_run keep sop eph run)))

all_left : {X : Type 0} (P : X → Type 0) (xs ys : List X) → AllByRecursion P (xs ++ ys) → AllByRecursion P xs
all_left P [] ys all = tt
all_left P (x ∷ xs) ys all = (all.0, all_left P xs ys all.1)

all_right : {X : Type 0} (P : X → Type 0) (xs ys : List X) → AllByRecursion P (xs ++ ys) → AllByRecursion P ys
all_right P [] ys all = all
all_right P (x ∷ xs) ys all = all_right P xs ys all.1

-- what holds of all packets holds of a run
pub run_of : (P : Packet → Type 0) (runs : List (List Packet)) (n : ℕ) → AllByRecursion P (joined_runs runs) → AllByRecursion P (get_or runs n [])
run_of P [] n all = tt
run_of P (run ∷ runs) zero all = all_left P run (joined_runs runs) all
run_of P (run ∷ runs) (suc n) all = run_of P runs n (all_right P run (joined_runs runs) all)

-- no run of a tile gets longer
pub tile_short : (keep : PacketName → Bool) (s : TileShape) (sop eph : Bool) (runs : List (List Packet)) (parts : List (List ℕ)) (n : ℕ) → IsTile s sop eph (joined_runs runs) parts
    → length (run_text (emptied_run keep sop eph (get_or runs n []))) ≤ length (run_text (get_or runs n []))
tile_short keep s sop eph runs parts n tile =
    run_short keep sop eph (get_or runs n []) (run_of (IsPacket sop eph) runs n tile.texts) (run_of HasBit runs n (tile_bits s sop eph (joined_runs runs) parts tile))
