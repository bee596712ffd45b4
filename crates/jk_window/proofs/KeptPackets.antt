-- Packets some of which are emptied: they have their names, they are packets, and they stand in
-- their runs and precincts.
use Rattle.std.proofs.Common.{◌≡◌, ℕ, Bool, true, false, cond, List, [], ◌∷◌, ◌++◌, map, filter, refl, sym, ap, ◌∙◌}
use Rattle.std.specs.List.{AllByRecursion}
use Rattle.std.proofs.lemmas.List.{map-append}
use Rattle.jk_geom.specs.declared.shape.PacketName.{PacketName}
use Rattle.jk_order.specs.PacketOrder.{is_of}
use Rattle.jk_walk.specs.TilePackets.{Packet, IsPacket, of_precinct}
use Rattle.jk_window.specs.Emptied.{emptied_packet, kept_packet, emptied_run, run_text}
use Rattle.jk_window.specs.Indexing.{joined_runs}
use Rattle.jk_window.proofs.EmptiedLaws.{HasBit, emptied_is}

-- A test of what is made of things tests the things.
pub filter_mapped : {X Y : Type 0} (f : X → Y) (q : Y → Bool) (own : X → Bool) (xs : List X) → ((x : X) → q (f x) ≡ own x) → filter q (map f xs) ≡ map f (filter own xs)
filter_mapped f q own [] same = refl
filter_mapped {X} f q own (x ∷ xs) same =
    let more = filter_mapped f q own xs same in
    (λ i. cond (same x i) (f x ∷ more i) (more i)) ∙ by (own x)
  where
    by : (b : Bool) → cond b (f x ∷ map f (filter own xs)) (map f (filter own xs)) ≡ map f (cond b (x ∷ filter own xs) (filter own xs))
    by true = refl
    by false = refl

name_kept : (keep : PacketName → Bool) (sop eph : Bool) (p : Packet) → (kept_packet keep sop eph p).name ≡ p.name
name_kept keep sop eph p = by (keep p.name)
  where
    by : (b : Bool) → (cond b p (emptied_packet sop eph p)).name ≡ p.name
    by true = refl
    by false = refl

pub names_kept : (keep : PacketName → Bool) (sop eph : Bool) (packets : List Packet) → map (λ (p : Packet). p.name) (emptied_run keep sop eph packets) ≡ map (λ (p : Packet). p.name) packets
names_kept keep sop eph [] = refl
names_kept keep sop eph (p ∷ packets) = let more = names_kept keep sop eph packets in λ i. name_kept keep sop eph p i ∷ more i

pub texts_kept : (keep : PacketName → Bool) (sop eph : Bool) (packets : List Packet) → AllByRecursion (IsPacket sop eph) packets → AllByRecursion HasBit packets → AllByRecursion (IsPacket sop eph) (emptied_run keep sop eph packets)
texts_kept keep sop eph [] all bits = tt
texts_kept keep sop eph (p ∷ packets) all bits = (by (keep p.name), texts_kept keep sop eph packets all.1 bits.1)
  where
    by : (b : Bool) → IsPacket sop eph (cond b p (emptied_packet sop eph p))
    by true = all.0
    by false = emptied_is sop eph p all.0 bits.0

-- the packets of a precinct
pub of_kept : (keep : PacketName → Bool) (sop eph : Bool) (c r k : ℕ) (packets : List Packet) → of_precinct c r k (emptied_run keep sop eph packets) ≡ emptied_run keep sop eph (of_precinct c r k packets)
of_kept keep sop eph c r k packets =
    let own : Packet → Bool = λ p. is_of c r k p.name in
    filter_mapped (kept_packet keep sop eph) own own packets (λ p. ap (is_of c r k) (name_kept keep sop eph p))

-- the runs
pub runs_kept : (f : Packet → Packet) (runs : List (List Packet)) → joined_runs (map (map f) runs) ≡ map f (joined_runs runs)
runs_kept f [] = refl
runs_kept f (run ∷ runs) = ap (λ (ps : List Packet). map f run ++ ps) (runs_kept f runs) ∙ sym (map-append f run (joined_runs runs))

pub texts_of : (f : Packet → Packet) (runs : List (List Packet)) → map run_text (map (map f) runs) ≡ map (λ run. run_text (map f run)) runs
texts_of f [] = refl
texts_of f (run ∷ runs) = ap (λ (xs : List (List ℕ)). run_text (map f run) ∷ xs) (texts_of f runs)
