-- Packets of a tile by their bytes alone.
use Rattle.std.proofs.Common.{◌≡◌, ℕ, ◌<◌, List, [], ◌∷◌, length, map, Result, Ok, Err, refl, sym, ap, ◌∙◌, subst}
use Rattle.std.specs.Prelude.{MatchResult}
use Rattle.std.specs.List.{AllZip}
use Rattle.jk_math.specs.Memory.{IsMemory}
use Rattle.jk_math.specs.Answer.{◌>>=◌, Refuses, Answers}
use Rattle.jk_math.specs.declared.fault.Fault.{Fault}
use Rattle.jk_math.specs.declared.fault.Fault.TheVariants.{Memory}
use Rattle.jk_marks.specs.Siz.{tile_count}
use Rattle.jk_params.specs.Headers.{Headers, tile_in, AreHeaders}
use Rattle.jk_walk.specs.declared.places.PacketPlace.{PacketPlace}
use Rattle.jk_walk.specs.declared.spans.PacketSpan.{PacketSpan}
use Rattle.jk_walk.specs.TilePackets.{Packet}
use Rattle.jk_walk.specs.WalkReading.{spans_at, span_of, IsPlaced, IsSpanned, AreLaid, AreTilePackets}
use Rattle.jk_walk.proofs.OnlyLaws.{packets_laid}

-- ---- what is made of each of the values that are read

-- the same of nothing changed
pub each_same : {X : Type 0} (xs : List X) → map (λ (x : X). x) xs ≡ xs
each_same [] = refl
each_same {X} (x ∷ xs) = ap (λ (ys : List X). x ∷ ys) (each_same xs)

pub read_same : {X : Type 0} (r : Result (List X) Fault) → (r >>= λ xs. Ok (map (λ (x : X). x) xs)) ≡ r
read_same {X} (Ok xs) = ap (λ (ys : List X). Ok ys) (each_same xs)
read_same (Err e) = refl

-- a fault is that of the reading
pub refuses_read : {A B : Type 0} (e : Fault) (r : Result A Fault) (f : A → B) → Refuses e (r >>= λ x. Ok (f x)) → Refuses e r
refuses_read (Memory m) r f h = tt
refuses_read {A} {B} e (Ok x) f h = absurd (let clash : Ok (f x) ≡ Err e = h in cc)
refuses_read {A} {B} e (Err d) f h = let own : d ≡ e = cc in ap (λ (x : Fault). Err x) own

-- an answer where a value is due
pub due_value : {A : Type 0} (r : Result A Fault) (d : Result A Fault) (x : A) (P : A → Type 0) → Answers (λ y. y) r d → d ≡ Ok x → P x → MatchResult r P (λ e. IsMemory e)
due_value (Ok y) d x P a is h = let both : Ok x ≡ Ok y = sym is ∙ a in let same : x ≡ y = cc in subst P same h
due_value (Err e) d x P a is h = refused e d x a is
  where
    refused : {A : Type 0} (e : Fault) (d : Result A Fault) (x : A) → Refuses e d → d ≡ Ok x → IsMemory e
    refused (Memory m) d x r h = tt
    refused e d x r h = absurd (let clash : Err e ≡ Ok x = sym r ∙ h in cc)

-- ---- packets and their bytes

-- a packet at a place has the bytes of the place
pub span_placed : (bytes : List ℕ) (p : Packet) (w : PacketPlace) → IsPlaced bytes p w → IsSpanned bytes p (span_of w)
span_placed bytes p w is = record { name = is.name; size = is.size; text = is.text }

pub all_spanned : (bytes : List ℕ) (packets : List Packet) (places : List PacketPlace) → AllZip (IsPlaced bytes) packets places → AllZip (IsSpanned bytes) packets (map span_of places)
all_spanned bytes [] [] all = tt
all_spanned bytes [] (w ∷ places) all = absurd all
all_spanned bytes (p ∷ packets) [] all = absurd all
all_spanned bytes (p ∷ packets) (w ∷ places) all = (span_placed bytes p w all.0, all_spanned bytes packets places all.1)

-- ---- a tile

-- The packets of a tile are read, each with its bytes, one after another in its parts.
pub spans_laid : (bytes : List ℕ) (h : Headers) (t : ℕ) (packets : List Packet) → AreHeaders (length bytes) h → t < tile_count h.siz → AreTilePackets bytes h t packets
    → (spans : List PacketSpan) × (spans_at bytes h t ≡ Ok spans) × AllZip (IsSpanned bytes) packets spans × AreLaid spans (tile_in h.tiles t).data_places
spans_laid bytes h t packets are less tile =
    let all = packets_laid bytes h t packets are less tile in
    (map span_of all.0, ap (λ (r : Result (List PacketPlace) Fault). r >>= λ places. Ok (map span_of places)) all.1, all_spanned bytes packets all.0 all.2, all.3)
