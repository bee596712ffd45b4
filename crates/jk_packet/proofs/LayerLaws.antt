-- The bits of a header: an empty packet, or the sub-bands.
use Rattle.std.proofs.Common.{◌≡◌, ℕ, ◌-◌, ◌<◌, ◌≤◌, Bool, true, false, cond, List, [], ◌∷◌, ◌++◌, length, get_or, Option, Some, None, Ok, refl, sym, ap, ◌∙◌, subst, inl, inr, arith}
use Rattle.std.specs.Prelude.{◌⊎◌}
use Rattle.std.proofs.lemmas.Bool.{cases_lt}
use Rattle.std.proofs.lemmas.List.{map_push}
use Rattle.jk_math.specs.Steps.{bind_then}
use Rattle.jk_bits.specs.Reading.{Bits, ahead, bit_at}
use Rattle.jk_bits.specs.Giving.{GivesBits, advance, ahead_on, gives_bit, gives_join, bit_ahead}
use Rattle.jk_packet.specs.declared.shape.BandShape.{BandShape}
use Rattle.jk_packet.specs.Reading.{BandState, Walk, band_in, bands_at, packet_at, bits_at}
use Rattle.jk_packet.specs.PacketText.{PacketContribution, BandLayer, BandTrees, Layer, of_band, band_layers, Trees, band_shape, bands_bits, header_bits, IsLayer, parts_of}
use Rattle.jk_packet.specs.Standing.{BandStands}
use Rattle.jk_packet.proofs.Codes.{advance_twice}
use Rattle.jk_packet.proofs.TextLaws.{bits_none, bits_full}
use Rattle.jk_packet.proofs.BlockLaws.{BandReached}
use Rattle.jk_packet.proofs.BlocksLaws.{stands_layer, stands_packet, stands_empty, stands_still}
use Rattle.jk_packet.proofs.BandsLaws.{bands_only, BandsFound, bands_found}

-- all sub-bands stand after the layers
abbrev pub Stand : List BandShape → Trees → List Layer → List BandState → Type 0
Stand shapes t layers bands = (n : ℕ) → n < length shapes → BandStands (band_shape shapes n) (t n) (band_layers n layers) [] (band_in bands n)

-- for each sub-band some trees stand
abbrev pub SomeStand : List BandShape → List Layer → List BandState → Type 0
SomeStand shapes layers bands = (n : ℕ) → n < length shapes → (t : BandTrees) × BandStands (band_shape shapes n) t (band_layers n layers) [] (band_in bands n)

pub layers_push : (n : ℕ) (layers : List Layer) (layer : Layer) → band_layers n (layers ++ layer ∷ []) ≡ band_layers n layers ++ of_band n layer ∷ []
layers_push n layers layer = map_push (of_band n) layers layer

from_first : (ls : List (List (Option PacketContribution))) (n : ℕ) → get_or ls (n - 0) [] ≡ get_or ls n []
from_first ls n = ap (λ k. get_or ls k []) (let e : n - 0 ≡ n = omega arith in e)

-- a packet that isn't empty
full_stands : (shapes : List BandShape) (t : BandTrees) (layers : List Layer) (ls : List (List (Option PacketContribution))) (n : ℕ) (s : BandState) → BandStands (band_shape shapes n) t (band_layers n layers) (get_or ls (n - 0) []) s
    → BandStands (band_shape shapes n) t (band_layers n (layers ++ Some ls ∷ [])) [] s
full_stands shapes t layers ls n s st =
    subst (λ (l : List BandLayer). BandStands (band_shape shapes n) t l [] s) (sym (layers_push n layers (Some ls)))
    (stands_layer (band_shape shapes n) t (band_layers n layers) (get_or ls n []) s (subst (λ (cs : List (Option PacketContribution)). BandStands (band_shape shapes n) t (band_layers n layers) cs s) (from_first ls n) st))

full_packet : (shapes : List BandShape) (t : BandTrees) (layers : List Layer) (ls : List (List (Option PacketContribution))) (n : ℕ) (s : BandState) → BandStands (band_shape shapes n) t (band_layers n (layers ++ Some ls ∷ [])) [] s
    → BandStands (band_shape shapes n) t (band_layers n layers) (get_or ls (n - 0) []) s
full_packet shapes t layers ls n s st =
    subst (λ (cs : List (Option PacketContribution)). BandStands (band_shape shapes n) t (band_layers n layers) cs s) (sym (from_first ls n))
    (stands_packet (band_shape shapes n) t (band_layers n layers) (get_or ls n []) s (subst (λ (l : List BandLayer). BandStands (band_shape shapes n) t l [] s) (layers_push n layers (Some ls)) st))

-- What is told is read.
pub record BitsOnly (shapes : List BandShape) (t : Trees) (layers : List Layer) (layer : Layer) (bands : List BandState) (r : Bits) : Type 0 where
  pub after : Walk
  pub is : bits_at (length layers) bands r ≡ Ok after
  pub count : length after.bands ≡ length bands
  pub stands : Stand shapes t (layers ++ layer ∷ []) after.bands
  pub bits : after.bits ≡ advance r (length (header_bits shapes t layers layer))
  pub parts : after.parts ≡ parts_of layer

pub bits_only : (shapes : List BandShape) (t : Trees) (layers : List Layer) (layer : Layer) (bands : List BandState) (r : Bits) (rest : List Bool) → length bands ≡ length shapes → Stand shapes t layers bands
    → IsLayer shapes t layers layer → ahead r ≡ header_bits shapes t layers layer ++ rest → BitsOnly shapes t layers layer bands r
bits_only shapes t layers None bands r rest long st is h = record {
  after = record { bands = bands; bits = advance r 1; parts = [] };
  is = bits_none (length layers) bands r (false, advance r 1) (bit_ahead r false rest h) refl;
  count = refl;
  stands = λ n less. subst (λ (l : List BandLayer). BandStands (band_shape shapes n) (t n) l [] (band_in bands n)) (sym (layers_push n layers None)) (stands_empty (band_shape shapes n) (t n) (band_layers n layers) (band_in bands n) (st n less));
  bits = refl;
  parts = refl;
}
bits_only shapes t layers (Some ls) bands r rest long st is h =
    let later = bands_bits shapes t layers 0 ls in
    let r1 = advance r 1 in
    let w : Walk = record { bands = bands; bits = r1; parts = [] } in
    let o = bands_only shapes t layers 0 ls w rest (let e = is.0 in omega (arith, e)) long (λ n from less. st n less) is.1 (ahead_on r (true ∷ []) (later ++ rest) h) in
    record {
      after = o.after;
      is =
          bits_full (length layers) bands r (true, r1) (bit_ahead r true (later ++ rest) h) refl
          ∙ ap (λ k. bands_at (length layers) k 0 w) (long ∙ sym is.0)
          ∙ o.is;
      count = o.count;
      stands = λ n less. full_stands shapes (t n) layers ls n (band_in o.after.bands n) (o.stands n (omega arith) less);
      bits = o.bits ∙ advance_twice r (true ∷ []) later;
      parts = o.parts;
    }

-- What is read is told.
pub record BitsFound (shapes : List BandShape) (layers : List Layer) (bands : List BandState) (r : Bits) (v : Walk) : Type 0 where
  pub layer : Layer
  pub count : length v.bands ≡ length bands
  pub some : SomeStand shapes (layers ++ layer ∷ []) v.bands
  pub parts : v.parts ≡ parts_of layer
  pub each : (t : Trees) → Stand shapes t (layers ++ layer ∷ []) v.bands → Stand shapes t layers bands × GivesBits r (header_bits shapes t layers layer) v.bits × IsLayer shapes t layers layer

-- from trees that stand
reached_of : (b : BandShape) (layers : List BandLayer) (s : BandState) → (t : BandTrees) × BandStands b t layers [] s → BandReached b layers [] s
reached_of b layers s x = record { holds = x.1.holds; inclusion = (x.0.inclusion, x.1.inclusion); zeros = (x.0.zeros, x.1.zeros) }

stands_of : (b : BandShape) (layers : List BandLayer) (front : List (Option PacketContribution)) (s : BandState) → BandReached b layers front s → (t : BandTrees) × BandStands b t layers front s
stands_of b layers front s x = (record { inclusion = x.inclusion.0; zeros = x.zeros.0 }, record { holds = x.holds; inclusion = x.inclusion.1; zeros = x.zeros.1 })

empty_found : (shapes : List BandShape) (layers : List Layer) (bands : List BandState) (r : Bits) (on : Bits) → SomeStand shapes layers bands → GivesBits r (false ∷ []) on → BitsFound shapes layers bands r (record { bands = bands; bits = on; parts = [] })
empty_found shapes layers bands r on some g = record {
  layer = None;
  count = refl;
  some = λ n less.
      let x = some n less in
      (x.0, subst (λ (l : List BandLayer). BandStands (band_shape shapes n) x.0 l [] (band_in bands n)) (sym (layers_push n layers None)) (stands_empty (band_shape shapes n) x.0 (band_layers n layers) (band_in bands n) x.1));
  parts = refl;
  each = λ t st. (
    λ n less. stands_still (band_shape shapes n) (t n) (band_layers n layers) (band_in bands n) (subst (λ (l : List BandLayer). BandStands (band_shape shapes n) (t n) l [] (band_in bands n)) (layers_push n layers None) (st n less)),
    g,
    tt,
  );
}

full_found : (shapes : List BandShape) (layers : List Layer) (bands : List BandState) (r on : Bits) (v : Walk) → length bands ≡ length shapes → GivesBits r (true ∷ []) on
    → BandsFound shapes layers 0 (length bands) (record { bands = bands; bits = on; parts = [] }) v → BitsFound shapes layers bands r v
full_found shapes layers bands r on v long g f = record {
  layer = Some f.ls;
  count = f.count;
  some = λ n less.
      let x = stands_of (band_shape shapes n) (band_layers n layers) (get_or f.ls (n - 0) []) (band_in v.bands n) (f.reached n (omega arith) less) in
      (x.0, full_stands shapes x.0 layers f.ls n (band_in v.bands n) x.1);
  parts = f.parts;
  each = λ t st.
      let e = f.each t (λ n from less. full_packet shapes (t n) layers f.ls n (band_in v.bands n) (st n less)) in
      (λ n less. e.0 n (omega arith) less, gives_join r on v.bits (true ∷ []) (bands_bits shapes t layers 0 f.ls) g e.1, (f.all ∙ long, e.2));
}

found_by : (shapes : List BandShape) (layers : List Layer) (bands : List BandState) (r : Bits) (v : Walk) → length bands ≡ length shapes → SomeStand shapes layers bands → (full : Bool) (on : Bits) → GivesBits r (full ∷ []) on
    → cond full (packet_at (length layers) (record { bands = bands; bits = on; parts = [] })) (Ok (record { bands = bands; bits = on; parts = [] })) ≡ Ok v → BitsFound shapes layers bands r v
found_by shapes layers bands r v long some true on g h =
    full_found shapes layers bands r on v long g
    (bands_found shapes layers 0 (length bands) (record { bands = bands; bits = on; parts = [] }) v (omega (arith, long)) long (λ n from less. reached_of (band_shape shapes n) (band_layers n layers) (band_in bands n) (some n less)) h)
found_by shapes layers bands r v long some false on g h =
    let w : Walk = record { bands = bands; bits = on; parts = [] } in
    let is : w ≡ v = cc in
    subst (λ (x : Walk). BitsFound shapes layers bands r x) is (empty_found shapes layers bands r on some g)

pub bits_found : (shapes : List BandShape) (layers : List Layer) (bands : List BandState) (r : Bits) (v : Walk) → length bands ≡ length shapes → SomeStand shapes layers bands → bits_at (length layers) bands r ≡ Ok v → BitsFound shapes layers bands r v
unfolding bits_at
bits_found shapes layers bands r v long some h =
    bind_then (bit_at r) (λ b. cond b.0 (packet_at (length layers) (record { bands = bands; bits = b.1; parts = [] })) (Ok (record { bands = bands; bits = b.1; parts = [] }))) v h
    (λ b e k. found_by shapes layers bands r v long some b.0 b.1 (gives_bit r b e) k)

-- Trees for all sub-bands, from trees for each.
pick : (P : ℕ → BandTrees → Type 0) (count n : ℕ) → (n < count → (t : BandTrees) × P n t) → (n < count) ⊎ (count ≤ n) → BandTrees
pick P count n f (inl less) = (f less).0
pick P count n f (inr more) = record { inclusion = λ i x y. 0; zeros = λ i x y. 0 }

picked : (P : ℕ → BandTrees → Type 0) (count n : ℕ) (f : n < count → (t : BandTrees) × P n t) → n < count → (c : (n < count) ⊎ (count ≤ n)) → P n (pick P count n f c)
unfolding pick
picked P count n f h (inl less) = (f less).1
picked P count n f h (inr more) = absurd (omega (arith, h, more))

pub all_trees : (P : ℕ → BandTrees → Type 0) (count : ℕ) → ((n : ℕ) → n < count → (t : BandTrees) × P n t) → (trees : Trees) × ((n : ℕ) → n < count → P n (trees n))
all_trees P count f = (λ n. pick P count n (f n) (cases_lt n count), λ n h. picked P count n (f n) h (cases_lt n count))
