-- The headers of a precinct, layer by layer.
use Rattle.std.proofs.Common.{◌≡◌, ℕ, ◌+◌, ◌*◌, ◌<◌, ◌≤◌, Bool, true, false, cond, List, [], ◌∷◌, ◌++◌, length, length-append, get_or, take, drop, Option, Result, Some, None, Ok, Err, refl, sym, ap, ◌∙◌, subst, inl, inr, arith}
use Rattle.std.specs.Prelude.{IfOk, MatchResult, ◌==◌}
use Rattle.std.proofs.lemmas.Bool.{cases_lt}
use Rattle.std.proofs.lemmas.List.{length-map, length-replicate, length_push, get_or-map, get_or-replicate, get_or_append_left, get_or_push, take-append-le, take_at, append_cancel_right}
use Rattle.jk_math.specs.Answer.{◌>>=◌, Refuses, ReadsBy}
use Rattle.jk_math.specs.Steps.{bind_then}
use Rattle.jk_math.specs.declared.fault.Fault.{Fault}
use Rattle.jk_math.specs.declared.fault.Fault.TheVariants.{Memory}
use Rattle.jk_math.specs.Memory.{IsMemory}
use Rattle.jk_bits.specs.Stuffing.{Packs}
use Rattle.jk_bits.specs.Reading.{Bits, ahead}
use Rattle.jk_bits.specs.Giving.{GivesBits}
use Rattle.jk_tree.specs.TagTree.{Shape, IsTree, top}
use Rattle.jk_tree.specs.Asking.{unless_failed}
use Rattle.jk_tree.proofs.Laws.{blank_open, blank_tree_stands}
use Rattle.jk_packet.specs.declared.shape.BandShape.{BandShape}
use Rattle.jk_packet.specs.declared.header.Header.{Header}
use Rattle.jk_packet.specs.declared.header.BlockContribution.{BlockContribution}
use Rattle.jk_packet.specs.Reading.{BandState, Walk, HeaderText, text_of, PrecinctState, band_in, no_band, blank_block, blank_band, blank_bands, blank_precinct, bits_of, text_at, header_at}
use Rattle.jk_packet.specs.PacketText.{contributions, queries_in, queries_of, BandTrees, Layer, Trees, band_layers, band_shape, leaves, header_bits, IsLayer, eph_text, IsHeaderText, parts_of}
use Rattle.jk_packet.specs.Standing.{BandStands, AreTrees, PrecinctStands, TellsLayers, PrecinctReached, ReadsLayer, IsRead}
use Rattle.jk_packet.proofs.TextLaws.{header_goes, header_ok}
use Rattle.jk_packet.proofs.LayerLaws.{BitsOnly, bits_only, bits_found, all_trees}
use Rattle.jk_packet.proofs.HeaderLaws.{header_only, header_found}

pub some_bit : (shapes : List BandShape) (t : Trees) (layers : List Layer) (layer : Layer) → 0 < length (header_bits shapes t layers layer)
some_bit shapes t layers None = omega arith
some_bit shapes t layers (Some ls) = omega arith

-- Bits are packed in a byte at least.
pub some_packed : (bits : List Bool) (header : List ℕ) → 0 < length bits → Packs false bits header → 0 < length header
unfolding Packs
some_packed bits [] some p = let none = ap length p.0 in omega (arith, some, none)
some_packed bits (b ∷ header) some p = omega arith

-- A header takes a byte.
pub header_some : (sop eph : Bool) (shapes : List BandShape) (t : Trees) (layers : List Layer) (layer : Layer) (text : List ℕ) → IsHeaderText sop eph (header_bits shapes t layers layer) text → 0 < length text
header_some sop eph shapes t layers layer text is =
    let byte = some_packed (header_bits shapes t layers layer) is.header (some_bit shapes t layers layer) is.packs in
    let joins = ap length is.joins in
    let outer = length-append is.sop_text (is.header ++ eph_text eph) in
    let inner = length-append is.header (eph_text eph) in
    omega (arith, byte, joins, outer, inner)

-- A header leaves the markers, and is one layer more.
pub record Keeps (old new : PrecinctState) : Type 0 where
  pub sop : new.sop ≡ old.sop
  pub eph : new.eph ≡ old.eph
  pub layers : new.layers ≡ old.layers + 1
  pub sound : new.failed ≡ old.failed

keeps_by : (n : ℕ) (bytes : List ℕ) (s : PrecinctState) (f : Option Fault) (o : HeaderText × PrecinctState)
    → unless_failed f (text_at s.sop s.eph n bytes s.bands >>= λ p. Ok (p.0, record s { bands = p.1; layers = s.layers + 1 })) ≡ Ok o → Keeps s o.1
keeps_by n bytes s (Some e) o h = absurd (cc)
keeps_by n bytes s None o h =
    bind_then (text_at s.sop s.eph n bytes s.bands) (λ p. Ok (p.0, record s { bands = p.1; layers = s.layers + 1 })) o h (λ p e k.
    let x : HeaderText × PrecinctState = (p.0, record s { bands = p.1; layers = s.layers + 1 }) in
    let is : x ≡ o = cc in
    subst (λ (q : HeaderText × PrecinctState). Keeps s q.1) is record { sop = refl; eph = refl; layers = refl; sound = refl })

pub header_keeps : (n : ℕ) (bytes : List ℕ) (s : PrecinctState) (o : HeaderText × PrecinctState) → header_at n bytes s ≡ Ok o → Keeps s o.1
unfolding header_at
header_keeps n bytes s o h = keeps_by n bytes s s.failed o h

-- A header is in the bytes.
within_by : (n : ℕ) (bytes : List ℕ) (s : PrecinctState) (f : Option Fault) (o : HeaderText × PrecinctState)
    → unless_failed f (text_at s.sop s.eph n bytes s.bands >>= λ p. Ok (p.0, record s { bands = p.1; layers = s.layers + 1 })) ≡ Ok o → o.0.length ≤ length bytes
within_by n bytes s (Some e) o h = absurd (cc)
within_by n bytes s None o h =
    bind_then (text_at s.sop s.eph n bytes s.bands) (λ p. Ok (p.0, record s { bands = p.1; layers = s.layers + 1 })) o h (λ p e k.
    let x : HeaderText × PrecinctState = (p.0, record s { bands = p.1; layers = s.layers + 1 }) in
    let is : x ≡ o = cc in
    subst (λ (q : HeaderText × PrecinctState). q.0.length ≤ length bytes) is (header_found s.sop s.eph n bytes s.bands p e).within)

pub header_within : (n : ℕ) (bytes : List ℕ) (s : PrecinctState) (o : HeaderText × PrecinctState) → header_at n bytes s ≡ Ok o → o.0.length ≤ length bytes
unfolding header_at
header_within n bytes s o h = within_by n bytes s s.failed o h

-- the trees of a precinct that stands
pub are_trees : (shapes : List BandShape) (t : Trees) (layers : List Layer) (s : PrecinctState) → PrecinctStands shapes t layers s → AreTrees shapes t
are_trees shapes t layers s st = λ n less. let b = st.bands n less in (b.inclusion.tree, b.zeros.tree)

-- what a precinct is that has read layers
pub record Read (layers : List Layer) (s : PrecinctState) : Type 0 where
  pub count : s.layers ≡ length layers
  pub sound : s.failed ≡ None

pub reached_read : (shapes : List BandShape) (layers : List Layer) (bits : List (List Bool)) (s : PrecinctState) → PrecinctReached shapes layers bits s → Read layers s
reached_read shapes layers bits s reached = let st = reached.stand reached.some.0 reached.some.1 reached.some.2 in record { count = st.read; sound = st.sound }

-- A header that is told is read.
pub record StandsOn (shapes : List BandShape) (t : Trees) (layers : List Layer) (layer : Layer) (text bytes : List ℕ) (s : PrecinctState) : Type 0 where
  pub after : PrecinctState
  pub is : header_at (length layers) bytes s ≡ Ok (record { length = length text; parts = parts_of layer }, after)
  pub stands : PrecinctStands shapes t (layers ++ layer ∷ []) after

pub precinct_only : (shapes : List BandShape) (t : Trees) (layers : List Layer) (layer : Layer) (text rest bytes : List ℕ) (s : PrecinctState) → PrecinctStands shapes t layers s → IsLayer shapes t layers layer
    → IsHeaderText s.sop s.eph (header_bits shapes t layers layer) text → bytes ≡ text ++ rest → StandsOn shapes t layers layer text bytes s
precinct_only shapes t layers layer text rest bytes s st is text_is e =
    let read : (r : Bits) (more : List Bool) → ahead r ≡ header_bits shapes t layers layer ++ more → BitsOnly shapes t layers layer s.bands r = λ r more h. bits_only shapes t layers layer s.bands r more st.count st.bands is h in
    let x = header_only s.sop s.eph (length layers) (header_bits shapes t layers layer) text rest bytes s.bands text_is (some_bit shapes t layers layer) e
    (λ r more h. ((read r more h).after, (read r more h).is, (read r more h).bits)) in
    let o = read x.0 x.1 x.2 in
    let after : PrecinctState = record s { bands = o.after.bands; layers = s.layers + 1 } in
    record {
      after = after;
      is =
          header_ok (length layers) bytes s (record { length = length text; parts = o.after.parts }, o.after.bands) st.sound x.3
          ∙ ap (λ (ps : List BlockContribution). Ok (record { length = length text; parts = ps }, after)) o.parts;
      stands = record {
        count = o.count ∙ st.count;
        read = ap (λ n. n + 1) st.read ∙ sym (length_push layers layer);
        sound = st.sound;
        bands = o.stands;
      };
    }

gives_same : (a c : Bits) (xs ys : List Bool) → GivesBits a xs c → GivesBits a ys c → xs ≡ ys
gives_same a c xs ys g h = append_cancel_right xs ys (ahead c) (sym g.first ∙ h.first)

pub tells_push : (shapes : List BandShape) (t : Trees) (layers : List Layer) (bits : List (List Bool)) (layer : Layer) (b : List Bool) → TellsLayers shapes t layers bits → b ≡ header_bits shapes t layers layer → IsLayer shapes t layers layer
    → TellsLayers shapes t (layers ++ layer ∷ []) (bits ++ b ∷ [])
tells_push shapes t layers bits layer b tells same is = (
  length_push bits b ∙ ap (λ n. n + 1) tells.0 ∙ sym (length_push layers layer),
  λ i less. elim (cases_lt i (length layers)) [
    | inl low ↦ (let old = tells.1 i low in
        let front : take i (layers ++ layer ∷ []) ≡ take i layers = take-append-le i layers (layer ∷ []) (omega (arith, low)) in
        let own : get_or (layers ++ layer ∷ []) i None ≡ get_or layers i None = get_or_append_left layers (layer ∷ []) None i low in (
          get_or_append_left bits (b ∷ []) [] i (let c = tells.0 in omega (arith, low, c))
              ∙ old.0
              ∙ ap (λ (l : List Layer). header_bits shapes t l (get_or layers i None)) (sym front)
              ∙ ap (λ (x : Layer). header_bits shapes t (take i (layers ++ layer ∷ [])) x) (sym own),
          subst (λ (x : Layer). IsLayer shapes t (take i (layers ++ layer ∷ [])) x) (sym own) (subst (λ (l : List Layer). IsLayer shapes t l (get_or layers i None)) (sym front) old.1),
        ))
    | inr high ↦ (let at : i ≡ length layers = (let l = length_push layers layer in omega (arith, less, high, l)) in
        let front : take i (layers ++ layer ∷ []) ≡ layers = take_at layers (layer ∷ []) i (sym at) in
        let own : get_or (layers ++ layer ∷ []) i None ≡ layer = get_or_push layers layer None i (sym at) in (
          get_or_push bits b [] i (tells.0 ∙ sym at)
              ∙ same
              ∙ ap (λ (l : List Layer). header_bits shapes t l layer) (sym front)
              ∙ ap (λ (x : Layer). header_bits shapes t (take i (layers ++ layer ∷ [])) x) (sym own),
          subst (λ (x : Layer). IsLayer shapes t (take i (layers ++ layer ∷ [])) x) (sym own) (subst (λ (l : List Layer). IsLayer shapes t l layer) (sym front) is),
        ))
  ],
)

-- What tells one layer more tells those before it.
pub record TellsLast (shapes : List BandShape) (t : Trees) (layers : List Layer) (bits : List (List Bool)) (layer : Layer) (b : List Bool) : Type 0 where
  pub before : TellsLayers shapes t layers bits
  pub own : b ≡ header_bits shapes t layers layer
  pub last : IsLayer shapes t layers layer

pub tells_last : (shapes : List BandShape) (t : Trees) (layers : List Layer) (bits : List (List Bool)) (layer : Layer) (b : List Bool) → TellsLayers shapes t (layers ++ layer ∷ []) (bits ++ b ∷ []) → TellsLast shapes t layers bits layer b
tells_last shapes t layers bits layer b tells =
    let long : length bits ≡ length layers = (let e = tells.0 in let l = length_push layers layer in let m = length_push bits b in omega (arith, e, l, m)) in
    let n = length layers in
    let at_end = tells.1 n (let l = length_push layers layer in omega (arith, l)) in
    let front : take n (layers ++ layer ∷ []) ≡ layers = take_at layers (layer ∷ []) n refl in
    let here : get_or (layers ++ layer ∷ []) n None ≡ layer = get_or_push layers layer None n refl in
    let bits_own : get_or (bits ++ b ∷ []) n [] ≡ b = get_or_push bits b [] n long in
    record {
      before = (
        long,
        λ i less.
            let at = tells.1 i (let l = length_push layers layer in omega (arith, less, l)) in
            let first : take i (layers ++ layer ∷ []) ≡ take i layers = take-append-le i layers (layer ∷ []) (omega (arith, less)) in
            let here : get_or (layers ++ layer ∷ []) i None ≡ get_or layers i None = get_or_append_left layers (layer ∷ []) None i less in (
              sym (get_or_append_left bits (b ∷ []) [] i (omega (arith, less, long)))
                  ∙ at.0
                  ∙ ap (λ (l : List Layer). header_bits shapes t l (get_or (layers ++ layer ∷ []) i None)) first
                  ∙ ap (λ (x : Layer). header_bits shapes t (take i layers) x) here,
              subst (λ (x : Layer). IsLayer shapes t (take i layers) x) here (subst (λ (l : List Layer). IsLayer shapes t l (get_or (layers ++ layer ∷ []) i None)) first at.1),
            ),
      );
      own = sym bits_own ∙ at_end.0 ∙ ap (λ (l : List Layer). header_bits shapes t l (get_or (layers ++ layer ∷ []) n None)) front ∙ ap (λ (x : Layer). header_bits shapes t layers x) here;
      last = subst (λ (x : Layer). IsLayer shapes t layers x) here (subst (λ (l : List Layer). IsLayer shapes t l (get_or (layers ++ layer ∷ []) n None)) front at_end.1);
    }

-- A header that was read is told.
text_found : (shapes : List BandShape) (layers : List Layer) (bits : List (List Bool)) (s : PrecinctState) (bytes : List ℕ) (o : HeaderText × List BandState) → PrecinctReached shapes layers bits s
    → text_at s.sop s.eph (length layers) bytes s.bands ≡ Ok o → ReadsLayer shapes layers bits s (record s { bands = o.1; layers = s.layers + 1 }) bytes o.0
text_found shapes layers bits s bytes o reached h =
    let t0 = reached.some.0 in
    let st0 = reached.stand t0 reached.some.1 reached.some.2 in
    let f = header_found s.sop s.eph (length layers) bytes s.bands o h in
    let r = bits_of (drop f.place bytes) in
    let g = bits_found shapes layers s.bands r f.walk st0.count (λ n less. (t0 n, st0.bands n less)) f.read in
    let new : PrecinctState = record s { bands = o.1; layers = s.layers + 1 } in
    let t1 = all_trees (λ n t. BandStands (band_shape shapes n) t (band_layers n (layers ++ g.layer ∷ [])) [] (band_in f.walk.bands n)) (length shapes) g.some in
    let e1 = g.each t1.0 t1.1 in
    let told1 = reached.told t1.0 record { count = st0.count; read = st0.read; sound = st0.sound; bands = e1.0 } in
    let b = header_bits shapes t1.0 layers g.layer in
    record {
      layer = g.layer;
      header_bits = b;
      within = f.within;
      text = f.text b e1.1;
      parts = f.parts_are ∙ g.parts;
      reached = record {
        some = (t1.0, told1.0, tells_push shapes t1.0 layers bits g.layer b told1.1 refl e1.2);
        stand = λ t are tells.
            let l = tells_last shapes t layers bits g.layer b tells in
            let st = reached.stand t are l.before in
            let first : ahead r ≡ header_bits shapes t layers g.layer ++ ahead f.walk.bits = e1.1.first ∙ ap (λ (bs : List Bool). bs ++ ahead f.walk.bits) l.own in
            let again = bits_only shapes t layers g.layer s.bands r (ahead f.walk.bits) st.count st.bands l.last first in
            let both = sym again.is ∙ f.read in
            let same : again.after ≡ f.walk = cc in
            let bands_are : again.after.bands ≡ o.1 = ap (λ (w : Walk). w.bands) same ∙ sym f.bands_are in
            record {
              count = ap length (sym bands_are) ∙ again.count ∙ st.count;
              read = ap (λ n. n + 1) st.read ∙ sym (length_push layers g.layer);
              sound = st.sound;
              bands = λ n less. subst (λ (bs : List BandState). BandStands (band_shape shapes n) (t n) (band_layers n (layers ++ g.layer ∷ [])) [] (band_in bs n)) bands_are (again.stands n less);
            };
        told = λ t st.
            let e = g.each t (λ n less. subst (λ (bs : List BandState). BandStands (band_shape shapes n) (t n) (band_layers n (layers ++ g.layer ∷ [])) [] (band_in bs n)) f.bands_are (st.bands n less)) in
            let old = reached.told t record { count = st0.count; read = st0.read; sound = st0.sound; bands = e.0 } in
            (old.0, tells_push shapes t layers bits g.layer b old.1 (gives_same r f.walk.bits b (header_bits shapes t layers g.layer) e1.1 e.1) e.2);
      };
    }

pub precinct_found : (shapes : List BandShape) (layers : List Layer) (bits : List (List Bool)) (s : PrecinctState) (bytes : List ℕ) (o : HeaderText × PrecinctState) → PrecinctReached shapes layers bits s
    → header_at (length layers) bytes s ≡ Ok o → ReadsLayer shapes layers bits s o.1 bytes o.0
precinct_found shapes layers bits s bytes o reached h =
    bind_then (text_at s.sop s.eph (length layers) bytes s.bands) (λ p. Ok (p.0, record s { bands = p.1; layers = s.layers + 1 })) o (sym (header_goes (length layers) bytes s (reached_read shapes layers bits s reached).sound) ∙ h) (λ p e k.
    let x : HeaderText × PrecinctState = (p.0, record s { bands = p.1; layers = s.layers + 1 }) in
    let is : x ≡ o = cc in
    subst (λ (q : HeaderText × PrecinctState). ReadsLayer shapes layers bits s q.1 bytes q.0) is (text_found shapes layers bits s bytes p reached e))

-- what a call answers, where a value is due
refused : {A : Type 0} (e : Fault) (due : Result A Fault) (x : A) → Refuses e due → due ≡ Ok x → IsMemory e
refused (Memory m) due x r h = tt
refused e due x r h = absurd (let clash : Err e ≡ Ok x = sym r ∙ h in cc)

pub answers_only : (shapes : List BandShape) (t : Trees) (layers : List Layer) (layer : Layer) (text rest bytes : List ℕ) (n : ℕ) (old new : PrecinctState) (result : Result Header Fault) → n ≡ old.layers
    → ReadsBy text_of (header_at n bytes) old new result → PrecinctStands shapes t layers old → IsLayer shapes t layers layer
    → IsHeaderText old.sop old.eph (header_bits shapes t layers layer) text → bytes ≡ text ++ rest → MatchResult result (λ h. IsRead shapes t layers layer text new (text_of h)) (λ e. IsMemory e)
answers_only shapes t layers layer text rest bytes n old new (Ok h) next exact st is text_is e =
    let x = precinct_only shapes t layers layer text rest bytes old st is text_is e in
    let both : Ok (record { length = length text; parts = parts_of layer }, x.after) ≡ Ok (text_of h, new) = sym x.is ∙ ap (λ k. header_at k bytes old) (sym (next ∙ st.read)) ∙ exact in
    let same : (record { length = length text; parts = parts_of layer }, x.after) ≡ (text_of h, new) = cc in
    record {
      size = ap (λ (p : HeaderText × PrecinctState). p.0.length) (sym same);
      parts = ap (λ (p : HeaderText × PrecinctState). p.0.parts) (sym same);
      stands = subst (λ (s : PrecinctState). PrecinctStands shapes t (layers ++ layer ∷ []) s) (ap (λ (p : HeaderText × PrecinctState). p.1) same) x.stands;
    }
answers_only shapes t layers layer text rest bytes n old new (Err d) next exact st is text_is e =
    let x = precinct_only shapes t layers layer text rest bytes old st is text_is e in
    refused d (header_at n bytes old) (record { length = length text; parts = parts_of layer }, x.after) exact (ap (λ k. header_at k bytes old) (next ∙ st.read) ∙ x.is)

pub answers_found : (shapes : List BandShape) (layers : List Layer) (bits : List (List Bool)) (bytes : List ℕ) (n : ℕ) (old new : PrecinctState) (result : Result Header Fault) → n ≡ old.layers
    → ReadsBy text_of (header_at n bytes) old new result → PrecinctReached shapes layers bits old → IfOk result (λ h. ReadsLayer shapes layers bits old new bytes (text_of h))
answers_found shapes layers bits bytes n old new (Ok h) next exact reached =
    precinct_found shapes layers bits old bytes (text_of h, new) reached (ap (λ k. header_at k bytes old) (sym (next ∙ (reached_read shapes layers bits old reached).count)) ∙ exact)
answers_found shapes layers bits bytes n old new (Err d) next exact reached = tt

-- A precinct of which nothing was read.
blank_stands : (b : BandShape) (t : BandTrees) → IsTree (leaves b) t.inclusion → IsTree (leaves b) t.zeros → BandStands b t [] [] (blank_band b)
unfolding blank_band contributions queries_of queries_in
blank_stands b t inclusion zeros = record {
  holds = record {
    shape = refl;
    planes = refl;
    long = length-replicate (b.across * b.down) blank_block;
    blocks = λ j less. get_or-replicate (b.across * b.down) j blank_block blank_block less;
    inclusion = blank_open (leaves b);
    zeros = blank_open (leaves b);
  };
  inclusion = blank_tree_stands (leaves b) t.inclusion inclusion;
  zeros = blank_tree_stands (leaves b) t.zeros zeros;
}

pub fresh_stands : (shapes : List BandShape) (sop eph : Bool) (t : Trees) → AreTrees shapes t → PrecinctStands shapes t [] (blank_precinct shapes sop eph)
unfolding blank_bands
fresh_stands shapes sop eph t trees = record {
  count = length-map shapes blank_band;
  read = refl;
  sound = refl;
  bands = λ n less.
      subst (λ (s : BandState). BandStands (band_shape shapes n) (t n) [] [] s) (sym (get_or-map blank_band shapes n record { across = 0; down = 0; planes = 0 } no_band less))
      (blank_stands (band_shape shapes n) (t n) (trees n less).0 (trees n less).1);
}

no_values : (s : Shape) → IsTree s (λ i x y. 0)
no_values s i x y n = by_level (i == top s)
  where
    by_level : (b : Bool) → cond b 0 0 ≤ 0
    by_level true = omega arith
    by_level false = omega arith

pub fresh_reached : (shapes : List BandShape) (sop eph : Bool) → PrecinctReached shapes [] [] (blank_precinct shapes sop eph)
fresh_reached shapes sop eph =
    let t : Trees = λ n. record { inclusion = λ i x y. 0; zeros = λ i x y. 0 } in
    record {
      some = (t, λ n less. (no_values (leaves (band_shape shapes n)), no_values (leaves (band_shape shapes n))), (refl, λ i less. absurd (omega (arith, less))));
      stand = λ t are tells. fresh_stands shapes sop eph t are;
      told = λ t st. (are_trees shapes t [] (blank_precinct shapes sop eph) st, (refl, λ i less. absurd (omega (arith, less))));
    }
