-- The sub-bands of a packet that isn't empty, one after another.
use Rattle.std.proofs.Common.{◌≡◌, ℕ, zero, suc, ◌+◌, ◌-◌, ◌*◌, ◌<◌, ◌≤◌, Bool, List, [], ◌∷◌, ◌++◌, length, get_or, set, Option, Ok, refl, sym, ap, ◌∙◌, subst, inl, inr, arith, append_assoc}
use Rattle.std.proofs.lemmas.Bool.{cases_eq}
use Rattle.std.proofs.lemmas.List.{append-nil, length-map, length-set, get_or-set_same, get_or-set_other}
use Rattle.jk_math.specs.Steps.{bind_then}
use Rattle.jk_bits.specs.Reading.{Bits, ahead}
use Rattle.jk_tree.specs.TagTree.{Shape}
use Rattle.jk_bits.specs.Giving.{GivesBits, advance, ahead_on, gives_none, gives_join}
use Rattle.jk_packet.specs.declared.shape.BandShape.{BandShape}
use Rattle.jk_packet.specs.declared.header.BlockContribution.{BlockContribution}
use Rattle.jk_packet.specs.Reading.{BandState, BandWalk, Walk, band_in, no_band, blocks_at, band_at, bands_at}
use Rattle.jk_packet.specs.PacketText.{PacketContribution, Layer, of_band, band_layers, Trees, band_shape, leaves, bands_bits, ArePacketBands, band_parts, bands_parts}
use Rattle.jk_packet.specs.Standing.{BandStands}
use Rattle.jk_packet.proofs.Codes.{advance_twice}
use Rattle.jk_packet.proofs.BandLaws.{bands_none, bands_next}
use Rattle.jk_packet.proofs.BlockLaws.{BandReached}
use Rattle.jk_packet.proofs.BlocksLaws.{band_from, band_begins, advance_none, blocks_only, BlocksFound, blocks_found}

bits_end : (shapes : List BandShape) (t : Trees) (layers : List Layer) (number : ℕ) → bands_bits shapes t layers number [] ≡ []
unfolding bands_bits
bits_end shapes t layers number = refl

bits_more : (shapes : List BandShape) (t : Trees) (layers : List Layer) (number : ℕ) (cs : List (Option PacketContribution)) (ls : List (List (Option PacketContribution)))
    → bands_bits shapes t layers number (cs ∷ ls) ≡ band_from (leaves (band_shape shapes number)) (t number) (band_layers number layers) [] cs ++ bands_bits shapes t layers (number + 1) ls
unfolding bands_bits
bits_more shapes t layers number cs ls =
    ap (λ (bits : List Bool). bits ++ bands_bits shapes t layers (number + 1) ls) (band_begins (leaves (band_shape shapes number)) (t number) (band_layers number layers) cs)

parts_end : (number : ℕ) → bands_parts number [] ≡ []
unfolding bands_parts
parts_end number = refl

parts_more : (number : ℕ) (cs : List (Option PacketContribution)) (ls : List (List (Option PacketContribution))) → bands_parts number (cs ∷ ls) ≡ band_parts number 0 cs ++ bands_parts (number + 1) ls
unfolding bands_parts
parts_more number cs ls = refl

-- the list of a sub-band, that in hand or one behind it
own_list : (cs : List (Option PacketContribution)) (ls : List (List (Option PacketContribution))) (number : ℕ) → get_or (cs ∷ ls) (number - number) [] ≡ cs
own_list cs ls number = ap (λ k. get_or (cs ∷ ls) k []) (let e : number - number ≡ 0 = omega arith in e)

next_list : (cs : List (Option PacketContribution)) (ls : List (List (Option PacketContribution))) (number n : ℕ) → number + 1 ≤ n → get_or (cs ∷ ls) (n - number) [] ≡ get_or ls (n - (number + 1)) []
next_list cs ls number n more = ap (λ k. get_or (cs ∷ ls) k []) (let e : n - number ≡ suc (n - (number + 1)) = omega (arith, more) in e)

-- reading a whole sub-band
band_whole : (b : BandShape) (layers : List Layer) (number count : ℕ) (w : BandWalk) → w.band.shape ≡ leaves b → count ≡ b.across * b.down
    → band_at number (length layers) w ≡ blocks_at number (length (band_layers number layers)) count 0 w
band_whole b layers number count w shape all =
    ap (λ (s : Shape). blocks_at number (length layers) (s.width * s.height) 0 w) shape
    ∙ ap (λ k. blocks_at number (length layers) k 0 w) (sym all)
    ∙ ap (λ l. blocks_at number l count 0 w) (sym (length-map layers (of_band number)))

abbrev AllStand : List BandShape → Trees → List Layer → ℕ → List (List (Option PacketContribution)) → List BandState → Type 0
AllStand shapes t layers number ls bands = (n : ℕ) → number ≤ n → n < length shapes → BandStands (band_shape shapes n) (t n) (band_layers n layers) (get_or ls (n - number) []) (band_in bands n)

abbrev NoneStand : List BandShape → Trees → List Layer → ℕ → List BandState → Type 0
NoneStand shapes t layers number bands = (n : ℕ) → number ≤ n → n < length shapes → BandStands (band_shape shapes n) (t n) (band_layers n layers) [] (band_in bands n)

-- What is told of sub-bands is read.
pub record BandsOnly (shapes : List BandShape) (t : Trees) (layers : List Layer) (number : ℕ) (ls : List (List (Option PacketContribution))) (w : Walk) : Type 0 where
  pub after : Walk
  pub is : bands_at (length layers) (length ls) number w ≡ Ok after
  pub count : length after.bands ≡ length w.bands
  pub earlier : (n : ℕ) → n < number → band_in after.bands n ≡ band_in w.bands n
  pub stands : AllStand shapes t layers number ls after.bands
  pub bits : after.bits ≡ advance w.bits (length (bands_bits shapes t layers number ls))
  pub parts : after.parts ≡ w.parts ++ bands_parts number ls

pub bands_only : (shapes : List BandShape) (t : Trees) (layers : List Layer) (number : ℕ) (ls : List (List (Option PacketContribution))) (w : Walk) (rest : List Bool) → number + length ls ≡ length shapes → length w.bands ≡ length shapes
    → NoneStand shapes t layers number w.bands → ArePacketBands shapes t layers number ls → ahead w.bits ≡ bands_bits shapes t layers number ls ++ rest → BandsOnly shapes t layers number ls w
bands_only shapes t layers number [] w rest all long st are h = record {
  after = w;
  is = bands_none (length layers) number w;
  count = refl;
  earlier = λ n less. refl;
  stands = λ n more less. absurd (omega (arith, all, more, less));
  bits = sym (advance_none w.bits) ∙ ap (λ (xs : List Bool). advance w.bits (length xs)) (sym (bits_end shapes t layers number));
  parts = sym (append-nil w.parts) ∙ ap (λ (ps : List BlockContribution). w.parts ++ ps) (sym (parts_end number));
}
bands_only shapes t layers number (cs ∷ ls) w rest all long st are h =
    let b = band_shape shapes number in
    let first = band_from (leaves b) (t number) (band_layers number layers) [] cs in
    let later = bands_bits shapes t layers (number + 1) ls in
    let here : number < length shapes = omega (arith, all) in
    let own = st number (omega arith) here in
    let bw : BandWalk = record { band = band_in w.bands number; bits = w.bits; parts = w.parts } in
    let h1 : ahead w.bits ≡ first ++ (later ++ rest) = h ∙ ap (λ (xs : List Bool). xs ++ rest) (bits_more shapes t layers number cs ls) ∙ append_assoc first later rest in
    let one = blocks_only b (t number) (band_layers number layers) [] cs number bw (later ++ rest) (let e = are.0 in omega (arith, e)) own are.1 h1 in
    let u = one.after in
    let w1 : Walk = record { bands = set w.bands number u.band; bits = u.bits; parts = u.parts } in
    let h2 : ahead u.bits ≡ later ++ rest = ap ahead one.bits ∙ ahead_on w.bits first (later ++ rest) h1 in
    let on = bands_only shapes t layers (number + 1) ls w1 rest (omega (arith, all)) (length-set w.bands number u.band ∙ long)
    (λ n more less. subst (λ (s : BandState). BandStands (band_shape shapes n) (t n) (band_layers n layers) [] s) (sym (get_or-set_other w.bands number n u.band no_band (λ e. omega (arith, more, e)))) (st n (omega (arith, more)) less)) are.2 h2 in
    record {
      after = on.after;
      is = bands_next (length layers) (length ls) number w u (band_whole b layers number (length cs) bw own.holds.shape are.0 ∙ one.is) ∙ on.is;
      count = on.count ∙ length-set w.bands number u.band;
      earlier = λ n less. on.earlier n (omega (arith, less)) ∙ get_or-set_other w.bands number n u.band no_band (λ e. omega (arith, less, e));
      stands = λ n more less. elim (cases_eq n number) [
        | inl same ↦ subst (λ k. BandStands (band_shape shapes k) (t k) (band_layers k layers) (get_or (cs ∷ ls) (k - number) []) (band_in on.after.bands k)) (sym same)
            (subst (λ (l : List (Option PacketContribution)). BandStands b (t number) (band_layers number layers) l (band_in on.after.bands number)) (sym (own_list cs ls number))
            (subst (λ (s : BandState). BandStands b (t number) (band_layers number layers) cs s) (sym (on.earlier number (omega arith) ∙ get_or-set_same w.bands number u.band no_band (omega (arith, here, long)))) one.stands))
        | inr apart ↦ subst (λ (l : List (Option PacketContribution)). BandStands (band_shape shapes n) (t n) (band_layers n layers) l (band_in on.after.bands n)) (sym (next_list cs ls number n (omega (arith, more, apart))))
            (on.stands n (omega (arith, more, apart)) less)
      ];
      bits =
          on.bits
          ∙ ap (λ (r : Bits). advance r (length later)) one.bits
          ∙ advance_twice w.bits first later
          ∙ ap (λ (xs : List Bool). advance w.bits (length xs)) (sym (bits_more shapes t layers number cs ls));
      parts =
          on.parts
          ∙ ap (λ (ps : List BlockContribution). ps ++ bands_parts (number + 1) ls) one.parts
          ∙ append_assoc w.parts (band_parts number 0 cs) (bands_parts (number + 1) ls)
          ∙ ap (λ (ps : List BlockContribution). w.parts ++ ps) (sym (parts_more number cs ls));
    }

-- What is read of sub-bands is told.
pub record BandsFound (shapes : List BandShape) (layers : List Layer) (number more : ℕ) (w v : Walk) : Type 0 where
  pub ls : List (List (Option PacketContribution))
  pub all : length ls ≡ more
  pub count : length v.bands ≡ length w.bands
  pub earlier : (n : ℕ) → n < number → band_in v.bands n ≡ band_in w.bands n
  pub reached : (n : ℕ) → number ≤ n → n < length shapes → BandReached (band_shape shapes n) (band_layers n layers) (get_or ls (n - number) []) (band_in v.bands n)
  pub parts : v.parts ≡ w.parts ++ bands_parts number ls
  pub each : (t : Trees) → AllStand shapes t layers number ls v.bands → NoneStand shapes t layers number w.bands × GivesBits w.bits (bands_bits shapes t layers number ls) v.bits × ArePacketBands shapes t layers number ls

abbrev NoneReached : List BandShape → List Layer → ℕ → List BandState → Type 0
NoneReached shapes layers number bands = (n : ℕ) → number ≤ n → n < length shapes → BandReached (band_shape shapes n) (band_layers n layers) [] (band_in bands n)

bands_end : (shapes : List BandShape) (layers : List Layer) (number : ℕ) (w : Walk) → number ≡ length shapes → BandsFound shapes layers number 0 w w
bands_end shapes layers number w all = record {
  ls = [];
  all = refl;
  count = refl;
  earlier = λ n less. refl;
  reached = λ n more less. absurd (omega (arith, all, more, less));
  parts = sym (append-nil w.parts) ∙ ap (λ (ps : List BlockContribution). w.parts ++ ps) (sym (parts_end number));
  each = λ t st. (
    λ n more less. absurd (omega (arith, all, more, less)),
    subst (λ (xs : List Bool). GivesBits w.bits xs w.bits) (sym (bits_end shapes t layers number)) (gives_none w.bits),
    tt,
  );
}

bands_step : (shapes : List BandShape) (layers : List Layer) (number more : ℕ) (w : Walk) (u : BandWalk) (v : Walk) → number < length shapes → length w.bands ≡ length shapes
    → BlocksFound (band_shape shapes number) (band_layers number layers) [] ((band_shape shapes number).across * (band_shape shapes number).down) number (record { band = band_in w.bands number; bits = w.bits; parts = w.parts }) u
    → BandsFound shapes layers (number + 1) more (record { bands = set w.bands number u.band; bits = u.bits; parts = u.parts }) v → BandsFound shapes layers number (suc more) w v
bands_step shapes layers number more w u v here long one on =
    let b = band_shape shapes number in
    let cs = one.cs in
    let own : band_in v.bands number ≡ u.band = on.earlier number (omega arith) ∙ get_or-set_same w.bands number u.band no_band (omega (arith, here, long)) in
    record {
      ls = cs ∷ on.ls;
      all = ap suc on.all;
      count = on.count ∙ length-set w.bands number u.band;
      earlier = λ n less. on.earlier n (omega (arith, less)) ∙ get_or-set_other w.bands number n u.band no_band (λ e. omega (arith, less, e));
      reached = λ n from less. elim (cases_eq n number) [
        | inl same ↦ subst (λ k. BandReached (band_shape shapes k) (band_layers k layers) (get_or (cs ∷ on.ls) (k - number) []) (band_in v.bands k)) (sym same)
            (subst (λ (l : List (Option PacketContribution)). BandReached b (band_layers number layers) l (band_in v.bands number)) (sym (own_list cs on.ls number))
            (subst (λ (s : BandState). BandReached b (band_layers number layers) cs s) (sym own) one.reached))
        | inr apart ↦ subst (λ (l : List (Option PacketContribution)). BandReached (band_shape shapes n) (band_layers n layers) l (band_in v.bands n)) (sym (next_list cs on.ls number n (omega (arith, from, apart))))
            (on.reached n (omega (arith, from, apart)) less)
      ];
      parts =
          on.parts
          ∙ ap (λ (ps : List BlockContribution). ps ++ bands_parts (number + 1) on.ls) one.parts
          ∙ append_assoc w.parts (band_parts number 0 cs) (bands_parts (number + 1) on.ls)
          ∙ ap (λ (ps : List BlockContribution). w.parts ++ ps) (sym (parts_more number cs on.ls));
      each = λ t st.
          let mine : BandStands b (t number) (band_layers number layers) cs u.band =
          subst (λ (s : BandState). BandStands b (t number) (band_layers number layers) cs s) own
          (subst (λ (l : List (Option PacketContribution)). BandStands b (t number) (band_layers number layers) l (band_in v.bands number)) (own_list cs on.ls number) (st number (omega arith) here)) in
          let f = one.each (t number) mine in
          let e = on.each t (λ n from less. subst (λ (l : List (Option PacketContribution)). BandStands (band_shape shapes n) (t n) (band_layers n layers) l (band_in v.bands n)) (next_list cs on.ls number n from) (st n (omega (arith, from)) less)) in (
            λ n from less. elim (cases_eq n number) [
              | inl same ↦ subst (λ k. BandStands (band_shape shapes k) (t k) (band_layers k layers) [] (band_in w.bands k)) (sym same) f.0
              | inr apart ↦ subst (λ (s : BandState). BandStands (band_shape shapes n) (t n) (band_layers n layers) [] s) (get_or-set_other w.bands number n u.band no_band apart) (e.0 n (omega (arith, from, apart)) less)
            ],
            subst (λ (xs : List Bool). GivesBits w.bits xs v.bits) (sym (bits_more shapes t layers number cs on.ls))
                (gives_join w.bits u.bits v.bits (band_from (leaves b) (t number) (band_layers number layers) [] cs) (bands_bits shapes t layers (number + 1) on.ls) f.1 e.1),
            (one.count, f.2, e.2),
          );
    }

pub bands_found : (shapes : List BandShape) (layers : List Layer) (number more : ℕ) (w v : Walk) → number + more ≡ length shapes → length w.bands ≡ length shapes → NoneReached shapes layers number w.bands
    → bands_at (length layers) more number w ≡ Ok v → BandsFound shapes layers number more w v
unfolding bands_at
bands_found shapes layers number zero w v all long reached h =
    let is : w ≡ v = cc in
    subst (λ (x : Walk). BandsFound shapes layers number 0 w x) is (bands_end shapes layers number w (omega (arith, all)))
bands_found shapes layers number (suc more) w v all long reached h =
    let b = band_shape shapes number in
    let here : number < length shapes = omega (arith, all) in
    let own = reached number (omega arith) here in
    let bw : BandWalk = record { band = band_in w.bands number; bits = w.bits; parts = w.parts } in
    bind_then (band_at number (length layers) bw) (λ u. bands_at (length layers) more (number + 1) (record { bands = set w.bands number u.band; bits = u.bits; parts = u.parts })) v h (λ u e k.
    let one = blocks_found b (band_layers number layers) [] (b.across * b.down) number bw u (omega arith) own (sym (band_whole b layers number (b.across * b.down) bw own.holds.shape refl) ∙ e) in
    bands_step shapes layers number more w u v here long one
    (bands_found shapes layers (number + 1) more (record { bands = set w.bands number u.band; bits = u.bits; parts = u.parts }) v (omega (arith, all)) (length-set w.bands number u.band ∙ long)
    (λ n from less. subst (λ (s : BandState). BandReached (band_shape shapes n) (band_layers n layers) [] s) (sym (get_or-set_other w.bands number n u.band no_band (λ q. omega (arith, from, q)))) (reached n (omega (arith, from)) less)) k))
