-- What `extras_text` spells is read again: what is told of colour and resolutions, and all boxes of XML and under UUIDs.
use Rattle.std.proofs.Common.{lit<, ◌≡◌, ℕ, ◌+◌, ◌-◌, ◌^◌, ◌<◌, ◌≤◌, Bool, true, false, ◌&&◌, ◌||◌, not, cond, eqb, ltb, List, [], ◌∷◌, ◌++◌, length, take, drop, map, get_or, Option, Some, None, Result, Ok, Err, refl, sym, ap, subst, ◌∙◌, append_assoc, arith, inl, inr}
use Rattle.std.specs.Prelude.{IfSome, is_some}
use Rattle.std.specs.List.{AllByRecursion, filter}
use Rattle.std.proofs.lemmas.Bool.{cases_lt, le-ltb, ltb-false, eqb-true, eqb-false, ne_eqb}
use Rattle.std.proofs.lemmas.List.{length-append, length-drop, length-take, append-nil}
use Rattle.byteorder.specs.Numbers.{big_number-reads_back, big_from-lt}
use Rattle.jk_math.specs.Answer.{◌>>=◌}
use Rattle.jk_math.specs.Steps.{bind_then, refuse_then, guarded, guard_ended, chosen, ok_is}
use Rattle.jk_math.specs.declared.fault.Fault.{Fault}
use Rattle.jk_math.specs.declared.fault.Fault.TheVariants.{BadBox, BadValue, BadParameters, Limit}
use Rattle.jk_math.proofs.Laws.{AreBytes, are_bytes_after, are_bytes_taken}
use Rattle.jk_boxes.specs.declared.boxes.BoxHead.{BoxHead}
use Rattle.jk_boxes.specs.Boxes.{Box, IsBox, AreBoxes, IsJp2, box_text, boxes_text, box_size, head_size, is_open, colour_kind}
use Rattle.jk_boxes.specs.Reading.{contents_of}
use Rattle.jk_boxes.proofs.Heads.{head_of, box_again, box_length, after_box, contents_again, box_some}
use Rattle.jk_extras.specs.declared.grids.Grid.{Grid}
use Rattle.jk_extras.specs.declared.grids.Grids.{Grids}
use Rattle.jk_extras.specs.declared.header.Met.{Met}
use Rattle.jk_extras.specs.declared.header.ToldColour.{ToldColour}
use Rattle.jk_extras.specs.declared.header.ToldColour.TheVariants.{Nothing, Enumerated, Profile}
use Rattle.jk_extras.specs.declared.told.Told.{Told}
use Rattle.jk_extras.specs.Boxed.{Plain, PlainColour, Stays, ByNumber, ByProfile, PlainOther, colour_read, other_read, read_step, read_step_at, nothing_read, extras_read}
use Rattle.jk_extras.specs.Extras.{is_grid, short_box, grid_text, space_box, profile_box, grids_box, grid_boxes}
use Rattle.jk_extras.specs.Finding.{xml_kind, uuid_kind, other_told}
use Rattle.jk_extras.specs.Grids.{has_zero, grid_of, grid_at, grids_passed, grids_step, grids_at, no_grids, capture_kind, display_kind}
use Rattle.jk_extras.specs.Header.{colour_at, is_nothing, met_passed, nothing_met, resolution_kind}
use Rattle.jk_extras.specs.Passing.{passed_by}
use Rattle.jk_extras.specs.Reading.{extras_at, told_of, grids_or_none}
use Rattle.jk_extras.specs.Taken.{other_of, colour_taken, kept_of}
use Rattle.jk_extras.specs.Texts.{all_boxes, colour_text, resolution_text, extras_text}
use Rattle.jk_extras.proofs.Copies.{is_other, WasTold, told_text}
use Rattle.jk_extras.proofs.HeaderTold.{at, boxes, contents_spanned, extras_by}
use Rattle.jk_extras.proofs.Passing.{some_left, one_step as pass_step, no_step}
use Rattle.jk_extras.proofs.ReadBack.{grids_again}
use Rattle.jk_extras.proofs.Sizes.{text_size}
use Rattle.jk_extras.proofs.Widths.{FitGrids, passed_keeps, inside, grids_fit}

-- what is told of bytes: no resolution has a zero
HasNoZero : Grids → Type 0
HasNoZero g = (is_grid g.capture ≡ true) × (is_grid g.display ≡ true)

grid_some : (contents : List ℕ) (g : Grid) → grid_at contents ≡ Ok g → is_grid (Some g) ≡ true
unfolding grid_at
grid_some contents g e =
    refuse_then (not (eqb (length contents) 10)) BadBox _ g e (λ long e.
    refuse_then (has_zero (grid_of contents)) BadValue _ g e (λ some e.
    subst (λ (x : Grid). is_grid (Some x) ≡ true) (ok_is (grid_of contents) g e) (ap not some)
    ))

zeros_keep : (known next : Grids) (at : ℕ) (box : BoxHead) (rest : List ℕ) → AreBytes rest → HasNoZero known → grids_step known at box rest ≡ Ok next → HasNoZero next
unfolding grids_passed HasNoZero
zeros_keep known next place box rest fits holds e =
    elim (chosen (eqb box.kind capture_kind && not (is_some known.capture)) _ _ (Ok next) e) [
      | inl w ↦
          bind_then (grid_at (contents_of box rest)) _ next w.1 (λ g s f.
          let here : HasNoZero (record { capture = Some g; display = known.display }) = (grid_some (contents_of box rest) g s, holds.1) in
          subst HasNoZero (ok_is (record { capture = Some g; display = known.display }) next f) here)
      | inr w ↦ elim (chosen (eqb box.kind display_kind && not (is_some known.display)) _ _ (Ok next) w.1) [
        | inl v ↦
            bind_then (grid_at (contents_of box rest)) _ next v.1 (λ g s f.
            let here : HasNoZero (record { capture = known.capture; display = Some g }) = (holds.0, grid_some (contents_of box rest) g s) in
            subst HasNoZero (ok_is (record { capture = known.capture; display = Some g }) next f) here)
        | inr v ↦ subst HasNoZero (ok_is known next v.1) holds
      ]
    ]

-- a colour of bytes: a number of four, a profile of one at least
abbrev FitsColour : ToldColour → Type 0
FitsColour Nothing = Unit {0}
FitsColour (Enumerated n) = n < 256 ^ 4
FitsColour (Profile start end) = start < end

colour_fits : (at : ℕ) (contents : List ℕ) (c : ToldColour) → AreBytes contents → colour_at at contents ≡ Ok c → FitsColour c
unfolding colour_at
colour_fits at contents c fits e =
    let n = length contents in
    let m = get_or contents 0 0 in
    let g = guarded (ltb n 3) BadBox _ c e in
    let long : 3 ≤ n = ltb-false _ _ g.0 in
    elim (chosen (eqb m 1) _ _ (Ok c) g.1) [
      | inl w ↦
          let h = guard_ended (eqb n 7) BadBox _ c w.1 in
          subst FitsColour h.1 (big_from-lt 0 4 (drop 3 contents) (are_bytes_after 3 contents fits))
      | inr w ↦ elim (chosen (eqb m 2) _ _ (Ok c) w.1) [
        | inl v ↦
            let h = guarded (eqb n 3) BadBox _ c v.1 in
            let more : 3 < n = elim (cases_lt 3 n) [ inl l ↦ l | inr l ↦ absurd (eqb-false n 3 h.0 (omega (arith, long))) ] in
            subst FitsColour (ok_is (Profile (at + 3) (at + n)) c h.1) (omega (arith, more))
        | inr v ↦ subst FitsColour (ok_is Nothing c v.1) tt
      ]
    ]

abbrev AreSound : Grids → Type 0
AreSound g = FitGrids g × HasNoZero g

record FitsMet (m : Met) : Type 0 where
  colour_low : FitsColour m.colour
  resolution_low : IfSome m.resolution AreSound

met_keeps : (known next : Met) (at : ℕ) (box : BoxHead) (rest : List ℕ) → AreBytes rest → FitsMet known → met_passed known at box rest ≡ Ok next → FitsMet next
unfolding met_passed HasNoZero
met_keeps known next place box rest fits holds e =
    let contents = contents_of box rest in
    elim (chosen (eqb box.kind colour_kind && is_nothing known.colour) _ _ (Ok next) e) [
      | inl w ↦
          bind_then (colour_at (place + head_size box.form) contents) _ next w.1 (λ c s f.
          let m : Met = record { colour = c; resolution = known.resolution } in
          let here : FitsMet m = record { colour_low = colour_fits (place + head_size box.form) contents c (inside box rest fits) s; resolution_low = holds.resolution_low } in
          subst FitsMet (ok_is m next f) here)
      | inr w ↦ elim (chosen (eqb box.kind resolution_kind && not (is_some known.resolution)) _ _ (Ok next) w.1) [
        | inl v ↦
            bind_then (grids_at contents) _ next v.1 (λ g s f.
            let within = inside box rest fits in
            let m : Met = record { colour = known.colour; resolution = Some g } in
            let zeros = passed_keeps HasNoZero grids_step false zeros_keep (length contents) no_grids g 0 contents within (refl, refl) s in
            let here : FitsMet m = record { colour_low = holds.colour_low; resolution_low = (grids_fit contents g within s, zeros) } in
            subst FitsMet (ok_is m next f) here)
        | inr v ↦ subst FitsMet (ok_is known next v.1) holds
      ]
    ]

record FitsTold (t : Told) : Type 0 where
  colour_low : FitsColour t.colour
  grids_low : AreSound (record { capture = t.capture; display = t.display })

met_sound : (r : Option Grids) → IfSome r AreSound → AreSound (grids_or_none r)
unfolding HasNoZero
met_sound None low = ((tt, tt), (refl, refl))
met_sound (Some g) low = low

told_fits : (file codestream : List ℕ) (j : IsJp2 file codestream) (t : Told) → AreBytes file → extras_at file ≡ Ok t → FitsTold t
told_fits file codestream j t fits e =
    let old = boxes file codestream j in
    let place = at file codestream j in
    let within : AreBytes (boxes_text old) = subst AreBytes (contents_spanned file codestream j ∙ j.header_next.1.text) (are_bytes_taken _ _ (are_bytes_after place file fits)) in
    let none : FitsMet nothing_met = record { colour_low = tt; resolution_low = tt } in
    bind_then (passed_by met_passed false (length (boxes_text old)) nothing_met place (boxes_text old)) _ t (sym (extras_by file codestream j) ∙ e) (λ met s f.
    let low = passed_keeps FitsMet met_passed false met_keeps (length (boxes_text old)) nothing_met met place (boxes_text old) within none s in
    let here : FitsTold (told_of met) = record { colour_low = low.colour_low; grids_low = met_sound met.resolution low.resolution_low } in
    subst FitsTold (ok_is (told_of met) t f) here)

-- a box that is read before others, and one that isn't read
module _ (b : Box) (after : List ℕ) (n at : ℕ) (known : Plain) (is : IsBox b) (end : is_open b.form ≡ true → after ≡ []) (enough : length (box_text b ++ after) ≤ n) where
  size : length (box_text b ++ after) ≡ box_size b + length after
  size = length-append (box_text b) after ∙ ap (λ k. k + length after) (box_length b)

  pub read_next : (next : Plain) (due : Result Plain Fault) → read_step known (head_of b) (box_text b ++ after) ≡ Ok next
      → ((m : ℕ) → length after ≤ m → passed_by read_step_at true m next (at + box_size b) after ≡ due) → passed_by read_step_at true n known at (box_text b ++ after) ≡ due
  read_next next due pass more =
      let rest = box_text b ++ after in
      let m = some_left n (length rest) (omega (arith, size, box_some b)) enough in
      let read = box_again true b after is (λ o. (refl, end o)) in
      let behind = after_box b after in
      ap (λ k. passed_by read_step_at true k known at rest) m.1 ∙ pass_step read_step_at true m.0 known at rest (omega (arith, size, box_some b))
      ∙ rw (read, pass, behind) (more m.0 (omega (arith, size, box_some b, m.1, enough)))

  pub read_no_more : (d : Fault) → read_step known (head_of b) (box_text b ++ after) ≡ Err d → passed_by read_step_at true n known at (box_text b ++ after) ≡ Err d
  read_no_more d pass =
      let rest = box_text b ++ after in
      let m = some_left n (length rest) (omega (arith, size, box_some b)) enough in
      let read = box_again true b after is (λ o. (refl, end o)) in
      ap (λ k. passed_by read_step_at true k known at rest) m.1 ∙ pass_step read_step_at true m.0 known at rest (omega (arith, size, box_some b)) ∙ rw (read, pass) refl

-- boxes of XML and under UUIDs
record IsRead (b : Box) : Type 0 where
  no_colour : eqb b.kind colour_kind ≡ false
  no_resolution : eqb b.kind resolution_kind ≡ false
  read : other_read b.kind b.contents ≡ Ok (other_of b)

xml_read : (b : Box) → eqb b.kind xml_kind ≡ true → IsRead b
unfolding other_read
xml_read b is =
    let k : b.kind ≡ xml_kind = eqb-true _ _ is in
    record { no_colour = rw k refl; no_resolution = rw k refl; read = rw is refl }

second_of : {A : Type 0} (x : Bool) (p q r : A) → x ≡ false → cond x p q ≡ r → q ≡ r
second_of true p q r off e = absurd cc
second_of false p q r off e = e

uuid_read : (b : Box) → eqb b.kind xml_kind ≡ false → eqb b.kind uuid_kind ≡ true → WasTold b → IsRead b
unfolding other_read other_told
uuid_read b other is (place, (t, told)) =
    let k : b.kind ≡ uuid_kind = eqb-true _ _ is in
    let g = guarded (ltb ((place + box_size b) - (place + head_size b.form)) 16) BadBox _ t (second_of (eqb b.kind xml_kind) _ _ (Ok t) other told) in
    let wide : (place + box_size b) - (place + head_size b.form) ≡ length b.contents = omega arith in
    let long : ltb (length b.contents) 16 ≡ false = ap (λ n. ltb n 16) (sym wide) ∙ g.0 in
    record { no_colour = rw k refl; no_resolution = rw k refl; read = rw (other, is, long) refl }

is_read : (b : Box) → is_other b ≡ true → WasTold b → IsRead b
is_read b is told = by (eqb b.kind xml_kind) refl
  where
    or_second : (x y : Bool) → x ≡ false → (x || y) ≡ true → y ≡ true
    or_second true y off on = absurd cc
    or_second false y off on = on

    by : (x : Bool) → eqb b.kind xml_kind ≡ x → IsRead b
    by true e = xml_read b e
    by false e = uuid_read b e (or_second (eqb b.kind xml_kind) (eqb b.kind uuid_kind) e is) told

all_read : (bs : List Box) → AllByRecursion WasTold (filter is_other bs) → AllByRecursion IsRead (filter is_other bs)
all_read [] all = tt
all_read (b ∷ bs) all = by (is_other b) refl (λ told. all_read bs told) all
  where
    by : (x : Bool) → is_other b ≡ x → (AllByRecursion WasTold (filter is_other bs) → AllByRecursion IsRead (filter is_other bs))
        → AllByRecursion WasTold (cond x (b ∷ filter is_other bs) (filter is_other bs)) → AllByRecursion IsRead (cond x (b ∷ filter is_other bs) (filter is_other bs))
    by true e more told = (is_read b e told.0, more told.1)
    by false e more told = more told

are_boxes : (bs : List Box) → AreBoxes bs → AreBoxes (filter is_other bs)
are_boxes [] are = tt
are_boxes (b ∷ bs) are = by (is_other b) (are_boxes bs are.2)
  where
    by : (x : Bool) → AreBoxes (filter is_other bs) → AreBoxes (cond x (b ∷ filter is_other bs) (filter is_other bs))
    by true more = (are.0, (λ o. ap (filter is_other) (are.1 o)), more)
    by false more = more

abbrev behind : Plain → List Box → Plain
behind known bs = record { colour = known.colour; capture = known.capture; display = known.display; others = known.others ++ map other_of bs }

other_step : (b : Box) (after : List ℕ) (known : Plain) → IsRead b → read_step known (head_of b) (box_text b ++ after) ≡ Ok (behind known (b ∷ []))
unfolding read_step
other_step b after known is =
    let c = is.no_colour in
    let r = is.no_resolution in
    let o = is.read in
    rw (c, r, contents_again b after, o) refl

others_passed : (bs : List Box) (n at : ℕ) (known : Plain) → AreBoxes bs → AllByRecursion IsRead bs → length (boxes_text bs) ≤ n
    → passed_by read_step_at true n known at (boxes_text bs) ≡ Ok (behind known bs)
others_passed [] n at known are all enough =
    no_step read_step_at true n known at [] refl
    ∙ ap (λ (x : List PlainOther). Ok (record { colour = known.colour; capture = known.capture; display = known.display; others = x })) (sym (append-nil known.others))
others_passed (b ∷ bs) n at known are all enough =
    let next = behind known (b ∷ []) in
    let joined : (known.others ++ other_of b ∷ []) ++ map other_of bs ≡ known.others ++ other_of b ∷ map other_of bs = append_assoc known.others (other_of b ∷ []) (map other_of bs) in
    read_next b (boxes_text bs) n at known are.0 (λ o. ap boxes_text (are.1 o)) enough next (Ok (behind known (b ∷ bs))) (other_step b (boxes_text bs) known all.0)
    (λ m low. others_passed bs m (at + box_size b) next are.2 all.1 low
    ∙ ap (λ (x : List PlainOther). Ok (record { colour = known.colour; capture = known.capture; display = known.display; others = x })) joined)

-- resolutions before them
abbrev coloured : PlainColour → Plain
coloured k = record { colour = k; capture = None; display = None; others = [] }

abbrev taken : PlainColour → Option Grid → Option Grid → List Box → Plain
taken k c d bs = record { colour = k; capture = c; display = d; others = map other_of bs }

grids_read : (k : PlainColour) (c d : Option Grid) (after : List ℕ) → grids_at (grids_box c d).contents ≡ Ok (record { capture = c; display = d })
    → read_step (coloured k) (head_of (grids_box c d)) (box_text (grids_box c d) ++ after) ≡ Ok (record { colour = k; capture = c; display = d; others = [] })
unfolding read_step
grids_read k c d after read = rw (contents_again (grids_box c d) after, read) refl

grid_low : (kind : ℕ) (g : Option Grid) → length (boxes_text (grid_boxes kind g)) ≤ 18
grid_low kind None = omega arith
grid_low kind (Some g) = let size = text_size (short_box kind (grid_text g)) [] in omega (arith, size)

grids_low : (c d : Option Grid) → box_size (grids_box c d) < 2 ^ 32
grids_low None d = omega (arith, grid_low display_kind d)
grids_low (Some g) d = let size = text_size (short_box capture_kind (grid_text g)) (grid_boxes display_kind d) in omega (arith, size, grid_low display_kind d)

module _ (k : PlainColour) (bs : List Box) (are : AreBoxes bs) (all : AllByRecursion IsRead bs) where
  with_grids : (c d : Option Grid) (n at : ℕ) → AreSound (record { capture = c; display = d }) → length ((box_text (grids_box c d) ++ []) ++ boxes_text bs) ≤ n
      → passed_by read_step_at true n (coloured k) at ((box_text (grids_box c d) ++ []) ++ boxes_text bs) ≡ Ok (taken k c d bs)
  unfolding HasNoZero
  with_grids c d n at sound enough =
      let b = grids_box c d in
      let joined : (box_text b ++ []) ++ boxes_text bs ≡ box_text b ++ boxes_text bs = append_assoc (box_text b) [] (boxes_text bs) in
      let next : Plain = record { colour = k; capture = c; display = d; others = [] } in
      let again : grids_at b.contents ≡ Ok (record { capture = c; display = d }) = grids_again (length b.contents) 0 c d sound.0.0 sound.0.1 sound.1.0 sound.1.1 (omega arith) in
      ap (passed_by read_step_at true n (coloured k) at) joined
      ∙ read_next b (boxes_text bs) n at (coloured k) (record { kind = lit< tt; size = grids_low c d }) (λ o. absurd cc) (subst (λ (x : List ℕ). length x ≤ n) joined enough) next (Ok (taken k c d bs))
      (grids_read k c d (boxes_text bs) again) (λ m low. others_passed bs m (at + box_size b) next are all low)

  rest_read : (c d : Option Grid) (n at : ℕ) → AreSound (record { capture = c; display = d }) → length (resolution_text c d ++ boxes_text bs) ≤ n
      → passed_by read_step_at true n (coloured k) at (resolution_text c d ++ boxes_text bs) ≡ Ok (taken k c d bs)
  rest_read None None n at sound enough = others_passed bs n at (coloured k) are all enough
  rest_read None (Some d) n at sound enough = with_grids None (Some d) n at sound enough
  rest_read (Some c) d n at sound enough = with_grids (Some c) d n at sound enough

-- the colour before them
space_step : (number : ℕ) (after : List ℕ) → number < 256 ^ 4
    → read_step nothing_read (head_of (space_box number)) (box_text (space_box number) ++ after)
    ≡ (cond (eqb number 16 || eqb number 17) (Ok ByNumber) (Err BadParameters) >>= λ c. Ok (coloured c))
unfolding read_step colour_read
space_step number after low =
    rw (contents_again (space_box number) after)
    (ap (λ n. cond (eqb n 16 || eqb n 17) (Ok ByNumber) (Err BadParameters) >>= λ c. Ok (coloured c)) (big_number-reads_back 4 number [] low))

profile_step : (profile after : List ℕ) → 0 < length profile
    → read_step nothing_read (head_of (profile_box profile)) (box_text (profile_box profile) ++ after) ≡ Ok (coloured (ByProfile profile))
unfolding read_step colour_read
profile_step profile after some =
    let long : ltb (length (profile_box profile).contents) 3 ≡ false = le-ltb _ _ (omega arith) in
    let more : eqb (length (profile_box profile).contents) 3 ≡ false = ne_eqb _ _ (omega (arith, some)) in
    rw (contents_again (profile_box profile) after, long, more) refl

module _ (c d : Option Grid) (bs : List Box) (sound : AreSound (record { capture = c; display = d })) (are : AreBoxes bs) (all : AllByRecursion IsRead bs) where
  abbrev rest : List ℕ
  rest = resolution_text c d ++ boxes_text bs

  abbrev due : Result PlainColour Fault → Result Plain Fault
  due colour = colour >>= λ k. Ok (taken k c d bs)

  with_number : (number n : ℕ) → number < 256 ^ 4 → length ((box_text (space_box number) ++ []) ++ rest) ≤ n
      → passed_by read_step_at true n nothing_read 0 ((box_text (space_box number) ++ []) ++ rest) ≡ due (cond (eqb number 16 || eqb number 17) (Ok ByNumber) (Err BadParameters))
  with_number number n low enough =
      let b = space_box number in
      let joined : (box_text b ++ []) ++ rest ≡ box_text b ++ rest = append_assoc (box_text b) [] rest in
      let whole : length (box_text b ++ rest) ≤ n = subst (λ (x : List ℕ). length x ≤ n) joined enough in
      let is : IsBox b = record { kind = lit< tt; size = lit< tt } in
      let step = space_step number rest low in
      ap (passed_by read_step_at true n nothing_read 0) joined ∙ by is whole step (eqb number 16 || eqb number 17) refl
    where
      by : IsBox (space_box number) → length (box_text (space_box number) ++ rest) ≤ n
          → read_step nothing_read (head_of (space_box number)) (box_text (space_box number) ++ rest) ≡ (cond (eqb number 16 || eqb number 17) (Ok ByNumber) (Err BadParameters) >>= λ k. Ok (coloured k))
          → (x : Bool) → (eqb number 16 || eqb number 17) ≡ x
          → passed_by read_step_at true n nothing_read 0 (box_text (space_box number) ++ rest) ≡ due (cond (eqb number 16 || eqb number 17) (Ok ByNumber) (Err BadParameters))
      by is whole step true e =
          let b = space_box number in
          let read = step ∙ ap (λ (x : Bool). cond x (Ok ByNumber) (Err BadParameters) >>= λ k. Ok (coloured k)) e in
          read_next b rest n 0 nothing_read is (λ o. absurd cc) whole (coloured ByNumber) (Ok (taken ByNumber c d bs)) read (λ m low. rest_read ByNumber bs are all c d m (0 + box_size b) sound low)
          ∙ ap (λ (x : Bool). due (cond x (Ok ByNumber) (Err BadParameters))) (sym e)
      by is whole step false e =
          let b = space_box number in
          let read = step ∙ ap (λ (x : Bool). cond x (Ok ByNumber) (Err BadParameters) >>= λ k. Ok (coloured k)) e in
          read_no_more b rest n 0 nothing_read is (λ o. absurd cc) whole BadParameters read ∙ ap (λ (x : Bool). due (cond x (Ok ByNumber) (Err BadParameters))) (sym e)

  with_profile : (profile : List ℕ) (n : ℕ) → 0 < length profile → length profile ≤ 2 ^ 24 → length ((box_text (profile_box profile) ++ []) ++ rest) ≤ n
      → passed_by read_step_at true n nothing_read 0 ((box_text (profile_box profile) ++ []) ++ rest) ≡ Ok (taken (ByProfile profile) c d bs)
  with_profile profile n some low enough =
      let b = profile_box profile in
      let joined : (box_text b ++ []) ++ rest ≡ box_text b ++ rest = append_assoc (box_text b) [] rest in
      let whole : length (box_text b ++ rest) ≤ n = subst (λ (x : List ℕ). length x ≤ n) joined enough in
      ap (passed_by read_step_at true n nothing_read 0) joined
      ∙ read_next b rest n 0 nothing_read (record { kind = lit< tt; size = omega (arith, low) }) (λ o. absurd cc) whole (coloured (ByProfile profile)) (Ok (taken (ByProfile profile) c d bs))
      (profile_step profile rest some) (λ m enough. rest_read (ByProfile profile) bs are all c d m (0 + box_size b) sound enough)

  all_passed : (file : List ℕ) (told : ToldColour) (text : List ℕ) → FitsColour told → colour_text file told ≡ Ok text
      → passed_by read_step_at true (length (text ++ rest)) nothing_read 0 (text ++ rest) ≡ due (colour_taken file told)
  unfolding colour_text
  all_passed file Nothing text fits e =
      subst (λ (x : List ℕ). passed_by read_step_at true (length (x ++ rest)) nothing_read 0 (x ++ rest) ≡ Ok (taken Stays c d bs)) (ok_is [] text e)
      (rest_read Stays bs are all c d (length rest) 0 sound (omega arith))
  all_passed file (Enumerated number) text fits e =
      subst (λ (x : List ℕ). passed_by read_step_at true (length (x ++ rest)) nothing_read 0 (x ++ rest) ≡ due (colour_taken file (Enumerated number))) (ok_is (boxes_text (space_box number ∷ [])) text e)
      (with_number number _ fits (omega arith))
  all_passed file (Profile start end) text fits e =
      let profile = take (end - start) (drop start file) in
      let g = guarded (ltb end start || ltb (length file) end) BadBox _ text e in
      let h = guarded (ltb (2 ^ 24) (length profile)) Limit _ text g.1 in
      let within : end ≤ length file = ltb-false _ _ (second (ltb end start) (ltb (length file) end) g.0) in
      let low : length profile ≤ 2 ^ 24 = ltb-false _ _ h.0 in
      let some : 0 < length profile = omega (arith, length-take (end - start) (drop start file), length-drop start file, within, fits) in
      subst (λ (x : List ℕ). passed_by read_step_at true (length (x ++ rest)) nothing_read 0 (x ++ rest) ≡ Ok (taken (ByProfile profile) c d bs)) (ok_is (boxes_text (profile_box profile ∷ [])) text h.1)
      (with_profile profile _ some low (omega arith))
    where
      second : (a b : Bool) → (a || b) ≡ false → b ≡ false
      second true b e = absurd cc
      second false b e = e

pub text_read : (file codestream : List ℕ) (j : IsJp2 file codestream) (t : Told) (text : List ℕ) → AreBytes file → extras_at file ≡ Ok t → extras_text file ≡ Ok text
    → extras_read text ≡ (colour_taken file t.colour >>= λ c. Ok (kept_of j t c))
text_read file codestream j t text fits read spelled =
    let h = told_text file codestream j text spelled in
    let low = told_fits file codestream j h.0.told fits h.0.is in
    let bs = filter is_other (all_boxes j) in
    let tail = resolution_text h.0.told.capture h.0.told.display ++ boxes_text bs in
    let passed = all_passed h.0.told.capture h.0.told.display bs low.grids_low (are_boxes (all_boxes j) j.boxes) (all_read (all_boxes j) h.1) file h.0.told.colour h.0.colour low.colour_low h.0.colour_is in
    let same : h.0.told ≡ t = ok_is h.0.told t (sym h.0.is ∙ read) in
    ap extras_read h.0.written_is ∙ passed ∙ ap (λ (x : Told). colour_taken file x.colour >>= λ c. Ok (kept_of j x c)) same
