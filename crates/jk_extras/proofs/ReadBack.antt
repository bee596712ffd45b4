-- What is written is read.
use Rattle.std.proofs.Common.{lit<, ◌≡◌, ℕ, ℤ, pos, negsuc, ◌+◌, ◌-◌, ◌^◌, ◌<◌, ◌≤◌, Bool, true, false, ◌&&◌, ◌||◌, not, cond, eqb, ltb, List, [], ◌∷◌, ◌++◌, length, Option, Some, None, Result, Ok, refl, sym, ap, subst, ◌∙◌, arith}
use Rattle.std.specs.Prelude.{IfSome}
use Rattle.std.specs.List.{filter}
use Rattle.std.proofs.lemmas.Bool.{lt-ltb, le-ltb, and_parts, eqb-true}
use Rattle.std.proofs.lemmas.List.{append-nil}
use Rattle.byteorder.specs.Endian.{big_bytes}
use Rattle.byteorder.specs.Numbers.{big_number-reads_back}
use Rattle.jk_math.specs.Answer.{◌>>=◌, refuse}
use Rattle.jk_math.specs.declared.fault.Fault.{Fault}
use Rattle.jk_math.specs.declared.fault.Fault.TheVariants.{BadParameters, BadValue}
use Rattle.jk_boxes.specs.declared.boxes.BoxHead.{BoxHead}
use Rattle.jk_boxes.specs.Boxes.{Box, IsJp2, IsBox, box_text, boxes_text, box_size, is_open, colour_kind}
use Rattle.jk_boxes.specs.Written.{colour_space}
use Rattle.jk_boxes.proofs.Heads.{head_of, box_again, after_box, contents_again, box_some}
use Rattle.jk_extras.specs.declared.grids.Grid.{Grid}
use Rattle.jk_extras.specs.declared.grids.Grids.{Grids}
use Rattle.jk_extras.specs.declared.values.Colour.{Colour}
use Rattle.jk_extras.specs.declared.values.Colour.TheVariants.{AsItIs, Enumerated, Profile}
use Rattle.jk_extras.specs.declared.values.Extras.{Extras}
use Rattle.jk_extras.specs.declared.told.Told.{Told}
use Rattle.jk_extras.specs.Grids.{signed_byte, ratio_of, grid_of, has_zero, grid_at, grids_passed, grids_step, grids_at, no_grids, capture_kind, display_kind}
use Rattle.jk_extras.specs.Header.{resolution_kind}
use Rattle.jk_extras.specs.Reading.{extras_at}
use Rattle.jk_extras.specs.Passing.{passed_by}
use Rattle.jk_extras.specs.Extras.{is_extras, is_colour, is_grid, goes, has_colour, has_grids, short_box, colour_boxes, byte_of, grid_text, grid_boxes, resolution_box, resolution_boxes}
use Rattle.jk_extras.specs.Dressed.{components_of, header_boxes, dressed}
use Rattle.jk_extras.specs.Said.{SaidColour, Unsaid, Number, said_by, or_later, first_colour, first_resolution, resolutions_said, IsTold}
use Rattle.jk_extras.specs.Given.{FitsByte, FitsGrid, colour_given, resolutions_given, IsReadBack}
use Rattle.jk_extras.proofs.Passing.{some_left, one_step as pass_step, no_step}
use Rattle.jk_extras.proofs.Sizes.{text_size}
use Rattle.jk_extras.proofs.Dressings.{stays}
use Rattle.jk_extras.proofs.Holding.{dressed_is, guard_ended_in}
use Rattle.jk_extras.proofs.HeaderTold.{told_is}

-- an exponent's byte, a ratio, a resolution
signed_again : (z : ℤ) → FitsByte z → signed_byte (byte_of z) ≡ z
signed_again (pos n) low = let e : ltb n 128 ≡ true = lt-ltb _ _ low in rw e refl
signed_again (negsuc n) low =
    let e : ltb (255 - n) 128 ≡ false = le-ltb _ _ (omega arith) in
    let back : 255 - (255 - n) ≡ n = omega arith in
    rw e (ap (λ k. negsuc k) back)

grid_back : (g : Grid) → FitsGrid g → grid_of (grid_text g) ≡ g
grid_back g fits =
    let d = g.down in
    let a = g.across in
    let e = byte_of d.exponent ∷ byte_of a.exponent ∷ [] in
    let n1 = big_number-reads_back 2 d.numerator (big_bytes 2 d.denominator ++ (big_bytes 2 a.numerator ++ (big_bytes 2 a.denominator ++ e))) fits.0.numerator_fits in
    let d1 = big_number-reads_back 2 d.denominator (big_bytes 2 a.numerator ++ (big_bytes 2 a.denominator ++ e)) fits.0.denominator_fits in
    let n2 = big_number-reads_back 2 a.numerator (big_bytes 2 a.denominator ++ e) fits.1.numerator_fits in
    let d2 = big_number-reads_back 2 a.denominator e fits.1.denominator_fits in
    let e1 = signed_again d.exponent fits.0.exponent_fits in
    let e2 = signed_again a.exponent fits.1.exponent_fits in
    let down : ratio_of 0 8 (grid_text g) ≡ d = λ i. record { numerator = n1 i; denominator = d1 i; exponent = e1 i } in
    let across : ratio_of 4 9 (grid_text g) ≡ a = λ i. record { numerator = n2 i; denominator = d2 i; exponent = e2 i } in
    λ i. record { down = down i; across = across i }

abbrev judged_grid : Grid → Result Grid Fault
judged_grid h = refuse (has_zero h) BadValue >>= λ _. Ok h

no_zero : (b : Bool) (h : Grid) → b ≡ false → (refuse b BadValue >>= λ _. Ok h) ≡ Ok h
no_zero true h e = absurd cc
no_zero false h e = refl

ten_bytes : (g : Grid) → grid_at (grid_text g) ≡ judged_grid (grid_of (grid_text g))
unfolding grid_at
ten_bytes g = refl

grid_again : (g : Grid) → FitsGrid g → has_zero g ≡ false → grid_at (grid_text g) ≡ Ok g
grid_again g fits none = ten_bytes g ∙ ap judged_grid (grid_back g fits) ∙ no_zero (has_zero g) g none

-- a box that is passed before others
pass_box : {T : Type 0} (step : T → ℕ → BoxHead → List ℕ → Result T Fault) (b : Box) (after : List ℕ) (n at : ℕ) (known next : T) (due : Result T Fault) → IsBox b → is_open b.form ≡ false
    → length (box_text b ++ after) ≤ n → length (box_text b ++ after) ≡ box_size b + length after → step known at (head_of b) (box_text b ++ after) ≡ Ok next
    → ((m : ℕ) → length after ≤ m → passed_by step false m next (at + box_size b) after ≡ due) → passed_by step false n known at (box_text b ++ after) ≡ due
pass_box step b after n at known next due is closed enough size pass more =
    let rest = box_text b ++ after in
    let m = some_left n (length rest) (omega (arith, size, box_some b)) enough in
    let end : is_open b.form ≡ true → (false ≡ true) × (after ≡ []) = λ o. absurd cc in
    let read = box_again false b after is end in
    let behind = after_box b after in
    ap (λ k. passed_by step false k known at rest) m.1 ∙ pass_step step false m.0 known at rest (omega (arith, size, box_some b)) ∙ rw (read, pass, behind) (more m.0 (omega (arith, size, box_some b, m.1, enough)))

-- the capture resolution box, and the display resolution box
abbrev grid_box : ℕ → Grid → Box
grid_box kind g = short_box kind (grid_text g)

capture_passed : (known : Grids) (g : Grid) (after : List ℕ) → known.capture ≡ None → grid_at (grid_text g) ≡ Ok g
    → grids_passed known (head_of (grid_box capture_kind g)) (box_text (grid_box capture_kind g) ++ after) ≡ Ok (record { capture = Some g; display = known.display })
unfolding grids_passed
capture_passed known g after none read = rw (none, contents_again (grid_box capture_kind g) after, read) refl

display_passed : (known : Grids) (g : Grid) (after : List ℕ) → known.display ≡ None → grid_at (grid_text g) ≡ Ok g
    → grids_passed known (head_of (grid_box display_kind g)) (box_text (grid_box display_kind g) ++ after) ≡ Ok (record { capture = known.capture; display = Some g })
unfolding grids_passed
display_passed known g after none read = rw (none, contents_again (grid_box display_kind g) after, read) refl

display_again : (n at : ℕ) (c d : Option Grid) → IfSome d FitsGrid → is_grid d ≡ true → length (boxes_text (grid_boxes display_kind d)) ≤ n
    → passed_by grids_step false n (record { capture = c; display = None }) at (boxes_text (grid_boxes display_kind d)) ≡ Ok (record { capture = c; display = d })
display_again n at c None fits is enough = no_step grids_step false n (record { capture = c; display = None }) at [] refl
display_again n at c (Some g) fits is enough =
    let b = grid_box display_kind g in
    let known : Grids = record { capture = c; display = None } in
    let next : Grids = record { capture = c; display = Some g } in
    pass_box grids_step b [] n at known next (Ok next) (record { kind = lit< tt; size = lit< tt }) refl enough (text_size b []) (display_passed known g [] refl (grid_again g fits (not_true (has_zero g) is)))
    (λ m low. no_step grids_step false m next (at + box_size b) [] refl)
  where
    not_true : (b : Bool) → not b ≡ true → b ≡ false
    not_true true e = absurd cc
    not_true false e = refl

pub grids_again : (n at : ℕ) (c d : Option Grid) → IfSome c FitsGrid → IfSome d FitsGrid → is_grid c ≡ true → is_grid d ≡ true → length (boxes_text (grid_boxes capture_kind c ++ grid_boxes display_kind d)) ≤ n
    → passed_by grids_step false n no_grids at (boxes_text (grid_boxes capture_kind c ++ grid_boxes display_kind d)) ≡ Ok (record { capture = c; display = d })
grids_again n at None d fits_c fits_d is_c is_d enough = display_again n at None d fits_d is_d enough
grids_again n at (Some g) d fits_c fits_d is_c is_d enough =
    let b = grid_box capture_kind g in
    let rest = grid_boxes display_kind d in
    let next : Grids = record { capture = Some g; display = None } in
    pass_box grids_step b (boxes_text rest) n at no_grids next (Ok (record { capture = Some g; display = d })) (record { kind = lit< tt; size = lit< tt }) refl enough (text_size b rest)
    (capture_passed no_grids g (boxes_text rest) refl (grid_again g fits_c (not_true (has_zero g) is_c)))
    (λ m low. display_again m (at + box_size b) (Some g) d fits_d is_d low)
  where
    not_true : (b : Bool) → not b ≡ true → b ≡ false
    not_true true e = absurd cc
    not_true false e = refl

resolution_again : (e : Extras) → IfSome e.capture FitsGrid → IfSome e.display FitsGrid → is_grid e.capture ≡ true → is_grid e.display ≡ true
    → grids_at (resolution_box e).contents ≡ Ok (record { capture = e.capture; display = e.display })
resolution_again e fits_c fits_d is_c is_d = grids_again _ 0 e.capture e.display fits_c fits_d is_c is_d (omega arith)

-- the colour
space_low : (b : Bool) → cond b 17 16 < 256 ^ 4
space_low true = lit< tt
space_low false = lit< tt

colour_first : (n : ℕ) (c : Colour) (rest : List Box) (before : SaidColour) → has_colour c ≡ true → first_colour (colour_boxes n c ++ rest) ≡ colour_given n c before
colour_first n AsItIs rest before is = absurd cc
colour_first n Enumerated rest before is = ap Number (big_number-reads_back 4 (colour_space n) [] (space_low (eqb n 1)))
colour_first n (Profile p) rest before is = refl

pub no_colour_box : (n : ℕ) (c : Colour) → has_colour c ≡ false → colour_boxes n c ≡ []
no_colour_box n AsItIs is = refl
no_colour_box n Enumerated is = absurd cc
no_colour_box n (Profile p) is = absurd cc

pub goes_resolution : (c r h g : Bool) → h ≡ false → ((c && h) || (r && g)) ≡ true → (r ≡ true)
goes_resolution true true h g off is = refl
goes_resolution false true h g off is = refl
goes_resolution true false h g off is = absurd (let e : h ≡ true = or_false h is in cc)
  where
    or_false : (h : Bool) → (h || false) ≡ true → h ≡ true
    or_false true e = refl
    or_false false e = absurd cc
goes_resolution false false h g off is = absurd cc

goes_colour : (c r h g : Bool) → g ≡ false → ((c && h) || (r && g)) ≡ true → (c ≡ true)
goes_colour true r h g off is = refl
goes_colour false true h g off is = absurd cc
goes_colour false false h g off is = absurd cc

stays_other : (c r h g : Bool) → g ≡ true → ((c && h) || (r && g)) ≡ false → (r ≡ false)
stays_other c false h g on is = refl
stays_other true true true g on is = absurd cc
stays_other true true false g on is = absurd cc
stays_other false true h g on is = absurd cc

resolution_unsaid : (e : Extras) (g : Bool) → first_colour (cond g (resolution_box e ∷ []) []) ≡ Unsaid
resolution_unsaid e true = refl
resolution_unsaid e false = refl

unsaid_by : (b : Box) → eqb b.kind resolution_kind ≡ true → said_by b ≡ Unsaid
unsaid_by b is = let k : b.kind ≡ resolution_kind = eqb-true _ _ is in rw k refl

kept_colour : (e : Extras) (bs : List Box) → has_colour e.colour ≡ false → first_colour (filter (stays e) bs ++ resolution_boxes e) ≡ first_colour bs
kept_colour e [] off = resolution_unsaid e (has_grids e)
kept_colour e (b ∷ bs) off = on (goes e b.kind) refl (kept_colour e bs off)
  where
    on : (g : Bool) → goes e b.kind ≡ g → first_colour (filter (stays e) bs ++ resolution_boxes e) ≡ first_colour bs → first_colour (filter (stays e) (b ∷ bs) ++ resolution_boxes e) ≡ first_colour (b ∷ bs)
    on true is more =
        let r = goes_resolution (eqb b.kind colour_kind) (eqb b.kind resolution_kind) (has_colour e.colour) (has_grids e) off is in
        let u = unsaid_by b r in
        rw (is, u) more
    on false is more = rw is (ap (or_later (said_by b)) more)

pub colour_back : (n : ℕ) (e : Extras) (others : List Box) → first_colour (header_boxes n e others) ≡ colour_given n e.colour (first_colour others)
colour_back n e others = on (has_colour e.colour) refl
  where
    given_none : (c : Colour) (before : SaidColour) → has_colour c ≡ false → before ≡ colour_given n c before
    given_none AsItIs before off = refl
    given_none Enumerated before off = absurd cc
    given_none (Profile p) before off = absurd cc

    on : (h : Bool) → has_colour e.colour ≡ h → first_colour (header_boxes n e others) ≡ colour_given n e.colour (first_colour others)
    on true is = colour_first n e.colour (filter (stays e) others ++ resolution_boxes e) (first_colour others) is
    on false is =
        ap (λ (x : List Box). first_colour (x ++ (filter (stays e) others ++ resolution_boxes e))) (no_colour_box n e.colour is)
        ∙ kept_colour e others is ∙ given_none e.colour (first_colour others) is

-- the resolution
no_resolution_in : (n : ℕ) (c : Colour) (bs : List Box) → first_resolution (colour_boxes n c ++ bs) ≡ first_resolution bs
no_resolution_in n AsItIs bs = refl
no_resolution_in n Enumerated bs = refl
no_resolution_in n (Profile p) bs = refl

pub not_resolution : (k : ℕ) → eqb k colour_kind ≡ true → eqb k resolution_kind ≡ false
not_resolution k is = let e : k ≡ colour_kind = eqb-true _ _ is in rw e refl

given_last : (e : Extras) → has_grids e ≡ true → first_resolution (resolution_boxes e) ≡ Some (resolution_box e).contents
given_last e on = rw on refl

kept_given : (e : Extras) (bs : List Box) → has_grids e ≡ true → first_resolution (filter (stays e) bs ++ resolution_boxes e) ≡ Some (resolution_box e).contents
kept_given e [] on = given_last e on
kept_given e (b ∷ bs) on = by (goes e b.kind) refl (kept_given e bs on)
  where
    by : (g : Bool) → goes e b.kind ≡ g → first_resolution (filter (stays e) bs ++ resolution_boxes e) ≡ Some (resolution_box e).contents → first_resolution (filter (stays e) (b ∷ bs) ++ resolution_boxes e) ≡ Some (resolution_box e).contents
    by true is more = rw is more
    by false is more =
        let r = stays_other (eqb b.kind colour_kind) (eqb b.kind resolution_kind) (has_colour e.colour) (has_grids e) on is in
        rw (is, r) more

none_last : (e : Extras) → has_grids e ≡ false → resolution_boxes e ≡ []
none_last e off = rw off refl

kept_resolution : (e : Extras) (bs : List Box) → has_grids e ≡ false → first_resolution (filter (stays e) bs) ≡ first_resolution bs
kept_resolution e [] off = refl
kept_resolution e (b ∷ bs) off = by (goes e b.kind) refl (kept_resolution e bs off)
  where
    by : (g : Bool) → goes e b.kind ≡ g → first_resolution (filter (stays e) bs) ≡ first_resolution bs → first_resolution (filter (stays e) (b ∷ bs)) ≡ first_resolution (b ∷ bs)
    by true is more =
        let c = goes_colour (eqb b.kind colour_kind) (eqb b.kind resolution_kind) (has_colour e.colour) (has_grids e) off is in
        let r = not_resolution b.kind c in
        rw (is, r) more
    by false is more = rw is (ap (cond (eqb b.kind resolution_kind) (Some b.contents)) more)

pub resolution_back : (n : ℕ) (e : Extras) (others : List Box) → IfSome e.capture FitsGrid → IfSome e.display FitsGrid → is_grid e.capture ≡ true → is_grid e.display ≡ true
    → resolutions_given e others ≡ resolutions_said (first_resolution (header_boxes n e others))
resolution_back n e others fits_c fits_d is_c is_d = on (has_grids e) refl
  where
    on : (g : Bool) → has_grids e ≡ g → resolutions_given e others ≡ resolutions_said (first_resolution (header_boxes n e others))
    on true is =
        let found = no_resolution_in n e.colour (filter (stays e) others ++ resolution_boxes e) ∙ kept_given e others is in
        ap (λ (x : Bool). cond x (Ok (record { capture = e.capture; display = e.display })) (resolutions_said (first_resolution others))) is
        ∙ sym (ap resolutions_said found ∙ resolution_again e fits_c fits_d is_c is_d)
    on false is =
        let found = no_resolution_in n e.colour (filter (stays e) others ++ resolution_boxes e)
        ∙ ap (λ (x : List Box). first_resolution (filter (stays e) others ++ x)) (none_last e is) ∙ ap first_resolution (append-nil (filter (stays e) others)) ∙ kept_resolution e others is in
        ap (λ (x : Bool). cond x (Ok (record { capture = e.capture; display = e.display })) (resolutions_said (first_resolution others))) is
        ∙ sym (ap resolutions_said found)

-- the resolutions of extras that are written
pub extras_judged : (n : ℕ) (e : Extras) → is_extras n e ≡ true → (is_colour n e.colour ≡ true) × (is_grid e.capture ≡ true) × (is_grid e.display ≡ true)
unfolding is_extras
extras_judged n e is =
    let a = and_parts (is_colour n e.colour) _ is in
    let b = and_parts (is_grid e.capture) _ a.1 in
    let c = and_parts (is_grid e.display) _ b.1 in
    (a.0, b.0, c.0)

pub given_if_written : (file codestream : List ℕ) (j : IsJp2 file codestream) (e : Extras) (text : List ℕ) → dressed j e ≡ Ok text → is_extras (components_of j.header_next.1.image) e ≡ true
unfolding dressed
given_if_written file codestream j e text due = (guard_ended_in (is_extras (components_of j.header_next.1.image) e) BadParameters _ text due).0

pub read_back : (file codestream : List ℕ) (j : IsJp2 file codestream) (e : Extras) (text : List ℕ) (t : Told) → IfSome e.capture FitsGrid → IfSome e.display FitsGrid → dressed j e ≡ Ok text
    → extras_at text ≡ Ok t → IsReadBack (components_of j.header_next.1.image) e j.header_next.1.others text t
read_back file codestream j e text t fits_c fits_d due read =
    let n = components_of j.header_next.1.image in
    let others = j.header_next.1.others in
    let d = dressed_is file codestream j e text due in
    let is = extras_judged n e (given_if_written file codestream j e text due) in
    let told = subst (λ (x : List Box). IsTold text t x) d.header_boxes_are (told_is text codestream d.is t read) in
    record {
      colour_is = told.colour_is ∙ colour_back n e others;
      resolutions_are = resolution_back n e others fits_c fits_d is.1 is.2 ∙ told.resolutions_are;
    }
