-- What is read of bytes holds numbers of their widths.
use Rattle.std.proofs.Common.{◌≡◌, ℕ, zero, suc, ◌+◌, ◌-◌, ◌<◌, ◌≤◌, Bool, true, false, ◌&&◌, ◌||◌, not, eqb, ltb, List, [], ◌∷◌, ◌++◌, length, take, drop, map, get_or, Some, Result, Ok, subst, ◌∙◌, arith, inl, inr}
use Rattle.std.specs.Prelude.{IfSome, is_some}
use Rattle.std.specs.List.{AllByRecursion}
use Rattle.std.proofs.lemmas.Bool.{cases_lt, lt-ltb, le-ltb, ltb-false}
use Rattle.std.proofs.lemmas.List.{length-take}
use Rattle.byteorder.specs.Numbers.{big_from-lt}
use Rattle.jk_math.specs.Steps.{bind_then, refuse_then, guarded, chosen, ok_is}
use Rattle.jk_math.specs.declared.fault.Fault.{Fault}
use Rattle.jk_math.specs.declared.fault.Fault.TheVariants.{BadBox, BadValue}
use Rattle.jk_math.proofs.Laws.{AreBytes, are_bytes_after, are_bytes_taken}
use Rattle.jk_boxes.specs.declared.boxes.BoxHead.{BoxHead}
use Rattle.jk_boxes.specs.Boxes.{head_size, colour_kind}
use Rattle.jk_boxes.specs.Reading.{box_at, contents_of}
use Rattle.jk_extras.specs.declared.grids.Grid.{Grid}
use Rattle.jk_extras.specs.declared.grids.Grids.{Grids}
use Rattle.jk_extras.specs.declared.values.Other.{Other}
use Rattle.jk_extras.specs.declared.values.Other.TheVariants.{Xml, Uuid}
use Rattle.jk_extras.specs.declared.values.Extras.{Extras}
use Rattle.jk_extras.specs.Finding.{xml_kind, uuid_kind}
use Rattle.jk_extras.specs.Grids.{signed_byte, ratio_of, grid_of, has_zero, grid_at, grids_passed, grids_step, grids_at, no_grids, capture_kind, display_kind}
use Rattle.jk_extras.specs.Header.{resolution_kind}
use Rattle.jk_extras.specs.Passing.{passed_by}
use Rattle.jk_extras.specs.Given.{FitsByte, FitsRatio, FitsGrid, HasUuid, FitsExtras}
use Rattle.jk_extras.specs.Boxed.{Plain, PlainOther, PlainXml, PlainUuid, plain, plain_other, stays, colour_read, other_read, read_step, read_step_at, nothing_read, extras_read}

-- what each box keeps is kept by all
pub passed_keeps : {T : Type 0} (P : T → Type 0) (step : T → ℕ → BoxHead → List ℕ → Result T Fault) (ends : Bool)
    → ((known next : T) (at : ℕ) (box : BoxHead) (rest : List ℕ) → AreBytes rest → P known → step known at box rest ≡ Ok next → P next)
    → (n : ℕ) (known last : T) (at : ℕ) (rest : List ℕ) → AreBytes rest → P known → passed_by step ends n known at rest ≡ Ok last → P last
unfolding passed_by
passed_keeps P step ends keeps zero known last at rest fits holds e = subst P (ok_is known last e) holds
passed_keeps P step ends keeps (suc n) known last at rest fits holds e =
    elim (chosen (eqb (length rest) 0) _ _ (Ok last) e) [
      | inl w ↦ subst P (ok_is known last w.1) holds
      | inr w ↦
          bind_then (box_at ends rest) _ last w.1 (λ box s f.
          bind_then (step known at box rest) _ last f (λ next t g.
          passed_keeps P step ends keeps n next last (at + box.size) (drop box.size rest) (are_bytes_after box.size rest fits) (keeps known next at box rest fits holds t) g
          ))
    ]

fits_signed : (b : ℕ) → b < 256 → FitsByte (signed_byte b)
fits_signed b low = elim (cases_lt b 128) [
  | inl h ↦ let e : ltb b 128 ≡ true = lt-ltb _ _ h in rw e h
  | inr h ↦ let e : ltb b 128 ≡ false = le-ltb _ _ h in rw e (omega arith)
]

ratio_fits : (at exponent : ℕ) (contents : List ℕ) → AreBytes contents → FitsRatio (ratio_of at exponent contents)
ratio_fits at exponent contents fits =
    record {
      numerator_fits = big_from-lt 0 2 (drop at contents) (are_bytes_after at contents fits);
      denominator_fits = big_from-lt 0 2 (drop (at + 2) contents) (are_bytes_after (at + 2) contents fits);
      exponent_fits = fits_signed (get_or contents exponent 0) (fits exponent);
    }

grid_fits : (contents : List ℕ) (g : Grid) → AreBytes contents → grid_at contents ≡ Ok g → FitsGrid g
unfolding grid_at
grid_fits contents g fits e =
    refuse_then (not (eqb (length contents) 10)) BadBox _ g e (λ long e.
    refuse_then (has_zero (grid_of contents)) BadValue _ g e (λ some e.
    subst FitsGrid (ok_is (grid_of contents) g e) (ratio_fits 0 8 contents fits, ratio_fits 4 9 contents fits)
    ))

-- the contents of a box
pub inside : (box : BoxHead) (rest : List ℕ) → AreBytes rest → AreBytes (contents_of box rest)
inside box rest fits = are_bytes_taken (box.size - head_size box.form) (drop (head_size box.form) rest) (are_bytes_after (head_size box.form) rest fits)

abbrev pub FitGrids : Grids → Type 0
FitGrids g = IfSome g.capture FitsGrid × IfSome g.display FitsGrid

grids_keep : (known next : Grids) (at : ℕ) (box : BoxHead) (rest : List ℕ) → AreBytes rest → FitGrids known → grids_step known at box rest ≡ Ok next → FitGrids next
unfolding grids_passed
grids_keep known next at box rest fits holds e =
    elim (chosen (eqb box.kind capture_kind && not (is_some known.capture)) _ _ (Ok next) e) [
      | inl w ↦
          bind_then (grid_at (contents_of box rest)) _ next w.1 (λ g s f.
          let here : FitGrids (record { capture = Some g; display = known.display }) = (grid_fits (contents_of box rest) g (inside box rest fits) s, holds.1) in
          subst FitGrids (ok_is (record { capture = Some g; display = known.display }) next f) here)
      | inr w ↦ elim (chosen (eqb box.kind display_kind && not (is_some known.display)) _ _ (Ok next) w.1) [
        | inl v ↦
            bind_then (grid_at (contents_of box rest)) _ next v.1 (λ g s f.
            let here : FitGrids (record { capture = known.capture; display = Some g }) = (holds.0, grid_fits (contents_of box rest) g (inside box rest fits) s) in
            subst FitGrids (ok_is (record { capture = known.capture; display = Some g }) next f) here)
        | inr v ↦ subst FitGrids (ok_is known next v.1) holds
      ]
    ]

pub grids_fit : (contents : List ℕ) (g : Grids) → AreBytes contents → grids_at contents ≡ Ok g → FitGrids g
grids_fit contents g fits e = passed_keeps FitGrids grids_step false grids_keep (length contents) no_grids g 0 contents fits (tt, tt) e

-- a UUID
abbrev HasPlainUuid : PlainOther → Type 0
HasPlainUuid (PlainXml x) = Unit {0}
HasPlainUuid (PlainUuid id x) = length id ≡ 16

other_fits : (kind : ℕ) (contents : List ℕ) (o : PlainOther) → other_read kind contents ≡ Ok o → HasPlainUuid o
unfolding other_read
other_fits kind contents o e =
    elim (chosen (eqb kind xml_kind) _ _ (Ok o) e) [
      | inl w ↦ subst HasPlainUuid (ok_is (PlainXml contents) o w.1) tt
      | inr w ↦
          let g = guarded (not (eqb kind uuid_kind) || ltb (length contents) 16) BadBox _ o w.1 in
          let long : 16 ≤ length contents = ltb-false _ _ (second (not (eqb kind uuid_kind)) (ltb (length contents) 16) g.0) in
          let id : length (take 16 contents) ≡ 16 = length-take 16 contents ∙ omega (arith, long) in
          subst HasPlainUuid (ok_is (PlainUuid (take 16 contents) (drop 16 contents)) o g.1) id
    ]
  where
    second : (a b : Bool) → (a || b) ≡ false → b ≡ false
    second true b e = absurd cc
    second false b e = e

all_push : (os : List PlainOther) (o : PlainOther) → AllByRecursion HasPlainUuid os → HasPlainUuid o → AllByRecursion HasPlainUuid (os ++ o ∷ [])
all_push [] o all h = (h, tt)
all_push (x ∷ os) o all h = (all.0, all_push os o all.1 h)

record FitsPlain (p : Plain) : Type 0 where
  capture_low : IfSome p.capture FitsGrid
  display_low : IfSome p.display FitsGrid
  uuids_low : AllByRecursion HasPlainUuid p.others

step_keeps : (known next : Plain) (at : ℕ) (box : BoxHead) (rest : List ℕ) → AreBytes rest → FitsPlain known → read_step_at known at box rest ≡ Ok next → FitsPlain next
unfolding read_step
step_keeps known next at box rest fits holds e =
    elim (chosen (eqb box.kind colour_kind) _ _ (Ok next) e) [
      | inl w ↦
          refuse_then (not (stays known.colour)) BadBox _ next w.1 (λ one f.
          bind_then (colour_read (contents_of box rest)) _ next f (λ c s g.
          let p : Plain = record { colour = c; capture = known.capture; display = known.display; others = known.others } in
          let here : FitsPlain p = record { capture_low = holds.capture_low; display_low = holds.display_low; uuids_low = holds.uuids_low } in
          subst FitsPlain (ok_is p next g) here))
      | inr w ↦ elim (chosen (eqb box.kind resolution_kind) _ _ (Ok next) w.1) [
        | inl v ↦
            refuse_then (is_some known.capture || is_some known.display) BadBox _ next v.1 (λ one f.
            bind_then (grids_at (contents_of box rest)) _ next f (λ r s g.
            let low = grids_fit (contents_of box rest) r (inside box rest fits) s in
            let p : Plain = record { colour = known.colour; capture = r.capture; display = r.display; others = known.others } in
            let here : FitsPlain p = record { capture_low = low.0; display_low = low.1; uuids_low = holds.uuids_low } in
            subst FitsPlain (ok_is p next g) here))
        | inr v ↦
            bind_then (other_read box.kind (contents_of box rest)) _ next v.1 (λ o s g.
            let p : Plain = record { colour = known.colour; capture = known.capture; display = known.display; others = known.others ++ o ∷ [] } in
            let here : FitsPlain p = record {
              capture_low = holds.capture_low;
              display_low = holds.display_low;
              uuids_low = all_push known.others o holds.uuids_low (other_fits box.kind (contents_of box rest) o s);
            } in
            subst FitsPlain (ok_is p next g) here)
      ]
    ]

uuids_back : (os : List Other) → AllByRecursion HasPlainUuid (map plain_other os) → AllByRecursion HasUuid os
uuids_back [] all = tt
uuids_back (Xml x ∷ os) all = (tt, uuids_back os all.1)
uuids_back (Uuid id x ∷ os) all = (all.0, uuids_back os all.1)

pub read_fits : (boxes : List ℕ) (e : Extras) → AreBytes boxes → extras_read boxes ≡ Ok (plain e) → FitsExtras e
read_fits boxes e fits due =
    let none : FitsPlain nothing_read = record { capture_low = tt; display_low = tt; uuids_low = tt } in
    let low = passed_keeps FitsPlain read_step_at true step_keeps (length boxes) nothing_read (plain e) 0 boxes fits none due in
    record { capture_fits = low.capture_low; display_fits = low.display_low; uuids_fit = uuids_back e.others.items low.uuids_low }
