use Rattle.std.proofs.Common.{◌≡◌, ℕ, ◌+◌, ◌≤◌, ◌⊎◌, inl, inr, List, ℤ, Result, Ok, Err, ◌∙◌, ap, sym, subst, arith}
use Rattle.std.specs.Prelude.{OnOk, IfErr}
use Rattle.jk_math.specs.Lists.{lists_of}
use Rattle.jk_math.specs.Memory.{IsMemory}
use Rattle.jk_math.specs.declared.fault.Fault.{Fault}
use Rattle.jk_math.specs.Picture.{Picture, IsPicture}
use Rattle.jk_math.specs.Steps.{ok_is}
use Rattle.jk_math.specs.declared.rect.Rect.{Rect}
use Rattle.jk_marks.specs.Siz.{tile_count, tiles_across}
use Rattle.jk_rows.specs.Components.{IsStepEnd}
use Rattle.jk_code.specs.Made.{rows_of}
use Rattle.jk_code.specs.MeaningReading.{planes_of_tiles, picture_with}
use Rattle.jk_code.specs.Sources.{ImageSource, IsImageSource}
use Rattle.jk_code.specs.Rows.{picture_of, area_of_tile, WereRefused, HasFaultAt}
use Rattle.jk_code.proofs.RowLaws.{refused_here, in_rows, stripe_area, stripe_rows, stripe_picture, taken_one}
use Rattle.jk_code.proofs.rows.give_stripe.Goals as goal

on_one : {A E P S : Type 0} (r : Result A E) → (P → S) → OnOk r P → OnOk r S
on_one (Ok x) go p = go p
on_one (Err e) go p = p

if_err : {A : Type 0} {P S : Fault → Type 0} (r : Result A Fault) → ((e : Fault) → P e → S e) → IfErr r P → IfErr r S
if_err (Ok x) go p = p
if_err (Err e) go p = go e p

-- that the rows lie in the image
bounds : (s t : ImageSource) (first y z : ℕ) → s ≡ t → IsImageSource s → first + tiles_across t.headers.siz ≤ tile_count t.headers.siz → IsStepEnd (area_of_tile t first) y → IsStepEnd (area_of_tile t first) z → (s.area.y0 ≤ y) × (z ≤ s.area.y1)
bounds s t first y z same is whole from to = subst (λ (x : ImageSource). (x.area.y0 ≤ y) × (z ≤ x.area.y1)) (sym same) (in_rows t first y z (subst IsImageSource same is) whole from to)

pub stripe_planes-requires-clause-stripe : goal.stripe_planes-requires-clause-stripe
stripe_planes-requires-clause-stripe g c =
    let both = bounds _ c.args.coded.now c.args.row.now.first c.args.y c.args.end c.coded.view_is c.coded.invariant c.requires.row.whole c.requires.from c.requires.to in
    let order = c.requires.order in
    stripe_area _ c.args.y c.args.end c.coded.invariant (omega (arith, order)) both.1

pub stripe_planes-requires-clause-left : goal.stripe_planes-requires-clause-left
stripe_planes-requires-clause-left g c = ap (λ (s : ImageSource). s.area.x0) c.coded.view_is

pub stripe_planes-requires-clause-right : goal.stripe_planes-requires-clause-right
stripe_planes-requires-clause-right g c = ap (λ (s : ImageSource). s.area.x1) c.coded.view_is

-- the planes of the stripe, of the fields of the source
planes_of : (s t : ImageSource) (stripe : Rect) (lists : List (List ℤ)) → s ≡ t → lists ≡ planes_of_tiles t.bytes t.headers t.reduce stripe → lists ≡ planes_of_tiles s.bytes s.headers s.reduce stripe
planes_of s t stripe lists same e = subst (λ (x : ImageSource). lists ≡ planes_of_tiles x.bytes x.headers x.reduce stripe) (sym same) e

pub image_of-requires : goal.image_of-requires
image_of-requires g c =
    let i = c.coded.inside in
    let s : ImageSource = record { headers = i.headers.now; bytes = i.bytes.now; packets = i.packets.now; reduce = i.reduce; area = i.area } in
    let y : ℕ = c.args.y in
    let z : ℕ = c.args.end in
    let stripe : Rect = record { x0 = i.area.x0; y0 = y; x1 = i.area.x1; y1 = z } in
    let both = bounds s c.args.coded.now c.args.row.now.first y z c.coded.view_is c.coded.invariant c.requires.row.whole c.requires.from c.requires.to in
    let planes = planes_of s c.args.coded.now stripe (lists_of c.in_ok-planes.planes.items) c.coded.view_is c.in_ok-planes.ensures.planes in
    subst (λ (ls : List (List ℤ)). IsPicture (picture_with s.headers.siz stripe ls)) (sym planes) (stripe_picture s y z c.coded.invariant both.0 (let order = c.requires.order in omega (arith, order, c.if-y-end.false)) both.1)

-- the rows that are given
rows_are : (s t : ImageSource) (y z : ℕ) (image : Picture) (lists : List (List ℤ)) → s ≡ t → IsImageSource s → (s.area.y0 ≤ y) × (z ≤ s.area.y1) → lists ≡ planes_of_tiles t.bytes t.headers t.reduce (record { x0 = s.area.x0; y0 = y; x1 = s.area.x1; y1 = z })
    → image ≡ picture_with s.headers.siz (record { x0 = s.area.x0; y0 = y; x1 = s.area.x1; y1 = z }) lists → image ≡ rows_of (picture_of t) y z
rows_are s t y z image lists same source both planes is =
    let stripe : Rect = record { x0 = s.area.x0; y0 = y; x1 = s.area.x1; y1 = z } in
    is ∙ ap (picture_with s.headers.siz stripe) (planes_of s t stripe lists same planes) ∙ stripe_rows s y z source both.0 both.1 ∙ ap (λ (x : ImageSource). rows_of (picture_of x) y z) same

pub returns-clause-taken : goal.returns-clause-taken
returns-clause-taken g c =
    let i = c.coded.inside in
    let s : ImageSource = record { headers = i.headers.now; bytes = i.bytes.now; packets = i.packets.now; reduce = i.reduce; area = i.area } in
    let y : ℕ = c.args.y in
    let z : ℕ = c.args.end in
    let took = g.S.Rows.took in
    let both = bounds s c.args.coded.now c.args.row.now.first y z c.coded.view_is c.coded.invariant c.requires.row.whole c.requires.from c.requires.to in
    let image = rows_are s c.args.coded.now y z _ (lists_of c.in_ok-planes.planes.items) c.coded.view_is c.coded.invariant both c.in_ok-planes.ensures.planes (ok_is _ _ (sym c.in_ok-image_of.was ∙ c.image_of.ensures)) in
    on_one c.take.result (λ t. taken_one took (picture_of c.args.coded.now) y z c.args.rows.now c.take.new.self (let order = c.requires.order in omega (arith, order, c.if-y-end.false)) (subst (λ (p : Picture). took c.args.rows.now p c.take.new.self) image t)) c.take.ensures.took

pub returns-clause-cause : goal.returns-clause-cause
returns-clause-cause g c =
    let i = c.coded.inside in
    let s : ImageSource = record { headers = i.headers.now; bytes = i.bytes.now; packets = i.packets.now; reduce = i.reduce; area = i.area } in
    let t = c.args.coded.now in
    let y : ℕ = c.args.y in
    let z : ℕ = c.args.end in
    let both = bounds s t c.args.row.now.first y z c.coded.view_is c.coded.invariant c.requires.row.whole c.requires.from c.requires.to in
    let last = in_rows t c.args.row.now.first y z (subst IsImageSource c.coded.view_is c.coded.invariant) c.requires.row.whole c.requires.from c.requires.to in
    let order = c.requires.order in
    let image = rows_are s t y z _ (lists_of c.in_ok-planes.planes.items) c.coded.view_is c.coded.invariant both c.in_ok-planes.ensures.planes (ok_is _ _ (sym c.in_ok-image_of.was ∙ c.image_of.ensures)) in
    if_err c.take.result (λ e why. elim why [
      | inl memory ↦ inl memory
      | inr refused ↦
          inr (inl (refused_here g.S.Rows.took g.S.Rows.refused (picture_of t) y z t.area.y1 c.args.rows.now c.take.new.self e (omega (arith, order, c.if-y-end.false)) last.1
          (subst (λ (p : Picture). g.S.Rows.refused c.args.rows.now p e c.take.new.self) image refused)))
    ]) c.take.ensures.cause
