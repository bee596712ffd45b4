-- What a file without a header, and one with a header, is refused for.
use Rattle.std.proofs.Common.{◌≡◌, ℕ, ◌+◌, ◌^◌, Bool, true, false, not, cond, eqb, ltb, ◌||◌, nat_eq, List, [], ◌∷◌, length, get_or, drop, Option, Some, None, Result, Ok, Err, refl, subst, inl, inr}
use Rattle.std.proofs.lemmas.Bool.{cases_Bool, eqb-true, eq-eqb}
use Rattle.std.specs.List.{starts_with, find, range_with_len}
use Rattle.jk_math.specs.Answer.{◌>>=◌, refuse}
use Rattle.jk_math.specs.Picture.{IsPicture}
use Rattle.jk_math.specs.declared.fault.Fault.{Fault}
use Rattle.jk_math.specs.declared.fault.Fault.TheVariants.{BadPnm}
use Rattle.jk_pnm.specs.declared.header.Header.{Header}
use Rattle.jk_pnm.specs.Pnm.{is_space, is_line_end, magic_text}
use Rattle.jk_pnm.specs.Reading.{magic_at, after_gap, gap_at, digits_at, number_at, field_at, or_bad, depth_at, header_at, raster_size, picture_of, picture_at, pnm_at}
use Rattle.jk_pnm.proofs.FileLaws.{header_found}
use Rattle.jk_pnm.proofs.PictureLaws.{picture_below, picture_ok}

-- ---- a header is refused for one fault

refused_then : {A B : Type 0} (r : Result A Fault) (f : A → Result B Fault) (e : Fault) → ((d : Fault) → r ≡ Err d → d ≡ BadPnm) → ((x : A) (d : Fault) → f x ≡ Err d → d ≡ BadPnm)
    → (r >>= f) ≡ Err e → e ≡ BadPnm
refused_then (Ok x) f e h k is = k x e is
refused_then (Err d) f e h k is = (let same : d ≡ e = cc in subst (λ (c : Fault). c ≡ BadPnm) same (h d refl))

refuse_bad : (b : Bool) (d : Fault) → refuse b BadPnm ≡ Err d → d ≡ BadPnm
refuse_bad true d is = cc
refuse_bad false d is = absurd cc

magic_step : (grey colour : Bool) (d : Fault) → (let r : Result Bool Fault = cond grey (Ok false) (cond colour (Ok true) (Err BadPnm)) in r) ≡ Err d → d ≡ BadPnm
magic_step true colour d is = absurd cc
magic_step false true d is = absurd cc
magic_step false false d is = cc

pub magic_bad : (bytes : List ℕ) (d : Fault) → magic_at bytes ≡ Err d → d ≡ BadPnm
unfolding magic_at
magic_bad bytes d is = magic_step (starts_with nat_eq bytes (magic_text false)) (starts_with nat_eq bytes (magic_text true)) d is

gap_step : (hash space : Bool) (c : ℕ) (cs : List ℕ) (d : Fault) → ((comment : Bool) → after_gap comment cs ≡ Err d → d ≡ BadPnm)
    → cond hash (after_gap true cs) (cond space (after_gap false cs) (Ok (c ∷ cs))) ≡ Err d → d ≡ BadPnm
gap_step true space c cs d go is = go true is
gap_step false true c cs d go is = go false is
gap_step false false c cs d go is = absurd cc

after_gap_bad : (bytes : List ℕ) (comment : Bool) (d : Fault) → after_gap comment bytes ≡ Err d → d ≡ BadPnm
unfolding after_gap
after_gap_bad [] true d is = cc
after_gap_bad [] false d is = cc
after_gap_bad (c ∷ cs) true d is = after_gap_bad cs (not (is_line_end c)) d is
after_gap_bad (c ∷ cs) false d is = gap_step (eqb c 35) (is_space c) c cs d (λ k f. after_gap_bad cs k d f) is

guarded_bad : {A : Type 0} (b : Bool) (x : A) (d : Fault) → (refuse b BadPnm >>= (λ t. let r : Result A Fault = Ok x in r)) ≡ Err d → d ≡ BadPnm
guarded_bad true x d is = cc
guarded_bad false x d is = absurd cc

gap_bad : (bytes : List ℕ) (d : Fault) → gap_at bytes ≡ Err d → d ≡ BadPnm
unfolding gap_at
gap_bad bytes d is = refused_then (after_gap false bytes) _ d (after_gap_bad bytes false) (λ rest d is. guarded_bad (eqb (length rest) (length bytes)) rest d is) is

number_bad : (bytes : List ℕ) (d : Fault) → number_at bytes ≡ Err d → d ≡ BadPnm
unfolding number_at
number_bad bytes d is = guarded_bad (eqb (digits_at 0 bytes).0 0 || ltb (2 ^ 28) (digits_at 0 bytes).0) (digits_at 0 bytes) d is

field_bad : (bytes : List ℕ) (d : Fault) → field_at bytes ≡ Err d → d ≡ BadPnm
unfolding field_at
field_bad bytes d is = refused_then (gap_at bytes) _ d (gap_bad bytes) number_bad is

found_bad : (o : Option ℕ) (d : Fault) → or_bad o ≡ Err d → d ≡ BadPnm
found_bad (Some n) d is = absurd cc
found_bad None d is = cc

depth_bad : (maxval : ℕ) (d : Fault) → depth_at maxval ≡ Err d → d ≡ BadPnm
unfolding depth_at
depth_bad maxval d is = found_bad (find (λ depth. eqb (2 ^ depth) (maxval + 1)) (range_with_len 1 16)) d is

pub header_bad : (bytes : List ℕ) (d : Fault) → header_at bytes ≡ Err d → d ≡ BadPnm
unfolding header_at
header_bad bytes d is =
    refused_then (magic_at bytes) _ d (magic_bad bytes) (λ colour d is.
    refused_then (field_at (drop 2 bytes)) _ d (field_bad (drop 2 bytes)) (λ width d is.
    refused_then (field_at width.1) _ d (field_bad width.1) (λ height d is.
    refused_then (field_at height.1) _ d (field_bad height.1) (λ maxval d is.
    refused_then (depth_at maxval.0) _ d (depth_bad maxval.0) (λ depth d is.
    refused_then (refuse (eqb (length maxval.1) 0 || not (is_space (get_or maxval.1 0 0))) BadPnm) _ d (refuse_bad _) (λ t d is.
    guarded_bad _ _ d is
    ) is) is) is) is) is) is

-- ---- what is behind a header

-- a file without a header
pub pnm_unheaded : (bytes : List ℕ) (d : Fault) → header_at bytes ≡ Err d → pnm_at bytes ≡ Err BadPnm
unfolding pnm_at
pnm_unheaded bytes d is = (let bad = header_bad bytes d is in rw (is, bad) refl)

-- a file whose raster is refused by its length or by its samples
pub pnm_bad : (bytes : List ℕ) (h : Header) (raster : List ℕ) → header_at bytes ≡ Ok (h, raster) → (length raster ≡ raster_size h → picture_at h raster ≡ Err BadPnm) → pnm_at bytes ≡ Err BadPnm
unfolding pnm_at
pnm_bad bytes h raster is bad = elim (cases_Bool (eqb (length raster) (raster_size h))) [
  | inl same ↦ rw (is, same) (bad (eqb-true _ _ same))
  | inr other ↦ rw (is, other) refl
]

-- a file with the raster that its header asks for, whose samples are in their range
pub pnm_fine : (bytes : List ℕ) (h : Header) (raster : List ℕ) → header_at bytes ≡ Ok (h, raster) → length raster ≡ raster_size h → IsPicture (picture_of h raster) → pnm_at bytes ≡ Ok (picture_of h raster)
unfolding pnm_at
pnm_fine bytes h raster is whole picture =
    let told = header_found bytes (h, raster) is in
    let read = picture_ok h raster (picture_below h raster told.depth.0 picture) in
    rw (is, eq-eqb (length raster) (raster_size h) whole) read
