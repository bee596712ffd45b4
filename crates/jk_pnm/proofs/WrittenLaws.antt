-- What is written is a PNM file of the picture.
use Rattle.std.proofs.Common.{◌≡◌, ℕ, ◌+◌, ◌-◌, ◌*◌, ◌^◌, ◌≤◌, Bool, true, false, not, ◌||◌, eqb, List, [], ◌∷◌, ◌++◌, length, map, All, ℤ, pos, refl, sym, ap, subst, ◌∙◌, append_assoc, inl, inr, arith, lit<}
use Rattle.std.specs.List.{range_with_len, AllByRecursion}
use Rattle.std.specs.Fmt.{decimal}
use Rattle.std.proofs.Math.Nat.{pow-le-pow_right}
use Rattle.std.proofs.lemmas.Bool.{eqb-true, and_parts, not-true, or_cases}
use Rattle.jk_math.specs.Picture.{Picture, IsPicture, IsPlane}
use Rattle.jk_pnm.specs.Pnm.{Space, number_of, Text, pnm_text, components_of, sample_size, plane_from, planes_from, IsPnm}
use Rattle.jk_pnm.specs.Written.{is_written, maxval_of, header_text, raster_part, raster_text, file_text}
use Rattle.jk_pnm.proofs.NumberLaws.{decimal_value, decimal_number}
use Rattle.jk_pnm.proofs.PictureLaws.{planes_below}
use Rattle.jk_pnm.proofs.FileLaws.{below_told}
use Rattle.jk_pnm.proofs.RasterLaws.{raster_length, planes_back}

-- what the test of a picture says
written_parts : (p : Picture) → is_written p ≡ true → (p.signed ≡ false) × (components_of (eqb (length p.planes) 3) ≡ length p.planes)
written_parts p e =
    let both = and_parts (not p.signed) (eqb (length p.planes) 1 || eqb (length p.planes) 3) e in (
      not-true p.signed both.0,
      elim (or_cases (eqb (length p.planes) 1) (eqb (length p.planes) 3) both.1) [
        | inl one ↦ let n = eqb-true (length p.planes) 1 one in ap (λ (k : ℕ). components_of (eqb k 3)) n ∙ sym n
        | inr three ↦ ap components_of three ∙ sym (eqb-true (length p.planes) 3 three)
      ],
    )

-- a picture with a file that hasn't one component has three
pub three_components : (p : Picture) → is_written p ≡ true → (length p.planes ≡ 1 → ⊥) → length p.planes ≡ 3
three_components p e other =
    let both = and_parts (not p.signed) (eqb (length p.planes) 1 || eqb (length p.planes) 3) e in
    elim (or_cases (eqb (length p.planes) 1) (eqb (length p.planes) 3) both.1) [
      | inl one ↦ absurd (other (eqb-true (length p.planes) 1 one))
      | inr three ↦ eqb-true (length p.planes) 3 three
    ]

-- what the file of a picture says
told_of : Picture → Text
told_of p = record {
  colour = eqb (length p.planes) 3;
  before_width = Space 10 ∷ [];
  width = decimal p.width;
  before_height = Space 32 ∷ [];
  height = decimal p.height;
  before_maxval = Space 10 ∷ [];
  maxval = decimal (maxval_of p.depth);
  space = 10;
  raster = raster_text (maxval_of p.depth) p.planes (p.width * p.height);
}

told_text : (p : Picture) → file_text p ≡ pnm_text (told_of p)
unfolding file_text pnm_text told_of
told_text p = simp append_assoc

-- the planes of a picture are those of its raster, and no sample is above maxval
raster_below : (m depth pixels : ℕ) (planes : List (List ℤ)) → 2 ^ depth ≡ m + 1 → All (IsPlane pixels depth false) planes → AllByRecursion (AllByRecursion (λ s. s ≤ m)) (planes_from m (length planes) pixels (raster_text m planes pixels))
unfolding planes_from
raster_below m depth pixels planes bits each =
    let n : ℕ = length planes in
    let r : List ℕ = raster_text m planes pixels in
    let back : planes ≡ map (map pos) (map (plane_from m n pixels r) (range_with_len 0 n)) = planes_back m depth planes pixels each in
    below_told m (map (plane_from m n pixels r) (range_with_len 0 n)) (planes_below m n pixels depth r (range_with_len 0 n) bits (subst (λ (ps : List (List ℤ)). All (IsPlane pixels depth false) ps) back each))

pub written_means : (p : Picture) (bytes : List ℕ) → IsPicture p → is_written p ≡ true → bytes ≡ file_text p → IsPnm bytes (record p { x0 = 0; y0 = 0 })
unfolding told_of
written_means p bytes is written text =
    let parts = written_parts p written in
    let m : ℕ = maxval_of p.depth in
    let pixels : ℕ = p.width * p.height in
    let n : ℕ = length p.planes in
    let r : List ℕ = raster_text m p.planes pixels in
    let low : 2 ^ 1 ≤ 2 ^ p.depth = pow-le-pow_right {n = 2} (lit< tt) is.components.some_bits in
    let high : 2 ^ p.depth ≤ 2 ^ 16 = pow-le-pow_right {n = 2} (lit< tt) is.components.few_bits in
    let bits : 2 ^ p.depth ≡ m + 1 = omega (arith, low) in
    let m-value : number_of (decimal m) ≡ m = decimal_value m (omega (arith, high)) in
    let w-value : number_of (decimal p.width) ≡ p.width = decimal_value p.width (omega (arith, is.frame.right)) in
    let h-value : number_of (decimal p.height) ≡ p.height = decimal_value p.height (omega (arith, is.frame.lower)) in
    let each : All (IsPlane pixels p.depth false) p.planes = subst (λ (b : Bool). All (IsPlane pixels p.depth b) p.planes) parts.0 is.components.each in
    let back : p.planes ≡ map (map pos) (planes_from m n pixels r) = planes_back m p.depth p.planes pixels each in
    let named : planes_from m n pixels r ≡ planes_from (number_of (decimal m)) (components_of (eqb n 3)) pixels r =
    ap (λ (k : ℕ). planes_from k n pixels r) (sym m-value) ∙ ap (λ (k : ℕ). planes_from (number_of (decimal m)) k pixels r) (sym parts.1) in
    let length-is : length r ≡ pixels * (n * sample_size m) = raster_length m p.planes pixels in
    let shape : pixels * (n * sample_size m) ≡ pixels * n * sample_size m = omega arith in
    let size-is : pixels * n * sample_size m ≡ pixels * components_of (eqb n 3) * sample_size (number_of (decimal m)) =
    ap (λ (k : ℕ). pixels * k * sample_size m) (sym parts.1) ∙ ap (λ (k : ℕ). pixels * components_of (eqb n 3) * sample_size k) (sym m-value) in
    let below = raster_below m p.depth pixels p.planes bits each in
    record {
      told = told_of p;
      text = text ∙ told_text p;
      rules = record {
        before_width = record { some = omega arith; each = (refl, tt) };
        width = decimal_number p.width is.frame.wide (omega (arith, is.frame.right));
        before_height = record { some = omega arith; each = (refl, tt) };
        height = decimal_number p.height is.frame.high (omega (arith, is.frame.lower));
        before_maxval = record { some = omega arith; each = (refl, tt) };
        maxval = decimal_number m (omega (arith, low)) (omega (arith, high));
        space = refl;
      };
      shows = record {
        corner = (refl, refl);
        width = sym w-value;
        height = sym h-value;
        area = is.frame.area;
        depth = omega (arith, bits, m-value);
        few_bits = (is.components.some_bits, is.components.few_bits);
        unsigned = parts.0;
        whole = length-is ∙ shape ∙ size-is;
        planes = back ∙ ap (λ (ps : List (List ℕ)). map (map pos) ps) named;
        below = subst (λ (k : ℕ). AllByRecursion (AllByRecursion (λ s. s ≤ k)) (planes_from (number_of (decimal m)) (components_of (eqb n 3)) pixels r)) (sym m-value)
            (subst (λ (ps : List (List ℕ)). AllByRecursion (AllByRecursion (λ s. s ≤ m)) ps) named below);
      };
    }

-- what the file of a picture is: its head, and the raster behind it
pub file_joined : (p : Picture) (head : List ℕ) → head ≡ header_text (eqb (length p.planes) 3) p.width p.height (maxval_of p.depth)
    → head ++ raster_text (maxval_of p.depth) p.planes (p.width * p.height) ≡ file_text p
unfolding file_text
file_joined p head is = ap (λ (ys : List ℕ). ys ++ raster_text (maxval_of p.depth) p.planes (p.width * p.height)) is

pub file_of : (p : Picture) (head now : List ℕ) (m pixels : ℕ) → head ≡ header_text (eqb (length p.planes) 3) p.width p.height (maxval_of p.depth) → m ≡ maxval_of p.depth → pixels ≡ p.width * p.height
    → now ≡ head ++ raster_part m p.planes 0 (pixels - 0) → now ≡ file_text p
file_of p head now m pixels is most all text =
    let none : pixels - 0 ≡ p.width * p.height = omega (arith, all) in
    text ∙ ap (λ (k : ℕ). head ++ raster_part k p.planes 0 (pixels - 0)) most ∙ ap (λ (k : ℕ). head ++ raster_part (maxval_of p.depth) p.planes 0 k) none ∙ file_joined p head is
