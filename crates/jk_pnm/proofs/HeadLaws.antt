-- A header is read from the beginning of a file as from the whole.
use Rattle.std.proofs.Common.{◌≡◌, ℕ, ◌+◌, ◌*◌, ◌^◌, ◌≤◌, Bool, List, ◌∷◌, ◌++◌, Result, Ok, refl, sym, ap, ◌∙◌, append_assoc, arith}
use Rattle.std.proofs.Math.Nat.{mul_comm}
use Rattle.jk_math.specs.declared.fault.Fault.{Fault}
use Rattle.jk_pnm.specs.declared.header.Header.{Header}
use Rattle.jk_pnm.specs.Pnm.{gap_text, number_of, Text, IsText, magic_text, pnm_text}
use Rattle.jk_pnm.specs.Reading.{header_at}
use Rattle.jk_pnm.proofs.FileLaws.{header_found, header_again, header_of, side_of_area, maxval_few}

-- a text with more behind its raster
abbrev longer : Text → List ℕ → Text
longer t more = record t { raster = t.raster ++ more }

-- what stands behind the last of two lists stands behind both
behind : (a b c more : List ℕ) → c ≡ b ++ more → a ++ c ≡ (a ++ b) ++ more
behind a b c more e = ap (λ (xs : List ℕ). a ++ xs) e ∙ sym (append_assoc a b more)

text_longer : (t : Text) (more : List ℕ) → pnm_text (longer t more) ≡ pnm_text t ++ more
unfolding pnm_text
text_longer t more =
    let r7 = t.space ∷ t.raster in
    let r6 = t.maxval ++ r7 in
    let r5 = gap_text t.before_maxval ++ r6 in
    let r4 = t.height ++ r5 in
    let r3 = gap_text t.before_height ++ r4 in
    let r2 = t.width ++ r3 in
    let r1 = gap_text t.before_width ++ r2 in
    let e7 : t.space ∷ (t.raster ++ more) ≡ r7 ++ more = refl in
    let e6 = behind t.maxval r7 _ more e7 in
    let e5 = behind (gap_text t.before_maxval) r6 _ more e6 in
    let e4 = behind t.height r5 _ more e5 in
    let e3 = behind (gap_text t.before_height) r4 _ more e4 in
    let e2 = behind t.width r3 _ more e3 in
    let e1 = behind (gap_text t.before_width) r2 _ more e2 in
    behind (magic_text t.colour) r1 _ more e1

abbrev header_with : Bool → (width height maxval depth : ℕ) → Header
header_with colour width height maxval depth = record { colour = colour; width = width; height = height; maxval = maxval; depth = depth }

pub header_forward : (front more : List ℕ) (x : Header × List ℕ) → header_at front ≡ Ok x → header_at (front ++ more) ≡ Ok (x.0, x.1 ++ more)
header_forward front more x e =
    let o = header_found front x e in
    let t = o.told in
    let w = number_of t.width in
    let h = number_of t.height in
    let m = number_of t.maxval in
    let area : w * h ≤ 2 ^ 28 = (let big = o.area in let wide = o.width in let high = o.height in rw (wide, high) big) in
    let w-few = side_of_area w h o.rules.height.some area in
    let h-few = side_of_area h w o.rules.width.some (omega (arith, area, mul_comm h w)) in
    let bits : 2 ^ x.0.depth ≡ m + 1 = (let b = o.depth.0 in let is = o.maxval in omega (arith, b, is)) in
    let m-few = maxval_few x.0.depth m bits o.depth.2 in
    let r = o.rules in
    let rules : IsText (longer t more) = record {
      before_width = r.before_width;
      width = r.width;
      before_height = r.before_height;
      height = r.height;
      before_maxval = r.before_maxval;
      maxval = r.maxval;
      space = r.space;
    } in
    let again = header_again (longer t more) x.0.depth rules bits (o.depth.1, o.depth.2) w-few h-few m-few area in
    let same : header_of t x.0.depth ≡ x.0 =
    ap (λ (k : Bool). header_with k w h m x.0.depth) o.colour
    ∙ ap (λ (n : ℕ). header_with x.0.colour n h m x.0.depth) o.width
    ∙ ap (λ (n : ℕ). header_with x.0.colour x.0.width n m x.0.depth) o.height
    ∙ ap (λ (n : ℕ). header_with x.0.colour x.0.width x.0.height n x.0.depth) o.maxval in
    ap (λ (bytes : List ℕ). header_at bytes) (ap (λ (bytes : List ℕ). bytes ++ more) o.text ∙ sym (text_longer t more))
    ∙ again
    ∙ ap (λ (k : Header). let r : Result (Header × List ℕ) Fault = Ok (k, t.raster ++ more) in r) same
    ∙ ap (λ (raster : List ℕ). let r : Result (Header × List ℕ) Fault = Ok (x.0, raster ++ more) in r) o.raster
