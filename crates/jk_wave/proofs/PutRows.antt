-- The rows of a part of a sub-band, put at their places in a list.
use Rattle.std.proofs.Common.{◌≡◌, ◌≢◌, ℕ, ◌+◌, ◌-◌, ◌*◌, ◌<◌, ◌≤◌, inl, inr, List, length, take, drop, replicate, ℤ, pos, refl, sym, ◌∙◌, ap, subst, arith}
use Rattle.std.proofs.Math.Nat.{mul-le-mul_right}
use Rattle.std.proofs.lemmas.Bool.{cases_eq, cases_lt}
use Rattle.std.proofs.lemmas.List.{get_or-take, get_or-drop, get_or_past, length-replicate, get_or-replicate}
use borrow.Rule.Slice.PartMut.{put_mid}
use Rattle.jk_math.specs.declared.rect.Rect.{Rect}
use Rattle.jk_math.specs.Raster.{columns_of, rows_of, places_of, plane_at}
use Rattle.jk_math.specs.Signed.{signed_at}
use Rattle.jk_geom.specs.Rectangles.{IsWithin}
use Rattle.jk_wave.specs.declared.places.BandRows.{BandRows}
use Rattle.jk_wave.specs.LevelRows.{index_in, coefficient_of, part_rows, AreZeros, IsBegun}
use Rattle.jk_wave.proofs.PartRows.{part_apart}
use Rattle.jk_wave.proofs.Rows.{mid_put, mid_kept}

-- The first rows stand at their places, and what stands elsewhere is as it was.
pub record ArePut (b : BandRows) (row : ℕ) (band old new : List ℤ) : Type 0 where
  pub written : (j x : ℕ) → j < row → x < columns_of b.area → signed_at new (b.start + j * b.step + x) ≡ signed_at band (j * columns_of b.area + x)
  pub others : (k : ℕ) → ((j x : ℕ) → j < row → x < columns_of b.area → b.start + j * b.step + x ≢ k) → signed_at new k ≡ signed_at old k

pub none_put : (b : BandRows) (band old : List ℤ) → ArePut b 0 band old old
none_put b band old = record { written = λ j x lj lx. absurd (omega arith); others = λ k away. refl }

-- one row more
pub row_more : (b : BandRows) (row at k from : ℕ) (band initial old line : List ℤ) → columns_of b.area ≤ b.step →
    at ≡ b.start + row * b.step → k ≡ columns_of b.area → from ≡ row * columns_of b.area → length line ≡ k → at + k ≤ length old →
    ((x : ℕ) → x < k → signed_at line x ≡ signed_at band (from + x)) →
    ArePut b row band initial old → ArePut b (row + 1) band initial (put_mid at k old line)
row_more b row at k from band initial old line apart start wide begin long fits is before =
    let w : ℕ = columns_of b.area in
    record {
      written = λ j x lj lx. elim (cases_eq j row) [
        | inl e ↦
            let place : b.start + row * b.step + x ≡ at + x = omega arith in
            let there : from + x ≡ row * w + x = omega arith in
            subst (λ n. signed_at (put_mid at k old line) (b.start + n * b.step + x) ≡ signed_at band (n * w + x)) (sym e)
            (ap (signed_at (put_mid at k old line)) place ∙ mid_put at k old line long fits x (omega arith) ∙ is x (omega arith) ∙ ap (signed_at band) there)
        | inr ne ↦
            let under : (j + 1) * b.step ≤ row * b.step = mul-le-mul_right b.step (omega arith) in
            let spread : (j + 1) * b.step ≡ j * b.step + b.step = omega arith in
            mid_kept at k old line long fits (b.start + j * b.step + x) (inl (omega arith)) ∙ before.written j x (omega arith) lx
      ];
      others = λ i away. elim (cases_lt i at) [
        | inl lt ↦ mid_kept at k old line long fits i (inl lt) ∙ before.others i (λ j x lj lx. away j x (omega arith) lx)
        | inr ge ↦ elim (cases_lt i (at + k)) [
          | inl inside ↦ absurd (away row (i - at) (omega arith) (omega arith) (omega arith))
          | inr behind ↦ mid_kept at k old line long fits i (inr behind) ∙ before.others i (λ j x lj lx. away j x (omega arith) lx)
        ]
      ];
    }

-- a row of the part, as it is lent
pub lent_row : (band : List ℤ) (from k x : ℕ) → x < k → signed_at (take k (drop from band)) x ≡ signed_at band (from + x)
lent_row band from k x h = get_or-take k (drop from band) x (pos 0) h ∙ get_or-drop from band x (pos 0)

-- all rows, by columns and rows
pub all_written : (b : BandRows) (row : ℕ) (band old new : List ℤ) → row ≡ rows_of b.area → ArePut b row band old new →
    (x y : ℕ) → IsWithin b.area x y → coefficient_of b new x y ≡ plane_at b.area band x y
all_written b row band old new all h x y w =
    let left = w.left in let right = w.right in let upper = w.upper in let lower = w.lower in
    h.written (y - b.area.y0) (x - b.area.x0) (omega arith) (omega arith)

pub all_others : (b : BandRows) (row : ℕ) (band old new : List ℤ) → row ≡ rows_of b.area → ArePut b row band old new →
    (k : ℕ) → ((x y : ℕ) → IsWithin b.area x y → index_in b x y ≢ k) → signed_at new k ≡ signed_at old k
all_others b row band old new all h k away = h.others k (λ j x lj lx.
    let across : b.area.x0 + x - b.area.x0 ≡ x = omega arith in
    let down : b.area.y0 + j - b.area.y0 ≡ j = omega arith in
    subst (λ n. b.start + n * b.step + x ≢ k) down (subst (λ n. b.start + (b.area.y0 + j - b.area.y0) * b.step + n ≢ k) across
    (away (b.area.x0 + x) (b.area.y0 + j) (record { left = omega arith; right = omega arith; upper = omega arith; lower = omega arith }))))

-- LL among zeros
pub begun_is : (a : Rect) (b : BandRows) (below old new : List ℤ) → b ≡ part_rows a 0 → AreZeros (places_of a) old → length new ≡ length old →
    ((x y : ℕ) → IsWithin b.area x y → coefficient_of b new x y ≡ plane_at b.area below x y) →
    ((k : ℕ) → ((x y : ℕ) → IsWithin b.area x y → index_in b x y ≢ k) → signed_at new k ≡ signed_at old k) → IsBegun a below new
begun_is a b below old new is blank long written others = record {
  places = long ∙ blank.count;
  low = subst (λ (p : BandRows). (x y : ℕ) → IsWithin p.area x y → coefficient_of p new x y ≡ plane_at p.area below x y) is written;
  zeros = λ o x y some few w.
      let k : ℕ = index_in (part_rows a o) x y in
      subst (λ (p : BandRows). ((x y : ℕ) → IsWithin p.area x y → index_in p x y ≢ k) → signed_at new k ≡ signed_at old k) is (others k)
      (λ u v there same. let both = (part_apart a 0 o u v x y (omega arith) few there w same).0 in omega arith)
      ∙ blank.zeros k;
}

pub zeros_are : (n m : ℕ) (values : List ℤ) → values ≡ replicate n (pos 0) → n ≡ m → AreZeros m values
zeros_are n m values is count = record {
  count = ap length is ∙ length-replicate n (pos 0) ∙ count;
  zeros = λ k. ap (λ l. signed_at l k) is ∙ zero_at k;
}
  where
    zero_at : (k : ℕ) → signed_at (replicate n (pos 0)) k ≡ pos 0
    zero_at k = elim (cases_lt k n) [
      | inl lt ↦ get_or-replicate n k (pos 0) (pos 0) lt
      | inr ge ↦ get_or_past (replicate n (pos 0)) k (pos 0) (rw length-replicate ge)
    ]
