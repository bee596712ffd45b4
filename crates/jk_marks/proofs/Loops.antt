-- One step of each loop over a header, and its end.
use Rattle.std.proofs.Common.{◌≡◌, ℕ, suc, ◌+◌, ◌-◌, ◌<◌, ◌≤◌, cond, eqb, List, [], ◌∷◌, ◌++◌, length, Ok, Err, refl, ap, ◌∙◌, arith}
use Rattle.jk_math.specs.Answer.{◌>>=◌}
use Rattle.jk_math.specs.declared.fault.Fault.TheVariants.{Truncated}
use Rattle.jk_marks.specs.declared.head.Heading.{Heading}
use Rattle.jk_marks.specs.declared.head.TileHead.{TileHead}
use Rattle.jk_marks.specs.Place.{ReadingPlace, outside}
use Rattle.jk_marks.specs.Reading.{number, precinct_at, precincts_at, segment_at, segments_at}
use Rattle.jk_marks.specs.HeaderReading.{component_depth_at, components_at}

pub precincts_more : (n i : ℕ) (done : List (ℕ × ℕ)) (p : ReadingPlace) → i < n → precincts_at (n - i) done p ≡ (precinct_at (eqb (length done) 0) p >>= λ r. precincts_at (n - (i + 1)) (done ++ r.0 ∷ []) r.1)
unfolding precincts_at
precincts_more n i done p lt =
    let k : n - i ≡ suc (n - (i + 1)) = omega arith in
    ap (λ m. precincts_at m done p) k ∙ refl

pub precincts_end : (n i : ℕ) (done : List (ℕ × ℕ)) (p : ReadingPlace) → n ≤ i → precincts_at (n - i) done p ≡ Ok (done, p)
unfolding precincts_at
precincts_end n i done p le =
    let k : n - i ≡ 0 = omega arith in
    ap (λ m. precincts_at m done p) k ∙ refl

pub components_more : (n i common : ℕ) (p : ReadingPlace) → i < n → components_at (n - i) common p ≡ (component_depth_at common p >>= λ r. components_at (n - (i + 1)) common r.1)
unfolding components_at
components_more n i common p lt =
    let k : n - i ≡ suc (n - (i + 1)) = omega arith in
    ap (λ m. components_at m common p) k ∙ refl

pub components_end : (n i common : ℕ) (p : ReadingPlace) → n ≤ i → components_at (n - i) common p ≡ Ok (tt, p)
unfolding components_at
components_end n i common p le =
    let k : n - i ≡ 0 = omega arith in
    ap (λ m. components_at m common p) k ∙ refl

pub segments_more : (k i n last : ℕ) (heading : Heading) (head : TileHead) (p : ReadingPlace) → i < k → segments_at (k - i) heading n last head p
    ≡ (number 2 p >>= λ m. cond (eqb m.0 last) (Ok (head, m.1)) (segment_at heading n head m.0 m.1 >>= λ r. segments_at (k - (i + 1)) heading n last r.0 (outside r.1)))
unfolding segments_at
segments_more k i n last heading head p lt =
    let m : k - i ≡ suc (k - (i + 1)) = omega arith in
    ap (λ m. segments_at m heading n last head p) m ∙ refl

pub segments_end : (k i n last : ℕ) (heading : Heading) (head : TileHead) (p : ReadingPlace) → k ≤ i → segments_at (k - i) heading n last head p ≡ Err Truncated
unfolding segments_at
segments_end k i n last heading head p le =
    let m : k - i ≡ 0 = omega arith in
    ap (λ m. segments_at m heading n last head p) m ∙ refl
