-- Decisions written in front of room.
use Rattle.std.proofs.Common.{◌≡◌, ℕ, ◌+◌, ◌/◌, ◌<◌, ◌≤◌, List, All, length, replicate, ◌++◌, take, drop, sym, ap, ◌∙◌, subst, arith}
use Rattle.std.proofs.lemmas.List.{length-append, length-replicate}
use Rattle.std.proofs.lemmas.List.Elements.{All-append, All-replicate}
use Rattle.std.proofs.Math.Seq.{take-append_seam}
use Rattle.jk_model.specs.Decisions.{Decision}
use Rattle.jk_block.specs.encoding.Sheets.{IsSheet, told}

zeros : (n : ℕ) → All (λ byte. byte / 2 < 19) (replicate n 0)
zeros n = All-replicate (λ byte. byte / 2 < 19) n 0 (omega arith)

-- more bytes
pub sheet_wider : (xs ys : List ℕ) (n m : ℕ) → IsSheet xs n → ys ≡ xs ++ replicate 2048 0 → m ≤ n + 2048 → IsSheet ys m
sheet_wider xs ys n m h e few =
    subst (λ (zs : List ℕ). IsSheet zs m) (sym e)
    (let l = length-append xs (replicate 2048 0) in
    let r = length-replicate {A = ℕ} 2048 0 in
    let w = h.within in
    record { within = omega (arith, l, r, w, few); small = All-append (λ byte. byte / 2 < 19) xs (replicate 2048 0) h.small (zeros 2048) })

-- a vector after writes to the slice of all its bytes
whole : (xs ys : List ℕ) (m : ℕ) → m ≡ length ys → take m (ys ++ drop (length ys) xs) ≡ ys
whole xs ys m e = ap (λ m. take m (ys ++ drop (length ys) xs)) e ∙ take-append_seam ys (drop (length ys) xs)

pub sheet_whole : (xs ys : List ℕ) (m n : ℕ) → IsSheet ys n → m ≡ length ys → IsSheet (take m (ys ++ drop (length ys) xs)) n
sheet_whole xs ys m n h e = subst (λ (zs : List ℕ). IsSheet zs n) (sym (whole xs ys m e)) h

pub told_whole : (xs ys : List ℕ) (m n : ℕ) → m ≡ length ys → told (take m (ys ++ drop (length ys) xs)) n ≡ told ys n
told_whole xs ys m n e = ap (λ (zs : List ℕ). told zs n) (whole xs ys m e)

pub sheet_less : (xs : List ℕ) (n m : ℕ) → IsSheet xs n → m ≤ n → IsSheet xs m
sheet_less xs n m h l = let w = h.within in record { within = omega (arith, w, l); small = h.small }

-- a sheet by another name
pub sheet_at : (xs ys : List ℕ) (n m : ℕ) → ys ≡ xs → IsSheet xs n → m ≤ n → IsSheet ys m
sheet_at xs ys n m e h l = sheet_less ys n m (subst (λ (zs : List ℕ). IsSheet zs n) (sym e) h) l

pub told_at : (xs ys zs : List ℕ) (n : ℕ) (ds : List Decision) → told xs n ≡ ds → told ys n ≡ told xs n → zs ≡ ys → told zs n ≡ ds
told_at xs ys zs n ds e g h = ap (λ (zs : List ℕ). told zs n) h ∙ g ∙ e
