-- The raster is the end of a file, and is read from there.
use Rattle.std.proofs.Common.{◌≡◌, ℕ, ◌+◌, ◌-◌, ◌*◌, ◌≤◌, false, ltb, List, [], ◌∷◌, ◌++◌, length, map, drop, reverse, ℤ, pos, Ok, refl, sym, ap, subst, ◌∙◌, arith, append_assoc, length-append}
use Rattle.std.specs.List.{range_with_len}
use Rattle.std.proofs.lemmas.Bool.{eq-eqb}
use Rattle.std.proofs.lemmas.List.{reverse-append, reverse-reverse}
use Rattle.jk_pnm.specs.declared.header.Header.{Header}
use Rattle.jk_pnm.specs.Pnm.{Text, pnm_text, magic_text, gap_text, components_of, plane_from}
use Rattle.jk_pnm.specs.Reading.{raster_size, samples_of, header_at, picture_at, pnm_at}
use Rattle.jk_pnm.proofs.PlaneLaws.{grey_plane_is, grey_size, planes_are}
use Rattle.jk_pnm.proofs.FileLaws.{header_found}

-- ---- the end of a list

IsEnd : List ℕ → List ℕ → Type 0
IsEnd tail bytes = (front : List ℕ) × (bytes ≡ front ++ tail)

end_more : (tail xs bytes : List ℕ) → IsEnd tail bytes → IsEnd tail (xs ++ bytes)
unfolding IsEnd
end_more tail xs bytes is = (xs ++ is.0, ap (λ (ys : List ℕ). xs ++ ys) is.1 ∙ sym (append_assoc xs is.0 tail))

end_same : (tail : List ℕ) → IsEnd tail tail
unfolding IsEnd
end_same tail = ([], refl)

text_end : (t : Text) → IsEnd t.raster (pnm_text t)
unfolding pnm_text
text_end t =
    let r = t.raster in
    let space = end_more r (t.space ∷ []) r (end_same r) in
    let maxval = end_more r (gap_text t.before_maxval) _ (end_more r t.maxval _ space) in
    let height = end_more r (gap_text t.before_height) _ (end_more r t.height _ maxval) in
    let width = end_more r (gap_text t.before_width) _ (end_more r t.width _ height) in
    end_more r (magic_text t.colour) _ width

drop_front : (front tail : List ℕ) → drop (length front) (front ++ tail) ≡ tail
drop_front [] tail = refl
drop_front (x ∷ front) tail = drop_front front tail

-- what stands behind so much
pub tail_is : (bytes front tail : List ℕ) (n : ℕ) → bytes ≡ front ++ tail → n ≡ length tail → drop (length bytes - n) bytes ≡ tail
tail_is bytes front tail n e count =
    let long : length bytes ≡ length front + length tail = ap (λ (xs : List ℕ). length xs) e ∙ length-append front tail in
    let place : length bytes - n ≡ length front = omega (arith, long, count) in
    ap (λ m. drop m bytes) place ∙ ap (drop (length front)) e ∙ drop_front front tail

-- the raster stands at the end of its file
pub record IsBehind (bytes raster : List ℕ) (n : ℕ) : Type 0 where
  pub room : n ≤ length bytes
  pub tail : drop (length bytes - n) bytes ≡ raster

pub raster_behind : (bytes : List ℕ) (x : Header × List ℕ) (n : ℕ) → header_at bytes ≡ Ok x → length x.1 ≡ n → IsBehind bytes x.1 n
unfolding IsEnd
raster_behind bytes x n e count =
    let found = header_found bytes x e in
    let is : IsEnd x.1 bytes = subst (IsEnd x.1) (sym found.text) (subst (λ (r : List ℕ). IsEnd r (pnm_text found.told)) found.raster (text_end found.told)) in
    let long : length bytes ≡ length is.0 + length x.1 = ap (λ (xs : List ℕ). length xs) is.1 ∙ length-append is.0 x.1 in
    record {
      room = omega (arith, long, count);
      tail = tail_is bytes is.0 x.1 n is.1 (sym count);
    }

-- the picture of a file, from its end
pnm_given : (bytes : List ℕ) (x : Header × List ℕ) → header_at bytes ≡ Ok x → length x.1 ≡ raster_size x.0 → pnm_at bytes ≡ picture_at x.0 x.1
unfolding pnm_at
pnm_given bytes x e count = rw (e, eq-eqb (length x.1) (raster_size x.0) count) refl

pub pnm_behind : (bytes : List ℕ) (x : Header × List ℕ) (n : ℕ) → header_at bytes ≡ Ok x → length x.1 ≡ raster_size x.0 → n ≡ raster_size x.0 → picture_at x.0 (drop (length bytes - n) bytes) ≡ pnm_at bytes
pnm_behind bytes x n e count size = ap (picture_at x.0) (raster_behind bytes x n e (count ∙ sym size)).tail ∙ sym (pnm_given bytes x e count)

-- the plane of a file with samples of one byte
pub grey_plane : (h : Header) (raster : List ℕ) (samples : List ℤ) → h.colour ≡ false → ltb 255 h.maxval ≡ false → length raster ≡ raster_size h → samples ≡ map pos raster
    → samples ∷ [] ≡ map (map pos) (samples_of h raster)
grey_plane h raster samples grey narrow whole are =
    let n = components_of h.colour in
    let one : n ≡ 1 = ap components_of grey in
    let plane : ℕ → List ℤ = λ c. map pos (plane_from h.maxval n (h.width * h.height) raster c) in
    let own = grey_plane_is h.maxval n (h.width * h.height) 0 raster one (omega (arith, one)) (whole ∙ grey_size h one narrow) narrow in
    ap (λ (zs : List ℤ). zs ∷ []) (are ∙ own) ∙ sym (ap (λ m. map plane (range_with_len 0 m)) one) ∙ planes_are h.maxval n (h.width * h.height) raster

-- ---- reading from the end

-- The last bytes are read, the very last first.
pub record IsReadBack (bytes left : List ℕ) (samples : List ℤ) (n : ℕ) : Type 0 where
  pub done : List ℕ
  pub whole : bytes ≡ left ++ done
  pub values : samples ≡ reverse (map pos done)
  pub count : length done ≡ n

pub back_starts : (bytes left : List ℕ) (samples : List ℤ) → left ≡ bytes → samples ≡ [] → IsReadBack bytes left samples 0
back_starts bytes left samples e none = record {
  done = [];
  whole = sym e ∙ sym (append-end left);
  values = none;
  count = refl;
}
  where
    append-end : (xs : List ℕ) → xs ++ [] ≡ xs
    append-end [] = refl
    append-end (x ∷ xs) = ap (λ (ys : List ℕ). x ∷ ys) (append-end xs)

pub back_more : (bytes left after : List ℕ) (samples new : List ℤ) (n byte : ℕ) (value : ℤ) → IsReadBack bytes left samples n → left ≡ after ++ byte ∷ [] → new ≡ samples ++ value ∷ [] → value ≡ pos byte
    → IsReadBack bytes after new (n + 1)
back_more bytes left after samples new n byte value is popped pushed sample = record {
  done = byte ∷ is.done;
  whole = is.whole ∙ ap (λ (xs : List ℕ). xs ++ is.done) popped ∙ append_assoc after (byte ∷ []) is.done;
  values =
      pushed ∙ ap (λ (zs : List ℤ). zs ++ value ∷ []) is.values ∙ ap (λ (z : ℤ). reverse (map pos is.done) ++ z ∷ []) sample
      ∙ sym (reverse-append (pos byte ∷ []) (map pos is.done));
  count = let count = is.count in omega (arith, count);
}

pub back_all : (bytes left : List ℕ) (samples : List ℤ) (n count : ℕ) → IsReadBack bytes left samples n → n ≡ count → reverse samples ≡ map pos (drop (length bytes - count) bytes)
back_all bytes left samples n count is all =
    ap (λ (zs : List ℤ). reverse zs) is.values ∙ reverse-reverse (map pos is.done)
    ∙ ap (λ (xs : List ℕ). map pos xs) (sym (tail_is bytes left is.done count is.whole (sym all ∙ sym is.count)))

pub back_left : (bytes left : List ℕ) (samples : List ℤ) (n : ℕ) → IsReadBack bytes left samples n → length bytes ≡ length left + n
back_left bytes left samples n is =
    let long : length bytes ≡ length left + length is.done = ap (λ (xs : List ℕ). length xs) is.whole ∙ length-append left is.done in
    let count = is.count in
    omega (arith, long, count)
