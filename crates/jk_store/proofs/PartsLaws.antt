-- Parts of a file: their lengths and digests, and a stretch of one.
use Rattle.std.proofs.Common.{◌≡◌, ℕ, ◌+◌, ◌-◌, ◌*◌, ◌<◌, ◌≤◌, min, List, [], ◌∷◌, ◌++◌, length, take, drop, map, slice_get, Some, refl, sym, ap, ◌∙◌, subst, arith, length-drop}
use Rattle.std.specs.List.{range_with_len}
use Rattle.std.proofs.lemmas.List.{length-take, take_min, take_rest, drop-take, take-take, drop-drop, append_assoc}
use Rattle.std.proofs.lemmas.List.FromFn.{length-map-range_with_len, get_or-map-range_with_len, map-range_with_len_more}
use Rattle.std.proofs.lemmas.Option.{slice_get-get_or}
use Rattle.sha2.specs.Sha256.{sha256}
use Rattle.jk_walk.specs.TilePackets.{slice_of}
use Rattle.jk_store.specs.Parts.{part_size, file_part, part_length, part_count, part_digests, first_digests}

pub part_is_long : (i : ℕ) (file : List ℕ) → length (file_part i file) ≡ part_length (length file) i
part_is_long i file = length-take part_size (drop (i * part_size) file) ∙ ap (min part_size) (length-drop (i * part_size) file)

-- what is asked for where part i is
pub asked_part : (size i : ℕ) (file : List ℕ) → length file ≡ size → take (part_length size i) (drop (i * part_size) file) ≡ file_part i file
asked_part size i file long =
    ap (λ n. take n (drop (i * part_size) file)) (ap (min part_size) (ap (λ n. n - i * part_size) (sym long) ∙ sym (length-drop (i * part_size) file)))
    ∙ take_min part_size (drop (i * part_size) file)

-- what is left of a file from a place on, and so many bytes of it
pub part_from : (bytes : List ℕ) (k n : ℕ) → n ≡ min part_size (length (take (length bytes - k) (drop k bytes)))
    → take n (take (length bytes - k) (drop k bytes)) ≡ take part_size (drop k bytes)
part_from bytes k n is =
    ap (λ m. take m (take (length bytes - k) (drop k bytes))) is
    ∙ take_min part_size (take (length bytes - k) (drop k bytes))
    ∙ ap (take part_size) (take_rest bytes k)

-- the digests of one part more
pub digests_more : (file : List ℕ) (n : ℕ) (old new : List (List ℕ)) (b digest : List ℕ) → old ≡ map (λ i. sha256 (file_part i file)) (range_with_len 0 n)
    → b ≡ file_part n file → digest ≡ sha256 b → new ≡ old ++ digest ∷ [] → new ≡ map (λ i. sha256 (file_part i file)) (range_with_len 0 (n + 1))
digests_more file n old new b digest before is of_part pushed =
    let f : ℕ → List ℕ = λ i. sha256 (file_part i file) in
    pushed
    ∙ ap (λ (l : List (List ℕ)). l ++ digest ∷ []) before
    ∙ ap (λ (d : List ℕ). map f (range_with_len 0 n) ++ d ∷ []) (of_part ∙ ap sha256 is)
    ∙ sym (map-range_with_len_more f 0 n n (let at : 0 + n ≡ n = omega arith in at))

-- the digests of four parts more
pub digests_four_more : (file : List ℕ) (n : ℕ) (old new : List (List ℕ)) (a b c d : List ℕ) → old ≡ first_digests n file
    → a ≡ file_part n file → b ≡ file_part (n + 1) file → c ≡ file_part (n + 2) file → d ≡ file_part (n + 3) file
    → new ≡ old ++ sha256 a ∷ sha256 b ∷ sha256 c ∷ sha256 d ∷ [] → new ≡ first_digests (n + 4) file
digests_four_more file n old new a b c d before pa pb pc pd is =
    let one = digests_more file n old (old ++ sha256 a ∷ []) a (sha256 a) before pa refl refl in
    let two = digests_more file (n + 1) (old ++ sha256 a ∷ []) (old ++ sha256 a ∷ sha256 b ∷ []) b (sha256 b) one pb refl (sym (append_assoc old (sha256 a ∷ []) (sha256 b ∷ []))) in
    let three = digests_more file (n + 2) (old ++ sha256 a ∷ sha256 b ∷ []) (old ++ sha256 a ∷ sha256 b ∷ sha256 c ∷ []) c (sha256 c) (two ∙ up 1 2 (omega arith)) pc refl (sym (append_assoc old (sha256 a ∷ sha256 b ∷ []) (sha256 c ∷ []))) in
    let four = digests_more file (n + 3) (old ++ sha256 a ∷ sha256 b ∷ sha256 c ∷ []) (old ++ sha256 a ∷ sha256 b ∷ sha256 c ∷ sha256 d ∷ []) d (sha256 d) (three ∙ up 2 3 (omega arith)) pd refl (sym (append_assoc old (sha256 a ∷ sha256 b ∷ sha256 c ∷ []) (sha256 d ∷ []))) in
    is ∙ four ∙ up 3 4 (omega arith)
  where
    up : (i j : ℕ) → i + 1 ≡ j → first_digests (n + i + 1) file ≡ first_digests (n + j) file
    up i j e = ap (λ k. first_digests k file) (let more : n + i + 1 ≡ n + j = omega (arith, e) in more)

pub digest_is : (i : ℕ) (file : List ℕ) → i < part_count (length file) → slice_get (part_digests file) i ≡ Some (sha256 (file_part i file))
digest_is i file there =
    let f : ℕ → List ℕ = λ j. sha256 (file_part j file) in
    let n = part_count (length file) in
    let long : i < length (map f (range_with_len 0 n)) = subst (λ k. i < k) (sym (length-map-range_with_len f 0 n)) there in
    let at : 0 + i ≡ i = omega arith in
    slice_get-get_or (map f (range_with_len 0 n)) i [] long ∙ ap Some (get_or-map-range_with_len f 0 n i i [] there at)

-- a file has as many parts as there are digests of them
pub as_many : (digests : List (List ℕ)) (file : List ℕ) → digests ≡ part_digests file → length digests ≡ part_count (length file)
as_many digests file is = ap length is ∙ length-map-range_with_len (λ i. sha256 (file_part i file)) 0 (part_count (length file))

-- a stretch of a file that lies in the part that begins at `first`
pub stretch_is : (file : List ℕ) (n first at stop : ℕ) → first ≡ n * part_size → first ≤ at → at ≤ stop → stop ≤ first + part_size
    → slice_of (file_part n file) (at - first, stop - first) ≡ slice_of file (at, stop)
stretch_is file n first at stop is from order to =
    let a = at - first in
    let m = stop - first - a in
    let rest = part_size - a in
    let whole : part_size ≡ a + rest = omega (arith, from, order, to) in
    ap (λ k. take m (drop a (take part_size (drop k file)))) (sym is)
    ∙ ap (λ k. take m (drop a (take k (drop first file)))) whole
    ∙ ap (take m) (drop-take a rest (drop first file))
    ∙ take-take m rest (drop a (drop first file)) (omega (arith, from, order, to))
    ∙ ap (take m) (drop-drop a first file)
    ∙ ap (λ k. take m (drop k file)) (let e : first + a ≡ at = omega (arith, from) in e)
    ∙ ap (λ k. take k (drop at file)) (let e : m ≡ stop - at = omega (arith, from, order) in e)
