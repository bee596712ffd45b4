-- The data of a tile, put packet by packet.
use Rattle.std.proofs.Common.{◌≡◌, ℕ, zero, suc, ◌+◌, ◌<◌, ◌≤◌, List, [], ◌∷◌, ◌++◌, length, take, get_or, min, inl, inr, refl, sym, ap, ◌∙◌, arith, append_assoc, append-nil}
use Rattle.std.specs.List.{flat_map, zip}
use Rattle.std.proofs.lemmas.Bool.{cases_lt}
use Rattle.jk_geom.specs.declared.shape.PacketName.{PacketName}
use Rattle.jk_walk.specs.declared.entries.PacketEntry.{PacketEntry}
use Rattle.jk_stored.specs.declared.content.Seen.{Seen}
use Rattle.jk_stored.specs.Contents.{is_kept, packet_of, content_of}

content_suc : (c : List ℕ) (s : Seen) (names : List PacketName) (entries : List PacketEntry) (i : ℕ) (n : PacketName) (e : PacketEntry) → i < length names → i < length entries
    → content_of c s (take (suc i) names) (take (suc i) entries) ≡ content_of c s (take i names) (take i entries) ++ packet_of c (is_kept s) s.eph (get_or names i n, get_or entries i e)
content_suc c s [] entries i n e in_names in_entries = absurd (omega (arith, in_names))
content_suc c s (m ∷ names) [] i n e in_names in_entries = absurd (omega (arith, in_entries))
content_suc c s (m ∷ names) (f ∷ entries) zero n e in_names in_entries = append-nil (packet_of c (is_kept s) s.eph (m, f))
content_suc c s (m ∷ names) (f ∷ entries) (suc i) n e in_names in_entries =
    let here = packet_of c (is_kept s) s.eph (m, f) in
    ap (λ (xs : List ℕ). here ++ xs) (content_suc c s names entries i n e (omega (arith, in_names)) (omega (arith, in_entries)))
    ∙ sym (append_assoc here (content_of c s (take i names) (take i entries)) (packet_of c (is_kept s) s.eph (get_or names i n, get_or entries i e)))

pub content_more : (c : List ℕ) (s : Seen) (names : List PacketName) (entries : List PacketEntry) (i : ℕ) (n : PacketName) (e : PacketEntry) (old out new : List ℕ) → i < length names → i < length entries
    → out ≡ old ++ content_of c s (take i names) (take i entries) → new ≡ out ++ packet_of c (is_kept s) s.eph (get_or names i n, get_or entries i e) → new ≡ old ++ content_of c s (take (i + 1) names) (take (i + 1) entries)
content_more c s names entries i n e old out new in_names in_entries so more =
    let next : suc i ≡ i + 1 = omega arith in
    let done = content_of c s (take i names) (take i entries) in
    let last = packet_of c (is_kept s) s.eph (get_or names i n, get_or entries i e) in
    more ∙ ap (λ (xs : List ℕ). xs ++ last) so ∙ append_assoc old done last
    ∙ ap (λ (xs : List ℕ). old ++ xs) (sym (content_suc c s names entries i n e in_names in_entries) ∙ ap (λ k. content_of c s (take k names) (take k entries)) next)

-- what stands behind the shorter of two lists doesn't count
zip_short : (names : List PacketName) (entries : List PacketEntry) (k : ℕ) → length names ≤ k → zip (take k names) (take k entries) ≡ zip names entries
zip_short [] entries zero le = refl
zip_short [] entries (suc k) le = refl
zip_short (n ∷ names) entries zero le = absurd (omega (arith, le))
zip_short (n ∷ names) [] (suc k) le = refl
zip_short (n ∷ names) (e ∷ entries) (suc k) le = ap (λ (vs : List (PacketName × PacketEntry)). (n, e) ∷ vs) (zip_short names entries k (omega (arith, le)))

zip_long : (names : List PacketName) (entries : List PacketEntry) (k : ℕ) → length entries ≤ k → zip (take k names) (take k entries) ≡ zip names entries
zip_long [] entries zero le = refl
zip_long [] entries (suc k) le = refl
zip_long (n ∷ names) [] zero le = refl
zip_long (n ∷ names) [] (suc k) le = refl
zip_long (n ∷ names) (e ∷ entries) zero le = absurd (omega (arith, le))
zip_long (n ∷ names) (e ∷ entries) (suc k) le = ap (λ (vs : List (PacketName × PacketEntry)). (n, e) ∷ vs) (zip_long names entries k (omega (arith, le)))

pub content_all : (c : List ℕ) (s : Seen) (names : List PacketName) (entries : List PacketEntry) (k : ℕ) (old out : List ℕ) → k ≡ min (length names) (length entries) → out ≡ old ++ content_of c s (take k names) (take k entries) → out ≡ old ++ content_of c s names entries
content_all c s names entries k old out least so = so ∙ ap (λ (vs : List (PacketName × PacketEntry)). old ++ flat_map (packet_of c (is_kept s) s.eph) vs) (elim (cases_lt (length entries) (length names)) [
  | inl less ↦ zip_long names entries k (omega (arith, least, less))
  | inr more ↦ zip_short names entries k (omega (arith, least, more))
])
