-- What paths name.
use Rattle.std.proofs.Common.{◌≡◌, ℕ, ◌+◌, ◌<◌, ◌⊎◌, inl, inr, Bool, true, false, not, cond, ◌==◌, List, [], ◌∷◌, ◌++◌, length, take, drop, get_or, get_or-take, Option, Some, None, codes, refl, sym, ap, ◌∙◌, subst, arith, IsTrue, append-nil}
use Rattle.std.specs.Prelude.{All}
use Rattle.std.specs.List.{position_or_len}
use Rattle.std.specs.Str.{bytes_eq}
use Rattle.std.proofs.lemmas.Bool.{eqb-true, cases_lt}
use Rattle.std.proofs.lemmas.Bool.Decides.{same_from_decides, Decides-like}
use Rattle.std.proofs.lemmas.List.{drop_more, drop_all, take-append-drop}
use Rattle.std.proofs.lemmas.List.Elements.{All-from_get_or}
use Rattle.std.proofs.lemmas.List.Sums.{prefix_len_passes, prefix_len_stops}
use Rattle.std.proofs.lemmas.List.Folds.{length-prefix_len}
use Rattle.std.proofs.lemmas.Slice.Eq.{bytes_eq-Decides}
use Rattle.httparse.proofs.RunLemmas.{run_unique, run_unstopped}
use Rattle.jk_web.specs.Resources.{is_segment_byte, IsPathSegment, listing, whole, window, nowhere, whole_path, window_path, found_or, resource_at, is_among, among}
use Rattle.jk_web.proofs.Texts.{bytes_differ, find_same, find_none, find_text}

-- what follows the name of an image, where windows are meant
abbrev pub window_end : List ℕ
window_end = codes "/window"

-- A name has no slash in it.
slashless : (n before behind : List ℕ) → IsPathSegment n → n ≡ before ++ 47 ∷ behind → ⊥
slashless n before behind segment e = run_unstopped is_segment_byte before (47 ∷ behind) (subst IsPathSegment e segment) refl

-- Up to the first slash two texts are one name.
same_name : (a b r q : List ℕ) → IsPathSegment a → IsPathSegment b → a ++ 47 ∷ r ≡ b ++ 47 ∷ q → (a ≡ b) × (47 ∷ r ≡ 47 ∷ q)
same_name a b r q pa pb e = run_unique is_segment_byte a b (47 ∷ r) (47 ∷ q) pa pb refl refl e

-- ---- what stands before the first slash and behind it

abbrev pub name_length : List ℕ → ℕ
name_length bytes = position_or_len (λ b. b == 47) bytes

segment_before : (bytes : List ℕ) → IsPathSegment (take (name_length bytes) bytes)
segment_before bytes =
    All-from_get_or (λ b. IsTrue (is_segment_byte b)) (take (name_length bytes) bytes) 0
    (λ k h.
    let inside : k < name_length bytes = omega (arith, length-prefix_len is_segment_byte bytes) in
    ap is_segment_byte (get_or-take (name_length bytes) bytes k 0 inside) ∙ prefix_len_passes is_segment_byte bytes k 0 inside)

not_false : (b : Bool) → not b ≡ false → b ≡ true
not_false true e = refl
not_false false e = absurd (cc)

slash_behind : (bytes : List ℕ) → (drop (name_length bytes) bytes ≡ []) ⊎ ((t : List ℕ) × (drop (name_length bytes) bytes ≡ 47 ∷ t))
slash_behind bytes =
    elim (cases_lt (name_length bytes) (length bytes)) [
      | inl more ↦ inr (
        drop (name_length bytes + 1) bytes,
        drop_more bytes (name_length bytes) 0 more
            ∙ ap (λ b. b ∷ drop (name_length bytes + 1) bytes) (eqb-true (get_or bytes (name_length bytes) 0) 47 (not_false _ (prefix_len_stops is_segment_byte bytes 0 more))),
      )
      | inr all ↦ inl (drop_all (name_length bytes) bytes all)
    ]

-- the path of an image, cut behind the image's name
pub record IsCut (path name behind : List ℕ) : Type 0 where
  pub segment : IsPathSegment name
  pub text : path ≡ whole_path (name ++ behind)
  pub slash : (behind ≡ []) ⊎ ((t : List ℕ) × (behind ≡ 47 ∷ t))

pub cut_path : (path bytes name behind : List ℕ) → path ≡ codes "/images/" ++ drop 8 path → bytes ≡ drop 8 path
    → name ≡ take (name_length bytes) bytes → behind ≡ drop (name_length bytes) bytes → IsCut path name behind
cut_path path bytes name behind text same first rest =
    let P : List ℕ → Type 0 = λ v. (v ≡ []) ⊎ ((t : List ℕ) × (v ≡ 47 ∷ t)) in
    record {
      segment = subst IsPathSegment (sym first) (segment_before bytes);
      text =
          text
          ∙ ap (λ (v : List ℕ). codes "/images/" ++ v) (sym same ∙ sym (take-append-drop (name_length bytes) bytes) ∙ sym (λ i. first i ++ rest i));
      slash = subst P (sym rest) (slash_behind bytes);
    }

-- ---- the five kinds of paths

pub at_listing : (path : List ℕ) (names : List (List ℕ)) → path ≡ codes "/images" → resource_at path names ≡ listing
unfolding resource_at
at_listing path names e = ap (λ p. resource_at p names) e

pub at_other : (path : List ℕ) (names : List (List ℕ)) → All IsPathSegment names → bytes_eq path (codes "/images") ≡ false
    → ((x : List ℕ) → path ≡ codes "/images/" ++ x → ⊥) → resource_at path names ≡ nowhere
unfolding resource_at
at_other path names each list other =
    let no_image = find_none IsPathSegment (λ n. bytes_eq path (whole_path n)) names each (λ n s. bytes_differ path (whole_path n) (other n)) in
    let no_window = find_none IsPathSegment (λ n. bytes_eq path (window_path n)) names each (λ n s. bytes_differ path (window_path n) (other (n ++ window_end))) in
    λ i. cond (list i) listing (found_or (no_image i) whole (found_or (no_window i) window nowhere))

found_whole : (b : Bool) (name : List ℕ) → found_or (cond b (Some name) None) whole nowhere ≡ cond b (whole name) nowhere
found_whole true name = refl
found_whole false name = refl

found_window : (b : Bool) (name : List ℕ) → found_or (cond b (Some name) None) window nowhere ≡ cond b (window name) nowhere
found_window true name = refl
found_window false name = refl

image : (name : List ℕ) (names : List (List ℕ)) → All IsPathSegment names → IsPathSegment name → resource_at (whole_path name) names ≡ among names (whole name)
unfolding resource_at
image name names each segment =
    let no_window = find_none IsPathSegment (λ n. bytes_eq name (n ++ window_end)) names each
    (λ n s. bytes_differ name (n ++ window_end) (slashless name n (codes "window") segment)) in
    (λ i. found_or (find_text name names i) whole (found_or (no_window i) window nowhere))
    ∙ found_whole (is_among names name) name

at_whole : (path name : List ℕ) (names : List (List ℕ)) → All IsPathSegment names → IsPathSegment name → path ≡ whole_path name
    → resource_at path names ≡ among names (whole name)
at_whole path name names each segment e = ap (λ p. resource_at p names) e ∙ image name names each segment

windows : (name : List ℕ) (names : List (List ℕ)) → All IsPathSegment names → IsPathSegment name → resource_at (window_path name) names ≡ among names (window name)
unfolding resource_at
windows name names each segment =
    let no_image = find_none IsPathSegment (λ n. bytes_eq (name ++ window_end) n) names each
    (λ n s. bytes_differ (name ++ window_end) n (λ e. slashless n name (codes "window") s (sym e))) in
    let same = find_same IsPathSegment (λ n. bytes_eq (name ++ window_end) (n ++ window_end)) (bytes_eq name) names each
    (λ n s. same_from_decides (bytes_eq (name ++ window_end) (n ++ window_end)) (bytes_eq name n)
    (bytes_eq-Decides (name ++ window_end) (n ++ window_end))
    (Decides-like (bytes_eq name n) (λ e. ap (λ (t : List ℕ). t ++ window_end) e) (λ e. (same_name name n (codes "window") (codes "window") segment s e).0) (bytes_eq-Decides name n))) in
    (λ i. found_or (no_image i) whole (found_or (same i) window nowhere))
    ∙ ap (λ (o : Option (List ℕ)). found_or o window nowhere) (find_text name names)
    ∙ found_window (is_among names name) name

at_window : (path name : List ℕ) (names : List (List ℕ)) → All IsPathSegment names → IsPathSegment name → path ≡ window_path name
    → resource_at path names ≡ among names (window name)
at_window path name names each segment e = ap (λ p. resource_at p names) e ∙ windows name names each segment

deeper : (name behind : List ℕ) (names : List (List ℕ)) → All IsPathSegment names → IsPathSegment name → (47 ∷ behind ≡ window_end → ⊥)
    → resource_at (whole_path (name ++ 47 ∷ behind)) names ≡ nowhere
unfolding resource_at
deeper name behind names each segment other =
    let no_image = find_none IsPathSegment (λ n. bytes_eq (name ++ 47 ∷ behind) n) names each
    (λ n s. bytes_differ (name ++ 47 ∷ behind) n (λ e. slashless n name behind s (sym e))) in
    let no_window = find_none IsPathSegment (λ n. bytes_eq (name ++ 47 ∷ behind) (n ++ window_end)) names each
    (λ n s. bytes_differ (name ++ 47 ∷ behind) (n ++ window_end) (λ e. other (same_name name n behind (codes "window") segment s e).1)) in
    λ i. found_or (no_image i) whole (found_or (no_window i) window nowhere)

at_deeper : (path name behind : List ℕ) (names : List (List ℕ)) → All IsPathSegment names → IsPathSegment name → (47 ∷ behind ≡ window_end → ⊥)
    → path ≡ whole_path (name ++ 47 ∷ behind) → resource_at path names ≡ nowhere
at_deeper path name behind names each segment other e = ap (λ p. resource_at p names) e ∙ deeper name behind names each segment other

-- ---- the paths that were cut

pub cut_whole : (path name behind : List ℕ) (names : List (List ℕ)) → All IsPathSegment names → IsCut path name behind → length behind ≡ 0
    → resource_at path names ≡ among names (whole name)
cut_whole path name [] names each cut e = at_whole path name names each cut.segment (cut.text ∙ ap whole_path (append-nil name))
cut_whole path name (b ∷ behind) names each cut e = absurd (omega arith)

pub cut_window : (path name behind : List ℕ) (names : List (List ℕ)) → All IsPathSegment names → IsCut path name behind → behind ≡ window_end
    → resource_at path names ≡ among names (window name)
cut_window path name behind names each cut e =
    at_window path name names each cut.segment (cut.text ∙ ap (λ (v : List ℕ). whole_path (name ++ v)) e)

pub cut_deeper : (path name behind : List ℕ) (names : List (List ℕ)) → All IsPathSegment names → IsCut path name behind → (length behind ≡ 0 → ⊥)
    → (behind ≡ window_end → ⊥) → resource_at path names ≡ nowhere
cut_deeper path name behind names each cut some other =
    elim cut.slash [
      | inl none ↦ absurd (some (ap length none))
      | inr (t, e) ↦ at_deeper path name t names each cut.segment (λ same. other (e ∙ same)) (cut.text ∙ ap (λ (v : List ℕ). whole_path (name ++ v)) e)
    ]
