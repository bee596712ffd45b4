-- An image is judged beside the images of names that aren't its own, where these are few, as it is beside none.
use Rattle.std.proofs.Common.{◌≡◌, ℕ, ◌<◌, ◌≤◌, true, false, List, [], ◌∷◌, length, map, inl, inr, refl, sym, ap, ◌∙◌, arith}
use Rattle.std.specs.Prelude.{not, nat_le}
use Rattle.std.specs.BTreeSet.{BTreeSet, keys, contains_text}
use Rattle.std.specs.String.{string_bytes}
use Rattle.std.specs.declared.string.String.{String}
use Rattle.std.proofs.lemmas.List.{length-map}
use Rattle.jk_math.specs.Answer.{◌>>=◌, refuse}
use Rattle.jk_math.specs.declared.fault.Fault.TheVariants.{BadName, NameTaken, Limit, BadParameters}
use Rattle.jk_math.specs.Picture.{Picture}
use Rattle.jk_params.specs.declared.parameters.Parameters.{Parameters}
use Rattle.jk_params.specs.Profile.{is_profile}
use Rattle.jk_store.specs.Files.{is_among}
use Rattle.jk_store.specs.Names.{is_good_name}
use Rattle.jk_store.specs.Catalogue.{is_listed, most_entries}
use Rattle.jk_store.specs.Adding.{judged, is_raw}
use Rattle.jk_store.specs.Opening.{Opened, AreNamesIn}
use Rattle.jk_store.specs.Judging.{IsFew, IsFree, IsFull, JudgedAlone}
use Rattle.jk_store.specs.declared.entry.Entry.{Entry}
use Rattle.jk_store.specs.declared.skipped.Skipped.{Skipped}
use Rattle.jk_store.proofs.OpenLaws.{unlisted, among_keys}

-- each name has one entry at most
few_entries : {S : Type 0} (gave : S → List ℕ → List ℕ → S → Type 0) (names : List (List ℕ)) (old : S) (entries : List Entry) (skipped : List Skipped) (new : S)
    → Opened gave names old entries skipped new → length entries ≤ length names
few_entries gave [] old entries skipped new h = omega (arith, ap (λ (es : List Entry). length es) h.0)
few_entries gave (n ∷ names) old entries skipped new h = elim h.3 [
  | inl l ↦ (let more = few_entries gave names h.1 l.1 skipped new l.4 in omega (arith, more, ap (λ (es : List Entry). length es) l.3))
  | inr l ↦ (let more = few_entries gave names h.1 entries l.1 new l.4 in omega (arith, more))
]

judged_by : (entries : List Entry) (name : List ℕ) (p : Picture) (q : Parameters) → judged entries name p q
    ≡ (refuse (not (is_good_name name)) BadName >>= λ _. refuse (is_listed entries name) NameTaken >>= λ _. refuse (nat_le most_entries (length entries)) Limit
    >>= λ _. refuse (not (is_profile q p)) BadParameters >>= λ _. refuse (is_raw q.container) BadParameters)
unfolding judged
judged_by entries name p q = refl

judged_alone : (entries : List Entry) (name : List ℕ) (p : Picture) (q : Parameters) → is_listed entries name ≡ false → nat_le most_entries (length entries) ≡ false → judged entries name p q ≡ judged [] name p q
judged_alone entries name p q free few = judged_by entries name p q ∙ rw (free, few) refl ∙ sym (judged_by [] name p q)

less_not : (m n : ℕ) → m < n → nat_le n m ≡ false
less_not m n lt = grind (arith, lt)

-- beside the images of names that are few, and aren't this one
pub all_alone : {S : Type 0} (gave : S → List ℕ → List ℕ → S → Type 0) (names : List (List ℕ)) (name : List ℕ) → is_among name names ≡ false → length names < most_entries → JudgedAlone gave names name
all_alone gave names name free few old new entries skipped h p q =
    let count = few_entries gave names old entries skipped new h in
    judged_alone entries name p q (unlisted gave name names old entries skipped new h free) (less_not (length entries) most_entries (omega (arith, count, few)))

-- what a set of few names says
pub is_free : {S Y : Type 0} (lists : S → List (List ℕ) → S → Type 0) (old new : S) (files : List (List ℕ)) (taken : BTreeSet (String Y)) (name : List ℕ) → lists old files new
    → AreNamesIn files (map string_bytes (keys taken)) → is_good_name name ≡ true → contains_text taken name ≡ false → length (keys taken) < most_entries
    → IsFree lists old name new
is_free lists old new files taken name listed are good other few = record {
  files = files;
  names = map string_bytes (keys taken);
  listed = listed;
  are = are;
  few = omega (arith, few, length-map (keys taken) string_bytes);
  good = good;
  free = among_keys name taken ∙ other;
}

pub is_few : {S Y : Type 0} (lists : S → List (List ℕ) → S → Type 0) (old new : S) (files : List (List ℕ)) (taken : BTreeSet (String Y)) → lists old files new
    → AreNamesIn files (map string_bytes (keys taken)) → length (keys taken) < most_entries → IsFew lists old new
is_few lists old new files taken listed are few =
    record { files = files; names = map string_bytes (keys taken); listed = listed; are = are; few = omega (arith, few, length-map (keys taken) string_bytes) }

-- what a set of many names says
pub is_full : {S Y : Type 0} (lists : S → List (List ℕ) → S → Type 0) (old new : S) (files : List (List ℕ)) (taken : BTreeSet (String Y)) → lists old files new
    → AreNamesIn files (map string_bytes (keys taken)) → most_entries ≤ length (keys taken) → IsFull lists old new
is_full lists old new files taken listed are many =
    record { files = files; names = map string_bytes (keys taken); listed = listed; are = are; many = omega (arith, many, length-map (keys taken) string_bytes) }
