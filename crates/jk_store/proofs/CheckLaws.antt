-- What is found of the files of a shelf, file by file.
use Rattle.std.proofs.Common.{◌≡◌, ◌⊎◌, ℕ, ◌+◌, ◌<◌, ◌≤◌, Bool, true, false, if◌then◌else◌, List, [], ◌∷◌, ◌++◌, map, length, All, Some, Result, Ok, Err, IfOk, IfErr, MatchResult, inl, inr, refl, sym, ap, subst, ◌∙◌, arith, append_assoc, append-nil, zero, suc}
use Rattle.std.specs.List.{AllZip}
use Rattle.std.specs.Global.{Vec}
use Rattle.std.specs.Str.{bytes_eq}
use Rattle.std.specs.String.{string_bytes}
use Rattle.std.proofs.lemmas.Bool.{cases_Bool}
use Rattle.std.proofs.lemmas.Slice.Eq.{bytes_eq-Decides}
use Rattle.std.proofs.lemmas.List.Elements.{All-head, All-tail, All-append}
use Rattle.std.proofs.lemmas.List.{map-append}
use Rattle.jk_math.specs.Memory.{IsMemory}
use Rattle.jk_math.specs.declared.fault.Fault.{Fault}
use Rattle.jk_math.specs.declared.fault.Fault.TheVariants.{Shelf}
use Rattle.jk_jobs.specs.Dealing.{AreGiven, IsFirstFault}
use Rattle.jk_jobs.proofs.Laws.{zipped}
use Rattle.jk_store.specs.declared.checked.Checked.{Checked}
use Rattle.jk_store.specs.declared.checked.Finding.{Finding}
use Rattle.jk_store.specs.declared.checked.Finding.TheVariants.{Whole, Broken, Unread}
use Rattle.jk_store.specs.declared.checking.FileRead.{FileRead}
use Rattle.jk_store.specs.Files.{Files, with_file, is_among}
use Rattle.jk_store.specs.Names.{file_name}
use Rattle.jk_store.specs.Checking.{GivenFile, IsFoundOf, IsFindingOf, IsFindingFor, ChecksAs, WasAsked, AskedInTurn, given_file, given_bytes, IsJudged, finding_of}
use Rattle.jk_store.specs.Counting.{Counts}
use Rattle.jk_store.specs.Opening.{AreNamesIn}
use Rattle.jk_store.proofs.AddLaws.{differs}
use Rattle.jk_store.proofs.OpenLaws.{gives}

-- ---- lists side by side

pub zip_more : {A B : Type 0} (P : A → B → Type 0) (xs more : List A) (ys others : List B) → AllZip P xs ys → AllZip P more others → AllZip P (xs ++ more) (ys ++ others)
zip_more P [] more [] others h rest = rest
zip_more P [] more (y ∷ ys) others h rest = absurd h
zip_more P (x ∷ xs) more [] others h rest = absurd h
zip_more P (x ∷ xs) more (y ∷ ys) others h rest = (h.0, zip_more P xs more ys others h.1 rest)

-- ---- jobs

pub judged_each : (blocks : Bool) (jobs : List FileRead) (found : List Checked) → All (λ f. f.blocks ≡ blocks) jobs → AllZip (λ j d. IsJudged j (Ok d)) jobs found
    → AllZip (IsFoundOf blocks) (map given_file jobs) found
judged_each blocks [] [] all h = tt
judged_each blocks [] (c ∷ found) all h = absurd h
judged_each blocks (j ∷ jobs) [] all h = absurd h
judged_each blocks (j ∷ jobs) (c ∷ found) all h =
    (subst (λ b. IsFoundOf b (given_file j) c) (All-head (λ f. f.blocks ≡ blocks) j jobs all) h.0, judged_each blocks jobs found (All-tail (λ f. f.blocks ≡ blocks) j jobs all) h.1)

some_job : {J : Type 0} (jobs : List J) (n : ℕ) → n < length jobs → J
some_job [] n lt = absurd (omega (arith, lt))
some_job (j ∷ jobs) n lt = j

-- jobs of which each can fail for memory alone
pub judging_memory : {J D : Type 0} (gives : J → Result D Fault → Type 0) → ((j : J) (e : Fault) → gives j (Err e) → IsMemory e) → (jobs : List J) (e : Fault)
    → IsMemory e ⊎ IsFirstFault gives jobs e → IsMemory e
judging_memory gives only jobs e h = elim h [
  | inl memory ↦ memory
  | inr first ↦ only _ e (first.fails (some_job jobs first.job first.is_job))
]

-- one file more waits
pub waits_more : (blocks : Bool) (given front : List GivenFile) (batch more : List FileRead) (f : FileRead) → f.blocks ≡ blocks → more ≡ batch ++ f ∷ []
    → given ≡ front ++ map given_file batch → All (λ j. j.blocks ≡ blocks) batch → (given ++ given_file f ∷ [] ≡ front ++ map given_file more) × All (λ j. j.blocks ≡ blocks) more
waits_more blocks given front batch more f is longer split all = (
  ap (λ g. g ++ given_file f ∷ []) split ∙ (append_assoc front (map given_file batch) (given_file f ∷ [])
      ∙ ap (λ l. front ++ l) (sym (ap (map given_file) longer ∙ map-append given_file batch (f ∷ [])))),
  subst (All (λ j. j.blocks ≡ blocks)) (sym longer) (All-append (λ j. j.blocks ≡ blocks) batch (f ∷ []) all (one_of is)),
) where
  one_of : f.blocks ≡ blocks → All (λ j. j.blocks ≡ blocks) (f ∷ [])
  one_of e zero d lt = e
  one_of e (suc k) d lt = absurd (omega (arith, lt))

-- none waits
pub none_waits : (blocks : Bool) (given : List GivenFile) (batch : List FileRead) → batch ≡ [] → (given ≡ given ++ map given_file batch) × All (λ j. j.blocks ≡ blocks) batch
none_waits blocks given batch none = (
  sym (ap (λ l. given ++ map given_file l) none ∙ append-nil given),
  subst (All (λ j. j.blocks ≡ blocks)) (sym none) (λ k d lt. absurd (omega (arith, lt))),
)

-- ---- files in turn

module _ {S : Type 0} (keeps : S → Files → Type 0) (gave : S → List ℕ → List ℕ → S → Type 0) (unread : S → List ℕ → S → Type 0) where
  pub asked_of : (old new : S) (n m : List ℕ) (before after : ℕ) (r : Result (Vec ℕ) Fault) → m ≡ file_name n → IfOk r (λ v. gave old m v.items new)
      → ((files : Files) → keeps old files → keeps new files) → ((files : Files) (b : List ℕ) → keeps old files → files m ≡ Some b → IfOk r (λ v. v.items ≡ b))
      → ((files : Files) → keeps old files → IfOk r (λ v. keeps new (with_file m v.items files))) → IfErr r (λ e. e ≡ Shelf → unread old m new) → Counts r before after
      → WasAsked keeps gave unread old n (given_bytes r) new
  asked_of old new n m before after (Ok v) is given kept same held cause counts = gives keeps gave old new m (file_name n) v.items is given same kept held
  asked_of old new n m before after (Err e) is given kept same held cause counts =
      (elim counts [ inl memory ↦ inl memory.0 | inr failed ↦ inr (failed.0, subst (λ x. unread old x new) is (cause failed.0)) ], kept)

  pub asked_more : (n : List ℕ) (bytes : Result (List ℕ) Fault) (mid new : S) → WasAsked keeps gave unread mid n bytes new
      → (names : List (List ℕ)) (old : S) (given : List GivenFile) → AskedInTurn keeps gave unread names old given mid
      → AskedInTurn keeps gave unread (names ++ n ∷ []) old (given ++ (record { name = n; bytes = bytes }) ∷ []) new
  asked_more n bytes mid new is [] old given h =
      (bytes, [], new, ap (λ l. l ++ (record { name = n; bytes = bytes }) ∷ []) h.0, subst (λ s. WasAsked keeps gave unread s n bytes new) h.1 is, (refl, refl))
  asked_more n bytes mid new is (m ∷ names) old given h =
      (h.0, h.1 ++ (record { name = n; bytes = bytes }) ∷ [], h.2, ap (λ l. l ++ (record { name = n; bytes = bytes }) ∷ []) h.3, h.4, asked_more n bytes mid new is names h.2 h.1 h.5)

  kept_by : (old new : S) (n : List ℕ) (r : Result (List ℕ) Fault) → WasAsked keeps gave unread old n r new → (files : Files) → keeps old files → keeps new files
  kept_by old new n (Ok b) h files kept = h.kept files kept
  kept_by old new n (Err e) h files kept = h.1 files kept

  module _ (blocks : Bool) (files : Files) (n b : List ℕ) (there : files (file_name n) ≡ Some b) where
    here : (old new : S) (r : Result (List ℕ) Fault) (f : Finding) → WasAsked keeps gave unread old n r new → keeps old files → IsFindingOf blocks r f → IsFindingFor blocks b f
    here old new (Ok c) (Whole d) h kept is = subst (λ x. IsFindingOf blocks (Ok x) (Whole d)) (h.same files b kept there) is
    here old new (Ok c) (Broken d e) h kept is = subst (λ x. IsFindingOf blocks (Ok x) (Broken d e)) (h.same files b kept there) is
    here old new (Ok c) (Unread e) h kept is = absurd is
    here old new (Err e) (Whole d) h kept is = absurd is
    here old new (Err e) (Broken d f) h kept is = absurd is
    here old new (Err e) (Unread f) h kept is = subst (λ x. IsMemory x ⊎ (x ≡ Shelf)) (sym is) (elim h.0 [ inl memory ↦ inl memory | inr failed ↦ inr failed.0 ])

    pub found_kept : (names : List (List ℕ)) (old new : S) (given : List GivenFile) (found : List Checked) → AskedInTurn keeps gave unread names old given new
        → AllZip (IsFoundOf blocks) given found → keeps old files → is_among n names ≡ true → (r : Finding) × (finding_of found n ≡ Some r) × IsFindingFor blocks b r
    found_kept [] old new given found h zip kept among = absurd (let clash : false ≡ true = among in cc)
    found_kept (m ∷ names) old new given [] h zip kept among = absurd (subst (λ l. AllZip (IsFoundOf blocks) l []) h.3 zip)
    found_kept (m ∷ names) old new given (c ∷ found) h zip kept among =
        let both = subst (λ l. AllZip (IsFoundOf blocks) l (c ∷ found)) h.3 zip in
        elim (cases_Bool (bytes_eq n m)) [
          | inl same ↦
              (let is : n ≡ m = (bytes_eq-Decides n m).0 same in
              let name : string_bytes c.name ≡ n = both.0.name ∙ sym is in
              let first : bytes_eq (string_bytes c.name) n ≡ true = (bytes_eq-Decides (string_bytes c.name) n).1 name in
              (c.finding, rw first refl, here old h.2 h.0 c.finding (subst (λ x. WasAsked keeps gave unread old x h.0 h.2) (sym is) h.4) kept both.0.finding))
          | inr other ↦
              (let later : is_among n names ≡ true = rw other at among in
              let next = found_kept names h.2 new h.1 found h.5 both.1 (kept_by old h.2 m h.0 h.4 files kept) later in
              let apart : bytes_eq (string_bytes c.name) n ≡ false = subst (λ x. bytes_eq x n ≡ false) (sym both.0.name) (differs n m other) in
              (next.0, rw apart next.1, next.2))
        ]

    pub finds_kept : (names : List (List ℕ)) (old new : S) (r : Result (Vec Checked) Fault)
        → IfOk r (λ v. (given : List GivenFile) × AskedInTurn keeps gave unread names old given new × AllZip (IsFoundOf blocks) given v.items)
        → keeps old files → is_among n names ≡ true → IfOk r (λ v. (f : Finding) × (finding_of v.items n ≡ Some f) × IsFindingFor blocks b f)
    finds_kept names old new (Ok v) h kept among = found_kept names old new h.0 v.items h.1 h.2 kept among
    finds_kept names old new (Err e) h kept among = tt

  pub checks_as : (lists : S → List (List ℕ) → S → Type 0) (blocks : Bool) (files names : List (List ℕ)) (old mid new : S) (r : Result (Vec Checked) Fault)
      → lists old files mid → AreNamesIn files names
      → IfOk r (λ v. (given : List GivenFile) × AskedInTurn keeps gave unread names mid given new × AllZip (IsFoundOf blocks) given v.items)
      → IfOk r (λ v. ChecksAs keeps gave unread lists blocks old v.items new)
  checks_as lists blocks files names old mid new (Ok v) listed are h = (files, names, h.0, mid, listed, are, h.1, h.2)
  checks_as lists blocks files names old mid new (Err e) listed are h = tt
