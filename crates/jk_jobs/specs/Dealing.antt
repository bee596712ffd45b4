-- Jobs that workers take one after another, and what they give in the order of jobs.
use Rattle.std.specs.Prelude.{◌≡◌, ℕ, ◌<◌, List, length, All, Result, Ok, Err, Option, None, Some, slice_index_or}
use Rattle.jk_math.specs.declared.fault.Fault.{Fault}
use Rattle.jk_jobs.specs.declared.dealing.Taken.{Taken}

module _ {J D : Type 0} (gives : J → Result D Fault → Type 0) (jobs : List J) where
  -- the job of this number gives this
  abbrev pub GivesDone : ℕ → Result D Fault → Type 0
  GivesDone i r = (j : J) → gives (slice_index_or jobs i j) r

  -- a job that was done, and what it gave
  pub record IsTaken (t : Taken D) : Type 0 where
    pub is_job : t.job < length jobs
    pub gives_it : GivesDone t.job t.given

  abbrev pub AreTaken : List (Taken D) → Type 0
  AreTaken items = All IsTaken items

  -- in the slots of jobs stands what these give, where anything does
  abbrev pub AreFilled : List (Option (Result D Fault)) → Type 0
  AreFilled slots = (i : ℕ) (r : Result D Fault) → slice_index_or slots i None ≡ Some r → GivesDone i r

  -- Each of the first jobs gives what stands at its place.
  pub record AreGiven (count : ℕ) (items : List D) : Type 0 where
    pub long : length items ≡ count
    pub each : (i : ℕ) (d : D) → i < count → GivesDone i (Ok (slice_index_or items i d))

  -- A job gives this fault, and those before it give none.
  pub record IsFirstFault (fault : Fault) : Type 0 where
    pub job : ℕ
    pub is_job : job < length jobs
    pub fails : GivesDone job (Err fault)
    pub before : List D
    pub given : AreGiven job before
