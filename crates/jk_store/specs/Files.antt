-- Files under names.
use Rattle.std.specs.Prelude.{◌≡◌, ℕ, Bool, List, Option, Some, None, cond}
use Rattle.std.specs.List.{list_any}
use Rattle.std.specs.Str.{bytes_eq}

-- which file a name has, if any
abbrev pub Files : Type 0
Files = List ℕ → Option (List ℕ)

-- that file under a name, in place of any other
abbrev pub with_file : List ℕ → List ℕ → Files → Files
with_file n file files m = cond (bytes_eq n m) (Some file) (files m)

-- no file under a name
abbrev pub without : List ℕ → Files → Files
without n files m = cond (bytes_eq n m) None (files m)

-- whether a name is one of these
abbrev pub is_among : List ℕ → List (List ℕ) → Bool
is_among n names = list_any (bytes_eq n) names

-- All of the first files are among the second.
abbrev pub AreIn : Files → Files → Type 0
AreIn files all = (n b : List ℕ) → files n ≡ Some b → all n ≡ Some b
