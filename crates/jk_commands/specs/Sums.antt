-- Lists of the digests of files, in the form of sha256sum, and what differs between two of them.
use Rattle.std.specs.Prelude.{◌≡◌, ◌≢◌, ℕ, cond, ◌⊎◌, List, [], ◌∷◌, ◌++◌, map, All, Option, Some, None, Ok, codes}
use Rattle.std.specs.Option.{option_map}
use Rattle.std.specs.List.{AllZip, IsDistinct, flat_map}
use Rattle.std.specs.List.Sorted.{IsStrictlySortedBy}
use Rattle.std.specs.Ordering.{nat_cmp}
use Rattle.std.specs.Cmp.Lexicographic.{slice_cmp}
use Rattle.std.specs.Str.{bytes_eq}
use Rattle.std.specs.String.{string_bytes}
use Rattle.hex.specs.Hex.{encode_lower, decode_sized}
use Rattle.jk_commands.specs.declared.sums.Sum.{Sum}
use Rattle.jk_commands.specs.declared.sums.BadList.{BadList}
use Rattle.jk_commands.specs.declared.sums.BadList.TheVariants.{Memory}
use Rattle.jk_commands.specs.declared.comparing.Change.{Change}
use Rattle.jk_commands.specs.declared.comparing.Change.TheVariants.{Changed, Missing, New}
use Rattle.jk_commands.specs.declared.comparing.Difference.{Difference}

-- a line with its end
abbrev pub ended : List ℕ → List ℕ
ended line = line ++ 10 ∷ []

-- the line of a file: its digest in small hexadecimal digits, two spaces, and its name
abbrev pub sum_text : Sum → List ℕ
sum_text s = encode_lower s.digest ++ 32 ∷ 32 ∷ (string_bytes s.name ++ 10 ∷ [])

-- A line says this of a file: the digest in hexadecimal digits, a space, a space or an asterisk,
-- and the name.
pub record IsSumLine (line digest name : List ℕ) : Type 0 where
  pub digits : List ℕ
  pub mark : ℕ
  pub text : line ≡ digits ++ 32 ∷ mark ∷ name
  pub bytes : decode_sized digits 32 ≡ Ok digest
  pub marked : (mark ≡ 32) ⊎ (mark ≡ 42)

-- no line ends within it
abbrev pub IsOneLine : List ℕ → Type 0
IsOneLine line = All (λ b. b ≢ 10) line

-- what a list says of a file
pub record SumFields : Type 0 where
  pub name : List ℕ
  pub digest : List ℕ

abbrev pub sum_fields : Sum → SumFields
sum_fields s = record { name = string_bytes s.name; digest = s.digest }

-- A text is a list of these files, a line each, of which the last may lack its end, and no name
-- stands twice.
pub record IsSumList (text : List ℕ) (sums : List SumFields) : Type 0 where
  pub lines : List (List ℕ)
  pub each : AllZip (λ line s. IsSumLine line s.digest s.name) lines sums
  pub whole : All IsOneLine lines
  pub text_is : (text ≡ flat_map ended lines) ⊎ (ended text ≡ flat_map ended lines)
  pub once : IsDistinct bytes_eq (map (λ (s : SumFields). s.name) sums)

-- A growth of memory was refused.
abbrev pub IsOutOfMemory : BadList → Type 0
IsOutOfMemory (Memory refused) = Unit {0}
IsOutOfMemory e = ⊥

-- the first if there is one, else the second
abbrev pub or_else : {A : Type 0} → Option A → Option A → Option A
or_else (Some x) o = Some x
or_else None o = o

-- the digest that a list has last of a file
abbrev pub digest_of : List Sum → List ℕ → Option (List ℕ)
digest_of [] n = None
digest_of (s ∷ sums) n = or_else (digest_of sums n) (cond (bytes_eq (string_bytes s.name) n) (Some s.digest) None)

-- what differs of a file, by its digests before and now
abbrev pub change_of : Option (List ℕ) → Option (List ℕ) → Option Change
change_of None None = None
change_of (Some before) None = Some Missing
change_of None (Some now) = Some New
change_of (Some before) (Some now) = cond (bytes_eq before now) None (Some Changed)

-- what is told of a file, if anything is
abbrev pub told : List Difference → List ℕ → Option Change
told [] n = None
told (d ∷ differences) n = cond (bytes_eq (string_bytes d.name) n) (Some d.change) (told differences n)

-- Of each file it is told what differs between two lists, in the order of names, each once.
pub record AreDifferences (before now : List Sum) (differences : List Difference) : Type 0 where
  pub each : (n : List ℕ) → told differences n ≡ change_of (digest_of before n) (digest_of now n)
  pub ordered : IsStrictlySortedBy (slice_cmp nat_cmp) (map (λ (d : Difference). string_bytes d.name) differences)

-- the word for what differs
abbrev pub change_word : Change → List ℕ
change_word Changed = codes "changed"
change_word Missing = codes "missing"
change_word New = codes "new"

-- the line of what differs of a file: the word, a space and the name
abbrev pub difference_text : Difference → List ℕ
difference_text d = change_word d.change ++ 32 ∷ (string_bytes d.name ++ 10 ∷ [])

-- what is told of a name, with the name
abbrev pub told_of : (List ℕ → Option Change) → List ℕ → Option (List ℕ × Change)
told_of f n = option_map (λ c. (n, c)) (f n)

abbrev pub pair_of : Difference → List ℕ × Change
pair_of d = (string_bytes d.name, d.change)
