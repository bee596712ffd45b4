-- Names of images, and of their files.
use Rattle.std.specs.Prelude.{◌≡◌, ℕ, Bool, true, ◌&&◌, ◌||◌, nat_le, nat_eq, List, ◌++◌, length, codes}
use Rattle.std.specs.List.{list_all, list_any}
use Rattle.std.specs.Str.{bytes_eq}

-- `a` to `z`, `0` to `9`, `-` and `_`
abbrev pub is_name_byte : ℕ → Bool
is_name_byte b = (nat_le 97 b && nat_le b 122) || (nat_le 48 b && nat_le b 57) || nat_eq b 45 || nat_eq b 95

-- 1 to 64 of these
abbrev pub is_good_name : List ℕ → Bool
is_good_name name = nat_le 1 (length name) && nat_le (length name) 64 && list_all is_name_byte name

abbrev pub IsGoodName : List ℕ → Type 0
IsGoodName name = is_good_name name ≡ true

-- the file of an image
abbrev pub file_name : List ℕ → List ℕ
file_name name = name ++ codes ".jp2"

-- the file while it is written
abbrev pub temporary_name : List ℕ → List ℕ
temporary_name name = name ++ codes ".tmp"

-- whether a file is that of an image of a name
abbrev pub is_file_of : List ℕ → List ℕ → Bool
is_file_of name file = is_good_name name && bytes_eq (file_name name) file

-- whether one of the files is
abbrev pub is_image : List ℕ → List (List ℕ) → Bool
is_image name files = list_any (is_file_of name) files
