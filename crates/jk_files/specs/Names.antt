-- Names of files inside a folder.
use Rattle.std.specs.Prelude.{◌≡◌, ℕ, Bool, true, not, ◌&&◌, nat_eq, List, [], codes}
use Rattle.std.specs.List.{list_any}
use Rattle.std.specs.Str.{bytes_eq}

-- a slash
abbrev pub is_slash : ℕ → Bool
is_slash b = nat_eq b 47

-- not empty, neither `.` nor `..`, and with no slash
abbrev pub is_file_name : List ℕ → Bool
is_file_name name = not (bytes_eq name []) && not (bytes_eq name (codes ".")) && not (bytes_eq name (codes ".."))
    && not (list_any is_slash name)

abbrev pub IsFileName : List ℕ → Type 0
IsFileName name = is_file_name name ≡ true
