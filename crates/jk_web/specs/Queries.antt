-- Queries that ask for a window (the URL Standard, section 5.1, for the pairs of a query).
use Rattle.std.specs.Prelude.{ℕ, ◌^◌, Bool, ◌&&◌, nat_lt, nat_le, List, [], ◌∷◌, length, map, count_by, find, Option}
use Rattle.std.specs.Prelude.{Some, None, is_some, unwrap_or, option_and_then, if◌then◌else◌, codes}
use Rattle.std.specs.List.{list_any, list_all}
use Rattle.std.specs.Char.{is_ascii_digit}
use Rattle.std.specs.Str.{bytes_eq}
use Rattle.std.specs.Str.Lossy.{utf8_lossy}
use Rattle.std.specs.Str.Parse.{digits_value}
use Rattle.form_urlencoded.specs.Form.{raw_pairs, decode}
use Rattle.jk_window.specs.declared.view.View.{View}

-- a name and a value as they stand in a query, decoded
abbrev pub decoded : List ℕ × List ℕ → List ℕ × List ℕ
decoded p = (utf8_lossy (decode p.0), utf8_lossy (decode p.1))

-- the names and values of a query
abbrev pub pairs_of : List ℕ → List (List ℕ × List ℕ)
pairs_of query = map decoded (raw_pairs query)

-- one to ten digits that write a number below 2^32
unfoldable pub is_number : List ℕ → Bool
is_number text =
    nat_lt 0 (length text)
    && (nat_le (length text) 10
    && (list_all is_ascii_digit text && nat_lt (digits_value 10 text) (2 ^ 32)))

-- the number that a text writes
unfoldable pub number_of : List ℕ → Option ℕ
number_of text = if is_number text then Some (digits_value 10 text) else None

-- the names of the left edge, the upper edge, the width, the height, the reduction and the number
-- of layers
abbrev pub keys : List (List ℕ)
keys = codes "x" ∷ codes "y" ∷ codes "w" ∷ codes "h" ∷ codes "r" ∷ codes "layers" ∷ []

-- whether a pair has this name
abbrev pub has_key : List ℕ → List ℕ × List ℕ → Bool
has_key key p = bytes_eq p.0 key

-- whether a pair has one of the names, and a number as its value
abbrev pub is_reading : List ℕ × List ℕ → Bool
is_reading p = list_any (λ key. has_key key p) keys && is_some (number_of p.1)

-- whether at most one pair has this name
abbrev pub stands_once : List (List ℕ × List ℕ) → List ℕ → Bool
stands_once pairs key = nat_le (count_by (has_key key) pairs) 1

-- the number that stands with a name
abbrev pub number_at : List ℕ → List (List ℕ × List ℕ) → Option ℕ
number_at key pairs = option_and_then (λ p. number_of p.1) (find (has_key key) pairs)

-- a window, where its four sides are given; the reduction is 0 where it isn't, and all layers are
-- asked for where no number of them is
abbrev pub queried_window : Option ℕ → Option ℕ → Option ℕ → Option ℕ → Option ℕ → Option ℕ → Option View
queried_window (Some x) (Some y) (Some width) (Some height) reduce layers =
    Some record { reduce = unwrap_or reduce 0; x = x; y = y; width = width; height = height; layers = layers }
queried_window _ _ _ _ _ _ = None

-- The window that pairs ask for: each pair has one of the names and a number, and no name stands
-- twice.
abbrev pub asked_by : List (List ℕ × List ℕ) → Option View
asked_by pairs =
    if list_all is_reading pairs && list_all (stands_once pairs) keys
    then queried_window (number_at (codes "x") pairs) (number_at (codes "y") pairs) (number_at (codes "w") pairs)
    (number_at (codes "h") pairs) (number_at (codes "r") pairs) (number_at (codes "layers") pairs)
    else None
