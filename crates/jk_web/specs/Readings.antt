-- A query that is read from front to back: what was read, and the pairs that are left.
use Rattle.std.specs.Prelude.{ℕ, ◌+◌, Bool, ◌&&◌, nat_le, List, [], ◌∷◌, count_by, Option, None, is_some, if◌then◌else◌}
use Rattle.std.specs.Prelude.{codes}
use Rattle.std.specs.List.{list_all}
use Rattle.std.specs.Option.{option_or}
use Rattle.jk_window.specs.declared.view.View.{View}
use Rattle.jk_web.specs.declared.query.Readings.{Readings}
use Rattle.jk_web.specs.Queries.{has_key, is_reading, number_at, queried_window}

-- what was read, by name
abbrev pub slots : Readings → List (List ℕ × Option ℕ)
slots r = (codes "x", r.x) ∷ (codes "y", r.y) ∷ (codes "w", r.width) ∷ (codes "h", r.height) ∷ (codes "r", r.reduce)
    ∷ (codes "layers", r.layers) ∷ []

-- whether a name stands once in all, what was read counted
abbrev pub is_once : List (List ℕ × List ℕ) → List ℕ × Option ℕ → Bool
is_once pairs slot = nat_le (count_by (has_key slot.0) pairs + (if is_some slot.1 then 1 else 0)) 1

-- the number of a name that was read, or is left
abbrev pub number_with : Option ℕ → List ℕ → List (List ℕ × List ℕ) → Option ℕ
number_with slot key pairs = option_or slot (number_at key pairs)

-- the window of what was read and of the pairs that are left
unfoldable pub asked_with : Readings → List (List ℕ × List ℕ) → Option View
asked_with r pairs =
    if list_all is_reading pairs && list_all (is_once pairs) (slots r)
    then queried_window (number_with r.x (codes "x") pairs) (number_with r.y (codes "y") pairs)
    (number_with r.width (codes "w") pairs) (number_with r.height (codes "h") pairs)
    (number_with r.reduce (codes "r") pairs) (number_with r.layers (codes "layers") pairs)
    else None
