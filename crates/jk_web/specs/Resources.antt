-- What the path of a request target names on a server of images.
pub use Rattle.jk_catalogue.specs.Images.{is_segment_byte, IsPathSegment}
use Rattle.std.specs.Prelude.{ℕ, ◌+◌, Bool, not, ◌==◌, List, ◌++◌, take, drop, find, Option, Some, None, if◌then◌else◌}
use Rattle.std.specs.Prelude.{codes, IsTrue, All}
use Rattle.std.specs.List.{list_any, position_or_len}
use Rattle.std.specs.Str.{bytes_eq}
use Rattle.jk_web.specs.declared.resource.NamedResource.{NamedResource}
use Rattle.jk_web.specs.declared.resource.NamedResource.TheVariants.{Listing, Whole, Window, Nowhere}

-- the `?` behind a path
abbrev pub is_question : ℕ → Bool
is_question b = b == 63

-- the path of a target: what stands before the first `?`
abbrev pub path_of : List ℕ → List ℕ
path_of target = take (position_or_len is_question target) target

-- the query of a target: what follows the first `?`, if there is one
abbrev pub query_of : List ℕ → List ℕ
query_of target = drop (position_or_len is_question target + 1) target

-- what a path names: the list of images, an image, windows of an image, or nothing
pub data Resource : Type 0 where
  listing : Resource
  whole : List ℕ → Resource
  window : List ℕ → Resource
  nowhere : Resource

-- the path of an image
abbrev pub whole_path : List ℕ → List ℕ
whole_path name = codes "/images/" ++ name

-- the path of its windows
abbrev pub window_path : List ℕ → List ℕ
window_path name = codes "/images/" ++ (name ++ codes "/window")

-- what is made of a name that was found, or something else
abbrev pub found_or : Option (List ℕ) → (List ℕ → Resource) → Resource → Resource
found_or (Some name) make other = make name
found_or None make other = other

-- what a path names, where images have these names
unfoldable pub resource_at : List ℕ → List (List ℕ) → Resource
resource_at path names =
    if bytes_eq path (codes "/images") then listing
    else found_or (find (λ name. bytes_eq path (whole_path name)) names) whole
    (found_or (find (λ name. bytes_eq path (window_path name)) names) window nowhere)

-- whether a name is one of the names
abbrev pub is_among : List (List ℕ) → List ℕ → Bool
is_among names name = list_any (bytes_eq name) names

-- the same, as a path is read without knowing the names
abbrev pub seen : NamedResource → Resource
seen Listing = listing
seen (Whole name) = whole name.now
seen (Window name) = window name.now
seen Nowhere = nowhere

-- and what is left of it, where only these names are known
abbrev pub among : List (List ℕ) → Resource → Resource
among names listing = listing
among names (whole name) = if is_among names name then whole name else nowhere
among names (window name) = if is_among names name then window name else nowhere
among names nowhere = nowhere
