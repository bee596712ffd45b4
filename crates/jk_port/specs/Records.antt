-- What the log has of a request.
use Rattle.std.specs.Prelude.{◌≡◌, ◌≤◌, ℕ, List, ◌∷◌, ◌++◌, All}
use Rattle.std.specs.Fmt.{decimal}

-- a graphic character of ASCII
abbrev pub IsGraphic : ℕ → Type 0
IsGraphic b = (33 ≤ b) × (b ≤ 126)

-- Graphic characters alone were appended.
abbrev pub Spells : List ℕ → List ℕ → Type 0
Spells old new = (more : List ℕ) × (new ≡ old ++ more) × All IsGraphic more

-- two words of graphic characters, with a space between them
abbrev pub SpellsRequest : List ℕ → Type 0
SpellsRequest text = (method target : List ℕ) × (text ≡ method ++ 32 ∷ target) × All IsGraphic method × All IsGraphic target

-- the request, the status, how many bytes were sent, and in how many microseconds
abbrev pub record_text : List ℕ → ℕ → ℕ → ℕ → List ℕ
record_text request status bytes micros = request ++ 32 ∷ (decimal status ++ 32 ∷ (decimal bytes ++ 32 ∷ decimal micros))
