-- What is appended in graphic characters.
use Rattle.std.proofs.Common.{ℕ, List, [], ◌++◌, ap, ◌∙◌, append_assoc, rules}
use Rattle.std.proofs.lemmas.List.Elements.{All-append, All-nil}
use Rattle.jk_port.specs.Records.{IsGraphic, Spells}

pub spells_none : (a : List ℕ) → Spells a a
spells_none a = ([], search rules, All-nil IsGraphic)

pub spells_on : (a b c : List ℕ) → Spells a b → Spells b c → Spells a c
spells_on a b c p q = (
  p.0 ++ q.0,
  q.1 ∙ ap (λ t. t ++ q.0) p.1 ∙ append_assoc a p.0 q.0,
  All-append IsGraphic p.0 q.0 p.2 q.2,
)
