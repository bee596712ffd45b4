-- Bytes that come from a source, and are taken part by part.
use Rattle.std.specs.Prelude.{◌≡◌, ℕ, ◌++◌, List, Option, drop}
use Rattle.std.specs.Io.KnownBytes.{Consumes}
use Rattle.jk_files.specs.declared.incoming.Incoming.{Incoming}

-- the bytes that were given and not taken
abbrev pub waiting_of : {S : Type 0} → Incoming S → List ℕ
waiting_of {S} a = drop a.taken a.given.items

-- Between two states of one source these bytes were taken: they and those that wait then are those
-- that waited before, and those that the source gave in between.
pub record Took {S : Type 0} (remaining : S → Option (List ℕ)) (a b : Incoming S) (bytes : List ℕ) : Type 0 where
  pub same : b.source.ghost_name ≡ a.source.ghost_name
  pub more : List ℕ
  pub consumed : Consumes (remaining a.source.now) (remaining b.source.now) more
  pub text : bytes ++ waiting_of b ≡ waiting_of a ++ more
