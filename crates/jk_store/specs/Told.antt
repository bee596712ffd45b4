-- What is told of an image that was to be added.
use Rattle.std.specs.Prelude.{ℕ, List, codes}

abbrev pub added_word : List ℕ
added_word = codes "added "

abbrev pub refused_word : List ℕ
refused_word = codes "refused "
