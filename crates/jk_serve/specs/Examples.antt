-- Examples: a line of the operator, and its answer.
use Rattle.std.specs.Prelude.{◌≡◌, ◌∷◌, ◌++◌, codes, refl}
use Rattle.jk_serve.specs.OperatorLines.{add_word, added_word}

-- The path goes on to the end of the line, with its spaces.
asks : add_word ++ codes "scan" ++ 32 ∷ codes "/scans/page 1.pgm" ≡ codes "add scan /scans/page 1.pgm"
asks = refl

answers : added_word ++ codes "scan" ≡ codes "added scan"
answers = refl
