-- Styles of code-blocks (T.800 table A.19).
use Rattle.std.specs.Prelude.{false}
use Rattle.jk_math.specs.declared.style.Style.{Style}

-- nothing is coded otherwise
abbrev pub plain_style : Style
plain_style = record { reset = false; causal = false; segments = false }
