-- What a file is to keep, read box by box.
use Rattle.std.proofs.Common.{◌≡◌, map, Result, Err}
use Rattle.jk_math.specs.Answer.{Refuses}
use Rattle.jk_math.specs.declared.fault.Fault.{Fault}
use Rattle.jk_math.specs.declared.fault.Fault.TheVariants.{Memory}
use Rattle.jk_extras.specs.declared.values.Extras.{Extras}
use Rattle.jk_extras.specs.Extras.{IsNone}
use Rattle.jk_extras.specs.Boxed.{plain, plain_colour, plain_other, nothing_read}

pub none_plain : (e : Extras) → IsNone e → plain e ≡ nothing_read
none_plain e none = λ i. record { colour = plain_colour (none.colour i); capture = none.capture i; display = none.display i; others = map plain_other (none.others i) }

-- a fault that is due goes on
pub refuses_then : {A B : Type 0} (d : Fault) (r : Result A Fault) (s : Result B Fault) → Refuses d r → (r ≡ Err d → s ≡ Err d) → Refuses d s
refuses_then (Memory m) r s h f = tt
refuses_then d r s h f = f h
