-- The fault that only a refused growth of memory gives.
use Rattle.jk_math.specs.declared.fault.Fault.{Fault}
use Rattle.jk_math.specs.declared.fault.Fault.TheVariants.{Memory}

abbrev pub IsMemory : Fault → Type 0
IsMemory (Memory r) = Unit {0}
IsMemory e = ⊥
