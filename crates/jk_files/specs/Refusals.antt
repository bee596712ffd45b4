-- Why a call on files was refused, as a fault, and what the system said.
use Rattle.std.specs.Prelude.{Option, Some, None}
use Rattle.std.specs.declared.io.Error.{Error}
use Rattle.jk_math.specs.declared.fault.Fault.{Fault}
use Rattle.jk_math.specs.declared.fault.Fault.TheVariants.{Memory as MemoryFault, Shelf as ShelfFault}
use Rattle.jk_files.specs.declared.refusal.Refusal.{Refusal}
use Rattle.jk_files.specs.declared.refusal.Refusal.TheVariants.{Memory, System}

abbrev pub fault_of : Refusal → Fault
fault_of (Memory refused) = MemoryFault refused
fault_of (System said) = ShelfFault

-- what the system said
abbrev pub said_of : Refusal → Option Error
said_of (Memory refused) = None
said_of (System said) = Some said
