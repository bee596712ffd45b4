use Rattle.std.proofs.Common.{◌++◌, List, map, take}
use Rattle.jk_model.specs.Decisions.{State, Decision}
use Rattle.jk_mqenc.specs.Machine.{Machine}
use Rattle.jk_mqenc.specs.Encoded.{CodesFrom, decision_of, with_registers, lasting}
use Rattle.jk_mqenc.proofs.encoder.encode_list.Given as goal

abbrev pub invariant-loop-byte : goal.invariant-loop-byte
invariant-loop-byte l =
    (m : Machine) (s : State) (ds : List Decision) → CodesFrom m s (lasting l.fn.coder l.fn.contexts) ds → CodesFrom m s (lasting (with_registers l.coder l.registers) l.contexts) (ds ++ map decision_of (take l.byte-index l.decisions))
