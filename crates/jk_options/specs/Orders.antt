-- The names of the orders of packets.
use Rattle.std.specs.Prelude.{◌≡◌, ℕ, List, codes}
use Rattle.jk_marks.specs.declared.segments.Order.{Order}
use Rattle.jk_marks.specs.declared.segments.Order.TheVariants.{Lrcp, Rlcp, Rpcl, Pcrl, Cprl}

-- the name of an order of packets (T.800 A.6.1, table A.16)
abbrev pub order_text : Order → List ℕ
order_text Lrcp = codes "LRCP"
order_text Rlcp = codes "RLCP"
order_text Rpcl = codes "RPCL"
order_text Pcrl = codes "PCRL"
order_text Cprl = codes "CPRL"

-- no order has this name
abbrev pub IsNoOrder : List ℕ → Type 0
IsNoOrder name = (order : Order) → order_text order ≡ name → ⊥
