-- The progression orders (T.800 A.6.1).
use Rattle.std.specs.Prelude.{ℕ, zero, suc}
use Rattle.jk_marks.specs.declared.segments.Order.{Order}
use Rattle.jk_marks.specs.declared.segments.Order.TheVariants.{Lrcp, Rlcp, Rpcl, Pcrl, Cprl}

-- the number of a progression order (table A.16)
abbrev pub order_code : Order → ℕ
order_code Lrcp = 0
order_code Rlcp = 1
order_code Rpcl = 2
order_code Pcrl = 3
order_code Cprl = 4

-- the order of a number, which is at most 4
abbrev pub order_with : ℕ → Order
order_with zero = Lrcp
order_with (suc zero) = Rlcp
order_with (suc (suc zero)) = Rpcl
order_with (suc (suc (suc zero))) = Pcrl
order_with (suc (suc (suc (suc n)))) = Cprl
