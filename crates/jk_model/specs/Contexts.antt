-- The contexts of the MQ coder: the table of Qe values and probability estimation (T.800 Table
-- C.2), the first contexts (T.800 Table D.7) and the move of a context (T.800 C.2.5 and C.3.2).
use Rattle.std.specs.Prelude.{ℕ, Bool, true, false, not, List, [], ◌∷◌, ◌++◌, replicate, get_or, if◌then◌else◌}
use Rattle.std.specs.Bool.{beq}
use Rattle.jk_model.specs.declared.table.Row.{Row}

-- a context: the index of its state, and the symbol that is more probable in it, I(CX) and MPS(CX)
pub record Context : Type 0 where
  pub state : ℕ
  pub mps : Bool

-- one row: Qe, the next states after the more and after the less probable symbol, and whether an
-- LPS flips the MPS
abbrev pub line : ℕ → ℕ → ℕ → Bool → Row
line qe next_mps next_lps switch = record { qe = qe; next_mps = next_mps; next_lps = next_lps; switch = switch }

-- T.800 Table C.2
unfoldable pub rows : List Row
rows =
    line 0x5601 1 1 true ∷
    line 0x3401 2 6 false ∷
    line 0x1801 3 9 false ∷
    line 0x0AC1 4 12 false ∷
    line 0x0521 5 29 false ∷
    line 0x0221 38 33 false ∷
    line 0x5601 7 6 true ∷
    line 0x5401 8 14 false ∷
    line 0x4801 9 14 false ∷
    line 0x3801 10 14 false ∷
    line 0x3001 11 17 false ∷
    line 0x2401 12 18 false ∷
    line 0x1C01 13 20 false ∷
    line 0x1601 29 21 false ∷
    line 0x5601 15 14 true ∷
    line 0x5401 16 14 false ∷
    line 0x5101 17 15 false ∷
    line 0x4801 18 16 false ∷
    line 0x3801 19 17 false ∷
    line 0x3401 20 18 false ∷
    line 0x3001 21 19 false ∷
    line 0x2801 22 19 false ∷
    line 0x2401 23 20 false ∷
    line 0x2201 24 21 false ∷
    line 0x1C01 25 22 false ∷
    line 0x1801 26 23 false ∷
    line 0x1601 27 24 false ∷
    line 0x1401 28 25 false ∷
    line 0x1201 29 26 false ∷
    line 0x1101 30 27 false ∷
    line 0x0AC1 31 28 false ∷
    line 0x09C1 32 29 false ∷
    line 0x08A1 33 30 false ∷
    line 0x0521 34 31 false ∷
    line 0x0441 35 32 false ∷
    line 0x02A1 36 33 false ∷
    line 0x0221 37 34 false ∷
    line 0x0141 38 35 false ∷
    line 0x0111 39 36 false ∷
    line 0x0085 40 37 false ∷
    line 0x0049 41 38 false ∷
    line 0x0025 42 39 false ∷
    line 0x0015 43 40 false ∷
    line 0x0009 44 41 false ∷
    line 0x0005 45 42 false ∷
    line 0x0001 45 43 false ∷
    line 0x5601 46 46 false ∷
    []

-- the row of a state; an index past the table has the row of no decision
abbrev pub row_of : ℕ → Row
row_of state = get_or rows state (line 0 0 0 false)

-- How a context moves at a renormalisation: to the next state of the symbol that was coded. A less
-- probable symbol flips the sense of the more probable one where the row says so.
unfoldable pub moved : Context → Bool → Context
moved cx bit =
    let row = row_of cx.state in
    if beq bit cx.mps
    then record { state = row.next_mps; mps = cx.mps }
    else record { state = row.next_lps; mps = if row.switch then not cx.mps else cx.mps }

-- a context that begins in a state, with 0 as the more probable symbol
abbrev pub begins : ℕ → Context
begins state = record { state = state; mps = false }

-- Contexts 0 to 18 at the start: 0 (all neighbours of a coefficient insignificant) in state 4, 17
-- (run length) in state 3, 18 (uniform) in state 46, all others in state 0.
unfoldable pub first_contexts : List Context
first_contexts = begins 4 ∷ replicate 16 (begins 0) ++ begins 3 ∷ begins 46 ∷ []
