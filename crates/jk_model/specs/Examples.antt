-- Examples: rows of T.800 Table C.2, the contexts of Table D.7, the code value of a few bytes
-- (T.800 C.3.4, C.3.5), and the first bits of the test sequence of ITU-T T.88, H.2, whose coder is
-- the same.
use Rattle.std.specs.Prelude.{◌≡◌, ℕ, zero, suc, true, false, List, [], ◌∷◌, map, length, refl}
use Rattle.jk_model.specs.Contexts.{line, rows, row_of, moved, begins, first_contexts}
use Rattle.jk_model.specs.Code.{is_last, is_past, fed, code_places, start, wanted, share, shares, code_value}
use Rattle.jk_model.specs.Decisions.{State, initial, context_at, is_lower, is_exchanged, bit_at, divided, renormalised}
use Rattle.jk_model.specs.Decisions.{contexts_after, after}
use Rattle.jk_model.specs.Deciding.{takes_lower}
use Rattle.jk_model.specs.Placed.{gap, top, placed_number, end}

-- the first row, the one behind the fast start, the last but one, and that of the uniform context
some_rows : map row_of (0 ∷ 13 ∷ 45 ∷ 46 ∷ [])
    ≡ line 0x5601 1 1 true ∷ line 0x1601 29 21 false ∷ line 0x0001 45 43 false ∷ line 0x5601 46 46 false ∷ []
unfolding rows
some_rows = refl

all_rows : length rows ≡ 47
unfolding rows
all_rows = refl

-- A context moves by the symbol that was coded: state 4, the first of context 0, by its more and by
-- its less probable symbol; state 0 and state 14, where the less probable symbol flips the sense.
moves_on : moved (begins 4) false ≡ begins 5
unfolding moved rows
moves_on = refl

moves_back : moved (begins 4) true ≡ begins 29
unfolding moved rows
moves_back = refl

flips : moved (begins 0) true ≡ record { state = 1; mps = true }
unfolding moved rows
flips = refl

flips_back : moved (record { state = 14; mps = true }) false ≡ begins 14
unfolding moved rows
flips_back = refl

-- contexts 0, 1, 16, 17 and 18 at the start, and no context 19
at_the_start : map (λ cx. (context_at initial cx).state) (0 ∷ 1 ∷ 16 ∷ 17 ∷ 18 ∷ []) ≡ 4 ∷ 0 ∷ 0 ∷ 3 ∷ 46 ∷ []
unfolding first_contexts
at_the_start = refl

nineteen : length first_contexts ≡ 19
unfolding first_contexts
nineteen = refl

-- Behind FF a byte up to 8F begins one place early; one above it ends the data, and ones are fed.
stuffed : map (start (0xFF ∷ 0x8F ∷ 0x03 ∷ [])) (0 ∷ 1 ∷ 2 ∷ []) ≡ 0 ∷ 7 ∷ 15 ∷ []
unfolding is_last is_past fed code_places start
stuffed = refl

ended : map (fed (0xFF ∷ 0x90 ∷ 0x03 ∷ [])) (0 ∷ 1 ∷ 2 ∷ 9 ∷ []) ≡ 0xFF ∷ 0xFF ∷ 0xFF ∷ 0xFF ∷ []
unfolding is_last is_past fed
ended = refl

-- The code value of 01 8F 0D: the first two bytes at the start, and the third from two doublings
-- on.
first_two : map (code_value (0x01 ∷ 0x8F ∷ 0x0D ∷ [])) (0 ∷ 1 ∷ 2 ∷ []) ≡ 0x63C0 ∷ 0xC780 ∷ 0x18F0D ∷ []
unfolding is_last is_past fed code_places start wanted share shares code_value
first_two = refl

-- and of FF 8F 03, where the second byte begins early and the third one is wanted one place early
early : map (code_value (0xFF ∷ 0x8F ∷ 0x03 ∷ [])) (0 ∷ 1 ∷ []) ≡ 0x400780 ∷ 0x800F03 ∷ []
unfolding is_last is_past fed code_places start wanted share shares code_value
early = refl

-- no byte at all
no_byte : map (code_value []) (0 ∷ 1 ∷ 2 ∷ []) ≡ 0x3FFFC0 ∷ 0x7FFF80 ∷ 0xFFFFFF ∷ []
unfolding is_last is_past fed code_places start wanted share shares code_value
no_byte = refl

-- The test sequence, all of whose decisions are in one context that begins in state 0. Its first
-- sixteen bits are 00 02.
abbrev sequence : List ℕ
sequence = 0x84 ∷ 0xC7 ∷ 0x3B ∷ 0xFC ∷ 0xE1 ∷ 0xA1 ∷ 0x43 ∷ 0x04 ∷ []

abbrev state_at : ℕ → State
state_at zero = initial
state_at (suc n) = after sequence (state_at n) 1

first_byte : map (λ n. bit_at sequence (state_at n) 1) (0 ∷ 1 ∷ 2 ∷ 3 ∷ 4 ∷ 5 ∷ 6 ∷ 7 ∷ [])
    ≡ false ∷ false ∷ false ∷ false ∷ false ∷ false ∷ false ∷ false ∷ []
unfolding is_last is_past fed code_places start wanted share shares code_value rows moved first_contexts is_lower
    is_exchanged bit_at divided renormalised contexts_after after
first_byte = refl

second_byte : map (λ n. bit_at sequence (state_at n) 1) (8 ∷ 9 ∷ 10 ∷ 11 ∷ 12 ∷ 13 ∷ 14 ∷ 15 ∷ [])
    ≡ false ∷ false ∷ false ∷ false ∷ false ∷ false ∷ true ∷ false ∷ []
unfolding is_last is_past fed code_places start wanted share shares code_value rows moved first_contexts is_lower
    is_exchanged bit_at divided renormalised contexts_after after
second_byte = refl

-- A, the size of the interval, before the first nine decisions: at the first, where the lower
-- subinterval is the greater one, that is taken for the more probable symbol.
sizes : map (λ n. (state_at n).width) (0 ∷ 1 ∷ 2 ∷ 3 ∷ 4 ∷ 5 ∷ 6 ∷ 7 ∷ 8 ∷ [])
    ≡ 0x8000 ∷ 0xAC02 ∷ 0xF002 ∷ 0xD801 ∷ 0xC000 ∷ 0xA7FF ∷ 0x8FFE ∷ 0xEFFA ∷ 0xE539 ∷ []
unfolding is_last is_past fed code_places start wanted share shares code_value rows moved first_contexts is_lower
    is_exchanged bit_at divided renormalised contexts_after after
sizes = refl

exchanged : map (λ n. is_exchanged (state_at n) 1) (0 ∷ 1 ∷ []) ≡ true ∷ false ∷ []
unfolding is_last is_past fed code_places start wanted share shares code_value rows moved first_contexts is_lower
    is_exchanged bit_at divided renormalised contexts_after after
exchanged = refl

-- the interval behind the sixteenth decision, and the context in it: the fifteenth, the first with
-- the bit 1, has moved it from state 3 to state 12
behind : (state_at 16).low ∷ (state_at 16).width ∷ (state_at 16).doublings ∷ (context_at (state_at 16) 1).state ∷ []
    ≡ 0x20D151 ∷ 0x900F ∷ 7 ∷ 12 ∷ []
unfolding is_last is_past fed code_places start wanted share shares code_value rows moved first_contexts is_lower
    is_exchanged bit_at divided renormalised contexts_after after
behind = refl

-- with no bytes, the bit 1 takes the upper subinterval at the first decision and the lower one at
-- the second
takes : takes_lower initial 1 true ∷ takes_lower (state_at 1) 1 true ∷ [] ≡ false ∷ true ∷ []
unfolding takes_lower is_last is_past fed code_places start wanted share shares code_value rows moved first_contexts
    is_lower is_exchanged bit_at divided renormalised contexts_after after
takes = refl

-- Placed bytes FF 7F, the last one first. FF takes eight places, and the byte behind it seven: they
-- make 255 * 2^7 + 127, and end at place 15. Behind FF at most 8F may stand.
placed : placed_number (0x7F ∷ 0xFF ∷ []) ∷ end (0xFF ∷ []) ∷ end (0x7F ∷ 0xFF ∷ []) ∷ top (0xFF ∷ []) ∷ top (0x7F
    ∷ []) ∷ []
    ≡ 32767 ∷ 8 ∷ 15 ∷ 0x8F ∷ 0xFF ∷ []
unfolding gap top
placed = refl
