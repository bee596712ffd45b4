-- Examples: what is kept of a tile of two layers and two precincts, by the definitions alone.
use Rattle.std.specs.Prelude.{◌≡◌, ℕ, ◌-◌, true, ◌&&◌, cond, List, [], ◌∷◌, ◌++◌, map, Some, None, refl}
use Rattle.std.specs.Prelude.{◌==◌}
use Rattle.jk_marks.specs.declared.siz.Siz.{Siz}
use Rattle.jk_marks.specs.declared.segments.Order.{Order}
use Rattle.jk_marks.specs.declared.segments.CodingStyle.{CodingStyle}
use Rattle.jk_order.specs.PacketOrder.{layer_name}
use Rattle.jk_params.specs.Headers.{Headers, TileFields}
use Rattle.jk_walk.specs.TilePackets.{Packet}
use Rattle.jk_window.specs.Emptied.{run_text}
use Rattle.jk_window.specs.Views.{layers_in}
use Rattle.jk_window.specs.Cutting.{front_content}
use Rattle.jk_window.specs.Again.{front_runs}

-- Two tiles of two layers, with SOP and EPH.
abbrev tile : Order → CodingStyle → TileFields
tile order style =
    record {
      cod = record { sop = true; eph = true; order = order; layers = 2; colour = true; style = style };
      codings = [];
      data_places = [];
    }

abbrev headers : Siz → Order → CodingStyle → Headers
headers siz order style = record { siz = siz; tiles = tile order style ∷ (tile order style ∷ []) }

-- The text of the n-th packet: SOP, a header of one byte, EPH and a body of one byte.
abbrev whole : ℕ → List ℕ
whole n = 0xFF ∷ (0x91 ∷ (0 ∷ (4 ∷ (0 ∷ (n ∷ (0xC0 ∷ (0xFF ∷ (0x92 ∷ (n ∷ [])))))))))

-- and that of the empty packet in its place
abbrev empty : ℕ → List ℕ
empty n = 0xFF ∷ (0x91 ∷ (0 ∷ (4 ∷ (0 ∷ (n ∷ (0 ∷ (0xFF ∷ (0x92 ∷ []))))))))

-- of component 2 and resolution 1
abbrev packet : (k l n : ℕ) → Packet
packet k l n = record { name = layer_name 2 1 k l; layer = None; bits = []; bodies = []; text = whole n }

-- In each part stand the packets of one layer.
abbrev runs : ℕ → List (List Packet)
runs t = (packet 0 0 0 ∷ (packet 1 0 1 ∷ [])) ∷ ((packet 0 1 2 ∷ (packet 1 1 3 ∷ [])) ∷ [])

-- two layers of precinct 0 of tile 1, and one of its precinct 1
abbrev fronts : ℕ → ℕ → ℕ → ℕ → ℕ
fronts t c r k = cond ((t == 1) && ((c == 2) && (r == 1))) (2 - k) 0

all_but_the_last : (siz : Siz) (order : Order) (style : CodingStyle)
    → map run_text (front_runs (headers siz order style) fronts runs 1)
    ≡ (whole 0 ++ whole 1) ∷ ((whole 2 ++ empty 3) ∷ [])
all_but_the_last siz order style = refl

data_of_part_1 : (siz : Siz) (order : Order) (style : CodingStyle)
    → front_content (headers siz order style) fronts runs 1 1 ≡ whole 2 ++ empty 3
data_of_part_1 siz order style = refl

none_of_tile_0 : (siz : Siz) (order : Order) (style : CodingStyle)
    → map run_text (front_runs (headers siz order style) fronts runs 0)
    ≡ (empty 0 ++ empty 1) ∷ ((empty 2 ++ empty 3) ∷ [])
none_of_tile_0 siz order style = refl

first_layer : (siz : Siz) (order : Order) (style : CodingStyle)
    → map run_text (front_runs (headers siz order style) (λ _ _ _ _. 1) runs 1)
    ≡ (whole 0 ++ whole 1) ∷ ((empty 2 ++ empty 3) ∷ [])
first_layer siz order style = refl

-- a precinct that is kept, with all its layers, and another that isn't
second_precinct : (siz : Siz) (order : Order) (style : CodingStyle)
    → map run_text (front_runs (headers siz order style) (λ _ _ _ k. cond (k == 1) (layers_in None 2) 0) runs 1)
    ≡ (empty 0 ++ whole 1) ∷ ((empty 2 ++ whole 3) ∷ [])
second_precinct siz order style = refl

-- the same with its first layer alone, and with more layers than there are
first_of_second : (siz : Siz) (order : Order) (style : CodingStyle)
    → map run_text (front_runs (headers siz order style) (λ _ _ _ k. cond (k == 1) (layers_in (Some 1) 2) 0) runs 1)
    ≡ (empty 0 ++ whole 1) ∷ ((empty 2 ++ empty 3) ∷ [])
first_of_second siz order style = refl

more_of_second : (siz : Siz) (order : Order) (style : CodingStyle)
    → map run_text (front_runs (headers siz order style) (λ _ _ _ k. cond (k == 1) (layers_in (Some 3) 2) 0) runs 1)
    ≡ (empty 0 ++ whole 1) ∷ ((empty 2 ++ whole 3) ∷ [])
more_of_second siz order style = refl
