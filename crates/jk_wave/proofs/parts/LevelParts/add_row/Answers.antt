use Rattle.std.proofs.Common.{◌≡◌, length, refl, ◌∙◌, arith}
use Rattle.jk_math.specs.Raster.{columns_of}
use Rattle.jk_wave.specs.declared.parts.LevelParts.{LevelParts}
use Rattle.jk_wave.specs.Levels.{half_area}
use Rattle.jk_wave.proofs.Descending.{even_row, odd_row}
use Rattle.jk_wave.proofs.falling.Giving.{gives_even, gives_odd}
use Rattle.jk_wave.proofs.parts.LevelParts.add_row.Goals as goal

pub returns-in_ok-extend_from_slice-2-clause-parts : goal.returns-in_ok-extend_from_slice-2-clause-parts
returns-in_ok-extend_from_slice-2-clause-parts c f =
    let area = c.args.area.now in
    let low = c.analyse_line.new.low in
    let high = c.analyse_line.new.high in
    let old : LevelParts = c.args.self.now in
    let new : LevelParts = record { ll = c.extend_from_slice.new.self; hl = c.extend_from_slice-then-y-eq0.new.self; lh = old.lh; hh = old.hh } in
    let low_wide : length low ≡ columns_of (half_area area 0) = c.analyse_line.auto.low ∙ c.split_at_mut-low.ensures.front_len ∙ c.low_width.ensures in
    let back = c.split_at_mut-low.ensures.back_len in
    let long = c.analyse_line.auto.high in
    let ordered = c.requires.area.left in
    even_row area c.args.y f c.args.row.now low high old new c.requires.area c.requires.y (omega arith) low_wide
    (omega (arith, c.low_width.ensures, c.requires.line)) c.analyse_line.ensures c.in_ok-extend_from_slice.ensures.items c.in_ok-extend_from_slice-2.ensures.items refl refl

pub returns-in_ok-extend_from_slice-4-clause-parts : goal.returns-in_ok-extend_from_slice-4-clause-parts
returns-in_ok-extend_from_slice-4-clause-parts c f =
    let area = c.args.area.now in
    let low = c.analyse_line.new.low in
    let high = c.analyse_line.new.high in
    let old : LevelParts = c.args.self.now in
    let new : LevelParts = record { ll = old.ll; hl = old.hl; lh = c.extend_from_slice-else-y-eq0.new.self; hh = c.extend_from_slice-else-y-eq0-2.new.self } in
    let low_wide : length low ≡ columns_of (half_area area 0) = c.analyse_line.auto.low ∙ c.split_at_mut-low.ensures.front_len ∙ c.low_width.ensures in
    let back = c.split_at_mut-low.ensures.back_len in
    let long = c.analyse_line.auto.high in
    let ordered = c.requires.area.left in
    odd_row area c.args.y f c.args.row.now low high old new c.requires.area c.requires.y (omega arith) low_wide
    (omega (arith, c.low_width.ensures, c.requires.line)) c.analyse_line.ensures refl refl c.in_ok-extend_from_slice-3.ensures.items c.in_ok-extend_from_slice-4.ensures.items

pub returns-in_ok-extend_from_slice-2-clause-gives : goal.returns-in_ok-extend_from_slice-2-clause-gives
returns-in_ok-extend_from_slice-2-clause-gives c f =
    let area = c.args.area.now in
    let low = c.analyse_line.new.low in
    let high = c.analyse_line.new.high in
    let old : LevelParts = c.args.self.now in
    let new : LevelParts = record { ll = c.extend_from_slice.new.self; hl = c.extend_from_slice-then-y-eq0.new.self; lh = old.lh; hh = old.hh } in
    let low_wide : length low ≡ columns_of (half_area area 0) = c.analyse_line.auto.low ∙ c.split_at_mut-low.ensures.front_len ∙ c.low_width.ensures in
    let back = c.split_at_mut-low.ensures.back_len in
    let long = c.analyse_line.auto.high in
    let ordered = c.requires.area.left in
    gives_even area c.args.y f c.args.row.now low high old new c.requires.area (omega arith) low_wide
    (omega (arith, c.low_width.ensures, c.requires.line)) c.analyse_line.ensures c.in_ok-extend_from_slice.ensures.items c.in_ok-extend_from_slice-2.ensures.items refl refl

pub returns-in_ok-extend_from_slice-4-clause-gives : goal.returns-in_ok-extend_from_slice-4-clause-gives
returns-in_ok-extend_from_slice-4-clause-gives c f =
    let area = c.args.area.now in
    let low = c.analyse_line.new.low in
    let high = c.analyse_line.new.high in
    let old : LevelParts = c.args.self.now in
    let new : LevelParts = record { ll = old.ll; hl = old.hl; lh = c.extend_from_slice-else-y-eq0.new.self; hh = c.extend_from_slice-else-y-eq0-2.new.self } in
    let low_wide : length low ≡ columns_of (half_area area 0) = c.analyse_line.auto.low ∙ c.split_at_mut-low.ensures.front_len ∙ c.low_width.ensures in
    let back = c.split_at_mut-low.ensures.back_len in
    let long = c.analyse_line.auto.high in
    let ordered = c.requires.area.left in
    gives_odd area c.args.y f c.args.row.now low high old new c.requires.area (omega arith) low_wide
    (omega (arith, c.low_width.ensures, c.requires.line)) c.analyse_line.ensures refl refl c.in_ok-extend_from_slice-3.ensures.items c.in_ok-extend_from_slice-4.ensures.items
