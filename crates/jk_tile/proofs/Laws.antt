-- What proofs of other crates may cite of this crate's proofs.
pub use Rattle.jk_tile.proofs.TileLaws.{tile_found, tile_only}
pub use Rattle.jk_tile.proofs.TileLaws.{IsDecoded, tile_tested}
pub use Rattle.jk_tile.proofs.Steps.{fine, each_none, each_more, each_fails, each_found, each_only, refuses_on, tested_then, tested_ok, tested_err, bind_ok, bind_err, band_by, precinct_by, resolution_by, component_by}
pub use Rattle.jk_tile.proofs.Showing.{IsPut, Agrees, put_keeps, put_shows, put_at, has_within, within_has, put_here, put_there, vector_items, with_same, numbered_band}
pub use Rattle.jk_tile.proofs.Colours.{rasters, count_is as lists_count, list_is, list_long, lists_uncoloured, uncoloured_small, wider, samples_coloured, samples_plain}
pub use Rattle.jk_tile.proofs.encoding.PacketsTold.{HaveTables, names_of, of_layers, bodies_same, tile_is}
pub use Rattle.jk_tile.proofs.encoding.LayerTables.{table_fits, table_has_bytes, table_has_passes}
pub use Rattle.jk_tile.proofs.encoding.BlocksMeant.{precinct_bodies, block_meant}
pub use Rattle.jk_tile.proofs.encoding.TileAreas.{tile_is_area}
pub use Rattle.jk_tile.proofs.encoding.WrittenTile.{IsSmall, exponents_long, exponents_small, planes_have, are_written}
pub use Rattle.jk_tile.proofs.encoding.WrittenTile.{coding_is, tables_same, block_room, table_for, precinct_fits, tables_have}
pub use Rattle.jk_tile.proofs.encoding.SamplesMeant.{written_decodes}
pub use Rattle.jk_tile.proofs.encoding.FrontsMeant.{front_decodes}
pub use Rattle.jk_tile.proofs.FrontBodies.{one_front}
pub use Rattle.jk_tile.proofs.encoding.TileIndex.{tile_at, index_below, index_apart}
pub use Rattle.jk_tile.proofs.TileLaws.{bodies_are, pixel_same}
pub use Rattle.jk_tile.proofs.Components.{levels_read, shown_is, source_of, source_is, source_here, coding_read, lists_push, small_push}
pub use Rattle.jk_tile.proofs.decoding.Judged.{components_tested, component_is, tile_fine, whole_of}
pub use Rattle.jk_tile.proofs.AllBands.{numbered_low, numbered_high}
pub use Rattle.jk_tile.proofs.decoding.LocalTiles.{IsMeant, meant_at, none_meant, gathered, place_agrees}
pub use Rattle.jk_tile.proofs.decoding.PartLaws.{each_fewer, part_decoded, part_fine}
pub use Rattle.jk_tile.proofs.decoding.Covered.{tile_covered}
pub use Rattle.jk_tile.proofs.decoding.MetBlocks.{IsMetAt, met_place, each_alike, if_alike, AreSameMet, component_alike, coefficient_alike}
pub use Rattle.jk_tile.proofs.Places.{is_band, block_place}
pub use Rattle.jk_tile.proofs.decoding.StripLaws.{strip_is, strip_small, source_small, block_row_is}
pub use Rattle.jk_tile.proofs.encoding.WrittenTile.{exponents_are}
pub use Rattle.jk_tile.proofs.encoding.TilesLate.{frame_made, value_same, sixteen_are, room_late}
pub use Rattle.jk_tile.proofs.encoding.Needing.{need_is}
