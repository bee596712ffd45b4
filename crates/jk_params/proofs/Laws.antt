-- The laws that crates above cite: headers are read exactly, the data of a tile stand at its places, how many packets there are, and
-- that exponents don't change that.
pub use Rattle.jk_params.proofs.PlacesLaws.{part_text_length, place_in, content_at, put, places_from, places_are, contents_from, contents_of}
pub use Rattle.jk_params.proofs.PartsLaws.{tiles_said, fields_with, said_at}
pub use Rattle.jk_params.proofs.ProfileLaws.{same_packets, tile_same, frame_is, profile_by_frame, written_by_frame, frame_by_written}
pub use Rattle.jk_params.proofs.HeadersLaws.{found_headers}
pub use Rattle.jk_params.proofs.HeadersAgain.{only_headers}
pub use Rattle.jk_params.proofs.SoundLaws.{sound_headers}
pub use Rattle.jk_params.proofs.LoopLaws.{total_more}
pub use Rattle.jk_params.proofs.CountLaws.{part_of_total, packets_in, few_packets}
pub use Rattle.jk_params.proofs.PlaceLaws.{part_placed}
pub use Rattle.jk_params.proofs.Below.{below_none, below_more, below_fails, below_at, below_from}
pub use Rattle.jk_params.proofs.LevelLaws.{few_levels, levels_found, levels_only}
