use Rattle.std.proofs.Common.{◌≡◌, List, length, get_or, refl, sym, ap, subst, ◌∙◌}
use Rattle.std.specs.Global.{Vec}
use Rattle.std.proofs.lemmas.Result.{err_from_is_err_and, on_ok_weaker}
use Rattle.jk_math.specs.Lists.{lists_of}
use Rattle.jk_packet.specs.Written.{Table}
use Rattle.jk_marks.specs.declared.coding.Coding.{Coding}
use Rattle.jk_params.specs.Coding.{coding_with, HasPlanes}
use Rattle.jk_params.specs.Profile.{cod_of}
use Rattle.jk_walk.specs.TilePackets.{planes_of}
use Rattle.jk_tile.specs.encoding.PacketsWritten.{written_coding}
use Rattle.jk_tile.specs.encoding.FallenTiles.{HasTileRoom}
use Rattle.jk_code.specs.ComingRows.{component_of, tiles_coming, AreCoded}
use Rattle.jk_tile.proofs.Laws.{planes_have}
use Rattle.jk_code.proofs.ComingLaws.{coming_written}
use Rattle.jk_code.proofs.SendingLaws.{left_none}
use Rattle.jk_code.proofs.encoding_rows.put_tiles.Goals as goal

pub all_tables-requires-clause-planes : goal.all_tables-requires-clause-planes
all_tables-requires-clause-planes g c =
    let p = c.requires.coded.0 in
    let is = c.requires.coded.1 in
    let same = c.requires.coded.2 in
    let coded = c.requires.coded.3 in
    let s = c.args.coming.now in
    let q = s.parameters.now in
    let tiles = c.deref.ensures.value in
    let own : AreCoded s (tiles_coming s) p c.deref.result.now = subst (λ xs. AreCoded s (tiles_coming s) p xs) (sym tiles) coded in
    let exponents = c.exponents_of-exponents.ensures.value p is same own in
    let coding : c.coding_known-coding.result ≡ written_coding p q = c.coding_known-coding.ensures.value ∙ ap (λ e. coding_with (cod_of q).style (record { guard = 2; exponents = e })) exponents in
    subst HasPlanes (sym coding) (planes_have p q is (coming_written s p c.requires.coming same))

pub all_tables-requires-clause-room : goal.all_tables-requires-clause-room
all_tables-requires-clause-room g c t other lt =
    let p = c.requires.coded.0 in
    let is = c.requires.coded.1 in
    let same = c.requires.coded.2 in
    let coded = c.requires.coded.3 in
    let s = c.args.coming.now in
    let q = s.parameters.now in
    let tiles = c.deref.ensures.value in
    let own : AreCoded s (tiles_coming s) p c.deref.result.now = subst (λ xs. AreCoded s (tiles_coming s) p xs) (sym tiles) coded in
    let exponents = c.exponents_of-exponents.ensures.value p is same own in
    let coding : c.coding_known-coding.result ≡ written_coding p q = c.coding_known-coding.ensures.value ∙ ap (λ e. coding_with (cod_of q).style (record { guard = 2; exponents = e })) exponents in
    subst (λ (k : Coding). HasTileRoom (component_of s t) (planes_of k) (get_or c.args.tiles.items t other)) (sym coding)
    (subst (λ xs. HasTileRoom (component_of s t) (planes_of (written_coding p q)) (get_or xs t other)) tiles (c.exponents_of-exponents.ensures.room p is same own t other lt))

pub returns-in_err-tables-clause-part : goal.returns-in_err-tables-clause-part
returns-in_err-tables-clause-part g c =
    let e = err_from_is_err_and c.from_residual.result c.from_residual.ensures.1 in
    rw (e.1, e.2) (λ p is same coded profile. left_none g.W.TextSink.took g.W.TextSink.tells (record { none = g.met.W.TextSink.none; joined = g.met.W.TextSink.joined }) p c.args.coming.now.parameters.now c.args.writer.now c.in_err-tables.field-0.0 c.in_err-tables.ensures.memory)

pub put_contents-requires : goal.put_contents-requires
put_contents-requires g c =
    let p = c.requires.coded.0 in
    let is = c.requires.coded.1 in
    let same = c.requires.coded.2 in
    let coded = c.requires.coded.3 in
    let s = c.args.coming.now in
    let q = s.parameters.now in
    let tiles = c.deref.ensures.value in
    let own : AreCoded s (tiles_coming s) p c.deref.result.now = subst (λ xs. AreCoded s (tiles_coming s) p xs) (sym tiles) coded in
    let exponents = c.exponents_of-exponents.ensures.value p is same own in
    let coding : c.coding_known-coding.result ≡ written_coding p q = c.coding_known-coding.ensures.value ∙ ap (λ e. coding_with (cod_of q).style (record { guard = 2; exponents = e })) exponents in
    let tables = c.deref-2.ensures.value in
    record {
      some = (
        p,
        (record {
          source = record { picture = is; frame = sym same; written = coming_written s p c.requires.coming same; exponents = exponents };
          told = (
            refl,
            record {
              coming = c.requires.coming;
              picture = is;
              frame = same;
              coding = coding;
              count = ap (λ xs. length xs) tables ∙ c.in_ok-tables.ensures.count;
              tables = λ t other lt. ap (λ (xs : List (Vec (Vec Table))). lists_of (get_or xs t other).items) tables ∙ c.in_ok-tables.ensures.tables p coded t other lt;
            },
          );
        }),
      );
    }

pub returns-clause-means : goal.returns-clause-means
returns-clause-means g c = on_ok_weaker c.put_contents.result (λ each p is same coded.
    (let s = c.args.coming.now in
    let q = s.parameters.now in
    let tiles = c.deref.ensures.value in
    let own : AreCoded s (tiles_coming s) p c.deref.result.now = subst (λ xs. AreCoded s (tiles_coming s) p xs) (sym tiles) coded in
    let exponents = c.exponents_of-exponents.ensures.value p is same own in
    let coding : c.coding_known-coding.result ≡ written_coding p q = c.coding_known-coding.ensures.value ∙ ap (λ e. coding_with (cod_of q).style (record { guard = 2; exponents = e })) exponents in
    let tables = c.deref-2.ensures.value in
    each p (record {
      source = record { picture = is; frame = sym same; written = coming_written s p c.requires.coming same; exponents = exponents };
      told = (
        refl,
        record {
          coming = c.requires.coming;
          picture = is;
          frame = same;
          coding = coding;
          count = ap (λ xs. length xs) tables ∙ c.in_ok-tables.ensures.count;
          tables = λ t other lt. ap (λ (xs : List (Vec (Vec Table))). lists_of (get_or xs t other).items) tables ∙ c.in_ok-tables.ensures.tables p coded t other lt;
        },
      );
    }))) c.put_contents.ensures.means

pub returns-clause-part : goal.returns-clause-part
returns-clause-part g c p is same coded profile =
    let s = c.args.coming.now in
    let q = s.parameters.now in
    let tiles = c.deref.ensures.value in
    let own : AreCoded s (tiles_coming s) p c.deref.result.now = subst (λ xs. AreCoded s (tiles_coming s) p xs) (sym tiles) coded in
    let exponents = c.exponents_of-exponents.ensures.value p is same own in
    let coding : c.coding_known-coding.result ≡ written_coding p q = c.coding_known-coding.ensures.value ∙ ap (λ e. coding_with (cod_of q).style (record { guard = 2; exponents = e })) exponents in
    let tables = c.deref-2.ensures.value in
    c.put_contents.ensures.part p (record {
      source = record { picture = is; frame = sym same; written = coming_written s p c.requires.coming same; exponents = exponents };
      told = (
        refl,
        record {
          coming = c.requires.coming;
          picture = is;
          frame = same;
          coding = coding;
          count = ap (λ xs. length xs) tables ∙ c.in_ok-tables.ensures.count;
          tables = λ t other lt. ap (λ (xs : List (Vec (Vec Table))). lists_of (get_or xs t other).items) tables ∙ c.in_ok-tables.ensures.tables p coded t other lt;
        },
      );
    }) profile
