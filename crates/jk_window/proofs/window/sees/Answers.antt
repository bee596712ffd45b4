use Rattle.std.proofs.Common.{◌∙◌, sym}
use Rattle.jk_window.proofs.Levels.{window_found, window_only, window_refused}
use Rattle.jk_window.proofs.window.sees.Goals as goal

pub returns-in-Ok : goal.returns-in-Ok
returns-in-Ok c = (window_found c.args.headers.now c.args.view c.in-Ok.field-0 c.requires.1.tiles (sym c.window.ensures.exact ∙ c.in-Ok.is)).0

pub returns-in-Err : goal.returns-in-Err
returns-in-Err c =
    let due = sym c.window.ensures.exact ∙ c.in-Err.is in
    (window_refused c.args.headers.now c.args.view c.in-Err.fault due, λ has. let found = sym due ∙ window_only c.args.headers.now c.args.view c.requires.1.tiles has in absurd cc)
