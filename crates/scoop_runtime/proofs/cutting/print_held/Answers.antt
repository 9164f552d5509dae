use Rattle.std.proofs.Common.{◌++◌}
use Rattle.std.specs.Prelude.{codes}
use Rattle.scoop_runtime.specs.Cutting.{freeing_text}
use Rattle.scoop_links.specs.Texts.{numbers_text}
use Rattle.scoop_links.proofs.Writing.{appends_behind}
use Rattle.scoop_runtime.proofs.cutting.print_held.Goals as goal

-- the handlers after the first words, and what frees them after the handlers
pub returns : goal.returns
returns g c =
    let hs = c.args.handlers.now in
    let rest = freeing_text c.args.client in
    appends_behind c.print_freeing.result _ _ _ (codes "scoop: handlers") (numbers_text hs ++ rest) c.in_ok-write_all.ensures.bytes
    (appends_behind c.print_freeing.result _ _ _ (numbers_text hs) rest c.in_ok-print_numbers.ensures c.print_freeing.ensures)
