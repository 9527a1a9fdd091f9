use Rattle.std.proofs.Common.{sym}
use Rattle.tables.specs.Views.{tables_of}
use Rattle.store.proofs.store.Store.load.Goals as goal

-- what is loaded keeps the rules and fits the memory
pub over-requires : goal.over-requires
over-requires c =
    let h = c.in_ok-load.ensures in
    let text = (h.text c.args.image.now (tables_of c.in_ok-load.field-0)).0 (sym h.result) in
    (text.1, text.2)
