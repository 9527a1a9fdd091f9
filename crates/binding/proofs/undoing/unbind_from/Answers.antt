use Rattle.std.proofs.Common.{◌≡◌, ℕ, ◌<◌, ◌≤◌, length, get_or, sym, ap, ◌∙◌, subst, ap₂, arith}
use Rattle.std.proofs.lemmas.Bool.{lt-ltb}
use Rattle.cells.specs.declared.cell.Cell.TheVariants.{Reference}
use Rattle.tables.specs.Tables.{Tables, used, set_cell}
use Rattle.tables.specs.Views.{tables_of}
use Rattle.binding.proofs.UnbindSteps.{entry_inside, used_undone, undone_more}
use Rattle.binding.proofs.undoing.unbind_from.Goals as goal

pub set_cell-requires : goal.set_cell-requires
set_cell-requires c =
    let t = tables_of c.args.memory.now in
    let i = c.loop-i.i in
    let inside : i < length t.trail = omega arith in
    let is = c.entry-at.ensures ∙ ap (λ (u : Tables). get_or u.trail i 0) c.loop-i.invariant in
    let low : c.entry-at.result < used t = subst (λ n. n < used t) (sym is) (entry_inside t c.requires.stands i inside) in
    let long : used (tables_of c.loop-i.memory) ≡ used t = ap used c.loop-i.invariant ∙ used_undone t c.args.top i in
    let room : used t ≤ 4096 = c.requires.stands.1.cells in
    (omega (arith, low, long), lt-ltb c.entry-at.result 4096 (omega arith))

pub loop-i-preserved : goal.loop-i-preserved
loop-i-preserved c =
    let t = tables_of c.args.memory.now in
    let i = c.loop-i.i in
    let inside : i < length t.trail = omega arith in
    let is = c.entry-at.ensures ∙ ap (λ (u : Tables). get_or u.trail i 0) c.loop-i.invariant in
    c.set_cell.ensures
    ∙ ap₂ (λ (u : Tables) (e : ℕ). set_cell u e (Reference e)) c.loop-i.invariant is
    ∙ undone_more t c.args.top i c.loop-i.auto.i inside
