use Rattle.std.proofs.Common.{ℕ, Bool, length, sym, ap, arith, below_more}
use Rattle.tables.specs.declared.memory.Memory.{Memory}
use Rattle.tables.specs.Tables.{used}
use Rattle.tables.specs.Views.{tables_of}
use Rattle.heaps.specs.Leads.{heap_of}
use Rattle.heaps.specs.RuleTests.{stray_entry}
use Rattle.tables.proofs.Lengths.{used_fits}
use Rattle.trails.proofs.Named.{names_more, entry_same}
use Rattle.heaps.proofs.Searches.{lowest_found, lowest_none}
use Rattle.trails.proofs.entries.first_stray_entry.Goals as goal

abbrev stray : Memory → ℕ → Bool
stray m = stray_entry (heap_of (tables_of m).heap) (used (tables_of m)) (tables_of m).trail

pub returns-then-stray_entry : goal.returns-then-stray_entry
returns-then-stray_entry g c =
    let t = tables_of c.args.memory.now in
    let same = entry_same (heap_of t.heap) (used t) (used_fits c.args.memory.now) (g.M.Marks.has c.loop-j.named) t.trail c.loop-j.j c.loop-j.invariant.1 in
    sym (lowest_found (stray c.args.memory.now) (length t.trail) c.loop-j.j (omega arith) (cc) c.loop-j.invariant.0)

pub loop-j-preserved : goal.loop-j-preserved
loop-j-preserved g c =
    let t = tables_of c.args.memory.now in
    let s = g.M.Marks.has c.loop-j.named in
    let same = entry_same (heap_of t.heap) (used t) (used_fits c.args.memory.now) s t.trail c.loop-j.j c.loop-j.invariant.1 in (
      below_more _ _ c.loop-j.invariant.0 cc,
      λ k lt.
          let more = names_more s t.trail c.loop-j.j (omega arith) c.loop-j.invariant.1 k lt in
          let grown = ap (λ (u : ℕ → Bool). u k) c.mark.ensures in cc,
    )

pub returns : goal.returns
returns g c =
    let t = tables_of c.args.memory.now in
    sym (lowest_none (stray c.args.memory.now) (length t.trail) (λ i lt. c.loop-j.invariant.0 i (omega arith)))
