use Rattle.std.proofs.Common.{◌≡◌, ◌<◌, get_or, sym, ◌∙◌, arith, rules}
use Rattle.std.proofs.lemmas.List.{same_lists, length-map, get_or-map}
use Rattle.cells.specs.Cells.{cell_of}
use Rattle.tables.proofs.memory.Memory.registers.Goals as goal

pub returns : goal.returns
returns c =
    let h = c.map.ensures.items in
    let ws = c.args.self.now.registers in
    same_lists _ _ (h.long ∙ sym (length-map ws cell_of ∙ c.args.self.now.eight))
    (λ j d low. let lt : j < 8 = omega (arith, h.long) in let called = (h.at j 0 d lt).2 in let is : get_or c.map.result j d ≡ cell_of (get_or ws j 0) = search (rules, called) in
    is ∙ sym (get_or-map cell_of ws j 0 d (omega (arith, lt, c.args.self.now.eight))))
