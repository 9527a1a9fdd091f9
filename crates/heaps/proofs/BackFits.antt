-- Undoing to the newest choice point leaves tables that fit the memory.
use Rattle.std.proofs.Common.{◌≡◌, ℕ, ◌≤◌, true, List, [], ◌∷◌, length, drop, refl, subst, arith}
use Rattle.std.proofs.lemmas.List.{length-take}
use Rattle.std.proofs.lemmas.Bool.{lt-ltb}
use Rattle.cells.specs.declared.cell.Cell.{Cell}
use Rattle.cells.specs.declared.cell.Cell.TheVariants.{Reference}
use Rattle.cells.specs.Cells.{in_range}
use Rattle.tables.specs.Tables.{Choice, Tables, used}
use Rattle.heaps.specs.Lists.{Each}
use Rattle.heaps.specs.Leads.{heap_of}
use Rattle.heaps.specs.Levels.{seen_from, back_to, last_of, last}
use Rattle.heaps.specs.Rules.{EntryNames, Rules, Fits}
use Rattle.heaps.proofs.EachLaws.{each_map, each_take, each_drop}
use Rattle.heaps.proofs.UnbindLaws.{length_unbind_all, each_unbind_all}

abbrev Ranged : Cell → Type 0
Ranged c = in_range c ≡ true

abbrev SavedFits : Choice → Type 0
SavedFits d = (length d.saved ≡ 8) × Each Ranged d.saved

module _ (t : Tables) (r : Rules t) (f : Fits t) where
  fits_back : (c : Choice) (ds : List Choice) → SavedFits c → length ds ≤ 64 → Each (λ d. length d.saved ≡ 8) ds → Each (λ d. Each Ranged d.saved) ds → Fits (back_to c ds t)
  fits_back c ds p q lengths ranges = record {
    cells = let a = length-take c.heap_top (seen_from c t.heap t.trail) in let b = length_unbind_all t.heap gone in let n = f.cells in omega arith;
    entries = let a = length-take c.trail_top t.trail in let n = f.entries in omega arith;
    points = q;
    registers = p.0;
    saved = lengths;
    heap_range = each_take Ranged c.heap_top (seen_from c t.heap t.trail) (each_unbind_all Ranged gone in_range_lem t.heap f.heap_range);
    register_range = p.1;
    saved_range = ranges;
  }
    where
      gone : List ℕ
      gone = drop c.trail_top t.trail

      in_range_lem : Each (λ e. Ranged (Reference e)) gone
      in_range_lem = each_map (EntryNames (heap_of t.heap) (used t)) (λ e. Ranged (Reference e)) (λ e p. let a = p.0 in let n = f.cells in lt-ltb e 4096 (omega arith))
          gone (each_drop (EntryNames (heap_of t.heap) (used t)) c.trail_top t.trail r.trail.1)

  abbrev ChoicesFit : List Choice → Type 0
  ChoicesFit cs = (length cs ≤ 64) × Each (λ d. length d.saved ≡ 8) cs × Each (λ d. Each Ranged d.saved) cs

  choices_fit : (cs : List Choice) → t.choices ≡ cs → ChoicesFit cs
  choices_fit cs e = subst ChoicesFit e (f.points, f.saved, f.saved_range)

  last_of_lem : (cs : List Choice) → t.choices ≡ cs → Fits (last_of cs t)
  last_of_lem [] e = f
  last_of_lem (c ∷ cs) e = let p = choices_fit (c ∷ cs) e in fits_back c cs (p.1.0, p.2.0) (let a = p.0 in omega arith) p.1.1 p.2.1

  pub fits_last : Fits (last t)
  fits_last = last_of_lem t.choices refl
