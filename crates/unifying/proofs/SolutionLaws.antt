-- Solutions: a reading of all words that is an instance of what the tables spell. Binding a cell to a word that a solution
-- reads alike keeps the solution, and what the bound tables spell is a solution of the tables before.
use Rattle.std.proofs.Common.{◌≡◌, ℕ, suc, sym, ap, ◌∙◌}
use mathlib.Core.Path.{fun_ext}
use Rattle.cells.specs.declared.cell.Cell.{Cell}
use Rattle.cells.specs.declared.cell.Cell.TheVariants.{Reference, Pointer}
use Rattle.tables.specs.Tables.{Tables, cell_at}
use Rattle.terms.specs.Terms.{Term, var, node, apply, only}
use Rattle.terms.specs.Unifiers.{Subst, compose}
use Rattle.terms.proofs.TermLaws.{apply_var, apply_apply, absorbs, only_self, only_absent}
use Rattle.heaps.specs.Spelling.{label_of, arity_of, run, spell}
use Rattle.heaps.specs.Binding.{bind}
use Rattle.heaps.specs.Ends.{end}
use Rattle.heaps.specs.Rules.{Rules}
use Rattle.heaps.specs.SpellingLaws.{Bindable}
use Rattle.heaps.proofs.SpellLaws.{spell_layer, spell_unbound}
use Rattle.heaps.proofs.EndLaws.{spell_end}
use Rattle.heaps.proofs.BindLaws.{spell_bind}
use Rattle.heaps.proofs.BindReads.{run_apply}
use Rattle.calls.specs.Unifying.{Pair, words, rows}

abbrev pub Reading : Type 0
Reading = Cell → Term

abbrev pub Solution : Tables → Reading → Type 0
Solution t s = (θ : Subst) × ((d : Cell) → s d ≡ apply θ (spell t.heap d))

-- s reads the two sides of a pair alike
abbrev pub Equal : Reading → Pair → Type 0
Equal s (words a b) = s a ≡ s b
Equal s (rows i j k) = run s i k ≡ run s j k

pub solution_self : (t : Tables) → Solution t (spell t.heap)
solution_self t = (var, λ d. sym (apply_var (spell t.heap d)))

-- a solution of later tables is one of the tables before
pub solution_back : (t u : Tables) (s : Reading) → Solution t (spell u.heap) → Solution u s → Solution t s
solution_back t u s f g = (compose f.0 g.0, λ d. g.1 d ∙ ap (apply g.0) (f.1 d) ∙ apply_apply f.0 g.0 (spell t.heap d))

-- a solution reads alike what the tables spell alike
pub solution_alike : (t : Tables) (s : Reading) → Solution t s → (c d : Cell) → spell t.heap c ≡ spell t.heap d → s c ≡ s d
solution_alike t s f c d e = f.1 c ∙ ap (apply f.0) e ∙ sym (f.1 d)

module _ (t : Tables) (r : Rules t) (s : Reading) (f : Solution t s) where
  pub solution_end : (c : Cell) → s (end t c) ≡ s c
  solution_end c = solution_alike t s f (end t c) c (spell_end t r c)

  pub solution_var : (x : ℕ) → spell t.heap (Reference x) ≡ var x → s (Reference x) ≡ f.0 x
  solution_var x e = f.1 (Reference x) ∙ ap (apply f.0) e

  pub solution_pointer : (p : ℕ) → s (Pointer p) ≡ node (label_of (cell_at t p)) (run s (suc p) (arity_of (cell_at t p)))
  solution_pointer p =
      f.1 (Pointer p) ∙ ap (apply f.0) (spell_layer t r (Pointer p))
      ∙ ap (node (label_of (cell_at t p))) (run_apply f.0 (spell t.heap) (suc p) (arity_of (cell_at t p)) ∙ ap (λ (q : Reading). run q (suc p) (arity_of (cell_at t p))) (sym (fun_ext f.1)))

  pub solution_bind : (x : ℕ) (w : Cell) → Bindable t x w → s (Reference x) ≡ s w → Solution (bind t x w) s
  solution_bind x w b e = (f.0, λ d. f.1 d ∙ sym (absorbs x (spell t.heap w) f.0 is (spell t.heap d)) ∙ ap (apply f.0) (sym (spell_bind t x w r b d)))
    where
      is : f.0 x ≡ apply f.0 (spell t.heap w)
      is = sym (solution_var x (spell_unbound t r x b.free)) ∙ e ∙ f.1 w

-- what the tables spell after a binding is a solution of the tables before, and reads the cell as its word
module _ (t : Tables) (r : Rules t) (x : ℕ) (w : Cell) (b : Bindable t x w) where
  pub solution_bound : Solution t (spell (bind t x w).heap)
  solution_bound = (only x (spell t.heap w), spell_bind t x w r b)

  pub bound_alike : spell (bind t x w).heap (Reference x) ≡ spell (bind t x w).heap w
  bound_alike =
      spell_bind t x w r b (Reference x) ∙ ap (apply (only x (spell t.heap w))) (spell_unbound t r x b.free) ∙ only_self x (spell t.heap w)
      ∙ sym (spell_bind t x w r b w ∙ only_absent x (spell t.heap w) (spell t.heap w) b.absent)
