-- Unification on tables and in the machine both solve the same problem up to renaming, so the call unify acts alike on both sides.
use Rattle.std.proofs.Common.{◌≡◌, ℕ, List, [], ◌∷◌, length, sym, refl, ap, ◌∙◌, subst, ap₂, subst₂, Option, Some, None}
use Rattle.cells.specs.declared.cell.Cell.{Cell}
use Rattle.tables.specs.Tables.{Choice, Tables, register}
use Rattle.terms.specs.Terms.{Term, Terms, var, nil, cons, apply, pick, row}
use Rattle.terms.specs.Renamings.{Alike}
use Rattle.terms.specs.Unifiers.{Subst}
use Rattle.terms.specs.Robinson.{unify}
use Rattle.terms.specs.Laws.{Unified, BothUnify}
use Rattle.terms.proofs.TermLaws.{apply_var}
use Rattle.terms.proofs.Robinson.{unify_exact}
use Rattle.terms.proofs.UnifyAlike.{alike_unify}
use Rattle.heaps.specs.Spelling.{spell, spelled}
use Rattle.heaps.proofs.KeptWords.{keeps_register}
use Rattle.calls.specs.declared.Call.TheVariants.{Unify}
use Rattle.calls.specs.Unifying.{unify_words}
use Rattle.calls.specs.UnifyLaws.{Bound, BothBound}
use Rattle.calls.proofs.UnifySteps.{unify_steps}
use Rattle.calls.specs.Steps as Store
use Rattle.machine.specs.Machine as Tree
use Rattle.machine.specs.Machine.{Level}
use Rattle.machine.specs.Runs.{Compared}
use Rattle.machine.proofs.Below.{Below, below_pick}
use Rattle.machine.proofs.UnifyBelow.{Ends, within_tree, unify_below}
use Rattle.machine.proofs.Related.{Related, Relates, pair, alike_alone, older_same}
use Rattle.machine.proofs.Acted.{Acted, idle, machine}
use Rattle.machine.proofs.SetRegisters.{terms, alike_now, register_spells, term_at}

row_apply : (σ : Subst) (f g : Cell → Term) → ((c : Cell) → g c ≡ apply σ (f c)) → (cs : List Cell) → row g cs ≡ apply σ (row f cs)
row_apply σ f g e [] = refl
row_apply σ f g e (c ∷ cs) = ap₂ cons (e c) (row_apply σ f g e cs)

spelled_bound : (t u : Tables) (σ : Subst) → Bound t u σ → spelled u ≡ apply σ (spelled t)
spelled_bound t u σ b = ap (row (spell u.heap)) b.registers ∙ row_apply σ (spell t.heap) (spell u.heap) b.spells t.registers

pub unify_acted : (t : Tables) (n : ℕ) (now : Level) (saved : List Level) → Related t [] n now nil saved → (left : Tables) (i j : ℕ)
    → Acted (Unify i j) left (idle t) (machine n now saved)
unify_acted t n now saved r left i j =
    by (unify_words t (register t i) (register t j)) (unify var (pick (spelled t) i) (pick (spelled t) j)) (unify now.values (pick now.registers i) (pick now.registers j))
    tables
    (alike_unify var now.values (λ x. refl) r.present.settled (spelled t) now.registers
    (subst (λ (ts : Terms). Alike ts (terms now)) (sym (apply_var (spelled t))) (alike_now t n now saved r)) i j)
    (unify_exact now.values (pick now.registers i) (pick now.registers j) r.present.settled)
    (unify_below n now.values (pick now.registers i) (pick now.registers j) (below i) (below j))
  where
    tables : BothBound t (unify_words t (register t i) (register t j)) (unify var (pick (spelled t) i) (pick (spelled t) j))
    tables = subst₂ (λ (x y : Term). BothBound t (unify_words t (register t i) (register t j)) (unify var x y)) (register_spells t n now saved r i) (register_spells t n now saved r j)
        (unify_steps t (register t i) (register t j) r.stands (keeps_register t i r.stands) (keeps_register t j r.stands))

    below : (k : ℕ) → Below n (apply now.values (pick now.registers k))
    below k = subst (Below n) (sym (term_at t n now saved r k)) (below_pick n (terms now) k r.present.below.0)

    by : (o : Option Tables) (x y : Option Subst) → BothBound t o x → BothUnify (spelled t) now.registers x y
        → Unified now.values (pick now.registers i) (pick now.registers j) y → Ends n now.values y
        → Compared (Store.if_unified (idle t) o).0 (Tree.if_unified (machine n now saved) y).0 × Relates (Store.if_unified (idle t) o).1 (Tree.if_unified (machine n now saved) y).1
    by None None None p q e f = (refl, r)
    by None None (Some τ) p q e f = absurd q
    by None (Some σ) y p q e f = absurd p
    by (Some u) None y p q e f = absurd p
    by (Some u) (Some σ) None p q e f = absurd q
    by (Some u) (Some σ) (Some τ) p q e f = (
      refl,
      record {
        stands = p.stands;
        present = record {
          settled = e.0;
          beyond = λ x le. f.beyond x le (r.present.beyond x le);
          below = within_tree n now.values τ f (pair now.registers nil) r.present.below;
          alike = alike_alone (subst (λ (ts : Terms). Alike ts (apply τ now.registers)) (sym (spelled_bound t u σ p)) q);
        };
        older = older_same n t u saved (ap (length {A = Choice}) p.choices) p.older r.older;
      },
    )
