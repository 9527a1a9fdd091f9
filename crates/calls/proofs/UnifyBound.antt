-- Tables with some cells bound: nothing bound yet, and one more cell bound.
use Rattle.std.proofs.Common.{◌≡◌, ℕ, ◌<◌, true, List, length, sym, refl, ap, ◌∙◌, subst}
use Rattle.cells.specs.declared.cell.Cell.{Cell}
use Rattle.cells.specs.Cells.{in_range}
use Rattle.tables.specs.Tables.{Choice, Tables}
use Rattle.terms.specs.Terms.{var, apply, only}
use Rattle.terms.specs.Unifiers.{Subst, compose}
use Rattle.terms.proofs.TermLaws.{apply_var, apply_apply}
use Rattle.heaps.specs.Spelling.{spell}
use Rattle.heaps.specs.Binding.{bind}
use Rattle.heaps.specs.SpellingLaws.{Bindable}
use Rattle.heaps.specs.LevelLaws.{Stands, Keeps}
use Rattle.heaps.proofs.BindLaws.{used_bind, keeps_bind, spell_bind}
use Rattle.heaps.proofs.BindRules.{rules_bind, fits_bind}
use Rattle.heaps.proofs.LastLaws.{last_bind}
use Rattle.calls.specs.UnifyLaws.{Bound}

pub bound_nothing : (t : Tables) → Stands t → Bound t t var
bound_nothing t s = record {
  stands = s;
  cells = refl;
  registers = refl;
  choices = refl;
  spells = λ d. sym (apply_var (spell t.heap d));
  keeps = λ d k. k;
  older = λ some. refl;
}

pub bound_more : (t u : Tables) (σ : Subst) (x : ℕ) (w : Cell) → Bound t u σ → Bindable u x w → in_range w ≡ true
    → Bound t (bind u x w) (compose σ (only x (spell u.heap w)))
bound_more t u σ x w b ok range = let r = b.stands.0 in record {
  stands = (rules_bind u x w r ok, fits_bind u x w r b.stands.1 ok range);
  cells = used_bind u x w r ok ∙ b.cells;
  registers = b.registers;
  choices = b.choices;
  spells = λ d. spell_bind u x w r ok d ∙ ap (apply (only x (spell u.heap w))) (b.spells d) ∙ apply_apply σ (only x (spell u.heap w)) (spell t.heap d);
  keeps = λ d k. keeps_bind u x w r ok d (b.keeps d k);
  older = λ some. last_bind u r.tops (subst (λ (cs : List Choice). 0 < length cs) (sym b.choices) some) x w ok.free ∙ b.older some;
}

-- a word that may stand in a register still may
pub keeps_bound : {t u : Tables} {σ : Subst} → Bound t u σ → (d : Cell) → Keeps t d → Keeps u d
keeps_bound b d k = (b.keeps d k.0, k.1)
