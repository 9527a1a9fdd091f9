-- Unifying two registers in the subject's words: from what `unify_words` gives to unifiers of the terms that registers spell.
use Rattle.std.proofs.Common.{◌≡◌, ℕ, Bool, true, false, List, get_or, Ok, refl, ap, ◌∙◌, subst, Option, Some, None}
use Rattle.cells.specs.declared.cell.Cell.{Cell}
use Rattle.cells.specs.declared.cell.Cell.TheVariants.{Atom}
use Rattle.tables.specs.Tables.{Tables, register}
use Rattle.terms.specs.Terms.{var}
use Rattle.terms.specs.Unifiers.{Subst}
use Rattle.terms.specs.Robinson.{unify}
use Rattle.heaps.specs.Spelling.{spell}
use Rattle.heaps.specs.LevelLaws.{Stands}
use Rattle.heaps.proofs.KeptWords.{keeps_register}
use Rattle.calls.specs.UnifyLaws.{BothBound, MadeEqual}
use Rattle.calls.proofs.UnifySteps.{unify_steps}
use Rattle.calls.proofs.UnifyMostGeneral.{unify_iso}
use Rattle.unifying.specs.Unified.{Unified}
use Rattle.store.specs.Unified.{UnifiesTerms}

-- unifying leaves the words in the registers
same_registers : (t u : Tables) (o : Option Subst) → BothBound t (Some u) o → u.registers ≡ t.registers
same_registers t u None b = absurd b
same_registers t u (Some σ) b = b.registers

pub unifies_terms : (t u : Tables) (a b : ℕ) (answer : Bool) → Stands t → Unified t (register t a) (register t b) u answer → UnifiesTerms t a b (Ok answer) u
unifies_terms t u a b true st done =
    let ka = keeps_register t a st in
    let kb = keeps_register t b st in
    let made = subst (MadeEqual t (register t a) (register t b)) done.result (unify_iso t (register t a) (register t b) st ka kb) in
    let bound = subst (λ (o : Option Tables). BothBound t o (unify var (spell t.heap (register t a)) (spell t.heap (register t b)))) done.result (unify_steps t (register t a) (register t b) st ka kb) in
    (made.0, made.1, λ r. ap (λ (ws : List Cell). spell u.heap (get_or ws r (Atom 0))) (same_registers t u _ bound) ∙ made.3 (register t r))
unifies_terms t u a b false st done =
    (subst (MadeEqual t (register t a) (register t b)) done.result (unify_iso t (register t a) (register t b) st (keeps_register t a st) (keeps_register t b st)), done.undone refl)
