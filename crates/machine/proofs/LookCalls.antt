-- What is seen at the end of a chain is what the spelled term shows, and the calls look and same answer alike on both sides.
use Rattle.std.proofs.Common.{◌≡◌, ℕ, Bool, true, false, List, [], sym, refl, ap, ◌∙◌, subst, ap₂, subst₂}
use Rattle.std.proofs.lemmas.Bool.{both_ways}
use Rattle.cells.specs.declared.cell.Cell.{Cell}
use Rattle.cells.specs.declared.cell.Cell.TheVariants.{Reference, Pointer, Functor, Atom, Integer}
use Rattle.tables.specs.Tables.{Tables, used, cell_at, register}
use Rattle.terms.specs.Terms.{Term, Terms, var, node, nil, apply, pick, same_tree}
use Rattle.terms.specs.Renamings.{rename, Alike}
use Rattle.terms.proofs.RowLaws.{apply_pick}
use Rattle.terms.proofs.AlikeLaws.{alike_sym}
use Rattle.terms.proofs.SameLaws.{same_tree_true, same_tree_refl}
use Rattle.heaps.specs.Leads.{heap_of, is_functor}
use Rattle.heaps.specs.Spelling.{arity_of, spell}
use Rattle.heaps.specs.Ends.{end}
use Rattle.heaps.specs.Rules.{WordKeeps, Rules}
use Rattle.heaps.proofs.EndLaws.{end_ends, spell_end, end_keeps}
use Rattle.heaps.proofs.SpellLaws.{spell_unbound, spell_pointer}
use Rattle.heaps.proofs.KeptWords.{keeps_register}
use Rattle.calls.specs.declared.Call.TheVariants.{Look, Same}
use Rattle.calls.specs.declared.Answer.TheVariants.{Sees, Tells}
use Rattle.calls.specs.Steps.{name_of, seen_at, verdict}
use Rattle.machine.specs.Machine.{Level, seen}
use Rattle.machine.proofs.Related.{Related, alike_made}
use Rattle.machine.proofs.Acted.{Acted, idle, machine}
use Rattle.machine.proofs.SetRegisters.{alike_now, register_spells, term_at}

-- a cell that is a functor
pub functor_is : (c : Cell) → is_functor c ≡ true → c ≡ Functor (name_of c) (arity_of c)
functor_is (Reference n) e = absurd (both_ways false refl e)
functor_is (Pointer n) e = absurd (both_ways false refl e)
functor_is (Functor name arity) e = refl
functor_is (Atom n) e = absurd (both_ways false refl e)
functor_is (Integer z) e = absurd (both_ways false refl e)

seen_at_lem : (t : Tables) → Rules t → (c : Cell) → WordKeeps (heap_of t.heap) (used t) c → ((n : ℕ) → c ≡ Reference n → spell t.heap c ≡ var n) → seen_at t c ≡ seen (spell t.heap c)
seen_at_lem t r (Reference n) k f = ap seen (sym (f n refl))
seen_at_lem t r (Pointer n) k f = ap seen (sym (spell_pointer t r n _ _ (functor_is (cell_at t n) k.1)))
seen_at_lem t r (Functor name arity) k f = absurd k
seen_at_lem t r (Atom n) k f = refl
seen_at_lem t r (Integer z) k f = refl

pub seen_end : (t : Tables) → Rules t → (w : Cell) → WordKeeps (heap_of t.heap) (used t) w → seen_at t (end t w) ≡ seen (spell t.heap w)
seen_end t r w k = seen_at_lem t r (end t w) (end_keeps t r w k) free ∙ ap seen (spell_end t r w)
  where
    free : (n : ℕ) → end t w ≡ Reference n → spell t.heap (end t w) ≡ var n
    free n e = ap (spell t.heap) e ∙ spell_unbound t r n (end_ends t r w n e)

seen_rename : (f : ℕ → ℕ) (t : Term) → seen (rename f t) ≡ seen t
seen_rename f (var n) = refl
seen_rename f (node l ts) = refl

seen_alike : {t u : Term} → Alike t u → seen t ≡ seen u
seen_alike {t} {u} a = sym (seen_rename a.to t) ∙ ap seen a.there

both_true : (b c : Bool) → (b ≡ true → c ≡ true) → (c ≡ true → b ≡ true) → b ≡ c
both_true true true f g = refl
both_true true false f g = sym (f refl)
both_true false true f g = g refl
both_true false false f g = refl

same_once : {ts us : Terms} → Alike ts us → (i j : ℕ) → same_tree (pick ts i) (pick ts j) ≡ true → same_tree (pick us i) (pick us j) ≡ true
same_once {ts} {us} a i j e = subst (λ (u : Term). same_tree (pick us i) u ≡ true) equal (same_tree_refl (pick us i))
  where
    place : (k : ℕ) → rename a.to (pick ts k) ≡ pick us k
    place k = apply_pick _ ts k ∙ ap (λ (x : Terms). pick x k) a.there

    equal : pick us i ≡ pick us j
    equal = sym (place i) ∙ ap (rename a.to) (same_tree_true (pick ts i) (pick ts j) e) ∙ place j

same_alike : {ts us : Terms} → Alike ts us → (i j : ℕ) → same_tree (pick ts i) (pick ts j) ≡ same_tree (pick us i) (pick us j)
same_alike a i j = both_true _ _ (same_once a i j) (same_once (alike_sym a) i j)

module _ (t : Tables) (n : ℕ) (now : Level) (saved : List Level) (r : Related t [] n now nil saved) where
  pub alike_at : (s : ℕ) → Alike (spell t.heap (register t s)) (apply now.values (pick now.registers s))
  alike_at s = subst₂ Alike (sym (register_spells t n now saved r s)) (sym (term_at t n now saved r s)) (alike_made (λ ts. pick ts s) (λ f ts. apply_pick _ ts s) (alike_now t n now saved r))

  pub look_acted : (left : Tables) (s : ℕ) → Acted (Look s) left (idle t) (machine n now saved)
  look_acted left s = (ap Sees (seen_end t r.stands.0 (register t s) (keeps_register t s r.stands).0 ∙ seen_alike (alike_at s)), r)

  pub same_acted : (left : Tables) (a b : ℕ) → Acted (Same a b) left (idle t) (machine n now saved)
  same_acted left a b = (
    ap (λ (x : Bool). Tells (verdict x)) (ap₂ same_tree (register_spells t n now saved r a) (register_spells t n now saved r b)
        ∙ same_alike (alike_now t n now saved r) a b ∙ ap₂ same_tree (sym (term_at t n now saved r a)) (sym (term_at t n now saved r b))),
    r,
  )
