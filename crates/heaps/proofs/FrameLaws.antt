-- Heaps that agree on all that a word reaches spell the same term there.
use Rattle.std.proofs.Common.{◌≡◌, ℕ, suc, ◌+◌, [], ◌∷◌, sym, refl, ap, ◌∙◌, arith}
use Rattle.cells.specs.declared.cell.Cell.{Cell}
use Rattle.cells.specs.declared.cell.Cell.TheVariants.{Reference, Pointer, Functor, Atom, Integer}
use Rattle.tables.specs.Tables.{used}
use Rattle.terms.proofs.TermLaws.{apply_var}
use Rattle.heaps.specs.Lists.{here}
use Rattle.heaps.specs.Leads.{Heap, heap_of, relocate, Acyclic}
use Rattle.heaps.specs.Spelling.{spell_by, same}
use Rattle.heaps.specs.Reached.{Reaches, direct, onward}
use Rattle.heaps.specs.Moving.{Moves}
use Rattle.heaps.specs.SpellingLaws.{SpellFrame}
use Rattle.heaps.proofs.Sound.{Sound, rules_sound}
use Rattle.heaps.proofs.SpellLaws.{more_layers}
use Rattle.heaps.proofs.MoveLaws.{spell_by_moved}

abbrev stay : ℕ → ℕ
stay n = n

relocate_stay : (c : Cell) → relocate stay c ≡ c
relocate_stay (Reference n) = refl
relocate_stay (Pointer n) = refl
relocate_stay (Functor name arity) = refl
relocate_stay (Atom a) = refl
relocate_stay (Integer z) = refl

-- Cells that agree are moved to where they are.
spell_by_frame : (h k : Heap) (w : Cell) → ((i : ℕ) → Reaches h (w ∷ []) i → h i ≡ k i) → (g : ℕ) → spell_by same k g w ≡ spell_by same h g w
spell_by_frame h k w agree g =
    ap (spell_by same k g) (sym (relocate_stay w))
    ∙ spell_by_moved (Reaches h (w ∷ [])) stay h k moves g w (λ e j l. direct here l)
    ∙ apply_var (spell_by same h g w)
  where
    moves : Moves (Reaches h (w ∷ [])) stay h k
    moves = record {
      arrives = λ i r. sym (agree i r) ∙ sym (relocate_stay (h i));
      closed = λ i j r l. onward r l;
      apart = λ i j r s e. e;
      neighbours = λ i m r le. refl;
    }

-- for heaps that are sound and acyclic, with n and with m cells in use
pub frame : (h k : Heap) (n m : ℕ) → Sound h n → Acyclic h → Sound k m → Acyclic k → (w : Cell) → ((i : ℕ) → Reaches h (w ∷ []) i → h i ≡ k i)
    → spell_by same h (suc n) w ≡ spell_by same k (suc m) w
frame h k n m sh ah sk ak w agree =
    let a = more_layers h n sh ah same (suc (n + m)) (omega arith) w in
    let b = more_layers k m sk ak same (suc (n + m)) (omega arith) w in
    sym a ∙ sym (spell_by_frame h k w agree (suc (n + m))) ∙ b

pub spell_frame : SpellFrame
spell_frame t u r s w agree =
    frame (heap_of t.heap) (heap_of u.heap) (used t) (used u) (rules_sound t r) r.acyclic (rules_sound u s) s.acyclic w agree
