-- Each chain of references comes to an end in at most as many steps as there are cells, and a word spells what its end spells.
use Rattle.std.proofs.Common.{◌≡◌, ℕ, zero, suc, ◌<◌, Bool, true, false, cond, ◌⊎◌, sym, refl, ap, ◌∙◌, subst, inl, inr, arith}
use Rattle.std.proofs.lemmas.Bool.{both_ways}
use Rattle.cells.specs.declared.cell.Cell.{Cell}
use Rattle.cells.specs.declared.cell.Cell.TheVariants.{Reference, Pointer, Functor, Atom, Integer}
use Rattle.tables.specs.Tables.{Tables, used}
use Rattle.terms.specs.Terms.{Term, var}
use Rattle.heaps.specs.Leads.{Heap, heap_of, unbound}
use Rattle.heaps.specs.Spelling.{same}
use Rattle.heaps.specs.Rules.{WordKeeps, Rules}
use Rattle.heaps.specs.Ends.{end_by, steps_by, end, steps_to_end}
use Rattle.heaps.specs.SpellingLaws.{Reads, EndEnds, SpellEnd, EndKeeps, EndStep, StepsWithin}
use Rattle.heaps.proofs.Sound.{Sound, rules_sound, cell_keeps}
use Rattle.heaps.proofs.Depth.{Deep, deep_all}
use Rattle.heaps.proofs.SpellLaws.{spell_layer}

-- one more step than reaches the end changes nothing
end_deep : (h : Heap) (g : ℕ) (c : Cell) → Deep h g c → end_by (suc g) h c ≡ end_by g h c
end_deep h zero c d = absurd d
end_deep h (suc g) (Reference n) (inl e) = rw e
end_deep h (suc g) (Reference n) (inr d) = ap (cond (unbound h n) (Reference n)) (end_deep h g (h n) d)
end_deep h (suc g) (Pointer n) d = refl
end_deep h (suc g) (Functor name arity) d = refl
end_deep h (suc g) (Atom a) d = refl
end_deep h (suc g) (Integer z) d = refl

steps_deep : (h : Heap) (g : ℕ) (c : Cell) → Deep h g c → steps_by (suc g) h c ≡ steps_by g h c
steps_deep h zero c d = absurd d
steps_deep h (suc g) (Reference n) (inl e) = rw e
steps_deep h (suc g) (Reference n) (inr d) = ap (λ (m : ℕ). cond (unbound h n) 0 (suc m)) (steps_deep h g (h n) d)
steps_deep h (suc g) (Pointer n) d = refl
steps_deep h (suc g) (Functor name arity) d = refl
steps_deep h (suc g) (Atom a) d = refl
steps_deep h (suc g) (Integer z) d = refl

steps_few : (h : Heap) (g : ℕ) (c : Cell) → Deep h g c → steps_by g h c < g
steps_few h zero c d = absurd d
steps_few h (suc g) (Reference n) (inl e) = rw e (omega arith)
steps_few h (suc g) (Reference n) (inr d) = test (unbound h n) (steps_few h g (h n) d)
  where
    test : (b : Bool) → steps_by g h (h n) < g → cond b 0 (suc (steps_by g h (h n))) < suc g
    test true lt = omega arith
    test false lt = omega arith
steps_few h (suc g) (Pointer n) d = omega arith
steps_few h (suc g) (Functor name arity) d = omega arith
steps_few h (suc g) (Atom a) d = omega arith
steps_few h (suc g) (Integer z) d = omega arith

end_unbound : (h : Heap) (g : ℕ) (c : Cell) → Deep h g c → (n : ℕ) → end_by g h c ≡ Reference n → unbound h n ≡ true
end_unbound h zero c d n e = absurd d
end_unbound h (suc g) (Reference m) d n e = test (unbound h m) refl d e (λ q. end_unbound h g (h m) q n)
  where
    test : (b : Bool) → unbound h m ≡ b → (unbound h m ≡ true) ⊎ Deep h g (h m) → cond b (Reference m) (end_by g h (h m)) ≡ Reference n
        → (Deep h g (h m) → end_by g h (h m) ≡ Reference n → unbound h n ≡ true) → unbound h n ≡ true
    test true u d e ih = let p : m ≡ n = cc in subst (λ (x : ℕ). unbound h x ≡ true) p u
    test false u (inl q) e ih = absurd (both_ways (unbound h m) u q)
    test false u (inr q) e ih = ih q e
end_unbound h (suc g) (Pointer m) d n e = absurd (let z : ◌≡◌ {A = ℕ} 0 1 = cc in omega arith)
end_unbound h (suc g) (Functor name arity) d n e = absurd (let z : ◌≡◌ {A = ℕ} 0 1 = cc in omega arith)
end_unbound h (suc g) (Atom a) d n e = absurd (let z : ◌≡◌ {A = ℕ} 0 1 = cc in omega arith)
end_unbound h (suc g) (Integer i) d n e = absurd (let z : ◌≡◌ {A = ℕ} 0 1 = cc in omega arith)

-- whatever reads the heap reads the end as it reads the word
reads_end : (h : Heap) (s : Cell → Term) → Reads same h s → (g : ℕ) (c : Cell) → s (end_by g h c) ≡ s c
reads_end h s r zero c = refl
reads_end h s r (suc g) (Reference n) = test (unbound h n) refl (reads_end h s r g (h n))
  where
    test : (b : Bool) → unbound h n ≡ b → s (end_by g h (h n)) ≡ s (h n) → s (cond b (Reference n) (end_by g h (h n))) ≡ s (Reference n)
    test true e p = refl
    test false e p = p ∙ sym (r (Reference n) ∙ ap (λ (b : Bool). cond b (var n) (s (h n))) e)
reads_end h s r (suc g) (Pointer n) = refl
reads_end h s r (suc g) (Functor name arity) = refl
reads_end h s r (suc g) (Atom a) = refl
reads_end h s r (suc g) (Integer z) = refl

keeps_end : (h : Heap) (n : ℕ) → Sound h n → (g : ℕ) (c : Cell) → WordKeeps h n c → WordKeeps h n (end_by g h c)
keeps_end h n sound zero c k = k
keeps_end h n sound (suc g) (Reference m) k = test (unbound h m) (keeps_end h n sound g (h m) (cell_keeps h n sound m k.0 k.1))
  where
    test : (b : Bool) → WordKeeps h n (end_by g h (h m)) → WordKeeps h n (cond b (Reference m) (end_by g h (h m)))
    test true p = k
    test false p = p
keeps_end h n sound (suc g) (Pointer m) k = k
keeps_end h n sound (suc g) (Functor name arity) k = k
keeps_end h n sound (suc g) (Atom a) k = k
keeps_end h n sound (suc g) (Integer z) k = k

deep_tables : (t : Tables) → Rules t → (c : Cell) → Deep (heap_of t.heap) (suc (used t)) c
deep_tables t r c = deep_all (heap_of t.heap) (used t) (rules_sound t r) r.acyclic c

pub end_ends : EndEnds
end_ends t r c n e = end_unbound (heap_of t.heap) (suc (used t)) c (deep_tables t r c) n e

pub spell_end : SpellEnd
spell_end t r c = reads_end (heap_of t.heap) _ (spell_layer t r) (suc (used t)) c

pub end_keeps : EndKeeps
end_keeps t r c k = keeps_end (heap_of t.heap) (used t) (rules_sound t r) (suc (used t)) c k

pub end_step : EndStep
end_step t r n e = by (deep_tables t r (Reference n))
  where
    h : Heap
    h = heap_of t.heap

    by : (unbound h n ≡ true) ⊎ Deep h (used t) (h n) → (end t (Reference n) ≡ end t (h n)) × (steps_to_end t (Reference n) ≡ suc (steps_to_end t (h n)))
    by (inl q) = absurd (both_ways (unbound h n) e q)
    by (inr d) = (
      ap (λ (b : Bool). cond b (Reference n) (end_by (used t) h (h n))) e ∙ sym (end_deep h (used t) (h n) d),
      ap (λ (b : Bool). cond b 0 (suc (steps_by (used t) h (h n)))) e ∙ ap suc (sym (steps_deep h (used t) (h n) d)),
    )

pub steps_within : StepsWithin
steps_within t r c = let k = steps_few (heap_of t.heap) (suc (used t)) c (deep_tables t r c) in omega arith
