-- The spelling satisfies its one-layer equation, nothing else does, and more layers change nothing.
-- All later proofs use the spelling through these facts alone.
use Rattle.std.proofs.Common.{◌≡◌, ℕ, zero, suc, ◌+◌, ◌<◌, ◌≤◌, true, false, cond, sym, refl, ap, ◌∙◌, ap₂, inl, inr, arith}
use mathlib.Core.Path.{fun_ext}
use native.Mathlib.Decide.{dec_lt}
use Rattle.cells.specs.declared.cell.Cell.{Cell}
use Rattle.cells.specs.declared.cell.Cell.TheVariants.{Reference, Pointer, Functor, Atom, Integer}
use Rattle.tables.specs.Tables.{Tables, used}
use Rattle.terms.specs.Terms.{functor, Term, var, node, cons}
use Rattle.heaps.specs.Leads.{Heap, heap_of, unbound, Acyclic}
use Rattle.heaps.specs.Spelling.{label_of, arity_of, run, layer, spell_by, same, spell}
use Rattle.heaps.specs.Rules.{Rules}
use Rattle.heaps.specs.SpellingLaws.{Reads, SpellLayer, SpellOnly, SpellMore}
use Rattle.heaps.proofs.Sound.{Sound, rules_sound}
use Rattle.heaps.proofs.Depth.{Deep, deep_all}

pub run_same : (r q : Cell → Term) (n k : ℕ) → ((j : ℕ) → n ≤ j → j < n + k → r (Reference j) ≡ q (Reference j)) → run r n k ≡ run q n k
run_same r q n zero f = refl
run_same r q n (suc k) f = ap₂ cons (f n (omega arith) (omega arith)) (run_same r q (suc n) k (λ j a b. f j (omega arith) (omega arith)))

-- what a cell spells, put into the term of a reference to it
abbrev under : (Term → Term) → Heap → ℕ → Term → Term
under v h n t = cond (unbound h n) (var n) (v t)

-- one more layer than reaches the end changes nothing
deep_same : (v : Term → Term) (h : Heap) (g : ℕ) (c : Cell) → Deep h g c → spell_by v h (suc g) c ≡ spell_by v h g c
deep_same v h zero c d = absurd d
deep_same v h (suc g) (Reference n) (inl e) = rw e
deep_same v h (suc g) (Reference n) (inr d) = ap (under v h n) (deep_same v h g (h n) d)
deep_same v h (suc g) (Pointer n) d =
    ap (node (label_of (h n))) (run_same (spell_by v h (suc g)) (spell_by v h g) (suc n) (arity_of (h n)) (λ j a b. deep_same v h g (Reference j) (d j (omega arith) (omega arith))))
deep_same v h (suc g) (Functor name arity) d = refl
deep_same v h (suc g) (Atom a) d = refl
deep_same v h (suc g) (Integer z) d = refl

-- whatever reads the heap spells as the layers do
reads_deep : (v : Term → Term) (h : Heap) (s : Cell → Term) → Reads v h s → (g : ℕ) (c : Cell) → Deep h g c → s c ≡ spell_by v h g c
reads_deep v h s r zero c d = absurd d
reads_deep v h s r (suc g) (Reference n) (inl e) = r (Reference n) ∙ rw e
reads_deep v h s r (suc g) (Reference n) (inr d) = r (Reference n) ∙ ap (under v h n) (reads_deep v h s r g (h n) d)
reads_deep v h s r (suc g) (Pointer n) d =
    r (Pointer n) ∙ ap (node (label_of (h n))) (run_same s (spell_by v h g) (suc n) (arity_of (h n)) (λ j a b. reads_deep v h s r g (Reference j) (d j (omega arith) (omega arith))))
reads_deep v h s r (suc g) (Functor name arity) d = r (Functor name arity)
reads_deep v h s r (suc g) (Atom a) d = r (Atom a)
reads_deep v h s r (suc g) (Integer z) d = r (Integer z)

module _ (h : Heap) (n : ℕ) (sound : Sound h n) (acyclic : Acyclic h) where
  pub reads_by : (v : Term → Term) → Reads v h (spell_by v h (suc n))
  reads_by v c = sym (deep_same v h (suc n) c (deep_all h n sound acyclic c))

  pub reads_only : (v : Term → Term) (s : Cell → Term) → Reads v h s → (c : Cell) → s c ≡ spell_by v h (suc n) c
  reads_only v s r c = reads_deep v h s r (suc n) c (deep_all h n sound acyclic c)

  pub more_layers : (v : Term → Term) (g : ℕ) → n < g → (c : Cell) → spell_by v h g c ≡ spell_by v h (suc n) c
  more_layers v zero lt c = absurd (omega arith)
  more_layers v (suc g) lt c = test (dec_lt n g) (more_layers v g)
    where
      test : Dec (n < g) → (n < g → (d : Cell) → spell_by v h g d ≡ spell_by v h (suc n) d) → spell_by v h (suc g) c ≡ spell_by v h (suc n) c
      test (yes p) f = ap (λ (s : Cell → Term). layer v h s c) (fun_ext (f p)) ∙ sym (reads_by v c)
      test (no p) f = ap (λ (k : ℕ). spell_by v h (suc k) c) (let e : g ≡ n = omega arith in e)

pub spell_layer : SpellLayer
spell_layer t r = reads_by (heap_of t.heap) (used t) (rules_sound t r) r.acyclic same

pub spell_only : SpellOnly
spell_only t r = reads_only (heap_of t.heap) (used t) (rules_sound t r) r.acyclic same

pub spell_more : SpellMore
spell_more t r = more_layers (heap_of t.heap) (used t) (rules_sound t r) r.acyclic same

-- What the one-layer equation says of each kind of word.
module _ (t : Tables) (r : Rules t) where
  pub spell_unbound : (n : ℕ) → unbound (heap_of t.heap) n ≡ true → spell t.heap (Reference n) ≡ var n
  spell_unbound n e = spell_layer t r (Reference n) ∙ rw e

  pub spell_bound : (n : ℕ) → unbound (heap_of t.heap) n ≡ false → spell t.heap (Reference n) ≡ spell t.heap (heap_of t.heap n)
  spell_bound n e = spell_layer t r (Reference n) ∙ ap (λ b. cond b (var n) (spell t.heap (heap_of t.heap n))) e

  pub spell_pointer : (n name arity : ℕ) → heap_of t.heap n ≡ Functor name arity → spell t.heap (Pointer n) ≡ node (functor name arity) (run (spell t.heap) (suc n) arity)
  spell_pointer n name arity e = spell_layer t r (Pointer n) ∙ ap (λ c. node (label_of c) (run (spell t.heap) (suc n) (arity_of c))) e
