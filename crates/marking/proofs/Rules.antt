-- Tables that keep the rules and fit the memory have words and cells that lead only to cells.
use Rattle.std.proofs.Common.{◌≡◌, ℕ, ◌+◌, ◌<◌, ◌≤◌, List, [], ◌∷◌, refl, subst, ⊎_elim, arith}
use Rattle.std.proofs.lemmas.List.{get_or_past}
use Rattle.std.proofs.lemmas.Bool.{cases_lt}
use Rattle.cells.specs.declared.cell.Cell.{Cell}
use Rattle.cells.specs.declared.cell.Cell.TheVariants.{Reference, Pointer, Functor, Atom, Integer}
use Rattle.tables.specs.Tables.{Choice, Tables, used}
use Rattle.heaps.specs.Lists.{Each, Among, here, further}
use Rattle.heaps.specs.Leads.{Heap, heap_of, LeadsBy}
use Rattle.heaps.specs.Reached.{saved_words, roots}
use Rattle.heaps.specs.Rules.{WordKeeps, Rules}
use Rattle.marking.specs.Marking.{CellsLead, WordsLead}
use Rattle.marking.proofs.Members.{among_either}

-- a word of a register leads to cells in use
word_leads : (h : Heap) (n : ℕ) (w : Cell) → WordKeeps h n w → (k : ℕ) → LeadsBy 0 w k → k < n
word_leads h n (Reference m) keeps k l = omega (arith, keeps.0, l.0, l.1)
word_leads h n (Pointer m) keeps k l = omega (arith, keeps.0, l.0, l.1)
word_leads h n (Functor name arity) keeps k l = absurd keeps
word_leads h n (Atom a) keeps k l = absurd (omega (arith, l.1))
word_leads h n (Integer z) keeps k l = absurd (omega (arith, l.1))

each_among : {A : Type 0} (P : A → Type 0) {x : A} {xs : List A} → Each P xs → Among x xs → P x
each_among P e here = e.0
each_among P e (further m) = each_among P e.1 m

saved_keep : (P : Cell → Type 0) (cs : List Choice) → Each (λ c. Each P c.saved) cs → (w : Cell) → Among w (saved_words cs) → P w
saved_keep P [] keeps w m = elim m [ ]
saved_keep P (c ∷ cs) keeps w m =
    ⊎_elim (λ a. each_among P keeps.0 a) (λ b. saved_keep P cs keeps.1 w b) (among_either c.saved (saved_words cs) m)

module _ (t : Tables) (fits : used t ≤ 4096) (rules : Rules t) where
  pub roots_lead : WordsLead (roots t)
  roots_lead k l =
      let P : Cell → Type 0 = WordKeeps (heap_of t.heap) (used t) in
      let keeps : P l.0 =
      ⊎_elim
      (λ a. each_among P rules.registers.0 a)
      (λ b. saved_keep P t.choices rules.registers.1 l.0 b)
      (among_either t.registers (saved_words t.choices) l.1) in
      omega (arith, word_leads (heap_of t.heap) (used t) l.0 keeps k l.2)

  cell_leads : (i j : ℕ) (c : Cell) → i < used t → heap_of t.heap i ≡ c → LeadsBy i c j → j < used t
  cell_leads i j (Reference m) low is l = omega (arith, (rules.references i m low is).0, l.0, l.1)
  cell_leads i j (Pointer m) low is l = omega (arith, (rules.pointers i m low is).0, l.0, l.1)
  cell_leads i j (Functor name arity) low is l =
      let last : j ≤ i + arity = omega (arith, l.1) in (rules.arguments i name arity j low is l.0 last).0
  cell_leads i j (Atom a) low is l = absurd (omega (arith, l.1))
  cell_leads i j (Integer z) low is l = absurd (omega (arith, l.1))

  pub cells_lead : CellsLead (heap_of t.heap)
  cells_lead i j cell l =
      ⊎_elim
      (λ (low : i < used t). let inside : j < used t = cell_leads i j (heap_of t.heap i) low refl l in omega arith)
      (λ (past : used t ≤ i).
      let m : LeadsBy i (Reference i) j = subst (λ c. LeadsBy i c j) (get_or_past t.heap i (Reference i) past) l in
      omega (arith, m.0, m.1))
      (cases_lt i (used t))
