-- The roots lead inside if each word does, register by register and choice point by choice point.
use Rattle.std.proofs.Common.{◌≡◌, ℕ, suc, ◌<◌, ◌≤◌, List, [], ◌∷◌, length, get_or, subst, ⊎_elim, arith}
use Rattle.cells.specs.declared.cell.Cell.{Cell}
use Rattle.cells.specs.declared.cell.Cell.TheVariants.{Atom}
use Rattle.tables.specs.Tables.{Choice, Tables, no_choice, choice_at}
use Rattle.heaps.specs.Leads.{Heap, LeadsBy}
use Rattle.heaps.specs.Reached.{saved_words, roots}
use Rattle.marking.specs.Marking.{CellsLead, WordsLead}
use Rattle.marking.proofs.Members.{among_nowhere, among_either}
use Rattle.marking.proofs.Words.{led_all}

-- the word in cell i leads inside
abbrev pub Inside : ℕ → Cell → Type 0
Inside i w = (k : ℕ) → LeadsBy i w k → k < 4096

pub inside_as : (i : ℕ) (w v : Cell) → w ≡ v → Inside i w → Inside i v
inside_as i w v is h = subst (Inside i) is h

pub cells_inside : (h : Heap) → ((i : ℕ) → i < 4096 → Inside i (h i)) → CellsLead h
cells_inside h each i j low l = each i low j l

pub words_inside : (ws : List Cell) (n : ℕ) → length ws ≤ n → ((r : ℕ) → r < n → Inside 0 (get_or ws r (Atom 0))) → WordsLead ws
words_inside ws n few each k l = let at = led_all ws n k few l in each at.0 at.1 k at.2

saved_inside : (cs : List Choice) → ((p : ℕ) → p < length cs → WordsLead (get_or cs p no_choice).saved) → WordsLead (saved_words cs)
saved_inside [] each k l = absurd (among_nowhere l.1)
saved_inside (c ∷ cs) each k l =
    ⊎_elim
    (λ a. each 0 (omega arith) k (l.0, a, l.2))
    (λ b. saved_inside cs (λ p low. each (suc p) (omega arith)) k (l.0, b, l.2))
    (among_either c.saved (saved_words cs) l.1)

pub roots_inside : (t : Tables) → WordsLead t.registers → ((p : ℕ) → p < length t.choices → WordsLead (choice_at t p).saved) → WordsLead (roots t)
roots_inside t registers each k l =
    ⊎_elim
    (λ a. registers k (l.0, a, l.2))
    (λ b. saved_inside t.choices each k (l.0, b, l.2))
    (among_either t.registers (saved_words t.choices) l.1)
