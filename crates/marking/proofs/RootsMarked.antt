-- The roots, choice point by choice point: from the empty set, what marking them all gives is exactly the reached cells.
use Rattle.std.proofs.Common.{◌≡◌, ℕ, zero, suc, ◌+◌, ◌<◌, ◌≤◌, Bool, List, [], ◌∷◌, ◌++◌, length, get_or, take, sym, ap, ◌∙◌, subst, inl, ⊎_elim, append_assoc, append-nil, arith}
use Rattle.std.proofs.lemmas.List.{take_more, take_all}
use Rattle.std.proofs.lemmas.Bool.{false≢true}
use Rattle.cells.specs.declared.cell.Cell.{Cell}
use Rattle.tables.specs.Tables.{Choice, Tables, no_choice, choice_at}
use Rattle.marks.specs.Sets.{none}
use Rattle.heaps.specs.Lists.{Among}
use Rattle.heaps.specs.Leads.{Heap, heap_of}
use Rattle.heaps.specs.Reached.{Reaches, direct, onward, saved_words, roots}
use Rattle.marking.specs.Marking.{ClosedUnder, WordsLead, MarkedAll, MarksReached}
use Rattle.marking.proofs.Members.{among_nowhere, among_left, among_right}
use Rattle.marking.proofs.Marked.{marked_then}

pub closed_none : (h : Heap) (s : ℕ → Bool) → s ≡ none → ClosedUnder h s
closed_none h s e i j m l = absurd (false≢true (sym (ap (λ (f : ℕ → Bool). f i) e) ∙ m))

-- parts of the roots lead inside if the roots do

pub registers_lead : (t : Tables) → WordsLead (roots t) → WordsLead t.registers
registers_lead t inside k l = inside k (l.0, among_left (saved_words t.choices) l.1, l.2)

among_saved : (cs : List Choice) (k : ℕ) (w : Cell) → k < length cs → Among w (get_or cs k no_choice).saved → Among w (saved_words cs)
among_saved [] k w h m = absurd (omega arith)
among_saved (c ∷ cs) zero w h m = among_left (saved_words cs) m
among_saved (c ∷ cs) (suc k) w h m = among_right c.saved (among_saved cs k w (omega arith) m)

pub saved_lead : (t : Tables) (k : ℕ) → k < length t.choices → WordsLead (roots t) → WordsLead (choice_at t k).saved
saved_lead t k h inside j l = inside j (l.0, among_right t.registers (among_saved t.choices k l.0 h l.1), l.2)

-- one choice point more

saved_words_push : (cs : List Choice) (c : Choice) → saved_words (cs ++ (c ∷ [])) ≡ saved_words cs ++ c.saved
saved_words_push [] c = append-nil c.saved
saved_words_push (d ∷ cs) c = ap (λ ws. d.saved ++ ws) (saved_words_push cs c) ∙ sym (append_assoc d.saved (saved_words cs) c.saved)

nothing_reached : (h : Heap) {k : ℕ} → Reaches h [] k → ⊥
nothing_reached h (direct m l) = among_nowhere m
nothing_reached h (onward r l) = nothing_reached h r

module _ (h : Heap) (cs : List Choice) (s : ℕ → Bool) where
  pub marked_none : MarkedAll h (saved_words (take 0 cs)) s s
  marked_none = record { only = λ k e. inl e; kept = λ k e. e; all = λ k r. absurd (nothing_reached h r) }

  pub marked_point : (k : ℕ) (t u : ℕ → Bool) → k < length cs → MarkedAll h (saved_words (take k cs)) s t → MarkedAll h (get_or cs k no_choice).saved t u
      → MarkedAll h (saved_words (take (k + 1) cs)) s u
  marked_point k t u low a b =
      subst (λ ws. MarkedAll h ws s u) (sym (ap saved_words (take_more cs k no_choice low) ∙ saved_words_push (take k cs) (get_or cs k no_choice)))
      (marked_then h (saved_words (take k cs)) (get_or cs k no_choice).saved s t u a b)

  pub marked_points : (k : ℕ) (t : ℕ → Bool) → length cs ≤ k → MarkedAll h (saved_words (take k cs)) s t → MarkedAll h (saved_words cs) s t
  marked_points k t high a = subst (λ ds. MarkedAll h (saved_words ds) s t) (take_all k cs high) a

module _ (t : Tables) (s u : ℕ → Bool) (v : ℕ → Bool) (empty : s ≡ none) where
  pub marks_reached : MarkedAll (heap_of t.heap) t.registers s u → MarkedAll (heap_of t.heap) (saved_words t.choices) u v → MarksReached t v
  marks_reached a b k =
      let m = marked_then (heap_of t.heap) t.registers (saved_words t.choices) s u v a b in (
        (λ e. ⊎_elim (λ old. absurd (false≢true (sym (ap (λ (f : ℕ → Bool). f k) empty) ∙ old))) (λ r. r) (m.only k e)),
        m.all k,
      )
