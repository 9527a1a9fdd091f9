-- Opening a choice point and removing the newest ones keep the rules.
use Rattle.std.proofs.Common.{◌≡◌, ℕ, ◌-◌, ◌<◌, ◌≤◌, true, List, ◌∷◌, length, drop, sym, subst, arith}
use Rattle.std.proofs.lemmas.List.{length-drop, drop_all, take_all}
use Rattle.cells.specs.Cells.{in_range}
use Rattle.tables.specs.Tables.{Choice, Tables, used, present, push_choice, keep_choices, with_choices}
use Rattle.heaps.specs.Lists.{Each}
use Rattle.heaps.specs.Leads.{heap_of, LeadsBy}
use Rattle.heaps.specs.Levels.{unbind_all}
use Rattle.heaps.specs.Rules.{WordKeeps, EntryNames, TopsFall, Closed, Rules, Fits}
use Rattle.heaps.specs.LevelLaws.{Stands}
use Rattle.heaps.proofs.EachLaws.{each_map, each_drop}
use Rattle.heaps.proofs.CutLaws.{tops_drop}
use Rattle.heaps.proofs.KeptWords.{word_leads, cell_leads}

present_closed : (t : Tables) → Rules t → Closed t.heap t.trail (present t)
present_closed t r = record {
  below = λ i j lt l. cell_leads t r i j lt (subst (λ (es : List ℕ). LeadsBy i (heap_of (unbind_all t.heap es) i) j) (drop_all (length t.trail) t.trail (omega arith)) l);
  saved = each_map (WordKeeps (heap_of t.heap) (used t)) (λ w. (j : ℕ) → LeadsBy 0 w j → j < used t) (word_leads (heap_of t.heap) (used t) 0) t.registers r.registers.0;
  older = subst (Each (λ e. e < used t)) (sym (take_all (length t.trail) t.trail (omega arith)))
      (each_map (EntryNames (heap_of t.heap) (used t)) (λ e. e < used t) (λ e p. p.0) t.trail r.trail.1);
}

-- With other choice points the rest of the tables stands as before.
module _ (t : Tables) (cs : List Choice) (s : Stands t) where
  rules_with_choices : Each (λ c. Each (WordKeeps (heap_of t.heap) (used t)) c.saved) cs → TopsFall (used t) (length t.trail) cs → Each (Closed t.heap t.trail) cs → Rules (with_choices t cs)
  rules_with_choices keeps fall closed = record {
    references = s.0.references;
    pointers = s.0.pointers;
    arguments = s.0.arguments;
    registers = (s.0.registers.0, keeps);
    trail = s.0.trail;
    tops = fall;
    acyclic = s.0.acyclic;
    levels = closed;
  }

  fits_with_choices : length cs ≤ 64 → Each (λ c. length c.saved ≡ 8) cs → Each (λ c. Each (λ w. in_range w ≡ true) c.saved) cs → Fits (with_choices t cs)
  fits_with_choices few lengths ranges = record {
    cells = s.1.cells;
    entries = s.1.entries;
    points = few;
    registers = s.1.registers;
    saved = lengths;
    heap_range = s.1.heap_range;
    register_range = s.1.register_range;
    saved_range = ranges;
  }

pub stands_push_choice : (t : Tables) → length t.choices < 64 → Stands t → Stands (push_choice t)
stands_push_choice t few s = (
  rules_with_choices t (present t ∷ t.choices) s s.0.registers (omega arith, omega arith, s.0.tops) (present_closed t s.0, s.0.levels),
  fits_with_choices t (present t ∷ t.choices) s (omega arith) (s.1.registers, s.1.saved) (s.1.register_range, s.1.saved_range),
)

pub stands_keep_choices : (t : Tables) (k : ℕ) → Stands t → Stands (keep_choices t k)
stands_keep_choices t k s = (
  rules_with_choices t (drop n t.choices) s (each_drop (λ c. Each (WordKeeps (heap_of t.heap) (used t)) c.saved) n t.choices s.0.registers.1)
      (tops_drop n (used t) (length t.trail) t.choices s.0.tops) (each_drop (Closed t.heap t.trail) n t.choices s.0.levels),
  fits_with_choices t (drop n t.choices) s (let a = length-drop n t.choices in let b = s.1.points in omega arith) (each_drop (λ c. length c.saved ≡ 8) n t.choices s.1.saved)
      (each_drop (λ c. Each (λ w. in_range w ≡ true) c.saved) n t.choices s.1.saved_range),
)
  where
    n : ℕ
    n = length t.choices - k
