-- The copying collector moves whole runs of neighbouring reached cells, in the order of a breadth-first scan:
-- registers 0 to 7, saved registers of the newest choice point first, then the moved cells. Every heap top becomes used.
use Rattle.std.specs.Prelude.{ℕ, zero, suc, cond, List, [], ◌∷◌, ◌++◌, length, Option, Some, None}
use Rattle.cells.specs.declared.cell.Cell.{Cell}
use Rattle.tables.specs.Tables.{Tables, used, cell_at}
use Rattle.heaps.specs.Lists.{is_in}
use Rattle.heaps.specs.Leads.{first, many}
use Rattle.heaps.specs.Reached.{is_reached, roots}
use Rattle.collectors.specs.Placing.{numbers, placed}

-- the first cell of the run of reached cells that ends at cell i
abbrev pub run_start : Tables → ℕ → ℕ
run_start t zero = zero
run_start t (suc i) = cond (is_reached t i) (run_start t i) (suc i)

-- how many reached cells stand side by side from cell i on, at most g
abbrev pub run_length : ℕ → Tables → ℕ → ℕ
run_length zero t i = 0
run_length (suc g) t i = cond (is_reached t i) (suc (run_length g t (suc i))) 0

-- the whole run that holds a reached cell
abbrev pub run : Tables → ℕ → List ℕ
run t i = numbers (run_start t i) (run_length (used t) t (run_start t i))

-- a cell that has no place yet gets one with its whole run
abbrev pub bring : Tables → List ℕ → ℕ → List ℕ
bring t order i = cond (is_in i order) order (order ++ run t i)

-- the m cells from n on
abbrev pub bring_from : Tables → List ℕ → ℕ → ℕ → List ℕ
bring_from t order n zero = order
bring_from t order n (suc m) = bring_from t (bring t order n) (suc n) m

-- what the words lead to, word by word
abbrev pub bring_words : Tables → List ℕ → List Cell → List ℕ
bring_words t order [] = order
bring_words t order (w ∷ ws) = bring_words t (bring_from t order (first 0 w) (many w)) ws

abbrev pub at : List ℕ → ℕ → Option ℕ
at [] k = None
at (x ∷ xs) zero = Some x
at (x ∷ xs) (suc k) = at xs k

-- what the moved cell i leads to is brought, and the scan goes on
abbrev pub scanned : (List ℕ → List ℕ) → Tables → List ℕ → Option ℕ → List ℕ
scanned on t order None = order
scanned on t order (Some i) = on (bring_from t order (first i (cell_at t i)) (many (cell_at t i)))

-- the moved cells are scanned from the k-th on, g of them at most
abbrev pub scan : ℕ → Tables → ℕ → List ℕ → List ℕ
scan zero t k order = order
scan (suc g) t k order = scanned (scan g t (suc k)) t order (at order k)

abbrev pub copy_order : Tables → List ℕ
copy_order t = scan (used t) t 0 (bring_words t [] (roots t))

abbrev pub copied : Tables → Tables
copied t = placed (copy_order t) (λ top. length (copy_order t)) t
