-- Under the rules the test for reached cells is right: it also finds all that is reached,
-- since a walk that never comes back to a cell has fewer steps than there are cells in use.
use Rattle.std.proofs.Common.{◌≡◌, ℕ, zero, suc, ◌+◌, ◌<◌, ◌≤◌, Bool, true, false, eqb, List, [], ◌∷◌, length, refl, ap, ◌∙◌, ⊎_elim, arith}
use Rattle.std.proofs.lemmas.Bool.{eq-eqb, cases_eq, or_left, or_right}
use Rattle.cells.specs.declared.cell.Cell.{Cell}
use Rattle.tables.specs.Tables.{Tables, used}
use Rattle.heaps.specs.Lists.{Each, Among, here, further, is_in, Different}
use Rattle.heaps.specs.Leads.{Heap, heap_of, first, many, LeadsBy, Way, step, Acyclic}
use Rattle.heaps.specs.Reached.{Reaches, roots, any_from, within, reached_by}
use Rattle.heaps.specs.Rules.{WordKeeps, Rules}
use Rattle.heaps.specs.ReachedLaws.{WordsKeep, WordsDecided, ReachedDecided}
use Rattle.heaps.proofs.MemberLaws.{each_map, each_among, each_in}
use Rattle.heaps.proofs.Pigeonhole.{pigeonhole}
use Rattle.heaps.proofs.Walks.{Walk, stay, go, way_more, reached_walk}
use Rattle.heaps.proofs.ReachedUsed.{rules_inside, word_inside, roots_keep}
use Rattle.heaps.proofs.FoundReached.{found_reached}

any_from_lem : (n m : ℕ) (p : ℕ → Bool) (j : ℕ) → n ≤ j → j < n + m → p j ≡ true → any_from n m p ≡ true
any_from_lem n zero p j a b e = absurd (omega arith)
any_from_lem n (suc m) p j a b e =
    ⊎_elim
    (λ q. or_left (p n) (any_from (suc n) m p) (ap p q ∙ e))
    (λ q. or_right (p n) (any_from (suc n) m p) (any_from_lem (suc n) m p j (omega arith) (omega arith) e))
    (cases_eq n j)

found_word : (g : ℕ) (h : Heap) (k j : ℕ) {w : Cell} {ws : List Cell} → Among w ws → LeadsBy 0 w j → within g h j k ≡ true → reached_by g h ws k ≡ true
found_word g h k j {w} (here {xs = ws}) l e =
    or_left (any_from (first 0 w) (many w) (λ i. within g h i k)) (reached_by g h ws k) (any_from_lem (first 0 w) (many w) (λ i. within g h i k) j l.0 l.1 e)
found_word g h k j (further {y = v} {xs = ws} m) l e =
    or_right (any_from (first 0 v) (many v) (λ i. within g h i k)) (reached_by g h ws k) (found_word g h k j m l e)

at_once : (g : ℕ) (h : Heap) (i : ℕ) → within g h i i ≡ true
at_once zero h i = eq-eqb i i refl
at_once (suc g) h i = or_left (eqb i i) (any_from (first i (h i)) (many (h i)) (λ j. within g h j i)) (eq-eqb i i refl)

false_of : (b : Bool) → (b ≡ true → ⊥) → b ≡ false
false_of true f = absurd (f refl)
false_of false f = refl

module _ (h : Heap) (n : ℕ) (inside : (i j : ℕ) → i < n → LeadsBy i (h i) j → j < n) (acyclic : Acyclic h) where
  -- v is in use, and leads on to i
  abbrev Before : ℕ → ℕ → Type 0
  Before i v = (v < n) × Way h v i

  -- the cells passed on the way to i are different from it and from each other, so there are fewer than n
  different : (i : ℕ) (vs : List ℕ) → Different vs → Each (Before i) vs → Different (i ∷ vs)
  different i vs d b = (false_of (is_in i vs) (λ e. acyclic i (each_in (Before i) i vs b e).1), d)

  room : (i : ℕ) (vs : List ℕ) → i < n → Different vs → Each (Before i) vs → length vs < n
  room i vs lt d b =
      let most = pigeonhole n (i ∷ vs) (different i vs d b) (lt, each_map (Before i) (λ v. v < n) (λ v p. p.0) vs b) in
      omega arith

  -- so as many steps as cells are not yet passed suffice
  walk_within : (g : ℕ) (vs : List ℕ) {i k : ℕ} → i < n → Different vs → Each (Before i) vs → n ≤ length vs + g → Walk h i k → within g h i k ≡ true
  walk_within g vs {i} lt d b le stay = at_once g h i
  walk_within zero vs {i} lt d b le (go l w) = let few = room i vs lt d b in absurd (omega arith)
  walk_within (suc g) vs {i} {k} lt d b le (go {j = j} l w) =
      let on : Each (Before j) (i ∷ vs) = ((lt, step l), each_map (Before i) (Before j) (λ v p. (p.0, way_more h p.1 l)) vs b) in
      or_right (eqb i k) (any_from (first i (h i)) (many (h i)) (λ x. within g h x k))
      (any_from_lem (first i (h i)) (many (h i)) (λ x. within g h x k) j l.0.0 l.0.1
      (walk_within g (i ∷ vs) (inside i j lt l.0) (different i vs d b) on (omega arith) w))

-- Under the rules, what is reached is found.
module _ (t : Tables) (r : Rules t) (ws : List Cell) (keep : WordsKeep t ws) (k : ℕ) where
  abbrev cells : Heap
  cells = heap_of t.heap

  pub reached_found : Reaches cells ws k → reached_by (used t) cells ws k ≡ true
  reached_found q =
      let f = reached_walk cells ws k q in
      let lt = word_inside cells (used t) f.0 (each_among (WordKeeps cells (used t)) keep f.2) f.1 f.3 in
      found_word (used t) cells k f.1 f.2 f.3
      (walk_within cells (used t) (rules_inside t r) r.acyclic (used t) [] lt tt tt (omega arith) f.4)

pub words_decided : WordsDecided
words_decided t r ws keep k = (found_reached (heap_of t.heap) ws (used t) k, reached_found t r ws keep k)

pub reached_decided : ReachedDecided
reached_decided t r k = words_decided t r (roots t) (roots_keep t r) k
