-- Where the pairs have a solution, unifying with merges takes the steps of unifying without, but for those that change nothing.
-- The solution reads all merged structures alike, and the arguments still to be gone through are smaller in it than their structures.
-- So two structures of one class, when they meet again, belong to merges whose arguments are all done, and spell the same already.
use Rattle.std.proofs.Common.{◌≡◌, ℕ, zero, suc, ◌+◌, ◌<◌, ◌≤◌, Bool, true, cond, ◌⊎◌, List, [], ◌∷◌, sym, refl, ap, ◌∙◌, ap₂, inl, inr, ⊎_elim, arith, Option, None}
use Rattle.cells.specs.declared.cell.Cell.{Cell}
use Rattle.cells.specs.declared.cell.Cell.TheVariants.{Reference, Pointer}
use Rattle.tables.specs.Tables.{Tables, cell_at}
use Rattle.terms.specs.Terms.{node, cons, size}
use Rattle.heaps.specs.Lists.{Each, Among, here, further}
use Rattle.heaps.specs.Spelling.{label_of, arity_of, run, spell}
use Rattle.heaps.specs.LevelLaws.{Stands, Keeps}
use Rattle.calls.specs.Unifying.{Pair, words, rows, go, stop, meet}
use Rattle.calls.specs.Pairs.{PairKeeps}
use Rattle.classes.specs.Merges.{Merge, same_class}
use Rattle.unifying.specs.Merging.{arguments, MemoRun, no_more, one_more, skipped, merged, clashed, stopped, went_on}
use Rattle.classes.proofs.ClassLaws.{class_passes}
use Rattle.unifying.proofs.SolutionLaws.{Reading, Solution, Equal, solution_self, solution_back, solution_alike, solution_pointer}
use Rattle.unifying.proofs.WordsMeet.{Rest, behind, behind_row, words_went, words_stop, reads_first, reads_second, second_structure, functors_alike, arguments_keep, row_keeps}
use Rattle.unifying.proofs.TextbookSteps.{Steps, arrived, next, steps_join, rest_steps, same_steps}

-- s reads merged structures alike
abbrev Alike : Reading → Merge → Type 0
Alike s m = s (Pointer m.0) ≡ s (Pointer m.1)

-- what holds of each merge
abbrev All : (Merge → Type 0) → List Merge → Type 0
All P merges = (m : Merge) → Among m merges → P m

each_all : (P : Merge → Type 0) (merges : List Merge) → All P merges → Each P merges
each_all P [] f = tt
each_all P (m ∷ merges) f = (f m here, each_all P merges (λ x i. f x (further i)))

-- With the pair done, the tables are u and the merges `made`; the pairs behind are still to do, and r is the result in the end.
pub record Did (s : Reading) (t : Tables) (merges : List Merge) (p : Pair) (ps : List Pair) (r : Option Tables) : Type 0 where
  pub u : Tables
  pub made : List Merge
  pub rest : MemoRun u made ps r
  pub stands : Stands u
  pub keeps : (d : Cell) → Keeps t d → Keeps u d
  pub later : Solution t (spell u.heap)
  pub solution : Solution u s
  pub alike : Equal (spell u.heap) p
  pub new : (m : Merge) → Among m made → Among m merges ⊎ Alike (spell u.heap) m
  pub steps : Steps t (p ∷ ps) u ps

module _ (s : Reading) where
  -- a merge whose structures spell the same in t, or are not smaller than n in the solution
  abbrev Settled : ℕ → Tables → Merge → Type 0
  Settled n t m = Alike (spell t.heap) m ⊎ (n ≤ size (s (Pointer m.0)))

  -- structures of one class that are smaller than n
  class_settled : (n : ℕ) (t : Tables) (merges : List Merge) → All (Alike s) merges → All (Settled n t) merges → (p q : ℕ) → same_class merges p q ≡ true
      → size (s (Pointer p)) < n → spell t.heap (Pointer p) ≡ spell t.heap (Pointer q)
  class_settled n t merges al se p q c lt = sym (class_passes P merges (each_all _ merges passes) p q c (refl, refl)).1
    where
      P : ℕ → Type 0
      P x = (s (Pointer x) ≡ s (Pointer p)) × (spell t.heap (Pointer x) ≡ spell t.heap (Pointer p))

      spells : (m : Merge) → Among m merges → s (Pointer m.0) ≡ s (Pointer p) → Alike (spell t.heap) m
      spells m i e = ⊎_elim (λ x. x) (λ le. absurd (let z = ap size e in omega arith)) (se m i)

      passes : All (λ m. (P m.0 → P m.1) × (P m.1 → P m.0)) merges
      passes m i = (
        λ x. (sym (al m i) ∙ x.0, sym (spells m i x.0) ∙ x.1),
        λ x. let e = al m i ∙ x.0 in (e, spells m i e ∙ x.1),
      )

  -- what holds of merges goes on holding
  alike_did : {r : Option Tables} (t : Tables) (merges : List Merge) (p : Pair) (ps : List Pair) → All (Alike s) merges → (d : Did s t merges p ps r) → All (Alike s) d.made
  alike_did t merges p ps al d m i = ⊎_elim (al m) (λ e. solution_alike d.u s d.solution (Pointer m.0) (Pointer m.1) e) (d.new m i)

  settled_did : {r : Option Tables} (n : ℕ) (t : Tables) (merges : List Merge) (p : Pair) (ps : List Pair) → All (Settled n t) merges → (d : Did s t merges p ps r) → All (Settled n d.u) d.made
  settled_did n t merges p ps se d m i = ⊎_elim (λ j. old (se m j)) inl (d.new m i)
    where
      old : Settled n t m → Settled n d.u m
      old (inl e) = inl (solution_alike t (spell d.u.heap) d.later (Pointer m.0) (Pointer m.1) e)
      old (inr le) = inr le

  -- two words that s reads alike, and whose term is smaller than n
  abbrev WordsDo : ℕ → Type 0
  WordsDo n = (t : Tables) (merges : List Merge) (a b : Cell) (ps : List Pair) (r : Option Tables) → MemoRun t merges (words a b ∷ ps) r → Stands t → Keeps t a → Keeps t b
      → Solution t s → s a ≡ s b → All (Alike s) merges → All (Settled n t) merges → size (s a) < n → Did s t merges (words a b) ps r

  -- one argument of two rows, then the others
  row_join : (t : Tables) (merges : List Merge) (i j k : ℕ) (ps : List Pair) (r : Option Tables) (d : Did s t merges (words (Reference i) (Reference j)) (rows (suc i) (suc j) k ∷ ps) r)
      → Did s d.u d.made (rows (suc i) (suc j) k) ps r → Did s t merges (rows i j (suc k)) ps r
  row_join t merges i j k ps r d g = record {
    u = g.u;
    made = g.made;
    rest = g.rest;
    stands = g.stands;
    keeps = λ c x. g.keeps c (d.keeps c x);
    later = solution_back t d.u (spell g.u.heap) d.later g.later;
    solution = g.solution;
    alike = ap₂ cons (onward (Reference i) (Reference j) d.alike) g.alike;
    new = λ m x. ⊎_elim (λ y. ⊎_elim inl (λ q. inr (onward (Pointer m.0) (Pointer m.1) q)) (d.new m y)) inr (g.new m x);
    steps = next refl (steps_join d.steps g.steps);
  }
    where
      onward : (c e : Cell) → spell d.u.heap c ≡ spell d.u.heap e → spell g.u.heap c ≡ spell g.u.heap e
      onward c e q = solution_alike d.u (spell g.u.heap) g.later c e q

  rows_do : (n : ℕ) → WordsDo n → (k : ℕ) (t : Tables) (merges : List Merge) (i j : ℕ) (ps : List Pair) (r : Option Tables) → MemoRun t merges (rows i j k ∷ ps) r → Stands t
      → PairKeeps t (rows i j k) → Solution t s → run s i k ≡ run s j k → All (Alike s) merges → All (Settled n t) merges → size (run s i k) ≤ n → Did s t merges (rows i j k) ps r
  rows_do n ih zero t merges i j ps r (no_more w) st v f e al se le = record {
    u = t;
    made = merges;
    rest = w;
    stands = st;
    keeps = λ d k. k;
    later = solution_self t;
    solution = f;
    alike = refl;
    new = λ m x. inl x;
    steps = next refl arrived;
  }
  rows_do n ih (suc k) t merges i j ps r (one_more w) st v f e al se le =
      others (rows_do n ih k) (ih t merges (Reference i) (Reference j) (rows (suc i) (suc j) k ∷ ps) r w st kept.0.0 kept.0.1 f (cc e) al se (omega arith))
    where
      kept : PairKeeps t (words (Reference i) (Reference j)) × PairKeeps t (rows (suc i) (suc j) k)
      kept = row_keeps t i j k v

      others : ((u : Tables) (made : List Merge) (x y : ℕ) (qs : List Pair) (o : Option Tables) → MemoRun u made (rows x y k ∷ qs) o → Stands u
          → PairKeeps u (rows x y k) → Solution u s → run s x k ≡ run s y k → All (Alike s) made → All (Settled n u) made → size (run s x k) ≤ n → Did s u made (rows x y k) qs o)
          → Did s t merges (words (Reference i) (Reference j)) (rows (suc i) (suc j) k ∷ ps) r → Did s t merges (rows i j (suc k)) ps r
      others more d = row_join t merges i j k ps r d (more d.u d.made (suc i) (suc j) ps r d.rest d.stands
          (λ m lt. (d.keeps (Reference (suc i + m)) (kept.1 m lt).0, d.keeps (Reference (suc j + m)) (kept.1 m lt).1)) d.solution (cc e)
          (alike_did t merges _ _ al d) (settled_did n t merges _ _ se d) (omega arith))

  rest_run : {t : Tables} {merges : List Merge} {ps qs : List Pair} {r : Option Tables} → Rest ps qs → MemoRun t merges qs r → MemoRun t merges ps r
  rest_run behind w = w
  rest_run behind_row (no_more w) = w

  words_do : (g n : ℕ) → n ≤ g → WordsDo n
  words_do zero n le t merges a b ps r w st ka kb f e al se lt = absurd (omega arith)
  words_do (suc g) n le t merges a b ps r (skipped p q ea eb c w) st ka kb f e al se lt =
      let z = ap size (reads_first t st a b ka kb p q ea eb s f) in
      let same = reads_first t st a b ka kb p q ea eb (spell t.heap) (solution_self t) ∙ class_settled n t merges al se p q c (omega arith)
      ∙ sym (reads_second t st a b ka kb p q ea eb (spell t.heap) (solution_self t)) in record {
        u = t;
        made = merges;
        rest = w;
        stands = st;
        keeps = λ d k. k;
        later = solution_self t;
        solution = f;
        alike = same;
        new = λ m x. inl x;
        steps = same_steps t st a b same ka kb ps;
      }
  words_do (suc g) n le t merges a b ps r (merged p q ea eb c l w) st ka kb f e al se lt = finish (rows_do (size (s a)) (words_do g (size (s a)) (omega arith)) k t ((p, q) ∷ merges) (suc p) (suc q) ps r w st
      (arguments_keep t st a b ka kb p q ea eb l) f (cc both) al' se' (let z = ap size first in omega arith))
    where
      k : ℕ
      k = arity_of (cell_at t p)

      first : s a ≡ node (label_of (cell_at t p)) (run s (suc p) k)
      first = reads_first t st a b ka kb p q ea eb s f ∙ solution_pointer t st.0 s f p

      both : node (label_of (cell_at t p)) (run s (suc p) k) ≡ node (label_of (cell_at t p)) (run s (suc q) k)
      both = sym first ∙ e ∙ reads_second t st a b ka kb p q ea eb s f ∙ second_structure t st a b ka kb p q ea eb l s f

      al' : All (Alike s) ((p, q) ∷ merges)
      al' m here = sym (reads_first t st a b ka kb p q ea eb s f) ∙ e ∙ reads_second t st a b ka kb p q ea eb s f
      al' m (further i) = al m i

      se' : All (Settled (size (s a)) t) ((p, q) ∷ merges)
      se' m here = inr (let z = ap size (reads_first t st a b ka kb p q ea eb s f) in omega arith)
      se' m (further i) = ⊎_elim inl (λ x. inr (omega arith)) (se m i)

      finish : Did s t ((p, q) ∷ merges) (arguments t p q) ps r → Did s t merges (words a b) ps r
      finish d = record {
        u = d.u;
        made = d.made;
        rest = d.rest;
        stands = d.stands;
        keeps = d.keeps;
        later = d.later;
        solution = d.solution;
        alike = reads_first t st a b ka kb p q ea eb v d.later ∙ structures ∙ sym (reads_second t st a b ka kb p q ea eb v d.later);
        new = λ m i. ⊎_elim (old m) inr (d.new m i);
        steps = next (ap₂ (λ (x y : Cell). meet t x y ps) ea eb ∙ ap (λ (x : Bool). cond x (go t (arguments t p q ∷ ps)) (stop None)) l) d.steps;
      }
        where
          v : Reading
          v = spell d.u.heap

          structures : v (Pointer p) ≡ v (Pointer q)
          structures = solution_pointer t st.0 v d.later p ∙ ap (node (label_of (cell_at t p))) d.alike ∙ sym (second_structure t st a b ka kb p q ea eb l v d.later)

          old : (m : Merge) → Among m ((p, q) ∷ merges) → Among m merges ⊎ Alike v m
          old m here = inr structures
          old m (further i) = inl i
  words_do (suc g) n le t merges a b ps r (clashed p q ea eb c l) st ka kb f e al se lt = absurd (functors_alike t st a b ka kb p q ea eb s f e l)
  words_do (suc g) n le t merges a b ps r (stopped c x) st ka kb f e al se lt = absurd ((words_stop t st a b ka kb ps r c x).1 s f e)
  words_do (suc g) n le t merges a b ps r (went_on {u = u₁} {qs = qs} c x w) st ka kb f e al se lt = let d = words_went t st a b ka kb ps qs u₁ c x in record {
    u = u₁;
    made = merges;
    rest = rest_run d.rest w;
    stands = d.stands;
    keeps = d.keeps;
    later = d.later;
    solution = d.solves s f e;
    alike = d.alike;
    new = λ m i. inl i;
    steps = next x (rest_steps u₁ ps qs d.rest);
  }

-- two words, from the beginning
pub words_did : (s : Reading) (t : Tables) (a b : Cell) (r : Option Tables) → MemoRun t [] (words a b ∷ []) r → Stands t → Keeps t a → Keeps t b → Solution t s → s a ≡ s b
    → Did s t [] (words a b) [] r
words_did s t a b r w st ka kb f e =
    words_do s (suc (size (s a))) (suc (size (s a))) (omega arith) t [] a b [] r w st ka kb f e (λ m i. elim i [ ]) (λ m i. elim i [ ]) (omega arith)
