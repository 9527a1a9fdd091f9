-- What undoing the newest choice point gives back: what was there when it was opened, whatever was bound or added since.
use Rattle.std.proofs.Common.{◌≡◌, ℕ, ◌<◌, ◌≤◌, Bool, true, false, cond, ◌||◌, eqb, ltb, List, [], ◌∷◌, ◌++◌, length, take, drop, set, sym, refl, ap, ◌∙◌, subst, arith}
use Rattle.std.proofs.lemmas.List.{length-set, length-append, get_or-set_other, get_or_append_left, take-append-le, take_all, drop-append-le, drop_all}
use Rattle.std.proofs.lemmas.Bool.{eqb-true, eqb-false, ne_eqb, ltb-false}
use Rattle.cells.specs.declared.cell.Cell.{Cell}
use Rattle.cells.specs.declared.cell.Cell.TheVariants.{Reference, Pointer, Functor, Atom, Integer}
use Rattle.tables.specs.Tables.{Choice, Tables, used, with_heap, set_register, push_choice}
use Rattle.heaps.specs.Lists.{is_in}
use Rattle.heaps.specs.Leads.{heap_of, refers_to, unbound}
use Rattle.heaps.specs.Levels.{unbind_all, back_to, last_of, last}
use Rattle.heaps.specs.Binding.{bind, trailed}
use Rattle.heaps.specs.Rules.{TopsFall}
use Rattle.heaps.proofs.EachLaws.{is_in_append}
use Rattle.heaps.proofs.UnbindLaws.{undone, length_unbind_all, heap_of_unbind_all, take_same}

pub tables_same : {h k r s : List Cell} {t u : List ℕ} {c d : List Choice} → h ≡ k → r ≡ s → t ≡ u → c ≡ d
    → ◌≡◌ {A = Tables} (record { heap = h; registers = r; trail = t; choices = c }) (record { heap = k; registers = s; trail = u; choices = d })
tables_same a b c d = λ i. record { heap = a i; registers = b i; trail = c i; choices = d i }

-- a list of choice points that is not empty has a newest one
pub newest : (cs : List Choice) → 0 < length cs → (c : Choice) × (ds : List Choice) × (cs ≡ c ∷ ds)
newest [] lt = absurd (omega arith)
newest (c ∷ ds) lt = (c, ds, refl)

pub last_push_choice : (t : Tables) → last (push_choice t) ≡ t
last_push_choice t = tables_same (ap (λ (es : List ℕ). take (used t) (unbind_all t.heap es)) (drop_all (length t.trail) t.trail (omega arith)) ∙ take_all (used t) t.heap (omega arith))
    refl (take_all (length t.trail) t.trail (omega arith)) refl

-- Two undone heaps have the first k cells in common if these are undone alike.
take_undone : (k : ℕ) (l m : List Cell) (ds es : List ℕ) → k ≤ length l → k ≤ length m → ((i : ℕ) → i < k → undone l ds i ≡ undone m es i) → take k (unbind_all l ds) ≡ take k (unbind_all m es)
take_undone k l m ds es p q f = take_same k (unbind_all l ds) (unbind_all m es) (let a = length_unbind_all l ds in omega arith) (let a = length_unbind_all m es in omega arith)
    (λ i lt. heap_of_unbind_all l ds i ∙ f i lt ∙ sym (heap_of_unbind_all m es i))

refers_to_is : (n : ℕ) (c : Cell) → refers_to n c ≡ true → c ≡ Reference n
refers_to_is n (Reference m) e = ap Reference (eqb-true m n e)
refers_to_is n (Pointer m) e = absurd (let z : ◌≡◌ {A = ℕ} 0 1 = cc in omega arith)
refers_to_is n (Functor f a) e = absurd (let z : ◌≡◌ {A = ℕ} 0 1 = cc in omega arith)
refers_to_is n (Atom a) e = absurd (let z : ◌≡◌ {A = ℕ} 0 1 = cc in omega arith)
refers_to_is n (Integer a) e = absurd (let z : ◌≡◌ {A = ℕ} 0 1 = cc in omega arith)

pub last_set_register : (t : Tables) → 0 < length t.choices → (r : ℕ) (w : Cell) → last (set_register t r w) ≡ last t
last_set_register t some r w = by (newest t.choices some)
  where
    by : (c : Choice) × (cs : List Choice) × (t.choices ≡ c ∷ cs) → last (set_register t r w) ≡ last t
    by n = subst (λ (ds : List Choice). last_of ds (set_register t r w) ≡ last_of ds t) (sym n.2) refl

module _ (t : Tables) (o : TopsFall (used t) (length t.trail) t.choices) (some : 0 < length t.choices) where
  -- what holds of the newest choice point
  tops_of : (c : Choice) (cs : List Choice) → t.choices ≡ c ∷ cs → (c.heap_top ≤ used t) × (c.trail_top ≤ length t.trail)
  tops_of c cs e = let p = subst (TopsFall (used t) (length t.trail)) e o in (p.0, p.1)

  pub last_more : (extra : List Cell) → last (with_heap t (t.heap ++ extra)) ≡ last t
  last_more extra = by (newest t.choices some)
    where
      by : (c : Choice) × (cs : List Choice) × (t.choices ≡ c ∷ cs) → last (with_heap t (t.heap ++ extra)) ≡ last t
      by n = let c = n.0 in let p = tops_of c n.1 n.2 in
          subst (λ (ds : List Choice). last_of ds (with_heap t (t.heap ++ extra)) ≡ last_of ds t) (sym n.2)
          (tables_same (take_undone c.heap_top (t.heap ++ extra) t.heap (drop c.trail_top t.trail) (drop c.trail_top t.trail) (let a = length-append t.heap extra in omega arith) p.0
          (λ i lt. ap (cond (is_in i (drop c.trail_top t.trail)) (Reference i)) (get_or_append_left t.heap extra (Reference i) i (omega arith)))) refl refl refl)

  module _ (x : ℕ) (w : Cell) (free : unbound (heap_of t.heap) x ≡ true) where
    other : (i : ℕ) → eqb x i ≡ false → heap_of (set t.heap x w) i ≡ heap_of t.heap i
    other i p = get_or-set_other t.heap x i w (Reference i) (λ r. eqb-false x i p (sym r))

    -- the bound cell is undone: it was unbound, and so is as before
    undone_bound : (es : List ℕ) (i : ℕ) → undone (set t.heap x w) (es ++ (x ∷ [])) i ≡ undone t.heap es i
    undone_bound es i = ap (λ (b : Bool). cond b (Reference i) (heap_of (set t.heap x w) i)) (is_in_append i es (x ∷ [])) ∙ by (is_in i es) (eqb x i) refl
      where
        by : (a b : Bool) → eqb x i ≡ b → cond (a || (b || false)) (Reference i) (heap_of (set t.heap x w) i) ≡ cond a (Reference i) (heap_of t.heap i)
        by true b q = refl
        by false true q = sym (subst (λ (j : ℕ). heap_of t.heap j ≡ Reference j) (eqb-true x i q) (refers_to_is x (heap_of t.heap x) free))
        by false false q = other i q

    abbrev bound : List Choice → Bool → Tables
    bound ds b = record { heap = set t.heap x w; registers = t.registers; trail = cond b (t.trail ++ (x ∷ [])) t.trail; choices = ds }

    back_bound : (c : Choice) (cs : List Choice) → c.heap_top ≤ used t → c.trail_top ≤ length t.trail → (b : Bool) → ltb x c.heap_top ≡ b → back_to c cs (bound (c ∷ cs) b) ≡ back_to c cs t
    back_bound c cs h k true p = tables_same (take_undone c.heap_top (set t.heap x w) t.heap (drop c.trail_top (t.trail ++ (x ∷ []))) es (let a = length-set t.heap x w in omega arith) h
        (λ i lt. ap (λ (ds : List ℕ). undone (set t.heap x w) ds i) (drop-append-le c.trail_top t.trail (x ∷ []) k) ∙ undone_bound es i))
        refl (take-append-le c.trail_top t.trail (x ∷ []) k) refl
      where
        es : List ℕ
        es = drop c.trail_top t.trail
    back_bound c cs h k false p = tables_same (take_undone c.heap_top (set t.heap x w) t.heap es es (let a = length-set t.heap x w in omega arith) h
        (λ i lt. ap (cond (is_in i es) (Reference i)) (other i (ne_eqb x i (λ r. let q = ltb-false x c.heap_top p in omega arith))))) refl refl refl
      where
        es : List ℕ
        es = drop c.trail_top t.trail

    pub last_bind : last (bind t x w) ≡ last t
    last_bind = by (newest t.choices some)
      where
        by : (c : Choice) × (cs : List Choice) × (t.choices ≡ c ∷ cs) → last (bind t x w) ≡ last t
        by n = let c = n.0 in let cs = n.1 in let p = tops_of c cs n.2 in
            subst (λ (ds : List Choice). last_of ds (bound ds (trailed ds x)) ≡ last_of ds t) (sym n.2) (back_bound c cs p.0 p.1 (ltb x c.heap_top) refl)
