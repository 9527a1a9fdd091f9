-- A level does not depend on the newer choice points: undoing to a choice point and then to an older one is undoing to the
-- older one alone. So the levels below those that are cut stay as they are.
use Rattle.std.proofs.Common.{◌≡◌, ℕ, zero, suc, ◌+◌, ◌-◌, ◌<◌, ◌≤◌, Bool, true, false, cond, ◌||◌, List, [], ◌∷◌, length, take, drop, sym, refl, ap, ◌∙◌, subst, arith}
use Rattle.std.proofs.lemmas.List.{length-take-le, length-drop, take-take, drop_all}
use Rattle.cells.specs.declared.cell.Cell.TheVariants.{Reference}
use Rattle.tables.specs.Tables.{Choice, Tables, used, with_choices, keep_choices}
use Rattle.heaps.specs.Lists.{Each, is_in}
use Rattle.heaps.specs.Leads.{heap_of}
use Rattle.heaps.specs.Levels.{seen_from, back_to, last_of, last, undo}
use Rattle.heaps.specs.Rules.{TopsFall}
use Rattle.heaps.proofs.EachLaws.{is_in_append}
use Rattle.heaps.proofs.UnbindLaws.{length_unbind_all, heap_of_unbind_all, heap_of_take, take_same, drop_split}
use Rattle.heaps.proofs.LastLaws.{tables_same, newest}

-- an older choice point sees the same cells from a newer one
pub seen_older : (t : Tables) (c d : Choice) (cs : List Choice) → d.heap_top ≤ c.heap_top → d.trail_top ≤ c.trail_top
    → (i : ℕ) → i < d.heap_top → heap_of (seen_from d (back_to c cs t).heap (back_to c cs t).trail) i ≡ heap_of (seen_from d t.heap t.trail) i
seen_older t c d cs h k i lt = heap_of_unbind_all (take c.heap_top (seen_from c t.heap t.trail)) xs i
    ∙ ap (cond (is_in i xs) (Reference i)) (heap_of_take c.heap_top (seen_from c t.heap t.trail) i (omega arith) ∙ heap_of_unbind_all t.heap ys i)
    ∙ both (is_in i xs) (is_in i ys)
    ∙ ap (λ (b : Bool). cond b (Reference i) (heap_of t.heap i)) (sym (ap (is_in i) (drop_split t.trail d.trail_top c.trail_top k) ∙ is_in_append i xs ys))
    ∙ sym (heap_of_unbind_all t.heap (drop d.trail_top t.trail) i)
  where
    xs : List ℕ
    xs = drop d.trail_top (take c.trail_top t.trail)

    ys : List ℕ
    ys = drop c.trail_top t.trail

    both : (a b : Bool) → cond a (Reference i) (cond b (Reference i) (heap_of t.heap i)) ≡ cond (a || b) (Reference i) (heap_of t.heap i)
    both true b = refl
    both false b = refl

pub length_back : (t : Tables) (c : Choice) (cs : List Choice) → c.heap_top ≤ used t → used (back_to c cs t) ≡ c.heap_top
length_back t c cs h = length-take-le c.heap_top (seen_from c t.heap t.trail) (let a = length_unbind_all t.heap (drop c.trail_top t.trail) in omega arith)

pub back_back : (t : Tables) (c d : Choice) (cs ds : List Choice) → d.heap_top ≤ c.heap_top → d.trail_top ≤ c.trail_top → c.heap_top ≤ used t
    → back_to d ds (back_to c cs t) ≡ back_to d ds t
back_back t c d cs ds h k u = tables_same
    (take_same d.heap_top (seen_from d s.heap s.trail) (seen_from d t.heap t.trail)
    (let a = length_unbind_all s.heap (drop d.trail_top s.trail) in let b = length_back t c cs u in omega arith)
    (let a = length_unbind_all t.heap (drop d.trail_top t.trail) in omega arith) (seen_older t c d cs h k))
    refl (take-take d.trail_top c.trail_top t.trail k) refl
  where
    s : Tables
    s = back_to c cs t

pub tops_lower : (n m k l : ℕ) (cs : List Choice) → n ≤ m → k ≤ l → TopsFall n k cs → TopsFall m l cs
tops_lower n m k l [] p q o = tt
tops_lower n m k l (c ∷ cs) p q o = let a = o.0 in let b = o.1 in (omega arith, omega arith, o.2)

pub tops_drop : (j n k : ℕ) (cs : List Choice) → TopsFall n k cs → TopsFall n k (drop j cs)
tops_drop zero n k cs o = o
tops_drop (suc j) n k [] o = tt
tops_drop (suc j) n k (c ∷ cs) o = tops_lower c.heap_top n c.trail_top k (drop j cs) o.0 o.1 (tops_drop j c.heap_top c.trail_top cs o.2)

-- the tops of d are at most those of c
abbrev pub Under : Choice → Choice → Type 0
Under c d = (d.heap_top ≤ c.heap_top) × (d.trail_top ≤ c.trail_top)

pub tops_under : (c : Choice) (n k : ℕ) (ds : List Choice) → n ≤ c.heap_top → k ≤ c.trail_top → TopsFall n k ds → Each (Under c) ds
tops_under c n k [] p q o = tt
tops_under c n k (d ∷ ds) p q o = let a = o.0 in let b = o.1 in ((omega arith, omega arith), tops_under c d.heap_top d.trail_top ds (omega arith) (omega arith) o.2)

abbrev Falls : Tables → Type 0
Falls t = TopsFall (used t) (length t.trail) t.choices

pub falls_back : (t : Tables) (c : Choice) (cs ds : List Choice) → c.heap_top ≤ used t → c.trail_top ≤ length t.trail → TopsFall c.heap_top c.trail_top cs → TopsFall (used (back_to c ds t)) (length (back_to c ds t).trail) cs
falls_back t c cs ds h k o = let a = length_back t c ds h in let b = length-take-le c.trail_top t.trail k in
    tops_lower c.heap_top (used (back_to c ds t)) c.trail_top (length (back_to c ds t).trail) cs (omega arith) (omega arith) o

-- with the j newest choice points dropped, the newest of the others is still the j-th level
pub last_drop : (j : ℕ) (t : Tables) (cs : List Choice) → t.choices ≡ cs → Falls t → j < length cs → last (with_choices t (drop j cs)) ≡ undo t (suc j)
last_drop zero t cs e o lt = ap (λ (ds : List Choice). last (with_choices t ds)) (sym e)
last_drop (suc j) t [] e o lt = absurd (omega arith)
last_drop (suc j) t (c ∷ cs) e o lt = by (newest (drop j cs) (let a = length-drop j cs in omega arith)) (last_drop j (back_to c cs t) cs refl (falls_back t c cs cs p.0 p.1 p.2) (omega arith))
  where
    p : TopsFall (used t) (length t.trail) (c ∷ cs)
    p = subst (TopsFall (used t) (length t.trail)) e o

    by : (d : Choice) × (ds : List Choice) × (drop j cs ≡ d ∷ ds) → last (with_choices (back_to c cs t) (drop j cs)) ≡ undo (back_to c cs t) (suc j) → last (with_choices t (drop j cs)) ≡ undo t (suc (suc j))
    by n ih = let q = subst (TopsFall c.heap_top c.trail_top) n.2 (tops_drop j c.heap_top c.trail_top cs p.2) in
        subst (λ (fs : List Choice). last_of fs (with_choices t fs) ≡ last_of fs (with_choices (back_to c cs t) fs)) (sym n.2) (sym (back_back t c n.0 cs n.1 q.0 q.1 p.0))
        ∙ ih ∙ ap (λ (s : Tables). undo s (suc j)) (sym (ap (λ (fs : List Choice). last_of fs t) e))

pub undo_undo : (t : Tables) (j k : ℕ) → undo (undo t j) k ≡ undo t (j + k)
undo_undo t zero k = ap (undo t) (let e : k ≡ 0 + k = omega arith in e)
undo_undo t (suc j) k = undo_undo (last t) j k ∙ ap (undo t) (let e : suc (j + k) ≡ suc j + k = omega arith in e)

undo_none : (t : Tables) (k : ℕ) → t.choices ≡ [] → undo t k ≡ t
undo_none t zero e = refl
undo_none t (suc k) e = ap (λ (s : Tables). undo s k) (ap (λ (fs : List Choice). last_of fs t) e) ∙ undo_none t k e

-- The levels below those that are cut: the newest choice point that is kept, and the older ones, undo as before.
pub undo_keep_choices : (t : Tables) (k j : ℕ) → Falls t → 0 < k → 0 < j → undo (keep_choices t k) j ≡ undo t (length t.choices - k + j)
undo_keep_choices t k zero o p q = absurd (omega arith)
undo_keep_choices t k (suc j) o p q = by t.choices refl
  where
    by : (cs : List Choice) → t.choices ≡ cs → undo (keep_choices t k) (suc j) ≡ undo t (length t.choices - k + suc j)
    by [] e = undo_none (keep_choices t k) (suc j) none ∙ ap (with_choices t) (none ∙ sym e) ∙ sym (undo_none t (length t.choices - k + suc j) e)
      where
        none : drop (length t.choices - k) t.choices ≡ []
        none = drop_all (length t.choices - k) t.choices (let a = ap length e in omega arith)
    by (c ∷ cs) e = ap (λ (s : Tables). undo s j) (last_drop (length t.choices - k) t t.choices refl o (let a = ap length e in omega arith))
        ∙ undo_undo t (suc (length t.choices - k)) j ∙ ap (undo t) (let e : suc (length t.choices - k) + j ≡ length t.choices - k + suc j = omega arith in e)
