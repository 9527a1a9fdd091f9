-- A half-made structure: the slips say the same on both sides, and one argument more is written on both.
use Rattle.std.proofs.Common.{◌≡◌, ℕ, suc, pred, ◌+◌, ◌<◌, ◌≤◌, true, ◌⊎◌, List, [], ◌∷◌, ◌++◌, length, set, replicate, sym, refl, ap, ◌∙◌, subst, ap₂, subst₂, inl, inr, arith, length-append}
use Rattle.std.proofs.lemmas.List.{append_assoc, get_or_at, set_at}
use Rattle.cells.specs.declared.cell.Cell.{Cell}
use Rattle.cells.specs.declared.cell.Cell.TheVariants.{Reference, Functor, Atom}
use Rattle.cells.specs.Cells.{in_range}
use Rattle.tables.specs.Tables.{Tables, used, cell_at, with_heap, set_cell}
use Rattle.terms.specs.Terms.{named, Term, Terms, node, nil, cons, apply, joined, long, row}
use Rattle.terms.specs.Renamings.{Alike}
use Rattle.terms.specs.Unifiers.{Subst}
use Rattle.heaps.specs.Spelling.{arity_of, spell, spelled}
use Rattle.heaps.specs.LevelLaws.{Keeps, new_structure, ArgumentsKeep}
use Rattle.calls.specs.declared.Draft.{Draft}
use Rattle.calls.specs.declared.Answer.TheVariants.{Hands}
use Rattle.calls.specs.declared.Call.TheVariants.{Start}
use Rattle.calls.specs.Steps as Store
use Rattle.calls.specs.Steps.{Half, name_of, next_argument}
use Rattle.machine.specs.Machine as Tree
use Rattle.machine.specs.Machine.{Level, Begun}
use Rattle.machine.specs.Runs.{Compared}
use Rattle.machine.proofs.Below.{Below, below_more, below_joined}
use Rattle.machine.proofs.SpellBelow.{spelled_below}
use Rattle.machine.proofs.Related.{Related, HalfRelated, Relates, shown, resolved, older_more}
use Rattle.machine.proofs.Acted.{Acted, idle, machine, making, maker}

-- the row with one term more
abbrev pub push : Terms → Term → Terms
push ts u = joined ts (cons u nil)

pub apply_joined : (σ : Subst) (ts us : Terms) → apply σ (joined ts us) ≡ joined (apply σ ts) (apply σ us)
apply_joined σ nil us = refl
apply_joined σ (cons t ts) us = ap (cons (apply σ t)) (apply_joined σ ts us)

row_push : (f : Cell → Term) (ws : List Cell) (w : Cell) → row f (ws ++ (w ∷ [])) ≡ push (row f ws) (f w)
row_push f [] w = refl
row_push f (v ∷ ws) w = ap (cons (f v)) (row_push f ws w)

long_push : (ts : Terms) (u : Term) → long (push ts u) ≡ suc (long ts)
long_push nil u = refl
long_push (cons t ts) u = ap suc (long_push ts u)

arguments_push : (t : Tables) (i : ℕ) (ws : List Cell) (w : Cell) → ArgumentsKeep t i ws → Keeps t w ⊎ (w ≡ Reference (i + length ws)) → ArgumentsKeep t i (ws ++ (w ∷ []))
arguments_push t i [] w k (inl p) = (inl p, tt)
arguments_push t i [] w k (inr e) = (inr (e ∙ ap Reference (omega arith)), tt)
arguments_push t i (v ∷ ws) w k (inl p) = (k.0, arguments_push t (suc i) ws w k.1 (inl p))
arguments_push t i (v ∷ ws) w k (inr e) = (k.0, arguments_push t (suc i) ws w k.1 (inr (e ∙ ap Reference (omega arith))))

-- the first of the words that are still missing is written
set_next : (cells ws more : List Cell) (f a w : Cell) (i : ℕ) → i ≡ suc (length cells + length ws)
    → set (cells ++ (f ∷ (ws ++ (a ∷ more)))) i w ≡ cells ++ (f ∷ ((ws ++ (w ∷ [])) ++ more))
set_next cells ws more f a w i e =
    ap (λ (l : List Cell). set l i w) (sym (append_assoc cells (f ∷ ws) (a ∷ more)))
    ∙ set_at (cells ++ (f ∷ ws)) a more w i (length-append cells (f ∷ ws) ∙ (let z : length cells + suc (length ws) ≡ i = omega arith in z))
    ∙ append_assoc cells (f ∷ ws) (w ∷ more)
    ∙ ap (λ (l : List Cell). cells ++ (f ∷ l)) (sym (append_assoc ws (w ∷ []) more))

draft_same : {a b c x y z : ℕ} → a ≡ x → b ≡ y → c ≡ z → ◌≡◌ {A = Draft} (record { name = a; arity = b; missing = c }) (record { name = x; arity = y; missing = z })
draft_same p q r = λ i. record { name = p i; arity = q i; missing = r i }

pub start_acted : (t : Tables) (n : ℕ) (now : Level) (saved : List Level) → Related t [] n now nil saved → (left : Tables) (name arity : ℕ)
    → in_range (Functor name arity) ≡ true → used t + suc arity ≤ 4096 → Acted (Start name arity) left (idle t) (machine n now saved)
start_acted t n now saved r left name arity e le = (
  ap Hands (draft_same refl refl (omega arith)),
  record {
    base = t;
    written = [];
    structure = refl;
    at_top = refl;
    counted = omega arith;
    as_many = refl;
    ranged = e;
    room = omega arith;
    keeps = tt;
    bounded = (below_more (used t) _ (omega arith) (spelled t) (spelled_below t r.stands.0), tt);
    related = r;
  },
)

module _ (t : Tables) (h : Half) (n : ℕ) (now : Level) (saved : List Level) (b : Begun) (r : HalfRelated t h n now saved b) where
  functor_cell : cell_at t h.at ≡ Functor b.name b.arity
  functor_cell = ap₂ (λ (x : Tables) (i : ℕ). cell_at x i) r.structure r.at_top ∙ get_or_at r.base.heap (Functor b.name b.arity) _ (Reference (used r.base)) (used r.base) refl

  pub drafts_same : Store.draft_of t h ≡ Tree.draft_of b
  drafts_same = draft_same (ap name_of functor_cell) (ap arity_of functor_cell) (let c = r.counted in let l = r.as_many in omega arith)

  -- the cell of the next argument
  abbrev pub place : ℕ
  place = suc (used r.base + length r.written)

  pub place_is : next_argument t h ≡ place
  place_is = let a = ap arity_of functor_cell in let p = r.at_top in let c = r.counted in omega arith

  -- The word w and the term u become the next argument, for which the machine takes so many new variables.
  module _ (w : Cell) (u : Term) (new : ℕ) (lt : 0 < h.missing) where
    abbrev words : List Cell
    words = r.written ++ (w ∷ [])

    abbrev terms : Terms
    terms = push b.arguments u

    abbrev left : Half
    left = record { at = h.at; missing = pred h.missing }

    abbrev more : Begun
    more = record { name = b.name; arity = b.arity; arguments = terms }

    abbrev after : Tables
    after = set_cell t (next_argument t h) w

    missing_is : h.missing ≡ suc (pred h.missing)
    missing_is = omega arith

    length_words : length words ≡ suc (length r.written)
    length_words = length-append r.written (w ∷ []) ∙ (let z : length r.written + 1 ≡ suc (length r.written) = omega arith in z)

    structure_after : after ≡ new_structure r.base b.name b.arity (words ++ replicate (pred h.missing) (Atom 0))
    structure_after =
        ap₂ (λ (x : Tables) (i : ℕ). set_cell x i w) (r.structure ∙ ap (λ (k : ℕ). new_structure r.base b.name b.arity (r.written ++ replicate k (Atom 0))) missing_is) place_is
        ∙ ap (with_heap r.base) (set_next r.base.heap r.written (replicate (pred h.missing) (Atom 0)) (Functor b.name b.arity) (Atom 0) w place refl)

    shown_more : shown r.base words ≡ push (shown r.base r.written) (spell r.base.heap w)
    shown_more = ap (cons (node (named 0) (spelled r.base))) (row_push (spell r.base.heap) r.written w)

    resolved_more : resolved now terms ≡ push (resolved now b.arguments) (apply now.values u)
    resolved_more = ap (cons (node (named 0) (apply now.values now.registers))) (apply_joined now.values b.arguments (cons u nil))

    related_after : Below (n + new) (apply now.values u)
        → Alike (push (shown r.base r.written) (spell r.base.heap w)) (push (resolved now b.arguments) (apply now.values u))
        → Related r.base words (n + new) now terms saved
    related_after bu a = record {
      stands = r.related.stands;
      present = record {
        settled = r.related.present.settled;
        beyond = λ x le. r.related.present.beyond x (omega arith);
        below = subst (Below (n + new)) (sym resolved_more) (below_joined (n + new) (resolved now b.arguments) (cons (apply now.values u) nil)
            (below_more n (n + new) (omega arith) (resolved now b.arguments) r.related.present.below) (bu, tt));
        alike = subst₂ Alike (sym shown_more) (sym resolved_more) a;
      };
      older = older_more n (n + new) (omega arith) r.related.older;
    }

    half_after : Keeps r.base w ⊎ (w ≡ Reference place) → Below (suc place) (spell r.base.heap w) → Related r.base words (n + new) now terms saved
        → HalfRelated after left (n + new) now saved more
    half_after k bw related = record {
      base = r.base;
      written = words;
      structure = structure_after;
      at_top = r.at_top;
      counted = let c = r.counted in let l = length_words in let m = missing_is in omega arith;
      as_many = long_push b.arguments u ∙ ap suc r.as_many ∙ sym length_words;
      ranged = r.ranged;
      room = r.room;
      keeps = arguments_push r.base (suc (used r.base)) r.written w r.keeps (elim k [ inl p ↦ inl p | inr e ↦ inr (e ∙ ap Reference (omega arith)) ]);
      bounded = subst₂ Below (let z : suc place ≡ suc (used r.base + length words) = (let l = length_words in omega arith) in z) (sym shown_more)
          (below_joined (suc place) (shown r.base r.written) (cons (spell r.base.heap w) nil) (below_more place (suc place) (omega arith) (shown r.base r.written) r.bounded) (bw, tt));
      related = related;
    }

-- The next argument is written on both sides, and the slips for the rest say the same.
pub write_acted : (t : Tables) (h : Half) (n : ℕ) (now : Level) (saved : List Level) (b : Begun) (r : HalfRelated t h n now saved b) (w : Cell) (u : Term) (new : ℕ) → 0 < h.missing
    → Keeps r.base w ⊎ (w ≡ Reference (place t h n now saved b r)) → Below (suc (place t h n now saved b r)) (spell r.base.heap w) → Below (n + new) (apply now.values u)
    → Alike (push (shown r.base r.written) (spell r.base.heap w)) (push (resolved now b.arguments) (apply now.values u))
    → Compared (Store.write (making t h) w h).0 (Tree.write (maker n now saved b) u new b).0
    × Relates (Store.write (making t h) w h).1 (Tree.write (maker n now saved b) u new b).1
write_acted t h n now saved b r w u new lt k bw bu a =
    let half = half_after t h n now saved b r w u new lt k bw (related_after t h n now saved b r w u new lt bu a) in
    (ap Hands (drafts_same _ _ _ _ _ _ half), half)
