-- Writing, finishing and giving up a structure act alike on both sides.
use Rattle.std.proofs.Common.{◌≡◌, ℕ, suc, ◌+◌, ◌<◌, ◌≤◌, true, ◌⊎◌, List, [], ◌∷◌, ◌++◌, length, replicate, sym, refl, ap, ◌∙◌, subst, ap₂, subst₂, inl, inr, arith, length-append}
use Rattle.std.proofs.lemmas.Bool.{eq-eqb}
use Rattle.std.proofs.lemmas.List.{append-nil, append_assoc, get_or_at, get_or_past, take_at}
use Rattle.cells.specs.declared.cell.Cell.{Cell}
use Rattle.cells.specs.declared.cell.Cell.TheVariants.{Reference, Pointer, Functor, Atom}
use Rattle.tables.specs.Tables.{Tables, used, cell_at, register, with_heap, cut_heap, set_register}
use Rattle.terms.specs.Terms.{functor, Label, Term, Terms, var, node, nil, cons, apply, pick, change, row}
use Rattle.terms.specs.Renamings.{rename, Alike}
use Rattle.terms.proofs.RowLaws.{apply_pick, apply_change, row_pick}
use Rattle.heaps.specs.Leads.{heap_of, refers_to}
use Rattle.heaps.specs.Rules.{Rules}
use Rattle.heaps.specs.Spelling.{run, spell, spelled}
use Rattle.heaps.specs.LevelLaws.{Stands, Keeps, new_structure, ArgumentsKeep}
use Rattle.heaps.proofs.SpellLaws.{spell_unbound, spell_pointer}
use Rattle.heaps.proofs.KeptWords.{keeps_register}
use Rattle.heaps.proofs.LastLaws.{last_more}
use Rattle.heaps.proofs.NewRules.{stands_new_structure}
use Rattle.calls.specs.declared.Draft.{Draft}
use Rattle.calls.specs.declared.Call.TheVariants.{Put, Hole, Done, Void}
use Rattle.calls.specs.Steps as Store
use Rattle.calls.specs.Steps.{Half}
use Rattle.machine.specs.Machine as Tree
use Rattle.machine.specs.Machine.{Level, Begun}
use Rattle.machine.specs.Runs.{Compared}
use Rattle.machine.proofs.Below.{Below, below_more, below_pick}
use Rattle.machine.proofs.SpellBelow.{spell_below}
use Rattle.machine.proofs.Related.{Related, HalfRelated, Relates, shown, resolved, front, front_rename, rest, rest_rename, alike_made, alike_registers, alike_alone, older_same}
use Rattle.machine.proofs.Acted.{Acted, making, maker}
use Rattle.machine.proofs.SetRegisters.{terms, spell_grown, row_grown, alike_new, related_set}
use Rattle.machine.proofs.ArgumentCalls.{read_cell}
use Rattle.machine.proofs.HalfMade.{push, apply_joined, place, place_is, write_acted}

refers_self : (i : ℕ) → refers_to i (Reference i) ≡ true
refers_self i = eq-eqb i i refl

-- A cell that is not in use is a variable.
spell_past : (t : Tables) → Rules t → (i : ℕ) → used t ≤ i → spell t.heap (Reference i) ≡ var i
spell_past t r i le = spell_unbound t r i (subst (λ (c : Cell). refers_to i c ≡ true) (sym (get_or_past t.heap i (Reference i) le)) (refers_self i))

-- The arguments of a structure after the heap of t spell what their words spell in t.
module _ (t : Tables) (extra : List Cell) (r : Rules t) (q : Rules (with_heap t (t.heap ++ extra))) where
  abbrev grown : Tables
  grown = with_heap t (t.heap ++ extra)

  word_spells : (i : ℕ) (w : Cell) → used t ≤ i → cell_at grown i ≡ w → Keeps t w ⊎ (w ≡ Reference i) → spell (t.heap ++ extra) (Reference i) ≡ spell t.heap w
  word_spells i w le e (inl k) = read_cell grown q i ∙ ap (spell (t.heap ++ extra)) e ∙ spell_grown t extra r q w k.0
  word_spells i w le e (inr f) =
      spell_unbound grown q i (subst (λ (c : Cell). refers_to i c ≡ true) (sym (e ∙ f)) (refers_self i)) ∙ sym (spell_past t r i le) ∙ ap (spell t.heap) (sym f)

  run_spells : (i : ℕ) (ws cells : List Cell) → t.heap ++ extra ≡ cells ++ ws → i ≡ length cells → used t ≤ i → ArgumentsKeep t i ws
      → run (spell (t.heap ++ extra)) i (length ws) ≡ row (spell t.heap) ws
  run_spells i [] cells e l le k = refl
  run_spells i (w ∷ ws) cells e l le k = ap₂ cons
      (word_spells i w le (ap (λ (x : List Cell). heap_of x i) e ∙ get_or_at cells w ws (Reference i) i (sym l)) k.0)
      (run_spells (suc i) ws (cells ++ (w ∷ [])) (e ∙ sym (append_assoc cells (w ∷ []) ws)) (let a = length-append cells (w ∷ []) in omega arith) (omega arith) k.1)

module _ (t : Tables) (h : Half) (n : ℕ) (now : Level) (saved : List Level) (b : Begun) (r : HalfRelated t h n now saved b) where
  base_registers : (s : ℕ) → register t s ≡ register r.base s
  base_registers s = ap (λ (x : Tables). register x s) r.structure

  pub put_acted : (left : Tables) (slip : Draft) (s : ℕ) → 0 < h.missing → Acted (Put slip s) left (making t h) (maker n now saved b)
  put_acted left slip s lt =
      subst (λ (w : Cell). Compared (Store.write (making t h) w h).0 (Tree.write (maker n now saved b) u 0 b).0 × Relates (Store.write (making t h) w h).1 (Tree.write (maker n now saved b) u 0 b).1)
      (sym (base_registers s))
      (write_acted t h n now saved b r w u 0 lt (inl keeps)
      (below_more (used r.base) _ (omega arith) (spell r.base.heap w) (spell_below r.base r.related.stands.0 w keeps.0))
      (subst (Below (n + 0)) (sym term) (below_more n (n + 0) (omega arith) (pick (terms now) s) (below_pick n (terms now) s r.related.present.below.0)))
      (subst₂ Alike (ap (push (shown r.base r.written)) (sym word)) (ap (push (resolved now b.arguments)) (sym term))
      (alike_made (λ ts. push ts (pick (front ts) s)) natural r.related.present.alike)))
    where
      w : Cell
      w = register r.base s

      u : Term
      u = pick now.registers s

      keeps : Keeps r.base w
      keeps = keeps_register r.base s r.related.stands

      word : spell r.base.heap w ≡ pick (spelled r.base) s
      word = row_pick (spell r.base.heap) r.base.registers s (Atom 0) refl

      term : apply now.values u ≡ pick (terms now) s
      term = apply_pick now.values now.registers s

      natural : (f : ℕ → ℕ) (ts : Terms) → rename f (push ts (pick (front ts) s)) ≡ push (rename f ts) (pick (front (rename f ts)) s)
      natural f ts = apply_joined _ ts (cons (pick (front ts) s) nil) ∙ ap (push (rename f ts)) (apply_pick _ (front ts) s ∙ ap (λ (x : Terms). pick x s) (front_rename f ts))

  pub hole_acted : (left : Tables) (slip : Draft) → 0 < h.missing → Acted (Hole slip) left (making t h) (maker n now saved b)
  hole_acted left slip lt =
      subst (λ (i : ℕ). Compared (Store.write (making t h) (Reference i) h).0 (Tree.write (maker n now saved b) (var n) 1 b).0
      × Relates (Store.write (making t h) (Reference i) h).1 (Tree.write (maker n now saved b) (var n) 1 b).1)
      (sym (place_is t h n now saved b r))
      (write_acted t h n now saved b r (Reference at) (var n) 1 lt (inr refl)
      (subst (Below (suc at)) (sym word) (omega arith))
      (subst (Below (n + 1)) (sym term) (omega arith))
      (subst₂ Alike (ap (push (shown r.base r.written)) (sym word)) (ap (push (resolved now b.arguments)) (sym term))
      (alike_new push (λ f ts u. apply_joined _ ts (cons u nil)) at n (shown r.base r.written) (resolved now b.arguments)
      r.bounded r.related.present.below r.related.present.alike)))
    where
      at : ℕ
      at = place t h n now saved b r

      word : spell r.base.heap (Reference at) ≡ var at
      word = spell_past r.base r.related.stands.0 at (omega arith)

      term : now.values n ≡ var n
      term = r.related.present.beyond n (omega arith)

  -- the tables with a structure of which nothing is missing
  abbrev finished : Tables
  finished = new_structure r.base b.name b.arity r.written

  abbrev label : Label
  label = functor b.name b.arity

  module _ (none_missing : h.missing ≡ 0) where
    all_written : length r.written ≡ b.arity
    all_written = let c = r.counted in omega arith

    tables_finished : t ≡ finished
    tables_finished = r.structure ∙ ap (new_structure r.base b.name b.arity) (ap (λ (k : ℕ). r.written ++ replicate k (Atom 0)) none_missing ∙ append-nil r.written)

    stands_finished : Stands finished × Keeps finished (Pointer (used r.base))
    stands_finished = stands_new_structure r.base b.name b.arity r.written all_written r.ranged r.room r.keeps r.related.stands

    spelled_finished : spelled finished ≡ spelled r.base
    spelled_finished = row_grown r.base (Functor b.name b.arity ∷ r.written) r.related.stands.0 stands_finished.0.0 r.base.registers r.related.stands.0.registers.0

    related_finished : Related finished [] n now nil saved
    related_finished = record {
      stands = stands_finished.0;
      present = record {
        settled = r.related.present.settled;
        beyond = r.related.present.beyond;
        below = (r.related.present.below.0, tt);
        alike = alike_alone (subst (λ (ts : Terms). Alike ts (terms now)) (sym spelled_finished) (alike_registers r.related.present.alike));
      };
      older = older_same n r.base finished saved refl (λ some. last_more r.base r.related.stands.0.tops some (Functor b.name b.arity ∷ r.written)) r.related.older;
    }

    spell_finished : spell finished.heap (Pointer (used r.base)) ≡ node label (row (spell r.base.heap) r.written)
    spell_finished =
        spell_pointer finished stands_finished.0.0 (used r.base) b.name b.arity (get_or_at r.base.heap (Functor b.name b.arity) r.written (Reference (used r.base)) (used r.base) refl)
        ∙ ap (node label) (ap (run (spell finished.heap) (suc (used r.base))) (sym all_written)
        ∙ run_spells r.base (Functor b.name b.arity ∷ r.written) r.related.stands.0 stands_finished.0.0 (suc (used r.base)) r.written (r.base.heap ++ (Functor b.name b.arity ∷ []))
        (sym (append_assoc r.base.heap (Functor b.name b.arity ∷ []) r.written)) (let a = length-append r.base.heap (Functor b.name b.arity ∷ []) in omega arith) (omega arith) r.keeps)

    pub done_acted : (left : Tables) (slip : Draft) (d : ℕ) → Acted (Done slip d) left (making t h) (maker n now saved b)
    done_acted left slip d = (
      refl,
      subst₂ (λ (x : Tables) (i : ℕ). Related (set_register x d (Pointer i)) [] n after nil saved) (sym tables_finished) (sym r.at_top)
          (related_set finished n now saved related_finished d (Pointer (used r.base)) (node label b.arguments) stands_finished.1 r.related.present.below.1
          (subst (λ (ts : Terms). Alike ts (change (terms now) d (node label (apply now.values b.arguments))))
          (ap₂ (λ (ts : Terms) (u : Term). change ts d u) (sym spelled_finished) (sym spell_finished))
          (alike_made (λ ts. change (front ts) d (node label (rest ts))) natural r.related.present.alike))),
    )
      where
        after : Level
        after = record { values = now.values; registers = change now.registers d (node label b.arguments) }

        natural : (f : ℕ → ℕ) (ts : Terms) → rename f (change (front ts) d (node label (rest ts))) ≡ change (front (rename f ts)) d (node label (rest (rename f ts)))
        natural f ts = apply_change _ (front ts) d _ ∙ ap₂ (λ (x y : Terms). change x d (node label y)) (front_rename f ts) (rest_rename f ts)

  pub void_acted : (left : Tables) (slip : Draft) → Acted (Void slip) left (making t h) (maker n now saved b)
  void_acted left slip = (
    refl,
    subst (λ (x : Tables). Related x [] n now nil saved) (sym tables_back) (record {
      stands = r.related.stands;
      present = record {
        settled = r.related.present.settled;
        beyond = r.related.present.beyond;
        below = (r.related.present.below.0, tt);
        alike = alike_alone (alike_registers r.related.present.alike);
      };
      older = r.related.older;
    }),
  )
    where
      tables_back : cut_heap t h.at ≡ r.base
      tables_back = ap₂ cut_heap r.structure r.at_top ∙ ap (with_heap r.base) (take_at r.base.heap _ (used r.base) refl)
