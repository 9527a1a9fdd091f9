-- Each accepted call leaves a whole state whole.
use Rattle.std.proofs.Common.{◌≡◌, ℕ, ◌+◌, Bool, true, false, cond, ◌||◌, eqb, ltb, [], length, ℤ, sym, refl, subst, inl, inr, arith, Option, Some, None}
use Rattle.std.proofs.lemmas.Bool.{not-false, ltb-false, leb-false, eqb-false, or_parts}
use Rattle.cells.specs.declared.cell.Cell.{Cell}
use Rattle.cells.specs.declared.cell.Cell.TheVariants.{Reference, Pointer, Functor, Atom, Integer}
use Rattle.cells.specs.Cells.{in_range}
use Rattle.tables.specs.Tables.{Tables, used, cell_at, register}
use Rattle.heaps.specs.Leads.{heap_of}
use Rattle.heaps.specs.Spelling.{arity_of}
use Rattle.heaps.specs.Rules.{WordKeeps}
use Rattle.heaps.specs.Ends.{end}
use Rattle.heaps.specs.LevelLaws.{Stands, Keeps, new_variable}
use Rattle.heaps.proofs.RegisterRules.{stands_set_register}
use Rattle.heaps.proofs.ChoiceRules.{stands_push_choice, stands_keep_choices}
use Rattle.heaps.proofs.NewRules.{stands_new_variable}
use Rattle.heaps.proofs.UndoRules.{stands_last, stands_retry}
use Rattle.heaps.proofs.KeptWords.{keeps_register, keeps_argument}
use Rattle.heaps.proofs.EndLaws.{end_keeps}
use Rattle.calls.specs.declared.Draft.{Draft}
use Rattle.calls.specs.declared.Call.{Call}
use Rattle.calls.specs.declared.Call.TheVariants.{Var, Atom as SetAtom, Int, Move, Look, Arg, Same, Unify, Open, Retry, Last, Cut, Start, Put, Hole, Done, Void, Collect, Usage}
use Rattle.calls.specs.declared.Answer.{Answer}
use Rattle.calls.specs.Unifying.{unify_words}
use Rattle.calls.specs.Steps.{State, argument_of, argument, set_argument, if_unified, next_argument, act}
use Rattle.calls.specs.Whole.{Whole}
use Rattle.calls.proofs.KeepUnify.{unify_keeps}
use Rattle.calls.proofs.KeepHalf.{half_stands, half_tables, half_written, functor_from}
use Rattle.calls.proofs.KeepSteps.{Accepted, half_none, none_stands, none_whole, half_some, some_stands, on_half_some, missing_some}

-- An accepted call leaves a whole state whole.
abbrev pub Keeping : Call → Type 0
Keeping c = (left : Tables) (s : State) → Whole s → Accepted c s → Whole (act c left s).1

keep_var : (d : ℕ) → Keeping (Var d)
keep_var d left s w a = let t = s.tables in let e = half_none s a.0.0 in let n = stands_new_variable t (let b = a.1 in omega arith) (none_stands s e w) in
    none_whole s _ e (stands_set_register (new_variable t) d (Reference (used t)) n.1 n.0)

keep_atom : (d n : ℕ) → Keeping (SetAtom d n)
keep_atom d n left s w a = let e = half_none s a.0.0 in let q = a.0.1.1 in
    none_whole s _ e (stands_set_register s.tables d (Atom n) (tt, not-false (in_range (Atom n)) q.0) (none_stands s e w))

keep_int : (d : ℕ) (z : ℤ) → Keeping (Int d z)
keep_int d z left s w a = let e = half_none s a.0.0 in let q = a.0.1.1 in
    none_whole s _ e (stands_set_register s.tables d (Integer z) (tt, not-false (in_range (Integer z)) q.0) (none_stands s e w))

keep_move : (d r : ℕ) → Keeping (Move d r)
keep_move d r left s w a = let e = half_none s a.0.0 in let k = none_stands s e w in
    none_whole s _ e (stands_set_register s.tables d (register s.tables r) (keeps_register s.tables r k) k)

-- An argument of the structure at the end of a chain may stand in a register.
pub argument_keeps : (t : Tables) → Stands t → (c : Cell) → WordKeeps (heap_of t.heap) (used t) c → (i n : ℕ) → argument_of t c i ≡ Some n → Keeps t (cell_at t n)
argument_keeps t o (Reference m) k i n e = absurd (let z : ◌≡◌ {A = ℕ} 0 1 = cc in omega arith)
argument_keeps t o (Pointer m) k i n e = by (eqb i 0 || ltb (arity_of (cell_at t m)) i) refl e
  where
    by : (b : Bool) → (eqb i 0 || ltb (arity_of (cell_at t m)) i) ≡ b → cond b None (Some (m + i)) ≡ Some n → Keeps t (cell_at t n)
    by true p q = absurd (let z : ◌≡◌ {A = ℕ} 0 1 = cc in omega arith)
    by false p q = let r : m + i ≡ n = cc in let parts = or_parts (eqb i 0) (ltb (arity_of (cell_at t m)) i) p in
        let x = eqb-false i 0 parts.0 in let y = ltb-false (arity_of (cell_at t m)) i parts.1 in
        keeps_argument t m _ (arity_of (cell_at t m)) n o k.0 (functor_from (cell_at t m) k.1) (omega arith) (omega arith)
argument_keeps t o (Functor name arity) k i n e = absurd k
argument_keeps t o (Atom a) k i n e = absurd (let z : ◌≡◌ {A = ℕ} 0 1 = cc in omega arith)
argument_keeps t o (Integer y) k i n e = absurd (let z : ◌≡◌ {A = ℕ} 0 1 = cc in omega arith)

keep_arg : (d r i : ℕ) → Keeping (Arg d r i)
keep_arg d r i left s w a = by (argument t r i) refl
  where
    t : Tables
    t = s.tables

    e : s.half ≡ None
    e = half_none s a.0.0

    by : (o : Option ℕ) → argument t r i ≡ o → Whole (set_argument s d o).1
    by None p = w
    by (Some n) p = let k = none_stands s e w in none_whole s _ e (stands_set_register t d (cell_at t n)
        (argument_keeps t k (end t (register t r)) (end_keeps t k.0 (register t r) (keeps_register t r k).0) i n p) k)

keep_unify : (p q : ℕ) → Keeping (Unify p q)
keep_unify p q left s w a = by (unify_words t (register t p) (register t q)) refl
  where
    t : Tables
    t = s.tables

    e : s.half ≡ None
    e = half_none s a.0.0

    by : (o : Option Tables) → unify_words t (register t p) (register t q) ≡ o → Whole (if_unified s o).1
    by None x = w
    by (Some u) x = let k = none_stands s e w in none_whole s u e (unify_keeps t u (register t p) (register t q) k (keeps_register t p k) (keeps_register t q k) x).0

keep_open : Keeping Open
keep_open left s w a = let e = half_none s a.0.0 in let q = a.0.1.0 in
    none_whole s _ e (stands_push_choice s.tables (leb-false 64 (length s.tables.choices) q) (none_stands s e w))

keep_retry : Keeping Retry
keep_retry left s w a = let e = half_none s a.0.0 in none_whole s _ e (stands_retry s.tables (none_stands s e w))

keep_last : Keeping Last
keep_last left s w a = let e = half_none s a.0.0 in none_whole s _ e (stands_last s.tables (none_stands s e w))

keep_cut : (k : ℕ) → Keeping (Cut k)
keep_cut k left s w a = let e = half_none s a.0.0 in none_whole s _ e (stands_keep_choices s.tables k (none_stands s e w))

keep_start : (name arity : ℕ) → Keeping (Start name arity)
keep_start name arity left s w a = half_stands s.tables name arity [] arity (record {
  full = omega arith;
  range = not-false (in_range (Functor name arity)) a.0.1.0;
  room = let b = a.1 in omega arith;
  stands = none_stands s (half_none s a.0.0) w;
  keeps = tt;
})

keep_put : (slip : Draft) (r : ℕ) → Keeping (Put slip r)
keep_put slip r left s w a = let x = half_some s slip a.0.0 in let q = a.0.1.1 in let o = some_stands s x.half x.is w in
    subst (λ (y : Answer × State). Whole y.1) (sym (on_half_some s x.half _ x.is))
    (half_written s.tables x.half o (register s.tables r) (missing_some s slip x q.0) (inl (keeps_register _ r o.before))).0

keep_hole : (slip : Draft) → Keeping (Hole slip)
keep_hole slip left s w a = let x = half_some s slip a.0.0 in let o = some_stands s x.half x.is w in
    subst (λ (y : Answer × State). Whole y.1) (sym (on_half_some s x.half _ x.is))
    (half_written s.tables x.half o (Reference (next_argument s.tables x.half)) (missing_some s slip x a.0.1.0) (inr refl)).0

keep_done : (slip : Draft) (d : ℕ) → Keeping (Done slip d)
keep_done slip d left s w a = let x = half_some s slip a.0.0 in let o = half_tables s.tables x.half (some_stands s x.half x.is w) in
    subst (λ (y : Answer × State). Whole y.1) (sym (on_half_some s x.half _ x.is)) (stands_set_register s.tables d (Pointer x.half.at) o.1 o.0)

keep_void : (slip : Draft) → Keeping (Void slip)
keep_void slip left s w a = let x = half_some s slip a.0.0 in
    subst (λ (y : Answer × State). Whole y.1) (sym (on_half_some s x.half _ x.is)) (some_stands s x.half x.is w).before

pub act_keeps : (c : Call) (left : Tables) (s : State) → Whole s → (c ≡ Collect → Stands left) → Accepted c s → Whole (act c left s).1
act_keeps (Var d) left s w l a = keep_var d left s w a
act_keeps (SetAtom d n) left s w l a = keep_atom d n left s w a
act_keeps (Int d z) left s w l a = keep_int d z left s w a
act_keeps (Move d r) left s w l a = keep_move d r left s w a
act_keeps (Look r) left s w l a = w
act_keeps (Arg d r i) left s w l a = keep_arg d r i left s w a
act_keeps (Same p q) left s w l a = w
act_keeps (Unify p q) left s w l a = keep_unify p q left s w a
act_keeps Open left s w l a = keep_open left s w a
act_keeps Retry left s w l a = keep_retry left s w a
act_keeps Last left s w l a = keep_last left s w a
act_keeps (Cut k) left s w l a = keep_cut k left s w a
act_keeps (Start name arity) left s w l a = keep_start name arity left s w a
act_keeps (Put slip r) left s w l a = keep_put slip r left s w a
act_keeps (Hole slip) left s w l a = keep_hole slip left s w a
act_keeps (Done slip d) left s w l a = keep_done slip d left s w a
act_keeps (Void slip) left s w l a = keep_void slip left s w a
act_keeps Collect left s w l a = none_whole s left (half_none s a.0.0) (l refl)
act_keeps Usage left s w l a = w
