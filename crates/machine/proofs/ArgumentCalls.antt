-- An argument of the structure at the end of a chain spells the argument of the spelled term, and the call arg acts alike on both sides.
use Rattle.std.proofs.Common.{◌≡◌, ℕ, zero, suc, ◌+◌, ◌<◌, ◌≤◌, Bool, true, false, cond, ◌||◌, eqb, ltb, ◌⊎◌, List, [], sym, refl, ap, ◌∙◌, subst, subst₂, inl, inr, arith, Option, Some, None}
use Rattle.std.proofs.lemmas.Bool.{cases_lt, ne_eqb, lt-ltb, le-ltb}
use Rattle.cells.specs.declared.cell.Cell.{Cell}
use Rattle.cells.specs.declared.cell.Cell.TheVariants.{Reference, Pointer, Functor, Atom, Integer}
use Rattle.tables.specs.Tables.{Tables, used, cell_at, register}
use Rattle.terms.specs.Terms.{Label, named, whole, functor, Term, Terms, var, node, nil, cons, apply, pick, long}
use Rattle.terms.specs.Renamings.{rename, Alike}
use Rattle.terms.specs.Unifiers.{Subst}
use Rattle.terms.proofs.TermLaws.{absorbs_tree}
use Rattle.terms.proofs.RowLaws.{apply_pick}
use Rattle.heaps.specs.Leads.{heap_of, unbound}
use Rattle.heaps.specs.Spelling.{arity_of, run, spell}
use Rattle.heaps.specs.Ends.{end}
use Rattle.heaps.specs.Rules.{WordKeeps, Rules}
use Rattle.heaps.specs.LevelLaws.{Stands, Keeps}
use Rattle.heaps.proofs.WordKinds.{unbound_is}
use Rattle.heaps.proofs.EndLaws.{end_ends, spell_end, end_keeps}
use Rattle.heaps.proofs.SpellLaws.{spell_unbound, spell_bound, spell_pointer}
use Rattle.heaps.proofs.KeptWords.{keeps_register, keeps_argument}
use Rattle.calls.specs.declared.Call.TheVariants.{Arg}
use Rattle.calls.specs.Steps as Store
use Rattle.machine.specs.Machine as Tree
use Rattle.machine.specs.Machine.{Level, argument_of}
use Rattle.machine.specs.Runs.{Compared}
use Rattle.machine.proofs.Below.{Below, below_pick}
use Rattle.machine.proofs.Related.{Relates, Related}
use Rattle.machine.proofs.Acted.{Acted, idle, machine}
use Rattle.machine.proofs.SetRegisters.{terms, register_spells, term_at, related_made}
use Rattle.machine.proofs.LookCalls.{functor_is, alike_at}

-- there is no argument on either side, or the argument's cell spells the argument
abbrev Spelt : Tables → Option ℕ → Option Term → Type 0
Spelt t None None = Unit {0}
Spelt t None (Some u) = ⊥
Spelt t (Some j) None = ⊥
Spelt t (Some j) (Some u) = Keeps t (cell_at t j) × (spell t.heap (cell_at t j) ≡ u)

long_run : (r : Cell → Term) (n k : ℕ) → long (run r n k) ≡ k
long_run r n zero = refl
long_run r n (suc k) = ap suc (long_run r (suc n) k)

pub pick_run : (r : Cell → Term) (n k i : ℕ) → i < k → pick (run r n k) i ≡ r (Reference (n + i))
pick_run r n zero i lt = absurd (omega arith)
pick_run r n (suc k) zero lt = ap (λ (j : ℕ). r (Reference j)) (omega arith)
pick_run r n (suc k) (suc i) lt = pick_run r (suc n) k i (omega arith) ∙ ap (λ (j : ℕ). r (Reference j)) (omega arith)

-- a reference to a cell spells what the cell's word spells
pub read_cell : (t : Tables) → Rules t → (j : ℕ) → spell t.heap (Reference j) ≡ spell t.heap (cell_at t j)
read_cell t r j = test (unbound (heap_of t.heap) j) refl
  where
    test : (b : Bool) → unbound (heap_of t.heap) j ≡ b → spell t.heap (Reference j) ≡ spell t.heap (cell_at t j)
    test true e = ap (spell t.heap) (sym (unbound_is (heap_of t.heap) j e))
    test false e = spell_bound t r j e

none_of_nil : (l : Label) (i : ℕ) → argument_of (node l nil) i ≡ None
none_of_nil l zero = refl
none_of_nil l (suc i) = ap (λ (b : Bool). cond b (Some (node (named 0) nil)) None) (le-ltb i 0 (omega arith))

module _ (t : Tables) (s : Stands t) where
  pointer_at : (n name arity : ℕ) → n < used t → cell_at t n ≡ Functor name arity → (i : ℕ)
      → Spelt t (cond (eqb i 0 || ltb arity i) None (Some (n + i))) (argument_of (node (functor name arity) (run (spell t.heap) (suc n) arity)) i)
  pointer_at n name arity lt e zero = tt
  pointer_at n name arity lt e (suc i) = by (cases_lt i arity)
    where
      args : Terms
      args = run (spell t.heap) (suc n) arity

      by : (i < arity) ⊎ (arity ≤ i) → Spelt t (cond (eqb (suc i) 0 || ltb arity (suc i)) None (Some (n + suc i))) (cond (ltb i (long args)) (Some (pick args i)) None)
      by (inl p) = subst₂ (λ (b c : Bool). Spelt t (cond b None (Some (n + suc i))) (cond c (Some (pick args i)) None))
          (sym (ap (λ (b : Bool). b || ltb arity (suc i)) (ne_eqb (suc i) 0 (λ z. omega arith)) ∙ le-ltb arity (suc i) p))
          (sym (lt-ltb i (long args) (let l = long_run (spell t.heap) (suc n) arity in omega arith))) (
            keeps_argument t n name arity (n + suc i) s lt e (omega arith) (omega arith),
            sym (pick_run (spell t.heap) (suc n) arity i p ∙ ap (λ (j : ℕ). spell t.heap (Reference j)) (omega arith) ∙ read_cell t s.0 (n + suc i)),
          )
      by (inr p) = subst₂ (λ (b c : Bool). Spelt t (cond b None (Some (n + suc i))) (cond c (Some (pick args i)) None))
          (sym (ap (λ (b : Bool). b || ltb arity (suc i)) (ne_eqb (suc i) 0 (λ z. omega arith)) ∙ lt-ltb arity (suc i) (omega arith)))
          (sym (le-ltb i (long args) (let l = long_run (spell t.heap) (suc n) arity in omega arith))) tt

  argument_at : (c : Cell) → WordKeeps (heap_of t.heap) (used t) c → ((n : ℕ) → c ≡ Reference n → spell t.heap c ≡ var n) → (i : ℕ)
      → Spelt t (Store.argument_of t c i) (argument_of (spell t.heap c) i)
  argument_at (Reference n) k f i = subst (λ (u : Term). Spelt t None (argument_of u i)) (sym (f n refl)) tt
  argument_at (Pointer n) k f i =
      let e = functor_is (cell_at t n) k.1 in
      subst (λ (u : Term). Spelt t (Store.argument_of t (Pointer n) i) (argument_of u i)) (sym (spell_pointer t s.0 n _ _ e))
      (pointer_at n _ (arity_of (cell_at t n)) k.0 e i)
  argument_at (Functor name arity) k f i = absurd k
  argument_at (Atom n) k f i = subst (Spelt t None) (sym (none_of_nil (named n) i)) tt
  argument_at (Integer z) k f i = subst (Spelt t None) (sym (none_of_nil (whole z) i)) tt

  argument_end : (w : Cell) → WordKeeps (heap_of t.heap) (used t) w → (i : ℕ) → Spelt t (Store.argument_of t (end t w) i) (argument_of (spell t.heap w) i)
  argument_end w k i = subst (λ (u : Term). Spelt t (Store.argument_of t (end t w) i) (argument_of u i)) (spell_end t s.0 w)
      (argument_at (end t w) (end_keeps t s.0 w k) (λ n e. ap (spell t.heap) e ∙ spell_unbound t s.0 n (end_ends t s.0 w n e)) i)

-- Arguments of terms, and renaming.

abbrev renamed : (ℕ → ℕ) → Option Term → Option Term
renamed f None = None
renamed f (Some u) = Some (rename f u)

long_apply : (σ : Subst) (ts : Terms) → long (apply σ ts) ≡ long ts
long_apply σ nil = refl
long_apply σ (cons t ts) = ap suc (long_apply σ ts)

argument_rename : (f : ℕ → ℕ) (u : Term) (i : ℕ) → argument_of (rename f u) i ≡ renamed f (argument_of u i)
argument_rename f (var n) i = refl
argument_rename f (node l ts) zero = refl
argument_rename f (node l ts) (suc i) = ap (λ (k : ℕ). cond (ltb i k) (Some (pick (rename f ts) i)) None) (long_apply _ ts) ∙ test (ltb i (long ts))
  where
    test : (b : Bool) → cond b (Some (pick (rename f ts) i)) None ≡ renamed f (cond b (Some (pick ts i)) None)
    test true = ap Some (sym (apply_pick _ ts i))
    test false = refl

argument_alike : {t u : Term} (a : Alike t u) (i : ℕ) → argument_of u i ≡ renamed a.to (argument_of t i)
argument_alike {t} {u} a i = ap (λ (x : Term). argument_of x i) (sym a.there) ∙ argument_rename a.to t i

-- the argument, or atom 0 where there is none
abbrev term_of : Option Term → Term
term_of None = node (named 0) nil
term_of (Some u) = u

term_rename : (f : ℕ → ℕ) (o : Option Term) → rename f (term_of o) ≡ term_of (renamed f o)
term_rename f None = refl
term_rename f (Some u) = refl

below_argument : (n : ℕ) (v : Term) (i : ℕ) → Below n v → Below n (term_of (argument_of v i))
below_argument n (var x) i b = tt
below_argument n (node l ts) zero b = tt
below_argument n (node l ts) (suc i) b = test (ltb i (long ts))
  where
    test : (c : Bool) → Below n (term_of (cond c (Some (pick ts i)) None))
    test true = below_pick n ts i b
    test false = tt

fixed_argument : (σ : Subst) (v : Term) (i : ℕ) → apply σ v ≡ v → apply σ (term_of (argument_of v i)) ≡ term_of (argument_of v i)
fixed_argument σ (var x) i e = refl
fixed_argument σ (node l ts) zero e = refl
fixed_argument σ (node l ts) (suc i) e = test (ltb i (long ts))
  where
    fixed : apply σ ts ≡ ts
    fixed = cc

    test : (c : Bool) → apply σ (term_of (cond c (Some (pick ts i)) None)) ≡ term_of (cond c (Some (pick ts i)) None)
    test true = apply_pick σ ts i ∙ ap (λ (us : Terms). pick us i) fixed
    test false = refl

module _ (t : Tables) (n : ℕ) (now : Level) (saved : List Level) (r : Related t [] n now nil saved) (s i : ℕ) where
  spells_argument : Spelt t (Store.argument t s i) (argument_of (spell t.heap (register t s)) i)
  spells_argument = argument_end t r.stands (register t s) (keeps_register t s r.stands).0 i

  found : argument_of (apply now.values (pick now.registers s)) i ≡ renamed (alike_at t n now saved r s).to (argument_of (spell t.heap (register t s)) i)
  found = argument_alike (alike_at t n now saved r s) i

  pub lacks_same : Store.lacks_argument t s i ≡ Tree.lacks_argument (machine n now saved) s i
  lacks_same = by (Store.argument t s i) _ _ spells_argument found
    where
      by : (o : Option ℕ) (x y : Option Term) → Spelt t o x → y ≡ renamed (alike_at t n now saved r s).to x
          → ◌≡◌ {A = Bool} (elim o [ None ↦ true | Some j ↦ false ]) (elim y [ None ↦ true | Some u ↦ false ])
      by None None y p e = ap (λ (z : Option Term). elim z [ None ↦ true | Some u ↦ false ]) (sym e)
      by None (Some u) y p e = absurd p
      by (Some j) None y p e = absurd p
      by (Some j) (Some u) y p e = ap (λ (z : Option Term). elim z [ None ↦ true | Some v ↦ false ]) (sym e)

  -- the argument as made of the registers
  argument_of_lem : Terms → Term
  argument_of_lem ts = term_of (argument_of (pick ts s) i)

  argument_natural : (f : ℕ → ℕ) (ts : Terms) → rename f (argument_of_lem ts) ≡ argument_of_lem (rename f ts)
  unfolding argument_of_lem
  argument_natural f ts = term_rename f (argument_of (pick ts s) i) ∙ ap term_of (sym (argument_rename f (pick ts s) i)) ∙ ap (λ (u : Term). term_of (argument_of u i)) (apply_pick _ ts s)

  pub arg_acted : (left : Tables) (d : ℕ) → Acted (Arg d s i) left (idle t) (machine n now saved)
  unfolding argument_of_lem
  arg_acted left d = by (Store.argument t s i) _ _ spells_argument refl refl found
    where
      by : (o : Option ℕ) (x y : Option Term) → Spelt t o x → argument_of (spell t.heap (register t s)) i ≡ x → argument_of (apply now.values (pick now.registers s)) i ≡ y
          → y ≡ renamed (alike_at t n now saved r s).to x
          → Compared (Store.set_argument (idle t) d o).0 (Tree.set_argument (machine n now saved) d y).0 × Relates (Store.set_argument (idle t) d o).1 (Tree.set_argument (machine n now saved) d y).1
      by None None None p e g f = (refl, r)
      by None None (Some v) p e g f = absurd (let z : ◌≡◌ {A = ℕ} 0 1 = cc in omega arith)
      by None (Some u) y p e g f = absurd p
      by (Some j) None y p e g f = absurd p
      by (Some j) (Some u) None p e g f = absurd (let z : ◌≡◌ {A = ℕ} 0 1 = cc in omega arith)
      by (Some j) (Some u) (Some v) p e g f = (
        refl,
        related_made t n now saved r argument_of_lem argument_natural d (cell_at t j) v p.0
            (p.1 ∙ ap term_of (sym e) ∙ ap (λ (x : Term). term_of (argument_of x i)) (register_spells t n now saved r s))
            (ap (apply now.values) (ap term_of (sym g)) ∙ fixed_argument now.values _ i (absorbs_tree now.values now.values r.present.settled (pick now.registers s))
            ∙ ap (λ (x : Term). term_of (argument_of x i)) (term_at t n now saved r s))
            (below_argument n (pick (terms now) s) i (below_pick n (terms now) s r.present.below.0)),
      )
