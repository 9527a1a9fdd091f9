-- A register takes a word in the store and a term in the machine, and the two still agree:
-- a constant, a copied register, and a new variable.
use Rattle.std.proofs.Common.{◌≡◌, ℕ, suc, ◌<◌, Bool, true, cond, eqb, List, [], ◌∷◌, ◌++◌, ℤ, sym, refl, ap, ◌∙◌, subst, ap₂, subst₂, arith}
use Rattle.std.proofs.lemmas.Bool.{eq-eqb, ne_eqb}
use Rattle.std.proofs.lemmas.List.{get_or_push}
use Rattle.cells.specs.declared.cell.Cell.{Cell}
use Rattle.cells.specs.declared.cell.Cell.TheVariants.{Reference, Atom, Integer}
use Rattle.cells.specs.Cells.{in_range}
use Rattle.tables.specs.Tables.{Tables, used, register, with_heap, set_register}
use Rattle.terms.specs.Terms.{named, whole, Sort, Tree, Term, Terms, var, node, nil, cons, apply, pick, change, row}
use Rattle.terms.specs.Renamings.{rename, Alike}
use Rattle.terms.proofs.RowLaws.{apply_pick, apply_change, row_set, row_pick}
use Rattle.heaps.specs.Lists.{Each}
use Rattle.heaps.specs.Leads.{heap_of, refers_to}
use Rattle.heaps.specs.Spelling.{spell, spelled}
use Rattle.heaps.specs.Rules.{WordKeeps, Rules}
use Rattle.heaps.specs.LevelLaws.{Stands, Keeps, new_variable}
use Rattle.heaps.proofs.FrameLaws.{spell_frame}
use Rattle.heaps.proofs.SpellLaws.{spell_unbound}
use Rattle.heaps.proofs.ReachedUsed.{words_reach_used}
use Rattle.heaps.proofs.GrowRules.{cell_same}
use Rattle.heaps.proofs.LastLaws.{last_set_register, last_more}
use Rattle.heaps.proofs.KeptWords.{keeps_register}
use Rattle.heaps.proofs.RegisterRules.{stands_set_register}
use Rattle.heaps.proofs.NewRules.{stands_new_variable}
use Rattle.calls.specs.declared.Call.TheVariants.{Var, Atom as SetAtom, Int, Move}
use Rattle.machine.specs.Machine.{Level}
use Rattle.machine.proofs.Below.{Below, below_more, below_pick, below_change, below_agree}
use Rattle.machine.proofs.SpellBelow.{spelled_below}
use Rattle.machine.proofs.Related.{Related, resolved, alike_made, alike_registers, alike_alone, older_more, older_same}
use Rattle.machine.proofs.Acted.{Acted, idle, machine}

abbrev pub set_level : Level → ℕ → Term → Level
set_level l d u = record { values = l.values; registers = change l.registers d u }

-- the machine's registers with the values put in
abbrev pub terms : Level → Terms
terms l = apply l.values l.registers

-- The words spell the same after the heap has grown.
pub spell_grown : (t : Tables) (extra : List Cell) → Rules t → Rules (with_heap t (t.heap ++ extra)) → (w : Cell) → WordKeeps (heap_of t.heap) (used t) w
    → spell (t.heap ++ extra) w ≡ spell t.heap w
spell_grown t extra r q w k = sym (spell_frame t (with_heap t (t.heap ++ extra)) r q w (λ i reach. sym (cell_same t extra i (words_reach_used t r (w ∷ []) (k, tt) i reach))))

pub row_grown : (t : Tables) (extra : List Cell) → Rules t → Rules (with_heap t (t.heap ++ extra)) → (ws : List Cell) → Each (WordKeeps (heap_of t.heap) (used t)) ws
    → row (spell (t.heap ++ extra)) ws ≡ row (spell t.heap) ws
row_grown t extra r q [] k = refl
row_grown t extra r q (w ∷ ws) k = ap₂ cons (spell_grown t extra r q w k.0) (row_grown t extra r q ws k.1)

-- A renaming that takes one variable elsewhere.
abbrev moved : (ℕ → ℕ) → ℕ → ℕ → ℕ → ℕ
moved f x y n = cond (eqb n x) y (f n)

moved_here : (f : ℕ → ℕ) (x y : ℕ) → moved f x y x ≡ y
moved_here f x y = ap (λ (b : Bool). cond b y (f x)) (eq-eqb x x refl)

moved_old : {s : Sort} (f : ℕ → ℕ) (x y : ℕ) (t : Tree s) → Below x t → rename (moved f x y) t ≡ rename f t
moved_old f x y t b = below_agree x _ _ (λ n lt. ap (λ (c : Bool). var (cond c y (f n))) (ne_eqb n x (λ p. omega arith))) t b

-- What is made of two trees that are alike and of a variable that is new on each side, in the same way, is alike.
pub alike_new : {r s : Sort} (F : Tree r → Term → Tree s) → ((f : ℕ → ℕ) (t : Tree r) (u : Term) → rename f (F t u) ≡ F (rename f t) (rename f u))
    → (x y : ℕ) (t u : Tree r) → Below x t → Below y u → Alike t u → Alike (F t (var x)) (F u (var y))
alike_new F nat x y t u a b e = record {
  to = moved e.to x y;
  from = moved e.from y x;
  there = nat _ t (var x) ∙ ap₂ F (moved_old e.to x y t a ∙ e.there) (ap var (moved_here e.to x y));
  back = nat _ u (var y) ∙ ap₂ F (moved_old e.from y x u b ∙ e.back) (ap var (moved_here e.from y x));
}

module _ (t : Tables) (n : ℕ) (now : Level) (saved : List Level) (r : Related t [] n now nil saved) where
  pub alike_now : Alike (spelled t) (terms now)
  alike_now = alike_registers r.present.alike

  pub register_spells : (s : ℕ) → spell t.heap (register t s) ≡ pick (spelled t) s
  register_spells s = row_pick (spell t.heap) t.registers s (Atom 0) refl

  pub term_at : (s : ℕ) → apply now.values (pick now.registers s) ≡ pick (terms now) s
  term_at s = apply_pick now.values now.registers s

  -- register d takes the word w, and the term u
  pub related_set : (d : ℕ) (w : Cell) (u : Term) → Keeps t w → Below n (apply now.values u)
      → Alike (change (spelled t) d (spell t.heap w)) (change (terms now) d (apply now.values u)) → Related (set_register t d w) [] n (set_level now d u) nil saved
  related_set d w u k b a = record {
    stands = stands_set_register t d w k r.stands;
    present = record {
      settled = r.present.settled;
      beyond = r.present.beyond;
      below = (subst (Below n) (sym term) (below_change n (terms now) d (apply now.values u) b r.present.below.0), tt);
      alike = alike_alone (subst₂ Alike (sym (row_set (spell t.heap) t.registers d w)) (sym term) a);
    };
    older = older_same n t (set_register t d w) saved refl (λ some. last_set_register t some d w) r.older;
  }
    where
      term : apply now.values (change now.registers d u) ≡ change (terms now) d (apply now.values u)
      term = apply_change now.values now.registers d u

  -- The word and the term are made of the registers in the same way.
  pub related_made : (G : Terms → Term) → ((f : ℕ → ℕ) (ts : Terms) → rename f (G ts) ≡ G (rename f ts)) → (d : ℕ) (w : Cell) (u : Term) → Keeps t w
      → spell t.heap w ≡ G (spelled t) → apply now.values u ≡ G (terms now) → Below n (G (terms now)) → Related (set_register t d w) [] n (set_level now d u) nil saved
  related_made G nat d w u k e g b = related_set d w u k (subst (Below n) (sym g) b)
      (subst₂ Alike (ap (change (spelled t) d) (sym e)) (ap (change (terms now) d) (sym g))
      (alike_made (λ ts. change ts d (G ts)) (λ f ts. apply_change _ ts d (G ts) ∙ ap (change (rename f ts) d) (nat f ts)) alike_now))

  pub atom_acted : (left : Tables) (d a : ℕ) → in_range (Atom a) ≡ true → Acted (SetAtom d a) left (idle t) (machine n now saved)
  atom_acted left d a e = (refl, related_made (λ ts. node (named a) nil) (λ f ts. refl) d (Atom a) (node (named a) nil) (tt, e) refl refl tt)

  pub int_acted : (left : Tables) (d : ℕ) (z : ℤ) → in_range (Integer z) ≡ true → Acted (Int d z) left (idle t) (machine n now saved)
  int_acted left d z e = (refl, related_made (λ ts. node (whole z) nil) (λ f ts. refl) d (Integer z) (node (whole z) nil) (tt, e) refl refl tt)

  pub move_acted : (left : Tables) (d s : ℕ) → Acted (Move d s) left (idle t) (machine n now saved)
  move_acted left d s = (
    refl,
    related_made (λ ts. pick ts s) (λ f ts. apply_pick _ ts s) d (register t s) (pick now.registers s)
        (keeps_register t s r.stands) (register_spells s) (term_at s) (below_pick n (terms now) s r.present.below.0),
  )

-- A new variable: a cell more in the store, and a number more in the machine.
module _ (t : Tables) (n : ℕ) (now : Level) (saved : List Level) (r : Related t [] n now nil saved) (lt : used t < 4096) where
  fresh : Stands (new_variable t) × Keeps (new_variable t) (Reference (used t))
  fresh = stands_new_variable t lt r.stands

  spelled_new : spelled (new_variable t) ≡ spelled t
  spelled_new = row_grown t (Reference (used t) ∷ []) r.stands.0 fresh.0.0 t.registers r.stands.0.registers.0

  related_new : Related (new_variable t) [] (suc n) now nil saved
  related_new = record {
    stands = fresh.0;
    present = record {
      settled = r.present.settled;
      beyond = λ x le. r.present.beyond x (omega arith);
      below = below_more n (suc n) (omega arith) (resolved now nil) r.present.below;
      alike = alike_alone (subst (λ (ts : Terms). Alike ts (terms now)) (sym spelled_new) (alike_now t n now saved r));
    };
    older = older_same (suc n) t (new_variable t) saved refl (λ some. last_more t r.stands.0.tops some (Reference (used t) ∷ [])) (older_more n (suc n) (omega arith) r.older);
  }

  spell_new : spell (new_variable t).heap (Reference (used t)) ≡ var (used t)
  spell_new = spell_unbound (new_variable t) fresh.0.0 (used t)
      (subst (λ (c : Cell). refers_to (used t) c ≡ true) (sym (get_or_push t.heap (Reference (used t)) (Reference (used t)) (used t) refl)) (eq-eqb (used t) (used t) refl))

  value_new : now.values n ≡ var n
  value_new = r.present.beyond n (omega arith)

  pub var_acted : (left : Tables) (d : ℕ) → Acted (Var d) left (idle t) (machine n now saved)
  var_acted left d = (
    refl,
    related_set (new_variable t) (suc n) now saved related_new d (Reference (used t)) (var n) fresh.1
        (subst (Below (suc n)) (sym value_new) (omega arith))
        (subst₂ Alike (ap₂ (λ ts u. change ts d u) (sym spelled_new) (sym spell_new)) (ap (change (terms now) d) (sym value_new))
        (alike_new (λ ts u. change ts d u) (λ f ts u. apply_change _ ts d u) (used t) n (spelled t) (terms now) (spelled_below t r.stands.0) r.present.below.0 (alike_now t n now saved r))),
  )
