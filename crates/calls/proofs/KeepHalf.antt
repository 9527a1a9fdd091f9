-- Tables with a half-made structure are the tables without it, and after them the functor, the arguments written so far
-- and atom 0 for each missing argument. So they stand, and the next argument can be written.
use Rattle.std.proofs.Common.{◌≡◌, ℕ, zero, suc, pred, ◌+◌, ◌-◌, ◌<◌, true, ◌⊎◌, List, [], ◌∷◌, ◌++◌, length, take, drop, set, replicate, sym, refl, ap, ◌∙◌, subst, inl, arith}
use Rattle.std.proofs.lemmas.List.{length-append, length-take-le, length-drop, length-replicate, get_or_at, take_at, drop_at, drop-drop, drop_more, take-append-drop, set_at, set-append_right, append_assoc}
use Rattle.cells.specs.declared.cell.Cell.{Cell}
use Rattle.cells.specs.declared.cell.Cell.TheVariants.{Reference, Pointer, Functor, Atom, Integer}
use Rattle.cells.specs.Cells.{in_range}
use Rattle.tables.specs.Tables.{Tables, used, cell_at, with_heap, set_cell}
use Rattle.heaps.specs.Leads.{is_functor}
use Rattle.heaps.specs.Spelling.{arity_of}
use Rattle.heaps.specs.LevelLaws.{Stands, Keeps, new_structure, ArgumentsKeep}
use Rattle.heaps.proofs.NewRules.{stands_new_structure}
use Rattle.calls.specs.Steps.{Half, name_of, next_argument}
use Rattle.calls.specs.Whole.{without, written, unwritten, HalfStands}

-- the tables `old` with a structure: the arguments `args` are written, and m are missing
abbrev pub making : Tables → ℕ → ℕ → List Cell → ℕ → Tables
making old name arity args m = new_structure old name arity (args ++ replicate m (Atom 0))

abbrev pub half_of : Tables → ℕ → Half
half_of old m = record { at = used old; missing = m }

pub record Parts (old : Tables) (name arity : ℕ) (args : List Cell) (m : ℕ) : Type 0 where
  pub full : length args + m ≡ arity
  pub range : in_range (Functor name arity) ≡ true
  pub room : used old + arity < 4096
  pub stands : Stands old
  pub keeps : ArgumentsKeep old (suc (used old)) args

drop_past : (xs ys : List Cell) (y : Cell) → drop (suc (length xs)) (xs ++ (y ∷ ys)) ≡ ys
drop_past [] ys y = refl
drop_past (x ∷ xs) ys y = drop_past xs ys y

module _ (old : Tables) (name arity : ℕ) (args : List Cell) (m : ℕ) where
  abbrev rest : List Cell
  rest = args ++ replicate m (Atom 0)

  abbrev t : Tables
  t = making old name arity args m

  pub functor_is : cell_at t (used old) ≡ Functor name arity
  functor_is = get_or_at old.heap (Functor name arity) rest (Reference (used old)) (used old) refl

  pub without_making : without t (half_of old m) ≡ old
  without_making = ap (with_heap old) (take_at old.heap (Functor name arity ∷ rest) (used old) refl)

  module _ (full : length args + m ≡ arity) where
    count_is : length args ≡ arity_of (cell_at t (used old)) - m
    count_is = let a = ap arity_of functor_is in omega arith

    pub next_is : next_argument t (half_of old m) ≡ suc (used old) + length args
    next_is = let a = count_is in omega arith

    used_making : used t ≡ suc (used old) + arity
    used_making = let a = length-append old.heap (Functor name arity ∷ rest) in let b = length-append args (replicate m (Atom 0)) in let c = length-replicate m (Atom 0) in omega arith

    written_is : written t (half_of old m) ≡ args
    written_is = ap (take (arity_of (cell_at t (used old)) - m)) (drop_past old.heap rest (Functor name arity)) ∙ take_at args (replicate m (Atom 0)) _ count_is

    unwritten_is : unwritten t (half_of old m) ≡ replicate m (Atom 0)
    unwritten_is = sym (drop-drop (arity_of (cell_at t (used old)) - m) (suc (used old)) t.heap)
        ∙ ap (drop (arity_of (cell_at t (used old)) - m)) (drop_past old.heap rest (Functor name arity)) ∙ drop_at args (replicate m (Atom 0)) _ count_is

  pub half_stands : Parts old name arity args m → HalfStands t (half_of old m)
  half_stands p = record {
    functor = ap is_functor functor_is;
    range = ap in_range functor_is ∙ p.range;
    top = let a = used_making p.full in let b = ap arity_of functor_is in omega arith;
    room = let a = used_making p.full in let b = p.room in omega arith;
    few = let a = ap arity_of functor_is in let b = p.full in omega arith;
    before = subst Stands (sym without_making) p.stands;
    arguments = subst (ArgumentsKeep (without t (half_of old m)) (suc (used old))) (sym (written_is p.full))
        (subst (λ (u : Tables). ArgumentsKeep u (suc (used old)) args) (sym without_making) p.keeps);
    blank = unwritten_is p.full;
  }

-- The other way round: tables with a half-made structure have these parts.
pub functor_from : (c : Cell) → is_functor c ≡ true → c ≡ Functor (name_of c) (arity_of c)
functor_from (Reference n) e = absurd (let z : ◌≡◌ {A = ℕ} 0 1 = cc in omega arith)
functor_from (Pointer n) e = absurd (let z : ◌≡◌ {A = ℕ} 0 1 = cc in omega arith)
functor_from (Functor name arity) e = refl
functor_from (Atom n) e = absurd (let z : ◌≡◌ {A = ℕ} 0 1 = cc in omega arith)
functor_from (Integer z) e = absurd (let z : ◌≡◌ {A = ℕ} 0 1 = cc in omega arith)

module _ (t : Tables) (h : Half) (s : HalfStands t h) where
  abbrev old : Tables
  old = without t h

  abbrev name : ℕ
  name = name_of (cell_at t h.at)

  abbrev arity : ℕ
  arity = arity_of (cell_at t h.at)

  place : used old ≡ h.at
  place = length-take-le h.at t.heap (let a = s.top in omega arith)

  parts : Parts old name arity (written t h) h.missing
  parts = record {
    full = let a = length-take-le (arity - h.missing) (drop (suc h.at) t.heap) (let b = length-drop (suc h.at) t.heap in let c = s.top in omega arith) in let b = s.few in omega arith;
    range = subst (λ (c : Cell). in_range c ≡ true) (functor_from (cell_at t h.at) s.functor) s.range;
    room = let a = place in let b = s.top in let c = s.room in omega arith;
    stands = s.before;
    keeps = subst (λ (n : ℕ). ArgumentsKeep old (suc n) (written t h)) (sym place) s.arguments;
  }

  heap_is : t.heap ≡ (making old name arity (written t h) h.missing).heap
  heap_is = sym (take-append-drop h.at t.heap) ∙ ap (λ (cs : List Cell). take h.at t.heap ++ cs) (
      drop_more t.heap h.at (Reference h.at) (let a = s.top in omega arith)
      ∙ ap (λ (c : Cell). c ∷ drop (h.at + 1) t.heap) (functor_from (cell_at t h.at) s.functor)
      ∙ ap (λ (cs : List Cell). Functor name arity ∷ cs) (
      ap (λ (n : ℕ). drop n t.heap) (let e : h.at + 1 ≡ suc h.at = omega arith in e)
      ∙ sym (take-append-drop (arity - h.missing) (drop (suc h.at) t.heap))
      ∙ ap (λ (cs : List Cell). written t h ++ cs) (drop-drop (arity - h.missing) (suc h.at) t.heap ∙ s.blank)))

  tables_are : making old name arity (written t h) h.missing ≡ t
  tables_are = ap (with_heap t) (sym heap_is)

  half_is : half_of old h.missing ≡ h
  half_is = λ i. record { at = place i; missing = h.missing }

-- What holds of every structure put together from such parts holds of tables with a half-made structure.
pub half_parts : (P : Tables → Half → Type 0) → ((old : Tables) (name arity : ℕ) (args : List Cell) (m : ℕ) → Parts old name arity args m → P (making old name arity args m) (half_of old m))
    → (t : Tables) (h : Half) → HalfStands t h → P t h
half_parts P f t h s = subst (λ (u : Tables). P u h) (tables_are t h s) (subst (P (making (old t h s) (name t h s) (arity t h s) (written t h) h.missing)) (half_is t h s)
    (f (old t h s) (name t h s) (arity t h s) (written t h) h.missing (parts t h s)))

arguments_append : (t : Tables) (i : ℕ) (xs ys : List Cell) → ArgumentsKeep t i xs → ArgumentsKeep t (i + length xs) ys → ArgumentsKeep t i (xs ++ ys)
arguments_append t i [] ys a b = subst (λ (j : ℕ). ArgumentsKeep t j ys) (let e : i + 0 ≡ i = omega arith in e) b
arguments_append t i (x ∷ xs) ys a b = (a.0, arguments_append t (suc i) xs ys a.1 (subst (λ (j : ℕ). ArgumentsKeep t j ys) (let e : i + length (x ∷ xs) ≡ suc i + length xs = omega arith in e) b))

blanks_keep : (t : Tables) (i m : ℕ) → ArgumentsKeep t i (replicate m (Atom 0))
blanks_keep t i zero = tt
blanks_keep t i (suc m) = (inl (tt, refl), blanks_keep t (suc i) m)

-- A half-made structure stands, and may be pointed to.
pub half_tables : (t : Tables) (h : Half) → HalfStands t h → Stands t × Keeps t (Pointer h.at)
half_tables = half_parts (λ t h. Stands t × Keeps t (Pointer h.at)) (λ old name arity args m p.
    stands_new_structure old name arity (args ++ replicate m (Atom 0))
    (let a = length-append args (replicate m (Atom 0)) in let b = length-replicate m (Atom 0) in let c = p.full in omega arith) p.range p.room
    (arguments_append old (suc (used old)) args (replicate m (Atom 0)) p.keeps (blanks_keep old _ m)) p.stands)

-- The next argument is written.
module _ (old : Tables) (name arity : ℕ) (args : List Cell) (m : ℕ) (p : Parts old name arity args (suc m)) (w : Cell) where
  abbrev before : Tables
  before = making old name arity args (suc m)

  set_making : set_cell before (next_argument before (half_of old (suc m))) w ≡ making old name arity (args ++ (w ∷ [])) m
  set_making = let n = next_is old name arity args (suc m) p.full in ap (with_heap old) (
      set-append_right old.heap (Functor name arity ∷ rest old name arity args (suc m)) (used old) (next_argument before (half_of old (suc m))) w refl (omega arith)
      ∙ ap (λ (k : ℕ). old.heap ++ set (Functor name arity ∷ rest old name arity args (suc m)) k w) (let e : next_argument before (half_of old (suc m)) - used old ≡ suc (length args) = omega arith in e)
      ∙ ap (λ (cs : List Cell). old.heap ++ (Functor name arity ∷ cs)) (set_at args (Atom 0) (replicate m (Atom 0)) w (length args) refl ∙ sym (append_assoc args (w ∷ []) (replicate m (Atom 0)))))

  parts_more : Keeps old w ⊎ (w ≡ Reference (next_argument before (half_of old (suc m)))) → Parts old name arity (args ++ (w ∷ [])) m
  parts_more k = record {
    full = let a = length-append args (w ∷ []) in let b = p.full in omega arith;
    range = p.range;
    room = p.room;
    stands = p.stands;
    keeps = arguments_append old (suc (used old)) args (w ∷ []) p.keeps (subst (λ (i : ℕ). Keeps old w ⊎ (w ≡ Reference i)) (next_is old name arity args (suc m) p.full) k, tt);
  }

-- the half-made structure with one argument fewer missing
abbrev pub fewer : Half → Half
fewer h = record { at = h.at; missing = pred h.missing }

-- the tables with the next argument written
abbrev pub filled : Tables → Half → Cell → Tables
filled t h w = set_cell t (next_argument t h) w

abbrev Written : Tables → Half → Type 0
Written t h = (w : Cell) → 0 < h.missing → Keeps (without t h) w ⊎ (w ≡ Reference (next_argument t h)) → HalfStands (filled t h w) (fewer h) × (without (filled t h w) (fewer h) ≡ without t h)

written_parts : (old : Tables) (name arity : ℕ) (args : List Cell) (m : ℕ) → Parts old name arity args m → Written (making old name arity args m) (half_of old m)
written_parts old name arity args zero p w lt k = absurd (omega arith)
written_parts old name arity args (suc m) p w lt k = (
  subst (λ (u : Tables). HalfStands u (half_of old m)) (sym (set_making old name arity args m p w)) (half_stands old name arity (args ++ (w ∷ [])) m
      (parts_more old name arity args m p w (subst (λ (u : Tables). Keeps u w ⊎ (w ≡ Reference (next_argument (making old name arity args (suc m)) (half_of old (suc m))))) (without_making old name arity args (suc m)) k))),
  ap (λ (u : Tables). without u (half_of old m)) (set_making old name arity args m p w) ∙ without_making old name arity (args ++ (w ∷ [])) m ∙ sym (without_making old name arity args (suc m)),
)

pub half_written : (t : Tables) (h : Half) → HalfStands t h → Written t h
half_written = half_parts Written written_parts
