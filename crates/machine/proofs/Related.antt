-- When a store's state and the machine agree, level by level: each level's registers, and in the present the arguments of
-- a half-made structure too, spell the machine's terms with their values put in, up to a one-to-one renaming of that level.
use Rattle.std.proofs.Common.{◌≡◌, ℕ, suc, ◌+◌, ◌<◌, ◌≤◌, true, List, [], ◌++◌, length, get_or, replicate, sym, refl, ap, ◌∙◌, subst, arith, Option, Some, None}
use Rattle.cells.specs.declared.cell.Cell.{Cell}
use Rattle.cells.specs.declared.cell.Cell.TheVariants.{Functor, Atom}
use Rattle.cells.specs.Cells.{in_range}
use Rattle.tables.specs.Tables.{Tables, used}
use Rattle.terms.specs.Terms.{named, Sort, Tree, Terms, var, node, nil, cons, apply, long, row}
use Rattle.terms.specs.Renamings.{rename, Alike}
use Rattle.terms.specs.Unifiers.{Idempotent}
use Rattle.heaps.specs.Spelling.{spell, spelled}
use Rattle.heaps.specs.Levels.{last, undo}
use Rattle.heaps.specs.LevelLaws.{Stands, HasChoice, new_structure, ArgumentsKeep}
use Rattle.calls.specs.Steps.{State, Half}
use Rattle.machine.specs.Machine.{Level, Begun, Machine}
use Rattle.machine.proofs.Below.{Below, below_more}

-- One row for the registers and the arguments of a half-made structure, so that one renaming serves both.
abbrev pub pair : Terms → Terms → Terms
pair rs args = cons (node (named 0) rs) args

-- what the store's words spell
abbrev pub shown : Tables → List Cell → Terms
shown t ws = pair (spelled t) (row (spell t.heap) ws)

-- the machine's terms with the values put in
abbrev pub resolved : Level → Terms → Terms
resolved l args = apply l.values (pair l.registers args)

-- The registers and the words ws spell the terms of the level l and the arguments args; no variable from n on is in use there.
pub record Spells (n : ℕ) (t : Tables) (ws : List Cell) (l : Level) (args : Terms) : Type 0 where
  pub settled : Idempotent l.values
  pub beyond : (x : ℕ) → n ≤ x → l.values x ≡ var x
  pub below : Below n (resolved l args)
  pub alike : Alike (shown t ws) (resolved l args)

-- stands where no level was saved
abbrev pub no_level : Level
no_level = record { values = var; registers = nil }

-- each choice point, undone, spells what the machine saved
pub record Older (n : ℕ) (t : Tables) (saved : List Level) : Type 0 where
  pub points : length t.choices ≡ length saved
  pub levels : (j : ℕ) → j < length saved → Spells n (undo t (suc j)) [] (get_or saved j no_level) nil

pub record Related (t : Tables) (ws : List Cell) (n : ℕ) (now : Level) (args : Terms) (saved : List Level) : Type 0 where
  pub stands : Stands t
  pub present : Spells n t ws now args
  pub older : Older n t saved

-- The tables are those from before the start of a structure, with the structure after their heap: the words written so far,
-- and atom 0 for each that is missing.
pub record HalfRelated (t : Tables) (h : Half) (n : ℕ) (now : Level) (saved : List Level) (b : Begun) : Type 0 where
  pub base : Tables
  pub written : List Cell
  pub structure : t ≡ new_structure base b.name b.arity (written ++ replicate h.missing (Atom 0))
  pub at_top : h.at ≡ used base
  pub counted : length written + h.missing ≡ b.arity
  pub as_many : long b.arguments ≡ length written
  pub ranged : in_range (Functor b.name b.arity) ≡ true
  pub room : used base + b.arity < 4096
  pub keeps : ArgumentsKeep base (suc (used base)) written
  pub bounded : Below (suc (used base + length written)) (shown base written)
  pub related : Related base written n now b.arguments saved

abbrev pub ByHalf : Tables → Option Half → ℕ → Level → List Level → Option Begun → Type 0
ByHalf t None n now saved None = Related t [] n now nil saved
ByHalf t None n now saved (Some b) = ⊥
ByHalf t (Some h) n now saved None = ⊥
ByHalf t (Some h) n now saved (Some b) = HalfRelated t h n now saved b

abbrev pub Relates : State → Machine → Type 0
Relates s m = ByHalf s.tables s.half m.next m.now m.saved m.half

-- What is made of trees in the same way on both sides, whatever the names of variables, stays alike.
pub alike_made : {r s : Sort} (F : Tree r → Tree s) → ((f : ℕ → ℕ) (t : Tree r) → rename f (F t) ≡ F (rename f t)) → {t u : Tree r} → Alike t u → Alike (F t) (F u)
alike_made F nat {t} {u} a = record {
  to = a.to;
  from = a.from;
  there = nat a.to t ∙ ap F a.there;
  back = nat a.from u ∙ ap F a.back;
}

-- The registers alone, out of the one row, and the arguments alone.
abbrev pub front_of : Tree Sort.one → Terms
front_of (var n) = nil
front_of (node l ts) = ts

abbrev pub front : Terms → Terms
front nil = nil
front (cons t ts) = front_of t

pub front_rename : (f : ℕ → ℕ) (ts : Terms) → rename f (front ts) ≡ front (rename f ts)
front_rename f nil = refl
front_rename f (cons (var n) ts) = refl
front_rename f (cons (node l us) ts) = refl

abbrev pub rest : Terms → Terms
rest nil = nil
rest (cons t ts) = ts

pub rest_rename : (f : ℕ → ℕ) (ts : Terms) → rename f (rest ts) ≡ rest (rename f ts)
rest_rename f nil = refl
rest_rename f (cons t ts) = refl

pub alike_registers : {rs us args bs : Terms} → Alike (pair rs args) (pair us bs) → Alike rs us
alike_registers a = alike_made front front_rename a

pub alike_alone : {rs us : Terms} → Alike rs us → Alike (pair rs nil) (pair us nil)
alike_alone a = alike_made (λ ts. pair ts nil) (λ f ts. refl) a

-- More variable numbers do no harm.
pub spells_more : (n m : ℕ) → n ≤ m → {t : Tables} {ws : List Cell} {l : Level} {args : Terms} → Spells n t ws l args → Spells m t ws l args
spells_more n m le {l = l} {args = args} s = record {
  settled = s.settled;
  beyond = λ x more. s.beyond x (omega arith);
  below = below_more n m le (resolved l args) s.below;
  alike = s.alike;
}

pub older_more : (n m : ℕ) → n ≤ m → {t : Tables} {ls : List Level} → Older n t ls → Older m t ls
older_more n m le o = record { points = o.points; levels = λ j lt. spells_more n m le (o.levels j lt) }

-- Older levels see the tables only through the newest choice point.
pub older_same : (n : ℕ) (t u : Tables) (ls : List Level) → length u.choices ≡ length t.choices → (HasChoice t → last u ≡ last t) → Older n t ls → Older n u ls
older_same n t u ls e p o = record {
  points = e ∙ o.points;
  levels = λ j lt.
      let q = o.points in
      subst (λ (x : Tables). Spells n (undo x j) [] (get_or ls j no_level) nil) (sym (p (omega arith))) (o.levels j lt);
}
