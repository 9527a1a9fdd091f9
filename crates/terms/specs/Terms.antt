-- Finite terms over numbered variables, rows of terms, and what a substitution makes of them.
use Rattle.std.specs.Prelude.{ℕ, zero, suc, ◌+◌, Bool, true, false, cond, ◌&&◌, ◌||◌, List, [], ◌∷◌, ℤ, pos, negsuc, ◌==◌}

-- An atom, an integer, or a functor with its name and its arity.
pub data Label : Type 0 where
  named : ℕ → Label
  whole : ℤ → Label
  functor : ℕ → ℕ → Label

pub data Sort : Type 0 where
  one many : Sort

-- A term is a variable, or a label with a row of arguments. Atoms and integers have none.
-- One family holds terms and rows, so that a function or a law on both is written once.
pub data Tree : Sort → Type 0 where
  var : ℕ → Tree one
  node : Label → Tree many → Tree one
  nil : Tree many
  cons : Tree one → Tree many → Tree many

abbrev pub Term : Type 0
Term = Tree one

abbrev pub Terms : Type 0
Terms = Tree many

-- The tree with each variable replaced by its value.
abbrev pub apply : {s : Sort} → (ℕ → Term) → Tree s → Tree s
apply σ (var n) = σ n
apply σ (node l ts) = node l (apply σ ts)
apply σ nil = nil
apply σ (cons t ts) = cons (apply σ t) (apply σ ts)

-- The substitution that gives variable x the value t and leaves every other variable as it is.
abbrev pub only : ℕ → Term → ℕ → Term
only x t n = cond (n == x) t (var n)

abbrev pub occurs : {s : Sort} → ℕ → Tree s → Bool
occurs x (var n) = n == x
occurs x (node l ts) = occurs x ts
occurs x nil = false
occurs x (cons t ts) = occurs x t || occurs x ts

abbrev pub size : {s : Sort} → Tree s → ℕ
size (var n) = 1
size (node l ts) = suc (size ts)
size nil = 1
size (cons t ts) = suc (size t + size ts)

-- The term at a place of a row, counted from 0. Past the end of the row it is atom 0.
abbrev pub pick : Terms → ℕ → Term
pick nil i = node (named 0) nil
pick (cons t ts) zero = t
pick (cons t ts) (suc i) = pick ts i

-- The row with the term at one place replaced. Past the end of the row nothing is replaced.
abbrev pub change : Terms → ℕ → Term → Terms
change nil i u = nil
change (cons t ts) zero u = cons u ts
change (cons t ts) (suc i) u = cons t (change ts i u)

-- One row after another.
abbrev pub joined : Terms → Terms → Terms
joined nil us = us
joined (cons t ts) us = cons t (joined ts us)

-- How many terms a row has.
abbrev pub long : Terms → ℕ
long nil = 0
long (cons t ts) = suc (long ts)

-- The row of the terms that stand for the elements of a list.
abbrev pub row : {A : Type 0} → (A → Term) → List A → Terms
row f [] = nil
row f (x ∷ xs) = cons (f x) (row f xs)

-- Tests for identity: of integers, of labels, of terms and rows.
abbrev pub same_int : ℤ → ℤ → Bool
same_int (pos m) (pos n) = m == n
same_int (pos m) (negsuc n) = false
same_int (negsuc m) (pos n) = false
same_int (negsuc m) (negsuc n) = m == n

abbrev pub same_label : Label → Label → Bool
same_label (named m) (named n) = m == n
same_label (named m) (whole z) = false
same_label (named m) (functor f a) = false
same_label (whole z) (named n) = false
same_label (whole y) (whole z) = same_int y z
same_label (whole z) (functor f a) = false
same_label (functor f a) (named n) = false
same_label (functor f a) (whole z) = false
same_label (functor f a) (functor g b) = f == g && a == b

abbrev pub same_tree : {s : Sort} → Tree s → Tree s → Bool
same_tree (var m) (var n) = m == n
same_tree (var m) (node l us) = false
same_tree (node l ts) (var n) = false
same_tree (node l ts) (node m us) = same_label l m && same_tree ts us
same_tree nil nil = true
same_tree nil (cons u us) = false
same_tree (cons t ts) nil = false
same_tree (cons t ts) (cons u us) = same_tree t u && same_tree ts us
