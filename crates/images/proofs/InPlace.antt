-- What a line says is in range.
use Rattle.std.proofs.Common.{◌≡◌, ℕ, Bool, true, false, cond, leb, List, [], ◌∷◌, ℤ, Some, None, Ok, Err, Option, refl, subst, arith}
use Rattle.cells.specs.declared.cell.Cell.{Cell}
use Rattle.cells.specs.Cells.{in_range}
use Rattle.lines.specs.declared.fault.LineFault.TheVariants as fault
use Rattle.lines.specs.declared.word.Kind.{Kind}
use Rattle.lines.specs.declared.word.Kind.TheVariants as kind
use Rattle.lines.specs.declared.word.Part.{Part}
use Rattle.lines.specs.declared.word.Part.TheVariants as part
use Rattle.lines.specs.declared.item.Item.{Item}
use Rattle.lines.specs.declared.item.Item.TheVariants as item
use Rattle.lines.specs.Lines.{words_of, shaped, cell_by, ranged, cell_in, limited, number_in, both, item_by, item_in, item_of, or_bad_line, line_read}
use Rattle.lines.specs.Words.{part_named, letter, natural64, integer64}
use Rattle.images.specs.Drafts.{in_place}
use Rattle.lines.proofs.Options.{not_some}

-- what is made of two words is made of what each of them says
pub both_parts : {A B C : Type 0} (f : A → B → C) (a : Option A) (b : Option B) (x : C) → both f a b ≡ Some x
    → (u : A) × (v : B) × (a ≡ Some u) × (b ≡ Some v) × (f u v ≡ x)
both_parts f None b x e = absurd (not_some e)
both_parts f (Some u) None x e = absurd (not_some e)
both_parts f (Some u) (Some v) x e = (u, v, refl, refl, cc)

pub ranged_parts : (o : Option Cell) (c : Cell) → ranged o ≡ Some c → (o ≡ Some c) × (in_range c ≡ true)
ranged_parts None c e = absurd (not_some e)
ranged_parts (Some d) c e = test (in_range d) refl e
  where
    test : (t : Bool) → in_range d ≡ t → cond t (Some d) None ≡ Some c → (Some d ≡ Some c) × (in_range c ≡ true)
    test true is e = let same : d ≡ c = cc in (e, subst (λ v. in_range v ≡ true) same is)
    test false is e = absurd (not_some e)

pub limited_parts : (o : Option ℕ) (n : ℕ) → limited o ≡ Some n → (o ≡ Some n) × (leb n 4096 ≡ true)
limited_parts None n e = absurd (not_some e)
limited_parts (Some m) n e = test (leb m 4096) refl e
  where
    test : (t : Bool) → leb m 4096 ≡ t → cond t (Some m) None ≡ Some n → (Some m ≡ Some n) × (leb n 4096 ≡ true)
    test true is e = let same : m ≡ n = cc in (e, subst (λ v. leb v 4096 ≡ true) same is)
    test false is e = absurd (not_some e)

cell_in_range : (k : Option Kind) (n : Option ℕ) (z : Option ℤ) (c : Cell) → cell_in k n z ≡ Some c → in_range c ≡ true
cell_in_range None n z c e = absurd (not_some e)
cell_in_range (Some k) n z c e = (ranged_parts (cell_by k n z) c e).1

number_low : (k : Option Kind) (n : Option ℕ) (v : ℕ) → number_in k n ≡ Some v → leb v 4096 ≡ true
number_low None n v e = absurd (not_some e)
number_low (Some kind.Reference) n v e = absurd (not_some e)
number_low (Some kind.Pointer) n v e = absurd (not_some e)
number_low (Some kind.Functor) n v e = absurd (not_some e)
number_low (Some kind.Atom) n v e = absurd (not_some e)
number_low (Some kind.Integer) n v e = absurd (not_some e)
number_low (Some kind.Number) n v e = (limited_parts n v e).1

item_in_place : (p : Part) (i : Option ℕ) (k : Option Kind) (n : Option ℕ) (z : Option ℤ) (x : Item) → item_by p i k n z ≡ Some x → in_place x ≡ true
item_in_place part.Heap i k n z x e = let b = both_parts item.Heap i (cell_in k n z) x e in subst (λ y. in_place y ≡ true) b.4 (cell_in_range k n z b.1 b.3)
item_in_place part.Register i k n z x e = let b = both_parts item.Register i (cell_in k n z) x e in subst (λ y. in_place y ≡ true) b.4 (cell_in_range k n z b.1 b.3)
item_in_place part.Trail i k n z x e = let b = both_parts item.Trail i (number_in k n) x e in subst (λ y. in_place y ≡ true) b.4 (number_low k n b.1 b.3)
item_in_place part.HeapTop i k n z x e = let b = both_parts item.HeapTop i (number_in k n) x e in subst (λ y. in_place y ≡ true) b.4 (number_low k n b.1 b.3)
item_in_place part.TrailTop i k n z x e = let b = both_parts item.TrailTop i (number_in k n) x e in subst (λ y. in_place y ≡ true) b.4 (number_low k n b.1 b.3)
item_in_place part.Saved i k n z x e = let b = both_parts item.Saved i (cell_in k n z) x e in subst (λ y. in_place y ≡ true) b.4 (cell_in_range k n z b.1 b.3)

in_place_lem : (p : Option Part) (i : Option ℕ) (k : Option Kind) (n : Option ℕ) (z : Option ℤ) (x : Item) → item_in p i k n z ≡ Some x → in_place x ≡ true
in_place_lem None i k n z x e = absurd (not_some e)
in_place_lem (Some p) i k n z x e = item_in_place p i k n z x e

words_in_place : (ws : List (List ℕ)) (x : Item) → item_of ws ≡ Some x → in_place x ≡ true
words_in_place [] x e = absurd (not_some e)
words_in_place (p ∷ []) x e = absurd (not_some e)
words_in_place (p ∷ i ∷ []) x e = absurd (not_some e)
words_in_place (p ∷ i ∷ k ∷ []) x e = absurd (not_some e)
words_in_place (p ∷ i ∷ k ∷ v ∷ []) x e = in_place_lem (part_named p) (natural64 i) (letter k) (natural64 v) (integer64 v) x e
words_in_place (p ∷ i ∷ k ∷ v ∷ w ∷ ws) x e = absurd (not_some e)

-- a line that is read has its shape, and its words say what is read
pub read_parts : (n : ℕ) (line : List ℕ) (x : Item) → line_read n line ≡ Ok x → (shaped (words_of line) ≡ true) × (item_of (words_of line) ≡ Some x)
read_parts n line x e = test (shaped (words_of line)) refl (item_of (words_of line)) e
  where
    test : (t : Bool) → shaped (words_of line) ≡ t → (o : Option Item) → cond t (or_bad_line n o) (Err (fault.BadShape n)) ≡ Ok x → (shaped (words_of line) ≡ true) × (o ≡ Some x)
    test true is None e = absurd (let z : ◌≡◌ {A = ℕ} 0 1 = cc in omega arith)
    test true is (Some y) e = (is, cc)
    test false is o e = absurd (let z : ◌≡◌ {A = ℕ} 0 1 = cc in omega arith)

pub read_in_place : (n : ℕ) (line : List ℕ) (x : Item) → line_read n line ≡ Ok x → in_place x ≡ true
read_in_place n line x e = words_in_place (words_of line) x (read_parts n line x e).1
