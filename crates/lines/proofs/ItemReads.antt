-- A line says what its words say, and what is no place is a fault.
use Rattle.std.proofs.Common.{◌≡◌, ℕ, true, List, IsErrAnd, Some, None, Ok, Err, Option, Result, sym, refl, ap, ◌∙◌, ap₂, arith}
use Rattle.std.proofs.lemmas.Result.{err_from_is_err_and}
use Rattle.std.proofs.lemmas.Bool.{and_from, cond-true}
use Rattle.lines.specs.declared.fault.WordFault.{WordFault}
use Rattle.lines.specs.declared.fault.WordFault.TheVariants as word
use Rattle.lines.specs.declared.fault.LineFault.{LineFault}
use Rattle.lines.specs.declared.item.Item.{Item}
use Rattle.lines.specs.declared.line.Words.{Words}
use Rattle.lines.specs.Faults.{of_word}
use Rattle.lines.specs.Words.{or_bad, part_named, letter, natural64, part_in, kind_in, natural_in, integer_in}
use Rattle.lines.specs.Lines.{words_of, shaped, item_in, item_of, or_bad_line, line_read}
use Rattle.lines.specs.Cuts.{Spread}

pub said : {X : Type 0} (n : ℕ) (o : Option X) (x : X) → Ok x ≡ or_bad n o → o ≡ Some x
said n None x e = absurd (let z : ◌≡◌ {A = ℕ} 0 1 = cc in omega arith)
said n (Some y) x e = cc

-- the words of a line, and the tokens that borrow them

module _ (t : Words) (line : List ℕ) (s : Spread t (words_of line)) where
  spread_shaped : shaped (words_of line) ≡ true
  spread_shaped =
      ap shaped s.words
      ∙ and_from _ _ refl (and_from _ _ s.reads_part.1 (and_from _ _ s.reads_index.1
      (and_from _ _ s.reads_kind.1 (and_from _ _ s.reads_value.1 refl))))

  item_of_spread : item_of (words_of line) ≡ item_in (part_in t.part) (natural_in t.index) (kind_in t.kind) (natural_in t.value) (integer_in t.value)
  item_of_spread =
      let p = s.reads_part.0.part in
      let i = s.reads_index.0.natural in
      let k = s.reads_kind.0.kind in
      let n = s.reads_value.0.natural in
      let z = s.reads_value.0.integer in
      ap item_of s.words ∙ sym (ap₂ (λ a b. item_in a b (kind_in t.kind) (natural_in t.value) (integer_in t.value)) p i
      ∙ ap₂ (λ a b. item_in (part_named s.part) (natural64 s.index) a b (integer_in t.value)) k n
      ∙ ap (item_in (part_named s.part) (natural64 s.index) (letter s.kind) (natural64 s.value)) z)

  read_spread : (n : ℕ) → line_read n line ≡ or_bad_line n (item_in (part_in t.part) (natural_in t.index) (kind_in t.kind) (natural_in t.value) (integer_in t.value))
  read_spread n = cond-true _ _ _ spread_shaped ∙ ap (or_bad_line n) item_of_spread

  pub line_fails : (n : ℕ) (r : Result Item LineFault) (e : WordFault) → IsErrAnd r (λ y. y ≡ of_word e)
      → Err e ≡ or_bad n (item_in (part_in t.part) (natural_in t.index) (kind_in t.kind) (natural_in t.value) (integer_in t.value)) → r ≡ line_read n line
  line_fails n r e by h = let p = err_from_is_err_and r by in p.1 ∙ ap Err p.2 ∙ turned _ h ∙ sym (read_spread n)
    where
      turned : (o : Option Item) → Err e ≡ or_bad n o → Err (of_word e) ≡ or_bad_line n o
      turned None g = let same : e ≡ word.BadLayout n = cc in ap (λ d. Err (of_word d)) same
      turned (Some x) g = absurd (let z : ◌≡◌ {A = ℕ} 0 1 = cc in omega arith)

  pub line_works : (n : ℕ) (x : Item)
      → Ok x ≡ or_bad n (item_in (part_in t.part) (natural_in t.index) (kind_in t.kind) (natural_in t.value) (integer_in t.value)) → Ok x ≡ line_read n line
  line_works n x h = sym (read_spread n ∙ ap (or_bad_line n) (said n _ x h))
