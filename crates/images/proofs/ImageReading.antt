-- Reading the lines that a reader hands out, one after another, is reading the image.
use Rattle.std.proofs.Common.{◌≡◌, ℕ, suc, ◌<◌, Bool, true, false, cond, List, [], ◌∷◌, length, Some, None, Ok, Err, Result, sym, refl, ap, ◌∙◌, arith}
use Rattle.std.proofs.lemmas.Bool.{cond-true}
use Rattle.tables.specs.Tables.{Tables}
use Rattle.lines.specs.declared.fault.LineFault.{LineFault}
use Rattle.lines.specs.declared.fault.LineFault.TheVariants as fault
use Rattle.images.specs.declared.fault.LoadFault.{LoadFault}
use Rattle.images.specs.declared.fault.LoadFault.TheVariants as load
use Rattle.images.specs.declared.draft.Draft.{Draft}
use Rattle.lines.specs.declared.item.Item.{Item}
use Rattle.images.specs.Faults.{of_line}
use Rattle.lines.specs.Lines.{split, line_read}
use Rattle.lines.specs.Heads.{head_read}
use Rattle.images.specs.Text.{Listing}
use Rattle.images.specs.Reading.{follows, added, nothing, by_last, go_on, read_lines, after_head, read_head}
use Rattle.images.specs.Drafts.{Taken, refused}
use Rattle.lines.proofs.Options.{not_some}
use Rattle.lines.proofs.Splits.{split_some}

by_last_split : {A : Type 0} (b : ℕ) (xs : List ℕ) (last more : A) → by_last (split b xs) last more ≡ more
by_last_split {A} b xs last more = by (split b xs) (split_some b xs)
  where
    by : (pieces : List (List ℕ)) → 0 < length pieces → by_last pieces last more ≡ more
    by [] h = absurd (let no : 0 < 0 = h in omega arith)
    by (piece ∷ pieces) h = refl

-- what is read of bytes whose first line is cut off
module _ (bytes line left : List ℕ) (cut : split 10 bytes ≡ line ∷ split 10 left) where
  pub line_first : (l : Listing) (n : ℕ) → read_lines l n (split 10 bytes) ≡ go_on l n (line_read n line) (λ m. read_lines m (suc n) (split 10 left))
  line_first l n = ap (read_lines l n) cut ∙ by_last_split 10 left _ _

  pub head_first : read_head (split 10 bytes) ≡ after_head (head_read 1 line) (read_lines nothing 2 (split 10 left))
  head_first = ap read_head cut ∙ by_last_split 10 left _ _

  pub head_good : (n : ℕ) → n ≡ 1 → Ok tt ≡ head_read n line → read_head (split 10 bytes) ≡ read_lines nothing 2 (split 10 left)
  head_good n one e =
      head_first ∙ ap (λ r. after_head r (read_lines nothing 2 (split 10 left))) (sym (e ∙ ap (λ k. head_read k line) one))

  pub head_bad : (n : ℕ) (f : LineFault) → n ≡ 1 → Err f ≡ head_read n line → read_head (split 10 bytes) ≡ Err (of_line f)
  head_bad n f one e =
      head_first ∙ ap (λ r. after_head r (read_lines nothing 2 (split 10 left))) (sym (e ∙ ap (λ k. head_read k line) one))

  pub line_good : (d : Draft) (l : Listing) (n : ℕ) (t : Taken d l n line) → read_lines l n (split 10 bytes) ≡ read_lines (added l t.item) (suc n) (split 10 left)
  line_good d l n t =
      line_first l n ∙ ap (λ r. go_on l n r (λ m. read_lines m (suc n) (split 10 left))) t.read ∙ cond-true _ _ _ t.next

  pub line_bad : (l : Listing) (n : ℕ) (f : LineFault) → refused n l (line_read n line) ≡ Some f → read_lines l n (split 10 bytes) ≡ Err (of_line f)
  line_bad l n f e = line_first l n ∙ by (line_read n line) e
    where
      further : Listing → Result Tables LoadFault
      further m = read_lines m (suc n) (split 10 left)

      test : (x : Item) (t : Bool) → cond t None (Some (fault.BadLayout n)) ≡ Some f → cond t (further (added l x)) (Err (load.BadLayout n)) ≡ Err (of_line f)
      test x true e = absurd (not_some e)
      test x false e = let same : fault.BadLayout n ≡ f = cc in ap (λ g. Err (of_line g)) same

      by : (r : Result Item LineFault) → refused n l r ≡ Some f → go_on l n r further ≡ Err (of_line f)
      by (Err g) e = let same : g ≡ f = cc in ap (λ h. Err (of_line h)) same
      by (Ok x) e = test x (follows l x) e
