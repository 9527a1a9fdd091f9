-- What one more line does to the tables of a listing.
use Rattle.std.proofs.Common.{◌≡◌, ℕ, zero, suc, ◌+◌, ◌*◌, ◌<◌, ◌≤◌, List, [], ◌∷◌, ◌++◌, length, get_or, take, drop, set, sym, refl, ap, ◌∙◌, ap₂, arith}
use Rattle.std.proofs.lemmas.List.{take_all, drop_all, take-append-le, drop-append-le, length-append, length-drop}
use Rattle.cells.specs.declared.cell.Cell.{Cell}
use Rattle.tables.specs.Tables.{Choice, no_choice, with_saved, with_tops}
use Rattle.images.specs.Reading.{over, choices_from}

pub over_push : (cells below : List Cell) (c : Cell) → length cells < length below → over (cells ++ (c ∷ [])) below ≡ set (over cells below) (length cells) c
over_push cells [] c h = absurd (let no : length cells < 0 = h in omega arith)
over_push [] (b ∷ below) c h = refl
over_push (x ∷ cells) (b ∷ below) c h = ap (λ ys. x ∷ ys) (over_push cells below c (let less : suc (length cells) < suc (length below) = h in omega arith))

abbrev first_of : List Cell → ℕ → List ℕ → List Cell → Choice
first_of below h ts cells = record { saved = over (take 8 cells) below; heap_top = h; trail_top = get_or ts 0 0 }

module _ (below : List Cell) where
  pub length_choices_from : (hs ts : List ℕ) (cells : List Cell) → length (choices_from below hs ts cells) ≡ length hs
  length_choices_from [] ts cells = refl
  length_choices_from (h ∷ hs) ts cells = ap suc (length_choices_from hs (drop 1 ts) (drop 8 cells))

  pub heap_top_at : (hs ts : List ℕ) (cells : List Cell) (i : ℕ) → (get_or (choices_from below hs ts cells) i no_choice).heap_top ≡ get_or hs i 0
  heap_top_at [] ts cells i = refl
  heap_top_at (h ∷ hs) ts cells zero = refl
  heap_top_at (h ∷ hs) ts cells (suc i) = heap_top_at hs (drop 1 ts) (drop 8 cells) i

  -- one more heap top: a choice point that saves the cells below
  pub choices_push : (hs : List ℕ) (h : ℕ)
      → choices_from below (hs ++ (h ∷ [])) [] [] ≡ choices_from below hs [] [] ++ (record { saved = below; heap_top = h; trail_top = 0 } ∷ [])
  choices_push [] h = refl
  choices_push (g ∷ hs) h = ap (λ cs. first_of below g [] [] ∷ cs) (choices_push hs h)

  -- one more trail top
  pub tops_push : (hs ts : List ℕ) (cells : List Cell) (n : ℕ) → length ts < length hs
      → choices_from below hs (ts ++ (n ∷ [])) cells
      ≡ set (choices_from below hs ts cells) (length ts)
      (with_tops (get_or (choices_from below hs ts cells) (length ts) no_choice) (get_or (choices_from below hs ts cells) (length ts) no_choice).heap_top n)
  tops_push [] ts cells n low = absurd (let no : length ts < 0 = low in omega arith)
  tops_push (h ∷ hs) [] cells n low = refl
  tops_push (h ∷ hs) (t ∷ ts) cells n low =
      ap (λ cs. first_of below h (t ∷ ts) cells ∷ cs) (tops_push hs ts (drop 8 cells) n (let less : suc (length ts) < suc (length hs) = low in omega arith))

  -- one more saved register, the r-th of the q-th choice point
  pub saved_push : length below ≡ 8 → (q r : ℕ) (hs ts : List ℕ) (cells : List Cell) (c : Cell) → length cells ≡ 8 * q + r → r < 8 → q < length hs
      → choices_from below hs ts (cells ++ (c ∷ []))
      ≡ set (choices_from below hs ts cells) q (with_saved (get_or (choices_from below hs ts cells) q no_choice) r c)
  saved_push eight q r [] ts cells c is small low = absurd (let no : q < 0 = low in omega arith)
  saved_push eight zero r (h ∷ hs) ts cells c is small low =
      let long : length (cells ++ (c ∷ [])) ≤ 8 = omega (arith, length-append cells (c ∷ [])) in
      let last : over (take 8 (cells ++ (c ∷ []))) below ≡ set (over (take 8 cells) below) r c =
      ap (λ ys. over ys below) (take_all 8 (cells ++ (c ∷ [])) long) ∙ over_push cells below c (omega arith)
      ∙ ap₂ (λ ys k. set (over ys below) k c) (sym (take_all 8 cells (omega arith))) (let same : length cells ≡ r = omega arith in same) in
      ap₂ (λ ys zs. record { saved = ys; heap_top = h; trail_top = get_or ts 0 0 } ∷ choices_from below hs (drop 1 ts) zs) last
      (drop_all 8 (cells ++ (c ∷ [])) long ∙ sym (drop_all 8 cells (omega arith)))
  saved_push eight (suc q) r (h ∷ hs) ts cells c is small low =
      let long : 8 ≤ length cells = omega arith in
      ap₂ (λ ys zs. record { saved = over ys below; heap_top = h; trail_top = get_or ts 0 0 } ∷ choices_from below hs (drop 1 ts) zs)
      (take-append-le 8 cells (c ∷ []) long) (drop-append-le 8 cells (c ∷ []) long)
      ∙ ap (λ cs. first_of below h ts cells ∷ cs) (saved_push eight q r hs (drop 1 ts) (drop 8 cells) c (omega (arith, length-drop 8 cells)) small (let less : suc q < suc (length hs) = low in omega arith))
