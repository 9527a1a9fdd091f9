-- Undoing keeps the rules: by last, by retry, which is last and opening the choice point again, and any number of times.
use Rattle.std.proofs.Common.{◌≡◌, ℕ, zero, suc, ◌<◌, List, [], ◌∷◌, length, sym, refl, ap, subst, arith}
use Rattle.std.proofs.lemmas.List.{length-take-le}
use Rattle.cells.specs.declared.cell.Cell.{Cell}
use Rattle.tables.specs.Tables.{Choice, Tables, used, push_choice}
use Rattle.heaps.specs.Levels.{last_of, last, retry_of, retry, undo}
use Rattle.heaps.specs.Rules.{TopsFall, Rules}
use Rattle.heaps.specs.LevelLaws.{Stands, HasChoice}
use Rattle.heaps.proofs.LastLaws.{tables_same}
use Rattle.heaps.proofs.CutLaws.{length_back}
use Rattle.heaps.proofs.BackRules.{rules_last}
use Rattle.heaps.proofs.BackFits.{fits_last}
use Rattle.heaps.proofs.ChoiceRules.{stands_push_choice}

choice_same : {r : List Cell} {h k m n : ℕ} → h ≡ k → m ≡ n → ◌≡◌ {A = Choice} (record { saved = r; heap_top = h; trail_top = m }) (record { saved = r; heap_top = k; trail_top = n })
choice_same {r} p q = λ i. record { saved = r; heap_top = p i; trail_top = q i }

retry_is : (t : Tables) (cs : List Choice) → TopsFall (used t) (length t.trail) cs → 0 < length cs → retry_of cs t ≡ push_choice (last_of cs t)
retry_is t [] o some = absurd (omega arith)
retry_is t (c ∷ cs) o some = tables_same refl refl refl
    (ap (λ (d : Choice). d ∷ cs) (choice_same (sym (length_back t c cs o.0)) (sym (length-take-le c.trail_top t.trail o.1))))

pub retry_last : (t : Tables) → Rules t → HasChoice t → retry t ≡ push_choice (last t)
retry_last t r some = retry_is t t.choices r.tops some

pub stands_last : (t : Tables) → Stands t → Stands (last t)
stands_last t s = (rules_last t s.0, fits_last t s.0 s.1)

pub stands_retry : (t : Tables) → Stands t → Stands (retry t)
stands_retry t s = by t.choices refl
  where
    by : (cs : List Choice) → t.choices ≡ cs → Stands (retry_of t.choices t)
    by [] e = subst (λ (fs : List Choice). Stands (retry_of fs t)) (sym e) s
    by (c ∷ cs) e = subst Stands (sym (retry_last t s.0 (let a = ap length e in omega arith)))
        (stands_push_choice (last t) (let a = ap length e in let b = s.1.points in let d = ap (λ (fs : List Choice). length (last_of fs t).choices) e in omega arith) (stands_last t s))

pub stands_undo : (t : Tables) (k : ℕ) → Stands t → Stands (undo t k)
stands_undo t zero s = s
stands_undo t (suc k) s = stands_undo (last t) k (stands_last t s)
