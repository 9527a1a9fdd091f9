-- Unifying is a walk with merges: what its rules are, how two words meet that do not both end at structures, and what bindings
-- lead back to.
use Rattle.std.proofs.Common.{◌≡◌, ℕ, ◌<◌, Bool, true, false, eqb, List, [], ◌∷◌, length, sym, refl, ap, ◌∙◌, subst, ⊎_elim, arith, Option, Some, None}
use Rattle.std.proofs.lemmas.Bool.{both_ways, eq-eqb, or_left, or_right}
use Rattle.cells.specs.declared.cell.Cell.{Cell}
use Rattle.tables.specs.Tables.{Tables, used}
use Rattle.heaps.specs.Lists.{Each, is_in}
use Rattle.heaps.specs.Ends.{end}
use Rattle.heaps.specs.LevelLaws.{Stands, Keeps}
use Rattle.calls.specs.Unifying.{Pair, words, rows, Next, go, meet}
use Rattle.calls.proofs.UnifyPairs.{pairs_keep}
use Rattle.classes.specs.Merges.{Merge}
use Rattle.unifying.specs.Merging.{both_pointers, MemoRun, no_more, one_more, skipped, merged, clashed, stopped, went_on}
use Rattle.unifying.specs.Bindings.{Noted, Stepped, Met, goes, stops}
use Rattle.binding.specs.Unbinding.{unbind_to}
use Rattle.unifying.specs.Walking.{Walk, Advanced}
use Rattle.unifying.specs.Unified.{Unified}
use Rattle.unifying.proofs.MemoRuns.{memo_right}
use Rattle.binding.proofs.UnbindLaws.{unbind_none}

pub unifying : Walk (Option Tables) MemoRun None
unifying = record {
  empty = λ t ms i j ps r x. no_more x;
  row = λ t ms i j k ps r x. one_more x;
  skip = λ t ms a b p q ps r ea eb s x. skipped p q ea eb s x;
  join = λ t ms a b p q ps r ea eb s f x. merged p q ea eb s f x;
  clash = λ t ms a b p q ps ea eb s f. clashed p q ea eb s f;
}

-- Two words that do not both end at structures have met.
pub ends_advanced : (t u : Tables) (a b c d : Cell) → c ≡ end t a → d ≡ end t b → both_pointers c d ≡ false → ((e : Cell) → Keeps t e → Keeps u e)
    → (ms : List Merge) (ps : List Pair) {yes : Bool} → Met t u c d yes → Advanced (Option Tables) MemoRun None t u a b ms ps ms ps yes
ends_advanced t u a b c d ea eb apart kept ms ps m = record {
  on = λ e r x. on m e r x;
  off = λ e. off m e;
  keeps = pairs_keep t u kept ps;
  room = omega arith;
  lighter = omega arith;
}
  where
    two : both_pointers (end t a) (end t b) ≡ false
    two = ap (λ (x : Cell). both_pointers x (end t b)) (sym ea) ∙ ap (both_pointers c) (sym eb) ∙ apart

    ends : (n : Next) → meet t c d ps ≡ n → meet t (end t a) (end t b) ps ≡ n
    ends n e = ap (λ (x : Cell). meet t x (end t b) ps) (sym ea) ∙ ap (λ (x : Cell). meet t c x ps) (sym eb) ∙ e

    on : {yes : Bool} → Met t u c d yes → yes ≡ true → (r : Option Tables) → MemoRun u ms ps r → MemoRun t ms (words a b ∷ ps) r
    on (goes f) e r x = ⊎_elim (λ (g : meet t c d ps ≡ go u ps). went_on two (ends _ g) x) (λ (g : meet t c d ps ≡ go u (rows 0 0 0 ∷ ps)). went_on two (ends _ g) (no_more x)) (f ps)
    on (stops f) e r x = absurd (both_ways false refl e)

    off : {yes : Bool} → Met t u c d yes → yes ≡ false → MemoRun t ms (words a b ∷ ps) None
    off (goes f) e = absurd (both_ways true e refl)
    off (stops f) e = stopped two (ends _ (f ps))

-- Steps one after another.
pub stepped_on : {t u v : Tables} {bs cs ds : List ℕ} → Stepped t bs u cs → Stepped u cs v ds → Stepped t bs v ds
stepped_on x y = record {
  stands = y.stands;
  keeps = λ d k. y.keeps d (x.keeps d k);
  noted = y.noted;
  longer = let a = x.longer in let b = y.longer in omega arith;
  back = λ top low. y.back top (let a = x.longer in omega arith) ∙ x.back top low;
}

-- At the beginning nothing is bound.
pub noted_none : (t : Tables) (cells : List ℕ) → cells ≡ [] → Noted t cells
noted_none t cells none-bound = subst (Noted t) (sym none-bound) (record { bound = λ k e. absurd (both_ways false refl e); apart = omega arith })

-- Bound cells are in use.
pub noted_used : (t : Tables) (cells : List ℕ) → Noted t cells → Each (λ c. c < used t) cells
noted_used t cells n = by cells (λ k e. (n.bound k e).0)
  where
    by : (xs : List ℕ) → ((k : ℕ) → is_in k xs ≡ true → k < used t) → Each (λ c. c < used t) xs
    by [] f = tt
    by (x ∷ xs) f = (f x (or_left (eqb x x) (is_in x xs) (eq-eqb x x refl)), by xs (λ k e. f k (or_right (eqb x k) (is_in k xs) e)))

-- What a walk leads to is what unification leads to, and giving up the bindings leads back.
pub walk_unified : (t u : Tables) (a b : Cell) → Stands t → Keeps t a → Keeps t b → MemoRun t [] (words a b ∷ []) (Some u) → Unified t a b u true
walk_unified t u a b st ka kb run = record { result = sym (memo_right t a b (Some u) st ka kb run); undone = λ e. absurd (both_ways true e refl) }

pub walk_refused : (t u v : Tables) (a b : Cell) (cells : List ℕ) → Stands t → Keeps t a → Keeps t b → MemoRun t [] (words a b ∷ []) None
    → Stepped t [] u cells → v ≡ unbind_to u cells (length t.trail) → Unified t a b v false
walk_refused t u v a b cells st ka kb run stepped is =
    record { result = sym (memo_right t a b None st ka kb run); undone = λ e. is ∙ stepped.back (length t.trail) (omega arith) ∙ unbind_none t }
