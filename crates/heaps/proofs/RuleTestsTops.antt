-- Rule 6: the tests of heap tops and trail tops decide it.
use Rattle.std.proofs.Common.{◌≡◌, ℕ, zero, suc, ◌-◌, ◌<◌, ◌≤◌, false, ltb, ◌↔◌, List, [], ◌∷◌, length, get_or, subst, subst₂, arith}
use Rattle.std.proofs.lemmas.Bool.{ltb-false, le-ltb, or_parts, or_from}
use Rattle.tables.specs.Tables.{Choice, Tables, used, no_choice}
use Rattle.heaps.specs.declared.rule.Rule.TheVariants.{Tops}
use Rattle.heaps.specs.Rules.{TopsFall}
use Rattle.heaps.specs.RuleTests.{stray_top, parts_of}
use Rattle.heaps.specs.RuleTestLaws.{Faultless}

-- tops of one kind, from the newest choice point on
abbrev Falls : (Choice → ℕ) → ℕ → List Choice → Type 0
Falls g limit [] = Unit {0}
Falls g limit (c ∷ cs) = (g c ≤ limit) × Falls g (g c) cs

apart : (a b : ℕ) (cs : List Choice) → TopsFall a b cs → Falls (λ c. c.heap_top) a cs × Falls (λ c. c.trail_top) b cs
apart a b [] k = (tt, tt)
apart a b (c ∷ cs) k = let r = apart c.heap_top c.trail_top cs k.2 in ((k.0, r.0), (k.1, r.1))

together : (a b : ℕ) (cs : List Choice) → Falls (λ c. c.heap_top) a cs → Falls (λ c. c.trail_top) b cs → TopsFall a b cs
together a b [] k m = tt
together a b (c ∷ cs) k m = (k.0, m.0, together c.heap_top c.trail_top cs k.1 m.1)

module _ (g : Choice → ℕ) where
  -- the top at place k, from the newest on
  abbrev top_of : List Choice → ℕ → ℕ
  top_of cs k = g (get_or cs k no_choice)

  falls_limit : (limit : ℕ) (cs : List Choice) → Falls g limit cs → (k : ℕ) → k < length cs → top_of cs k ≤ limit
  falls_limit limit [] f k lt = absurd (omega arith)
  falls_limit limit (c ∷ cs) f zero lt = f.0
  falls_limit limit (c ∷ cs) f (suc k) lt = let r = falls_limit (g c) cs f.1 k (omega arith) in let q = f.0 in omega arith

  falls_next : (limit : ℕ) (cs : List Choice) → Falls g limit cs → (k : ℕ) → suc k < length cs → top_of cs (suc k) ≤ top_of cs k
  falls_next limit [] f k lt = absurd (omega arith)
  falls_next limit (c ∷ cs) f zero lt = falls_limit (g c) cs f.1 0 (omega arith)
  falls_next limit (c ∷ cs) f (suc k) lt = falls_next (g c) cs f.1 k (omega arith)

  below_first : (c : Choice) (cs : List Choice) → ((k : ℕ) → suc k < suc (length cs) → top_of (c ∷ cs) (suc k) ≤ top_of (c ∷ cs) k)
      → (k : ℕ) → k < length cs → top_of cs k ≤ g c
  below_first c cs f zero lt = f 0 (omega arith)
  below_first c cs f (suc k) lt = let r = below_first c cs f k (omega arith) in let q = f (suc k) (omega arith) in omega arith

  to_falls : (limit : ℕ) (cs : List Choice) → ((k : ℕ) → k < length cs → top_of cs k ≤ limit)
      → ((k : ℕ) → suc k < length cs → top_of cs (suc k) ≤ top_of cs k) → Falls g limit cs
  to_falls limit [] f n = tt
  to_falls limit (c ∷ cs) f n = (f 0 (omega arith), to_falls (g c) cs (below_first c cs n) (λ k lt. n (suc k) (omega arith)))

  -- the same, from the oldest on
  module _ (limit : ℕ) (cs : List Choice) where
    abbrev from_oldest : ℕ → ℕ
    from_oldest p = top_of cs (length cs - suc p)

    no_stray_top : Falls g limit cs → (p : ℕ) → p < length cs → stray_top limit from_oldest p ≡ false
    no_stray_top f zero lt = le-ltb limit (from_oldest 0) (falls_limit limit cs f (length cs - 1) (omega arith))
    no_stray_top f (suc p) lt =
        let e : suc (length cs - suc (suc p)) ≡ length cs - suc p = omega arith in
        or_from (ltb limit (from_oldest (suc p))) (ltb (from_oldest (suc p)) (from_oldest p))
        (le-ltb limit (from_oldest (suc p)) (falls_limit limit cs f (length cs - suc (suc p)) (omega arith)))
        (le-ltb (from_oldest (suc p)) (from_oldest p)
        (subst (λ (k : ℕ). top_of cs k ≤ from_oldest (suc p)) e (falls_next limit cs f (length cs - suc (suc p)) (omega arith))))

    in_limit : (p : ℕ) → stray_top limit from_oldest p ≡ false → from_oldest p ≤ limit
    in_limit zero e = ltb-false limit (from_oldest 0) e
    in_limit (suc p) e = ltb-false limit (from_oldest (suc p)) (or_parts (ltb limit (from_oldest (suc p))) (ltb (from_oldest (suc p)) (from_oldest p)) e).0

    no_fall : (p : ℕ) → stray_top limit from_oldest (suc p) ≡ false → from_oldest p ≤ from_oldest (suc p)
    no_fall p e = ltb-false (from_oldest (suc p)) (from_oldest p) (or_parts (ltb limit (from_oldest (suc p))) (ltb (from_oldest (suc p)) (from_oldest p)) e).1

    stray_none_falls : ((p : ℕ) → p < length cs → stray_top limit from_oldest p ≡ false) → Falls g limit cs
    stray_none_falls f =
        to_falls limit cs
        (λ k lt.
        let e : length cs - suc (length cs - suc k) ≡ k = omega arith in
        subst (λ (q : ℕ). top_of cs q ≤ limit) e (in_limit (length cs - suc k) (f (length cs - suc k) (omega arith))))
        (λ k lt.
        let a : length cs - suc (length cs - suc (suc k)) ≡ suc k = omega arith in
        let b : length cs - suc (suc (length cs - suc (suc k))) ≡ k = omega arith in
        subst₂ (λ (x y : ℕ). top_of cs x ≤ top_of cs y) a b
        (no_fall (length cs - suc (suc k)) (f (suc (length cs - suc (suc k))) (omega arith))))

module _ (t : Tables) where
  pub tops_decided : TopsFall (used t) (length t.trail) t.choices ↔ Faultless (parts_of t Tops)
  tops_decided = (
    λ k.
        let r = apart (used t) (length t.trail) t.choices k in (
          no_stray_top (λ c. c.heap_top) (used t) t.choices r.0,
          (no_stray_top (λ c. c.trail_top) (length t.trail) t.choices r.1, tt),
        ),
    λ f.
        together (used t) (length t.trail) t.choices
        (stray_none_falls (λ c. c.heap_top) (used t) t.choices f.0)
        (stray_none_falls (λ c. c.trail_top) (length t.trail) t.choices f.1.0),
  )
