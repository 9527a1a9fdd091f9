-- The order of copying: runs are brought whole, so they stand together; and the scan goes on until nothing is missing, so exactly
-- the reached cells are brought. So copying shows what a collector must.
use Rattle.std.proofs.Common.{◌≡◌, ℕ, zero, suc, ◌+◌, ◌-◌, ◌<◌, ◌≤◌, Bool, true, false, cond, ◌||◌, eqb, ◌⊎◌, List, [], ◌∷◌, ◌++◌, length, sym, refl, ap, ◌∙◌, subst, inl, inr, ⊎_elim, append_assoc, append-nil, arith}
use Rattle.std.proofs.lemmas.Bool.{both_ways, cases_lt, eqb-true, eqb-false, eq-eqb, or_left, or_right, or_from, or_cases}
use Rattle.tables.specs.Tables.{Tables, used}
use Rattle.heaps.specs.Lists.{is_in, Different}
use Rattle.heaps.specs.Reached.{is_reached}
use Rattle.heaps.specs.LevelLaws.{Stands}
use Rattle.heaps.proofs.SeenLaws.{in_joined}
use Rattle.collectors.specs.Placing.{numbers, place_in}
use Rattle.collectors.specs.Copying.{run_start, run_length, run, bring}
use Rattle.collectors.proofs.SlideOrder.{in_numbers, different_numbers}
use Rattle.collectors.proofs.Runs.{Run, run_of}

-- Places in a list that is put together.

pub place_left : (xs ys : List ℕ) (i : ℕ) → is_in i xs ≡ true → place_in (xs ++ ys) i ≡ place_in xs i
place_left [] ys i e = absurd (both_ways false refl e)
place_left (x ∷ xs) ys i e = by (eqb x i) refl (place_left xs ys i)
  where
    by : (b : Bool) → eqb x i ≡ b → (is_in i xs ≡ true → place_in (xs ++ ys) i ≡ place_in xs i) → cond b 0 (suc (place_in (xs ++ ys) i)) ≡ cond b 0 (suc (place_in xs i))
    by true q r = refl
    by false q r = ap suc (r (⊎_elim (λ p. absurd (both_ways (eqb x i) q p)) (λ p. p) (or_cases (eqb x i) (is_in i xs) e)))

pub place_right : (xs ys : List ℕ) (i : ℕ) → is_in i xs ≡ false → place_in (xs ++ ys) i ≡ length xs + place_in ys i
place_right [] ys i e = let z : place_in ys i ≡ 0 + place_in ys i = omega arith in z
place_right (x ∷ xs) ys i e = by (eqb x i) refl (is_in i xs) refl (place_right xs ys i)
  where
    by : (b : Bool) → eqb x i ≡ b → (c : Bool) → is_in i xs ≡ c → (is_in i xs ≡ false → place_in (xs ++ ys) i ≡ length xs + place_in ys i) → cond b 0 (suc (place_in (xs ++ ys) i)) ≡ suc (length xs) + place_in ys i
    by true q c w r = absurd (both_ways (eqb x i || is_in i xs) e (or_left (eqb x i) (is_in i xs) q))
    by false q true w r = absurd (both_ways (eqb x i || is_in i xs) e (or_right (eqb x i) (is_in i xs) w))
    by false q false w r = let a = r w in omega arith

place_number : (s m i : ℕ) → s ≤ i → i < s + m → place_in (numbers s m) i ≡ i - s
place_number s zero i le lt = absurd (omega arith)
place_number s (suc m) i le lt = by (eqb s i) refl (λ ne. place_number (suc s) m i (omega (arith, ne)) (omega arith))
  where
    by : (b : Bool) → eqb s i ≡ b → ((s ≡ i → ⊥) → place_in (numbers (suc s) m) i ≡ i - suc s) → cond b 0 (suc (place_in (numbers (suc s) m) i)) ≡ i - s
    by true q r = let a = eqb-true s i q in omega arith
    by false q r = let ne = eqb-false s i q in let a = r ne in omega (arith, ne)

in_number : (s m i : ℕ) → is_in i (numbers s m) ≡ true → (s ≤ i) × (i < s + m)
in_number s zero i e = absurd (both_ways false refl e)
in_number s (suc m) i e =
    ⊎_elim (λ p. let a = eqb-true s i p in (omega arith, omega arith)) (λ p. let r = in_number (suc s) m i p in let a = r.0 in let b = r.1 in (omega arith, omega arith))
    (or_cases (eqb s i) (is_in i (numbers (suc s) m)) e)

pub different_joined : (xs ys : List ℕ) → Different xs → Different ys → ((i : ℕ) → is_in i xs ≡ true → is_in i ys ≡ false) → Different (xs ++ ys)
different_joined [] ys d e apart = e
different_joined (x ∷ xs) ys d e apart = (
  in_joined x xs ys ∙ or_from (is_in x xs) (is_in x ys) d.0 (apart x (or_left (eqb x x) (is_in x xs) (eq-eqb x x refl))),
  different_joined xs ys d.1 e (λ i p. apart i (or_right (eqb x i) (is_in i xs) p)),
)

-- What is brought so far: different reached cells, with the runs whole and together.
pub record Brought (t : Tables) (xs : List ℕ) : Type 0 where
  pub reached : (i : ℕ) → is_in i xs ≡ true → is_reached t i ≡ true
  pub different : Different xs
  pub next : (i : ℕ) → is_in i xs ≡ true → is_reached t (suc i) ≡ true → (is_in (suc i) xs ≡ true) × (place_in xs (suc i) ≡ suc (place_in xs i))
  pub before : (i : ℕ) → is_in (suc i) xs ≡ true → is_reached t i ≡ true → is_in i xs ≡ true

pub brought_none : (t : Tables) → Brought t []
brought_none t = record {
  reached = λ i e. absurd (both_ways false refl e);
  different = tt;
  next = λ i e r. absurd (both_ways false refl e);
  before = λ i e r. absurd (both_ways false refl e);
}

-- the list goes on
abbrev pub Extends : List ℕ → List ℕ → Type 0
Extends xs ys = (zs : List ℕ) × (ys ≡ xs ++ zs)

pub extends_same : (xs : List ℕ) → Extends xs xs
extends_same xs = ([], sym (append-nil xs))

pub extends_on : (xs ys zs : List ℕ) → Extends xs ys → Extends ys zs → Extends xs zs
extends_on xs ys zs a b = (a.0 ++ b.0, b.1 ∙ ap (λ (l : List ℕ). l ++ b.0) a.1 ∙ append_assoc xs a.0 b.0)

pub extends_in : (xs ys : List ℕ) → Extends xs ys → (i : ℕ) → is_in i xs ≡ true → is_in i ys ≡ true
extends_in xs ys a i e = ap (is_in i) a.1 ∙ in_joined i xs a.0 ∙ or_left (is_in i xs) (is_in i a.0) e

module _ (t : Tables) (xs : List ℕ) (b : Brought t xs) (i s m : ℕ) (r : Run t i s m) (new : is_in i xs ≡ false) where
  -- if one cell of the run were there, all would
  forth : (k d : ℕ) → s ≤ k → k + d < s + m → is_in k xs ≡ true → is_in (k + d) xs ≡ true
  forth k zero le lt e = subst (λ x. is_in x xs ≡ true) (let z : k ≡ k + 0 = omega arith in z) e
  forth k (suc d) le lt e =
      let at = forth k d le (omega arith) e in
      subst (λ x. is_in x xs ≡ true) (let z : suc (k + d) ≡ k + suc d = omega arith in z) (b.next (k + d) at (r.all (suc (k + d)) (omega arith) (omega arith))).0

  back : (k d : ℕ) → s ≤ k → k + d < s + m → is_in (k + d) xs ≡ true → is_in k xs ≡ true
  back k zero le lt e = subst (λ x. is_in x xs ≡ true) (let z : k + 0 ≡ k = omega arith in z) e
  back k (suc d) le lt e =
      back k d le (omega arith) (b.before (k + d) (subst (λ x. is_in x xs ≡ true) (let z : k + suc d ≡ suc (k + d) = omega arith in z) e) (r.all (k + d) (omega arith) (omega arith)))

  none_there : (k : ℕ) → s ≤ k → k < s + m → is_in k xs ≡ false
  none_there k le lt = test (is_in k xs) refl
    where
      there : is_in k xs ≡ true → is_in i xs ≡ true
      there e =
          let l = r.low in let h = r.high in
          ⊎_elim
          (λ (q : k < i). subst (λ x. is_in x xs ≡ true) (let z : k + (i - k) ≡ i = omega arith in z) (forth k (i - k) le (omega arith) e))
          (λ (q : i ≤ k). back i (k - i) l (omega arith) (subst (λ x. is_in x xs ≡ true) (let z : k ≡ i + (k - i) = omega arith in z) e))
          (cases_lt k i)

      test : (c : Bool) → is_in k xs ≡ c → is_in k xs ≡ false
      test true e = absurd (both_ways (is_in i xs) new (there e))
      test false e = e

  abbrev ys : List ℕ
  ys = xs ++ numbers s m

  in_ys : (k : ℕ) → is_in k ys ≡ true → (is_in k xs ≡ true) ⊎ ((s ≤ k) × (k < s + m))
  in_ys k e = ⊎_elim inl (λ p. inr (in_number s m k p)) (or_cases (is_in k xs) (is_in k (numbers s m)) (sym (in_joined k xs (numbers s m)) ∙ e))

  left_in : (k : ℕ) → is_in k xs ≡ true → is_in k ys ≡ true
  left_in k e = in_joined k xs (numbers s m) ∙ or_left (is_in k xs) (is_in k (numbers s m)) e

  pub right_in : (k : ℕ) → s ≤ k → k < s + m → is_in k ys ≡ true
  right_in k le lt = in_joined k xs (numbers s m) ∙ or_right (is_in k xs) (is_in k (numbers s m)) (in_numbers s m k le lt)

  right_place : (k : ℕ) → s ≤ k → k < s + m → place_in ys k ≡ length xs + (k - s)
  right_place k le lt = place_right xs (numbers s m) k (none_there k le lt) ∙ ap (λ x. length xs + x) (place_number s m k le lt)

  -- no run begins right after another
  not_end : (k : ℕ) → is_reached t (suc k) ≡ true → k < s + m → suc k < s + m
  not_end k e lt =
      ⊎_elim (λ (q : suc k < s + m). q)
      (λ (q : s + m ≤ suc k). absurd (both_ways (is_reached t (s + m)) r.end (subst (λ x. is_reached t x ≡ true) (let z : suc k ≡ s + m = omega arith in z) e))) (cases_lt (suc k) (s + m))

  not_start : (k : ℕ) → is_reached t k ≡ true → s ≤ suc k → s ≤ k
  not_start k e le =
      ⊎_elim (λ (q : k < s). absurd (both_ways (is_reached t k) (r.first k (omega arith)) e)) (λ (q : s ≤ k). q) (cases_lt k s)

  pub brought_more : Brought t ys
  brought_more = record {
    reached = λ k e. ⊎_elim (λ p. b.reached k p) (λ (p : (s ≤ k) × (k < s + m)). r.all k p.0 p.1) (in_ys k e);
    different = different_joined xs (numbers s m) b.different (different_numbers s m) apart;
    next = λ k e q. ⊎_elim (λ p. after k p q) (λ (p : (s ≤ k) × (k < s + m)). among k p.0 p.1 q) (in_ys k e);
    before = λ k e q. ⊎_elim (λ p. left_in k (b.before k p q)) (λ (p : (s ≤ suc k) × (suc k < s + m)). let x = p.0 in let y = p.1 in right_in k (not_start k q x) (omega arith)) (in_ys (suc k) e);
  }
    where
      apart : (k : ℕ) → is_in k xs ≡ true → is_in k (numbers s m) ≡ false
      apart k e = test (is_in k (numbers s m)) refl
        where
          test : (c : Bool) → is_in k (numbers s m) ≡ c → is_in k (numbers s m) ≡ false
          test true q = let z = in_number s m k q in absurd (both_ways (is_in k xs) (none_there k z.0 z.1) e)
          test false q = q

      after : (k : ℕ) → is_in k xs ≡ true → is_reached t (suc k) ≡ true → (is_in (suc k) ys ≡ true) × (place_in ys (suc k) ≡ suc (place_in ys k))
      after k e q =
          let n = b.next k e q in
          (left_in (suc k) n.0, place_left xs (numbers s m) (suc k) n.0 ∙ n.1 ∙ ap suc (sym (place_left xs (numbers s m) k e)))

      among : (k : ℕ) → s ≤ k → k < s + m → is_reached t (suc k) ≡ true → (is_in (suc k) ys ≡ true) × (place_in ys (suc k) ≡ suc (place_in ys k))
      among k le lt q =
          let y = not_end k q lt in
          let a = right_place k le lt in
          let c = right_place (suc k) (omega arith) y in
          (right_in (suc k) (omega arith) y, omega arith)

-- One cell with its run.
pub record Bringing (t : Tables) (xs ys : List ℕ) : Type 0 where
  pub brought : Brought t ys
  pub extends : Extends xs ys

pub bring_one : (t : Tables) → Stands t → (xs : List ℕ) → Brought t xs → (i : ℕ) → is_reached t i ≡ true → Bringing t xs (bring t xs i) × (is_in i (bring t xs i) ≡ true)
bring_one t st xs b i e = by (is_in i xs) refl
  where
    by : (c : Bool) → is_in i xs ≡ c → Bringing t xs (cond c xs (xs ++ run t i)) × (is_in i (cond c xs (xs ++ run t i)) ≡ true)
    by true q = (record { brought = b; extends = extends_same xs }, q)
    by false q =
        let r = run_of t st i e in (
          record { brought = brought_more t xs b i (run_start t i) (run_length (used t) t (run_start t i)) r q; extends = (run t i, refl) },
          right_in t xs b i (run_start t i) (run_length (used t) t (run_start t i)) r q i r.low r.high,
        )
