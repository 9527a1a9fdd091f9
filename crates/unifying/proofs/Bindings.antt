-- Steps of unifying: nothing is bound, or one cell more.
use Rattle.std.proofs.Common.{◌≡◌, ℕ, suc, ◌<◌, ◌≤◌, Bool, true, false, cond, ◌≢◌, List, [], ◌∷◌, ◌++◌, length, sym, refl, ap, ◌∙◌, subst, inl, ⊎_elim, arith}
use Rattle.std.proofs.lemmas.List.{length_push}
use Rattle.std.proofs.lemmas.Bool.{cases_eq, both_ways, ne_eqb, eq-eqb, lt-ltb, le-ltb}
use Rattle.cells.specs.declared.cell.Cell.{Cell}
use Rattle.cells.specs.declared.cell.Cell.TheVariants.{Reference}
use Rattle.cells.specs.Cells.{in_range}
use Rattle.tables.specs.Tables.{Tables, used}
use Rattle.marks.specs.Sets.{count_below}
use Rattle.heaps.specs.Lists.{is_in}
use Rattle.heaps.specs.Leads.{Heap, heap_of, unbound}
use Rattle.heaps.specs.Binding.{trailed, bind}
use Rattle.heaps.specs.SpellingLaws.{Bindable}
use Rattle.heaps.specs.LevelLaws.{Stands}
use Rattle.heaps.proofs.WordKinds.{false_of}
use Rattle.heaps.proofs.CountLaws.{count_at_most, count_added}
use Rattle.heaps.proofs.BindLaws.{heap_bind, used_bind, keeps_bind, now_bound}
use Rattle.heaps.proofs.BindRules.{rules_bind, fits_bind}
use Rattle.calls.specs.Unifying.{go}
use Rattle.unifying.specs.Bindings.{Noted, Stepped, Met, goes}
use Rattle.heaps.proofs.InLaws.{in_last, in_other}
use Rattle.binding.proofs.UnbindLaws.{unbind_bind}

pub stepped_none : (t : Tables) (cells : List ℕ) → Stands t → Noted t cells → Stepped t cells t cells
stepped_none t cells stands noted = record { stands = stands; keeps = λ d k. k; noted = noted; longer = omega arith; back = λ top low. refl }

module _ (t : Tables) (cells : List ℕ) (x : ℕ) (w : Cell) (stands : Stands t) (ok : Bindable t x w) (noted : Noted t cells) where
  -- a cell that is still unbound is not listed
  new : is_in x cells ≡ false
  new = false_of (is_in x cells) (λ e. both_ways (unbound (heap_of t.heap) x) (noted.bound x e).1 ok.free)

  counted : count_below (λ k. is_in k (cells ++ (x ∷ []))) 4096 ≡ suc (count_below (λ k. is_in k cells) 4096)
  counted =
      count_added (λ k. is_in k cells) (λ k. is_in k (cells ++ (x ∷ []))) x 4096 (let a = ok.in_use in let b = stands.1.cells in omega arith) new (in_last cells x)
      (λ k ne. in_other cells x k ne)

  pub noted_room : length cells < 4096
  noted_room =
      let few = noted.apart in
      let one = counted in
      let most = count_at_most (λ k. is_in k (cells ++ (x ∷ []))) 4096 in
      omega arith

  still : (k : ℕ) → k ≢ x → unbound (heap_of t.heap) k ≡ false → unbound (heap_of (bind t x w).heap) k ≡ false
  still k ne e = ap (λ (h : Heap). unbound h k) (heap_bind t x w stands.0 ok) ∙ rw (ne_eqb k x ne) e

  noted_bind : Noted (bind t x w) (cells ++ (x ∷ []))
  noted_bind =
      record {
        bound = λ k e.
            ⊎_elim
            (λ (q : k ≡ x).
            subst (λ j. (j < used (bind t x w)) × (unbound (heap_of (bind t x w).heap) j ≡ false)) (sym q)
            (let a = used_bind t x w stands.0 ok in let b = ok.in_use in omega arith, now_bound t x w stands.0 ok))
            (λ (ne : k ≢ x).
            let old = noted.bound k (sym (in_other cells x k ne) ∙ e) in
            let a = used_bind t x w stands.0 ok in
            let b = old.0 in
            (omega arith, still k ne old.1))
            (cases_eq k x);
        apart = let few = noted.apart in let one = counted in let long = length_push cells x in omega arith;
      }

  trail_longer : length t.trail ≤ length (bind t x w).trail
  trail_longer = by (trailed t.choices x)
    where
      by : (b : Bool) → length t.trail ≤ length (cond b (t.trail ++ (x ∷ [])) t.trail)
      by true = let l = length_push t.trail x in omega arith
      by false = omega arith

  pub stepped_bind : in_range w ≡ true → (u : Tables) (ds : List ℕ) → u ≡ bind t x w → ds ≡ cells ++ (x ∷ []) → Stepped t cells u ds
  stepped_bind range u ds is pushed =
      subst (λ (v : Tables). Stepped t cells v ds) (sym is)
      (subst (λ es. Stepped t cells (bind t x w) es) (sym pushed)
      (record {
        stands = (rules_bind t x w stands.0 ok, fits_bind t x w stands.0 stands.1 ok range);
        keeps = λ d k. (keeps_bind t x w stands.0 ok d k.0, k.1);
        noted = noted_bind;
        longer = trail_longer;
        back = λ top low. unbind_bind t cells top x w ok.free low;
      }))

-- What the meeting of two variables is, by their order.
module _ (t : Tables) (x y : ℕ) where
  pub meet_lower : (u : Tables) → x < y → u ≡ bind t y (Reference x) → Met t u (Reference x) (Reference y) true
  meet_lower u lt is = goes (λ ps. inl (rw (ne_eqb x y (λ e. omega arith)) (rw (lt-ltb x y lt) (ap (λ (v : Tables). go v ps) (sym is)))))

  pub meet_higher : (u : Tables) → y < x → u ≡ bind t x (Reference y) → Met t u (Reference x) (Reference y) true
  meet_higher u lt is = goes (λ ps. inl (rw (ne_eqb x y (λ e. omega arith)) (rw (le-ltb x y (omega arith)) (ap (λ (v : Tables). go v ps) (sym is)))))

  pub meet_itself : x ≡ y → Met t t (Reference x) (Reference y) true
  meet_itself e = goes (λ ps. inl (rw (eq-eqb x y e) refl))
