-- What the tables of classes hold, after writes to nodes.
use Rattle.std.proofs.Common.{◌≡◌, ℕ, zero, suc, ◌+◌, ◌<◌, ◌≤◌, false, cond, eqb, ◌⊎◌, List, ◌∷◌, length, get_or, set, replicate, refl, sym, ap, ◌∙◌, ⊎_elim, arith}
use Rattle.std.proofs.lemmas.List.{get_or-set_same, get_or-set_other, length-set}
use Rattle.std.proofs.lemmas.Bool.{ne_eqb, eq-eqb, cases_eq}
use Rattle.classes.specs.Merges.{same_class}
use Rattle.classes.specs.Links.{root, link_at, rank_at, put, Linked, OnWay}
use Rattle.classes.specs.Classes.{merges}
use Rattle.classes.specs.declared.classes.Classes.{Classes}
use Rattle.classes.specs.declared.classes.Node.{Node}
use Rattle.classes.proofs.LinkLaws.{linked_of, linked_more, few}

pub roots : (n x : ℕ) → get_or (replicate n root) x root ≡ root
roots zero x = refl
roots (suc n) zero = refl
roots (suc n) (suc x) = roots n x

-- A link and a rank are written.
abbrev pub hung : List Node → ℕ → ℕ → ℕ → ℕ → List Node
hung ns c d l r =
    let below = set ns c (record { link = l; rank = rank_at ns c }) in
    set below d (record { link = link_at below d; rank = r })

pub table_linked : (s : Classes) → Linked (merges s) (link_at s.nodes) (rank_at s.nodes)
table_linked s = linked_of (merges s) (link_at s.nodes) (rank_at s.nodes) s.linked

-- There are fewer merges than cells.
pub merges_few : (s : Classes) → length (merges s) < 4096
merges_few s = few (merges s) (link_at s.nodes) (rank_at s.nodes) (table_linked s)

put_here : (f : ℕ → ℕ) (i v : ℕ) → put f i v i ≡ v
put_here f i v = ap (λ b. cond b v (f i)) (eq-eqb i i refl)

put_other : (f : ℕ → ℕ) (i v x : ℕ) → (x ≡ i → ⊥) → put f i v x ≡ f x
put_other f i v x ne = ap (λ b. cond b v (f x)) (ne_eqb x i ne)

module _ (s : Classes) (p q a b c d r : ℕ) (left : p < 4096) (right : q < 4096) (apart : same_class (merges s) p q ≡ false)
    (ra : OnWay (merges s) p a) (ta : link_at s.nodes a ≡ 0) (rb : OnWay (merges s) q b) (tb : link_at s.nodes b ≡ 0)
    (sides : ((c ≡ a) × (d ≡ b)) ⊎ ((c ≡ b) × (d ≡ a)))
    (higher : rank_at s.nodes c < r) (grown : rank_at s.nodes d ≤ r) (bound : r ≤ suc (length (merges s))) where
  pub hung_linked : Linked ((p, q) ∷ merges s) (put (link_at s.nodes) c (d + 1)) (put (rank_at s.nodes) d r)
  hung_linked =
      let link : put (link_at s.nodes) c (d + 1) c ≡ d + 1 = put_here (link_at s.nodes) c (d + 1) in
      let rank : put (rank_at s.nodes) d r d ≡ r = put_here (rank_at s.nodes) d r in
      linked_more (merges s) (link_at s.nodes) (rank_at s.nodes) (table_linked s) p q a b c d left right apart ra ta rb tb sides
      (put (link_at s.nodes) c (d + 1)) (put (rank_at s.nodes) d r) (omega (arith, link)) (put_other (link_at s.nodes) c (d + 1))
      (omega (arith, rank, higher)) (omega (arith, rank, grown)) (omega (arith, rank, bound)) (put_other (rank_at s.nodes) d r)

module _ (f : Node → ℕ) where
  abbrev at_field : List Node → ℕ → ℕ
  at_field ns x = f (get_or ns x root)

  written : (ns : List Node) (i : ℕ) (v : Node) → i < length ns → (x : ℕ) → at_field (set ns i v) x ≡ put (at_field ns) i (f v) x
  written ns i v h x = ⊎_elim same other (cases_eq x i)
    where
      same : x ≡ i → at_field (set ns i v) x ≡ put (at_field ns) i (f v) x
      same e = ap (at_field (set ns i v)) e ∙ ap f (get_or-set_same ns i v root h) ∙ sym (ap (λ b. cond b (f v) (at_field ns x)) (eq-eqb x i e))

      other : (x ≡ i → ⊥) → at_field (set ns i v) x ≡ put (at_field ns) i (f v) x
      other ne = ap f (get_or-set_other ns i x v root ne) ∙ sym (put_other (at_field ns) i (f v) x ne)

  -- a node is written, and not this field
  untold : (ns : List Node) (i : ℕ) (v : Node) → i < length ns → f v ≡ at_field ns i → (x : ℕ) → at_field (set ns i v) x ≡ at_field ns x
  untold ns i v h e x = written ns i v h x ∙ ⊎_elim same (put_other (at_field ns) i (f v) x) (cases_eq x i)
    where
      same : x ≡ i → put (at_field ns) i (f v) x ≡ at_field ns x
      same s = ap (λ b. cond b (f v) (at_field ns x)) (eq-eqb x i s) ∙ e ∙ ap (at_field ns) (sym s)

-- the fields of the nodes after a class is hung
module _ (ns : List Node) (c d l r : ℕ) (below : c < length ns) (above : d < length ns) where
  once : List Node
  once = set ns c (record { link = l; rank = rank_at ns c })

  pub hung_links : (x : ℕ) → link_at (hung ns c d l r) x ≡ put (link_at ns) c l x
  unfolding once
  hung_links x =
      let long : d < length once = omega (arith, length-set ns c (record { link = l; rank = rank_at ns c })) in
      untold (λ n. n.link) once d (record { link = link_at once d; rank = r }) long refl x ∙ written (λ n. n.link) ns c (record { link = l; rank = rank_at ns c }) below x

  pub hung_ranks : (x : ℕ) → rank_at (hung ns c d l r) x ≡ put (rank_at ns) d r x
  unfolding once
  hung_ranks x =
      let long : d < length once = omega (arith, length-set ns c (record { link = l; rank = rank_at ns c })) in
      written (λ n. n.rank) once d (record { link = link_at once d; rank = r }) long x
      ∙ ap (λ v. cond (eqb x d) r v) (untold (λ n. n.rank) ns c (record { link = l; rank = rank_at ns c }) below refl x)
