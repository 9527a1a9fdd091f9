-- The fault of tables: there is none exactly where the rules hold, and otherwise it is the lowest broken rule
-- with its lowest line at fault, and nothing else is.
use Rattle.std.proofs.Common.{◌≡◌, ℕ, suc, ◌<◌, ◌≤◌, List, [], ◌∷◌, get_or, Some, None, Option, sym, refl, ap, ◌∙◌, subst, inl, inr, arith}
use Rattle.std.proofs.lemmas.Bool.{cases_eq, cases_order}
use Rattle.tables.specs.Tables.{Tables}
use Rattle.heaps.specs.declared.rule.Rule.{Rule}
use Rattle.heaps.specs.declared.rule.Rule.TheVariants.{References, Pointers, Arguments, Registers, Trail, Tops, Cycles, Levels}
use Rattle.heaps.specs.declared.rule.Fault.{Fault}
use Rattle.heaps.specs.Lists.{Each}
use Rattle.heaps.specs.Rules.{Rules}
use Rattle.heaps.specs.RuleTests.{parts_of, or_else, lowest_line, fault_at, first_fault, all_rules, fault, rule_number}
use Rattle.heaps.specs.RuleTestLaws.{Holds, InEights, Faultless, AtFault, Lowest, RuleDecided, FaultNone, FaultNamed}
use Rattle.heaps.proofs.RuleTestsLowest.{LeastLine, parts_ascend, faultless_not, lowest_line_lem}
use Rattle.heaps.proofs.RuleTestsCells.{references_decided, pointers_decided, arguments_decided, registers_decided}
use Rattle.heaps.proofs.RuleTestsTrail.{trail_decided}
use Rattle.heaps.proofs.RuleTestsTops.{tops_decided}
use Rattle.heaps.proofs.RuleTestsCycles.{cycles_decided}
use Rattle.heaps.proofs.RuleTestsLevels.{levels_decided}

pub rule_decided : RuleDecided
rule_decided t eights References = references_decided t
rule_decided t eights Pointers = pointers_decided t
rule_decided t eights Arguments = arguments_decided t
rule_decided t eights Registers = registers_decided t eights
rule_decided t eights Trail = trail_decided t
rule_decided t eights Tops = tops_decided t
rule_decided t eights Cycles = cycles_decided t
rule_decided t eights Levels = levels_decided t

-- The rules by their numbers.

numbered : (r : Rule) → get_or (References ∷ all_rules) (rule_number r) References ≡ r
numbered References = refl
numbered Pointers = refl
numbered Arguments = refl
numbered Registers = refl
numbered Trail = refl
numbered Tops = refl
numbered Cycles = refl
numbered Levels = refl

same_number : (r q : Rule) → rule_number r ≡ rule_number q → r ≡ q
same_number r q e = sym (numbered r) ∙ ap (λ (n : ℕ). get_or (References ∷ all_rules) n References) e ∙ numbered q

number_from : (r : Rule) → 1 ≤ rule_number r
number_from References = omega arith
number_from Pointers = omega arith
number_from Arguments = omega arith
number_from Registers = omega arith
number_from Trail = omega arith
number_from Tops = omega arith
number_from Cycles = omega arith
number_from Levels = omega arith

each_rule : (P : Rule → Type 0) → Each P all_rules → (r : Rule) → P r
each_rule P h References = h.0
each_rule P h Pointers = h.1.0
each_rule P h Arguments = h.1.1.0
each_rule P h Registers = h.1.1.1.0
each_rule P h Trail = h.1.1.1.1.0
each_rule P h Tops = h.1.1.1.1.1.0
each_rule P h Cycles = h.1.1.1.1.1.1.0
each_rule P h Levels = h.1.1.1.1.1.1.1.0

module _ (t : Tables) where
  holds_rules : ((r : Rule) → Holds t r) → Rules t
  holds_rules f =
      record {
        references = f References;
        pointers = f Pointers;
        arguments = f Arguments;
        registers = f Registers;
        trail = f Trail;
        tops = f Tops;
        acyclic = f Cycles;
        levels = f Levels;
      }

  rules_hold : Rules t → (r : Rule) → Holds t r
  rules_hold k References = k.references
  rules_hold k Pointers = k.pointers
  rules_hold k Arguments = k.arguments
  rules_hold k Registers = k.registers
  rules_hold k Trail = k.trail
  rules_hold k Tops = k.tops
  rules_hold k Cycles = k.acyclic
  rules_hold k Levels = k.levels

  -- The first broken rule of those numbered from k on.

  abbrev Numbered : ℕ → List Rule → Type 0
  Numbered k [] = Unit {0}
  Numbered k (r ∷ rs) = (rule_number r ≡ k) × Numbered (suc k) rs

  abbrev First : ℕ → List Rule → Option Fault → Type 0
  First k rs None = Each (λ r. Faultless (parts_of t r)) rs
  First k rs (Some f) =
      LeastLine (parts_of t f.rule) (Some f.line)
      × (k ≤ rule_number f.rule)
      × ((r : Rule) → k ≤ rule_number r → rule_number r < rule_number f.rule → Faultless (parts_of t r))

  first_fault_lem : (k : ℕ) (rs : List Rule) → Numbered k rs → First k rs (first_fault t rs)
  first_fault_lem k [] n = tt
  first_fault_lem k (r ∷ rs) n =
      by (lowest_line (parts_of t r)) (lowest_line_lem 0 (parts_of t r) (parts_ascend t r)) (first_fault t rs) (first_fault_lem (suc k) rs n.1)
    where
      by : (o : Option ℕ) → LeastLine (parts_of t r) o → (x : Option Fault) → First (suc k) rs x → First k (r ∷ rs) (or_else (fault_at r o) x)
      by None f None g = (f, g)
      by None f (Some x) g = (
        g.0,
        (let b = g.1 in omega arith),
        λ q a b. elim (cases_eq (rule_number r) (rule_number q)) [
          | inl e ↦ subst (λ (z : Rule). Faultless (parts_of t z)) (same_number r q e) f
          | inr e ↦ g.2 q (let c = n.0 in omega arith) b
        ],
      )
      by (Some l) f x g = (f, (let c = n.0 in omega arith), λ q a b. absurd (let c = n.0 in omega arith))

  fault_first : First 1 all_rules (fault t)
  unfolding fault
  fault_first = first_fault_lem 1 all_rules (refl, (refl, (refl, (refl, (refl, (refl, (refl, (refl, tt))))))))

module _ (t : Tables) (eights : InEights t) where
  faultless_rules : ((r : Rule) → Faultless (parts_of t r)) → Rules t
  faultless_rules f = holds_rules t (λ r. (rule_decided t eights r).1 (f r))

  rules_faultless : Rules t → (r : Rule) → Faultless (parts_of t r)
  rules_faultless k r = (rule_decided t eights r).0 (rules_hold t k r)

  none_rules : fault t ≡ None → Rules t
  none_rules e = faultless_rules (each_rule (λ r. Faultless (parts_of t r)) (subst (First t 1 all_rules) e (fault_first t)))

  rules_none : Rules t → fault t ≡ None
  rules_none k = by (fault t) (fault_first t)
    where
      by : (o : Option Fault) → First t 1 all_rules o → o ≡ None
      by None f = refl
      by (Some x) f = absurd (faultless_not (parts_of t x.rule) x.line f.0.0 (rules_faultless k x.rule))

  first_lowest : (f : Fault) → First t 1 all_rules (Some f) → Lowest t f
  first_lowest f g =
      record {
        broken = λ h. faultless_not (parts_of t f.rule) f.line g.0.0 ((rule_decided t eights f.rule).0 h);
        before = λ r lt. (rule_decided t eights r).1 (g.2 r (number_from r) lt);
        line = g.0.0;
        lower = g.0.1;
      }

  same_rule : (f g : Fault) → Lowest t f → Lowest t g → f.rule ≡ g.rule
  same_rule f g a b =
      elim (cases_order (rule_number f.rule) (rule_number g.rule)) [
        | inl q ↦ same_number f.rule g.rule q
        | inr (inl q) ↦ absurd (a.broken (b.before f.rule q))
        | inr (inr q) ↦ absurd (b.broken (a.before g.rule q))
      ]

  lowest_only : (f g : Fault) → Lowest t f → Lowest t g → f ≡ g
  lowest_only f g a b =
      let e = same_rule f g a b in
      let x = b.lower f.line (subst (λ (r : Rule). AtFault (parts_of t r) f.line) e a.line) in
      let y = a.lower g.line (subst (λ (r : Rule). AtFault (parts_of t r) g.line) (sym e) b.line) in
      let l : f.line ≡ g.line = omega arith in
      λ i. record { rule = e i; line = l i }

  named_lowest : (f : Fault) → fault t ≡ Some f → Lowest t f
  named_lowest f e = first_lowest f (subst (First t 1 all_rules) e (fault_first t))

  lowest_named : (f : Fault) → Lowest t f → fault t ≡ Some f
  lowest_named f l = by (fault t) refl
    where
      by : (o : Option Fault) → fault t ≡ o → fault t ≡ Some f
      by None e = absurd (l.broken (rules_hold t (none_rules e) f.rule))
      by (Some g) e = e ∙ ap Some (lowest_only g f (named_lowest g e) l)

pub fault_none : FaultNone
fault_none t eights = (none_rules t eights, rules_none t eights)

pub fault_named : FaultNamed
fault_named t eights f = (named_lowest t eights f, lowest_named t eights f)
