use Rattle.std.proofs.Common.{◌≡◌, ℕ, zero, suc, ◌-◌, ◌||◌, ◌&&◌, nat_lt, refl, ◌∙◌, arith, rules, tests}
use Rattle.std.proofs.lemmas.Grind.{common_steps}
use Rattle.heaps.specs.RuleTests.{stray_top}
use Rattle.checking.proofs.FoundLines.{found_lowest}
use Rattle.checking.proofs.top_rule.first_stray.Goals as goal

-- The test of a top, with the next older one named by its number.
as_tested : (limit : ℕ) (top : ℕ → ℕ) (p : ℕ) → (nat_lt limit (top p) || (nat_lt 0 p && nat_lt (top p) (top (p - 1)))) ≡ stray_top limit top p
as_tested limit top zero = grind (arith, common_steps)
as_tested limit top (suc p) = grind (arith, common_steps)

pub returns : goal.returns
returns g c =
    found_lowest c.find.result _ _ c.find.ensures.ran refl refl (stray_top c.args.limit g.tops)
    (λ x b q k. (
      search (rules, tests),
      λ lt.
          let h : b ≡ (nat_lt c.args.limit (g.tops x) || (nat_lt 0 x && nat_lt (g.tops x) (g.tops (x - 1)))) = search (rules, tests, c.requires.1) in
          h ∙ as_tested c.args.limit g.tops x,
    ))
