-- A slip that is not refused belongs to the half-made structure, and the next argument's cell is one of its own.
use Rattle.std.proofs.Common.{◌≡◌, ℕ, suc, ◌+◌, ◌-◌, ◌<◌, true, false, ◌&&◌, eqb, sym, ap, ◌∙◌, ap₂, arith, Option, Some, None}
use Rattle.std.proofs.lemmas.Bool.{not-false, and_parts, eqb-true, eqb-false}
use Rattle.tables.specs.Tables.{Tables, used, cell_at}
use Rattle.heaps.specs.Spelling.{arity_of}
use Rattle.calls.specs.declared.Draft.{Draft}
use Rattle.calls.specs.Refusals.{same_draft, wrong_slip}
use Rattle.calls.specs.Steps.{Half, State, draft_of, draft}
use Rattle.calls.specs.Whole.{HalfStands, Whole}
use Rattle.calls.proofs.KeepSteps.{some_stands}

pub draft_same : (a b : Draft) → same_draft a b ≡ true → a ≡ b
draft_same a b e =
    let p = and_parts (eqb a.name b.name) (eqb a.arity b.arity && eqb a.missing b.missing) e in
    let q = and_parts (eqb a.arity b.arity) (eqb a.missing b.missing) p.1 in
    let made : ℕ → ℕ → ℕ → Draft = λ n k m. record { name = n; arity = k; missing = m } in
    ap (λ n. made n a.arity a.missing) (eqb-true a.name b.name p.0)
    ∙ ap₂ (made b.name) (eqb-true a.arity b.arity q.0) (eqb-true a.missing b.missing q.1)

module _ (s : State) (slip : Draft) (h : Half) (is : s.half ≡ Some h) (right : wrong_slip (draft s) slip ≡ false) where
  abbrev t : Tables
  t = s.tables

  drafted : draft_of t h ≡ slip
  drafted =
      let said = ap (λ (o : Option Half). wrong_slip (elim o [ None ↦ None | Some k ↦ Some (draft_of t k) ]) slip) is in
      draft_same (draft_of t h) slip (not-false (same_draft (draft_of t h) slip) (sym said ∙ right))

  arity_is : arity_of (cell_at t h.at) ≡ slip.arity
  arity_is = ap (λ (d : Draft). d.arity) drafted

  missing_is : h.missing ≡ slip.missing
  missing_is = ap (λ (d : Draft). d.missing) drafted

  -- the cell of the next argument, by what the slip says
  abbrev pub place : ℕ
  place = suc h.at + (slip.arity - slip.missing)

  module _ (whole : Whole s) where
    half_stands : HalfStands t h
    half_stands = some_stands s h is whole

    pub place_inside : eqb slip.missing 0 ≡ false → place < used t
    place_inside more =
        let top = half_stands.top in
        let few = half_stands.few in
        let some_left = eqb-false slip.missing 0 more in
        omega (arith, arity_is, missing_is)
