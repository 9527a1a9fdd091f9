use Rattle.std.proofs.Common.{◌≡◌, sym, ◌∙◌, ap₂, ◌∷◌, eqb, rules, tests}
use Rattle.std.specs.List.{position}
use Rattle.std.proofs.lemmas.Iterator.{YieldsList-from_slice}
use Rattle.std.proofs.lemmas.Iterator.Search.{position_from_yields_List}
use Rattle.lines.proofs.Splits.{found, not_found, split_none, split_at, cut_parts}
use Rattle.lines.specs.Lines.{split}
use Rattle.lines.proofs.line.cut.Goals as goal

pub returns-in_err-n : goal.returns-in_err-n
returns-in_err-n c =
    let xs = c.args.bytes.now in
    let b = c.args.end in
    let at : c.position.result ≡ position (λ c. eqb c b) xs =
    position_from_yields_List (λ d. eqb d b) _ _ c.position.result c.position.ensures.ran (YieldsList-from_slice _ c.iter.ensures.rest) (λ x t q k. search (rules, tests)) in
    let none = not_found b xs (sym at ∙ c.in_err-n.was) in
    rw c.from_residual.ensures record { parts = none; pieces = split_none b xs none }

pub returns : goal.returns
returns c =
    let xs = c.args.bytes.now in
    let b = c.args.end in
    let n = c.in_ok-n.n in
    let at : c.position.result ≡ position (λ c. eqb c b) xs =
    position_from_yields_List (λ d. eqb d b) _ _ c.position.result c.position.ensures.ran (YieldsList-from_slice _ c.iter.ensures.rest) (λ x t q k. search (rules, tests)) in
    let is = found b xs n (sym at ∙ c.in_ok-n.was) in
    let parts = cut_parts b xs n is.0 in
    record {
      parts = parts;
      pieces = split_at b xs is.1 ∙ ap₂ (λ v ys. v ∷ split b ys) (sym parts.0) (sym parts.1);
    }
