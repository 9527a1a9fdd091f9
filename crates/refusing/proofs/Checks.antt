-- Three checks that are joined by `and` refuse with the first that hits.
use Rattle.std.proofs.Common.{◌≡◌, Bool, true, false, cond, [], ◌∷◌, Ok, Err, Result, refl}
use Rattle.std.specs.Result.{result_and}
use Rattle.cells.specs.declared.refusal.Refusal.{Refusal}
use Rattle.calls.specs.Refusals.{first_hit}
use Rattle.std.specs.Result.{result_err}

abbrev check : Refusal → Bool → Result Unit Refusal
check why hit = cond hit (Err why) (Ok tt)

pub first_of_three : (u v w : Refusal) (a b c : Bool) → result_err (result_and (result_and (check u a) (check v b)) (check w c)) ≡ first_hit ((u, a) ∷ (v, b) ∷ (w, c) ∷ [])
first_of_three u v w true b c = refl
first_of_three u v w false true c = refl
first_of_three u v w false false true = refl
first_of_three u v w false false false = refl
