-- Tables that stand agree with the machine that a loaded image gives: at each level, variable c is the unbound cell c.
use Rattle.std.proofs.Common.{◌≡◌, ℕ, zero, suc, ◌<◌, ◌≤◌, List, [], ◌∷◌, length, get_or, drop, sym, refl, ap, subst, arith}
use Rattle.std.proofs.lemmas.List.{length-take}
use Rattle.tables.specs.Tables.{Choice, Tables, used}
use Rattle.terms.specs.Terms.{nil}
use Rattle.terms.specs.Renamings.{Alike}
use Rattle.terms.proofs.TermLaws.{apply_var}
use Rattle.terms.proofs.AlikeLaws.{alike_refl}
use Rattle.heaps.specs.Spelling.{spelled}
use Rattle.heaps.specs.Levels.{seen_from, last_of, last, undo}
use Rattle.heaps.specs.LevelLaws.{Stands}
use Rattle.heaps.proofs.UnbindLaws.{length_unbind_all}
use Rattle.heaps.proofs.UndoRules.{stands_undo}
use Rattle.machine.specs.Machine.{Level, level_of, levels, loaded}
use Rattle.machine.specs.Runs.{begin}
use Rattle.machine.proofs.Below.{Below, below_more}
use Rattle.machine.proofs.SpellBelow.{spelled_below}
use Rattle.machine.proofs.Related.{Spells, Relates, pair, shown, no_level}

spells_loaded : (n : ℕ) (t : Tables) → Stands t → used t ≤ n → Spells n t [] (level_of t) nil
spells_loaded n t s le = record {
  settled = λ x. refl;
  beyond = λ x more. refl;
  below = subst (Below n) (sym (apply_var (pair (spelled t) nil))) (below_more (used t) n le (spelled t) (spelled_below t s.0), tt);
  alike = subst (Alike (shown t [])) (sym (apply_var (pair (spelled t) nil))) (alike_refl (shown t []));
}

used_last : (t : Tables) → used (last t) ≤ used t
used_last t = by t.choices
  where
    by : (cs : List Choice) → used (last_of cs t) ≤ used t
    by [] = omega arith
    by (c ∷ cs) = let a = length-take c.heap_top (seen_from c t.heap t.trail) in let b = length_unbind_all t.heap (drop c.trail_top t.trail) in omega arith

used_undo : (t : Tables) (k : ℕ) → used (undo t k) ≤ used t
used_undo t zero = omega arith
used_undo t (suc k) = let a = used_undo (last t) k in let b = used_last t in omega arith

length_levels : (cs : List Choice) (t : Tables) → length cs ≡ length (levels cs t)
length_levels [] t = refl
length_levels (c ∷ cs) t = ap suc (length_levels cs (last t))

level_at : (cs : List Choice) (t : Tables) (j : ℕ) → j < length (levels cs t) → get_or (levels cs t) j no_level ≡ level_of (undo t (suc j))
level_at [] t j lt = absurd (omega arith)
level_at (c ∷ cs) t zero lt = refl
level_at (c ∷ cs) t (suc j) lt = level_at cs (last t) j (omega arith)

pub loaded_relates : (t : Tables) → Stands t → Relates (begin t) (loaded t)
loaded_relates t s = record {
  stands = s;
  present = spells_loaded (used t) t s (omega arith);
  older = record {
    points = length_levels t.choices t;
    levels = λ j lt. subst (λ (l : Level). Spells (used t) (undo t (suc j)) [] l nil) (sym (level_at t.choices t j lt))
        (spells_loaded (used t) (undo t (suc j)) (stands_undo t (suc j) s) (used_undo t (suc j)));
  };
}
