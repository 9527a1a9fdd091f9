-- Opening, going back to and cutting choice points, and a collection, keep the agreement of every level.
use Rattle.std.proofs.Common.{◌≡◌, ℕ, zero, suc, ◌+◌, ◌-◌, ◌<◌, List, [], ◌∷◌, length, get_or, drop, sym, refl, ap, ◌∙◌, subst, subst₂, arith}
use Rattle.std.proofs.lemmas.List.{length-drop, get_or-drop}
use Rattle.tables.specs.Tables.{Choice, Tables, push_choice, keep_choices}
use Rattle.terms.specs.Terms.{nil}
use Rattle.terms.specs.Renamings.{Alike}
use Rattle.terms.proofs.AlikeLaws.{alike_refl, alike_sym, alike_trans}
use Rattle.heaps.specs.Spelling.{spelled}
use Rattle.heaps.specs.Levels.{last_of, last, undo}
use Rattle.heaps.specs.LevelLaws.{HasChoice}
use Rattle.heaps.proofs.LastLaws.{newest, last_push_choice}
use Rattle.heaps.proofs.CutLaws.{undo_keep_choices}
use Rattle.heaps.proofs.ChoiceRules.{stands_push_choice, stands_keep_choices}
use Rattle.heaps.proofs.UndoRules.{retry_last, stands_last}
use Rattle.collectors.specs.Collectors.{Shows}
use Rattle.calls.specs.declared.Call.TheVariants.{Open, Retry, Last, Cut, Collect}
use Rattle.machine.specs.Machine.{Level}
use Rattle.machine.proofs.Related.{Spells, Related, no_level, alike_registers, alike_alone}
use Rattle.machine.proofs.Acted.{Acted, idle, machine}

-- A level that spells terms alike spells the machine's as well.
spells_alike : {n : ℕ} {t u : Tables} {l : Level} → Alike (spelled t) (spelled u) → Spells n t [] l nil → Spells n u [] l nil
spells_alike a s = record {
  settled = s.settled;
  beyond = s.beyond;
  below = s.below;
  alike = alike_alone (alike_trans (alike_sym a) (alike_registers s.alike));
}

length_last : (t : Tables) → HasChoice t → suc (length (last t).choices) ≡ length t.choices
length_last t some = by (newest t.choices some)
  where
    by : (c : Choice) × (cs : List Choice) × (t.choices ≡ c ∷ cs) → suc (length (last_of t.choices t).choices) ≡ length t.choices
    by n = subst (λ (ds : List Choice). suc (length (last_of ds t).choices) ≡ length ds) (sym n.2) refl

related_open : (t : Tables) (n : ℕ) (now : Level) (saved : List Level) → length t.choices < 64 → Related t [] n now nil saved → Related (push_choice t) [] n now nil (now ∷ saved)
related_open t n now saved lt r = record {
  stands = stands_push_choice t lt r.stands;
  present = spells_alike (alike_refl (spelled t)) r.present;
  older = record { points = ap suc r.older.points; levels = level };
}
  where
    level : (j : ℕ) → j < suc (length saved) → Spells n (undo (push_choice t) (suc j)) [] (get_or (now ∷ saved) j no_level) nil
    level zero lt = subst (λ (x : Tables). Spells n x [] now nil) (sym (last_push_choice t)) r.present
    level (suc j) lt = subst (λ (x : Tables). Spells n (undo x (suc j)) [] (get_or saved j no_level) nil) (sym (last_push_choice t)) (r.older.levels j (omega arith))

related_last : (t : Tables) (n : ℕ) (now l : Level) (ls : List Level) → Related t [] n now nil (l ∷ ls) → Related (last t) [] n l nil ls
related_last t n now l ls r = record {
  stands = stands_last t r.stands;
  present = r.older.levels 0 (omega arith);
  older = record {
    points = let p = r.older.points in let q = length_last t (omega arith) in omega arith;
    levels = λ j lt. r.older.levels (suc j) (omega arith);
  };
}

module _ (t : Tables) (n : ℕ) (now : Level) (saved : List Level) (r : Related t [] n now nil saved) where
  pub open_acted : (left : Tables) → length t.choices < 64 → Acted Open left (idle t) (machine n now saved)
  open_acted left lt = (refl, related_open t n now saved lt r)

  pub cut_acted : (left : Tables) (k : ℕ) → Acted (Cut k) left (idle t) (machine n now saved)
  cut_acted left k = (
    refl,
    record {
      stands = stands_keep_choices t k r.stands;
      present = spells_alike (alike_refl (spelled t)) r.present;
      older = record {
        points =
            let p = r.older.points in
            length-drop (length t.choices - k) t.choices ∙ (let e : length t.choices - (length t.choices - k) ≡ length saved - (length saved - k) = omega arith in e)
            ∙ sym (length-drop (length saved - k) saved);
        levels = level;
      };
    },
  )
    where
      level : (j : ℕ) → j < length (drop (length saved - k) saved) → Spells n (undo (keep_choices t k) (suc j)) [] (get_or (drop (length saved - k) saved) j no_level) nil
      level j lt =
          let p = r.older.points in
          let d = length-drop (length saved - k) saved in
          subst₂ (λ (x : Tables) (l : Level). Spells n x [] l nil)
          (sym (undo_keep_choices t k (suc j) r.stands.0.tops (omega arith) (omega arith)
          ∙ ap (undo t) (let e : length t.choices - k + suc j ≡ suc (length saved - k + j) = omega arith in e)))
          (sym (get_or-drop (length saved - k) saved j no_level))
          (r.older.levels (length saved - k + j) (omega arith))

  pub collect_acted : (count : ℕ) (left : Tables) → Shows count t left → Acted Collect left (idle t) (machine n now saved)
  collect_acted count left h = (
    refl,
    record {
      stands = (h.rules, h.fits);
      present = spells_alike (h.spells 0 (omega arith)) r.present;
      older = record {
        points = h.points ∙ r.older.points;
        levels = λ j lt. spells_alike (h.spells (suc j) (let p = r.older.points in omega arith)) (r.older.levels j lt);
      };
    },
  )

pub last_acted : (t : Tables) (n : ℕ) (now : Level) (saved : List Level) → Related t [] n now nil saved → (left : Tables) → HasChoice t → Acted Last left (idle t) (machine n now saved)
last_acted t n now [] r left some = absurd (let p = r.older.points in omega arith)
last_acted t n now (l ∷ ls) r left some = (refl, related_last t n now l ls r)

pub retry_acted : (t : Tables) (n : ℕ) (now : Level) (saved : List Level) → Related t [] n now nil saved → (left : Tables) → HasChoice t → Acted Retry left (idle t) (machine n now saved)
retry_acted t n now [] r left some = absurd (let p = r.older.points in omega arith)
retry_acted t n now (l ∷ ls) r left some = (
  refl,
  subst (λ (x : Tables). Related x [] n l nil (l ∷ ls)) (sym (retry_last t r.stands.0 some))
      (related_open (last t) n l ls (let p = length_last t some in let q = r.stands.1.points in omega arith) (related_last t n now l ls r)),
)
