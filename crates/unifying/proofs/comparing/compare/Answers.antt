use Rattle.std.proofs.Common.{◌≡◌, true, false, ◌≢◌, sym, ◌∙◌, subst, rules}
use Rattle.tables.specs.Views.{tables_of}
use Rattle.heaps.specs.LevelLaws.{Keeps}
use Rattle.classes.specs.Classes.{merges}
use Rattle.unifying.specs.Frames.{pairs}
use Rattle.unifying.proofs.WalkSteps.{structures_advanced}
use Rattle.unifying.proofs.CompareSteps.{comparing, words_compared}
use Rattle.unifying.proofs.comparing.compare.Goals as goal

pub returns-in-Some : goal.returns-in-Some
returns-in-Some c =
    let t = tables_of c.args.memory.now in
    let is = c.in-Some.ensures in
    structures_advanced comparing t c.args.left c.args.right c.in-Some.p c.in-Some.q c.requires.stands c.requires.left c.requires.right
    (subst (Keeps t) is.0 c.end_of-a.ensures.keeps) (sym c.end_of-a.ensures.end ∙ is.0) (sym c.end_of-b.ensures.end ∙ is.1) c.meet_structures.ensures

pub returns-in-None : goal.returns-in-None
returns-in-None c =
    let same : c.eq.result ≡ true → c.end_of-a.result ≡ c.end_of-b.result = search rules in
    let other : c.eq.result ≡ false → c.end_of-a.result ≢ c.end_of-b.result = search rules in
    words_compared (tables_of c.args.memory.now) (merges c.args.classes.now) (pairs c.args.frames.now) c.args.left c.args.right c.end_of-a.result c.end_of-b.result
    c.end_of-a.ensures.end c.end_of-b.ensures.end c.in-None.ensures c.eq.result same other
