use Rattle.std.proofs.Common.{◌≡◌, true, false, ◌≢◌, refl, ap, ◌∙◌, rules}
use Rattle.cells.specs.declared.cell.Cell.{Cell}
use Rattle.tables.specs.Views.{tables_of}
use Rattle.calls.specs.Unifying.{meet}
use Rattle.unifying.specs.Works.{bound_in}
use Rattle.unifying.proofs.Bindings.{stepped_none}
use Rattle.unifying.proofs.Meets.{met_bound, meet_word, word_meet, constants_met}
use Rattle.unifying.proofs.meeting.meet_ends.Goals as goal

pub returns-in_default-b : goal.returns-in_default-b
returns-in_default-b c =
    let t = tables_of c.args.memory.now in
    let e = c.bind_to.ensures in
    record {
      met =
          met_bound t (tables_of c.bind_to.new.memory) c.args.a c.args.b c.bind_to.result
          (λ ps. ap (λ (a : Cell). meet t a c.args.b ps) c.in-Reference.is ∙ meet_word t c.in-Reference.x c.args.b c.requires.right c.in_default-b.not-Reference ps ∙ e.next ps);
      stepped = e.stepped;
      kept = e.kept;
    }

pub returns-in-Reference-b-2 : goal.returns-in-Reference-b-2
returns-in-Reference-b-2 c =
    let t = tables_of c.args.memory.now in
    let e = c.bind_to-in-Reference-b-2.ensures in
    record {
      met =
          met_bound t (tables_of c.bind_to-in-Reference-b-2.new.memory) c.args.a c.args.b c.bind_to-in-Reference-b-2.result
          (λ ps. ap (λ (b : Cell). meet t c.args.a b ps) c.in-Reference-b-2.is ∙ word_meet t c.args.a c.in-Reference-b-2.y c.requires.left c.in_default.not-Reference ps ∙ e.next ps);
      stepped = e.stepped;
      kept = e.kept;
    }

pub returns-in_default-b-2 : goal.returns-in_default-b-2
returns-in_default-b-2 c =
    let t = tables_of c.args.memory.now in
    let same : c.eq.result ≡ true → c.args.a ≡ c.args.b = search rules in
    let other : c.eq.result ≡ false → c.args.a ≢ c.args.b = search rules in
    record {
      met = constants_met t c.args.a c.args.b c.eq.result c.requires.left c.requires.right c.in_default.not-Reference c.in_default-b-2.not-Reference c.requires.apart same other;
      stepped = stepped_none t (bound_in c.args.work.now) c.requires.stands c.requires.noted;
      kept = (refl, refl);
    }
