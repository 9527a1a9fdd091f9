use Rattle.std.proofs.Common.{sym, ◌∙◌}
use Rattle.images.proofs.InPlace.{read_in_place}
use Rattle.images.proofs.draft.Draft.add.Goals as goal

pub put-requires : goal.put-requires
put-requires c =
    record {
      listing = c.requires.0;
      holds = c.requires.1;
      next = sym (c.follows.ensures c.requires.0 c.requires.1) ∙ c.if-follows.true;
      ranged = read_in_place c.args.line.number c.args.line.text.now _ (sym c.in_ok-item.ensures.result);
    }
