use Rattle.std.proofs.Common.{refl, inl, inr, arith}
use Rattle.classes.proofs.ClassTables.{table_linked, merges_few, hung_linked}
use Rattle.classes.proofs.classes.Classes.merge.Goals as goal

pub hang-requires : goal.hang-requires
hang-requires c =
    let s = c.args.self.now in
    let a = c.root-a.ensures in
    let b = c.root-b.ensures in
    let low = (table_linked s).low c.root-b.result in
    record {
      below = a.class.below;
      above = b.class.below;
      room = merges_few s;
      linked = hung_linked s _ _ _ _ _ _ _ c.requires.left c.requires.right c.requires.apart a.class a.root b.class b.root (inl (refl, refl))
          c.if-under-over.true (omega arith) (omega (arith, low));
    }

pub hang-requires-then-over-under : goal.hang-requires-then-over-under
hang-requires-then-over-under c =
    let s = c.args.self.now in
    let a = c.root-a.ensures in
    let b = c.root-b.ensures in
    let low = (table_linked s).low c.root-a.result in
    record {
      below = b.class.below;
      above = a.class.below;
      room = merges_few s;
      linked = hung_linked s _ _ _ _ _ _ _ c.requires.left c.requires.right c.requires.apart a.class a.root b.class b.root (inr (refl, refl))
          c.if-over-under.true (omega arith) (omega (arith, low));
    }

pub overflow_add-under : goal.overflow_add-under
overflow_add-under c =
    let low = (table_linked c.args.self.now).low c.root-a.result in
    let few = merges_few c.args.self.now in
    omega arith

pub hang-requires-else-over-under : goal.hang-requires-else-over-under
hang-requires-else-over-under c =
    let s = c.args.self.now in
    let a = c.root-a.ensures in
    let b = c.root-b.ensures in
    let low = (table_linked s).low c.root-a.result in
    record {
      below = b.class.below;
      above = a.class.below;
      room = merges_few s;
      linked = hung_linked s _ _ _ _ _ _ _ c.requires.left c.requires.right c.requires.apart a.class a.root b.class b.root (inr (refl, refl))
          (omega (arith, c.if-under-over.false)) (omega arith) (omega (arith, low));
    }
