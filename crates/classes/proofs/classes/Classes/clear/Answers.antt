use Rattle.classes.proofs.ClassTables.{table_linked}
use Rattle.classes.proofs.classes.Classes.clear.Goals as goal

pub blank-requires : goal.blank-requires
blank-requires c =
    let linked = table_linked c.args.self.now in
    record { joined = linked.joined; untouched = linked.untouched }
