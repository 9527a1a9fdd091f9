use Rattle.store.proofs.Keeping.{stands}
use Rattle.store.proofs.store.Store.admit.Goals as goal

pub admit-requires : goal.admit-requires
admit-requires c = stands c.args.self.now
