use Rattle.std.proofs.Common.{refl}
use Rattle.heaps.proofs.ReachesLaws.{reaches_least, reaches_more, reaches_joined, reaches_frame}
use Rattle.heaps.proofs.ReachedUsed.{roots_keep, words_reach_used, reached_used}
use Rattle.heaps.proofs.ReachedDecided.{words_decided, reached_decided}
use Rattle.heaps.proofs.ReachedCount.{reached_at_most, count_of_set}
use Rattle.heaps.proofs.UndoReached.{unbound_reaches, last_reached, undo_reached}
use Rattle.heaps.proofs.reached.reached_is_decided.Goals as goal

pub returns : goal.returns
returns c =
    record {
      roots = roots_keep;
      words_used = words_reach_used;
      used = reached_used;
      words = words_decided;
      decided = reached_decided;
      least = reaches_least;
      more = reaches_more;
      joined = reaches_joined;
      frame = reaches_frame;
      unbound = unbound_reaches;
      last = last_reached;
      undo = undo_reached;
      most = reached_at_most;
      count = count_of_set;
      answer = refl;
    }
