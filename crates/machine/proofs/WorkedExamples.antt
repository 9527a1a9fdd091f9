-- The worked examples hold by computation.
use Rattle.std.proofs.Common.{refl}
use Rattle.marks.specs.Sets.{count_below}
use Rattle.machine.specs.Examples.{Worked, WorkedSlips}

pub worked : Worked
unfolding count_below
worked =
    record {
      minus_one = refl;
      lowest = refl;
      too_high = refl;
      functor_word = refl;
      own_argument = refl;
      arity_1_fits = refl;
      arity_2_does_not = refl;
      arity_32 = refl;
      arity_0 = refl;
      slid_two = refl;
      slid_short = refl;
      copied_five = refl;
      copied_reset = refl;
      retry_copied = refl;
      retry_slid = refl;
    }

pub worked_slips : WorkedSlips
worked_slips =
    record {
      other_slip = refl;
      older_slip = refl;
      no_structure = refl;
      slip_before_register = refl;
      register_before_count = refl;
      done_too_early = refl;
    }
