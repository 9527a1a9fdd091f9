-- What a request answers at a bench, and what it leaves there: the state of the store, and the slip that is held.
use Rattle.std.specs.Prelude.{Bool, true, false, cond, Ok, Err, Result, Option, Some, None}
use Rattle.std.specs.declared.option.Option as std
use Rattle.tables.specs.Tables.{Tables}
use Rattle.images.specs.declared.fault.LoadFault.{LoadFault}
use Rattle.std.specs.Option.{is_some}
use Rattle.calls.specs.declared.Draft.{Draft}
use Rattle.calls.specs.declared.Call.{Call}
use Rattle.calls.specs.declared.Call.TheVariants as call
use Rattle.calls.specs.declared.Answer.{Answer}
use Rattle.calls.specs.declared.Answer.TheVariants.{Nothing, Refused, Sees, Tells, Hands, Counts}
use Rattle.calls.specs.Steps.{State, step}
use Rattle.store.specs.declared.store.Slip.{Slip}
use Rattle.store.specs.declared.store.Store.{Store}
use Rattle.store.specs.Called.{state}
use Rattle.replaying.specs.declared.request.Request.{Request}
use Rattle.replaying.specs.declared.request.Request.TheVariants.{Var, Atom, Int, Move, Look, Arg, Same, Unify, Open, Retry, Last, Cut, Start, Put, Hole, Done, Void, Usage}
use Rattle.replaying.specs.declared.reply.Reply.{Reply}
use Rattle.replaying.specs.declared.reply.Reply.TheVariants.{Answered, NoSlip}
use Rattle.replaying.specs.Slips.{slip_of}

pub record BenchState : Type 0 where
  pub state : State
  pub slip : Option Draft

abbrev pub bench_of : Store → std.Option Slip → BenchState
bench_of store slip = record { state = state store; slip = slip_of slip }

abbrev pub with_slip : Option Draft → (Draft → Call) → Option Call
with_slip None f = None
with_slip (Some slip) f = Some (f slip)

-- the call that a request is where such a slip is held; put, hole, done and void are none without a slip
abbrev pub call_of : Option Draft → Request → Option Call
call_of slip (Var d) = Some (call.Var d)
call_of slip (Atom d n) = Some (call.Atom d n)
call_of slip (Int d z) = Some (call.Int d z)
call_of slip (Move d s) = Some (call.Move d s)
call_of slip (Look s) = Some (call.Look s)
call_of slip (Arg d s i) = Some (call.Arg d s i)
call_of slip (Same s t) = Some (call.Same s t)
call_of slip (Unify s t) = Some (call.Unify s t)
call_of slip Open = Some call.Open
call_of slip Retry = Some call.Retry
call_of slip Last = Some call.Last
call_of slip (Cut k) = Some (call.Cut k)
call_of slip (Start name arity) = Some (call.Start name arity)
call_of slip (Put s) = with_slip slip (λ x. call.Put x s)
call_of slip Hole = with_slip slip (λ x. call.Hole x)
call_of slip (Done d) = with_slip slip (λ x. call.Done x d)
call_of slip Void = with_slip slip (λ x. call.Void x)
call_of slip Usage = Some call.Usage

-- done and void spend the slip
abbrev pub spends : Request → Bool
spends (Var d) = false
spends (Atom d n) = false
spends (Int d z) = false
spends (Move d s) = false
spends (Look s) = false
spends (Arg d s i) = false
spends (Same s t) = false
spends (Unify s t) = false
spends Open = false
spends Retry = false
spends Last = false
spends (Cut k) = false
spends (Start name arity) = false
spends (Put s) = false
spends Hole = false
spends (Done d) = true
spends Void = true
spends Usage = false

-- the slip that is held after an answer: a refusal leaves it, and start, put and hole hand one out
abbrev pub slip_after : Request → Option Draft → Answer → Option Draft
slip_after r slip Nothing = cond (spends r) None slip
slip_after r slip (Refused why) = slip
slip_after r slip (Sees x) = slip
slip_after r slip (Tells v) = slip
slip_after r slip (Hands x) = Some x
slip_after r slip (Counts u) = slip

abbrev pub answered_by : Request → Option Draft → Answer × State → Reply × BenchState
answered_by r slip x = (Answered x.0, record { state = x.1; slip = slip_after r slip x.0 })

abbrev pub performed_by : Request → BenchState → Option Call → Reply × BenchState
performed_by r b None = (NoSlip, b)
performed_by r b (Some c) = answered_by r b.slip (step c b.state.tables b.state)

abbrev pub performed : Request → BenchState → Reply × BenchState
performed r b = performed_by r b (call_of b.slip r)

-- An image that is loaded replaces the state of the store and takes the slip away, and whether one was held is told;
-- a fault leaves both.
abbrev pub reloaded : Result Tables LoadFault → BenchState → Result Bool LoadFault × BenchState
reloaded (Ok t) b = (Ok (is_some b.slip), record { state = record { tables = t; half = None }; slip = None })
reloaded (Err fault) b = (Err fault, b)
