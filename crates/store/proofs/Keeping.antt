-- A store keeps what every state keeps: its tables stand, and an accepted call leaves it so.
use Rattle.std.proofs.Common.{◌≡◌, ℕ, Option, sym, subst, None}
use Rattle.tables.specs.declared.memory.Memory.{Memory}
use Rattle.tables.specs.Tables.{register}
use Rattle.tables.specs.Views.{tables_of}
use Rattle.heaps.specs.LevelLaws.{Stands, Keeps}
use Rattle.heaps.proofs.KeptWords.{keeps_register}
use Rattle.calls.specs.declared.Call.{Call}
use Rattle.calls.specs.Steps.{act}
use Rattle.calls.specs.Whole.{Whole}
use Rattle.calls.proofs.WholeProp.{whole_of}
use Rattle.calls.proofs.KeepCalls.{act_keeps}
use Rattle.calls.proofs.KeepLaws.{whole_tables}
use Rattle.store.specs.declared.store.Store.{Store}
use Rattle.refusing.specs.declared.half.Half.{Half}
use Rattle.refusing.specs.States.{state_of}
use Rattle.refusing.specs.Refused.{refusal_for}
use Rattle.store.specs.Called.{state}
use Rattle.store.proofs.Accepting.{accepted}

pub whole : (s : Store) → Whole (state s)
whole s = whole_of (state s) s.whole

pub stands : (s : Store) → Stands (tables_of s.memory)
stands s = whole_tables (state s) (whole s)

pub register_keeps : (s : Store) (r : ℕ) → Keeps (tables_of s.memory) (register (tables_of s.memory) r)
register_keeps s r = keeps_register (tables_of s.memory) r (stands s)

pub keeps_whole : (c : Call) (s : Store) → None ≡ refusal_for c (state s) → Whole (act c (tables_of s.memory) (state s)).1
keeps_whole c s none-hits = act_keeps c (tables_of s.memory) (state s) (whole s) (λ _. stands s) (accepted c (state s) none-hits)

pub whole_after : (c : Call) (s : Store) (m : Memory) (h : Option Half) → None ≡ refusal_for c (state s) → state_of m h ≡ (act c (tables_of s.memory) (state s)).1 → ∥ Whole (state_of m h) ∥₁
whole_after c s m h none-hits e = ∣ subst Whole (sym e) (keeps_whole c s none-hits) ∣₁
