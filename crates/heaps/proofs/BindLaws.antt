-- Binding an unbound cell is a substitution of its variable, keeps rules 1 to 3 and makes no cycle.
use Rattle.std.proofs.Common.{◌≡◌, ℕ, suc, ◌<◌, true, false, sym, refl, ap, ◌∙◌, length-set}
use Rattle.std.proofs.lemmas.Bool.{both_ways, eq-eqb}
use Rattle.cells.specs.declared.cell.Cell.{Cell}
use Rattle.tables.specs.Tables.{Tables, used}
use Rattle.terms.specs.Terms.{Term, apply, occurs, only}
use Rattle.heaps.specs.Leads.{Heap, heap_of, put, refers_to, unbound, is_functor, Acyclic}
use Rattle.heaps.specs.Spelling.{spell_by, same, spell}
use Rattle.heaps.specs.Binding.{bind}
use Rattle.heaps.specs.Rules.{WordKeeps, Rules}
use Rattle.heaps.specs.SpellingLaws.{Reads, Bindable, SpellBind}
use Rattle.heaps.proofs.Sound.{Sound, rules_sound}
use Rattle.heaps.proofs.WordKinds.{false_of, refers_eq, unbound_is, keeps_word, keeps_kinds}
use Rattle.heaps.proofs.Put.{heap_set, put_kind, put_sound}
use Rattle.heaps.proofs.SpellLaws.{reads_by, reads_only}
use Rattle.heaps.proofs.Ranks.{marked, reads_acyclic}
use Rattle.heaps.proofs.BindReads.{bind_reads, or_false_right, occurs_marked}

-- the heap k with n cells in use is h with variable x replaced by u
pub record Replaced (h k : Heap) (n x : ℕ) (u : Term) : Type 0 where
  pub sound : Sound k n
  pub acyclic : Acyclic k
  pub kinds : (m : ℕ) → is_functor (k m) ≡ is_functor (h m)
  pub spells : (d : Cell) → spell_by same k (suc n) d ≡ apply (only x u) (spell_by same h (suc n) d)

module _ (h : Heap) (n : ℕ) (sound : Sound h n) (acyclic : Acyclic h) (x : ℕ) (lt : x < n) (free : unbound h x ≡ true)
    (c : Cell) (keeps : WordKeeps h n c) (absent : occurs x (spell_by same h (suc n) c) ≡ false) where
  abbrev S : Cell → Term
  S = spell_by same h (suc n)

  abbrev L : Cell → Term
  L = spell_by marked h (suc n)

  word : is_functor c ≡ false
  word = keeps_word h n c keeps

  was_word : is_functor (h x) ≡ false
  was_word = ap is_functor (unbound_is h x free)

  -- c is not the reference to x, since x would occur in what that spells
  pub apart : refers_to x c ≡ false
  apart = false_of _ (λ e. both_ways (occurs x (S c)) absent (rw (refers_eq x c e) (rw free (eq-eqb x x refl))))

  bound_sound : Sound (put h x c) n
  bound_sound = put_sound h n x c sound lt was_word keeps

  bound_reads : Reads same (put h x c) (λ d. apply (only x (S c)) (S d))
  bound_reads = bind_reads same (λ σ t. refl) h S (reads_by h n sound acyclic same) x free c word absent apart

  marked_reads : Reads marked (put h x c) (λ d. apply (only x (marked (L c))) (L d))
  marked_reads =
      bind_reads marked (λ σ t. refl) h L (reads_by h n sound acyclic marked) x free c word
      (or_false_right _ ∙ occurs_marked h x (suc n) c ∙ absent) apart

  bound_acyclic : Acyclic (put h x c)
  bound_acyclic = reads_acyclic (put h x c) n bound_sound (λ d. apply (only x (marked (L c))) (L d)) marked_reads

  pub put_replaces : Replaced h (put h x c) n x (S c)
  put_replaces = record {
    sound = bound_sound;
    acyclic = bound_acyclic;
    kinds = λ m. put_kind h x m c (was_word ∙ sym word);
    spells = λ d. sym (reads_only (put h x c) n bound_sound bound_acyclic same (λ e. apply (only x (S c)) (S e)) bound_reads d);
  }

module _ (t : Tables) (x : ℕ) (w : Cell) (r : Rules t) (b : Bindable t x w) where
  pub heap_bind : heap_of (bind t x w).heap ≡ put (heap_of t.heap) x w
  heap_bind = heap_set t.heap x w b.in_use

  pub used_bind : used (bind t x w) ≡ used t
  used_bind = length-set t.heap x w

  pub bind_replaces : Replaced (heap_of t.heap) (heap_of (bind t x w).heap) (used t) x (spell t.heap w)
  bind_replaces = rw heap_bind (put_replaces (heap_of t.heap) (used t) (rules_sound t r) r.acyclic x b.in_use b.free w b.keeps b.absent)

  -- words as registers hold them stay so
  pub keeps_bind : (c : Cell) → WordKeeps (heap_of t.heap) (used t) c → WordKeeps (heap_of (bind t x w).heap) (used (bind t x w)) c
  keeps_bind c k = rw used_bind (keeps_kinds (heap_of t.heap) (heap_of (bind t x w).heap) (used t) bind_replaces.kinds c k)

  -- the cell is bound now
  pub now_bound : unbound (heap_of (bind t x w).heap) x ≡ false
  now_bound =
      ap (λ (k : Heap). unbound k x) heap_bind
      ∙ rw (eq-eqb x x refl) (apart (heap_of t.heap) (used t) (rules_sound t r) r.acyclic x b.in_use b.free w b.keeps b.absent)

pub spell_bind : SpellBind
spell_bind t x w r b d =
    ap (λ (n : ℕ). spell_by same (heap_of (bind t x w).heap) (suc n) d) (used_bind t x w r b) ∙ (bind_replaces t x w r b).spells d
