-- What a line asks for, by its words: a name, and as many numbers as the name takes. Any other line is no call: none.
use Rattle.std.specs.Prelude.{ℕ, Bool, true, cond, List, [], ◌∷◌, ℤ, Some, None, codes, Option, ◌==◌}
use Rattle.std.specs.Option.{option_map}
use Rattle.std.specs.Str.{bytes_eq}
use Rattle.lines.specs.Words.{natural64, integer64}
use Rattle.lines.specs.Lines.{words_of}
use Rattle.replaying.specs.declared.request.Entry.{Entry}
use Rattle.replaying.specs.declared.request.Entry.TheVariants.{Note, Request as Asks, Load}
use Rattle.replaying.specs.declared.request.Request.{Request}
use Rattle.replaying.specs.declared.request.Request.TheVariants.{Var, Atom, Int, Move, Look, Arg, Same, Unify, Open, Retry, Last, Cut, Start, Put, Hole, Done, Void, Usage}

-- a line without bytes, or one that begins with #
abbrev pub is_note : List ℕ → Bool
is_note [] = true
is_note (c ∷ cs) = c == 35

abbrev pub bare : List ℕ → Option Request
bare w =
    cond (bytes_eq w (codes "open")) (Some Open)
    (cond (bytes_eq w (codes "retry")) (Some Retry)
    (cond (bytes_eq w (codes "last")) (Some Last)
    (cond (bytes_eq w (codes "hole")) (Some Hole)
    (cond (bytes_eq w (codes "void")) (Some Void)
    (cond (bytes_eq w (codes "usage")) (Some Usage) None)))))

abbrev pub one_of : List ℕ → ℕ → Option Request
one_of w n =
    cond (bytes_eq w (codes "var")) (Some (Var n))
    (cond (bytes_eq w (codes "look")) (Some (Look n))
    (cond (bytes_eq w (codes "cut")) (Some (Cut n))
    (cond (bytes_eq w (codes "put")) (Some (Put n))
    (cond (bytes_eq w (codes "done")) (Some (Done n)) None))))

abbrev pub with_one : List ℕ → Option ℕ → Option Entry
with_one w None = None
with_one w (Some n) = cond (bytes_eq w (codes "load")) (Some (Load n)) (option_map Asks (one_of w n))

abbrev pub pair_of : List ℕ → ℕ → ℕ → Option Request
pair_of w m n =
    cond (bytes_eq w (codes "atom")) (Some (Atom m n))
    (cond (bytes_eq w (codes "move")) (Some (Move m n))
    (cond (bytes_eq w (codes "same")) (Some (Same m n))
    (cond (bytes_eq w (codes "unify")) (Some (Unify m n))
    (cond (bytes_eq w (codes "start")) (Some (Start m n)) None))))

abbrev pub int_of : ℕ → Option ℤ → Option Request
int_of m z = option_map (λ x. Int m x) z

abbrev pub or_pair : List ℕ → ℕ → Option ℕ → Option Request
or_pair w m None = None
or_pair w m (Some n) = pair_of w m n

-- the second number of `int` may be below 0
abbrev pub with_two : List ℕ → Option ℕ → Option ℕ → Option ℤ → Option Request
with_two w None b z = None
with_two w (Some m) b z = cond (bytes_eq w (codes "int")) (int_of m z) (or_pair w m b)

abbrev pub with_three : List ℕ → Option ℕ → Option ℕ → Option ℕ → Option Request
with_three w None b c = None
with_three w (Some d) None c = None
with_three w (Some d) (Some s) None = None
with_three w (Some d) (Some s) (Some i) = cond (bytes_eq w (codes "arg")) (Some (Arg d s i)) None

abbrev pub entry_in : List (List ℕ) → Option Entry
entry_in [] = None
entry_in (w ∷ []) = option_map Asks (bare w)
entry_in (w ∷ a ∷ []) = with_one w (natural64 a)
entry_in (w ∷ a ∷ b ∷ []) = option_map Asks (with_two w (natural64 a) (natural64 b) (integer64 b))
entry_in (w ∷ a ∷ b ∷ c ∷ []) = option_map Asks (with_three w (natural64 a) (natural64 b) (natural64 c))
entry_in (w ∷ a ∷ b ∷ c ∷ d ∷ ds) = None

abbrev pub entry_of : List ℕ → Option Entry
entry_of line = cond (is_note line) (Some Note) (entry_in (words_of line))
