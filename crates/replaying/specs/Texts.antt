-- The text of a request: its name and its numbers, with one space between.
use Rattle.std.specs.Prelude.{◌≡◌, ℕ, ◌^◌, ◌<◌, ◌↔◌, List, [], ◌∷◌, ◌++◌, Some, codes, decimal}
use Rattle.std.specs.Fmt.{signed_decimal}
use Rattle.lines.specs.Words.{Integer64}
use Rattle.replaying.specs.declared.request.Request.{Request}
use Rattle.replaying.specs.declared.request.Request.TheVariants.{Var, Atom, Int, Move, Look, Arg, Same, Unify, Open, Retry, Last, Cut, Start, Put, Hole, Done, Void, Usage}
use Rattle.replaying.specs.declared.request.Entry.TheVariants.{Request as Asks, Load}
use Rattle.replaying.specs.Entries.{entry_of}

-- words with one space between
abbrev pub spaced : List ℕ → List (List ℕ) → List ℕ
spaced w [] = w
spaced w (v ∷ vs) = w ++ (32 ∷ spaced v vs)

abbrev pub name_of : Request → List ℕ
name_of (Var d) = codes "var"
name_of (Atom d n) = codes "atom"
name_of (Int d z) = codes "int"
name_of (Move d s) = codes "move"
name_of (Look s) = codes "look"
name_of (Arg d s i) = codes "arg"
name_of (Same s t) = codes "same"
name_of (Unify s t) = codes "unify"
name_of Open = codes "open"
name_of Retry = codes "retry"
name_of Last = codes "last"
name_of (Cut k) = codes "cut"
name_of (Start name arity) = codes "start"
name_of (Put s) = codes "put"
name_of Hole = codes "hole"
name_of (Done d) = codes "done"
name_of Void = codes "void"
name_of Usage = codes "usage"

abbrev pub numbers_of : Request → List (List ℕ)
numbers_of (Var d) = decimal d ∷ []
numbers_of (Atom d n) = decimal d ∷ decimal n ∷ []
numbers_of (Int d z) = decimal d ∷ signed_decimal z ∷ []
numbers_of (Move d s) = decimal d ∷ decimal s ∷ []
numbers_of (Look s) = decimal s ∷ []
numbers_of (Arg d s i) = decimal d ∷ decimal s ∷ decimal i ∷ []
numbers_of (Same s t) = decimal s ∷ decimal t ∷ []
numbers_of (Unify s t) = decimal s ∷ decimal t ∷ []
numbers_of Open = []
numbers_of Retry = []
numbers_of Last = []
numbers_of (Cut k) = decimal k ∷ []
numbers_of (Start name arity) = decimal name ∷ decimal arity ∷ []
numbers_of (Put s) = decimal s ∷ []
numbers_of Hole = []
numbers_of (Done d) = decimal d ∷ []
numbers_of Void = []
numbers_of Usage = []

abbrev pub line_of : Request → List ℕ
line_of r = spaced (name_of r) (numbers_of r)

abbrev pub load_line : ℕ → List ℕ
load_line lines = spaced (codes "load") (decimal lines ∷ [])

-- the numbers have 64 bits
abbrev pub Fits : Request → Type 0
Fits (Var d) = d < 2 ^ 64
Fits (Atom d n) = (d < 2 ^ 64) × (n < 2 ^ 64)
Fits (Int d z) = (d < 2 ^ 64) × Integer64 z
Fits (Move d s) = (d < 2 ^ 64) × (s < 2 ^ 64)
Fits (Look s) = s < 2 ^ 64
Fits (Arg d s i) = (d < 2 ^ 64) × (s < 2 ^ 64) × (i < 2 ^ 64)
Fits (Same s t) = (s < 2 ^ 64) × (t < 2 ^ 64)
Fits (Unify s t) = (s < 2 ^ 64) × (t < 2 ^ 64)
Fits Open = Unit {0}
Fits Retry = Unit {0}
Fits Last = Unit {0}
Fits (Cut k) = k < 2 ^ 64
Fits (Start name arity) = (name < 2 ^ 64) × (arity < 2 ^ 64)
Fits (Put s) = s < 2 ^ 64
Fits Hole = Unit {0}
Fits (Done d) = d < 2 ^ 64
Fits Void = Unit {0}
Fits Usage = Unit {0}

-- A line is a request exactly where it is the text of that request, whose numbers have 64 bits.
abbrev pub RequestIsText : Type 0
RequestIsText = (line : List ℕ) (r : Request) → (entry_of line ≡ Some (Asks r)) ↔ ((line ≡ line_of r) × Fits r)

-- A line announces an image exactly where it is the text of that.
abbrev pub LoadIsText : Type 0
LoadIsText = (line : List ℕ) (lines : ℕ) → (entry_of line ≡ Some (Load lines)) ↔ ((line ≡ load_line lines) × (lines < 2 ^ 64))
