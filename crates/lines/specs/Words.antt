-- The words of an image line: names of parts, letters of kinds, natural numbers and integers.
use Rattle.std.specs.Prelude.{◌≡◌, ℕ, zero, suc, ◌+◌, ◌-◌, ◌*◌, ◌^◌, ◌<◌, Bool, true, false, cond, not, ◌&&◌, List, [], ◌∷◌, length, drop, ℤ, pos, negsuc, Some, None, Ok, Err, codes, Option, Result, ◌==◌, nat_le, nat_lt, slice_index}
use Rattle.std.specs.Str.{all_ascii_digits, bytes_eq}
use Rattle.lines.specs.declared.fault.WordFault.{WordFault}
use Rattle.lines.specs.declared.fault.WordFault.TheVariants as fault
use Rattle.lines.specs.declared.word.Kind.{Kind}
use Rattle.lines.specs.declared.word.Kind.TheVariants as kind
use Rattle.lines.specs.declared.word.Part.{Part}
use Rattle.lines.specs.declared.word.Part.TheVariants as part
use Rattle.lines.specs.declared.word.Token.{Token}
use Rattle.lines.specs.declared.word.Token.TheVariants as token

-- the number that digits stand for, after the number n so far
abbrev pub read_on : ℕ → List ℕ → ℕ
read_on n [] = n
read_on n (c ∷ cs) = read_on (10 * n + (c - 48)) cs

-- some bytes, of which the first is no 0 where there are more
abbrev pub no_leading_zero : List ℕ → Bool
no_leading_zero [] = false
no_leading_zero (c ∷ []) = true
no_leading_zero (c ∷ d ∷ ds) = not (c == 48)

-- a natural number: decimal digits without a leading zero
abbrev pub natural : List ℕ → Option ℕ
natural w = cond (no_leading_zero w && all_ascii_digits w) (Some (read_on 0 w)) None

-- numbers are read up to 64 bits
abbrev pub below64 : Option ℕ → Option ℕ
below64 None = None
below64 (Some n) = cond (nat_lt n (2 ^ 64)) (Some n) None

abbrev pub natural64 : List ℕ → Option ℕ
natural64 w = below64 (natural w)

-- an integer below 0 has a minus, byte 45, before its size; there is no minus before 0
abbrev pub negative : Option ℕ → Option ℤ
negative None = None
negative (Some zero) = None
negative (Some (suc n)) = cond (nat_lt n (2 ^ 63)) (Some (negsuc n)) None

abbrev pub positive : Option ℕ → Option ℤ
positive None = None
positive (Some n) = cond (nat_lt n (2 ^ 63)) (Some (pos n)) None

abbrev pub integer64 : List ℕ → Option ℤ
integer64 w = cond (slice_index w 0 == 45) (negative (natural64 (drop 1 w))) (positive (natural64 w))

-- the integers of 64 bits
abbrev pub Integer64 : ℤ → Type 0
Integer64 (pos n) = n < 2 ^ 63
Integer64 (negsuc n) = n < 2 ^ 63

-- the kind of a letter: r, s, f, a, i and n
abbrev pub kind_of : ℕ → Option Kind
kind_of b =
    cond (b == 114) (Some kind.Reference)
    (cond (b == 115) (Some kind.Pointer)
    (cond (b == 102) (Some kind.Functor)
    (cond (b == 97) (Some kind.Atom)
    (cond (b == 105) (Some kind.Integer)
    (cond (b == 110) (Some kind.Number) None)))))

abbrev pub letter : List ℕ → Option Kind
letter [] = None
letter (b ∷ []) = kind_of b
letter (b ∷ c ∷ cs) = None

abbrev pub part_name : Part → List ℕ
part_name part.Heap = codes "heap"
part_name part.Register = codes "reg"
part_name part.Trail = codes "trail"
part_name part.HeapTop = codes "htop"
part_name part.TrailTop = codes "ttop"
part_name part.Saved = codes "saved"

-- the part of a name
abbrev pub part_named : List ℕ → Option Part
part_named w =
    cond (bytes_eq w (part_name part.Heap)) (Some part.Heap)
    (cond (bytes_eq w (part_name part.Register)) (Some part.Register)
    (cond (bytes_eq w (part_name part.Trail)) (Some part.Trail)
    (cond (bytes_eq w (part_name part.HeapTop)) (Some part.HeapTop)
    (cond (bytes_eq w (part_name part.TrailTop)) (Some part.TrailTop)
    (cond (bytes_eq w (part_name part.Saved)) (Some part.Saved) None)))))

-- What the words give that a line's token borrows: a word that begins below byte 58 can only be a number, another of one
-- byte only a letter, and any other only a name.
abbrev pub bytes_of : Token → List ℕ
bytes_of (token.Name s) = s.now
bytes_of (token.Letter s) = s.now
bytes_of (token.Number s) = s.now

abbrev pub part_in : Token → Option Part
part_in (token.Name s) = part_named s.now
part_in (token.Letter s) = None
part_in (token.Number s) = None

abbrev pub kind_in : Token → Option Kind
kind_in (token.Name s) = None
kind_in (token.Letter s) = letter s.now
kind_in (token.Number s) = None

abbrev pub natural_in : Token → Option ℕ
natural_in (token.Name s) = None
natural_in (token.Letter s) = None
natural_in (token.Number s) = natural64 s.now

abbrev pub integer_in : Token → Option ℤ
integer_in (token.Name s) = None
integer_in (token.Letter s) = None
integer_in (token.Number s) = integer64 s.now

-- the token of a word reads as the word does
pub record Reads (t : Token) (w : List ℕ) : Type 0 where
  pub bytes : bytes_of t ≡ w
  pub part : part_in t ≡ part_named w
  pub kind : kind_in t ≡ letter w
  pub natural : natural_in t ≡ natural64 w
  pub integer : integer_in t ≡ integer64 w

-- a word without meaning at its place is a fault of its line's layout
abbrev pub or_bad : {A : Type 0} → ℕ → Option A → Result A WordFault
or_bad n None = Err (fault.BadLayout n)
or_bad n (Some x) = Ok x

-- a word has one to ten bytes
abbrev pub word_shaped : List ℕ → Bool
word_shaped w = nat_lt 0 (length w) && nat_le (length w) 10
