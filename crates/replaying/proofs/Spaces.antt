-- Words without spaces come back from the line that they make, and a line from its words.
use Rattle.std.proofs.Common.{◌≡◌, ℕ, suc, ◌^◌, ◌<◌, true, List, [], ◌∷◌, ◌++◌, ℤ, pos, negsuc, decimal, sym, refl, ap, ◌∙◌, arith}
use Rattle.std.specs.Fmt.{signed_decimal}
use Rattle.std.specs.List.{join_with_byte}
use Rattle.std.proofs.lemmas.List.Splits.{join_with_byte-slice_split}
use Rattle.lines.specs.Words.{Integer64}
use Rattle.lines.specs.Lines.{words_of}
use Rattle.images.proofs.Pieces.{lacks, high_lacks, split_joined, split_alone}
use Rattle.images.proofs.NumbersBack.{high_decimal}
use Rattle.replaying.specs.Texts.{spaced}

-- no space stands in any of the words
abbrev pub AllLack : List (List ℕ) → Type 0
AllLack [] = Unit {0}
AllLack (w ∷ ws) = (lacks 32 w ≡ true) × AllLack ws

pub words_spaced : (w : List ℕ) (vs : List (List ℕ)) → lacks 32 w ≡ true → AllLack vs → words_of (spaced w vs) ≡ w ∷ vs
words_spaced w [] h k = split_alone 32 w h
words_spaced w (v ∷ vs) h k = split_joined 32 w (spaced v vs) h ∙ ap (λ ws. w ∷ ws) (words_spaced v vs k.0 k.1)

joined_spaced : (w : List ℕ) (vs : List (List ℕ)) → join_with_byte 32 (w ∷ vs) ≡ spaced w vs
joined_spaced w [] = refl
joined_spaced w (v ∷ vs) = ap (λ ys. w ++ (32 ∷ ys)) (joined_spaced v vs)

pub spaced_words : (line w : List ℕ) (vs : List (List ℕ)) → words_of line ≡ w ∷ vs → line ≡ spaced w vs
spaced_words line w vs e = sym (join_with_byte-slice_split 32 line) ∙ ap (join_with_byte 32) e ∙ joined_spaced w vs

-- no space stands in the text of a number

pub lacks_decimal : (n : ℕ) → n < 2 ^ 64 → lacks 32 (decimal n) ≡ true
lacks_decimal n h = high_lacks 32 (decimal n) (omega arith) (high_decimal n h)

pub lacks_signed : (z : ℤ) → Integer64 z → lacks 32 (signed_decimal z) ≡ true
lacks_signed (pos n) h = lacks_decimal n (omega arith)
lacks_signed (negsuc n) h = lacks_decimal (suc n) (omega arith)
