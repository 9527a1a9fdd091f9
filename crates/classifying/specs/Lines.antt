-- The lines that list echoes: offset, depth and amplitude, with single spaces between them.
use Rattle.std.specs.Prelude.{ℕ, ◌+◌, ◌-◌, ◌*◌, Bool, false, cond, ◌&&◌, List, [], ◌∷◌, Some, None, Option, ◌==◌, nat_le}
use Rattle.classifying.specs.declared.echo.Echo.{Echo}

abbrev pub is_digit : ℕ → Bool
is_digit c = nat_le 48 c && nat_le c 57

abbrev pub starts_digit : List ℕ → Bool
starts_digit [] = false
starts_digit (c ∷ cs) = is_digit c

-- the number that the digits at the front spell, after the number n so far, and the bytes after those digits
abbrev pub digits_on : ℕ → List ℕ → ℕ × List ℕ
digits_on n [] = (n, [])
digits_on n (c ∷ cs) = cond (is_digit c) (digits_on (10 * n + (c - 48)) cs) (n, c ∷ cs)

-- a number has a digit or more, and is at most 9999
abbrev pub number : List ℕ → Option (ℕ × List ℕ)
number s = cond (starts_digit s && nat_le (digits_on 0 s).0 9999) (Some (digits_on 0 s)) None

abbrev pub and_then : {A B : Type 0} → Option A → (A → Option B) → Option B
and_then None f = None
and_then (Some a) f = f a

-- a number and the bytes after it, where a space comes next
abbrev pub past_space : ℕ → List ℕ → Option (ℕ × List ℕ)
past_space n [] = None
past_space n (c ∷ cs) = cond (c == 32) (Some (n, cs)) None

abbrev pub spaced : List ℕ → Option (ℕ × List ℕ)
spaced s = and_then (number s) (λ p. past_space p.0 p.1)

-- nothing may follow the third number, and the echo lies inside the wall
abbrev pub made_of : ℕ → ℕ → ℕ → List ℕ → Option Echo
made_of offset depth amplitude [] = cond (nat_le depth 100) (Some (record { offset = offset; depth = depth; amplitude = amplitude })) None
made_of offset depth amplitude (c ∷ cs) = None

abbrev pub echo_in : List ℕ → Option Echo
echo_in s = and_then (spaced s) (λ a. and_then (spaced a.1) (λ b. and_then (number b.1) (λ c. made_of a.0 b.0 c.0 c.1)))
