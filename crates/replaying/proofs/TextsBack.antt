-- A line is a request exactly where it is the text of that request.
use Rattle.std.proofs.Common.{◌≡◌, ℕ, ◌^◌, ◌<◌, Bool, true, false, cond, List, [], ◌∷◌, ℤ, Some, None, codes, decimal, Option, refl, ap, ◌∙◌, subst, ap₂, arith}
use Rattle.std.specs.Fmt.{signed_decimal}
use Rattle.std.specs.Option.{option_map}
use Rattle.std.specs.Str.{bytes_eq}
use Rattle.std.proofs.lemmas.Slice.Eq.{bytes_eq-Decides}
use Rattle.std.proofs.lemmas.Bool.{cond-false}
use Rattle.lines.specs.Lines.{words_of}
use Rattle.images.proofs.Pieces.{lacks}
use Rattle.replaying.specs.declared.request.Entry.{Entry}
use Rattle.replaying.specs.declared.request.Entry.TheVariants.{Note, Request as Asks, Load}
use Rattle.replaying.specs.declared.request.Request.{Request}
use Rattle.replaying.specs.declared.request.Request.TheVariants.{Var, Atom, Int, Move, Look, Arg, Same, Unify, Open, Retry, Last, Cut, Start, Put, Hole, Done, Void, Usage}
use Rattle.lines.specs.Words.{natural64, integer64}
use Rattle.replaying.specs.Entries.{is_note, bare, one_of, with_one, pair_of, int_of, or_pair, with_two, with_three, entry_in, entry_of}
use Rattle.replaying.specs.Texts.{name_of, numbers_of, line_of, spaced, Fits, RequestIsText, LoadIsText}
use Rattle.images.proofs.NumbersBack.{natural64_decimal, decimal_natural64, integer64_signed, signed_integer64}
use Rattle.replaying.proofs.Spaces.{AllLack, words_spaced, spaced_words, lacks_decimal, lacks_signed}

-- from the words to the request that they are read as

abbrev Asked : List (List ℕ) → Option Request → Type 0
Asked ws None = Unit {0}
Asked ws (Some r) = (ws ≡ name_of r ∷ numbers_of r) × Fits r

-- the words are the text of the request that is read
record Spelled (ws : List (List ℕ)) (o : Option Request) : Type 0 where
  asks : Asked ws o

abbrev Said : List (List ℕ) → Option Entry → Type 0
Said ws None = Unit {0}
Said ws (Some Note) = Unit {0}
Said ws (Some (Asks r)) = (ws ≡ name_of r ∷ numbers_of r) × Fits r
Said ws (Some (Load n)) = (ws ≡ codes "load" ∷ decimal n ∷ []) × (n < 2 ^ 64)

-- the words are the text of what is read
record Says (ws : List (List ℕ)) (e : Option Entry) : Type 0 where
  said : Said ws e

choose : {A : Type 0} (P : A → Type 0) (b : Bool) (x y : A) → (b ≡ true → P x) → P y → P (cond b x y)
choose {A} P true x y here else = here refl
choose {A} P false x y here else = else

asking : (ws : List (List ℕ)) (o : Option Request) → Spelled ws o → Says ws (option_map Asks o)
asking ws None h = record { said = tt }
asking ws (Some r) h = record { said = h.asks }

no_request : (ws : List (List ℕ)) → Spelled ws None
no_request ws = record { asks = tt }

request_spelled : (ws : List (List ℕ)) (r : Request) → ws ≡ name_of r ∷ numbers_of r → Fits r → Spelled ws (Some r)
request_spelled ws r is fits = record { asks = (is, fits) }

module _ (w : List ℕ) (vs : List (List ℕ)) where
  named : (r : Request) → vs ≡ numbers_of r → Fits r → {o : Option Request} → Spelled (w ∷ vs) o → Spelled (w ∷ vs) (cond (bytes_eq w (name_of r)) (Some r) o)
  named r same fits {o} else =
      choose (Spelled (w ∷ vs)) (bytes_eq w (name_of r)) (Some r) o
      (λ t. request_spelled (w ∷ vs) r (ap₂ (λ x xs. x ∷ xs) ((bytes_eq-Decides w (name_of r)).0 t) same) fits) else

bare_spelled : (w : List ℕ) → Spelled (w ∷ []) (bare w)
bare_spelled w =
    named w [] Open refl tt (named w [] Retry refl tt (named w [] Last refl tt (named w [] Hole refl tt (named w [] Void refl tt (named w [] Usage refl tt (no_request (w ∷ [])))))))

one_says : (w a : List ℕ) (o : Option ℕ) → natural64 a ≡ o → Says (w ∷ a ∷ []) (with_one w o)
one_says w a None is = record { said = tt }
one_says w a (Some n) is =
    let back = decimal_natural64 a n is in
    let vs = ap (λ v. v ∷ []) back.0 in
    let h = back.1 in
    choose (Says (w ∷ a ∷ [])) (bytes_eq w (codes "load")) (Some (Load n)) (option_map Asks (one_of w n))
    (λ t. record { said = (ap₂ (λ x xs. x ∷ xs) ((bytes_eq-Decides w (codes "load")).0 t) vs, h) })
    (asking (w ∷ a ∷ []) (one_of w n)
    (named w (a ∷ []) (Var n) vs h (named w (a ∷ []) (Look n) vs h (named w (a ∷ []) (Cut n) vs h (named w (a ∷ []) (Put n) vs h (named w (a ∷ []) (Done n) vs h (no_request _)))))))

module _ (w a b : List ℕ) (m : ℕ) (first : (a ≡ decimal m) × (m < 2 ^ 64)) where
  pair_spelled : (o : Option ℕ) → natural64 b ≡ o → Spelled (w ∷ a ∷ b ∷ []) (or_pair w m o)
  pair_spelled None is = no_request _
  pair_spelled (Some n) is =
      let back = decimal_natural64 b n is in
      let vs = ap₂ (λ u v. u ∷ v ∷ []) first.0 back.0 in
      let h : (m < 2 ^ 64) × (n < 2 ^ 64) = (first.1, back.1) in
      let ws = a ∷ b ∷ [] in
      named w ws (Atom m n) vs h (named w ws (Move m n) vs h (named w ws (Same m n) vs h (named w ws (Unify m n) vs h (named w ws (Start m n) vs h (no_request _)))))

  int_spelled : (o : Option ℤ) → integer64 b ≡ o → bytes_eq w (codes "int") ≡ true → Spelled (w ∷ a ∷ b ∷ []) (int_of m o)
  int_spelled None is t = no_request _
  int_spelled (Some z) is t =
      let back = signed_integer64 b z is in
      request_spelled _ (Int m z) (ap₂ (λ x xs. x ∷ xs) ((bytes_eq-Decides w (codes "int")).0 t) (ap₂ (λ u v. u ∷ v ∷ []) first.0 back.0)) (first.1, back.1)

two_spelled : (w a b : List ℕ) (o : Option ℕ) → natural64 a ≡ o → Spelled (w ∷ a ∷ b ∷ []) (with_two w o (natural64 b) (integer64 b))
two_spelled w a b None is = no_request _
two_spelled w a b (Some m) is =
    let first = decimal_natural64 a m is in
    choose (Spelled (w ∷ a ∷ b ∷ [])) (bytes_eq w (codes "int")) (int_of m (integer64 b)) (or_pair w m (natural64 b))
    (int_spelled w a b m first (integer64 b) refl) (pair_spelled w a b m first (natural64 b) refl)

three_spelled : (w a b c : List ℕ) (o p q : Option ℕ) → natural64 a ≡ o → natural64 b ≡ p → natural64 c ≡ q → Spelled (w ∷ a ∷ b ∷ c ∷ []) (with_three w o p q)
three_spelled w a b c None p q ea eb ec = no_request _
three_spelled w a b c (Some d) None q ea eb ec = no_request _
three_spelled w a b c (Some d) (Some s) None ea eb ec = no_request _
three_spelled w a b c (Some d) (Some s) (Some i) ea eb ec =
    let x = decimal_natural64 a d ea in
    let y = decimal_natural64 b s eb in
    let z = decimal_natural64 c i ec in
    let vs = ap₂ (λ t u. t ∷ u ∷ c ∷ []) x.0 y.0 ∙ ap (λ v. decimal d ∷ decimal s ∷ v ∷ []) z.0 in
    named w (a ∷ b ∷ c ∷ []) (Arg d s i) vs (x.1, y.1, z.1) (no_request _)

says : (ws : List (List ℕ)) → Says ws (entry_in ws)
says [] = record { said = tt }
says (w ∷ []) = asking _ _ (bare_spelled w)
says (w ∷ a ∷ []) = one_says w a (natural64 a) refl
says (w ∷ a ∷ b ∷ []) = asking _ _ (two_spelled w a b (natural64 a) refl)
says (w ∷ a ∷ b ∷ c ∷ []) = asking _ _ (three_spelled w a b c (natural64 a) (natural64 b) (natural64 c) refl refl refl)
says (w ∷ a ∷ b ∷ c ∷ d ∷ ds) = record { said = tt }

-- a line that is read as x, which is no note, has words that are read as x
words_read : (line : List ℕ) (x : Entry) → (Note ≡ x → ⊥) → entry_of line ≡ Some x → Said (words_of line) (Some x)
words_read line x other e = by (is_note line) e
  where
    by : (b : Bool) → cond b (Some Note) (entry_in (words_of line)) ≡ Some x → Said (words_of line) (Some x)
    by true e = absurd (other cc)
    by false e = (subst (Says (words_of line)) e (says (words_of line))).said

-- from the request to its text and back

module _ (name : List ℕ) (vs : List (List ℕ)) (x : Option Entry) where
  line_read_lem : is_note (spaced name vs) ≡ false → lacks 32 name ≡ true → AllLack vs → entry_in (name ∷ vs) ≡ x → entry_of (spaced name vs) ≡ x
  line_read_lem no_note clean-name clean e = cond-false _ _ _ no_note ∙ ap entry_in (words_spaced name vs clean-name clean) ∙ e

pair_read : (name : List ℕ) (m n : ℕ) → m < 2 ^ 64 → n < 2 ^ 64 → (r : Request) → is_note (spaced name (decimal m ∷ decimal n ∷ [])) ≡ false
    → lacks 32 name ≡ true → bytes_eq name (codes "int") ≡ false → pair_of name m n ≡ Some r → entry_of (spaced name (decimal m ∷ decimal n ∷ [])) ≡ Some (Asks r)
pair_read name m n hm hn r no_note clean no-int e =
    line_read_lem name (decimal m ∷ decimal n ∷ []) _ no_note clean (lacks_decimal m hm, (lacks_decimal n hn, tt))
    (ap (option_map Asks) (ap₂ (λ o p. with_two name o p (integer64 (decimal n))) (natural64_decimal m hm) (natural64_decimal n hn) ∙ cond-false _ _ _ no-int ∙ e))

pub line_reads : (r : Request) → Fits r → entry_of (line_of r) ≡ Some (Asks r)
line_reads (Var d) h = line_read_lem (codes "var") (decimal d ∷ []) _ refl refl (lacks_decimal d h, tt) (ap (with_one (codes "var")) (natural64_decimal d h))
line_reads (Look s) h = line_read_lem (codes "look") (decimal s ∷ []) _ refl refl (lacks_decimal s h, tt) (ap (with_one (codes "look")) (natural64_decimal s h))
line_reads (Cut k) h = line_read_lem (codes "cut") (decimal k ∷ []) _ refl refl (lacks_decimal k h, tt) (ap (with_one (codes "cut")) (natural64_decimal k h))
line_reads (Put s) h = line_read_lem (codes "put") (decimal s ∷ []) _ refl refl (lacks_decimal s h, tt) (ap (with_one (codes "put")) (natural64_decimal s h))
line_reads (Done d) h = line_read_lem (codes "done") (decimal d ∷ []) _ refl refl (lacks_decimal d h, tt) (ap (with_one (codes "done")) (natural64_decimal d h))
line_reads (Atom d n) h = pair_read (codes "atom") d n h.0 h.1 _ refl refl refl refl
line_reads (Move d s) h = pair_read (codes "move") d s h.0 h.1 _ refl refl refl refl
line_reads (Same s t) h = pair_read (codes "same") s t h.0 h.1 _ refl refl refl refl
line_reads (Unify s t) h = pair_read (codes "unify") s t h.0 h.1 _ refl refl refl refl
line_reads (Start name arity) h = pair_read (codes "start") name arity h.0 h.1 _ refl refl refl refl
line_reads (Int d z) h =
    line_read_lem (codes "int") (decimal d ∷ signed_decimal z ∷ []) _ refl refl (lacks_decimal d h.0, (lacks_signed z h.1, tt))
    (ap (option_map Asks) (ap₂ (λ o p. with_two (codes "int") o (natural64 (signed_decimal z)) p) (natural64_decimal d h.0) (integer64_signed z h.1)))
line_reads (Arg d s i) h =
    line_read_lem (codes "arg") (decimal d ∷ decimal s ∷ decimal i ∷ []) _ refl refl (lacks_decimal d h.0, (lacks_decimal s h.1, (lacks_decimal i h.2, tt)))
    (ap (option_map Asks) (ap₂ (λ o p. with_three (codes "arg") o p (natural64 (decimal i))) (natural64_decimal d h.0) (natural64_decimal s h.1)
    ∙ ap (with_three (codes "arg") (Some d) (Some s)) (natural64_decimal i h.2)))
line_reads Open h = refl
line_reads Retry h = refl
line_reads Last h = refl
line_reads Hole h = refl
line_reads Void h = refl
line_reads Usage h = refl

pub request_is_text : RequestIsText
request_is_text line r = (
  λ e.
      let p = (words_read line (Asks r) (λ z. absurd (let no : ◌≡◌ {A = ℕ} 0 1 = cc in omega arith)) e) in
      (spaced_words line (name_of r) (numbers_of r) p.0, p.1),
  λ h. ap entry_of h.0 ∙ line_reads r h.1,
)

pub load_is_text : LoadIsText
load_is_text line lines = (
  λ e.
      let p = (words_read line (Load lines) (λ z. absurd (let no : ◌≡◌ {A = ℕ} 0 1 = cc in omega arith)) e) in
      (spaced_words line (codes "load") (decimal lines ∷ []) p.0, p.1),
  λ h.
      ap entry_of h.0
      ∙ line_read_lem (codes "load") (decimal lines ∷ []) (Some (Load lines)) refl refl (lacks_decimal lines h.1, tt) (ap (with_one (codes "load")) (natural64_decimal lines h.1)),
)
